-- Values and types of the value list.
use Rattle.std.proofs.Common.{Bool, List, None, Option, Some, [], ap, append-nil, arith, bytes_eq, false, if◌then◌else◌, length, refl, slice_get, slice_set, subst, suc, sym, true, zero, ℕ, ◌++◌, ◌+◌, ◌∙◌, ◌∷◌, ◌≡◌}
use Rattle.std.proofs.lemmas.Bool.{and_parts, false≢true}
use Rattle.mono_list.proofs.Cases.{some_is, some_none, split}
use Rattle.mono_syntax.specs.CastExpr.{Args, CastExprs, more_args, more_exprs, no_args, no_exprs}
use Rattle.mono_syntax.specs.CastExprView.{cast_exprs_list}
use Rattle.mono_syntax.specs.Ty.{Ty, Tys, more_tys, no_tys}
use Rattle.mono_syntax.specs.declared.cast.CastScript.{CastScript}
use Rattle.mono_syntax.specs.declared.cast.NamedType.{NamedType}
use Rattle.mono_syntax.specs.declared.leaf.Kind.{Kind}
use Rattle.mono_syntax.specs.declared.leaf.Kind.TheVariants as kinds
use Rattle.mono_syntax.specs.declared.value.Val.{Val}
use Rattle.mono_tree.proofs.TypeLaws.{bytes_eq-same, precise_refl, precise_trans, static_same}
use Rattle.mono_tree.specs.CastScripts.{values_of}
use Rattle.mono_tree.specs.Precision.{precise, precise_all}
use Rattle.mono_tree.specs.Sites.{IsSite, IsSiteTo}
use Rattle.mono_tree.specs.Static.{is_static}
use Rattle.mono_tree.specs.TypedPrograms.{AreNamed, ArgumentUses, DynArguments, HaveArgumentTypes, HaveStaticTypes, Scope, SiteWhere, type_of_name}
use Rattle.cast_machine.proofs.Fitting.{has_lower}
use Rattle.cast_machine.proofs.Heap.{lookup-update, lookup-update_other}
use Rattle.cast_machine.specs.Calls.{arg_items, bind, count_of, take_args, unbound}
use Rattle.cast_machine.specs.Heap.{Heap}
use Rattle.cast_machine.specs.HeapTyping.{AreTyped, IsAsPrecise, IsTyped}
use Rattle.cast_machine.specs.Maps.{lookup, update}
use Rattle.cast_machine.specs.Rows.{evals, has}
use Rattle.cast_machine.specs.Typing.{AreNamesTyped}
use Rattle.cast_machine.specs.WorkTyping.{AreAllPrecise, IsWellTypedWork, push_all}
use Rattle.cast_machine.specs.declared.data.Work.{Work}

-- names
store_there : (p : CastScript) (h : Heap) (env : List (List ℕ × Option Val)) (names : List NamedType) (x : List ℕ) (T : Ty) (v : Val) → AreNamesTyped p h env names → type_of_name names x ≡ Some T → (y : List ℕ) (U : Ty) → type_of_name names y ≡ Some U → (b : Bool) → bytes_eq x y ≡ b → (o : Option Val) × (lookup (update env x (Some v)) y ≡ Some o)
store_there p h env names x T v ok t y U u true e =
    let old = ok.there x T t in
    (Some v, subst (λ k. lookup (update env x (Some v)) k ≡ Some (Some v)) (bytes_eq-same x y e) (lookup-update env x (Some v) old.0 old.1))
store_there p h env names x T v ok t y U u false e =
    let old = ok.there y U u in (old.0, lookup-update_other env x y (Some v) e ∙ old.1)

store_typed : (p : CastScript) (h : Heap) (env : List (List ℕ × Option Val)) (names : List NamedType) (x : List ℕ) (T : Ty) (v : Val) → AreNamesTyped p h env names → type_of_name names x ≡ Some T → IsTyped p h v T → (y : List ℕ) (U : Ty) (u : Val) → type_of_name names y ≡ Some U → lookup (update env x (Some v)) y ≡ Some (Some u) → (b : Bool) → bytes_eq x y ≡ b → IsTyped p h u U
store_typed p h env names x T v ok t has y U u d e true i =
    let same = bytes_eq-same x y i in
    let old = ok.there x T t in
    let now : lookup (update env x (Some v)) y ≡ Some (Some v) = subst (λ k. lookup (update env x (Some v)) k ≡ Some (Some v)) same (lookup-update env x (Some v) old.0 old.1) in
    let vu : v ≡ u = some_is (some_is (sym now ∙ e)) in
    let tu : T ≡ U = some_is (sym t ∙ subst (λ k. type_of_name names k ≡ Some U) (sym same) d) in
    subst (λ k. IsTyped p h k U) vu (subst (λ k. IsTyped p h v k) tu has)
store_typed p h env names x T v ok t has y U u d e false i = ok.typed y U u d (sym (lookup-update_other env x y (Some v) i) ∙ e)

pub env_store : (p : CastScript) (h : Heap) (env : List (List ℕ × Option Val)) (names : List NamedType) (x : List ℕ) (T : Ty) (v : Val) → AreNamesTyped p h env names → type_of_name names x ≡ Some T → IsTyped p h v T → AreNamesTyped p h (update env x (Some v)) names
env_store p h env names x T v ok t has = record {
  there = λ y U u. store_there p h env names x T v ok t y U u (bytes_eq x y) refl;
  typed = λ y U u d e. store_typed p h env names x T v ok t has y U u d e (bytes_eq x y) refl;
}

pub unbound_there : {A : Type 0} (names : List NamedType) (x : List ℕ) (T : Ty) → type_of_name names x ≡ Some T → lookup (unbound {A = A} names) x ≡ Some None
unbound_there [] x T = λ e. absurd cc
unbound_there {A = A} (b ∷ names) x T =
    split (bytes_eq b.name x) (λ t. (if t then Some b.ty else type_of_name names x) ≡ Some T → (if t then Some None else lookup (unbound {A = A} names) x) ≡ Some None)
    (λ t e. refl)
    (λ f e. unbound_there {A = A} names x T e)

pub unbound_env : (p : CastScript) (h : Heap) (names : List NamedType) → AreNamesTyped p h (unbound names) names
unbound_env p h names = record {
  there = λ x T e. (None, unbound_there names x T e);
  typed = λ x T v e d. let z : Some None ≡ Some (Some v) = sym (unbound_there names x T e) ∙ d in absurd cc;
}

pub bind_ok : (p : CastScript) (h : Heap) (names : List NamedType) (xs : List (List ℕ)) (vs : List Val) (ts : List Ty) (ms ps : Tys) (env : List (List ℕ × Option Val)) → AreNamed names xs ps → precise_all ms ps ≡ true → AreAllPrecise ts ms → AreTyped p h vs ts → AreNamesTyped p h env names → AreNamesTyped p h (bind xs vs env) names
bind_ok p h names [] vs ts ms ps env po le al vok ok = ok
bind_ok p h names (x ∷ xs) [] ts ms ps env po le al vok ok = ok
bind_ok p h names (x ∷ xs) (v ∷ vs) (A ∷ ts) (more_tys M ms) (more_tys P ps) env po le al vok ok =
    let e = and_parts (precise M P) (precise_all ms ps) le in
    bind_ok p h names xs vs ts ms ps (update env x (Some v)) po.1 e.1 al.1 vok.1
    (env_store p h env names x P v ok po.0 (has_lower p h v A P vok.0 (precise_trans A M P al.0 e.0)))
bind_ok p h names (x ∷ xs) (v ∷ vs) [] ms ps env po le al vok ok = absurd vok
bind_ok p h names (x ∷ xs) (v ∷ vs) (A ∷ ts) no_tys ps env po le al vok ok = absurd al
bind_ok p h names (x ∷ xs) (v ∷ vs) (A ∷ ts) (more_tys M ms) no_tys env po le al vok ok = absurd po

-- the arguments on the value list
pub push_values : List Val → List Val → List Val
push_values [] vs = vs
push_values (a ∷ args) vs = push_values args (a ∷ vs)

pub record Split (p : CastScript) (h : Heap) (vs : List Val) (ts rest : List Ty) : Type 0 where
  pub args : List Val
  pub below : List Val
  pub is : vs ≡ push_values args below
  pub args_ok : AreTyped p h args ts
  pub below_ok : AreTyped p h below rest

split_next : (p : CastScript) (h : Heap) (vs : List Val) (A : Ty) (ts rest : List Ty) (args below : List Val) → vs ≡ push_values args below → AreTyped p h args ts → AreTyped p h below (A ∷ rest) → Split p h vs (A ∷ ts) rest
unfolding push_values
split_next p h vs A ts rest args [] e i j = absurd j
split_next p h vs A ts rest args (v ∷ below) e i j = record { args = v ∷ args; below = below; is = e; args_ok = (j.0, i); below_ok = j.1 }

pub split_values : (p : CastScript) (h : Heap) (vs : List Val) (ts rest : List Ty) → AreTyped p h vs (push_all ts rest) → Split p h vs ts rest
unfolding push_values
split_values p h vs [] rest i = record { args = []; below = vs; is = refl; args_ok = tt; below_ok = i }
split_values p h vs (A ∷ ts) rest i = let x = split_values p h vs ts (A ∷ rest) i in split_next p h vs A ts rest x.args x.below x.is x.args_ok x.below_ok

take_push : (args vs acc : List Val) (m : ℕ) → take_args (length args + m) (push_values args vs) acc ≡ take_args m vs (args ++ acc)
unfolding push_values
take_push [] vs acc m = let e : 0 + m ≡ m = omega arith in ap (λ k. take_args k vs acc) e
take_push (a ∷ args) vs acc m =
    let e : length (a ∷ args) + m ≡ length args + suc m = omega arith in
    ap (λ k. take_args k (push_values args (a ∷ vs)) acc) e ∙ take_push args (a ∷ vs) acc (suc m)

pub same_length : (p : CastScript) (h : Heap) (vs : List Val) (ts : List Ty) → AreTyped p h vs ts → length vs ≡ length ts
same_length p h [] [] i = refl
same_length p h (v ∷ vs) (T ∷ ts) i = ap suc (same_length p h vs ts i.1)
same_length p h vs ts i = absurd i

pub take_split : (p : CastScript) (h : Heap) (vs : List Val) (ts rest : List Ty) (x : Split p h vs ts rest) (n : ℕ) → length ts ≡ n → take_args n vs [] ≡ Some (x.args, x.below)
take_split p h vs ts rest x n e =
    let l = same_length p h x.args ts x.args_ok in
    let k : n ≡ length x.args + 0 = omega arith in
    ap (λ u. take_args n u []) x.is ∙ ap (λ j. take_args j (push_values x.args x.below) []) k ∙ take_push x.args x.below [] 0 ∙ ap (λ u. Some (u, x.below)) (append-nil x.args)

pub evals_ok : (p : CastScript) (s : Scope) (a : Option Ty) (es : CastExprs) (ts us : List Ty) (last : Work) (items : List Work) → HaveStaticTypes p s es ts → IsWellTypedWork p s a (last ∷ items) (push_all ts us) → IsWellTypedWork p s a ((evals (cast_exprs_list es) ++ last ∷ []) ++ items) us
evals_ok p s a no_exprs ts us last items e i = subst (λ k. IsWellTypedWork p s a (last ∷ items) (push_all k us)) e i
evals_ok p s a (more_exprs e es) ts us last items t i =
    (t.0, t.2, evals_ok p s a es t.1 (t.0 ∷ us) last items t.3 (subst (λ k. IsWellTypedWork p s a (last ∷ items) (push_all k us)) t.4 i))

pub evals_args : (p : CastScript) (s : Scope) (a : Option Ty) (args : Args) (ts us : List Ty) (last : Work) (items : List Work) → HaveArgumentTypes p s args ts → IsWellTypedWork p s a (last ∷ items) (push_all ts us) → IsWellTypedWork p s a ((evals (values_of args) ++ last ∷ []) ++ items) us
evals_args p s a no_args ts us last items e i = subst (λ k. IsWellTypedWork p s a (last ∷ items) (push_all k us)) e i
evals_args p s a (more_args k e rest) ts us last items t i =
    (t.0, t.2, evals_args p s a rest t.1 (t.0 ∷ us) last items t.3 (subst (λ k. IsWellTypedWork p s a (last ∷ items) (push_all k us)) t.4 i))

pub count_types : (p : CastScript) (s : Scope) (es : CastExprs) (ts : List Ty) → HaveStaticTypes p s es ts → length ts ≡ length (cast_exprs_list es)
count_types p s no_exprs ts e = ap length e
count_types p s (more_exprs e es) ts t = ap length t.4 ∙ ap suc (count_types p s es t.1 t.3)

-- a value at a place
pub value_at : (p : CastScript) (h : Heap) (vs : List Val) (ts : List Ty) (j : ℕ) (A : Ty) → AreTyped p h vs ts → slice_get ts j ≡ Some A → (v : Val) × (slice_get vs j ≡ Some v) × IsTyped p h v A
value_at p h [] [] j A i e = absurd cc
value_at p h (v ∷ vs) (T ∷ ts) zero A i e = (v, refl, subst (λ U. IsTyped p h v U) (some_is e) i.0)
value_at p h (v ∷ vs) (T ∷ ts) (suc j) A i e = value_at p h vs ts j A i.1 e
value_at p h [] (T ∷ ts) j A i e = absurd i
value_at p h (v ∷ vs) [] j A i e = absurd i

pub values_set : (p : CastScript) (h : Heap) (vs : List Val) (ts : List Ty) (j : ℕ) (u : Val) (T : Ty) → AreTyped p h vs ts → IsTyped p h u T → AreTyped p h (slice_set vs j u) (slice_set ts j T)
values_set p h [] [] j u T i has = i
values_set p h (v ∷ vs) (A ∷ ts) zero u T i has = (has, i.1)
values_set p h (v ∷ vs) (A ∷ ts) (suc j) u T i has = (i.0, values_set p h vs ts j u T i.1 has)
values_set p h [] (A ∷ ts) j u T i has = absurd i
values_set p h (v ∷ vs) [] j u T i has = absurd i

pub values_retype : (p : CastScript) (h : Heap) (vs : List Val) (ts : List Ty) (j : ℕ) (u : Val) (T : Ty) → AreTyped p h vs ts → slice_get vs j ≡ Some u → IsTyped p h u T → AreTyped p h vs (slice_set ts j T)
values_retype p h [] [] j u T i e has = i
values_retype p h (v ∷ vs) (A ∷ ts) zero u T i e has = (subst (λ k. IsTyped p h k T) (sym (some_is e)) has, i.1)
values_retype p h (v ∷ vs) (A ∷ ts) (suc j) u T i e has = (i.0, values_retype p h vs ts j u T i.1 e has)
values_retype p h [] (A ∷ ts) j u T i e has = absurd i
values_retype p h (v ∷ vs) [] j u T i e has = absurd i

set_push : (args L : List Ty) (j : ℕ) (T : Ty) → slice_set (push_all args L) (length args + j) T ≡ push_all args (slice_set L j T)
set_push [] L j T = let e : 0 + j ≡ j = omega arith in ap (λ k. slice_set L k T) e
set_push (A ∷ args) L j T =
    let e : length (A ∷ args) + j ≡ length args + suc j = omega arith in
    ap (λ k. slice_set (push_all args (A ∷ L)) k T) e ∙ set_push args (A ∷ L) (suc j) T

get_push : (args L : List Ty) (j : ℕ) → slice_get (push_all args L) (length args + j) ≡ slice_get L j
get_push [] L j = let e : 0 + j ≡ j = omega arith in ap (slice_get L) e
get_push (A ∷ args) L j =
    let e : length (A ∷ args) + j ≡ length args + suc j = omega arith in
    ap (slice_get (push_all args (A ∷ L))) e ∙ get_push args (A ∷ L) (suc j)

-- the fits of a call's arguments
pub ArgsOk : CastScript → List (Option ℕ) → List Ty → Tys → Type 0
ArgsOk p [] [] no_tys = Unit {0}
ArgsOk p (Some k ∷ ks) (A ∷ ts) (more_tys M ms) = IsSite p k kinds.Argument × ArgsOk p ks ts ms
ArgsOk p (None ∷ ks) (A ∷ ts) (more_tys M ms) = IsAsPrecise A M × ArgsOk p ks ts ms
ArgsOk p ks ts ms = ⊥

args_count : (p : CastScript) (ks : List (Option ℕ)) (ts : List Ty) (ms : Tys) → ArgsOk p ks ts ms → length ts ≡ count_of ms
unfolding ArgsOk
args_count p [] [] no_tys i = refl
args_count p (Some k ∷ ks) (A ∷ ts) (more_tys M ms) i = ap suc (args_count p ks ts ms i.1)
args_count p (None ∷ ks) (A ∷ ts) (more_tys M ms) i = ap suc (args_count p ks ts ms i.1)
args_count p ks ts ms i = absurd i

pub site_of : {p : CastScript} {k : ℕ} {kind : Kind} {t : Ty} → IsSiteTo p k kind t → IsSite p k kind
site_of i = record { site = i.site; at = i.at; of_kind = i.of_kind }

argument_site : (p : CastScript) (k : Option ℕ) (ks : List (Option ℕ)) (A M P : Ty) (ts : List Ty) (ms : Tys) → IsAsPrecise A P → IsAsPrecise M P → (t : Bool) → is_static P ≡ t → SiteWhere p k kinds.Argument P t → ArgsOk p ks ts ms → ArgsOk p (k ∷ ks) (A ∷ ts) (more_tys M ms)
unfolding ArgsOk
argument_site p None ks A M P ts ms le low true e i rest = (subst (λ U. IsAsPrecise A U) (sym (static_same M P low e)) le, rest)
argument_site p (Some k) ks A M P ts ms le low true e i rest = some_none _ i
argument_site p None ks A M P ts ms le low false e i rest = absurd i
argument_site p (Some k) ks A M P ts ms le low false e i rest = (site_of i, rest)

pub sites_args : (p : CastScript) (ks : List (Option ℕ)) (ts : List Ty) (ms ps : Tys) → ArgumentUses p ks ts ps → precise_all ms ps ≡ true → ArgsOk p ks ts ms
unfolding ArgsOk
sites_args p [] [] no_tys no_tys i e = tt
sites_args p (k ∷ ks) (A ∷ ts) (more_tys M ms) (more_tys P ps) i e =
    let x = and_parts (precise M P) (precise_all ms ps) e in
    argument_site p k ks A M P ts ms i.0 x.0 (is_static P) refl i.1 (sites_args p ks ts ms ps i.2 x.1)
sites_args p ks ts ms ps i e = grind arith

pub dyn_args : (p : CastScript) (ks : List (Option ℕ)) (ts : List Ty) (ms : Tys) → DynArguments p ks ts → count_of ms ≡ length ts → ArgsOk p ks ts ms
unfolding ArgsOk
dyn_args p [] [] no_tys i e = tt
dyn_args p (Some k ∷ ks) (A ∷ ts) (more_tys M ms) i e = (site_of i.0, dyn_args p ks ts ms i.1 (omega arith))
dyn_args p ks ts ms i e = grind arith

pub args_work : (p : CastScript) (s : Scope) (a : Option Ty) (ks : List (Option ℕ)) (ts : List Ty) (ms : Tys) (L : List Ty) (last : Work) (items : List Work) → ArgsOk p ks ts ms → ((us : List Ty) → AreAllPrecise us ms → IsWellTypedWork p s a (last ∷ items) (push_all us L)) → IsWellTypedWork p s a ((arg_items ks ms ++ last ∷ []) ++ items) (push_all ts L)
unfolding ArgsOk
args_work p s a [] [] no_tys L last items i later = later [] tt
args_work p s a (Some k ∷ ks) (A ∷ ts) (more_tys M ms) L last items i later =
    let n = args_count p ks ts ms i.1 in
    let j : count_of ms ≡ length ts + 0 = omega arith in (
      i.0,
      (A, ap (slice_get (push_all ts (A ∷ L))) j ∙ get_push ts (A ∷ L) 0),
      subst (λ U. IsWellTypedWork p s a ((arg_items ks ms ++ last ∷ []) ++ items) U) (sym (ap (λ k. slice_set (push_all ts (A ∷ L)) k M) j ∙ set_push ts (A ∷ L) 0 M))
          (args_work p s a ks ts ms (M ∷ L) last items i.1 (λ us al. later (M ∷ us) (precise_refl M, al))),
    )
args_work p s a (None ∷ ks) (A ∷ ts) (more_tys M ms) L last items i later =
    args_work p s a ks ts ms (A ∷ L) last items i.1 (λ us al. later (A ∷ us) (i.0, al))
args_work p s a ks ts ms L last items i later = absurd i

pub all_count : (ts : List Ty) (ms : Tys) → AreAllPrecise ts ms → length ts ≡ count_of ms
all_count [] no_tys i = refl
all_count (A ∷ ts) (more_tys M ms) i = ap suc (all_count ts ms i.1)
all_count ts ms i = absurd i

-- as many sites as arguments
pub args_sites : (p : CastScript) (ks : List (Option ℕ)) (ts : List Ty) (ps : Tys) → ArgumentUses p ks ts ps → length ts ≡ length ks
args_sites p [] [] no_tys i = refl
args_sites p (k ∷ ks) (A ∷ ts) (more_tys M ms) i = ap suc (args_sites p ks ts ms i.2)
args_sites p ks ts ps i = absurd i

pub dyn_sites : (p : CastScript) (ks : List (Option ℕ)) (ts : List Ty) → DynArguments p ks ts → length ts ≡ length ks
dyn_sites p [] [] i = refl
dyn_sites p (k ∷ ks) (A ∷ ts) i = ap suc (dyn_sites p ks ts i.1)
dyn_sites p ks ts i = absurd i

pub args_types : (p : CastScript) (ks : List (Option ℕ)) (ts : List Ty) (ps : Tys) → ArgumentUses p ks ts ps → length ts ≡ count_of ps
args_types p [] [] no_tys i = refl
args_types p (k ∷ ks) (A ∷ ts) (more_tys M ms) i = ap suc (args_types p ks ts ms i.2)
args_types p ks ts ps i = absurd i

pub tys_same : (ms ps : Tys) → precise_all ms ps ≡ true → count_of ms ≡ count_of ps
tys_same no_tys no_tys e = refl
tys_same (more_tys M ms) (more_tys P ps) e = ap suc (tys_same ms ps (and_parts (precise M P) (precise_all ms ps) e).1)
tys_same ms ps e = absurd (false≢true e)
