-- What an expression of a right script can be refused for.
use Rattle.std.proofs.Common.{◌≡◌, inl, inr, ◌⊎◌, ℕ, List, [], ◌∷◌, ◌++◌, Bool, true, Option, Some, None, refl, sym, ◌∙◌, ap, subst, append_assoc, bytes_eq, if◌then◌else◌}
use Rattle.std.proofs.lemmas.List.{append-nil}
use Rattle.mono_list.proofs.Cases.{split, split_option, some_none}
use Rattle.mono_syntax.specs.declared.cast.NamedType.{NamedType}
use Rattle.mono_syntax.specs.declared.leaf.Place.{Place}
use Rattle.mono_syntax.specs.declared.leaf.Word.{Word}
use Rattle.mono_syntax.specs.declared.refusal.Reason.TheVariants.{UnknownName, Misused}
use Rattle.mono_syntax.specs.declared.refusal.Refusal.{Refusal}
use Rattle.mono_syntax.specs.declared.tree.ClassDef.{ClassDef}
use Rattle.mono_syntax.specs.declared.tree.FuncDef.{FuncDef}
use Rattle.mono_syntax.specs.declared.tree.Script.{Script}
use Rattle.mono_syntax.specs.Ann.{Ann}
use Rattle.mono_syntax.specs.Expr as expr
use Rattle.mono_syntax.specs.Expr.{Expr, Exprs}
use Rattle.mono_syntax.specs.ExprView.{exprs_list}
use Rattle.mono_syntax.specs.Ty.{Ty, dyn, int, bool, str, nil, fun, obj}
use Rattle.mono_tree.specs.TypedPrograms.{type_of_name}
use Rattle.mono_tree.proofs.MeetMade.{named}
use Rattle.script_rules.specs.Definitions.{class_named, function_named}
use Rattle.script_rules.specs.NameFaults.{unknown_name, thread_read, joined_early, class_read}
use Rattle.script_rules.specs.NameRules.{is_use, is_value_use, gives_name, is_start, is_start_end, is_class, Stands, StandsBehind}
use Rattle.script_rules.specs.Occurrences.{at, in_ann, in_expr, in_exprs, definitions, bodies}
use Rattle.script_rules.specs.ScopeFaults.{IsRight}
use Rattle.script_rules.specs.Scoping.{class_list, function_list}
use Rattle.script_rules.specs.Writes.{Writes, IsFunctionType}
use Rattle.script_rules.specs.declared.occurrence.Occurrence.{Occurrence}
use Rattle.script_rules.specs.declared.occurrence.Role.{Role}
use Rattle.script_rules.specs.declared.occurrence.Role.TheVariants as role
use Rattle.static_types.specs.Faults.{UseFault, here, later, Fault, in_part, no_rule, at_use, PartFault, in_first, in_later}
use Rattle.static_types.specs.Names.{Names, IsNamed, IsFunctionNamed, NameType}
use Rattle.static_types.specs.Parts.{class_called, call_parts, parts}
use Rattle.static_types.specs.Rules.{CalleeFault, CallFault, RuleFault}
use Rattle.class_types.proofs.OrderLaws.{In, in-left, in-right, contains-in}
use Rattle.cast_rules.specs.TypingReasons.{IsTypingReason, inconsistent, no_field, arity, not_callable}
use Rattle.cast_rules.proofs.ApartNames.{stands_in, faultless}
use Rattle.cast_rules.proofs.KnownTypes.{defined_class, defined_function, definition_is, ann_has_type, function_has_type}
use Rattle.cast_rules.proofs.Occurring.{is_value, pick, found_picked, pick_append, ann_none, expr_none, no_end}
use Rattle.cast_rules.proofs.RuleTypes.{function_among}
use Rattle.cast_rules.proofs.Starts.{names}

-- ---- reasons

pub callee_reason : (p : Place) (ts : List Ty) (f : Refusal) → CalleeFault p ts f → IsTypingReason f.reason
callee_reason p [] f h = subst (λ (z : Refusal). IsTypingReason z.reason) (sym h) not_callable
callee_reason p (dyn ∷ ts) f h = absurd h
callee_reason p (fun ps t ∷ ts) f h = subst (λ (z : Refusal). IsTypingReason z.reason) (sym h.1) arity
callee_reason p (int ∷ ts) f h = subst (λ (z : Refusal). IsTypingReason z.reason) (sym h) not_callable
callee_reason p (bool ∷ ts) f h = subst (λ (z : Refusal). IsTypingReason z.reason) (sym h) not_callable
callee_reason p (str ∷ ts) f h = subst (λ (z : Refusal). IsTypingReason z.reason) (sym h) not_callable
callee_reason p (nil ∷ ts) f h = subst (λ (z : Refusal). IsTypingReason z.reason) (sym h) not_callable
callee_reason p (obj fs ∷ ts) f h = subst (λ (z : Refusal). IsTypingReason z.reason) (sym h) not_callable

call_reason : (cs : List ClassDef) (o : Option ClassDef) (p : Place) (ts : List Ty) (f : Refusal) → CallFault cs o p ts f → IsTypingReason f.reason
call_reason cs None p ts f h = callee_reason p ts f h
call_reason cs (Some d) p ts f h = subst (λ (z : Refusal). IsTypingReason z.reason) (sym h.fault) arity

pub use_reason : (es : List Expr) (ss ts : List Ty) (f : Refusal) → UseFault es ss ts f → IsTypingReason f.reason
use_reason es ss ts f (here a e) = subst (λ (z : Refusal). IsTypingReason z.reason) (sym e) inconsistent
use_reason es ss ts f (later {es = es1} {ss = ss1} {ts = ts1} c h) = use_reason es1 ss1 ts1 f h

-- ---- names that are known

pub named_there : (ns : List NamedType) (x : List ℕ) → In x (names ns) → type_of_name ns x ≡ None → ⊥
named_there [] x h e = absurd h
named_there (n ∷ ns) x (inl q) e = some_none ⊥ (sym (ap (λ (b : Bool). if b then Some n.ty else type_of_name ns x) (named n.name x q)) ∙ e)
named_there (n ∷ ns) x (inr h) e =
    split (bytes_eq n.name x) (λ b. (if b then Some n.ty else type_of_name ns x) ≡ None → ⊥) (λ _ f. some_none ⊥ f) (λ _ f. named_there ns x h f) e

name_gives : (r : Role) → gives_name r ≡ true → (is_value r ≡ true) ⊎ (is_start r ≡ true)
name_gives role.Parameter e = inl refl
name_gives role.Assigned e = inl refl
name_gives role.Annotated e = inl refl
name_gives role.Started e = inr refl
name_gives _ e = absurd cc

-- ---- where it stands in a body

-- these stand in the body, right behind those
pub record StandAt (body before os : List Occurrence) : Type 0 where
  pub after : List Occurrence
  pub whole : body ≡ before ++ (os ++ after)

pub at_first : (body before xs ys : List Occurrence) → StandAt body before (xs ++ ys) → StandAt body before xs
at_first body before xs ys h = record { after = ys ++ h.after; whole = h.whole ∙ ap (λ l. before ++ l) (append_assoc xs ys h.after) }

pub at_second : (body before xs ys : List Occurrence) → StandAt body before (xs ++ ys) → StandAt body (before ++ xs) ys
at_second body before xs ys h =
    record { after = h.after; whole = h.whole ∙ ap (λ l. before ++ l) (append_assoc xs ys h.after) ∙ sym (append_assoc before xs (ys ++ h.after)) }

pub stand_within : (body before os : List Occurrence) → StandAt body before os → (o : Occurrence) → In o os → In o body
stand_within body before os h o i = subst (λ (l : List Occurrence). In o l) (sym h.whole) (in-right o before (os ++ h.after) (in-left o os h.after i))

pub first_behind : (body before : List Occurrence) (o : Occurrence) (os : List Occurrence) → StandAt body before (o ∷ os) → StandsBehind body before o
first_behind body before o os h = record { after = os ++ h.after; whole = h.whole }

-- no start ends in these, so those that ended before are those that ended behind them too
pub ends_still : (before os : List Occurrence) (xs : List (List ℕ)) → pick is_start_end before ≡ xs → pick is_start_end os ≡ [] → pick is_start_end (before ++ os) ≡ xs
ends_still before os xs h k = pick_append is_start_end before os ∙ ap (λ (l : List (List ℕ)). pick is_start_end before ++ l) k ∙ append-nil (pick is_start_end before) ∙ h

module _ (s : Script) (right : IsRight s) (body : List Occurrence) (part : In body (bodies s)) where
  -- what may be named in the body: the script's classes and functions, and a type for each of its values
  pub record IsNamesOf (ns : Names) : Type 0 where
    pub classes : ns.classes ≡ class_list s
    pub functions : ns.functions ≡ function_list s
    pub values : (x : List ℕ) → In x (pick is_value body) → type_of_name ns.values x ≡ None → ⊥

  -- ---- a name that is read is known

  -- it isn't a class's name that is called
  abbrev pub IsPlain : Role → Expr → Type 0
  IsPlain r e = (r ≡ role.Read) ⊎ ((r ≡ role.Called) × (class_called (class_list s) e ≡ None))

  record IsLocal (r : Role) (w : Word) : Type 0 where
    pub used : is_use r ≡ true
    pub value : is_value_use r ≡ true
    pub no_class : Stands (definitions s) is_class w.text → ⊥

  is_local : (r : Role) (w : Word) → IsPlain r (expr.local w) → In (at r w) body → IsLocal r w
  is_local r w p i = elim p [
    | inl e ↦ (
        let st = stands_in body (at role.Read w) (subst (λ (z : Role). In (at z w) body) e i) in
        record {
          used = ap is_use e;
          value = ap is_value_use e;
          no_class = λ h. faultless s right body part w.place Misused (class_read st.0 (at role.Read w) st.1 refl h refl);
        }
        )
    | inr c ↦ record {
      used = ap is_use c.0;
      value = ap is_value_use c.0;
      no_class = λ h. defined_class s.items h.occurrence (contains-in h.occurrence (definitions s) h.member) h.role (ap (λ (x : List ℕ). class_named (class_list s) x) h.text ∙ c.1);
    }
  ]

  -- a function's name has its type
  function_known : (ns : Names) (x : List ℕ) → IsNamesOf ns → type_of_name ns.values x ≡ None → (o : Option FuncDef) → function_named (function_list s) x ≡ o
      → (o ≡ None → ⊥) → (t : Ty) × NameType ns x t
  function_known ns x names e None q h = absurd (h refl)
  function_known ns x names e (Some d) q h =
      let t = function_has_type s right d (function_among (function_list s) x d q) in
      let is : function_named ns.functions x ≡ Some d = ap (λ (fs : List FuncDef). function_named fs x) names.functions ∙ q in
      let type : IsFunctionType ns.classes d t.0 = subst (λ (cs : List ClassDef). IsFunctionType cs d t.0) (sym names.classes) t.1 in
      let at : IsFunctionNamed ns.classes (function_named ns.functions x) t.0 = subst (λ (z : Option FuncDef). IsFunctionNamed ns.classes z t.0) (sym is) type in
      (t.0, subst (λ (z : Option Ty). IsNamed ns z x t.0) (sym e) at)

  local_known : (ns : Names) (r : Role) (w : Word) → IsNamesOf ns → IsPlain r (expr.local w) → In (at r w) body → ((t : Ty) → NameType ns w.text t → ⊥) → ⊥
  local_known ns r w names p i none =
      let l = is_local r w p i in
      let st = stands_in body (at r w) i in
      split_option (type_of_name ns.values w.text) (λ o. type_of_name ns.values w.text ≡ o → ⊥)
      (λ _ e. faultless s right body part w.place UnknownName (unknown_name st.0 (at r w) st.1 l.used
      (λ h. elim (name_gives (h.occurrence).role h.role) [
        | inl v ↦ names.values w.text (subst (λ (x : List ℕ). In x (pick is_value body)) h.text (found_picked is_value body h.occurrence (contains-in h.occurrence body h.member) v)) e
        | inr v ↦ faultless s right body part w.place Misused (thread_read st.0 (at r w) st.1 l.value (record { occurrence = h.occurrence; member = h.member; role = v; text = h.text }) refl)
      ])
      (λ h. elim (definition_is (h.occurrence).role h.role) [
        | inl c ↦ l.no_class (record { occurrence = h.occurrence; member = h.member; role = c; text = h.text })
        | inr g ↦ (
            let found = function_known ns w.text names e (function_named (function_list s) w.text) refl
            (λ n. defined_function s.items h.occurrence (contains-in h.occurrence (definitions s) h.member) g (ap (λ (x : List ℕ). function_named (function_list s) x) h.text ∙ n)) in
            none found.0 found.1
            )
      ])
      refl))
      (λ t _ e. none t (subst (λ (z : Option Ty). IsNamed ns z w.text t) (sym e) refl)) refl

  -- ---- expressions

  -- an expression of the body, where the starts that ended before are those that may be joined
  pub record ExprAt (ns : Names) (before : List Occurrence) (r : Role) (e : Expr) : Type 0 where
    pub stands : StandAt body before (in_expr r e)
    pub ends : pick is_start_end before ≡ names ns.threads
    pub plain : IsPlain r e

  abbrev pub PartsAt : Names → List Expr → Type 0
  PartsAt ns [] = Unit {0}
  PartsAt ns (e ∷ es) = ((before : List Occurrence) × (r : Role) × ExprAt ns before r e) × PartsAt ns es

  pub read_at : (ns : Names) (before : List Occurrence) (e : Expr) → StandAt body before (in_expr role.Read e) → pick is_start_end before ≡ names ns.threads
      → (before : List Occurrence) × (r : Role) × ExprAt ns before r e
  read_at ns before e h k = (before, role.Read, record { stands = h; ends = k; plain = inl refl })

  pub two_at : (ns : Names) (before : List Occurrence) (a b : Expr) → StandAt body before (in_expr role.Read a ++ in_expr role.Read b) → pick is_start_end before ≡ names ns.threads
      → PartsAt ns (a ∷ b ∷ [])
  two_at ns before a b h k =
      let xs = in_expr role.Read a in
      let ys = in_expr role.Read b in
      let behind = ends_still before xs (names ns.threads) k (expr_none is_start_end no_end role.Read refl a) in
      (read_at ns before a (at_first body before xs ys h) k, (read_at ns (before ++ xs) b (at_second body before xs ys h) behind, tt))

  pub exprs_at : (ns : Names) (before : List Occurrence) (es : Exprs) → StandAt body before (in_exprs es) → pick is_start_end before ≡ names ns.threads → PartsAt ns (exprs_list es)
  exprs_at ns before expr.no_exprs h k = tt
  exprs_at ns before (expr.more_exprs e es) h k =
      let xs = in_expr role.Read e in
      let ys = in_exprs es in
      let behind = ends_still before xs (names ns.threads) k (expr_none is_start_end no_end role.Read refl e) in
      (read_at ns before e (at_first body before xs ys h) k, exprs_at ns (before ++ xs) es (at_second body before xs ys h) behind)

  call_at : (ns : Names) (before : List Occurrence) (f : Expr) (es : Exprs) (o : Option ClassDef) → class_called (class_list s) f ≡ o
      → StandAt body before (in_expr role.Called f ++ in_exprs es) → pick is_start_end before ≡ names ns.threads → PartsAt ns (call_parts o f (exprs_list es))
  call_at ns before f es None q h k =
      let xs = in_expr role.Called f in
      let ys = in_exprs es in
      let behind = ends_still before xs (names ns.threads) k (expr_none is_start_end no_end role.Called refl f) in
      ((before, role.Called, record { stands = at_first body before xs ys h; ends = k; plain = inr (refl, q) }), exprs_at ns (before ++ xs) es (at_second body before xs ys h) behind)
  call_at ns before f es (Some d) q h k =
      let xs = in_expr role.Called f in
      let ys = in_exprs es in
      let behind = ends_still before xs (names ns.threads) k (expr_none is_start_end no_end role.Called refl f) in
      exprs_at ns (before ++ xs) es (at_second body before xs ys h) behind

  parts_at : (ns : Names) (before : List Occurrence) (r : Role) (e : Expr) → ExprAt ns before r e → PartsAt ns (parts (class_list s) e)
  parts_at ns before r (expr.local w) h = tt
  parts_at ns before r (expr.number p n) h = tt
  parts_at ns before r (expr.text p t) h = tt
  parts_at ns before r (expr.truth p b) h = tt
  parts_at ns before r (expr.nil p) h = tt
  parts_at ns before r (expr.neg p a) h = (read_at ns before a h.stands h.ends, tt)
  parts_at ns before r (expr.negation p a) h = (read_at ns before a h.stands h.ends, tt)
  parts_at ns before r (expr.binary o p a b) h = two_at ns before a b h.stands h.ends
  parts_at ns before r (expr.both a b) h = two_at ns before a b h.stands h.ends
  parts_at ns before r (expr.either a b) h = two_at ns before a b h.stands h.ends
  parts_at ns before r (expr.read a w) h = (read_at ns before a h.stands h.ends, tt)
  parts_at ns before r (expr.call p f es) h = call_at ns before f es (class_called (class_list s) f) refl h.stands h.ends
  parts_at ns before r (expr.cast p a e) h =
      let behind = ends_still before (in_ann a) (names ns.threads) h.ends (ann_none is_start_end no_end a) in
      (read_at ns (before ++ in_ann a) e (at_second body before (in_ann a) (in_expr role.Read e) h.stands) behind, tt)
  parts_at ns before r (expr.join p w) h = tt

  cast_known : (ns : Names) (a : Ann) → IsNamesOf ns → ((o : Occurrence) → In o (in_ann a) → In o body) → ((t : Ty) → Writes ns.classes a t → ⊥) → ⊥
  cast_known ns a names h none =
      let t = ann_has_type s right body part a h in
      none t.0 (subst (λ (cs : List ClassDef). Writes cs a t.0) (sym names.classes) t.1)

  join_known : (ns : Names) (before : List Occurrence) (w : Word) → StandAt body before (at role.Joined w ∷ []) → pick is_start_end before ≡ names ns.threads
      → type_of_name ns.threads w.text ≡ None → ⊥
  join_known ns before w h k e = faultless s right body part w.place Misused (joined_early before (at role.Joined w) (first_behind body before (at role.Joined w) [] h) refl
      (λ q.
      let i = found_picked is_start_end before q.occurrence (contains-in q.occurrence before q.member) q.role in
      named_there ns.threads w.text (subst (λ (l : List (List ℕ)). In w.text l) k (subst (λ (x : List ℕ). In x (pick is_start_end before)) q.text i)) e)
      refl)

  rule_reason : (ns : Names) (before : List Occurrence) (r : Role) (e : Expr) (ts : List Ty) (f : Refusal) → IsNamesOf ns → ExprAt ns before r e → RuleFault ns e ts f
      → IsTypingReason f.reason
  rule_reason ns before r (expr.local w) ts f names h k =
      absurd (local_known ns r w names h.plain (stand_within body before (at r w ∷ []) h.stands (at r w) (inl refl)) k.0)
  rule_reason ns before r (expr.read a w) ts f names h k = subst (λ (z : Refusal). IsTypingReason z.reason) (sym k.1) no_field
  rule_reason ns before r (expr.cast p a e) ts f names h k =
      absurd (cast_known ns a names (λ o i. stand_within body before (in_ann a ++ in_expr role.Read e) h.stands o (in-left o (in_ann a) (in_expr role.Read e) i)) k.0)
  rule_reason ns before r (expr.call p g es) ts f names h k = call_reason ns.classes (class_called ns.classes g) p ts f k
  rule_reason ns before r (expr.join p w) ts f names h k = absurd (join_known ns before w h.stands h.ends k.0)
  rule_reason ns before r _ ts f names h k = absurd k

  mutual
    pub expr_reason : (ns : Names) (before : List Occurrence) (r : Role) (e : Expr) (f : Refusal) → Fault ns e f → IsNamesOf ns → ExprAt ns before r e → IsTypingReason f.reason
    expr_reason ns before r e f (in_part k) names h =
        parts_reason ns (parts ns.classes e) f k names (subst (λ (cs : List ClassDef). PartsAt ns (parts cs e)) (sym names.classes) (parts_at ns before r e h))
    expr_reason ns before r e f (no_rule {ts = ts} t k) names h = rule_reason ns before r e ts f names h k
    expr_reason ns before r e f (at_use {ts = ts} rule t k u) names h = use_reason (parts ns.classes e) ts rule.asks f u

    pub parts_reason : (ns : Names) (es : List Expr) (f : Refusal) → PartFault ns es f → IsNamesOf ns → PartsAt ns es → IsTypingReason f.reason
    parts_reason ns es f (in_first {e = e} k) names h = expr_reason ns (h.0).0 (h.0).1 e f k names (h.0).2
    parts_reason ns es f (in_later {es = es1} t k) names h = parts_reason ns es1 f k names h.1
