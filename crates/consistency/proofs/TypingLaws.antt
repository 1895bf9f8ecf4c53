-- The type that the code finds for an expression is its type, and what it refuses is the first fault.
use Rattle.std.proofs.Common.{◌≡◌, cond, List, [], ◌∷◌, ◌++◌, Result, Ok, Err, refl, sym, ◌∙◌, ap, subst, append_assoc}
use Rattle.std.specs.Prelude.{Option, Some, None, is_some}
use Rattle.std.proofs.lemmas.List.{append-nil}
use Rattle.mono_syntax.specs.declared.leaf.Place.{Place}
use Rattle.mono_syntax.specs.declared.refusal.Refusal.{Refusal}
use Rattle.mono_syntax.specs.declared.tree.ClassDef.{ClassDef}
use Rattle.mono_syntax.specs.declared.tree.FuncDef.{FuncDef}
use Rattle.mono_syntax.specs.Expr as expr
use Rattle.mono_syntax.specs.Expr.{Expr, Exprs, no_exprs, more_exprs}
use Rattle.mono_syntax.specs.ExprView.{exprs_list}
use Rattle.mono_syntax.specs.Ty.{Ty}
use Rattle.static_types.specs.declared.rule.Rule.{Rule}
use Rattle.static_types.specs.Faults.{Fault, in_part, no_rule, at_use, PartFault, in_first, in_later}
use Rattle.static_types.specs.Names.{Names}
use Rattle.static_types.specs.Parts.{class_called, call_parts, parts}
use Rattle.static_types.specs.Rules.{RuleOf}
use Rattle.script_rules.specs.SourcePlaces.{place_of}
use Rattle.static_types.specs.Types.{Types, has_type, TypeAll, of_none, of_more}
use Rattle.known_names.specs.declared.known.Known.{Known}
use Rattle.known_names.specs.declared.known.KnownClass.{KnownClass}
use Rattle.known_names.specs.declared.known.Local.{Local}
use Rattle.known_names.specs.IsKnown.{IsKnown, IsSameClass, names_in}
use Rattle.rule_choice.specs.declared.parts.Part.{Part}
use Rattle.consistency.specs.declared.parts.Parts.{Parts}
use Rattle.consistency.specs.declared.parts.Whole.{Whole}
use Rattle.consistency.specs.declared.trace.Trace.{Trace}
use Rattle.rule_choice.specs.GivenParts.{types_of}
use Rattle.rule_choice.specs.computed.Ruled.{called_class, ruled}
use Rattle.rule_choice.specs.computed.Apart.{first_apart}
use Rattle.consistency.specs.computed.Checked.{no_parts, with_part, finished, ended, parts_typed, all_typed, typed}
use Rattle.rule_choice.specs.computed.Steps.{and_then}
use Rattle.consistency.specs.computed.Traces.{with_expr}
use Rattle.rule_choice.proofs.CountLaws.{types_count_of, asks_count}
use Rattle.rule_choice.proofs.RuleLaws.{IsRuled, same_called, ruled_so}
use Rattle.consistency.proofs.TraceLaws.{Traced, traced_none, traced_on, traced_push}
use Rattle.rule_choice.specs.GivenParts.{AreAt, IsUsed}
use Rattle.rule_choice.proofs.UseLaws.{uses_so}

module _ (cs : List ClassDef) (fs : List FuncDef) (ks : Known) (l : Local) (known : IsKnown cs fs ks) where
  abbrev Ns : Names
  Ns = names_in cs fs l

  -- e has its type behind the types of b
  pub record IsWhole (e : Expr) (b : Trace) (x : Whole) : Type 0 where
    pub all : List Ty
    pub types : Types Ns e x.ty all
    pub traced : Traced b x.trace all

  abbrev pub IsTyped : Expr → Trace → Result Whole Refusal → Type 0
  IsTyped e b (Ok x) = IsWhole e b x
  IsTyped e b (Err f) = Fault Ns e f

  -- the expressions are parts behind those that are done
  pub record ArePartsOf (es : List Expr) (done : Parts) (x : Parts) : Type 0 where
    pub more : List Part
    pub parts : x.parts ≡ done.parts ++ more
    pub places : AreAt es more
    pub all : List Ty
    pub types : TypeAll Ns es (types_of more) all
    pub traced : Traced done.trace x.trace all

  abbrev pub AreTyped : List Expr → Parts → Result Parts Refusal → Type 0
  AreTyped es done (Ok x) = ArePartsOf es done x
  AreTyped es done (Err f) = PartFault Ns es f

  -- ---- rows

  no_more : (done : Parts) → AreTyped [] done (Ok done)
  no_more done = record { more = []; parts = sym (append-nil done.parts); places = tt; all = []; types = of_none; traced = traced_none done.trace }

  pub one_part : (done : Parts) (e : Expr) (r : Result Whole Refusal) → IsTyped e done.trace r → AreTyped (e ∷ []) done (with_part done e r)
  one_part done e (Ok w) h =
      record {
        more = record { place = place_of e; ty = w.ty } ∷ [];
        parts = refl;
        places = (refl, tt);
        all = h.all ++ [];
        types = of_more h.types of_none refl;
        traced = subst (λ (z : List Ty). Traced done.trace w.trace z) (sym (append-nil h.all)) h.traced;
      }
  one_part done e (Err f) h = in_first h

  -- one row, and then another
  types_more : (es gs : List Expr) (ts us as_ bs : List Ty) → TypeAll Ns es ts as_ → TypeAll Ns gs us bs → TypeAll Ns (es ++ gs) (ts ++ us) (as_ ++ bs)
  types_more es gs ts us as_ bs of_none k = k
  types_more es gs ts us as_ bs (of_more {es = es2} {ts = ts2} {us = xs} {vs = ys} h rest q) k =
      of_more h (types_more es2 gs ts2 us ys bs rest k) (ap (λ (z : List Ty). z ++ bs) q ∙ append_assoc xs ys bs)

  fault_more : (es gs : List Expr) (f : Refusal) → PartFault Ns es f → PartFault Ns (es ++ gs) f
  fault_more es gs f (in_first h) = in_first h
  fault_more es gs f (in_later {es = es2} h k) = in_later h (fault_more es2 gs f k)

  fault_behind : (es gs : List Expr) (ts as_ : List Ty) (f : Refusal) → TypeAll Ns es ts as_ → PartFault Ns gs f → PartFault Ns (es ++ gs) f
  fault_behind es gs ts as_ f of_none k = k
  fault_behind es gs ts as_ f (of_more {es = es2} {ts = ts2} {vs = ys} h rest q) k = in_later h (fault_behind es2 gs ts2 ys f rest k)

  types_of_more : (xs ys : List Part) → types_of (xs ++ ys) ≡ types_of xs ++ types_of ys
  types_of_more [] ys = refl
  types_of_more (x ∷ xs) ys = ap (λ (z : List Ty). x.ty ∷ z) (types_of_more xs ys)

  at_more : (es gs : List Expr) (xs ys : List Part) → AreAt es xs → AreAt gs ys → AreAt (es ++ gs) (xs ++ ys)
  at_more [] gs [] ys h k = k
  at_more (e ∷ es) gs (x ∷ xs) ys h k = (h.0, at_more es gs xs ys h.1 k)
  at_more [] gs (x ∷ xs) ys h k = absurd h
  at_more (e ∷ es) gs [] ys h k = absurd h

  two_rows : (es gs : List Expr) (done x : Parts) (r : Result Parts Refusal) → ArePartsOf es done x → AreTyped gs x r → AreTyped (es ++ gs) done r
  two_rows es gs done x (Ok y) h k =
      record {
        more = h.more ++ k.more;
        parts = k.parts ∙ ap (λ (z : List Part). z ++ k.more) h.parts ∙ append_assoc done.parts h.more k.more;
        places = at_more es gs h.more k.more h.places k.places;
        all = h.all ++ k.all;
        types = subst (λ (z : List Ty). TypeAll Ns (es ++ gs) z (h.all ++ k.all)) (sym (types_of_more h.more k.more)) (types_more es gs (types_of h.more) (types_of k.more) h.all k.all h.types k.types);
        traced = traced_on done.trace x.trace y.trace h.all k.all h.traced k.traced;
      }
  two_rows es gs done x (Err f) h k = fault_behind es gs (types_of h.more) h.all f h.types k

  pub and_row : (es gs : List Expr) (done : Parts) (r : Result Parts Refusal) (g : Parts → Result Parts Refusal) → AreTyped es done r → ((x : Parts) → AreTyped gs x (g x)) → AreTyped (es ++ gs) done (and_then r g)
  and_row es gs done (Ok x) g h k = two_rows es gs done x (g x) h (k x)
  and_row es gs done (Err f) g h k = fault_more es gs f h

  -- ---- an expression from its parts

  whole_used : (e : Expr) (b : Trace) (x : Parts) (h : ArePartsOf (parts cs e) (no_parts b) x) (r : Rule) → RuleOf Ns e (types_of x.parts) r → TypeAll Ns (parts cs e) (types_of x.parts) h.all
      → (o : Option Place) → IsUsed (parts cs e) x.parts r.asks o → IsTyped e b (finished o r.gives x.trace)
  whole_used e b x h r rule types None used =
      record {
        all = h.all ++ r.gives ∷ [];
        types = has_type r types rule used refl refl;
        traced = traced_on b x.trace (with_expr x.trace r.gives) h.all (r.gives ∷ []) h.traced (traced_push x.trace r.gives);
      }
  whole_used e b x h r rule types (Some p) used = at_use r types rule used

  whole_ruled : (e : Expr) (b : Trace) (x : Parts) (h : ArePartsOf (parts cs e) (no_parts b) x) (r : Result Rule Refusal) → IsRuled Ns e x.parts r
      → IsTyped e b (and_then r (λ z. finished (first_apart x.parts z.asks) z.gives x.trace))
  whole_ruled e b x h (Ok r) rule =
      let types = subst (λ (z : List Part). TypeAll Ns (parts cs e) (types_of z) h.all) (sym h.parts) h.types in
      let places = subst (λ (z : List Part). AreAt (parts cs e) z) (sym h.parts) h.places in
      whole_used e b x h r rule types (first_apart x.parts r.asks)
      (uses_so (parts cs e) x.parts r.asks places (asks_count Ns e (types_of x.parts) r (types_count_of Ns (parts cs e) (types_of x.parts) h.all types) rule))
  whole_ruled e b x h (Err f) rule =
      no_rule (subst (λ (z : List Part). TypeAll Ns (parts cs e) (types_of z) h.all) (sym h.parts) h.types) rule

  whole_so : (e : Expr) (b : Trace) (r : Result Parts Refusal) → AreTyped (parts cs e) (no_parts b) r → IsTyped e b (ended ks l e r)
  whole_so e b (Ok x) h =
      whole_ruled e b x h (ruled ks l e x.parts) (ruled_so cs fs ks l known e x.parts)
  whole_so e b (Err f) h = in_part h

  -- ---- expressions

  abbrev CallRow : Option ClassDef → Option KnownClass → Expr → Exprs → Trace → Type 0
  CallRow o k f es b =
      AreTyped (call_parts o f (exprs_list es)) (no_parts b) (and_then (cond (is_some k) (Ok (no_parts b)) (with_part (no_parts b) f (typed ks l f b))) (λ x. all_typed ks l x es))

  call_row : (o : Option ClassDef) (k : Option KnownClass) (f : Expr) (es : Exprs) (b : Trace) → IsSameClass cs o k → IsTyped f b (typed ks l f b)
      → ((x : Parts) → AreTyped (exprs_list es) x (all_typed ks l x es)) → CallRow o k f es b
  call_row (Some d) (Some k) f es b s h g = g (no_parts b)
  call_row None None f es b s h g = and_row (f ∷ []) (exprs_list es) (no_parts b) (with_part (no_parts b) f (typed ks l f b)) (λ x. all_typed ks l x es) (one_part (no_parts b) f (typed ks l f b) h) g
  call_row (Some d) None f es b s h g = absurd s
  call_row None (Some k) f es b s h g = absurd s

  two_parts : (a c : Expr) (b : Trace) → IsTyped a b (typed ks l a b) → ((x : Parts) → IsTyped c x.trace (typed ks l c x.trace))
      → AreTyped (a ∷ c ∷ []) (no_parts b) (and_then (with_part (no_parts b) a (typed ks l a b)) (λ x. with_part x c (typed ks l c x.trace)))
  two_parts a c b h k =
      and_row (a ∷ []) (c ∷ []) (no_parts b) (with_part (no_parts b) a (typed ks l a b)) (λ x. with_part x c (typed ks l c x.trace)) (one_part (no_parts b) a (typed ks l a b) h)
      (λ x. one_part x c (typed ks l c x.trace) (k x))

  mutual
    pub parts_so : (e : Expr) (b : Trace) → AreTyped (parts cs e) (no_parts b) (parts_typed ks l e b)
    parts_so (expr.local w) b = no_more (no_parts b)
    parts_so (expr.number p n) b = no_more (no_parts b)
    parts_so (expr.text p x) b = no_more (no_parts b)
    parts_so (expr.truth p t) b = no_more (no_parts b)
    parts_so (expr.nil p) b = no_more (no_parts b)
    parts_so (expr.join p w) b = no_more (no_parts b)
    parts_so (expr.neg p a) b = one_part (no_parts b) a (typed ks l a b) (whole_so a b (parts_typed ks l a b) (parts_so a b))
    parts_so (expr.negation p a) b = one_part (no_parts b) a (typed ks l a b) (whole_so a b (parts_typed ks l a b) (parts_so a b))
    parts_so (expr.read a w) b = one_part (no_parts b) a (typed ks l a b) (whole_so a b (parts_typed ks l a b) (parts_so a b))
    parts_so (expr.cast p t a) b = one_part (no_parts b) a (typed ks l a b) (whole_so a b (parts_typed ks l a b) (parts_so a b))
    parts_so (expr.binary o p a c) b =
        two_parts a c b (whole_so a b (parts_typed ks l a b) (parts_so a b)) (λ x. whole_so c x.trace (parts_typed ks l c x.trace) (parts_so c x.trace))
    parts_so (expr.both a c) b =
        two_parts a c b (whole_so a b (parts_typed ks l a b) (parts_so a b)) (λ x. whole_so c x.trace (parts_typed ks l c x.trace) (parts_so c x.trace))
    parts_so (expr.either a c) b =
        two_parts a c b (whole_so a b (parts_typed ks l a b) (parts_so a b)) (λ x. whole_so c x.trace (parts_typed ks l c x.trace) (parts_so c x.trace))
    parts_so (expr.call p f es) b =
        call_row (class_called cs f) (called_class ks.classes f) f es b (same_called cs fs ks known f) (whole_so f b (parts_typed ks l f b) (parts_so f b)) (λ x. all_so es x)

    pub all_so : (es : Exprs) (x : Parts) → AreTyped (exprs_list es) x (all_typed ks l x es)
    all_so no_exprs x = no_more x
    all_so (more_exprs e es) x =
        and_row (e ∷ []) (exprs_list es) x (with_part x e (typed ks l e x.trace)) (λ y. all_typed ks l y es)
        (one_part x e (typed ks l e x.trace) (whole_so e x.trace (parts_typed ks l e x.trace) (parts_so e x.trace))) (λ y. all_so es y)

  pub expr_so : (e : Expr) (b : Trace) → IsTyped e b (typed ks l e b)
  expr_so e b = whole_so e b (parts_typed ks l e b) (parts_so e b)
