-- An expression has one type, or one first fault.
use Rattle.std.proofs.Common.{◌≡◌, List, [], ◌∷◌, ◌++◌, ◌⊎◌, inl, inr, refl, sym, ◌∙◌, ap, subst}
use Rattle.mono_syntax.specs.declared.refusal.Refusal.{Refusal}
use Rattle.mono_syntax.specs.Expr.{Expr}
use Rattle.mono_syntax.specs.Ty.{Ty}
use Rattle.static_types.specs.Faults.{UseFault, Fault, in_part, no_rule, at_use, PartFault, in_first, in_later}
use Rattle.static_types.specs.Names.{Names}
use Rattle.static_types.specs.Parts.{parts}
use Rattle.static_types.specs.declared.rule.Rule.{Rule}
use Rattle.static_types.specs.Rules.{RuleOf, RuleFault}
use Rattle.static_types.specs.Types.{Types, has_type, TypeAll, of_none, of_more}
use Rattle.static_types.proofs.RuleLaws.{rule_once, rule_or_fault, rule_fault_once}
use Rattle.static_types.proofs.UseLaws.{used_or_fault, use_fault_once}

pub record SameType (t u : Ty) (us vs : List Ty) : Type 0 where
  pub type : t ≡ u
  pub all : us ≡ vs

pub record SameTypes (ts us : List Ty) (as_ bs : List Ty) : Type 0 where
  pub types : ts ≡ us
  pub all : as_ ≡ bs

module _ (ns : Names) where
  pub record MoreRow (e : Expr) (es : List Expr) (ts all : List Ty) : Type 0 where
    pub first : Ty
    pub others : List Ty
    pub us : List Ty
    pub vs : List Ty
    pub typed : Types ns e first us
    pub rest : TypeAll ns es others vs
    pub types : ts ≡ first ∷ others
    pub together : all ≡ us ++ vs

  -- what stands behind the types of expressions in a row
  abbrev pub AllRow : List Expr → List Ty → List Ty → Type 0
  AllRow [] ts all = (ts ≡ []) × (all ≡ [])
  AllRow (e ∷ es) ts all = MoreRow e es ts all

  pub all_row : (es : List Expr) (ts all : List Ty) → TypeAll ns es ts all → AllRow es ts all
  all_row es ts all of_none = (refl, refl)
  all_row es ts all (of_more h k q) = record { first = _; others = _; us = _; vs = _; typed = h; rest = k; types = refl; together = q }

  mutual
    pub type_once : (e : Expr) (t u : Ty) (us vs : List Ty) → Types ns e t us → Types ns e u vs → SameType t u us vs
    type_once e t u us vs (has_type {ts = ts} {us = xs} r h rule c p q) (has_type {ts = ts2} {us = ys} r2 h2 rule2 c2 p2 q2) =
        let same = types_once (parts ns.classes e) ts ts2 xs ys h h2 in
        let moved = subst (λ (z : List Ty). RuleOf ns e z r2) (sym same.types) rule2 in
        let rules = rule_once ns e ts r r2 rule moved in
        let type : t ≡ u = p ∙ ap (λ (z : Rule). z.gives) rules ∙ sym p2 in
        record { type = type; all = q ∙ (λ j. same.all j ++ type j ∷ []) ∙ sym q2 }

    pub types_once : (es : List Expr) (ts us as_ bs : List Ty) → TypeAll ns es ts as_ → TypeAll ns es us bs → SameTypes ts us as_ bs
    types_once es ts us as_ bs of_none k = let r = all_row [] us bs k in record { types = sym r.0; all = sym r.1 }
    types_once es ts us as_ bs (of_more {e = e} {es = es1} {t = t} {ts = ts1} {us = xs} {vs = ys} h rest q) k =
        let r = all_row (e ∷ es1) us bs k in
        let first = type_once e t r.first xs r.us h r.typed in
        let others = types_once es1 ts1 r.others ys r.vs rest r.rest in
        record { types = (λ j. first.type j ∷ others.types j) ∙ sym r.types; all = q ∙ (λ j. first.all j ++ others.all j) ∙ sym r.together }

  pub record LaterRow (e : Expr) (es : List Expr) (f : Refusal) : Type 0 where
    pub type : Ty
    pub all : List Ty
    pub typed : Types ns e type all
    pub rest : PartFault ns es f

  -- what stands behind a fault of expressions in a row
  abbrev pub PartRow : List Expr → Refusal → Type 0
  PartRow [] f = ⊥
  PartRow (e ∷ es) f = Fault ns e f ⊎ LaterRow e es f

  pub part_row : (es : List Expr) (f : Refusal) → PartFault ns es f → PartRow es f
  part_row es f (in_first h) = inl h
  part_row es f (in_later h k) = inr (record { type = _; all = _; typed = h; rest = k })

  mutual
    pub typed_or_fault : (e : Expr) (t : Ty) (us : List Ty) (f : Refusal) → Types ns e t us → Fault ns e f → ⊥
    typed_or_fault e t us f (has_type {ts = ts} {us = xs} r h rule c p q) (in_part k) = all_or_fault (parts ns.classes e) ts xs f h k
    typed_or_fault e t us f (has_type {ts = ts} {us = xs} r h rule c p q) (no_rule {ts = ts2} {us = ys} h2 k) =
        let same = types_once (parts ns.classes e) ts ts2 xs ys h h2 in
        rule_or_fault ns e ts r f rule (subst (λ (z : List Ty). RuleFault ns e z f) (sym same.types) k)
    typed_or_fault e t us f (has_type {ts = ts} {us = xs} r h rule c p q) (at_use {ts = ts2} {us = ys} r2 h2 rule2 k) =
        let same = types_once (parts ns.classes e) ts ts2 xs ys h h2 in
        let rules = rule_once ns e ts r r2 rule (subst (λ (z : List Ty). RuleOf ns e z r2) (sym same.types) rule2) in
        let moved = subst (λ (z : List Ty). UseFault (parts ns.classes e) z r2.asks f) (sym same.types) k in
        used_or_fault (parts ns.classes e) ts r.asks f c (subst (λ (z : Rule). UseFault (parts ns.classes e) ts z.asks f) (sym rules) moved)

    pub all_or_fault : (es : List Expr) (ts us : List Ty) (f : Refusal) → TypeAll ns es ts us → PartFault ns es f → ⊥
    all_or_fault es ts us f of_none k = part_row [] f k
    all_or_fault es ts us f (of_more {e = e} {es = es1} {t = t} {ts = ts1} {us = xs} {vs = ys} h rest q) k =
        elim (part_row (e ∷ es1) f k) [ inl x ↦ typed_or_fault e t xs f h x | inr x ↦ all_or_fault es1 ts1 ys f rest x.rest ]

  mutual
    pub fault_once : (e : Expr) (f g : Refusal) → Fault ns e f → Fault ns e g → f ≡ g
    fault_once e f g (in_part h) (in_part k) = part_once (parts ns.classes e) f g h k
    fault_once e f g (in_part h) (no_rule {ts = ts} {us = us} t k) = absurd (all_or_fault (parts ns.classes e) ts us f t h)
    fault_once e f g (in_part h) (at_use {ts = ts} {us = us} r t rule k) = absurd (all_or_fault (parts ns.classes e) ts us f t h)
    fault_once e f g (no_rule {ts = ts} {us = us} t h) (in_part k) = absurd (all_or_fault (parts ns.classes e) ts us g t k)
    fault_once e f g (no_rule {ts = ts} {us = us} t h) (no_rule {ts = ts2} {us = us2} t2 k) =
        let same = types_once (parts ns.classes e) ts ts2 us us2 t t2 in
        rule_fault_once ns e ts f g h (subst (λ (z : List Ty). RuleFault ns e z g) (sym same.types) k)
    fault_once e f g (no_rule {ts = ts} {us = us} t h) (at_use {ts = ts2} {us = us2} r2 t2 rule2 k) =
        let same = types_once (parts ns.classes e) ts ts2 us us2 t t2 in
        absurd (rule_or_fault ns e ts r2 f (subst (λ (z : List Ty). RuleOf ns e z r2) (sym same.types) rule2) h)
    fault_once e f g (at_use {ts = ts} {us = us} r t rule h) (in_part k) = absurd (all_or_fault (parts ns.classes e) ts us g t k)
    fault_once e f g (at_use {ts = ts} {us = us} r t rule h) (no_rule {ts = ts2} {us = us2} t2 k) =
        let same = types_once (parts ns.classes e) ts ts2 us us2 t t2 in
        absurd (rule_or_fault ns e ts r g rule (subst (λ (z : List Ty). RuleFault ns e z g) (sym same.types) k))
    fault_once e f g (at_use {ts = ts} {us = us} r t rule h) (at_use {ts = ts2} {us = us2} r2 t2 rule2 k) =
        let same = types_once (parts ns.classes e) ts ts2 us us2 t t2 in
        let rules = rule_once ns e ts r r2 rule (subst (λ (z : List Ty). RuleOf ns e z r2) (sym same.types) rule2) in
        let moved = subst (λ (z : List Ty). UseFault (parts ns.classes e) z r2.asks g) (sym same.types) k in
        use_fault_once (parts ns.classes e) ts r.asks f g h (subst (λ (z : Rule). UseFault (parts ns.classes e) ts z.asks g) (sym rules) moved)

    pub part_once : (es : List Expr) (f g : Refusal) → PartFault ns es f → PartFault ns es g → f ≡ g
    part_once es f g (in_first {e = e} {es = es1} h) k =
        elim (part_row (e ∷ es1) g k) [ inl x ↦ fault_once e f g h x | inr x ↦ absurd (typed_or_fault e x.type x.all f x.typed h) ]
    part_once es f g (in_later {e = e} {es = es1} {t = t} {us = us} h rest) k =
        elim (part_row (e ∷ es1) g k) [ inl x ↦ absurd (typed_or_fault e t us g h x) | inr x ↦ part_once es1 f g rest x.rest ]
