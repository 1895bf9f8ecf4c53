-- Uses at types that can be had, or the first that can't.
use Rattle.std.proofs.Common.{◌≡◌, List, ◌∷◌, ◌⊎◌, inl, inr, sym, ◌∙◌}
use Rattle.mono_syntax.specs.declared.refusal.Reason.TheVariants.{Inconsistent}
use Rattle.mono_syntax.specs.declared.refusal.Refusal.{Refusal}
use Rattle.mono_syntax.specs.Expr.{Expr}
use Rattle.mono_syntax.specs.Ty.{Ty}
use Rattle.mono_tree.specs.Meet.{AreApart, Consistent}
use Rattle.static_types.specs.Faults.{UseFault, here, later}
use Rattle.static_types.specs.Rules.{at}
use Rattle.script_rules.specs.SourcePlaces.{place_of}
use Rattle.static_types.specs.Types.{AllConsistent}

pub apart_or_consistent : (s t : Ty) → Consistent s t → AreApart s t → ⊥
apart_or_consistent s t c a = a c.meet c.is_meet.left c.is_meet.right

-- what stands behind a fault of uses in a row
abbrev pub UseRow : List Expr → List Ty → List Ty → Refusal → Type 0
UseRow (e ∷ es) (s ∷ ss) (t ∷ ts) f = (AreApart s t × (f ≡ at (place_of e) Inconsistent)) ⊎ (Consistent s t × UseFault es ss ts f)
UseRow es ss ts f = ⊥

pub use_row : (es : List Expr) (ss ts : List Ty) (f : Refusal) → UseFault es ss ts f → UseRow es ss ts f
use_row es ss ts f (here a q) = inl (a, q)
use_row es ss ts f (later c u) = inr (c, u)

pub used_or_fault : (es : List Expr) (ss ts : List Ty) (f : Refusal) → AllConsistent ss ts → UseFault es ss ts f → ⊥
used_or_fault es ss ts f h (here {s = s} {t = t} a q) = apart_or_consistent s t h.0 a
used_or_fault es ss ts f h (later {es = es1} {ss = ss1} {ts = ts1} c u) = used_or_fault es1 ss1 ts1 f h.1 u

pub use_fault_once : (es : List Expr) (ss ts : List Ty) (f g : Refusal) → UseFault es ss ts f → UseFault es ss ts g → f ≡ g
use_fault_once es ss ts f g (here {e = e} {es = es1} {s = s} {t = t} {ss = ss1} {ts = ts1} a q) k =
    elim (use_row (e ∷ es1) (s ∷ ss1) (t ∷ ts1) g k) [ inl x ↦ q ∙ sym x.1 | inr x ↦ absurd (apart_or_consistent s t x.0 a) ]
use_fault_once es ss ts f g (later {e = e} {es = es1} {s = s} {t = t} {ss = ss1} {ts = ts1} c u) k =
    elim (use_row (e ∷ es1) (s ∷ ss1) (t ∷ ts1) g k) [ inl x ↦ absurd (apart_or_consistent s t c x.0) | inr x ↦ use_fault_once es1 ss1 ts1 f g u x.1 ]
