-- Loops over two lists at once: what is left decides.
use Rattle.std.proofs.Common.{◌≡◌, true, false, List, [], ◌∷◌, length, refl, arith}
use Rattle.mono_syntax.specs.declared.tree.Field as rust_field
use Rattle.mono_syntax.specs.Ty.{Ty}
use Rattle.mono_syntax.specs.computed.TyEq.{tys_eq, fields_eq}
use Rattle.mono_syntax.specs.TyView.{tys, fields}
use Rattle.std.specs.Prelude.{Bool, ◌&&◌}

and-false : (b : Bool) → b && false ≡ false
and-false true = refl
and-false false = refl

pub lengths_apart : (ts us : List Ty) → (length ts ≡ length us → ⊥) → false ≡ tys_eq (tys ts) (tys us)
lengths_apart [] [] n = absurd (n refl)
lengths_apart [] (u ∷ us) n = refl
lengths_apart (t ∷ ts) [] n = refl
lengths_apart (t ∷ ts) (u ∷ us) n = let e : false ≡ tys_eq (tys ts) (tys us) = lengths_apart ts us (λ e. n (omega arith)) in rw (← e, and-false) refl

pub field_lengths_apart : (ts us : List rust_field.Field) → (length ts ≡ length us → ⊥) → false ≡ fields_eq (fields ts) (fields us)
field_lengths_apart [] [] n = absurd (n refl)
field_lengths_apart [] (u ∷ us) n = refl
field_lengths_apart (t ∷ ts) [] n = refl
field_lengths_apart (t ∷ ts) (u ∷ us) n = let e : false ≡ fields_eq (fields ts) (fields us) = field_lengths_apart ts us (λ e. n (omega arith)) in rw (← e, and-false, and-false) refl

pub ruleset same_turns = (lengths_apart, field_lengths_apart)
