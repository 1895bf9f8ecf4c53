-- Parts or the types that are asked of them are over.
use Rattle.std.proofs.Common.{◌≡◌, List, [], ◌∷◌, length, refl, arith}
use Rattle.std.specs.Prelude.{None}
use Rattle.mono_syntax.specs.Ty.{Ty}
use Rattle.rule_choice.specs.declared.parts.Part.{Part}
use Rattle.rule_choice.specs.computed.Apart.{first_apart}

pub no_parts_left : (xs : List Part) (ts : List Ty) → length xs ≡ 0 → first_apart xs ts ≡ None
no_parts_left [] ts h = refl
no_parts_left (x ∷ xs) ts h = absurd (omega arith)

pub no_types_left : (xs : List Part) (ts : List Ty) → length ts ≡ 0 → first_apart xs ts ≡ None
no_types_left [] ts h = refl
no_types_left (x ∷ xs) [] h = refl
no_types_left (x ∷ xs) (t ∷ ts) h = absurd (omega arith)

pub ruleset over = (no_parts_left, no_types_left)
