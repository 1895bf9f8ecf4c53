-- One of two rows is over.
use Rattle.std.proofs.Common.{◌≡◌, List, [], ◌∷◌, length, refl, arith}
use Rattle.mono_syntax.specs.declared.leaf.Kind.{Kind}
use Rattle.mono_syntax.specs.Ty.{Ty}
use Rattle.rule_choice.specs.declared.parts.Part.{Part}
use Rattle.cast_nodes.specs.declared.slots.Slots.{Slots}
use Rattle.cast_nodes.specs.computed.Placed.{put_casts, put_tested}

pub casts_over : (q : Slots) (xs : List Part) (ts : List Ty) → length xs ≡ 0 → put_casts q xs ts ≡ q
casts_over q [] ts h = refl
casts_over q (x ∷ xs) ts h = absurd (omega arith)

pub casts_asked : (q : Slots) (xs : List Part) (ts : List Ty) → length ts ≡ 0 → put_casts q xs ts ≡ q
casts_asked q [] ts h = refl
casts_asked q (x ∷ xs) [] h = refl
casts_asked q (x ∷ xs) (t ∷ ts) h = absurd (omega arith)

pub tests_over : (k : Kind) (q : Slots) (xs : List Part) (ts : List Ty) → length xs ≡ 0 → put_tested k q xs ts ≡ q
tests_over k q [] ts h = refl
tests_over k q (x ∷ xs) ts h = absurd (omega arith)

pub tests_asked : (k : Kind) (q : Slots) (xs : List Part) (ts : List Ty) → length ts ≡ 0 → put_tested k q xs ts ≡ q
tests_asked k q [] ts h = refl
tests_asked k q (x ∷ xs) [] h = refl
tests_asked k q (x ∷ xs) (t ∷ ts) h = absurd (omega arith)

pub ruleset over = (casts_over, casts_asked, tests_over, tests_asked)
