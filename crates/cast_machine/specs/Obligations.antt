-- The obligations of an object for a type.
use Rattle.std.specs.Prelude.{ℕ, List, ◌∷◌, None}
use Rattle.mono_syntax.specs.Ty.{Fields, no_fields, more_fields}
use Rattle.cast_machine.specs.declared.data.Work.{Work}
use Rattle.cast_machine.specs.declared.data.Work.TheVariants as work

-- one obligation per field, the first in name order on top
abbrev pub obligations : ℕ → ℕ → Fields → List Work → List Work
obligations c a no_fields rest = rest
obligations c a (more_fields n t fs) rest = work.Obligation c a n t None ∷ obligations c a fs rest
