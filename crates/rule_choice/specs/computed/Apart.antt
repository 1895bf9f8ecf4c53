-- Computed: uses of parts, as the code finds them.
use Rattle.std.specs.Prelude.{List, ◌∷◌, Option, Some, None, if◌then◌else◌}
use Rattle.mono_syntax.specs.declared.leaf.Place.{Place}
use Rattle.mono_syntax.specs.Ty.{Ty}
use Rattle.known_names.specs.computed.TypeTests.{consistent}
use Rattle.rule_choice.specs.declared.parts.Part.{Part}

-- where the first part stands that can't be used at its type
abbrev pub first_apart : List Part → List Ty → Option Place
first_apart (x ∷ xs) (t ∷ ts) = if consistent x.ty t then first_apart xs ts else Some x.place
first_apart xs ts = None
