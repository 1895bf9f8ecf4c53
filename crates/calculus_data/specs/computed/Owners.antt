-- Computed: what the search for the item that owns the obligations above it computes.
use Rattle.std.specs.Prelude.{ℕ, Option, Some, None}
use Rattle.cast_machine.specs.declared.data.Work.{Work}
use Rattle.cast_machine.specs.declared.data.Work.TheVariants as work

-- its site: of a Fitted, and of a Write that may have one
abbrev pub owner_site : Work → Option (Option ℕ)
owner_site (work.Fitted k t j) = Some (Some k)
owner_site (work.Write m k t x r) = Some k
owner_site i = None
