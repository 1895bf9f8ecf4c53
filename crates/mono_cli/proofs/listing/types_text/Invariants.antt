use Rattle.std.proofs.Common.{◌≡◌, ◌++◌, drop}
use Rattle.mono_cli.specs.Answer.{types_text}
use Rattle.mono_cli.proofs.listing.types_text.Given as goal

abbrev pub invariant-loop-number : goal.invariant-loop-number
invariant-loop-number l = l.text.items ++ types_text l.number (drop l.number l.types) ≡ types_text 0 l.types
