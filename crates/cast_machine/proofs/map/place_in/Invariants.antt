use Rattle.std.proofs.Common.{◌≡◌, drop, bytes_eq}
use Rattle.std.specs.List.{position_from}
use Rattle.cast_machine.proofs.map.place_in.Given as goal

abbrev pub invariant-loop-at : goal.invariant-loop-at
invariant-loop-at g l = position_from (λ p. bytes_eq p.0 l.name) l.at (drop l.at l.entries) ≡ position_from (λ p. bytes_eq p.0 l.name) 0 l.entries
