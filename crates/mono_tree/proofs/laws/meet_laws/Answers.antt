use Rattle.mono_tree.specs.Precise.{below_dyn}
use Rattle.mono_tree.proofs.Order.{reflexive, transitive, antisymmetric}
use Rattle.mono_tree.proofs.MeetLaws.{meet_decides, none_decides, meet_exists, meet-swap, meet-itself, meet-regroup, meet_three-swap, meet_three-turn}
use Rattle.mono_tree.proofs.laws.meet_laws.Goals as goal

pub returns : goal.returns
returns c = record {
  reflexive = reflexive;
  antisymmetric = λ a b p q. antisymmetric p q;
  transitive = λ a b c p q. transitive p q;
  top = λ a. below_dyn;
  greatest = meet_decides;
  apart = none_decides;
  exists = meet_exists;
  commutative = meet-swap;
  idempotent = meet-itself;
  associative = meet-regroup;
  swapped = meet_three-swap;
  turned = meet_three-turn;
}
