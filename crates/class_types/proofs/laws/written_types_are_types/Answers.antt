use Rattle.class_types.proofs.OrderedNames.{order-names, order-order, written-type}
use Rattle.class_types.proofs.laws.written_types_are_types.Goals as goal

pub returns : goal.returns
returns c = record {
  kept = order-names;
  ordered = order-order;
  types = λ cs a t well h w. written-type cs well a t h w;
}
