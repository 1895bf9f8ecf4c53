use Rattle.class_types.proofs.WritesLaws.{writes-unique, any-unique, class-unique, function-unique}
use Rattle.class_types.proofs.laws.written_types_are_unique.Goals as goal

pub returns : goal.returns
returns c = record {
  annotation = λ cs a t u p q. writes-unique u p q;
  any = any-unique;
  class = class-unique;
  function = function-unique;
}
