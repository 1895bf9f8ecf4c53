use Rattle.written_types.proofs.Example.{example_written}
use Rattle.written_types.proofs.Uniqueness.{script_types_unique}
use Rattle.written_types.proofs.laws.one_list.Goals as goal

pub returns : goal.returns
returns c = record {
  once = script_types_unique;
  example = example_written;
}
