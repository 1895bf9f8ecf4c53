use Rattle.std.proofs.Common.{take, drop}
use Rattle.std.specs.Prelude.{map}
use Rattle.script_rules.specs.Scoping.{class_list}
use Rattle.name_scope.specs.computed.Bound.{target_of}
use Rattle.name_scope.specs.computed.Typing.{EachWrites, NamesTyped}
use Rattle.name_scope.proofs.typing.typed_names.Given as goal

abbrev pub invariant-loop-t : goal.invariant-loop-t
invariant-loop-t l = record {
  done : NamesTyped l.initial.state.known (map target_of (take l.t-index l.targets)) l.state;
  left : EachWrites (class_list l.initial.state.known.script) (map target_of (drop l.t-index l.targets));
}
