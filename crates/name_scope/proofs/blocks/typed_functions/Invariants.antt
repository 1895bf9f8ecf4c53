use Rattle.std.proofs.Common.{take, drop}
use Rattle.script_rules.specs.Definitions.{functions_of}
use Rattle.script_rules.specs.Scoping.{class_list}
use Rattle.name_scope.specs.computed.Typing.{AreTypable, FunctionsTyped}
use Rattle.name_scope.proofs.blocks.typed_functions.Given as goal

abbrev pub invariant-loop-item : goal.invariant-loop-item
invariant-loop-item l = record {
  done : FunctionsTyped l.initial.state.known (functions_of (take l.item-index l.items)) l.state;
  left : AreTypable (class_list l.initial.state.known.script) (functions_of (drop l.item-index l.items));
}
