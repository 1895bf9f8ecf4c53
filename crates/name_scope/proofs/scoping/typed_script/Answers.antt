use Rattle.std.proofs.Common.{Option, subst}
use Rattle.std.specs.Option.{IsSome}
use Rattle.class_types.specs.declared.table.ClassTypes.{ClassTypes}
use Rattle.name_scope.proofs.Answers.{right_names, right_classes}
use Rattle.name_scope.proofs.TypesOfScript.{classes_have_types, script_has_types}
use Rattle.name_scope.proofs.scoping.typed_script.Goals as goal

pub with_types-requires-clause-typed : goal.with_types-requires-clause-typed
with_types-requires-clause-typed c = let s = c.args.script.now in script_has_types s (right_names s c.requires) (right_classes s c.requires)

pub unreachable-requires : goal.unreachable-requires
unreachable-requires c =
    let s = c.args.script.now in
    let some = c.in_ok-known.ensures.found.1 (classes_have_types s (right_names s c.requires) (right_classes s c.requires)) in
    let none = subst (λ (o : Option ClassTypes). IsSome o) c.in-None.is some in
    absurd cc
