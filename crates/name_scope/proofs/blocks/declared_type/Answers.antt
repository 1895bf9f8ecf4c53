use Rattle.mono_syntax.specs.Ty.{Ty}
use Rattle.script_rules.specs.Scoping.{class_list}
use Rattle.script_rules.specs.Writes.{IsFunctionType}
use Rattle.name_scope.proofs.blocks.declared_type.Goals as goal

pub unreachable-requires : goal.unreachable-requires
unreachable-requires c =
    let none : (t : Ty) → IsFunctionType (class_list c.args.known.script) c.args.d.now t → ⊥ = rw c.in-None.is at c.in_ok-at.ensures.found in
    none c.requires.writes.0 c.requires.writes.1
