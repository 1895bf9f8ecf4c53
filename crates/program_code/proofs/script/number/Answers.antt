use Rattle.std.proofs.Common.{◌≡◌, ◌∙◌, ap, map}
use Rattle.std.specs.Prelude.{List}
use Rattle.mono_syntax.specs.declared.cast.CastClass.{CastClass}
use Rattle.program_code.proofs.ScriptLaws.{take_few}
use Rattle.program_code.proofs.TypedSlots.{script_slotted}
use Rattle.program_code.proofs.script.number.Goals as goal

pub program-requires-clause-slotted : goal.program-requires-clause-slotted
program-requires-clause-slotted c =
    script_slotted c.args.script.now c.args.table.types c.requires.closed c.requires.types c.requires.typed

pub program-requires-clause-classes : goal.program-requires-clause-classes
program-requires-clause-classes c =
    c.requires.classes ∙ ap (λ (l : List CastClass). map (λ d. d.ty) l) (take_few c.args.script.now.classes c.in_ok-counted.ensures.few.classes)
