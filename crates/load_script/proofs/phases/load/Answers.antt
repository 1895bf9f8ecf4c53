use Rattle.load_script.specs.Phases.{undecoded}
use Rattle.load_script.proofs.TextLoading.{text_fault, text_refuses}
use Rattle.load_script.proofs.phases.load.Goals as goal

pub returns-in-Ok-clause-refused : goal.returns-in-Ok-clause-refused
returns-in-Ok-clause-refused c = text_fault c.args.bytes.now c.in-Ok.text.now c.requires c.in-Ok.ensures.0 c.in-Ok.ensures.1 c.load_text.result c.load_text.ensures.refused

pub returns-in-Err-clause-refused : goal.returns-in-Err-clause-refused
returns-in-Err-clause-refused c = undecoded c.requires c.in-Err.ensures

pub returns-in-Ok-clause-refuses : goal.returns-in-Ok-clause-refuses
returns-in-Ok-clause-refuses c =
    text_refuses c.args.bytes.now c.in-Ok.text.now c.requires c.in-Ok.ensures.0 c.in-Ok.ensures.1 c.load_text.result c.load_text.ensures.refuses
