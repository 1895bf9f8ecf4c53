use Rattle.mono_cli.proofs.PutAnswers.{answers_also}
use Rattle.mono_cli.proofs.TextAnswers.{program_answers}
use Rattle.load_script.proofs.NameTexts.{program_texts}
use Rattle.mono_cli.proofs.ProgramTree.{program_grammatical, program_sites}
use Rattle.mono_cli.proofs.run.answer_text.Goals as goal

pub returns-in-Ok : goal.returns-in-Ok
returns-in-Ok g c =
    answers_also _ _ (λ a h. program_answers c.args.verb c.args.text.now c.in-Ok.accepted c.in-Ok.ensures.accepted c.in-Ok.ensures.refuses a h) _ _ _ c.answer_accepted.ensures

pub answer_accepted-requires-clause-tree : goal.answer_accepted-requires-clause-tree
answer_accepted-requires-clause-tree g c = program_grammatical c.args.text.now c.in-Ok.accepted c.in-Ok.ensures.accepted

pub answer_accepted-requires-clause-texts : goal.answer_accepted-requires-clause-texts
answer_accepted-requires-clause-texts g c = program_texts c.args.text.now c.in-Ok.accepted c.in-Ok.ensures.accepted

pub answer_accepted-requires-clause-sites : goal.answer_accepted-requires-clause-sites
answer_accepted-requires-clause-sites g c = program_sites c.args.text.now c.in-Ok.accepted c.in-Ok.ensures.accepted
