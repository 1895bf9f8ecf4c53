use Rattle.std.proofs.Common.{refl}
use Rattle.mono_cli.proofs.CommandAnswers.{answers_long}
use Rattle.mono_cli.proofs.top.answer_file.Goals as goal

pub returns-in-Err-TooLong : goal.returns-in-Err-TooLong
returns-in-Err-TooLong g c =
    let h = rw c.in-Err-TooLong.field-0-is at c.in-Err-TooLong.ensures.too_long in
    let l = h refl in
    answers_long c.args.verb c.args.file.now (g.H.Shelf.told c.args.shelf.now) _ _ l.0 _ _ _ c.put_refusal.ensures
