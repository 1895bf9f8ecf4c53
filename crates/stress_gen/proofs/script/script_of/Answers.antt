use Rattle.stress_gen.proofs.LineTexts.{text_parts}
use Rattle.stress_gen.proofs.script.script_of.Goals as goal

pub returns : goal.returns
returns c =
    let whole = rw c.head-head.ensures at c.format.ensures.ok in
    rw (text_parts c.args.n, ← c.in_ok-tasks.ensures, ← c.in_ok-starts.ensures, ← c.in_ok-joins.ensures) whole
