use Rattle.std.proofs.Common.{inr}
use Rattle.std.proofs.lemmas.Option.{slice_get_within}
use Rattle.strengthen.proofs.FittedWords.{fails, named}
use Rattle.strengthen.proofs.demands.at_pair.Goals as goal

pub at_meet-requires-clause-range : goal.at_meet-requires-clause-range
at_meet-requires-clause-range c =
    let r = named c.args.table.now.types c.args.recorded c.requires.recorded in
    let t = named c.args.table.now.types c.args.top.to c.requires.target in
    let found = c.in-Some.ensures.meet r.0 t.0 r.1 t.1 in
    slice_get_within c.args.table.now.types c.in-Some.met.0 found.0 found.1

pub returns-in-Some-clause-verdict : goal.returns-in-Some-clause-verdict
returns-in-Some-clause-verdict c = λ r t e f.
    let found = c.in-Some.ensures.meet r t e f in
    inr (
      fails (c.if-precise_no.ensures.precise r t e f),
      inr (c.in-Some.met, found.0, found.1, found.2, c.at_meet.ensures.verdict found.0 found.1),
    )
