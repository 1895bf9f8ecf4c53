use Rattle.std.proofs.Common.{◌≤◌, length, arith}
use Rattle.strengthen.proofs.FittedWords.{held_fits, held_of_table, named, opened_word, set_word, small}
use Rattle.strengthen.proofs.demands.at_meet.Goals as goal

pub set_fitted-requires : goal.set_fitted-requires
set_fitted-requires c =
    let few : length c.args.table.now.types ≤ 4095 = omega (arith, c.count-count.ensures.count, c.count-count.ensures.few) in
    let meet = named c.args.table.now.types c.args.met c.requires.range in (
      small c.args.table.now.types c.args.met c.requires.range few,
      held_fits c.args.table.now c.args.value meet.0 c.in-Holds.fitted few c.requires.value c.requires.payload
          (c.in-Holds.ensures meet.0 meet.1),
    )

pub returns-in-Holds-clause-word : goal.returns-in-Holds-clause-word
returns-in-Holds-clause-word c =
    let t = c.args.table.now in
    let meet = named t.types c.args.met c.requires.range in
    set_word t c.args.seen c.args.met c.in-Holds.fitted c.set_fitted.result c.requires.range
    (held_of_table t c.args.value meet.0 c.in-Holds.fitted c.requires.value (c.in-Holds.ensures meet.0 meet.1)) c.set_fitted.ensures

pub returns-in-Opens-clause-word : goal.returns-in-Opens-clause-word
returns-in-Opens-clause-word c =
    opened_word c.args.table.now c.args.top c.args.seen c.args.value c.args.met c.at_object.result c.requires.range c.requires.value
    c.at_object.ensures
