use Rattle.std.proofs.Common.{◌∙◌}
use Rattle.rule_choice.specs.GivenParts.{IsUsed}
use Rattle.rule_choice.specs.computed.Apart as computed
use Rattle.rule_choice.proofs.CountLaws.{types_count}
use Rattle.rule_choice.proofs.Given.{given_so}
use Rattle.rule_choice.proofs.UseLaws.{uses_so}
use Rattle.rule_choice.proofs.parts.first_apart.Goals as goal

pub returns-clause-used : goal.returns-clause-used
returns-clause-used c = λ es places count.
    let xs = c.args.parts.now in
    let ts = c.args.asks.now in
    given_so (IsUsed es xs ts) c.apart.result (computed.first_apart xs ts) c.apart.ensures (uses_so es xs ts places (types_count xs ∙ count))
