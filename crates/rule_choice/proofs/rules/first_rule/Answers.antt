use Rattle.static_types.specs.Rules.{CalleeRule, CalleeFault}
use Rattle.rule_choice.specs.GivenParts.{types_of}
use Rattle.rule_choice.specs.computed.Ruled as computed
use Rattle.rule_choice.proofs.Given.{given_ok, given_err}
use Rattle.rule_choice.proofs.RuleLaws.{first_so}
use Rattle.rule_choice.proofs.rules.first_rule.Goals as goal

pub returns-clause-rule : goal.returns-clause-rule
returns-clause-rule c =
    let p = c.args.bracket in
    let xs = c.args.parts.now in
    given_ok (CalleeRule (types_of xs)) (CalleeFault p (types_of xs)) c.rule_of_first.result (computed.first_rule p xs) c.rule_of_first.ensures (first_so p xs)

pub returns-clause-refused : goal.returns-clause-refused
returns-clause-refused c =
    let p = c.args.bracket in
    let xs = c.args.parts.now in
    given_err (CalleeRule (types_of xs)) (CalleeFault p (types_of xs)) c.rule_of_first.result (computed.first_rule p xs) c.rule_of_first.ensures (first_so p xs)
