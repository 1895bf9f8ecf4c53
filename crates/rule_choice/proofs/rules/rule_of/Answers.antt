use Rattle.static_types.specs.Rules.{RuleOf, RuleFault}
use Rattle.known_names.specs.IsKnown.{names_in}
use Rattle.rule_choice.specs.GivenParts.{types_of}
use Rattle.rule_choice.specs.computed.Ruled.{ruled}
use Rattle.rule_choice.proofs.Given.{given_ok, given_err}
use Rattle.rule_choice.proofs.RuleLaws.{ruled_so}
use Rattle.rule_choice.proofs.rules.rule_of.Goals as goal

pub returns-clause-rule : goal.returns-clause-rule
returns-clause-rule c = λ cs fs known.
    let ks = c.args.known.now in
    let l = c.args.local.now in
    let e = c.args.e.now in
    let xs = c.args.parts.now in
    let ns = names_in cs fs l in
    given_ok (RuleOf ns e (types_of xs)) (RuleFault ns e (types_of xs)) c.rule_for.result (ruled ks l e xs) c.rule_for.ensures (ruled_so cs fs ks l known e xs)

pub returns-clause-refused : goal.returns-clause-refused
returns-clause-refused c = λ cs fs known.
    let ks = c.args.known.now in
    let l = c.args.local.now in
    let e = c.args.e.now in
    let xs = c.args.parts.now in
    let ns = names_in cs fs l in
    given_err (RuleOf ns e (types_of xs)) (RuleFault ns e (types_of xs)) c.rule_for.result (ruled ks l e xs) c.rule_for.ensures (ruled_so cs fs ks l known e xs)
