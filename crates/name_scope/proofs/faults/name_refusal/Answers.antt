use Rattle.std.proofs.Common.{◌∙◌}
use Rattle.name_scope.specs.computed.Table.{roles_in}
use Rattle.name_scope.proofs.NameFaultLaws.{name_answer}
use Rattle.name_scope.proofs.faults.name_refusal.Goals as goal

pub returns : goal.returns
returns c =
    let made = c.as_slice-definitions.ensures in
    name_answer c.args.script.now c.in_ok-found.found (roles_in c.in_ok-known.known.roles) c.as_slice-definitions.result.now c.as_slice-items.result.now
    (c.as_slice-items.ensures ∙ c.get.ensures) (made ∙ c.in_ok-defined.ensures) c.in_ok-known.ensures c.in_ok-found.ensures
