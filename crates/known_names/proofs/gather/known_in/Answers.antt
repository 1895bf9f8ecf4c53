use Rattle.known_names.specs.IsKnown.{IsKnownScript}
use Rattle.known_names.specs.computed.Gathered as computed
use Rattle.known_names.proofs.KnownLaws.{script_found}
use Rattle.known_names.proofs.Steps.{ok_so}
use Rattle.known_names.proofs.gather.known_in.Goals as goal

pub returns : goal.returns
returns c =
    let d = c.args.scoped.now in
    ok_so (IsKnownScript d.script) c.gathered.result (computed.gathered d) c.gathered.ensures (script_found d c.requires.scope)
