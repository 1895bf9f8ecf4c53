use Rattle.std.proofs.Common.{◌≡◌, ◌∙◌, ap, [], ◌∷◌, ◌++◌, length}
use Rattle.known_names.specs.declared.known.Local.{Local}
use Rattle.known_names.specs.computed.Gathered as computed
use Rattle.known_names.proofs.BodyTurns.{body_done}
use Rattle.known_names.proofs.gather.bodies.Goals as goal

pub loop-preserved : goal.loop-preserved
loop-preserved c =
    let d = c.args.scoped.now in
    let names : c.in_ok-names.names ≡ computed.function_names d (length c.loop.all) = c.in_ok-names.ensures ∙ ap (computed.function_names d) c.len.ensures in
    let pushed : c.push.new.self ≡ c.loop.all ++ computed.function_names d (length c.loop.all) ∷ [] = c.in_ok-push.ensures.ok ∙ ap (λ (l : Local). c.loop.all ++ l ∷ []) names in
    body_done d c.loop.all c.args.places.now c.loop.index c.push.new.self c.loop-test.true pushed c.loop.invariant
