use Rattle.name_scope.proofs.TypedFunctionLaws.{one_more_function}
use Rattle.name_scope.proofs.blocks.with_function.Goals as goal

pub returns : goal.returns
returns c = λ first ds n.
    one_more_function first ds c.args.state (record { known = c.in_ok-names.known; types = c.push.new.self; blocks = c.push-2.new.self }) c.args.d.now
    c.in_ok-at.at c.in_ok-names.names c.in_ok-at.known c.in_ok-at.ensures.found c.in_ok-at.ensures.keeps c.in_ok-names.ensures.stand c.in_ok-names.ensures.keeps
    c.in_ok-push.ensures.ok c.in_ok-push-2.ensures.ok n
