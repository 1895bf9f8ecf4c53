use Rattle.std.proofs.Common.{sym, ◌∙◌, ap, subst}
use Rattle.parse_script.specs.declared.stage.Around.{Around}
use Rattle.parse_script.specs.declared.stage.Stage.TheVariants as stage
use Rattle.parse_script.specs.computed.Reading.{script_step, top}
use Rattle.parse_expr.specs.computed.Goes.{Goes}
use Rattle.parse_script.proofs.Exact.{start}
use Rattle.parse_script.proofs.Loops.{so_far, some_token, run_light, run_start, goes_on, refuses, accepts, leaves, if_ok, if_err}
use Rattle.parse_script.proofs.parsing.read.Goals as goal

pub loop-token-init : goal.loop-token-init
loop-token-init c =
    record {
      within = some_token _ c.args.tokens.now c.requires.lexed;
      runs =
          subst (λ (k : Around). Goes script_step start (so_far c.args.text.now c.args.tokens.now 0) (stage.Start k)) (sym (c.top.ensures ∙ ap top c.new.ensures))
          (run_start c.args.text.now c.args.tokens.now);
    }

pub script_step-requires : goal.script_step-requires
script_step-requires c = run_light (so_far c.args.text.now c.args.tokens.now c.loop-token.at) c.loop-token.stage c.loop-token.invariant.runs

pub loop-token-preserved : goal.loop-token-preserved
loop-token-preserved c =
    let x =
    goes_on _ c.args.text.now c.args.tokens.now c.loop-token.at _ c.loop-token.stage c.in-Go.next c.in_ok-token.token c.requires.lexed c.loop-token.invariant.within c.loop-token.invariant.runs
    c.in_ok-token.ensures (sym c.in-Go.is ∙ c.in_ok-next.ensures) in
    record { within = x.0; runs = x.1 }

pub returns-in-Done-clause-accepted : goal.returns-in-Done-clause-accepted
returns-in-Done-clause-accepted c =
    if_ok c.whole.result
    (λ s k. accepts c.args.text.now c.args.tokens.now c.loop-token.at _ c.loop-token.stage c.in_ok-token.token c.in-Done.items s c.loop-token.invariant.within c.loop-token.invariant.runs c.in_ok-token.ensures
    (sym c.in-Done.is ∙ c.in_ok-next.ensures) k)
    c.whole.ensures.accepted

pub returns-in-Done-clause-refused : goal.returns-in-Done-clause-refused
returns-in-Done-clause-refused c =
    if_err c.whole.result
    (λ f k. leaves c.args.text.now c.args.tokens.now c.loop-token.at _ c.loop-token.stage c.in_ok-token.token c.in-Done.items f c.loop-token.invariant.within c.loop-token.invariant.runs c.in_ok-token.ensures
    (sym c.in-Done.is ∙ c.in_ok-next.ensures) k)
    c.whole.ensures.refused

pub returns-in-Stop-clause-refused : goal.returns-in-Stop-clause-refused
returns-in-Stop-clause-refused c =
    refuses c.args.text.now c.args.tokens.now c.loop-token.at _ c.loop-token.stage c.in_ok-token.token c.refused.result c.loop-token.invariant.within c.loop-token.invariant.runs c.in_ok-token.ensures
    (sym c.in-Stop.is ∙ c.in_ok-next.ensures) c.refused.ensures
