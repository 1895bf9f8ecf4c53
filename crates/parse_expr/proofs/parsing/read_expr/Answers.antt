use Rattle.std.proofs.Common.{[], arith, sym, ◌∙◌, subst}
use Rattle.parse_expr.specs.declared.machine.Mode.TheVariants as mode
use Rattle.parse_expr.specs.Grammar.{IsExpr}
use Rattle.parse_expr.specs.Stretches.{IsRead, IsReadFault}
use Rattle.parse_expr.specs.computed.Reading.{step}
use Rattle.parse_expr.specs.computed.Goes.{Goes}
use Rattle.parse_expr.proofs.Readings.{expr_light}
use Rattle.parse_expr.proofs.Loops.{so_far, run_start, reads_exprs, if_ok, if_err, expr_more, expr_accepted, expr_refused}
use Rattle.parse_expr.proofs.parsing.read_expr.Goals as goal

pub loop-mode-init : goal.loop-mode-init
loop-mode-init c =
    record {
      after = omega arith;
      within = c.requires.from;
      runs =
          subst (λ k. Goes (step c.args.room) (mode.Want []) (so_far c.args.text.now c.args.tokens.now c.args.from c.args.from) (mode.Want k)) (sym c.new.ensures)
          (run_start (step c.args.room) _ _ _ (reads_exprs c.args.room) c.args.text.now c.args.tokens.now c.args.from);
    }

pub step-requires : goal.step-requires
step-requires c = expr_light c.args.room _ c.loop-mode.mode c.requires.room c.loop-mode.invariant.runs

pub returns-in-Stop-clause-accepted : goal.returns-in-Stop-clause-accepted
returns-in-Stop-clause-accepted c =
    if_ok c.expr_answer.result
    (λ x p. subst (IsRead (IsExpr c.args.room) c.args.text.now c.args.tokens.now c.args.from x.0) (sym p.1)
    (expr_accepted c.args.room c.args.text.now c.args.tokens.now c.args.from c.loop-mode.at _ c.loop-mode.mode c.in_ok-token.token c.in-Stop.found x.0 c.loop-mode.invariant.after c.loop-mode.invariant.within
    c.loop-mode.invariant.runs c.in_ok-token.ensures (sym c.in-Stop.is ∙ c.in_ok-next.ensures) p.0))
    c.expr_answer.ensures.accepted

pub returns-in-Stop-clause-refused : goal.returns-in-Stop-clause-refused
returns-in-Stop-clause-refused c =
    if_err c.expr_answer.result
    (λ x p. subst (IsReadFault (IsExpr c.args.room) c.args.text.now c.args.tokens.now c.args.from) (sym p.1)
    (expr_refused c.args.room c.args.text.now c.args.tokens.now c.args.from c.loop-mode.at _ c.loop-mode.mode c.in_ok-token.token c.in-Stop.found c.loop-mode.invariant.after c.loop-mode.invariant.within
    c.loop-mode.invariant.runs c.in_ok-token.ensures (sym c.in-Stop.is ∙ c.in_ok-next.ensures) p.0))
    c.expr_answer.ensures.refused

pub loop-mode-preserved : goal.loop-mode-preserved
loop-mode-preserved c =
    let x =
    expr_more c.args.room _ c.args.text.now c.args.tokens.now c.args.from c.loop-mode.at _ c.loop-mode.mode c.in-Go.next c.in_ok-token.token c.requires.lexed c.loop-mode.invariant.after c.loop-mode.invariant.within
    c.loop-mode.invariant.runs c.in_ok-token.ensures (sym c.in-Go.is ∙ c.in_ok-next.ensures) in
    record { after = omega arith; within = x.0; runs = x.1 }
