use Rattle.std.proofs.Common.{List, Err, subst}
use Rattle.mono_syntax.specs.Stmt.{Stmt}
use Rattle.mono_syntax.specs.StmtView.{block}
use Rattle.known_names.specs.computed.Gives.{Gives}
use Rattle.consistency.specs.declared.lines.State.{State}
use Rattle.consistency.specs.computed.Lined.{block_typed}
use Rattle.consistency.specs.computed.Scripted.{function_end}
use Rattle.rule_choice.proofs.Given.{stopped}
use Rattle.consistency.proofs.script.body_typed.Goals as goal

-- src/script.rt:58:1
pub returns-in-Err : goal.returns-in-Err
returns-in-Err c =
    let start : State = record { local = c.args.local; trace = c.args.trace } in
    let told = subst (λ (z : List Stmt). Gives {A = State} (Err c.in-Err.fault) (block_typed c.args.known.now start (block z))) c.as_slice.ensures c.in-Err.ensures in
    stopped c.in-Err.fault (block_typed c.args.known.now start (block c.args.function.now.body)) (λ x. function_end c.args.local.result c.args.function.now x.trace) told
