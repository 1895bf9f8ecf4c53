use Rattle.std.proofs.Common.{rules, ◌≡◌, sym, subst}
use Rattle.written_types.specs.ScriptTypes.{AreScriptTypes}
use Rattle.load_script.proofs.phases.closed_types.Goals as goal

pub returns-clause-accepted : goal.returns-clause-accepted
returns-clause-accepted c =
    let s = c.args.script.now.scoped.script in
    let same : c.as_slice-2.result.now ≡ c.in_ok-shared.shared = search rules in
    c.close_written.ensures.accepted s (subst (AreScriptTypes s) (sym same) c.in_ok-shared.ensures)

pub returns-clause-refused : goal.returns-clause-refused
returns-clause-refused c =
    let s = c.args.script.now.scoped.script in
    let same : c.as_slice-2.result.now ≡ c.in_ok-shared.shared = search rules in
    c.close_written.ensures.refused s (subst (AreScriptTypes s) (sym same) c.in_ok-shared.ensures)

pub returns-clause-refuses : goal.returns-clause-refuses
returns-clause-refuses c = λ r f.
    let s = c.args.script.now.scoped.script in
    let same : c.as_slice-2.result.now ≡ c.in_ok-shared.shared = search rules in
    c.close_written.ensures.refuses s (subst (AreScriptTypes s) (sym same) c.in_ok-shared.ensures) r f
