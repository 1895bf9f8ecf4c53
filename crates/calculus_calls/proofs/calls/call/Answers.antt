use Rattle.std.proofs.Common.{◌∙◌, ap, length, Some}
use Rattle.mono_syntax.specs.declared.value.Val.{Val}
use Rattle.calculus_data.specs.computed.Entries.{entering, call_of}
use Rattle.cast_machine.specs.Calls.{call_row}
use Rattle.calculus_data.proofs.Taken.{call_some, ok_same}
use Rattle.calculus_calls.proofs.calls.call.Goals as goal

pub returns-in_ok-callee-in-Some : goal.returns-in_ok-callee-in-Some
returns-in_ok-callee-in-Some c =
    ok_same c.call_of.result
    (call_of c.args.site c.args.sites.now (entering c.args.begins (length c.args.sites.now)) c.in_ok-callee-in-Some.callee c.args.frame c.args.below)
    (call_row c.args.site c.args.sites.now (entering c.args.begins (length c.args.sites.now)) c.args.frame c.args.below)
    c.call_of.ensures
    (call_some c.args.site c.args.sites.now (entering c.args.begins (length c.args.sites.now)) c.args.frame c.args.below c.in_ok-callee-in-Some.callee
    (ap (λ (v : Val). Some v) c.in_ok-callee-in-Some.ensures ∙ c.in-Some.ensures))
