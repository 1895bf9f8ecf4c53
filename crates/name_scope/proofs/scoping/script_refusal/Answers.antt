use Rattle.std.proofs.Common.{Option, subst}
use Rattle.std.specs.Prelude.{MatchOption}
use Rattle.mono_syntax.specs.declared.refusal.Refusal.{Refusal}
use Rattle.script_rules.specs.FirstFault.{IsFirst, IsFaultless}
use Rattle.script_rules.specs.ScopeFaults.{ScopeFault, misnamed}
use Rattle.name_scope.proofs.Answers.{sized}
use Rattle.name_scope.proofs.scoping.script_refusal.Goals as goal

pub returns-in-Some : goal.returns-in-Some
returns-in-Some c =
    let s = c.args.script.now in
    misnamed (subst (λ (o : Option Refusal). MatchOption o (IsFaultless (ScopeFault s)) (IsFirst (ScopeFault s))) c.in-Some.is c.in_ok-first.ensures)

pub returns-in_ok-size-in-None : goal.returns-in_ok-size-in-None
returns-in_ok-size-in-None c =
    let s = c.args.script.now in
    sized s c.in_ok-size-in-None.size (subst (λ (o : Option Refusal). MatchOption o (IsFaultless (ScopeFault s)) (IsFirst (ScopeFault s))) c.in-None.is c.in_ok-first.ensures)
    c.in_ok-size-in-None.ensures
