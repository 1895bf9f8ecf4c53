use Rattle.std.proofs.Common.{Option, sym, subst}
use Rattle.std.specs.Prelude.{MatchOption}
use Rattle.mono_syntax.specs.declared.refusal.Refusal.{Refusal}
use Rattle.script_rules.specs.Scoping.{class_list}
use Rattle.script_rules.specs.FirstFault.{IsFirst, IsFaultless}
use Rattle.script_rules.specs.Recursion.{IsRecursive}
use Rattle.script_rules.specs.NameFaults.{NameFault}
use Rattle.script_rules.specs.ScopeFaults.{ScopeFault}
use Rattle.name_scope.proofs.FaultOrder.{both_first}
use Rattle.name_scope.proofs.scoping.first_refusal.Goals as goal

pub returns : goal.returns
returns c =
    let s = c.args.script.now in
    subst (λ (o : Option Refusal). MatchOption o (IsFaultless (ScopeFault s)) (IsFirst (ScopeFault s))) (sym c.first_of_both-first.ensures)
    (both_first (NameFault s) (IsRecursive (class_list s)) c.in_ok-names.names c.in_ok-classes.classes c.in_ok-names.ensures c.in_ok-classes.ensures)
