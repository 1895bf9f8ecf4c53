use Rattle.std.proofs.Common.{sym, subst}
use Rattle.std.specs.Prelude.{Option}
use Rattle.known_names.specs.declared.known.KnownClass.{KnownClass}
use Rattle.known_names.specs.IsKnown.{IsSameClass}
use Rattle.static_types.specs.Parts.{class_called}
use Rattle.rule_choice.proofs.RuleLaws.{same_called}
use Rattle.rule_choice.proofs.rules.called_class.Goals as goal

pub returns-clause-class : goal.returns-clause-class
returns-clause-class c = λ cs fs known.
    subst (λ (z : Option KnownClass). IsSameClass cs (class_called cs c.args.callee.now) z) (sym c.class_of_callee.ensures) (same_called cs fs c.args.known.now known c.args.callee.now)
