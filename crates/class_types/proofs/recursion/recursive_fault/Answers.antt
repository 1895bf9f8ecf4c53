use Rattle.std.proofs.Common.{◌≡◌, ◌∙◌, ap, subst, map, IfOk}
use Rattle.std.specs.Prelude.{MatchOption}
use Rattle.script_rules.specs.Definitions.{classes_of}
use Rattle.script_rules.specs.Scoping.{class_list}
use Rattle.script_rules.specs.FirstFault.{IsFirst, IsFaultless}
use Rattle.script_rules.specs.Recursion.{IsRecursive}
use Rattle.class_types.proofs.recursion.recursive_fault.Goals as goal

pub returns : goal.returns
returns c =
    let classes : map (λ d. d.now) c.as_slice-5.result.now ≡ class_list c.args.script.now
    = ap (map (λ d. d.now)) c.as_slice-5.ensures.value ∙ (c.in_ok-classes.ensures ∙ ap classes_of (c.as_slice.ensures ∙ c.get.ensures)) in
    subst (λ cs. IfOk c.first_fault.result (λ r. MatchOption r (IsFaultless (IsRecursive cs)) (IsFirst (IsRecursive cs)))) classes c.first_fault.ensures
