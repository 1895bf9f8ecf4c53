use Rattle.std.proofs.Common.{refl}
use Rattle.mono_syntax.specs.AnnView.{anns}
use Rattle.class_types.specs.computed.FoundFaults.{wide}
use Rattle.script_rules.specs.SourceParts.{callables, callables_all}
use Rattle.class_types.proofs.FoundLaws.{found-next}
use Rattle.class_types.proofs.faults.+wide.Goals as goal

pub wide_all-loop-ann-preserved : goal.wide_all-loop-ann-preserved
wide_all-loop-ann-preserved t c = found-next wide callables (λ l. callables_all (anns l)) (λ x xs. refl) _ _ _ _ _ _ c.loop-ann-test.true c.ann-item.is c.wide-so_far.ensures c.loop-ann.invariant
