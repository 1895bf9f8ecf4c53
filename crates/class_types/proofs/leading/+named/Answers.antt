use Rattle.std.proofs.Common.{refl}
use Rattle.mono_syntax.specs.AnnView.{anns}
use Rattle.class_types.specs.computed.FoundFaults.{found}
use Rattle.class_types.specs.computed.Leading.{word_fault}
use Rattle.script_rules.specs.Recursion.{names_in, names_in_all}
use Rattle.class_types.proofs.FoundLaws.{found-next}
use Rattle.class_types.proofs.leading.+named.Goals as goal

pub named_all-loop-ann-preserved : goal.named_all-loop-ann-preserved
named_all-loop-ann-preserved t c =
    let faults = word_fault c.args.names.now c.args.marks.now in
    found-next faults names_in (λ l. names_in_all (anns l)) (λ x xs. refl) c.args.list.now c.loop-ann.ann-index c.ann-item.result c.loop-ann.so_far c.named-so_far.result
    (found faults c.args.so_far (names_in_all (anns c.args.list.now))) c.loop-ann-test.true c.ann-item.is c.named-so_far.ensures c.loop-ann.invariant
