use Rattle.std.proofs.Common.{◌<◌, ◌∙◌, ℕ, List, set, ap, length, refl, arith}
use Rattle.cast_machine.specs.declared.data.Cell.{Cell}
use Rattle.calculus_data.proofs.HeapWrites.{place_within, place_writes, place_absent}
use Rattle.calculus_data.proofs.heap.set_in.Goals as goal

pub index_mut-requires : goal.index_mut-requires
index_mut-requires c =
    let h = c.args.objects.now.items in
    let within : c.in-Some.at < length h = place_within h h refl c.args.base c.in-Some.at (c.in-Some.ensures h c.requires.starts) in
    omega (arith, c.args.objects.now.ok)

pub returns-in-Some : goal.returns-in-Some
returns-in-Some c =
    let h = c.args.objects.now.items in
    ap (λ (cells : List (List ℕ × Cell)). set h c.in-Some.at (record c.index_mut.result.now { cells = cells })) c.set.ensures
    ∙ place_writes h h refl c.args.base c.in-Some.at c.args.field.now c.args.cell c.index_mut.result.now (c.in-Some.ensures h c.requires.starts) c.index_mut.ensures.value

pub returns-in_default : goal.returns-in_default
returns-in_default c =
    let h = c.args.objects.now.items in
    place_absent h h refl c.args.base c.args.field.now c.args.cell (c.in_default.ensures h c.requires.starts)
