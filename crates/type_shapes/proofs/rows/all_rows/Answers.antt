use Rattle.std.proofs.Common.{◌≡◌, ◌≤◌, ◌<◌, ◌+◌, ◌∷◌, [], ◌++◌, sym, subst, ◌∙◌, List, ap, ℕ, length, arith, length-append}
use Rattle.std.specs.Prelude.{Option}
use Rattle.std.proofs.lemmas.Result.{err_from_is_err_and}
use Rattle.type_shapes.specs.Shows.{AreMeets}
use Rattle.mono_tree.specs.ClosedList.{with_row}
use Rattle.mono_tree.proofs.ClosedPuts.{IsBeginning, length_begins}
use Rattle.type_shapes.proofs.AllRows.{rows_more, begins_row, next_here, fault_here, memory_whole, still_here, only_here}
use Rattle.type_shapes.proofs.rows.all_rows.Goals as goal

pub returns-in_err-made-clause-refused : goal.returns-in_err-made-clause-refused
returns-in_err-made-clause-refused c =
    let p = err_from_is_err_and c.from_residual.result c.from_residual.ensures.1 in
    rw (p.1, p.2) (λ types e. fault_here types c.loop-i.set.keys c.loop-i.i _ (c.loop-i.invariant.so_far types e) c.in_err-made.ensures.fault)

pub returns-in_err-push-clause-refused : goal.returns-in_err-push-clause-refused
returns-in_err-push-clause-refused c =
    let p = err_from_is_err_and c.from_residual-in_err-push.result c.from_residual-in_err-push.ensures.1 in
    rw (p.1, p.2) (λ types e. memory_whole types)

pub returns-in_err-made-clause-memory : goal.returns-in_err-made-clause-memory
returns-in_err-made-clause-memory c =
    let p = err_from_is_err_and c.from_residual.result c.from_residual.ensures.1 in
    rw (p.1, p.2) (λ h. only_here c.args.set.now.keys c.loop-i.set.keys c.loop-i.i _ h (c.loop-i.invariant.still h) c.loop-i.invariant.fine
    c.in_err-made.ensures.fault)

pub loop-i-smaller : goal.loop-i-smaller
loop-i-smaller c =
    let s : length c.loop-i.set.keys ≤ 4095 = c.loop-i.invariant.fine.few in
    let l : c.loop-i.i < length c.loop-i.set.keys = omega (arith, c.len.ensures.len) in
    omega arith

pub loop-i-preserved : goal.loop-i-preserved
loop-i-preserved c =
    let l : c.loop-i.i < length c.loop-i.set.keys = omega (arith, c.len.ensures.len) in
    let k : c.row.new.set.keys ≡ with_row c.loop-i.set.keys c.loop-i.i = c.in_ok-made.ensures.keys in
    let b : IsBeginning c.loop-i.set.keys c.row.new.set.keys = begins_row c.loop-i.set.keys c.row.new.set.keys c.loop-i.i k in
    let w : length c.loop-i.set.keys ≤ length c.row.new.set.keys = length_begins c.loop-i.set.keys c.row.new.set.keys b in
    let q : c.push.new.self.items ≡ c.loop-i.rows.items ++ c.in_ok-made.made ∷ [] = c.in_ok-push.ensures.items in
    record {
      numbered = c.in_ok-made.ensures.numbered;
      fine = c.in_ok-made.ensures.fine;
      so_far = λ types e. next_here types c.loop-i.set.keys c.row.new.set.keys c.loop-i.i (c.loop-i.invariant.so_far types e) k;
      still = λ h. still_here c.args.set.now.keys c.loop-i.set.keys c.row.new.set.keys c.loop-i.i h (c.loop-i.invariant.still h) k;
      even = ap length q ∙ simp length-append (ap (λ (n : ℕ). n + 1) c.loop-i.invariant.even);
      within = omega arith;
      right = subst (λ (x : List (List (Option ℕ))). AreMeets c.row.new.set.keys x (c.loop-i.i + 1)) (sym q)
          (rows_more c.loop-i.set.keys c.row.new.set.keys c.loop-i.rows.items c.in_ok-made.made c.loop-i.i b c.loop-i.invariant.even l c.loop-i.invariant.right c.in_ok-made.ensures.named);
    }
