use Rattle.std.proofs.Common.{◌≡◌, ◌≤◌, ◌<◌, ◌+◌, ◌∷◌, [], ◌++◌, sym, subst, ◌∙◌, List, ap, ℕ, length, arith, length-append}
use Rattle.std.specs.Prelude.{Option}
use Rattle.std.proofs.lemmas.Result.{err_from_is_err_and}
use Rattle.mono_syntax.specs.Ty.{Ty}
use Rattle.mono_tree.specs.ClosedList.{with_row}
use Rattle.type_shapes.specs.computed.PairMeets.{pair_list}
use Rattle.type_shapes.specs.Numbered.{IsRow}
use Rattle.mono_tree.proofs.ClosedPuts.{IsBeginning, begins_on, length_begins}
use Rattle.type_shapes.proofs.Going.{meets_longer}
use Rattle.type_shapes.proofs.RowTurns.{row_left, pair_left, pair_fault, begins_pair, row_more}
use Rattle.type_shapes.proofs.rows.row.Goals as goal

pub pair-requires-clause-right : goal.pair-requires-clause-right
pair-requires-clause-right c = meets_longer c.args.set.now.keys c.loop-j.set.keys c.loop-j.invariant.begins c.args.rows.now c.args.i (omega arith) c.requires.right

pub returns-in_err-met-clause-fault : goal.returns-in_err-met-clause-fault
returns-in_err-met-clause-fault c =
    let p = err_from_is_err_and c.from_residual.result c.from_residual.ensures.1 in
    rw (p.1, p.2) (pair_fault c.args.set.now.keys c.loop-j.set.keys c.args.i c.loop-j.j c.loop-j-test.true c.requires.inside c.loop-j.invariant.begins (with_row c.args.set.now.keys c.args.i) _ c.loop-j.invariant.same c.in_err-met.ensures.fault)

pub loop-j-preserved : goal.loop-j-preserved
loop-j-preserved c =
    let k : c.pair.new.set.keys ≡ pair_list c.loop-j.set.keys c.loop-j.j c.args.i = c.in_ok-met.ensures.keys in
    let b : IsBeginning c.loop-j.set.keys c.pair.new.set.keys = subst (IsBeginning c.loop-j.set.keys) (sym k) (begins_pair c.loop-j.set.keys c.args.i c.loop-j.j) in
    let l : length c.args.set.now.keys ≤ length c.loop-j.set.keys = length_begins c.args.set.now.keys c.loop-j.set.keys c.loop-j.invariant.begins in
    let q : c.push.new.self ≡ c.loop-j.made ++ c.in_ok-met.met ∷ [] = c.in_ok-push.ensures.ok in
    let inside : c.args.i < length c.args.set.now.keys = c.requires.inside in
    record {
      numbered = c.in_ok-met.ensures.numbered;
      fine = c.in_ok-met.ensures.fine;
      begins = begins_on c.args.set.now.keys c.loop-j.set.keys c.pair.new.set.keys c.loop-j.invariant.begins b;
      same = ap (λ (x : List Ty). row_left c.args.set.now.keys x c.args.i (c.loop-j.j + 1)) k
          ∙ pair_left c.args.set.now.keys c.loop-j.set.keys c.args.i c.loop-j.j c.loop-j-test.true c.requires.inside c.loop-j.invariant.begins ∙ c.loop-j.invariant.same;
      even = ap length q ∙ simp length-append (ap (λ (n : ℕ). n + 1) c.loop-j.invariant.even);
      named = subst (λ (x : List (Option ℕ)). IsRow c.pair.new.set.keys x c.args.i (c.loop-j.j + 1)) (sym q)
          (row_more c.loop-j.set.keys c.pair.new.set.keys c.loop-j.made c.args.i c.loop-j.j c.in_ok-met.met b c.loop-j-test.true (omega arith) c.loop-j.invariant.even c.loop-j.invariant.named c.in_ok-met.ensures.named);
    }
