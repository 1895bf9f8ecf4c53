use Rattle.std.proofs.Common.{◌≡◌, ◌∙◌, []}
use Rattle.std.proofs.lemmas.List.{nil_from_length}
use Rattle.std.proofs.lemmas.Result.{err_from_is_err_and}
use Rattle.mono_tree.specs.ClosedList.{base_types, first_types}
use Rattle.meet_closure.proofs.CloseLaws.{base_made, base_fault, given_made, given_fault}
use Rattle.meet_closure.proofs.closing.close.Goals as goal

pub returns-in_err-add_each-clause-refused : goal.returns-in_err-add_each-clause-refused
returns-in_err-add_each-clause-refused c =
    let n : c.new-set.result.keys ≡ [] = nil_from_length c.new-set.result.keys c.new-set.ensures.len in
    let p = err_from_is_err_and c.from_residual.result c.from_residual.ensures.1 in
    rw (p.1, p.2) (base_fault c.new-set.result.keys c.args.types.now _ n c.in_err-add_each.ensures.fault)

pub returns-in_err-add_each-2-clause-refused : goal.returns-in_err-add_each-2-clause-refused
returns-in_err-add_each-2-clause-refused c =
    let n : c.new-set.result.keys ≡ [] = nil_from_length c.new-set.result.keys c.new-set.ensures.len in
    let b : c.add_each.new.set.keys ≡ base_types = c.in_ok-add_each.ensures.keys ∙ base_made c.new-set.result.keys n in
    let p = err_from_is_err_and c.from_residual-in_err-add_each-2.result c.from_residual-in_err-add_each-2.ensures.1 in
    rw (p.1, p.2) (given_fault c.add_each.new.set.keys c.args.types.now _ b c.in_err-add_each-2.ensures.fault)

pub returns-in_err-_rows-clause-refused : goal.returns-in_err-_rows-clause-refused
returns-in_err-_rows-clause-refused c =
    let n : c.new-set.result.keys ≡ [] = nil_from_length c.new-set.result.keys c.new-set.ensures.len in
    let b : c.add_each.new.set.keys ≡ base_types = c.in_ok-add_each.ensures.keys ∙ base_made c.new-set.result.keys n in
    let f : c.add_each-2.new.set.keys ≡ first_types c.args.types.now = c.in_ok-add_each-2.ensures.keys ∙ given_made c.add_each.new.set.keys c.args.types.now b in
    let p = err_from_is_err_and c.from_residual-in_err-_rows.result c.from_residual-in_err-_rows.ensures.1 in
    rw (p.1, p.2) (c.in_err-_rows.ensures.refused c.args.types.now f)

pub returns-clause-closed : goal.returns-clause-closed
returns-clause-closed c =
    let n : c.new-set.result.keys ≡ [] = nil_from_length c.new-set.result.keys c.new-set.ensures.len in
    let b : c.add_each.new.set.keys ≡ base_types = c.in_ok-add_each.ensures.keys ∙ base_made c.new-set.result.keys n in
    let f : c.add_each-2.new.set.keys ≡ first_types c.args.types.now = c.in_ok-add_each-2.ensures.keys ∙ given_made c.add_each.new.set.keys c.args.types.now b in
    c.in_ok-_rows.ensures.closed c.args.types.now f
