use Rattle.std.proofs.Common.{ap, ◌≡◌, sym, subst, List, ℕ}
use Rattle.std.specs.Prelude.{slice_get, Some, option_copied}
use Rattle.std.proofs.lemmas.Result.{err_from_is_err_and}
use Rattle.mono_syntax.specs.Ty.{Ty}
use Rattle.mono_tree.specs.ClosedList.{put}
use Rattle.mono_tree.proofs.ClosedMembers.{get_in}
use Rattle.mono_tree.proofs.ClosedPuts.{put_there}
use Rattle.type_shapes.specs.declared.shape.Shape.{Shape}
use Rattle.type_shapes.specs.Numbered.{IsNumbered}
use Rattle.type_shapes.specs.Shows.{Shows}
use Rattle.type_shapes.proofs.LimitLaws.{within_limits}
use Rattle.type_shapes.proofs.NumberLaws.{Inserted, number_old, numbered_new, absent_new, found_new, number_new}
use Rattle.type_shapes.proofs.rows.number.Goals as goal

pub returns-then-not-is_new-clause-keys : goal.returns-then-not-is_new-clause-keys
returns-then-not-is_new-clause-keys c =
    let h : Inserted c.args.shapes.now.keys c.insert_full.new.self.keys c.args.shape c.in_ok-at.is_new c.in_ok-at.at =
    record { added = c.in_ok-at.ensures.added; keys = c.in_ok-at.ensures.keys; stored = c.in_ok-at.ensures.stored } in
    λ m p. sym (put_there c.args.set.now.keys m (get_in c.args.set.now.keys c.in_ok-at.at m
    (number_old c.args.names.now c.args.set.now.keys c.args.shapes.now.keys c.requires.numbered c.insert_full.new.self.keys c.args.shape
    c.in_ok-at.is_new c.in_ok-at.at h c.if-not-is_new.true m p)))

pub returns-then-not-is_new-clause-at : goal.returns-then-not-is_new-clause-at
returns-then-not-is_new-clause-at c =
    let h : Inserted c.args.shapes.now.keys c.insert_full.new.self.keys c.args.shape c.in_ok-at.is_new c.in_ok-at.at =
    record { added = c.in_ok-at.ensures.added; keys = c.in_ok-at.ensures.keys; stored = c.in_ok-at.ensures.stored } in
    λ m p. subst (λ (k : ℕ). slice_get c.args.set.now.keys k ≡ Some m) (sym c.small.ensures)
    (number_old c.args.names.now c.args.set.now.keys c.args.shapes.now.keys c.requires.numbered c.insert_full.new.self.keys c.args.shape
    c.in_ok-at.is_new c.in_ok-at.at h c.if-not-is_new.true m p)

pub small-requires : goal.small-requires
small-requires c =
    let h : Inserted c.args.shapes.now.keys c.insert_full.new.self.keys c.args.shape c.in_ok-at.is_new c.in_ok-at.at =
    record { added = c.in_ok-at.ensures.added; keys = c.in_ok-at.ensures.keys; stored = c.in_ok-at.ensures.stored } in
    let (m, p) = c.requires.shown in
    within_limits c.args.set.now.keys c.in_ok-at.at m c.requires.fine
    (number_old c.args.names.now c.args.set.now.keys c.args.shapes.now.keys c.requires.numbered c.insert_full.new.self.keys c.args.shape
    c.in_ok-at.is_new c.in_ok-at.at h c.if-not-is_new.true m p)

pub add_type-requires-clause-shown : goal.add_type-requires-clause-shown
add_type-requires-clause-shown c =
    let h : Inserted c.args.shapes.now.keys c.insert_full.new.self.keys c.args.shape c.in_ok-at.is_new c.in_ok-at.at =
    record { added = c.in_ok-at.ensures.added; keys = c.in_ok-at.ensures.keys; stored = c.in_ok-at.ensures.stored } in
    let n : c.unwrap-newest.result.now ≡ c.args.shape = found_new c.args.names.now c.args.set.now.keys c.args.shapes.now.keys c.requires.numbered c.insert_full.new.self.keys c.args.shape
    c.in_ok-at.is_new c.in_ok-at.at h (option_copied c.get_index.result) c.unwrap-newest.result.now
    c.get_index.ensures.key (ap option_copied c.unwrap-newest.ensures) in
    let (m, p) = c.requires.shown in
    (m, (subst (λ (s : Shape). Shows c.args.names.now c.args.set.now.keys s m) (sym n) p))

pub add_type-requires-clause-absent : goal.add_type-requires-clause-absent
add_type-requires-clause-absent c =
    let h : Inserted c.args.shapes.now.keys c.insert_full.new.self.keys c.args.shape c.in_ok-at.is_new c.in_ok-at.at =
    record { added = c.in_ok-at.ensures.added; keys = c.in_ok-at.ensures.keys; stored = c.in_ok-at.ensures.stored } in
    let n : c.unwrap-newest.result.now ≡ c.args.shape = found_new c.args.names.now c.args.set.now.keys c.args.shapes.now.keys c.requires.numbered c.insert_full.new.self.keys c.args.shape
    c.in_ok-at.is_new c.in_ok-at.at h (option_copied c.get_index.result) c.unwrap-newest.result.now
    c.get_index.ensures.key (ap option_copied c.unwrap-newest.ensures) in
    λ m p. absent_new c.args.names.now c.args.set.now.keys c.args.shapes.now.keys c.requires.numbered c.insert_full.new.self.keys c.args.shape
    c.in_ok-at.is_new c.in_ok-at.at h c.if-not-is_new.false m
    (subst (λ (s : Shape). Shows c.args.names.now c.args.set.now.keys s m) n p)

pub returns-in_err-add_type-clause-fault : goal.returns-in_err-add_type-clause-fault
returns-in_err-add_type-clause-fault c =
    let h : Inserted c.args.shapes.now.keys c.insert_full.new.self.keys c.args.shape c.in_ok-at.is_new c.in_ok-at.at =
    record { added = c.in_ok-at.ensures.added; keys = c.in_ok-at.ensures.keys; stored = c.in_ok-at.ensures.stored } in
    let n : c.unwrap-newest.result.now ≡ c.args.shape = found_new c.args.names.now c.args.set.now.keys c.args.shapes.now.keys c.requires.numbered c.insert_full.new.self.keys c.args.shape
    c.in_ok-at.is_new c.in_ok-at.at h (option_copied c.get_index.result) c.unwrap-newest.result.now
    c.get_index.ensures.key (ap option_copied c.unwrap-newest.ensures) in
    let q = err_from_is_err_and c.from_residual-in_err-add_type.result c.from_residual-in_err-add_type.ensures.1 in
    rw (q.1, q.2) (λ m p. c.in_err-add_type.ensures.fault m (subst (λ (s : Shape). Shows c.args.names.now c.args.set.now.keys s m) (sym n) p))

pub small-requires-2 : goal.small-requires-2
small-requires-2 c =
    let h : Inserted c.args.shapes.now.keys c.insert_full.new.self.keys c.args.shape c.in_ok-at.is_new c.in_ok-at.at =
    record { added = c.in_ok-at.ensures.added; keys = c.in_ok-at.ensures.keys; stored = c.in_ok-at.ensures.stored } in
    let n : c.unwrap-newest.result.now ≡ c.args.shape = found_new c.args.names.now c.args.set.now.keys c.args.shapes.now.keys c.requires.numbered c.insert_full.new.self.keys c.args.shape
    c.in_ok-at.is_new c.in_ok-at.at h (option_copied c.get_index.result) c.unwrap-newest.result.now
    c.get_index.ensures.key (ap option_copied c.unwrap-newest.ensures) in
    let (m, p) = c.requires.shown in
    let k : c.add_type.new.set.keys ≡ put c.args.set.now.keys m = c.in_ok-add_type.ensures.keys m (subst (λ (s : Shape). Shows c.args.names.now c.args.set.now.keys s m) (sym n) p) in
    within_limits c.add_type.new.set.keys c.in_ok-at.at m c.in_ok-add_type.ensures.fine
    (subst (λ (l : List Ty). slice_get l c.in_ok-at.at ≡ Some m) (sym k)
    (number_new c.args.names.now c.args.set.now.keys c.args.shapes.now.keys c.requires.numbered c.insert_full.new.self.keys c.args.shape
    c.in_ok-at.is_new c.in_ok-at.at h c.if-not-is_new.false m p))

pub returns-clause-numbered : goal.returns-clause-numbered
returns-clause-numbered c =
    let h : Inserted c.args.shapes.now.keys c.insert_full.new.self.keys c.args.shape c.in_ok-at.is_new c.in_ok-at.at =
    record { added = c.in_ok-at.ensures.added; keys = c.in_ok-at.ensures.keys; stored = c.in_ok-at.ensures.stored } in
    let n : c.unwrap-newest.result.now ≡ c.args.shape = found_new c.args.names.now c.args.set.now.keys c.args.shapes.now.keys c.requires.numbered c.insert_full.new.self.keys c.args.shape
    c.in_ok-at.is_new c.in_ok-at.at h (option_copied c.get_index.result) c.unwrap-newest.result.now
    c.get_index.ensures.key (ap option_copied c.unwrap-newest.ensures) in
    let (m, p) = c.requires.shown in
    let k : c.add_type.new.set.keys ≡ put c.args.set.now.keys m = c.in_ok-add_type.ensures.keys m (subst (λ (s : Shape). Shows c.args.names.now c.args.set.now.keys s m) (sym n) p) in
    subst (λ (l : List Ty). IsNumbered c.args.names.now l c.insert_full.new.self.keys) (sym k)
    (numbered_new c.args.names.now c.args.set.now.keys c.args.shapes.now.keys c.requires.numbered c.insert_full.new.self.keys c.args.shape
    c.in_ok-at.is_new c.in_ok-at.at h c.if-not-is_new.false m p)

pub returns-clause-keys : goal.returns-clause-keys
returns-clause-keys c =
    let h : Inserted c.args.shapes.now.keys c.insert_full.new.self.keys c.args.shape c.in_ok-at.is_new c.in_ok-at.at =
    record { added = c.in_ok-at.ensures.added; keys = c.in_ok-at.ensures.keys; stored = c.in_ok-at.ensures.stored } in
    let n : c.unwrap-newest.result.now ≡ c.args.shape = found_new c.args.names.now c.args.set.now.keys c.args.shapes.now.keys c.requires.numbered c.insert_full.new.self.keys c.args.shape
    c.in_ok-at.is_new c.in_ok-at.at h (option_copied c.get_index.result) c.unwrap-newest.result.now
    c.get_index.ensures.key (ap option_copied c.unwrap-newest.ensures) in
    λ m p. c.in_ok-add_type.ensures.keys m (subst (λ (s : Shape). Shows c.args.names.now c.args.set.now.keys s m) (sym n) p)

pub returns-clause-at : goal.returns-clause-at
returns-clause-at c =
    let h : Inserted c.args.shapes.now.keys c.insert_full.new.self.keys c.args.shape c.in_ok-at.is_new c.in_ok-at.at =
    record { added = c.in_ok-at.ensures.added; keys = c.in_ok-at.ensures.keys; stored = c.in_ok-at.ensures.stored } in
    let n : c.unwrap-newest.result.now ≡ c.args.shape = found_new c.args.names.now c.args.set.now.keys c.args.shapes.now.keys c.requires.numbered c.insert_full.new.self.keys c.args.shape
    c.in_ok-at.is_new c.in_ok-at.at h (option_copied c.get_index.result) c.unwrap-newest.result.now
    c.get_index.ensures.key (ap option_copied c.unwrap-newest.ensures) in
    λ m p.
    let k : c.add_type.new.set.keys ≡ put c.args.set.now.keys m = c.in_ok-add_type.ensures.keys m (subst (λ (s : Shape). Shows c.args.names.now c.args.set.now.keys s m) (sym n) p) in
    subst (λ (l : List Ty). slice_get l c.small-2.result ≡ Some m) (sym k)
    (subst (λ (i : ℕ). slice_get (put c.args.set.now.keys m) i ≡ Some m) (sym c.small-2.ensures)
    (number_new c.args.names.now c.args.set.now.keys c.args.shapes.now.keys c.requires.numbered c.insert_full.new.self.keys c.args.shape
    c.in_ok-at.is_new c.in_ok-at.at h c.if-not-is_new.false m p))
