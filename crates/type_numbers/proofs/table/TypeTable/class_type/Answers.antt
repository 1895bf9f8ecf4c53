use Rattle.std.proofs.Common.{◌<◌, ℕ, length, get_or, sym, subst}
use Rattle.mono_syntax.specs.Ty.{Ty}
use Rattle.mono_tree.specs.TypeNumbers.{IsInRange, Names}
use Rattle.type_numbers.specs.Tables.{Table, IsClass, IsClassType}
use Rattle.type_numbers.proofs.TableLaws.{class_length, class_range, class_named}
use Rattle.type_numbers.proofs.table.TypeTable.class_type.Goals as goal

pub bounds-as_slice-c : goal.bounds-as_slice-c
bounds-as_slice-c c =
    let l = subst (λ (t : Table). IsClass t c.args.c) (sym c.self.view_is) c.requires in
    rw c.as_slice.ensures.value (subst (λ (n : ℕ). c.args.c.0 < n) (class_length c.self.inside.set.keys c.self.inside.classes.items) l)

pub returns-clause-range : goal.returns-clause-range
returns-clause-range c =
    let l = subst (λ (t : Table). IsClass t c.args.c) (sym c.self.view_is) c.requires in
    subst (λ (t : Table). IsInRange t.types (get_or c.as_slice.result.now c.args.c.0 (record { 0 = 0 }))) c.self.view_is
    (rw c.as_slice.ensures.value (class_range (length c.self.inside.set.keys) c.self.inside.classes.items c.args.c.0
    (record { 0 = 0 }) c.self.invariant.classes
    (subst (λ (n : ℕ). c.args.c.0 < n) (class_length c.self.inside.set.keys c.self.inside.classes.items) l)))

pub returns-clause-names : goal.returns-clause-names
returns-clause-names c =
    subst (λ (t : Table). (x : Ty) → IsClassType t c.args.c x → Names t.types
    (get_or c.as_slice.result.now c.args.c.0 (record { 0 = 0 })) x) c.self.view_is
    (λ x e. rw c.as_slice.ensures.value (class_named c.self.inside.set.keys c.self.inside.classes.items c.args.c.0
    (record { 0 = 0 }) x c.self.invariant.classes e))
