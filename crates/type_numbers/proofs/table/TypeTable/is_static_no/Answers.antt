use Rattle.std.proofs.Common.{◌↔◌, Bool, IsTrue, List, false, get_or, sym, subst}
use Rattle.mono_syntax.specs.Ty.{Ty}
use Rattle.mono_tree.specs.Static.{IsStatic}
use Rattle.mono_tree.specs.TypeNumbers.{Names}
use Rattle.type_numbers.specs.Tables.{Table}
use Rattle.type_numbers.proofs.TableLaws.{static_told}
use Rattle.type_numbers.proofs.table.TypeTable.is_static_no.Goals as goal

pub returns : goal.returns
returns c =
    subst (λ (t : Table). (x : Ty) → Names t.types c.args.a x → IsTrue (get_or c.as_slice.result.now c.args.a.0 false) ↔ IsStatic x)
    c.self.view_is
    (λ x e. subst (λ (l : List Bool). IsTrue (get_or l c.args.a.0 false) ↔ IsStatic x) (sym c.as_slice.ensures.value)
    (static_told _ _ _ _ _ _ c.self.invariant c.args.a.0 x e))
