use Rattle.std.proofs.Common.{◌≡◌, ◌∙◌, sym, subst}
use Rattle.std.specs.Prelude.{Contains, Some, slice_get}
use Rattle.mono_tree.proofs.ClosedPuts.{isnt_there}
use Rattle.type_shapes.proofs.ShapeTurns.{place_of}
use Rattle.type_numbers.specs.Tables.{Table}
use Rattle.type_numbers.proofs.table.TypeTable.number_of.Goals as goal

pub returns-in-Some-clause-found : goal.returns-in-Some-clause-found
returns-in-Some-clause-found c =
    subst (λ (t : Table). slice_get t.types c.in-Some.at ≡ Some c.args.a.now) c.self.view_is
    (place_of c.self.inside.set.keys c.args.a.now c.in-Some.at (sym c.get_index_of.ensures.index ∙ c.in-Some.is))

pub returns-in-None-clause-absent : goal.returns-in-None-clause-absent
returns-in-None-clause-absent c =
    subst (λ (t : Table). Contains t.types c.args.a.now → ⊥) c.self.view_is
    (isnt_there c.self.inside.set.keys c.args.a.now (sym c.in-None.ensures.found))
