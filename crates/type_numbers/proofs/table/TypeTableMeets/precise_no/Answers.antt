use Rattle.std.proofs.Common.{◌≡◌, ◌∙◌, ◌↔◌, IsTrue, List, ℕ, false, nat_eq, ap, sym, subst}
use Rattle.std.specs.Prelude.{Option, Some, None}
use Rattle.mono_syntax.specs.Ty.{Ty}
use Rattle.mono_syntax.specs.declared.value.TypeNo.{TypeNo}
use Rattle.mono_tree.specs.Precise.{Precise}
use Rattle.mono_tree.specs.TypeNumbers.{Names, IsMeetNumber}
use Rattle.type_shapes.specs.computed.ByNumber.{met_no}
use Rattle.type_numbers.specs.Tables.{Table}
use Rattle.type_numbers.specs.computed.ShapeParts.{type_number}
use Rattle.type_numbers.proofs.TableLaws.{meet_told, precise_by, precise_apart, types_once}
use Rattle.type_numbers.proofs.table.TypeTableMeets.precise_no.Goals as goal

pub returns-in-Some : goal.returns-in-Some
returns-in-Some c =
    let r : type_number (met_no c.self.inside.rows.items c.args.a.0 c.args.b.0) ≡ Some c.in-Some.m =
    sym (c.meet_in.ensures ∙ ap (λ (l : List (List (Option ℕ))). type_number (met_no l c.args.a.0 c.args.b.0)) c.as_slice.ensures.value)
    ∙ c.in-Some.is in
    record {
      precise = subst (λ (t : Table). (x y : Ty) → Names t.types c.args.a x → Names t.types c.args.b y
          → IsTrue (nat_eq c.in-Some.m.0 c.args.a.0) ↔ Precise x y) c.self.view_is
          (λ x y e f. precise_by c.self.inside.set.keys x y (types_once _ _ _ _ _ _ c.self.invariant) c.in-Some.m c.args.a.0 e
          (subst (λ (o : Option TypeNo). IsMeetNumber c.self.inside.set.keys o x y) r
          (meet_told _ _ _ _ _ _ c.self.invariant c.args.a.0 c.args.b.0 x y e f)));
    }

pub returns-in-None : goal.returns-in-None
returns-in-None c =
    let r : type_number (met_no c.self.inside.rows.items c.args.a.0 c.args.b.0) ≡ None =
    sym (c.meet_in.ensures ∙ ap (λ (l : List (List (Option ℕ))). type_number (met_no l c.args.a.0 c.args.b.0)) c.as_slice.ensures.value)
    ∙ c.in-None.is in
    record {
      precise = subst (λ (t : Table). (x y : Ty) → Names t.types c.args.a x → Names t.types c.args.b y → IsTrue false ↔ Precise x y)
          c.self.view_is
          (λ x y e f. precise_apart c.self.inside.set.keys x y
          (subst (λ (o : Option TypeNo). IsMeetNumber c.self.inside.set.keys o x y) r
          (meet_told _ _ _ _ _ _ c.self.invariant c.args.a.0 c.args.b.0 x y e f)));
    }
