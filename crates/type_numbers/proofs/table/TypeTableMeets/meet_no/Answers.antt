use Rattle.std.proofs.Common.{◌∙◌, List, ℕ, ap, sym, subst}
use Rattle.std.specs.Prelude.{Option}
use Rattle.mono_syntax.specs.Ty.{Ty}
use Rattle.mono_syntax.specs.declared.value.TypeNo.{TypeNo}
use Rattle.mono_tree.specs.TypeNumbers.{Names, IsMeetNumber}
use Rattle.type_shapes.specs.computed.ByNumber.{met_no}
use Rattle.type_numbers.specs.Tables.{Table}
use Rattle.type_numbers.specs.computed.ShapeParts.{type_number}
use Rattle.type_numbers.proofs.TableLaws.{meet_told}
use Rattle.type_numbers.proofs.table.TypeTableMeets.meet_no.Goals as goal

pub returns : goal.returns
returns c =
    let r = c.meet_in.ensures ∙ ap (λ (l : List (List (Option ℕ))). type_number (met_no l c.args.a.0 c.args.b.0))
    c.as_slice.ensures.value in
    record {
      meet = subst (λ (t : Table). (x y : Ty) → Names t.types c.args.a x → Names t.types c.args.b y
          → IsMeetNumber t.types c.meet_in.result x y) c.self.view_is
          (λ x y e f. subst (λ (o : Option TypeNo). IsMeetNumber c.self.inside.set.keys o x y) (sym r)
          (meet_told _ _ _ _ _ _ c.self.invariant c.args.a.0 c.args.b.0 x y e f));
    }
