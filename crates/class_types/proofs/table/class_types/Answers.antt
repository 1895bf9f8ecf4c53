use Rattle.std.proofs.Common.{◌≡◌, ◌∙◌, subst, refl}
use Rattle.std.specs.Prelude.{ℕ, Some, None, slice_get}
use Rattle.script_rules.specs.Definitions.{classes_of}
use Rattle.script_rules.specs.Scoping.{class_list}
use Rattle.mono_tree.specs.ClosedList.{AreDistinct, base_types}
use Rattle.class_types.specs.Known.{Begins}
use Rattle.class_types.specs.computed.Made.{AreOwnTypes, names_of_classes}
use Rattle.class_types.specs.Placed.{StandAt}
use Rattle.class_types.proofs.TableLaws.{all-stand, none-stands, take-some, take-none, holds-table}
use Rattle.class_types.proofs.table.class_types.Goals as goal

pub returns-in_ok-known-in-Some-clause-found : goal.returns-in_ok-known-in-Some-clause-found
returns-in_ok-known-in-Some-clause-found c =
    let items = c.as_slice.ensures ∙ c.get.ensures in
    let own : AreOwnTypes (class_list c.args.script.now) c.in_ok-names.own = subst (λ l. AreOwnTypes (classes_of l) c.in_ok-names.own) items c.in_ok-names.ensures.own in
    let shown : StandAt c.in-Some.positions.types c.as_slice-2.result.now c.in-Some.positions.at = take-some _ c.in-Some.positions (λ p. StandAt p.types c.as_slice-2.result.now p.at) c.in-Some.is c.in_ok-positions.ensures.stand in
    let stand : StandAt c.in-Some.positions.types c.in_ok-names.own c.in-Some.positions.at = subst (λ l. StandAt c.in-Some.positions.types l c.in-Some.positions.at) c.as_slice-2.ensures shown in
    ((λ e. (all-stand (class_list c.args.script.now) c.in_ok-names.own c.in-Some.positions.types c.in-Some.positions.at own stand).1), (λ h. refl))

pub returns-in_ok-known-in-Some-clause-known : goal.returns-in_ok-known-in-Some-clause-known
returns-in_ok-known-in-Some-clause-known c =
    let items = c.as_slice.ensures ∙ c.get.ensures in
    let own : AreOwnTypes (class_list c.args.script.now) c.in_ok-names.own = subst (λ l. AreOwnTypes (classes_of l) c.in_ok-names.own) items c.in_ok-names.ensures.own in
    let names : c.in_ok-names.names ≡ names_of_classes (class_list c.args.script.now) = subst (λ l. c.in_ok-names.names ≡ names_of_classes (classes_of l)) items c.in_ok-names.ensures.names in
    let shown : StandAt c.in-Some.positions.types c.as_slice-2.result.now c.in-Some.positions.at = take-some _ c.in-Some.positions (λ p. StandAt p.types c.as_slice-2.result.now p.at) c.in-Some.is c.in_ok-positions.ensures.stand in
    let stand : StandAt c.in-Some.positions.types c.in_ok-names.own c.in-Some.positions.at = subst (λ l. StandAt c.in-Some.positions.types l c.in-Some.positions.at) c.as_slice-2.ensures shown in
    let bases : Begins base_types c.in-Some.positions.types = subst (λ l. Begins l c.in-Some.positions.types) c.in_ok-bases.ensures (take-some _ c.in-Some.positions (λ p. Begins c.in_ok-bases.bases p.types) c.in-Some.is c.in_ok-positions.ensures.begins) in
    let distinct : AreDistinct c.in-Some.positions.types = take-some _ c.in-Some.positions (λ p. AreDistinct p.types) c.in-Some.is c.in_ok-positions.ensures.distinct in
    let e = c.in_ok-known-in-Some.ensures in (
      e.script,
      holds-table c.in_ok-known-in-Some.known c.args.script.now c.in-Some.positions.types c.in-Some.positions.at c.in_ok-names.names c.in_ok-names.own
          e.script e.types e.classes e.names e.own names own stand bases distinct,
    )

pub returns-in-None-clause-found : goal.returns-in-None-clause-found
returns-in-None-clause-found c =
    let items = c.as_slice.ensures ∙ c.get.ensures in
    let own : AreOwnTypes (class_list c.args.script.now) c.in_ok-names.own = subst (λ l. AreOwnTypes (classes_of l) c.in_ok-names.own) items c.in_ok-names.ensures.own in
    let none : (i : ℕ) × (slice_get c.as_slice-2.result.now i ≡ Some None) = take-none _ _ c.in-None.is c.in_ok-positions.ensures.none in
    ((λ e. absurd cc), (λ h. absurd (none-stands (class_list c.args.script.now) c.in_ok-names.own own none.0 (subst (λ l. slice_get l none.0 ≡ Some None) c.as_slice-2.ensures none.1) h)))
