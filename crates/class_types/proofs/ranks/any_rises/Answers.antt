use Rattle.std.proofs.Common.{◌≡◌, ◌∙◌, sym, ap, refl, length, map, Some, false, arith}
use Rattle.std.specs.Prelude.{slice_get}
use Rattle.std.specs.Option.{option_map}
use Rattle.std.proofs.lemmas.List.{length-map}
use Rattle.std.proofs.lemmas.Option.{slice_get-map, slice_get_read}
use Rattle.script_rules.specs.Recursion.{field_names}
use Rattle.class_types.specs.computed.Made.{names_of_classes}
use Rattle.name_places.specs.Places.{place_in}
use Rattle.class_types.specs.computed.Ranks.{rises}
use Rattle.class_types.proofs.RankLaws.{fall-next, fall-all}
use Rattle.class_types.proofs.ranks.any_rises.Goals.{then-is_first+in_ok-words+else-rises, else-is_first}
use Rattle.class_types.proofs.ranks.any_rises.Goals as goal

pub loop-at-preserved : goal.loop-at-preserved
loop-at-preserved c =
    let cs = map (λ d. d.now) c.args.classes.now in
    let d = c.index-classes-at.result.now in
    let read : slice_get c.args.classes.now c.loop-at.at ≡ Some c.index-classes-at.result = slice_get_read c.args.classes.now (length c.args.classes.now) c.loop-at.at c.index-classes-at.result refl c.loop-at-test.true c.index-classes-at.is in
    let stands : slice_get cs c.loop-at.at ≡ Some d = slice_get-map (λ d. d.now) c.args.classes.now c.loop-at.at ∙ ap (option_map (λ d. d.now)) read in
    let now : place_in (names_of_classes cs) d.name.text ≡ Some c.loop-at.at → rises (names_of_classes cs) c.args.ranks.now d.name.text (field_names d.fields) ≡ false
    = elim c.if-is_first.branch [
      | then-is_first+in_ok-words+else-rises w ↦ λ p.
          let words : map (λ v. v.now) w.as_slice-then-is_first.result.now ≡ field_names d.fields
          = ap (map (λ v. v.now)) w.as_slice-then-is_first.ensures.value ∙ (w.in_ok-words.ensures ∙ ap field_names w.as_slice.ensures) in
          (λ i. rises (sym c.requires i) c.args.ranks.now d.name.text (sym words i)) ∙ (sym w.rises.ensures ∙ w.if-rises.false)
      | else-is_first w ↦ λ p.
          let first = c.is_first.ensures.1 (ap (λ ns. place_in ns d.name.text) c.requires ∙ p) in
          let other = w.if-is_first.false in
          absurd cc
    ] in
    fall-next cs c.args.ranks.now c.loop-at.at d stands now c.loop-at.invariant

pub returns : goal.returns
returns c =
    let cs = map (λ d. d.now) c.args.classes.now in
    let size : length cs ≡ length c.args.classes.now = length-map c.args.classes.now (λ d. d.now) in
    λ e. fall-all cs c.args.ranks.now c.loop-at.at (omega arith) c.loop-at.invariant
