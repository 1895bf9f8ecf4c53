use Rattle.std.proofs.Common.{◌≡◌, ◌∙◌, sym, ap, subst, map, Some, false}
use Rattle.class_types.specs.computed.FoundFaults.{found}
use Rattle.class_types.specs.computed.Leading.{word_fault}
use Rattle.class_types.specs.computed.Made.{names_of_classes}
use Rattle.name_places.specs.Places.{place_in}
use Rattle.class_types.specs.computed.Ranks.{may_be_first}
use Rattle.script_rules.specs.Recursion.{field_names}
use Rattle.class_types.proofs.RecursionLaws.{adds-later, adds-named}
use Rattle.class_types.proofs.recursion.class_fault.Goals as goal

pub returns-then-not-may_be_first : goal.returns-then-not-may_be_first
returns-then-not-may_be_first c =
    let cs = map (λ d. d.now) c.args.classes.now in
    let d = c.args.class.now in
    let words : map (λ v. v.now) c.as_slice-2.result.now ≡ field_names d.fields
    = ap (map (λ v. v.now)) c.as_slice-2.ensures.value ∙ (c.in_ok-words.ensures ∙ ap field_names c.as_slice-list.ensures) in
    let none : c.may_be_first.result ≡ false = cc (c.if-not-may_be_first.true) in
    let later : may_be_first (names_of_classes cs) c.args.search.now.ranks.items d.name.text c.args.so_far (field_names d.fields) ≡ false
    = (λ i. may_be_first (sym c.requires.names i) (sym c.as_slice.ensures.value i) d.name.text c.args.so_far (sym words i)) ∙ (sym c.may_be_first.ensures ∙ none) in
    adds-later cs c.args.search.now.ranks.items d c.args.at c.args.so_far c.requires.ranks later

pub returns : goal.returns
returns c =
    let cs = map (λ d. d.now) c.args.classes.now in
    let place : place_in (names_of_classes cs) c.args.class.now.name.text ≡ Some c.args.at
    = subst (λ ns. place_in ns c.args.class.now.name.text ≡ Some c.args.at) c.requires.names (c.is_first.ensures.0 c.if-not-is_first.false) in
    let found' : c.named_in_fields.result ≡ found (word_fault (names_of_classes cs) c.in_ok-marks.marks.items) c.args.so_far (field_names c.args.class.now.fields)
    = c.named_in_fields.ensures ∙ (λ i. found (word_fault (c.requires.names i) (c.as_slice-4.ensures.value i)) c.args.so_far (field_names (c.as_slice-list.ensures i))) in
    adds-named cs c.args.class.now c.args.at c.in_ok-marks.marks.items c.args.so_far c.named_in_fields.result place c.requires.stands c.in_ok-marks.ensures found'
