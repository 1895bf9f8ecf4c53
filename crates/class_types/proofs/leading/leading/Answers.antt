use Rattle.std.proofs.Common.{◌≡◌, ◌∙◌, sym, ap, subst, map, length, ◌≤◌, arith, false, replicate}
use Rattle.std.proofs.lemmas.List.{length-map, length-replicate}
use Rattle.class_types.specs.computed.Leading.{unmarked, mark_round, visit_marks}
use Rattle.class_types.specs.computed.Made.{names_of_classes}
use Rattle.class_types.proofs.LeadingLaws.{AreSound, start-sound, visit-sound, visit-length, whole-sound, round-done, round-fewer, round-length, unmarked-length}
use Rattle.class_types.proofs.leading.leading.Goals as goal

pub loop-left-init : goal.loop-left-init
loop-left-init c =
    let cs = map (λ d. d.now) c.args.classes.now in
    let none = replicate (length c.args.classes.now) false in
    let made : c.visited-marks.result.items ≡ visit_marks (names_of_classes cs) c.args.target.now cs c.args.order.now none
    = c.visited-marks.ensures ∙ (λ i. visit_marks (c.requires i) c.args.target.now cs c.args.order.now (c.in_ok-none.ensures i)) in
    let size : length c.visited-marks.result.items ≡ length c.args.classes.now = ap length made ∙ (visit-length cs c.args.target.now c.args.order.now none ∙ length-replicate _ false) in
    record {
      even = size ∙ sym (length-map c.args.classes.now (λ d. d.now));
      sound = subst (AreSound cs c.args.target.now) (sym made) (visit-sound cs c.args.target.now c.args.order.now none (start-sound cs c.args.target.now (length c.args.classes.now)));
      left = omega (arith, unmarked-length c.visited-marks.result.items);
    }

pub returns-then-now-left : goal.returns-then-now-left
returns-then-now-left c =
    let cs = map (λ d. d.now) c.args.classes.now in
    let round = c.mark_round-marks.ensures ∙ ap (λ ns. mark_round ns c.args.target.now cs c.loop-left.marks.items 0) c.requires in
    round-done cs c.args.target.now c.loop-left.marks.items c.mark_round-marks.result.items c.loop-left.left c.loop-left.invariant.even c.loop-left.invariant.sound c.loop-left.invariant.left
    round (ap unmarked (sym c.as_slice.ensures.value) ∙ (sym c.unmarked-now.ensures.count ∙ c.if-now-left.true))

pub loop-left-smaller : goal.loop-left-smaller
loop-left-smaller c =
    let cs = map (λ d. d.now) c.args.classes.now in
    let round = c.mark_round-marks.ensures ∙ ap (λ ns. mark_round ns c.args.target.now cs c.loop-left.marks.items 0) c.requires in
    let seen : unmarked c.mark_round-marks.result.items ≡ c.unmarked-now.result = ap unmarked (sym c.as_slice.ensures.value) ∙ sym c.unmarked-now.ensures.count in
    let count : unmarked c.mark_round-marks.result.items ≡ unmarked (mark_round (names_of_classes cs) c.args.target.now cs c.loop-left.marks.items 0) = ap unmarked round in
    let fewer : unmarked (mark_round (names_of_classes cs) c.args.target.now cs c.loop-left.marks.items 0) ≤ unmarked c.loop-left.marks.items = round-fewer cs c.args.target.now cs c.loop-left.marks.items 0 in
    omega arith

pub loop-left-preserved : goal.loop-left-preserved
loop-left-preserved c =
    let cs = map (λ d. d.now) c.args.classes.now in
    let round = c.mark_round-marks.ensures ∙ ap (λ ns. mark_round ns c.args.target.now cs c.loop-left.marks.items 0) c.requires in
    let seen : unmarked c.mark_round-marks.result.items ≡ c.unmarked-now.result = ap unmarked (sym c.as_slice.ensures.value) ∙ sym c.unmarked-now.ensures.count in
    record {
      even = ap length round ∙ (round-length cs c.args.target.now cs c.loop-left.marks.items 0 ∙ c.loop-left.invariant.even);
      sound = whole-sound cs c.args.target.now c.loop-left.marks.items c.mark_round-marks.result.items c.loop-left.invariant.sound round;
      left = omega arith;
    }
