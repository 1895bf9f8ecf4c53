use Rattle.std.proofs.Common.{◌≡◌, ◌∙◌, sym, ap, subst, length, map, None, ◌≤◌, arith}
use Rattle.std.proofs.lemmas.List.{length-map, length-replicate}
use Rattle.class_types.specs.computed.Made.{look, class_by}
use Rattle.class_types.specs.computed.Rounds.{round, unknown}
use Rattle.class_types.proofs.MadeLaws.{class-grows}
use Rattle.class_types.proofs.RoundLaws.{IsPartial, start-partial, whole-partial, round-done, round-fewer, round-length, unknown-length}
use Rattle.class_types.proofs.settle.settled.Goals as goal

pub loop-own-init : goal.loop-own-init
loop-own-init c =
    let cs = map (λ d. d.now) c.args.classes.now in
    let size : length c.in_ok-own.own ≡ length c.args.classes.now = ap length c.in_ok-own.ensures ∙ length-replicate _ None in
    record {
      even = size ∙ sym (length-map c.args.classes.now (λ d. d.now));
      each = subst (IsPartial class_by c.args.names.now None cs) (sym c.in_ok-own.ensures) (start-partial class_by class-grows c.args.names.now None cs (length c.args.classes.now));
      left = omega (arith, unknown-length c.in_ok-own.own);
    }

pub returns-then-now-left : goal.returns-then-now-left
returns-then-now-left c =
    let cs = map (λ d. d.now) c.args.classes.now in
    subst (λ ns. c.in_ok-own-2.own ≡ map (class_by (look ns c.in_ok-own-2.own None)) cs) c.requires
    (round-done class_by class-grows c.args.names.now None cs c.loop-own.own c.in_ok-own-2.own c.loop-own.left
    c.loop-own.invariant.even c.loop-own.invariant.each c.loop-own.invariant.left c.in_ok-own-2.ensures (ap unknown (sym c.as_slice.ensures) ∙ (sym c.unknown-now.ensures.count ∙ c.if-now-left.true)))

pub loop-own-smaller : goal.loop-own-smaller
loop-own-smaller c =
    let cs = map (λ d. d.now) c.args.classes.now in
    let seen : unknown c.in_ok-own-2.own ≡ c.unknown-now.result = ap unknown (sym c.as_slice.ensures) ∙ sym c.unknown-now.ensures.count in
    let fewer : unknown (round class_by c.args.names.now None cs c.loop-own.own 0) ≤ unknown c.loop-own.own = round-fewer class_by class-grows c.args.names.now None cs c.loop-own.own 0 in
    let next : unknown c.in_ok-own-2.own ≡ unknown (round class_by c.args.names.now None cs c.loop-own.own 0) = ap unknown c.in_ok-own-2.ensures in
    omega arith

pub loop-own-preserved : goal.loop-own-preserved
loop-own-preserved c =
    let cs = map (λ d. d.now) c.args.classes.now in
    let seen : unknown c.in_ok-own-2.own ≡ c.unknown-now.result = ap unknown (sym c.as_slice.ensures) ∙ sym c.unknown-now.ensures.count in
    record {
      even = ap length c.in_ok-own-2.ensures ∙ (round-length class_by class-grows c.args.names.now None cs c.loop-own.own 0 ∙ c.loop-own.invariant.even);
      each = whole-partial class_by class-grows c.args.names.now None cs c.loop-own.own c.in_ok-own-2.own c.loop-own.invariant.each c.in_ok-own-2.ensures;
      left = omega arith;
    }
