use Rattle.std.proofs.Common.{◌≡◌, ◌∙◌, sym, ap, map, length, ◌≤◌, arith, replicate, None}
use Rattle.std.proofs.lemmas.List.{length-map}
use Rattle.class_types.specs.computed.Rounds.{unknown}
use Rattle.class_types.proofs.SizedLaws.{ArePartlyMeasured, sized-start, sized-next, sized-fewer, sized-done, sized-left}
use Rattle.class_types.proofs.sized.sized.Goals as goal

pub loop-left-init : goal.loop-left-init
loop-left-init c =
    let cs = map (λ d. d.now) c.args.classes.now in
    let size : length c.args.classes.now ≡ length cs = sym (length-map c.args.classes.now (λ d. d.now)) in
    let none = c.in_ok-none.ensures ∙ ap (λ n. replicate n None) size in
    let sizes : ArePartlyMeasured c.args.names.now cs c.args.stray c.visited-own.result.items = sized-start c.args.names.now cs c.args.stray c.requires.stray c.in_ok-none.none.items c.visited-own.result.items c.args.order.now none c.visited-own.ensures in
    record {
      sizes = sizes;
      left = let most : unknown c.visited-own.result.items ≤ length cs = sized-left c.args.names.now cs c.args.stray c.requires.stray c.visited-own.result.items sizes in omega arith;
    }

pub returns-then-now-left : goal.returns-then-now-left
returns-then-now-left c =
    let cs = map (λ d. d.now) c.args.classes.now in
    sized-done c.args.names.now cs c.args.stray c.requires.stray c.loop-left.own.items c.round-own.result.items c.loop-left.left c.requires.names
    c.loop-left.invariant.sizes c.loop-left.invariant.left c.round-own.ensures (ap unknown (sym c.as_slice.ensures.value) ∙ (sym c.unknown-now.ensures.count ∙ c.if-now-left.true))

pub loop-left-smaller : goal.loop-left-smaller
loop-left-smaller c =
    let cs = map (λ d. d.now) c.args.classes.now in
    let seen : unknown c.round-own.result.items ≡ c.unknown-now.result = ap unknown (sym c.as_slice.ensures.value) ∙ sym c.unknown-now.ensures.count in
    let fewer : unknown c.round-own.result.items ≤ unknown c.loop-left.own.items = sized-fewer c.args.names.now cs c.args.stray c.requires.stray c.loop-left.own.items c.round-own.result.items c.loop-left.invariant.sizes c.round-own.ensures in
    omega arith

pub loop-left-preserved : goal.loop-left-preserved
loop-left-preserved c =
    let cs = map (λ d. d.now) c.args.classes.now in
    let seen : unknown c.round-own.result.items ≡ c.unknown-now.result = ap unknown (sym c.as_slice.ensures.value) ∙ sym c.unknown-now.ensures.count in
    record {
      sizes = sized-next c.args.names.now cs c.args.stray c.requires.stray c.loop-left.own.items c.round-own.result.items c.loop-left.invariant.sizes c.round-own.ensures;
      left = omega arith;
    }
