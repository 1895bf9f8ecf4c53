use Rattle.std.proofs.Common.{ℕ, ◌≤◌, ◌∙◌, List, take, drop, ap, subst, arith, Err}
use Rattle.std.specs.List.{slice_range}
use Rattle.mono_io.specs.Faults.{appended}
use Rattle.mono_io.specs.Puts.{Puts}
use Rattle.mono_io.proofs.PutLemmas.{puts_then, puts_stopped, appended-appended}
use Rattle.mono_cli.proofs.EachLine.{front_more, whole_is}
use Rattle.mono_cli.proofs.listing.put_each_line.Goals as goal

pub returns-in-Err : goal.returns-in-Err
returns-in-Err g c =
    let j = c.loop-at.invariant in
    let text = c.args.text.now in
    let at = c.loop-at.at in
    let end = c.line_end-end.result in
    let on : at ≤ end = omega arith in
    let here = whole_is text at end on c.line_end-end.ensures.within in
    subst
    (λ (t : List ℕ).
    Puts (Err c.in-Err.fault) (g.K.Sink.told c.args.out.now) (g.K.Sink.told c.put_piece.new.out) (g.K.Sink.faults c.args.out.now) (g.K.Sink.faults c.put_piece.new.out) t) here
    (puts_then (Err c.in-Err.fault) _ (g.K.Sink.told c.loop-at.out) _ _ (g.K.Sink.faults c.loop-at.out) _ _ _ j.put j.counts
    (puts_stopped c.in-Err.fault _ _ _ _ (slice_range text at end) (drop end text) c.in-Err.ensures.puts))

pub loop-at-preserved : goal.loop-at-preserved
loop-at-preserved g c =
    let j = c.loop-at.invariant in
    let text = c.args.text.now in
    let at = c.loop-at.at in
    let end = c.line_end-end.result in
    let on : at ≤ end = omega arith in
    let old = g.K.Sink.told c.args.out.now in
    record {
      within = c.line_end-end.ensures.within;
      put =
          c.in_default.ensures.puts.0
          ∙ (ap (λ m. appended m (slice_range text at end)) j.put
          ∙ (appended-appended old (take at text) (slice_range text at end) ∙ ap (appended old) (front_more text at end on c.line_end-end.ensures.within)));
      counts = omega (arith, c.in_default.ensures.puts.1, j.counts);
    }
