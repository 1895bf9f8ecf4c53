use Rattle.std.proofs.Common.{◌≡◌, ◌<◌, ◌^◌, decimal, Ok, true, not, arith, ap, sym, ◌∙◌}
use Rattle.std.specs.Str.{bytes_eq}
use Rattle.std.proofs.lemmas.Slice.Eq.{bytes_eq-Decides}
use Rattle.std.proofs.lemmas.Fmt.{parse-decimal}
use Rattle.command_words.proofs.number.number_in.Goals as goal
use Rattle.command_words.proofs.number.number_in.Goals.{then-n-least-via-then-n-least, then-n-least-via-else-n-least+then-most-n, then-n-least-via-else-n-least+else-most-n+then-ne}

pub returns-in_default-clause-usage : goal.returns-in_default-clause-usage
returns-in_default-clause-usage c _ n low high e =
    let lt : n < 2 ^ 64 = omega (arith, c.ranges.most) in
    let ok : c.parse.result ≡ Ok n = parse-decimal 64 n _ _ lt lt e c.parse.ensures.value.0 in
    cc (ok, c.in_default.is)

pub returns-then-n-least-clause-usage : goal.returns-then-n-least-clause-usage
returns-then-n-least-clause-usage c _ n low high e =
    let lt : n < 2 ^ 64 = omega (arith, c.ranges.most) in
    let ok : c.parse.result ≡ Ok n = parse-decimal 64 n _ _ lt lt e c.parse.ensures.value.0 in
    let same : c.in-Ok.n ≡ n = cc (ok, c.in-Ok.is) in
    elim c.then-n-least.branch [
      | then-n-least-via-then-n-least w ↦ absurd (omega arith)
      | then-n-least-via-else-n-least+then-most-n w ↦ absurd (omega arith)
      | then-n-least-via-else-n-least+else-most-n+then-ne w ↦ let same_bytes : w.as_str.result.now
          ≡ c.args.text.now = w.as_str.ensures.value ∙ c.in_ok-printed.ensures.ok ∙ ap decimal same ∙ sym e in
          let eq : bytes_eq w.as_str.result.now c.args.text.now
          ≡ true = (bytes_eq-Decides w.as_str.result.now c.args.text.now).1 same_bytes in
          let ne : true ≡ not (bytes_eq w.as_str.result.now c.args.text.now) = w.if-ne.ensures in
          cc (ne, ap not eq)
    ]
