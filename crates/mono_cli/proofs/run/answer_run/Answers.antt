use Rattle.std.proofs.Common.{rules, inl, refl}
use Rattle.mono_cli.proofs.run.answer_run.Goals as goal

pub returns : goal.returns
returns g c =
    inl (
      _,
      record {
        inner = _;
        is = record { last = c.in-Ok.config; end = c.unwrap-end.result; run = c.in-Ok.ensures; ends = search rules; says = refl };
        says = search rules;
      },
      c.put_run.ensures,
    )
