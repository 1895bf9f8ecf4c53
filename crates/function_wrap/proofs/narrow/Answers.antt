use Rattle.std.proofs.Common.{refl}
use Rattle.function_wrap.proofs.narrow.Goals as goal

pub returns : goal.returns
returns g c = λ a b x y.
    let found = c.in_ok-merged.ensures.meet a b x y in
    record { same = refl; meet = found.0; names = found.1; is_meet = found.2 }
