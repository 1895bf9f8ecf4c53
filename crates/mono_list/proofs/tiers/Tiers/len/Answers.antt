use Rattle.std.proofs.Common.{◌≡◌, ap, sym, ◌∙◌, length, reverse, arith}
use Rattle.mono_list.proofs.Sizes.{size-tiered}
use Rattle.mono_list.specs.Tiered.{size}
use Rattle.mono_list.proofs.tiers.Tiers.len.Goals as goal

pub returns : goal.returns
returns g c =
    let e : size c.args.self.now ≡ length c.self.inside.items.items =
    ap size (sym c.self.view_is) ∙ size-tiered c.self.inside.from (reverse c.self.inside.starts.items) c.self.inside.items.items c.self.invariant.0 c.self.invariant.1 in
    record { size = c.len.ensures ∙ c.self.inside.items.ok.0 ∙ sym e; room = omega (arith, c.len.ensures, c.self.inside.items.ok.0, c.self.inside.items.ok.1, c.self.invariant.2) }
