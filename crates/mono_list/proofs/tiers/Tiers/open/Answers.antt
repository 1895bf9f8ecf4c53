use Rattle.std.proofs.Common.{◌≡◌, ap, sym, ◌∙◌, length, reverse, take, arith}
use Rattle.std.proofs.lemmas.List.{length-reverse}
use Rattle.mono_list.proofs.Sizes.{length-tiers}
use Rattle.mono_list.specs.Tiered.{Tiered}
use Rattle.mono_list.proofs.tiers.Tiers.open.Goals as goal

pub push_reserved-requires : goal.push_reserved-requires
push_reserved-requires g c =
    let e : length c.args.self.now.below ≡ length c.self.inside.starts.items =
    ap (λ (t : Tiered g.row.T.Denot). length t.below) (sym c.self.view_is) ∙ length-tiers (reverse c.self.inside.starts.items) (take c.self.inside.from c.self.inside.items.items) ∙ length-reverse c.self.inside.starts.items in
    omega (arith, c.requires, e, c.self.invariant.3, c.self.inside.starts.ok)
