use Rattle.std.proofs.Common.{◌≡◌, ap, sym, ◌∙◌, length, reverse, take}
use Rattle.std.proofs.lemmas.List.{length-reverse}
use Rattle.mono_list.proofs.Sizes.{length-tiers}
use Rattle.mono_list.specs.Tiered.{Tiered}
use Rattle.mono_list.proofs.tiers.Tiers.lower.Goals as goal

pub returns : goal.returns
returns g c =
    let e : length c.args.self.now.below ≡ length c.self.inside.starts.items =
    ap (λ (t : Tiered g.row.T.Denot). length t.below) (sym c.self.view_is) ∙ length-tiers (reverse c.self.inside.starts.items) (take c.self.inside.from c.self.inside.items.items) ∙ length-reverse c.self.inside.starts.items in
    c.len.ensures ∙ c.self.inside.starts.ok.0 ∙ sym e
