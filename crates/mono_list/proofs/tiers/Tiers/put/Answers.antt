use Rattle.std.proofs.Common.{◌≡◌, ◌+◌, ◌-◌, ℕ, ap, sym, reverse, List, slice_set, arith}
use Rattle.mono_list.proofs.Sizes.{set-tiered}
use Rattle.mono_list.specs.Tiered.{Tiered}
use Rattle.mono_list.proofs.tiers.Tiers.put.Goals as goal

pub returns-then-at-count : goal.returns-then-at-count
returns-then-at-count g c =
    let from : ℕ = c.self.inside.from in
    let ss : List ℕ = reverse c.self.inside.starts.items in
    let j : ℕ = (c.len-then-at-count.result - 1 - c.args.at) - from in
    let k : from + j ≡ c.len-then-at-count.result - 1 - c.args.at = omega (arith, c.if-at-count.true, c.len.ensures, c.len-then-at-count.ensures) in
    rw (sym k, set-tiered from ss c.self.inside.items.items c.args.at j c.args.item (omega (arith, c.if-at-count.true, c.len.ensures, c.len-then-at-count.ensures, c.self.inside.items.ok)))
    (ap (λ (t : Tiered g.row.T.Denot). record { top = slice_set t.top c.args.at c.args.item; below = t.below }) c.self.view_is)
