use Rattle.std.proofs.Common.{◌≡◌, ◌∙◌, ◌++◌, ◌∷◌, [], sym, subst, ℕ, List, length}
use Rattle.node_code.specs.Numbering.{Gives}
use Rattle.node_code.specs.Places.{At}
use Rattle.node_code.specs.declared.data.Node.{Node}
use Rattle.node_code.specs.declared.data.Tables.{Tables}
use Rattle.node_code.proofs.Growing.{put_node, with_nodes}
use Rattle.node_code.proofs.put.put.Goals as goal

pub returns : goal.returns
returns c = λ s a m e h.
    let t : Tables = c.args.made.tables in
    let at : c.in_ok-at.at ≡ length (t.code).nodes = c.in_ok-at.ensures ∙ c.len.ensures in
    subst (λ (z : List Node). Gives s a m (with_nodes t z) (λ x. At x.exprs c.in_ok-at.at e)) (sym c.in_ok-push.ensures.ok)
    (subst (λ (k : ℕ). Gives s a m (with_nodes t ((t.code).nodes ++ c.args.made.node ∷ [])) (λ x. At x.exprs k e)) (sym at)
    (put_node s a t m c.args.made.node e h))
