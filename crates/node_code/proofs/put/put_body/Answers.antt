use Rattle.std.proofs.Common.{◌≡◌, ◌∙◌, ◌++◌, ◌∷◌, [], sym, subst, ℕ, List, length}
use Rattle.node_code.specs.Numbering.{Gives}
use Rattle.node_code.specs.Places.{At}
use Rattle.node_code.specs.declared.data.Tables.{Tables}
use Rattle.node_code.proofs.StmtGrowing.{put_body, with_bodies}
use Rattle.node_code.proofs.put.put_body.Goals as goal

pub returns : goal.returns
returns c = λ s a m e h.
    let t : Tables = c.args.body.tables in
    let at : c.in_ok-at.at ≡ length (t.code).bodies = c.in_ok-at.ensures ∙ c.len.ensures in
    subst (λ (z : List (List ℕ)). Gives s a m (with_bodies t z) (λ x. At x.bodies c.in_ok-at.at e)) (sym c.in_ok-push.ensures.ok)
    (subst (λ (k : ℕ). Gives s a m (with_bodies t ((t.code).bodies ++ c.args.body.stmts ∷ [])) (λ x. At x.bodies k e)) (sym at)
    (put_body s a t m c.args.body.stmts e h))
