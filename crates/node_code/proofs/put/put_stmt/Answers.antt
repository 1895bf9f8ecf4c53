use Rattle.std.proofs.Common.{◌≡◌, ◌∙◌, ◌++◌, ◌∷◌, [], sym, subst, ℕ, List, length}
use Rattle.node_code.specs.Numbering.{Gives}
use Rattle.node_code.specs.Places.{At}
use Rattle.node_code.specs.declared.data.StmtNode.{StmtNode}
use Rattle.node_code.specs.declared.data.Tables.{Tables}
use Rattle.node_code.proofs.StmtGrowing.{put_stmt, with_stmts}
use Rattle.node_code.proofs.put.put_stmt.Goals as goal

pub returns : goal.returns
returns c = λ s a m e h.
    let t : Tables = c.args.made.tables in
    let at : c.in_ok-at.at ≡ length (t.code).stmts = c.in_ok-at.ensures ∙ c.len.ensures in
    subst (λ (z : List StmtNode). Gives s a m (with_stmts t z) (λ x. At x.stmts c.in_ok-at.at e)) (sym c.in_ok-push.ensures.ok)
    (subst (λ (k : ℕ). Gives s a m (with_stmts t ((t.code).stmts ++ c.args.made.node ∷ [])) (λ x. At x.stmts k e)) (sym at)
    (put_stmt s a t m c.args.made.node e h))
