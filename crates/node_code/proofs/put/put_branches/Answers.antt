use Rattle.std.proofs.Common.{◌≡◌, ◌∙◌, ◌++◌, ◌∷◌, [], sym, subst, ℕ, List, length}
use Rattle.node_code.specs.Numbering.{ListsBranches}
use Rattle.node_code.specs.declared.data.BranchNode.{BranchNode}
use Rattle.node_code.specs.declared.data.Tables.{Tables}
use Rattle.node_code.proofs.StmtGrowing.{put_branches, with_branches}
use Rattle.node_code.proofs.put.put_branches.Goals as goal

pub returns : goal.returns
returns c = λ s a m bs h.
    let t : Tables = c.args.list.tables in
    let at : c.in_ok-at.at ≡ length (t.code).branches = c.in_ok-at.ensures ∙ c.len.ensures in
    subst (λ (z : List (List BranchNode)). ListsBranches s a m bs (record { at = c.in_ok-at.at; tables = with_branches t z }))
    (sym c.in_ok-push.ensures.ok)
    (subst (λ (k : ℕ). ListsBranches s a m bs
    (record { at = k; tables = with_branches t ((t.code).branches ++ c.args.list.branches ∷ []) })) (sym at)
    (put_branches s a t m c.args.list.branches bs h))
