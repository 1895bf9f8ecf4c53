-- A list and its tree tell the same.
use Rattle.std.proofs.Common.{◌≡◌, List, [], ◌∷◌, Option, Some, None, refl, ap}
use Rattle.mono_syntax.specs.CastStmt.{CastStmt}
use Rattle.mono_syntax.specs.CastStmtView.{cast_branches, cast_else_block}
use Rattle.mono_syntax.specs.declared.cast.CastBranch.{CastBranch}
use Rattle.mono_syntax.proofs.Lists.{cast_exprs_list-cast_exprs, cast_block_list-cast_block}
use Rattle.mono_tree.specs.CastScripts.{branch_list, else_list}

pub branch_list-cast_branches : (bs : List CastBranch) → branch_list (cast_branches bs) ≡ bs
branch_list-cast_branches [] = refl
branch_list-cast_branches (b ∷ bs) = λ i. record { condition = b.condition; body = cast_block_list-cast_block b.body i } ∷ branch_list-cast_branches bs i

pub else_list-cast_else : (o : Option (List CastStmt)) → else_list (cast_else_block o) ≡ o
else_list-cast_else None = refl
else_list-cast_else (Some body) = ap (λ b. Some b) (cast_block_list-cast_block body)

pub ruleset opened = (cast_exprs_list-cast_exprs, cast_block_list-cast_block, branch_list-cast_branches, else_list-cast_else)
