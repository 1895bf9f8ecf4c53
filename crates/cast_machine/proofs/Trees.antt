-- Lists of statements and branches, and their trees.
use Rattle.std.proofs.Common.{Bool, List, None, Some, [], ap, ap₂, arith, drop, false, refl, slice_get, suc, true, zero, ℕ, ◌+◌, ◌||◌, ◌∙◌, ◌∷◌, ◌≡◌}
use Rattle.std.proofs.lemmas.Bool.{false≢true}
use Rattle.mono_list.proofs.Cases.{some_is, some_none}
use Rattle.mono_syntax.proofs.Lists.{cast_block-cast_block_list}
use Rattle.mono_syntax.specs.CastStmt.{CastBranches, CastElse, CastStmt, more_branches, no_branches, no_else, otherwise}
use Rattle.mono_syntax.specs.CastStmtView.{cast_block, cast_branches, cast_else_block}
use Rattle.mono_syntax.specs.declared.cast.CastScript.{CastScript}
use Rattle.mono_tree.specs.BodyEnds.{may_end, statement_may_end}
use Rattle.mono_tree.specs.CastScripts.{branch_list, else_list}
use Rattle.mono_tree.specs.TypedPrograms.{IsWellTypedBlock, Scope}

-- what stands from a place on
pub drop_none : {A : Type 0} (l : List A) (i : ℕ) → slice_get l i ≡ None → drop i l ≡ []
drop_none [] zero e = refl
drop_none [] (suc i) e = refl
drop_none (x ∷ l) zero e = some_none _ e
drop_none (x ∷ l) (suc i) e = drop_none l i e

drop_here : {A : Type 0} (l : List A) (i : ℕ) (x : A) → slice_get l i ≡ Some x → drop i l ≡ x ∷ drop (suc i) l
drop_here [] i x e = absurd cc
drop_here (y ∷ l) zero x e = ap (λ z. z ∷ l) (some_is e)
drop_here (y ∷ l) (suc i) x e = drop_here l i x e

pub drop_some : {A : Type 0} (l : List A) (i : ℕ) (x : A) → slice_get l i ≡ Some x → drop i l ≡ x ∷ drop (i + 1) l
drop_some l i x e = let n : suc i ≡ i + 1 = omega arith in drop_here l i x e ∙ ap (λ k. x ∷ drop k l) n

-- the trees of lists from trees
pub branches_back : (bs : CastBranches) → cast_branches (branch_list bs) ≡ bs
branches_back no_branches = refl
branches_back (more_branches e body rest) = ap₂ (λ b r. more_branches e b r) (cast_block-cast_block_list body) (branches_back rest)

pub else_back : (last : CastElse) → cast_else_block (else_list last) ≡ last
else_back no_else = refl
else_back (otherwise body) = ap otherwise (cast_block-cast_block_list body)

-- ---- a block

-- where the first statement's end is reached, what follows is typed, and what stands behind the block is reached by its end
pub block_step : (p : CastScript) (s : Scope) (t : CastStmt) (rest : List CastStmt) (W : Type 0) → IsWellTypedBlock p s (cast_block rest) → (may_end (cast_block (t ∷ rest)) ≡ true → W) → statement_may_end t ≡ true → IsWellTypedBlock p s (cast_block rest) × (may_end (cast_block rest) ≡ true → W)
block_step p s t [] W j later e = (tt, λ _. later e)
block_step p s t (u ∷ us) W j later e = (j, later)

-- ---- choices

pub or_assoc : (a b c : Bool) → (a || (b || c)) ≡ true → ((a || b) || c) ≡ true
or_assoc true b c e = refl
or_assoc false b c e = e

pub or_left : (a b : Bool) → a ≡ true → (a || b) ≡ true
or_left true b e = refl
or_left false b e = absurd (false≢true e)

pub or_right : (a b : Bool) → b ≡ true → (a || b) ≡ true
or_right true b e = refl
or_right false b e = e
