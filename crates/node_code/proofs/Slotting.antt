-- Each of some expressions whose names have slots.
use Rattle.std.proofs.Common.{◌≡◌, ℕ, zero, suc, ◌+◌, ◌<◌, List, [], ◌∷◌, length, get_or, arith, subst, sym}
use Rattle.mono_syntax.specs.declared.cast.Arg.{Arg}
use Rattle.mono_syntax.specs.declared.cast.CastBranch.{CastBranch}
use Rattle.mono_syntax.specs.CastExpr.{CastExpr}
use Rattle.mono_syntax.specs.CastStmt.{CastStmt}
use Rattle.mono_syntax.specs.CastStmtView.{cast_block, cast_branches}
use Rattle.mono_syntax.specs.CastExprView.{args, cast_exprs}
use Rattle.mono_syntax.specs.Ty.{Ty}
use Rattle.node_code.specs.Slotted.{IsSlotted, AreSlotted, ArgsSlotted, StmtSlotted, BlockSlotted, BranchesSlotted, HasSlot, HaveSlots}
use Rattle.node_code.specs.declared.data.Slots.{Slots}

value_at : (s : Slots) (xs : List CastExpr) (i : ℕ) (d : CastExpr) → i < length xs → AreSlotted s (cast_exprs xs)
    → IsSlotted s (get_or xs i d)
value_at s [] i d h u = absurd (omega arith)
value_at s (x ∷ xs) zero d h u = u.0
value_at s (x ∷ xs) (suc i) d h u = value_at s xs i d (omega arith) u.1

pub value_slotted : (s : Slots) (xs : List CastExpr) (i : ℕ) (x : CastExpr) → i < length xs → x ≡ get_or xs i x
    → AreSlotted s (cast_exprs xs) → IsSlotted s x
value_slotted s xs i x h e u = subst (λ (z : CastExpr). IsSlotted s z) (sym e) (value_at s xs i x h u)

arg_at : (s : Slots) (xs : List Arg) (i : ℕ) (d : Arg) → i < length xs → ArgsSlotted s (args xs) → IsSlotted s (get_or xs i d).value
arg_at s [] i d h u = absurd (omega arith)
arg_at s (x ∷ xs) zero d h u = u.0
arg_at s (x ∷ xs) (suc i) d h u = arg_at s xs i d (omega arith) u.1

pub arg_slotted : (s : Slots) (xs : List Arg) (i : ℕ) (x : Arg) → i < length xs → x ≡ get_or xs i x → ArgsSlotted s (args xs)
    → IsSlotted s x.value
arg_slotted s xs i x h e u = subst (λ (z : Arg). IsSlotted s z.value) (sym e) (arg_at s xs i x h u)

-- ---- statements

stmt_at : (types : List Ty) (s : Slots) (xs : List CastStmt) (i : ℕ) (d : CastStmt) → i < length xs → BlockSlotted types s (cast_block xs)
    → StmtSlotted types s (get_or xs i d)
stmt_at types s [] i d h u = absurd (omega arith)
stmt_at types s (x ∷ xs) zero d h u = u.0
stmt_at types s (x ∷ xs) (suc i) d h u = stmt_at types s xs i d (omega arith) u.1

pub stmt_slotted : (types : List Ty) (s : Slots) (xs : List CastStmt) (i : ℕ) (x : CastStmt) → i < length xs → x ≡ get_or xs i x
    → BlockSlotted types s (cast_block xs) → StmtSlotted types s x
stmt_slotted types s xs i x h e u = subst (λ (z : CastStmt). StmtSlotted types s z) (sym e) (stmt_at types s xs i x h u)

abbrev pub BranchSlotted : List Ty → Slots → CastBranch → Type 0
BranchSlotted types s b = IsSlotted s b.condition × BlockSlotted types s (cast_block b.body)

branch_at : (types : List Ty) (s : Slots) (xs : List CastBranch) (i : ℕ) (d : CastBranch) → i < length xs
    → BranchesSlotted types s (cast_branches xs) → BranchSlotted types s (get_or xs i d)
branch_at types s [] i d h u = absurd (omega arith)
branch_at types s (x ∷ xs) zero d h u = (u.0, u.1)
branch_at types s (x ∷ xs) (suc i) d h u = branch_at types s xs i d (omega arith) u.2

pub branch_slotted : (types : List Ty) (s : Slots) (xs : List CastBranch) (i : ℕ) (x : CastBranch) → i < length xs → x ≡ get_or xs i x
    → BranchesSlotted types s (cast_branches xs) → BranchSlotted types s x
branch_slotted types s xs i x h e u = subst (λ (z : CastBranch). BranchSlotted types s z) (sym e) (branch_at types s xs i x h u)

-- ---- names

name_at : (names xs : List (List ℕ)) (i : ℕ) (d : List ℕ) → i < length xs → HaveSlots names xs → HasSlot names (get_or xs i d)
name_at names [] i d h u = absurd (omega arith)
name_at names (x ∷ xs) zero d h u = u.0
name_at names (x ∷ xs) (suc i) d h u = name_at names xs i d (omega arith) u.1

pub name_slotted : (names xs : List (List ℕ)) (i : ℕ) (x : List ℕ) → i < length xs → x ≡ get_or xs i x → HaveSlots names xs
    → HasSlot names x
name_slotted names xs i x h e u = subst (λ (z : List ℕ). HasSlot names z) (sym e) (name_at names xs i x h u)
