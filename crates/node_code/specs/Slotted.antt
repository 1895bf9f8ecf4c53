-- Each name that a tree uses is a name of its block, and so has a slot; each type of a write is one of a list, and so has a number.
use Rattle.std.specs.Prelude.{ℕ, List, [], ◌∷◌, Contains}
use Rattle.mono_syntax.specs.CastExpr.{Args, CastExpr, CastExprs, binary, both, call, either, fit, function, join, local, make, more_args}
use Rattle.mono_syntax.specs.CastExpr.{more_exprs, neg, negation, nil, no_args, no_exprs, number, read, text, truth}
use Rattle.mono_syntax.specs.CastStmt.{CastBlock, CastBranches, CastElse, CastStmt, assign, give, if_any, loop, more_branches, more_stmts}
use Rattle.mono_syntax.specs.CastStmt.{no_branches, no_else, no_stmts, otherwise, pass, plain, print, start, write}
use Rattle.mono_syntax.specs.Ty.{Ty}
use Rattle.node_code.specs.Places.{At}
use Rattle.node_code.specs.declared.data.Slots.{Slots}

-- the name has a slot among these
abbrev pub HasSlot : List (List ℕ) → List ℕ → Type 0
HasSlot names x = (i : ℕ) × At names i x

-- each of these names has one
abbrev pub HaveSlots : List (List ℕ) → List (List ℕ) → Type 0
HaveSlots names [] = Unit {0}
HaveSlots names (x ∷ xs) = HasSlot names x × HaveSlots names xs

abbrev mutual
  -- the names of an expression
  pub IsSlotted : Slots → CastExpr → Type 0
  IsSlotted s (number n) = Unit {0}
  IsSlotted s (text x) = Unit {0}
  IsSlotted s (truth b) = Unit {0}
  IsSlotted s nil = Unit {0}
  IsSlotted s (local k x) = HasSlot s.names x
  IsSlotted s (function g) = Unit {0}
  IsSlotted s (neg k e) = IsSlotted s e
  IsSlotted s (negation e) = IsSlotted s e
  IsSlotted s (binary o k m a b) = IsSlotted s a × IsSlotted s b
  IsSlotted s (both a b) = IsSlotted s a × IsSlotted s b
  IsSlotted s (either a b) = IsSlotted s a × IsSlotted s b
  IsSlotted s (read k e x) = IsSlotted s e
  IsSlotted s (make c es) = AreSlotted s es
  IsSlotted s (call k e given) = IsSlotted s e × ArgsSlotted s given
  IsSlotted s (fit k e) = IsSlotted s e
  IsSlotted s (join k x) = HasSlot s.threads x

  pub AreSlotted : Slots → CastExprs → Type 0
  AreSlotted s no_exprs = Unit {0}
  AreSlotted s (more_exprs e es) = IsSlotted s e × AreSlotted s es

  pub ArgsSlotted : Slots → Args → Type 0
  ArgsSlotted s no_args = Unit {0}
  ArgsSlotted s (more_args k e rest) = IsSlotted s e × ArgsSlotted s rest

abbrev mutual
  -- the names of a statement; the static type of a field to which it writes is one of these types
  pub StmtSlotted : List Ty → Slots → CastStmt → Type 0
  StmtSlotted types s pass = Unit {0}
  StmtSlotted types s (give k e) = IsSlotted s e
  StmtSlotted types s (print es) = AreSlotted s es
  StmtSlotted types s (assign x e) = HasSlot s.names x × IsSlotted s e
  StmtSlotted types s (write m k t o x e) = Contains types t × IsSlotted s o × IsSlotted s e
  StmtSlotted types s (start x k e given) = HasSlot s.threads x × IsSlotted s e × ArgsSlotted s given
  StmtSlotted types s (plain e) = IsSlotted s e
  StmtSlotted types s (if_any bs last) = BranchesSlotted types s bs × ElseSlotted types s last
  StmtSlotted types s (loop e b) = IsSlotted s e × BlockSlotted types s b

  pub BlockSlotted : List Ty → Slots → CastBlock → Type 0
  BlockSlotted types s no_stmts = Unit {0}
  BlockSlotted types s (more_stmts t ts) = StmtSlotted types s t × BlockSlotted types s ts

  pub BranchesSlotted : List Ty → Slots → CastBranches → Type 0
  BranchesSlotted types s no_branches = Unit {0}
  BranchesSlotted types s (more_branches e b rest) = IsSlotted s e × BlockSlotted types s b × BranchesSlotted types s rest

  pub ElseSlotted : List Ty → Slots → CastElse → Type 0
  ElseSlotted types s no_else = Unit {0}
  ElseSlotted types s (otherwise b) = BlockSlotted types s b
