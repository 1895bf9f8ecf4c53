-- The names of a block, which is the main block or a function's body: its parameters, the names that it assigns and the
-- names that it starts, also inside `if` and `while`.
use Rattle.std.specs.Prelude.{ℕ, List, [], ◌∷◌, ◌++◌, Option, map, filter, not, flat_map, bytes_eq}
use Rattle.mono_syntax.specs.declared.leaf.Word.{Word}
use Rattle.mono_syntax.specs.declared.tree.Param.{Param}
use Rattle.mono_syntax.specs.Ann.{Ann}
use Rattle.mono_syntax.specs.Stmt.{Stmt, assign, start, if_any, loop, Block, no_stmts, more_stmts, Branches, no_branches, more_branches, Else, no_else, otherwise}

-- where a value gets its name: a parameter or an assignment, with its annotation
pub record Target : Type 0 where
  pub word : Word
  pub ann : Option Ann

abbrev pub of_param : Param → Target
of_param p = record { word = p.name; ann = p.ann }

-- the assignments of a statement, in source order
abbrev mutual
  pub targets : Stmt → List Target
  targets (assign w a e) = record { word = w; ann = a } ∷ []
  targets (if_any bs last) = branch_targets bs ++ else_targets last
  targets (loop e b) = block_targets b
  targets s = []

  pub block_targets : Block → List Target
  block_targets no_stmts = []
  block_targets (more_stmts s b) = targets s ++ block_targets b

  pub branch_targets : Branches → List Target
  branch_targets no_branches = []
  branch_targets (more_branches e b bs) = block_targets b ++ branch_targets bs

  pub else_targets : Else → List Target
  else_targets no_else = []
  else_targets (otherwise b) = block_targets b

-- the names that a statement starts, in source order
abbrev mutual
  pub starts : Stmt → List Word
  starts (start w p f es) = w ∷ []
  starts (if_any bs last) = branch_starts bs ++ else_starts last
  starts (loop e b) = block_starts b
  starts s = []

  pub block_starts : Block → List Word
  block_starts no_stmts = []
  block_starts (more_stmts s b) = starts s ++ block_starts b

  pub branch_starts : Branches → List Word
  branch_starts no_branches = []
  branch_starts (more_branches e b bs) = block_starts b ++ branch_starts bs

  pub else_starts : Else → List Word
  else_starts no_else = []
  else_starts (otherwise b) = block_starts b

-- the targets of a block with these parameters
abbrev pub all_targets : List Param → List Stmt → List Target
all_targets ps ss = map of_param ps ++ flat_map targets ss

abbrev pub all_starts : List Stmt → List Word
all_starts ss = flat_map starts ss

-- those of other names
abbrev pub elsewhere : List ℕ → List Target → List Target
elsewhere x ts = filter (λ t. not (bytes_eq x t.word.text)) ts

-- the first target of each name, which alone may have an annotation
abbrev pub firsts : List Target → List Target
firsts [] = []
firsts (t ∷ ts) = t ∷ elsewhere t.word.text (firsts ts)
