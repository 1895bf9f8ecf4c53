-- What is put behind the names of a block, and what is left to put.
use Rattle.std.proofs.Common.{◌≡◌, List, [], ◌∷◌, ◌++◌, refl, ap, append_assoc, append-nil}
use Rattle.std.specs.Prelude.{map, flat_map}
use Rattle.mono_syntax.proofs.Parts.{part_stmt, part_branch}
use Rattle.mono_syntax.specs.Stmt.{Stmt}
use Rattle.mono_syntax.specs.StmtView.{block}
use Rattle.script_rules.specs.BlockNames.{targets, block_targets, starts, block_starts}

pub map-append : {A B : Type 0} (f : A → B) (xs ys : List A) → map f (xs ++ ys) ≡ map f xs ++ map f ys
map-append f [] ys = refl
map-append f (x ∷ xs) ys = ap (λ l. f x ∷ l) (map-append f xs ys)

-- a block and the list of its statements give the same names
pub targets_of_block : (ss : List Stmt) → block_targets (block ss) ≡ flat_map targets ss
targets_of_block [] = refl
targets_of_block (s ∷ ss) = ap (λ l. targets s ++ l) (targets_of_block ss)

pub starts_of_block : (ss : List Stmt) → block_starts (block ss) ≡ flat_map starts ss
starts_of_block [] = refl
starts_of_block (s ∷ ss) = ap (λ l. starts s ++ l) (starts_of_block ss)

pub ruleset turns = (append_assoc, append-nil, map-append, part_stmt, part_branch)

pub ruleset blocks = (append_assoc, append-nil, map-append, targets_of_block, starts_of_block)
