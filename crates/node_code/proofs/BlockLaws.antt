-- A block by numbers, and what it keeps where the texts and types of its program get more.
use Rattle.std.proofs.Common.{◌≡◌, ◌∙◌, ℕ, List, [], refl, sym, subst}
use Rattle.mono_syntax.specs.declared.cast.CastBlock.{CastBlock}
use Rattle.mono_syntax.specs.CastStmt.{CastStmt}
use Rattle.mono_syntax.specs.CastStmtView.{cast_block}
use Rattle.node_code.specs.Blocks.{names_in, slots_of, IsBlock, PoolGrows, AddsBlock}
use Rattle.node_code.specs.NodeMeaning.{Trees, IsMeant}
use Rattle.node_code.specs.Numbering.{Grows, GivesBody}
use Rattle.node_code.specs.Slotted.{BlockSlotted}
use Rattle.node_code.specs.computed.MoreTables.{no_code}
use Rattle.node_code.specs.declared.data.Block.{Block}
use Rattle.node_code.specs.declared.data.Code.{Code}
use Rattle.node_code.specs.declared.data.Pool.{Pool}
use Rattle.node_code.specs.declared.data.Slots.{Slots}
use Rattle.node_code.specs.declared.data.Tables.{Tables}
use Rattle.node_code.specs.declared.put.Numbered.{Numbered}
use Rattle.node_code.proofs.Growing.{meant_kept}

abbrev tables : Pool → Code → Tables
tables p k = record { texts = p.texts; table = p.table; code = k }

no_trees : Trees
no_trees = record { exprs = []; stmts = []; bodies = [] }

none_meant : (s : Slots) (p : Pool) → IsMeant s (tables p no_code) no_trees
unfolding no_trees
none_meant s p = record { exprs = tt; stmts = tt; bodies = tt }

-- the walk over a body numbers it
abbrev Walks : Slots → Tables → List CastStmt → Numbered → Type 0
Walks s t l r = (m : Trees) → IsMeant s t m → BlockSlotted t.table.types s (cast_block l) → GivesBody s t m l r

pub block_added : (b : CastBlock) (p : Pool) (s : Slots) (k : Code) (l : List CastStmt) (r : Numbered) (ns ts : List (List ℕ))
    → s ≡ slots_of b → k ≡ no_code → l ≡ b.body → Walks s (tables p k) l r → ns ≡ names_in b.names → ts ≡ names_in b.threads
    → BlockSlotted p.table.types (slots_of b) (cast_block b.body)
    → AddsBlock b p (record {
      block = record { names = ns; threads = ts; code = (r.tables).code; body = r.at };
      pool = record { texts = (r.tables).texts; table = (r.tables).table };
    })
block_added b p s k l r ns ts e f g w n h u =
    let w1 = subst (λ (z : Slots). Walks z (tables p k) l r) e w in
    let w2 = subst (λ (z : Code). Walks (slots_of b) (tables p z) l r) f w1 in
    let w3 = subst (λ (z : List CastStmt). Walks (slots_of b) (tables p no_code) z r) g w2 in
    let x = w3 no_trees (none_meant (slots_of b) p) u in
    record {
      grows = record { texts = (x.grows).texts; table = (x.grows).table };
      block = record { names = n; threads = h; trees = x.trees; meant = x.meant; body = x.here };
    }

-- a block stands over more texts and types too
pub block_kept : (p q : Pool) (b : CastBlock) (r : Block) → PoolGrows p q → IsBlock p b r → IsBlock q b r
block_kept p q b r g h =
    let k : Grows (tables p r.code) h.trees (tables q r.code) h.trees = record {
      texts = g.texts;
      table = g.table;
      lists = λ n x i. i;
      branches = λ n x i. i;
      exprs = λ n x i. i;
      stmts = λ n x i. i;
      bodies = λ n x i. i;
    } in
    record {
      names = h.names;
      threads = h.threads;
      trees = h.trees;
      meant = meant_kept (slots_of b) (tables p r.code) (tables q r.code) h.trees h.trees k refl refl refl refl h.meant;
      body = h.body;
    }

pub pool_on : (p q r : Pool) → PoolGrows p q → PoolGrows q r → PoolGrows p r
pool_on p q r f g = record { texts = λ n x e. g.texts n x (f.texts n x e); table = f.table ∙ g.table }

pub pool_same : (p : Pool) → PoolGrows p p
pool_same p = record { texts = λ n x e. e; table = refl }
