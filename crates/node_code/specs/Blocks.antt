-- A block by numbers.
use Rattle.std.specs.Prelude.{◌≡◌, ℕ, List, map}
use Rattle.mono_syntax.specs.declared.cast.CastBlock.{CastBlock}
use Rattle.mono_syntax.specs.declared.cast.NamedType.{NamedType}
use Rattle.node_code.specs.NodeMeaning.{Trees, IsMeant}
use Rattle.node_code.specs.Places.{At, Keeps}
use Rattle.node_code.specs.declared.data.Block.{Block}
use Rattle.node_code.specs.declared.data.Pool.{Pool}
use Rattle.node_code.specs.declared.data.Slots.{Slots}
use Rattle.node_code.specs.declared.data.WithBlock.{WithBlock}

abbrev pub names_in : List NamedType → List (List ℕ)
names_in ns = map (λ n. n.name) ns

-- the slots of a block: its names in their order, values and threads apart
abbrev pub slots_of : CastBlock → Slots
slots_of b = record { names = names_in b.names; threads = names_in b.threads }

-- the same block by numbers, over these texts and this table of types: its names are the block's, its nodes stand for trees, and its body
-- is the block's
pub record IsBlock (p : Pool) (b : CastBlock) (r : Block) : Type 0 where
  pub names : r.names ≡ names_in b.names
  pub threads : r.threads ≡ names_in b.threads
  pub trees : Trees
  pub meant : IsMeant (slots_of b) (record { texts = p.texts; table = p.table; code = r.code }) trees
  pub body : At trees.bodies r.body b.body

-- texts keep what they have, and the table of types stays as it is
pub record PoolGrows (a b : Pool) : Type 0 where
  pub texts : Keeps a.texts b.texts
  pub table : a.table ≡ b.table

-- the block stands over the texts behind it
pub record AddsBlock (b : CastBlock) (a : Pool) (r : WithBlock) : Type 0 where
  pub grows : PoolGrows a r.pool
  pub block : IsBlock r.pool b r.block
