-- Sizes that are counted up to the limits are those of the types, counted up to the limits.
use Rattle.std.proofs.Common.{◌≡◌, ℕ, ◌+◌, min, max, arith}
use Rattle.mono_syntax.specs.Limits.{most_nodes, greatest_depth}
use Rattle.mono_syntax.specs.Ty.{Ty}
use Rattle.mono_tree.specs.declared.size.Size.{Size}
use Rattle.mono_tree.specs.computed.CountedSizes.{measured, joined, grown}
use Rattle.mono_tree.specs.Sizes.{nodes_of, depth_of}

-- parts of m nodes and depth d, counted up to the limits
abbrev pub capped : ℕ → ℕ → Size
capped m d = record { nodes = min m (most_nodes + 1); depth = min d (greatest_depth + 1) }

same_size : {a b : Size} → a.nodes ≡ b.nodes → a.depth ≡ b.depth → a ≡ b
same_size n d = λ i. record { nodes = n i; depth = d i }

pub joined-capped : (m d : ℕ) (t : Ty) → joined (capped m d) (measured t) ≡ capped (m + nodes_of t) (max d (depth_of t))
joined-capped m d t = same_size (omega arith) (omega arith)

pub grown-capped : (m d : ℕ) → grown (capped m d) ≡ capped (m + 1) (d + 1)
grown-capped m d = same_size (omega arith) (omega arith)

pub capped-same : {m n d e : ℕ} → m ≡ n → d ≡ e → capped m d ≡ capped n e
capped-same p q = λ i. capped (p i) (q i)
