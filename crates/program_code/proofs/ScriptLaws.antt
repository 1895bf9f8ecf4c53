-- Functions by numbers, one behind the other.
use Rattle.std.proofs.Common.{◌≡◌, ◌∙◌, refl, zero, suc, sym, ap, subst, ℕ, ◌<◌, ◌≤◌, take, List, [], ◌∷◌, ◌++◌, length, get_or, arith, Result, IfOk}
use Rattle.std.specs.Prelude.{Contains}
use Rattle.mono_syntax.specs.declared.cast.CastClass.{CastClass}
use Rattle.program_code.specs.Counts.{most_classes}
use Rattle.mono_syntax.specs.declared.cast.CastBlock.{CastBlock}
use Rattle.mono_syntax.specs.declared.cast.CastFunction.{CastFunction}
use Rattle.mono_syntax.specs.declared.cast.CastScript.{CastScript}
use Rattle.mono_tree.specs.TypeNumbers.{Names}
use Rattle.type_numbers.specs.Tables.{Table}
use Rattle.node_code.specs.Blocks.{IsBlock, PoolGrows, AddsBlock}
use Rattle.node_code.specs.Places.{Each}
use Rattle.node_code.specs.declared.data.Block.{Block}
use Rattle.node_code.specs.declared.data.Pool.{Pool}
use Rattle.node_code.proofs.BlockLaws.{block_kept, pool_on, pool_same}
use Rattle.node_code.proofs.PlaceLaws.{each_more, each_so}
use Rattle.program_code.specs.SameScript.{IsFunction, IsProgram, AddsFunction, AddsFunctions}
use Rattle.program_code.specs.declared.data.Program.{Program}
use Rattle.program_code.specs.declared.data.FunctionCode.{FunctionCode}
use Rattle.program_code.specs.declared.functions.WithFunction.{WithFunction}

function_kept : (p q : Pool) → PoolGrows p q → (r : FunctionCode) (f : CastFunction) → IsFunction p r f → IsFunction q r f
function_kept p q g r f h = record {
  params = h.params;
  declared = subst (λ (z : Table). Names z.types r.ty f.ty) g.table h.declared;
  block = block_kept p q f.block r.block g h.block;
  falls = h.falls;
}

pub functions_kept : (p q : Pool) → PoolGrows p q → (rs : List FunctionCode) (fs : List CastFunction) → Each (IsFunction p) rs fs → Each (IsFunction q) rs fs
functions_kept p q g = each_so (IsFunction p) (IsFunction q) (function_kept p q g)

pub functions_more : (a p : Pool) (rs : List FunctionCode) (fs : List CastFunction) (f : CastFunction) (r : WithFunction)
    → AddsFunctions a fs (record { functions = rs; pool = p }) → AddsFunction p f r
    → AddsFunctions a (fs ++ f ∷ []) (record { functions = rs ++ r.function ∷ []; pool = r.pool })
functions_more a p rs fs f r h k = record {
  grows = pool_on a p r.pool h.grows k.grows;
  functions = each_more (IsFunction r.pool) rs fs r.function f (functions_kept p r.pool k.grows rs fs h.functions) k.function;
}

pub is_among : (fs : List CastFunction) (i : ℕ) (f : CastFunction) → i < length fs → f ≡ get_or fs i f → Contains fs f
is_among fs i f h e = (i, h, sym e)

-- ---- as few classes as there are numbers are all the classes

take_short : (n : ℕ) (cs : List CastClass) → length cs ≤ n → take n cs ≡ cs
take_short zero [] l = refl
take_short zero (c ∷ cs) l = absurd (omega arith)
take_short (suc n) [] l = refl
take_short (suc n) (c ∷ cs) l = ap (λ (z : List CastClass). c ∷ z) (take_short n cs (omega arith))

pub take_few : (cs : List CastClass) → length cs ≤ most_classes → take most_classes cs ≡ cs
take_few cs l = take_short most_classes cs l

-- a program over a table is one over the same table
pub program_over : {E : Type 0} (p : CastScript) (t u : Table) → t ≡ u → (r : Result Program E) → IfOk r (IsProgram p t.types) → IfOk r (IsProgram p u.types)
program_over p t u e r h = subst (λ (z : Table). IfOk r (IsProgram p z.types)) e h
