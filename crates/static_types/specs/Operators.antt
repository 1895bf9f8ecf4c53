-- The operators of two parts: at which types they use them, and what they give.
use Rattle.std.specs.Prelude.{List, [], ◌∷◌, Bool, true, false}
use Rattle.mono_syntax.specs.declared.leaf.Op.{Op}
use Rattle.mono_syntax.specs.declared.leaf.Op.TheVariants as op
use Rattle.mono_syntax.specs.Ty.{Ty, dyn, int, bool}

-- arithmetic makes an integer of two, a comparison orders two integers, and equality takes values of any types
pub data Sort : Type 0 where
  arithmetic : Sort
  comparison : Sort
  equality : Sort

abbrev pub sort_of : Op → Sort
sort_of op.Add = arithmetic
sort_of op.Sub = arithmetic
sort_of op.Mul = arithmetic
sort_of op.Div = arithmetic
sort_of op.Mod = arithmetic
sort_of op.Lt = comparison
sort_of op.Le = comparison
sort_of op.Gt = comparison
sort_of op.Ge = comparison
sort_of op.Eq = equality
sort_of op.Ne = equality

-- a sum of two parts of type `Dyn`, which may also be a sum of other things than integers
abbrev pub is_dyn_sum : Op → List Ty → Bool
is_dyn_sum op.Add (dyn ∷ dyn ∷ []) = true
is_dyn_sum _ _ = false

-- at which types an operator uses its parts
abbrev pub operand_types : Sort → Bool → List Ty
operand_types equality dyn_sum = dyn ∷ dyn ∷ []
operand_types comparison dyn_sum = int ∷ int ∷ []
operand_types arithmetic true = dyn ∷ dyn ∷ []
operand_types arithmetic false = int ∷ int ∷ []

-- the type of what it gives
abbrev pub operator_type : Sort → Bool → Ty
operator_type equality dyn_sum = bool
operator_type comparison dyn_sum = bool
operator_type arithmetic true = dyn
operator_type arithmetic false = int
