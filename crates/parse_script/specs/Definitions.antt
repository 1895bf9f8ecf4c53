-- The grammar of classes and functions: one case for each form.
use Rattle.std.specs.Prelude.{ℕ, true, List, [], ◌∷◌, ◌++◌, Option, Some, None}
use Rattle.mono_syntax.specs.declared.leaf.Place.{Place}
use Rattle.mono_syntax.specs.declared.tree.ClassDef.{ClassDef}
use Rattle.mono_syntax.specs.declared.tree.FieldDef.{FieldDef}
use Rattle.mono_syntax.specs.declared.tree.FuncDef.{FuncDef}
use Rattle.mono_syntax.specs.declared.tree.Param.{Param}
use Rattle.mono_syntax.specs.Ann.{Ann}
use Rattle.mono_syntax.specs.Stmt.{Stmt}
use Rattle.parse_expr.specs.Types.{IsType, word}
use Rattle.spelled_tokens.specs.declared.token.Mark.TheVariants as mark
use Rattle.spelled_tokens.specs.declared.token.Spelled.{Spelled}
use Rattle.spelled_tokens.specs.declared.token.What.TheVariants as what
use Rattle.spelled_tokens.specs.SpelledTokens.{tok, sign}
use Rattle.mono_syntax.specs.Limits.{greatest_weight}
use Rattle.parse_script.specs.Statements.{DerivesBlock}

-- a field: its name and its type
pub data DerivesField : List Spelled → FieldDef → Type 0 where
  field : (p q r : Place) (x : List ℕ) (ts : List Spelled) (a : Ann) → IsType greatest_weight ts a
      → DerivesField (tok (what.Name x) p ∷ sign mark.Colon q ∷ (ts ++ (sign mark.Newline r ∷ []))) (record { name = word x p; ann = a })

-- one or more fields
pub data DerivesFields : List Spelled → List FieldDef → Type 0 where
  one_field : (ts : List Spelled) (f : FieldDef) → DerivesField ts f → DerivesFields ts (f ∷ [])
  more_fields : (ts us : List Spelled) (f : FieldDef) (fs : List FieldDef) → DerivesField ts f → DerivesFields us fs → DerivesFields (ts ++ us) (f ∷ fs)

-- a class: `pass` in its block, or its fields
pub data DerivesClass : List Spelled → ClassDef → Type 0 where
  no_fields : (p q r s t u v w : Place) (x : List ℕ)
      → DerivesClass (sign mark.Class p ∷ tok (what.Name x) q ∷ sign mark.Colon r ∷ sign mark.Newline s ∷ sign mark.Indent t ∷ sign mark.Pass u ∷ sign mark.Newline v ∷ sign mark.Dedent w ∷ [])
      (record { name = word x q; fields = [] })
  fields : (p q r s t u : Place) (x : List ℕ) (us : List Spelled) (fs : List FieldDef) → DerivesFields us fs
      → DerivesClass (sign mark.Class p ∷ tok (what.Name x) q ∷ sign mark.Colon r ∷ sign mark.Newline s ∷ sign mark.Indent t ∷ (us ++ (sign mark.Dedent u ∷ [])))
      (record { name = word x q; fields = fs })

-- a parameter, with its type or without
pub data DerivesParam : List Spelled → Param → Type 0 where
  bare : (p : Place) (x : List ℕ) → DerivesParam (tok (what.Name x) p ∷ []) (record { name = word x p; ann = None })
  typed : (p q : Place) (x : List ℕ) (ts : List Spelled) (a : Ann) → IsType greatest_weight ts a
      → DerivesParam (tok (what.Name x) p ∷ sign mark.Colon q ∷ ts) (record { name = word x p; ann = Some a })

-- any number of parameters with commas between, and maybe one behind the last
pub data DerivesParams : List Spelled → List Param → Type 0 where
  no_params : DerivesParams [] []
  last_param : (ts : List Spelled) (x : Param) → DerivesParam ts x → DerivesParams ts (x ∷ [])
  more_params : (p : Place) (ts us : List Spelled) (x : Param) (xs : List Param) → DerivesParam ts x → DerivesParams us xs
      → DerivesParams (ts ++ (tok what.Comma p ∷ us)) (x ∷ xs)

-- the type of a function's result, or none
pub data DerivesResult : List Spelled → Option Ann → Type 0 where
  no_result : DerivesResult [] None
  result : (p : Place) (ts : List Spelled) (a : Ann) → IsType greatest_weight ts a → DerivesResult (sign mark.Arrow p ∷ ts) (Some a)

-- a function, whose body is a block of its own
pub data DerivesDef : List Spelled → FuncDef → Type 0 where
  def : (p q r s t : Place) (x : List ℕ) (us : List Spelled) (xs : List Param) (rs : List Spelled) (a : Option Ann) (bs : List Spelled) (ss : List Stmt)
      → DerivesParams us xs → DerivesResult rs a → DerivesBlock true 1 bs ss
      → DerivesDef (sign mark.Def p ∷ tok (what.Name x) q ∷ tok what.Open r ∷ (us ++ (tok what.Close s ∷ (rs ++ (sign mark.Colon t ∷ bs)))))
      (record { name = word x q; params = xs; result = a; body = ss })
