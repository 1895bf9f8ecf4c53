-- The grammar of types: one case for each form, with its weight.
use Rattle.std.specs.Prelude.{◌≡◌, ℕ, suc, ◌≤◌, max, List, [], ◌∷◌, ◌++◌}
use Rattle.mono_syntax.specs.declared.leaf.Place.{Place}
use Rattle.mono_syntax.specs.declared.leaf.Word.{Word}
use Rattle.mono_syntax.specs.Ann.{Ann, ann, dyn, int, bool, str, nil, class, fun}
use Rattle.mono_syntax.specs.AnnView.{anns}
use Rattle.spelled_tokens.specs.declared.token.Spelled.{Spelled}
use Rattle.spelled_tokens.specs.declared.token.What.TheVariants as what
use Rattle.spelled_tokens.specs.declared.token.Mark.TheVariants as mark
use Rattle.spelled_tokens.specs.SpelledTokens.{tok, sign}

abbrev pub word : List ℕ → Place → Word
word x p = record { text = x; place = p }

mutual
  -- these tokens are a type, with this weight: 1 where it has no parts, and one more than the heaviest of its parts otherwise. Its place is its first token's
  pub data DerivesType : List Spelled → ℕ → Ann → Type 0 where
    dyn_type : (p : Place) → DerivesType (sign mark.Dyn p ∷ []) 1 (ann p dyn)
    int_type : (p : Place) → DerivesType (sign mark.Int p ∷ []) 1 (ann p int)
    bool_type : (p : Place) → DerivesType (sign mark.Bool p ∷ []) 1 (ann p bool)
    str_type : (p : Place) → DerivesType (sign mark.Str p ∷ []) 1 (ann p str)
    nil_type : (p : Place) → DerivesType (tok what.Nil p ∷ []) 1 (ann p nil)
    class_type : (p : Place) (x : List ℕ) → DerivesType (tok (what.Name x) p ∷ []) 1 (ann p (class (word x p)))
    -- `Callable [ [ parameters ] , result ]`
    callable : (p q r s t u : Place) (ts us : List Spelled) (v w : ℕ) (xs : List Ann) (a : Ann) → DerivesTypes ts v xs → DerivesType us w a
        → DerivesType (sign mark.Callable p ∷ sign mark.OpenSquare q ∷ sign mark.OpenSquare r ∷ (ts ++ (sign mark.CloseSquare s ∷ tok what.Comma t ∷ (us ++ (sign mark.CloseSquare u ∷ [])))))
        (suc (max v w)) (ann p (fun (anns xs) a))

  -- any number of types with commas between, and the greatest weight among them
  pub data DerivesTypes : List Spelled → ℕ → List Ann → Type 0 where
    no_types : DerivesTypes [] 0 []
    some_types : (ts : List Spelled) (w : ℕ) (xs : List Ann) → DerivesTypeRow ts w xs → DerivesTypes ts w xs

  -- one or more
  pub data DerivesTypeRow : List Spelled → ℕ → List Ann → Type 0 where
    one_type : (ts : List Spelled) (w : ℕ) (a : Ann) → DerivesType ts w a → DerivesTypeRow ts w (a ∷ [])
    more_types : (p : Place) (ts us : List Spelled) (v w : ℕ) (a : Ann) (xs : List Ann) → DerivesType ts v a → DerivesTypeRow us w xs
        → DerivesTypeRow (ts ++ (tok what.Comma p ∷ us)) (max v w) (a ∷ xs)

-- tokens are at most one type, of whatever weight
abbrev pub OneType : Type 0
OneType = (ts : List Spelled) (v w : ℕ) (a b : Ann) → DerivesType ts v a → DerivesType ts w b → a ≡ b

-- a type of a weight that fits in the room
abbrev pub IsType : ℕ → List Spelled → Ann → Type 0
IsType room ts a = (w : ℕ) × DerivesType ts w a × (w ≤ room)
