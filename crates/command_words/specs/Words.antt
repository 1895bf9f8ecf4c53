-- What the words behind a command give: options with their texts, and last words.
use Rattle.std.specs.Prelude.{◌≡◌, ◌≢◌, ℕ, List, [], ◌∷◌, ◌++◌, Contains}

-- an option of this name as a word: `--fuel`
abbrev pub option_word : List ℕ → List ℕ
option_word name = 45 ∷ 45 ∷ name

-- a word that is no option: it begins with `-` only where it is `-` alone
abbrev pub IsPlain : List ℕ → Type 0
IsPlain [] = Unit {0}
IsPlain (b ∷ []) = Unit {0}
IsPlain (b ∷ c ∷ bs) = b ≢ 45

-- The words give these options with their texts, in their order, and these last words. An option is one of the names.
pub data Gives (names : List (List ℕ)) : List (List ℕ) → List (List ℕ × List ℕ) → List (List ℕ) → Type 0 where
  nothing : Gives names [] [] []
  -- `--fuel 5`
  spaced : {name word text : List ℕ} {words : List (List ℕ)} {options : List (List ℕ × List ℕ)} {last : List (List ℕ)} →
      Contains names name → word ≡ option_word name → Gives names words options last →
      Gives names (word ∷ text ∷ words) ((name, text) ∷ options) last
  -- `--fuel=5`
  joined : {name word text : List ℕ} {words : List (List ℕ)} {options : List (List ℕ × List ℕ)} {last : List (List ℕ)} →
      Contains names name → word ≡ option_word name ++ 61 ∷ text → Gives names words options last →
      Gives names (word ∷ words) ((name, text) ∷ options) last
  -- a last word
  plain : {word : List ℕ} {words : List (List ℕ)} {options : List (List ℕ × List ℕ)} {last : List (List ℕ)} →
      IsPlain word → Gives names words options last → Gives names (word ∷ words) options (word ∷ last)
  -- behind `--` every word is a last word
  rest : {word : List ℕ} {words : List (List ℕ)} → word ≡ 45 ∷ 45 ∷ [] → Gives names (word ∷ words) [] words

-- no option of this name is given
abbrev pub IsAbsent : List ℕ → List (List ℕ × List ℕ) → Type 0
IsAbsent name [] = Unit {0}
IsAbsent name (o ∷ options) = (name ≢ o.0) × IsAbsent name options

-- each option is given once
abbrev pub AreOnce : List (List ℕ × List ℕ) → Type 0
AreOnce [] = Unit {0}
AreOnce (o ∷ options) = IsAbsent o.0 options × AreOnce options
