-- The parser's rules after building, and which of them answers to a name, a letter or a place.
use Rattle.std.proofs.Common.{◌≡◌, ◌≢◌, ◌⊎◌, ◌∙◌, ℕ, Bool, true, false, refl, sym, ap, inl, inr, List, [], ◌∷◌, map, Some, None, codes, true≢false}
use Rattle.std.specs.Str.{bytes_eq}
use Rattle.std.proofs.lemmas.Slice.Eq.{bytes_eq-Decides}
use Rattle.clap.specs.Walk.{Rule, Text, arg_by_id, arg_by_index, arg_by_long, arg_by_short}
use Rattle.clap.specs.Simple.{filled, filled_from, with_index}
use Rattle.command_words.specs.computed.Parser.{last_rule, option_rule}

-- x is one of the list
abbrev pub Among : List Text → Text → Type 0
Among [] x = ⊥
Among (y ∷ ys) x = (y ≡ x) ⊎ Among ys x

-- either answer of a test
pub tested : (b : Bool) → (b ≡ true) ⊎ (b ≡ false)
tested true = inl refl
tested false = inr refl

pub same_bytes : (a b : Text) → bytes_eq a b ≡ true → a ≡ b
same_bytes a b e = (bytes_eq-Decides a b).0 e

pub bytes_same : (a b : Text) → a ≡ b → bytes_eq a b ≡ true
bytes_same a b e = (bytes_eq-Decides a b).1 e

pub other_bytes : {X : Type 0} (a b : Text) → a ≡ b → bytes_eq a b ≡ false → X
other_bytes a b e f = absurd (true≢false (sym (bytes_same a b e) ∙ f))

pub different : (m n : Text) → m ≢ n → bytes_eq m n ≡ false
different m n ne = elim (tested (bytes_eq m n)) [ inl e ↦ absurd (ne (same_bytes m n e)) | inr e ↦ e ]

-- an option, and the last word, once they are built
abbrev pub option_read : Text → Rule
option_read name = filled (option_rule name)

abbrev pub last_read : Rule
last_read = with_index 1 (filled last_rule)

abbrev pub options_read : List Text → List Rule
options_read names = map option_read names

abbrev pub rules : List Text → List Rule
rules names = last_read ∷ options_read names

options_built : (names : List Text) → filled_from 2 (map option_rule names) ≡ options_read names
options_built [] = refl
options_built (n ∷ names) = ap (λ rest. option_read n ∷ rest) (options_built names)

pub rules_built : (names : List Text) → filled_from 1 (last_rule ∷ map option_rule names) ≡ rules names
rules_built names = ap (λ rest. last_read ∷ rest) (options_built names)

-- by a long name
long_hit : (m n : Text) (rest : List Rule) → bytes_eq m n ≡ true → arg_by_long (option_read m ∷ rest) n ≡ Some (option_read m)
long_hit m n rest e = rw e refl

long_miss : (m n : Text) (rest : List Rule) → bytes_eq m n ≡ false → arg_by_long (option_read m ∷ rest) n ≡ arg_by_long rest n
long_miss m n rest e = rw e refl

pub by_long : (names : List Text) (n : Text) → (arg_by_long (rules names) n ≡ None) ⊎
    (Among names n × (arg_by_long (rules names) n ≡ Some (option_read n)))
by_long [] n = inl refl
by_long (m ∷ names) n = elim (tested (bytes_eq m n)) [
  | inl e ↦ let same : m ≡ n = same_bytes m n e in
      inr (inl same, long_hit m n (options_read names) e ∙ ap (λ (k : Text). Some (option_read k)) same)
  | inr e ↦ elim (by_long names n) [
    | inl none ↦ inl (long_miss m n (options_read names) e ∙ none)
    | inr found ↦ inr (inr found.0, long_miss m n (options_read names) e ∙ found.1)
  ]
]

pub long_known : (names : List Text) (n : Text) → Among names n → arg_by_long (rules names) n ≡ Some (option_read n)
long_known [] n none = absurd none
long_known (m ∷ names) n known = elim (tested (bytes_eq m n)) [
  | inl e ↦ long_hit m n (options_read names) e ∙ ap (λ (k : Text). Some (option_read k)) (same_bytes m n e)
  | inr e ↦ elim known [
    | inl same ↦ other_bytes m n same e
    | inr later ↦ long_miss m n (options_read names) e ∙ long_known names n later
  ]
]

-- by an id
id_hit : (m n : Text) (rest : List Rule) → bytes_eq m n ≡ true → arg_by_id (option_read m ∷ rest) n ≡ Some (option_read m)
id_hit m n rest e = rw e refl

id_miss : (m n : Text) (rest : List Rule) → bytes_eq m n ≡ false → arg_by_id (option_read m ∷ rest) n ≡ arg_by_id rest n
id_miss m n rest e = rw e refl

option_by_id : (names : List Text) (n : Text) → Among names n → arg_by_id (options_read names) n ≡ Some (option_read n)
option_by_id [] n none = absurd none
option_by_id (m ∷ names) n known = elim (tested (bytes_eq m n)) [
  | inl e ↦ id_hit m n (options_read names) e ∙ ap (λ (k : Text). Some (option_read k)) (same_bytes m n e)
  | inr e ↦ elim known [
    | inl same ↦ other_bytes m n same e
    | inr later ↦ id_miss m n (options_read names) e ∙ option_by_id names n later
  ]
]

pub id_known : (names : List Text) (n : Text) → Among names n → bytes_eq (codes "last") n ≡ false
    → arg_by_id (rules names) n ≡ Some (option_read n)
id_known names n known other = rw other (option_by_id names n known)

pub last_by_id : (names : List Text) → arg_by_id (rules names) (codes "last") ≡ Some last_read
last_by_id names = refl

-- by a place, and by a letter
pub first_place : (names : List Text) → arg_by_index (rules names) 1 ≡ Some last_read
first_place names = refl

pub second_place : (names : List Text) → arg_by_index (rules names) 2 ≡ None
second_place [] = refl
second_place (n ∷ names) = second_place names

pub no_letter : (names : List Text) (x : ℕ) → arg_by_short (rules names) x ≡ None
no_letter [] x = refl
no_letter (n ∷ names) x = no_letter names x
