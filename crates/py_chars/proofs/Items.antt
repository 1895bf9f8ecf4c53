-- The items of a string's inside, one by one, and what they add to its value.
use Rattle.std.proofs.Common.{ℕ, ◌+◌, ◌≡◌, List, [], ◌∷◌, ◌++◌, map, true, false, Some, refl, ap, ◌∙◌, append_assoc}
use Rattle.std.proofs.lemmas.Bool.{ne_eqb}
use Rattle.std.specs.Char.{encode_utf8}
use Rattle.std.specs.Str.{encode_utf8_all}
use Rattle.py_chars.specs.Spellings.{Item, plain, escape, items_of, item_value, first_bad, is_escape}

pub plain_item : (c : ℕ) (cs : List ℕ) → (c ≡ 92 → ⊥) → items_of (c ∷ cs) ≡ plain c ∷ items_of cs
plain_item c [] h = refl
plain_item c (d ∷ cs) h = rw (ne_eqb c 92 h) refl

pub last_item : (c : ℕ) (cs : List ℕ) → cs ≡ [] → items_of (c ∷ cs) ≡ plain c ∷ items_of cs
last_item c [] e = refl
last_item c (d ∷ cs) e = absurd cc

pub escape_item : (c d : ℕ) (cs ds : List ℕ) → c ≡ 92 → cs ≡ d ∷ ds → items_of (c ∷ cs) ≡ escape d ∷ items_of ds
escape_item c d cs ds b e = ap items_of (ap (λ l. c ∷ l) e) ∙ ap (λ x. items_of (x ∷ d ∷ ds)) b

-- what a value becomes by one more item
pub value_more : (before after : List ℕ) (item : Item) (items rest : List Item) (total : List ℕ) → items ≡ item ∷ rest
    → after ≡ before ++ encode_utf8 (item_value item) → before ++ encode_utf8_all (map item_value items) ≡ total → after ++ encode_utf8_all (map item_value rest) ≡ total
value_more before after item items rest total e a h = rw (a, append_assoc) (rw e at h)

-- and where the first bad escape stands
pub plain_further : (n : ℕ) (c : ℕ) (items rest : List Item) → items ≡ plain c ∷ rest → first_bad n items ≡ first_bad (n + 1) rest
plain_further n c items rest e = ap (first_bad n) e

pub escape_further : (n d : ℕ) (items rest : List Item) → is_escape d ≡ true → items ≡ escape d ∷ rest → first_bad n items ≡ first_bad (n + 2) rest
escape_further n d items rest t e = ap (first_bad n) e ∙ rw t refl

pub escape_bad : (n d : ℕ) (items rest : List Item) → is_escape d ≡ false → items ≡ escape d ∷ rest → first_bad n items ≡ Some n
escape_bad n d items rest f e = ap (first_bad n) e ∙ rw f refl
