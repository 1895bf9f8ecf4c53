-- Texts of ASCII characters: their characters are their bytes, and such an identifier is a name.
use Rattle.std.proofs.Common.{ℕ, zero, suc, ◌<◌, ◌≡◌, true, Bool, List, [], ◌∷◌, length, get_or, nat_lt, arith}
use Rattle.std.specs.List.{list_all, All}
use Rattle.std.specs.Str.{chars, IsUtf8, IsAscii}
use Rattle.std.proofs.lemmas.Bool.{and_parts, and_from, ltb-true}
use Rattle.std.proofs.lemmas.Str.{chars-IsAscii, IsUtf8-from_ascii}
use Rattle.std.proofs.lemmas.Slice.Eq.{bytes_eq-Decides}
use Rattle.unicode_normalization.specs.Forms.{Nfkc}
use Rattle.unicode_normalization.proofs.FormsLemmas.{normalize-ascii}
use Rattle.py_chars.specs.Spellings.{is_identifier, is_name}

abbrev pub is_low : List ℕ → Bool
is_low = list_all (λ c. nat_lt c 128)

low_at : (bs : List ℕ) (i d : ℕ) → is_low bs ≡ true → d < 128 → get_or bs i d < 128
low_at [] i d h l = l
low_at (b ∷ bs) zero d h l = ltb-true b 128 (and_parts (nat_lt b 128) (is_low bs) h).0
low_at (b ∷ bs) (suc i) d h l = low_at bs i d (and_parts (nat_lt b 128) (is_low bs) h).1 l

pub low_ascii : (bs : List ℕ) → is_low bs ≡ true → IsAscii bs
low_ascii bs h = λ i. low_at bs i 0 h (omega arith)

low_within : (bs : List ℕ) (i d : ℕ) → is_low bs ≡ true → i < length bs → get_or bs i d < 128
low_within [] i d h l = absurd (omega arith)
low_within (b ∷ bs) zero d h l = ltb-true b 128 (and_parts (nat_lt b 128) (is_low bs) h).0
low_within (b ∷ bs) (suc i) d h l = low_within bs i d (and_parts (nat_lt b 128) (is_low bs) h).1 (omega arith)

low_all : (bs : List ℕ) → is_low bs ≡ true → All (λ c. c < 128) bs
low_all bs h = λ k d l. low_within bs k d h l

pub low_chars : (bs : List ℕ) → is_low bs ≡ true → chars bs ≡ bs
low_chars bs h = chars-IsAscii bs (low_ascii bs h)

pub low_utf8 : (bs : List ℕ) → is_low bs ≡ true → IsUtf8 bs
low_utf8 bs h = IsUtf8-from_ascii bs (low_ascii bs h)

-- an identifier of ASCII characters is a name
pub low_name : (cs : List ℕ) → is_identifier cs ≡ true → is_low cs ≡ true → is_name cs ≡ true
unfolding is_name
low_name cs i h = and_from (is_identifier cs) _ i ((bytes_eq-Decides _ cs).1 (normalize-ascii Nfkc cs (low_all cs h)))
