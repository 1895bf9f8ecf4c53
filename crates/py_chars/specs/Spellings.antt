-- What the spellings of names, numbers and strings are worth. A text is the list of its characters.
use Rattle.std.specs.Prelude.{ℕ, ◌+◌, ◌-◌, ◌*◌, ◌^◌, Bool, false, ◌&&◌, ◌||◌, ◌==◌, not, nat_le, List, [], ◌∷◌, length, map, Option, Some, None, if◌then◌else◌}
use Rattle.std.specs.List.{list_all}
use Rattle.std.specs.Char.{is_ascii_digit}
use Rattle.mono_syntax.specs.Limits.{greatest_integer}
use Rattle.unicode_ident.specs.Ident.{is_xid_start, is_xid_continue}
use Rattle.unicode_normalization.specs.Forms.{Nfkc, is_in_form}

-- a character that may begin a name: XID_Start or `_`
abbrev pub starts_name : ℕ → Bool
starts_name c = is_xid_start c || (c == 95)

-- an identifier: a character that may begin a name, then XID_Continue
abbrev pub is_identifier : List ℕ → Bool
is_identifier [] = false
is_identifier (c ∷ cs) = starts_name c && list_all is_xid_continue cs

-- an identifier in the normalization form NFKC
unfoldable pub is_name : List ℕ → Bool
is_name cs = is_identifier cs && is_in_form Nfkc cs

-- the number that digits spell, the highest digit first
unfoldable pub digits_value : List ℕ → ℕ
digits_value [] = 0
digits_value (c ∷ cs) = (c - 48) * 10 ^ length cs + digits_value cs

-- digits, of which the first isn't `0` unless it stands alone
abbrev pub is_numeral : List ℕ → Bool
is_numeral [] = false
is_numeral (c ∷ cs) = is_ascii_digit c && list_all is_ascii_digit cs && (not (c == 48) || length cs == 0)

-- the value of a number, which is at most 2^47 - 1
unfoldable pub number_of : List ℕ → Option ℕ
number_of cs = if is_numeral cs && nat_le (digits_value cs) greatest_integer then Some (digits_value cs) else None

-- what stands inside a string literal: characters that stand for themselves, and backslashes, each with the character behind it
pub data Item : Type 0 where
  plain : ℕ → Item
  escape : ℕ → Item

-- the items of a string's inside
abbrev pub items_of : List ℕ → List Item
items_of [] = []
items_of (c ∷ []) = plain c ∷ []
items_of (c ∷ d ∷ cs) = if c == 92 then escape d ∷ items_of cs else plain c ∷ items_of (d ∷ cs)

-- `n`, `t`, `\`, `'` and `"` mean something behind a backslash, no other character does
abbrev pub is_escape : ℕ → Bool
is_escape d = d == 110 || d == 116 || d == 92 || d == 39 || d == 34

-- what a character behind a backslash stands for: `n` for a line feed, `t` for a tab, the others for themselves
abbrev pub escaped : ℕ → ℕ
escaped d = if d == 110 then 10 else (if d == 116 then 9 else d)

abbrev pub item_value : Item → ℕ
item_value (plain c) = c
item_value (escape d) = escaped d

-- the value of a string with this inside
unfoldable pub string_of : List ℕ → List ℕ
string_of cs = map item_value (items_of cs)

-- the place of the first bad escape among items, of which the first stands behind n characters
abbrev pub first_bad : ℕ → List Item → Option ℕ
first_bad n [] = None
first_bad n (plain c ∷ items) = first_bad (n + 1) items
first_bad n (escape d ∷ items) = if is_escape d then first_bad (n + 2) items else Some n

-- how many characters stand before the first backslash of a string's inside that means nothing
unfoldable pub bad_escape : List ℕ → Option ℕ
bad_escape cs = first_bad 0 (items_of cs)
