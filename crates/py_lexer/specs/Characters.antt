-- Classes of characters, the lines of a text, and where its characters stand. A text is the list of its characters.
use Rattle.std.specs.Prelude.{ℕ, ◌+◌, Bool, true, false, ◌&&◌, ◌||◌, ◌==◌, not, nat_lt, List, [], ◌∷◌, length, if◌then◌else◌}
use Rattle.std.specs.Char.{encode_utf8}
use Rattle.mono_syntax.specs.declared.Place.{Place}
use Rattle.py_lexer.specs.declared.spot.Spot.{Spot}

-- one of these characters
abbrev pub is_among : List ℕ → ℕ → Bool
is_among [] c = false
is_among (x ∷ []) c = c == x
is_among (x ∷ y ∷ ys) c = c == x || is_among (y ∷ ys) c

-- a space or a tab
abbrev pub is_blank : ℕ → Bool
is_blank = is_among (32 ∷ 9 ∷ [])

abbrev pub is_quote : ℕ → Bool
is_quote = is_among (34 ∷ 39 ∷ [])

-- a character below U+0020 that isn't a tab
abbrev pub is_control : ℕ → Bool
is_control c = nat_lt c 32 && not (c == 9)

-- whether a line ends here: at LF, at CR LF, or where the text does
abbrev pub ends_line : List ℕ → Bool
ends_line [] = true
ends_line (c ∷ []) = c == 10
ends_line (c ∷ d ∷ cs) = c == 10 || (c == 13 && d == 10)

-- what is left of the first line
abbrev pub line_of : List ℕ → List ℕ
line_of [] = []
line_of (c ∷ cs) = if ends_line (c ∷ cs) then [] else c ∷ line_of cs

abbrev pub first_place : Place
first_place = record { line = 1; column = 1 }

-- a line feed ends its line, every other character takes one column
abbrev pub place_behind : Place → ℕ → Place
place_behind p c = if c == 10 then record { line = p.line + 1; column = 1 } else record { line = p.line; column = p.column + 1 }

abbrev pub behind_one : Spot → ℕ → Spot
behind_one s c = record { offset = s.offset + length (encode_utf8 c); place = place_behind s.place c }

-- the spot behind some characters
abbrev pub behind : Spot → List ℕ → Spot
behind s [] = s
behind s (c ∷ cs) = behind (behind_one s c) cs

-- a byte order mark at the start is passed over: it takes three bytes and no column
abbrev pub marked : List ℕ → Bool
marked [] = false
marked (c ∷ cs) = c == 65279

abbrev pub start_of : List ℕ → Spot
start_of cs = record { offset = if marked cs then 3 else 0; place = first_place }

abbrev pub unmarked : List ℕ → List ℕ
unmarked [] = []
unmarked (c ∷ cs) = if c == 65279 then cs else c ∷ cs
