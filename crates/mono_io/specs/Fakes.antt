-- What a contract sees of the shelf and the sink in memory.
use Rattle.std.specs.Prelude.{ℕ, ◌/◌, Bool, List, length, map, take, Option, bytes_eq, find, string_bytes}
use Rattle.std.specs.Option.{option_map}
use Rattle.std.specs.declared.alloc.Global.{Global}
use Rattle.std.specs.declared.string.String.{String}
use Rattle.std.specs.declared.vec.Vec.{Vec}

-- a name and the bytes under it
abbrev pub Entry : Type 0
Entry = List ℕ × List ℕ

-- the entries in order, the numbers of the calls that fail, the number of the next call, and the count of faults
pub record FakeShelf : Type 0 where
  pub entries : List Entry
  pub fails : List ℕ
  pub calls : ℕ
  pub faults : ℕ

-- the bytes put so far, the numbers of the puts that fail, the number of the next put, and the count of faults
pub record FakeSink : Type 0 where
  pub bytes : List ℕ
  pub fails : List ℕ
  pub calls : ℕ
  pub faults : ℕ

-- a file as an entry
abbrev pub entry_of : String Global × Vec ℕ Global → Entry
entry_of file = (string_bytes file.0, file.1.items)

abbrev pub entries_of : List (String Global × Vec ℕ Global) → List Entry
entries_of files = map entry_of files

-- an entry is one of that name
abbrev pub is_under : List ℕ → Entry → Bool
is_under name entry = bytes_eq entry.0 name

-- the bytes of the first entry of that name
abbrev pub bytes_under : List Entry → List ℕ → Option (List ℕ)
bytes_under entries name = option_map (λ entry. entry.1) (find (is_under name) entries)

-- the first half of a piece, rounded down
abbrev pub half_of : List ℕ → List ℕ
half_of piece = take (length piece / 2) piece
