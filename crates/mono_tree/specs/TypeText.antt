-- The text of a type.
use Rattle.std.specs.Prelude.{ℕ, List, [], ◌∷◌, ◌++◌, codes, IsUtf8}
use Rattle.mono_syntax.specs.Ty.{Ty, dyn, int, bool, str, nil, fun, obj, Tys, no_tys, more_tys, Fields, no_fields, more_fields}

-- the pieces, each behind `, `
abbrev pub joined_on : List (List ℕ) → List ℕ
joined_on [] = []
joined_on (p ∷ ps) = codes ", " ++ p ++ joined_on ps

-- the pieces, with `, ` between them
abbrev pub joined : List (List ℕ) → List ℕ
joined [] = []
joined (p ∷ ps) = p ++ joined_on ps

abbrev mutual
  -- as `int`, `Callable[[A, B], R]` or `{a: A, b: B}`
  pub text_of : Ty → List ℕ
  text_of dyn = codes "Dyn"
  text_of int = codes "int"
  text_of bool = codes "bool"
  text_of str = codes "str"
  text_of nil = codes "None"
  text_of (fun ps r) = codes "Callable[[" ++ joined (texts_of ps) ++ codes "], " ++ text_of r ++ codes "]"
  text_of (obj fs) = codes "{" ++ joined (field_texts fs) ++ codes "}"

  pub texts_of : Tys → List (List ℕ)
  texts_of no_tys = []
  texts_of (more_tys t ts) = text_of t ∷ texts_of ts

  pub field_texts : Fields → List (List ℕ)
  field_texts no_fields = []
  field_texts (more_fields n t fs) = (n ++ codes ": " ++ text_of t) ∷ field_texts fs

abbrev mutual
  -- the names of its fields, at every level, are text
  pub HasTextNames : Ty → Type 0
  HasTextNames (fun ps r) = HaveTextNames ps × HasTextNames r
  HasTextNames (obj fs) = AreTextNames fs
  HasTextNames _ = Unit {0}

  pub HaveTextNames : Tys → Type 0
  HaveTextNames no_tys = Unit {0}
  HaveTextNames (more_tys t ts) = HasTextNames t × HaveTextNames ts

  pub AreTextNames : Fields → Type 0
  AreTextNames no_fields = Unit {0}
  AreTextNames (more_fields n t fs) = IsUtf8 n × HasTextNames t × AreTextNames fs
