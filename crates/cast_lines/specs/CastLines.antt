-- The list of a script's casts.
use Rattle.std.specs.Prelude.{ℕ, ◌+◌, Bool, true, false, List, [], ◌∷◌, ◌++◌, flat_map, codes, decimal, Option, Some, None, slice_get, IsPermutation, IsSorted}
use Rattle.mono_syntax.specs.declared.cast.CastScript.{CastScript}
use Rattle.mono_syntax.specs.declared.leaf.Kind.{Kind}
use Rattle.mono_syntax.specs.declared.leaf.Kind.TheVariants as kind
use Rattle.mono_syntax.specs.declared.leaf.Site.{Site}
use Rattle.mono_syntax.specs.declared.leaf.TyAt.{TyAt}
use Rattle.mono_syntax.specs.Ty.{Ty}
use Rattle.mono_tree.specs.TypeText.{text_of}
use Rattle.cast_lines.specs.declared.rows.Row.{Row}
use Rattle.cast_lines.specs.Order.{order}

-- ---- which sites, and in which order

-- the place of a kind among those of the list; where only an operator's own failure or an unbound name can be met, no value passes
abbrev pub rank : Kind → Option ℕ
rank kind.Cast = Some 0
rank kind.Argument = Some 1
rank kind.Write = Some 2
rank kind.Return = Some 3
rank kind.Operator = Some 4
rank kind.Member = Some 5
rank kind.Call = Some 6
rank kind.Arithmetic = None
rank kind.Name = None

abbrev pub row_of : ℕ → Site → Option ℕ → List Row
row_of n x None = []
row_of n x (Some k) = record { line = x.place.line; column = x.place.column; rank = k; number = n } ∷ []

-- the sites of the list, where the first of these has number n
abbrev pub rows_from : ℕ → List Site → List Row
rows_from n [] = []
rows_from n (x ∷ xs) = row_of n x (rank x.kind) ++ rows_from (n + 1) xs

-- these are the sites of the list in its order
pub record AreRows (sites : List Site) (rows : List Row) : Type 0 where
  pub same : IsPermutation (rows_from 0 sites) rows
  pub sorted : IsSorted order rows

-- ---- their lines

abbrev pub kind_name : Kind → List ℕ
kind_name kind.Cast = codes "cast"
kind_name kind.Argument = codes "argument"
kind_name kind.Write = codes "write"
kind_name kind.Return = codes "return"
kind_name kind.Operator = codes "operator"
kind_name kind.Member = codes "member"
kind_name kind.Call = codes "call"
kind_name kind.Arithmetic = codes "arithmetic"
kind_name kind.Name = codes "name"

-- whether the line names the two types
abbrev pub has_types : Kind → Bool
has_types kind.Cast = true
has_types kind.Argument = true
has_types kind.Write = true
has_types kind.Return = true
has_types _ = false

abbrev pub text_when : Option Ty → List ℕ
text_when None = []
text_when (Some t) = text_of t

abbrev pub type_at : List Ty → TyAt → List ℕ
type_at types a = text_when (slice_get types a.0)

abbrev pub types_text : Bool → List Ty → Site → List ℕ
types_text true types x = 32 ∷ (type_at types x.source ++ (codes " => " ++ type_at types x.target))
types_text false types x = []

-- line, column and kind; and the source and the target, where the kind has types
abbrev pub site_line : List Ty → Site → List ℕ
site_line types x =
    decimal x.place.line ++ (58 ∷ (decimal x.place.column ++ (32 ∷ (kind_name x.kind ++ (types_text (has_types x.kind) types x ++ 10 ∷ [])))))

abbrev pub line_when : List Ty → Option Site → List ℕ
line_when types None = []
line_when types (Some x) = site_line types x

abbrev pub row_line : CastScript → Row → List ℕ
row_line p r = line_when p.types (slice_get p.sites r.number)

abbrev pub rows_text : CastScript → List Row → List ℕ
rows_text p rows = flat_map (row_line p) rows
