-- computed: what the code of `front` computes, which reads the piece at the front of a text.
use Rattle.std.specs.Prelude.{ℕ, Bool, false, ◌&&◌, ◌==◌, not, List, [], ◌∷◌, Option, Some, None, if◌then◌else◌}
use Rattle.std.specs.Char.{is_ascii_digit}
use Rattle.unicode_ident.specs.Ident.{is_xid_continue}
use Rattle.py_chars.specs.Spellings.{starts_name}
use Rattle.py_lexer.specs.declared.piece.Kind.{Kind}
use Rattle.py_lexer.specs.declared.piece.Kind.TheVariants as kind
use Rattle.py_lexer.specs.Characters.{is_blank, is_quote, ends_line}
use Rattle.py_lexer.specs.Pieces.{is_short_sign, is_long_sign}

-- what stands from the first character on that fails the test
abbrev pub skip : (ℕ → Bool) → List ℕ → List ℕ
skip p [] = []
skip p (c ∷ cs) = if p c then skip p cs else c ∷ cs

abbrev pub skip_line : List ℕ → List ℕ
skip_line [] = []
skip_line (c ∷ cs) = if ends_line (c ∷ cs) then c ∷ cs else skip_line cs

-- what stands behind the closing quote, where a backslash stands just before or not
abbrev pub at_close : Bool → ℕ → List ℕ → Option (List ℕ)
at_close escaped q [] = None
at_close escaped q (c ∷ cs) =
    if ends_line (c ∷ cs) then None else (if not escaped && c == q then Some cs else at_close (not escaped && c == 92) q cs)

abbrev pub string_when : List ℕ → Option (List ℕ) → Kind × List ℕ
string_when text None = (kind.Unclosed, skip_line text)
string_when text (Some rest) = (kind.Text, rest)

abbrev pub string_at : ℕ → List ℕ → List ℕ → Kind × List ℕ
string_at q text cs = string_when text (at_close false q cs)

abbrev pub short_at : ℕ → Kind
short_at c = if is_short_sign c then kind.Sign else kind.Stray

abbrev pub sign_at : ℕ → List ℕ → Kind × List ℕ
sign_at c [] = (short_at c, [])
sign_at c (d ∷ cs) = if is_long_sign c d then (kind.Sign, cs) else (short_at c, d ∷ cs)

abbrev pub drop_one : List ℕ → List ℕ
drop_one [] = []
drop_one (d ∷ cs) = cs

abbrev pub behind_end : ℕ → List ℕ → List ℕ
behind_end c cs = if c == 10 then cs else drop_one cs

-- the kind of the piece at the front, and what stands behind it
abbrev pub front_at : ℕ → List ℕ → Kind × List ℕ
front_at c cs =
    if is_blank c then (kind.Blank, skip is_blank cs)
    else (if c == 35 then (kind.Comment, skip_line (c ∷ cs))
    else (if ends_line (c ∷ cs) then (kind.LineEnd, behind_end c cs)
    else (if starts_name c then (kind.Word, skip is_xid_continue cs)
    else (if is_ascii_digit c then (kind.Number, skip is_xid_continue cs)
    else (if is_quote c then string_at c (c ∷ cs) cs else sign_at c cs)))))

unfoldable pub front : List ℕ → Kind × List ℕ
front [] = (kind.Stray, [])
front (c ∷ cs) = front_at c cs
