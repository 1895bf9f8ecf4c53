-- Spots stay within the text.
use Rattle.std.proofs.Common.{ℕ, ◌+◌, ◌<◌, ◌≤◌, ◌≡◌, List, [], ◌∷◌, length, ◌==◌, if◌then◌else◌, arith, ap, ◌∙◌}
use Rattle.std.specs.Char.{encode_utf8}
use Rattle.std.specs.Str.{encode_utf8_all, chars, IsUtf8}
use Rattle.std.proofs.lemmas.List.{length-append}
use Rattle.std.proofs.lemmas.Str.{length-encode, len_utf8_bounds, encodes-chars}
use Rattle.mono_list.proofs.Cases.{split}
use Rattle.mono_syntax.specs.declared.Place.{Place}
use Rattle.py_lexer.specs.declared.spot.Spot.{Spot}
use Rattle.py_lexer.specs.Characters.{behind_one, behind, place_behind}
use Rattle.py_lexer.specs.Bounds.{Fits}

pub some_bytes : (c : ℕ) → 1 ≤ length (encode_utf8 c)
some_bytes c = omega (arith, length-encode c, len_utf8_bounds c)

pub record IsClose (p q : Place) : Type 0 where
  pub line : q.line ≤ p.line + 1
  pub column : q.column ≤ p.column + 1

close_behind : (p : Place) (c : ℕ) → IsClose p (place_behind p c)
close_behind p c =
    split (c == 10) (λ b. IsClose p (if b then record { line = p.line + 1; column = 1 } else record { line = p.line; column = p.column + 1 }))
    (λ _. record { line = omega arith; column = omega arith }) (λ _. record { line = omega arith; column = omega arith })

pub fits_on : (s : Spot) (c n : ℕ) → Fits s (length (encode_utf8 c) + n) → Fits (behind_one s c) n
fits_on s c n f =
    let close = close_behind s.place c in
    let bytes = some_bytes c in
    record { bytes = omega (arith, f.bytes); lines = omega (arith, f.lines, close.line); columns = omega (arith, f.columns, close.column) }

pub fits_less : (s : Spot) (n m : ℕ) → m ≤ n → Fits s n → Fits s m
fits_less s n m l f = record { bytes = omega (arith, f.bytes); lines = f.lines; columns = f.columns }

pub room : (s : Spot) (n : ℕ) → Fits s n → (s.place.line < 4294967295) × (s.place.column < 4294967295) × (s.offset + n < 4294967296)
room s n f = (omega (arith, f.lines, f.bytes), omega (arith, f.columns, f.bytes), omega (arith, f.bytes))

pub behind_offset : (s : Spot) (cs : List ℕ) → (behind s cs).offset ≡ s.offset + length (encode_utf8_all cs)
behind_offset s [] = omega arith
behind_offset s (c ∷ cs) = behind_offset (behind_one s c) cs ∙ omega (arith, length-append (encode_utf8 c) (encode_utf8_all cs))

-- a text moves the offset by its bytes
pub behind_text : (s : Spot) (bs : List ℕ) → IsUtf8 bs → (behind s (chars bs)).offset ≡ s.offset + length bs
behind_text s bs u = behind_offset s (chars bs) ∙ ap (λ l. s.offset + length l) (encodes-chars bs u)

pub mark_bytes : length (encode_utf8 65279) ≡ 3
mark_bytes = length-encode 65279
