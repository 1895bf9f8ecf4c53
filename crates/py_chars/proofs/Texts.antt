-- The characters of a text, one by one.
use Rattle.std.proofs.Common.{ℕ, ◌<◌, ◌≡◌, List, [], ◌∷◌, ◌++◌, length, arith, ap}
use Rattle.std.proofs.lemmas.Str.{chars-nil, length-encode, len_utf8_bounds}
use Rattle.std.proofs.lemmas.List.{length-append}
use Rattle.std.specs.Char.{encode_utf8}
use Rattle.std.specs.Str.{chars}

pub no_chars : (bs : List ℕ) → length bs ≡ 0 → chars bs ≡ []
no_chars [] e = chars-nil
no_chars (b ∷ bs) e = absurd (omega arith)

pub shorter : (bs rest : List ℕ) (c : ℕ) → bs ≡ encode_utf8 c ++ rest → length rest < length bs
shorter bs rest c e = omega (arith, ap length e, length-append (encode_utf8 c) rest, length-encode c, len_utf8_bounds c)
