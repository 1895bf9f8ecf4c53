-- The text of a type whose names are text is text.
use Rattle.std.proofs.Common.{◌≡◌, ℕ, ◌<◌, true, nat_lt, List, [], ◌∷◌, ◌++◌, refl, arith}
use Rattle.std.specs.Prelude.{codes, IsUtf8, IsAscii}
use Rattle.std.specs.List.{list_all}
use Rattle.std.proofs.lemmas.Bool.{and_parts}
use Rattle.std.proofs.lemmas.Str.{IsUtf8-append, IsUtf8-nil, IsUtf8-from_ascii}
use Rattle.std.proofs.lemmas.Str.Ascii.{IsAscii-nil, IsAscii-cons}
use Rattle.mono_syntax.specs.Ty.{Ty, dyn, int, bool, str, nil, fun, obj, Tys, no_tys, more_tys, Fields, no_fields, more_fields}
use Rattle.mono_tree.specs.TypeText.{text_of, texts_of, field_texts, joined, joined_on, HasTextNames, HaveTextNames, AreTextNames}

abbrev AreUtf8 : List (List ℕ) → Type 0
AreUtf8 [] = Unit {0}
AreUtf8 (p ∷ ps) = IsUtf8 p × AreUtf8 ps

below_128 : (b : ℕ) → nat_lt b 128 ≡ true → b < 128
below_128 b e = grind arith

all_ascii : (bs : List ℕ) → list_all (λ b. nat_lt b 128) bs ≡ true → IsAscii bs
all_ascii [] e = IsAscii-nil
all_ascii (b ∷ bs) e = let h = and_parts (nat_lt b 128) (list_all (λ b. nat_lt b 128) bs) e in IsAscii-cons b bs (below_128 b h.0) (all_ascii bs h.1)

-- a piece of which it computes that it is ASCII
ascii : (bs : List ℕ) → list_all (λ b. nat_lt b 128) bs ≡ true → IsUtf8 bs
ascii bs e = IsUtf8-from_ascii bs (all_ascii bs e)

between : (before text behind : List ℕ) → IsUtf8 before → IsUtf8 text → IsUtf8 behind → IsUtf8 (before ++ text ++ behind)
between before text behind b t e = IsUtf8-append (before ++ text) behind (IsUtf8-append before text b t) e

joined_on-utf8 : (ps : List (List ℕ)) → AreUtf8 ps → IsUtf8 (joined_on ps)
joined_on-utf8 [] h = IsUtf8-nil
joined_on-utf8 (p ∷ ps) h = between (codes ", ") p (joined_on ps) (ascii (codes ", ") refl) h.0 (joined_on-utf8 ps h.1)

joined-utf8 : (ps : List (List ℕ)) → AreUtf8 ps → IsUtf8 (joined ps)
joined-utf8 [] h = IsUtf8-nil
joined-utf8 (p ∷ ps) h = IsUtf8-append p (joined_on ps) h.0 (joined_on-utf8 ps h.1)

mutual
  pub text_of-utf8 : (a : Ty) → HasTextNames a → IsUtf8 (text_of a)
  text_of-utf8 dyn h = ascii (codes "Dyn") refl
  text_of-utf8 int h = ascii (codes "int") refl
  text_of-utf8 bool h = ascii (codes "bool") refl
  text_of-utf8 str h = ascii (codes "str") refl
  text_of-utf8 nil h = ascii (codes "None") refl
  text_of-utf8 (fun ps r) h =
      let params = codes "Callable[[" ++ joined (texts_of ps) ++ codes "], " in
      let start : IsUtf8 params = between (codes "Callable[[") (joined (texts_of ps)) (codes "], ") (ascii (codes "Callable[[") refl) (joined-utf8 (texts_of ps) (texts_of-utf8 ps h.0)) (ascii (codes "], ") refl) in
      between params (text_of r) (codes "]") start (text_of-utf8 r h.1) (ascii (codes "]") refl)
  text_of-utf8 (obj fs) h = between (codes "{") (joined (field_texts fs)) (codes "}") (ascii (codes "{") refl) (joined-utf8 (field_texts fs) (field_texts-utf8 fs h)) (ascii (codes "}") refl)

  texts_of-utf8 : (ts : Tys) → HaveTextNames ts → AreUtf8 (texts_of ts)
  texts_of-utf8 no_tys h = tt
  texts_of-utf8 (more_tys t ts) h = (text_of-utf8 t h.0, texts_of-utf8 ts h.1)

  field_texts-utf8 : (fs : Fields) → AreTextNames fs → AreUtf8 (field_texts fs)
  field_texts-utf8 no_fields h = tt
  field_texts-utf8 (more_fields n t fs) h = (between n (codes ": ") (text_of t) h.0 (ascii (codes ": ") refl) (text_of-utf8 t h.1), field_texts-utf8 fs h.2)
