-- A text cut in two, in bytes and in characters.
use Rattle.std.proofs.Common.{ℕ, ◌+◌, ◌-◌, ◌≡◌, List, ◌++◌, length, take, arith, sym, ap, ◌∙◌}
use Rattle.std.specs.Str.{chars, encode_utf8_all, IsUtf8}
use Rattle.std.proofs.lemmas.Str.{encodes-chars, encodes-append, chars-append}
use Rattle.std.proofs.lemmas.List.{append_cancel_right, length-append, take_at}

pub seam : (bs us w : List ℕ) → IsUtf8 bs → IsUtf8 us → chars bs ≡ w ++ chars us → bs ≡ encode_utf8_all w ++ us
seam bs us w b u e =
    sym (encodes-chars bs b) ∙ ap encode_utf8_all e ∙ encodes-append w (chars us) ∙ ap (λ l. encode_utf8_all w ++ l) (encodes-chars us u)

pub seam_length : (bs us w : List ℕ) → IsUtf8 bs → IsUtf8 us → chars bs ≡ w ++ chars us → length bs ≡ length (encode_utf8_all w) + length us
seam_length bs us w b u e = ap length (seam bs us w b u e) ∙ length-append (encode_utf8_all w) us

pub seam_take : (bs us w front : List ℕ) → IsUtf8 bs → IsUtf8 us → IsUtf8 front → chars bs ≡ w ++ chars us → front ≡ take (length bs - length us) bs → chars front ≡ w
seam_take bs us w front b u f e t =
    let s = seam bs us w b u e in
    let l : length (encode_utf8_all w) ≡ length bs - length us = omega (arith, seam_length bs us w b u e) in
    let same : front ≡ encode_utf8_all w = t ∙ ap (take (length bs - length us)) s ∙ take_at (encode_utf8_all w) us (length bs - length us) l in
    append_cancel_right (chars front) w (chars us) (sym (chars-append front us f) ∙ ap chars (ap (λ l. l ++ us) same ∙ sym s) ∙ e)
