-- What a token spells is what stands in the text at its place.
use Rattle.std.proofs.Common.{ℕ, zero, suc, ◌≡◌, ◌+◌, ◌-◌, ◌≤◌, ◌<◌, Bool, true, false, ◌&&◌, ◌||◌, List, [], ◌∷◌, ◌++◌, length, take, drop, nat_le, nat_lt, slice_index, Some, None, if◌then◌else◌, refl, sym, ap, subst, ◌∙◌, append_assoc, arith}
use Rattle.std.specs.List.{slice_range}
use Rattle.std.specs.Str.{IsUtf8, IsCharBoundary, chars}
use Rattle.std.proofs.Math.Seq.{take-append_seam, drop-append_seam}
use Rattle.std.proofs.lemmas.Bool.{and_from, le-leb, leb-false, ltb-false}
use Rattle.std.proofs.lemmas.List.{length-append}
use Rattle.std.proofs.lemmas.Str.{IsUtf8-append, IsUtf8-from_ascii, IsCharBoundary-at_seam}
use Rattle.mono_list.proofs.Cases.{split}
use Rattle.py_lexer.specs.declared.spot.Spot.{Spot}
use Rattle.py_lexer.specs.declared.piece.Kind.{Kind}
use Rattle.py_lexer.specs.declared.piece.Kind.TheVariants as kind
use Rattle.py_lexer.specs.Characters.{behind}
use Rattle.py_lexer.specs.Layout.{token}
use Rattle.py_lexer.proofs.Spots.{behind_text}
use Rattle.spelled_tokens.specs.Spelling.{is_boundary, cut, spelling, inside}

some_begins : (n i b : ℕ) → (i < n → 128 ≤ b → 192 ≤ b) → (nat_le n i || nat_lt b 128 || nat_le 192 b) ≡ true
some_begins n i b h =
    split (nat_le n i) (λ x. (x || nat_lt b 128 || nat_le 192 b) ≡ true) (λ _. refl)
    (λ f. split (nat_lt b 128) (λ y. (false || y || nat_le 192 b) ≡ true) (λ _. refl) (λ g. le-leb 192 b (h (leb-false n i f) (ltb-false b 128 g))))

-- where a text may be cut, the test says so
pub boundary_from : (text : List ℕ) (i : ℕ) → IsCharBoundary text i → is_boundary text i ≡ true
boundary_from text i b = and_from (nat_le i (length text)) _ (le-leb i (length text) b.0) (some_begins (length text) i (slice_index text i) b.1)

taken : (x y z : Bool) (w : List ℕ) → x ≡ true → y ≡ true → z ≡ true → (if x && y && z then Some w else None) ≡ Some w
taken true true true w p q r = refl
taken true true false w p q r = absurd cc
taken true false z w p q r = absurd cc
taken false y z w p q r = absurd cc

front_is : (ws rest : List ℕ) (n : ℕ) → n ≡ length ws → take n (ws ++ rest) ≡ ws
front_is ws rest n e = ap (λ k. take k (ws ++ rest)) e ∙ take-append_seam ws rest

-- the slice between two texts
slice_between : (bs ws rest : List ℕ) (from to : ℕ) → from ≡ length bs → to ≡ length bs + length ws
    → slice_range (bs ++ (ws ++ rest)) from to ≡ ws
slice_between bs ws rest from to p q =
    ap (λ k. take (to - from) (drop k (bs ++ (ws ++ rest)))) p ∙ ap (λ l. take (to - from) l) (drop-append_seam bs (ws ++ rest))
    ∙ front_is ws rest (to - from) (omega arith)

-- a text between two others is what is cut there
pub cut_between : (bs ws rest : List ℕ) (from to : ℕ) → IsUtf8 ws → IsUtf8 rest → from ≡ length bs → to ≡ length bs + length ws
    → cut (bs ++ (ws ++ rest)) from to ≡ Some ws
unfolding cut
cut_between bs ws rest from to u v p q =
    let text : List ℕ = bs ++ (ws ++ rest) in
    let P : ℕ → Type 0 = λ i. IsCharBoundary text i in
    let one : IsCharBoundary text from = subst P (sym p) (IsCharBoundary-at_seam text bs (ws ++ rest) refl (IsUtf8-append ws rest u v)) in
    let two : IsCharBoundary text to = subst P (length-append bs ws ∙ sym q) (IsCharBoundary-at_seam text (bs ++ ws) rest (sym (append_assoc bs ws rest)) v) in
    ap (λ w. if nat_le from to && is_boundary text from && is_boundary text to then Some w else None) (slice_between bs ws rest from to p q)
    ∙ taken (nat_le from to) (is_boundary text from) (is_boundary text to) ws (le-leb from to (omega arith)) (boundary_from text from one) (boundary_from text to two)

-- a token spells its characters
pub token_spells : (bs ws rest : List ℕ) (k : Kind) (s : Spot) → IsUtf8 bs → IsUtf8 ws → IsUtf8 rest → s.offset ≡ length bs
    → spelling (bs ++ (ws ++ rest)) (token k (chars ws) s) ≡ Some ws
token_spells bs ws rest k s a u v e = cut_between bs ws rest s.offset (behind s (chars ws)).offset u v e (behind_text s ws u ∙ ap (λ n. n + length ws) e)

one_ascii : (q : ℕ) → q < 128 → (i : ℕ) → slice_index (q ∷ []) i < 128
one_ascii q h zero = h
one_ascii q h (suc i) = omega arith

-- a character of one byte
pub ascii_utf8 : (q : ℕ) → q < 128 → IsUtf8 (q ∷ [])
ascii_utf8 q h = IsUtf8-from_ascii (q ∷ []) (one_ascii q h)

-- a literal's bytes are those of a text
pub literal_utf8 : (q : ℕ) (inner : List ℕ) → q < 128 → IsUtf8 inner → IsUtf8 (q ∷ (inner ++ q ∷ []))
literal_utf8 q inner h u = IsUtf8-append (q ∷ []) (inner ++ q ∷ []) (ascii_utf8 q h) (IsUtf8-append inner (q ∷ []) u (ascii_utf8 q h))

regroup : (bs inner rest : List ℕ) (q : ℕ) → bs ++ ((q ∷ (inner ++ q ∷ [])) ++ rest) ≡ (bs ++ q ∷ []) ++ (inner ++ (q ∷ rest))
regroup bs inner rest q = simp append_assoc

-- what stands inside a literal is what is between its quotes
pub inside_spells : (bs inner rest : List ℕ) (q : ℕ) (s : Spot) → IsUtf8 bs → IsUtf8 inner → IsUtf8 rest → q < 128 → s.offset ≡ length bs
    → inside (bs ++ ((q ∷ (inner ++ q ∷ [])) ++ rest)) (token kind.Text (chars (q ∷ (inner ++ q ∷ []))) s) ≡ Some inner
inside_spells bs inner rest q s a u v h e =
    let w : List ℕ = q ∷ (inner ++ q ∷ []) in
    let end : ℕ = (behind s (chars w)).offset in
    let n : end ≡ s.offset + length w = behind_text s w (literal_utf8 q inner h u) in
    let l : length (inner ++ q ∷ []) ≡ length inner + 1 = length-append inner (q ∷ []) in
    let m : length (bs ++ q ∷ []) ≡ length bs + 1 = length-append bs (q ∷ []) in
    ap (λ t. cut t (s.offset + 1) (end - 1)) (regroup bs inner rest q)
    ∙ cut_between (bs ++ q ∷ []) inner (q ∷ rest) (s.offset + 1) (end - 1) u (IsUtf8-append (q ∷ []) rest (ascii_utf8 q h) v) (omega arith) (omega arith)
