-- A text has one piece at its front, and so one cut into pieces.
use Rattle.std.proofs.Common.{ℕ, zero, suc, ◌<◌, ◌≤◌, ◌≡◌, ◌⊎◌, inl, inr, Bool, true, false, ◌&&◌, ◌||◌, ◌==◌, not, List, [], ◌∷◌, ◌++◌, length, None, if◌then◌else◌, arith, refl, sym, ap, ◌∙◌, subst, nat_le}
use Rattle.std.specs.List.{list_all}
use Rattle.std.specs.Char.{is_ascii_digit}
use Rattle.std.proofs.lemmas.List.{length-append}
use Rattle.std.proofs.lemmas.Bool.{and_parts, eqb-true, ne_eqb, or_cases, true≢false, leb-true, lt-leb, not-true}
use Rattle.mono_list.proofs.Cases.{split, split_option}
use Rattle.unicode_ident.specs.Ident.{is_xid_continue}
use Rattle.unicode_ident.proofs.Computing.{unicode_ident}
use Rattle.unicode_ident.proofs.IdentLemmas.{is_xid_start-ascii}
use Rattle.py_chars.specs.Spellings.{starts_name}
use Rattle.py_lexer.specs.declared.piece.Kind.{Kind}
use Rattle.py_lexer.specs.declared.piece.Kind.TheVariants as kind
use Rattle.py_lexer.specs.Characters.{is_among, is_blank, is_quote, ends_line}
use Rattle.py_lexer.specs.Pieces.{Piece, piece, spelled, is_short_sign, is_long_sign, is_sign, Spells, IsLongest, IsStray, IsPiece, ArePieces, Cuts}
use Rattle.py_lexer.specs.computed.Reading.{skip, at_close, string_when, string_at, short_at, sign_at, front_at}
use Rattle.py_lexer.proofs.Fronts.{is_nil}
use Rattle.py_lexer.proofs.Strings.{literal_close, text_front}
use Rattle.py_lexer.proofs.Signs.{front_is}

-- a class without these characters
pub record IsHead (c : ℕ) : Type 0 where
  pub no_blank : is_blank c ≡ false
  pub no_comment : c == 35 ≡ false
  pub no_feed : c == 10 ≡ false
  pub no_return : c == 13 ≡ false

apart : (p : ℕ → Bool) (c n : ℕ) → p n ≡ false → p c ≡ true → c == n ≡ false
apart p c n f t = ne_eqb c n (λ e. is_nil (p c) t (ap p e ∙ f))

head : (p : ℕ → Bool) (c : ℕ) → p 32 ≡ false → p 9 ≡ false → p 35 ≡ false → p 10 ≡ false → p 13 ≡ false → p c ≡ true → IsHead c
head p c a b d e f t =
    record {
      no_blank = rw (apart p c 32 a t, apart p c 9 b t) refl;
      no_comment = apart p c 35 d t;
      no_feed = apart p c 10 e t;
      no_return = apart p c 13 f t;
    }

no_end : (c : ℕ) (cs : List ℕ) → IsHead c → ends_line (c ∷ cs) ≡ false
no_end c [] h = h.no_feed
no_end c (d ∷ cs) h = rw (h.no_feed, h.no_return) refl

-- what passes one test of a list's characters passes every test that they all pass
all_pass : (xs : List ℕ) (q : ℕ → Bool) (c : ℕ) → list_all q xs ≡ true → is_among xs c ≡ true → q c ≡ true
all_pass [] q c a m = absurd (true≢false (sym m))
all_pass (x ∷ []) q c a m = ap q (eqb-true c x m) ∙ (and_parts (q x) true a).0
all_pass (x ∷ y ∷ ys) q c a m =
    let both = and_parts (q x) (list_all q (y ∷ ys)) a in
    elim (or_cases (c == x) (is_among (y ∷ ys) c) m) as (λ _. q c ≡ true) [ inl h ↦ ap q (eqb-true c x h) ∙ both.0 | inr h ↦ all_pass (y ∷ ys) q c both.1 h ]

name_head : (c : ℕ) → starts_name c ≡ true → IsHead c
unfolding unicode_ident
name_head c t = head starts_name c refl refl refl refl refl t

digit_head : (c : ℕ) → is_ascii_digit c ≡ true → IsHead c
digit_head c t = head is_ascii_digit c refl refl refl refl refl t

quote_head : (c : ℕ) → is_quote c ≡ true → IsHead c
quote_head c t = head is_quote c refl refl refl refl refl t

digit_no_name : (c : ℕ) → is_ascii_digit c ≡ true → starts_name c ≡ false
digit_no_name c t =
    let both = and_parts (nat_le 48 c) (nat_le c 57) t in
    let high : c ≤ 57 = leb-true c 57 both.1 in
    rw (is_xid_start-ascii c (omega arith), lt-leb 65 c (omega arith), lt-leb 97 c (omega arith), ne_eqb c 95 (λ e. omega arith)) refl

quote_no_name : (c : ℕ) → is_quote c ≡ true → starts_name c ≡ false
unfolding unicode_ident
quote_no_name c t = not-true (starts_name c) (all_pass (34 ∷ 39 ∷ []) (λ z. not (starts_name z)) c refl t)

quote_no_digit : (c : ℕ) → is_quote c ≡ true → is_ascii_digit c ≡ false
quote_no_digit c t = not-true (is_ascii_digit c) (all_pass (34 ∷ 39 ∷ []) (λ z. not (is_ascii_digit z)) c refl t)

-- the characters that begin an operator
abbrev begins_sign : ℕ → Bool
begins_sign = is_among (40 ∷ 41 ∷ 91 ∷ 93 ∷ 44 ∷ 58 ∷ 46 ∷ 61 ∷ 43 ∷ 45 ∷ 42 ∷ 37 ∷ 60 ∷ 62 ∷ 47 ∷ 33 ∷ [])

sign_head : (c : ℕ) → begins_sign c ≡ true → IsHead c
sign_head c t = head begins_sign c refl refl refl refl refl t

abbrev sign_list : List ℕ
sign_list = 40 ∷ 41 ∷ 91 ∷ 93 ∷ 44 ∷ 58 ∷ 46 ∷ 61 ∷ 43 ∷ 45 ∷ 42 ∷ 37 ∷ 60 ∷ 62 ∷ 47 ∷ 33 ∷ []

sign_no_name : (c : ℕ) → begins_sign c ≡ true → starts_name c ≡ false
unfolding unicode_ident
sign_no_name c t = not-true (starts_name c) (all_pass sign_list (λ z. not (starts_name z)) c refl t)

sign_no_digit : (c : ℕ) → begins_sign c ≡ true → is_ascii_digit c ≡ false
sign_no_digit c t = not-true (is_ascii_digit c) (all_pass sign_list (λ z. not (is_ascii_digit z)) c refl t)

sign_no_quote : (c : ℕ) → begins_sign c ≡ true → is_quote c ≡ false
sign_no_quote c t = not-true (is_quote c) (all_pass sign_list (λ z. not (is_quote z)) c refl t)

short_begins : (c : ℕ) → is_short_sign c ≡ true → begins_sign c ≡ true
short_begins c t = all_pass (40 ∷ 41 ∷ 91 ∷ 93 ∷ 44 ∷ 58 ∷ 46 ∷ 61 ∷ 43 ∷ 45 ∷ 42 ∷ 37 ∷ 60 ∷ 62 ∷ []) begins_sign c refl t

long_begins : (c d : ℕ) → is_long_sign c d ≡ true → begins_sign c ≡ true
long_begins c d t =
    let Goal : Type 0 = begins_sign c ≡ true in
    let at : (n : ℕ) → begins_sign n ≡ true → c ≡ n → Goal = λ n b e. ap begins_sign e ∙ b in
    elim (or_cases ((c == 45 && d == 62) || (c == 47 && d == 47)) (is_among (61 ∷ 33 ∷ 60 ∷ 62 ∷ []) c && d == 61) t) as (λ _. Goal) [
      | inl h ↦ elim (or_cases (c == 45 && d == 62) (c == 47 && d == 47) h) as (λ _. Goal) [
        | inl g ↦ at 45 refl (eqb-true c 45 (and_parts (c == 45) (d == 62) g).0)
        | inr g ↦ at 47 refl (eqb-true c 47 (and_parts (c == 47) (d == 47) g).0)
      ]
      | inr h ↦ all_pass (61 ∷ 33 ∷ 60 ∷ 62 ∷ []) begins_sign c refl (and_parts (is_among (61 ∷ 33 ∷ 60 ∷ 62 ∷ []) c) (d == 61) h).0
    ]

-- the piece at the front has the kind of whatever may be cut off there
module _ (c : ℕ) (cs : List ℕ) where
  word_kind : starts_name c ≡ true → front_at c cs ≡ (kind.Word, skip is_xid_continue cs)
  word_kind t = let h = name_head c t in rw (h.no_blank, h.no_comment, no_end c cs h, t) refl

  number_kind : is_ascii_digit c ≡ true → front_at c cs ≡ (kind.Number, skip is_xid_continue cs)
  number_kind t = let h = digit_head c t in rw (h.no_blank, h.no_comment, no_end c cs h, digit_no_name c t, t) refl

  string_kind : is_quote c ≡ true → front_at c cs ≡ string_at c (c ∷ cs) cs
  string_kind t = let h = quote_head c t in rw (h.no_blank, h.no_comment, no_end c cs h, quote_no_name c t, quote_no_digit c t, t) refl

  sign_kind : begins_sign c ≡ true → front_at c cs ≡ sign_at c cs
  sign_kind t = let h = sign_head c t in rw (h.no_blank, h.no_comment, no_end c cs h, sign_no_name c t, sign_no_digit c t, sign_no_quote c t) refl

  blank_kind : is_blank c ≡ true → front_at c cs ≡ (kind.Blank, skip is_blank cs)
  blank_kind t = rw t refl

comment_kind : (c : ℕ) (cs : List ℕ) → c ≡ 35 → (front_at c cs).0 ≡ kind.Comment
comment_kind c cs e = ap (λ z. (front_at z cs).0) e

return_kind : (x : List ℕ) → (front_at 13 (10 ∷ x)).0 ≡ kind.LineEnd
return_kind x = refl

feed_kind : (x : List ℕ) → (front_at 10 x).0 ≡ kind.LineEnd
feed_kind [] = refl
feed_kind (d ∷ x) = refl

-- one list of which two are fronts of one length
pub same_parts : (a b x y : List ℕ) → a ++ x ≡ b ++ y → length a ≡ length b → (a ≡ b) × (x ≡ y)
same_parts [] [] x y e l = (refl, e)
same_parts [] (d ∷ b) x y e l = absurd (omega arith)
same_parts (c ∷ a) [] x y e l = absurd (omega arith)
same_parts (c ∷ a) (d ∷ b) x y e l =
    let heads : c ≡ d = cc e in
    let tails : a ++ x ≡ b ++ y = cc e in
    let r = same_parts a b x y tails (omega arith) in
    (ap (λ z. z ∷ a) heads ∙ ap (λ m. d ∷ m) r.0, r.1)

short_kind : (c : ℕ) (cs : List ℕ) → is_short_sign c ≡ true → (sign_at c cs).0 ≡ kind.Sign
short_kind c [] t = rw t refl
short_kind c (d ∷ cs) t =
    split (is_long_sign c d) (λ (b : Bool). let r : Kind × List ℕ = if b then (kind.Sign, cs) else (short_at c, d ∷ cs) in r.0 ≡ kind.Sign)
    (λ _. refl) (λ _. rw t refl)

sign_kind_of : (v x : List ℕ) (c : ℕ) (cs : List ℕ) → v ++ x ≡ c ∷ cs → is_sign v ≡ true → (front_at c cs).0 ≡ kind.Sign
sign_kind_of [] x c cs e s = absurd (true≢false (sym s))
sign_kind_of (a ∷ []) x c cs e s =
    let same : a ≡ c = cc e in
    let short = ap is_short_sign (sym same) ∙ s in
    ap (λ r. r.0) (sign_kind c cs (short_begins c short)) ∙ short_kind c cs short
sign_kind_of (a ∷ b ∷ []) x c cs e s =
    let same : a ≡ c = cc e in
    let tails : cs ≡ b ∷ x = cc e in
    let long = ap (λ z. is_long_sign z b) (sym same) ∙ s in
    ap (λ r. r.0) (sign_kind c cs (long_begins c b long)) ∙ ap (λ m. (sign_at c m).0) tails ∙ rw long refl
sign_kind_of (a ∷ b ∷ d ∷ v) x c cs e s = absurd (true≢false (sym s))

unclosed_close : (v x : List ℕ) (c : ℕ) (cs : List ℕ) → v ++ x ≡ c ∷ cs → is_quote c ≡ true → Spells kind.Unclosed v x → at_close false c cs ≡ None
unclosed_close v x c cs e t s =
    split_option (at_close false c cs) (λ o. at_close false c cs ≡ o → o ≡ None)
    (λ _ _. refl)
    (λ rest _ q.
    let f = text_front c cs rest t q in
    absurd (s.2 f.spelling rest (sym f.parts ∙ sym e) f.is_piece.0.0 f.is_piece.0.1))
    refl

-- whatever may be cut off has the kind of the piece at the front
kind_of : (k : Kind) (v x : List ℕ) (c : ℕ) (cs : List ℕ) → v ++ x ≡ c ∷ cs → Spells k v x → (front_at c cs).0 ≡ k
kind_of kind.Blank [] x c cs e s = absurd (omega (arith, s.0))
kind_of kind.Blank (y ∷ v) x c cs e s = let same : c ≡ y = cc e in ap (λ r. r.0) (blank_kind c cs (ap is_blank same ∙ (and_parts (is_blank y) (list_all is_blank v) s.1).0))
kind_of kind.Comment [] x c cs e s = absurd (omega (arith, s.0))
kind_of kind.Comment (y ∷ v) x c cs e s = let same : c ≡ y = cc e in comment_kind c cs (same ∙ s.0)
kind_of kind.LineEnd v x c cs e (inl s) =
    let text = sym e ∙ ap (λ l. l ++ x) s in
    let same : c ≡ 10 = cc text in
    ap (λ z. (front_at z cs).0) same ∙ feed_kind cs
kind_of kind.LineEnd v x c cs e (inr s) =
    let text = sym e ∙ ap (λ l. l ++ x) s in
    let same : c ≡ 13 = cc text in
    let tails : cs ≡ 10 ∷ x = cc text in
    ap (λ z. (front_at z cs).0) same ∙ ap (λ m. (front_at 13 m).0) tails ∙ return_kind x
kind_of kind.Word [] x c cs e s = absurd (true≢false (sym s))
kind_of kind.Word (y ∷ v) x c cs e s = let same : c ≡ y = cc e in ap (λ r. r.0) (word_kind c cs (ap starts_name same ∙ (and_parts (starts_name y) (list_all is_xid_continue v) s).0))
kind_of kind.Number [] x c cs e s = absurd (true≢false (sym s))
kind_of kind.Number (y ∷ v) x c cs e s = let same : c ≡ y = cc e in ap (λ r. r.0) (number_kind c cs (ap is_ascii_digit same ∙ (and_parts (is_ascii_digit y) (list_all is_xid_continue v) s).0))
kind_of kind.Text v x c cs e s =
    let same : c ≡ s.0.0 = cc (e, ap (λ l. l ++ x) s.0.4) in
    let closed = literal_close c cs v x e s.0 s.1 in
    ap (λ r. r.0) (string_kind c cs (ap is_quote same ∙ s.0.2)) ∙ ap (λ o. (string_when (c ∷ cs) o).0) closed
kind_of kind.Unclosed [] x c cs e s = absurd (true≢false (sym s.0))
kind_of kind.Unclosed (y ∷ v) x c cs e s =
    let same : c ≡ y = cc e in
    let quoted = ap is_quote same ∙ s.0 in
    ap (λ r. r.0) (string_kind c cs quoted) ∙ ap (λ o. (string_when (c ∷ cs) o).0) (unclosed_close (y ∷ v) x c cs e quoted s)
kind_of kind.Sign v x c cs e s = sign_kind_of v x c cs e s
kind_of kind.Stray v x c cs e s = absurd s

-- a piece is stray, or it may be cut off and is the longest
abbrev Sorts : Kind → List ℕ → List ℕ → Type 0
Sorts k w u = ((k ≡ kind.Stray) × IsStray w u) ⊎ (Spells k w u × IsLongest k w u)

sorts : (k : Kind) (w u : List ℕ) → IsPiece (piece k w) u → Sorts k w u
sorts kind.Stray w u h = inl (refl, h)
sorts kind.Blank w u h = inr h
sorts kind.Comment w u h = inr h
sorts kind.LineEnd w u h = inr h
sorts kind.Word w u h = inr h
sorts kind.Number w u h = inr h
sorts kind.Text w u h = inr h
sorts kind.Unclosed w u h = inr h
sorts kind.Sign w u h = inr h

-- two pieces at one place are the same
pub record Same (k j : Kind) (w v u x : List ℕ) : Type 0 where
  pub kinds : k ≡ j
  pub spellings : w ≡ v
  pub rests : u ≡ x

same_piece : (k j : Kind) (w v u x : List ℕ) (c : ℕ) (cs : List ℕ) → w ++ u ≡ c ∷ cs → v ++ x ≡ c ∷ cs → Sorts k w u → Sorts j v x → Same k j w v u x
same_piece k j w v u x c cs e g (inl s) (inl t) =
    let r = same_parts w v u x (e ∙ sym g) (s.1.0 ∙ sym t.1.0) in
    record { kinds = s.0 ∙ sym t.0; spellings = r.0; rests = r.1 }
same_piece k j w v u x c cs e g (inl s) (inr t) = absurd (s.1.1 j v x (g ∙ sym e) t.0)
same_piece k j w v u x c cs e g (inr s) (inl t) = absurd (t.1.1 k w u (e ∙ sym g) s.0)
same_piece k j w v u x c cs e g (inr s) (inr t) =
    let kinds : k ≡ j = sym (kind_of k w u c cs e s.0) ∙ kind_of j v x c cs g t.0 in
    let P : Kind → Type 0 = λ i. Spells i v x in
    let Q : Kind → Type 0 = λ i. Spells i w u in
    let one = s.1 v x (g ∙ sym e) (subst P (sym kinds) t.0) in
    let two = t.1 w u (e ∙ sym g) (subst Q kinds s.0) in
    let r = same_parts w v u x (e ∙ sym g) (omega arith) in
    record { kinds = kinds; spellings = r.0; rests = r.1 }

pub piece_once : (k j : Kind) (w v u x : List ℕ) (c : ℕ) (cs : List ℕ) → w ++ u ≡ c ∷ cs → v ++ x ≡ c ∷ cs → IsPiece (piece k w) u → IsPiece (piece j v) x → Same k j w v u x
piece_once k j w v u x c cs e g h i = same_piece k j w v u x c cs e g (sorts k w u h) (sorts j v x i)

some_sorts : (k : Kind) (w u : List ℕ) → Spells k w u → 0 < length w
some_sorts k (c ∷ w) u s = omega arith
some_sorts kind.Blank [] u s = s.0
some_sorts kind.Comment [] u s = absurd (omega (arith, s.0))
some_sorts kind.LineEnd [] u (inl s) = absurd (omega (arith, ap length s))
some_sorts kind.LineEnd [] u (inr s) = absurd (omega (arith, ap length s))
some_sorts kind.Word [] u s = absurd (true≢false (sym s))
some_sorts kind.Number [] u s = absurd (true≢false (sym s))
some_sorts kind.Text [] u s = absurd (omega (arith, ap length s.0.4))
some_sorts kind.Unclosed [] u s = absurd (true≢false (sym s.0))
some_sorts kind.Sign [] u s = absurd (true≢false (sym s))
some_sorts kind.Stray [] u s = absurd s

-- a piece has a character
pub some_spelling : (k : Kind) (w u : List ℕ) → IsPiece (piece k w) u → 0 < length w
some_spelling k w u h = elim (sorts k w u h) as (λ _. 0 < length w) [ inl s ↦ omega (arith, s.1.0) | inr s ↦ some_sorts k w u s.0 ]

-- a text is cut into pieces in one way
pub cut_once : (ps qs : List Piece) → spelled ps ≡ spelled qs → ArePieces ps → ArePieces qs → ps ≡ qs
cut_once [] [] e a b = refl
cut_once [] (piece k w ∷ qs) e a b =
    let s = some_spelling k w (spelled qs) b.0 in absurd (omega (arith, s, ap length e, length-append w (spelled qs)))
cut_once (piece k w ∷ ps) [] e a b =
    let s = some_spelling k w (spelled ps) a.0 in absurd (omega (arith, s, ap length e, length-append w (spelled ps)))
cut_once (piece k [] ∷ ps) (piece j v ∷ qs) e a b = absurd (omega (arith, some_spelling k [] (spelled ps) a.0))
cut_once (piece k (c ∷ w) ∷ ps) (piece j v ∷ qs) e a b =
    let s = piece_once k j (c ∷ w) v (spelled ps) (spelled qs) c (w ++ spelled ps) refl (sym e) a.0 b.0 in
    let more = cut_once ps qs s.rests a.1 b.1 in
    ap (λ i. piece i (c ∷ w) ∷ ps) s.kinds ∙ ap (λ l. piece j l ∷ ps) s.spellings ∙ ap (λ l. piece j v ∷ l) more

pub cuts_once : (cs : List ℕ) (ps qs : List Piece) → Cuts cs ps → Cuts cs qs → ps ≡ qs
cuts_once cs ps qs a b = cut_once ps qs (sym a.text_is ∙ b.text_is) a.are_pieces b.are_pieces

pub piece_more : (cs : List ℕ) (k : Kind) (w u : List ℕ) (ps : List Piece) → cs ≡ w ++ u → IsPiece (piece k w) u → Cuts u ps → Cuts cs (piece k w ∷ ps)
piece_more cs k w u ps e i c =
    let P : List ℕ → Type 0 = λ r. IsPiece (piece k w) r in
    record { text_is = e ∙ ap (λ r. w ++ r) c.text_is; are_pieces = (subst P c.text_is i, c.are_pieces) }

-- and there is one for every text
pub cut_up : (n : ℕ) (cs : List ℕ) → length cs ≤ n → (ps : List Piece) × Cuts cs ps
cut_up n [] l = ([], record { text_is = refl; are_pieces = tt })
cut_up zero (c ∷ cs) l = absurd (omega arith)
cut_up (suc n) (c ∷ cs) l =
    let f = front_is c cs in
    let some = f.some in
    let rest = cut_up n (front_at c cs).1 (omega (arith, ap length f.parts, length-append f.spelling (front_at c cs).1)) in
    (piece (front_at c cs).0 f.spelling ∷ rest.0, piece_more (c ∷ cs) (front_at c cs).0 f.spelling (front_at c cs).1 rest.0 f.parts f.is_piece rest.1)

pub cut_of : (cs : List ℕ) → (ps : List Piece) × Cuts cs ps
cut_of cs = cut_up (length cs) cs (omega arith)
