-- The piece at the front of a text is one, and the longest of its kind.
use Rattle.std.proofs.Common.{ℕ, ◌<◌, ◌≤◌, ◌≡◌, Bool, true, false, List, [], ◌∷◌, ◌++◌, length, get_or, if◌then◌else◌, arith, refl, sym, ap, ◌∙◌}
use Rattle.std.specs.List.{list_all}
use Rattle.std.specs.Char.{is_ascii_digit}
use Rattle.std.proofs.lemmas.Bool.{and_parts, and_from, true≢false}
use Rattle.mono_list.proofs.Cases.{split}
use Rattle.unicode_ident.specs.Ident.{is_xid_continue}
use Rattle.py_chars.specs.Spellings.{starts_name, is_identifier}
use Rattle.py_lexer.specs.declared.piece.Kind.{Kind}
use Rattle.py_lexer.specs.declared.piece.Kind.TheVariants as kind
use Rattle.py_lexer.specs.Characters.{is_blank, ends_line, line_of}
use Rattle.py_lexer.specs.Pieces.{piece, IsOnLine, is_number, IsPiece}
use Rattle.py_lexer.specs.computed.Reading.{skip, skip_line}

-- whether the first character passes
abbrev pub begins : (ℕ → Bool) → List ℕ → Bool
begins p [] = false
begins p (c ∷ cs) = p c

-- what is passed over, up to a character that fails
pub record Skips (p : ℕ → Bool) (cs rest : List ℕ) : Type 0 where
  pub passed : List ℕ
  pub parts : cs ≡ passed ++ rest
  pub passes : list_all p passed ≡ true
  pub stops : begins p rest ≡ false

pub skip_of : (p : ℕ → Bool) (cs : List ℕ) → Skips p cs (skip p cs)
skip_of p [] = record { passed = []; parts = refl; passes = refl; stops = refl }
skip_of p (c ∷ cs) =
    split (p c) (λ b. p c ≡ b → Skips p (c ∷ cs) (if b then skip p cs else c ∷ cs))
    (λ _ t. let s = skip_of p cs in record { passed = c ∷ s.passed; parts = ap (λ l. c ∷ l) s.parts; passes = and_from (p c) (list_all p s.passed) t s.passes; stops = s.stops })
    (λ _ f. record { passed = []; parts = refl; passes = refl; stops = f })
    refl

-- no longer front passes than one behind which a character fails
pub run_longest : (p : ℕ → Bool) (w u v x : List ℕ) → begins p u ≡ false → v ++ x ≡ w ++ u → list_all p v ≡ true → length v ≤ length w
run_longest p w u [] x f e a = omega arith
run_longest p [] u (y ∷ v) x f e a =
    let h : p y ≡ false = ap (begins p) e ∙ f in absurd (true≢false (sym (and_parts (p y) (list_all p v) a).0 ∙ h))
run_longest p (c ∷ w) u (y ∷ v) x f e a =
    let tails : v ++ x ≡ w ++ u = cc in
    let l = run_longest p w u v x f tails (and_parts (p y) (list_all p v) a).1 in omega arith

-- a line and what stands behind it
pub line_parts : (cs : List ℕ) → line_of cs ++ skip_line cs ≡ cs
line_parts [] = refl
line_parts (c ∷ cs) =
    split (ends_line (c ∷ cs)) (λ b. (if b then [] else c ∷ line_of cs) ++ (if b then c ∷ cs else skip_line cs) ≡ c ∷ cs)
    (λ _. refl) (λ _. ap (λ l. c ∷ l) (line_parts cs))

-- a piece at the front of a text: its spelling, and what stands behind it
pub record Front (cs : List ℕ) (k : Kind) (u : List ℕ) : Type 0 where
  pub spelling : List ℕ
  pub parts : cs ≡ spelling ++ u
  pub some : 0 < length spelling
  pub is_piece : IsPiece (piece k spelling) u

pub is_nil : (b : Bool) → b ≡ true → b ≡ false → ⊥
is_nil b t f = true≢false (sym t ∙ f)

-- white space
pub blank_front : (c : ℕ) (cs : List ℕ) → is_blank c ≡ true → Front (c ∷ cs) kind.Blank (skip is_blank cs)
blank_front c cs b =
    let s = skip_of is_blank cs in
    let all = and_from (is_blank c) (list_all is_blank s.passed) b s.passes in
    record {
      spelling = c ∷ s.passed;
      parts = ap (λ l. c ∷ l) s.parts;
      some = omega arith;
      is_piece = ((omega arith, all), λ v x e h. run_longest is_blank (c ∷ s.passed) (skip is_blank cs) v x s.stops e h.1);
    }

-- a spelling of a first character and XID_Continue
begun_longest : (c : ℕ) (w u v x : List ℕ) → begins is_xid_continue u ≡ false → v ++ x ≡ c ∷ (w ++ u) → (y : ℕ) (vs : List ℕ) → v ≡ y ∷ vs → list_all is_xid_continue vs ≡ true → length v ≤ length (c ∷ w)
begun_longest c w u v x f e y vs q a =
    let tails : vs ++ x ≡ w ++ u = cc (ap (λ l. l ++ x) q) in
    let l = run_longest is_xid_continue w u vs x f tails a in omega (arith, ap length q)

word_longest : (c : ℕ) (w u v x : List ℕ) → begins is_xid_continue u ≡ false → v ++ x ≡ (c ∷ w) ++ u → is_identifier v ≡ true → length v ≤ length (c ∷ w)
word_longest c w u [] x f e i = omega arith
word_longest c w u (y ∷ vs) x f e i = begun_longest c w u (y ∷ vs) x f e y vs refl (and_parts (starts_name y) (list_all is_xid_continue vs) i).1

number_longest : (c : ℕ) (w u v x : List ℕ) → begins is_xid_continue u ≡ false → v ++ x ≡ (c ∷ w) ++ u → is_number v ≡ true → length v ≤ length (c ∷ w)
number_longest c w u [] x f e i = omega arith
number_longest c w u (y ∷ vs) x f e i = begun_longest c w u (y ∷ vs) x f e y vs refl (and_parts (is_ascii_digit y) (list_all is_xid_continue vs) i).1

pub word_front : (c : ℕ) (cs : List ℕ) → starts_name c ≡ true → Front (c ∷ cs) kind.Word (skip is_xid_continue cs)
word_front c cs b =
    let s = skip_of is_xid_continue cs in
    record {
      spelling = c ∷ s.passed;
      parts = ap (λ l. c ∷ l) s.parts;
      some = omega arith;
      is_piece = (and_from (starts_name c) (list_all is_xid_continue s.passed) b s.passes, λ v x e h. word_longest c s.passed (skip is_xid_continue cs) v x s.stops e h);
    }

pub number_front : (c : ℕ) (cs : List ℕ) → is_ascii_digit c ≡ true → Front (c ∷ cs) kind.Number (skip is_xid_continue cs)
number_front c cs b =
    let s = skip_of is_xid_continue cs in
    record {
      spelling = c ∷ s.passed;
      parts = ap (λ l. c ∷ l) s.parts;
      some = omega arith;
      is_piece = (and_from (is_ascii_digit c) (list_all is_xid_continue s.passed) b s.passes, λ v x e h. number_longest c s.passed (skip is_xid_continue cs) v x s.stops e h);
    }

-- the line itself is on the line, and nothing longer is
pub line_on : (cs : List ℕ) → IsOnLine (line_of cs) (skip_line cs)
line_on cs = rw (line_parts cs) (omega arith)

pub line_longest : (cs v x : List ℕ) → v ++ x ≡ line_of cs ++ skip_line cs → IsOnLine v x → length v ≤ length (line_of cs)
line_longest cs v x e h = let q : v ++ x ≡ cs = e ∙ line_parts cs in rw q at h

pub line_head : (c : ℕ) (cs : List ℕ) → ends_line (c ∷ cs) ≡ false → line_of (c ∷ cs) ≡ c ∷ line_of cs
line_head c cs f = rw f refl

pub comment_front : (c : ℕ) (cs : List ℕ) → c ≡ 35 → ends_line (c ∷ cs) ≡ false → Front (c ∷ cs) kind.Comment (skip_line (c ∷ cs))
comment_front c cs b f =
    let head = line_head c cs f in
    record {
      spelling = line_of (c ∷ cs);
      parts = sym (line_parts (c ∷ cs));
      some = omega (arith, ap length head);
      is_piece = ((ap (λ l. get_or l 0 0) head ∙ b, line_on (c ∷ cs)), λ v x e h. line_longest (c ∷ cs) v x e h.1);
    }
