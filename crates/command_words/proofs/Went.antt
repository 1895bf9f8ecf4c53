-- Words that the parser takes give options and last words.
use Rattle.std.proofs.Common.{◌≡◌, ◌≢◌, ◌⊎◌, ◌∙◌, ℕ, Bool, true, false, refl, sym, ap, subst, inl, inr, List, [], ◌∷◌, ◌++◌, map, Option, Some, None}
use Rattle.std.specs.Str.{IsUtf8}
use Rattle.std.proofs.lemmas.List.{append_assoc}
use Rattle.clap.specs.Lexer.{long_of, name_and_value}
use Rattle.clap.specs.Walk.{Held, Text, Walk, arg_by_long, settled}
use Rattle.clap.proofs.LexerLemmas.{name_and_value-at, name_and_value-without}
use Rattle.command_words.specs.Words.{Gives, IsPlain, joined, nothing, option_word, plain, rest, spaced}
use Rattle.command_words.proofs.Rules.{Among, by_long, option_read, rules}
use Rattle.command_words.proofs.Rows.{AreNames, AreOurs, IsFresh, Part, given, held, last, nil_right, rows, seen, settle_clash, settled_fresh}
use Rattle.command_words.proofs.Forms.{Cut, Form, cut, cut_of, form, is_dashes, is_letters, is_option, is_plain, letter_at, plain_dashes, plain_long, plain_short, whole}
use Rattle.command_words.proofs.Turns.{IsNoFlag, Names, behind, behind_lacking, dashes_lacking, dashes_walk, flag_lacking, joined_clash, joined_walk, lacking, last_fault, last_walk, letters_lacking, letters_refused, second_refused, spaced_clash, spaced_walk, stands, unflagged, unknown_refused, value_walk, waits, waits_behind}
use Rattle.command_words.proofs.Parts.{AreFresh, AreUtf8, Passes, contained, ends, ends_next, parts_of, pass_next}

-- what the words give, after what came before
pub record Went (names : List Text) (xs : List Part) (p : Option Part) (w : Walk) (words : List Text) : Type 0 where
  pub options : List (Text × Text)
  pub lasts : List Text
  pub gives : Gives names words options lasts
  pub fresh : IsFresh xs p
  pub more : AreFresh (seen xs p) (parts_of gives)
  pub rows_are : ends names w words ≡ rows (seen xs p ++ parts_of gives)

pub no_flag : (word : Text) → IsPlain word → IsNoFlag word
no_flag word h = record { no_dashes = plain_dashes word h; no_long = plain_long word h; no_short = plain_short word h }

-- one part more, before others
pub one_more : (xs : List Part) (x : Part) (ys : List Part) → rows ((xs ++ x ∷ []) ++ ys) ≡ rows (xs ++ x ∷ ys)
one_more xs x ys = ap (λ (zs : List Part). rows zs) (append_assoc xs (x ∷ []) ys)

-- ---- behind `--`

abbrev BehindClaim : List Text → List Text → Type 0
BehindClaim names words = (xs : List Part) (p : Option Part) (b : Bool) → AreOurs names p → Passes names (stands xs p b true) words
    → IsFresh xs p × AreFresh (seen xs p) (map last words) × (ends names (stands xs p b true) words ≡ rows (seen xs p ++ map last words))

pub at_end : (names : List Text) → AreNames names → (xs : List Part) (p : Option Part) → AreOurs names p → IsFresh xs p
    → (settled (rules names) (held xs p)).rows ≡ rows (seen xs p ++ [])
at_end names ok xs p ours fresh = ap (λ (h : Held). h.rows) (settled_fresh names ok xs p ours fresh)
    ∙ ap (λ (zs : List Part). rows zs) (sym (nil_right (seen xs p)))

behind_goes : (names : List Text) → AreNames names → (words : List Text) → BehindClaim names words
behind_goes names ok [] xs p b ours h =
    let fresh = settle_clash names ok xs p ours h.settle in
    (fresh, tt, at_end names ok xs p ours fresh)
behind_goes names ok (word ∷ words) xs p true ours h =
    let next = pass_next names (stands xs p true true) (stands (seen xs p) (Some (last word)) false true) word words h in
    let fresh = settle_clash names ok xs p ours (sym (last_fault names xs p true word behind) ∙ next.0) in
    let step = last_walk names ok xs p true word behind ours fresh in
    let ih = behind_goes names ok words (seen xs p) (Some (last word)) false tt (next.1 step) in (
      fresh,
      (ih.0, ih.1),
      ends_next names (stands xs p true true) (stands (seen xs p) (Some (last word)) false true) word words step
          ∙ ih.2 ∙ one_more (seen xs p) (last word) (map last words),
    )
behind_goes names ok (word ∷ words) xs p false ours h =
    let next = pass_next names (stands xs p false true) (stands xs p false true) word words h in
    absurd (second_refused names xs p true word behind next.0)

-- ---- before it

abbrev Claim : List Text → List Text → Type 0
Claim names words = (xs : List Part) (p : Option Part) (b : Bool) → AreOurs names p → AreUtf8 words
    → Passes names (stands xs p b false) words
    → Went names xs p (stands xs p b false) words

claim_nothing : (names : List Text) → AreNames names → Claim names []
claim_nothing names ok xs p b ours utf8 h =
    let fresh = settle_clash names ok xs p ours h.settle in
    record { options = []; lasts = []; gives = nothing; fresh = fresh; more = tt; rows_are = at_end names ok xs p ours fresh }

claim_plain : (names : List Text) → AreNames names → (word : Text) (words : List Text) → IsPlain word → Claim names words
    → Claim names (word ∷ words)
claim_plain names ok word words is ih xs p false ours utf8 h =
    let next = pass_next names (stands xs p false false) (stands xs p false false) word words h in
    absurd (second_refused names xs p false word (unflagged (no_flag word is)) next.0)
claim_plain names ok word words is ih xs p true ours utf8 h =
    let flag = unflagged (no_flag word is) in
    let next = pass_next names (stands xs p true false) (stands (seen xs p) (Some (last word)) false false) word words h in
    let fresh = settle_clash names ok xs p ours (sym (last_fault names xs p false word flag) ∙ next.0) in
    let step = last_walk names ok xs p false word flag ours fresh in
    let w = ih (seen xs p) (Some (last word)) false tt utf8.1 (next.1 step) in
    record {
      options = w.options;
      lasts = word ∷ w.lasts;
      gives = plain is w.gives;
      fresh = fresh;
      more = (w.fresh, w.more);
      rows_are = ends_next names (stands xs p true false) (stands (seen xs p) (Some (last word)) false false) word words step
          ∙ w.rows_are ∙ one_more (seen xs p) (last word) (parts_of w.gives);
    }

claim_dashes : (names : List Text) → AreNames names → (words : List Text) → Claim names ((45 ∷ 45 ∷ []) ∷ words)
claim_dashes names ok words xs p b ours utf8 h =
    let next = pass_next names (stands xs p b false) (stands xs p b true) (45 ∷ 45 ∷ []) words h in
    let step = dashes_walk names xs p b in
    let w = behind_goes names ok words xs p b ours (next.1 step) in
    record {
      options = [];
      lasts = words;
      gives = rest refl;
      fresh = w.0;
      more = w.1;
      rows_are = ends_next names (stands xs p b false) (stands xs p b true) (45 ∷ 45 ∷ []) words step ∙ w.2;
    }

claim_joined : (names : List Text) → AreNames names → (word n v : Text) (words : List Text) → Names names word n (Some v)
    → word ≡ option_word n ++ 61 ∷ v
    → Claim names words → Claim names (word ∷ words)
claim_joined names ok word n v words i e ih xs p b ours utf8 h =
    let next = pass_next names (stands xs p b false) (stands (seen xs p ++ given n v ∷ []) None b false) word words h in
    let new = joined_clash names ok xs p b word n v i ours next.0 in
    let step = joined_walk names ok xs p b word n v i ours new.0 new.1 in
    let w = ih (seen xs p ++ given n v ∷ []) None b tt utf8.1 (next.1 step) in
    record {
      options = (n, v) ∷ w.options;
      lasts = w.lasts;
      gives = joined (contained names n i.known) e w.gives;
      fresh = new.0;
      more = (new.1, w.more);
      rows_are = ends_next names (stands xs p b false) (stands (seen xs p ++ given n v ∷ []) None b false) word words step
          ∙ w.rows_are ∙ one_more (seen xs p) (given n v) (parts_of w.gives);
    }

-- a word that can't be an option's value
no_value_behind : (names : List Text) → AreNames names → (xs : List Part) (n : Text) (b : Bool) (words : List Text) → Among names n
    → Passes names (waits_behind xs n b) words → ⊥
no_value_behind names ok xs n b [] known h = lacking names ok xs n known h.settle
no_value_behind names ok xs n b (word ∷ words) known h =
    behind_lacking names ok xs n b word known (pass_next names (waits_behind xs n b) (waits_behind xs n b) word words h).0

no_value_dashes : (names : List Text) → AreNames names → (xs : List Part) (n : Text) (b : Bool) (word : Text) (words : List Text)
    → Among names n
    → word ≡ 45 ∷ 45 ∷ [] → Passes names (waits xs n b) (word ∷ words) → ⊥
no_value_dashes names ok xs n b word words known e h =
    let g : Passes names (waits xs n b) ((45 ∷ 45 ∷ []) ∷ words) = subst (λ (v : Text). Passes names (waits xs n b) (v ∷ words)) e h in
    no_value_behind names ok xs n b words known
    ((pass_next names (waits xs n b) (waits_behind xs n b) (45 ∷ 45 ∷ []) words g).1 (dashes_lacking names xs n b))

no_value_option : (names : List Text) → AreNames names → (xs : List Part) (m : Text) (b : Bool) (x : ℕ) (ys : List ℕ) (words : List Text)
    → Among names m
    → Passes names (waits xs m b) ((45 ∷ 45 ∷ x ∷ ys) ∷ words) → ⊥
no_value_option names ok xs m b x ys words known h =
    let split = name_and_value (x ∷ ys) in
    let turn = (pass_next names (waits xs m b) (waits xs m b) (45 ∷ 45 ∷ x ∷ ys) words h).0 in
    elim (by_long names split.0) [
      | inl none ↦ flag_lacking names ok xs m b (45 ∷ 45 ∷ x ∷ ys) split.0 split.1 None known refl refl (inl refl) none turn
      | inr found ↦ flag_lacking names ok xs m b (45 ∷ 45 ∷ x ∷ ys) split.0 split.1 (Some (option_read split.0)) known refl refl
          (inr refl) found.1 turn
    ]

-- a value of an option
value_plain : (names : List Text) → AreNames names → (xs : List Part) (n : Text) (b : Bool) (word : Text) (words : List Text)
    → IsUtf8 word → Among names n
    → Passes names (waits xs n b) (word ∷ words) → IsPlain word
value_plain names ok xs n b word words utf8 known h = go (form word)
  where
    go : Form word → IsPlain word
    go (is_plain p) = p
    go (is_dashes e) = absurd (no_value_dashes names ok xs n b word words known e h)
    go (is_option x ys e) = absurd (no_value_option names ok xs n b x ys words known
        (subst (λ (v : Text). Passes names (waits xs n b) (v ∷ words)) e h))
    go (is_letters y ys ne e) =
        let g : Passes names (waits xs n b) ((45 ∷ y ∷ ys) ∷ words) = subst (λ (v : Text). Passes names (waits xs n b) (v ∷ words)) e h in
        let letter = letter_at y ys (subst (λ (v : Text). IsUtf8 v) e utf8) in
        absurd (letters_lacking names xs n b y ys letter.0 ne letter.1
        (pass_next names (waits xs n b) (waits xs n b) (45 ∷ y ∷ ys) words g).0)

-- what is claimed of the words behind the first
abbrev TailClaim : List Text → List Text → Type 0
TailClaim names [] = Unit {0}
TailClaim names (word ∷ words) = Claim names words

claim_spaced : (names : List Text) → AreNames names → (word n : Text) (words : List Text) → Names names word n None → word ≡ option_word n
    → TailClaim names words → Claim names (word ∷ words)
claim_spaced names ok word n [] i e ih xs p b ours utf8 h =
    let next = pass_next names (stands xs p b false) (waits (seen xs p) n b) word [] h in
    let fresh = spaced_clash names ok xs p b word n i ours next.0 in
    let g = next.1 (spaced_walk names ok xs p b word n i ours fresh) in
    absurd (lacking names ok (seen xs p) n i.known g.settle)
claim_spaced names ok word n (text ∷ words) i e ih xs p b ours utf8 h =
    let next = pass_next names (stands xs p b false) (waits (seen xs p) n b) word (text ∷ words) h in
    let fresh = spaced_clash names ok xs p b word n i ours next.0 in
    let step = spaced_walk names ok xs p b word n i ours fresh in
    let g = next.1 step in
    let is = value_plain names ok (seen xs p) n b text words utf8.1.0 i.known g in
    let then = pass_next names (waits (seen xs p) n b) (stands (seen xs p) (Some (given n text)) b false) text words g in
    let step₂ = value_walk names ok (seen xs p) n b text (no_flag text is) i.known in
    let w = ih (seen xs p) (Some (given n text)) b i.known utf8.1.1 (then.1 step₂) in
    record {
      options = (n, text) ∷ w.options;
      lasts = w.lasts;
      gives = spaced (contained names n i.known) e w.gives;
      fresh = fresh;
      more = (w.fresh, w.more);
      rows_are = ends_next names (stands xs p b false) (waits (seen xs p) n b) word (text ∷ words) step
          ∙ ends_next names (waits (seen xs p) n b) (stands (seen xs p) (Some (given n text)) b false) text words step₂
          ∙ w.rows_are ∙ one_more (seen xs p) (given n text) (parts_of w.gives);
    }

claim_cut : (names : List Text) → AreNames names → (x : ℕ) (ys : List ℕ) (words : List Text) → Cut (x ∷ ys) → Claim names words
    → TailClaim names words
    → Claim names ((45 ∷ 45 ∷ x ∷ ys) ∷ words)
claim_cut names ok x ys words (whole lacks) ih ih₂ = go (by_long names (x ∷ ys))
  where
    word : Text
    word = 45 ∷ 45 ∷ x ∷ ys

    long : long_of (45 ∷ 45 ∷ x ∷ ys) ≡ Some (x ∷ ys, None)
    long = ap (λ (s : Text × Option Text). Some s) (name_and_value-without (x ∷ ys) lacks)

    go : (arg_by_long (rules names) (x ∷ ys) ≡ None) ⊎
        (Among names (x ∷ ys) × (arg_by_long (rules names) (x ∷ ys) ≡ Some (option_read (x ∷ ys))))
        → Claim names ((45 ∷ 45 ∷ x ∷ ys) ∷ words)
    go (inl none) = λ xs p b ours utf8 h.
        absurd (unknown_refused names xs p b (45 ∷ 45 ∷ x ∷ ys) (x ∷ ys) None refl long none
        (pass_next names (stands xs p b false) (stands xs p b false) (45 ∷ 45 ∷ x ∷ ys) words h).0)
    go (inr found) = claim_spaced names ok (45 ∷ 45 ∷ x ∷ ys) (x ∷ ys) words
        (record { known = found.0; no_dashes = refl; long = long }) refl ih₂
claim_cut names ok x ys words (cut n v lacks e) ih ih₂ = go (by_long names n)
  where
    long : long_of (45 ∷ 45 ∷ x ∷ ys) ≡ Some (n, Some v)
    long = ap (λ (s : Text × Option Text). Some s) (ap (λ (t : Text). name_and_value t) e ∙ name_and_value-at n v lacks)

    go : (arg_by_long (rules names) n ≡ None) ⊎ (Among names n × (arg_by_long (rules names) n ≡ Some (option_read n)))
        → Claim names ((45 ∷ 45 ∷ x ∷ ys) ∷ words)
    go (inl none) = λ xs p b ours utf8 h.
        absurd (unknown_refused names xs p b (45 ∷ 45 ∷ x ∷ ys) n (Some v) refl long none
        (pass_next names (stands xs p b false) (stands xs p b false) (45 ∷ 45 ∷ x ∷ ys) words h).0)
    go (inr found) = claim_joined names ok (45 ∷ 45 ∷ x ∷ ys) n v words (record { known = found.0; no_dashes = refl; long = long })
        (ap (λ (t : Text). 45 ∷ 45 ∷ t) e) ih

claim_letters : (names : List Text) → (y : ℕ) (ys : List ℕ) (words : List Text) → y ≢ 45 → Claim names ((45 ∷ y ∷ ys) ∷ words)
claim_letters names y ys words ne xs p b ours utf8 h =
    let letter = letter_at y ys utf8.0 in
    absurd (letters_refused names xs p b y ys letter.0 ne letter.1
    (pass_next names (stands xs p b false) (stands xs p b false) (45 ∷ y ∷ ys) words h).0)

claim_form : (names : List Text) → AreNames names → (word : Text) (words : List Text) → Form word → Claim names words
    → TailClaim names words → Claim names (word ∷ words)
claim_form names ok word words (is_plain p) ih ih₂ = claim_plain names ok word words p ih
claim_form names ok word words (is_dashes e) ih ih₂ = subst (λ (v : Text). Claim names (v ∷ words)) (sym e) (claim_dashes names ok words)
claim_form names ok word words (is_option x ys e) ih ih₂ =
    subst (λ (v : Text). Claim names (v ∷ words)) (sym e) (claim_cut names ok x ys words (cut_of (x ∷ ys)) ih ih₂)
claim_form names ok word words (is_letters y ys ne e) ih ih₂ = subst (λ (v : Text). Claim names (v ∷ words)) (sym e)
    (claim_letters names y ys words ne)

claims : (names : List Text) → AreNames names → (words : List Text) → Claim names words × TailClaim names words
claims names ok [] = (claim_nothing names ok, tt)
claims names ok (word ∷ words) =
    let ih = claims names ok words in
    (claim_form names ok word words (form word) ih.0 ih.1, ih.0)

pub went : (names : List Text) → AreNames names → (words : List Text) → AreUtf8 words → Passes names (stands [] None true false) words
    → Went names [] None (stands [] None true false) words
went names ok words utf8 h = (claims names ok words).0 [] None true tt utf8 h
