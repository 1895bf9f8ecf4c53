-- What the parser does at a word of each form.
use Rattle.std.proofs.Common.{◌≡◌, ◌≢◌, ◌⊎◌, ◌∙◌, ◌&&◌, ℕ, Bool, true, false, refl, sym, ap, ap₂, inl, inr, List, [], ◌∷◌, ◌++◌, Option, Some, None, codes, slice_get}
use Rattle.std.specs.Str.{bytes_eq, chars}
use Rattle.clap.specs.Lexer.{long_of, short_of}
use Rattle.clap.specs.Walk.{Held, Row, Rule, Step, Text, Waiting, Walk, after_flag, after_step, arg_by_long, has_row, idle, is_pending, long_met, option, positional_held, reacted, settled, used, walked, word_met}
use Rattle.clap.specs.Kinds.{Kinds, or_else}
use Rattle.clap.specs.Simple.{Shape, built}
use Rattle.clap.specs.Faults.{bundle_fault, flags_fault, long_fault, positional_fault, react_fault, settle_fault, step_fault, turn_fault, use_fault, word_fault}
use Rattle.command_words.specs.computed.Parser.{parser_app}
use Rattle.command_words.proofs.Forms.{letters_dashes, letters_long, letters_short}
use Rattle.command_words.proofs.Rules.{Among, bytes_same, id_known, last_read, long_known, no_letter, option_read, rules, second_place}
use Rattle.command_words.proofs.Rows.{AreNames, AreOurs, IsFresh, Part, given, held, last, or_else_nil, nil_or_else, pend, rows, seen, settle_clash, settle_fresh, settled_fresh, use_clash, use_fresh, used_fresh}

abbrev pub shape : List Text → Shape
shape names = record (built (parser_app names)).top { rules = rules names }

-- the place of the next last word: the first, or behind it
abbrev pub place : Bool → ℕ
place true = 1
place false = 2

-- between two words, where no option waits for its value
abbrev pub stands : List Part → Option Part → Bool → Bool → Walk
stands xs p b t = record { held = held xs p; waiting = idle; position = place b; is_trailing = t; stopped = None }

-- an option of this name waits for its value
abbrev pub lacks_value : List Part → Text → Held
lacks_value xs n = record { rows = rows xs; pending = Some (n, []); skip = 0 }

abbrev pub waits : List Part → Text → Bool → Walk
waits xs n b = record { held = lacks_value xs n; waiting = option n; position = place b; is_trailing = false; stopped = None }

-- ---- an option's word

met_long : (names : List Text) (pos : ℕ) (word n : Text) (v : Option Text) (o : Option Rule) (h : Held)
    → bytes_eq word (45 ∷ 45 ∷ []) ≡ false
    → long_of word ≡ Some (n, v) → arg_by_long (rules names) n ≡ o
    → word_met (rules names) [] false idle pos word h
    ≡ after_flag (rules names) idle word (long_met (rules names) o v h).0 (long_met (rules names) o v h).1
met_long names pos word n v o h e₁ e₂ e₃ = rw (e₁, e₂, e₃) refl

fault_long : (names : List Text) (word n : Text) (v : Option Text) (o : Option Rule) (h : Held) → bytes_eq word (45 ∷ 45 ∷ []) ≡ false
    → long_of word ≡ Some (n, v) → arg_by_long (rules names) n ≡ o
    → word_fault (shape names) [] false idle word h ≡ long_fault (rules names) false o v h
fault_long names word n v o h e₁ e₂ e₃ = rw (e₁, e₂, e₃) refl

fault_long_waiting : (names : List Text) (m word n : Text) (v : Option Text) (o : Option Rule) (h : Held)
    → bytes_eq word (45 ∷ 45 ∷ []) ≡ false
    → long_of word ≡ Some (n, v) → arg_by_long (rules names) n ≡ o
    → word_fault (shape names) [] false (option m) word h ≡ long_fault (rules names) false o v h
fault_long_waiting names m word n v o h e₁ e₂ e₃ = rw (e₁, e₂, e₃) refl

-- a word is an option of this name, with or without a value
pub record Names (names : List Text) (word n : Text) (v : Option Text) : Type 0 where
  pub known : Among names n
  pub no_dashes : bytes_eq word (45 ∷ 45 ∷ []) ≡ false
  pub long : long_of word ≡ Some (n, v)

pub joined_fault : (names : List Text) (xs : List Part) (p : Option Part) (b : Bool) (word n v : Text) → Names names word n (Some v)
    → turn_fault (shape names) [] (stands xs p b false) word
    ≡ or_else (react_fault (rules names) false (option_read n) (v ∷ []) (held xs p)) []
joined_fault names xs p b word n v i =
    let e = long_known names n i.known in
    ap₂ (λ (f : Kinds) (m : Held × Step). or_else f (step_fault (shape names) (place b) m.0 m.1))
    (fault_long names word n (Some v) (Some (option_read n)) (held xs p) i.no_dashes i.long e)
    (met_long names (place b) word n (Some v) (Some (option_read n)) (held xs p) i.no_dashes i.long e)

joined_met : (names : List Text) (xs : List Part) (p : Option Part) (b : Bool) (word n v : Text) → Names names word n (Some v)
    → walked (rules names) [] (stands xs p b false) word
    ≡ record (stands xs p b false) { held = reacted (rules names) (option_read n) (v ∷ []) (held xs p) }
unfolding walked
joined_met names xs p b word n v i =
    ap (λ (m : Held × Step). after_step (rules names) word (stands xs p b false) m.0 m.1)
    (met_long names (place b) word n (Some v) (Some (option_read n)) (held xs p) i.no_dashes i.long (long_known names n i.known))

reacted_fresh : (names : List Text) → AreNames names → (xs : List Part) (p : Option Part) (n v : Text) → AreOurs names p → IsFresh xs p
    → has_row n (rows (seen xs p)) ≡ false → reacted (rules names) (option_read n) (v ∷ []) (held xs p)
    ≡ held (seen xs p ++ given n v ∷ []) None
reacted_fresh names ok xs p n v ours fresh new =
    ap (λ (h : Held). held_with (used (option_read n) (v ∷ []) h.rows)) (settled_fresh names ok xs p ours fresh)
    ∙ ap held_with (used_fresh (given n v) (seen xs p) new)
  where
    held_with : List Row → Held
    held_with rs = record { rows = rs; pending = None; skip = 0 }

pub joined_walk : (names : List Text) → AreNames names → (xs : List Part) (p : Option Part) (b : Bool) (word n v : Text)
    → Names names word n (Some v)
    → AreOurs names p → IsFresh xs p → has_row n (rows (seen xs p)) ≡ false
    → walked (rules names) [] (stands xs p b false) word ≡ stands (seen xs p ++ given n v ∷ []) None b false
joined_walk names ok xs p b word n v i ours fresh new = joined_met names xs p b word n v i
    ∙ ap (λ (h : Held). record (stands xs p b false) { held = h }) (reacted_fresh names ok xs p n v ours fresh new)

-- what passes uses what is pending and then the option, each for the first time
pub joined_clash : (names : List Text) → AreNames names → (xs : List Part) (p : Option Part) (b : Bool) (word n v : Text)
    → Names names word n (Some v)
    → AreOurs names p → turn_fault (shape names) [] (stands xs p b false) word ≡ [] → IsFresh xs p × (has_row n (rows (seen xs p)) ≡ false)
joined_clash names ok xs p b word n v i ours e =
    let react = (or_else_nil (react_fault (rules names) false (option_read n) (v ∷ []) (held xs p)) []
    (sym (joined_fault names xs p b word n v i) ∙ e)).0 in
    let both = or_else_nil (settle_fault (rules names) false (held xs p))
    (use_fault false (option_read n) (v ∷ []) (settled (rules names) (held xs p)).rows) react in
    let fresh = settle_clash names ok xs p ours both.0 in
    let same = settled_fresh names ok xs p ours fresh in (
      fresh,
      use_clash (given n v) (rows (seen xs p))
          (ap (λ (h : Held). use_fault false (option_read n) (v ∷ []) h.rows) (sym same) ∙ both.1),
    )

pub joined_passes : (names : List Text) → AreNames names → (xs : List Part) (p : Option Part) (b : Bool) (word n v : Text)
    → Names names word n (Some v)
    → AreOurs names p → IsFresh xs p → has_row n (rows (seen xs p)) ≡ false → turn_fault (shape names) [] (stands xs p b false) word ≡ []
joined_passes names ok xs p b word n v i ours fresh new =
    let same = settled_fresh names ok xs p ours fresh in
    joined_fault names xs p b word n v i
    ∙ nil_or_else (react_fault (rules names) false (option_read n) (v ∷ []) (held xs p)) []
    (nil_or_else (settle_fault (rules names) false (held xs p))
    (use_fault false (option_read n) (v ∷ []) (settled (rules names) (held xs p)).rows)
    (settle_fresh names ok xs p ours fresh)
    (ap (λ (h : Held). use_fault false (option_read n) (v ∷ []) h.rows) same ∙ use_fresh (given n v) (rows (seen xs p)) new)) refl

-- ---- an option alone

pub spaced_fault : (names : List Text) (xs : List Part) (p : Option Part) (b : Bool) (word n : Text) → Names names word n None
    → turn_fault (shape names) [] (stands xs p b false) word ≡ or_else (settle_fault (rules names) false (held xs p)) []
spaced_fault names xs p b word n i =
    let e = long_known names n i.known in
    ap₂ (λ (f : Kinds) (m : Held × Step). or_else f (step_fault (shape names) (place b) m.0 m.1))
    (fault_long names word n None (Some (option_read n)) (held xs p) i.no_dashes i.long e)
    (met_long names (place b) word n None (Some (option_read n)) (held xs p) i.no_dashes i.long e)

spaced_met : (names : List Text) (xs : List Part) (p : Option Part) (b : Bool) (word n : Text) → Names names word n None
    → walked (rules names) [] (stands xs p b false) word
    ≡ record (stands xs p b false) { held = record (settled (rules names) (held xs p)) { pending = Some (n, []) }; waiting = option n }
unfolding walked
spaced_met names xs p b word n i =
    ap (λ (m : Held × Step). after_step (rules names) word (stands xs p b false) m.0 m.1)
    (met_long names (place b) word n None (Some (option_read n)) (held xs p) i.no_dashes i.long (long_known names n i.known))

pub spaced_walk : (names : List Text) → AreNames names → (xs : List Part) (p : Option Part) (b : Bool) (word n : Text)
    → Names names word n None
    → AreOurs names p → IsFresh xs p → walked (rules names) [] (stands xs p b false) word ≡ waits (seen xs p) n b
spaced_walk names ok xs p b word n i ours fresh = spaced_met names xs p b word n i
    ∙ ap (λ (h : Held). record (waits xs n b) { held = record h { pending = Some (n, []) } }) (settled_fresh names ok xs p ours fresh)

-- what passes at a word passes there before anything else
word_first : (names : List Text) (xs : List Part) (p : Option Part) (b : Bool) (word : Text)
    → turn_fault (shape names) [] (stands xs p b false) word ≡ []
    → word_fault (shape names) [] false idle word (held xs p) ≡ []
word_first names xs p b word e =
    let met = word_met (rules names) [] false idle (place b) word (held xs p) in
    (or_else_nil (word_fault (shape names) [] false idle word (held xs p)) (step_fault (shape names) (place b) met.0 met.1) e).0

waiting_first : (names : List Text) (xs : List Part) (n : Text) (b : Bool) (word : Text)
    → turn_fault (shape names) [] (waits xs n b) word ≡ []
    → word_fault (shape names) [] false (option n) word (lacks_value xs n) ≡ []
waiting_first names xs n b word e =
    let met = word_met (rules names) [] false (option n) (place b) word (lacks_value xs n) in
    (or_else_nil (word_fault (shape names) [] false (option n) word (lacks_value xs n))
    (step_fault (shape names) (place b) met.0 met.1) e).0

pub spaced_clash : (names : List Text) → AreNames names → (xs : List Part) (p : Option Part) (b : Bool) (word n : Text)
    → Names names word n None
    → AreOurs names p → turn_fault (shape names) [] (stands xs p b false) word ≡ [] → IsFresh xs p
spaced_clash names ok xs p b word n i ours e =
    settle_clash names ok xs p ours (or_else_nil (settle_fault (rules names) false (held xs p)) []
    (sym (spaced_fault names xs p b word n i) ∙ e)).0

pub spaced_passes : (names : List Text) → AreNames names → (xs : List Part) (p : Option Part) (b : Bool) (word n : Text)
    → Names names word n None
    → AreOurs names p → IsFresh xs p → turn_fault (shape names) [] (stands xs p b false) word ≡ []
spaced_passes names ok xs p b word n i ours fresh =
    spaced_fault names xs p b word n i ∙ nil_or_else (settle_fault (rules names) false (held xs p)) []
    (settle_fresh names ok xs p ours fresh) refl

-- an option of no name is refused
pub unknown_refused : (names : List Text) (xs : List Part) (p : Option Part) (b : Bool) (word n : Text) (v : Option Text)
    → bytes_eq word (45 ∷ 45 ∷ []) ≡ false
    → long_of word ≡ Some (n, v) → arg_by_long (rules names) n ≡ None → turn_fault (shape names) [] (stands xs p b false) word ≡ [] → ⊥
unknown_refused names xs p b word n v e₁ e₂ e₃ e =
    cc (sym (fault_long names word n v None (held xs p) e₁ e₂ e₃) ∙ word_first names xs p b word e)

-- ---- its value

-- a word that is no flag
pub record IsNoFlag (word : Text) : Type 0 where
  pub no_dashes : bytes_eq word (45 ∷ 45 ∷ []) ≡ false
  pub no_long : long_of word ≡ None
  pub no_short : short_of word ≡ None

pub value_passes : (names : List Text) (xs : List Part) (n : Text) (b : Bool) (word : Text) → IsNoFlag word
    → turn_fault (shape names) [] (waits xs n b) word ≡ []
value_passes names xs n b word i = rw (i.no_dashes, i.no_long, i.no_short) refl

pub value_walk : (names : List Text) → AreNames names → (xs : List Part) (n : Text) (b : Bool) (word : Text) → IsNoFlag word → Among names n
    → walked (rules names) [] (waits xs n b) word ≡ stands xs (Some (given n word)) b false
unfolding walked
value_walk names ok xs n b word i known =
    rw (i.no_dashes, i.no_long, i.no_short, id_known names n known (ok n known).last_not, bytes_same n n refl) refl

-- an option that lacks its value can't be used
pub lacking : (names : List Text) → AreNames names → (xs : List Part) (n : Text) → Among names n
    → settle_fault (rules names) false (lacks_value xs n) ≡ [] → ⊥
lacking names ok xs n known e = cc (rw (id_known names n known (ok n known).last_not) at e)

-- so no flag stands where its value should
pub flag_lacking : (names : List Text) → AreNames names
    → (xs : List Part) (m : Text) (b : Bool) (word n : Text) (v : Option Text) (o : Option Rule) → Among names m
    → bytes_eq word (45 ∷ 45 ∷ []) ≡ false → long_of word ≡ Some (n, v) → (o ≡ None) ⊎ (o ≡ Some (option_read n))
    → arg_by_long (rules names) n ≡ o
    → turn_fault (shape names) [] (waits xs m b) word ≡ [] → ⊥
flag_lacking names ok xs m b word n v o known e₁ e₂ which e₃ e =
    let first = sym (fault_long_waiting names m word n v o (lacks_value xs m) e₁ e₂ e₃) ∙ waiting_first names xs m b word e in
    elim which [
      | inl none ↦ cc (rw none at first)
      | inr some ↦ go v (ap (λ (r : Option Rule). long_fault (rules names) false r v (lacks_value xs m)) (sym some) ∙ first)
    ]
  where
    go : (w : Option Text) → long_fault (rules names) false (Some (option_read n)) w (lacks_value xs m) ≡ [] → ⊥
    go None f = lacking names ok xs m known f
    go (Some t) f = lacking names ok xs m known
        (or_else_nil (settle_fault (rules names) false (lacks_value xs m))
        (use_fault false (option_read n) (t ∷ []) (settled (rules names) (lacks_value xs m)).rows) f).0

-- ---- no option has a letter

letters_fault : (names : List Text) (y : ℕ) (ys : List ℕ) (x : ℕ) (rs : List Row) (q : Option (Text × List Text))
    → slice_get (chars (y ∷ ys)) 0 ≡ Some x
    → bundle_fault (rules names) false (y ∷ ys) (record { rows = rs; pending = q; skip = 0 }) ≡ [] → ⊥
unfolding flags_fault
letters_fault names y ys x rs q found e = cc (rw (found, no_letter names x) at e)

word_letters : (names : List Text) (waiting : Waiting) (y : ℕ) (ys : List ℕ) (h : Held) → y ≢ 45
    → (waiting ≡ idle) ⊎ ((n : Text) × (waiting ≡ option n))
    → word_fault (shape names) [] false waiting (45 ∷ y ∷ ys) h ≡ bundle_fault (rules names) false (y ∷ ys) h
word_letters names waiting y ys h ne (inl e) = rw (e, letters_dashes y ys ne, letters_long y ys ne, letters_short y ys ne) refl
word_letters names waiting y ys h ne (inr (n, e)) = rw (e, letters_dashes y ys ne, letters_long y ys ne, letters_short y ys ne) refl

pub letters_refused : (names : List Text) (xs : List Part) (p : Option Part) (b : Bool) (y : ℕ) (ys : List ℕ) (x : ℕ) → y ≢ 45
    → slice_get (chars (y ∷ ys)) 0 ≡ Some x → turn_fault (shape names) [] (stands xs p b false) (45 ∷ y ∷ ys) ≡ [] → ⊥
letters_refused names xs p b y ys x ne found e =
    letters_fault names y ys x (rows xs) (pend p) found
    (sym (word_letters names idle y ys (held xs p) ne (inl refl)) ∙ word_first names xs p b (45 ∷ y ∷ ys) e)

pub letters_lacking : (names : List Text) (xs : List Part) (n : Text) (b : Bool) (y : ℕ) (ys : List ℕ) (x : ℕ) → y ≢ 45
    → slice_get (chars (y ∷ ys)) 0 ≡ Some x → turn_fault (shape names) [] (waits xs n b) (45 ∷ y ∷ ys) ≡ [] → ⊥
letters_lacking names xs n b y ys x ne found e =
    letters_fault names y ys x (rows xs) (Some (n, [])) found
    (sym (word_letters names (option n) y ys (lacks_value xs n) ne (inr (n, refl))) ∙ waiting_first names xs n b (45 ∷ y ∷ ys) e)

-- ---- a last word

and_false : (a : Bool) → (a && false) ≡ false
and_false true = refl
and_false false = refl

positional_is : (names : List Text) (h : Held) → positional_fault (rules names) false last_read h ≡ settle_fault (rules names) false h
positional_is names h = rw (and_false (is_pending last_read h.pending)) refl

-- behind `--`, or no flag
pub data IsLast (word : Text) : Bool → Type 0 where
  behind : IsLast word true
  unflagged : IsNoFlag word → IsLast word false

pub last_fault : (names : List Text) (xs : List Part) (p : Option Part) (t : Bool) (word : Text) → IsLast word t
    → turn_fault (shape names) [] (stands xs p true t) word ≡ settle_fault (rules names) false (held xs p)
last_fault names xs p t word behind = positional_is names (held xs p)
last_fault names xs p t word (unflagged i) = rw (i.no_dashes, i.no_long, i.no_short) (positional_is names (held xs p))

positional_fresh : (names : List Text) → AreNames names → (xs : List Part) (p : Option Part) (word : Text) → AreOurs names p → IsFresh xs p
    → positional_held (rules names) last_read word (held xs p) ≡ held (seen xs p) (Some (last word))
positional_fresh names ok xs p word ours fresh =
    rw (and_false (is_pending last_read (pend p)))
    (ap (λ (h : Held). record h { pending = Some (codes "last", word ∷ []) }) (settled_fresh names ok xs p ours fresh))

pub last_walk : (names : List Text) → AreNames names → (xs : List Part) (p : Option Part) (t : Bool) (word : Text) → IsLast word t
    → AreOurs names p → IsFresh xs p
    → walked (rules names) [] (stands xs p true t) word ≡ stands (seen xs p) (Some (last word)) false t
unfolding walked
last_walk names ok xs p t word behind ours fresh =
    ap (λ (h : Held). record { held = h; waiting = idle; position = 2; is_trailing = true; stopped = None })
    (positional_fresh names ok xs p word ours fresh)
last_walk names ok xs p t word (unflagged i) ours fresh =
    rw (i.no_dashes, i.no_long, i.no_short)
    (ap (λ (h : Held). record { held = h; waiting = idle; position = 2; is_trailing = false; stopped = None })
    (positional_fresh names ok xs p word ours fresh))

-- a second one is refused
pub second_refused : (names : List Text) (xs : List Part) (p : Option Part) (t : Bool) (word : Text) → IsLast word t
    → turn_fault (shape names) [] (stands xs p false t) word ≡ [] → ⊥
second_refused names xs p t word behind e = cc (rw (second_place names) at e)
second_refused names xs p t word (unflagged i) e = cc (rw (i.no_dashes, i.no_long, i.no_short, second_place names) at e)

-- ---- `--`

pub dashes_pass : (names : List Text) (xs : List Part) (p : Option Part) (b : Bool)
    → turn_fault (shape names) [] (stands xs p b false) (45 ∷ 45 ∷ []) ≡ []
dashes_pass names xs p b = refl

pub dashes_walk : (names : List Text) (xs : List Part) (p : Option Part) (b : Bool)
    → walked (rules names) [] (stands xs p b false) (45 ∷ 45 ∷ []) ≡ stands xs p b true
unfolding walked
dashes_walk names xs p b = refl

-- behind it, an option can't get its value
abbrev pub waits_behind : List Part → Text → Bool → Walk
waits_behind xs n b = record (waits xs n b) { is_trailing = true }

pub dashes_lacking : (names : List Text) (xs : List Part) (n : Text) (b : Bool)
    → walked (rules names) [] (waits xs n b) (45 ∷ 45 ∷ []) ≡ waits_behind xs n b
unfolding walked
dashes_lacking names xs n b = refl

pub behind_lacking : (names : List Text) → AreNames names → (xs : List Part) (n : Text) (b : Bool) (word : Text) → Among names n
    → turn_fault (shape names) [] (waits_behind xs n b) word ≡ [] → ⊥
behind_lacking names ok xs n true word known e = lacking names ok xs n known (sym (positional_is names (lacks_value xs n)) ∙ e)
behind_lacking names ok xs n false word known e = cc (rw (second_place names) at e)
