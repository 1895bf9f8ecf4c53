-- What the words gave so far, as the parser's rows, and one more use of an argument.
use Rattle.std.proofs.Common.{◌≡◌, ◌∙◌, ◌||◌, Bool, true, false, refl, sym, ap, inl, inr, List, [], ◌∷◌, ◌++◌, map, Option, Some, None, codes, true≢false}
use Rattle.std.specs.Str.{bytes_eq}
use Rattle.clap.specs.Lexer.{long_of}
use Rattle.clap.specs.Walk.{Held, Row, Rule, Text, arg_by_id, at_row, has_row, more_values, reading_by, settled, used, used_by_id, without}
use Rattle.clap.specs.Kinds.{Kinds, or_else}
use Rattle.clap.specs.Faults.{settle_fault, use_fault}
use Rattle.clap.specs.declared.parser.matches.ValueSource.TheVariants.{CommandLine}
use Rattle.command_words.proofs.Rules.{Among, tested, id_known, last_by_id, last_read, option_read, rules}

-- an option with its text, or a last word
pub data Part : Type 0 where
  given : Text → Text → Part
  last : Text → Part

abbrev pub id_of : Part → Text
id_of (given n t) = n
id_of (last t) = codes "last"

abbrev pub text_of : Part → Text
text_of (given n t) = t
text_of (last t) = t

abbrev pub rule_at : Part → Rule
rule_at (given n t) = option_read n
rule_at (last t) = last_read

abbrev pub row_at : Part → Row
row_at x = record {
  id = id_of x;
  values = text_of x ∷ [];
  count = None;
  source = Some CommandLine;
  reading = reading_by last_read;
}

abbrev pub rows : List Part → List Row
rows xs = map row_at xs

-- a name of an option
pub record IsName (n : Text) : Type 0 where
  pub not_last : bytes_eq n (codes "last") ≡ false
  pub last_not : bytes_eq (codes "last") n ≡ false
  pub no_dashes : bytes_eq (45 ∷ 45 ∷ n) (45 ∷ 45 ∷ []) ≡ false
  pub alone : long_of (45 ∷ 45 ∷ n) ≡ Some (n, None)
  pub joined_dashes : (v : Text) → bytes_eq (45 ∷ 45 ∷ n ++ 61 ∷ v) (45 ∷ 45 ∷ []) ≡ false
  pub joined : (v : Text) → long_of (45 ∷ 45 ∷ n ++ 61 ∷ v) ≡ Some (n, Some v)

abbrev pub AreNames : List Text → Type 0
AreNames names = (n : Text) → Among names n → IsName n

abbrev pub IsOurs : List Text → Part → Type 0
IsOurs names (given n t) = Among names n
IsOurs names (last t) = Unit {0}

-- ---- kinds

pub or_else_nil : (a b : Kinds) → or_else a b ≡ [] → (a ≡ []) × (b ≡ [])
or_else_nil [] b e = (refl, e)
or_else_nil (k ∷ ks) b e = absurd (cc e)

pub nil_or_else : (a b : Kinds) → a ≡ [] → b ≡ [] → or_else a b ≡ []
nil_or_else [] b e f = f
nil_or_else (k ∷ ks) b e f = e

-- ---- rows

or_false : (a b : Bool) → (a || b) ≡ false → (a ≡ false) × (b ≡ false)
or_false false b e = (refl, e)
or_false true b e = absurd (true≢false e)

pub nil_right : {X : Type 0} (xs : List X) → xs ++ [] ≡ xs
nil_right [] = refl
nil_right (x ∷ xs) = ap (λ rest. x ∷ rest) (nil_right xs)

pub rows_more : (xs ys : List Part) → rows (xs ++ ys) ≡ rows xs ++ rows ys
rows_more [] ys = refl
rows_more (x ∷ xs) ys = ap (λ rest. row_at x ∷ rest) (rows_more xs ys)

at_none : (id : Text) (change : Row → List Row) (missing rs : List Row) → has_row id rs ≡ false
    → at_row id change missing rs ≡ rs ++ missing
at_none id change missing [] e = refl
at_none id change missing (r ∷ rs) e =
    let both = or_false (bytes_eq r.id id) (has_row id rs) e in
    rw both.0 (ap (λ rest. r ∷ rest) (at_none id change missing rs both.1))

without_none : (id : Text) (rs : List Row) → has_row id rs ≡ false → without id rs ≡ rs
without_none id rs e = at_none id (λ _. []) [] rs e ∙ nil_right rs

-- no row of this id, after one more part
pub absent_more : (id : Text) (xs : List Part) (x : Part) → has_row id (rows xs) ≡ false → bytes_eq (id_of x) id ≡ false
    → has_row id (rows (xs ++ x ∷ [])) ≡ false
absent_more id [] x e f = rw f refl
absent_more id (y ∷ xs) x e f =
    let both = or_false (bytes_eq (id_of y) id) (has_row id (rows xs)) e in
    rw both.0 (absent_more id xs x both.1 f)

pub present_more : (id : Text) (xs : List Part) (x : Part) → has_row id (rows xs) ≡ true → has_row id (rows (xs ++ x ∷ [])) ≡ true
present_more id [] x e = absurd (true≢false (sym e))
present_more id (y ∷ xs) x e = elim (tested (bytes_eq (id_of y) id)) [
  | inl hit ↦ rw hit refl
  | inr miss ↦ rw miss (present_more id xs x (rw miss at e))
]

pub present_new : (id : Text) (xs : List Part) (x : Part) → bytes_eq (id_of x) id ≡ true → has_row id (rows (xs ++ x ∷ [])) ≡ true
present_new id [] x e = rw e refl
present_new id (y ∷ xs) x e = elim (tested (bytes_eq (id_of y) id)) [
  | inl hit ↦ rw hit refl
  | inr miss ↦ rw miss (present_new id xs x e)
]

-- ---- one use

pub use_fresh : (x : Part) (rs : List Row) → has_row (id_of x) rs ≡ false → use_fault false (rule_at x) (text_of x ∷ []) rs ≡ []
use_fresh (given n t) rs e = rw e refl
use_fresh (last t) rs e = rw e refl

pub use_clash : (x : Part) (rs : List Row) → use_fault false (rule_at x) (text_of x ∷ []) rs ≡ [] → has_row (id_of x) rs ≡ false
use_clash (given n t) rs e = elim (tested (has_row n rs)) [ inl bad ↦ absurd (cc (rw bad at e)) | inr good ↦ good ]
use_clash (last t) rs e = elim (tested (has_row (codes "last") rs)) [ inl bad ↦ absurd (cc (rw bad at e)) | inr good ↦ good ]

pub used_fresh : (x : Part) (xs : List Part) → has_row (id_of x) (rows xs) ≡ false
    → used (rule_at x) (text_of x ∷ []) (rows xs) ≡ rows (xs ++ x ∷ [])
used_fresh (given n t) xs e =
    rw (without_none n (rows xs) e) (at_none n (more_values CommandLine (t ∷ [])) (row_at (given n t) ∷ []) (rows xs) e
    ∙ sym (rows_more xs (given n t ∷ [])))
used_fresh (last t) xs e =
    rw (without_none (codes "last") (rows xs) e) (at_none (codes "last") (more_values CommandLine (t ∷ [])) (row_at (last t) ∷ [])
    (rows xs) e ∙ sym (rows_more xs (last t ∷ [])))

-- ---- what is pending is used

abbrev pub pend : Option Part → Option (Text × List Text)
pend None = None
pend (Some x) = Some (id_of x, text_of x ∷ [])

abbrev pub held : List Part → Option Part → Held
held xs p = record { rows = rows xs; pending = pend p; skip = 0 }

abbrev pub seen : List Part → Option Part → List Part
seen xs None = xs
seen xs (Some x) = xs ++ x ∷ []

abbrev pub AreOurs : List Text → Option Part → Type 0
AreOurs names None = Unit {0}
AreOurs names (Some x) = IsOurs names x

abbrev pub IsFresh : List Part → Option Part → Type 0
IsFresh xs None = Unit {0}
IsFresh xs (Some x) = has_row (id_of x) (rows xs) ≡ false

rule_found : (names : List Text) → AreNames names → (x : Part) → IsOurs names x → arg_by_id (rules names) (id_of x) ≡ Some (rule_at x)
rule_found names ok (given n t) ours = id_known names n ours (ok n ours).last_not
rule_found names ok (last t) ours = last_by_id names

pub settle_fresh : (names : List Text) → AreNames names → (xs : List Part) (p : Option Part) → AreOurs names p → IsFresh xs p
    → settle_fault (rules names) false (held xs p) ≡ []
settle_fresh names ok xs None ours fresh = refl
settle_fresh names ok xs (Some x) ours fresh = rw (rule_found names ok x ours) (use_fresh x (rows xs) fresh)

pub settle_clash : (names : List Text) → AreNames names → (xs : List Part) (p : Option Part) → AreOurs names p
    → settle_fault (rules names) false (held xs p) ≡ [] → IsFresh xs p
settle_clash names ok xs None ours e = tt
settle_clash names ok xs (Some x) ours e = use_clash x (rows xs) (rw (rule_found names ok x ours) at e)

pub settled_fresh : (names : List Text) → AreNames names → (xs : List Part) (p : Option Part) → AreOurs names p → IsFresh xs p
    → settled (rules names) (held xs p) ≡ held (seen xs p) None
settled_fresh names ok xs None ours fresh = refl
settled_fresh names ok xs (Some x) ours fresh = ap (λ (rs : List Row). record { rows = rs; pending = None; skip = 0 })
    (ap (λ (o : Option Rule). used_by_id o (text_of x ∷ []) (rows xs)) (rule_found names ok x ours) ∙ used_fresh x xs fresh)
