-- The parser as a whole: its walk, what is pending at the end, defaults and what must stand.
use Rattle.std.proofs.Common.{◌≡◌, ◌∙◌, ◌||◌, ◌&&◌, Bool, true, false, not, refl, sym, ap, subst, inl, inr, List, [], ◌∷◌, Some, None, codes}
use Rattle.std.specs.Prelude.{slice_get}
use Rattle.std.specs.List.{fold, list_any}
use Rattle.std.specs.Str.{bytes_eq}
use Rattle.clap.specs.Walk.{Row, Rule, Text, first_of, has_row, nothing_held, rows_after, settled, walked, with_default}
use Rattle.clap.specs.Kinds.{or_else}
use Rattle.clap.specs.Simple.{built, matches_of}
use Rattle.clap.specs.Takes.{is_given}
use Rattle.clap.specs.Faults.{check_fault, defaults_fault, fault_of, is_simple_and_free, level_fault, settle_fault, walk_fault}
use Rattle.clap.proofs.FaultLemmas.{leaf_fault}
use Rattle.command_words.specs.Words.{AreOnce, Gives}
use Rattle.command_words.specs.CommandLine.{Give, run_options, step_options}
use Rattle.command_words.specs.computed.Parser.{look, parser_app}
use Rattle.command_words.proofs.Rules.{Among, last_read, option_read, options_read, rules, rules_built, tested}
use Rattle.command_words.proofs.Rows.{AreNames, IsName, Part, id_of, nil_or_else, or_else_nil, rows}
use Rattle.command_words.proofs.Turns.{shape, stands}
use Rattle.command_words.proofs.Parts.{Apart, AreUtf8, Passes, ends, fresh_once, last_stands, looked, looked_last, once_fresh, one_last, parts_of}
use Rattle.command_words.proofs.Went.{went}
use Rattle.command_words.proofs.Taken.{ArePlain, taken}

-- ---- no argument has a default

option_kept : (rs : List Row) (n : Text) → with_default rs (option_read n) ≡ rs
option_kept rs n = elim (tested (has_row n rs)) [ inl e ↦ rw e refl | inr e ↦ rw e refl ]

last_kept : (rs : List Row) → with_default rs last_read ≡ rs
last_kept rs = elim (tested (has_row (codes "last") rs)) [ inl e ↦ rw e refl | inr e ↦ rw e refl ]

options_kept : (names : List Text) (rs : List Row) → fold with_default rs (options_read names) ≡ rs
options_kept [] rs = refl
options_kept (n ∷ names) rs = ap (λ (q : List Row). fold with_default q (options_read names)) (option_kept rs n) ∙ options_kept names rs

rows_kept : (names : List Text) (rs : List Row) → fold with_default rs (rules names) ≡ rs
rows_kept names rs = ap (λ (q : List Row). fold with_default q (options_read names)) (last_kept rs) ∙ options_kept names rs

or_true : (a : Bool) → (a || true) ≡ true
or_true true = refl
or_true false = refl

no_option_default : (names : List Text) (rs : List Row) → defaults_fault rs (options_read names) ≡ []
unfolding defaults_fault
no_option_default [] rs = refl
no_option_default (n ∷ names) rs = rw (or_true (has_row n rs)) (no_option_default names (with_default rs (option_read n)))

no_default : (names : List Text) (rs : List Row) → defaults_fault rs (rules names) ≡ []
unfolding defaults_fault
no_default names rs = rw (or_true (has_row (codes "last") rs)) (no_option_default names (with_default rs last_read))

-- ---- the last word must stand

options_optional : (names : List Text) (rs : List Row)
    → list_any (λ (a : Rule). a.required && not (is_given a.id rs)) (options_read names) ≡ false
options_optional [] rs = refl
options_optional (n ∷ names) rs = options_optional names rs

check_given : (names : List Text) (rs : List Row) → is_given (codes "last") rs ≡ true → check_fault (shape names) rs false ≡ []
check_given names rs e = rw (e, options_optional names rs) refl

check_missing : (names : List Text) (rs : List Row) → check_fault (shape names) rs false ≡ [] → is_given (codes "last") rs ≡ true
check_missing names rs e = elim (tested (is_given (codes "last") rs)) [ inl given ↦ given | inr none ↦ absurd (cc (rw none at e)) ]

given_rows : (id : Text) (ps : List Part) → is_given id (rows ps) ≡ has_row id (rows ps)
given_rows id [] = refl
given_rows id (x ∷ ps) = elim (tested (bytes_eq (id_of x) id)) [ inl e ↦ rw e refl | inr e ↦ rw e (given_rows id ps) ]

-- ---- the parser's answers

fault_is : (names words : List Text) → fault_of (parser_app names) words ≡ level_fault (shape names) [] nothing_held words false []
fault_is names words = leaf_fault (built (parser_app names)) nothing_held words refl
    ∙ ap (λ (rs : List Rule). level_fault (record (built (parser_app names)).top { rules = rs }) [] nothing_held words false [])
    (rules_built names)

pub matches_are : (names words : List Text) → matches_of (parser_app names) words ≡ ends names (stands [] None true false) words
matches_are names words = ap (λ (rs : List Rule). rows_after rs [] words) (rules_built names)
    ∙ rows_kept names (ends names (stands [] None true false) words)

-- what the rows say, where the words give these options and this last word
pub record Reads (names words : List Text) (options : List (Text × Text)) (last : Text) (rs : List Row) : Type 0 where
  pub give : Give names words options last
  pub looks : (n : Text) → Among names n → first_of n rs ≡ look n options
  pub ends_with : first_of (codes "last") rs ≡ Some last

-- the parts of a parse without a fault
level_split : (names words : List Text) → level_fault (shape names) [] nothing_held words false [] ≡ []
    → Passes names (stands [] None true false) words × (is_given (codes "last") (ends names (stands [] None true false) words) ≡ true)
level_split names words e =
    let w = walk_fault (shape names) [] (stands [] None true false) words in
    let end = (fold (walked (rules names) []) (stands [] None true false) words).held in
    let s = settle_fault (rules names) false end in
    let rs = (settled (rules names) end).rows in
    let d = defaults_fault rs (rules names) in
    let k = check_fault (shape names) (fold with_default rs (rules names)) false in
    let a = or_else_nil w (or_else s (or_else d k)) e in
    let b = or_else_nil s (or_else d k) a.1 in
    let c = or_else_nil d k b.1 in (
      record { walk = a.0; settle = b.0 },
      ap (λ (q : List Row). is_given (codes "last") q) (sym (rows_kept names rs))
          ∙ check_missing names (fold with_default rs (rules names)) c.1,
    )

level_join : (names words : List Text) → Passes names (stands [] None true false) words
    → is_given (codes "last") (ends names (stands [] None true false) words) ≡ true
    → level_fault (shape names) [] nothing_held words false [] ≡ []
level_join names words h given =
    let w = walk_fault (shape names) [] (stands [] None true false) words in
    let end = (fold (walked (rules names) []) (stands [] None true false) words).held in
    let s = settle_fault (rules names) false end in
    let rs = (settled (rules names) end).rows in
    let d = defaults_fault rs (rules names) in
    let k = check_fault (shape names) (fold with_default rs (rules names)) false in
    let check = check_given names (fold with_default rs (rules names))
    (ap (λ (q : List Row). is_given (codes "last") q) (rows_kept names rs) ∙ given) in
    nil_or_else w (or_else s (or_else d k)) h.walk (nil_or_else s (or_else d k) h.settle (nil_or_else d k (no_default names rs) check))

reads_from : (names words : List Text) → AreNames names
    → (options : List (Text × Text)) (ls : List Text) (l : Text) (g : Gives names words options ls) (rs : List Row)
    → rs ≡ rows (parts_of g) → AreOnce options → ls ≡ l ∷ [] → Reads names words options l rs
reads_from names words ok options ls l g rs same once e = record {
  give = record { gives = subst (λ (k : List Text). Gives names words options k) e g; once = once };
  looks = λ n known. ap (λ (q : List Row). first_of n q) same ∙ looked g n ok known;
  ends_with = ap (λ (q : List Row). first_of (codes "last") q) same ∙ looked_last g ok ∙ ap (λ (k : List Text). slice_get k 0) e;
}

-- what the parser takes gives options and one last word
pub parsed : (names : List Text) → AreNames names → (words : List Text) → AreUtf8 words → fault_of (parser_app names) words ≡ []
    → (options : List (Text × Text)) × (last : Text) × Reads names words options last (matches_of (parser_app names) words)
parsed names ok words utf8 none =
    let level = level_split names words (sym (fault_is names words) ∙ none) in
    let w = went names ok words utf8 level.0 in
    let there : has_row (codes "last") (rows (parts_of w.gives)) ≡ true =
    sym (given_rows (codes "last") (parts_of w.gives)) ∙ ap (λ (q : List Row). is_given (codes "last") q) (sym w.rows_are) ∙ level.1 in
    let one = one_last w.gives [] ok w.more there in (
      w.options,
      one.0,
      reads_from names words ok w.options w.lasts one.0 w.gives (matches_of (parser_app names) words)
          (matches_are names words ∙ w.rows_are) (fresh_once w.gives [] w.more) one.1,
    )

apart_none : (os : List (Text × Text)) → Apart [] os
apart_none [] = tt
apart_none (o ∷ os) = (refl, apart_none os)

-- and what gives them is taken
pub given_taken : (names : List Text) → AreNames names → (words : List Text) (options : List (Text × Text)) (last : Text)
    → Give names words options last → ArePlain options
    → (fault_of (parser_app names) words ≡ []) × Reads names words options last (matches_of (parser_app names) words)
given_taken names ok words options last give plains =
    let g = give.gives in
    let more = once_fresh g [] ok (apart_none options) refl give.once refl in
    let t = taken g ok plains refl more in
    let given : is_given (codes "last") (ends names (stands [] None true false) words) ≡ true =
    ap (λ (q : List Row). is_given (codes "last") q) t.1 ∙ given_rows (codes "last") (parts_of g) ∙ last_stands g last ok refl in (
      fault_is names words ∙ level_join names words t.0 given,
      reads_from names words ok options (last ∷ []) last g (matches_of (parser_app names) words)
          (matches_are names words ∙ t.1) give.once refl,
    )

-- ---- the commands' parsers

pub no_names : AreNames []
no_names n known = absurd known

fuel_name : IsName (codes "fuel")
fuel_name = record { not_last = refl; last_not = refl; no_dashes = refl; alone = refl; joined_dashes = λ v. refl; joined = λ v. refl }

heap_name : IsName (codes "heap")
heap_name = record { not_last = refl; last_not = refl; no_dashes = refl; alone = refl; joined_dashes = λ v. refl; joined = λ v. refl }

print_name : IsName (codes "print")
print_name = record { not_last = refl; last_not = refl; no_dashes = refl; alone = refl; joined_dashes = λ v. refl; joined = λ v. refl }

seed_name : IsName (codes "seed")
seed_name = record { not_last = refl; last_not = refl; no_dashes = refl; alone = refl; joined_dashes = λ v. refl; joined = λ v. refl }

pub run_names : AreNames run_options
run_names n (inl e) = subst (λ (m : Text). IsName m) e fuel_name
run_names n (inr (inl e)) = subst (λ (m : Text). IsName m) e heap_name
run_names n (inr (inr (inl e))) = subst (λ (m : Text). IsName m) e print_name
run_names n (inr (inr (inr none))) = absurd none

pub step_names : AreNames step_options
step_names n (inl e) = subst (λ (m : Text). IsName m) e seed_name
step_names n (inr known) = run_names n known

pub file_simple : is_simple_and_free (parser_app []) ≡ true
file_simple = refl

pub run_simple : is_simple_and_free (parser_app run_options) ≡ true
run_simple = refl

pub step_simple : is_simple_and_free (parser_app step_options) ≡ true
step_simple = refl
