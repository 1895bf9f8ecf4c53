-- Lines that are indented by four spaces for each block: the columns of blocks, and their INDENT and DEDENT.
use Rattle.std.proofs.Common.{ℕ, zero, suc, ◌+◌, ◌-◌, ◌*◌, ◌≤◌, ◌≡◌, ◌⊎◌, inl, inr, nat_lt, true, false, List, [], ◌∷◌, replicate, arith, refl, sym, ap, ◌∙◌, subst}
use Rattle.std.proofs.lemmas.Bool.{lt-ltb, le-ltb, eq-eqb, cases_lt}
use Rattle.py_lexer.specs.declared.spot.Spot.{Spot}
use Rattle.py_lexer.specs.declared.token.TokenKind.TheVariants as token_kind
use Rattle.py_lexer.specs.Characters.{behind, behind_one}
use Rattle.py_lexer.specs.Layout as layout
use Rattle.py_lexer.specs.Layout.{top, kept, left, levels_at, is_misfit, indent, mark}
use Rattle.spelled_tokens.specs.declared.token.What.TheVariants as what
use Rattle.spelled_tokens.specs.declared.token.Mark.TheVariants as mark_kind
use Rattle.spelled_tokens.specs.SpelledTokens.{all_spelled}
use Rattle.token_lines.specs.Lines.{dents_between}
use Rattle.token_lines.specs.Back.{whats}

-- the columns of this many blocks, the innermost first
abbrev pub levels_of : ℕ → List ℕ
levels_of zero = []
levels_of (suc d) = 4 * suc d ∷ levels_of d

top_level : (d : ℕ) → top (levels_of d) ≡ 4 * d
top_level zero = refl
top_level (suc d) = refl

same_or_below : (d e : ℕ) → e ≤ suc d → (e ≤ d) ⊎ (e ≡ suc d)
same_or_below d e h = elim (cases_lt e (suc d)) as (λ _. (e ≤ d) ⊎ (e ≡ suc d)) [ inl l ↦ inl (omega arith) | inr g ↦ inr (omega arith) ]

kept_levels : (d e : ℕ) → e ≤ d → kept (levels_of d) (4 * e) ≡ levels_of e
kept_levels zero zero h = refl
kept_levels zero (suc e) h = absurd (omega arith)
kept_levels (suc d) e h =
    elim (same_or_below d e h) as (λ _. kept (levels_of (suc d)) (4 * e) ≡ levels_of e) [
      | inl l ↦ rw (lt-ltb (4 * e) (4 * suc d) (omega arith)) (kept_levels d e l)
      | inr q ↦ rw (le-ltb (4 * e) (4 * suc d) (omega arith)) (sym (ap levels_of q))
    ]

left_levels : (d e : ℕ) → e ≤ d → left (levels_of d) (4 * e) ≡ d - e
left_levels zero e h = omega arith
left_levels (suc d) e h =
    elim (same_or_below d e h) as (λ _. left (levels_of (suc d)) (4 * e) ≡ suc d - e) [
      | inl l ↦ rw (lt-ltb (4 * e) (4 * suc d) (omega arith)) (let more = left_levels d e l in omega arith)
      | inr q ↦ rw (le-ltb (4 * e) (4 * suc d) (omega arith)) (omega arith)
    ]

pub left_all : (d : ℕ) → left (levels_of d) 0 ≡ d
left_all d = ap (left (levels_of d)) (omega arith) ∙ left_levels d 0 (omega arith) ∙ omega arith

pub dedents : (all : List ℕ) (s : Spot) (n : ℕ) → whats (all_spelled all (replicate n (mark token_kind.Dedent s))) ≡ replicate n (what.Mark mark_kind.Dedent)
dedents all s zero = refl
dedents all s (suc n) = ap (λ l. what.Mark mark_kind.Dedent ∷ l) (dedents all s n)

-- a line at one depth behind one at another
pub record Steps (d e : ℕ) : Type 0 where
  pub levels : levels_at (levels_of d) (4 * e) ≡ levels_of e
  pub no_misfit : is_misfit (levels_of d) (4 * e) ≡ false
  pub marks : (all : List ℕ) (s : Spot) → indent s ≡ 4 * e → whats (all_spelled all (layout.dents (levels_of d) s)) ≡ dents_between d e

deeper : (d : ℕ) → Steps d (suc d)
deeper d =
    let up : nat_lt (top (levels_of d)) (4 * suc d) ≡ true = lt-ltb (top (levels_of d)) (4 * suc d) (omega (arith, top_level d)) in
    let more : nat_lt d (suc d) ≡ true = lt-ltb d (suc d) (omega arith) in
    record {
      levels = rw up refl;
      no_misfit = rw up refl;
      marks = λ all s i. rw (i, up, more) refl;
    }

within : (d e : ℕ) → e ≤ d → Steps d e
within d e h =
    let up : nat_lt (top (levels_of d)) (4 * e) ≡ false = le-ltb (top (levels_of d)) (4 * e) (omega (arith, top_level d)) in
    let less : nat_lt d e ≡ false = le-ltb d e h in
    record {
      levels = rw up (kept_levels d e h);
      no_misfit = rw (up, kept_levels d e h, eq-eqb (top (levels_of e)) (4 * e) (top_level e)) refl;
      marks = λ all s i. rw (i, up, less, left_levels d e h) (dedents all s (d - e));
    }

pub steps_of : (d e : ℕ) → e ≤ d + 1 → Steps d e
steps_of d e h =
    let P : ℕ → Type 0 = λ m. Steps d m in
    elim (same_or_below d e (omega arith)) as (λ _. Steps d e) [ inl l ↦ within d e l | inr q ↦ subst P (sym q) (deeper d) ]

-- spaces move the column
pub spaces_column : (s : Spot) (n : ℕ) → (behind s (replicate n 32)).place.column ≡ s.place.column + n
spaces_column s zero = omega arith
spaces_column s (suc n) = let more = spaces_column (behind_one s 32) n in omega arith
