-- Rows of tokens that can be written: what makes them up, piece by piece.
use Rattle.std.proofs.Common.{◌≡◌, ℕ, suc, ◌+◌, ◌-◌, ◌<◌, List, [], ◌∷◌, ◌++◌, length, refl, arith}
use Rattle.std.specs.List.{AllByRecursion}
use Rattle.spelled_tokens.specs.declared.token.Mark.TheVariants as mark
use Rattle.spelled_tokens.specs.declared.token.Spelled.{Spelled}
use Rattle.spelled_tokens.specs.declared.token.What.TheVariants as what
use Rattle.token_lines.specs.declared.printed.Printed.{Printed}
use Rattle.token_lines.specs.declared.printed.Printed.TheVariants.{Plain}
use Rattle.token_lines.specs.Tokens.{what_of}
use Rattle.token_lines.specs.Writable.{IsSound, IsWritable, opened_by, open_after}

-- ---- tokens of the grammar that are all sound

abbrev pub AreSound : List Spelled → Type 0
AreSound ts = AllByRecursion (λ t. IsSound t.what) ts

-- of two lists together, the first is sound
pub front : (xs ys : List Spelled) → AreSound (xs ++ ys) → AreSound xs
front [] ys h = tt
front (x ∷ xs) ys h = (h.0, front xs ys h.1)

-- and the second
pub back : (xs ys : List Spelled) → AreSound (xs ++ ys) → AreSound ys
back [] ys h = h
back (x ∷ xs) ys h = back xs ys h.1

-- ---- printed tokens that can all be written

abbrev pub AreWritable : List Printed → Type 0
AreWritable ts = AllByRecursion (λ t. IsWritable (what_of t)) ts

writable_together : (xs ys : List Printed) → AreWritable xs → AreWritable ys → AreWritable (xs ++ ys)
writable_together [] ys h k = k
writable_together (x ∷ xs) ys h k = (h.0, writable_together xs ys h.1 k)

-- the brackets that are open behind two lists are those of the second, behind the first
open_together : (n : ℕ) (xs ys : List Printed) → open_after n (xs ++ ys) ≡ open_after (open_after n xs) ys
open_together n [] ys = refl
open_together n (x ∷ xs) ys = open_together (opened_by n (what_of x)) xs ys

-- tokens that can be written, and that close so many brackets more than they open
pub record IsRow (k : ℕ) (ts : List Printed) : Type 0 where
  pub writable : AreWritable ts
  pub closed : (m n : ℕ) → m ≡ k + n → open_after m ts ≡ n

-- no token closes no bracket
pub row_end : IsRow 0 []
row_end = record { writable = tt; closed = λ m n e. omega (arith, e) }

-- a token that is no bracket
pub row_word : {k : ℕ} {t : Printed} {ts : List Printed} → IsWritable (what_of t) → ((n : ℕ) → opened_by n (what_of t) ≡ n) → IsRow k ts → IsRow k (t ∷ ts)
row_word {k} {t} {ts} w c h = record {
  writable = (w, h.writable);
  closed = λ m n e. rw (c m) (h.closed m n e);
}

pub row_open : {k : ℕ} {ts : List Printed} → IsRow (suc k) ts → IsRow k (Plain what.Open ∷ ts)
row_open {k} {ts} h = record { writable = (tt, h.writable); closed = λ m n e. h.closed (suc m) n (omega (arith, e)) }

pub row_close : {k : ℕ} {ts : List Printed} → IsRow k ts → IsRow (suc k) (Plain what.Close ∷ ts)
row_close {k} {ts} h = record { writable = (tt, h.writable); closed = λ m n e. h.closed (m - 1) n (omega (arith, e)) }

pub row_open_square : {k : ℕ} {ts : List Printed} → IsRow (suc k) ts → IsRow k (Plain (what.Mark mark.OpenSquare) ∷ ts)
row_open_square {k} {ts} h = record { writable = (tt, h.writable); closed = λ m n e. h.closed (suc m) n (omega (arith, e)) }

pub row_close_square : {k : ℕ} {ts : List Printed} → IsRow k ts → IsRow (suc k) (Plain (what.Mark mark.CloseSquare) ∷ ts)
row_close_square {k} {ts} h = record { writable = (tt, h.writable); closed = λ m n e. h.closed (m - 1) n (omega (arith, e)) }

-- a row whose brackets are closed, before another
pub row_together : {k : ℕ} {xs ys : List Printed} → IsRow 0 xs → IsRow k ys → IsRow k (xs ++ ys)
row_together {k} {xs} {ys} h j = record {
  writable = writable_together xs ys h.writable j.writable;
  closed = λ m n e. rw (open_together m xs ys, h.closed m m (omega arith)) (j.closed m n e);
}

-- ---- rows of at least one token

pub record IsSome (ts : List Printed) : Type 0 where
  pub some : 0 < length ts

pub some_word : {t : Printed} {ts : List Printed} → IsSome (t ∷ ts)
some_word = record { some = omega arith }

pub some_before : (xs : List Printed) (t : Printed) (ts : List Printed) → IsSome (xs ++ (t ∷ ts))
some_before [] t ts = some_word
some_before (x ∷ xs) t ts = some_word
