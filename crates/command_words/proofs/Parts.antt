-- Words that give options and last words, as parts in the order of the words.
use Rattle.std.proofs.Common.{◌≡◌, ◌≢◌, ◌∙◌, true, false, zero, suc, refl, sym, ap, subst, inl, inr, List, [], ◌∷◌, ◌++◌, map, Some, None, codes, true≢false, arith}
use Rattle.std.specs.Prelude.{slice_get}
use Rattle.command_words.specs.computed.Parser.{look}
use Rattle.std.specs.List.{Contains, fold}
use Rattle.std.specs.Str.{IsUtf8, bytes_eq}
use Rattle.clap.specs.Walk.{Row, Text, Walk, first_of, has_row, settled, walked}
use Rattle.clap.specs.Kinds.{or_else}
use Rattle.clap.specs.Faults.{settle_fault, turn_fault, walk_fault}
use Rattle.command_words.specs.Words.{AreOnce, Gives, IsAbsent, joined, nothing, plain, rest, spaced}
use Rattle.command_words.proofs.Rules.{Among, bytes_same, different, rules, tested}
use Rattle.command_words.proofs.Rows.{AreNames, IsFresh, Part, absent_more, given, id_of, last, or_else_nil, nil_or_else, present_more, present_new, rows}
use Rattle.command_words.proofs.Turns.{shape}

-- the parts that the words give, in their order
abbrev pub parts_of : {names words : List Text} {os : List (Text × Text)} {ls : List Text} → Gives names words os ls → List Part
parts_of nothing = []
parts_of (spaced {name = n} {text = t} known e g) = given n t ∷ parts_of g
parts_of (joined {name = n} {text = t} known e g) = given n t ∷ parts_of g
parts_of (plain {word = w} h g) = last w ∷ parts_of g
parts_of (rest {words = ws} e) = map last ws

-- no part is of an id that came before
abbrev pub AreFresh : List Part → List Part → Type 0
AreFresh xs [] = Unit {0}
AreFresh xs (y ∷ ys) = IsFresh xs (Some y) × AreFresh (xs ++ y ∷ []) ys

abbrev pub AreUtf8 : List Text → Type 0
AreUtf8 [] = Unit {0}
AreUtf8 (w ∷ ws) = IsUtf8 w × AreUtf8 ws

-- ---- names

pub among : (names : List Text) (n : Text) → Contains names n → Among names n
among [] n h = absurd (omega (arith, h.1))
among (m ∷ names) n (zero, lt, e) = inl e
among (m ∷ names) n (suc k, lt, e) = inr (among names n (k, omega arith, e))

pub contained : (names : List Text) (n : Text) → Among names n → Contains names n
contained [] n h = absurd h
contained (m ∷ names) n (inl e) = (0, omega arith, e)
contained (m ∷ names) n (inr h) = let c = contained names n h in (suc c.0, omega (arith, c.1), c.2)

-- ---- a walk that passes

pub record Passes (names : List Text) (w : Walk) (words : List Text) : Type 0 where
  pub walk : walk_fault (shape names) [] w words ≡ []
  pub settle : settle_fault (rules names) false (fold (walked (rules names) []) w words).held ≡ []

-- the rows at its end
abbrev pub ends : List Text → Walk → List Text → List Row
ends names w words = (settled (rules names) (fold (walked (rules names) []) w words).held).rows

walk_more : (names : List Text) (w : Walk) (word : Text) (words : List Text)
    → walk_fault (shape names) [] w (word ∷ words) ≡ or_else (turn_fault (shape names) [] w word)
    (walk_fault (shape names) [] (walked (rules names) [] w word) words)
unfolding walk_fault
walk_more names w word words = refl

pub walk_none : (names : List Text) (w : Walk) → walk_fault (shape names) [] w [] ≡ []
unfolding walk_fault
walk_none names w = refl

pub pass_next : (names : List Text) (w after : Walk) (word : Text) (words : List Text) → Passes names w (word ∷ words)
    → (turn_fault (shape names) [] w word ≡ []) × ((walked (rules names) [] w word ≡ after) → Passes names after words)
pass_next names w after word words h =
    let both = or_else_nil (turn_fault (shape names) [] w word) (walk_fault (shape names) [] (walked (rules names) [] w word) words)
    (sym (walk_more names w word words) ∙ h.walk) in
    (both.0, λ e. subst (λ (v : Walk). Passes names v words) e (record { walk = both.1; settle = h.settle }))

pub next_passes : (names : List Text) (w after : Walk) (word : Text) (words : List Text) → turn_fault (shape names) [] w word ≡ []
    → walked (rules names) [] w word ≡ after → Passes names after words → Passes names w (word ∷ words)
next_passes names w after word words turn e h =
    let p : Passes names (walked (rules names) [] w word) words = subst (λ (v : Walk). Passes names v words) (sym e) h in
    record {
      walk = walk_more names w word words ∙ nil_or_else (turn_fault (shape names) [] w word)
          (walk_fault (shape names) [] (walked (rules names) [] w word) words) turn p.walk;
      settle = p.settle;
    }

pub ends_next : (names : List Text) (w after : Walk) (word : Text) (words : List Text) → walked (rules names) [] w word ≡ after
    → ends names w (word ∷ words) ≡ ends names after words
ends_next names w after word words e = ap (λ (v : Walk). ends names v words) e

-- ---- what is given once

pub fresh_absent : {names words : List Text} {os : List (Text × Text)} {ls : List Text} (g : Gives names words os ls) (xs : List Part)
    (n : Text)
    → has_row n (rows xs) ≡ true → AreFresh xs (parts_of g) → IsAbsent n os
fresh_absent nothing xs n h f = tt
fresh_absent (spaced {name = m} {text = t} known e g) xs n h f = (
  (λ (same : n ≡ m). absurd (true≢false (sym h ∙ ap (λ (i : Text). has_row i (rows xs)) same ∙ f.0))),
  fresh_absent g (xs ++ given m t ∷ []) n (present_more n xs (given m t) h) f.1,
)
fresh_absent (joined {name = m} {text = t} known e g) xs n h f = (
  (λ (same : n ≡ m). absurd (true≢false (sym h ∙ ap (λ (i : Text). has_row i (rows xs)) same ∙ f.0))),
  fresh_absent g (xs ++ given m t ∷ []) n (present_more n xs (given m t) h) f.1,
)
fresh_absent (plain {word = w} p g) xs n h f = fresh_absent g (xs ++ last w ∷ []) n (present_more n xs (last w) h) f.1
fresh_absent (rest e) xs n h f = tt

pub fresh_once : {names words : List Text} {os : List (Text × Text)} {ls : List Text} (g : Gives names words os ls) (xs : List Part)
    → AreFresh xs (parts_of g) → AreOnce os
fresh_once nothing xs f = tt
fresh_once (spaced {name = m} {text = t} known e g) xs f = (
  fresh_absent g (xs ++ given m t ∷ []) m (present_new m xs (given m t) (bytes_same m m refl)) f.1,
  fresh_once g
      (xs ++ given m t ∷ []) f.1,
)
fresh_once (joined {name = m} {text = t} known e g) xs f = (
  fresh_absent g (xs ++ given m t ∷ []) m (present_new m xs (given m t) (bytes_same m m refl)) f.1,
  fresh_once g
      (xs ++ given m t ∷ []) f.1,
)
fresh_once (plain {word = w} p g) xs f = fresh_once g (xs ++ last w ∷ []) f.1
fresh_once (rest e) xs f = tt

rest_last : (ws : List Text) (xs : List Part) → has_row (codes "last") (rows xs) ≡ true → AreFresh xs (map last ws) → ws ≡ []
rest_last [] xs h f = refl
rest_last (w ∷ ws) xs h f = absurd (true≢false (sym h ∙ f.0))

pub fresh_last : {names words : List Text} {os : List (Text × Text)} {ls : List Text} (g : Gives names words os ls) (xs : List Part)
    → has_row (codes "last") (rows xs) ≡ true → AreFresh xs (parts_of g) → ls ≡ []
fresh_last nothing xs h f = refl
fresh_last (spaced {name = m} {text = t} known e g) xs h f = fresh_last g (xs ++ given m t ∷ [])
    (present_more (codes "last") xs (given m t) h) f.1
fresh_last (joined {name = m} {text = t} known e g) xs h f = fresh_last g (xs ++ given m t ∷ [])
    (present_more (codes "last") xs (given m t) h) f.1
fresh_last (plain {word = w} p g) xs h f = absurd (true≢false (sym h ∙ f.0))
fresh_last (rest {words = ws} e) xs h f = rest_last ws xs h f

rest_one : (ws : List Text) (xs : List Part) → AreFresh xs (map last ws) → has_row (codes "last") (rows (map last ws)) ≡ true
    → (l : Text) × (ws ≡ l ∷ [])
rest_one [] xs f h = absurd (true≢false (sym h))
rest_one (w ∷ ws) xs f h = (
  w,
  ap (λ (r : List Text). w ∷ r)
      (rest_last ws (xs ++ last w ∷ []) (present_new (codes "last") xs (last w) refl) f.1),
)

-- a last word that stands is the only one
pub one_last : {names words : List Text} {os : List (Text × Text)} {ls : List Text} (g : Gives names words os ls) (xs : List Part)
    → AreNames names
    → AreFresh xs (parts_of g) → has_row (codes "last") (rows (parts_of g)) ≡ true → (l : Text) × (ls ≡ l ∷ [])
one_last nothing xs ok f h = absurd (true≢false (sym h))
one_last {names} (spaced {name = m} {text = t} known e g) xs ok f h =
    one_last g (xs ++ given m t ∷ []) ok f.1 (rw ((ok m (among names m known)).not_last) at h)
one_last {names} (joined {name = m} {text = t} known e g) xs ok f h =
    one_last g (xs ++ given m t ∷ []) ok f.1 (rw ((ok m (among names m known)).not_last) at h)
one_last (plain {word = w} p g) xs ok f h =
    (w, ap (λ (r : List Text). w ∷ r) (fresh_last g (xs ++ last w ∷ []) (present_new (codes "last") xs (last w) refl) f.1))
one_last (rest {words = ws} e) xs ok f h = rest_one ws xs f h

-- ---- and the other way round

abbrev pub Apart : List Part → List (Text × Text) → Type 0
Apart xs [] = Unit {0}
Apart xs (o ∷ os) = (has_row o.0 (rows xs) ≡ false) × Apart xs os

abbrev pub LastApart : List Part → List Text → Type 0
LastApart xs [] = Unit {0}
LastApart xs (l ∷ ls) = has_row (codes "last") (rows xs) ≡ false

abbrev pub IsOneLast : List Text → Type 0
IsOneLast [] = Unit {0}
IsOneLast (l ∷ ls) = ls ≡ []

abbrev Differs : Text → List (Text × Text) → Type 0
Differs n [] = Unit {0}
Differs n (o ∷ os) = (bytes_eq n o.0 ≡ false) × Differs n os

absent_differs : (n : Text) (os : List (Text × Text)) → IsAbsent n os → Differs n os
absent_differs n [] h = tt
absent_differs n (o ∷ os) h = (different n o.0 h.0, absent_differs n os h.1)

last_differs : {names words : List Text} {os : List (Text × Text)} {ls : List Text} → Gives names words os ls → AreNames names
    → Differs (codes "last") os
last_differs nothing ok = tt
last_differs {names} (spaced {name = m} known e g) ok = ((ok m (among names m known)).last_not, last_differs g ok)
last_differs {names} (joined {name = m} known e g) ok = ((ok m (among names m known)).last_not, last_differs g ok)
last_differs (plain p g) ok = last_differs g ok
last_differs (rest e) ok = tt

apart_more : (os : List (Text × Text)) (xs : List Part) (x : Part) → Apart xs os → Differs (id_of x) os → Apart (xs ++ x ∷ []) os
apart_more [] xs x a d = tt
apart_more (o ∷ os) xs x a d = (absent_more o.0 xs x a.0 d.0, apart_more os xs x a.1 d.1)

last_apart_more : (ls : List Text) (xs : List Part) (x : Part) → LastApart xs ls → bytes_eq (id_of x) (codes "last") ≡ false
    → LastApart (xs ++ x ∷ []) ls
last_apart_more [] xs x a e = tt
last_apart_more (l ∷ ls) xs x a e = absent_more (codes "last") xs x a e

no_more : (ls : List Text) (xs : List Part) → ls ≡ [] → LastApart xs ls × IsOneLast ls
no_more [] xs e = (tt, tt)
no_more (l ∷ ls) xs e = absurd (cc e)

rest_fresh : (ws : List Text) (xs : List Part) → LastApart xs ws → IsOneLast ws → AreFresh xs (map last ws)
rest_fresh [] xs a one = tt
rest_fresh (w ∷ ws) xs a one = (a, go ws one)
  where
    go : (rest : List Text) → rest ≡ [] → AreFresh (xs ++ last w ∷ []) (map last rest)
    go [] e = tt
    go (r ∷ rs) e = absurd (cc e)

pub once_fresh : {names words : List Text} {os : List (Text × Text)} {ls : List Text} (g : Gives names words os ls) (xs : List Part)
    → AreNames names
    → Apart xs os → LastApart xs ls → AreOnce os → IsOneLast ls → AreFresh xs (parts_of g)
once_fresh nothing xs ok a b once one = tt
once_fresh {names} (spaced {name = m} {text = t} {options = os} {last = ls} known e g) xs ok a b once one = (
  a.0,
  once_fresh g (xs ++ given m t ∷ []) ok (apart_more os xs (given m t) a.1 (absent_differs m os once.0))
      (last_apart_more ls xs (given m t) b (ok m (among names m known)).not_last) once.1 one,
)
once_fresh {names} (joined {name = m} {text = t} {options = os} {last = ls} known e g) xs ok a b once one = (
  a.0,
  once_fresh g (xs ++ given m t ∷ []) ok (apart_more os xs (given m t) a.1 (absent_differs m os once.0))
      (last_apart_more ls xs (given m t) b (ok m (among names m known)).not_last) once.1 one,
)
once_fresh (plain {word = w} {options = os} {last = ls} p g) xs ok a b once one =
    let none = no_more ls (xs ++ last w ∷ []) one in
    (b, once_fresh g (xs ++ last w ∷ []) ok (apart_more os xs (last w) a (last_differs g ok)) none.0 once none.1)
once_fresh (rest {words = ws} e) xs ok a b once one = rest_fresh ws xs b one

-- ---- what the rows say

rest_absent : (n : Text) (ws : List Text) → bytes_eq (codes "last") n ≡ false → first_of n (rows (map last ws)) ≡ None
rest_absent n [] e = refl
rest_absent n (w ∷ ws) e = rw e (rest_absent n ws e)

pub looked : {names words : List Text} {os : List (Text × Text)} {ls : List Text} (g : Gives names words os ls) (n : Text)
    → AreNames names → Among names n
    → first_of n (rows (parts_of g)) ≡ look n os
looked nothing n ok known = refl
looked (spaced {name = m} k e g) n ok known = elim (tested (bytes_eq m n))
    [ inl hit ↦ rw hit refl | inr miss ↦ rw miss (looked g n ok known) ]
looked (joined {name = m} k e g) n ok known = elim (tested (bytes_eq m n))
    [ inl hit ↦ rw hit refl | inr miss ↦ rw miss (looked g n ok known) ]
looked (plain p g) n ok known = rw ((ok n known).last_not) (looked g n ok known)
looked (rest {words = ws} e) n ok known = rest_absent n ws (ok n known).last_not

pub looked_last : {names words : List Text} {os : List (Text × Text)} {ls : List Text} (g : Gives names words os ls) → AreNames names
    → first_of (codes "last") (rows (parts_of g)) ≡ slice_get ls 0
looked_last nothing ok = refl
looked_last {names} (spaced {name = m} known e g) ok = rw ((ok m (among names m known)).not_last) (looked_last g ok)
looked_last {names} (joined {name = m} known e g) ok = rw ((ok m (among names m known)).not_last) (looked_last g ok)
looked_last (plain p g) ok = refl
looked_last (rest {words = []} e) ok = refl
looked_last (rest {words = w ∷ ws} e) ok = refl

pub last_stands : {names words : List Text} {os : List (Text × Text)} {ls : List Text} (g : Gives names words os ls) (l : Text)
    → AreNames names → ls ≡ l ∷ []
    → has_row (codes "last") (rows (parts_of g)) ≡ true
last_stands nothing l ok e = absurd (cc e)
last_stands {names} (spaced {name = m} known f g) l ok e = rw ((ok m (among names m known)).not_last) (last_stands g l ok e)
last_stands {names} (joined {name = m} known f g) l ok e = rw ((ok m (among names m known)).not_last) (last_stands g l ok e)
last_stands (plain p g) l ok e = refl
last_stands (rest {words = []} f) l ok e = absurd (cc e)
last_stands (rest {words = w ∷ ws} f) l ok e = refl
