-- What is a type is read, and to the state that has it.
use Rattle.std.proofs.Common.{ℕ, suc, ◌+◌, ◌≤◌, ◌≡◌, max, List, [], ◌∷◌, ◌++◌, length, Some, nat_lt, arith, refl, ap, sym, ◌∙◌, subst, append_assoc}
use Rattle.std.proofs.Math.Nat.{zero-max}
use Rattle.std.proofs.lemmas.Bool.{lt-ltb}
use Rattle.mono_syntax.specs.declared.leaf.Place.{Place}
use Rattle.mono_syntax.specs.Ann as tree
use Rattle.mono_syntax.specs.Ann.{Ann, ann}
use Rattle.mono_syntax.specs.AnnView.{anns}
use Rattle.spelled_tokens.specs.declared.token.Spelled.{Spelled}
use Rattle.spelled_tokens.specs.declared.token.What.{What}
use Rattle.spelled_tokens.specs.declared.token.What.TheVariants as what
use Rattle.spelled_tokens.specs.declared.token.Mark.{Mark}
use Rattle.spelled_tokens.specs.declared.token.Mark.TheVariants as mark
use Rattle.spelled_tokens.specs.SpelledTokens.{tok, sign}
use Rattle.parse_expr.specs.declared.machine.TypeFrame.{TypeFrame}
use Rattle.parse_expr.specs.declared.machine.TypeFrame.TheVariants as frame
use Rattle.parse_expr.specs.declared.machine.TypeMode.{TypeMode}
use Rattle.parse_expr.specs.declared.machine.TypeMode.TheVariants as mode
use Rattle.parse_expr.specs.Types as g
use Rattle.parse_expr.specs.Types.{DerivesType, DerivesTypes, DerivesTypeRow, word}
use Rattle.parse_expr.specs.computed.TypeReading.{type_if, type_mark, type_begin, type_first_mark, type_first, type_step}
use Rattle.parse_expr.specs.computed.Goes.{Goes, stay, go}
use Rattle.parse_expr.proofs.Goes.{then, goes_cons, none_some}
use Rattle.parse_expr.proofs.Maxima.{max_left, max_right, max_assoc}
use Rattle.parse_expr.proofs.TypeSound.{type_heavy}

one_step : (r : ℕ) (m n : TypeMode) (t : Spelled) → type_step r m t ≡ Some n → Goes (type_step r) m (t ∷ []) n
one_step r m n t e = go m n n t [] e (stay n)

leaf_reach : (r : ℕ) (k : List TypeFrame) (t : Spelled) (a : Ann) → 1 + length k ≤ r → type_step r (mode.Want k) t ≡ type_if (nat_lt (length k) r) (mode.Have k a 1)
    → Goes (type_step r) (mode.Want k) (t ∷ []) (mode.Have k a 1)
leaf_reach r k t a n s = one_step r (mode.Want k) _ t (s ∙ ap (λ b. type_if b (mode.Have k a 1)) (lt-ltb (length k) r (omega arith)))

-- the first parameter is read as each other is
first_mark : (r : ℕ) (p : Place) (k : List TypeFrame) (q : Place) (m : Mark) (n : TypeMode) → type_mark r (frame.Params p [] 0 ∷ k) q m ≡ Some n → type_first_mark r p k q m ≡ Some n
first_mark r p k q mark.CloseSquare n e = none_some _ e
first_mark r p k q m n e = e

first_what : (r : ℕ) (p : Place) (k : List TypeFrame) (q : Place) (w : What) (n : TypeMode) → type_begin r (frame.Params p [] 0 ∷ k) q w ≡ Some n → type_first r p k q w ≡ Some n
first_what r p k q (what.Mark m) n e = first_mark r p k q m n e
first_what r p k q w n e = e

first_goes : (r : ℕ) (p : Place) (k : List TypeFrame) {t : Spelled} {ts : List Spelled} {n : TypeMode} → Goes (type_step r) (mode.Want (frame.Params p [] 0 ∷ k)) (t ∷ ts) n
    → Goes (type_step r) (mode.First p k) (t ∷ ts) n
first_goes r p k {t = t} {ts = ts} {n = n} a =
    let c = goes_cons (type_step r) a in
    go (mode.First p k) c.0 n t ts (first_what r p k t.place t.what c.0 c.1) c.2

-- a type has a first token
pub type_some : {ts : List Spelled} {w : ℕ} {a : Ann} → DerivesType ts w a → (t : Spelled) × (us : List Spelled) × (ts ≡ t ∷ us)
type_some (g.dyn_type p) = (_, _, refl)
type_some (g.int_type p) = (_, _, refl)
type_some (g.bool_type p) = (_, _, refl)
type_some (g.str_type p) = (_, _, refl)
type_some (g.nil_type p) = (_, _, refl)
type_some (g.class_type p x) = (_, _, refl)
type_some (g.callable p q r s t u ts us v w xs a x y) = (_, _, refl)

row_some : {ts : List Spelled} {w : ℕ} {xs : List Ann} → DerivesTypeRow ts w xs → (t : Spelled) × (us : List Spelled) × (ts ≡ t ∷ us)
row_some (g.one_type ts w a d) = type_some d
row_some (g.more_types p ts us v w a xs d e) = let s = type_some d in (s.0, s.1 ++ (tok what.Comma p ∷ us), ap (λ z. z ++ (tok what.Comma p ∷ us)) s.2)

first_row : (r : ℕ) (p : Place) (k : List TypeFrame) {ts : List Spelled} {w : ℕ} {xs : List Ann} (us : List Spelled) {n : TypeMode} → DerivesTypeRow ts w xs
    → Goes (type_step r) (mode.Want (frame.Params p [] 0 ∷ k)) (ts ++ us) n → Goes (type_step r) (mode.First p k) (ts ++ us) n
first_row r p k {ts = ts} us {n = n} d a =
    let s = row_some d in
    let e : ts ++ us ≡ s.0 ∷ (s.1 ++ us) = ap (λ z. z ++ us) s.2 in
    subst (λ z. Goes (type_step r) (mode.First p k) z n) (sym e) (first_goes r p k (subst (λ z. Goes (type_step r) (mode.Want (frame.Params p [] 0 ∷ k)) z n) e a))

mutual
  pub type_reach : (r : ℕ) {ts : List Spelled} {w : ℕ} {a : Ann} → DerivesType ts w a → (k : List TypeFrame) → w + length k ≤ r → Goes (type_step r) (mode.Want k) ts (mode.Have k a w)
  type_reach r (g.dyn_type p) k n = leaf_reach r k (sign mark.Dyn p) (ann p tree.dyn) n refl
  type_reach r (g.int_type p) k n = leaf_reach r k (sign mark.Int p) (ann p tree.int) n refl
  type_reach r (g.bool_type p) k n = leaf_reach r k (sign mark.Bool p) (ann p tree.bool) n refl
  type_reach r (g.str_type p) k n = leaf_reach r k (sign mark.Str p) (ann p tree.str) n refl
  type_reach r (g.nil_type p) k n = leaf_reach r k (tok what.Nil p) (ann p tree.nil) n refl
  type_reach r (g.class_type p x) k n = leaf_reach r k (tok (what.Name x) p) (ann p (tree.class (word x p))) n refl
  type_reach r (g.callable p q s t u o ts us v w xs a d e) k n =
      let h = type_heavy e in
      let m = max_right v w (length k) r n in
      let inside = type_reach r e (frame.Result p xs v ∷ k) m in
      let after : Goes (type_step r) (mode.Between p xs v k) (tok what.Comma u ∷ (us ++ (sign mark.CloseSquare o ∷ []))) (mode.Have k (ann p (tree.fun (anns xs) a)) (suc (max v w))) =
      go _ (mode.Want (frame.Result p xs v ∷ k)) _ (tok what.Comma u) _ refl (then (type_step r) _ (mode.Have (frame.Result p xs v ∷ k) a w) _ us _ inside (one_step r _ _ (sign mark.CloseSquare o) refl)) in
      go (mode.Want k) (mode.Outer p k) _ (sign mark.Callable p) _ (rw (lt-ltb (suc (length k)) r (omega arith)) refl)
      (go (mode.Outer p k) (mode.Inner p k) _ (sign mark.OpenSquare q) _ refl
      (go (mode.Inner p k) (mode.First p k) _ (sign mark.OpenSquare s) _ refl
      (subst (λ z. Goes (type_step r) (mode.First p k) z (mode.Have k (ann p (tree.fun (anns xs) a)) (suc (max v w)))) (append_assoc ts (sign mark.CloseSquare t ∷ []) _)
      (then (type_step r) (mode.First p k) (mode.Between p xs v k) _ (ts ++ (sign mark.CloseSquare t ∷ [])) _ (types_reach r d k p t (max_left v w (length k) r n)) after))))

  -- the parameters and the bracket behind them
  types_reach : (r : ℕ) {ts : List Spelled} {v : ℕ} {xs : List Ann} → DerivesTypes ts v xs → (k : List TypeFrame) (p t : Place) → suc v + length k ≤ r
      → Goes (type_step r) (mode.First p k) (ts ++ (sign mark.CloseSquare t ∷ [])) (mode.Between p xs v k)
  types_reach r g.no_types k p t n = one_step r _ _ (sign mark.CloseSquare t) refl
  types_reach r (g.some_types ts v xs d) k p t n =
      first_row r p k (sign mark.CloseSquare t ∷ []) d
      (subst (λ z. Goes (type_step r) (mode.Want (frame.Params p [] 0 ∷ k)) (ts ++ (sign mark.CloseSquare t ∷ [])) (mode.Between p xs z k)) (zero-max v)
      (row_reach r d k p t [] 0 (subst (λ z. suc z + length k ≤ r) (sym (zero-max v)) n)))

  row_reach : (r : ℕ) {ts : List Spelled} {v : ℕ} {xs : List Ann} → DerivesTypeRow ts v xs → (k : List TypeFrame) (p t : Place) (ys : List Ann) (u : ℕ) → suc (max u v) + length k ≤ r
      → Goes (type_step r) (mode.Want (frame.Params p ys u ∷ k)) (ts ++ (sign mark.CloseSquare t ∷ [])) (mode.Between p (ys ++ xs) (max u v) k)
  row_reach r (g.one_type ts w a d) k p t ys u n =
      then (type_step r) _ (mode.Have (frame.Params p ys u ∷ k) a w) _ ts _ (type_reach r d (frame.Params p ys u ∷ k) (max_right u w (length k) r n)) (one_step r _ _ (sign mark.CloseSquare t) refl)
  row_reach r (g.more_types o ts us v w a xs d e) k p t ys u n =
      let i = max_assoc u v w in
      let n' : suc (max (max u v) w) + length k ≤ r = subst (λ z. suc z + length k ≤ r) (sym i) n in
      let x = type_reach r d (frame.Params p ys u ∷ k) (max_right u v (length k) r (max_left (max u v) w (length k) r n')) in
      let b = row_reach r e k p t (ys ++ (a ∷ [])) (max u v) n' in
      subst (λ (z : List Spelled). Goes (type_step r) (mode.Want (frame.Params p ys u ∷ k)) z (mode.Between p (ys ++ (a ∷ xs)) (max u (max v w)) k))
      (sym (append_assoc ts (tok what.Comma o ∷ us) (sign mark.CloseSquare t ∷ [])))
      (subst (λ (z : TypeMode). Goes (type_step r) (mode.Want (frame.Params p ys u ∷ k)) (ts ++ (tok what.Comma o ∷ (us ++ (sign mark.CloseSquare t ∷ [])))) z)
      (λ j. mode.Between p (append_assoc ys (a ∷ []) xs j) (i j) k)
      (then (type_step r) _ (mode.Have (frame.Params p ys u ∷ k) a v) _ ts _ x
      (go _ (mode.Want (frame.Params p (ys ++ (a ∷ [])) (max u v) ∷ k)) _ (tok what.Comma o) _ refl b)))
