-- What is read as a type is one, and each state that is reached can be completed.
use Rattle.std.proofs.Common.{ℕ, suc, ◌+◌, ◌<◌, ◌≤◌, ◌≡◌, max, Bool, true, false, List, [], ◌∷◌, ◌++◌, length, Some, nat_lt, arith, refl, ap, sym, ◌∙◌, subst, append_assoc}
use Rattle.std.proofs.Math.Nat.{zero-max}
use Rattle.std.proofs.lemmas.List.{append-nil}
use Rattle.std.proofs.lemmas.Bool.{ltb-true}
use Rattle.mono_syntax.specs.declared.leaf.Place.{Place}
use Rattle.mono_syntax.specs.Ann as tree
use Rattle.mono_syntax.specs.Ann.{Ann, ann}
use Rattle.mono_syntax.specs.AnnView.{anns}
use Rattle.spelled_tokens.specs.declared.token.Spelled.{Spelled}
use Rattle.spelled_tokens.specs.declared.token.What.{What}
use Rattle.spelled_tokens.specs.declared.token.What.TheVariants as what
use Rattle.spelled_tokens.specs.declared.token.Mark.{Mark}
use Rattle.spelled_tokens.specs.declared.token.Mark.TheVariants as mark
use Rattle.spelled_tokens.specs.SpelledTokens.{tok, sign}
use Rattle.parse_expr.specs.declared.machine.TypeFrame.{TypeFrame}
use Rattle.parse_expr.specs.declared.machine.TypeFrame.TheVariants as frame
use Rattle.parse_expr.specs.declared.machine.TypeMode.{TypeMode}
use Rattle.parse_expr.specs.declared.machine.TypeMode.TheVariants as mode
use Rattle.parse_expr.specs.declared.machine.Weighed.{Weighed}
use Rattle.parse_expr.specs.Types as g
use Rattle.parse_expr.specs.Types.{DerivesType, DerivesTypes, DerivesTypeRow, word}
use Rattle.parse_expr.specs.computed.TypeReading.{type_if, type_mark, type_begin, type_outer, type_inner, type_first_mark, type_first, type_between, type_comma, type_close, type_behind, type_step, type_whole, type_finish}
use Rattle.parse_expr.specs.computed.Goes.{Goes, stay, go}
use Rattle.parse_expr.proofs.Goes.{some_is, none_some}
use Rattle.parse_expr.proofs.Maxima.{max_light, max_assoc}

-- a place for tokens that complete a list
abbrev pub somewhere : Place
somewhere = record { line = 1; column = 1 }

-- types with a comma behind each
pub data Before : List Spelled → ℕ → List Ann → Type 0 where
  start : Before [] 0 []
  next : (p : Place) (ts us : List Spelled) (v w : ℕ) (xs : List Ann) (a : Ann) → Before ts v xs → DerivesType us w a
      → Before (ts ++ (us ++ (tok what.Comma p ∷ []))) (max v w) (xs ++ (a ∷ []))

row_at : {ts us : List Spelled} {v w : ℕ} {xs ys : List Ann} → ts ≡ us → v ≡ w → xs ≡ ys → DerivesTypeRow ts v xs → DerivesTypeRow us w ys
row_at {ts = ts} {v = v} {w = w} {ys = ys} p q r a = subst (λ z. DerivesTypeRow z w ys) p (subst (λ z. DerivesTypeRow ts z ys) q (subst (λ z. DerivesTypeRow ts v z) r a))

before_row : {ts us : List Spelled} {v w : ℕ} {xs ys : List Ann} → Before ts v xs → DerivesTypeRow us w ys → DerivesTypeRow (ts ++ us) (max v w) (xs ++ ys)
before_row start a = row_at refl (sym (zero-max _)) refl a
before_row {us = us} {w = w} {ys = ys} (next p ts vs v u xs x d y) a =
    row_at (simp append_assoc) (sym (max_assoc v u w)) (simp append_assoc) (before_row d (g.more_types p vs us u w x ys y a))

-- the words before a list of parameters
abbrev pub head : Place → Place → Place → List Spelled → List Spelled
head p q s ts = sign mark.Callable p ∷ sign mark.OpenSquare q ∷ sign mark.OpenSquare s ∷ ts

-- the tokens between the parameters and the result
abbrev pub middle : Place → Place → List Spelled → List Spelled
middle s t ts = sign mark.CloseSquare s ∷ tok what.Comma t ∷ ts

-- the frames stand for these tokens
pub data TypeStands (r : ℕ) : List TypeFrame → List Spelled → Type 0 where
  bottom : TypeStands r [] []
  params : (p q s : Place) (v : ℕ) (xs : List Ann) (k : List TypeFrame) (ts ds : List Spelled) → TypeStands r k ts → Before ds v xs → suc v + length k ≤ r
      → TypeStands r (frame.Params p xs v ∷ k) (ts ++ head p q s ds)
  result : (p q s t u : Place) (v : ℕ) (xs : List Ann) (k : List TypeFrame) (ts ds : List Spelled) → TypeStands r k ts → DerivesTypes ds v xs → suc v + length k ≤ r
      → TypeStands r (frame.Result p xs v ∷ k) (ts ++ head p q s (ds ++ middle t u []))

-- the state stands for these tokens
pub data TypeSound (r : ℕ) : List Spelled → TypeMode → Type 0 where
  wanting : (k : List TypeFrame) (ts : List Spelled) → TypeStands r k ts → suc (length k) ≤ r → TypeSound r ts (mode.Want k)
  outer : (p : Place) (k : List TypeFrame) (ts : List Spelled) → TypeStands r k ts → suc (suc (length k)) ≤ r → TypeSound r (ts ++ (sign mark.Callable p ∷ [])) (mode.Outer p k)
  inner : (p q : Place) (k : List TypeFrame) (ts : List Spelled) → TypeStands r k ts → suc (suc (length k)) ≤ r
      → TypeSound r (ts ++ (sign mark.Callable p ∷ sign mark.OpenSquare q ∷ [])) (mode.Inner p k)
  first : (p q s : Place) (k : List TypeFrame) (ts : List Spelled) → TypeStands r k ts → suc (suc (length k)) ≤ r → TypeSound r (ts ++ head p q s []) (mode.First p k)
  between : (p q s t : Place) (v : ℕ) (xs : List Ann) (k : List TypeFrame) (ts ds : List Spelled) → TypeStands r k ts → DerivesTypes ds v xs → suc v + length k ≤ r → suc (suc (length k)) ≤ r
      → TypeSound r (ts ++ head p q s (ds ++ (sign mark.CloseSquare t ∷ []))) (mode.Between p xs v k)
  having : (k : List TypeFrame) (ts us : List Spelled) (w : ℕ) (a : Ann) → TypeStands r k ts → DerivesType us w a → w + length k ≤ r → TypeSound r (ts ++ us) (mode.Have k a w)

pub type_heavy : {ts : List Spelled} {w : ℕ} {a : Ann} → DerivesType ts w a → 1 ≤ w
type_heavy (g.dyn_type p) = omega arith
type_heavy (g.int_type p) = omega arith
type_heavy (g.bool_type p) = omega arith
type_heavy (g.str_type p) = omega arith
type_heavy (g.nil_type p) = omega arith
type_heavy (g.class_type p x) = omega arith
type_heavy (g.callable p q r s t u ts us v w xs a x y) = omega arith

pub type_sound_at : {r : ℕ} {ts us : List Spelled} {m n : TypeMode} → ts ≡ us → m ≡ n → TypeSound r ts m → TypeSound r us n
type_sound_at {r = r} {us = us} {m = m} p q s = subst (λ x. TypeSound r us x) q (subst (λ xs. TypeSound r xs m) p s)

type_if_is : (b : Bool) (m n : TypeMode) → type_if b m ≡ Some n → (b ≡ true) × (m ≡ n)
type_if_is true m n e = (refl, some_is e)
type_if_is false m n e = none_some _ e

-- ---- steps

leaf_sound : {r : ℕ} (k : List TypeFrame) (ts : List Spelled) (t : Spelled) (a : Ann) (b : Bool) (n : TypeMode) → TypeStands r k ts → suc (length k) ≤ r → DerivesType (t ∷ []) 1 a
    → type_if b (mode.Have k a 1) ≡ Some n → TypeSound r (ts ++ (t ∷ [])) n
leaf_sound k ts t a b n s h d i = type_sound_at refl (type_if_is b _ n i).1 (having k ts (t ∷ []) 1 a s d (omega arith))

mark_sound : {r : ℕ} (k : List TypeFrame) (ts : List Spelled) (p : Place) (m : Mark) (n : TypeMode) → TypeStands r k ts → suc (length k) ≤ r → type_mark r k p m ≡ Some n
    → TypeSound r (ts ++ (sign m p ∷ [])) n
mark_sound k ts p mark.Dyn n s h e = leaf_sound k ts _ _ _ n s h (g.dyn_type p) e
mark_sound k ts p mark.Int n s h e = leaf_sound k ts _ _ _ n s h (g.int_type p) e
mark_sound k ts p mark.Bool n s h e = leaf_sound k ts _ _ _ n s h (g.bool_type p) e
mark_sound k ts p mark.Str n s h e = leaf_sound k ts _ _ _ n s h (g.str_type p) e
mark_sound {r = r} k ts p mark.Callable n s h e =
    let i = type_if_is (nat_lt (suc (length k)) r) _ n e in
    let l : suc (length k) < r = ltb-true _ _ i.0 in
    type_sound_at refl i.1 (outer p k ts s (omega arith))
mark_sound k ts p m n s h e = none_some _ e

begin_sound : {r : ℕ} (k : List TypeFrame) (ts : List Spelled) (p : Place) (w : What) (n : TypeMode) → TypeStands r k ts → suc (length k) ≤ r → type_begin r k p w ≡ Some n
    → TypeSound r (ts ++ (tok w p ∷ [])) n
begin_sound k ts p what.Nil n s h e = leaf_sound k ts _ _ _ n s h (g.nil_type p) e
begin_sound k ts p (what.Name x) n s h e = leaf_sound k ts _ _ _ n s h (g.class_type p x) e
begin_sound k ts p (what.Mark m) n s h e = mark_sound k ts p m n s h e
begin_sound k ts p w n s h e = none_some _ e

outer_sound : {r : ℕ} (k : List TypeFrame) (ts : List Spelled) (p q : Place) (w : What) (n : TypeMode) → TypeStands r k ts → suc (suc (length k)) ≤ r → type_outer p k w ≡ Some n
    → TypeSound r ((ts ++ (sign mark.Callable p ∷ [])) ++ (tok w q ∷ [])) n
outer_sound k ts p q (what.Mark mark.OpenSquare) n s h e = type_sound_at (simp append_assoc) (some_is e) (inner p q k ts s h)
outer_sound k ts p q (what.Mark m) n s h e = none_some _ e
outer_sound k ts p q w n s h e = none_some _ e

inner_sound : {r : ℕ} (k : List TypeFrame) (ts : List Spelled) (p q t : Place) (w : What) (n : TypeMode) → TypeStands r k ts → suc (suc (length k)) ≤ r → type_inner p k w ≡ Some n
    → TypeSound r ((ts ++ (sign mark.Callable p ∷ sign mark.OpenSquare q ∷ [])) ++ (tok w t ∷ [])) n
inner_sound k ts p q t (what.Mark mark.OpenSquare) n s h e = type_sound_at (simp append_assoc) (some_is e) (first p q t k ts s h)
inner_sound k ts p q t (what.Mark m) n s h e = none_some _ e
inner_sound k ts p q t w n s h e = none_some _ e

-- the frame of the first parameter
first_stands : {r : ℕ} {k : List TypeFrame} {ts : List Spelled} (p q s : Place) → TypeStands r k ts → suc (suc (length k)) ≤ r → TypeStands r (frame.Params p [] 0 ∷ k) (ts ++ head p q s [])
first_stands {k = k} {ts = ts} p q s x h = params p q s 0 [] k ts [] x start (omega arith)

first_mark_sound : {r : ℕ} (k : List TypeFrame) (ts : List Spelled) (p q s t : Place) (m : Mark) (n : TypeMode) → TypeStands r k ts → suc (suc (length k)) ≤ r → type_first_mark r p k t m ≡ Some n
    → TypeSound r ((ts ++ head p q s []) ++ (sign m t ∷ [])) n
first_mark_sound k ts p q s t mark.CloseSquare n x h e =
    type_sound_at (simp append_assoc) (some_is e) (between p q s t 0 [] k ts [] x g.no_types (omega arith) h)
first_mark_sound k ts p q s t m n x h e = mark_sound (frame.Params p [] 0 ∷ k) (ts ++ head p q s []) t m n (first_stands p q s x h) h e

first_sound : {r : ℕ} (k : List TypeFrame) (ts : List Spelled) (p q s t : Place) (w : What) (n : TypeMode) → TypeStands r k ts → suc (suc (length k)) ≤ r → type_first r p k t w ≡ Some n
    → TypeSound r ((ts ++ head p q s []) ++ (tok w t ∷ [])) n
first_sound k ts p q s t (what.Mark m) n x h e = first_mark_sound k ts p q s t m n x h e
first_sound k ts p q s t w n x h e = begin_sound (frame.Params p [] 0 ∷ k) (ts ++ head p q s []) t w n (first_stands p q s x h) h e

between_sound : {r : ℕ} (k : List TypeFrame) (ts ds : List Spelled) (p q s t u : Place) (v : ℕ) (xs : List Ann) (w : What) (n : TypeMode) → TypeStands r k ts → DerivesTypes ds v xs
    → suc v + length k ≤ r → suc (suc (length k)) ≤ r → type_between p xs v k w ≡ Some n → TypeSound r ((ts ++ head p q s (ds ++ (sign mark.CloseSquare t ∷ []))) ++ (tok w u ∷ [])) n
between_sound k ts ds p q s t u v xs what.Comma n x d l h e =
    type_sound_at (simp append_assoc) (some_is e) (wanting (frame.Result p xs v ∷ k) _ (result p q s t u v xs k ts ds x d l) h)
between_sound k ts ds p q s t u v xs w n x d l h e = none_some _ e

comma_sound : {r : ℕ} {k : List TypeFrame} {ts : List Spelled} (us : List Spelled) (w : ℕ) (a : Ann) (t : Place) (n : TypeMode) → TypeStands r k ts → DerivesType us w a → w + length k ≤ r
    → type_comma k a w ≡ Some n → TypeSound r ((ts ++ us) ++ (tok what.Comma t ∷ [])) n
comma_sound us w a t n bottom d m e = none_some _ e
comma_sound {r = r} us w a t n (params p q s v xs k ts ds x y l) d m e =
    let h = type_heavy d in
    type_sound_at (simp append_assoc) (some_is e)
    (wanting (frame.Params p (xs ++ (a ∷ [])) (max v w) ∷ k) _
    (params p q s (max v w) (xs ++ (a ∷ [])) k ts (ds ++ (us ++ (tok what.Comma t ∷ []))) x (next t ds us v w xs a y d) (max_light v w (length k) r l m)) (omega arith))
comma_sound us w a t n (result p q s o u v xs k ts ds x y l) d m e = none_some _ e

close_sound : {r : ℕ} {k : List TypeFrame} {ts : List Spelled} (us : List Spelled) (w : ℕ) (a : Ann) (t : Place) (n : TypeMode) → TypeStands r k ts → DerivesType us w a → w + length k ≤ r
    → type_close k a w ≡ Some n → TypeSound r ((ts ++ us) ++ (sign mark.CloseSquare t ∷ [])) n
close_sound us w a t n bottom d m e = none_some _ e
close_sound {r = r} us w a t n (params p q s v xs k ts ds x y l) d m e =
    let h = type_heavy d in
    type_sound_at (simp append_assoc) (some_is e)
    (between p q s t (max v w) (xs ++ (a ∷ [])) k ts (ds ++ us) x (g.some_types _ _ _ (before_row y (g.one_type us w a d))) (max_light v w (length k) r l m) (omega arith))
close_sound {r = r} us w a t n (result p q s o u v xs k ts ds x y l) d m e =
    type_sound_at (simp append_assoc) (some_is e)
    (having k ts (head p q s (ds ++ middle o u (us ++ (sign mark.CloseSquare t ∷ [])))) (suc (max v w)) (ann p (tree.fun (anns xs) a)) x (g.callable p q s o u t ds us v w xs a y d)
    (max_light v w (length k) r l m))

behind_sound : {r : ℕ} (k : List TypeFrame) (ts us : List Spelled) (w : ℕ) (a : Ann) (t : Place) (b : What) (n : TypeMode) → TypeStands r k ts → DerivesType us w a → w + length k ≤ r
    → type_behind k a w b ≡ Some n → TypeSound r ((ts ++ us) ++ (tok b t ∷ [])) n
behind_sound k ts us w a t what.Comma n s d m e = comma_sound us w a t n s d m e
behind_sound k ts us w a t (what.Mark mark.CloseSquare) n s d m e = close_sound us w a t n s d m e
behind_sound k ts us w a t (what.Mark x) n s d m e = none_some _ e
behind_sound k ts us w a t b n s d m e = none_some _ e

pub type_step_sound : {r : ℕ} {ts : List Spelled} {m : TypeMode} → TypeSound r ts m → (t : Spelled) (n : TypeMode) → type_step r m t ≡ Some n → TypeSound r (ts ++ (t ∷ [])) n
type_step_sound (wanting k ts s h) t n e = begin_sound k ts t.place t.what n s h e
type_step_sound (outer p k ts s h) t n e = outer_sound k ts p t.place t.what n s h e
type_step_sound (inner p q k ts s h) t n e = inner_sound k ts p q t.place t.what n s h e
type_step_sound (first p q s k ts x h) t n e = first_sound k ts p q s t.place t.what n x h e
type_step_sound (between p q s u v xs k ts ds x d l h) t n e = between_sound k ts ds p q s u t.place v xs t.what n x d l h e
type_step_sound (having k ts us w a s d m) t n e = behind_sound k ts us w a t.place t.what n s d m e

pub type_start_sound : (r : ℕ) → 1 ≤ r → TypeSound r [] (mode.Want [])
type_start_sound r h = wanting [] [] bottom h

pub type_goes_sound : {r : ℕ} {done ts : List Spelled} {m n : TypeMode} → TypeSound r done m → Goes (type_step r) m ts n → TypeSound r (done ++ ts) n
type_goes_sound {r = r} {done = done} {m = m} x (stay s) = subst (λ xs. TypeSound r xs m) (sym (append-nil done)) x
type_goes_sound {r = r} {done = done} {n = n} x (go s l m t ts e a) =
    subst (λ xs. TypeSound r xs n) (append_assoc done (t ∷ []) ts) (type_goes_sound (type_step_sound x t l e) a)

-- ---- what was read

type_whole_sound : {r : ℕ} {k : List TypeFrame} {ts : List Spelled} (us : List Spelled) (w : ℕ) (a : Ann) (o : Weighed) → TypeStands r k ts → DerivesType us w a → w + length k ≤ r
    → type_whole k a w ≡ Some o → DerivesType (ts ++ us) o.weight o.ann × (o.weight ≤ r)
type_whole_sound {r = r} us w a o bottom d m e = subst (λ (x : Weighed). DerivesType us x.weight x.ann × (x.weight ≤ r)) (some_is e) (d, omega arith)
type_whole_sound us w a o (params p q s v xs k ts ds x y l) d m e = none_some _ e
type_whole_sound us w a o (result p q s t u v xs k ts ds x y l) d m e = none_some _ e

-- what is found is a type
pub type_finish_sound : {r : ℕ} {ts : List Spelled} {m : TypeMode} → TypeSound r ts m → (o : Weighed) → type_finish m ≡ Some o → DerivesType ts o.weight o.ann × (o.weight ≤ r)
type_finish_sound (wanting k ts s h) o e = none_some _ e
type_finish_sound (outer p k ts s h) o e = none_some _ e
type_finish_sound (inner p q k ts s h) o e = none_some _ e
type_finish_sound (first p q s k ts x h) o e = none_some _ e
type_finish_sound (between p q s u v xs k ts ds x d l h) o e = none_some _ e
type_finish_sound (having k ts us w a s d m) o e = type_whole_sound us w a o s d m e

-- ---- completions

-- tokens that begin a type, with one that they begin
pub record Completed (r : ℕ) (ts : List Spelled) : Type 0 where
  pub more : List Spelled
  pub weight : ℕ
  pub ann : Ann
  pub derives : DerivesType (ts ++ more) weight ann
  pub light : weight ≤ r

completed_at : {r : ℕ} {ts us : List Spelled} (vs : List Spelled) → ts ≡ us ++ vs → Completed r ts → Completed r us
completed_at {us = us} vs e c =
    record {
      more = vs ++ c.more;
      weight = c.weight;
      ann = c.ann;
      derives = subst (λ xs. DerivesType xs c.weight c.ann) (ap (λ xs. xs ++ c.more) e ∙ append_assoc us vs c.more) c.derives;
      light = c.light;
    }

-- a type in its place begins a type
type_plug : {r : ℕ} {k : List TypeFrame} {ts : List Spelled} (us : List Spelled) (w : ℕ) (a : Ann) → TypeStands r k ts → DerivesType us w a → w + length k ≤ r → Completed r (ts ++ us)
type_plug us w a bottom d m = record { more = []; weight = w; ann = a; derives = subst (λ xs. DerivesType xs w a) (sym (append-nil us)) d; light = omega arith }
type_plug {r = r} us w a (params p q s v xs k ts ds x y l) d m =
    let z = somewhere in
    let h = type_heavy d in
    let all = g.callable p q s z z z (ds ++ us) (sign mark.Dyn z ∷ []) (max v w) 1 (xs ++ (a ∷ [])) (ann z tree.dyn) (g.some_types _ _ _ (before_row y (g.one_type us w a d))) (g.dyn_type z) in
    let o : suc (max v w) + length k ≤ r = max_light v w (length k) r l m in
    completed_at (middle z z (sign mark.Dyn z ∷ sign mark.CloseSquare z ∷ [])) (simp append_assoc)
    (type_plug (head p q s ((ds ++ us) ++ middle z z (sign mark.Dyn z ∷ sign mark.CloseSquare z ∷ []))) _ _ x all (max_light (max v w) 1 (length k) r o (omega arith)))
type_plug {r = r} us w a (result p q s t u v xs k ts ds x y l) d m =
    let z = somewhere in
    completed_at (sign mark.CloseSquare z ∷ []) (simp append_assoc)
    (type_plug (head p q s (ds ++ middle t u (us ++ (sign mark.CloseSquare z ∷ [])))) _ _ x (g.callable p q s t u z ds us v w xs a y d) (max_light v w (length k) r l m))

-- a function type whose parameters were read
with_result : {r : ℕ} {k : List TypeFrame} {ts : List Spelled} (p q s t : Place) (v : ℕ) (xs : List Ann) (ds : List Spelled) → TypeStands r k ts → DerivesTypes ds v xs → suc v + length k ≤ r
    → suc (suc (length k)) ≤ r → Completed r (ts ++ head p q s (ds ++ (sign mark.CloseSquare t ∷ [])))
with_result {r = r} {k = k} p q s t v xs ds x d l h =
    let z = somewhere in
    let all = g.callable p q s t z z ds (sign mark.Dyn z ∷ []) v 1 xs (ann z tree.dyn) d (g.dyn_type z) in
    completed_at (tok what.Comma z ∷ sign mark.Dyn z ∷ sign mark.CloseSquare z ∷ []) (simp append_assoc)
    (type_plug (head p q s (ds ++ middle t z (sign mark.Dyn z ∷ sign mark.CloseSquare z ∷ []))) _ _ x all (max_light v 1 (length k) r l (omega arith)))

-- each state has a completion
pub type_viable : {r : ℕ} {ts : List Spelled} {m : TypeMode} → TypeSound r ts m → Completed r ts
type_viable (wanting k ts s h) = completed_at (sign mark.Dyn somewhere ∷ []) refl (type_plug (sign mark.Dyn somewhere ∷ []) 1 _ s (g.dyn_type somewhere) (omega arith))
type_viable (outer p k ts s h) =
    let z = somewhere in
    completed_at (sign mark.OpenSquare z ∷ sign mark.OpenSquare z ∷ sign mark.CloseSquare z ∷ []) (simp append_assoc) (with_result p z z z 0 [] [] s g.no_types (omega arith) h)
type_viable (inner p q k ts s h) =
    let z = somewhere in
    completed_at (sign mark.OpenSquare z ∷ sign mark.CloseSquare z ∷ []) (simp append_assoc) (with_result p q z z 0 [] [] s g.no_types (omega arith) h)
type_viable (first p q s k ts x h) = completed_at (sign mark.CloseSquare somewhere ∷ []) (simp append_assoc) (with_result p q s somewhere 0 [] [] x g.no_types (omega arith) h)
type_viable (between p q s t v xs k ts ds x d l h) = with_result p q s t v xs ds x d l h
type_viable (having k ts us w a s d m) = type_plug us w a s d m
