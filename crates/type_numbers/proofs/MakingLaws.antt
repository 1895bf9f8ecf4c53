-- How a table is made: type after type, and class after class.
use Rattle.std.proofs.Common.{◌≡◌, ◌<◌, ℕ, zero, suc, ◌+◌, Bool, true, false, List, [], ◌∷◌, ◌++◌, length, take, get_or, refl, sym, ◌∙◌}
use Rattle.std.proofs.Common.{ap, subst, arith, cond}
use Rattle.std.specs.Prelude.{Option, Some, slice_get, Contains, map, IsTrue, ◌↔◌}
use Rattle.std.specs.List.{list_any}
use Rattle.std.proofs.lemmas.List.{take_more, map_more}
use Rattle.std.proofs.lemmas.Option.{slice_get-get_or}
use Rattle.mono_list.proofs.Cases.{some_is, none_some}
use Rattle.mono_syntax.specs.Ty.{Ty}
use Rattle.mono_syntax.specs.computed.TyEq.{ty_eq}
use Rattle.mono_syntax.specs.declared.value.TypeNo.{TypeNo}
use Rattle.mono_tree.specs.ClosedList.{AreDistinct, IsOrdered, IsPart, put}
use Rattle.mono_tree.specs.Static.{IsStatic, is_static}
use Rattle.mono_tree.proofs.AsComputed.{is_is_static}
use Rattle.mono_tree.specs.TypeNumbers.{Names}
use Rattle.mono_tree.proofs.ClosedPuts.{none_in, first_in, in_rest, is_there}
use Rattle.mono_tree.proofs.ClosedMembers.{in_get}
use Rattle.type_shapes.proofs.Going.{once_of}
use Rattle.type_shapes.specs.Limits.{IsWithinLimits}
use Rattle.type_shapes.specs.Numbered.{IsNumbered}
use Rattle.type_numbers.specs.Kept.{AreInRange, or_dyn, types_at}

-- ---- types that stand once, put one after another

got_taken : (n : ℕ) (ts : List Ty) (k : ℕ) (t : Ty) → slice_get (take n ts) k ≡ Some t → (k < n) × (slice_get ts k ≡ Some t)
got_taken zero ts k t e = none_some ((k < 0) × (slice_get ts k ≡ Some t)) e
got_taken (suc n) [] k t e = none_some ((k < suc n) × (slice_get [] k ≡ Some t)) e
got_taken (suc n) (u ∷ ts) zero t e = (omega arith, e)
got_taken (suc n) (u ∷ ts) (suc k) t e =
    let (l, f) = got_taken n ts k t e in
    let l' : k < n = l in
    (omega arith, f)

has_taken : (n : ℕ) (ts : List Ty) (k : ℕ) (t : Ty) → k < n → slice_get ts k ≡ Some t → Contains (take n ts) t
has_taken zero ts k t l e = absurd (omega arith)
has_taken (suc n) [] k t l e = none_some (Contains (take (suc n) []) t) e
has_taken (suc n) (u ∷ ts) zero t l e = subst (λ (x : Ty). Contains (u ∷ take n ts) x) (some_is e) (first_in u (take n ts))
has_taken (suc n) (u ∷ ts) (suc k) t l e = in_rest u t (take n ts) (has_taken n ts k t (omega arith) e)

put_new : (s : List Ty) (u : Ty) → (Contains s u → ⊥) → put s u ≡ s ++ u ∷ []
put_new s u h = by (list_any (ty_eq u) s) refl
  where
    by : (b : Bool) → list_any (ty_eq u) s ≡ b → put s u ≡ s ++ u ∷ []
    by true e = absurd (h (is_there s u e))
    by false e = ap (λ (z : Bool). cond z s (s ++ u ∷ [])) e

module _ (ts s : List Ty) (i : ℕ) (x : Ty) (l : i < length ts) (g : x ≡ get_or ts i x) (same : s ≡ take i ts) where
  here : slice_get ts i ≡ Some x
  here = slice_get-get_or ts i x l ∙ ap (λ (z : Ty). Some z) (sym g)

  absent : AreDistinct ts → Contains (take i ts) x → ⊥
  absent d c =
      let (k, e) = in_get (take i ts) x c in
      let (below, f) = got_taken i ts k x e in
      let k_is : k ≡ i = once_of ts d k i x f here in
      absurd (omega arith)

  pub put_turn : AreDistinct ts → put s x ≡ take (i + 1) ts
  put_turn d =
      ap (λ (z : List Ty). put z x) same
      ∙ put_new (take i ts) x (absent d)
      ∙ ap (λ (z : Ty). take i ts ++ z ∷ []) g
      ∙ sym (take_more ts i x l)

  pub parts_put : IsOrdered ts → (p : Ty) → IsPart p x → Contains s p
  parts_put o p h =
      let (j, below, e) = o.before i x p here h in
      subst (λ (z : List Ty). Contains z p) (sym same) (has_taken i ts j p below e)

pub nothing_numbered : IsNumbered [] [] []
nothing_numbered = record {
  names_once = λ i j x g h. absurd cc;
  even = refl;
  distinct = tt;
  part_closed = record { part = λ t p c i. absurd (none_in t c) };
  shaped = λ k t g. absurd cc;
  typed = λ k s g. absurd cc;
}

pub nothing_within : IsWithinLimits []
nothing_within = record { few = omega arith; small = λ t c y. absurd (none_in t c) }

-- ---- the numbers of the classes

types_push : (ts : List Ty) (ns : List TypeNo) (n : TypeNo) → types_at ts (ns ++ n ∷ []) ≡ types_at ts ns ++ or_dyn (slice_get ts n.0) ∷ []
types_push ts [] n = refl
types_push ts (m ∷ ns) n = ap (λ (l : List Ty). or_dyn (slice_get ts m.0) ∷ l) (types_push ts ns n)

pub types_turn : (ts us : List Ty) (ns : List TypeNo) (n : TypeNo) (i : ℕ) (t : Ty) → i < length us → t ≡ get_or us i t → Names ts n t
    → types_at ts ns ≡ take i us → types_at ts (ns ++ n ∷ []) ≡ take (i + 1) us
types_turn ts us ns n i t l g e same =
    types_push ts ns n
    ∙ ap (λ (o : Option Ty). types_at ts ns ++ or_dyn o ∷ []) e
    ∙ ap (λ (l : List Ty). l ++ t ∷ []) same
    ∙ ap (λ (x : Ty). take i us ++ x ∷ []) g
    ∙ sym (take_more us i t l)

pub range_turn : (count : ℕ) (ns : List TypeNo) (n : TypeNo) → AreInRange count ns → n.0 < count → AreInRange count (ns ++ n ∷ [])
range_turn count [] n r l = (l, tt)
range_turn count (m ∷ ns) n r l = (r.0, range_turn count ns n r.1 l)

-- ---- whether each type is static

pub statics_turn : (us : List Ty) (made : List Bool) (i : ℕ) (t : Ty) (b : Bool) → i < length us → t ≡ get_or us i t
    → (IsTrue b ↔ IsStatic t) → made ≡ map is_static (take i us) → made ++ b ∷ [] ≡ map is_static (take (i + 1) us)
statics_turn us made i t b l g h same =
    ap (λ (m : List Bool). m ++ b ∷ []) same
    ∙ ap (λ (x : Bool). map is_static (take i us) ++ x ∷ []) (is_is_static b t h ∙ ap is_static g)
    ∙ sym (map_more is_static us i t l)
