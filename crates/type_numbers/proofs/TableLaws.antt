-- What shapes, rows and numbers say of the types.
use Rattle.std.proofs.Common.{◌≡◌, ◌≤◌, ◌<◌, ◌↔◌, ℕ, zero, suc, Bool, false, true≢false, List, [], ◌∷◌, ◌++◌, length, get_or, nat_eq}
use Rattle.std.proofs.Common.{refl, sym, ◌∙◌, ap, subst, arith, inl, inr}
use Rattle.std.specs.Prelude.{Option, Some, None, slice_get, map, ◌==◌, IsTrue}
use Rattle.std.proofs.lemmas.Bool.{cases_lt}
use Rattle.std.proofs.lemmas.Option.{slice_get_cases, slice_get_within, get_or_from_slice_get}
use borrow.Author.Tests.{eqb-true, eq-eqb}
use Rattle.mono_list.proofs.Cases.{some_is, none_some}
use Rattle.mono_syntax.specs.Ty.{Ty, dyn, int, bool, str, nil, fun, obj, Fields, no_fields, more_fields}
use Rattle.mono_syntax.specs.TyView.{tys_list}
use Rattle.mono_syntax.specs.declared.value.TypeNo.{TypeNo}
use Rattle.mono_tree.specs.FieldNames.{names_of}
use Rattle.mono_tree.specs.Meet.{AreApart, meet_of}
use Rattle.mono_tree.specs.Precise.{Precise}
use Rattle.mono_tree.specs.Sizes.{nodes_of, nodes_of_fields}
use Rattle.mono_tree.specs.TypeNumbers.{IsMeetNumber}
use Rattle.mono_tree.proofs.PreciseTest.{is_static-read, is_static-holds}
use Rattle.mono_tree.proofs.MeetMade.{meet_is, none_apart}
use Rattle.mono_tree.proofs.Order.{reflexive, antisymmetric}
use Rattle.mono_tree.proofs.ClosedMembers.{get_in}
use Rattle.mono_tree.specs.Static.{IsStatic, is_static}
use Rattle.type_shapes.specs.declared.shape.Head.{Head}
use Rattle.type_shapes.specs.declared.shape.Head.TheVariants.{Obj}
use Rattle.type_shapes.specs.declared.shape.Shape.{Shape}
use Rattle.type_shapes.specs.computed.ByNumber.{met_no}
use Rattle.type_shapes.specs.Shows.{types_of, kids, AreNamed, HasHead, Shows, IsNamed, IsOnce}
use Rattle.type_shapes.specs.Numbered.{HasShape}
use Rattle.type_shapes.proofs.Going.{once_of}
use Rattle.type_shapes.proofs.ShapeLaws.{number_met}
use Rattle.type_shapes.proofs.ShapeTurns.{named_push}
use Rattle.type_numbers.specs.Tables.{parts_of, field_names, IsNumberOf, HaveSameNames}
use Rattle.type_numbers.specs.Kept.{IsTable, AreInRange, or_dyn, types_at}
use Rattle.type_numbers.specs.computed.ShapeParts.{result_last, parts_by, or_none, names_by, same_group, type_number}

-- ---- the place of a part

numbered_at : (ts : List Ty) (ns : List ℕ) (us : List Ty) (i : ℕ) → AreNamed ts ns us
    → IsNumberOf ts (type_number (slice_get ns i)) (slice_get us i)
numbered_at ts [] [] i p = tt
numbered_at ts [] (u ∷ us) i p = absurd p
numbered_at ts (n ∷ ns) [] i p = absurd p
numbered_at ts (n ∷ ns) (u ∷ us) zero p = p.0
numbered_at ts (n ∷ ns) (u ∷ us) (suc i) p = numbered_at ts ns us i p.1

named_last : (ts : List Ty) (ns : List ℕ) (r : Ty) (ps : List Ty) → AreNamed ts ns (r ∷ ps) → AreNamed ts (result_last ns) (ps ++ r ∷ [])
named_last ts [] r ps p = absurd p
named_last ts (n ∷ ns) r ps p = named_push ts ns ps n r p.1 p.0

named_parts : (names : List (List (List ℕ))) (ts : List Ty) (h : Head) (ns : List ℕ) (t : Ty) → HasHead names h t
    → AreNamed ts ns (kids t) → AreNamed ts (parts_by h ns) (parts_of t)
named_parts names ts h ns dyn e p = subst (λ (k : Head). AreNamed ts (parts_by k ns) []) (sym e) p
named_parts names ts h ns int e p = subst (λ (k : Head). AreNamed ts (parts_by k ns) []) (sym e) p
named_parts names ts h ns bool e p = subst (λ (k : Head). AreNamed ts (parts_by k ns) []) (sym e) p
named_parts names ts h ns str e p = subst (λ (k : Head). AreNamed ts (parts_by k ns) []) (sym e) p
named_parts names ts h ns nil e p = subst (λ (k : Head). AreNamed ts (parts_by k ns) []) (sym e) p
named_parts names ts h ns (fun ps r) e p = subst (λ (k : Head). AreNamed ts (parts_by k ns) (tys_list ps ++ r ∷ [])) (sym e)
    (named_last ts ns r (tys_list ps) p)
named_parts names ts h ns (obj fs) e p = subst (λ (k : Head). AreNamed ts (parts_by k ns) (types_of fs)) (sym e.1) p

pub part_named : (names : List (List (List ℕ))) (ts : List Ty) (s : Shape) (t : Ty) (i : ℕ) → Shows names ts s t
    → IsNumberOf ts (type_number (slice_get (parts_by s.head s.parts) i)) (slice_get (parts_of t) i)
part_named names ts s t i p = numbered_at ts (parts_by s.head s.parts) (parts_of t) i (named_parts names ts s.head s.parts t p.head p.parts)

-- ---- the names of fields

pub names_shown : (names : List (List (List ℕ))) (h : Head) (t : Ty) → HasHead names h t → names_by names h ≡ field_names t
names_shown names h dyn e = ap (names_by names) e
names_shown names h int e = ap (names_by names) e
names_shown names h bool e = ap (names_by names) e
names_shown names h str e = ap (names_by names) e
names_shown names h nil e = ap (names_by names) e
names_shown names h (fun ps r) e = ap (names_by names) e
names_shown names h (obj fs) e = ap (names_by names) e.1 ∙ ap or_none e.2

one_node : (t : Ty) → 0 < nodes_of t
one_node dyn = omega arith
one_node int = omega arith
one_node bool = omega arith
one_node str = omega arith
one_node nil = omega arith
one_node (fun ps r) = omega arith
one_node (obj fs) = omega arith

names_nodes : (fs : Fields) → length (names_of fs) ≤ nodes_of_fields fs
names_nodes no_fields = omega arith
names_nodes (more_fields n t fs) =
    let h : length (names_of fs) ≤ nodes_of_fields fs = names_nodes fs in
    let k : 0 < nodes_of t = one_node t in
    omega arith

pub few_names : (t : Ty) → length (field_names t) ≤ nodes_of t
few_names dyn = omega arith
few_names int = omega arith
few_names bool = omega arith
few_names str = omega arith
few_names nil = omega arith
few_names (fun ps r) = omega arith
few_names (obj fs) = let h : length (names_of fs) ≤ nodes_of_fields fs = names_nodes fs in omega arith

-- ---- two types with the same names

unlike : {A : Type 0} (b : Bool) → b ≡ false → (A → ⊥) → IsTrue b ↔ A
unlike b f g = (λ y. absurd (true≢false (sym y ∙ f)), λ s. absurd (g s))

pub same_heads : (names : List (List (List ℕ))) → IsOnce names → (h k : Head) (t u : Ty) → HasHead names h t → HasHead names k u
    → IsTrue (same_group h k) ↔ HaveSameNames t u
same_heads names once h k dyn u p q = unlike (same_group h k) (ap (λ (z : Head). same_group z k) p) (λ s. s)
same_heads names once h k int u p q = unlike (same_group h k) (ap (λ (z : Head). same_group z k) p) (λ s. s)
same_heads names once h k bool u p q = unlike (same_group h k) (ap (λ (z : Head). same_group z k) p) (λ s. s)
same_heads names once h k str u p q = unlike (same_group h k) (ap (λ (z : Head). same_group z k) p) (λ s. s)
same_heads names once h k nil u p q = unlike (same_group h k) (ap (λ (z : Head). same_group z k) p) (λ s. s)
same_heads names once h k (fun ps r) u p q = unlike (same_group h k) (ap (λ (z : Head). same_group z k) p) (λ s. s)
same_heads names once h k (obj fs) dyn p q = unlike (same_group h k)
    (ap (λ (z : Head). same_group z k) p.1 ∙ ap (same_group (Obj p.0)) q) (λ s. s)
same_heads names once h k (obj fs) int p q = unlike (same_group h k)
    (ap (λ (z : Head). same_group z k) p.1 ∙ ap (same_group (Obj p.0)) q) (λ s. s)
same_heads names once h k (obj fs) bool p q = unlike (same_group h k)
    (ap (λ (z : Head). same_group z k) p.1 ∙ ap (same_group (Obj p.0)) q) (λ s. s)
same_heads names once h k (obj fs) str p q = unlike (same_group h k)
    (ap (λ (z : Head). same_group z k) p.1 ∙ ap (same_group (Obj p.0)) q) (λ s. s)
same_heads names once h k (obj fs) nil p q = unlike (same_group h k)
    (ap (λ (z : Head). same_group z k) p.1 ∙ ap (same_group (Obj p.0)) q) (λ s. s)
same_heads names once h k (obj fs) (fun ps r) p q = unlike (same_group h k)
    (ap (λ (z : Head). same_group z k) p.1 ∙ ap (same_group (Obj p.0)) q) (λ s. s)
same_heads names once h k (obj fs) (obj gs) p q =
    let e : same_group h k ≡ (p.0 == q.0) = ap (λ (z : Head). same_group z k) p.1 ∙ ap (same_group (Obj p.0)) q.1 in (
      λ y. some_is (sym p.2 ∙ ap (slice_get names) (eqb-true p.0 q.0 (sym e ∙ y)) ∙ q.2),
      λ s. e ∙ eq-eqb p.0 q.0 (once p.0 q.0 (names_of fs) p.2 (q.2 ∙ ap (λ (n : List (List ℕ)). Some n) (sym s))),
    )

-- ---- the types of classes

pub class_length : (ts : List Ty) (ns : List TypeNo) → length (types_at ts ns) ≡ length ns
class_length ts [] = refl
class_length ts (n ∷ ns) = ap suc (class_length ts ns)

pub class_range : (count : ℕ) (ns : List TypeNo) (c : ℕ) (d : TypeNo) → AreInRange count ns → c < length ns → (get_or ns c d).0 < count
class_range count [] c d r l = absurd (omega arith)
class_range count (n ∷ ns) zero d r l = r.0
class_range count (n ∷ ns) (suc c) d r l = class_range count ns c d r.1 (omega arith)

-- the type at a number in range
pub there : (ts : List Ty) (n : ℕ) → n < length ts → (t : Ty) × (slice_get ts n ≡ Some t)
there ts n l = elim (slice_get_cases ts n).1 [
  | inl h ↦ (h.0, h.2)
  | inr h ↦ absurd (let k : length ts ≤ n = h.0 in omega arith)
]

named_there : (ts : List Ty) (n : ℕ) (x : Ty) → n < length ts → or_dyn (slice_get ts n) ≡ x → slice_get ts n ≡ Some x
named_there ts n x l e =
    let (t, g) = there ts n l in
    g ∙ ap (λ (z : Ty). Some z) (sym (ap or_dyn g) ∙ e)

pub class_named : (ts : List Ty) (ns : List TypeNo) (c : ℕ) (d : TypeNo) (x : Ty) → AreInRange (length ts) ns
    → slice_get (types_at ts ns) c ≡ Some x → slice_get ts (get_or ns c d).0 ≡ Some x
class_named ts [] c d x r e = none_some (slice_get ts (get_or [] c d).0 ≡ Some x) e
class_named ts (n ∷ ns) zero d x r e = named_there ts n.0 x r.0 (some_is e)
class_named ts (n ∷ ns) (suc c) d x r e = class_named ts ns c d x r.1 e

-- ---- static types

static_at : (ts : List Ty) (a : ℕ) (x : Ty) → slice_get ts a ≡ Some x → get_or (map is_static ts) a false ≡ is_static x
static_at [] a x e = none_some (get_or (map is_static []) a false ≡ is_static x) e
static_at (t ∷ ts) zero x e = ap is_static (some_is e)
static_at (t ∷ ts) (suc a) x e = static_at ts a x e

-- ---- meets and precision

module _ (ts : List Ty) (x y : Ty) where
  as_meet : (o : Option ℕ) (m : Option Ty) → meet_of x y ≡ m → IsNamed ts o m → IsMeetNumber ts (type_number o) x y
  as_meet None None e n = none_apart x y e
  as_meet None (Some m) e n = absurd n
  as_meet (Some k) None e n = absurd n
  as_meet (Some k) (Some m) e n = (m, n, meet_is x y m e)

  pub precise_by : IsOnce ts → (m : TypeNo) (a : ℕ) → slice_get ts a ≡ Some x → IsMeetNumber ts (Some m) x y
      → IsTrue (nat_eq m.0 a) ↔ Precise x y
  precise_by once m a e (t, n, h) = (
    λ q. let same : t ≡ x = some_is (sym n ∙ ap (slice_get ts) (eqb-true m.0 a q) ∙ e) in
        subst (λ (z : Ty). Precise z y) same h.right,
    λ p. let same : t ≡ x = antisymmetric h.left (h.greatest x (reflexive x) p) in
        eq-eqb m.0 a (once m.0 a x (n ∙ ap (λ (z : Ty). Some z) same) e),
  )

  pub precise_apart : AreApart x y → IsTrue false ↔ Precise x y
  precise_apart h = (λ q. absurd (true≢false (sym q)), λ p. absurd (h x (reflexive x) p))

-- ---- what a table keeps

module _ (names : List (List (List ℕ))) (ts : List Ty) (ss : List Shape) (rows : List (List (Option ℕ))) (flags : List Bool)
    (numbers : List TypeNo) (is : IsTable names ts ss rows flags numbers) where
  pub shape_shows : (a : ℕ) (x : Ty) (r : Shape) → slice_get ts a ≡ Some x → r ≡ get_or ss a r → Shows names ts r x
  shape_shows a x r e g =
      let has : HasShape names ts ss a x = is.numbered.shaped a x e in
      let same : has.shape ≡ r = sym (get_or_from_slice_get ss a has.shape r has.at) ∙ sym g in
      subst (λ (s : Shape). Shows names ts s x) same has.shows

  pub static_told : (a : ℕ) (x : Ty) → slice_get ts a ≡ Some x → IsTrue (get_or flags a false) ↔ IsStatic x
  static_told a x e =
      let same : get_or flags a false ≡ is_static x = ap (λ (l : List Bool). get_or l a false) is.statics ∙ static_at ts a x e in
      (λ q. is_static-read x (sym same ∙ q), λ h. same ∙ is_static-holds x h)

  pub short_names : (a : ℕ) (r : Shape) (ns : List (List ℕ)) → a < length ts → r ≡ get_or ss a r → ns ≡ names_by names r.head
      → length ns < 4294967296
  short_names a r ns l g e =
      let (x, f) = there ts a l in
      let same : ns ≡ field_names x = e ∙ names_shown names r.head x (shape_shows a x r f g).head in
      let few : length (field_names x) ≤ nodes_of x = few_names x in
      let small : nodes_of x ≤ 1024 = elim (cases_lt 1024 (nodes_of x)) [
        | inl over ↦ absurd (is.within.small x (get_in ts a x f) (inl over))
        | inr under ↦ under
      ] in
      subst (λ (l : List (List ℕ)). length l < 4294967296) (sym same) (omega arith)

  pub meet_told : (a b : ℕ) (x y : Ty) → slice_get ts a ≡ Some x → slice_get ts b ≡ Some y
      → IsMeetNumber ts (type_number (met_no rows a b)) x y
  meet_told a b x y e f =
      as_meet ts x y (met_no rows a b) (meet_of x y) refl
      (number_met ts rows (length ts) is.meets a b x y (slice_get_within ts a x e) (slice_get_within ts b y f) e f)

  pub types_once : IsOnce ts
  types_once = once_of ts is.numbered.distinct
