-- Numbers of types, found one by one.
use Rattle.std.proofs.Common.{true, ◌≡◌, ℕ, zero, suc, ◌+◌, ◌<◌, List, [], ◌∷◌, ◌++◌, length, refl, sym, ◌∙◌, ap, subst, arith, append_assoc, get_or, take, inl, inr}
use Rattle.std.specs.Prelude.{Some, slice_get, position, ◌⊎◌}
use Rattle.std.proofs.lemmas.Option.{slice_get-get_or}
use Rattle.std.proofs.lemmas.List.Quantifiers.{position-Some}
use Rattle.mono_syntax.specs.declared.tree.Field as rust_field
use Rattle.mono_syntax.specs.Ty.{Ty, fun}
use Rattle.std.specs.Prelude.{Contains}
use Rattle.std.specs.List.{list_any}
use Rattle.std.proofs.lemmas.Map.Views.{list_any-from_Contains}
use Rattle.mono_tree.specs.ClosedList.{IsPart, IsAmong, IsOfField}
use Rattle.mono_tree.proofs.ClosedPuts.{none_in, at_head}
use Rattle.mono_syntax.specs.computed.TyEq.{ty_eq}
use Rattle.mono_syntax.specs.TyEqLaws.{ty_eq-is, ty_eq-laws}
use Rattle.mono_syntax.specs.TyView.{fields, tys, tys_list}
use Rattle.mono_tree.specs.FieldNames.{names_of}
use Rattle.std.proofs.lemmas.Bool.{cases_lt}
use Rattle.mono_list.proofs.Cases.{some_is}
use Rattle.type_shapes.specs.Numbered.{IsKept}
use Rattle.type_shapes.specs.Shows.{types_of, AreNamed, IsOnce}

pub place_of : (ts : List Ty) (t : Ty) (k : ℕ) → position (ty_eq t) ts ≡ Some k → slice_get ts k ≡ Some t
place_of ts t k e =
    let p = position-Some (ty_eq t) ts k t e in
    slice_get-get_or ts k t p.0 ∙ ap (λ (x : Ty). Some x) (sym (ty_eq-is t (get_or ts k t) p.1))

pub place_there : (ts : List Ty) (t : Ty) → Contains ts t → list_any (ty_eq t) ts ≡ true
place_there ts t c = list_any-from_Contains ty_eq-laws t ts c

-- the type of a field is a part
pub field_at : (xs : List rust_field.Field) (i : ℕ) (x : rust_field.Field) → i < length xs → x ≡ get_or xs i x → IsOfField x.ty (fields xs)
field_at [] i x l e = absurd (omega arith)
field_at (y ∷ xs) zero x l e = inl (ap (λ (z : rust_field.Field). z.ty) e)
field_at (y ∷ xs) (suc i) x l e = inr (field_at xs i x (omega arith) e)

-- what holds of the parts of a function holds of its result and its parameters
pub fun_parts : (P : Ty → Type 0) (r : Ty) (ps : List Ty) → ((p : Ty) → IsPart p (fun (tys ps) r) → P p) → (t : Ty) → Contains (r ∷ ps) t → P t
fun_parts P r ps h t c = elim (at_head r t ps c) [ inl e ↦ h t (inr e) | inr i ↦ h t (inl (among ps i)) ]
  where
    among : (ps : List Ty) → Contains ps t → IsAmong t (tys ps)
    among [] i = absurd (none_in t i)
    among (u ∷ ps) i = elim (at_head u t ps i) [ inl e ↦ inl e | inr j ↦ inr (among ps j) ]

pub named_push : (ts : List Ty) (ns : List ℕ) (us : List Ty) (n : ℕ) (u : Ty) → AreNamed ts ns us → slice_get ts n ≡ Some u → AreNamed ts (ns ++ n ∷ []) (us ++ u ∷ [])
named_push ts [] [] n u p e = (e, tt)
named_push ts [] (v ∷ us) n u p e = absurd p
named_push ts (k ∷ ns) [] n u p e = absurd p
named_push ts (k ∷ ns) (v ∷ us) n u p e = (p.0, named_push ts ns us n u p.1 e)

take_next : (xs : List Ty) (i : ℕ) (x : Ty) → i < length xs → x ≡ get_or xs i x → take (i + 1) xs ≡ take i xs ++ x ∷ []
take_next [] i x l e = absurd (omega arith)
take_next (y ∷ xs) zero x l e = ap (λ (z : Ty). z ∷ []) (sym e)
take_next (y ∷ xs) (suc i) x l e = let k : suc i + 1 ≡ suc (i + 1) = omega arith in ap (λ (n : ℕ). take n (y ∷ xs)) k ∙ ap (λ (l : List Ty). y ∷ l) (take_next xs i x (omega arith) e)

pub named_next : (ts : List Ty) (ns : List ℕ) (us xs : List Ty) (i n : ℕ) (x : Ty) → i < length xs → x ≡ get_or xs i x → slice_get ts n ≡ Some x → AreNamed ts ns (us ++ take i xs) → AreNamed ts (ns ++ n ∷ []) (us ++ take (i + 1) xs)
named_next ts ns us xs i n x l e f p =
    subst (λ (z : List Ty). AreNamed ts (ns ++ n ∷ []) z) (append_assoc us (take i xs) (x ∷ []) ∙ ap (λ (z : List Ty). us ++ z) (sym (take_next xs i x l e)))
    (named_push ts ns (us ++ take i xs) n x p f)

abbrev pub field_types : List rust_field.Field → List Ty
field_types fs = types_of (fields fs)

take_field : (xs : List rust_field.Field) (i : ℕ) (x : rust_field.Field) → i < length xs → x ≡ get_or xs i x → field_types (take (i + 1) xs) ≡ field_types (take i xs) ++ x.ty ∷ []
take_field [] i x l e = absurd (omega arith)
take_field (y ∷ xs) zero x l e = ap (λ (z : rust_field.Field). z.ty ∷ []) (sym e)
take_field (y ∷ xs) (suc i) x l e = let k : suc i + 1 ≡ suc (i + 1) = omega arith in ap (λ (n : ℕ). field_types (take n (y ∷ xs))) k ∙ ap (λ (l : List Ty). y.ty ∷ l) (take_field xs i x (omega arith) e)

pub field_next : (ts : List Ty) (ns : List ℕ) (xs : List rust_field.Field) (i n : ℕ) (x : rust_field.Field) → i < length xs → x ≡ get_or xs i x → slice_get ts n ≡ Some x.ty → AreNamed ts ns (field_types (take i xs)) → AreNamed ts (ns ++ n ∷ []) (field_types (take (i + 1) xs))
field_next ts ns xs i n x l e f p = subst (λ (z : List Ty). AreNamed ts (ns ++ n ∷ []) z) (sym (take_field xs i x l e)) (named_push ts ns (field_types (take i xs)) n x.ty p f)

pub take_whole : {X : Type 0} (xs : List X) (i : ℕ) → length xs ≡ i → take i xs ≡ xs
take_whole [] zero e = refl
take_whole [] (suc i) e = absurd (omega arith)
take_whole (x ∷ xs) zero e = absurd (omega arith)
take_whole (x ∷ xs) (suc i) e = ap (λ l. x ∷ l) (take_whole xs i (omega arith))

pub names_length : (fs : List rust_field.Field) → length (names_of (fields fs)) ≡ length fs
names_length [] = refl
names_length (f ∷ fs) = ap suc (names_length fs)

-- ---- the lists of names

pub none_more : {X : Type 0} (xs : List X) (n x : X) (i : ℕ) → i < length xs → x ≡ get_or xs i x → (x ≡ n → ⊥) → ((k : ℕ) → k < i → slice_get xs k ≡ Some n → ⊥) → (k : ℕ) → k < i + 1 → slice_get xs k ≡ Some n → ⊥
none_more xs n x i l e h f k q g = elim (cases_lt k i) [
  | inl below ↦ f k below g
  | inr beyond ↦
      let same : k ≡ i = omega arith in
      let at : slice_get xs i ≡ Some x = slice_get-get_or xs i x l ∙ ap (λ z. Some z) (sym e) in
      h (some_is (sym at ∙ ap (slice_get xs) (sym same) ∙ g))
]

pub once_push : {X : Type 0} (xs : List X) (n : X) → IsOnce xs → ((k : ℕ) → slice_get xs k ≡ Some n → ⊥) → IsOnce (xs ++ n ∷ [])
once_push xs n once h i j x e f = elim (last_cases xs n x i e) [
  | inl a ↦ elim (last_cases xs n x j f) [ inl b ↦ once i j x a b | inr b ↦ absurd (h i (a ∙ ap (λ z. Some z) (sym b.1))) ]
  | inr a ↦ elim (last_cases xs n x j f) [ inl b ↦ absurd (h j (b ∙ ap (λ z. Some z) (sym a.1))) | inr b ↦ a.0 ∙ sym b.0 ]
]
  where
    last_cases : {X : Type 0} (xs : List X) (n y : X) (k : ℕ) → slice_get (xs ++ n ∷ []) k ≡ Some y → (slice_get xs k ≡ Some y) ⊎ ((k ≡ length xs) × (n ≡ y))
    last_cases [] n y zero e = inr (refl, some_is e)
    last_cases [] n y (suc k) e = absurd cc
    last_cases (z ∷ xs) n y zero e = inl e
    last_cases (z ∷ xs) n y (suc k) e = elim (last_cases xs n y k e) [ inl h ↦ inl h | inr h ↦ inr (ap suc h.0, h.1) ]

pub kept_push : {X : Type 0} (xs : List X) (n : X) → IsKept xs (xs ++ n ∷ [])
kept_push [] n k x e = absurd cc
kept_push (y ∷ xs) n zero x e = e
kept_push (y ∷ xs) n (suc k) x e = kept_push xs n k x e

pub push_last : {X : Type 0} (xs : List X) (n : X) → slice_get (xs ++ n ∷ []) (length xs) ≡ Some n
push_last [] n = refl
push_last (y ∷ xs) n = push_last xs n

pub listed_back : (ps : List Ty) → tys_list (tys ps) ≡ ps
listed_back [] = refl
listed_back (t ∷ ps) = ap (λ (l : List Ty). t ∷ l) (listed_back ps)

pub named_fun : (ts : List Ty) (ns : List ℕ) (r : Ty) (ps : List Ty) → AreNamed ts ns (r ∷ ps) → AreNamed ts ns (r ∷ tys_list (tys ps))
named_fun ts ns r ps p = subst (λ (l : List Ty). AreNamed ts ns (r ∷ l)) (sym (listed_back ps)) p
