-- The first places of names, with one more name.
use Rattle.std.proofs.Common.{◌≡◌, ◌∙◌, sym, ap, subst, refl, ℕ, suc, ◌+◌, ◌<◌, Bool, true, false, not, List, [], ◌∷◌, ◌++◌, length, arith, Bor}
use Rattle.std.specs.Prelude.{Option, Some, None, is_some, bytes_eq, if◌then◌else◌}
use Rattle.std.specs.Option.{option_or, option_copied}
use Rattle.std.specs.BTreeMap.{BTreeMap, UpdatesBy}
use Rattle.std.specs.Cmp.{eq_by_cmp_equiv}
use Rattle.std.specs.Cmp.Lexicographic.{slice_cmp, nat_list_cmp_total, nat_list_eq_equiv}
use Rattle.std.specs.Map.{lookup, IsKeyTest, AreApart, KeepsOthers}
use Rattle.std.specs.Ordering.{is_eq, nat_cmp}
use Rattle.std.specs.declared.vec.Vec.{Vec}
use Rattle.std.proofs.lemmas.Map.Text.{is_eq-slice_cmp}
use Rattle.std.proofs.lemmas.Slice.Eq.{bytes_eq-Decides}
use Rattle.name_places.specs.computed.Firsts.{first_in, AreFirsts}
use Rattle.name_places.specs.Places.{place_from, place_in}
use Rattle.mono_list.proofs.Cases.{none_some, some_is}

pub place-below : (ns : List (List ℕ)) (x : List ℕ) (k i : ℕ) → place_from k ns x ≡ Some i → i < length ns + k
place-below [] x k i e = none_some (i < 0 + k) e
place-below (n ∷ ns) x k i e = go (bytes_eq n x) e (place-below ns x (k + 1) i)
  where
    go : (b : Bool) → (if b then Some k else place_from (k + 1) ns x) ≡ Some i → (place_from (k + 1) ns x ≡ Some i → i < length ns + (k + 1)) → i < suc (length ns) + k
    go true e h = let same : k ≡ i = some_is e in omega arith
    go false e h = let less : i < length ns + (k + 1) = h e in omega arith

pub place-within : (ns : List (List ℕ)) (x : List ℕ) (i : ℕ) → place_in ns x ≡ Some i → i < length ns
place-within ns x i e = let less : i < length ns + 0 = place-below ns x 0 i e in omega arith

place-from-end : (ns : List (List ℕ)) (n x : List ℕ) (k : ℕ) → place_from k (ns ++ n ∷ []) x ≡ option_or (place_from k ns x) (if bytes_eq n x then Some (length ns + k) else None)
place-from-end [] n x k = ap (λ j. if bytes_eq n x then Some j else None) (let same : k ≡ 0 + k = omega arith in same)
place-from-end (m ∷ ns) n x k = go (bytes_eq m x) (place-from-end ns n x (k + 1))
  where
    go : (b : Bool) → place_from (k + 1) (ns ++ n ∷ []) x ≡ option_or (place_from (k + 1) ns x) (if bytes_eq n x then Some (length ns + (k + 1)) else None)
        → (if b then Some k else place_from (k + 1) (ns ++ n ∷ []) x) ≡ option_or (if b then Some k else place_from (k + 1) ns x) (if bytes_eq n x then Some (suc (length ns) + k) else None)
    go true h = refl
    go false h = let same : length ns + (k + 1) ≡ suc (length ns) + k = omega arith in h ∙ ap (λ j. option_or (place_from (k + 1) ns x) (if bytes_eq n x then Some j else None)) same

place-end : (ns : List (List ℕ)) (n x : List ℕ) → place_in (ns ++ n ∷ []) x ≡ option_or (place_in ns x) (if bytes_eq n x then Some (length ns) else None)
place-end ns n x =
    let same : length ns + 0 ≡ length ns = omega arith in
    place-from-end ns n x 0 ∙ ap (λ j. option_or (place_in ns x) (if bytes_eq n x then Some j else None)) same

-- one more name at the end
pub firsts-more : {Y : Type 0} (m new : BTreeMap (Vec ℕ Y) ℕ) (ns : List (List ℕ)) (n : List ℕ) → AreFirsts m ns
    → ((x : List ℕ) → first_in new x ≡ option_or (first_in m x) (if bytes_eq n x then Some (length ns) else None)) → AreFirsts new (ns ++ n ∷ [])
firsts-more m new ns n old more x = more x ∙ (ap (λ o. option_or o (if bytes_eq n x then Some (length ns) else None)) (old x) ∙ sym (place-end ns n x))

or-none : {A : Type 0} (o : Option A) → option_or o None ≡ o
or-none None = refl
or-none (Some x) = refl

other_entries : {K : Type 0} (eq : K → K → Bool) (test : K → Bool) {X : Type 0} (old new : List (K × X)) → KeepsOthers eq test old new → (other : K → Bool) → IsKeyTest eq other → AreApart test other → lookup other new ≡ lookup other old
unfolding KeepsOthers
other_entries eq test old new h = h

apart : (bs cs ks : List ℕ) → bytes_eq bs cs ≡ false → is_eq (slice_cmp nat_cmp bs ks) ≡ true → is_eq (slice_cmp nat_cmp cs ks) ≡ false
apart bs cs ks n y =
    is_eq-slice_cmp cs ks ∙ nat_list_eq_equiv.symm cs ks ∙ sym (nat_list_eq_equiv.congr bs ks cs (sym (is_eq-slice_cmp bs ks) ∙ y)) ∙ n

-- a new name with its place
pub first-noted : {Y : Type 0} (m n : BTreeMap (Vec ℕ Y) ℕ) (bs : List ℕ) (at : ℕ) → first_in m bs ≡ None
    → UpdatesBy (λ x y. slice_cmp nat_cmp x.items y.items) (λ k. slice_cmp nat_cmp bs k.items) m n (Some at)
    → (x : List ℕ) → first_in n x ≡ option_or (first_in m x) (if bytes_eq bs x then Some at else None)
first-noted m n bs at new h x = go (bytes_eq bs x) refl
  where
    go : (b : Bool) → bytes_eq bs x ≡ b → first_in n x ≡ option_or (first_in m x) (if b then Some at else None)
    go true t = subst (λ (y : List ℕ). first_in n y ≡ option_or (first_in m y) (Some at)) ((bytes_eq-Decides bs x).0 t) (h.1 ∙ ap (λ o. option_or o (Some at)) (sym new))
    go false f = other_entries _ _ _ _ h.3 _ (λ p q. (eq_by_cmp_equiv nat_list_cmp_total).congr x p.items q.items) (λ k. apart bs x k.items f) ∙ sym (or-none (first_in m x))

-- a name that is known
pub first-known : {Y : Type 0} (m : BTreeMap (Vec ℕ Y) ℕ) (bs : List ℕ) (at i : ℕ) → first_in m bs ≡ Some i
    → (x : List ℕ) → first_in m x ≡ option_or (first_in m x) (if bytes_eq bs x then Some at else None)
first-known m bs at i known x = go (bytes_eq bs x) refl
  where
    go : (b : Bool) → bytes_eq bs x ≡ b → first_in m x ≡ option_or (first_in m x) (if b then Some at else None)
    go true t =
        let here : first_in m x ≡ Some i = subst (λ (y : List ℕ). first_in m y ≡ Some i) ((bytes_eq-Decides bs x).0 t) known in
        here ∙ ap (λ o. option_or o (Some at)) (sym here)
    go false f = sym (or-none (first_in m x))

-- what a look into the map says
pub looked-none : (o : Option (Bor ℕ)) (b : Bool) → is_some o ≡ not b → b ≡ true → option_copied o ≡ None
looked-none None b e t = refl
looked-none (Some x) b e t = absurd cc

pub looked-some : (o : Option (Bor ℕ)) (b : Bool) → is_some o ≡ not b → b ≡ false → (i : ℕ) × (option_copied o ≡ Some i)
looked-some None b e t = absurd cc
looked-some (Some x) b e t = (x.now, refl)
