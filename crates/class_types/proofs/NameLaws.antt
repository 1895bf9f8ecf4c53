-- New names, one after the other, are the names where they first stand.
use Rattle.std.proofs.Common.{◌≡◌, ◌∙◌, sym, ap, refl, ℕ, suc, ◌+◌, ◌-◌, ◌<◌, ◌≤◌, Bool, true, false, List, [], ◌∷◌, ◌++◌, length, map, drop, get_or, arith, Bor}
use Rattle.std.specs.Prelude.{◌||◌, not, filter, is_some, bytes_eq, if◌then◌else◌, Option, Some, slice_get}
use Rattle.std.proofs.lemmas.Slice.Eq.{bytes_eq-Decides}
use Rattle.mono_syntax.specs.Limits.{most_names}
use Rattle.mono_syntax.specs.declared.leaf.Word.{Word}
use Rattle.class_types.specs.computed.NewNames.{known, new_words}
use Rattle.name_places.specs.Places.{place_from, place_in}
use Rattle.script_rules.specs.SourceParts.{first_words}
use Rattle.class_types.proofs.MadeTurns.{next}

-- two filters, one behind the other, keep what passes both tests
filter-filter : {A : Type 0} (p q r : A → Bool) → ((x : A) → (if q x then p x else false) ≡ r x) → (xs : List A) → filter p (filter q xs) ≡ filter r xs
filter-filter p q r h [] = refl
filter-filter p q r h (x ∷ xs) = go (q x) (h x) (filter-filter p q r h xs)
  where
    both : (b c : Bool) → b ≡ c → filter p (filter q xs) ≡ filter r xs → (if b then x ∷ filter p (filter q xs) else filter p (filter q xs)) ≡ (if c then x ∷ filter r xs else filter r xs)
    both true true e rest = ap (λ l. x ∷ l) rest
    both true false e rest = absurd cc
    both false true e rest = absurd cc
    both false false e rest = rest

    go : (b : Bool) → (if b then p x else false) ≡ r x → filter p (filter q xs) ≡ filter r xs
        → filter p (if b then x ∷ filter q xs else filter q xs) ≡ (if r x then x ∷ filter r xs else filter r xs)
    go true e rest = both (p x) (r x) e rest
    go false e rest = both false (r x) e rest

known-push : (seen : List Word) (w : Word) (x : List ℕ) → known (seen ++ w ∷ []) x ≡ (known seen x || bytes_eq w.text x)
known-push [] w x = go (bytes_eq w.text x)
  where
    go : (b : Bool) → (b || false) ≡ (false || b)
    go true = refl
    go false = refl
known-push (v ∷ seen) w x = go (bytes_eq v.text x) (known-push seen w x)
  where
    go : (b : Bool) → known (seen ++ w ∷ []) x ≡ (known seen x || bytes_eq w.text x) → (b || known (seen ++ w ∷ []) x) ≡ ((b || known seen x) || bytes_eq w.text x)
    go true h = refl
    go false h = h

-- what isn't known
fresh : List Word → Word → Bool
fresh seen v = not (known seen v.text)

other : Word → Word → Bool
other w v = not (bytes_eq w.text v.text)

fresh-other : (seen : List Word) (w v : Word) → (if other w v then fresh seen v else false) ≡ fresh (seen ++ w ∷ []) v
unfolding fresh other
fresh-other seen w v = go (bytes_eq w.text v.text) (known seen v.text) (known (seen ++ w ∷ []) v.text) (known-push seen w v.text)
  where
    go : (b k l : Bool) → l ≡ (k || b) → (if not b then not k else false) ≡ not l
    go true true true e = refl
    go true true false e = absurd cc
    go true false true e = refl
    go true false false e = absurd cc
    go false true true e = refl
    go false true false e = absurd cc
    go false false true e = absurd cc
    go false false false e = refl

fresh-known : (seen : List Word) (w v : Word) → known seen w.text ≡ true → (if other w v then fresh seen v else false) ≡ fresh seen v
unfolding fresh other
fresh-known seen w v k = go (bytes_eq w.text v.text) refl
  where
    go : (b : Bool) → bytes_eq w.text v.text ≡ b → (if not b then not (known seen v.text) else false) ≡ not (known seen v.text)
    go false e = refl
    go true e =
        let same : w.text ≡ v.text = (bytes_eq-Decides w.text v.text).0 e in
        sym (ap not (ap (known seen) (sym same) ∙ k))

new-fresh : (seen ws : List Word) → new_words seen ws ≡ filter (fresh seen) (first_words ws)
unfolding fresh other
new-fresh seen [] = refl
new-fresh seen (w ∷ ws) = go (known seen w.text) refl (new-fresh seen ws) (new-fresh (seen ++ w ∷ []) ws)
  where
    go : (b : Bool) → known seen w.text ≡ b → new_words seen ws ≡ filter (λ v. not (known seen v.text)) (first_words ws)
        → new_words (seen ++ w ∷ []) ws ≡ filter (λ v. not (known (seen ++ w ∷ []) v.text)) (first_words ws)
        → (if b then new_words seen ws else w ∷ new_words (seen ++ w ∷ []) ws)
        ≡ (if not b then w ∷ filter (λ v. not (known seen v.text)) (filter (λ v. not (bytes_eq w.text v.text)) (first_words ws)) else filter (λ v. not (known seen v.text)) (filter (λ v. not (bytes_eq w.text v.text)) (first_words ws)))
    go true e old new = old ∙ sym (filter-filter (λ v. not (known seen v.text)) (λ v. not (bytes_eq w.text v.text)) (λ v. not (known seen v.text)) (λ v. fresh-known seen w v e) (first_words ws))
    go false e old new = ap (λ l. w ∷ l) (new ∙ sym (filter-filter (λ v. not (known seen v.text)) (λ v. not (bytes_eq w.text v.text)) (λ v. not (known (seen ++ w ∷ []) v.text)) (λ v. fresh-other seen w v) (first_words ws)))

filter-all : {A : Type 0} (p : A → Bool) → ((x : A) → p x ≡ true) → (xs : List A) → filter p xs ≡ xs
filter-all p h [] = refl
filter-all p h (x ∷ xs) = rw (h x) (ap (λ l. x ∷ l) (filter-all p h xs))

pub new-first : (ws : List Word) → new_words [] ws ≡ first_words ws
unfolding fresh
new-first ws = new-fresh [] ws ∙ filter-all (fresh []) (λ x. refl) (first_words ws)

-- one more new name, where more may come
pub crowded-next : (xs : List (Bor Word)) (i : ℕ) (x : Bor Word) (seen more : List (Bor Word)) (n m : ℕ) (target : Option Word) → i < length xs → x ≡ get_or xs i x
    → known (map (λ w. w.now) seen) x.now.text ≡ false → more ≡ seen ++ x ∷ [] → n ≤ most_names → (n ≡ most_names → ⊥) → m ≡ n + 1
    → slice_get (new_words (map (λ w. w.now) seen) (map (λ w. w.now) (drop i xs))) (most_names - n) ≡ target
    → slice_get (new_words (map (λ w. w.now) more) (map (λ w. w.now) (drop (i + 1) xs))) (most_names - m) ≡ target
crowded-next xs i x seen more n m target h is fresh push within room count inv =
    let step : map (λ w. w.now) (drop i xs) ≡ x.now ∷ map (λ w. w.now) (drop (i + 1) xs) = ap (map (λ w. w.now)) (next xs i x h is) in
    let less : most_names - n ≡ suc (most_names - m) = omega arith in
    let grown : map (λ w. w.now) more ≡ map (λ w. w.now) seen ++ x.now ∷ [] = ap (map (λ w. w.now)) push ∙ map-push seen x in
    let now = ap (λ l. slice_get (new_words (map (λ w. w.now) seen) l) (most_names - n)) (sym step) ∙ inv in
    ap (λ l. slice_get (new_words l (map (λ w. w.now) (drop (i + 1) xs))) (most_names - m)) grown ∙ (go fresh less ∙ now)
  where
    map-push : (l : List (Bor Word)) (y : Bor Word) → map (λ w. w.now) (l ++ y ∷ []) ≡ map (λ w. w.now) l ++ y.now ∷ []
    map-push [] y = refl
    map-push (z ∷ l) y = ap (λ r. z.now ∷ r) (map-push l y)

    go : known (map (λ w. w.now) seen) x.now.text ≡ false → most_names - n ≡ suc (most_names - m)
        → slice_get (new_words (map (λ w. w.now) seen ++ x.now ∷ []) (map (λ w. w.now) (drop (i + 1) xs))) (most_names - m)
        ≡ slice_get (new_words (map (λ w. w.now) seen) (x.now ∷ map (λ w. w.now) (drop (i + 1) xs))) (most_names - n)
    go e l = rw (e, l) refl

-- ---- names that are found by their first place

known-from : (ws : List Word) (x : List ℕ) (i : ℕ) → is_some (place_from i (map (λ w. w.text) ws) x) ≡ known ws x
known-from [] x i = refl
known-from (w ∷ ws) x i = go (bytes_eq w.text x) (known-from ws x (i + 1))
  where
    go : (b : Bool) → is_some (place_from (i + 1) (map (λ v. v.text) ws) x) ≡ known ws x
        → is_some (if b then Some i else place_from (i + 1) (map (λ v. v.text) ws) x) ≡ (b || known ws x)
    go true h = refl
    go false h = h

pub known-placed : (ns : List (List ℕ)) (ws : List Word) (x : List ℕ) → ns ≡ map (λ w. w.text) ws → is_some (place_in ns x) ≡ known ws x
known-placed ns ws x e = ap (λ l. is_some (place_in l x)) e ∙ known-from ws x 0

pub texts-push : (ns more : List (List ℕ)) (seen new : List (Bor Word)) (x : Bor Word) (n : List ℕ) → ns ≡ map (λ w. w.text) (map (λ w. w.now) seen)
    → new ≡ seen ++ x ∷ [] → n ≡ x.now.text → more ≡ ns ++ n ∷ [] → more ≡ map (λ w. w.text) (map (λ w. w.now) new)
texts-push ns more seen new x n e push is pushed =
    pushed ∙ (ap (λ l. l ++ n ∷ []) e ∙ (ap (λ m. map (λ w. w.text) (map (λ w. w.now) seen) ++ m ∷ []) is ∙ (go seen ∙ ap (λ l. map (λ w. w.text) (map (λ w. w.now) l)) (sym push))))
  where
    go : (l : List (Bor Word)) → map (λ w. w.text) (map (λ w. w.now) l) ++ x.now.text ∷ [] ≡ map (λ w. w.text) (map (λ w. w.now) (l ++ x ∷ []))
    go [] = refl
    go (z ∷ l) = ap (λ r. z.now.text ∷ r) (go l)
