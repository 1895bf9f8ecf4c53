-- The classes that are marked are those that lead to a class.
use Rattle.std.proofs.Common.{◌≡◌, ◌∙◌, sym, ap, subst, refl, ℕ, zero, suc, ◌+◌, ◌<◌, ◌≤◌, Bool, true, false, List, [], ◌∷◌, ◌++◌, length, length-set, replicate, arith, inl, inr}
use Rattle.std.specs.Prelude.{◌||◌, ◌⊎◌, Option, Some, None, slice_get, slice_set, unwrap_or, is_some, bytes_eq, if◌then◌else◌}
use Rattle.std.proofs.lemmas.Bool.{cases_eq}
use Rattle.std.proofs.lemmas.Option.{slice_get-get_or}
use Rattle.std.proofs.lemmas.Slice.Eq.{bytes_eq-Decides}
use Rattle.mono_syntax.specs.declared.leaf.Word.{Word}
use Rattle.mono_syntax.specs.declared.refusal.Refusal.{Refusal}
use Rattle.mono_syntax.specs.declared.tree.ClassDef.{ClassDef}
use Rattle.script_rules.specs.Definitions.{class_named}
use Rattle.class_types.specs.computed.FoundFaults.{first_from, found}
use Rattle.class_types.specs.computed.Leading.{marked_at, is_marked, word_fault, recursive_at, leads_now, put_mark, mark, mark_round, visit_mark, visit_marks, unmarked, AreLeading}
use Rattle.class_types.specs.computed.Made.{names_of_classes}
use Rattle.name_places.specs.Places.{place_from, place_in}
use Rattle.script_rules.specs.Recursion.{Leads, here, through, field_names}
use Rattle.class_types.proofs.Gets.{some_is, none_some, set-other, get-within}
use Rattle.class_types.proofs.MadeLaws.{place-of}
use Rattle.class_types.proofs.FoundLaws.{first-append}
use Rattle.class_types.proofs.OrderLaws.{In, in-left, in-right, in-cases, in-contains, contains-in, first-least, first-none}
use Rattle.class_types.proofs.RoundLaws.{StandFrom}

-- ---- the faults of some things

pub all_faults : {A : Type 0} → (A → List Refusal) → List A → List Refusal
all_faults f [] = []
all_faults f (x ∷ xs) = f x ++ all_faults f xs

pub found-all : {A : Type 0} (f : A → List Refusal) (so_far : Option Refusal) (xs : List A) → found f so_far xs ≡ first_from so_far (all_faults f xs)
unfolding all_faults
found-all f so_far [] = refl
found-all f so_far (x ∷ xs) = found-all f (first_from so_far (f x)) xs ∙ sym (first-append so_far (f x) (all_faults f xs))

pub all-from : {A : Type 0} (f : A → List Refusal) (xs : List A) (r : Refusal) → In r (all_faults f xs) → (x : A) × In x xs × In r (f x)
unfolding all_faults
all-from f [] r h = absurd h
all-from f (x ∷ xs) r h = elim (in-cases r (f x) (all_faults f xs) h) [
  | inl now ↦ (x, inl refl, now)
  | inr later ↦ (let there = all-from f xs r later in (there.0, inr there.1, there.2))
]

pub all-to : {A : Type 0} (f : A → List Refusal) (xs : List A) (x : A) (r : Refusal) → In x xs → In r (f x) → In r (all_faults f xs)
unfolding all_faults
all-to f [] x r h g = absurd h
all-to f (y ∷ xs) x r (inl e) g = in-left r (f y) (all_faults f xs) (subst (λ z. In r (f z)) (sym e) g)
all-to f (y ∷ xs) x r (inr h) g = in-right r (f y) (all_faults f xs) (all-to f xs x r h g)

pub word-from : (ns : List (List ℕ)) (marks : List Bool) (w : Word) (r : Refusal) → In r (word_fault ns marks w) → (is_marked ns marks w.text ≡ true) × (recursive_at w.place ≡ r)
word-from ns marks w r h = go (is_marked ns marks w.text) refl h
  where
    go : (b : Bool) → is_marked ns marks w.text ≡ b → In r (if b then recursive_at w.place ∷ [] else []) → (is_marked ns marks w.text ≡ true) × (recursive_at w.place ≡ r)
    go true e (inl is) = (e, is)
    go true e (inr none) = absurd none
    go false e none = absurd none

pub word-to : (ns : List (List ℕ)) (marks : List Bool) (w : Word) → is_marked ns marks w.text ≡ true → In (recursive_at w.place) (word_fault ns marks w)
word-to ns marks w e = rw e (inl refl)

-- a marked name is found, and what is found is one
any-from : (ns : List (List ℕ)) (marks : List Bool) (ws : List Word) → is_some (found (word_fault ns marks) None ws) ≡ true → (w : Word) × In w ws × (is_marked ns marks w.text ≡ true)
any-from ns marks ws h = go (found (word_fault ns marks) None ws) refl h
  where
    go : (o : Option Refusal) → found (word_fault ns marks) None ws ≡ o → is_some o ≡ true → (w : Word) × In w ws × (is_marked ns marks w.text ≡ true)
    go None e s = absurd cc
    go (Some r) e s =
        let least = first-least None (all_faults (word_fault ns marks) ws) r (sym (found-all (word_fault ns marks) None ws) ∙ e) in
        elim least.one [
          | inl none ↦ none_some none
          | inr one ↦ (let there = all-from (word_fault ns marks) ws r one in (there.0, there.1, (word-from ns marks there.0 r there.2).0))
        ]

any-to : (ns : List (List ℕ)) (marks : List Bool) (ws : List Word) (w : Word) → In w ws → is_marked ns marks w.text ≡ true → is_some (found (word_fault ns marks) None ws) ≡ true
any-to ns marks ws w h e = go (found (word_fault ns marks) None ws) refl
  where
    go : (o : Option Refusal) → found (word_fault ns marks) None ws ≡ o → is_some o ≡ true
    go None f = absurd (first-none None (all_faults (word_fault ns marks) ws) (sym (found-all (word_fault ns marks) None ws) ∙ f) (recursive_at w.place)
        (all-to (word_fault ns marks) ws w (recursive_at w.place) h (word-to ns marks w e)))
    go (Some r) f = refl

-- ---- the class at a name's place

place-class : (cs : List ClassDef) (x : List ℕ) (k j : ℕ) → place_from k (names_of_classes cs) x ≡ Some j
    → (i : ℕ) × (j ≡ i + k) × ((d : ClassDef) → slice_get cs i ≡ Some d → (class_named cs x ≡ Some d) × (d.name.text ≡ x))
place-class [] x k j e = none_some e
place-class (c ∷ cs) x k j e = go (bytes_eq c.name.text x) refl e (place-class cs x (k + 1) j)
  where
    go : (b : Bool) → bytes_eq c.name.text x ≡ b → (if b then Some k else place_from (k + 1) (names_of_classes cs) x) ≡ Some j
        → (place_from (k + 1) (names_of_classes cs) x ≡ Some j → (i : ℕ) × (j ≡ i + (k + 1)) × ((d : ClassDef) → slice_get cs i ≡ Some d → (class_named cs x ≡ Some d) × (d.name.text ≡ x)))
        → (i : ℕ) × (j ≡ i + k) × ((d : ClassDef) → slice_get (c ∷ cs) i ≡ Some d → ((if b then Some c else class_named cs x) ≡ Some d) × (d.name.text ≡ x))
    go true e h later = (0, (let same : k ≡ j = some_is h in omega arith), λ d is. (is, subst (λ y. y.name.text ≡ x) (some_is is) ((bytes_eq-Decides c.name.text x).0 e)))
    go false e h later = let there = later h in (suc there.0, (let at : j ≡ there.0 + (k + 1) = there.1 in omega arith), there.2)

pub class-at : (cs : List ClassDef) (x : List ℕ) (i : ℕ) (d : ClassDef) → place_in (names_of_classes cs) x ≡ Some i → slice_get cs i ≡ Some d → (class_named cs x ≡ Some d) × (d.name.text ≡ x)
class-at cs x i d e is =
    let there = place-class cs x 0 i e in
    let same : i ≡ there.0 = let at : i ≡ there.0 + 0 = there.1 in omega arith in
    there.2 d (ap (slice_get cs) (sym same) ∙ is)

pub at-class : (cs : List ClassDef) (x : List ℕ) (d : ClassDef) → class_named cs x ≡ Some d → (i : ℕ) × (place_in (names_of_classes cs) x ≡ Some i) × (slice_get cs i ≡ Some d)
at-class cs x d e = let there = place-of cs x 0 d e in (there.0, there.1 ∙ ap Some (let move : there.0 + 0 ≡ there.0 = omega arith in move), there.2)

or-cases : (a b : Bool) → (a || b) ≡ true → (a ≡ true) ⊎ (b ≡ true)
or-cases true b e = inl refl
or-cases false b e = inr e

or-right : (a b : Bool) → b ≡ true → (a || b) ≡ true
or-right true b e = refl
or-right false b e = e

-- ---- rounds of marks

module _ (cs : List ClassDef) (y : List ℕ) where
  -- each marked class leads to the target
  abbrev pub AreSound : List Bool → Type 0
  AreSound marks = (x : List ℕ) → is_marked (names_of_classes cs) marks x ≡ true → Leads cs x y

  leads-now : (marks : List Bool) (x : List ℕ) (d : ClassDef) → AreSound marks → class_named cs x ≡ Some d → d.name.text ≡ x → leads_now (names_of_classes cs) marks y d ≡ true → Leads cs x y
  leads-now marks x d sound named text h = elim (or-cases (bytes_eq d.name.text y) (is_some (found (word_fault (names_of_classes cs) marks) None (field_names d.fields))) h) [
    | inl e ↦ here (sym text ∙ (bytes_eq-Decides d.name.text y).0 e)
    | inr e ↦ (let w = any-from (names_of_classes cs) marks (field_names d.fields) e in through named (in-contains w.0 (field_names d.fields) w.1) (sound w.0.text w.2))
  ]

  mark-sound : (marks : List Bool) (d : ClassDef) (at : ℕ) → slice_get cs at ≡ Some d → AreSound marks → AreSound (mark (names_of_classes cs) y d marks at)
  mark-sound marks d at is sound = go (slice_get marks at) refl (leads_now (names_of_classes cs) marks y d) refl
    where
      set : slice_get marks at ≡ Some false → leads_now (names_of_classes cs) marks y d ≡ true → (x : List ℕ) (o : Option ℕ) → place_in (names_of_classes cs) x ≡ o
          → marked_at (slice_set marks at true) o ≡ true → Leads cs x y
      set e l x None p h = absurd cc
      set e l x (Some i) p h = elim (cases_eq i at) [
        | inl same ↦ (let c = class-at cs x i d p (ap (slice_get cs) same ∙ is) in leads-now marks x d sound c.0 c.1 l)
        | inr other ↦ sound x (ap (marked_at marks) p ∙ (ap (λ o. unwrap_or o false) (sym (set-other marks at i true other)) ∙ h))
      ]

      go : (o : Option Bool) → slice_get marks at ≡ o → (l : Bool) → leads_now (names_of_classes cs) marks y d ≡ l → AreSound (put_mark marks at o l)
      go None e l f = sound
      go (Some true) e l f = sound
      go (Some false) e false f = sound
      go (Some false) e true f = λ x h. set e f x (place_in (names_of_classes cs) x) refl h

  unmarked-set : (marks : List Bool) (at : ℕ) → slice_get marks at ≡ Some false → unmarked (slice_set marks at true) + 1 ≡ unmarked marks
  unmarked-set [] at e = none_some e
  unmarked-set (false ∷ marks) zero e = refl
  unmarked-set (true ∷ marks) zero e = absurd (let f : true ≡ false = some_is e in cc)
  unmarked-set (false ∷ marks) (suc at) e = omega (arith, unmarked-set marks at e)
  unmarked-set (true ∷ marks) (suc at) e = unmarked-set marks at e

  abbrev IsStep : List Bool → ClassDef → ℕ → List Bool → Type 0
  IsStep marks d at next = ((next ≡ marks) × (slice_get marks at ≡ Some false → leads_now (names_of_classes cs) marks y d ≡ false)) ⊎ (unmarked next + 1 ≡ unmarked marks)

  step-cases : (marks : List Bool) (d : ClassDef) (at : ℕ) → IsStep marks d at (mark (names_of_classes cs) y d marks at)
  step-cases marks d at = go (slice_get marks at) refl (leads_now (names_of_classes cs) marks y d) refl
    where
      go : (o : Option Bool) → slice_get marks at ≡ o → (l : Bool) → leads_now (names_of_classes cs) marks y d ≡ l
          → ((put_mark marks at o l ≡ marks) × (slice_get marks at ≡ Some false → leads_now (names_of_classes cs) marks y d ≡ false)) ⊎ (unmarked (put_mark marks at o l) + 1 ≡ unmarked marks)
      go None e l f = inl (refl, λ h. none_some (sym e ∙ h))
      go (Some true) e l f = inl (refl, λ h. absurd (let g : true ≡ false = some_is (sym e ∙ h) in cc))
      go (Some false) e false f = inl (refl, λ h. f)
      go (Some false) e true f = inr (unmarked-set marks at e)

  step-length : (marks : List Bool) (d : ClassDef) (at : ℕ) → length (mark (names_of_classes cs) y d marks at) ≡ length marks
  step-length marks d at = go (slice_get marks at) (leads_now (names_of_classes cs) marks y d)
    where
      go : (o : Option Bool) (l : Bool) → length (put_mark marks at o l) ≡ length marks
      go None l = refl
      go (Some true) l = refl
      go (Some false) false = refl
      go (Some false) true = length-set marks at true

  tail-stands : (d : ClassDef) (ds : List ClassDef) (at : ℕ) → StandFrom cs (d ∷ ds) at → StandFrom cs ds (at + 1)
  tail-stands d ds at h j c e = let move : j + (at + 1) ≡ suc j + at = omega arith in ap (slice_get cs) move ∙ h (suc j) c e

  round-sound : (ds : List ClassDef) (marks : List Bool) (at : ℕ) → StandFrom cs ds at → AreSound marks → AreSound (mark_round (names_of_classes cs) y ds marks at)
  round-sound [] marks at h s = s
  round-sound (d ∷ ds) marks at h s = round-sound ds _ (at + 1) (tail-stands d ds at h) (mark-sound marks d at (ap (slice_get cs) (omega arith) ∙ h 0 d refl) s)

  pub round-length : (ds : List ClassDef) (marks : List Bool) (at : ℕ) → length (mark_round (names_of_classes cs) y ds marks at) ≡ length marks
  round-length [] marks at = refl
  round-length (d ∷ ds) marks at = round-length ds _ (at + 1) ∙ step-length marks d at

  pub round-fewer : (ds : List ClassDef) (marks : List Bool) (at : ℕ) → unmarked (mark_round (names_of_classes cs) y ds marks at) ≤ unmarked marks
  round-fewer [] marks at = omega arith
  round-fewer (d ∷ ds) marks at = go (mark (names_of_classes cs) y d marks at) (step-cases marks d at) (round-fewer ds _ (at + 1))
    where
      go : (next : List Bool) → IsStep marks d at next → unmarked (mark_round (names_of_classes cs) y ds next (at + 1)) ≤ unmarked next → unmarked (mark_round (names_of_classes cs) y ds next (at + 1)) ≤ unmarked marks
      go next (inl s) h = omega (arith, ap unmarked s.0)
      go next (inr s) h = omega arith

  -- no class that isn't marked leads to the target in one step
  abbrev IsFixed : List ClassDef → List Bool → ℕ → Type 0
  IsFixed ds marks at = (j : ℕ) (d : ClassDef) → slice_get ds j ≡ Some d → slice_get marks (j + at) ≡ Some false → leads_now (names_of_classes cs) marks y d ≡ false

  round-fixed : (ds : List ClassDef) (marks : List Bool) (at : ℕ) → unmarked (mark_round (names_of_classes cs) y ds marks at) ≡ unmarked marks
      → (mark_round (names_of_classes cs) y ds marks at ≡ marks) × IsFixed ds marks at
  round-fixed [] marks at e = (refl, λ j d h. none_some h)
  round-fixed (d ∷ ds) marks at e = go (mark (names_of_classes cs) y d marks at) (step-cases marks d at) (round-fewer ds _ (at + 1)) (round-fixed ds (mark (names_of_classes cs) y d marks at) (at + 1)) e
    where
      later : (j : ℕ) (c : ClassDef) → (slice_get marks at ≡ Some false → leads_now (names_of_classes cs) marks y d ≡ false)
          → ((k : ℕ) (b : ClassDef) → slice_get ds k ≡ Some b → slice_get marks (k + (at + 1)) ≡ Some false → leads_now (names_of_classes cs) marks y b ≡ false)
          → slice_get (d ∷ ds) j ≡ Some c → slice_get marks (j + at) ≡ Some false → leads_now (names_of_classes cs) marks y c ≡ false
      later zero c head tail is none = let same : d ≡ c = some_is is in let move : 0 + at ≡ at = omega arith in rw (← same) (head (ap (slice_get marks) (sym move) ∙ none))
      later (suc j) c head tail is none = let move : j + (at + 1) ≡ suc j + at = omega arith in tail j c is (ap (slice_get marks) move ∙ none)

      go : (next : List Bool) → IsStep marks d at next
          → unmarked (mark_round (names_of_classes cs) y ds next (at + 1)) ≤ unmarked next
          → (unmarked (mark_round (names_of_classes cs) y ds next (at + 1)) ≡ unmarked next
          → (mark_round (names_of_classes cs) y ds next (at + 1) ≡ next)
          × ((k : ℕ) (b : ClassDef) → slice_get ds k ≡ Some b → slice_get next (k + (at + 1)) ≡ Some false → leads_now (names_of_classes cs) next y b ≡ false))
          → unmarked (mark_round (names_of_classes cs) y ds next (at + 1)) ≡ unmarked marks
          → (mark_round (names_of_classes cs) y ds next (at + 1) ≡ marks)
          × ((j : ℕ) (c : ClassDef) → slice_get (d ∷ ds) j ≡ Some c → slice_get marks (j + at) ≡ Some false → leads_now (names_of_classes cs) marks y c ≡ false)
      go next (inr more) fewer rest all = absurd (omega arith)
      go next (inl s) fewer rest all =
          let stays : unmarked next ≡ unmarked marks = ap unmarked s.0 in
          let there = rest (omega arith) in
          (there.0 ∙ s.0, λ j c is none. later j c s.1 (λ k b kb kn. ap (λ l. leads_now (names_of_classes cs) l y b) (sym s.0) ∙ there.1 k b kb (ap (λ l. slice_get l (k + (at + 1))) s.0 ∙ kn)) is none)

  -- ---- the last round

  marked-now : (marks : List Bool) → length marks ≡ length cs → IsFixed cs marks 0 → (x : List ℕ) (d : ClassDef) → class_named cs x ≡ Some d
      → leads_now (names_of_classes cs) marks y d ≡ true → is_marked (names_of_classes cs) marks x ≡ true
  marked-now marks even fixed x d named h = go (slice_get marks (at-class cs x d named).0) refl
    where
      go : (o : Option Bool) → slice_get marks (at-class cs x d named).0 ≡ o → is_marked (names_of_classes cs) marks x ≡ true
      go None e =
          let within : (at-class cs x d named).0 < length cs = get-within cs (at-class cs x d named).0 d (at-class cs x d named).2 in
          none_some (sym e ∙ slice_get-get_or marks (at-class cs x d named).0 false (omega arith))
      go (Some true) e = ap (marked_at marks) (at-class cs x d named).1 ∙ ap (λ o. unwrap_or o false) e
      go (Some false) e =
          let i = (at-class cs x d named).0 in
          let move : i + 0 ≡ i = omega arith in
          absurd (let f : leads_now (names_of_classes cs) marks y d ≡ false = fixed i d (at-class cs x d named).2 (ap (slice_get marks) move ∙ e) in let g : true ≡ false = sym h ∙ f in cc)

  complete : (marks : List Bool) → length marks ≡ length cs → IsFixed cs marks 0 → (c : ClassDef) → class_named cs y ≡ Some c
      → {x z : List ℕ} → Leads cs x z → z ≡ y → is_marked (names_of_classes cs) marks x ≡ true
  complete marks even fixed c target {x} {z} (here e) f =
      let named : class_named cs x ≡ Some c = ap (class_named cs) (e ∙ f) ∙ target in
      let same : bytes_eq c.name.text y ≡ true = (bytes_eq-Decides c.name.text y).1 (class-at cs y (at-class cs y c target).0 c (at-class cs y c target).1 (at-class cs y c target).2).1 in
      marked-now marks even fixed x c named (ap (λ b. b || is_some (found (word_fault (names_of_classes cs) marks) None (field_names c.fields))) same)
  complete marks even fixed c target {x} {z} (through {d = d} {w = w} named stands l) f =
      let next : is_marked (names_of_classes cs) marks w.text ≡ true = complete marks even fixed c target l f in
      marked-now marks even fixed x d named (or-right (bytes_eq d.name.text y) _ (any-to (names_of_classes cs) marks (field_names d.fields) w (contains-in w (field_names d.fields) stands) next))

  pub start-sound : (n : ℕ) → AreSound (replicate n false)
  start-sound n x h = go (place_in (names_of_classes cs) x) h
    where
      none : (m i : ℕ) → unwrap_or (slice_get (replicate m false) i) false ≡ false
      none zero i = refl
      none (suc m) zero = refl
      none (suc m) (suc i) = none m i

      go : (o : Option ℕ) → marked_at (replicate n false) o ≡ true → Leads cs x y
      go None e = absurd cc
      go (Some i) e = absurd (let f : true ≡ false = sym e ∙ none n i in cc)

  visit-one : (marks : List Bool) (at : ℕ) (o : Option ClassDef) → slice_get cs at ≡ o → AreSound marks → AreSound (visit_mark (names_of_classes cs) y o marks at)
  visit-one marks at None e s = s
  visit-one marks at (Some d) e s = mark-sound marks d at e s

  pub visit-sound : (order : List ℕ) (marks : List Bool) → AreSound marks → AreSound (visit_marks (names_of_classes cs) y cs order marks)
  visit-sound [] marks s = s
  visit-sound (at ∷ order) marks s = visit-sound order _ (visit-one marks at (slice_get cs at) refl s)

  one-length : (marks : List Bool) (at : ℕ) (o : Option ClassDef) → length (visit_mark (names_of_classes cs) y o marks at) ≡ length marks
  one-length marks at None = refl
  one-length marks at (Some d) = step-length marks d at

  pub visit-length : (order : List ℕ) (marks : List Bool) → length (visit_marks (names_of_classes cs) y cs order marks) ≡ length marks
  visit-length [] marks = refl
  visit-length (at ∷ order) marks = visit-length order _ ∙ one-length marks at (slice_get cs at)

  pub whole-sound : (marks next : List Bool) → AreSound marks → next ≡ mark_round (names_of_classes cs) y cs marks 0 → AreSound next
  whole-sound marks next s e = subst AreSound (sym e) (round-sound cs marks 0 (λ j d is. let move : j + 0 ≡ j = omega arith in ap (slice_get cs) move ∙ is) s)

  pub round-done : (marks next : List Bool) (left : ℕ) → length marks ≡ length cs → AreSound marks → unmarked marks ≤ left
      → next ≡ mark_round (names_of_classes cs) y cs marks 0 → unmarked next ≡ left → AreLeading cs y next
  round-done marks next left even s most e same =
      let fewer : unmarked (mark_round (names_of_classes cs) y cs marks 0) ≤ unmarked marks = round-fewer cs marks 0 in
      let count : unmarked next ≡ unmarked (mark_round (names_of_classes cs) y cs marks 0) = ap unmarked e in
      let still : unmarked (mark_round (names_of_classes cs) y cs marks 0) ≡ unmarked marks = omega arith in
      let stays : next ≡ marks = e ∙ (round-fixed cs marks 0 still).0 in
      record {
        sound = whole-sound marks next s e;
        complete = λ x c target l. ap (λ m. is_marked (names_of_classes cs) m x) stays ∙ complete marks even (round-fixed cs marks 0 still).1 c target l refl;
      }

pub unmarked-length : (marks : List Bool) → unmarked marks ≤ length marks
unmarked-length [] = omega arith
unmarked-length (false ∷ marks) = omega (arith, unmarked-length marks)
unmarked-length (true ∷ marks) = omega (arith, unmarked-length marks)
