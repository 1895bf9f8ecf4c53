-- Faults in their order, and the first of many.
use Rattle.std.proofs.Common.{◌≡◌, ℕ, zero, suc, ◌⊎◌, inl, inr, Bool, true, false, cond, ◌&&◌, ◌||◌, List, [], ◌∷◌, ◌++◌, Option, Some, None, refl, sym, ◌∙◌, ap, subst, arith}
use Rattle.std.specs.Prelude.{◌==◌, nat_lt, nat_le, flat_map, Contains, MatchOption, if◌then◌else◌}
use Rattle.std.proofs.lemmas.Bool.Decides.{nat_tests}
use Rattle.mono_list.proofs.Cases.{split}
use Rattle.mono_syntax.specs.declared.leaf.Place.{Place}
use Rattle.mono_syntax.specs.declared.refusal.Reason.{Reason}
use Rattle.mono_syntax.specs.declared.refusal.Reason.TheVariants.{BadChar, Tab, BadDedent, OpenBracket, BadName, BadNumber, BadString, Syntax, UnknownName, Twice, Misused, RecursiveClass, Inconsistent, NoField, Arity, NotCallable, TooManyTypes, TypeTooLarge, TooManyFields, TooManyParameters, TooManyArguments, TooManyNames, TooManyFunctions, TooManyClasses, TooManySites, TooLong, NotBuilt}
use Rattle.mono_syntax.specs.declared.refusal.Refusal.{Refusal}
use Rattle.script_rules.specs.FirstFault.{rank, no_later, IsFirst, IsFaultless}
use Rattle.name_scope.specs.computed.FoundFaults.{first_of_all, first_of_both}

-- a comparison by one number, and by another test where they are equal
abbrev lex : ℕ → ℕ → Bool → Bool
lex x y b = nat_lt x y || ((x == y) && b)

lex_trans : (x y z : ℕ) (b d e : Bool) → (b ≡ true → d ≡ true → e ≡ true) → lex x y b ≡ true → lex y z d ≡ true → lex x z e ≡ true
lex_trans x y z b d e h p q = grind (arith, nat_tests)

lex_total : (x y : ℕ) (b d : Bool) → (b ≡ false → d ≡ true) → lex x y b ≡ false → lex y x d ≡ true
lex_total x y b d h p = grind (arith, nat_tests)

le_trans : (x y z : ℕ) → nat_le x y ≡ true → nat_le y z ≡ true → nat_le x z ≡ true
le_trans x y z p q = grind (arith, nat_tests)

le_total : (x y : ℕ) → nat_le x y ≡ false → nat_le y x ≡ true
le_total x y p = grind (arith, nat_tests)

pub no_later_trans : (a b d : Refusal) → no_later a b ≡ true → no_later b d ≡ true → no_later a d ≡ true
no_later_trans a b d =
    lex_trans a.place.line b.place.line d.place.line _ _ _
    (lex_trans a.place.column b.place.column d.place.column _ _ _ (le_trans (rank a.reason) (rank b.reason) (rank d.reason)))

pub no_later_total : (a b : Refusal) → no_later a b ≡ false → no_later b a ≡ true
no_later_total a b =
    lex_total a.place.line b.place.line _ _ (lex_total a.place.column b.place.column _ _ (le_total (rank a.reason) (rank b.reason)))

pub no_later_same : (a : Refusal) → no_later a a ≡ true
no_later_same a = split (no_later a a) (λ b. b ≡ true) (λ t. refl) (λ f. absurd (let t = no_later_total a a f in cc))

-- ---- members of lists

abbrev pub In : {A : Type 0} → List A → A → Type 0
In [] x = ⊥
In (y ∷ ys) x = (y ≡ x) ⊎ In ys x

pub in_append : {A : Type 0} (xs ys : List A) (x : A) → In (xs ++ ys) x → In xs x ⊎ In ys x
in_append [] ys x h = inr h
in_append (y ∷ xs) ys x (inl e) = inl (inl e)
in_append (y ∷ xs) ys x (inr h) = elim (in_append xs ys x h) [ inl a ↦ inl (inr a) | inr b ↦ inr b ]

pub in_left : {A : Type 0} (xs ys : List A) (x : A) → In xs x → In (xs ++ ys) x
in_left [] ys x h = absurd h
in_left (y ∷ xs) ys x (inl e) = inl e
in_left (y ∷ xs) ys x (inr h) = inr (in_left xs ys x h)

pub in_right : {A : Type 0} (xs ys : List A) (x : A) → In ys x → In (xs ++ ys) x
in_right [] ys x h = h
in_right (y ∷ xs) ys x h = inr (in_right xs ys x h)

pub in_flat_map : {A B : Type 0} (f : A → List B) (xs : List A) (z : B) → In (flat_map f xs) z → (x : A) × In xs x × In (f x) z
in_flat_map f [] z h = absurd h
in_flat_map f (x ∷ xs) z h =
    elim (in_append (f x) (flat_map f xs) z h) [
      | inl a ↦ (x, inl refl, a)
      | inr b ↦ (let c = in_flat_map f xs z b in (c.0, inr c.1, c.2))
    ]

pub flat_map_in : {A B : Type 0} (f : A → List B) (xs : List A) (x : A) (z : B) → In xs x → In (f x) z → In (flat_map f xs) z
flat_map_in f [] x z h i = absurd h
flat_map_in f (y ∷ xs) x z (inl e) i = in_left (f y) (flat_map f xs) z (let P = λ (w : _). In (f w) z in subst P (sym e) i)
flat_map_in f (y ∷ xs) x z (inr h) i = in_right (f y) (flat_map f xs) z (flat_map_in f xs x z h i)

pub in_Contains : {A : Type 0} (xs : List A) (x : A) → In xs x → Contains xs x
in_Contains [] x h = absurd h
in_Contains (y ∷ ys) x (inl e) = (0, omega arith, e)
in_Contains (y ∷ ys) x (inr h) = let c = in_Contains ys x h in (suc c.0, omega (arith, c.1), c.2)

pub Contains_in : {A : Type 0} (xs : List A) (x : A) → Contains xs x → In xs x
Contains_in [] x (k, h, e) = absurd (omega arith)
Contains_in (y ∷ ys) x (zero, h, e) = inl e
Contains_in (y ∷ ys) x (suc k, h, e) = inr (Contains_in ys x (k, omega arith, e))

-- ---- the first of many

-- the first of a fault and more
least : Refusal → List Refusal → Refusal
least a [] = a
least a (r ∷ rs) = least (cond (no_later a r) a r) rs

some_first : (a : Refusal) (rs : List Refusal) → first_of_all (Some a) rs ≡ Some (least a rs)
unfolding least
some_first a [] = refl
some_first a (r ∷ rs) =
    split (no_later a r) (λ b. first_of_all (cond b (Some a) (Some r)) rs ≡ Some (least (cond b a r) rs)) (λ t. some_first a rs) (λ f. some_first r rs)

is_no_later : (a : Refusal) (rs : List Refusal) → (no_later (least a rs) a ≡ true) × ((g : Refusal) → In rs g → no_later (least a rs) g ≡ true)
unfolding least
is_no_later a [] = (no_later_same a, λ g h. absurd h)
is_no_later a (r ∷ rs) =
    split (no_later a r) (λ b. (no_later (least (cond b a r) rs) a ≡ true) × ((g : Refusal) → (r ≡ g) ⊎ In rs g → no_later (least (cond b a r) rs) g ≡ true))
    (λ t. let i = is_no_later a rs in
    (i.0, λ g h. elim h [ inl e ↦ subst (λ (s : Refusal). no_later (least a rs) s ≡ true) e (no_later_trans _ a r i.0 t) | inr k ↦ i.1 g k ]))
    (λ f. let i = is_no_later r rs in
    (no_later_trans _ r a i.0 (no_later_total a r f), λ g h. elim h [ inl e ↦ subst (λ (s : Refusal). no_later (least r rs) s ≡ true) e i.0 | inr k ↦ i.1 g k ]))

is_member : (a : Refusal) (rs : List Refusal) → In (a ∷ rs) (least a rs)
unfolding least
is_member a [] = inl refl
is_member a (r ∷ rs) =
    split (no_later a r) (λ b. In (a ∷ r ∷ rs) (least (cond b a r) rs))
    (λ t. elim (is_member a rs) [ inl e ↦ inl e | inr h ↦ inr (inr h) ])
    (λ f. inr (is_member r rs))

-- the first of a list that has exactly the faults of a kind
pub first_is : (Fault : Place → Reason → Type 0) (rs : List Refusal) → ((r : Refusal) → In rs r → Fault r.place r.reason) → ((r : Refusal) → Fault r.place r.reason → In rs r)
    → (o : Option Refusal) → o ≡ first_of_all None rs → MatchOption o (IsFaultless Fault) (IsFirst Fault)
first_is Fault [] sound whole o e =
    subst (λ (p : Option Refusal). MatchOption p (IsFaultless Fault) (IsFirst Fault)) (sym e) (λ p r h. whole (record { place = p; reason = r }) h)
first_is Fault (r ∷ rs) sound whole o e =
    let least_of = least r rs in
    let order = is_no_later r rs in
    let first : IsFirst Fault least_of = record {
      stands = sound least_of (is_member r rs);
      first = λ s h. elim (whole s h) [ inl q ↦ subst (λ (t : Refusal). no_later least_of t ≡ true) q order.0 | inr k ↦ order.1 s k ];
    } in
    subst (λ (p : Option Refusal). MatchOption p (IsFaultless Fault) (IsFirst Fault)) (sym (e ∙ some_first r rs)) first

-- ---- of two kinds of faults

pub both_first : (F G : Place → Reason → Type 0) (a b : Option Refusal) → MatchOption a (IsFaultless F) (IsFirst F) → MatchOption b (IsFaultless G) (IsFirst G)
    → MatchOption (first_of_both a b) (IsFaultless (λ p r. F p r ⊎ G p r)) (IsFirst (λ p r. F p r ⊎ G p r))
both_first F G None None f g = λ p r h. elim h [ inl i ↦ f p r i | inr j ↦ g p r j ]
both_first F G None (Some b) f g = record { stands = inr g.stands; first = λ s h. elim h [ inl i ↦ absurd (f s.place s.reason i) | inr j ↦ g.first s j ] }
both_first F G (Some a) None f g = record { stands = inl f.stands; first = λ s h. elim h [ inl i ↦ f.first s i | inr j ↦ absurd (g s.place s.reason j) ] }
both_first F G (Some a) (Some b) f g =
    split (no_later a b) (λ t. MatchOption (cond t (Some a) (Some b)) (IsFaultless (λ p r. F p r ⊎ G p r)) (IsFirst (λ p r. F p r ⊎ G p r)))
    (λ t. record { stands = inl f.stands; first = λ s h. elim h [ inl i ↦ f.first s i | inr j ↦ no_later_trans a b s t (g.first s j) ] })
    (λ n. record { stands = inr g.stands; first = λ s h. elim h [ inl i ↦ no_later_trans b a s (no_later_total a b n) (f.first s i) | inr j ↦ g.first s j ] })

-- ---- there is one first fault

lex_both : (x y : ℕ) (b d : Bool) → lex x y b ≡ true → lex y x d ≡ true → (x ≡ y) × (b ≡ true) × (d ≡ true)
lex_both x y b d p q = grind (arith, nat_tests)

le_both : (x y : ℕ) → nat_le x y ≡ true → nat_le y x ≡ true → x ≡ y
le_both x y p q = grind (arith, nat_tests)

-- the reason of a rank
reason_at : ℕ → Reason
reason_at n =
    if n == 0 then BadChar else if n == 1 then Tab else if n == 2 then BadDedent else if n == 3 then OpenBracket else if n == 4 then BadName
    else if n == 5 then BadNumber else if n == 6 then BadString else if n == 7 then Syntax else if n == 8 then UnknownName else if n == 9 then Twice
    else if n == 10 then Misused else if n == 11 then RecursiveClass else if n == 12 then Inconsistent else if n == 13 then NoField else if n == 14 then Arity
    else if n == 15 then NotCallable else if n == 16 then TooManyTypes else if n == 17 then TypeTooLarge else if n == 18 then TooManyFields
    else if n == 19 then TooManyParameters else if n == 20 then TooManyArguments else if n == 21 then TooManyNames else if n == 22 then TooManyFunctions
    else if n == 23 then TooManyClasses else if n == 24 then TooManySites else if n == 25 then TooLong else NotBuilt

reason_back : (r : Reason) → reason_at (rank r) ≡ r
unfolding reason_at
reason_back BadChar = refl
reason_back Tab = refl
reason_back BadDedent = refl
reason_back OpenBracket = refl
reason_back BadName = refl
reason_back BadNumber = refl
reason_back BadString = refl
reason_back Syntax = refl
reason_back UnknownName = refl
reason_back Twice = refl
reason_back Misused = refl
reason_back RecursiveClass = refl
reason_back Inconsistent = refl
reason_back NoField = refl
reason_back Arity = refl
reason_back NotCallable = refl
reason_back TooManyTypes = refl
reason_back TypeTooLarge = refl
reason_back TooManyFields = refl
reason_back TooManyParameters = refl
reason_back TooManyArguments = refl
reason_back TooManyNames = refl
reason_back TooManyFunctions = refl
reason_back TooManyClasses = refl
reason_back TooManySites = refl
reason_back TooLong = refl
reason_back NotBuilt = refl

both_no_later : (a b : Refusal) → no_later a b ≡ true → no_later b a ≡ true → a ≡ b
both_no_later a b p q =
    let lines = lex_both a.place.line b.place.line _ _ p q in
    let columns = lex_both a.place.column b.place.column _ _ lines.1 lines.2 in
    let ranks = le_both (rank a.reason) (rank b.reason) columns.1 columns.2 in
    let reasons : a.reason ≡ b.reason = sym (reason_back a.reason) ∙ ap reason_at ranks ∙ reason_back b.reason in
    λ i. record { place = record { line = lines.0 i; column = columns.0 i }; reason = reasons i }

pub one_first : (F : Place → Reason → Type 0) (a b : Refusal) → IsFirst F a → IsFirst F b → a ≡ b
one_first F a b f g = both_no_later a b (f.first b g.stands) (g.first a f.stands)
