-- The first of many faults.
use Rattle.std.proofs.Common.{◌≡◌, ℕ, suc, ◌+◌, ◌<◌, List, [], ◌∷◌, ◌++◌, Option, length, get_or, take, drop, refl, sym, ◌∙◌, ap, subst, append_assoc, append-nil, add-one, drop-cons}
use Rattle.std.specs.Prelude.{flat_map}
use Rattle.std.proofs.lemmas.List.{take_more}
use Rattle.mono_syntax.specs.declared.refusal.Refusal.{Refusal}
use Rattle.mono_syntax.specs.declared.tree.Item.{Item}
use Rattle.script_rules.specs.FirstFault.{sooner}
use Rattle.script_rules.specs.declared.occurrence.Occurrence.{Occurrence}
use Rattle.name_scope.specs.declared.roles.Roles.{Roles}
use Rattle.script_rules.specs.Occurrences.{body_of}
use Rattle.name_scope.specs.computed.NameRoles.{roles_of}
use Rattle.name_scope.specs.computed.FoundFaults.{first_of_all, faults_at, faults_behind}

pub first_of_all-append : (first : Option Refusal) (rs ts : List Refusal) → first_of_all first (rs ++ ts) ≡ first_of_all (first_of_all first rs) ts
first_of_all-append first [] ts = refl
first_of_all-append first (r ∷ rs) ts = first_of_all-append (sooner first r) rs ts

pub flat_map-append : {A B : Type 0} (f : A → List B) (xs ys : List A) → flat_map f (xs ++ ys) ≡ flat_map f xs ++ flat_map f ys
flat_map-append f [] ys = refl
flat_map-append f (x ∷ xs) ys = ap (λ l. f x ++ l) (flat_map-append f xs ys) ∙ sym (append_assoc (f x) (flat_map f xs) (flat_map f ys))

-- the list from a place on
pub rest_at : {A : Type 0} (xs : List A) (i : ℕ) (x : A) → i < length xs → x ≡ get_or xs i x → drop i xs ≡ x ∷ drop (i + 1) xs
rest_at xs i x h e = rw (add-one, drop-cons xs i x) (ap (λ y. y ∷ drop (suc i) xs) (sym e))

pub done_at : {A : Type 0} (xs : List A) (i : ℕ) (x : A) → i < length xs → x ≡ get_or xs i x → take (i + 1) xs ≡ take i xs ++ x ∷ []
done_at xs i x h e = take_more xs i x h ∙ ap (λ y. take i xs ++ y ∷ []) (sym e)

-- one occurrence more is taken in
pub one_taken : (script whole : List ℕ → Roles) (all : List Occurrence) (i : ℕ) (o : Occurrence) → i < length all → o ≡ get_or all i o
    → (first next : Option Refusal) (a b d : Roles) → next ≡ first_of_all first (faults_at o.role o.place a b d)
    → a ≡ whole o.text → b ≡ roles_of (take i all) o.text → d ≡ script o.text
    → first_of_all next (faults_behind script whole (take (i + 1) all) (drop (i + 1) all)) ≡ first_of_all first (faults_behind script whole (take i all) (drop i all))
one_taken script whole all i o h e first next a b d n ea eb ed =
    let here = faults_at o.role o.place (whole o.text) (roles_of (take i all) o.text) (script o.text) in
    let rest = drop (i + 1) all in
    let same : next ≡ first_of_all first here = n ∙ (λ j. first_of_all first (faults_at o.role o.place (ea j) (eb j) (ed j))) in
    ap (λ p. first_of_all p (faults_behind script whole (take (i + 1) all) rest)) same
    ∙ ap (λ l. first_of_all (first_of_all first here) (faults_behind script whole l rest)) (done_at all i o h e)
    ∙ sym (first_of_all-append first here (faults_behind script whole (take i all ++ o ∷ []) rest))
    ∙ sym (ap (λ l. first_of_all first (faults_behind script whole (take i all) l)) (rest_at all i o h e))

-- one item more is taken in
pub item_taken : (faults : List Occurrence → List Refusal) (all : List Item) (i : ℕ) (d : Item) → i < length all → d ≡ get_or all i d
    → (first next : Option Refusal) → next ≡ first_of_all first (flat_map faults (body_of d))
    → first_of_all next (flat_map faults (flat_map body_of (drop (i + 1) all))) ≡ first_of_all first (flat_map faults (flat_map body_of (drop i all)))
item_taken faults all i d h e first next n =
    let rest = flat_map body_of (drop (i + 1) all) in
    ap (λ p. first_of_all p (flat_map faults rest)) n
    ∙ sym (first_of_all-append first (flat_map faults (body_of d)) (flat_map faults rest))
    ∙ sym (ap (first_of_all first) (flat_map-append faults (body_of d) rest))
    ∙ sym (ap (λ l. first_of_all first (flat_map faults (flat_map body_of l))) (rest_at all i d h e))

pub ruleset firsts = (first_of_all-append, flat_map-append, append_assoc, append-nil)
