-- The first of faults that are found one after the other.
use Rattle.std.proofs.Common.{◌≡◌, ◌∙◌, sym, ap, refl, ℕ, ◌+◌, ◌<◌, drop, get_or, List, [], ◌∷◌, ◌++◌, length, arith}
use Rattle.std.specs.Prelude.{Option, Result, Ok, Err, IfOk}
use Rattle.mono_syntax.specs.declared.refusal.Refusal.{Refusal}
use Rattle.mono_syntax.specs.declared.tree.Item.{Item}
use Rattle.mono_tree.specs.declared.size.Size.{Size}
use Rattle.mono_syntax.specs.Ann.{Ann}
use Rattle.mono_syntax.specs.AnnView.{anns}
use Rattle.script_rules.specs.FirstFault.{sooner}
use Rattle.class_types.proofs.MadeTurns.{next}
use Rattle.class_types.specs.computed.FoundFaults.{first_from, found, wide, wides, part_faults, parts_faults, own_faults, items_faults}
use Rattle.script_rules.specs.SourceParts.{Counted, Part, count_of, item_parts}

pub first-append : (so_far : Option Refusal) (rs ss : List Refusal) → first_from so_far (rs ++ ss) ≡ first_from (first_from so_far rs) ss
first-append so_far [] ss = refl
first-append so_far (r ∷ rs) ss = first-append (sooner so_far r) rs ss

pub found-append : {A : Type 0} (faults : A → List Refusal) (so_far : Option Refusal) (xs ys : List A)
    → found faults so_far (xs ++ ys) ≡ found faults (found faults so_far xs) ys
found-append faults so_far [] ys = refl
found-append faults so_far (x ∷ xs) ys = found-append faults (first_from so_far (faults x)) xs ys

pub found-wides : (so_far : Option Refusal) (cs : List Counted) → found wide so_far cs ≡ first_from so_far (wides cs)
found-wides so_far [] = refl
found-wides so_far (c ∷ cs) = found-wides (first_from so_far (wide c)) cs ∙ sym (first-append so_far (wide c) (wides cs))

pub count-anns : (l : List Ann) → count_of (anns l) ≡ length l
count-anns [] = refl
count-anns (a ∷ l) = omega (arith, count-anns l)

pub ruleset found_steps = (first-append, found-append, found-wides, count-anns)

-- one step of a loop over things that each have some parts
pub found-next : {A X : Type 0} (faults : A → List Refusal) (part : X → List A) (parts : List X → List A) → ((x : X) (xs : List X) → parts (x ∷ xs) ≡ part x ++ parts xs)
    → (xs : List X) (i : ℕ) (x : X) (so_far more all : Option Refusal) → i < length xs → x ≡ get_or xs i x → more ≡ found faults so_far (part x)
    → found faults so_far (parts (drop i xs)) ≡ all → found faults more (parts (drop (i + 1) xs)) ≡ all
found-next faults part parts step xs i x so_far more all h is e inv =
    ap (λ o. found faults o (parts (drop (i + 1) xs))) e
    ∙ (sym (found-append faults so_far (part x) (parts (drop (i + 1) xs)))
    ∙ (ap (found faults so_far) (sym (step x (drop (i + 1) xs)))
    ∙ (ap (λ l. found faults so_far (parts l)) (sym (next xs i x h is)) ∙ inv)))

pub found-parts : (named : List ℕ → Option Size) (so_far : Option Refusal) (ps : List Part) → found (part_faults named) so_far ps ≡ first_from so_far (parts_faults named ps)
found-parts named so_far [] = refl
found-parts named so_far (p ∷ ps) = found-parts named (first_from so_far (part_faults named p)) ps ∙ sym (first-append so_far (part_faults named p) (parts_faults named ps))

-- one step of the loop over items
pub items-next : (named : List ℕ → Option Size) (xs : List Item) (i : ℕ) (x : Item) (so_far own more all : Option Refusal) → i < length xs → x ≡ get_or xs i x
    → own ≡ first_from so_far (own_faults named x) → more ≡ found (part_faults named) own (item_parts x)
    → first_from so_far (items_faults named (drop i xs)) ≡ all → first_from more (items_faults named (drop (i + 1) xs)) ≡ all
items-next named xs i x so_far own more all h is eo em inv =
    let rest = items_faults named (drop (i + 1) xs) in
    let here : more ≡ first_from so_far (own_faults named x ++ parts_faults named (item_parts x))
    = em ∙ (found-parts named own (item_parts x) ∙ (ap (λ o. first_from o (parts_faults named (item_parts x))) eo ∙ sym (first-append so_far (own_faults named x) (parts_faults named (item_parts x))))) in
    ap (λ o. first_from o rest) here
    ∙ (sym (first-append so_far (own_faults named x ++ parts_faults named (item_parts x)) rest)
    ∙ (ap (λ l. first_from so_far (items_faults named l)) (sym (next xs i x h is)) ∙ inv))

pub if_ok : {A E : Type 0} (r : Result A E) (P Q : A → Type 0) → ((x : A) → P x → Q x) → IfOk r P → IfOk r Q
if_ok (Ok x) P Q f h = f x h
if_ok (Err e) P Q f h = h
