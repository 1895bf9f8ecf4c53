-- The faults that are looked for are the faults of size.
use Rattle.std.proofs.Common.{◌≡◌, ◌∙◌, sym, ap, subst, refl, ℕ, ◌<◌, Bool, true, false, List, [], ◌∷◌, ◌++◌, length, min, arith, inl, inr}
use Rattle.std.specs.Prelude.{◌||◌, nat_lt, ◌⊎◌, Option, Some, None, MatchOption, Contains, slice_get, if◌then◌else◌}
use Rattle.std.specs.Option.{option_map}
use Rattle.std.proofs.lemmas.Bool.Decides.{nat_tests}
use Rattle.mono_syntax.specs.Limits.{most_fields, most_parameters, most_arguments, most_names}
use Rattle.mono_syntax.specs.declared.leaf.Place.{Place}
use Rattle.mono_syntax.specs.declared.leaf.Word.{Word}
use Rattle.mono_syntax.specs.declared.refusal.Reason.{Reason}
use Rattle.mono_syntax.specs.declared.refusal.Reason.TheVariants.{TypeTooLarge, TooManyFields, TooManyParameters, TooManyArguments, TooManyNames}
use Rattle.mono_syntax.specs.declared.refusal.Refusal.{Refusal}
use Rattle.mono_syntax.specs.declared.tree.ClassDef.{ClassDef}
use Rattle.mono_syntax.specs.declared.tree.FuncDef.{FuncDef}
use Rattle.mono_syntax.specs.declared.tree.Item.{Item}
use Rattle.mono_syntax.specs.declared.tree.Item.TheVariants as item
use Rattle.mono_syntax.specs.declared.tree.Script.{Script}
use Rattle.mono_syntax.specs.Ty.{Ty}
use Rattle.script_rules.specs.Definitions.{classes_of, functions_of, statements_of}
use Rattle.script_rules.specs.Scoping.{class_list, function_list}
use Rattle.mono_tree.specs.declared.size.Size.{Size}
use Rattle.script_rules.specs.FirstFault.{IsFirst, IsFaultless}
use Rattle.class_types.specs.computed.FoundFaults.{first_from, type_fault, count_fault, wide, wides, part_faults, parts_faults, name_fault, own_faults, items_faults, script_faults}
use Rattle.class_types.specs.computed.Made.{look, type_by, class_by, function_by, names_of_classes}
use Rattle.mono_tree.specs.computed.CountedSizes.{measured, is_too_large}
use Rattle.class_types.specs.computed.Measured.{size_by, class_size_by, function_size_by, AreMeasured}
use Rattle.script_rules.specs.SizeFaults.{SizeFault, large_class, large_function, large_type, many_fields, many_parameters, wide_callable, many_arguments, crowded_function, crowded_main}
use Rattle.mono_tree.specs.Sizes.{nodes_of, depth_of, IsTooLarge}
use Rattle.script_rules.specs.SourceParts.{Counted, Part, annotation, arguments, place_of, callables, item_parts, parts_of, block_names}
use Rattle.class_types.proofs.Gets.{none_some}
use Rattle.class_types.proofs.MeasureLaws.{look-map, size-type, class-size, function-size}
use Rattle.class_types.proofs.OrderLaws.{In, in-left, in-right, in-cases, in-contains, contains-in, first-least, first-none}
use Rattle.class_types.proofs.FunctionLaws.{function-is, is-function}
use Rattle.class_types.proofs.WritesLaws.{made-writes, writes-made, made-class, class-made}

-- ---- single faults

large-test : (t : Ty) → is_too_large (measured t) ≡ true → IsTooLarge t
large-test t = go (nodes_of t) (depth_of t)
  where
    go : (n d : ℕ) → (nat_lt 1024 (min n 1025) || nat_lt 32 (min d 33)) ≡ true → (1024 < n) ⊎ (32 < d)
    go n d = grind (arith, nat_tests)

test-large : (t : Ty) → IsTooLarge t → is_too_large (measured t) ≡ true
test-large t = go (nodes_of t) (depth_of t)
  where
    go : (n d : ℕ) → (1024 < n) ⊎ (32 < d) → (nat_lt 1024 (min n 1025) || nat_lt 32 (min d 33)) ≡ true
    go n d (inl h) = grind (arith, nat_tests)
    go n d (inr h) = grind (arith, nat_tests)

-- a type that is too large is a fault here
abbrev LargeHere : Place → Option Ty → Refusal → Type 0
LargeHere p o r = (t : Ty) × (o ≡ Some t) × IsTooLarge t × ((record { place = p; reason = TypeTooLarge }) ≡ r)

type-from : (p : Place) (o : Option Ty) (r : Refusal) → In r (type_fault p (option_map measured o)) → LargeHere p o r
type-from p None r h = absurd h
type-from p (Some t) r h = go (is_too_large (measured t)) refl h
  where
    go : (b : Bool) → is_too_large (measured t) ≡ b → In r (if b then (record { place = p; reason = TypeTooLarge }) ∷ [] else []) → LargeHere p (Some t) r
    go true e (inl is) = (t, refl, large-test t e, is)
    go true e (inr none) = absurd none
    go false e none = absurd none

type-to : (p : Place) (o : Option Ty) (t : Ty) → o ≡ Some t → IsTooLarge t → In (record { place = p; reason = TypeTooLarge }) (type_fault p (option_map measured o))
type-to p o t e large = rw (e, test-large t large) (inl refl)

count-from : (x : Reason) (most : ℕ) (c : Counted) (r : Refusal) → In r (count_fault x most c) → (most < c.count) × ((record { place = c.place; reason = x }) ≡ r)
count-from x most c r h = go (nat_lt most c.count) refl h
  where
    more : nat_lt most c.count ≡ true → most < c.count
    more = grind (arith, nat_tests)

    go : (b : Bool) → nat_lt most c.count ≡ b → In r (if b then (record { place = c.place; reason = x }) ∷ [] else []) → (most < c.count) × ((record { place = c.place; reason = x }) ≡ r)
    go true e (inl is) = (more e, is)
    go true e (inr none) = absurd none
    go false e none = absurd none

count-to : (x : Reason) (most : ℕ) (c : Counted) → most < c.count → In (record { place = c.place; reason = x }) (count_fault x most c)
count-to x most c h = rw test (inl refl)
  where
    test : nat_lt most c.count ≡ true
    test = grind (arith, nat_tests)

name-from : (o : Option Word) (r : Refusal) → In r (name_fault o) → (w : Word) × (o ≡ Some w) × ((record { place = w.place; reason = TooManyNames }) ≡ r)
name-from None r h = absurd h
name-from (Some w) r (inl is) = (w, refl, is)
name-from (Some w) r (inr none) = absurd none

name-to : (o : Option Word) (w : Word) → o ≡ Some w → In (record { place = w.place; reason = TooManyNames }) (name_fault o)
name-to o w e = rw e (inl refl)

wides-from : (cs : List Counted) (r : Refusal) → In r (wides cs) → (c : Counted) × In c cs × In r (wide c)
wides-from [] r h = absurd h
wides-from (c ∷ cs) r h = elim (in-cases r (wide c) (wides cs) h) [
  | inl here ↦ (c, inl refl, here)
  | inr later ↦ (let there = wides-from cs r later in (there.0, inr there.1, there.2))
]

wides-to : (cs : List Counted) (c : Counted) (r : Refusal) → In c cs → In r (wide c) → In r (wides cs)
wides-to [] c r h f = absurd h
wides-to (d ∷ cs) c r (inl e) f = in-left r (wide d) (wides cs) (subst (λ x. In r (wide x)) (sym e) f)
wides-to (d ∷ cs) c r (inr h) f = in-right r (wide d) (wides cs) (wides-to cs c r h f)

parts-from : (named : List ℕ → Option Size) (ps : List Part) (r : Refusal) → In r (parts_faults named ps) → (p : Part) × In p ps × In r (part_faults named p)
parts-from named [] r h = absurd h
parts-from named (p ∷ ps) r h = elim (in-cases r (part_faults named p) (parts_faults named ps) h) [
  | inl here ↦ (p, inl refl, here)
  | inr later ↦ (let there = parts-from named ps r later in (there.0, inr there.1, there.2))
]

parts-to : (named : List ℕ → Option Size) (ps : List Part) (p : Part) (r : Refusal) → In p ps → In r (part_faults named p) → In r (parts_faults named ps)
parts-to named [] p r h f = absurd h
parts-to named (q ∷ ps) p r (inl e) f = in-left r (part_faults named q) (parts_faults named ps) (subst (λ x. In r (part_faults named x)) (sym e) f)
parts-to named (q ∷ ps) p r (inr h) f = in-right r (part_faults named q) (parts_faults named ps) (parts-to named ps p r h f)

-- ---- items

-- a fault of an item itself, or of one of the parts of the items
abbrev ItemFault : (List ℕ → Option Size) → List Item → Refusal → Type 0
ItemFault named is r = ((i : Item) × In i is × In r (own_faults named i)) ⊎ ((p : Part) × In p (parts_of is) × In r (part_faults named p))

items-from : (named : List ℕ → Option Size) (is : List Item) (r : Refusal) → In r (items_faults named is) → ItemFault named is r
items-from named [] r h = absurd h
items-from named (i ∷ is) r h = elim (in-cases r (own_faults named i ++ parts_faults named (item_parts i)) (items_faults named is) h) [
  | inl here ↦ elim (in-cases r (own_faults named i) (parts_faults named (item_parts i)) here) [
    | inl own ↦ inl (i, inl refl, own)
    | inr part ↦ (let there = parts-from named (item_parts i) r part in inr (there.0, in-left there.0 (item_parts i) (parts_of is) there.1, there.2))
  ]
  | inr later ↦ elim (items-from named is r later) [
    | inl own ↦ inl (own.0, inr own.1, own.2)
    | inr part ↦ inr (part.0, in-right part.0 (item_parts i) (parts_of is) part.1, part.2)
  ]
]

own-to : (named : List ℕ → Option Size) (is : List Item) (i : Item) (r : Refusal) → In i is → In r (own_faults named i) → In r (items_faults named is)
own-to named [] i r h f = absurd h
own-to named (j ∷ is) i r (inl e) f = in-left r (own_faults named j ++ parts_faults named (item_parts j)) (items_faults named is)
    (in-left r (own_faults named j) (parts_faults named (item_parts j)) (subst (λ x. In r (own_faults named x)) (sym e) f))
own-to named (j ∷ is) i r (inr h) f = in-right r (own_faults named j ++ parts_faults named (item_parts j)) (items_faults named is) (own-to named is i r h f)

part-to : (named : List ℕ → Option Size) (is : List Item) (p : Part) (r : Refusal) → In p (parts_of is) → In r (part_faults named p) → In r (items_faults named is)
part-to named [] p r h f = absurd h
part-to named (i ∷ is) p r h f = elim (in-cases p (item_parts i) (parts_of is) h) [
  | inl here ↦ in-left r (own_faults named i ++ parts_faults named (item_parts i)) (items_faults named is)
      (in-right r (own_faults named i) (parts_faults named (item_parts i)) (parts-to named (item_parts i) p r here f))
  | inr later ↦ in-right r (own_faults named i ++ parts_faults named (item_parts i)) (items_faults named is) (part-to named is p r later f)
]

class-in : (is : List Item) (d : ClassDef) → In (item.Class d) is → In d (classes_of is)
class-in [] d h = absurd h
class-in (item.Class c ∷ is) d (inl e) = inl cc
class-in (item.Class c ∷ is) d (inr h) = inr (class-in is d h)
class-in (item.Def c ∷ is) d (inl e) = absurd cc
class-in (item.Def c ∷ is) d (inr h) = class-in is d h
class-in (item.Stmt c ∷ is) d (inl e) = absurd cc
class-in (item.Stmt c ∷ is) d (inr h) = class-in is d h

in-class : (is : List Item) (d : ClassDef) → In d (classes_of is) → In (item.Class d) is
in-class [] d h = absurd h
in-class (item.Class c ∷ is) d (inl e) = inl (ap item.Class e)
in-class (item.Class c ∷ is) d (inr h) = inr (in-class is d h)
in-class (item.Def c ∷ is) d h = inr (in-class is d h)
in-class (item.Stmt c ∷ is) d h = inr (in-class is d h)

function-in : (is : List Item) (d : FuncDef) → In (item.Def d) is → In d (functions_of is)
function-in [] d h = absurd h
function-in (item.Def c ∷ is) d (inl e) = inl cc
function-in (item.Def c ∷ is) d (inr h) = inr (function-in is d h)
function-in (item.Class c ∷ is) d (inl e) = absurd cc
function-in (item.Class c ∷ is) d (inr h) = function-in is d h
function-in (item.Stmt c ∷ is) d (inl e) = absurd cc
function-in (item.Stmt c ∷ is) d (inr h) = function-in is d h

in-function : (is : List Item) (d : FuncDef) → In d (functions_of is) → In (item.Def d) is
in-function [] d h = absurd h
in-function (item.Def c ∷ is) d (inl e) = inl (ap item.Def e)
in-function (item.Def c ∷ is) d (inr h) = inr (in-function is d h)
in-function (item.Class c ∷ is) d h = inr (in-function is d h)
in-function (item.Stmt c ∷ is) d h = inr (in-function is d h)

-- ---- the whole script

-- a fault from one that is the same
moved : (s : Script) (p : Place) (x : Reason) (r : Refusal) → (record { place = p; reason = x }) ≡ r → ((q : Place) → q ≡ p → SizeFault s q x) → SizeFault s r.place r.reason
moved s p x r e f = subst (λ y. SizeFault s y.place y.reason) e (f p refl)

module _ (s : Script) (own : List (Option Size)) (m : AreMeasured (class_list s) None own) where
  abbrev named : List ℕ → Option Size
  named = look (names_of_classes (class_list s)) own None

  abbrev typed : List ℕ → Option Ty
  typed = look (names_of_classes (class_list s)) m.own None

  same : (x : List ℕ) → named x ≡ option_map measured (typed x)
  same x = ap (λ l. look (names_of_classes (class_list s)) l None x) m.measured ∙ look-map (names_of_classes (class_list s)) m.own None x

  part-from : (p : Part) (r : Refusal) → In p (parts_of s.items) → In r (part_faults named p) → SizeFault s r.place r.reason
  part-from (arguments c) r h f =
      let there = count-from TooManyArguments most_arguments c r f in
      moved s c.place TooManyArguments r there.1 (λ q e. many_arguments c (in-contains _ _ h) there.0 e)
  part-from (annotation a) r h f = elim (in-cases r (type_fault (place_of a) (size_by named a)) (wides (callables a)) f) [
    | inl large ↦
        let there = type-from (place_of a) (type_by typed a) r (subst (λ o. In r (type_fault (place_of a) o)) (size-type named typed same a) large) in
        moved s (place_of a) TypeTooLarge r there.3 (λ q e. large_type a there.0 (in-contains _ _ h) (made-writes (class_list s) m.own m.settled a there.0 there.1) there.2 e)
    | inr broad ↦
        let c = wides-from (callables a) r broad in
        let there = count-from TooManyParameters most_parameters c.0 r c.2 in
        moved s c.0.place TooManyParameters r there.1 (λ q e. wide_callable a c.0 (in-contains _ _ h) (in-contains _ _ c.1) there.0 e)
  ]

  own-from : (i : Item) (r : Refusal) → In i s.items → In r (own_faults named i) → SizeFault s r.place r.reason
  own-from (item.Stmt x) r h f = absurd f
  own-from (item.Class d) r h f =
      let counted : Counted = record { place = d.name.place; count = length d.fields } in
      elim (in-cases r (type_fault d.name.place (class_size_by named d)) (count_fault TooManyFields most_fields (record { place = d.name.place; count = length d.fields })) f) [
        | inl large ↦
            let there = type-from d.name.place (class_by typed d) r (subst (λ o. In r (type_fault d.name.place o)) (class-size named typed same d) large) in
            moved s d.name.place TypeTooLarge r there.3 (λ q e. large_class d there.0 (in-contains _ _ (class-in s.items d h)) (made-class (class_list s) m.own m.settled d there.0 there.1) there.2 e)
        | inr many ↦
            let there = count-from TooManyFields most_fields (record { place = d.name.place; count = length d.fields }) r many in
            moved s d.name.place TooManyFields r there.1 (λ q e. many_fields d (in-contains _ _ (class-in s.items d h)) there.0 e)
      ]
  own-from (item.Def d) r h f =
      elim (in-cases r (type_fault d.name.place (function_size_by named d) ++ count_fault TooManyParameters most_parameters (record { place = d.name.place; count = length d.params })) (name_fault (slice_get (block_names d.params d.body) most_names)) f) [
        | inl first ↦ elim (in-cases r (type_fault d.name.place (function_size_by named d)) (count_fault TooManyParameters most_parameters (record { place = d.name.place; count = length d.params })) first) [
          | inl large ↦
              let there = type-from d.name.place (function_by typed d) r (subst (λ o. In r (type_fault d.name.place o)) (function-size named typed same d) large) in
              moved s d.name.place TypeTooLarge r there.3 (λ q e. large_function d there.0 (in-contains _ _ (function-in s.items d h)) (function-is (class_list s) m.own m.settled d there.0 there.1) there.2 e)
          | inr many ↦
              let there = count-from TooManyParameters most_parameters (record { place = d.name.place; count = length d.params }) r many in
              moved s d.name.place TooManyParameters r there.1 (λ q e. many_parameters d (in-contains _ _ (function-in s.items d h)) there.0 e)
        ]
        | inr names ↦
            let there = name-from (slice_get (block_names d.params d.body) most_names) r names in
            moved s there.0.place TooManyNames r there.2 (λ q e. crowded_function d there.0 (in-contains _ _ (function-in s.items d h)) there.1 e)
      ]

  pub fault-from : (r : Refusal) → In r (script_faults named s.items) → SizeFault s r.place r.reason
  fault-from r h = elim (in-cases r (items_faults named s.items) (name_fault (slice_get (block_names [] (statements_of s.items)) most_names)) h) [
    | inl items ↦ elim (items-from named s.items r items) [
      | inl i ↦ own-from i.0 r i.1 i.2
      | inr p ↦ part-from p.0 r p.1 p.2
    ]
    | inr names ↦
        let there = name-from (slice_get (block_names [] (statements_of s.items)) most_names) r names in
        moved s there.0.place TooManyNames r there.2 (λ q e. crowded_main there.0 there.1 e)
  ]

  abbrev fault_at : Place → Reason → Refusal
  fault_at p x = record { place = p; reason = x }

  -- a fault at a place that is the same
  here : (p q : Place) (x : Reason) → p ≡ q → In (record { place = q; reason = x }) (script_faults named s.items) → In (record { place = p; reason = x }) (script_faults named s.items)
  here p q x e = subst (λ y. In (record { place = y; reason = x }) (script_faults named s.items)) (sym e)

  abbrev main_names : List Refusal
  main_names = name_fault (slice_get (block_names [] (statements_of s.items)) most_names)

  class-to : (d : ClassDef) (r : Refusal) → Contains (class_list s) d → In r (own_faults named (item.Class d)) → In r (script_faults named s.items)
  class-to d r h f = in-left r (items_faults named s.items) main_names (own-to named s.items (item.Class d) r (in-class s.items d (contains-in d (class_list s) h)) f)

  function-to : (d : FuncDef) (r : Refusal) → Contains (function_list s) d → In r (own_faults named (item.Def d)) → In r (script_faults named s.items)
  function-to d r h f = in-left r (items_faults named s.items) main_names (own-to named s.items (item.Def d) r (in-function s.items d (contains-in d (function_list s) h)) f)

  some-part : (p : Part) (r : Refusal) → Contains (parts_of s.items) p → In r (part_faults named p) → In r (script_faults named s.items)
  some-part p r h f = in-left r (items_faults named s.items) main_names (part-to named s.items p r (contains-in p (parts_of s.items) h) f)

  pub fault-to : (p : Place) (x : Reason) → SizeFault s p x → In (fault_at p x) (script_faults named s.items)
  fault-to p x (large_class d t h is large e) = here p d.name.place TypeTooLarge e (class-to d (fault_at d.name.place TypeTooLarge) h
      (in-left (fault_at d.name.place TypeTooLarge) (type_fault d.name.place (class_size_by named d)) (count_fault TooManyFields most_fields (record { place = d.name.place; count = length d.fields }))
      (subst (λ o. In (fault_at d.name.place TypeTooLarge) (type_fault d.name.place o)) (sym (class-size named typed same d))
      (type-to d.name.place (class_by typed d) t (class-made (class_list s) m.own m.settled d t is) large))))
  fault-to p x (large_function d t h is large e) = here p d.name.place TypeTooLarge e (function-to d (fault_at d.name.place TypeTooLarge) h
      (in-left (fault_at d.name.place TypeTooLarge) (type_fault d.name.place (function_size_by named d) ++ count_fault TooManyParameters most_parameters (record { place = d.name.place; count = length d.params }))
      (name_fault (slice_get (block_names d.params d.body) most_names))
      (in-left (fault_at d.name.place TypeTooLarge) (type_fault d.name.place (function_size_by named d)) (count_fault TooManyParameters most_parameters (record { place = d.name.place; count = length d.params }))
      (subst (λ o. In (fault_at d.name.place TypeTooLarge) (type_fault d.name.place o)) (sym (function-size named typed same d))
      (type-to d.name.place (function_by typed d) t (is-function (class_list s) m.own m.settled d t is) large)))))
  fault-to p x (large_type a t h w large e) = here p (place_of a) TypeTooLarge e (some-part (annotation a) (fault_at (place_of a) TypeTooLarge) h
      (in-left (fault_at (place_of a) TypeTooLarge) (type_fault (place_of a) (size_by named a)) (wides (callables a))
      (subst (λ o. In (fault_at (place_of a) TypeTooLarge) (type_fault (place_of a) o)) (sym (size-type named typed same a))
      (type-to (place_of a) (type_by typed a) t (writes-made (class_list s) m.own m.settled w) large))))
  fault-to p x (many_fields d h more e) = here p d.name.place TooManyFields e (class-to d (fault_at d.name.place TooManyFields) h
      (in-right (fault_at d.name.place TooManyFields) (type_fault d.name.place (class_size_by named d)) (count_fault TooManyFields most_fields (record { place = d.name.place; count = length d.fields }))
      (count-to TooManyFields most_fields (record { place = d.name.place; count = length d.fields }) more)))
  fault-to p x (many_parameters d h more e) = here p d.name.place TooManyParameters e (function-to d (fault_at d.name.place TooManyParameters) h
      (in-left (fault_at d.name.place TooManyParameters) (type_fault d.name.place (function_size_by named d) ++ count_fault TooManyParameters most_parameters (record { place = d.name.place; count = length d.params }))
      (name_fault (slice_get (block_names d.params d.body) most_names))
      (in-right (fault_at d.name.place TooManyParameters) (type_fault d.name.place (function_size_by named d)) (count_fault TooManyParameters most_parameters (record { place = d.name.place; count = length d.params }))
      (count-to TooManyParameters most_parameters (record { place = d.name.place; count = length d.params }) more))))
  fault-to p x (wide_callable a c h there more e) = here p c.place TooManyParameters e (some-part (annotation a) (fault_at c.place TooManyParameters) h
      (in-right (fault_at c.place TooManyParameters) (type_fault (place_of a) (size_by named a)) (wides (callables a))
      (wides-to (callables a) c (fault_at c.place TooManyParameters) (contains-in c (callables a) there) (count-to TooManyParameters most_parameters c more))))
  fault-to p x (many_arguments c h more e) = here p c.place TooManyArguments e (some-part (arguments c) (fault_at c.place TooManyArguments) h (count-to TooManyArguments most_arguments c more))
  fault-to p x (crowded_function d w h is e) = here p w.place TooManyNames e (function-to d (fault_at w.place TooManyNames) h
      (in-right (fault_at w.place TooManyNames) (type_fault d.name.place (function_size_by named d) ++ count_fault TooManyParameters most_parameters (record { place = d.name.place; count = length d.params }))
      (name_fault (slice_get (block_names d.params d.body) most_names))
      (name-to (slice_get (block_names d.params d.body) most_names) w is)))
  fault-to p x (crowded_main w is e) = here p w.place TooManyNames e (in-right (fault_at w.place TooManyNames) (items_faults named s.items) main_names
      (name-to (slice_get (block_names [] (statements_of s.items)) most_names) w is))

  -- the first that is found is the first fault of size
  pub first-fault : (r : Option Refusal) → r ≡ first_from None (script_faults named s.items) → MatchOption r (IsFaultless (SizeFault s)) (IsFirst (SizeFault s))
  first-fault None e = λ p x f. first-none None (script_faults named s.items) (sym e) (fault_at p x) (fault-to p x f)
  first-fault (Some r) e =
      let least = first-least None (script_faults named s.items) r (sym e) in
      record {
        stands = fault-from r (elim least.one [ inl none ↦ none_some none | inr h ↦ h ]);
        first = λ x f. least.all x (fault-to x.place x.reason f);
      }
