-- Computed: the faults of size in the order in which they are looked for, and the first of them.
use Rattle.std.specs.Prelude.{◌≡◌, ◌⊎◌, ℕ, nat_lt, List, [], ◌∷◌, ◌++◌, Option, Some, None, length, slice_get, if◌then◌else◌}
use Rattle.mono_syntax.specs.Limits.{most_fields, most_parameters, most_arguments, most_names}
use Rattle.mono_syntax.specs.declared.leaf.Place.{Place}
use Rattle.mono_syntax.specs.declared.leaf.Word.{Word}
use Rattle.mono_syntax.specs.declared.refusal.Reason.{Reason}
use Rattle.mono_syntax.specs.declared.refusal.Reason.TheVariants.{TypeTooLarge, TooManyFields, TooManyParameters, TooManyArguments, TooManyNames}
use Rattle.mono_syntax.specs.declared.refusal.Refusal.{Refusal}
use Rattle.mono_syntax.specs.declared.tree.Item.{Item}
use Rattle.mono_syntax.specs.declared.tree.Item.TheVariants as item
use Rattle.script_rules.specs.Definitions.{statements_of}
use Rattle.mono_tree.specs.declared.size.Size.{Size}
use Rattle.mono_tree.specs.computed.CountedSizes.{is_too_large}
use Rattle.script_rules.specs.FirstFault.{sooner}
use Rattle.class_types.specs.computed.Measured.{size_by, class_size_by, function_size_by}
use Rattle.script_rules.specs.SourceParts.{Counted, Part, annotation, arguments, place_of, callables, item_parts, block_names}

-- the first of the faults so far and these
abbrev pub first_from : Option Refusal → List Refusal → Option Refusal
first_from so_far [] = so_far
first_from so_far (r ∷ rs) = first_from (sooner so_far r) rs

-- the same where each thing has some faults
abbrev pub found : {A : Type 0} → (A → List Refusal) → Option Refusal → List A → Option Refusal
found faults so_far [] = so_far
found faults so_far (x ∷ xs) = found faults (first_from so_far (faults x)) xs

abbrev pub type_fault : Place → Option Size → List Refusal
type_fault p None = []
type_fault p (Some s) = if is_too_large s then record { place = p; reason = TypeTooLarge } ∷ [] else []

abbrev pub count_fault : Reason → ℕ → Counted → List Refusal
count_fault r most c = if nat_lt most c.count then record { place = c.place; reason = r } ∷ [] else []

abbrev pub wide : Counted → List Refusal
wide c = count_fault TooManyParameters most_parameters c

abbrev pub wides : List Counted → List Refusal
wides [] = []
wides (c ∷ cs) = wide c ++ wides cs

abbrev pub part_faults : (List ℕ → Option Size) → Part → List Refusal
part_faults named (annotation a) = type_fault (place_of a) (size_by named a) ++ wides (callables a)
part_faults named (arguments c) = count_fault TooManyArguments most_arguments c

abbrev pub parts_faults : (List ℕ → Option Size) → List Part → List Refusal
parts_faults named [] = []
parts_faults named (p ∷ ps) = part_faults named p ++ parts_faults named ps

abbrev pub name_fault : Option Word → List Refusal
name_fault None = []
name_fault (Some w) = record { place = w.place; reason = TooManyNames } ∷ []

-- the faults of an item itself
abbrev pub own_faults : (List ℕ → Option Size) → Item → List Refusal
own_faults named (item.Class d) = type_fault d.name.place (class_size_by named d) ++ count_fault TooManyFields most_fields (record { place = d.name.place; count = length d.fields })
own_faults named (item.Def d) = type_fault d.name.place (function_size_by named d) ++ count_fault TooManyParameters most_parameters (record { place = d.name.place; count = length d.params })
    ++ name_fault (slice_get (block_names d.params d.body) most_names)
own_faults named (item.Stmt s) = []

-- the faults of items, and of what stands in them
abbrev pub items_faults : (List ℕ → Option Size) → List Item → List Refusal
items_faults named [] = []
items_faults named (i ∷ is) = own_faults named i ++ parts_faults named (item_parts i) ++ items_faults named is

abbrev pub script_faults : (List ℕ → Option Size) → List Item → List Refusal
script_faults named is = items_faults named is ++ name_fault (slice_get (block_names [] (statements_of is)) most_names)

-- x is one of these
abbrev pub In : {A : Type 0} → A → List A → Type 0
In x [] = ⊥
In x (y ∷ ys) = (y ≡ x) ⊎ In x ys
