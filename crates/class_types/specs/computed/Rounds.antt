-- Computed: how the values of classes are found: in rounds, in which each class that has no value yet gets the one that its fields
-- give, where they give one.
use Rattle.std.specs.Prelude.{ℕ, ◌+◌, List, [], ◌∷◌, Option, Some, None, slice_get, slice_set}
use Rattle.mono_syntax.specs.declared.tree.ClassDef.{ClassDef}
use Rattle.class_types.specs.computed.Made.{look}

-- how the value of a class follows from those of the classes that its fields name
abbrev pub Finds : Type 0 → Type 0
Finds A = (List ℕ → Option A) → ClassDef → Option A

-- a value for a class that has none yet
abbrev pub fill : {A : Type 0} → List (Option A) → ℕ → Option (Option A) → Option A → List (Option A)
fill own at (Some None) (Some a) = slice_set own at (Some a)
fill own at _ _ = own

abbrev pub filled : {A : Type 0} → Finds A → List (List ℕ) → Option A → ClassDef → List (Option A) → ℕ → List (Option A)
filled finds ns stray d own at = fill own at (slice_get own at) (finds (look ns own stray) d)

-- one round over these classes, which stand from this place on
abbrev pub round : {A : Type 0} → Finds A → List (List ℕ) → Option A → List ClassDef → List (Option A) → ℕ → List (Option A)
round finds ns stray [] own at = own
round finds ns stray (d ∷ ds) own at = round finds ns stray ds (filled finds ns stray d own at) (at + 1)

-- how many classes have no value
abbrev pub unknown : {A : Type 0} → List (Option A) → ℕ
unknown [] = 0
unknown (None ∷ own) = unknown own + 1
unknown (Some a ∷ own) = unknown own

-- the class at a place, where one stands there
abbrev pub visit_class : {A : Type 0} → Finds A → List (List ℕ) → Option A → Option ClassDef → List (Option A) → ℕ → List (Option A)
visit_class finds ns stray None own at = own
visit_class finds ns stray (Some d) own at = filled finds ns stray d own at

-- the classes at these places, one after the other
abbrev pub visited : {A : Type 0} → Finds A → List (List ℕ) → Option A → List ClassDef → List ℕ → List (Option A) → List (Option A)
visited finds ns stray cs [] own = own
visited finds ns stray cs (at ∷ order) own = visited finds ns stray cs order (visit_class finds ns stray (slice_get cs at) own at)
