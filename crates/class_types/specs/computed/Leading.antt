-- Computed: how the classes are found that lead to a class: in rounds, in which each class is marked that names a marked one.
use Rattle.std.specs.Prelude.{◌≡◌, ◌⊎◌, ℕ, ◌+◌, Bool, true, false, ◌||◌, List, [], ◌∷◌, Option, Some, None, slice_get, slice_set, unwrap_or, is_some, bytes_eq, if◌then◌else◌}
use Rattle.mono_syntax.specs.declared.leaf.Place.{Place}
use Rattle.mono_syntax.specs.declared.leaf.Word.{Word}
use Rattle.mono_syntax.specs.declared.refusal.Reason.TheVariants.{RecursiveClass}
use Rattle.mono_syntax.specs.declared.refusal.Refusal.{Refusal}
use Rattle.mono_syntax.specs.declared.tree.ClassDef.{ClassDef}
use Rattle.script_rules.specs.Definitions.{class_named}
use Rattle.script_rules.specs.FirstFault.{no_later}
use Rattle.class_types.specs.computed.FoundFaults.{first_from, found, In}
use Rattle.class_types.specs.computed.Made.{names_of_classes}
use Rattle.name_places.specs.Places.{place_in}
use Rattle.script_rules.specs.Recursion.{Leads, field_names}
use Rattle.std.specs.Prelude.{Contains}

abbrev pub marked_at : List Bool → Option ℕ → Bool
marked_at marks None = false
marked_at marks (Some i) = unwrap_or (slice_get marks i) false

-- the class of this name is marked
abbrev pub is_marked : List (List ℕ) → List Bool → List ℕ → Bool
is_marked ns marks x = marked_at marks (place_in ns x)

abbrev pub recursive_at : Place → Refusal
recursive_at p = record { place = p; reason = RecursiveClass }

-- the name of a marked class
abbrev pub word_fault : List (List ℕ) → List Bool → Word → List Refusal
word_fault ns marks w = if is_marked ns marks w.text then recursive_at w.place ∷ [] else []

-- a class of this name, or one whose fields name a marked class
abbrev pub leads_now : List (List ℕ) → List Bool → List ℕ → ClassDef → Bool
leads_now ns marks y d = bytes_eq d.name.text y || is_some (found (word_fault ns marks) None (field_names d.fields))

abbrev pub put_mark : List Bool → ℕ → Option Bool → Bool → List Bool
put_mark marks at (Some false) true = slice_set marks at true
put_mark marks at _ _ = marks

abbrev pub mark : List (List ℕ) → List ℕ → ClassDef → List Bool → ℕ → List Bool
mark ns y d marks at = put_mark marks at (slice_get marks at) (leads_now ns marks y d)

abbrev pub mark_round : List (List ℕ) → List ℕ → List ClassDef → List Bool → ℕ → List Bool
mark_round ns y [] marks at = marks
mark_round ns y (d ∷ ds) marks at = mark_round ns y ds (mark ns y d marks at) (at + 1)

-- the class at a place, where one stands there
abbrev pub visit_mark : List (List ℕ) → List ℕ → Option ClassDef → List Bool → ℕ → List Bool
visit_mark ns y None marks at = marks
visit_mark ns y (Some d) marks at = mark ns y d marks at

-- the classes at these places, one after the other
abbrev pub visit_marks : List (List ℕ) → List ℕ → List ClassDef → List ℕ → List Bool → List Bool
visit_marks ns y cs [] marks = marks
visit_marks ns y cs (at ∷ order) marks = visit_marks ns y cs order (visit_mark ns y (slice_get cs at) marks at)

abbrev pub unmarked : List Bool → ℕ
unmarked [] = 0
unmarked (true ∷ marks) = unmarked marks
unmarked (false ∷ marks) = unmarked marks + 1

-- the marked classes are those that lead to the class of the name y
pub record AreLeading (cs : List ClassDef) (y : List ℕ) (marks : List Bool) : Type 0 where
  pub sound : (x : List ℕ) → is_marked (names_of_classes cs) marks x ≡ true → Leads cs x y
  pub complete : (x : List ℕ) (c : ClassDef) → class_named cs y ≡ Some c → Leads cs x y → is_marked (names_of_classes cs) marks x ≡ true

-- in this class's fields a name leads back to it, at this place
pub record LeadsBack (cs : List ClassDef) (d : ClassDef) (p : Place) : Type 0 where
  pub name : Word
  pub counts : class_named cs d.name.text ≡ Some d
  pub stands : Contains (field_names d.fields) name
  pub leads : Leads cs name.text d.name.text
  pub place : p ≡ name.place

-- the first fault so far doesn't come after this one
abbrev pub IsCovered : Option Refusal → Refusal → Type 0
IsCovered so_far r = (s : Refusal) × (so_far ≡ Some s) × (no_later s r ≡ true)

-- the first of the faults so far and those of the class at a place, where it is the first of its name; of those that come
-- after the first so far some may be left out
pub record AddsFaults (cs : List ClassDef) (d : ClassDef) (at : ℕ) (so_far more : Option Refusal) : Type 0 where
  pub faults : List Refusal
  pub first : more ≡ first_from so_far faults
  pub sound : (r : Refusal) → In r faults → LeadsBack cs d r.place × (r.reason ≡ RecursiveClass)
  pub complete : (p : Place) → place_in (names_of_classes cs) d.name.text ≡ Some at → LeadsBack cs d p → In (recursive_at p) faults ⊎ IsCovered so_far (recursive_at p)
