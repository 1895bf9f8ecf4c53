-- Computed: ranks of classes, by which most classes are known not to lead back to themselves.
use Rattle.std.specs.Prelude.{◌≡◌, ◌≤◌, ℕ, Bool, true, false, ◌&&◌, ◌||◌, not, nat_lt, nat_le, List, [], ◌∷◌, Option, Some, None, Contains, slice_get, unwrap_or}
use Rattle.mono_syntax.specs.declared.leaf.Word.{Word}
use Rattle.mono_syntax.specs.declared.refusal.Refusal.{Refusal}
use Rattle.mono_syntax.specs.declared.tree.ClassDef.{ClassDef}
use Rattle.script_rules.specs.Definitions.{class_named}
use Rattle.script_rules.specs.FirstFault.{no_later}
use Rattle.script_rules.specs.Recursion.{field_names}
use Rattle.class_types.specs.computed.Leading.{recursive_at}
use Rattle.class_types.specs.computed.Made.{names_of_classes}
use Rattle.name_places.specs.Places.{place_in}

abbrev pub rank_at : List ℕ → Option ℕ → ℕ
rank_at ranks None = 0
rank_at ranks (Some i) = unwrap_or (slice_get ranks i) 0

-- the rank of the class of a name; without such a class the least
abbrev pub rank_of : List (List ℕ) → List ℕ → List ℕ → ℕ
rank_of ns ranks x = rank_at ranks (place_in ns x)

-- no class has a higher rank than one whose fields name it
abbrev pub NeverRise : List ClassDef → List ℕ → Type 0
NeverRise cs ranks = (x : List ℕ) (d : ClassDef) (w : Word) → class_named cs x ≡ Some d → Contains (field_names d.fields) w
    → rank_of (names_of_classes cs) ranks w.text ≤ rank_of (names_of_classes cs) ranks x

-- one of these names has a class of a higher rank than this one
abbrev pub rises : List (List ℕ) → List ℕ → List ℕ → List Word → Bool
rises ns ranks x [] = false
rises ns ranks x (w ∷ ws) = nat_lt (rank_of ns ranks x) (rank_of ns ranks w.text) || rises ns ranks x ws

-- this fault comes before the first of those so far
abbrev pub is_before : Refusal → Option Refusal → Bool
is_before r None = true
is_before r (Some s) = not (no_later s r)

-- one of these names stands before the first fault so far, and its class's rank isn't below this one's
abbrev pub may_be_first : List (List ℕ) → List ℕ → List ℕ → Option Refusal → List Word → Bool
may_be_first ns ranks x so_far [] = false
may_be_first ns ranks x so_far (w ∷ ws) = (nat_le (rank_of ns ranks x) (rank_of ns ranks w.text) && is_before (recursive_at w.place) so_far) || may_be_first ns ranks x so_far ws
