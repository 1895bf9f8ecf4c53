-- Which type a shape stands for, where a number stands for the type at its place of a list.
use Rattle.std.specs.Prelude.{◌≡◌, ℕ, ◌<◌, List, [], ◌∷◌, Option, Some, None, slice_get}
use Rattle.mono_syntax.specs.Ty.{Ty, dyn, int, bool, str, nil, fun, obj, Fields, no_fields, more_fields}
use Rattle.mono_syntax.specs.TyView.{tys_list}
use Rattle.mono_tree.specs.FieldNames.{names_of}
use Rattle.mono_tree.specs.Meet.{meet_of}
use Rattle.type_shapes.specs.declared.shape.Head.{Head}
use Rattle.type_shapes.specs.declared.shape.Head.TheVariants.{Dyn, Int, Bool as Boolean, Str, Nil, Fun, Obj}
use Rattle.type_shapes.specs.declared.shape.Shape.{Shape}
use Rattle.type_shapes.specs.computed.ByNumber.{entry}

-- the types of fields, in their order
abbrev pub types_of : Fields → List Ty
types_of no_fields = []
types_of (more_fields n t fs) = t ∷ types_of fs

-- the parts of a type, a function's result first
abbrev pub kids : Ty → List Ty
kids (fun ps r) = r ∷ tys_list ps
kids (obj fs) = types_of fs
kids _ = []

-- each number is that of the type at its place
abbrev pub AreNamed : List Ty → List ℕ → List Ty → Type 0
AreNamed ts [] [] = Unit {0}
AreNamed ts (n ∷ ns) (u ∷ us) = (slice_get ts n ≡ Some u) × AreNamed ts ns us
AreNamed ts _ _ = ⊥

-- each number is below n
abbrev pub AreBelow : ℕ → List ℕ → Type 0
AreBelow n [] = Unit {0}
AreBelow n (k ∷ ks) = (k < n) × AreBelow n ks

-- the head is that of the type: an object's number is that of its field names
abbrev pub HasHead : List (List (List ℕ)) → Head → Ty → Type 0
HasHead names h dyn = h ≡ Dyn
HasHead names h int = h ≡ Int
HasHead names h bool = h ≡ Boolean
HasHead names h str = h ≡ Str
HasHead names h nil = h ≡ Nil
HasHead names h (fun ps r) = h ≡ Fun
HasHead names h (obj fs) = (g : ℕ) × (h ≡ Obj g) × (slice_get names g ≡ Some (names_of fs))

-- the shape stands for the type
pub record Shows (names : List (List (List ℕ))) (ts : List Ty) (s : Shape) (t : Ty) : Type 0 where
  pub head : HasHead names s.head t
  pub parts : AreNamed ts s.parts (kids t)

-- a number for a type that may not exist
abbrev pub IsNamed : List Ty → Option ℕ → Option Ty → Type 0
IsNamed ts None None = Unit {0}
IsNamed ts (Some k) (Some t) = slice_get ts k ≡ Some t
IsNamed ts _ _ = ⊥

-- the rows below n hold the numbers of the meets
pub record AreMeets (ts : List Ty) (rows : List (List (Option ℕ))) (n : ℕ) : Type 0 where
  pub at : (a b : ℕ) → b < a → a < n → (x y : Ty) → slice_get ts a ≡ Some x → slice_get ts b ≡ Some y
      → IsNamed ts (entry rows a b) (meet_of y x)

-- the number of the meet of the types of two numbers, or none where they have no meet
abbrev pub IsMetNumber : List Ty → ℕ → ℕ → Option ℕ → Type 0
IsMetNumber ts a b o = (x y : Ty) → slice_get ts a ≡ Some x → slice_get ts b ≡ Some y → IsNamed ts o (meet_of x y)

-- nothing stands at two places
abbrev pub IsOnce : {X : Type 0} → List X → Type 0
IsOnce {X} xs = (i j : ℕ) (x : X) → slice_get xs i ≡ Some x → slice_get xs j ≡ Some x → i ≡ j

-- a shape for a type that may not exist
abbrev pub IsShown : List (List (List ℕ)) → List Ty → Option Shape → Option Ty → Type 0
IsShown names ts None None = Unit {0}
IsShown names ts (Some s) (Some t) = Shows names ts s t
IsShown names ts _ _ = ⊥
