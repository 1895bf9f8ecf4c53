-- Runs inside runs, and small facts about options and lists.
use Rattle.std.proofs.Common.{◌≡◌, List, [], ◌∷◌, ◌++◌, Option, Some, None, refl, ap}
use Rattle.mono_syntax.specs.declared.leaf.Place.{Place}
use Rattle.parse_expr.specs.declared.machine.TypeMode.{TypeMode}
use Rattle.parse_expr.specs.declared.machine.TypeMode.TheVariants as type_mode
use Rattle.parse_expr.specs.declared.machine.Weighed.{Weighed}
use Rattle.parse_expr.specs.computed.Goes.{Goes, stay, go}
use Rattle.parse_expr.specs.computed.Reading.{step}
use Rattle.parse_expr.specs.computed.TypeReading.{type_step, type_finish}
use Rattle.parse_expr.specs.declared.machine.Mode.{Mode}
use Rattle.parse_expr.specs.declared.machine.Mode.TheVariants as mode
use Rattle.parse_expr.proofs.Goes.{then}
use Rattle.mono_syntax.specs.Limits.{greatest_weight}
use Rattle.spelled_tokens.specs.declared.token.Spelled.{Spelled}

-- a place, where any will do
abbrev pub here : Place
here = record { line = 1; column = 1 }

none_is : {A : Type 0} {x : A} → None ≡ Some x → ⊥
none_is e = cc

pub none_some : {A : Type 0} {x : A} (B : Type 0) → None ≡ Some x → B
none_some B e = absurd (none_is e)

pub some_is : {A : Type 0} {x y : A} → Some x ≡ Some y → x ≡ y
some_is e = cc

pub nil_cons : {A : Type 0} {x : A} {xs : List A} (B : Type 0) → ◌≡◌ {A = List A} [] (x ∷ xs) → B
nil_cons B e = absurd cc

pub head_is : {A : Type 0} {x y : A} {xs ys : List A} → ◌≡◌ {A = List A} (x ∷ xs) (y ∷ ys) → x ≡ y
head_is e = cc

pub tail_is : {A : Type 0} {x y : A} {xs ys : List A} → ◌≡◌ {A = List A} (x ∷ xs) (y ∷ ys) → xs ≡ ys
tail_is e = cc

-- an option is none, or holds something
pub split_option : {A : Type 0} (o : Option A) (P : Type 0) → (o ≡ None → P) → ((x : A) → o ≡ Some x → P) → P
split_option None P f g = f refl
split_option (Some x) P f g = g x refl

pub type_finished : (m : TypeMode) (a : Weighed) → type_finish m ≡ Some a → m ≡ type_mode.Have [] a.ann a.weight
type_finished (type_mode.Want k) a e = none_some _ e
type_finished (type_mode.Outer p k) a e = none_some _ e
type_finished (type_mode.Inner p k) a e = none_some _ e
type_finished (type_mode.First p k) a e = none_some _ e
type_finished (type_mode.Between p xs v k) a e = none_some _ e
type_finished (type_mode.Have [] t w) a e = ap (λ (x : Weighed). type_mode.Have [] x.ann x.weight) (some_is e)
type_finished (type_mode.Have (f ∷ k) t w) a e = none_some _ e

-- a run of one step
pub one : {S T : Type 0} (step : S → T → Option S) (s n : S) (t : T) → step s t ≡ Some n → Goes step s (t ∷ []) n
one step s n t e = go s n n t [] e (stay n)

-- ---- states of the readers of types and expressions that are reached

abbrev pub ReachedType : TypeMode → Type 0
ReachedType m = (ts : List Spelled) × Goes (type_step greatest_weight) (type_mode.Want []) ts m

pub reached_start : ReachedType (type_mode.Want [])
reached_start = ([], stay (type_mode.Want []))

pub reached_more : (m n : TypeMode) (t : Spelled) → ReachedType m → type_step greatest_weight m t ≡ Some n → ReachedType n
reached_more m n t r e = (r.0 ++ (t ∷ []), then (type_step greatest_weight) (type_mode.Want []) m n r.0 (t ∷ []) r.1 (one (type_step greatest_weight) m n t e))

abbrev pub Reached : Mode → Type 0
Reached m = (ts : List Spelled) × Goes (step greatest_weight) (mode.Want []) ts m

pub begins : Reached (mode.Want [])
begins = ([], stay (mode.Want []))

pub goes_on : (m n : Mode) (t : Spelled) → Reached m → step greatest_weight m t ≡ Some n → Reached n
goes_on m n t r e = (r.0 ++ (t ∷ []), then (step greatest_weight) (mode.Want []) m n r.0 (t ∷ []) r.1 (one (step greatest_weight) m n t e))
