-- Ways to go by cases on a test, an option or a result that stands inside a goal.
use Rattle.std.proofs.Common.{◌≡◌, Bool, true, false, Option, Some, None, refl}

pub some_is : {A : Type 0} {x y : A} → Some x ≡ Some y → x ≡ y
some_is e = cc

pub none_some : {A : Type 0} {x : A} (B : Type 0) → None ≡ Some x → B
none_some B e = absurd cc

pub some_none : {A : Type 0} {x : A} (B : Type 0) → Some x ≡ None → B
some_none B e = absurd cc

-- a goal that holds a test, by the test's two answers
pub split : (b : Bool) (P : Bool → Type 0) → (b ≡ true → P true) → (b ≡ false → P false) → P b
split true P t f = t refl
split false P t f = f refl

-- a goal by the two cases of an option
pub split_option : {A : Type 0} (o : Option A) (P : Option A → Type 0) → (o ≡ None → P None) → ((x : A) → o ≡ Some x → P (Some x)) → P o
split_option None P none some = none refl
split_option (Some x) P none some = some x refl
