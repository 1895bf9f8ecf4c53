-- Steps that may give nothing, taken apart.
use Rattle.std.proofs.Common.{◌≡◌, Result, Ok, Err, IfOk, refl, sym, subst}
use Rattle.std.specs.Prelude.{Option, Some, None, option_and_then}
use Rattle.std.specs.Option.{option_map}

pub then_some : {A B : Type 0} (f : A → Option B) (o : Option A) (y : B) → option_and_then f o ≡ Some y → (x : A) × (o ≡ Some x) × (f x ≡ Some y)
then_some f (Some x) y e = (x, refl, e)
then_some f None y e = absurd cc

pub map_some : {A B : Type 0} (f : A → B) (o : Option A) (y : B) → option_map f o ≡ Some y → (x : A) × (o ≡ Some x) × (f x ≡ y)
map_some f (Some x) y e = (x, refl, cc)
map_some f None y e = absurd cc

-- what is given is this value, of which that holds
pub ok_so : {A E : Type 0} (P : A → Type 0) (r : Result A E) (x : A) → IfOk r (λ y. y ≡ x) → P x → IfOk r P
ok_so P (Ok y) x e h = subst P (sym e) h
ok_so P (Err f) x e h = tt
