-- The tests of types are what the relations say.
use Rattle.std.proofs.Common.{◌≡◌, Bool, true, false, IsTrue, ◌↔◌, refl, sym}
use Rattle.std.specs.Prelude.{Option, Some, None, Result, Ok, Err, IfOk, IfSome, IsNone}
use Rattle.std.specs.Bool.{Decides}
use Rattle.mono_syntax.specs.Ty.{Ty}
use Rattle.mono_tree.specs.Precise.{Precise}
use Rattle.mono_tree.specs.Precision.{precise}
use Rattle.mono_tree.specs.Static.{IsStatic, is_static}
use Rattle.mono_tree.specs.Meet.{meet_of, IsMeet, AreApart}
use Rattle.mono_tree.proofs.PreciseTest.{precise-Decides, is_static-Decides}
use Rattle.mono_tree.proofs.MeetLaws.{computed, none_decides}

-- two tests of one fact
decided : (P : Type 0) (b c : Bool) → IsTrue b ↔ P → Decides c P → b ≡ c
decided P true true h d = refl
decided P false false h d = refl
decided P true false h d = sym (d.1 (h.0 refl))
decided P false true h d = h.1 (d.0 refl)

pub is_precise : (b : Bool) (x y : Ty) → IsTrue b ↔ Precise x y → b ≡ precise x y
is_precise b x y h = decided (Precise x y) b (precise x y) h (precise-Decides x y)

pub is_fully_static : (b : Bool) (x : Ty) → IsTrue b ↔ IsStatic x → b ≡ is_static x
is_fully_static b x h = decided (IsStatic x) b (is_static x) h (is_static-Decides x)

pub is_meet : {E : Type 0} (r : Result (Option Ty) E) (a b : Ty) → IfOk r (λ m. IfSome m (λ m. IsMeet m a b)) → IfOk r (λ m. IsNone m ↔ AreApart a b) → IfOk r (λ m. m ≡ meet_of a b)
is_meet (Ok (Some m)) a b found none = sym (computed a b m found)
is_meet (Ok None) a b found none = sym ((none_decides a b).1 (none.0 refl))
is_meet (Err e) a b found none = tt
