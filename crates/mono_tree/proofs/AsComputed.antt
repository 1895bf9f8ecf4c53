-- What the answers of `precise`, `is_static` and `meet` are, by the tests and the computed meet.
use Rattle.std.proofs.Common.{◌≡◌, ◌↔◌, Bool, IsTrue, refl, sym}
use Rattle.std.specs.Prelude.{Option, Some, None, IfSome, IsNone}
use Rattle.std.specs.Bool.{one_answer}
use Rattle.mono_syntax.specs.Ty.{Ty}
use Rattle.mono_tree.specs.Precise.{Precise}
use Rattle.mono_tree.specs.Precision.{precise}
use Rattle.mono_tree.specs.Static.{IsStatic, is_static}
use Rattle.mono_tree.specs.Meet.{IsMeet, AreApart, meet_of}
use Rattle.mono_tree.proofs.PreciseTest.{precise-Decides, is_static-Decides}
use Rattle.mono_tree.proofs.MeetLaws.{computed, none_decides}

pub is_precise : (t : Bool) (a b : Ty) → IsTrue t ↔ Precise a b → t ≡ precise a b
is_precise t a b h = one_answer t (precise a b) h (precise-Decides a b)

pub is_is_static : (t : Bool) (a : Ty) → IsTrue t ↔ IsStatic a → t ≡ is_static a
is_is_static t a h = one_answer t (is_static a) h (is_static-Decides a)

pub is_meet : (found : Option Ty) (a b : Ty) → IfSome found (λ m. IsMeet m a b) → IsNone found ↔ AreApart a b → found ≡ meet_of a b
is_meet (Some m) a b h k = sym (computed a b m h)
is_meet None a b h k = sym ((none_decides a b).1 (k.0 refl))

pub ruleset as_computed = (is_precise, is_is_static, is_meet)
