-- An answer that is the computed meet has what a meet is promised.
use Rattle.std.proofs.Common.{◌≡◌, ◌↔◌, refl, sym}
use Rattle.std.specs.Prelude.{Option, Some, None, Result, Ok, Err, IfOk, IfSome, IsNone}
use Rattle.mono_syntax.specs.Ty.{Ty}
use Rattle.mono_tree.specs.IsType.{IsType}
use Rattle.mono_tree.specs.Meet.{IsMeet, AreApart, meet_of}
use Rattle.mono_tree.proofs.LowerBounds.{meets_type}
use Rattle.mono_tree.proofs.MeetMade.{made, meet_is, none_apart}

pub greatest : {E : Type 0} (r : Result (Option Ty) E) (a b : Ty) → IfOk r (λ found. found ≡ meet_of a b) → IfOk r (λ found. IfSome found (λ m. IsMeet m a b))
greatest (Ok (Some m)) a b h = meet_is a b m (sym h)
greatest (Ok None) a b h = tt
greatest (Err e) a b h = tt

pub apart : {E : Type 0} (r : Result (Option Ty) E) (a b : Ty) → IfOk r (λ found. found ≡ meet_of a b) → IfOk r (λ found. IsNone found ↔ AreApart a b)
apart (Ok (Some m)) a b h = (λ n. cc, λ n. let is = meet_is a b m (sym h) in absurd (n m is.left is.right))
apart (Ok None) a b h = (λ n. none_apart a b (sym h), λ n. refl)
apart (Err e) a b h = tt

pub kept : {E : Type 0} (r : Result (Option Ty) E) (a b : Ty) → IfOk r (λ found. found ≡ meet_of a b) → IfOk r (λ found. IfSome found (λ m. IsType a → IsType b → IsType m))
kept (Ok (Some m)) a b h = meets_type (made a b m (sym h))
kept (Ok None) a b h = tt
kept (Err e) a b h = tt
