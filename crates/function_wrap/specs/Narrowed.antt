-- A function value keeps one merged type: the meet of its declared type and of every type that it was cast to.
use Rattle.std.specs.Prelude.{◌≡◌, List, Option, Some, None}
use Rattle.mono_syntax.specs.Ty.{Ty}
use Rattle.mono_syntax.specs.declared.value.FnValue.{FnValue}
use Rattle.mono_tree.specs.Meet.{AreApart, IsMeet}
use Rattle.mono_tree.specs.TypeNumbers.{Names}

-- the same function, merged to the meet m of its merged type and another
pub record IsNarrowed (types : List Ty) (f : FnValue) (a b : Ty) (g : FnValue) : Type 0 where
  pub same : g.func ≡ f.func
  pub meet : Ty
  pub names : Names types g.merged meet
  pub is_meet : IsMeet meet a b

-- what a cast of f, whose merged type is a, to b leaves of it: the narrowed function, or none where a and b have no meet
abbrev pub Narrows : List Ty → FnValue → Ty → Ty → Option FnValue → Type 0
Narrows types f a b (Some g) = IsNarrowed types f a b g
Narrows types f a b None = AreApart a b
