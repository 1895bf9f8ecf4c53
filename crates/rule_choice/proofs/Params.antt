-- Parameters as a list.
use Rattle.std.proofs.Common.{◌≡◌, List}
use Rattle.mono_syntax.specs.Ty.{Ty}
use Rattle.mono_syntax.specs.TyView.{tys, tys_list}
use Rattle.mono_syntax.proofs.Lists.{tys_list-tys}

pub listed : (ps : List Ty) → tys_list (tys ps) ≡ ps
listed ps = tys_list-tys ps

pub ruleset params = (listed)
