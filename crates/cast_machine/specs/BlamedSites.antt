-- The sites that ends and fits name.
use Rattle.std.specs.Prelude.{◌≡◌, ◌⊎◌, ℕ, Bool, true, false, Some, slice_get}
use Rattle.mono_syntax.specs.Ty.{Ty}
use Rattle.mono_syntax.specs.declared.leaf.Kind.{Kind}
use Rattle.mono_syntax.specs.declared.leaf.Kind.TheVariants as kinds
use Rattle.mono_syntax.specs.declared.leaf.Site.{Site}
use Rattle.mono_syntax.specs.declared.cast.CastScript.{CastScript}
use Rattle.mono_tree.specs.Sites.{IsSite, IsSiteTo, loses_precision}

-- a site of this kind can be blamed: one of any kind but those of errors
abbrev pub is_blamed : Kind → Bool
is_blamed kinds.Arithmetic = false
is_blamed kinds.Name = false
is_blamed kind = true

-- site k is there, and of a kind that can be blamed
pub record IsBlamedSite (p : CastScript) (k : ℕ) : Type 0 where
  pub site : Site
  pub at : slice_get p.sites k ≡ Some site
  pub of_kind : is_blamed site.kind ≡ true

-- a blame of site k is right: it can be blamed, and isn't a Cast that only loses precision
abbrev pub IsRightBlame : CastScript → ℕ → Type 0
IsRightBlame p k = (loses_precision p k ≡ false) × IsBlamedSite p k

-- site k is that of a fit to t: a Cast whose target is t, an Argument, or a Return
abbrev pub IsFitSite : CastScript → ℕ → Ty → Type 0
IsFitSite p k t = IsSiteTo p k kinds.Cast t ⊎ (IsSite p k kinds.Argument ⊎ IsSite p k kinds.Return)
