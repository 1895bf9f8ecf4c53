-- The sites of a script with casts.
use Rattle.std.specs.Prelude.{◌≡◌, ℕ, Bool, true, false, ◌&&◌, Option, Some, None, slice_get}
use Rattle.mono_syntax.specs.Ty.{Ty}
use Rattle.mono_syntax.specs.declared.leaf.Kind.{Kind}
use Rattle.mono_syntax.specs.declared.leaf.Kind.TheVariants as kinds
use Rattle.mono_syntax.specs.declared.leaf.Site.{Site}
use Rattle.mono_syntax.specs.declared.cast.CastScript.{CastScript}
use Rattle.mono_tree.specs.Precision.{precise}

-- site k is of this kind
pub record IsSite (p : CastScript) (k : ℕ) (kind : Kind) : Type 0 where
  pub site : Site
  pub at : slice_get p.sites k ≡ Some site
  pub of_kind : site.kind ≡ kind

-- site k is of this kind, and its target is t
pub record IsSiteTo (p : CastScript) (k : ℕ) (kind : Kind) (t : Ty) : Type 0 where
  pub site : Site
  pub at : slice_get p.sites k ≡ Some site
  pub of_kind : site.kind ≡ kind
  pub target : slice_get p.types site.target.0 ≡ Some t

-- a site of this kind is there
abbrev pub HasSite : CastScript → Option ℕ → Kind → Type 0
HasSite p None kind = ⊥
HasSite p (Some k) kind = IsSite p k kind

abbrev pub HasSiteTo : CastScript → Option ℕ → Kind → Ty → Type 0
HasSiteTo p None kind t = ⊥
HasSiteTo p (Some k) kind t = IsSiteTo p k kind t

-- no site is there
abbrev pub HasNoSite : Option ℕ → Type 0
HasNoSite o = o ≡ None

-- ---- casts that only lose precision

abbrev pub is_cast : Kind → Bool
is_cast kinds.Cast = true
is_cast kind = false

abbrev pub types_lose : Option Ty → Option Ty → Bool
types_lose (Some s) (Some t) = precise s t
types_lose s t = false

abbrev pub site_loses : CastScript → Option Site → Bool
site_loses p None = false
site_loses p (Some s) = is_cast s.kind && types_lose (slice_get p.types s.source.0) (slice_get p.types s.target.0)

-- whether the site is of kind Cast and its source is at least as precise as its target
abbrev pub loses_precision : CastScript → ℕ → Bool
loses_precision p k = site_loses p (slice_get p.sites k)
