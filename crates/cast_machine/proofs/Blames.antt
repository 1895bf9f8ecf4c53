-- A site that is no Cast may be blamed.
use Rattle.cast_machine.specs.BlamedSites.{IsFitSite, is_blamed, IsBlamedSite}
use Rattle.std.proofs.Common.{inl, inr, None, Option, Some, ap, false, slice_get, ℕ, ◌&&◌, ◌∙◌, ◌≡◌, sym, true, refl}
use Rattle.mono_syntax.specs.Ty.{Ty}
use Rattle.mono_syntax.specs.declared.cast.CastScript.{CastScript}
use Rattle.mono_syntax.specs.declared.leaf.Kind.{Kind}
use Rattle.mono_syntax.specs.declared.leaf.Kind.TheVariants as kinds
use Rattle.mono_syntax.specs.declared.leaf.Site.{Site}
use Rattle.mono_list.proofs.Cases.{some_is}
use Rattle.mono_tree.specs.CastScripts.{target_in, target_of}
use Rattle.mono_tree.specs.Sites.{HasSite, HasSiteTo, IsSite, is_cast, site_loses, types_lose, loses_precision}
use Rattle.cast_machine.proofs.Obligations.{HasFree, IsFree}
use Rattle.cast_machine.proofs.ValueLists.{site_of}

loses_none : (p : CastScript) (k : ℕ) (kind : Kind) → IsSite p k kind → is_cast kind ≡ false → loses_precision p k ≡ false
loses_none p k kind i e = ap (site_loses p) i.at ∙ ap (λ b. b && types_lose (slice_get p.types (i.site).source.0) (slice_get p.types (i.site).target.0)) (ap is_cast i.of_kind ∙ e)

pub blamed_site : (p : CastScript) (k : ℕ) (kind : Kind) → IsSite p k kind → is_blamed kind ≡ true → IsBlamedSite p k
blamed_site p k kind i e = record { site = i.site; at = i.at; of_kind = ap is_blamed i.of_kind ∙ e }

pub free_site : (p : CastScript) (k : ℕ) (kind : Kind) → IsSite p k kind → is_cast kind ≡ false → is_blamed kind ≡ true → IsFree p k
free_site p k kind i e b = (loses_none p k kind i e, blamed_site p k kind i b)

pub has_free : (p : CastScript) (k : Option ℕ) (kind : Kind) → HasSite p k kind → is_cast kind ≡ false → is_blamed kind ≡ true → HasFree p k
has_free p None kind i e b = i
has_free p (Some k) kind i e b = free_site p k kind i e b

pub has_free_to : (p : CastScript) (k : Option ℕ) (kind : Kind) (T : Ty) → HasSiteTo p k kind T → is_cast kind ≡ false → is_blamed kind ≡ true → HasFree p k
has_free_to p None kind T i e b = i
has_free_to p (Some k) kind T i e b = free_site p k kind (site_of i) e b

-- ---- the site of a fit

pub fit_blamed : (p : CastScript) (k : ℕ) (T : Ty) → IsFitSite p k T → IsBlamedSite p k
fit_blamed p k T (inl i) = blamed_site p k kinds.Cast (site_of i) refl
fit_blamed p k T (inr (inl i)) = blamed_site p k kinds.Argument i refl
fit_blamed p k T (inr (inr i)) = blamed_site p k kinds.Return i refl

same_kind : (p : CastScript) (k : ℕ) (a b : Kind) → IsSite p k a → IsSite p k b → a ≡ b
same_kind p k a b i j = sym i.of_kind ∙ ap (λ (s : Site). s.kind) (some_is (sym i.at ∙ j.at)) ∙ j.of_kind

-- at a Cast site it is a fit to the site's target
pub fit_target : (p : CastScript) (k : ℕ) (U T : Ty) → IsFitSite p k U → IsSite p k kinds.Cast → target_of p k ≡ Some T → U ≡ T
fit_target p k U T (inl i) c e = some_is (sym (ap (target_in p) i.at ∙ i.target) ∙ e)
fit_target p k U T (inr (inl i)) c e = let z : kinds.Argument ≡ kinds.Cast = same_kind p k kinds.Argument kinds.Cast i c in absurd cc
fit_target p k U T (inr (inr i)) c e = let z : kinds.Return ≡ kinds.Cast = same_kind p k kinds.Return kinds.Cast i c in absurd cc
