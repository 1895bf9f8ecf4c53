-- Sites, and where one stands.
use Rattle.std.specs.Prelude.{◌≡◌, ℕ, ◌+◌, List, [], ◌∷◌, Bool, true, false, Option, Some, None, slice_get}
use Rattle.mono_syntax.specs.declared.leaf.Kind.{Kind}
use Rattle.mono_syntax.specs.declared.leaf.Place.{Place}
use Rattle.mono_syntax.specs.declared.leaf.Site.{Site}
use Rattle.mono_syntax.specs.Expr.{Expr}
use Rattle.mono_syntax.specs.Ty.{Ty, dyn}
use Rattle.mono_tree.specs.Static.{is_static}
use Rattle.script_rules.specs.SourcePlaces.{place_of}
use Rattle.cast_rules.specs.declared.site.TypedSite.{TypedSite}

abbrev pub site_from : Place → Kind → Ty → Ty → TypedSite
site_from p k s t = record { place = p; kind = k; source = s; target = t }

-- a site of a kind that has no types; it has `Dyn` for both
abbrev pub plain_site : Place → Kind → TypedSite
plain_site p k = site_from p k dyn dyn

-- ---- a site that stands or doesn't

abbrev pub site_unless : Bool → TypedSite → Option TypedSite
site_unless true x = None
site_unless false x = Some x

-- what goes to a place of type t is tested there once more where t isn't fully static
abbrev pub tested_site : Kind → Place → Ty → Ty → Option TypedSite
tested_site k p s t = site_unless (is_static t) (site_from p k s t)

-- one for each expression, which has the first type and goes to the second
abbrev pub tested_sites : Kind → List Expr → List Ty → List Ty → List (Option TypedSite)
tested_sites k (e ∷ es) (s ∷ ss) (t ∷ ts) = tested_site k (place_of e) s t ∷ tested_sites k es ss ts
tested_sites k es ss ts = []

-- where the first of these types is `Dyn`
abbrev pub site_at_dyn : Kind → Place → List Ty → Option TypedSite
site_at_dyn k p (dyn ∷ ts) = Some (plain_site p k)
site_at_dyn k p ts = None

-- ---- sites in a row

-- those that stand
abbrev pub standing : List (Option TypedSite) → List TypedSite
standing [] = []
standing (None ∷ xs) = standing xs
standing (Some x ∷ xs) = x ∷ standing xs

-- their numbers, where the first that stands has number n
abbrev pub numbered : ℕ → List (Option TypedSite) → List (Option ℕ)
numbered n [] = []
numbered n (None ∷ xs) = None ∷ numbered n xs
numbered n (Some x ∷ xs) = Some n ∷ numbered (n + 1) xs

-- ---- the sites of a script, which have their types by position

pub record IsSiteOf (types : List Ty) (f : TypedSite) (x : Site) : Type 0 where
  pub place : x.place ≡ f.place
  pub kind : x.kind ≡ f.kind
  pub source : slice_get types x.source.0 ≡ Some f.source
  pub target : slice_get types x.target.0 ≡ Some f.target

abbrev pub AreSites : List Ty → List TypedSite → List Site → Type 0
AreSites types [] [] = Unit {0}
AreSites types (f ∷ fs) (x ∷ xs) = IsSiteOf types f x × AreSites types fs xs
AreSites types fs xs = ⊥
