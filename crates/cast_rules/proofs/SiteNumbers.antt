-- The number of a site that stands is its place in the list of all sites.
use Rattle.std.proofs.Common.{◌≡◌, ℕ, zero, suc, List, [], ◌∷◌, ◌++◌, length, Option, Some, None, slice_get, refl, sym, ◌∙◌, ap, subst, append_assoc}
use Rattle.std.proofs.lemmas.List.{length-append}
use Rattle.mono_list.proofs.Cases.{none_some, some_is}
use Rattle.mono_syntax.specs.declared.cast.CastScript.{CastScript}
use Rattle.mono_syntax.specs.declared.leaf.Kind.{Kind}
use Rattle.mono_syntax.specs.declared.leaf.Site.{Site}
use Rattle.mono_syntax.specs.Ty.{Ty}
use Rattle.mono_tree.specs.Sites.{IsSite, IsSiteTo, HasSite, HasSiteTo}
use Rattle.cast_rules.specs.declared.site.TypedSite.{TypedSite}
use Rattle.cast_rules.specs.Sites.{standing, numbered, IsSiteOf, AreSites}
use Rattle.cast_rules.proofs.Extending.{Extends}

get_behind : (ss : List TypedSite) (x : TypedSite) (zs : List TypedSite) → slice_get (ss ++ x ∷ zs) (length ss) ≡ Some x
get_behind [] x zs = refl
get_behind (y ∷ ss) x zs = get_behind ss x zs

-- the site behind a front stands at its length
pub stands : (ss : List TypedSite) (x : TypedSite) (zs all : List TypedSite) → Extends (ss ++ x ∷ zs) all → slice_get all (length ss) ≡ Some x
stands ss x zs all f = subst (λ (l : List TypedSite). slice_get l (length ss) ≡ Some x) (sym (f.is ∙ append_assoc ss (x ∷ zs) f.more)) (get_behind ss x (zs ++ f.more))

-- ---- numbers of sites that stand or don't

-- the number of this site in the list of all
abbrev pub HasNumber : List TypedSite → Option ℕ → TypedSite → Type 0
HasNumber all None x = ⊥
HasNumber all (Some n) x = slice_get all n ≡ Some x

abbrev pub IsNumber : List TypedSite → Option ℕ → Option TypedSite → Type 0
IsNumber all k None = k ≡ None
IsNumber all k (Some x) = HasNumber all k x

abbrev pub AreNumbers : List TypedSite → List (Option ℕ) → List (Option TypedSite) → Type 0
AreNumbers all [] [] = Unit {0}
AreNumbers all (k ∷ ks) (o ∷ os) = IsNumber all k o × AreNumbers all ks os
AreNumbers all ks os = ⊥

pub are_numbers : (vs : List TypedSite) (os : List (Option TypedSite)) (all : List TypedSite) → Extends (vs ++ standing os) all
    → AreNumbers all (numbered (length vs) os) os
are_numbers vs [] all f = tt
are_numbers vs (None ∷ os) all f = (refl, are_numbers vs os all f)
are_numbers vs (Some x ∷ os) all f =
    let front : Extends ((vs ++ x ∷ []) ++ standing os) all = subst (λ (l : List TypedSite). Extends l all) (sym (append_assoc vs (x ∷ []) (standing os))) f in
    let rest = are_numbers (vs ++ x ∷ []) os all front in
    (stands vs x (standing os) all f, subst (λ (n : ℕ). AreNumbers all (numbered n os) os) (length-append vs (x ∷ [])) rest)

-- ---- the sites of the script

pub record FoundSite (types : List Ty) (sites : List Site) (k : ℕ) (f : TypedSite) : Type 0 where
  pub site : Site
  pub at : slice_get sites k ≡ Some site
  pub is : IsSiteOf types f site

pub found_site : (types : List Ty) (fs : List TypedSite) (xs : List Site) (k : ℕ) (f : TypedSite) → AreSites types fs xs → slice_get fs k ≡ Some f → FoundSite types xs k f
found_site types [] xs k f h e = none_some (FoundSite types xs k f) e
found_site types (g ∷ fs) [] k f h e = absurd h
found_site types (g ∷ fs) (x ∷ xs) zero f h e = record { site = x; at = refl; is = subst (λ (z : TypedSite). IsSiteOf types z x) (some_is e) h.0 }
found_site types (g ∷ fs) (x ∷ xs) (suc k) f h e =
    let r = found_site types fs xs k f h.1 e in
    record { site = r.site; at = r.at; is = r.is }

module _ (p : CastScript) (all : List TypedSite) (sites : AreSites p.types all p.sites) where
  pub is_site : (k : ℕ) (f : TypedSite) (of_kind : Kind) → f.kind ≡ of_kind → slice_get all k ≡ Some f → IsSite p k of_kind
  is_site k f of_kind q e = let r = found_site p.types all p.sites k f sites e in record { site = r.site; at = r.at; of_kind = r.is.kind ∙ q }

  pub is_site_to : (k : ℕ) (f : TypedSite) (of_kind : Kind) (t : Ty) → f.kind ≡ of_kind → f.target ≡ t → slice_get all k ≡ Some f → IsSiteTo p k of_kind t
  is_site_to k f of_kind t q g e =
      let r = found_site p.types all p.sites k f sites e in
      record { site = r.site; at = r.at; of_kind = r.is.kind ∙ q; target = r.is.target ∙ ap Some g }

  pub has_site : (k : Option ℕ) (f : TypedSite) (of_kind : Kind) → f.kind ≡ of_kind → HasNumber all k f → HasSite p k of_kind
  has_site None f of_kind q e = e
  has_site (Some k) f of_kind q e = is_site k f of_kind q e

  pub has_site_to : (k : Option ℕ) (f : TypedSite) (of_kind : Kind) (t : Ty) → f.kind ≡ of_kind → f.target ≡ t → HasNumber all k f → HasSiteTo p k of_kind t
  has_site_to None f of_kind t q g e = e
  has_site_to (Some k) f of_kind t q g e = is_site_to k f of_kind t q g e
