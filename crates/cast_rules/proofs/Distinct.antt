-- A type stands at one place of a list of different types, and so a list of sites is written in one way.
use Rattle.std.proofs.Common.{◌≡◌, ℕ, zero, suc, List, [], ◌∷◌, Some, slice_get, refl, sym, ◌∙◌, ap, arith}
use Rattle.std.specs.Prelude.{Contains}
use Rattle.mono_list.proofs.Cases.{some_is, none_some}
use Rattle.mono_syntax.specs.declared.leaf.Site.{Site}
use Rattle.mono_syntax.specs.Ty.{Ty}
use Rattle.mono_tree.specs.ClosedList.{AreDistinct}
use Rattle.cast_rules.specs.declared.site.TypedSite.{TypedSite}
use Rattle.cast_rules.specs.Sites.{IsSiteOf, AreSites}

pub get_Contains : {A : Type 0} (ts : List A) (i : ℕ) (t : A) → slice_get ts i ≡ Some t → Contains ts t
get_Contains [] i t e = none_some (Contains [] t) e
get_Contains (u ∷ ts) zero t e = (0, omega arith, some_is e)
get_Contains (u ∷ ts) (suc i) t e = let c = get_Contains ts i t e in (suc c.0, omega (arith, c.1), c.2)

pub one_place : (ts : List Ty) (i j : ℕ) (t : Ty) → AreDistinct ts → slice_get ts i ≡ Some t → slice_get ts j ≡ Some t → i ≡ j
one_place [] i j t d e f = none_some (i ≡ j) e
one_place (u ∷ ts) zero zero t d e f = refl
one_place (u ∷ ts) zero (suc j) t d e f = absurd (d.0 (get_Contains ts j u (f ∙ ap Some (sym (some_is e)))))
one_place (u ∷ ts) (suc i) zero t d e f = absurd (d.0 (get_Contains ts i u (e ∙ ap Some (sym (some_is f)))))
one_place (u ∷ ts) (suc i) (suc j) t d e f = ap suc (one_place ts i j t d.1 e f)

one_site : (types : List Ty) (f : TypedSite) (x y : Site) → AreDistinct types → IsSiteOf types f x → IsSiteOf types f y → x ≡ y
one_site types f x y d h i =
    let place : x.place ≡ y.place = h.place ∙ sym i.place in
    let kinds : x.kind ≡ y.kind = h.kind ∙ sym i.kind in
    let source : x.source.0 ≡ y.source.0 = one_place types x.source.0 y.source.0 f.source d h.source i.source in
    let target : x.target.0 ≡ y.target.0 = one_place types x.target.0 y.target.0 f.target d h.target i.target in
    λ j. record { place = place j; kind = kinds j; source = record { 0 = source j }; target = record { 0 = target j } }

pub sites_once : (types : List Ty) (fs : List TypedSite) (xs ys : List Site) → AreDistinct types → AreSites types fs xs → AreSites types fs ys → xs ≡ ys
sites_once types [] [] [] d h i = refl
sites_once types [] [] (y ∷ ys) d h i = absurd i
sites_once types [] (x ∷ xs) ys d h i = absurd h
sites_once types (f ∷ fs) [] ys d h i = absurd h
sites_once types (f ∷ fs) (x ∷ xs) [] d h i = absurd i
sites_once types (f ∷ fs) (x ∷ xs) (y ∷ ys) d h i =
    let first = one_site types f x y d h.0 i.0 in
    let rest = sites_once types fs xs ys d h.1 i.1 in
    λ j. first j ∷ rest j
