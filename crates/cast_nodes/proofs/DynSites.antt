-- A site that stands where the first type is `Dyn`.
use Rattle.std.proofs.Common.{◌≡◌, true, false, List, ◌∷◌, refl}
use Rattle.std.specs.Prelude.{Some, None}
use Rattle.mono_syntax.specs.declared.leaf.Kind.{Kind}
use Rattle.mono_syntax.specs.declared.leaf.Place.{Place}
use Rattle.mono_syntax.specs.Ty.{Ty, dyn, int, bool, str, nil, fun, obj}
use Rattle.cast_rules.specs.Sites.{plain_site, site_at_dyn}
use Rattle.known_names.specs.computed.TypeTests.{is_dyn}

pub stands_at_dyn : (k : Kind) (p : Place) (t : Ty) (ts : List Ty) → is_dyn t ≡ true → site_at_dyn k p (t ∷ ts) ≡ Some (plain_site p k)
stands_at_dyn k p dyn ts e = refl
stands_at_dyn k p int ts e = absurd cc
stands_at_dyn k p bool ts e = absurd cc
stands_at_dyn k p str ts e = absurd cc
stands_at_dyn k p nil ts e = absurd cc
stands_at_dyn k p (fun ps t) ts e = absurd cc
stands_at_dyn k p (obj fs) ts e = absurd cc

pub none_at_others : (k : Kind) (p : Place) (t : Ty) (ts : List Ty) → is_dyn t ≡ false → site_at_dyn k p (t ∷ ts) ≡ None
none_at_others k p dyn ts e = absurd cc
none_at_others k p int ts e = refl
none_at_others k p bool ts e = refl
none_at_others k p str ts e = refl
none_at_others k p nil ts e = refl
none_at_others k p (fun ps t) ts e = refl
none_at_others k p (obj fs) ts e = refl

pub ruleset first_dyn = (stands_at_dyn, none_at_others)
