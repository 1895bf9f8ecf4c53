-- The first of a name is found by its place.
use Rattle.std.proofs.Common.{◌≡◌, cond, ℕ, List, [], ◌∷◌, map, refl, sym, ◌∙◌, ap}
use Rattle.std.specs.Prelude.{Option, Some, None, bytes_eq, slice_get}
use Rattle.std.specs.Option.{option_map}
use Rattle.mono_list.proofs.Cases.{split}
use Rattle.mono_syntax.specs.declared.cast.NamedType.{NamedType}
use Rattle.mono_tree.specs.TypedPrograms.{type_of_name}
use Rattle.name_places.specs.Places.{place_in, first_named}
use Rattle.name_places.proofs.FoundLaws.{found_at, found_none}
use Rattle.known_names.specs.declared.known.KnownClass.{KnownClass}
use Rattle.known_names.specs.computed.KnownNames.{known_class}

-- ---- types

type_first : (ns : List NamedType) (x : List ℕ) → option_map (λ (n : NamedType). n.ty) (first_named (λ (n : NamedType). n.name) ns x) ≡ type_of_name ns x
type_first [] x = refl
type_first (n ∷ ns) x =
    split (bytes_eq n.name x) (λ b. option_map (λ (k : NamedType). k.ty) (cond b (Some n) (first_named (λ (k : NamedType). k.name) ns x)) ≡ cond b (Some n.ty) (type_of_name ns x))
    (λ y. refl) (λ f. type_first ns x)

pub type_there : (ns : List NamedType) (x : List ℕ) (i : ℕ) (o : Option NamedType) → place_in (map (λ n. n.name) ns) x ≡ Some i → o ≡ slice_get ns i → option_map (λ (n : NamedType). n.ty) o ≡ type_of_name ns x
type_there ns x i o e at = ap (λ (z : Option NamedType). option_map (λ (n : NamedType). n.ty) z) (at ∙ found_at (λ (n : NamedType). n.name) x ns i e) ∙ type_first ns x

pub type_nowhere : (ns : List NamedType) (x : List ℕ) → place_in (map (λ n. n.name) ns) x ≡ None → None ≡ type_of_name ns x
type_nowhere ns x e = sym (ap (λ (z : Option NamedType). option_map (λ (n : NamedType). n.ty) z) (found_none (λ (n : NamedType). n.name) x ns e)) ∙ type_first ns x

-- ---- classes

class_first : (ks : List KnownClass) (x : List ℕ) → first_named (λ (k : KnownClass). k.name) ks x ≡ known_class ks x
class_first [] x = refl
class_first (k ∷ ks) x =
    split (bytes_eq k.name x) (λ b. cond b (Some k) (first_named (λ (j : KnownClass). j.name) ks x) ≡ cond b (Some k) (known_class ks x))
    (λ y. refl) (λ f. class_first ks x)

pub class_there : (ks : List KnownClass) (x : List ℕ) (i : ℕ) → place_in (map (λ k. k.name) ks) x ≡ Some i → slice_get ks i ≡ known_class ks x
class_there ks x i e = found_at (λ (k : KnownClass). k.name) x ks i e ∙ class_first ks x

pub class_nowhere : (ks : List KnownClass) (x : List ℕ) → place_in (map (λ k. k.name) ks) x ≡ None → None ≡ known_class ks x
class_nowhere ks x e = sym (found_none (λ (k : KnownClass). k.name) x ks e) ∙ class_first ks x
