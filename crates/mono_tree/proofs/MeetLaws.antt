-- The laws of meets, from precision being an order and the meet being greatest.
use Rattle.std.proofs.Common.{◌≡◌, ◌↔◌, refl, sym, ap, ◌∙◌}
use Rattle.std.specs.Prelude.{Option, Some, None, IsSome, option_and_then}
use Rattle.mono_syntax.specs.Ty.{Ty}
use Rattle.mono_tree.specs.Precise.{Precise}
use Rattle.mono_tree.specs.Meet.{IsMeet, AreApart, meet_of, meet_three}
use Rattle.mono_tree.proofs.Order.{reflexive, transitive, antisymmetric}
use Rattle.mono_tree.proofs.LowerBounds.{meets_exist, meets_is}
use Rattle.mono_tree.proofs.MeetMade.{meet-made, meet_is, none_apart}

-- ---- by what a meet is

-- a meet of three types, by two of its groupings
abbrev FromLeft : Ty → Ty → Ty → Ty → Type 0
FromLeft n a b c = (m : Ty) × (IsMeet m a b × IsMeet n m c)

abbrev FromRight : Ty → Ty → Ty → Ty → Type 0
FromRight n a b c = (m : Ty) × (IsMeet m b c × IsMeet n a m)

pub meet_comm : (m a b : Ty) → IsMeet m a b → IsMeet m b a
meet_comm m a b h = record { left = h.right; right = h.left; greatest = λ x p q. h.greatest x q p }

pub meet_same : (a : Ty) → IsMeet a a a
meet_same a = record { left = reflexive a; right = reflexive a; greatest = λ x p q. p }

pub meet_unique : (m n a b : Ty) → IsMeet m a b → IsMeet n a b → m ≡ n
meet_unique m n a b h k = antisymmetric (k.greatest m h.left h.right) (h.greatest n k.left k.right)

pub meet_exists : (x a b : Ty) → Precise x a → Precise x b → (m : Ty) × IsMeet m a b
meet_exists x a b p q = let made = meets_exist p q in (made.0, meets_is made.1)

pub meet_to_right : (n a b c : Ty) → FromLeft n a b c → FromRight n a b c
meet_to_right n a b c (m, (h, k)) =
    let first : Precise n a = transitive k.left h.left in
    let second : Precise n b = transitive k.left h.right in
    let made : (p : Ty) × IsMeet p b c = meet_exists n b c second k.right in
    let p = made.1 in (
      made.0,
      (
        p,
        record {
          left = first;
          right = p.greatest n second k.right;
          greatest = λ x u v. k.greatest x (h.greatest x u (transitive v p.left)) (transitive v p.right);
        },
      ),
    )

pub meet_to_left : (n a b c : Ty) → FromRight n a b c → FromLeft n a b c
meet_to_left n a b c (m, (h, k)) =
    let turned : FromRight n c b a = meet_to_right n c b a (m, (meet_comm m b c h, meet_comm n a m k)) in
    (turned.0, (meet_comm _ _ _ turned.1.0, meet_comm _ _ _ turned.1.1))

-- ---- by the computed meet

pub computed : (a b m : Ty) → IsMeet m a b → meet_of a b ≡ Some m
computed a b m h =
    let found = meets_exist h.left h.right in
    meet-made found.1 ∙ ap Some (meet_unique found.0 m a b (meets_is found.1) h)

pub meet_decides : (a b m : Ty) → meet_of a b ≡ Some m ↔ IsMeet m a b
meet_decides a b m = (meet_is a b m, computed a b m)

pub none_decides : (a b : Ty) → meet_of a b ≡ None ↔ AreApart a b
none_decides a b = (none_apart a b, go (meet_of a b) refl)
  where
    go : (o : Option Ty) → meet_of a b ≡ o → AreApart a b → meet_of a b ≡ None
    go None e h = e
    go (Some m) e h = let made = meet_is a b m e in absurd (h m made.left made.right)

pub some_below : (x a b : Ty) → Precise x a → Precise x b → IsSome (meet_of a b)
some_below x a b p q = let found = meets_exist p q in rw (meet-made found.1) refl

same_options : (x y : Option Ty) → ((m : Ty) → x ≡ Some m → y ≡ Some m) → ((m : Ty) → y ≡ Some m → x ≡ Some m) → x ≡ y
same_options None None f g = refl
same_options None (Some m) f g = g m refl
same_options (Some m) y f g = sym (f m refl)

pub meet-swap : (a b : Ty) → meet_of a b ≡ meet_of b a
meet-swap a b =
    same_options (meet_of a b) (meet_of b a) (λ m e. computed b a m (meet_comm m a b (meet_is a b m e))) (λ m e. computed a b m (meet_comm m b a (meet_is b a m e)))

pub meet-itself : (a : Ty) → meet_of a a ≡ Some a
meet-itself a = computed a a a (meet_same a)

and_then-some : (f : Ty → Option Ty) (o : Option Ty) (n : Ty) → option_and_then f o ≡ Some n → (m : Ty) × ((o ≡ Some m) × (f m ≡ Some n))
and_then-some f (Some m) n e = (m, (refl, e))
and_then-some f None n e = cc

-- equal also where there is none
pub meet-regroup : (a b c : Ty) → option_and_then (λ m. meet_of m c) (meet_of a b) ≡ option_and_then (λ m. meet_of a m) (meet_of b c)
meet-regroup a b c = same_options _ _ to_right to_left
  where
    to_right : (n : Ty) → option_and_then (λ m. meet_of m c) (meet_of a b) ≡ Some n → option_and_then (λ m. meet_of a m) (meet_of b c) ≡ Some n
    to_right n e =
        let (m, (d, f)) = and_then-some (λ m. meet_of m c) (meet_of a b) n e in
        let (p, (h, k)) = meet_to_right n a b c (m, (meet_is a b m d, meet_is m c n f)) in
        rw (computed b c p h) (computed a p n k)

    to_left : (n : Ty) → option_and_then (λ m. meet_of a m) (meet_of b c) ≡ Some n → option_and_then (λ m. meet_of m c) (meet_of a b) ≡ Some n
    to_left n e =
        let (m, (d, f)) = and_then-some (λ m. meet_of a m) (meet_of b c) n e in
        let (p, (h, k)) = meet_to_left n a b c (m, (meet_is b c m d, meet_is a m n f)) in
        rw (computed a b p h) (computed p c n k)

-- the meet of three does not ask which two come first, nor in which order
pub meet_three-swap : (a b c : Ty) → meet_three a b c ≡ meet_three b a c
meet_three-swap a b c = ap (option_and_then (λ m. meet_of m c)) (meet-swap a b)

pub meet_three-turn : (a b c : Ty) → meet_three a b c ≡ meet_three b c a
meet_three-turn a b c = meet-regroup a b c ∙ go (meet_of b c)
  where
    go : (o : Option Ty) → option_and_then (λ m. meet_of a m) o ≡ option_and_then (λ m. meet_of m a) o
    go None = refl
    go (Some m) = meet-swap a m
