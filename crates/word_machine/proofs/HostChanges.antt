-- One host changes, and what is known of one thread: all else that stands for the word machine stays.
use Rattle.std.proofs.Common.{◌≡◌, ◌<◌, ◌≤◌, ℕ, zero, suc, ◌+◌, Bool, true, false, List, [], ◌∷◌, ◌++◌, length, Option, Some, None}
use Rattle.std.proofs.Common.{nat_eq, if◌then◌else◌, refl, sym, ap, ◌∙◌, subst, arith, slice_get}
use Rattle.std.proofs.lemmas.Bool.{and_parts, false≢true}
use Rattle.mono_list.proofs.Cases.{none_some, some_is}
use Rattle.mono_syntax.specs.declared.value.Val.{Val}
use Rattle.mono_syntax.specs.declared.cast.CastScript.{CastScript}
use Rattle.cast_machine.specs.Cells.{same_type}
use Rattle.cast_machine.proofs.Heap.{nat_eq-same, nat_eq-refl}
use Rattle.cast_machine.proofs.Obligations.{same_type-eq}
use Rattle.word_machine.specs.Hosts.{Header, HEmpty, HFunc, HClaimed, Slot, same_header, Host, Idle, Claims, Loads, Runs, Starts, Refused}
use Rattle.word_machine.specs.Hosts.{Hosts, put}
use Rattle.word_machine.specs.Seats.{Seat}
use Rattle.word_machine.specs.StandsFor.{Known, ByStarter, ByWords, ByClaimer, IsReady}
use Rattle.word_machine.specs.StandsFor.{IsStarted, IsClaimed, IsKnown, Knows, StandsFor}
use Rattle.word_machine.specs.Ticks.{Core}

-- ---- functions that change at one place

pub put_here : {A : Type 0} (f : ℕ → A) (n : ℕ) (x : A) → put f n x n ≡ x
put_here f n x = ap (λ b. if b then x else f n) (nat_eq-refl n)

pub put_at : {A : Type 0} (f : ℕ → A) (n u : ℕ) (x : A) → nat_eq n u ≡ true → put f n x u ≡ x
put_at f n u x e = ap (λ b. if b then x else f u) e

pub put_other : {A : Type 0} (f : ℕ → A) (n u : ℕ) (x : A) → nat_eq n u ≡ false → put f n x u ≡ f u
put_other f n u x e = ap (λ b. if b then x else f u) e

pub unlike : (t v : ℕ) → t < v → nat_eq v t ≡ false
unlike t v i = grind arith

pub not_same : (n : ℕ) → nat_eq n n ≡ false → ⊥
not_same n e = false≢true (sym e ∙ nat_eq-refl n)

pub there : {A : Type 0} (l : List A) (t : ℕ) → t < length l → (x : A) × (slice_get l t ≡ Some x)
there [] t i = absurd (omega arith)
there (x ∷ l) zero i = (x, refl)
there (x ∷ l) (suc t) i = there l t (omega arith)

-- which host a thread is known from
abbrev pub owner : Known → Option ℕ
owner (ByStarter h) = Some h
owner ByWords = None
owner (ByClaimer h) = Some h

abbrev zeros : Slot
zeros = record { header = HEmpty; args = [] }

-- ---- one host changes, and what is known of one thread

pub record Changes (p : CastScript) (k : Hosts) (c : Core) (st : StandsFor p k c) (h v : ℕ) (x : Host) (kn : Known) (k' : Hosts)
    (c' : Core) : Type 0 where
  pub words : k'.words ≡ c'.words
  pub made : k'.made ≡ length c'.seats
  pub longer : length c.seats ≤ length c'.seats
  pub here : k'.hosts h ≡ x
  pub others : (g : ℕ) → nat_eq h g ≡ false → k'.hosts g ≡ k.hosts g
  pub slots : (u : ℕ) → nat_eq v u ≡ false → k'.slots u ≡ k.slots u
  pub seats : (u : ℕ) (q : Seat) → nat_eq v u ≡ false → slice_get c'.seats u ≡ Some q → slice_get c.seats u ≡ Some q
  pub starters : (u : ℕ) (q : Seat) (args : List Val) → nat_eq v u ≡ false → IsStarted p u q args (k.hosts h) → IsStarted p u q args x
  pub claimers : (u : ℕ) (q : Seat) (args : List Val) → nat_eq v u ≡ false → IsClaimed p u q args (k.hosts h) → IsClaimed p u q args x
  pub place : (q : Seat) → slice_get c'.seats v ≡ Some q → IsKnown p k' v q kn
  pub knows : Knows (put st.known v kn) (length c'.seats) h x
  pub mine : v < length c.seats → (g : ℕ) → owner (st.known v) ≡ Some g → h ≡ g
  pub unmade : (u : ℕ) → length c'.seats < u + 1 → k'.slots u ≡ zeros

module _ (p : CastScript) (k : Hosts) (c : Core) (st : StandsFor p k c) (h v : ℕ) (x : Host) (kn : Known) (k' : Hosts) (c' : Core)
    (ch : Changes p k c st h v x kn k' c') where
  abbrev known' : ℕ → Known
  known' = put st.known v kn

  -- of another thread the same is known
  module _ (u : ℕ) (q : Seat) (d : nat_eq v u ≡ false) where
    same_args : (k.slots u).args ≡ (k'.slots u).args
    same_args = ap (λ (l : Slot). l.args) (sym (ch.slots u d))

    same_head : (k.slots u).header ≡ (k'.slots u).header
    same_head = ap (λ (l : Slot). l.header) (sym (ch.slots u d))

    by_host : (F : List Val → Host → Type 0) → ((args : List Val) → F args (k.hosts h) → F args x) → (g : ℕ)
        → F (k.slots u).args (k.hosts g) → F (k'.slots u).args (k'.hosts g)
    by_host F move g i = subst (λ l. F l (k'.hosts g)) same_args (go (nat_eq h g) refl)
      where
        go : (b : Bool) → nat_eq h g ≡ b → F (k.slots u).args (k'.hosts g)
        go true e =
            let same = nat_eq-same h g e in
            subst (λ j. F (k.slots u).args (k'.hosts j)) same
            (subst (λ y. F (k.slots u).args y) (sym ch.here)
            (move (k.slots u).args (subst (λ j. F (k.slots u).args (k.hosts j)) (sym same) i)))
        go false e = subst (λ y. F (k.slots u).args y) (sym (ch.others g e)) i

    move_known : (n : Known) → IsKnown p k u q n → IsKnown p k' u q n
    move_known (ByStarter g) i = (
      i.0,
      sym same_head ∙ i.1,
      by_host (λ args y. IsStarted p u q args y) (λ args j. ch.starters u q args d j) g i.2,
    )
    move_known ByWords i = subst (λ (l : Slot). IsReady p u q l.args l.header) (sym (ch.slots u d)) i
    move_known (ByClaimer g) i = (
      sym same_head ∙ i.0,
      by_host (λ args y. IsClaimed p u q args y) (λ args j. ch.claimers u q args d j) g i.1,
    )

  thread_at : (u : ℕ) (q : Seat) → slice_get c'.seats u ≡ Some q → (b : Bool) → nat_eq v u ≡ b → IsKnown p k' u q (known' u)
  thread_at u q e true d =
      let same = nat_eq-same v u d in
      subst (λ j. IsKnown p k' u q j) (sym (put_at st.known v u kn d))
      (subst (λ j. IsKnown p k' j q kn) same (ch.place q (subst (λ j. slice_get c'.seats j ≡ Some q) (sym same) e)))
  thread_at u q e false d = subst (λ j. IsKnown p k' u q j) (sym (put_other st.known v u kn d))
      (move_known u q d (st.known u) (st.threads u q (ch.seats u q d e)))

  -- another host knows the same
  module _ (g : ℕ) (d : nat_eq h g ≡ false) where
    keeps : (n : Known) → owner n ≡ Some g → (t : ℕ) → st.known t ≡ n → t < length c.seats → (known' t ≡ n) × (t < length c'.seats)
    keeps n o t e i = (go (nat_eq v t) refl, less t (length c.seats) (length c'.seats) i ch.longer)
      where
        less : (a b z : ℕ) → a < b → b ≤ z → a < z
        less a b z m l = omega arith

        go : (b : Bool) → nat_eq v t ≡ b → known' t ≡ n
        go true y =
            let same = nat_eq-same v t y in
            let mine = ch.mine (subst (λ j. j < length c.seats) (sym same) i) g (ap owner (ap st.known same ∙ e) ∙ o) in
            absurd (not_same g (subst (λ j. nat_eq j g ≡ false) mine d))
        go false y = put_other st.known v t kn y ∙ e

    knows_still : (y : Host) → Knows st.known (length c.seats) g y → Knows known' (length c'.seats) g y
    knows_still Idle i = tt
    knows_still (Claims t HEmpty) i = i
    knows_still (Claims t (HFunc f m)) i = tt
    knows_still (Claims t HClaimed) i = tt
    knows_still (Loads t f m loaded) i = keeps (ByClaimer g) refl t i.0 i.1
    knows_still (Runs t q) i = keeps (ByClaimer g) refl t i.0 i.1
    knows_still (Starts t q u f m left) i =
        let a = keeps (ByClaimer g) refl t i.0 i.1 in
        let b = keeps (ByStarter g) refl u i.2 i.3 in
        (a.0, a.1, b.0, b.1)
    knows_still Refused i = tt

  host_at : (g : ℕ) → (b : Bool) → nat_eq h g ≡ b → Knows known' (length c'.seats) g (k'.hosts g)
  host_at g true d = subst (λ j. Knows known' (length c'.seats) j (k'.hosts j)) (nat_eq-same h g d)
      (subst (λ y. Knows known' (length c'.seats) h y) (sym ch.here) ch.knows)
  host_at g false d = subst (λ y. Knows known' (length c'.seats) g y) (sym (ch.others g d)) (knows_still g d (k.hosts g) (st.hosts g))

  pub changes_ok : StandsFor p k' c'
  changes_ok = record {
    words = ch.words;
    made = ch.made;
    main = omega (arith, st.main, ch.longer);
    known = known';
    threads = λ u q e. thread_at u q e (nat_eq v u) refl;
    hosts = λ g. host_at g (nat_eq h g) refl;
    unmade = ch.unmade;
  }

pub same_header-eq : (a b : Header) → same_header a b ≡ true → a ≡ b
same_header-eq HEmpty HEmpty e = refl
same_header-eq (HFunc g m) (HFunc j n) e = let x = and_parts (nat_eq g j) (same_type m n) e in ap (λ i. HFunc i m) (nat_eq-same g j x.0)
    ∙ ap (HFunc j) (same_type-eq m n x.1)
same_header-eq HEmpty (HFunc g m) e = absurd (false≢true e)
same_header-eq HEmpty HClaimed e = absurd (false≢true e)
same_header-eq (HFunc g m) HEmpty e = absurd (false≢true e)
same_header-eq (HFunc g m) HClaimed e = absurd (false≢true e)
same_header-eq HClaimed b e = absurd (false≢true e)

abbrev pub header_kind : Header → Option ℕ
header_kind HEmpty = None
header_kind (HFunc g m) = Some 0
header_kind HClaimed = Some 1

abbrev pub is_claimed : Header → Bool
is_claimed HClaimed = true
is_claimed w = false

pub append_one : {A : Type 0} (xs : List A) (u : A) (left : List A) → (xs ++ u ∷ []) ++ left ≡ xs ++ u ∷ left
append_one [] u left = refl
append_one (x ∷ xs) u left = ap (λ l. x ∷ l) (append_one xs u left)

pub append_none : {A : Type 0} (l : List A) → l ++ [] ≡ l
append_none [] = refl
append_none (x ∷ l) = ap (λ r. x ∷ r) (append_none l)

pub get_behind : {A : Type 0} (l m : List A) → slice_get (l ++ m) (length l) ≡ slice_get m 0
get_behind [] m = refl
get_behind (x ∷ l) m = get_behind l m

-- the rest begins with what stands behind
pub rest_is : {A : Type 0} (m : List A) (x : A) → slice_get m 0 ≡ Some x → (r : List A) × (m ≡ x ∷ r)
rest_is [] x e = none_some _ e
rest_is (y ∷ m) x e = (m, ap (λ z. z ∷ m) (some_is e))

pub append_all : {A : Type 0} (xs ys zs : List A) → (xs ++ ys) ++ zs ≡ xs ++ (ys ++ zs)
append_all [] ys zs = refl
append_all (x ∷ xs) ys zs = ap (λ l. x ∷ l) (append_all xs ys zs)

pub length_more : {A : Type 0} (l m : List A) → length (l ++ m) ≡ length l + length m
length_more [] m = omega arith
length_more (x ∷ l) m = grind (arith, length_more l m)

pub length_none : {A : Type 0} (m : List A) → length m ≡ 0 → m ≡ []
length_none [] e = refl
length_none (x ∷ m) e = absurd (omega arith)
