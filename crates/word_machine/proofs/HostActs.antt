-- An act of a host stands for a tick of its thread, or for none.
use Rattle.std.proofs.Common.{◌≡◌, ⊎_elim, ◌<◌, ◌≤◌, ℕ, ◌+◌, Bool, true, false, List, [], ◌∷◌, ◌++◌, length, Option, Some, None}
use Rattle.std.proofs.Common.{nat_eq, nat_le, nat_lt, if◌then◌else◌, refl, sym, ap, ◌∙◌, subst, arith, slice_get, slice_set}
use Rattle.std.proofs.lemmas.Bool.{false≢true, leb-false}
use Rattle.std.proofs.lemmas.Option.{slice_get_within}
use Rattle.mono_list.proofs.Cases.{none_some, some_is}
use Rattle.mono_syntax.specs.Ty.{Ty}
use Rattle.mono_syntax.specs.declared.value.Val.{Val}
use Rattle.mono_syntax.specs.declared.cast.CastScript.{CastScript}
use Rattle.mono_syntax.specs.declared.cast.CastFunction.{CastFunction}
use Rattle.cast_machine.specs.declared.data.Settings.{Settings}
use Rattle.cast_machine.proofs.Heap.{nat_eq-same, on_test}
use Rattle.cast_machine.proofs.ThreadLists.{set_cases, set_here, length-slice_set}
use Rattle.word_machine.specs.Hosts.{Header, HEmpty, HFunc, HClaimed, Slot, same_header, Host, Claims, Loads, Runs, Starts, Refused}
use Rattle.word_machine.specs.Hosts.{Hosts, put, arity, main_seat, first_seat, loading, claimed}
use Rattle.word_machine.specs.Seats.{Seat, fresh_seat}
use Rattle.word_machine.specs.StandsFor.{Begun, Known, ByStarter, ByWords, ByClaimer, IsReady}
use Rattle.word_machine.specs.StandsFor.{IsStarted, IsClaimed, IsKnown, Knows, StandsFor}
use Rattle.word_machine.specs.Ticks.{Core}
use Rattle.word_machine.specs.Words.{Words}
use Rattle.word_machine.specs.Hosts as TheHosts
use Rattle.word_machine.proofs.HostChanges.{append_none, append_one, changes_ok, get_behind, header_kind, is_claimed, length_more}
use Rattle.word_machine.proofs.HostChanges.{length_none, not_same, owner, put_here, put_other, rest_is, same_header-eq, there}

module _ (p : CastScript) (k : Hosts) (c : Core) (st : StandsFor p k c) (h : ℕ) where
  -- ---- the host alone changes

  module _ (x : Host) (starters : (u : ℕ) (q : Seat) (args : List Val) → IsStarted p u q args (k.hosts h) → IsStarted p u q args x)
      (claimers : (u : ℕ) (q : Seat) (args : List Val) → IsClaimed p u q args (k.hosts h) → IsClaimed p u q args x)
      (knows : (known : ℕ → Known) → Knows known (length c.seats) h x) where
    pub alone_ok : StandsFor p (record k { hosts = put k.hosts h x }) c
    alone_ok = changes_ok p k c st h (length c.seats) x ByWords (record k { hosts = put k.hosts h x }) c
        (record {
          words = st.words;
          made = st.made;
          longer = omega arith;
          here = put_here k.hosts h x;
          others = λ g e. put_other k.hosts h g x e;
          slots = λ u e. refl;
          seats = λ u q e i. i;
          starters = λ u q args e i. starters u q args i;
          claimers = λ u q args e i. claimers u q args i;
          place = λ q e. let i = slice_get_within c.seats (length c.seats) q e in absurd (omega (arith, i));
          knows = knows (put st.known (length c.seats) ByWords);
          mine = λ i g e. absurd (omega (arith, i));
          unmade = st.unmade;
        })

  -- a thread with such a header is made
  pub header_made : (t g : ℕ) (m : Ty) → (k.slots t).header ≡ HFunc g m → (b : Bool) → nat_lt t (length c.seats) ≡ b → t < length c.seats
  header_made t g m i true z = yes t (length c.seats) z
    where
      yes : (a b : ℕ) → nat_lt a b ≡ true → a < b
      yes a b y = grind arith
  header_made t g m i false z = none_some _ (ap (λ (l : Slot). header_kind l.header) (sym (st.unmade t (past t (length c.seats) z)))
      ∙ ap header_kind i)
    where
      past : (a b : ℕ) → nat_lt a b ≡ false → b < a + 1
      past a b y = grind arith

  pub header_begun : (t g : ℕ) (m : Ty) → (k.slots t).header ≡ HFunc g m → (n : Known) (q : Seat) → IsKnown p k t q n → (owner n ≡ None)
      × Begun p g m (k.slots t).args q
  header_begun t g m i (ByStarter g') q y = none_some _ (ap header_kind (sym y.1 ∙ i))
  header_begun t g m i ByWords q y = (refl, (subst (λ a. IsReady p t q (k.slots t).args a) i y).1)
  header_begun t g m i (ByClaimer g') q y = absurd (false≢true (ap is_claimed (sym i ∙ y.0)))

  -- ---- a thread that is claimed

  -- the seat of the thread that the host has claimed
  pub claimed_seat : (t : ℕ) → st.known t ≡ ByClaimer h → t < length c.seats → (q : Seat) × (slice_get c.seats t ≡ Some q)
      × ((k.slots t).header ≡ HClaimed) × IsClaimed p t q (k.slots t).args (k.hosts h)
  claimed_seat t e i =
      let x = there c.seats t i in
      let y = subst (λ n. IsKnown p k t x.0 n) e (st.threads t x.0 x.1) in
      (x.0, x.1, y.0, y.1)

  loading_started : (t g : ℕ) (m : Ty) (loaded : List Val) (u : ℕ) (q : Seat) (args : List Val) → IsStarted p u q args (Loads t g m loaded)
      → ⊥
  loading_started t g m loaded u q args i = i

  abbrev Loaded : ℕ → Seat → Host → Type 0
  Loaded t q x = ((known : ℕ → Known) → known t ≡ ByClaimer h → t < length c.seats → Knows known (length c.seats) h x)
      × ((args : List Val) → (k.slots t).args ≡ args → IsClaimed p t q args x)

  -- so many arguments are loaded: it loads the next one, or runs
  loading_ok : (t g : ℕ) (m : Ty) (loaded rest : List Val) (q : Seat) → Begun p g m (k.slots t).args q → (k.slots t).args ≡ loaded ++ rest
      → Loaded t q (loading p t g m loaded)
  loading_ok t g m loaded rest q b e = go (nat_le (arity m) (length loaded)) refl
    where
      runs : (o : Option CastFunction) → slice_get p.functions g ≡ o → nat_le (arity m) (length loaded) ≡ true
          → Loaded t q (first_seat o t m loaded)
      runs None i y = none_some _ (sym i ∙ b.at)
      runs (Some d) i y =
          let all : rest ≡ [] = length_none rest
          (short (length rest) (length loaded) (arity m) (sym (length_more loaded rest) ∙ ap length (sym e) ∙ b.many) y) in
          let args : (k.slots t).args ≡ loaded = e ∙ ap (λ l. loaded ++ l) all ∙ append_none loaded in (
            (λ known j less. (j, less)),
            (λ as' j. (
              refl,
              ap (λ l. fresh_seat d m l) (sym args) ∙ ap (λ z. fresh_seat z m (k.slots t).args) (some_is (sym i ∙ b.at))
                  ∙ sym b.is,
            )),
          )
        where
          short : (r l n : ℕ) → l + r ≡ n → nat_le n l ≡ true → r ≡ 0
          short r l n j z = grind arith

      go : (z : Bool) → nat_le (arity m) (length loaded) ≡ z
          → Loaded t q (if z then first_seat (slice_get p.functions g) t m loaded else Loads t g m loaded)
      go true y = runs (slice_get p.functions g) refl y
      go false y = (
        (λ known j less. (j, less)),
        (λ args' j. (refl, subst (λ l. Begun p g m l q) j b, (rest, sym j ∙ e), leb-false (arity m) (length loaded) y)),
      )

  -- ---- a claim

  module _ (t : ℕ) (w : Header) (x : k.hosts h ≡ Claims t w) where
    no_start : (u : ℕ) (q : Seat) (args : List Val) (y : Host) → IsStarted p u q args (k.hosts h) → IsStarted p u q args y
    no_start u q args y i = absurd (subst (λ z. IsStarted p u q args z) x i)

    no_claim : (u : ℕ) (q : Seat) (args : List Val) (y : Host) → IsClaimed p u q args (k.hosts h) → IsClaimed p u q args y
    no_claim u q args y i = absurd (subst (λ z. IsClaimed p u q args z) x i)

    refused_ok : StandsFor p (record k { hosts = put k.hosts h Refused }) c
    refused_ok = alone_ok Refused (λ u q args i. no_start u q args Refused i) (λ u q args i. no_claim u q args Refused i) (λ known. tt)

    abbrev after : Hosts
    after = record k { slots = put k.slots t (record (k.slots t) { header = HClaimed }); hosts = put k.hosts h (claimed p t w) }

    -- the thread is made, is known from its words, and becomes this host's
    kept_by : t < length c.seats → owner (st.known t) ≡ None → ((q : Seat) → slice_get c.seats t ≡ Some q → Loaded t q (claimed p t w))
        → StandsFor p after c
    kept_by less none loaded = changes_ok p k c st h t (claimed p t w) (ByClaimer h) after c
        (record {
          words = st.words;
          made = st.made;
          longer = omega arith;
          here = put_here k.hosts h (claimed p t w);
          others = λ g e. put_other k.hosts h g (claimed p t w) e;
          slots = λ u e. put_other k.slots t u (record (k.slots t) { header = HClaimed }) e;
          seats = λ u q e i. i;
          starters = λ u q args e i. no_start u q args (claimed p t w) i;
          claimers = λ u q args e i. no_claim u q args (claimed p t w) i;
          place = λ q e. (
            ap (λ (l : Slot). l.header) (put_here k.slots t (record (k.slots t) { header = HClaimed })),
            subst (λ y. IsClaimed p t q ((put k.slots t (record (k.slots t) { header = HClaimed })) t).args y)
                (sym (put_here k.hosts h (claimed p t w)))
                ((loaded q e).1 ((put k.slots t (record (k.slots t) { header = HClaimed })) t).args
                (sym (ap (λ (l : Slot). l.args) (put_here k.slots t (record (k.slots t) { header = HClaimed }))))),
          );
          knows = let q = there c.seats t less in (loaded q.0 q.1).0 (put st.known t (ByClaimer h))
              (put_here st.known t (ByClaimer h)) less;
          mine = λ i g e. none_some _ (sym none ∙ e);
          unmade = λ u i. put_other k.slots t u (record (k.slots t) { header = HClaimed }) (apart t u less i) ∙ st.unmade u i;
        })
      where
        apart : (a b : ℕ) → a < length c.seats → length c.seats < b + 1 → nat_eq a b ≡ false
        apart a b i j = grind arith

    -- main
    main_claim : w ≡ HEmpty → (k.slots t).header ≡ HEmpty → StandsFor p after c
    main_claim e i =
        let zero_t : t ≡ 0 = subst (λ y. Knows st.known (length c.seats) h y) (x ∙ ap (Claims t) e) (st.hosts h) in
        let less : t < length c.seats = subst (λ n. n < length c.seats) (sym zero_t) st.main in
        let q = there c.seats t less in
        let f = from (st.known t) zero_t q.0 (st.threads t q.0 q.1) in
        kept_by less f.0 (λ r at. subst (λ y. Loaded t r (claimed p t y)) (sym e) (
          (λ known j m. (j, m)),
          (λ args j. (refl, sym f.1 ∙ some_is (sym q.1 ∙ at))),
        ))
      where
        from : (n : Known) → t ≡ 0 → (q : Seat) → IsKnown p k t q n → (owner n ≡ None) × (q ≡ main_seat p)
        from (ByStarter g) z q y = let a = y.0 in absurd (omega (arith, a, z))
        from ByWords z q y = (refl, (subst (λ a. IsReady p t q (k.slots t).args a) i y).1)
        from (ByClaimer g) z q y = none_some _ (ap header_kind (sym i ∙ y.0))

    -- another thread
    func_claim : (g : ℕ) (m : Ty) → w ≡ HFunc g m → (k.slots t).header ≡ HFunc g m → StandsFor p after c
    func_claim g m e i =
        let less = header_made t g m i (nat_lt t (length c.seats)) refl in
        let q = there c.seats t less in
        let f = header_begun t g m i (st.known t) q.0 (st.threads t q.0 q.1) in
        kept_by less f.0
        (λ r at. subst (λ y. Loaded t r (claimed p t y)) (sym e)
        (loading_ok t g m [] (k.slots t).args r (subst (λ z. Begun p g m (k.slots t).args z) (some_is (sym q.1 ∙ at)) f.1) refl))

    claim_by : (v : Header) → w ≡ v → (k.slots t).header ≡ v → same_header v v ≡ true → StandsFor p after c
    claim_by HEmpty e i z = main_claim e i
    claim_by (HFunc g m) e i z = func_claim g m e i
    claim_by HClaimed e i z = absurd (false≢true z)

  pub claim_ok : (s : Settings) (t : ℕ) (w : Header) → k.hosts h ≡ Claims t w → StandsFor p (TheHosts.claims p s k h t w) c
  claim_ok s t w x =
      on_test (same_header w (k.slots t).header) _ _ (λ y. StandsFor p y c)
      (λ yes'. let e = same_header-eq w (k.slots t).header yes' in claim_by t w x w refl (sym e)
      (subst (λ y. same_header w y ≡ true) (sym e) yes'))
      (λ no'. refused_ok t w x)

  -- ---- an argument is loaded

  pub load_ok : (s : Settings) (t g : ℕ) (m : Ty) (loaded : List Val) → k.hosts h ≡ Loads t g m loaded → (o : Option Val)
      → slice_get (k.slots t).args (length loaded) ≡ o → StandsFor p (TheHosts.loads p s k h t g m loaded o) c
  load_ok s t g m loaded x None e = st
  load_ok s t g m loaded x (Some v) e =
      let kn = subst (λ y. Knows st.known (length c.seats) h y) x (st.hosts h) in
      let q = claimed_seat t kn.0 kn.1 in
      let i = subst (λ y. IsClaimed p t q.0 (k.slots t).args y) x q.3 in
      let rest = i.2 in
      let r = rest_is rest.0 v (sym (get_behind loaded rest.0) ∙ ap (λ l. slice_get l (length loaded)) (sym rest.1) ∙ e) in
      let next = loading_ok t g m (loaded ++ v ∷ []) r.0 q.0 i.1 (rest.1 ∙ ap (λ l. loaded ++ l) r.1 ∙ sym (append_one loaded v r.0)) in
      changes_ok p k c st h t (loading p t g m (loaded ++ v ∷ [])) (ByClaimer h)
      (record k { hosts = put k.hosts h (loading p t g m (loaded ++ v ∷ [])) }) c
      (record {
        words = st.words;
        made = st.made;
        longer = omega arith;
        here = put_here k.hosts h (loading p t g m (loaded ++ v ∷ []));
        others = λ j d. put_other k.hosts h j (loading p t g m (loaded ++ v ∷ [])) d;
        slots = λ u d. refl;
        seats = λ u y d a. a;
        starters = λ u y args d a. absurd (subst (λ z. IsStarted p u y args z) x a);
        claimers = λ u y args d a. absurd (not_same u (subst (λ z. nat_eq z u ≡ false) (subst (λ z. IsClaimed p u y args z) x a).0 d));
        place = λ y a. (
          q.2,
          subst (λ z. IsClaimed p t y (k.slots t).args z) (sym (put_here k.hosts h (loading p t g m (loaded ++ v ∷ []))))
              (subst (λ z. IsClaimed p t z (k.slots t).args (loading p t g m (loaded ++ v ∷ []))) (some_is (sym q.1 ∙ a))
              (next.1 (k.slots t).args refl)),
        );
        knows = next.0 (put st.known t (ByClaimer h)) (put_here st.known t (ByClaimer h)) kn.1;
        mine = λ a j d. some_is (sym (ap owner kn.0) ∙ d);
        unmade = st.unmade;
      })

  -- ---- a start word is stored

  module _ (s : Settings) (t : ℕ) (q : Seat) (u g : ℕ) (m : Ty) (left : List Val) (x : k.hosts h ≡ Starts t q u g m left) where
    abbrev kn : Knows st.known (length c.seats) h (Starts t q u g m left)
    kn = subst (λ y. Knows st.known (length c.seats) h y) x (st.hosts h)

    -- the new thread's seat
    new_seat : (r : Seat) × (slice_get c.seats u ≡ Some r) × (0 < u) × ((k.slots u).header ≡ HEmpty)
        × Begun p g m ((k.slots u).args ++ left) r
    new_seat =
        let a = there c.seats u kn.3 in
        let b = subst (λ n. IsKnown p k u a.0 n) kn.2 (st.threads u a.0 a.1) in
        (a.0, a.1, b.0, b.1, (subst (λ z. IsStarted p u a.0 (k.slots u).args z) x b.2).1)

    -- the thread that it runs is another
    other_thread : nat_eq u t ≡ false
    other_thread = go (nat_eq u t) refl
      where
        go : (b : Bool) → nat_eq u t ≡ b → nat_eq u t ≡ false
        go false e = e
        go true e = absurd (false≢true (ap is_starter (sym kn.0 ∙ sym (ap st.known (nat_eq-same u t e)) ∙ kn.2)))
          where
            is_starter : Known → Bool
            is_starter (ByStarter j) = true
            is_starter n = false

    abbrev slot_in : Slot → Host → Hosts
    slot_in l y = record k { slots = put k.slots u l; hosts = put k.hosts h y }

    stored_ok : (l : Slot) (y : Host) (n : Known)
        → ((w : ℕ) (z : Seat) (args : List Val) → nat_eq u w ≡ false → IsStarted p w z args (k.hosts h) → IsStarted p w z args y)
        → ((w : ℕ) (z : Seat) (args : List Val) → nat_eq u w ≡ false → IsClaimed p w z args (k.hosts h) → IsClaimed p w z args y) →
        ((z : Seat) → slice_get c.seats u ≡ Some z → IsKnown p (slot_in l y) u z n) → Knows (put st.known u n) (length c.seats) h y
        → StandsFor p (slot_in l y) c
    stored_ok l y n starters claimers place knows = changes_ok p k c st h u y n (slot_in l y) c
        (record {
          words = st.words;
          made = st.made;
          longer = omega arith;
          here = put_here k.hosts h y;
          others = λ j d. put_other k.hosts h j y d;
          slots = λ w d. put_other k.slots u w l d;
          seats = λ w z d a. a;
          starters = starters;
          claimers = claimers;
          place = place;
          knows = knows;
          mine = λ a j d. some_is (sym (ap owner kn.2) ∙ d);
          unmade = λ w i. put_other k.slots u w l (apart u w kn.3 i) ∙ st.unmade w i;
        })
      where
        apart : (a b : ℕ) → a < length c.seats → length c.seats < b + 1 → nat_eq a b ≡ false
        apart a b i j = grind arith

    still_mine : (n : Known) → put st.known u n t ≡ ByClaimer h
    still_mine n = put_other st.known u t n other_thread ∙ kn.0

  pub start_ok : (s : Settings) (t : ℕ) (q : Seat) (u g : ℕ) (m : Ty) (left : List Val) → k.hosts h ≡ Starts t q u g m left
      → StandsFor p (TheHosts.starts p s k h t q u g m left) c
  start_ok s t q u g m [] x =
      let l : Slot = record (k.slots u) { header = HFunc g m } in
      let f = new_seat s t q u g m [] x in
      stored_ok s t q u g m [] x l (Runs t q) ByWords
      (λ w z args d a. absurd (not_same w (subst (λ j. nat_eq j w ≡ false) (subst (λ y. IsStarted p w z args y) x a).0 d)))
      (λ w z args d a. subst (λ y. IsClaimed p w z args y) x a)
      (λ z a. subst (λ y. IsReady p u z y.args y.header) (sym (put_here k.slots u l)) (
        f.2,
        subst (λ y. Begun p g m (k.slots u).args y) (some_is (sym f.1 ∙ a))
            (subst (λ y. Begun p g m y f.0) (append_none (k.slots u).args) f.4),
      ))
      (still_mine s t q u g m [] x ByWords, (kn s t q u g m [] x).1)
  start_ok s t q u g m (v ∷ vs) x =
      let l : Slot = record (k.slots u) { args = (k.slots u).args ++ v ∷ [] } in
      let f = new_seat s t q u g m (v ∷ vs) x in
      let y : Host = Starts t q u g m vs in
      stored_ok s t q u g m (v ∷ vs) x l y (ByStarter h)
      (λ w z args d a. absurd (not_same w (subst (λ j. nat_eq j w ≡ false) (subst (λ j. IsStarted p w z args j) x a).0 d)))
      (λ w z args d a. subst (λ j. IsClaimed p w z args j) x a)
      (λ z a. (
        f.2,
        ap (λ (j : Slot). j.header) (put_here k.slots u l) ∙ f.3,
        subst (λ j. IsStarted p u z ((put k.slots u l) u).args j) (sym (put_here k.hosts h y)) (
          refl,
          subst (λ j. Begun p g m (j ++ vs) z) (sym (ap (λ (j : Slot). j.args) (put_here k.slots u l)))
              (subst (λ j. Begun p g m j z) (sym (append_one (k.slots u).args v vs))
              (subst (λ j. Begun p g m ((k.slots u).args ++ v ∷ vs) j) (some_is (sym f.1 ∙ a)) f.4)),
        ),
      )) (
        still_mine s t q u g m (v ∷ vs) x (ByStarter h),
        (kn s t q u g m (v ∷ vs) x).1,
        put_here st.known u (ByStarter h),
        (kn s t q u g m (v ∷ vs) x).3,
      )

  -- ---- a thread runs

  module _ (s : Settings) (t : ℕ) (q : Seat) (x : k.hosts h ≡ Runs t q) where
    runs_known : (st.known t ≡ ByClaimer h) × (t < length c.seats)
    runs_known = subst (λ y. Knows st.known (length c.seats) h y) x (st.hosts h)

    pub runs_seat : (slice_get c.seats t ≡ Some q) × ((k.slots t).header ≡ HClaimed)
    runs_seat =
        let y = claimed_seat t runs_known.0 runs_known.1 in
        let i = subst (λ z. IsClaimed p t y.0 (k.slots t).args z) x y.3 in
        (y.1 ∙ ap Some (sym i.1), y.2)

    -- its seat and the words change
    pub moved_ok : (w w' : Words) (r : Seat) → w ≡ w' → StandsFor p (record k { words = w; hosts = put k.hosts h (Runs t r) })
        (record { words = w'; seats = slice_set c.seats t r })
    moved_ok w w' r e = changes_ok p k c st h t (Runs t r) (ByClaimer h) (record k { words = w; hosts = put k.hosts h (Runs t r) })
        (record { words = w'; seats = slice_set c.seats t r })
        (record {
          words = e;
          made = st.made ∙ sym (length-slice_set c.seats t r);
          longer = same_length (length c.seats) (length (slice_set c.seats t r)) (length-slice_set c.seats t r);
          here = put_here k.hosts h (Runs t r);
          others = λ g d. put_other k.hosts h g (Runs t r) d;
          slots = λ u d. refl;
          seats = λ u z d a. ⊎_elim (λ i. absurd (not_same u (subst (λ j. nat_eq j u ≡ false) i.0 d))) (λ i. i)
              (set_cases c.seats t u r z a);
          starters = λ u z args d a. absurd (subst (λ y. IsStarted p u z args y) x a);
          claimers = λ u z args d a. absurd (not_same u (subst (λ j. nat_eq j u ≡ false) (subst (λ y. IsClaimed p u z args y) x a).0 d));
          place = λ z a. (
            runs_seat.1,
            subst (λ y. IsClaimed p t z (k.slots t).args y) (sym (put_here k.hosts h (Runs t r)))
                (refl, some_is (sym (set_here c.seats t r q runs_seat.0) ∙ a)),
          );
          knows = (put_here st.known t (ByClaimer h), subst (λ n. t < n) (sym (length-slice_set c.seats t r)) runs_known.1);
          mine = λ a g d. some_is (sym (ap owner runs_known.0) ∙ d);
          unmade = λ u i. st.unmade u (subst (λ n. n < u + 1) (length-slice_set c.seats t r) i);
        })
      where
        same_length : (a b : ℕ) → b ≡ a → a ≤ b
        same_length a b i = omega arith
