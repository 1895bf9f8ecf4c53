-- The run in the order of a seed, by hosts.
use Rattle.std.proofs.Common.{◌≡◌, ◌<◌, ℕ, zero, suc, ◌+◌, Bool, true, false, List, [], ◌∷◌, ◌++◌, length, Option, Some, None, is_some}
use Rattle.std.proofs.Common.{nat_eq, nat_le, if◌then◌else◌, refl, sym, ap, ◌∙◌, subst, arith, slice_get}
use Rattle.std.proofs.lemmas.Bool.{false≢true}
use Rattle.mono_list.proofs.Cases.{none_some, some_is}
use Rattle.mono_syntax.specs.Ty.{Ty, dyn}
use Rattle.mono_syntax.specs.declared.value.Val.{Val}
use Rattle.mono_syntax.specs.declared.cast.CastScript.{CastScript}
use Rattle.mono_tree.specs.TypedPrograms.{IsTypedProgram}
use Rattle.cast_machine.specs.declared.data.End.{End}
use Rattle.cast_machine.specs.declared.data.Settings.{Settings}
use Rattle.cast_machine.proofs.Heap.{nat_eq-same, on_test}
use Rattle.cast_machine.specs.Step.{Configuration, next_seed, pick}
use Rattle.cast_machine.specs.computed.Seeded.{seeded, seeded_thread, picked_at}
use Rattle.cast_machine.proofs.SeededRuns.{seeded-suc, seeded-ended, seeded-zero}
use Rattle.word_machine.specs.Arrives.{acts_of}
use Rattle.word_machine.specs.Hosts.{Header, HEmpty, HFunc, HClaimed, Slot, same_header, Host, Idle, Claims, Loads, Runs, Starts, Refused}
use Rattle.word_machine.specs.Hosts.{Hosts, put, acts, arity, loading, claimed, main_seat, hosts_start}
use Rattle.word_machine.specs.Seats.{Seat, Next, NLocal, NRest, NWants, NBegins, next_action, resume}
use Rattle.word_machine.specs.SeedOrder.{HostsSeeded}
use Rattle.word_machine.specs.StandsFor.{Known, ByStarter, ByWords, ByClaimer, Begun, IsKnown, IsReady, IsStarted, IsClaimed, StandsFor}
use Rattle.word_machine.specs.Ticks.{Core, is_step, tick, tick_steps, stands, core_start}
use Rattle.word_machine.specs.Words.{Words, Answer}
use Rattle.word_machine.specs.computed.Ranks.{solo, rank}
use Rattle.word_machine.specs.computed.SeededHosts.{host_steps, host_solo, host_rank, loads_of, arrive, settle_in, alone_in, host_pick}
use Rattle.word_machine.specs.computed.SeededHosts.{host_runs, hosts_from, host_thread, host_seeded}
use Rattle.word_machine.specs.computed.SeededTicks.{state_runs, runs_from}
use Rattle.word_machine.specs.Hosts as TheHosts
use Rattle.word_machine.specs.StandsFor as TheStanding
use Rattle.word_machine.specs.Ticks as TheTicks
use Rattle.word_machine.specs.Words as TheWords
use Rattle.cast_machine.specs.RunLimits.{HasSmallBlocks}
use Rattle.word_machine.proofs.CoreOk.{CoreOk}
use Rattle.word_machine.proofs.Tick.{tick_ok}
use Rattle.word_machine.proofs.Follow.{start_core}
use Rattle.word_machine.proofs.Begins.{drawn_steps}
use Rattle.word_machine.proofs.Lively.{AllLively, main_lively}
use Rattle.word_machine.proofs.HostChanges.{put_here, put_other, there, get_behind, append_one, length_more}
use Rattle.word_machine.proofs.HostActs.{alone_ok, load_ok, start_ok}
use Rattle.word_machine.proofs.HostActs.{claim_ok, runs_seat}
use Rattle.word_machine.proofs.HostDraws.{ticked_ok}
use Rattle.word_machine.proofs.Hosting.{hosts_right, start_held}
use Rattle.word_machine.proofs.Arriving.{one_act, claim_is, thread_end, starts_end, more_left}
use Rattle.word_machine.proofs.Picks.{pick_to, solo_ok, solo_first, solo_more}
use Rattle.word_machine.proofs.SeededWords.{runs_right}

-- ---- another host stays

module _ (p : CastScript) (s : Settings) (h j : ℕ) (d : nat_eq h j ≡ false) where
  abbrev Stays : Hosts → Hosts → Type 0
  Stays k k' = k'.hosts j ≡ k.hosts j

  put_stays : (k : Hosts) (x : Host) → put k.hosts h x j ≡ k.hosts j
  put_stays k x = put_other k.hosts h j x d

  runs_stays : (k : Hosts) (t : ℕ) (back : Answer → Seat) (n : Next) → Stays k (TheHosts.runs p s k h t back n)
  runs_stays k t back (NLocal q) = put_stays k (Runs t q)
  runs_stays k t back NRest = refl
  runs_stays k t back (NWants a) = put_stays k (Runs t (back (TheWords.apply s k.words a).1))
  runs_stays k t back (NBegins n g m args new) =
      on_test (nat_eq n k.made) _ _ (Stays k)
      (λ e. on_test (nat_le 256 k.made) _ _ (Stays k) (λ y. put_stays k (Runs t (back TheWords.Full)))
      (λ y. put_stays k (Starts t (back (TheWords.Drawn k.made)) k.made g m args)))
      (λ e. put_stays k (Runs t (back (TheWords.Counts k.made))))

  loads_stays : (k : Hosts) (t g : ℕ) (m : Ty) (loaded : List Val) (o : Option Val) → Stays k (TheHosts.loads p s k h t g m loaded o)
  loads_stays k t g m loaded None = refl
  loads_stays k t g m loaded (Some v) = put_stays k (loading p t g m (loaded ++ v ∷ []))

  starts_stays : (k : Hosts) (t : ℕ) (q : Seat) (u g : ℕ) (m : Ty) (left : List Val) → Stays k (TheHosts.starts p s k h t q u g m left)
  starts_stays k t q u g m [] = put_stays k (Runs t q)
  starts_stays k t q u g m (v ∷ vs) = put_stays k (Starts t q u g m vs)

  acts_stays : (k : Hosts) (x : Host) → Stays k (acts p s k h x)
  acts_stays k Idle = refl
  acts_stays k (Claims t w) = on_test (same_header w (k.slots t).header) _ _ (Stays k) (λ e. put_stays k (claimed p t w))
      (λ e. put_stays k Refused)
  acts_stays k (Loads t g m loaded) = loads_stays k t g m loaded (slice_get (k.slots t).args (length loaded))
  acts_stays k (Runs t q) = runs_stays k t (resume p s q) (next_action p s t q)
  acts_stays k (Starts t q u g m left) = starts_stays k t q u g m left
  acts_stays k Refused = refl

  acts_of_stays : (n : ℕ) (k : Hosts) → Stays k (acts_of p s n k h)
  acts_of_stays zero k = refl
  acts_of_stays (suc n) k = acts_of_stays n (acts p s k h (k.hosts h)) ∙ acts_stays k (k.hosts h)

  solo_stays : (n : ℕ) (k : Hosts) → Stays k (host_solo p s n k h)
  solo_stays zero k = refl
  solo_stays (suc n) k = on_test (host_steps p s k (k.hosts h)) _ _ (Stays k) (λ e. acts_stays k (k.hosts h))
      (λ e. solo_stays n (acts p s k h (k.hosts h)) ∙ acts_stays k (k.hosts h))

-- ---- arriving

module _ (p : CastScript) (s : Settings) (c : Core) (h : ℕ) where
  loads_stand : (rest loaded : List Val) (k : Hosts) (t g : ℕ) (m : Ty) → StandsFor p k c → (k.slots t).args ≡ loaded ++ rest
      → length loaded + length rest ≡ arity m → k.hosts h ≡ loading p t g m loaded → StandsFor p (acts_of p s (length rest) k h) c
  loads_stand [] loaded k t g m st args many x = st
  loads_stand (v ∷ rest) loaded k t g m st args many x =
      let y : k.hosts h ≡ Loads t g m loaded = x ∙ ap (λ b. if b then TheHosts.first_seat (slice_get p.functions g) t m loaded
      else Loads t g m loaded) (more_left p s (arity m) (length loaded) (length rest) many) in
      let found : slice_get (k.slots t).args (length loaded) ≡ Some v = ap (λ l. slice_get l (length loaded)) args
      ∙ get_behind loaded (v ∷ rest) in
      subst (λ z. StandsFor p z c)
      (sym (one_act p s (length rest) k h (Loads t g m loaded) y
      ∙ ap (λ o. acts_of p s (length rest) (TheHosts.loads p s k h t g m loaded o) h) found))
      (loads_stand rest (loaded ++ v ∷ []) (TheHosts.loads p s k h t g m loaded (Some v)) t g m
      (load_ok p k c st h s t g m loaded y (Some v) found) (args ∙ sym (append_one loaded v rest)) (count loaded v rest (arity m) many)
      (put_here k.hosts h (loading p t g m (loaded ++ v ∷ []))))
    where
      count : (l : List Val) (v : Val) (r : List Val) (a : ℕ) → length l + suc (length r) ≡ a → length (l ++ v ∷ []) + length r ≡ a
      count l v r a e = let x = length_more l (v ∷ []) in omega (arith, x, e)

  starts_stand : (left : List Val) (k : Hosts) (t u g : ℕ) (q : Seat) (m : Ty) → StandsFor p k c → k.hosts h ≡ Starts t q u g m left
      → StandsFor p (acts_of p s (suc (length left)) k h) c
  starts_stand [] k t u g q m st e = subst (λ z. StandsFor p z c) (sym (one_act p s 0 k h (Starts t q u g m []) e))
      (start_ok p k c st h s t q u g m [] e)
  starts_stand (v ∷ vs) k t u g q m st e =
      subst (λ z. StandsFor p z c) (sym (one_act p s (suc (length vs)) k h (Starts t q u g m (v ∷ vs)) e))
      (starts_stand vs (TheHosts.starts p s k h t q u g m (v ∷ vs)) t u g q m (start_ok p k c st h s t q u g m (v ∷ vs) e)
      (put_here k.hosts h (Starts t q u g m vs)))

-- ---- between picks each host is idle, or runs the thread of its number

abbrev IsSettled : ℕ → Host → Type 0
IsSettled h Idle = Unit {0}
IsSettled h (Runs t q) = t ≡ h
IsSettled h x = ⊥

abbrev AreSettled : Hosts → Type 0
AreSettled k = (h : ℕ) → IsSettled h (k.hosts h)

-- a thread whose host is idle is known from its words
module _ (p : CastScript) (k : Hosts) (c : Core) (st : StandsFor p k c) (settled : AreSettled k) (t : ℕ) (idle : k.hosts t ≡ Idle) where
  by_words : (q : Seat) (n : Known) → IsKnown p k t q n → IsReady p t q (k.slots t).args (k.slots t).header
  by_words q (ByStarter g) i = go (k.hosts g) (settled g) i.2
    where
      go : (x : Host) → IsSettled g x → IsStarted p t q (k.slots t).args x → IsReady p t q (k.slots t).args (k.slots t).header
      go (Starts u r v f m left) z j = absurd z
      go Idle z j = absurd j
      go (Claims u w) z j = absurd z
      go (Loads u f m l) z j = absurd z
      go (Runs u r) z j = absurd j
      go Refused z j = absurd z
  by_words q ByWords i = i
  by_words q (ByClaimer g) i = go (k.hosts g) refl (settled g) i.1
    where
      is_idle : Host → Bool
      is_idle Idle = true
      is_idle x = false

      go : (x : Host) → k.hosts g ≡ x → IsSettled g x → IsClaimed p t q (k.slots t).args x
          → IsReady p t q (k.slots t).args (k.slots t).header
      go (Runs u r) e z j = absurd (false≢true (ap is_idle (sym (subst (λ y. k.hosts y ≡ Runs u r) (sym z ∙ j.0) e) ∙ idle)))
      go (Starts u r v f m left) e z j = absurd z
      go Idle e z j = absurd j
      go (Claims u w) e z j = absurd z
      go (Loads u f m l) e z j = absurd z
      go Refused e z j = absurd z

  ready_words : (q : Seat) → slice_get c.seats t ≡ Some q → IsReady p t q (k.slots t).args (k.slots t).header
  ready_words q e = by_words q (st.known t) (st.threads t q e)

  -- it comes to run its thread
  module _ (s : Settings) (less : t < length c.seats) where
    abbrev begun : Hosts
    begun = record k { hosts = put k.hosts t (Claims t (k.slots t).header) }

    here : begun.hosts t ≡ Claims t (k.slots t).header
    here = put_here k.hosts t (Claims t (k.slots t).header)

    begun_stands : (w : Header) → (k.slots t).header ≡ w → StandsFor p begun c
    begun_stands w e =
        let q = there c.seats t less in
        alone_ok p k c st t (Claims t (k.slots t).header) (λ u r args j. absurd (subst (λ y. IsStarted p u r args y) idle j))
        (λ u r args j. absurd (subst (λ y. IsClaimed p u r args y) idle j))
        (λ known. subst (λ y. TheStanding.Knows known (length c.seats) t (Claims t y)) (sym e)
        (knows known w (subst (λ y. IsReady p t q.0 (k.slots t).args y) e (ready_words q.0 q.1)) q.0))
      where
        knows : (known : ℕ → Known) (w : Header) → (i : IsReady p t (there c.seats t less).0 (k.slots t).args w) → Seat
            → TheStanding.Knows known (length c.seats) t (Claims t w)
        knows known HEmpty i q = i.0
        knows known (HFunc g m) i q = tt
        knows known HClaimed i q = absurd i

    abbrev Arrived : Header → Type 0
    Arrived w = StandsFor p (acts_of p s (suc (loads_of w)) begun t) c
        × ((q : Seat) × ((acts_of p s (suc (loads_of w)) begun t).hosts t ≡ Runs t q))

    arrived : (w : Header) → (k.slots t).header ≡ w → Arrived w
    arrived HEmpty e =
        let q = there c.seats t less in
        let zero_t = (subst (λ y. IsReady p t q.0 (k.slots t).args y) e (ready_words q.0 q.1)).0 in
        let x : begun.hosts t ≡ Claims t HEmpty = here ∙ ap (Claims t) e in (
          subst (λ y. StandsFor p y c) (sym (one_act p s 0 begun t (Claims t HEmpty) x))
              (claim_ok p begun c (begun_stands HEmpty e) t s t HEmpty x),
          (
            main_seat p,
            ap (λ (y : Hosts). y.hosts t)
                (one_act p s 0 begun t (Claims t HEmpty) x
                ∙ ap (λ b. if b then TheHosts.stores p s begun t t (record (k.slots t) { header = HClaimed }) (Runs t (main_seat p))
                else TheHosts.becomes p s begun t Refused) (ap (same_header HEmpty) e))
                ∙ put_here begun.hosts t (Runs t (main_seat p)),
          ),
        )
    arrived (HFunc g m) e =
        let x : begun.hosts t ≡ Claims t (HFunc g m) = here ∙ ap (Claims t) e in
        let bst = begun_stands (HFunc g m) e in
        let right = hosts_right p begun c bst in
        let many = (right.headers t g m e).1 in
        let k' = TheHosts.stores p s begun t t (record (k.slots t) { header = HClaimed }) (claimed p t (HFunc g m)) in
        let st' : StandsFor p k' c = subst (λ y. StandsFor p y c) (claim_is p s begun t t g m e)
        (claim_ok p begun c bst t s t (HFunc g m) x) in
        let run : acts_of p s (suc (arity m)) begun t ≡ acts_of p s (length (k.slots t).args) k' t = one_act p s (arity m) begun t
        (Claims t (HFunc g m)) x ∙ ap (λ y. acts_of p s (arity m) y t) (claim_is p s begun t t g m e)
        ∙ ap (λ n. acts_of p s n k' t) (sym many) in (
          subst (λ y. StandsFor p y c) (sym run)
              (loads_stand p s c t (k.slots t).args [] k' t g m st'
              (ap (λ (l : Slot). l.args) (put_here k.slots t (record (k.slots t) { header = HClaimed })))
              (zero_plus (length (k.slots t).args) (arity m) many) (put_here begun.hosts t (claimed p t (HFunc g m)))),
          thread_end p s begun right t t g m x e,
        )
      where
        zero_plus : (a b : ℕ) → a ≡ b → 0 + a ≡ b
        zero_plus a b i = omega (arith, i)
    arrived HClaimed e =
        let q = there c.seats t less in
        absurd (subst (λ y. IsReady p t q.0 (k.slots t).args y) e (ready_words q.0 q.1))

    pub arrive_idle : Arrived (k.slots t).header
    arrive_idle = arrived (k.slots t).header refl

-- ---- ticks of a host until the step

-- it runs thread t, maybe with start words to store
abbrev IsOf : ℕ → Host → Type 0
IsOf t (Runs u q) = u ≡ t
IsOf t (Starts u q v g m left) = u ≡ t
IsOf t x = ⊥

module _ (p : CastScript) (pok : IsTypedProgram p) (small : HasSmallBlocks p) (s : Settings) where
  -- an act of a host that runs t leaves it with t, and runs t alone where it was no step
  module _ (k : Hosts) (h t : ℕ) (q : Seat) (x : k.hosts h ≡ Runs t q) where
    abbrev back : Answer → Seat
    back = resume p s q

    abbrev Quiet : Bool → Hosts → Type 0
    Quiet true k' = IsOf t (k'.hosts h)
    Quiet false k' = (r : Seat) × (k'.hosts h ≡ Runs t r)

    put_quiet : (b : Bool) (r : Seat) (k' : Hosts) → k'.hosts h ≡ Runs t r → Quiet b k'
    put_quiet true r k' e = subst (λ y. IsOf t y) (sym e) refl
    put_quiet false r k' e = (r, e)

    runs_quiet : (n : Next) → next_action p s t q ≡ n → Quiet (TheTicks.next_steps p s k.words k.made (is_step p s q) n)
        (TheHosts.runs p s k h t back n)
    runs_quiet (NLocal r) e = put_quiet true r (TheHosts.runs p s k h t back (NLocal r)) (put_here k.hosts h (Runs t r))
    runs_quiet NRest e = (q, x)
    runs_quiet (NWants a) e = put_quiet (is_step p s q (TheWords.apply s k.words a).1) (back (TheWords.apply s k.words a).1)
        (TheHosts.runs p s k h t back (NWants a)) (put_here k.hosts h (Runs t (back (TheWords.apply s k.words a).1)))
    runs_quiet (NBegins n g m args new) e = go (nat_eq n k.made) (nat_le 256 k.made)
      where
        by : Answer → Bool
        by a = is_step p s q a

        go : (y z : Bool)
            → Quiet (is_step p s q (if y then (if z then TheWords.Full else TheWords.Drawn k.made) else TheWords.Counts k.made))
            (if y then (if z then TheHosts.becomes p s k h (Runs t (back TheWords.Full))
            else record k { made = k.made + 1; hosts = put k.hosts h (Starts t (back (TheWords.Drawn k.made)) k.made g m args) })
            else TheHosts.becomes p s k h (Runs t (back (TheWords.Counts k.made))))
        go true true = put_quiet (is_step p s q TheWords.Full) (back TheWords.Full) (TheHosts.becomes p s k h (Runs t (back TheWords.Full)))
            (put_here k.hosts h (Runs t (back TheWords.Full)))
        go true false =
            subst (λ b. Quiet b
            (record k { made = k.made + 1; hosts = put k.hosts h (Starts t (back (TheWords.Drawn k.made)) k.made g m args) }))
            (sym (drawn_steps p s t q n g m args new e k.made))
            (subst (λ y. IsOf t y) (sym (put_here k.hosts h (Starts t (back (TheWords.Drawn k.made)) k.made g m args))) refl)
        go false z = put_quiet (is_step p s q (TheWords.Counts k.made)) (back (TheWords.Counts k.made))
            (TheHosts.becomes p s k h (Runs t (back (TheWords.Counts k.made))))
            (put_here k.hosts h (Runs t (back (TheWords.Counts k.made))))

    acts_quiet : Quiet (host_steps p s k (Runs t q)) (acts p s k h (Runs t q))
    acts_quiet = runs_quiet (next_action p s t q) refl

  -- the flag is that of the word machine
  steps_same : (k : Hosts) (c : Core) → StandsFor p k c → (h t : ℕ) (q : Seat) → k.hosts h ≡ Runs t q
      → host_steps p s k (Runs t q) ≡ tick_steps p s c t
  steps_same k c st h t q x =
      ap (λ w. TheTicks.next_steps p s w k.made (is_step p s q) (next_action p s t q)) st.words
      ∙ ap (λ n. TheTicks.next_steps p s c.words n (is_step p s q) (next_action p s t q)) st.made
      ∙ sym (ap (TheTicks.seat_steps p s c t) (runs_seat p k c st h s t q x).0)

  rank_same : (k : Hosts) (c : Core) → StandsFor p k c → (h t : ℕ) (q : Seat) → k.hosts h ≡ Runs t q → host_rank p k (Runs t q) ≡ rank p c t
  rank_same k c st h t q x =
      ap (λ w. Rattle.word_machine.specs.computed.Ranks.seat_rank p w k.made q.micro q.state) st.words
      ∙ ap (λ n. Rattle.word_machine.specs.computed.Ranks.seat_rank p c.words n q.micro q.state) st.made
      ∙ sym (ap (Rattle.word_machine.specs.computed.Ranks.rank_in p c) (runs_seat p k c st h s t q x).0)

  abbrev Alone : ℕ → Hosts → Core → Type 0
  Alone t k c = StandsFor p k c × IsOf t (k.hosts t)

  solo_stands : (n : ℕ) (k : Hosts) (rs : List Ty) (c : Core) → CoreOk p rs c → StandsFor p k c → (t : ℕ) (q : Seat) → k.hosts t ≡ Runs t q
      → Alone t (host_solo p s n k t) (solo p s n c t)
  solo_stands zero k rs c ok st t q x = (st, subst (λ y. IsOf t y) (sym x) refl)
  solo_stands (suc n) k rs c ok st t q x =
      let good = tick_ok p pok s rs c ok t in
      let ticked = ticked_ok p pok s k rs c ok st t t q x in
      let next = (λ (r : Seat) (e : (acts p s k t (Runs t q)).hosts t ≡ Runs t r). solo_stands n (acts p s k t (Runs t q)) good.results
      (tick p s c t) good.ok ticked t r e) in
      subst (λ y. Alone t (if host_steps p s k y then acts p s k t y else host_solo p s n (acts p s k t y) t) (solo p s (suc n) c t))
      (sym x)
      (go (host_steps p s k (Runs t q)) (steps_same k c st t t q x) (acts_quiet k t t q x) ticked next)
    where
      go : (b : Bool) → b ≡ tick_steps p s c t → Quiet k t t q x b (acts p s k t (Runs t q))
          → StandsFor p (acts p s k t (Runs t q)) (tick p s c t)
          → ((r : Seat) → (acts p s k t (Runs t q)).hosts t ≡ Runs t r
          → Alone t (host_solo p s n (acts p s k t (Runs t q)) t) (solo p s n (tick p s c t) t)) →
          Alone t (if b then acts p s k t (Runs t q) else host_solo p s n (acts p s k t (Runs t q)) t) (solo p s (suc n) c t)
      go true e quiet ticked next = subst (λ y. Alone t (acts p s k t (Runs t q)) y) (sym (solo_first p pok small s t n c (sym e)))
          (ticked, quiet)
      go false e quiet ticked next = subst (λ y. Alone t (host_solo p s n (acts p s k t (Runs t q)) t) y)
          (sym (solo_more p pok small s t n c (sym e))) (next quiet.0 quiet.1)

  -- ---- storing start words

  abbrev Back : ℕ → Hosts → Core → Type 0
  Back t k c = StandsFor p k c × ((q : Seat) × (k.hosts t ≡ Runs t q))

  settle_stands : (k : Hosts) (c : Core) → StandsFor p k c → (t : ℕ) (x : Host) → k.hosts t ≡ x → IsOf t x → Back t (settle_in p s k t x) c
  settle_stands k c st t (Runs u q) e i = (st, (q, e ∙ ap (λ j. Runs j q) i))
  settle_stands k c st t (Starts u q v g m left) e i =
      (starts_stand p s c t left k u v g q m st e, (q, starts_end p s left k t u v g q m e ∙ ap (λ j. Runs j q) i))
  settle_stands k c st t Idle e i = absurd i
  settle_stands k c st t (Claims u w) e i = absurd i
  settle_stands k c st t (Loads u g m l) e i = absurd i
  settle_stands k c st t Refused e i = absurd i

  settle_stays : (k : Hosts) (t j : ℕ) → nat_eq t j ≡ false → (x : Host) → (settle_in p s k t x).hosts j ≡ k.hosts j
  settle_stays k t j d (Starts u q v g m left) = acts_of_stays p s t j d (suc (length left)) k
  settle_stays k t j d (Runs u q) = refl
  settle_stays k t j d Idle = refl
  settle_stays k t j d (Claims u w) = refl
  settle_stays k t j d (Loads u g m l) = refl
  settle_stays k t j d Refused = refl

  arrive_stays : (k : Hosts) (t j : ℕ) → nat_eq t j ≡ false → (x : Host) → (arrive p s k t x).hosts j ≡ k.hosts j
  arrive_stays k t j d Idle = acts_of_stays p s t j d (suc (loads_of (k.slots t).header))
      (record k { hosts = put k.hosts t (Claims t (k.slots t).header) }) ∙ put_other k.hosts t j (Claims t (k.slots t).header) d
  arrive_stays k t j d (Starts u q v g m left) = refl
  arrive_stays k t j d (Runs u q) = refl
  arrive_stays k t j d (Claims u w) = refl
  arrive_stays k t j d (Loads u g m l) = refl
  arrive_stays k t j d Refused = refl

  arrive_stands : (k : Hosts) (c : Core) → StandsFor p k c → AreSettled k → (t : ℕ) → t < length c.seats → (x : Host) → k.hosts t ≡ x
      → IsSettled t x → Back t (arrive p s k t x) c
  arrive_stands k c st settled t less Idle e i = arrive_idle p k c st settled t e s less
  arrive_stands k c st settled t less (Runs u q) e i = (st, (q, e ∙ ap (λ j. Runs j q) i))
  arrive_stands k c st settled t less (Starts u q v g m left) e i = absurd i
  arrive_stands k c st settled t less (Claims u w) e i = absurd i
  arrive_stands k c st settled t less (Loads u g m l) e i = absurd i
  arrive_stands k c st settled t less Refused e i = absurd i

  -- ---- a pick

  pick_back : (k : Hosts) (rs : List Ty) (c : Core) → CoreOk p rs c → StandsFor p k c → AreSettled k → (t : ℕ) → t < length c.seats
      → Back t (host_pick p s k (Some t)) (solo p s (suc (rank p c t)) c t)
  pick_back k rs c ok st settled t less =
      let a = arrive_stands k c st settled t less (k.hosts t) refl (settled t) in
      let k1 = arrive p s k t (k.hosts t) in
      let q = (a.1).0 in
      let x = (a.1).1 in
      let n : host_rank p k1 (k1.hosts t) ≡ rank p c t = ap (host_rank p k1) x ∙ rank_same k1 c a.0 t t q x in
      let b = subst (λ m. Alone t (alone_in p s k1 t) (solo p s (suc m) c t)) n
      (solo_stands (suc (host_rank p k1 (k1.hosts t))) k1 rs c ok a.0 t q x) in
      let k2 = alone_in p s k1 t in
      settle_stands k2 (solo p s (suc (rank p c t)) c t) b.0 t (k2.hosts t) refl b.1

  pick_stays : (k : Hosts) (t j : ℕ) → nat_eq t j ≡ false → (host_pick p s k (Some t)).hosts j ≡ k.hosts j
  pick_stays k t j d =
      let k1 = arrive p s k t (k.hosts t) in
      let k2 = alone_in p s k1 t in
      settle_stays k2 t j d (k2.hosts t) ∙ solo_stays p s t j d (suc (host_rank p k1 (k1.hosts t))) k1 ∙ arrive_stays k t j d (k.hosts t)

  pick_settled : (k : Hosts) → AreSettled k → (t : ℕ) (q : Seat) → (host_pick p s k (Some t)).hosts t ≡ Runs t q
      → AreSettled (host_pick p s k (Some t))
  pick_settled k settled t q e j = go (nat_eq t j) refl
    where
      go : (b : Bool) → nat_eq t j ≡ b → IsSettled j ((host_pick p s k (Some t)).hosts j)
      go true d = let same = nat_eq-same t j d in subst (λ i. IsSettled i ((host_pick p s k (Some t)).hosts i)) same
          (subst (λ y. IsSettled t y) (sym e) refl)
      go false d = subst (λ y. IsSettled j y) (sym (pick_stays k t j d)) (settled j)

  -- ---- the runnable threads

  host_runs_same : (k : Hosts) (c : Core) → StandsFor p k c → AreSettled k → (t : ℕ) (q : Seat) → slice_get c.seats t ≡ Some q → (x : Host)
      → k.hosts t ≡ x → IsSettled t x → host_runs k x ≡ state_runs c.words q.state
  host_runs_same k c st settled t q e (Runs u r) y i =
      let z : k.hosts t ≡ Runs t r = y ∙ ap (λ j. Runs j r) i in
      ap (λ w. state_runs w r.state) st.words ∙ ap (λ (a : Seat). state_runs c.words a.state)
      (some_is (sym (runs_seat p k c st t s t r z).0 ∙ e))
  host_runs_same k c st settled t q e Idle y i = fresh (k.slots t).header (ready_words p k c st settled t y q e)
    where
      fresh : (w : Header) → IsReady p t q (k.slots t).args w → true ≡ state_runs c.words q.state
      fresh HEmpty j = sym (ap (λ (a : Seat). state_runs c.words a.state) j.1)
      fresh (HFunc g m) j = sym (ap (λ (a : Seat). state_runs c.words a.state) (j.1).is)
      fresh HClaimed j = absurd j
  host_runs_same k c st settled t q e (Starts u r v g m left) y i = absurd i
  host_runs_same k c st settled t q e (Claims u w) y i = absurd i
  host_runs_same k c st settled t q e (Loads u g m l) y i = absurd i
  host_runs_same k c st settled t q e Refused y i = absurd i

  from_same : (k : Hosts) (w : Words) (qs : List Seat) (n : ℕ)
      → ((i : ℕ) (q : Seat) → slice_get qs i ≡ Some q → host_runs k (k.hosts (n + i)) ≡ state_runs w q.state)
      → hosts_from k n (length qs) ≡ runs_from w n qs
  from_same k w [] n same = refl
  from_same k w (q ∷ qs) n same =
      ap (λ b. if b then n ∷ hosts_from k (n + 1) (length qs) else hosts_from k (n + 1) (length qs))
      (ap (λ j. host_runs k (k.hosts j)) (plus n) ∙ same 0 q refl)
      ∙ ap (λ l. if state_runs w q.state then n ∷ l else l)
      (from_same k w qs (n + 1) (λ i r e. ap (λ j. host_runs k (k.hosts j)) (plus_one n i) ∙ same (suc i) r e))
    where
      plus : (a : ℕ) → a ≡ a + 0
      plus a = omega arith

      plus_one : (a b : ℕ) → a + 1 + b ≡ a + suc b
      plus_one a b = omega arith

  threads_same : (k : Hosts) (c : Core) → StandsFor p k c → AreSettled k → hosts_from k 0 k.made ≡ runs_from c.words 0 c.seats
  threads_same k c st settled =
      ap (hosts_from k 0) st.made
      ∙ from_same k c.words c.seats 0 (λ i q e. ap (λ j. host_runs k (k.hosts j)) (zero_plus i)
      ∙ host_runs_same k c st settled i q e (k.hosts i) refl (settled i))
    where
      zero_plus : (i : ℕ) → 0 + i ≡ i
      zero_plus i = omega arith

  -- each of them is made
  from_range : (w : Words) (qs : List Seat) (n i t : ℕ) → slice_get (runs_from w n qs) i ≡ Some t → t < n + length qs
  from_range w [] n i t e = none_some _ e
  from_range w (q ∷ qs) n i t e = go (state_runs w q.state) i e (λ j f. from_range w qs (n + 1) j t f)
    where
      go : (b : Bool) (i : ℕ) → slice_get (if b then n ∷ runs_from w (n + 1) qs else runs_from w (n + 1) qs) i ≡ Some t
          → ((j : ℕ) → slice_get (runs_from w (n + 1) qs) j ≡ Some t → t < n + 1 + length qs) → t < n + suc (length qs)
      go true zero f next = let x = some_is f in omega (arith, x)
      go true (suc i) f next = let x = next i f in omega (arith, x)
      go false i f next = let x = next i f in omega (arith, x)

  -- ---- the run

  abbrev Comes : Hosts → Configuration → Type 0
  Comes k d = (c : Core) × StandsFor p k c × (stands s c ≡ d)

  seeded_comes : (n seed : ℕ) (k : Hosts) (rs : List Ty) (c : Core) → CoreOk p rs c → AllLively p small s c.seats → StandsFor p k c
      → AreSettled k → Comes (host_seeded p s n seed k) (seeded p n seed (stands s c))
  seeded_comes zero seed k rs c ok all st settled = (c, st, sym (seeded-zero p seed (stands s c)))
  seeded_comes (suc n) seed k rs c ok all st settled =
      go (k.words).end refl (host_thread k (next_seed seed)) refl
      (λ k' rs' c' ok' all' st' settled'. seeded_comes n (next_seed seed) k' rs' c' ok' all' st' settled')
    where
      turn : (k.words).end ≡ None → (o : Option ℕ) → host_thread k (next_seed seed) ≡ o
          → ((k' : Hosts) (rs' : List Ty) (c' : Core) → CoreOk p rs' c' → AllLively p small s c'.seats → StandsFor p k' c' → AreSettled k'
          → Comes (host_seeded p s n (next_seed seed) k') (seeded p n (next_seed seed) (stands s c'))) →
          Comes (host_seeded p s n (next_seed seed) (host_pick p s k o)) (seeded p n (next_seed seed) (picked_at p (stands s c) o))
      turn e None i next = next k rs c ok all st settled
      turn e (Some t) i next =
          let none : (c.words).end ≡ None = ap (λ (w : Words). w.end) (sym st.words) ∙ e in
          let same = threads_same k c st settled in
          let place = pick (next_seed seed) (length (hosts_from k 0 k.made)) in
          let less : t < length c.seats = let r = from_range c.words c.seats 0 place t (ap (λ l. slice_get l place) (sym same)
          ∙ i) in omega (arith, r) in
          let b = pick_back k rs c ok st settled t less in
          let m = suc (rank p c t) in
          let so = solo_ok p pok small s t m rs c ok all in
          let r = next (host_pick p s k (Some t)) (so.0).0 (solo p s m c t) (so.0).1 so.1 b.0 (pick_settled k settled t (b.1).0 (b.1).1) in
          (r.0, r.1, r.2 ∙ ap (seeded p n (next_seed seed)) (pick_to p pok small s t rs c ok none all (rank p c t) (omega arith)))

      go : (e : Option End) → (k.words).end ≡ e → (o : Option ℕ) → host_thread k (next_seed seed) ≡ o
          → ((k' : Hosts) (rs' : List Ty) (c' : Core) → CoreOk p rs' c' → AllLively p small s c'.seats → StandsFor p k' c' → AreSettled k'
          → Comes (host_seeded p s n (next_seed seed) k') (seeded p n (next_seed seed) (stands s c'))) →
          Comes (if is_some e then k else host_seeded p s n (next_seed seed) (host_pick p s k (host_thread k (next_seed seed))))
          (seeded p (suc n) seed (stands s c))
      go (Some x) e o i next = (
        c,
        st,
        sym (seeded-ended p (suc n) seed (stands s c) (ap is_some (ap (λ (w : Words). w.end) (sym st.words) ∙ e))),
      )
      go None e o i next =
          let none : (c.words).end ≡ None = ap (λ (w : Words). w.end) (sym st.words) ∙ e in
          let r = turn e o i next in
          let j : o ≡ seeded_thread p (stands s c) (next_seed seed) = sym i ∙ ap (λ l. slice_get l (pick (next_seed seed) (length l)))
          (threads_same k c st settled ∙ runs_right p pok small s rs c ok none) in
          subst (λ y. Comes (host_seeded p s n (next_seed seed) (host_pick p s k y)) (seeded p (suc n) seed (stands s c))) (sym i) (
            r.0,
            r.1,
            r.2 ∙ ap (λ y. seeded p n (next_seed seed) (picked_at p (stands s c) y)) j
                ∙ sym (seeded-suc p n seed (stands s c) none),
          )

pub hosts_seeded : HostsSeeded
hosts_seeded p pok small s n seed =
    let start = start_held p pok s in
    let r = seeded_comes p pok small s n seed hosts_start (dyn ∷ []) (core_start p) (start_core p pok s) (main_lively p small) start.stands
    (λ h. tt) in (
      r,
      ap (λ (w : Words). w.lines) (r.1).words ∙ ap (λ (x : Configuration). x.lines) r.2,
      ap (λ (w : Words). w.end) (r.1).words ∙ ap (λ (x : Configuration). x.end) r.2,
    )
