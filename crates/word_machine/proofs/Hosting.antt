-- Every list of events of the hosts stands for the word machine by trees.
use Rattle.std.proofs.Common.{◌≡◌, ◌<◌, ℕ, zero, suc, ◌+◌, Bool, true, false, List, [], ◌∷◌, ◌++◌, length, Option, Some, None}
use Rattle.std.proofs.Common.{is_some, nat_lt, if◌then◌else◌, refl, sym, ap, ◌∙◌, subst, arith, slice_get}
use Rattle.mono_list.proofs.Cases.{none_some, some_is}
use Rattle.mono_syntax.specs.Ty.{Ty, dyn}
use Rattle.mono_syntax.specs.declared.value.Val.{Val}
use Rattle.mono_syntax.specs.declared.cast.CastScript.{CastScript}
use Rattle.mono_tree.specs.TypedPrograms.{IsTypedProgram}
use Rattle.cast_machine.specs.declared.data.Settings.{Settings}
use Rattle.cast_machine.proofs.Heap.{on_test}
use Rattle.word_machine.specs.Follows.{Follows, OnlyOf, tick_picks}
use Rattle.word_machine.specs.Hosts.{Header, HEmpty, HFunc, same_header, Host, Idle, Claims, Loads, Runs, Starts, Refused}
use Rattle.word_machine.specs.Hosts.{Hosts, arity, Event, Acts, BeginsMain, Begins}
use Rattle.word_machine.specs.Hosts.{host_ticks, event_ticks, happens, hosts_start}
use Rattle.word_machine.specs.Seats.{Seat}
use Rattle.word_machine.specs.StandsFor.{HostsFollow, HostsMore, HostsRight, Known, ByWords}
use Rattle.word_machine.specs.StandsFor.{IsStarted, IsClaimed, IsKnown, Knows, StandsFor}
use Rattle.word_machine.specs.Ticks.{Core, tick, tick_steps, core_start, after_ticks}
use Rattle.word_machine.specs.Follows as ThePicks
use Rattle.word_machine.specs.Hosts as TheHosts
use Rattle.cast_machine.specs.HeapTyping.{Extends}
use Rattle.cast_machine.proofs.Grows.{extends_refl}
use Rattle.word_machine.proofs.CoreOk.{CoreOk}
use Rattle.word_machine.proofs.Tick.{tick_ok}
use Rattle.word_machine.proofs.Follow.{Now, ran_tick, now_more, follows, start_core}
use Rattle.word_machine.proofs.HostChanges.{append_all, append_none, get_behind, length_more, there}
use Rattle.word_machine.proofs.HostActs.{alone_ok, claim_ok, claimed_seat, header_begun, header_made, load_ok, start_ok}
use Rattle.word_machine.proofs.HostDraws.{ticked_ok}

-- ---- events

-- a configuration of the trees that is reached, and what stands for it
pub record Held (p : CastScript) (k : Hosts) (c : Core) : Type 0 where
  pub results : List Ty
  pub ok : CoreOk p results c
  pub stands : StandsFor p k c

module _ (p : CastScript) (pok : IsTypedProgram p) (s : Settings) (k : Hosts) (c : Core) (i : Held p k c) where
  pub acts_ok : (h : ℕ) (x : Host) → k.hosts h ≡ x → Held p (TheHosts.acts p s k h x) (after_ticks p s c (host_ticks x))
  acts_ok h Idle e = i
  acts_ok h (Claims t w) e = record { results = i.results; ok = i.ok; stands = claim_ok p k c i.stands h s t w e }
  acts_ok h (Loads t g m loaded) e = record {
    results = i.results;
    ok = i.ok;
    stands = load_ok p k c i.stands h s t g m loaded e (slice_get (k.slots t).args (length loaded)) refl;
  }
  acts_ok h (Runs t q) e =
      let good = tick_ok p pok s i.results c i.ok t in
      record { results = good.results; ok = good.ok; stands = ticked_ok p pok s k i.results c i.ok i.stands h t q e }
  acts_ok h (Starts t q u g m left) e = record { results = i.results; ok = i.ok; stands = start_ok p k c i.stands h s t q u g m left e }
  acts_ok h Refused e = i

  -- an idle host is begun
  begin_ok : (h t : ℕ) (w : Header) → ((known : ℕ → Known) → Knows known (length c.seats) h (Claims t w)) → (x : Host) → k.hosts h ≡ x
      → Held p (TheHosts.begins p s k h t w x) c
  begin_ok h t w knows Idle e = record {
    results = i.results;
    ok = i.ok;
    stands = alone_ok p k c i.stands h (Claims t w) (λ u q args j. absurd (subst (λ y. IsStarted p u q args y) e j))
        (λ u q args j. absurd (subst (λ y. IsClaimed p u q args y) e j)) knows;
  }
  begin_ok h t w knows (Claims u y) e = i
  begin_ok h t w knows (Loads u g m loaded) e = i
  begin_ok h t w knows (Runs u q) e = i
  begin_ok h t w knows (Starts u q v g m left) e = i
  begin_ok h t w knows Refused e = i

  happens_ok : (e : Event) → Held p (happens p s k e) (after_ticks p s c (event_ticks k e))
  happens_ok (Acts h) = go (nat_lt h 256)
    where
      go : (b : Bool)
          → Held p (if b then TheHosts.acts p s k h (k.hosts h) else k) (after_ticks p s c (if b then host_ticks (k.hosts h) else []))
      go true = acts_ok h (k.hosts h) refl
      go false = i
  happens_ok (BeginsMain h) = on_test (nat_lt h 256) _ _ (λ y. Held p y c) (λ e. begin_ok h 0 HEmpty (λ known. refl) (k.hosts h) refl)
      (λ e. i)
  happens_ok (Begins h t g m) = on_test (nat_lt h 256) _ _ (λ y. Held p y c) (λ e. begin_ok h t (HFunc g m) (λ known. tt) (k.hosts h) refl)
      (λ e. i)

ticks_more : (p : CastScript) (s : Settings) (c : Core) (xs ys : List ℕ)
    → after_ticks p s c (xs ++ ys) ≡ after_ticks p s (after_ticks p s c xs) ys
ticks_more p s c [] ys = refl
ticks_more p s c (x ∷ xs) ys = ticks_more p s (tick p s c x) xs ys

pub events_ok : (p : CastScript) → IsTypedProgram p → (s : Settings) (k : Hosts) (c : Core) → Held p k c → (es : List Event)
    → Held p (TheHosts.after_events p s k es) (after_ticks p s c (TheHosts.ticks_of p s k es))
events_ok p pok s k c i [] = i
events_ok p pok s k c i (e ∷ es) =
    subst (λ z. Held p (TheHosts.after_events p s (happens p s k e) es) z)
    (sym (ticks_more p s c (event_ticks k e) (TheHosts.ticks_of p s (happens p s k e) es)))
    (events_ok p pok s (happens p s k e) (after_ticks p s c (event_ticks k e)) (happens_ok p pok s k c i e) es)

pub start_held : (p : CastScript) → IsTypedProgram p → (s : Settings) → Held p hosts_start (core_start p)
start_held p pok s = record {
  results = dyn ∷ [];
  ok = start_core p pok s;
  stands = record {
    words = refl;
    made = refl;
    main = omega arith;
    known = λ u. ByWords;
    threads = λ u q e. main u q e;
    hosts = λ h. tt;
    unmade = λ u i. refl;
  };
}
  where
    main : (u : ℕ) (q : Seat) → slice_get (core_start p).seats u ≡ Some q → IsKnown p hosts_start u q ByWords
    main zero q e = (refl, sym (some_is e))
    main (suc u) q e = none_some _ e

-- ---- what is loaded and unpacked

module _ (p : CastScript) (k : Hosts) (c : Core) (st : StandsFor p k c) where
  more_there : (rest : List Val) (r l n : ℕ) → length rest ≡ r → l + r ≡ n → l < n → (v : Val) × (slice_get rest 0 ≡ Some v)
  more_there [] r l n e i j = absurd (omega (arith, e))
  more_there (v ∷ rest) r l n e i j = (v, refl)

  pub hosts_right : HostsRight p k
  hosts_right = record {
    headers = λ u g m i.
        let q = there c.seats u (header_made p k c st 0 u g m i (nat_lt u (length c.seats)) refl) in
        let b = (header_begun p k c st 0 u g m i (st.known u) q.0 (st.threads u q.0 q.1)).1 in
        (record { function = b.function; at = b.at; low = b.low }, b.many);
    loads = λ h t g m loaded x.
        let kn = subst (λ y. Knows st.known (length c.seats) h y) x (st.hosts h) in
        let q = claimed_seat p k c st h t kn.0 kn.1 in
        let i = subst (λ y. IsClaimed p t q.0 (k.slots t).args y) x q.3 in
        let rest = i.2 in
        let v = more_there rest.0 (length rest.0) (length loaded) (arity m) refl (sym (length_more loaded rest.0) ∙ ap length (sym rest.1)
        ∙ (i.1).many) i.3 in
        (v.0, ap (λ l. slice_get l (length loaded)) rest.1 ∙ get_behind loaded rest.0 ∙ v.1);
  }

-- ---- with the calculus

ticks_follow : (p : CastScript) (pok : IsTypedProgram p) → (s : Settings) (ts : List ℕ) (rs : List Ty) (c : Core) → CoreOk p rs c
    → (picks : List ℕ) → Now p pok s c picks → Follows p s (after_ticks p s c ts) (picks ++ ThePicks.picks_of p s c ts)
ticks_follow p pok s [] rs c ok picks now = subst (λ l. Follows p s c l) (sym (append_none picks)) (follows p pok s rs c ok picks now)
ticks_follow p pok s (t ∷ ts) rs c ok picks now =
    let r = ran_tick p pok s rs c ok t in
    subst (λ l. Follows p s (after_ticks p s (tick p s c t) ts) l)
    (append_three picks (tick_picks p s c t) (ThePicks.picks_of p s (tick p s c t) ts))
    (ticks_follow p pok s ts r.results (tick p s c t) r.ok (picks ++ tick_picks p s c t)
    (now_more p pok s c picks t (tick_picks p s c t) (tick p s c t) now r))
  where
    append_three : (xs ys zs : List ℕ) → (xs ++ ys) ++ zs ≡ xs ++ (ys ++ zs)
    append_three [] ys zs = refl
    append_three (x ∷ xs) ys zs = ap (λ l. x ∷ l) (append_three xs ys zs)

pub hosts_follow : HostsFollow
hosts_follow p pok s events = (
  (events_ok p pok s hosts_start (core_start p) (start_held p pok s) events).stands,
  hosts_right p (TheHosts.after_events p s hosts_start events) (after_ticks p s (core_start p) (TheHosts.ticks_of p s hosts_start events))
      (events_ok p pok s hosts_start (core_start p) (start_held p pok s) events).stands,
  ticks_follow p pok s (TheHosts.ticks_of p s hosts_start events) (dyn ∷ []) (core_start p) (start_core p pok s) [] (
    (λ none. refl),
    refl,
    refl,
  ),
)

-- ---- one event more

module _ (p : CastScript) (pok : IsTypedProgram p) (s : Settings) (k : Hosts) (c : Core) (i : Held p k c) where
  abbrev Grows : Hosts → Type 0
  Grows k' = Extends (k.words).heap (k'.words).heap

  ticked_grows : (h t : ℕ) (q : Seat) → k.hosts h ≡ Runs t q → Grows (TheHosts.acts p s k h (Runs t q))
  ticked_grows h t q e =
      let good = tick_ok p pok s i.results c i.ok t in
      let st = ticked_ok p pok s k i.results c i.ok i.stands h t q e in
      subst (λ w. Extends (k.words).heap w.heap) (sym st.words)
      (subst (λ w. Extends w.heap ((tick p s c t).words).heap) (sym (i.stands).words) good.grows)

  acts_grow : (h : ℕ) (x : Host) → k.hosts h ≡ x → Grows (TheHosts.acts p s k h x)
  acts_grow h Idle e = extends_refl (k.words).heap
  acts_grow h (Claims t w) e = on_test (same_header w (k.slots t).header) _ _ Grows (λ y. extends_refl (k.words).heap)
      (λ y. extends_refl (k.words).heap)
  acts_grow h (Loads t g m loaded) e = by_load (slice_get (k.slots t).args (length loaded))
    where
      by_load : (o : Option Val) → Grows (TheHosts.loads p s k h t g m loaded o)
      by_load None = extends_refl (k.words).heap
      by_load (Some v) = extends_refl (k.words).heap
  acts_grow h (Runs t q) e = ticked_grows h t q e
  acts_grow h (Starts t q u g m left) e = by_left left
    where
      by_left : (l : List Val) → Grows (TheHosts.starts p s k h t q u g m l)
      by_left [] = extends_refl (k.words).heap
      by_left (v ∷ vs) = extends_refl (k.words).heap
  acts_grow h Refused e = extends_refl (k.words).heap

  begins_grow : (h t : ℕ) (w : Header) (x : Host) → Grows (TheHosts.begins p s k h t w x)
  begins_grow h t w Idle = extends_refl (k.words).heap
  begins_grow h t w (Claims u y) = extends_refl (k.words).heap
  begins_grow h t w (Loads u g m loaded) = extends_refl (k.words).heap
  begins_grow h t w (Runs u q) = extends_refl (k.words).heap
  begins_grow h t w (Starts u q v g m left) = extends_refl (k.words).heap
  begins_grow h t w Refused = extends_refl (k.words).heap

  happens_grow : (e : Event) → Grows (happens p s k e)
  happens_grow (Acts h) = on_test (nat_lt h 256) _ _ Grows (λ y. acts_grow h (k.hosts h) refl) (λ y. extends_refl (k.words).heap)
  happens_grow (BeginsMain h) = on_test (nat_lt h 256) _ _ Grows (λ y. begins_grow h 0 HEmpty (k.hosts h))
      (λ y. extends_refl (k.words).heap)
  happens_grow (Begins h t g m) = on_test (nat_lt h 256) _ _ Grows (λ y. begins_grow h t (HFunc g m) (k.hosts h))
      (λ y. extends_refl (k.words).heap)

module _ (p : CastScript) (s : Settings) where
  events_more : (k : Hosts) (es : List Event) (e : Event)
      → TheHosts.after_events p s k (es ++ e ∷ []) ≡ happens p s (TheHosts.after_events p s k es) e
  events_more k [] e = refl
  events_more k (x ∷ es) e = events_more (happens p s k x) es e

  ticks_append : (k : Hosts) (es : List Event) (e : Event)
      → TheHosts.ticks_of p s k (es ++ e ∷ []) ≡ TheHosts.ticks_of p s k es ++ event_ticks
      (TheHosts.after_events p s k es) e
  ticks_append k [] e = append_none (event_ticks k e)
  ticks_append k (x ∷ es) e = ap (λ l. event_ticks k x ++ l) (ticks_append (happens p s k x) es e)
      ∙ sym (append_all (event_ticks k x) (TheHosts.ticks_of p s (happens p s k x) es)
      (event_ticks (TheHosts.after_events p s (happens p s k x) es) e))

  picks_append : (c : Core) (xs ys : List ℕ) → ThePicks.picks_of p s c (xs ++ ys) ≡ ThePicks.picks_of p s c xs ++ ThePicks.picks_of p s
      (after_ticks p s c xs) ys
  picks_append c [] ys = refl
  picks_append c (x ∷ xs) ys = ap (λ l. tick_picks p s c x ++ l) (picks_append (tick p s c x) xs ys)
      ∙ sym (append_all (tick_picks p s c x) (ThePicks.picks_of p s (tick p s c x) xs)
      (ThePicks.picks_of p s (after_ticks p s (tick p s c x) xs) ys))

  only_event : (k : Hosts) (c : Core) (h t : ℕ) (q : Seat) → k.hosts h ≡ Runs t q
      → OnlyOf t (ThePicks.picks_of p s c (event_ticks k (Acts h)))
  only_event k c h t q e =
      on_test (nat_lt h 256) _ _ (λ l. OnlyOf t (ThePicks.picks_of p s c l))
      (λ y. subst (λ x. OnlyOf t (ThePicks.picks_of p s c (host_ticks x))) (sym e)
      (subst (OnlyOf t) (sym (append_none (tick_picks p s c t))) (only_tick (is_some (c.words).end) (tick_steps p s c t))))
      (λ y. tt)
    where
      only_tick : (a b : Bool) → OnlyOf t (if a then [] else (if b then t ∷ [] else []))
      only_tick true b = tt
      only_tick false true = (refl, tt)
      only_tick false false = tt

pub hosts_more : HostsMore
hosts_more p pok s events e =
    let k = TheHosts.after_events p s hosts_start events in
    let ticks = TheHosts.ticks_of p s hosts_start events in
    let c = after_ticks p s (core_start p) ticks in (
      events_more p s hosts_start events e,
      happens_grow p pok s k c (events_ok p pok s hosts_start (core_start p) (start_held p pok s) events) e,
      ap (ThePicks.picks_of p s (core_start p)) (ticks_append p s hosts_start events e)
          ∙ picks_append p s (core_start p) ticks (event_ticks k e),
      (λ h t q x. only_event p s k c h t q x),
    )
