-- A host draws a thread, and each act of a host of a configuration that is reached.
use Rattle.std.proofs.Common.{◌≡◌, ⊎_elim, ◌<◌, ◌≤◌, ℕ, ◌+◌, Bool, true, false, List, [], ◌∷◌, ◌++◌, length, Some}
use Rattle.std.proofs.Common.{nat_eq, nat_le, if◌then◌else◌, refl, sym, ap, ◌∙◌, subst, arith, slice_get, slice_set}
use Rattle.std.proofs.lemmas.Option.{slice_get_within}
use Rattle.mono_syntax.specs.Ty.{Ty}
use Rattle.mono_syntax.specs.declared.value.Val.{Val}
use Rattle.mono_syntax.specs.declared.cast.CastScript.{CastScript}
use Rattle.mono_tree.specs.TypedPrograms.{IsTypedProgram}
use Rattle.cast_machine.specs.declared.data.Settings.{Settings}
use Rattle.cast_machine.proofs.Heap.{on_test}
use Rattle.cast_machine.proofs.ThreadLists.{end_cases, length-slice_set}
use Rattle.word_machine.specs.Hosts.{Slot, Host, Runs, Starts}
use Rattle.word_machine.specs.Hosts.{Hosts, put}
use Rattle.word_machine.specs.Seats.{Seat, Next, NLocal, NRest, NWants, NBegins, next_action, resume}
use Rattle.word_machine.specs.StandsFor.{Begun, Known, ByStarter, ByWords, ByClaimer}
use Rattle.word_machine.specs.StandsFor.{IsStarted, IsClaimed, IsKnown, Knows, StandsFor}
use Rattle.word_machine.specs.Ticks.{Core, acted, answered, tick, tick_seat}
use Rattle.word_machine.specs.Words.{Words, Answer, Full, Counts, Drawn, apply}
use Rattle.word_machine.specs.Hosts as TheHosts
use Rattle.word_machine.proofs.CoreOk.{CoreOk}
use Rattle.word_machine.proofs.Begins.{begins_right}
use Rattle.word_machine.proofs.HostChanges.{changes_ok, length_more, not_same, put_at, put_here, put_other, unlike}
use Rattle.word_machine.proofs.HostActs.{moved_ok, runs_seat}

-- ---- a thread draws another

module _ (p : CastScript) (k : Hosts) (c : Core) (st : StandsFor p k c) (h t : ℕ) (q : Seat) (x : k.hosts h ≡ Runs t q) (g : ℕ) (m : Ty)
    (args : List Val) (new : Seat) (b : Begun p g m args new) where
  abbrev u : ℕ
  u = length c.seats

  abbrev starting : Host
  starting = Starts t q u g m args

  abbrev drawn : Hosts
  drawn = record k { made = k.made + 1; hosts = put k.hosts h starting }

  abbrev with_new : Core
  with_new = record { words = c.words; seats = c.seats ++ new ∷ [] }

  one_more : length (c.seats ++ new ∷ []) ≡ length c.seats + 1
  one_more = length_more c.seats (new ∷ []) ∙ refl

  drawn_ok : StandsFor p drawn with_new
  drawn_ok =
      let kn = subst (λ y. Knows st.known (length c.seats) h y) x (st.hosts h) in
      let zero_slot = st.unmade u (omega arith) in
      changes_ok p k c st h u starting (ByStarter h) drawn with_new
      (record {
        words = st.words;
        made = ap (λ n. n + 1) st.made ∙ sym one_more;
        longer = longer (length c.seats) (length (c.seats ++ new ∷ [])) one_more;
        here = put_here k.hosts h starting;
        others = λ j d. put_other k.hosts h j starting d;
        slots = λ w d. refl;
        seats = λ w z d a. ⊎_elim (λ i. i) (λ i. absurd (not_same w (subst (λ j. nat_eq j w ≡ false) (sym i.0) d)))
            (end_cases c.seats w new z a);
        starters = λ w z args' d a. absurd (subst (λ y. IsStarted p w z args' y) x a);
        claimers = λ w z args' d a. subst (λ y. IsClaimed p w z args' y) x a;
        place = λ z a.
            let same : new ≡ z = ⊎_elim (λ i. let l = slice_get_within c.seats u z i in absurd (omega (arith, l))) (λ i. i.1)
            (end_cases c.seats u new z a) in (
              st.main,
              ap (λ (l : Slot). l.header) zero_slot,
              subst (λ y. IsStarted p u z (k.slots u).args y) (sym (put_here k.hosts h starting)) (
                refl,
                subst (λ l. Begun p g m (l ++ args) z) (sym (ap (λ (l : Slot). l.args) zero_slot))
                    (subst (λ y. Begun p g m args y) same b),
              ),
            );
        knows = (
          put_other st.known u t (ByStarter h) (unlike t u kn.1) ∙ kn.0,
          before t (length c.seats) (length (c.seats ++ new ∷ [])) kn.1 one_more,
          put_here st.known u (ByStarter h),
          last (length c.seats) (length (c.seats ++ new ∷ [])) one_more,
        );
        mine = λ i j d. absurd (omega (arith, i));
        unmade = λ w i. st.unmade w (earlier (length c.seats) (length (c.seats ++ new ∷ [])) w one_more i);
      })
    where
      longer : (a z : ℕ) → z ≡ a + 1 → a ≤ z
      longer a z e = omega arith

      before : (i a z : ℕ) → i < a → z ≡ a + 1 → i < z
      before i a z l e = omega arith

      last : (a z : ℕ) → z ≡ a + 1 → a < z
      last a z e = omega arith

      earlier : (a z w : ℕ) → z ≡ a + 1 → z < w + 1 → a < w + 1
      earlier a z w e i = omega arith

put_again : {A : Type 0} (f : ℕ → A) (h : ℕ) (x y : A) (j : ℕ) → put (put f h x) h y j ≡ put f h y j
put_again f h x y j = on_test (nat_eq h j) _ _ (λ z. z ≡ put f h y j) (λ e. sym (put_at f h j y e))
    (λ e. put_other f h j x e ∙ sym (put_other f h j y e))

-- hosts that are the same at each number
same_hosts : (p : CastScript) (k : Hosts) (c : Core) (f : ℕ → Host) → ((j : ℕ) → k.hosts j ≡ f j) → StandsFor p k c
    → StandsFor p (record k { hosts = f }) c
same_hosts p k c f e st = record {
  words = st.words;
  made = st.made;
  main = st.main;
  known = st.known;
  threads = λ u q i. at u q (st.known u) (st.threads u q i);
  hosts = λ j. subst (λ y. Knows st.known (length c.seats) j y) (e j) (st.hosts j);
  unmade = st.unmade;
}
  where
    at : (u : ℕ) (q : Seat) (n : Known) → IsKnown p k u q n → IsKnown p (record k { hosts = f }) u q n
    at u q (ByStarter h) i = (i.0, i.1, subst (λ y. IsStarted p u q (k.slots u).args y) (e h) i.2)
    at u q ByWords i = i
    at u q (ByClaimer h) i = (i.0, subst (λ y. IsClaimed p u q (k.slots u).args y) (e h) i.1)

module _ (p : CastScript) (pok : IsTypedProgram p) (s : Settings) (k : Hosts) (rs : List Ty) (c : Core) (ok : CoreOk p rs c)
    (st : StandsFor p k c) (h t : ℕ) (q : Seat) (x : k.hosts h ≡ Runs t q) where
  abbrev By : Hosts → Core → Type 0
  By k' c' = StandsFor p k' c'

  at : slice_get c.seats t ≡ Some q
  at = (runs_seat p k c st h s t q x).0

  same_words : (w : Words) → k.words ≡ w → record k { words = w } ≡ k
  same_words w e = ap (λ v. record k { words = v }) (sym e)

  -- its seat changes alone
  seat_only : (r : Seat) → By (record k { hosts = put k.hosts h (Runs t r) }) (record { words = c.words; seats = slice_set c.seats t r })
  seat_only r = moved_ok p k c st h s t q x k.words c.words r st.words

  answered_ok : (res : Answer → Seat) (r : Words × Answer) → By (TheHosts.answers p s k h t res r) (answered s c t res r)
  answered_ok res r = moved_ok p k c st h s t q x r.0 r.0 (res r.1) refl

  draws_ok : (res : Answer → Seat) (n g : ℕ) (m : Ty) (args : List Val) (new : Seat) → Begun p g m args new
      → By (TheHosts.draws p s k h t res n g m args) (Rattle.word_machine.specs.Ticks.begins s c t res n new)
  draws_ok res n g m args new b = subst (λ z. By (by_count z) (Rattle.word_machine.specs.Ticks.begins s c t res n new)) (sym st.made)
      (go (nat_eq n (length c.seats)) (nat_le 256 (length c.seats)) refl)
    where
      by_count : ℕ → Hosts
      by_count z =
          if nat_eq n z
          then (if nat_le 256 z then record k { hosts = put k.hosts h (Runs t (res Full)) }
          else record k { made = k.made + 1; hosts = put k.hosts h (Starts t (res (Drawn z)) z g m args) })
          else record k { hosts = put k.hosts h (Runs t (res (Counts z))) }

      one : Seat → Hosts
      one r = record k { hosts = put k.hosts h (Runs t r) }

      two : (r : Seat) → By (record k { made = k.made + 1; hosts = put k.hosts h (Starts t r (length c.seats) g m args) })
          (record { words = c.words; seats = slice_set c.seats t r ++ new ∷ [] })
      two r =
          let c1 : Core = record { words = c.words; seats = slice_set c.seats t r } in
          let len = length-slice_set c.seats t r in
          subst (λ l. By (record k { made = k.made + 1; hosts = put k.hosts h (Starts t r l g m args) })
          (record { words = c.words; seats = slice_set c.seats t r ++ new ∷ [] })) len
          (same_hosts p (record k { made = k.made + 1; hosts = put (put k.hosts h (Runs t r)) h (Starts t r (length c1.seats) g m args) })
          (record { words = c.words; seats = c1.seats ++ new ∷ [] })
          (put k.hosts h (Starts t r (length c1.seats) g m args))
          (λ j. put_again k.hosts h (Runs t r) (Starts t r (length c1.seats) g m args) j)
          (drawn_ok p (one r) c1 (seat_only r) h t r (put_here k.hosts h (Runs t r)) g m args new b))

      go : (y z : Bool) → nat_eq n (length c.seats) ≡ y →
          By
          (if y
          then (if z then one (res Full)
          else record k {
            made = k.made + 1;
            hosts = put k.hosts h (Starts t (res (Drawn (length c.seats))) (length c.seats) g m args);
          })
          else one (res (Counts (length c.seats))))
          (if y
          then (if z then answered s c t res (c.words, Full)
          else record { words = c.words; seats = slice_set c.seats t (res (Drawn (length c.seats))) ++ new ∷ [] })
          else answered s c t res (c.words, Counts (length c.seats)))
      go true true e = seat_only (res Full)
      go true false e = two (res (Drawn (length c.seats)))
      go false z e = seat_only (res (Counts (length c.seats)))

  runs_ok : (n : Next) → next_action p s t q ≡ n → By (TheHosts.runs p s k h t (resume p s q) n) (acted s c t (resume p s q) n)
  runs_ok (NLocal r) e = seat_only r
  runs_ok NRest e = st
  runs_ok (NWants a) e =
      subst (λ w. By (TheHosts.answers p s k h t (resume p s q) (apply s w a)) (answered s c t (resume p s q) (apply s c.words a)))
      (sym st.words)
      (answered_ok (resume p s q) (apply s c.words a))
  runs_ok (NBegins n g m args new) e = draws_ok (resume p s q) n g m args new (begins_right p s rs c ok t q at n g m args new e)

  pub ticked_ok : By (TheHosts.acts p s k h (Runs t q)) (tick p s c t)
  ticked_ok = subst (λ o. By (TheHosts.acts p s k h (Runs t q)) (tick_seat p s c t o)) (sym at) (runs_ok (next_action p s t q) refl)
