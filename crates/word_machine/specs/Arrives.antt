-- A host that claims or stores start words comes to run its thread, by so many actions of its own.
use Rattle.std.specs.Prelude.{◌≡◌, ℕ, zero, suc, ◌+◌, List, length}
use Rattle.mono_syntax.specs.Ty.{Ty}
use Rattle.mono_syntax.specs.declared.cast.CastScript.{CastScript}
use Rattle.mono_syntax.specs.declared.value.Val.{Val}
use Rattle.mono_tree.specs.TypedPrograms.{IsTypedProgram}
use Rattle.cast_machine.specs.declared.data.Settings.{Settings}
use Rattle.word_machine.specs.Hosts.{HEmpty, HFunc, Claims, Runs, Starts, Hosts, Event, acts, arity, main_seat, after_events, hosts_start}
use Rattle.word_machine.specs.Seats.{Seat}

-- so many acts of one host
abbrev pub acts_of : CastScript → Settings → ℕ → Hosts → ℕ → Hosts
acts_of p s zero k h = k
acts_of p s (suc n) k h = acts_of p s n (acts p s k h (k.hosts h)) h

-- how many acts bring a host to run its thread
pub record Arrives (p : CastScript) (s : Settings) (k : Hosts) : Type 0 where
  -- the main thread, claimed while its header is empty
  pub main : (h : ℕ) → k.hosts h ≡ Claims 0 HEmpty → (k.slots 0).header ≡ HEmpty → (acts_of p s 1 k h).hosts h ≡ Runs 0 (main_seat p)
  -- another thread, claimed with the word of its header: the claim and a load for each argument
  pub thread : (h t g : ℕ) (m : Ty) → k.hosts h ≡ Claims t (HFunc g m) → (k.slots t).header ≡ HFunc g m
      → (q : Seat) × ((acts_of p s (1 + arity m) k h).hosts h ≡ Runs t q)
  -- a starter: a store for each argument that is left, and the header's
  pub starter : (h t u g : ℕ) (q : Seat) (m : Ty) (left : List Val) → k.hosts h ≡ Starts t q u g m left
      → (acts_of p s (1 + length left) k h).hosts h ≡ Runs t q

-- after every list of events
abbrev pub HostsArrive : Type 0
HostsArrive = (p : CastScript) → IsTypedProgram p → (s : Settings) (events : List Event) → Arrives p s (after_events p s hosts_start events)
