-- When hosts and start words stand for a configuration of the word machine by trees, and that they always do.
use Rattle.std.specs.Prelude.{◌≡◌, ℕ, ◌+◌, ◌<◌, List, [], ◌∷◌, ◌++◌, length, Some, slice_get}
use Rattle.mono_syntax.specs.Ty.{Ty}
use Rattle.mono_syntax.specs.declared.cast.CastFunction.{CastFunction}
use Rattle.mono_syntax.specs.declared.cast.CastScript.{CastScript}
use Rattle.mono_syntax.specs.declared.value.Val.{Val}
use Rattle.mono_tree.specs.TypedPrograms.{IsTypedProgram}
use Rattle.cast_machine.specs.HeapTyping.{IsAsPrecise, IsFunctionOf, Extends}
use Rattle.cast_machine.specs.declared.data.Settings.{Settings}
use Rattle.word_machine.specs.Follows.{Follows, OnlyOf, picks_of}
use Rattle.word_machine.specs.Hosts.{Header, HEmpty, hosts_start, Host, main_seat, Starts, ticks_of, after_events, event_ticks}
use Rattle.word_machine.specs.Hosts.{HClaimed, HFunc, Acts, Loads, Event, arity, happens, Claims, Runs, Refused, Idle, Hosts}
use Rattle.word_machine.specs.Seats.{Seat, fresh_seat}
use Rattle.word_machine.specs.Ticks.{Core, core_start, after_ticks}

-- ---- where a thread is known from

-- a function of the script at a merged type of its arity, called with these arguments
pub record Begun (p : CastScript) (g : ℕ) (m : Ty) (args : List Val) (q : Seat) : Type 0 where
  pub function : CastFunction
  pub at : slice_get p.functions g ≡ Some function
  pub low : IsAsPrecise m function.ty
  pub many : length args ≡ arity m
  pub is : q ≡ fresh_seat function m args

-- Where the state of a thread is known from: a host that still stores its start words, these words alone, or the host that claimed it.
pub data Known : Type 0 where
  ByStarter : (host : ℕ) → Known
  ByWords : Known
  ByClaimer : (host : ℕ) → Known

-- the main thread's header is empty until it is claimed; another thread's is its function's word
abbrev pub IsReady : CastScript → ℕ → Seat → List Val → Header → Type 0
IsReady p u q args HEmpty = (u ≡ 0) × (q ≡ main_seat p)
IsReady p u q args (HFunc g m) = (0 < u) × Begun p g m args q
IsReady p u q args HClaimed = ⊥

-- the arguments that are stored, and those that the starter has still to store
abbrev pub IsStarted : CastScript → ℕ → Seat → List Val → Host → Type 0
IsStarted p u q args (Starts t r v g m left) = (v ≡ u) × Begun p g m (args ++ left) q
IsStarted p u q args x = ⊥

-- the claiming seat's state, with the argument words that it has still to load
abbrev pub IsClaimed : CastScript → ℕ → Seat → List Val → Host → Type 0
IsClaimed p u q args (Loads t g m loaded) = (t ≡ u) × Begun p g m args q × ((rest : List Val) × (args ≡ loaded ++ rest))
    × (length loaded < arity m)
IsClaimed p u q args (Runs t r) = (t ≡ u) × (r ≡ q)
IsClaimed p u q args (Starts t r v g m left) = (t ≡ u) × (r ≡ q)
IsClaimed p u q args x = ⊥

-- what stands there says the state of the thread
abbrev pub IsKnown : CastScript → Hosts → ℕ → Seat → Known → Type 0
IsKnown p k u q (ByStarter h) = (0 < u) × ((k.slots u).header ≡ HEmpty) × IsStarted p u q (k.slots u).args (k.hosts h)
IsKnown p k u q ByWords = IsReady p u q (k.slots u).args (k.slots u).header
IsKnown p k u q (ByClaimer h) = ((k.slots u).header ≡ HClaimed) × IsClaimed p u q (k.slots u).args (k.hosts h)

-- what a host knows is known from it alone
abbrev pub Knows : (ℕ → Known) → ℕ → ℕ → Host → Type 0
Knows known n h Idle = Unit {0}
Knows known n h (Claims t HEmpty) = t ≡ 0
Knows known n h (Claims t w) = Unit {0}
Knows known n h (Loads t g m loaded) = (known t ≡ ByClaimer h) × (t < n)
Knows known n h (Runs t q) = (known t ≡ ByClaimer h) × (t < n)
Knows known n h (Starts t q u g m left) = (known t ≡ ByClaimer h) × (t < n) × (known u ≡ ByStarter h) × (u < n)
Knows known n h Refused = Unit {0}

-- the hosts and words stand for this configuration of the word machine by trees
pub record StandsFor (p : CastScript) (k : Hosts) (c : Core) : Type 0 where
  pub words : k.words ≡ c.words
  pub made : k.made ≡ length c.seats
  pub main : 0 < length c.seats
  pub known : ℕ → Known
  pub threads : (u : ℕ) (q : Seat) → slice_get c.seats u ≡ Some q → IsKnown p k u q (known u)
  pub hosts : (h : ℕ) → Knows known (length c.seats) h (k.hosts h)
  -- the start words of a thread that isn't made are empty
  pub unmade : (u : ℕ) → length c.seats < u + 1 → k.slots u ≡ record { header = HEmpty; args = [] }

-- each header that unpacks is a function of the script at a merged type of its arity, whose argument words are stored; and
-- each argument word that is loaded is there
pub record HostsRight (p : CastScript) (k : Hosts) : Type 0 where
  pub headers : (u g : ℕ) (m : Ty) → (k.slots u).header ≡ HFunc g m → IsFunctionOf p g m × (length (k.slots u).args ≡ arity m)
  pub loads : (h t g : ℕ) (m : Ty) (loaded : List Val) → k.hosts h ≡ Loads t g m loaded
      → (v : Val) × (slice_get (k.slots t).args (length loaded) ≡ Some v)

-- Every list of events: the hosts stand for the word machine after their ticks, which follows the calculus.
abbrev pub HostsFollow : Type 0
HostsFollow =
    (p : CastScript) → IsTypedProgram p → (s : Settings) (events : List Event) →
    StandsFor p (after_events p s hosts_start events) (after_ticks p s (core_start p) (ticks_of p s hosts_start events))
    × HostsRight p (after_events p s hosts_start events)
    × Follows p s (after_ticks p s (core_start p) (ticks_of p s hosts_start events))
    (picks_of p s (core_start p) (ticks_of p s hosts_start events))

-- One event more: no heap word's type gets less precise, and the picks gain steps of the thread that its host runs, or none.
abbrev pub HostsMore : Type 0
HostsMore =
    (p : CastScript) → IsTypedProgram p → (s : Settings) (events : List Event) (e : Event) →
    (after_events p s hosts_start (events ++ e ∷ []) ≡ happens p s (after_events p s hosts_start events) e)
    × Extends ((after_events p s hosts_start events).words).heap ((happens p s (after_events p s hosts_start events) e).words).heap
    × (picks_of p s (core_start p) (ticks_of p s hosts_start (events ++ e ∷ []))
    ≡ picks_of p s (core_start p) (ticks_of p s hosts_start events) ++ picks_of p s
    (after_ticks p s (core_start p) (ticks_of p s hosts_start events)) (event_ticks (after_events p s hosts_start events) e))
    × ((h t : ℕ) (q : Seat) → (after_events p s hosts_start events).hosts h ≡ Runs t q
    → OnlyOf t (picks_of p s (after_ticks p s (core_start p) (ticks_of p s hosts_start events))
    (event_ticks (after_events p s hosts_start events) (Acts h))))
