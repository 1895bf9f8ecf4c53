-- The word machine with its hosts: 256 hosts that are begun, claim a thread, load its arguments and run it, and the words
-- by which a thread is started.
use Rattle.std.specs.Prelude.{ℕ, ◌+◌, Bool, true, false, ◌&&◌, List, [], ◌∷◌, ◌++◌, length, Option, Some, None, nat_eq, nat_le, nat_lt}
use Rattle.std.specs.Prelude.{if◌then◌else◌, slice_get}
use Rattle.mono_syntax.specs.Limits.{most_threads}
use Rattle.mono_syntax.specs.Ty.{Ty}
use Rattle.mono_syntax.specs.declared.cast.CastFunction.{CastFunction}
use Rattle.mono_syntax.specs.declared.cast.CastScript.{CastScript}
use Rattle.mono_syntax.specs.declared.value.Val.{Val}
use Rattle.mono_tree.specs.CastScripts.{params_of}
use Rattle.cast_machine.specs.Calls.{count_of}
use Rattle.cast_machine.specs.Cells.{same_type}
use Rattle.cast_machine.specs.Step.{main_frame}
use Rattle.cast_machine.specs.declared.data.Settings.{Settings}
use Rattle.word_machine.specs.Seats.{Quick, Seat, Next, NLocal, NRest, NWants, NBegins, next_action, resume, fresh_seat}
use Rattle.word_machine.specs.Ticks.{empty_results}
use Rattle.word_machine.specs.Words.{Words, Answer, Full, Counts, Drawn, apply}
use Rattle.cast_machine.specs.declared.data.State.TheVariants as state

-- ---- the words

-- The header of a thread: empty, as the main thread's is; the word of a function at a merged type, which says what the thread
-- runs; or claimed. A host claims a thread by exchanging its header for the claimed one.
pub data Header : Type 0 where
  HEmpty : Header
  HFunc : (func : ℕ) → (merged : Ty) → Header
  HClaimed : Header

-- the header, and the argument words that are stored
pub record Slot : Type 0 where
  pub header : Header
  pub args : List Val

-- two headers are the same word; a claimed one is the same as none, so no thread is claimed twice
abbrev pub same_header : Header → Header → Bool
same_header HEmpty HEmpty = true
same_header (HFunc g m) (HFunc j n) = nat_eq g j && same_type m n
same_header h k = false

-- ---- the hosts

-- a host runs one thread at most, once it is begun
pub data Host : Type 0 where
  -- it is not begun
  Idle : Host
  -- it claims this thread, whose header it expects
  Claims : (thread : ℕ) → (expects : Header) → Host
  -- it has claimed the thread and loads its arguments
  Loads : (thread func : ℕ) → (merged : Ty) → (loaded : List Val) → Host
  -- it runs its thread
  Runs : (thread : ℕ) → (seat : Seat) → Host
  -- it runs a thread that has drawn another, whose start words it stores
  Starts : (thread : ℕ) → (seat : Seat) → (new func : ℕ) → (merged : Ty) → (left : List Val) → Host
  -- its claim was refused, and it does nothing any more
  Refused : Host

-- the words, the start words of each thread number, and the hosts
pub record Hosts : Type 0 where
  pub words : Words
  pub slots : ℕ → Slot
  -- the threads made
  pub made : ℕ
  pub hosts : ℕ → Host

-- a function that is x at n, and the other elsewhere
abbrev pub put : {A : Type 0} → (ℕ → A) → ℕ → A → ℕ → A
put f n x u = if nat_eq n u then x else f u

-- the number of parameters of a merged type
abbrev pub arity : Ty → ℕ
arity m = count_of (params_of m)

-- the main thread at its beginning
abbrev pub main_seat : CastScript → Seat
main_seat p = record { asked = None; state = state.Running (main_frame p) []; steps = 0; micro = Quick }

-- the thread of a header and its arguments at its beginning, where the script has the function
abbrev pub first_seat : Option CastFunction → ℕ → Ty → List Val → Host
first_seat None t m args = Refused
first_seat (Some d) t m args = Runs t (fresh_seat d m args)

-- a claimed thread whose arguments are loaded runs
abbrev pub loading : CastScript → ℕ → ℕ → Ty → List Val → Host
loading p t g m loaded = if nat_le (arity m) (length loaded) then first_seat (slice_get p.functions g) t m loaded else Loads t g m loaded

-- the host behind a claim
abbrev pub claimed : CastScript → ℕ → Header → Host
claimed p t HEmpty = Runs t (main_seat p)
claimed p t (HFunc g m) = loading p t g m []
claimed p t HClaimed = Refused

module _ (p : CastScript) (s : Settings) (k : Hosts) (h : ℕ) where
  -- the host becomes x
  abbrev pub becomes : Host → Hosts
  becomes x = record k { hosts = put k.hosts h x }

  -- with another slot of thread t
  abbrev pub stores : ℕ → Slot → Host → Hosts
  stores t l x = record k { slots = put k.slots t l; hosts = put k.hosts h x }

  -- a claim compares: only where the header is the expected one is it exchanged
  abbrev pub claims : ℕ → Header → Hosts
  claims t w = if same_header w (k.slots t).header then stores t (record (k.slots t) { header = HClaimed }) (claimed p t w)
      else becomes Refused

  -- an argument word is loaded
  abbrev pub loads : ℕ → ℕ → Ty → List Val → Option Val → Hosts
  loads t g m loaded None = k
  loads t g m loaded (Some v) = becomes (loading p t g m (loaded ++ v ∷ []))

  -- the arguments of a new thread are stored first, and its header last
  abbrev pub starts : ℕ → Seat → ℕ → ℕ → Ty → List Val → Hosts
  starts t q u g m [] = stores u (record (k.slots u) { header = HFunc g m }) (Runs t q)
  starts t q u g m (v ∷ vs) = stores u (record (k.slots u) { args = (k.slots u).args ++ v ∷ [] }) (Starts t q u g m vs)

  -- the words behind an action of the thread, and its seat behind the answer
  abbrev pub answers : ℕ → (Answer → Seat) → Words × Answer → Hosts
  answers t res r = record k { words = r.0; hosts = put k.hosts h (Runs t (res r.1)) }

  -- a thread is drawn
  abbrev pub draws : ℕ → (Answer → Seat) → ℕ → ℕ → Ty → List Val → Hosts
  draws t res n g m args =
      if nat_eq n k.made
      then (if nat_le most_threads k.made then becomes (Runs t (res Full))
      else record k { made = k.made + 1; hosts = put k.hosts h (Starts t (res (Drawn k.made)) k.made g m args) })
      else becomes (Runs t (res (Counts k.made)))

  -- what the thread of a host does next
  abbrev pub runs : ℕ → (Answer → Seat) → Next → Hosts
  runs t res (NLocal q) = becomes (Runs t q)
  runs t res NRest = k
  runs t res (NWants a) = answers t res (apply s k.words a)
  runs t res (NBegins n g m args new) = draws t res n g m args

  -- one local step or one action of a host
  abbrev pub acts : Host → Hosts
  acts Idle = k
  acts (Claims t w) = claims t w
  acts (Loads t g m loaded) = loads t g m loaded (slice_get (k.slots t).args (length loaded))
  acts (Runs t q) = runs t (resume p s q) (next_action p s t q)
  acts (Starts t q u g m left) = starts t q u g m left
  acts Refused = k

  -- an idle host is begun
  abbrev pub begins : ℕ → Header → Host → Hosts
  begins t w Idle = becomes (Claims t w)
  begins t w x = k

-- one of the 256 hosts acts, or is begun with the main thread, or with a thread, a function and a merged type
pub data Event : Type 0 where
  Acts : (host : ℕ) → Event
  BeginsMain : (host : ℕ) → Event
  Begins : (host thread func : ℕ) → (merged : Ty) → Event

-- only the first 256 numbers are hosts
abbrev pub within : ℕ → Hosts → Hosts → Hosts
within h k k' = if nat_lt h most_threads then k' else k

-- what is there after an event; a begin names a host, and where the host is not idle it does nothing
abbrev pub happens : CastScript → Settings → Hosts → Event → Hosts
happens p s k (Acts h) = within h k (acts p s k h (k.hosts h))
happens p s k (BeginsMain h) = within h k (begins p s k h 0 HEmpty (k.hosts h))
happens p s k (Begins h t g m) = within h k (begins p s k h t (HFunc g m) (k.hosts h))

-- a host ticks the thread that it runs
abbrev pub host_ticks : Host → List ℕ
host_ticks (Runs t q) = t ∷ []
host_ticks x = []

-- the threads that tick by an event: the one that its host runs, or none
abbrev pub event_ticks : Hosts → Event → List ℕ
event_ticks k (Acts h) = if nat_lt h most_threads then host_ticks (k.hosts h) else []
event_ticks k e = []

-- the hosts after these events
abbrev pub after_events : CastScript → Settings → Hosts → List Event → Hosts
after_events p s k [] = k
after_events p s k (e ∷ es) = after_events p s (happens p s k e) es

-- the threads that tick by these events, in order
abbrev pub ticks_of : CastScript → Settings → Hosts → List Event → List ℕ
ticks_of p s k [] = []
ticks_of p s k (e ∷ es) = event_ticks k e ++ ticks_of p s (happens p s k e) es

-- every host is idle, no word is drawn, no header or argument is stored, and the main thread is the only one made
abbrev pub hosts_start : Hosts
hosts_start = record {
  words = record { heap = []; lines = []; results = empty_results most_threads; end = None };
  slots = λ u. record { header = HEmpty; args = [] };
  made = 1;
  hosts = λ h. Idle;
}
