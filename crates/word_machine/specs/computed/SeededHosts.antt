-- Computed: the run in the order of a seed, by hosts: thread t is run by host t, which is begun when t is picked first.
use Rattle.std.specs.Prelude.{ℕ, zero, suc, ◌+◌, Bool, true, false, List, [], ◌∷◌, length, Option, Some, None, is_some, if◌then◌else◌}
use Rattle.std.specs.Prelude.{slice_get}
use Rattle.mono_syntax.specs.declared.cast.CastScript.{CastScript}
use Rattle.cast_machine.specs.Step.{next_seed, pick}
use Rattle.cast_machine.specs.declared.data.Settings.{Settings}
use Rattle.word_machine.specs.Arrives.{acts_of}
use Rattle.word_machine.specs.Hosts.{Header, HFunc, Host, Idle, Claims, Runs, Starts, Hosts, put, acts, arity}
use Rattle.word_machine.specs.Seats.{next_action}
use Rattle.word_machine.specs.Ticks.{is_step, next_steps}
use Rattle.word_machine.specs.computed.Ranks.{seat_rank}
use Rattle.word_machine.specs.computed.SeededTicks.{state_runs}

-- whether the next act of a host is the step of its thread
abbrev pub host_steps : CastScript → Settings → Hosts → Host → Bool
host_steps p s k (Runs t q) = next_steps p s k.words k.made (is_step p s q) (next_action p s t q)
host_steps p s k x = false

-- acts of host h until one is the step, at most n of them
abbrev pub host_solo : CastScript → Settings → ℕ → Hosts → ℕ → Hosts
host_solo p s zero k h = k
host_solo p s (suc n) k h = if host_steps p s k (k.hosts h) then acts p s k h (k.hosts h) else host_solo p s n (acts p s k h (k.hosts h)) h

-- the rank of its thread
abbrev pub host_rank : CastScript → Hosts → Host → ℕ
host_rank p k (Runs t q) = seat_rank p k.words k.made q.micro q.state
host_rank p k x = 0

-- the words to load for a header
abbrev pub loads_of : Header → ℕ
loads_of (HFunc g m) = arity m
loads_of w = 0

-- an idle host is begun with its thread's header, claims it and loads the arguments
abbrev pub arrive : CastScript → Settings → Hosts → ℕ → Host → Hosts
arrive p s k t Idle = acts_of p s (suc (loads_of (k.slots t).header)) (record k { hosts = put k.hosts t (Claims t (k.slots t).header) }) t
arrive p s k t x = k

-- the start words of a thread that was drawn are stored
abbrev pub settle_in : CastScript → Settings → Hosts → ℕ → Host → Hosts
settle_in p s k t (Starts u q v g m left) = acts_of p s (suc (length left)) k t
settle_in p s k t x = k

-- the host of the picked thread acts until the step
abbrev pub alone_in : CastScript → Settings → Hosts → ℕ → Hosts
alone_in p s k t = host_solo p s (suc (host_rank p k (k.hosts t))) k t

-- and then stores the start words of a thread that it drew
abbrev pub settled_in : CastScript → Settings → Hosts → ℕ → Hosts
settled_in p s k t = settle_in p s k t (k.hosts t)

-- a pick of thread t
abbrev pub host_pick : CastScript → Settings → Hosts → Option ℕ → Hosts
host_pick p s k None = k
host_pick p s k (Some t) = settled_in p s (alone_in p s (arrive p s k t (k.hosts t)) t) t

-- a thread that isn't claimed is runnable
abbrev pub host_runs : Hosts → Host → Bool
host_runs k (Runs t q) = state_runs k.words q.state
host_runs k x = true

-- the threads that can go on, in number order, from n on
abbrev pub hosts_from : Hosts → ℕ → ℕ → List ℕ
hosts_from k n zero = []
hosts_from k n (suc count) = if host_runs k (k.hosts n) then n ∷ hosts_from k (n + 1) count else hosts_from k (n + 1) count

-- the thread that a seed picks
abbrev pub host_thread : Hosts → ℕ → Option ℕ
host_thread k seed = slice_get (hosts_from k 0 k.made) (pick seed (length (hosts_from k 0 k.made)))

-- n picks by the seeds that follow, or fewer where an end is recorded; the seed becomes the next one before each pick
abbrev pub host_seeded : CastScript → Settings → ℕ → ℕ → Hosts → Hosts
host_seeded p s zero seed k = k
host_seeded p s (suc n) seed k = if is_some (k.words).end then k
    else host_seeded p s n (next_seed seed) (host_pick p s k (host_thread k (next_seed seed)))
