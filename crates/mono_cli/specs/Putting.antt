-- What of an answer is put.
use Rattle.std.specs.Prelude.{◌≡◌, ◌⊎◌, ℕ, List, Option}
use Rattle.mono_io.specs.Faults.{Rose, appended, PutsPart}
use Rattle.mono_cli.specs.Answer.{Answer}

-- what a sink tells before a command and behind it, where it tells it, and its counts of faults then
pub record Stream : Type 0 where
  pub before : Option (List ℕ)
  pub after : Option (List ℕ)
  pub faults : ℕ
  pub faults_after : ℕ

abbrev pub stream : Option (List ℕ) → Option (List ℕ) → ℕ → ℕ → Stream
stream told told' n n' = record { before = told; after = told'; faults = n; faults_after = n' }

-- a put failed
abbrev pub HasFailed : Stream → Type 0
HasFailed s = Rose s.faults s.faults_after

-- the stream got these bytes, all of them or a part
abbrev pub Gets : Stream → List ℕ → Type 0
Gets s bytes = s.after ≡ appended s.before bytes

abbrev pub GetsPart : Stream → List ℕ → Type 0
GetsPart s bytes = PutsPart s.before s.after bytes

abbrev pub GetsNothing : Stream → Type 0
GetsNothing s = s.after ≡ s.before

-- What of an answer is put: all of it with its status; or a put failed after a part of out, or after all of out and a part of err; or there
-- was no memory after a part of out.
pub data IsPut (a : Answer) (out err : Stream) : ℕ → Type 0 where
  whole : Gets out a.out → Gets err a.err → IsPut a out err a.status
  out_failed : GetsPart out a.out → HasFailed out → GetsNothing err → IsPut a out err 7
  err_failed : Gets out a.out → GetsPart err a.err → HasFailed err → IsPut a out err 7
  no_memory : GetsPart out a.out → GetsNothing err → IsPut a out err 8

-- an answer of this kind is put, or memory ran out before there was one, and then nothing is put
abbrev pub PutsAnswer : (Answer → Type 0) → Stream → Stream → ℕ → Type 0
PutsAnswer Answers out err status = ((a : Answer) × Answers a × IsPut a out err status) ⊎ ((status ≡ 8) × GetsNothing out × GetsNothing err)

-- all of an answer of this kind is put, with its status
pub record PutsWhole (Answers : Answer → Type 0) (out err : Stream) (status : ℕ) : Type 0 where
  pub answer : Answer
  pub is : Answers answer
  pub status_is : status ≡ answer.status
  pub out_is : Gets out answer.out
  pub err_is : Gets err answer.err
