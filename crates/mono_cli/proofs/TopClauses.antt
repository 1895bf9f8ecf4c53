-- The clauses of the top call, by what is put.
use Rattle.std.proofs.Common.{◌≡◌, ◌≤◌, ◌⊎◌, inl, inr, ℕ, List, refl}
use Rattle.mono_io.proofs.PutLemmas.{whole_is_part}
use Rattle.cast_machine.specs.Safety.{IsSafe}
use Rattle.cast_machine.specs.Step.{run_of}
use Rattle.cast_machine.specs.declared.data.Settings.{Settings}
use Rattle.cast_machine.proofs.Runs.{safe_run}
use Rattle.load_script.specs.declared.accepted.Accepted.{Accepted}
use Rattle.load_script.specs.Phases.{IsProgramOf}
use Rattle.load_script.proofs.ProgramTyped.{program_well_typed}
use Rattle.mono_cli.specs.Answer.{Answer}
use Rattle.mono_cli.specs.Putting.{Stream, Gets, GetsPart, GetsNothing, IsPut, whole, out_failed, err_failed, no_memory, PutsAnswer}
use Rattle.mono_cli.specs.Top.{Asked, Answers, HasCause, PutsErrLast, RefusesExactly}
use Rattle.mono_cli.proofs.CommandAnswers.{answer_most, answers_refusal, answers_one}
use Rattle.mono_cli.proofs.PutAnswers.{answers_whole, answers_complete, answers_failed, answers_memory, answers_most}

pub refuses_exactly : (q : Asked) (out err : Stream) (status : ℕ) → PutsAnswer (Answers q) out err status → RefusesExactly q out err status
refuses_exactly q out err status put = record {
  refused_by_rules = λ text r h n f.
      answers_refusal q.words q.files q.faults q.faults_after out err status put h.command h.file text r h.is h.names h.told n f;
  nothing_else = λ text h one. answers_one q.words q.files q.faults q.faults_after out err status put h.command h.file text h.is h.names h.told one;
}

err_last : (q : Asked) (a : Answer) → Answers q a → (out err : Stream) (status : ℕ) → IsPut a out err status
    → GetsNothing err ⊎ ((b : Answer) × Answers q b × Gets out b.out × GetsPart err b.err)
err_last q a h out err status (whole p r) = inr (a, h, p, whole_is_part _ _ _ r)
err_last q a h out err status (out_failed p f n) = inl n
err_last q a h out err status (err_failed p r f) = inr (a, h, p, r)
err_last q a h out err status (no_memory p n) = inl n

put_last : (q : Asked) (out err : Stream) (status : ℕ) → PutsAnswer (Answers q) out err status
    → GetsNothing err ⊎ ((b : Answer) × Answers q b × Gets out b.out × GetsPart err b.err)
put_last q out err status (inl x) = err_last q x.0 x.1 out err status x.2
put_last q out err status (inr x) = inl x.2

ordinary : (q : Asked) (a : Answer) → Answers q a → a.status ≤ 6
ordinary q a h = answer_most q.words q.files q.faults q.faults_after a h

pub puts_err_last : (q : Asked) (out err : Stream) (status : ℕ) → PutsAnswer (Answers q) out err status → PutsErrLast q out err status
puts_err_last q out err status put = record {
  last = put_last q out err status put;
  memory = answers_memory (Answers q) (ordinary q) out err status put;
}

pub has_cause : (q : Asked) (out err : Stream) (status : ℕ) → PutsAnswer (Answers q) out err status → HasCause q out err status
has_cause q out err status put = record {
  whole = answers_whole (Answers q) out err status put;
  failed = answers_failed (Answers q) (ordinary q) out err status put;
  most = answers_most (Answers q) (ordinary q) out err status put;
  complete = answers_complete (Answers q) out err status put;
}

pub runs_safely : (text : List ℕ) (p : Accepted) → IsProgramOf text p → (s : Settings) → 1 ≤ s.fuel → (picks : List ℕ) → IsSafe p.script (run_of p.script s picks)
runs_safely text p is s some picks = safe_run p.script (program_well_typed text p is).typed s some picks
