-- The answer of a command.
use Rattle.std.proofs.Common.{ap, ◌∙◌, ℕ, zero, suc, ◌≡◌, ◌≤◌, ◌<◌, List, [], ◌∷◌, length, Option, Some, None, ◌⊎◌, inl, inr, arith, refl, sym, subst}
use Rattle.std.specs.Prelude.{◌^◌, codes, string_bytes}
use Rattle.mono_syntax.specs.Limits.{most_bytes}
use Rattle.mono_syntax.specs.declared.refusal.Refusal.{Refusal}
use Rattle.mono_io.specs.Faults.{Rose, IsTold, IsTooLong}
use Rattle.cast_machine.specs.declared.data.End.{End}
use Rattle.cast_machine.specs.declared.data.End.TheVariants as ends
use Rattle.cast_machine.specs.declared.data.Settings.{Settings}
use Rattle.run_report.specs.Ends.{status_of}
use Rattle.mono_list.proofs.Cases.{some_is}
use Rattle.mono_cli.specs.Answer.{Answer, refused, listed, passed, casts_listed, types_listed, head_text, headed, usage, unfetched}
use Rattle.stress_gen.specs.StressText.{stress_text}
use Rattle.load_script.specs.Phases.{IsFirstRefusal, too_long}
use Rattle.mono_cli.specs.Scripts.{AnswersText, IsAccepted, IsRefusedAnswer, IsProgramAnswer}
use Rattle.mono_cli.specs.declared.verb.Verb.{Verb}
use Rattle.mono_cli.specs.declared.verb.Verb.TheVariants as verb
use Rattle.load_script.specs.declared.accepted.Accepted.{Accepted}
use Rattle.mono_cli.specs.Commands.{AnswersTold, AnswersFile, AnswersCommand, IsAnswer, IsServable, file_of}
use Rattle.command_words.specs.CommandLine.{IsCommandLine, IsNumber, IsSame, IsUsage}
use Rattle.command_words.specs.declared.command.Command.{Command}
use Rattle.command_words.specs.declared.command.Command.TheVariants as command
use Rattle.command_words.proofs.OneCommand.{one_command}
use Rattle.mono_cli.specs.Putting.{Stream, PutsAnswer}
use Rattle.mono_cli.proofs.PutAnswers.{answers_also, answers_whole}
use Rattle.mono_cli.proofs.TextAnswers.{long_answers}

more_zeros : (n : ℕ) → (bytes : List ℕ) × (n < length bytes)
more_zeros zero = (0 ∷ [], omega arith)
more_zeros (suc n) = let rest = more_zeros n in (0 ∷ rest.0, omega (arith, rest.1))

-- bytes that are told and are too long, and some where none are told
longer : (told : Option (List ℕ)) (n : ℕ) → IsTooLong told n → (bytes : List ℕ) × IsTold told bytes × (n < length bytes)
longer None n h = let some = more_zeros n in (some.0, tt, some.1)
longer (Some bytes) n h = (bytes, refl, h)

pub long_told : (v : Verb) (told : Option (List ℕ)) → IsTooLong told most_bytes → (a : Answer) → a ≡ refused too_long → AnswersTold v told a
long_told v told h a e = let some = longer told most_bytes h in record { bytes = some.0; are_told = some.1; answers = long_answers v some.0 some.2 a e }

ended_most : (e : End) → status_of e ≤ 6
ended_most ends.Done = omega arith
ended_most (ends.Blame k) = omega arith
ended_most (ends.ZeroDivision k) = omega arith
ended_most (ends.Overflow k) = omega arith
ended_most (ends.Unbound k) = omega arith
ended_most ends.Fuel = omega arith
ended_most ends.HeapFull = omega arith
ended_most ends.PrintFull = omega arith
ended_most ends.ThreadLimit = omega arith
ended_most ends.DepthLimit = omega arith

status_along : (a b : Answer) → a ≡ b → b.status ≤ 6 → a.status ≤ 6
status_along a b e l = subst (λ (x : Answer). x.status ≤ 6) (sym e) l

accepted_most : (v : Verb) (p : Accepted) (a : Answer) → IsAccepted v p a → a.status ≤ 6
accepted_most verb.Check p a h = status_along a passed h (omega arith)
accepted_most verb.Show p a h = status_along a (listed p.script.scoped.script) h.says (omega arith)
accepted_most verb.Casts p a h = status_along a (casts_listed p.script h.rows) h.says (omega arith)
accepted_most verb.Types p a h = status_along a (types_listed ((p.program).table).types) h (omega arith)
accepted_most (verb.Stress s seed n) p a h =
    status_along a (headed (head_text n) h.inner) h.says (status_along h.inner _ (h.is).says (ended_most (h.is).end))
accepted_most (verb.Step s seed) p a h = status_along a _ h.says (ended_most h.end)

text_most : (v : Verb) (text : List ℕ) (a : Answer) → IsRefusedAnswer text a ⊎ IsProgramAnswer v text a → a.status ≤ 6
text_most v text a (inl h) = status_along a (refused h.refusal) h.says (omega arith)
text_most v text a (inr h) = accepted_most v h.program a h.accepted

file_most : (v : Verb) (file : List ℕ) (told : List ℕ → Option (List ℕ)) (s t : ℕ) (a : Answer) → AnswersFile v file told s t a → a.status ≤ 6
file_most v file told s t a (inl h) = text_most v h.bytes a (h.answers).answers
file_most v file told s t a (inr h) = status_along a unfetched h.1 (omega arith)

command_most : (c : Command) (told : List ℕ → Option (List ℕ)) (s t : ℕ) (a : Answer) → AnswersCommand c told s t a → a.status ≤ 6
command_most (command.Check f) told s t a h = file_most verb.Check (string_bytes f) told s t a h
command_most (command.Show f) told s t a h = file_most verb.Show (string_bytes f) told s t a h
command_most (command.Casts f) told s t a h = file_most verb.Casts (string_bytes f) told s t a h
command_most (command.Types f) told s t a h = file_most verb.Types (string_bytes f) told s t a h
command_most (command.Step r n f) told s t a h = file_most (verb.Step r n) (string_bytes f) told s t a h
command_most (command.Run r f) told s t a h = status_along a usage h (omega arith)
command_most (command.Stress r n k) told s t a h = text_most (verb.Stress r n k) (stress_text k) a h.answers

-- an answer's status is at most 6
pub answer_most : (words : List (List ℕ)) (told : List ℕ → Option (List ℕ)) (s t : ℕ) (a : Answer) → IsAnswer words told s t a → a.status ≤ 6
answer_most words told s t a (inl (c, is, h)) = command_most c told s t a h
answer_most words told s t a (inr h) = status_along a usage h.1 (omega arith)

-- the refusal of too many bytes is shown in answer to a command that names a file
pub answers_long : (v : Verb) (file : List ℕ) (told : List ℕ → Option (List ℕ)) (s t : ℕ) → IsTooLong (told file) most_bytes →
    (out err : Stream) (status : ℕ) →
    PutsAnswer (λ a. a ≡ refused too_long) out err status →
    PutsAnswer (λ a. AnswersFile v file told s t a) out err status
answers_long v file told s t h out err status shown =
    answers_also (λ a. a ≡ refused too_long) (λ a. AnswersFile v file told s t a) (λ a i. inl (long_told v (told file) h a i)) out err status shown

fueled : (options : List (List ℕ × List ℕ)) (s : Settings) → IsNumber (codes "fuel") 1 (2 ^ 40) 10000000 options s.fuel → (1 ≤ s.fuel) × (s.fuel ≤ 2 ^ 40)
fueled options s (inl h) = (h.0, h.1)
fueled options s (inr h) = (omega (arith, h.1), omega (arith, h.1))

-- a script is run with some fuel, and not too much
pub servable : (words : List (List ℕ)) (c : Command) → IsCommandLine words c → IsServable c
servable [] c h = absurd h
servable (w ∷ ws) (command.Check f) h = tt
servable (w ∷ ws) (command.Show f) h = tt
servable (w ∷ ws) (command.Casts f) h = tt
servable (w ∷ ws) (command.Types f) h = tt
servable (w ∷ ws) (command.Step r n f) (is, named, (options, given, settings, seed)) = fueled options r settings.fuel
servable (w ∷ ws) (command.Run r f) h = tt
servable (w ∷ ws) (command.Stress r n k) (is, some, most, (options, given, settings, seed)) =
    let f = fueled options r settings.fuel in (some, (f.0, f.1, most))

-- ---- a refused script

same_file : (c d : Command) → IsSame c d → file_of c ≡ file_of d
same_file (command.Check f) (command.Check g) h = ap Some h
same_file (command.Show f) (command.Show g) h = ap Some h
same_file (command.Casts f) (command.Casts g) h = ap Some h
same_file (command.Types f) (command.Types g) h = ap Some h
same_file (command.Step r n f) (command.Step s m g) h = ap Some h.2
same_file (command.Run r f) (command.Run s g) h = refl
same_file (command.Stress r n k) (command.Stress s m l) h = refl
same_file c d h = absurd h

told_text : (v : Verb) (told : List ℕ → Option (List ℕ)) (file text : List ℕ) → told file ≡ Some text → (a : Answer) → AnswersTold v (told file) a → AnswersText v text a
told_text v told file text is a h =
    let same : h.bytes ≡ text = subst (λ (o : Option (List ℕ)). IsTold o h.bytes) is h.are_told in
    subst (λ (x : List ℕ). AnswersText v x a) same h.answers

-- what holds of the answers to every text of a file holds of the answers to a command that names it
abbrev HoldsOf : (List ℕ → Answer → Type 0) → (List ℕ → Option (List ℕ)) → ℕ → ℕ → Type 0
HoldsOf P told s t = (v : Verb) (file text : List ℕ) → told file ≡ Some text → (a : Answer) → AnswersFile v file told s t a → P text a

of_command : (P : List ℕ → Answer → Type 0) (told : List ℕ → Option (List ℕ)) (s t : ℕ) → HoldsOf P told s t → (c : Command) (file text : List ℕ) →
    file_of c ≡ Some file → told file ≡ Some text → (a : Answer) → AnswersCommand c told s t a → P text a
of_command P told s t p (command.Check f) file text e is a h = p verb.Check (string_bytes f) text (ap told (some_is e) ∙ is) a h
of_command P told s t p (command.Show f) file text e is a h = p verb.Show (string_bytes f) text (ap told (some_is e) ∙ is) a h
of_command P told s t p (command.Casts f) file text e is a h = p verb.Casts (string_bytes f) text (ap told (some_is e) ∙ is) a h
of_command P told s t p (command.Types f) file text e is a h = p verb.Types (string_bytes f) text (ap told (some_is e) ∙ is) a h
of_command P told s t p (command.Step r n f) file text e is a h = p (verb.Step r n) (string_bytes f) text (ap told (some_is e) ∙ is) a h
of_command P told s t p (command.Run r f) file text e is a h = absurd cc
of_command P told s t p (command.Stress r n k) file text e is a h = absurd cc

of_words : (P : List ℕ → Answer → Type 0) (words : List (List ℕ)) (told : List ℕ → Option (List ℕ)) (s t : ℕ) → HoldsOf P told s t → (c : Command) (file text : List ℕ) →
    IsCommandLine words c → file_of c ≡ Some file → told file ≡ Some text → (a : Answer) → IsAnswer words told s t a → P text a
of_words P words told s t p c file text asked e is a (inl (d, own, h)) =
    of_command P told s t p d file text (same_file d c (one_command words d c own asked) ∙ e) is a h
of_words P words told s t p c file text asked e is a (inr (none, h)) = absurd (none c asked)

told_refuses : (told : List ℕ → Option (List ℕ)) (s t : ℕ) → (Rose s t → ⊥) →
    HoldsOf (λ text a. (r : Refusal) → IsFirstRefusal text r → a ≡ refused r) told s t
told_refuses told s t n v file text is a (inl h) = λ r f. (told_text v told file text is a h).refuses r f
told_refuses told s t n v file text is a (inr h) = absurd (n h.0)

pub answers_refusal : (words : List (List ℕ)) (told : List ℕ → Option (List ℕ)) (s t : ℕ) (out err : Stream) (status : ℕ) →
    PutsAnswer (λ a. IsAnswer words told s t a) out err status →
    (c : Command) (file text : List ℕ) (r : Refusal) → IsCommandLine words c → file_of c ≡ Some file → told file ≡ Some text → (Rose s t → ⊥) → IsFirstRefusal text r →
    PutsAnswer (λ a. a ≡ refused r) out err status
answers_refusal words told s t out err status shown c file text r asked named is n f =
    answers_also (λ a. IsAnswer words told s t a) (λ a. a ≡ refused r)
    (λ a h. of_words (λ x b. (q : Refusal) → IsFirstRefusal x q → b ≡ refused q) words told s t (told_refuses told s t n) c file text asked named is a h r f)
    out err status shown

ended_other : (e : End) → status_of e ≡ 1 → ⊥
ended_other ends.Done h = absurd (omega (arith, h))
ended_other (ends.Blame k) h = absurd (omega (arith, h))
ended_other (ends.ZeroDivision k) h = absurd (omega (arith, h))
ended_other (ends.Overflow k) h = absurd (omega (arith, h))
ended_other (ends.Unbound k) h = absurd (omega (arith, h))
ended_other ends.Fuel h = absurd (omega (arith, h))
ended_other ends.HeapFull h = absurd (omega (arith, h))
ended_other ends.PrintFull h = absurd (omega (arith, h))
ended_other ends.ThreadLimit h = absurd (omega (arith, h))
ended_other ends.DepthLimit h = absurd (omega (arith, h))

accepted_other : (v : Verb) (p : Accepted) (a : Answer) → IsAccepted v p a → a.status ≡ 1 → ⊥
accepted_other verb.Check p a h one = let zero_is : 0 ≡ 1 = ap (λ (x : Answer). x.status) (sym h) ∙ one in absurd (omega (arith, zero_is))
accepted_other verb.Show p a h one = let zero_is : 0 ≡ 1 = ap (λ (x : Answer). x.status) (sym h.says) ∙ one in absurd (omega (arith, zero_is))
accepted_other verb.Casts p a h one = let zero_is : 0 ≡ 1 = ap (λ (x : Answer). x.status) (sym h.says) ∙ one in absurd (omega (arith, zero_is))
accepted_other verb.Types p a h one = let zero_is : 0 ≡ 1 = ap (λ (x : Answer). x.status) (sym h) ∙ one in absurd (omega (arith, zero_is))
accepted_other (verb.Stress s seed n) p a h one =
    ended_other (h.is).end (ap (λ (x : Answer). x.status) (sym (h.is).says) ∙ (ap (λ (x : Answer). x.status) (sym h.says) ∙ one))
accepted_other (verb.Step s seed) p a h one = ended_other h.end (ap (λ (x : Answer). x.status) (sym h.says) ∙ one)

text_refused : (v : Verb) (text : List ℕ) (a : Answer) → IsRefusedAnswer text a ⊎ IsProgramAnswer v text a → a.status ≡ 1 → (r : Refusal) × IsFirstRefusal text r
text_refused v text a (inl h) one = (h.refusal, h.first)
text_refused v text a (inr h) one = absurd (accepted_other v h.program a h.accepted one)

told_refused : (told : List ℕ → Option (List ℕ)) (s t : ℕ) → HoldsOf (λ text a. a.status ≡ 1 → (r : Refusal) × IsFirstRefusal text r) told s t
told_refused told s t v file text is a (inl h) = λ one. text_refused v text a (told_text v told file text is a h).answers one
told_refused told s t v file text is a (inr h) = λ one.
    let six : 6 ≡ 1 = ap (λ (x : Answer). x.status) (sym h.1) ∙ one in
    absurd (omega (arith, six))

-- a status of 1 comes only where there is a refusal
pub answers_one : (words : List (List ℕ)) (told : List ℕ → Option (List ℕ)) (s t : ℕ) (out err : Stream) (status : ℕ) →
    PutsAnswer (λ a. IsAnswer words told s t a) out err status →
    (c : Command) (file text : List ℕ) → IsCommandLine words c → file_of c ≡ Some file → told file ≡ Some text → status ≡ 1 → (r : Refusal) × IsFirstRefusal text r
answers_one words told s t out err status shown c file text asked named is one =
    let all = answers_whole (λ a. IsAnswer words told s t a) out err status shown (omega (arith, one)) in
    of_words (λ x b. b.status ≡ 1 → (r : Refusal) × IsFirstRefusal x r) words told s t (told_refused told s t) c file text asked named is all.answer all.is
    (sym all.status_is ∙ one)

-- the refusal of a made script that is too long
pub long_made : (v : Verb) (text : List ℕ) → most_bytes < length text → (out err : Stream) (status : ℕ) →
    PutsAnswer (λ a. a ≡ refused too_long) out err status → PutsAnswer (λ a. AnswersText v text a) out err status
long_made v text l out err status shown =
    answers_also (λ a. a ≡ refused too_long) (λ a. AnswersText v text a) (λ a i. long_answers v text l a i) out err status shown

-- an answer to a text is one to the same text
pub made_is : (v : Verb) (text made : List ℕ) → text ≡ made → (out err : Stream) (status : ℕ) →
    PutsAnswer (λ a. AnswersText v text a) out err status → PutsAnswer (λ a. AnswersText v made a) out err status
made_is v text made is out err status shown =
    answers_also (λ a. AnswersText v text a) (λ a. AnswersText v made a) (λ a h. subst (λ (t : List ℕ). AnswersText v t a) is h) out err status shown

-- the answer to the script that `stress` makes is one to the command
pub stress_answers : (c : Command) (r : Settings) (n k : ℕ) → c ≡ command.Stress r n k → (told : List ℕ → Option (List ℕ)) (s t : ℕ) →
    (out err : Stream) (status : ℕ) →
    PutsAnswer (λ a. AnswersText (verb.Stress r n k) (stress_text k) a) out err status →
    PutsAnswer (λ a. AnswersCommand c told s t a) out err status
stress_answers c r n k is told s t out err status shown =
    subst (λ (x : Command). PutsAnswer (λ a. AnswersCommand x told s t a) out err status) (sym is) shown
