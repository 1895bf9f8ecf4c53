-- The answer to a text.
use Rattle.std.proofs.Common.{ℕ, ◌≡◌, ◌<◌, List, length, ◌⊎◌, inl, inr, arith, refl, ap, ◌∙◌}
use Rattle.mono_syntax.specs.Limits.{most_bytes}
use Rattle.load_script.specs.declared.accepted.Accepted.{Accepted}
use Rattle.mono_syntax.specs.declared.refusal.LoadFault.TheVariants.{Refused, Memory}
use Rattle.mono_syntax.specs.declared.refusal.Refusal.{Refusal}
use Rattle.mono_cli.specs.Answer.{Answer, refused}
use Rattle.load_script.specs.Phases.{IsFirstRefusal, long, undecoded, in_text, too_long, IsProgramOf}
use Rattle.mono_cli.specs.Scripts.{IsAccepted, AnswersText}
use Rattle.mono_cli.specs.declared.verb.Verb.{Verb}

pub program_answers : (v : Verb) (text : List ℕ) (p : Accepted) → IsProgramOf text p → ((r : Refusal) → IsFirstRefusal text r → ⊥) →
    (a : Answer) → IsAccepted v p a → AnswersText v text a
program_answers v text p i n a h = record { refuses = λ r f. absurd (n r f); answers = inr (record { program = p; is = i; accepted = h }) }

same_refusal : (r q : Refusal) → (Refused r ≡ Refused q) ⊎ (Refused r ≡ Memory) → r ≡ q
same_refusal r q (inl e) = cc
same_refusal r q (inr e) = absurd cc

pub refusal_answers : (v : Verb) (text : List ℕ) (r : Refusal) → IsFirstRefusal text r → ((q : Refusal) → IsFirstRefusal text q → (Refused r ≡ Refused q) ⊎ (Refused r ≡ Memory)) →
    (a : Answer) → a ≡ refused r → AnswersText v text a
refusal_answers v text r i only a e = record {
  refuses = λ q f. e ∙ ap refused (same_refusal r q (only q f));
  answers = inl (record { refusal = r; first = i; says = e });
}

long_only : (text : List ℕ) → most_bytes < length text → (q : Refusal) → IsFirstRefusal text q → too_long ≡ q
long_only text l q (long b) = refl
long_only text l q (undecoded b f) = absurd (omega (arith, l, b))
long_only text l q (in_text b u f) = absurd (omega (arith, l, b))

pub long_answers : (v : Verb) (text : List ℕ) → most_bytes < length text → (a : Answer) → a ≡ refused too_long → AnswersText v text a
long_answers v text l a e = record {
  refuses = λ q f. e ∙ ap refused (long_only text l q f);
  answers = inl (record { refusal = too_long; first = long l; says = e });
}
