-- What an answer says by the computed one.
use Rattle.std.proofs.Common.{◌≡◌, Result, Ok, Err, ap, subst, sym}
use Rattle.std.specs.Prelude.{IfOk, IfErr}
use Rattle.mono_syntax.specs.declared.refusal.LoadFault.{LoadFault}
use Rattle.mono_syntax.specs.declared.refusal.LoadFault.TheVariants.{Refused, Memory}
use Rattle.mono_syntax.specs.declared.refusal.Refusal.{Refusal}
use Rattle.script_rules.specs.LoadFaults.{IsFault}
use Rattle.known_names.specs.computed.Gives.{Gives}
use Rattle.rule_choice.specs.computed.Steps.{and_then}

-- a step that was refused, or had no memory, ends those behind it
pub stopped : {A B : Type 0} (f : LoadFault) (m : Result A Refusal) (g : A → Result B Refusal) → Gives {A = A} (Err f) m → Gives {A = B} (Err f) (and_then m g)
stopped (Refused q) m g h = ap (λ z. and_then z g) h
stopped Memory m g h = tt

-- a value of which this holds, or a refusal of which that does
abbrev pub Answers : {A : Type 0} → (A → Type 0) → (Refusal → Type 0) → Result A Refusal → Type 0
Answers P F (Ok x) = P x
Answers P F (Err f) = F f

pub given_ok : {A : Type 0} (P : A → Type 0) (F : Refusal → Type 0) (r : Result A LoadFault) (m : Result A Refusal) → Gives r m → Answers P F m → IfOk r P
given_ok P F (Ok x) m h k = subst (λ z. Answers P F z) h k
given_ok P F (Err f) m h k = tt

pub given_err : {A : Type 0} (P : A → Type 0) (F : Refusal → Type 0) (r : Result A LoadFault) (m : Result A Refusal) → Gives r m → Answers P F m → IfErr r (IsFault F)
given_err P F (Ok x) m h k = tt
given_err P F (Err (Refused f)) m h k = subst (λ z. Answers P F z) h k
given_err P F (Err Memory) m h k = tt

-- what is given is this value, of which that holds
pub given_so : {A E : Type 0} (P : A → Type 0) (r : Result A E) (x : A) → IfOk r (λ y. y ≡ x) → P x → IfOk r P
given_so P (Ok y) x e h = subst P (sym e) h
given_so P (Err f) x e h = tt
