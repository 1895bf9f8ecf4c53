-- What the answer of a phase says of refusals. Want of memory says nothing.
use Rattle.std.specs.Prelude.{◌≡◌, ◌⊎◌, Result, Ok, Err}
use Rattle.mono_syntax.specs.declared.refusal.LoadFault.{LoadFault}
use Rattle.mono_syntax.specs.declared.refusal.LoadFault.TheVariants.{Refused, Memory}
use Rattle.mono_syntax.specs.declared.refusal.Refusal.{Refusal}

-- the error is a refusal of this kind, or there was no memory
abbrev pub IsFault : (Refusal → Type 0) → LoadFault → Type 0
IsFault Is (Refused r) = Is r
IsFault Is Memory = Unit {0}

-- the answer is this refusal, or there was no memory
abbrev pub Refuses : {A : Type 0} → Result A LoadFault → Refusal → Type 0
Refuses (Ok x) r = ⊥
Refuses (Err f) r = (f ≡ Refused r) ⊎ (f ≡ Memory)
