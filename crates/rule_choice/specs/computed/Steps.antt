-- Computed: steps behind one another, of which each may refuse.
use Rattle.std.specs.Prelude.{Result, Ok, Err}
use Rattle.mono_syntax.specs.declared.refusal.Refusal.{Refusal}

-- the next step, if there is no refusal
abbrev pub and_then : {A B : Type 0} → Result A Refusal → (A → Result B Refusal) → Result B Refusal
and_then (Ok x) f = f x
and_then (Err r) f = Err r
