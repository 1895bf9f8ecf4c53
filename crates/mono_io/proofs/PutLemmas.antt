-- One put after another.
use Rattle.std.proofs.Common.{ℕ, ◌+◌, ◌≤◌, ◌≡◌, List, [], ◌++◌, length, take, Option, Some, None, Result, Ok, Err, arith, refl, ap, sym, ◌∙◌, append_assoc}
use Rattle.std.proofs.Math.Seq.{take-append-add}
use Rattle.std.proofs.lemmas.List.{take_all, append-nil, take-append-le, length-append}
use Rattle.mono_io.specs.declared.sink.SinkFault.{SinkFault}
use Rattle.mono_io.specs.declared.sink.SinkFault.TheVariants.{Failed, Memory}
use Rattle.mono_io.specs.Faults.{appended, PutsPart}
use Rattle.mono_io.specs.Puts.{Puts}

pub appended-appended : (old : Option (List ℕ)) (a b : List ℕ) → appended (appended old a) b ≡ appended old (a ++ b)
appended-appended None a b = refl
appended-appended (Some told) a b = ap Some (append_assoc told a b)

-- nothing put is an empty piece put
pub appended-nil : (old : Option (List ℕ)) → appended old [] ≡ old
appended-nil None = refl
appended-nil (Some told) = ap Some (append-nil told)

-- the whole is a prefix
pub whole_is_part : (old new : Option (List ℕ)) (a : List ℕ) → new ≡ appended old a → PutsPart old new a
whole_is_part old new a e = (length a, omega arith, e ∙ ap (appended old) (sym (take_all (length a) a (omega arith))))

-- nothing is a prefix
pub none_is_part : (old new : Option (List ℕ)) (a : List ℕ) → new ≡ old → PutsPart old new a
none_is_part old new a e = (0, omega arith, e ∙ sym (appended-nil old))

-- the whole of a and a prefix of b are a prefix of both
pub part_then : (old mid new : Option (List ℕ)) (a b : List ℕ) → mid ≡ appended old a → PutsPart mid new b → PutsPart old new (a ++ b)
part_then old mid new a b e p = (
  length a + p.0,
  omega (arith, length-append a b, p.1),
  p.2 ∙ ap (λ m. appended m (take p.0 b)) e ∙ appended-appended old a (take p.0 b) ∙ ap (appended old) (sym (take-append-add a b p.0)),
)

-- a prefix of a is a prefix of what begins with a
pub part_of : (old new : Option (List ℕ)) (a b : List ℕ) → PutsPart old new a → PutsPart old new (a ++ b)
part_of old new a b p = (p.0, omega (arith, length-append a b, p.1), p.2 ∙ ap (appended old) (sym (take-append-le p.0 a b p.1)))

-- the whole of a, and then what the result says of b
pub puts_then : (r : Result (Unit {0}) SinkFault) (old mid new : Option (List ℕ)) (x y z : ℕ) (a b : List ℕ) → mid ≡ appended old a → x ≤ y → Puts r mid new y z b → Puts r old new x z (a ++ b)
puts_then (Ok _) old mid new x y z a b e l p = (p.0 ∙ ap (λ m. appended m b) e ∙ appended-appended old a b, omega (arith, p.1))
puts_then (Err Failed) old mid new x y z a b e l p = (part_then old mid new a b e p.0, omega (arith, p.1), omega (arith, p.2))
puts_then (Err Memory) old mid new x y z a b e l p = (part_then old mid new a b e p.0, omega (arith, p.1))

-- an error that came within a came within what begins with a
pub puts_stopped : (e : SinkFault) (old new : Option (List ℕ)) (x y : ℕ) (a b : List ℕ) → Puts (Err e) old new x y a → Puts (Err e) old new x y (a ++ b)
puts_stopped Failed old new x y a b p = (part_of old new a b p.0, p.1, p.2)
puts_stopped Memory old new x y a b p = (part_of old new a b p.0, p.1)
