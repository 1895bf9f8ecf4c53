-- Which of several faults a script is refused for: the first by line, then by column, then in the order of the reasons.
use Rattle.std.specs.Prelude.{ℕ, Bool, IsTrue, ◌&&◌, ◌||◌, ◌==◌, nat_lt, nat_le, Option, Some, None, if◌then◌else◌}
use Rattle.mono_syntax.specs.declared.leaf.Place.{Place}
use Rattle.mono_syntax.specs.declared.refusal.Reason.{Reason}
use Rattle.mono_syntax.specs.declared.refusal.Reason.TheVariants.{BadChar, Tab, BadDedent, OpenBracket, BadName, BadNumber, BadString, Syntax, UnknownName, Twice, Misused, RecursiveClass, Inconsistent, NoField, Arity, NotCallable, TooManyTypes, TypeTooLarge, TooManyFields, TooManyParameters, TooManyArguments, TooManyNames, TooManyFunctions, TooManyClasses, TooManySites, TooLong, NotBuilt}
use Rattle.mono_syntax.specs.declared.refusal.Refusal.{Refusal}

-- the order of the reasons
abbrev pub rank : Reason → ℕ
rank BadChar = 0
rank Tab = 1
rank BadDedent = 2
rank OpenBracket = 3
rank BadName = 4
rank BadNumber = 5
rank BadString = 6
rank Syntax = 7
rank UnknownName = 8
rank Twice = 9
rank Misused = 10
rank RecursiveClass = 11
rank Inconsistent = 12
rank NoField = 13
rank Arity = 14
rank NotCallable = 15
rank TooManyTypes = 16
rank TypeTooLarge = 17
rank TooManyFields = 18
rank TooManyParameters = 19
rank TooManyArguments = 20
rank TooManyNames = 21
rank TooManyFunctions = 22
rank TooManyClasses = 23
rank TooManySites = 24
rank TooLong = 25
rank NotBuilt = 26

-- the first fault doesn't come after the second
abbrev pub no_later : Refusal → Refusal → Bool
no_later a b =
    nat_lt a.place.line b.place.line
    || ((a.place.line == b.place.line) && (nat_lt a.place.column b.place.column
    || ((a.place.column == b.place.column) && nat_le (rank a.reason) (rank b.reason))))

-- r is a fault of this kind, and none comes before it
pub record IsFirst (Fault : Place → Reason → Type 0) (r : Refusal) : Type 0 where
  pub stands : Fault r.place r.reason
  pub first : (s : Refusal) → Fault s.place s.reason → IsTrue (no_later r s)

-- there is no fault of this kind
abbrev pub IsFaultless : (Place → Reason → Type 0) → Type 0
IsFaultless Fault = (p : Place) (r : Reason) → Fault p r → ⊥

-- the first of the faults so far and one more
abbrev pub sooner : Option Refusal → Refusal → Option Refusal
sooner None r = Some r
sooner (Some s) r = if no_later s r then Some s else Some r
