-- The status and the err line of an end, and the line of a refusal.
use Rattle.std.specs.Prelude.{ℕ, List, [], ◌∷◌, ◌++◌, codes, decimal, Option, Some, None, slice_get}
use Rattle.mono_syntax.specs.declared.leaf.Kind.{Kind}
use Rattle.mono_syntax.specs.declared.leaf.Kind.TheVariants as kind
use Rattle.mono_syntax.specs.declared.leaf.Place.{Place}
use Rattle.mono_syntax.specs.declared.leaf.Site.{Site}
use Rattle.mono_syntax.specs.declared.refusal.Reason.{Reason}
use Rattle.mono_syntax.specs.declared.refusal.Reason.TheVariants as reason
use Rattle.mono_syntax.specs.declared.refusal.Refusal.{Refusal}
use Rattle.cast_machine.specs.declared.data.End.{End}
use Rattle.cast_machine.specs.declared.data.End.TheVariants as ends

-- `before`, line, colon, column, `after`, and a line feed
abbrev pub placed_line : List ℕ → Place → List ℕ → List ℕ
placed_line before p after = before ++ (decimal p.line ++ (58 ∷ (decimal p.column ++ (after ++ 10 ∷ []))))

abbrev pub kind_text : Kind → List ℕ
kind_text kind.Cast = codes " cast"
kind_text kind.Argument = codes " argument"
kind_text kind.Write = codes " write"
kind_text kind.Return = codes " return"
kind_text kind.Operator = codes " operator"
kind_text kind.Member = codes " member"
kind_text kind.Call = codes " call"
kind_text kind.Arithmetic = codes " arithmetic"
kind_text kind.Name = codes " name"

abbrev pub reason_text : Reason → List ℕ
reason_text reason.BadChar = codes ": bad character"
reason_text reason.Tab = codes ": tab in indentation"
reason_text reason.BadDedent = codes ": bad dedent"
reason_text reason.OpenBracket = codes ": open bracket"
reason_text reason.BadName = codes ": bad name"
reason_text reason.BadNumber = codes ": bad number"
reason_text reason.BadString = codes ": bad string"
reason_text reason.Syntax = codes ": syntax"
reason_text reason.UnknownName = codes ": unknown name"
reason_text reason.Twice = codes ": name defined twice"
reason_text reason.Misused = codes ": misused name"
reason_text reason.RecursiveClass = codes ": recursive class"
reason_text reason.Inconsistent = codes ": inconsistent types"
reason_text reason.NoField = codes ": no such field"
reason_text reason.Arity = codes ": wrong number of arguments"
reason_text reason.NotCallable = codes ": not callable"
reason_text reason.TooManyTypes = codes ": too many types"
reason_text reason.TypeTooLarge = codes ": type too large"
reason_text reason.TooManyFields = codes ": too many fields"
reason_text reason.TooManyParameters = codes ": too many parameters"
reason_text reason.TooManyArguments = codes ": too many arguments"
reason_text reason.TooManyNames = codes ": too many names"
reason_text reason.TooManyFunctions = codes ": too many functions"
reason_text reason.TooManyClasses = codes ": too many classes"
reason_text reason.TooManySites = codes ": too many sites"
reason_text reason.TooLong = codes ": script too long"
reason_text reason.NotBuilt = codes ": not built yet"

-- the line of a refusal
abbrev pub refusal_text : Refusal → List ℕ
refusal_text r = placed_line (codes "refused ") r.place (reason_text r.reason)

-- the line at a site; an end names a site of its script, and another number has no line
abbrev pub blame_line : Option Site → List ℕ
blame_line None = []
blame_line (Some s) = placed_line (codes "blame ") s.place (kind_text s.kind)

abbrev pub error_line : List ℕ → Option Site → List ℕ
error_line what None = []
error_line what (Some s) = placed_line (codes "error ") s.place what

-- the err line of an end; `Done` has none
abbrev pub end_text : List Site → End → List ℕ
end_text sites ends.Done = []
end_text sites (ends.Blame k) = blame_line (slice_get sites k)
end_text sites (ends.ZeroDivision k) = error_line (codes ": division by zero") (slice_get sites k)
end_text sites (ends.Overflow k) = error_line (codes ": overflow") (slice_get sites k)
end_text sites (ends.Unbound k) = error_line (codes ": unbound name") (slice_get sites k)
end_text sites ends.Fuel = codes "limit: fuel\n"
end_text sites ends.HeapFull = codes "limit: heap\n"
end_text sites ends.PrintFull = codes "limit: print\n"
end_text sites ends.ThreadLimit = codes "limit: threads\n"
end_text sites ends.DepthLimit = codes "limit: depth\n"

-- the err line where there is one: each end but `Done` has one
abbrev pub end_line : List Site → End → Option (List ℕ)
end_line sites ends.Done = None
end_line sites e = Some (end_text sites e)

-- the status of an end
abbrev pub status_of : End → ℕ
status_of ends.Done = 0
status_of (ends.Blame k) = 3
status_of (ends.ZeroDivision k) = 4
status_of (ends.Overflow k) = 4
status_of (ends.Unbound k) = 4
status_of ends.Fuel = 5
status_of ends.HeapFull = 5
status_of ends.PrintFull = 5
status_of ends.ThreadLimit = 5
status_of ends.DepthLimit = 5
