-- What typing can refuse a script for, once its names are right.
use Rattle.mono_syntax.specs.declared.refusal.Reason.{Reason}
use Rattle.mono_syntax.specs.declared.refusal.Reason.TheVariants.{Inconsistent, NoField, Arity, NotCallable}

-- a value is used at a type that has no meet with its own, a field isn't there, arguments are too many or too few, or what is called can't be
pub data IsTypingReason : Reason → Type 0 where
  inconsistent : IsTypingReason Inconsistent
  no_field : IsTypingReason NoField
  arity : IsTypingReason Arity
  not_callable : IsTypingReason NotCallable
