-- Computed: the types of expressions as the code finds them, in source order.
use Rattle.std.specs.Prelude.{[], ◌∷◌, ◌++◌, is_some, Option, Some, None, Result, Ok, Err, if◌then◌else◌}
use Rattle.mono_syntax.specs.declared.leaf.Place.{Place}
use Rattle.mono_syntax.specs.declared.refusal.Reason.TheVariants.{Inconsistent}
use Rattle.mono_syntax.specs.declared.refusal.Refusal.{Refusal}
use Rattle.mono_syntax.specs.Expr as expr
use Rattle.mono_syntax.specs.Expr.{Expr, Exprs, no_exprs, more_exprs}
use Rattle.mono_syntax.specs.Ty.{Ty}
use Rattle.static_types.specs.Rules.{at}
use Rattle.script_rules.specs.SourcePlaces.{place_of}
use Rattle.known_names.specs.declared.known.Known.{Known}
use Rattle.known_names.specs.declared.known.Local.{Local}
use Rattle.consistency.specs.declared.parts.Parts.{Parts}
use Rattle.consistency.specs.declared.parts.Whole.{Whole}
use Rattle.consistency.specs.declared.trace.Trace.{Trace}
use Rattle.rule_choice.specs.computed.Ruled.{ruled, called_class}
use Rattle.rule_choice.specs.computed.Apart.{first_apart}
use Rattle.rule_choice.specs.computed.Steps.{and_then}
use Rattle.consistency.specs.computed.Traces.{with_expr}

abbrev pub no_parts : Trace → Parts
no_parts b = record { parts = []; trace = b }

-- one more part, with its type
abbrev pub with_part : Parts → Expr → Result Whole Refusal → Result Parts Refusal
with_part done e r = and_then r (λ w. Ok (record { parts = done.parts ++ record { place = place_of e; ty = w.ty } ∷ []; trace = w.trace }))

-- an expression of type t, unless a part can't be used where it is
abbrev pub finished : Option Place → Ty → Trace → Result Whole Refusal
finished (Some p) t b = Err (at p Inconsistent)
finished None t b = Ok (record { ty = t; trace = with_expr b t })

-- an expression whose parts have their types
abbrev pub whole : Known → Local → Expr → Parts → Result Whole Refusal
whole ks l e x = and_then (ruled ks l e x.parts) (λ r. finished (first_apart x.parts r.asks) r.gives x.trace)

abbrev pub ended : Known → Local → Expr → Result Parts Refusal → Result Whole Refusal
ended ks l e r = and_then r (λ x. whole ks l e x)

abbrev mutual
  -- the parts of an expression with their types
  pub parts_typed : Known → Local → Expr → Trace → Result Parts Refusal
  parts_typed ks l (expr.neg p a) b = with_part (no_parts b) a (ended ks l a (parts_typed ks l a b))
  parts_typed ks l (expr.negation p a) b = with_part (no_parts b) a (ended ks l a (parts_typed ks l a b))
  parts_typed ks l (expr.read a w) b = with_part (no_parts b) a (ended ks l a (parts_typed ks l a b))
  parts_typed ks l (expr.cast p t a) b = with_part (no_parts b) a (ended ks l a (parts_typed ks l a b))
  parts_typed ks l (expr.binary o p a c) b =
      and_then (with_part (no_parts b) a (ended ks l a (parts_typed ks l a b))) (λ x. with_part x c (ended ks l c (parts_typed ks l c x.trace)))
  parts_typed ks l (expr.both a c) b =
      and_then (with_part (no_parts b) a (ended ks l a (parts_typed ks l a b))) (λ x. with_part x c (ended ks l c (parts_typed ks l c x.trace)))
  parts_typed ks l (expr.either a c) b =
      and_then (with_part (no_parts b) a (ended ks l a (parts_typed ks l a b))) (λ x. with_part x c (ended ks l c (parts_typed ks l c x.trace)))
  parts_typed ks l (expr.call p f es) b =
      and_then (if is_some (called_class ks.classes f) then Ok (no_parts b) else with_part (no_parts b) f (ended ks l f (parts_typed ks l f b))) (λ x. all_typed ks l x es)
  parts_typed ks l e b = Ok (no_parts b)

  -- expressions in a row behind parts that are done
  pub all_typed : Known → Local → Parts → Exprs → Result Parts Refusal
  all_typed ks l done no_exprs = Ok done
  all_typed ks l done (more_exprs e es) = and_then (with_part done e (ended ks l e (parts_typed ks l e done.trace))) (λ x. all_typed ks l x es)

-- the type of an expression
abbrev pub typed : Known → Local → Expr → Trace → Result Whole Refusal
typed ks l e b = ended ks l e (parts_typed ks l e b)

-- a row of expressions, and the first of them
abbrev pub more_typed : Known → Local → Parts → Expr → Exprs → Result Parts Refusal
more_typed ks l done f es = all_typed ks l done (more_exprs f es)
