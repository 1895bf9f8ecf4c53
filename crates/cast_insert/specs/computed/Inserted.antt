-- Computed: expressions with their casts as the code finds them, in source order.
use Rattle.std.specs.Prelude.{List, [], ◌∷◌, ◌++◌, is_some, Option, Some, None, Result, Ok, Err, option_and_then, if◌then◌else◌}
use Rattle.std.specs.Option.{option_map}
use Rattle.mono_syntax.specs.declared.refusal.Refusal.{Refusal}
use Rattle.mono_syntax.specs.Expr as expr
use Rattle.mono_syntax.specs.Expr.{Expr, Exprs, no_exprs, more_exprs}
use Rattle.mono_syntax.specs.Ty.{Ty}
use Rattle.script_rules.specs.SourcePlaces.{place_of}
use Rattle.static_types.specs.declared.rule.Rule.{Rule}
use Rattle.cast_rules.specs.declared.site.TypedSite.{TypedSite}
use Rattle.known_names.specs.declared.known.Known.{Known}
use Rattle.known_names.specs.declared.known.Local.{Local}
use Rattle.rule_choice.specs.declared.parts.Part.{Part}
use Rattle.rule_choice.specs.computed.Ruled.{called_class, ruled}
use Rattle.cast_insert.specs.declared.parts.Parts.{Parts}
use Rattle.cast_insert.specs.declared.parts.Used.{Used}
use Rattle.cast_insert.specs.declared.parts.Whole.{Whole}
use Rattle.cast_nodes.specs.computed.Noded.{fit_all, node}
use Rattle.cast_nodes.specs.computed.Placed.{no_slots, put_casts, put_own}

-- ---- uses

-- parts that are each used at a type
abbrev pub used_each : Parts → List Ty → Used
used_each x ts = let q = put_casts (no_slots x.sites) x.parts ts in record { exprs = fit_all [] q.numbers x.exprs; sites = q.sites }

-- a written cast takes its part as it is
abbrev pub used : Expr → Parts → List Ty → Used
used (expr.cast p a e) x ts = record { exprs = x.exprs; sites = x.sites }
used e x ts = used_each x ts

-- ---- wholes

-- a value that wasn't refused
abbrev pub allowed : {A : Type 0} → Result A Refusal → Option A
allowed (Ok x) = Some x
allowed (Err f) = None

-- an expression by its rule, whose parts were used so
abbrev pub made : Known → Local → Expr → List Part → Rule → Used → Option Whole
made ks l e xs r u =
    let q = put_own ks l e xs r.asks r.gives (no_slots u.sites) in
    option_map (λ c. record { ty = r.gives; expr = c; sites = q.sites }) (node ks e u.exprs q.numbers)

-- an expression whose parts are done
abbrev pub whole : Known → Local → Expr → Parts → Option Whole
whole ks l e x = option_and_then (λ r. made ks l e x.parts r (used e x r.asks)) (allowed (ruled ks l e x.parts))

-- ---- the walk

abbrev pub no_parts : List TypedSite → Parts
no_parts ss = record { parts = []; exprs = []; sites = ss }

-- one more part
abbrev pub with_part : Parts → Expr → Option Whole → Option Parts
with_part done e o =
    option_map (λ w. record { parts = done.parts ++ record { place = place_of e; ty = w.ty } ∷ []; exprs = done.exprs ++ w.expr ∷ []; sites = w.sites }) o

abbrev pub ended : Known → Local → Expr → Option Parts → Option Whole
ended ks l e o = option_and_then (λ x. whole ks l e x) o

abbrev mutual
  -- the parts of an expression
  pub parts_inserted : Known → Local → Expr → List TypedSite → Option Parts
  parts_inserted ks l (expr.neg p a) ss = with_part (no_parts ss) a (ended ks l a (parts_inserted ks l a ss))
  parts_inserted ks l (expr.negation p a) ss = with_part (no_parts ss) a (ended ks l a (parts_inserted ks l a ss))
  parts_inserted ks l (expr.read a w) ss = with_part (no_parts ss) a (ended ks l a (parts_inserted ks l a ss))
  parts_inserted ks l (expr.cast p t a) ss = with_part (no_parts ss) a (ended ks l a (parts_inserted ks l a ss))
  parts_inserted ks l (expr.binary o p a c) ss =
      option_and_then (λ x. with_part x c (ended ks l c (parts_inserted ks l c x.sites))) (with_part (no_parts ss) a (ended ks l a (parts_inserted ks l a ss)))
  parts_inserted ks l (expr.both a c) ss =
      option_and_then (λ x. with_part x c (ended ks l c (parts_inserted ks l c x.sites))) (with_part (no_parts ss) a (ended ks l a (parts_inserted ks l a ss)))
  parts_inserted ks l (expr.either a c) ss =
      option_and_then (λ x. with_part x c (ended ks l c (parts_inserted ks l c x.sites))) (with_part (no_parts ss) a (ended ks l a (parts_inserted ks l a ss)))
  parts_inserted ks l (expr.call p f es) ss =
      option_and_then (λ x. all_inserted ks l x es)
      (if is_some (called_class ks.classes f) then Some (no_parts ss) else with_part (no_parts ss) f (ended ks l f (parts_inserted ks l f ss)))
  parts_inserted ks l e ss = Some (no_parts ss)

  -- expressions in a row behind parts that are done
  pub all_inserted : Known → Local → Parts → Exprs → Option Parts
  all_inserted ks l done no_exprs = Some done
  all_inserted ks l done (more_exprs e es) = option_and_then (λ x. all_inserted ks l x es) (with_part done e (ended ks l e (parts_inserted ks l e done.sites)))

-- an expression with its casts
abbrev pub inserted : Known → Local → Expr → List TypedSite → Option Whole
inserted ks l e ss = ended ks l e (parts_inserted ks l e ss)
