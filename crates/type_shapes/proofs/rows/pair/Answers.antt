use Rattle.std.proofs.Common.{sym, subst, ◌∙◌, List, ℕ}
use Rattle.std.specs.Prelude.{slice_get, Some, None, Option}
use Rattle.mono_syntax.specs.Ty.{Ty}
use Rattle.type_shapes.specs.Shows.{IsNamed}
use Rattle.type_shapes.specs.declared.rows.Met.TheVariants.{At, New, Apart}
use Rattle.type_shapes.specs.Limits.{IsFault}
use Rattle.type_shapes.specs.computed.PairMeets.{pair_meet}
use Rattle.type_shapes.proofs.RowLaws.{ok_from, if_ok, if_err, Means, met_means, list_at, list_new, list_apart}
use Rattle.type_shapes.proofs.LimitLaws.{within_limits}
use Rattle.type_shapes.proofs.rows.pair.Goals as goal

pub number_of_new-requires-clause-shown : goal.number_of_new-requires-clause-shown
number_of_new-requires-clause-shown c =
    let w : Means c.args.names.now c.args.set.now.keys (pair_meet (slice_get c.args.set.now.keys c.args.j) (slice_get c.args.set.now.keys c.args.i)) (New c.in-New.shape) = subst (Means c.args.names.now c.args.set.now.keys (pair_meet (slice_get c.args.set.now.keys c.args.j) (slice_get c.args.set.now.keys c.args.i))) (sym c.in_ok-met.ensures ∙ c.in-New.is) (met_means c.args.names.now c.args.set.now.keys c.args.shapes.now.keys c.requires.numbered c.args.rows.now c.args.i c.requires.right c.args.j c.requires.order c.requires.inside) in
    (w.0, w.2)

pub small-requires : goal.small-requires
small-requires c =
    let w : Means c.args.names.now c.args.set.now.keys (pair_meet (slice_get c.args.set.now.keys c.args.j) (slice_get c.args.set.now.keys c.args.i)) (At c.in-At.n) = subst (Means c.args.names.now c.args.set.now.keys (pair_meet (slice_get c.args.set.now.keys c.args.j) (slice_get c.args.set.now.keys c.args.i))) (sym c.in_ok-met.ensures ∙ c.in-At.is) (met_means c.args.names.now c.args.set.now.keys c.args.shapes.now.keys c.requires.numbered c.args.rows.now c.args.i c.requires.right c.args.j c.requires.order c.requires.inside) in
    within_limits c.args.set.now.keys c.in-At.n w.0 c.requires.fine w.2

pub returns-in-At-clause-keys : goal.returns-in-At-clause-keys
returns-in-At-clause-keys c =
    let w : Means c.args.names.now c.args.set.now.keys (pair_meet (slice_get c.args.set.now.keys c.args.j) (slice_get c.args.set.now.keys c.args.i)) (At c.in-At.n) = subst (Means c.args.names.now c.args.set.now.keys (pair_meet (slice_get c.args.set.now.keys c.args.j) (slice_get c.args.set.now.keys c.args.i))) (sym c.in_ok-met.ensures ∙ c.in-At.is) (met_means c.args.names.now c.args.set.now.keys c.args.shapes.now.keys c.requires.numbered c.args.rows.now c.args.i c.requires.right c.args.j c.requires.order c.requires.inside) in
    sym (list_at c.args.names.now c.args.set.now.keys c.args.shapes.now.keys c.requires.numbered c.args.rows.now c.args.i c.requires.right c.args.j c.in-At.n w.0 w.1 w.2)

pub returns-in-At-clause-named : goal.returns-in-At-clause-named
returns-in-At-clause-named c =
    let w : Means c.args.names.now c.args.set.now.keys (pair_meet (slice_get c.args.set.now.keys c.args.j) (slice_get c.args.set.now.keys c.args.i)) (At c.in-At.n) = subst (Means c.args.names.now c.args.set.now.keys (pair_meet (slice_get c.args.set.now.keys c.args.j) (slice_get c.args.set.now.keys c.args.i))) (sym c.in_ok-met.ensures ∙ c.in-At.is) (met_means c.args.names.now c.args.set.now.keys c.args.shapes.now.keys c.requires.numbered c.args.rows.now c.args.i c.requires.right c.args.j c.requires.order c.requires.inside) in
    subst (λ (k : ℕ). IsNamed c.args.set.now.keys (Some k) (pair_meet (slice_get c.args.set.now.keys c.args.j) (slice_get c.args.set.now.keys c.args.i))) (sym c.small.ensures) (subst (λ (q : Option Ty). IsNamed c.args.set.now.keys (Some c.in-At.n) q) (sym w.1) w.2)

pub returns-in-New-clause-keys : goal.returns-in-New-clause-keys
returns-in-New-clause-keys c =
    let w : Means c.args.names.now c.args.set.now.keys (pair_meet (slice_get c.args.set.now.keys c.args.j) (slice_get c.args.set.now.keys c.args.i)) (New c.in-New.shape) = subst (Means c.args.names.now c.args.set.now.keys (pair_meet (slice_get c.args.set.now.keys c.args.j) (slice_get c.args.set.now.keys c.args.i))) (sym c.in_ok-met.ensures ∙ c.in-New.is) (met_means c.args.names.now c.args.set.now.keys c.args.shapes.now.keys c.requires.numbered c.args.rows.now c.args.i c.requires.right c.args.j c.requires.order c.requires.inside) in
    ok_from c.number_of_new.result c.number_of_new.ensures.keys (λ k. k w.0 w.2 ∙ sym (list_new c.args.names.now c.args.set.now.keys c.args.shapes.now.keys c.requires.numbered c.args.rows.now c.args.i c.requires.right c.args.j c.in-New.shape w.0 w.1 w.2))

pub returns-in-New-clause-named : goal.returns-in-New-clause-named
returns-in-New-clause-named c =
    let w : Means c.args.names.now c.args.set.now.keys (pair_meet (slice_get c.args.set.now.keys c.args.j) (slice_get c.args.set.now.keys c.args.i)) (New c.in-New.shape) = subst (Means c.args.names.now c.args.set.now.keys (pair_meet (slice_get c.args.set.now.keys c.args.j) (slice_get c.args.set.now.keys c.args.i))) (sym c.in_ok-met.ensures ∙ c.in-New.is) (met_means c.args.names.now c.args.set.now.keys c.args.shapes.now.keys c.requires.numbered c.args.rows.now c.args.i c.requires.right c.args.j c.requires.order c.requires.inside) in
    if_ok c.number_of_new.result c.number_of_new.ensures.at (λ x h. subst (λ (q : Option Ty). IsNamed c.number_of_new.new.set.keys x q) (sym w.1) (h w.0 w.2))

pub returns-in-New-clause-fault : goal.returns-in-New-clause-fault
returns-in-New-clause-fault c =
    let w : Means c.args.names.now c.args.set.now.keys (pair_meet (slice_get c.args.set.now.keys c.args.j) (slice_get c.args.set.now.keys c.args.i)) (New c.in-New.shape) = subst (Means c.args.names.now c.args.set.now.keys (pair_meet (slice_get c.args.set.now.keys c.args.j) (slice_get c.args.set.now.keys c.args.i))) (sym c.in_ok-met.ensures ∙ c.in-New.is) (met_means c.args.names.now c.args.set.now.keys c.args.shapes.now.keys c.requires.numbered c.args.rows.now c.args.i c.requires.right c.args.j c.requires.order c.requires.inside) in
    if_err c.number_of_new.result c.number_of_new.ensures.fault (λ x h. subst (λ (l : List Ty). IsFault l x) (sym (list_new c.args.names.now c.args.set.now.keys c.args.shapes.now.keys c.requires.numbered c.args.rows.now c.args.i c.requires.right c.args.j c.in-New.shape w.0 w.1 w.2)) (h w.0 w.2))

pub returns-in-Apart-clause-keys : goal.returns-in-Apart-clause-keys
returns-in-Apart-clause-keys c =
    let w : Means c.args.names.now c.args.set.now.keys (pair_meet (slice_get c.args.set.now.keys c.args.j) (slice_get c.args.set.now.keys c.args.i)) (Apart) = subst (Means c.args.names.now c.args.set.now.keys (pair_meet (slice_get c.args.set.now.keys c.args.j) (slice_get c.args.set.now.keys c.args.i))) (sym c.in_ok-met.ensures ∙ c.in-Apart.is) (met_means c.args.names.now c.args.set.now.keys c.args.shapes.now.keys c.requires.numbered c.args.rows.now c.args.i c.requires.right c.args.j c.requires.order c.requires.inside) in
    sym (list_apart c.args.names.now c.args.set.now.keys c.args.shapes.now.keys c.requires.numbered c.args.rows.now c.args.i c.requires.right c.args.j w)

pub returns-in-Apart-clause-named : goal.returns-in-Apart-clause-named
returns-in-Apart-clause-named c =
    let w : Means c.args.names.now c.args.set.now.keys (pair_meet (slice_get c.args.set.now.keys c.args.j) (slice_get c.args.set.now.keys c.args.i)) (Apart) = subst (Means c.args.names.now c.args.set.now.keys (pair_meet (slice_get c.args.set.now.keys c.args.j) (slice_get c.args.set.now.keys c.args.i))) (sym c.in_ok-met.ensures ∙ c.in-Apart.is) (met_means c.args.names.now c.args.set.now.keys c.args.shapes.now.keys c.requires.numbered c.args.rows.now c.args.i c.requires.right c.args.j c.requires.order c.requires.inside) in
    subst (λ (q : Option Ty). IsNamed c.args.set.now.keys None q) (sym w) tt
