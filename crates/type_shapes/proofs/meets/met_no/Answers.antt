use Rattle.std.proofs.Common.{length, subst, sym}
use Rattle.std.proofs.lemmas.Option.{slice_get_within}
use Rattle.type_shapes.specs.Shows.{IsMetNumber}
use Rattle.type_shapes.proofs.ShapeLaws.{number_met}
use Rattle.type_shapes.proofs.meets.met_no.Goals as goal

pub returns-clause-meet : goal.returns-clause-meet
returns-clause-meet c = λ ts r. subst (IsMetNumber ts c.args.a c.args.b) (sym c.looked_up.ensures) (λ x y e f.
    number_met ts c.args.rows.now (length ts) r c.args.a c.args.b x y (slice_get_within ts c.args.a x e) (slice_get_within ts c.args.b y f) e f)
