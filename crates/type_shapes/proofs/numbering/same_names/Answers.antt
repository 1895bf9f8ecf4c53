use Rattle.std.proofs.Common.{ap, ◌∙◌, length}
use Rattle.type_shapes.proofs.ShapeTurns.{names_length}
use Rattle.type_shapes.proofs.numbering.same_names.Goals as goal

pub returns-then-list-members : goal.returns-then-list-members
returns-then-list-members c = (λ t. absurd cc, λ e. absurd (c.if-list-members.true (ap length e ∙ names_length c.args.members.now)))
