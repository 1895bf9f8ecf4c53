use Rattle.std.proofs.Common.{◌≡◌, take, map}
use Rattle.rule_choice.proofs.rules.field_types.Given as goal

abbrev pub invariant-loop-field : goal.invariant-loop-field
invariant-loop-field l = l.types ≡ map (λ f. f.ty) (take l.field-index l.fields)
