use Rattle.std.proofs.Common.{◌≡◌, ◌++◌, map, drop}
use Rattle.script_rules.specs.Recursion.{field_names}
use Rattle.class_types.proofs.graph.words_of.Given as goal

abbrev pub invariant-loop-field : goal.invariant-loop-field
invariant-loop-field l = map (λ w. w.now) l.words.items ++ field_names (drop l.field-index l.list) ≡ field_names l.list
