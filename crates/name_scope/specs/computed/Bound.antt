-- Computed: the names that the code collects from a block, as clauses see them.
use Rattle.std.specs.Prelude.{ℕ, List}
use Rattle.mono_syntax.specs.declared.leaf.Word.{Word}
use Rattle.script_rules.specs.BlockNames as rules
use Rattle.name_scope.specs.declared.bound.Target.{Target}

abbrev pub target_of : Target → rules.Target
target_of t = record { word = t.word.now; ann = t.ann.now }

abbrev pub text_of : Word → List ℕ
text_of w = w.text
