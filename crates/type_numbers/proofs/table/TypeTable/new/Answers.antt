use Rattle.std.proofs.Common.{◌∙◌, List, sym, subst}
use Rattle.std.specs.Prelude.{Contains}
use Rattle.mono_syntax.specs.Ty.{Ty}
use Rattle.type_numbers.proofs.table.TypeTable.new.Goals as goal

pub numbers_of-requires-clause-there : goal.numbers_of-requires-clause-there
numbers_of-requires-clause-there c = λ t h. subst (λ (l : List Ty). Contains l t) (sym (c.in-Ok.ensures.types ∙ c.as_slice.ensures.keys))
    (c.requires.classes t h)
