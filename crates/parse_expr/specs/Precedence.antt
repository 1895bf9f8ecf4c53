-- How tightly the forms of expressions bind, by number. The reader and the printer compare these numbers.
use Rattle.std.specs.Prelude.{ℕ}
use Rattle.mono_syntax.specs.declared.leaf.Op.{Op}
use Rattle.parse_expr.specs.Grammar.{Group, comparing, adding, multiplying, group, Form, whole, and_expr, not_expr, comparison, sum, term, factor, postfix, atom}

-- the level of a form: the greater, the tighter
abbrev pub level_of_form : Form → ℕ
level_of_form whole = 1
level_of_form and_expr = 2
level_of_form not_expr = 3
level_of_form comparison = 4
level_of_form sum = 5
level_of_form term = 6
level_of_form factor = 7
level_of_form postfix = 8
level_of_form atom = 9

-- the level of the left part: chains of operators group to the left, but those of comparisons
abbrev pub group_left : Group → ℕ
group_left comparing = 5
group_left adding = 5
group_left multiplying = 6

-- the level of the whole
abbrev pub group_whole : Group → ℕ
group_whole comparing = 4
group_whole adding = 5
group_whole multiplying = 6

-- the level of the right part
abbrev pub group_right : Group → ℕ
group_right comparing = 5
group_right adding = 6
group_right multiplying = 7

-- the same of an operator
abbrev pub op_left : Op → ℕ
op_left o = group_left (group o)

abbrev pub op_whole : Op → ℕ
op_whole o = group_whole (group o)

abbrev pub op_right : Op → ℕ
op_right o = group_right (group o)
