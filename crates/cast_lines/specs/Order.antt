-- The order of the list: by line, then by column, then by kind, and then by number, of which an inner cast has the lower one.
use Rattle.std.specs.declared.cmp.Ordering.{Ordering}
use Rattle.std.specs.Ordering.{nat_cmp, on, then_cmp}
use Rattle.cast_lines.specs.declared.rows.Row.{Row}

abbrev pub order : Row → Row → Ordering
order = then_cmp (on (λ x. x.line) nat_cmp) (then_cmp (on (λ x. x.column) nat_cmp) (then_cmp (on (λ x. x.rank) nat_cmp) (on (λ x. x.number) nat_cmp)))
