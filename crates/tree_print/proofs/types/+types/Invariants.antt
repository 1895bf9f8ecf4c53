use Rattle.std.proofs.Common.{◌≡◌, ◌+◌, ◌*◌, drop}
use Rattle.mono_syntax.specs.Ann.{ann_size, anns_size}
use Rattle.mono_syntax.specs.AnnView.{anns}
use Rattle.token_lines.specs.Sheets.{written}
use Rattle.tree_print.specs.Brackets.{more_anns_tokens}
use Rattle.tree_print.proofs.types.+types.Given as goal

abbrev pub decreases-put_ann : goal.decreases-put_ann
decreases-put_ann l = 3 * ann_size l.ann.now

abbrev pub decreases-put_callable : goal.decreases-put_callable
decreases-put_callable l = 3 * (anns_size (anns l.params.now) + ann_size l.out.now) + 3

abbrev pub decreases-put_anns : goal.decreases-put_anns
decreases-put_anns l = 3 * anns_size (anns l.list.now) + 2

abbrev pub decreases-put_more_anns : goal.decreases-put_more_anns
decreases-put_more_anns l = 3 * anns_size (anns l.list.now) + 1

-- the page so far, and the types that are left
abbrev pub invariant-put_more_anns-loop-ann : goal.invariant-put_more_anns-loop-ann
invariant-put_more_anns-loop-ann l = written l.page (more_anns_tokens (anns (drop l.ann-index l.list))) ≡ written l.initial.page (more_anns_tokens (anns l.list))
