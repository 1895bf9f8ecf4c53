use Rattle.std.proofs.Common.{◌≡◌, map, length}
use Rattle.py_lexer.specs.Layout.{is_in}
use Rattle.py_lexer.proofs.reserved.is_in.Given as goal

abbrev pub invariant-loop-words : goal.invariant-loop-words
invariant-loop-words l = is_in (map (λ w. w.now) l.words) l.word ≡ is_in (map (λ w. w.now) l.fn.words) l.word

abbrev pub decreases-loop-words : goal.decreases-loop-words
decreases-loop-words l = length l.words
