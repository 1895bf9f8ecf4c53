use Rattle.std.proofs.Common.{◌≡◌, ◌++◌, replicate, length}
use Rattle.py_lexer.specs.declared.token.TokenKind.TheVariants.{Dedent}
use Rattle.py_lexer.specs.Layout.{kept, left, mark}
use Rattle.py_lexer.proofs.state.leave.Given as goal

abbrev pub invariant-loop-level : goal.invariant-loop-level
invariant-loop-level l = record {
  levels : kept l.levels l.n ≡ kept l.fn.levels l.n;
  tokens : l.tokens.items ++ replicate (left l.levels l.n) (mark Dedent l.spot) ≡ l.fn.tokens.items ++ replicate (left l.fn.levels l.n) (mark Dedent l.spot);
}

abbrev pub decreases-loop-level : goal.decreases-loop-level
decreases-loop-level l = length l.levels
