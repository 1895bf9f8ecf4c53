use Rattle.std.proofs.Common.{refl}
use Rattle.py_lexer.proofs.Spots.{behind_text}
use Rattle.py_lexer.proofs.state.token.Goals as goal

pub returns : goal.returns
returns c = rw (c.what_of-what.ensures, behind_text c.args.spot c.args.spelling.now c.utf8.spelling) refl
