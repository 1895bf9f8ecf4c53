use Rattle.std.proofs.Common.{◌∙◌, sym, refl}
use Rattle.std.proofs.lemmas.Str.{encodes-chars}
use Rattle.py_lexer.proofs.state.word_kind.Goals as goal

pub returns-then-is_reserved : goal.returns-then-is_reserved
returns-then-is_reserved c = rw (encodes-chars c.args.word.now c.utf8.word, sym c.is_reserved.ensures ∙ c.if-is_reserved.true) refl

pub returns-else-is_reserved : goal.returns-else-is_reserved
returns-else-is_reserved c = rw (encodes-chars c.args.word.now c.utf8.word, sym c.is_reserved.ensures ∙ c.if-is_reserved.false) refl
