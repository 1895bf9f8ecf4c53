use Rattle.std.proofs.Common.{sym, subst}
use Rattle.std.specs.Prelude.{IsUtf8}
use Rattle.mono_tree.proofs.TextUtf8.{text_of-utf8}
use Rattle.mono_tree.proofs.text.type_text.Goals as goal

pub unwrap-requires : goal.unwrap-requires
unwrap-requires c = c.from_utf8.ensures.succeeds (subst IsUtf8 (sym c.in_ok-bytes.ensures) (text_of-utf8 c.args.a.now c.requires))
