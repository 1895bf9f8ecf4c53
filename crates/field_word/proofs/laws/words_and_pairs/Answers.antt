use Rattle.std.proofs.Common.{refl}
use Rattle.field_word.specs.computed.Unpacked.{unpacked}
use Rattle.field_word.proofs.Unpacks.{unpacked-word_of}
use Rattle.field_word.proofs.Packs.{word_of-unpacked}
use Rattle.field_word.proofs.Pairs.{word_small, one_pair, nothing}
use Rattle.field_word.proofs.laws.words_and_pairs.Goals as goal

pub returns : goal.returns
returns c = record {
  small = word_small;
  unpacks = unpacked-word_of;
  packs = word_of-unpacked;
  one_pair = one_pair;
  nothing = λ w. nothing w (unpacked w) refl;
}
