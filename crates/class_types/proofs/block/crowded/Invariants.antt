use Rattle.std.proofs.Common.{◌≡◌, ◌≤◌, ◌-◌, [], map, drop, vec_len}
use Rattle.std.specs.Prelude.{slice_get}
use Rattle.class_types.specs.computed.NewNames.{new_words}
use Rattle.class_types.proofs.block.crowded.Given as goal
use Rattle.mono_syntax.specs.Limits.{most_names}

abbrev pub invariant-loop-word : goal.invariant-loop-word
invariant-loop-word l = record {
  names : l.names ≡ map (λ w. w.text) (map (λ w. w.now) l.seen.items);
  within : vec_len l.seen ≤ most_names;
  same : slice_get (new_words (map (λ w. w.now) l.seen.items) (map (λ w. w.now) (drop l.word-index l.words))) (most_names - vec_len l.seen) ≡ slice_get (new_words [] (map (λ w. w.now) l.words)) most_names;
}
