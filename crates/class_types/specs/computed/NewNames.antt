-- Computed: names that were not there before, one after the other.
use Rattle.std.specs.Prelude.{ℕ, Bool, false, ◌||◌, List, [], ◌∷◌, ◌++◌, bytes_eq, if◌then◌else◌}
use Rattle.mono_syntax.specs.declared.leaf.Word.{Word}

-- the name stands among these
abbrev pub known : List Word → List ℕ → Bool
known [] x = false
known (w ∷ ws) x = bytes_eq w.text x || known ws x

-- those of the second list that are new, each once
abbrev pub new_words : List Word → List Word → List Word
new_words seen [] = []
new_words seen (w ∷ ws) = if known seen w.text then new_words seen ws else w ∷ new_words (seen ++ w ∷ []) ws
