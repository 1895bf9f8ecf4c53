-- What is put behind a text, and what is left to put.
use Rattle.std.proofs.Common.{◌≡◌, ℕ, List, [], ◌∷◌, ◌++◌, sym, ◌∙◌, append_assoc, append-nil}
use Rattle.std.specs.Prelude.{codes}
use Rattle.mono_syntax.proofs.Parts.{part_ty, part_field}

pub piece-put : (text p rest : List ℕ) → ((text ++ codes ", ") ++ p) ++ rest ≡ text ++ (codes ", " ++ p ++ rest)
piece-put text p rest = append_assoc (text ++ codes ", ") p rest ∙ append_assoc text (codes ", ") (p ++ rest)

pub ruleset turns = (piece-put, append_assoc, append-nil, part_ty, part_field)
