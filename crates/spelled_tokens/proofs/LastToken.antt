-- The last token of a text is its end.
use Rattle.std.proofs.Common.{ℕ, ◌≡◌, false, None, List, [], ◌∷◌, ◌++◌, refl, ap, sym, ◌∙◌, append_assoc}
use Rattle.py_lexer.specs.declared.token.Token.{Token}
use Rattle.py_lexer.specs.declared.token.TokenKind.TheVariants.{End}
use Rattle.py_lexer.specs.declared.spot.Spot.{Spot}
use Rattle.py_lexer.specs.Layout.{Event, begins, spells, ends, dents, laid, levels_at, indent, events}
use Rattle.py_lexer.specs.Characters.{start_of, behind}
use Rattle.py_lexer.specs.Pieces.{spelled}
use Rattle.py_lexer.specs.Lexes.{Lexes}

abbrev pub EndsWell : List Token → Type 0
EndsWell ts = (front : List Token) × (e : Token) × (ts ≡ front ++ (e ∷ [])) × (e.what ≡ End)

after : (xs : List Token) {ts : List Token} → EndsWell ts → EndsWell (xs ++ ts)
after xs p = (xs ++ p.0, p.1, ap (λ z. xs ++ z) p.2 ∙ sym (append_assoc xs p.0 (p.1 ∷ [])), p.3)

laid_ends_well : (end : Spot) (ls : List ℕ) (es : List Event) → EndsWell (laid end ls es)
laid_ends_well end ls [] = (_, _, refl, refl)
laid_ends_well end ls (begins tab s ∷ es) = after (dents ls s) (laid_ends_well end (levels_at ls (indent s)) es)
laid_ends_well end ls (spells k w s ∷ es) = after (_ ∷ []) (laid_ends_well end ls es)
laid_ends_well end ls (ends s ∷ es) = after (_ ∷ []) (laid_ends_well end ls es)

pub last_is_end : (cs : List ℕ) (ts : List Token) → Lexes cs ts → (front : List Token) × (e : Token) × (ts ≡ front ++ (e ∷ [])) × (e.what ≡ End)
last_is_end cs ts x = let p = laid_ends_well (behind (start_of cs) (spelled x.pieces)) [] (events [] false None (start_of cs) x.pieces) in (p.0, p.1, x.tokens_are ∙ p.2, p.3)
