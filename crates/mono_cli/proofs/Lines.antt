-- The text of a line from those of its values, and of lines from each.
use Rattle.std.proofs.Common.{ℕ, suc, ◌+◌, ◌<◌, ◌≡◌, List, [], ◌∷◌, ◌++◌, length, take, drop, arith, refl, ap, sym, ◌∙◌, append_assoc, get_or, add-one}
use Rattle.std.proofs.Math.Seq.{drop-cons}
use Rattle.std.proofs.lemmas.Grind.{flat_map-append}
use Rattle.std.proofs.lemmas.List.{take-append-drop}
use Rattle.mono_syntax.specs.declared.tree.Item.{Item}
use Rattle.mono_syntax.specs.declared.value.Val.{Val}
use Rattle.mono_cli.specs.Texts.{value_text, line_text, rendered}

-- a value that others follow
pub line_more : (items : List Item) (line : List Val) (v : Val) (rest : List Val) → line ≡ v ∷ rest → 0 < length rest →
    (value_text items v ++ 32 ∷ []) ++ line_text items rest ≡ line_text items line
line_more items line v [] e l = absurd (omega arith)
line_more items line v (w ∷ rest) e l = append_assoc (value_text items v) (32 ∷ []) (line_text items (w ∷ rest)) ∙ ap (line_text items) (sym e)

-- the line at a place
pub lines_at : (items : List Item) (ls : List (List Val)) (i : ℕ) (l : List Val) → i < length ls → l ≡ get_or ls i l →
    rendered items (take i ls) ++ (line_text items l ++ rendered items (drop (i + 1) ls)) ≡ rendered items ls
lines_at items ls i l h e =
    let d : drop i ls ≡ l ∷ drop (i + 1) ls = drop-cons ls i l h ∙ ap (λ x. x ∷ drop (suc i) ls) (sym e) ∙ (rw add-one refl) in
    ap (λ x. rendered items (take i ls) ++ x) (ap (rendered items) (sym d))
    ∙ sym (flat_map-append (line_text items) (take i ls) (drop i ls)) ∙ ap (rendered items) (take-append-drop i ls)
