-- What is written behind a list's front, and what is left to write.
use Rattle.std.proofs.Common.{◌≡◌, ◌∙◌, ℕ, suc, ◌+◌, ◌<◌, List, ◌∷◌, length, get_or, drop, ap, sym, append_assoc, add-one}
use Rattle.std.proofs.Math.Seq.{drop-cons}
use Rattle.mono_syntax.specs.Ann.{Ann}
use Rattle.mono_syntax.specs.AnnView.{anns}
use Rattle.mono_syntax.specs.Expr.{Expr}
use Rattle.mono_syntax.specs.ExprView.{exprs}
use Rattle.mono_syntax.proofs.Parts.{part_ann, part_expr}
use Rattle.spelled_tokens.specs.declared.token.What.TheVariants as what
use Rattle.token_lines.specs.declared.printed.Printed.TheVariants.{Plain}
use Rattle.token_lines.specs.Sheets.{Sheet, put, written}
use Rattle.token_lines.proofs.Sheets.{written-append}
use Rattle.mono_syntax.specs.declared.tree.Param.{Param}
use Rattle.tree_print.specs.ScriptLines.{param_tokens, more_params_tokens}
use Rattle.tree_print.specs.Brackets.{ann_tokens, more_anns_tokens, expr_tokens, more_exprs_tokens}

-- the first of what is left
pub front_is : {A : Type 0} (xs : List A) (i : ℕ) (x : A) → i < length xs → x ≡ get_or xs i x → drop i xs ≡ x ∷ drop (i + 1) xs
front_is xs i x h e = drop-cons xs i x h ∙ (ap (λ y. y ∷ drop (suc i) xs) (sym e) ∙ ap (λ n. x ∷ drop n xs) (sym (add-one i)))

-- one type more
pub more_anns-turn : (s : Sheet) (xs : List Ann) (i : ℕ) (x : Ann) → i < length xs → x ≡ get_or xs i x
    → written s (more_anns_tokens (anns (drop i xs))) ≡ written (written (put s (Plain what.Comma)) (ann_tokens x)) (more_anns_tokens (anns (drop (i + 1) xs)))
more_anns-turn s xs i x h e =
    ap (λ l. written s (more_anns_tokens (anns l))) (front_is xs i x h e)
    ∙ written-append (put s (Plain what.Comma)) (ann_tokens x) (more_anns_tokens (anns (drop (i + 1) xs)))

-- one expression more
pub more_exprs-turn : (s : Sheet) (xs : List Expr) (i : ℕ) (x : Expr) → i < length xs → x ≡ get_or xs i x
    → written s (more_exprs_tokens (exprs (drop i xs))) ≡ written (written (put s (Plain what.Comma)) (expr_tokens x)) (more_exprs_tokens (exprs (drop (i + 1) xs)))
more_exprs-turn s xs i x h e =
    ap (λ l. written s (more_exprs_tokens (exprs l))) (front_is xs i x h e)
    ∙ written-append (put s (Plain what.Comma)) (expr_tokens x) (more_exprs_tokens (exprs (drop (i + 1) xs)))

-- one parameter more
pub more_params-turn : (s : Sheet) (xs : List Param) (i : ℕ) (x : Param) → i < length xs → x ≡ get_or xs i x
    → written s (more_params_tokens (drop i xs)) ≡ written (written (put s (Plain what.Comma)) (param_tokens x)) (more_params_tokens (drop (i + 1) xs))
more_params-turn s xs i x h e =
    ap (λ l. written s (more_params_tokens l)) (front_is xs i x h e)
    ∙ written-append (put s (Plain what.Comma)) (param_tokens x) (more_params_tokens (drop (i + 1) xs))

pub ruleset turns = (written-append, append_assoc, part_ann, part_expr)
