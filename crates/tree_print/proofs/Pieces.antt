-- Tokens with a known one among them.
use Rattle.std.proofs.Common.{◌≡◌, ℕ, ◌≤◌, List, [], ◌∷◌, ◌++◌, refl, sym, ◌∙◌, ap, arith, append_assoc}
use Rattle.mono_syntax.specs.declared.leaf.Place.{Place}
use Rattle.mono_syntax.specs.Expr.{Expr}
use Rattle.mono_syntax.specs.Stmt.{Stmt}
use Rattle.mono_syntax.specs.StmtView.{block}
use Rattle.spelled_tokens.specs.declared.token.Mark.{Mark}
use Rattle.spelled_tokens.specs.declared.token.Spelled.{Spelled}
use Rattle.spelled_tokens.specs.declared.token.What.{What}
use Rattle.spelled_tokens.specs.SpelledTokens.{tok}
use Rattle.token_lines.specs.Back.{whats}
use Rattle.tree_print.specs.Placeless.{bare_block, bare_stmts}
use Rattle.tree_print.proofs.Nested.{head_whats}
use Rattle.tree_print.proofs.Splits.{split_whats, first_what, no_whats}

-- tokens, a known one, and those behind it
pub record Parted (us : List Spelled) (xs : List What) (w : What) (vs : List What) : Type 0 where
  pub front : List Spelled
  pub place : Place
  pub back : List Spelled
  pub is : us ≡ front ++ (tok w place ∷ back)
  pub fronts : whats front ≡ xs
  pub backs : whats back ≡ vs

pub part : (us : List Spelled) (xs : List What) (w : What) (vs : List What) → whats us ≡ xs ++ (w ∷ vs) → Parted us xs w vs
part us xs w vs e =
    let s = split_whats us xs (w ∷ vs) e in
    let f = first_what s.1 w vs s.4 in
    record { front = s.0; place = f.0; back = f.1; is = s.2 ∙ ap (λ (l : List Spelled). s.0 ++ l) f.2; fronts = s.3; backs = f.3 }

-- one token
pub only : (us : List Spelled) (w : What) → whats us ≡ w ∷ [] → (p : Place) × (us ≡ tok w p ∷ [])
only us w e =
    let f = first_what us w [] e in
    (f.0, f.2 ∙ ap (λ (l : List Spelled). tok w f.0 ∷ l) (no_whats f.1 f.3))

pub behind : {t : Spelled} {us b c : List Spelled} → us ≡ t ∷ b → b ≡ c → us ≡ t ∷ c
behind {t = t} e h = e ∙ ap (λ (l : List Spelled). t ∷ l) h

pub further : (a : List Spelled) (t : Spelled) {us b c : List Spelled} → us ≡ a ++ (t ∷ b) → b ≡ c → us ≡ a ++ (t ∷ c)
further a t e h = e ∙ ap (λ (l : List Spelled). a ++ (t ∷ l)) h

pub lighter : (v w n : ℕ) → v ≤ w → w ≤ n → v ≤ n
lighter v w n h k = omega arith

pub head_assoc : (m : Mark) (e : Expr) (ws vs us : List What) → head_whats m e (ws ++ vs) ++ us ≡ head_whats m e (ws ++ (vs ++ us))
head_assoc m e ws vs us = simp append_assoc

bare_of : (ss : List Stmt) → bare_block (block ss) ≡ block (bare_stmts ss)
bare_of [] = refl
bare_of (s ∷ ss) = cc (bare_of ss)

pub same_block : (ss ts : List Stmt) → bare_stmts ss ≡ bare_stmts ts → bare_block (block ss) ≡ bare_block (block ts)
same_block ss ts e = bare_of ss ∙ ap block e ∙ sym (bare_of ts)
