-- What tokens, text and bytes come to, by what the next phase makes of them.
use Rattle.std.proofs.Common.{◌≡◌, ◌⊎◌, inl, inr, ℕ, ◌≤◌, List, length, Result, Ok, Err, IfOk, IfErr, refl, sym, ◌∙◌, subst, ap, arith}
use Rattle.std.specs.Prelude.{chars}
use Rattle.std.specs.Str.{IsUtf8}
use Rattle.mono_syntax.specs.Limits.{most_bytes}
use Rattle.mono_syntax.specs.declared.refusal.LoadFault.{LoadFault}
use Rattle.mono_syntax.specs.declared.refusal.LoadFault.TheVariants.{Refused, Memory}
use Rattle.mono_syntax.specs.declared.refusal.Refusal.{Refusal}
use Rattle.mono_syntax.specs.declared.tree.Script.{Script}
use Rattle.py_lexer.specs.declared.token.Token.{Token}
use Rattle.py_lexer.specs.Lexes as lexer
use Rattle.py_lexer.specs.Lexes.{Lexes, FirstLexFault, RefusesBytes}
use Rattle.parse_script.specs.Script.{DerivesScript, IsRefused}
use Rattle.script_rules.specs.LoadFaults.{IsFault, Refuses}
use Rattle.load_script.specs.declared.accepted.Accepted.{Accepted}
use Rattle.load_script.specs.TreePhases.{IsTreeProgram, RefusesTree}
use Rattle.load_script.specs.Phases.{IsTokensProgram, RefusesTokens, unread, in_tree, IsTextProgram, RefusesText, unlexed, in_tokens, IsProgramOf, IsFirstRefusal, long, undecoded, in_text}
use Rattle.load_script.proofs.Fronts.{read_whole, refused_once}
use Rattle.load_script.proofs.TreeLoading.{no_program}

-- ---- tokens

pub tree_program : (text : List ℕ) (tokens : List Token) (s : Script) → DerivesScript text tokens s → (r : Result Accepted LoadFault)
    → IfOk r (IsTreeProgram s) → IfOk r (IsTokensProgram text tokens)
tree_program text tokens s t (Ok p) h = record { script = s; tree = t; program = h }
tree_program text tokens s t (Err f) h = tt

pub tree_fault : (text : List ℕ) (tokens : List Token) (s : Script) → DerivesScript text tokens s → (r : Result Accepted LoadFault)
    → IfErr r (IsFault (RefusesTree s)) → IfErr r (IsFault (RefusesTokens text tokens))
tree_fault text tokens s t (Ok p) h = tt
tree_fault text tokens s t (Err (Refused q)) h = in_tree t h
tree_fault text tokens s t (Err Memory) h = tt

pub tree_refuses : (text : List ℕ) (tokens : List Token) (s : Script) → DerivesScript text tokens s → ((u : Script) → DerivesScript text tokens u → s ≡ u)
    → (r : Result Accepted LoadFault) → ((q : Refusal) → RefusesTree s q → Refuses r q) → (q : Refusal) → RefusesTokens text tokens q → Refuses r q
tree_refuses text tokens s t one r h q (unread f) = absurd (read_whole text tokens s q t f)
tree_refuses text tokens s t one r h q (in_tree {s = u} v f) = h q (subst (λ (x : Script). RefusesTree x q) (sym (one u v)) f)

pub parse_fault : (text : List ℕ) (tokens : List Token) (f : LoadFault) → IsRefused text tokens f → IsFault (RefusesTokens text tokens) f
parse_fault text tokens (Refused r) h = unread h
parse_fault text tokens Memory h = tt

pub parse_refuses : (text : List ℕ) (tokens : List Token) (f : LoadFault) → IsRefused text tokens f → ((u : Script) → DerivesScript text tokens u → f ≡ Memory)
    → (q : Refusal) → RefusesTokens text tokens q → Refuses (no_program f) q
parse_refuses text tokens (Refused r) h complete q (unread g) = inl (ap Refused (refused_once text tokens r q h g))
parse_refuses text tokens Memory h complete q (unread g) = inr refl
parse_refuses text tokens f h complete q (in_tree {s = u} v g) = inr (complete u v)

-- ---- text

pub tokens_program : (text : List ℕ) (tokens : List Token) → Lexes (chars text) tokens → (r : Result Accepted LoadFault)
    → IfOk r (IsTokensProgram text tokens) → IfOk r (IsTextProgram text)
tokens_program text tokens l (Ok p) h = record { tokens = tokens; lexes = l; program = h }
tokens_program text tokens l (Err f) h = tt

pub tokens_fault : (text : List ℕ) (tokens : List Token) → Lexes (chars text) tokens → (r : Result Accepted LoadFault)
    → IfErr r (IsFault (RefusesTokens text tokens)) → IfErr r (IsFault (RefusesText text))
tokens_fault text tokens l (Ok p) h = tt
tokens_fault text tokens l (Err (Refused q)) h = in_tokens l h
tokens_fault text tokens l (Err Memory) h = tt

pub tokens_refuses : (text : List ℕ) (tokens : List Token) → ((ts : List Token) → Lexes (chars text) ts → tokens ≡ ts)
    → ((q : Refusal) → FirstLexFault (chars text) q → ⊥) → (r : Result Accepted LoadFault)
    → ((q : Refusal) → RefusesTokens text tokens q → Refuses r q) → (q : Refusal) → RefusesText text q → Refuses r q
tokens_refuses text tokens one none r h q (unlexed f) = absurd (none q f)
tokens_refuses text tokens one none r h q (in_tokens {tokens = us} l f) = h q (subst (λ (ts : List Token). RefusesTokens text ts q) (sym (one us l)) f)

pub lex_fault : (text : List ℕ) (f : LoadFault) → lexer.RefusesText (chars text) f → IsFault (RefusesText text) f
lex_fault text (Refused r) h = unlexed h
lex_fault text Memory h = tt

pub lex_refuses : (text : List ℕ) (f : LoadFault) → ((ts : List Token) → Lexes (chars text) ts → f ≡ Memory)
    → ((q : Refusal) → FirstLexFault (chars text) q → (f ≡ Refused q) ⊎ (f ≡ Memory)) → (q : Refusal) → RefusesText text q → Refuses (no_program f) q
lex_refuses text f accepts refuses q (unlexed g) = refuses q g
lex_refuses text f accepts refuses q (in_tokens {tokens = us} l g) = inr (accepts us l)

-- ---- bytes

pub text_program : (bytes text : List ℕ) → length bytes ≤ most_bytes → text ≡ bytes → IsUtf8 bytes → (r : Result Accepted LoadFault)
    → IfOk r (IsTextProgram text) → IfOk r (IsProgramOf bytes)
text_program bytes text l e u (Ok p) h = record { fits = l; is_text = u; program = subst (λ (t : List ℕ). IsTextProgram t p) e h }
text_program bytes text l e u (Err f) h = tt

pub text_fault : (bytes text : List ℕ) → length bytes ≤ most_bytes → text ≡ bytes → IsUtf8 bytes → (r : Result Accepted LoadFault)
    → IfErr r (IsFault (RefusesText text)) → IfErr r (IsFault (IsFirstRefusal bytes))
text_fault bytes text l e u (Ok p) h = tt
text_fault bytes text l e u (Err (Refused q)) h = in_text l u (subst (λ (t : List ℕ). RefusesText t q) e h)
text_fault bytes text l e u (Err Memory) h = tt

pub text_refuses : (bytes text : List ℕ) → length bytes ≤ most_bytes → text ≡ bytes → IsUtf8 bytes → (r : Result Accepted LoadFault)
    → ((q : Refusal) → RefusesText text q → Refuses r q) → (q : Refusal) → IsFirstRefusal bytes q → Refuses r q
text_refuses bytes text l e u r h q (long b) = absurd (omega (arith, l, b))
text_refuses bytes text l e u r h q (undecoded b f) = absurd (f.no_text u)
text_refuses bytes text l e u r h q (in_text b v f) = h q (subst (λ (t : List ℕ). RefusesText t q) (sym e) f)

pub decode_refuses : (bytes : List ℕ) → length bytes ≤ most_bytes → (r : Refusal) → RefusesBytes bytes r → (q : Refusal) → IsFirstRefusal bytes q
    → Refuses (no_program (Refused r)) q
decode_refuses bytes l r h q (long b) = absurd (omega (arith, l, b))
decode_refuses bytes l r h q (undecoded b f) = inl (ap Refused (h.refused ∙ sym f.refused))
decode_refuses bytes l r h q (in_text b v f) = absurd (h.no_text v)
