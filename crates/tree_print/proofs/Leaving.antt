-- Where INDENT and DEDENT stand between lines.
use Rattle.std.proofs.Common.{◌≡◌, ℕ, suc, ◌-◌, ◌≤◌, Bool, List, [], ◌∷◌, ◌++◌, refl, sym, ◌∙◌, ap, arith, if◌then◌else◌}
use Rattle.std.specs.Prelude.{map, replicate}
use Rattle.std.proofs.Math.Nat.{sub_self}
use Rattle.std.proofs.lemmas.Bool.{lt-ltb, le-ltb}
use Rattle.spelled_tokens.specs.declared.token.Mark.TheVariants as mark
use Rattle.spelled_tokens.specs.declared.token.What.{What}
use Rattle.spelled_tokens.specs.declared.token.What.TheVariants as what
use Rattle.token_lines.specs.Tokens.{what_of}
use Rattle.token_lines.specs.declared.printed.Printed.{Printed}
use Rattle.token_lines.specs.Lines.{Line, line, dents_between, whats_of_lines}

-- no line, or a first one in at most so many blocks
abbrev pub StartsWithin : ℕ → List Line → Type 0
StartsWithin d [] = Unit {0}
StartsWithin d (l ∷ ls) = l.depth ≤ d

-- a first line in exactly so many blocks
abbrev pub StartsAt : ℕ → List Line → Type 0
StartsAt d [] = ⊥
StartsAt d (l ∷ ls) = l.depth ≡ d

pub within : (d : ℕ) (ls : List Line) → StartsAt d ls → StartsWithin d ls
within d [] h = absurd h
within d (l ∷ ls) h = omega arith

pub wider : (d : ℕ) (ls : List Line) → StartsWithin d ls → StartsWithin (suc d) ls
wider d [] h = tt
wider d (l ∷ ls) h = omega arith

-- a line that is no deeper has a DEDENT for each block that it leaves
pub dents_up : (d e : ℕ) → e ≤ d → dents_between d e ≡ replicate (d - e) (what.Mark mark.Dedent)
dents_up d e h = ap (λ (b : Bool). if b then what.Mark mark.Indent ∷ [] else replicate (d - e) (what.Mark mark.Dedent)) (le-ltb d e h)

pub dents_level : (d : ℕ) → dents_between d d ≡ []
dents_level d = dents_up d d (omega arith) ∙ ap (λ (n : ℕ). replicate n (what.Mark mark.Dedent)) (sub_self d)

pub dents_in : (d : ℕ) → dents_between d (suc d) ≡ what.Mark mark.Indent ∷ []
dents_in d = ap (λ (b : Bool). if b then what.Mark mark.Indent ∷ [] else replicate (d - suc d) (what.Mark mark.Dedent)) (lt-ltb d (suc d) (omega arith))

one_more : (n m : ℕ) → n ≡ suc m → replicate n (what.Mark mark.Dedent) ≡ what.Mark mark.Dedent ∷ replicate m (what.Mark mark.Dedent)
one_more n m e = ap (λ (k : ℕ). replicate k (what.Mark mark.Dedent)) e

-- a block is left with one DEDENT
pub leave : (d : ℕ) (ls : List Line) → StartsWithin d ls → whats_of_lines (suc d) ls ≡ what.Mark mark.Dedent ∷ whats_of_lines d ls
leave d [] h = refl
leave d (l ∷ ls) h =
    let more : dents_between (suc d) l.depth ≡ what.Mark mark.Dedent ∷ dents_between d l.depth =
    dents_up (suc d) l.depth (omega arith) ∙ one_more (suc d - l.depth) (d - l.depth) (omega arith)
    ∙ ap (λ (ws : List What). what.Mark mark.Dedent ∷ ws) (sym (dents_up d l.depth h)) in
    ap (λ (ws : List What). ws ++ (map what_of l.tokens ++ (what.Mark mark.Newline ∷ whats_of_lines l.depth ls))) more

-- a block is entered with an INDENT
pub enter : (d : ℕ) (ls : List Line) → StartsAt (suc d) ls → whats_of_lines d ls ≡ what.Mark mark.Indent ∷ whats_of_lines (suc d) ls
enter d [] h = absurd h
enter d (l ∷ ls) h =
    let deeper : dents_between d l.depth ≡ what.Mark mark.Indent ∷ dents_between (suc d) l.depth =
    ap (λ (n : ℕ). dents_between d n) h ∙ dents_in d ∙ ap (λ (ws : List What). what.Mark mark.Indent ∷ ws) (sym (ap (λ (n : ℕ). dents_between (suc d) n) h ∙ dents_level (suc d))) in
    ap (λ (ws : List What). ws ++ (map what_of l.tokens ++ (what.Mark mark.Newline ∷ whats_of_lines l.depth ls))) deeper

-- a line at the depth of the one before stands as it is
pub level : (d : ℕ) (ts : List Printed) (ls : List Line) → whats_of_lines d (line d ts ∷ ls) ≡ map what_of ts ++ (what.Mark mark.Newline ∷ whats_of_lines d ls)
level d ts ls = ap (λ (ws : List What). ws ++ (map what_of ts ++ (what.Mark mark.Newline ∷ whats_of_lines d ls))) (dents_level d)

-- lines one block deeper are a block of their own
pub inner : (d : ℕ) (ls rest : List Line) (ws : List What) → StartsAt (suc d) (ls ++ rest) → StartsWithin d rest → whats_of_lines (suc d) (ls ++ rest) ≡ ws ++ whats_of_lines (suc d) rest
    → whats_of_lines d (ls ++ rest) ≡ what.Mark mark.Indent ∷ (ws ++ (what.Mark mark.Dedent ∷ whats_of_lines d rest))
inner d ls rest ws at h e =
    enter d (ls ++ rest) at ∙ ap (λ (vs : List What). what.Mark mark.Indent ∷ vs) (e ∙ ap (λ (vs : List What). ws ++ vs) (leave d rest h))
