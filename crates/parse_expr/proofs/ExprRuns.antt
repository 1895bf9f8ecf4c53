-- What holds of the runs of the expression machine.
use Rattle.std.proofs.Common.{ℕ, ◌+◌, ◌≤◌, ◌≡◌, List, [], ◌∷◌, ◌++◌, length, None, arith, refl, ap, sym, ◌∙◌, subst}
use Rattle.mono_syntax.specs.Limits.{greatest_weight}
use Rattle.mono_syntax.specs.declared.leaf.Place.{Place}
use Rattle.mono_syntax.specs.Expr.{Expr}
use Rattle.spelled_tokens.specs.declared.token.Spelled.{Spelled}
use Rattle.spelled_tokens.specs.declared.token.What.{What}
use Rattle.spelled_tokens.specs.declared.token.What.TheVariants as what
use Rattle.parse_expr.specs.declared.machine.Frame.{Frame}
use Rattle.parse_expr.specs.declared.machine.Held.{Held}
use Rattle.parse_expr.specs.declared.machine.Mode.{Mode}
use Rattle.parse_expr.specs.declared.machine.Mode.TheVariants as mode
use Rattle.parse_expr.specs.Types.{word}
use Rattle.parse_expr.specs.Grammar as g
use Rattle.parse_expr.specs.Grammar.{Form, Derives, IsExpr}
use Rattle.parse_expr.specs.computed.Reading.{held, begin, step, IsLight, IsLightMode}
use Rattle.parse_expr.specs.computed.Goes.{Goes}
use Rattle.parse_expr.proofs.Goes.{goes_nil, goes_cons, none_some}
use Rattle.parse_expr.proofs.TypeSound.{type_finish_sound}
use Rattle.parse_expr.proofs.Sound as stands
use Rattle.parse_expr.proofs.Sound.{Stands}
use Rattle.parse_expr.proofs.Steps as steps
use Rattle.parse_expr.proofs.Steps.{Sound, finish_sound, viable, sound_start, goes_sound}
use Rattle.parse_expr.proofs.TypeRuns.{type_sound_light}

abbrev pub start : Mode
start = mode.Want []

have_is : {h k : Held} → mode.Have h ≡ mode.Have k → h ≡ k
have_is e = cc

-- what a state without frames has is a postfix
pub have_postfix : {r : ℕ} {ts : List Spelled} {m : Mode} (e : Expr) (w : ℕ) → Sound r ts m → m ≡ mode.Have (held [] e w) → Derives g.postfix ts w e × (w ≤ r)
have_postfix e w (steps.wanting k ts s h) i = absurd (no i)
  where
    no : mode.Want k ≡ mode.Have (held [] e w) → ⊥
    no i = cc
have_postfix {r = r} e w (steps.having k ts us v x s d l) i =
    let q = have_is i in
    alone k ts us v x s d l (ap (λ h. h.stack) q) (ap (λ h. h.tree) q) (ap (λ h. h.weight) q)
  where
    bare : {ts : List Spelled} → Stands r [] ts → ts ≡ []
    bare stands.bottom = refl

    alone : (k : List Frame) (ts us : List Spelled) (v : ℕ) (x : Expr) → Stands r k ts → Derives g.postfix us v x → v + length k ≤ r → k ≡ [] → x ≡ e → v ≡ w → Derives g.postfix (ts ++ us) w e × (w ≤ r)
    alone k ts us v x s d l p q o =
        let b = bare (subst (λ k. Stands r k ts) p s) in
        let n : length k ≡ 0 = ap length p in
        (subst (λ xs. Derives g.postfix (xs ++ us) w e) (sym b) (subst (λ y. Derives g.postfix us w y) q (subst (λ y. Derives g.postfix us y x) o d)), omega arith)
have_postfix e w (steps.dotted p k ts us v x s d l) i = absurd (no i)
  where
    no : mode.Dotted (held k x v) ≡ mode.Have (held [] e w) → ⊥
    no i = cc
have_postfix e w (steps.cast_word p k ts s h) i = absurd (no i)
  where
    no : mode.CastWord p k ≡ mode.Have (held [] e w) → ⊥
    no i = cc
have_postfix e w (steps.cast_in p q k ts us m s h x) i = absurd (no i)
  where
    no : mode.CastType p k m ≡ mode.Have (held [] e w) → ⊥
    no i = cc
have_postfix e w (steps.join_word p k ts s h) i = absurd (no i)
  where
    no : mode.JoinWord p k ≡ mode.Have (held [] e w) → ⊥
    no i = cc
have_postfix e w (steps.join_opened p q k ts s h) i = absurd (no i)
  where
    no : mode.JoinOpen p k ≡ mode.Have (held [] e w) → ⊥
    no i = cc
have_postfix e w (steps.join_named p q o x k ts s h) i = absurd (no i)
  where
    no : mode.JoinName p (word x o) k ≡ mode.Have (held [] e w) → ⊥
    no i = cc

-- in no room no expression begins
no_expr_begins : (p : Place) (w : What) → begin 0 [] p w ≡ None
no_expr_begins p (what.Name x) = refl
no_expr_begins p w = refl

pub exprs_at_zero : (ts : List Spelled) (m : Mode) → Goes (step 0) start ts m → (ts ≡ []) × (m ≡ start)
exprs_at_zero [] m a = (refl, sym (goes_nil (step 0) a))
exprs_at_zero (t ∷ ts) m a = let x = goes_cons (step 0) a in none_some _ (sym (no_expr_begins t.place t.what) ∙ x.1)

stands_light : {r : ℕ} {k : List Frame} {ts : List Spelled} → r ≤ greatest_weight → Stands r k ts → IsLight k
stands_light h stands.bottom = tt
stands_light h (stands.binary l p v a k ts us s d i n) = (omega arith, stands_light h s)
stands_light h (stands.not p k ts s i) = stands_light h s
stands_light h (stands.neg p k ts s) = stands_light h s
stands_light h (stands.bracket p k ts s) = stands_light h s
stands_light h (stands.call p u v x i c es k ts us ds s d a n) = (omega arith, stands_light h s)
stands_light h (stands.cast p q u v a k ts us s d n) = (omega arith, stands_light h s)

-- the weights in a state are small
pub sound_light : {r : ℕ} {ts : List Spelled} {m : Mode} → r ≤ greatest_weight → Sound r ts m → IsLightMode m
sound_light h (steps.wanting k ts s n) = (stands_light h s, omega arith)
sound_light h (steps.having k ts us w x s d n) = (stands_light h s, omega arith)
sound_light h (steps.dotted p k ts us w x s d n) = (stands_light h s, omega arith)
sound_light h (steps.cast_word p k ts s n) = (stands_light h s, omega arith)
sound_light h (steps.cast_in p q k ts us m s n x) =
    (stands_light h s, type_sound_light (omega arith) x, (λ a i. let l = (type_finish_sound x a i).1 in omega arith))
sound_light h (steps.join_word p k ts s n) = (stands_light h s, omega arith)
sound_light h (steps.join_opened p q k ts s n) = (stands_light h s, omega arith)
sound_light h (steps.join_named p q o x k ts s n) = (stands_light h s, omega arith)
