-- What is read is in the grammar, and each state that is reached can be completed.
use Rattle.std.proofs.Common.{ℕ, suc, ◌+◌, ◌≤◌, ◌≡◌, max, List, [], ◌∷◌, ◌++◌, length, arith, refl, ap, sym, ◌∙◌, subst, append_assoc}
use Rattle.std.proofs.Math.Nat.{zero-max}
use Rattle.std.proofs.lemmas.List.{append-nil}
use Rattle.spelled_tokens.specs.declared.token.Spelled.{Spelled}
use Rattle.spelled_tokens.specs.declared.token.What.TheVariants as what
use Rattle.mono_syntax.specs.declared.leaf.Op.TheVariants as op
use Rattle.mono_syntax.specs.Expr as tree
use Rattle.mono_syntax.specs.Expr.{Expr}
use Rattle.mono_syntax.specs.ExprView.{exprs}
use Rattle.mono_syntax.specs.Ann.{Ann}
use Rattle.spelled_tokens.specs.SpelledTokens.{tok}
use Rattle.mono_syntax.specs.declared.leaf.Place.{Place}
use Rattle.parse_expr.specs.declared.machine.Link.{Link}
use Rattle.parse_expr.specs.declared.machine.Frame.{Frame}
use Rattle.parse_expr.specs.declared.machine.Frame.TheVariants as frame
use Rattle.parse_expr.specs.Grammar as g
use Rattle.parse_expr.specs.Types.{DerivesType}
use Rattle.parse_expr.specs.Grammar.{Form, Derives, DerivesArgs, IsExpr}
use Rattle.parse_expr.specs.Stretches.{BeginsTree}
use Rattle.parse_expr.specs.computed.Reading.{link_left, link_whole, hole_of, hole, join, weigh}
use Rattle.parse_expr.proofs.Maxima.{max_light, max_assoc}
use Rattle.parse_expr.proofs.Levels.{form, down, link_what, link_derives, hole_small}
use Rattle.parse_expr.proofs.TypeSound.{somewhere}

-- arguments with a comma behind each
pub data Done : List Spelled → ℕ → List Expr → Type 0 where
  start : Done [] 0 []
  next : (p : Place) (ts us : List Spelled) (v w : ℕ) (es : List Expr) (e : Expr) → Done ts v es → Derives g.whole us w e
      → Done (ts ++ (us ++ (tok what.Comma p ∷ []))) (max v w) (es ++ (e ∷ []))

pub args_at : {ts us : List Spelled} {v w : ℕ} {es fs : List Expr} → ts ≡ us → v ≡ w → es ≡ fs → DerivesArgs ts v es → DerivesArgs us w fs
args_at {ts = ts} {v = v} {w = w} {fs = fs} p q r a = subst (λ xs. DerivesArgs xs w fs) p (subst (λ x. DerivesArgs ts x fs) q (subst (λ xs. DerivesArgs ts v xs) r a))

pub derives_at : {L : Form} {ts us : List Spelled} {w : ℕ} {e : Expr} → ts ≡ us → Derives L ts w e → Derives L us w e
derives_at {L = L} {w = w} {e = e} p d = subst (λ xs. Derives L xs w e) p d

pub done_args : {ts us : List Spelled} {v w : ℕ} {es fs : List Expr} → Done ts v es → DerivesArgs us w fs → DerivesArgs (ts ++ us) (max v w) (es ++ fs)
done_args start a = args_at refl (sym (zero-max _)) refl a
done_args {us = us} {w = w} {fs = fs} (next p ts vs v u es e d x) a =
    args_at (simp append_assoc) (sym (max_assoc v u w)) (simp append_assoc) (done_args d (g.more_args p vs us u w e fs x a))

-- the frames stand for these tokens
pub data Stands (r : ℕ) : List Frame → List Spelled → Type 0 where
  bottom : Stands r [] []
  binary : (l : Link) (p : Place) (v : ℕ) (a : Expr) (k : List Frame) (ts us : List Spelled) → Stands r k ts → Derives (form (link_left l)) us v a → hole k ≤ link_whole l → suc v + length k ≤ r
      → Stands r (frame.Binary l p a v ∷ k) (ts ++ (us ++ (tok (link_what l) p ∷ [])))
  not : (p : Place) (k : List Frame) (ts : List Spelled) → Stands r k ts → hole k ≤ 3 → Stands r (frame.Not p ∷ k) (ts ++ (tok what.Not p ∷ []))
  neg : (p : Place) (k : List Frame) (ts : List Spelled) → Stands r k ts → Stands r (frame.Neg p ∷ k) (ts ++ (tok (what.Operator op.Sub) p ∷ []))
  bracket : (p : Place) (k : List Frame) (ts : List Spelled) → Stands r k ts → Stands r (frame.Bracket ∷ k) (ts ++ (tok what.Open p ∷ []))
  call : (p : Place) (u v x : ℕ) → x ≡ max u v → (c : Expr) (es : List Expr) (k : List Frame) (ts us ds : List Spelled) → Stands r k ts → Derives g.postfix us u c → Done ds v es → suc x + length k ≤ r
      → Stands r (frame.Call p c x es ∷ k) (ts ++ (us ++ (tok what.Open p ∷ ds)))
  cast : (p q s : Place) (v : ℕ) (a : Ann) (k : List Frame) (ts us : List Spelled) → Stands r k ts → DerivesType us v a → suc v + length k ≤ r
      → Stands r (frame.Cast p a v ∷ k) (ts ++ (tok what.Cast p ∷ tok what.Open q ∷ (us ++ (tok what.Comma s ∷ []))))

-- the tokens that close a frame, and the level of the whole
abbrev pub closing : Place → Frame → List Spelled
closing q (frame.Binary l p a v) = []
closing q (frame.Not p) = []
closing q (frame.Neg p) = []
closing q frame.Bracket = tok what.Close q ∷ []
closing q (frame.Call p c v es) = tok what.Close q ∷ []
closing q (frame.Cast p a v) = tok what.Close q ∷ []

abbrev pub shut_level : Frame → ℕ
shut_level (frame.Binary l p a v) = link_whole l
shut_level (frame.Not p) = 3
shut_level (frame.Neg p) = 7
shut_level frame.Bracket = 8
shut_level (frame.Call p c v es) = 8
shut_level (frame.Cast p a v) = 8

-- a frame closed round its part
pub record Shut (r : ℕ) (q : Place) (f : Frame) (k : List Frame) (all : List Spelled) (w : ℕ) (e : Expr) : Type 0 where
  pub front : List Spelled
  pub part : List Spelled
  pub stands : Stands r k front
  pub derives : Derives (form (shut_level f)) part (weigh f w) (join f e)
  pub fits : hole k ≤ shut_level f
  pub light : weigh f w + length k ≤ r
  pub parts : all ++ closing q f ≡ front ++ part

pub shut : {r : ℕ} {f : Frame} {k : List Frame} {ts : List Spelled} (q : Place) (us : List Spelled) (w : ℕ) (e : Expr) → Stands r (f ∷ k) ts → Derives (form (hole_of f)) us w e → w + suc (length k) ≤ r
    → Shut r q f k (ts ++ us) w e
shut {r = r} q us w e (binary l p v a k ts vs s d h n) x m =
    record {
      front = ts;
      part = vs ++ (tok (link_what l) p ∷ us);
      stands = s;
      derives = link_derives l p vs us v w a e d x;
      fits = h;
      light = max_light v w (length k) r n m;
      parts = simp (append_assoc, append-nil);
    }
shut q us w e (not p k ts s h) x m =
    record {
      front = ts;
      part = tok what.Not p ∷ us;
      stands = s;
      derives = g.not p us w e x;
      fits = h;
      light = omega arith;
      parts = simp (append_assoc, append-nil);
    }
shut q us w e (neg p k ts s) x m =
    record {
      front = ts;
      part = tok (what.Operator op.Sub) p ∷ us;
      stands = s;
      derives = g.negate p us w e x;
      fits = hole_small k;
      light = omega arith;
      parts = simp (append_assoc, append-nil);
    }
shut q us w e (bracket p k ts s) x m =
    record {
      front = ts;
      part = tok what.Open p ∷ (us ++ (tok what.Close q ∷ []));
      stands = s;
      derives = g.postfix_atom _ _ _ (g.bracket p q us w e x);
      fits = omega (arith, hole_small k);
      light = omega arith;
      parts = simp append_assoc;
    }
shut {r = r} q us w e (call p u v y i c es k ts vs ds s d a n) x m =
    record {
      front = ts;
      part = vs ++ (tok what.Open p ∷ ((ds ++ us) ++ (tok what.Close q ∷ [])));
      stands = s;
      derives =
          subst (λ n. Derives g.postfix (vs ++ (tok what.Open p ∷ ((ds ++ us) ++ (tok what.Close q ∷ [])))) (suc n) (tree.call p c (exprs (es ++ (e ∷ []))))) (sym (ap (λ z. max z w) i ∙ max_assoc u v w))
          (g.call p q vs (ds ++ us) u (max v w) c (es ++ (e ∷ [])) d (done_args a (g.last_arg us w e x)));
      fits = omega (arith, hole_small k);
      light = max_light y w (length k) r n m;
      parts = simp append_assoc;
    }
shut {r = r} q us w e (cast p t o v a k ts vs s d n) x m =
    record {
      front = ts;
      part = tok what.Cast p ∷ tok what.Open t ∷ (vs ++ (tok what.Comma o ∷ (us ++ (tok what.Close q ∷ []))));
      stands = s;
      derives = g.postfix_atom _ _ _ (g.cast p t o q vs us v w a e d x);
      fits = omega (arith, hole_small k);
      light = max_light v w (length k) r n m;
      parts = simp append_assoc;
    }

-- a part in its place makes a prefix of an expression
pub plug : {r : ℕ} (k : List Frame) (ts us : List Spelled) (w : ℕ) (e : Expr) → Stands r k ts → Derives (form (hole k)) us w e → w + length k ≤ r → BeginsTree (IsExpr r) (ts ++ us)
plug [] [] us w e bottom d m = ([], e, (w, derives_at (sym (append-nil us)) d, omega arith))
plug [] (t ∷ ts) us w e s d m = elim s [ ]
plug {r = r} (f ∷ k) ts us w e s d m =
    let c = shut somewhere us w e s d m in
    let b = plug k c.front c.part (weigh f w) (join f e) c.stands (down (shut_level f) (hole k) c.fits c.part (weigh f w) (join f e) c.derives) c.light in
    (closing somewhere f ++ b.0, b.1, subst (λ all. IsExpr r all b.1) (ap (λ x. x ++ b.0) (sym c.parts) ∙ append_assoc (ts ++ us) (closing somewhere f) b.0) b.2)
