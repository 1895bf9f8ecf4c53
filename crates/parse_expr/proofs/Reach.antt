-- What is in the grammar is read, and in which state.
use Rattle.std.proofs.Common.{ℕ, suc, ◌+◌, ◌<◌, ◌≤◌, ◌≡◌, max, List, [], ◌∷◌, ◌++◌, length, Some, nat_lt, arith, refl, ap, sym, ◌∙◌, subst}
use Rattle.std.proofs.Math.Nat.{max-zero}
use Rattle.std.proofs.lemmas.List.{append-nil, append_assoc}
use Rattle.std.proofs.lemmas.Bool.{lt-ltb, le-leb, lt-leb}
use Rattle.spelled_tokens.specs.declared.token.Spelled.{Spelled}
use Rattle.spelled_tokens.specs.declared.token.What.TheVariants as what
use Rattle.mono_syntax.specs.declared.leaf.Op.{Op}
use Rattle.mono_syntax.specs.declared.leaf.Op.TheVariants as op
use Rattle.mono_syntax.specs.Expr as tree
use Rattle.mono_syntax.specs.Expr.{Expr}
use Rattle.mono_syntax.specs.ExprView.{exprs}
use Rattle.spelled_tokens.specs.SpelledTokens.{tok}
use Rattle.mono_syntax.specs.declared.leaf.Place.{Place}
use Rattle.parse_expr.specs.declared.machine.TypeMode.{TypeMode}
use Rattle.parse_expr.specs.declared.machine.TypeMode.TheVariants as type_mode
use Rattle.parse_expr.specs.declared.machine.Link.{Link}
use Rattle.parse_expr.specs.declared.machine.Link.TheVariants as link
use Rattle.parse_expr.specs.declared.machine.Frame.{Frame}
use Rattle.parse_expr.specs.declared.machine.Frame.TheVariants as frame
use Rattle.parse_expr.specs.declared.machine.Mode.{Mode}
use Rattle.parse_expr.specs.declared.machine.Mode.TheVariants as mode
use Rattle.parse_expr.specs.Grammar as g
use Rattle.parse_expr.specs.Types.{word}
use Rattle.parse_expr.specs.Grammar.{Form, Derives, DerivesArgs, Group, comparing, adding, multiplying, group}
use Rattle.parse_expr.specs.computed.TypeReading.{type_step}
use Rattle.parse_expr.proofs.Maxima.{max_left, max_right, max_assoc}
use Rattle.parse_expr.proofs.TypeSound.{type_heavy}
use Rattle.parse_expr.proofs.TypeReach.{type_reach}
use Rattle.parse_expr.specs.Precedence.{group_left, group_whole, group_right}
use Rattle.parse_expr.specs.computed.Reading.{link_left, link_whole, link_right, link_tree, level, hole_of, hole, join, weigh, held, settle, if_some, join_link, inner_room, close, comma, step, finish}
use Rattle.parse_expr.proofs.Levels.{heavy, link_what}
use Rattle.parse_expr.proofs.Steps.{left_some}
use Rattle.parse_expr.specs.computed.Goes.{Goes, stay, go}
use Rattle.parse_expr.proofs.Goes.{then}

abbrev pub lev : Form → ℕ
lev g.whole = 1
lev g.and_expr = 2
lev g.not_expr = 3
lev g.comparison = 4
lev g.sum = 5
lev g.term = 6
lev g.factor = 7
lev g.postfix = 8
lev g.atom = 9

-- ---- the tables

group_order : (c : Group) → (group_whole c < group_right c) × (group_whole c ≤ group_left c) × (4 ≤ group_left c) × (group_whole c ≤ 6)
group_order comparing = (omega arith, omega arith, omega arith, omega arith)
group_order adding = (omega arith, omega arith, omega arith, omega arith)
group_order multiplying = (omega arith, omega arith, omega arith, omega arith)

link_order : (l : Link) → (link_whole l < link_right l) × (link_whole l ≤ link_left l) × (3 ≤ link_whole l → 4 ≤ link_left l) × (link_whole l ≤ 6)
link_order link.Or = (omega arith, omega arith, (λ h. omega arith), omega arith)
link_order link.And = (omega arith, omega arith, (λ h. omega arith), omega arith)
link_order (link.Operator o) = let q = group_order (group o) in (q.0, q.1, (λ h. q.2), q.3)

-- a frame in whose hole an operator may stand isn't closed by it
looser : (l : Link) (f : Frame) → hole_of f ≤ link_whole l → level f < link_left l
looser l (frame.Binary m p a v) h = let q = link_order l in let o = link_order m in omega (arith, q.1, o.0)
looser l (frame.Not p) h = let q = link_order l in let r = q.2 h in omega arith
looser l (frame.Neg p) h = let q = link_order l in omega (arith, q.3)
looser l frame.Bracket h = let q = left_some l in omega arith
looser l (frame.Call p c v es) h = let q = left_some l in omega arith
looser l (frame.Cast p a v) h = let q = left_some l in omega arith

pub settle_stays : (l : Link) (k : List Frame) (e : Expr) (w : ℕ) → hole k ≤ link_whole l → settle (link_left l) k e w ≡ held k e w
settle_stays l [] e w h = refl
settle_stays l (f ∷ k) e w h = let x = lt-leb (link_left l) (level f) (looser l f h) in rw x refl

pub settle_closes : (l : ℕ) (f : Frame) (k : List Frame) (e : Expr) (w : ℕ) → l ≤ level f → settle l (f ∷ k) e w ≡ settle l k (join f e) (weigh f w)
settle_closes l f k e w h = rw (le-leb l (level f) h) refl

pub finish_closes : (f : Frame) (k : List Frame) (e : Expr) (w : ℕ) → 1 ≤ level f → finish (mode.Have (held (f ∷ k) e w)) ≡ finish (mode.Have (held k (join f e) (weigh f w)))
finish_closes f k e w s = rw (le-leb 1 (level f) s) refl

-- a part in frames that, closed, are the whole
pub data Closes (l : ℕ) (k : List Frame) (e : Expr) (w : ℕ) : List Frame → Expr → ℕ → Type 0 where
  same : Closes l k e w k e w
  shut : (f : Frame) (fs : List Frame) (x : Expr) (v : ℕ) → l ≤ level f → Closes l k e w fs (join f x) (weigh f v) → Closes l k e w (f ∷ fs) x v

pub settled : {l : ℕ} {k : List Frame} {e : Expr} {w : ℕ} {fs : List Frame} {x : Expr} {v : ℕ} (m : ℕ) → m ≤ l → Closes l k e w fs x v → settle m fs x v ≡ settle m k e w
settled m h same = refl
settled m h (shut f fs x v i c) = settle_closes m f fs x v (omega arith) ∙ settled m h c

-- one frame more below
outer : {l n : ℕ} {f : Frame} {k : List Frame} {b : Expr} {w : ℕ} {fs : List Frame} {x : Expr} {v : ℕ} → Closes l (f ∷ k) b w fs x v → n ≤ l → n ≤ level f → Closes n k (join f b) (weigh f w) fs x v
outer {f = f} {k = k} {b = b} {w = w} same h i = shut f k b w i same
outer (shut f fs x v j c) h i = shut f fs x v (omega arith) (outer c h i)

less : {l n : ℕ} {k : List Frame} {e : Expr} {w : ℕ} {fs : List Frame} {x : Expr} {v : ℕ} → n ≤ l → Closes l k e w fs x v → Closes n k e w fs x v
less h same = same
less h (shut f fs x v i c) = shut f fs x v (omega arith) (less h c)

pub record Reached (r : ℕ) (l : ℕ) (k : List Frame) (ts : List Spelled) (e : Expr) (w : ℕ) : Type 0 where
  pub frames : List Frame
  pub part : Expr
  pub weight : ℕ
  pub goes : Goes (step r) (mode.Want k) ts (mode.Have (held frames part weight))
  pub closes : Closes l k e w frames part weight

freer : {r l n : ℕ} {k : List Frame} {ts : List Spelled} {e : Expr} {w : ℕ} → n ≤ l → Reached r l k ts e w → Reached r n k ts e w
freer h x = record { frames = x.frames; part = x.part; weight = x.weight; goes = x.goes; closes = less h x.closes }

one_step : (r : ℕ) (m n : Mode) (t : Spelled) → step r m t ≡ Some n → Goes (step r) m (t ∷ []) n
one_step r m n t e = go m n n t [] e (stay n)

joined : (r : ℕ) (l : Link) (p : Place) (fs k : List Frame) (x a : Expr) (v w : ℕ) → Closes (link_left l) k a w fs x v → hole k ≤ link_whole l → w + length k < r
    → join_link r l p (settle (link_left l) fs x v) ≡ Some (mode.Want (frame.Binary l p a w ∷ k))
joined r l p fs k x a v w c h n = rw (settled (link_left l) (omega arith) c, settle_stays l k a w h, le-leb (hole k) (link_whole l) h, lt-ltb (w + length k) r n) refl

link_step : (r : ℕ) (l : Link) (p : Place) (fs k : List Frame) (x a : Expr) (v w : ℕ) → Closes (link_left l) k a w fs x v → hole k ≤ link_whole l → w + length k < r
    → step r (mode.Have (held fs x v)) (tok (link_what l) p) ≡ Some (mode.Want (frame.Binary l p a w ∷ k))
link_step r link.Or p fs k x a v w c h n = joined r link.Or p fs k x a v w c h n
link_step r link.And p fs k x a v w c h n = joined r link.And p fs k x a v w c h n
link_step r (link.Operator o) p fs k x a v w c h n = joined r (link.Operator o) p fs k x a v w c h n

-- behind a prefix
prefix_reach : (r : ℕ) (f : Frame) (l : ℕ) (t : Spelled) (ts : List Spelled) (w : ℕ) (e : Expr) (k : List Frame) → step r (mode.Want k) t ≡ Some (mode.Want (f ∷ k)) → l ≤ level f → Reached r l (f ∷ k) ts e w
    → Reached r l k (t ∷ ts) (join f e) (weigh f w)
prefix_reach r f l t ts w e k s h x = record { frames = x.frames; part = x.part; weight = x.weight; goes = go _ _ _ t ts s x.goes; closes = outer x.closes (omega arith) h }

binary_reach : (r : ℕ) (l : Link) (p : Place) (ts us : List Spelled) (w v : ℕ) (a b : Expr) (k : List Frame) (n : ℕ) → n ≤ link_whole l → link_whole l ≤ n → hole k ≤ link_whole l → suc (max w v) + length k ≤ r
    → Reached r (link_left l) k ts a w → Reached r (link_whole l) (frame.Binary l p a w ∷ k) us b v → Reached r n k (ts ++ (tok (link_what l) p ∷ us)) (link_tree l p a b) (suc (max w v))
binary_reach r l p ts us w v a b k n i j h m x y =
    let o = max_left w v (length k) r m in
    record {
      frames = y.frames;
      part = y.part;
      weight = y.weight;
      goes =
          then (step r) _ _ _ ts (tok (link_what l) p ∷ us) x.goes
          (go (mode.Have (held x.frames x.part x.weight)) (mode.Want (frame.Binary l p a w ∷ k)) _ (tok (link_what l) p) us (link_step r l p x.frames k x.part a x.weight w x.closes h (omega arith)) y.goes);
      closes = outer y.closes i i;
    }

leaf_reach : (r : ℕ) (k : List Frame) (t : Spelled) (e : Expr) → 1 + length k ≤ r → step r (mode.Want k) t ≡ if_some (nat_lt (length k) r) (mode.Have (held k e 1)) → Reached r 9 k (t ∷ []) e 1
leaf_reach r k t e n s =
    record { frames = k; part = e; weight = 1; goes = one_step r (mode.Want k) _ t (s ∙ ap (λ b. if_some b (mode.Have (held k e 1))) (lt-ltb (length k) r (omega arith))); closes = same }

group_loose : (o : Op) (c : Group) → group o ≡ c → (group_whole (group o) ≡ group_whole c) × (group_left (group o) ≡ group_left c) × (group_right (group o) ≡ group_right c)
group_loose o c q = (ap group_whole q, ap group_left q, ap group_right q)

-- a postfix is read to itself
pub exactly : {r l : ℕ} {k : List Frame} {ts : List Spelled} {e : Expr} {w : ℕ} → 8 ≤ l → Reached r l k ts e w → Goes (step r) (mode.Want k) ts (mode.Have (held k e w))
exactly {r = r} {k = k} {ts = ts} h x = is x.closes h x.goes
  where
    level_small : (f : Frame) → level f ≤ 7
    level_small (frame.Binary link.Or p a v) = omega arith
    level_small (frame.Binary link.And p a v) = omega arith
    level_small (frame.Binary (link.Operator o) p a v) = small (group o)
      where
        small : (c : Group) → group_whole c ≤ 7
        small comparing = omega arith
        small adding = omega arith
        small multiplying = omega arith
    level_small (frame.Not p) = omega arith
    level_small (frame.Neg p) = omega arith
    level_small frame.Bracket = omega arith
    level_small (frame.Call p c v es) = omega arith
    level_small (frame.Cast p a v) = omega arith

    is : {l : ℕ} {e x : Expr} {w v : ℕ} {fs : List Frame} → Closes l k e w fs x v → 8 ≤ l → Goes (step r) (mode.Want k) ts (mode.Have (held fs x v)) → Goes (step r) (mode.Want k) ts (mode.Have (held k e w))
    is same h g = g
    is (shut f fs x v i c) h g = let s = level_small f in absurd (omega arith)

-- the frame on top isn't closed by a bracket or a comma
held_open : (f : Frame) (k : List Frame) (e : Expr) (w : ℕ) → level f ≡ 0 → settle 1 (f ∷ k) e w ≡ held (f ∷ k) e w
held_open frame.Bracket k e w z = refl
held_open (frame.Call p c v es) k e w z = refl
held_open (frame.Cast p a v) k e w z = refl
held_open (frame.Binary l p a v) k e w z = let x : 1 ≤ link_whole l = first l in absurd (omega arith)
  where
    first_group : (c : Group) → 1 ≤ group_whole c
    first_group comparing = omega arith
    first_group adding = omega arith
    first_group multiplying = omega arith

    first : (l : Link) → 1 ≤ link_whole l
    first link.Or = omega arith
    first link.And = omega arith
    first (link.Operator o) = first_group (group o)
held_open (frame.Not p) k e w z = absurd (omega arith)
held_open (frame.Neg p) k e w z = absurd (omega arith)

close_step : (r : ℕ) (f : Frame) (k fs : List Frame) (e x : Expr) (w v : ℕ) (q : Place) (n : Mode) → level f ≡ 0 → Closes 1 (f ∷ k) e w fs x v → close (held (f ∷ k) e w) ≡ Some n
    → step r (mode.Have (held fs x v)) (tok what.Close q) ≡ Some n
close_step r f k fs e x w v q n z c i = ap close (settled 1 (omega arith) c ∙ held_open f k e w z) ∙ i

comma_step : (r : ℕ) (f : Frame) (k fs : List Frame) (e x : Expr) (w v : ℕ) (q : Place) (n : Mode) → level f ≡ 0 → Closes 1 (f ∷ k) e w fs x v → comma (held (f ∷ k) e w) ≡ Some n
    → step r (mode.Have (held fs x v)) (tok what.Comma q) ≡ Some n
comma_step r f k fs e x w v q n z c i = ap comma (settled 1 (omega arith) c ∙ held_open f k e w z) ∙ i

to_goes : {r l : ℕ} {k : List Frame} {ts us : List Spelled} {e : Expr} {w : ℕ} {n : Mode} (x : Reached r l k ts e w) → Goes (step r) (mode.Have (held x.frames x.part x.weight)) us n → Goes (step r) (mode.Want k) (ts ++ us) n
to_goes {r = r} {k = k} {ts = ts} {us = us} {n = n} x b = then (step r) (mode.Want k) (mode.Have (held x.frames x.part x.weight)) n ts us x.goes b

-- a type is read in a cast as it is read alone
inside : (r : ℕ) (p : Place) (k : List Frame) {m n : TypeMode} {ts : List Spelled} → Goes (type_step (inner_room r k)) m ts n → Goes (step r) (mode.CastType p k m) ts (mode.CastType p k n)
inside r p k (stay s) = stay (mode.CastType p k s)
inside r p k (go s m n t ts e a) = go _ (mode.CastType p k m) _ t ts (inside_step r p k s m t e) (inside r p k a)
  where
    inside_step : (r : ℕ) (p : Place) (k : List Frame) (s m : TypeMode) (t : Spelled) → type_step (inner_room r k) s t ≡ Some m → step r (mode.CastType p k s) t ≡ Some (mode.CastType p k m)
    inside_step r p k s m t e = rw e refl

mutual
  pub reach : (r : ℕ) {L : Form} {ts : List Spelled} {w : ℕ} {e : Expr} → Derives L ts w e → (k : List Frame) → hole k ≤ lev L → w + length k ≤ r → Reached r (lev L) k ts e w
  reach r (g.whole_and ts w e d) k h n = freer (omega arith) (reach r d k (omega arith) n)
  reach r (g.or p ts us w v a b d f) k h n =
      binary_reach r link.Or p ts us w v a b k 1 (omega arith) (omega arith) h n (reach r d k h (let m = max_left w v (length k) r n in omega arith))
      (freer (omega arith) (reach r f (frame.Binary link.Or p a w ∷ k) (omega arith) (max_right w v (length k) r n)))
  reach r (g.and_not ts w e d) k h n = freer (omega arith) (reach r d k (omega arith) n)
  reach r (g.and p ts us w v a b d f) k h n =
      binary_reach r link.And p ts us w v a b k 2 (omega arith) (omega arith) h n (reach r d k h (let m = max_left w v (length k) r n in omega arith))
      (freer (omega arith) (reach r f (frame.Binary link.And p a w ∷ k) (omega arith) (max_right w v (length k) r n)))
  reach r (g.not_comparison ts w e d) k h n = freer (omega arith) (reach r d k (omega arith) n)
  reach r (g.not p ts w e d) k h n =
      let y = heavy d in
      prefix_reach r (frame.Not p) 3 (tok what.Not p) ts w e k (rw (lt-ltb (suc (length k)) r (omega arith), le-leb (hole k) 3 h) refl) (omega arith)
      (reach r d (frame.Not p ∷ k) (omega arith) (omega arith))
  reach r (g.comparison_sum ts w e d) k h n = freer (omega arith) (reach r d k (omega arith) n)
  reach r (g.compare o p ts us w v a b c d f) k h n =
      let q = group_loose o comparing c in
      binary_reach r (link.Operator o) p ts us w v a b k 4 (omega (arith, q.0)) (omega (arith, q.0)) (omega (arith, q.0)) n
      (freer (omega (arith, q.1)) (reach r d k (omega arith) (let m = max_left w v (length k) r n in omega arith)))
      (freer (omega (arith, q.0)) (reach r f (frame.Binary (link.Operator o) p a w ∷ k) (omega (arith, q.2)) (max_right w v (length k) r n)))
  reach r (g.sum_term ts w e d) k h n = freer (omega arith) (reach r d k (omega arith) n)
  reach r (g.add o p ts us w v a b c d f) k h n =
      let q = group_loose o adding c in
      binary_reach r (link.Operator o) p ts us w v a b k 5 (omega (arith, q.0)) (omega (arith, q.0)) (omega (arith, q.0)) n
      (freer (omega (arith, q.1)) (reach r d k (omega arith) (let m = max_left w v (length k) r n in omega arith)))
      (freer (omega (arith, q.0)) (reach r f (frame.Binary (link.Operator o) p a w ∷ k) (omega (arith, q.2)) (max_right w v (length k) r n)))
  reach r (g.term_factor ts w e d) k h n = freer (omega arith) (reach r d k (omega arith) n)
  reach r (g.multiply o p ts us w v a b c d f) k h n =
      let q = group_loose o multiplying c in
      binary_reach r (link.Operator o) p ts us w v a b k 6 (omega (arith, q.0)) (omega (arith, q.0)) (omega (arith, q.0)) n
      (freer (omega (arith, q.1)) (reach r d k (omega arith) (let m = max_left w v (length k) r n in omega arith)))
      (freer (omega (arith, q.0)) (reach r f (frame.Binary (link.Operator o) p a w ∷ k) (omega (arith, q.2)) (max_right w v (length k) r n)))
  reach r (g.factor_postfix ts w e d) k h n = freer (omega arith) (reach r d k (omega arith) n)
  reach r (g.negate p ts w e d) k h n =
      let y = heavy d in
      prefix_reach r (frame.Neg p) 7 (tok (what.Operator op.Sub) p) ts w e k (rw (lt-ltb (suc (length k)) r (omega arith)) refl) (omega arith)
      (reach r d (frame.Neg p ∷ k) (omega arith) (omega arith))
  reach r (g.postfix_atom ts w e d) k h n = freer (omega arith) (reach r d k (omega arith) n)
  reach r (g.attribute p q x ts w e d) k h n =
      record {
        frames = k;
        part = tree.read e (word x q);
        weight = suc w;
        closes = same;
        goes =
            then (step r) _ (mode.Have (held k e w)) _ ts _ (exactly (omega arith) (reach r d k h (omega arith)))
            (go _ (mode.Dotted (held k e w)) _ (tok what.Dot p) _ (rw (lt-ltb (w + length k) r (omega arith)) refl) (one_step r (mode.Dotted (held k e w)) _ (tok (what.Name x) q) refl));
      }
  reach r (g.call p q ts us w v e es d a) k h n =
      let m = max_left w v (length k) r n in
      record {
        frames = k;
        part = tree.call p e (exprs es);
        weight = suc (max w v);
        closes = same;
        goes =
            then (step r) _ (mode.Have (held k e w)) _ ts _ (exactly (omega arith) (reach r d k h (omega arith)))
            (go _ (mode.Want (frame.Call p e w [] ∷ k)) _ (tok what.Open p) _ (rw (lt-ltb (w + length k) r (omega arith)) refl) (args_reach r a k p q e w [] n));
      }
  reach r (g.name p x) k h n = leaf_reach r k (tok (what.Name x) p) (tree.local (word x p)) n refl
  reach r (g.number p x) k h n = leaf_reach r k (tok (what.Number x) p) (tree.number p x) n refl
  reach r (g.text p x) k h n = leaf_reach r k (tok (what.Text x) p) (tree.text p x) n refl
  reach r (g.truth p b) k h n = leaf_reach r k (tok (what.Bool b) p) (tree.truth p b) n refl
  reach r (g.none p) k h n = leaf_reach r k (tok what.Nil p) (tree.nil p) n refl
  reach r (g.bracket p q ts w e d) k h n =
      let y = heavy d in
      let x = reach r d (frame.Bracket ∷ k) (omega arith) (omega arith) in
      record {
        frames = k;
        part = e;
        weight = suc w;
        closes = same;
        goes =
            go (mode.Want k) (mode.Want (frame.Bracket ∷ k)) _ (tok what.Open p) _ (rw (lt-ltb (suc (length k)) r (omega arith)) refl)
            (to_goes x (one_step r _ _ (tok what.Close q) (close_step r frame.Bracket k x.frames e x.part w x.weight q (mode.Have (held k e (suc w))) refl x.closes refl)));
      }
  reach r (g.cast p q o c ts us v w a e d f) k h n =
      let y = heavy f in
      let l = max_left v w (length k) r n in
      let x = reach r f (frame.Cast p a v ∷ k) (omega arith) (max_right v w (length k) r n) in
      record {
        frames = k;
        part = tree.cast p a e;
        weight = suc (max v w);
        closes = same;
        goes =
            go (mode.Want k) (mode.CastWord p k) _ (tok what.Cast p) _ (rw (lt-ltb (suc (length k)) r (let z = type_heavy d in omega arith)) refl)
            (go (mode.CastWord p k) (mode.CastType p k (type_mode.Want [])) _ (tok what.Open q) _ refl
            (then (step r) _ (mode.CastType p k (type_mode.Have [] a v)) _ ts _ (inside r p k (type_reach (inner_room r k) d [] (omega arith)))
            (go _ (mode.Want (frame.Cast p a v ∷ k)) _ (tok what.Comma o) _ refl
            (to_goes x (one_step r _ _ (tok what.Close c) (close_step r (frame.Cast p a v) k x.frames e x.part w x.weight c (mode.Have (held k (tree.cast p a e) (suc (max v w)))) refl x.closes refl))))));
      }
  reach r (g.join p q o c x) k h n =
      record {
        frames = k;
        part = tree.join p (word x o);
        weight = 1;
        closes = same;
        goes =
            go (mode.Want k) (mode.JoinWord p k) _ (tok what.Join p) _ (rw (lt-ltb (length k) r (omega arith)) refl)
            (go (mode.JoinWord p k) (mode.JoinOpen p k) _ (tok what.Open q) _ refl
            (go (mode.JoinOpen p k) (mode.JoinName p (word x o) k) _ (tok (what.Name x) o) _ refl (one_step r _ _ (tok what.Close c) refl)));
      }

  pub args_reach : (r : ℕ) {us : List Spelled} {v : ℕ} {es : List Expr} → DerivesArgs us v es → (k : List Frame) (p q : Place) (c : Expr) (w : ℕ) (ds : List Expr) → suc (max w v) + length k ≤ r
      → Goes (step r) (mode.Want (frame.Call p c w ds ∷ k)) (us ++ (tok what.Close q ∷ [])) (mode.Have (held k (tree.call p c (exprs (ds ++ es))) (suc (max w v))))
  args_reach r g.no_args k p q c w ds n =
      one_step r (mode.Want (frame.Call p c w ds ∷ k)) _ (tok what.Close q)
      (λ i. Some (mode.Have (held k (tree.call p c (exprs (sym (append-nil ds) i))) (suc (sym (max-zero w) i)))))
  args_reach r (g.last_arg ts v e d) k p q c w ds n =
      let x = reach r d (frame.Call p c w ds ∷ k) (omega arith) (max_right w v (length k) r n) in
      to_goes x (one_step r _ _ (tok what.Close q) (close_step r (frame.Call p c w ds) k x.frames e x.part v x.weight q (mode.Have (held k (tree.call p c (exprs (ds ++ (e ∷ [])))) (suc (max w v)))) refl x.closes refl))
  args_reach r (g.more_args o ts us v y e es d a) k p q c w ds n =
      let i = max_assoc w v y in
      let n' : suc (max (max w v) y) + length k ≤ r = subst (λ z. suc z + length k ≤ r) (sym i) n in
      let x = reach r d (frame.Call p c w ds ∷ k) (omega arith) (max_right w v (length k) r (max_left (max w v) y (length k) r n')) in
      let m : Mode = mode.Want (frame.Call p c (max w v) (ds ++ (e ∷ [])) ∷ k) in
      let b = args_reach r a k p q c (max w v) (ds ++ (e ∷ [])) n' in
      subst (λ (z : List Spelled). Goes (step r) (mode.Want (frame.Call p c w ds ∷ k)) z (mode.Have (held k (tree.call p c (exprs (ds ++ (e ∷ es)))) (suc (max w (max v y))))))
      (sym (append_assoc ts (tok what.Comma o ∷ us) (tok what.Close q ∷ [])))
      (subst (λ (z : Mode). Goes (step r) (mode.Want (frame.Call p c w ds ∷ k)) (ts ++ (tok what.Comma o ∷ (us ++ (tok what.Close q ∷ [])))) z)
      (λ j. mode.Have (held k (tree.call p c (exprs (append_assoc ds (e ∷ []) es j))) (suc (i j))))
      (to_goes x (go _ m _ (tok what.Comma o) _ (comma_step r (frame.Call p c w ds) k x.frames e x.part v x.weight o m refl x.closes refl) b)))
