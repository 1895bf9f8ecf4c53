-- A step keeps what the state stands for.
use Rattle.std.proofs.Common.{ℕ, suc, ◌+◌, ◌<◌, ◌≤◌, ◌≡◌, max, Bool, true, false, cond, ◌&&◌, List, [], ◌∷◌, ◌++◌, length, Option, Some, None, nat_lt, nat_le, arith, refl, ap, sym, ◌∙◌, subst, append_assoc}
use Rattle.std.proofs.Math.Nat.{max-zero}
use Rattle.std.proofs.lemmas.List.{append-nil}
use Rattle.std.proofs.lemmas.Bool.{and_parts, ltb-true, leb-true}
use Rattle.spelled_tokens.specs.declared.token.Spelled.{Spelled}
use Rattle.spelled_tokens.specs.declared.token.What.{What}
use Rattle.spelled_tokens.specs.declared.token.What.TheVariants as what
use Rattle.mono_syntax.specs.declared.leaf.Op.{Op}
use Rattle.mono_syntax.specs.declared.leaf.Op.TheVariants as op
use Rattle.mono_syntax.specs.Expr as tree
use Rattle.mono_syntax.specs.Expr.{Expr}
use Rattle.mono_syntax.specs.ExprView.{exprs}
use Rattle.mono_syntax.specs.Ann.{Ann}
use Rattle.spelled_tokens.specs.SpelledTokens.{tok}
use Rattle.mono_syntax.specs.declared.leaf.Place.{Place}
use Rattle.parse_expr.specs.declared.machine.TypeMode.{TypeMode}
use Rattle.parse_expr.specs.declared.machine.TypeMode.TheVariants as type_mode
use Rattle.parse_expr.specs.declared.machine.Weighed.{Weighed}
use Rattle.parse_expr.specs.declared.machine.Link.{Link}
use Rattle.parse_expr.specs.declared.machine.Link.TheVariants as link
use Rattle.parse_expr.specs.declared.machine.Frame.{Frame}
use Rattle.parse_expr.specs.declared.machine.Frame.TheVariants as frame
use Rattle.parse_expr.specs.declared.machine.Held.{Held}
use Rattle.parse_expr.specs.declared.machine.Mode.{Mode}
use Rattle.parse_expr.specs.declared.machine.Mode.TheVariants as mode
use Rattle.parse_expr.specs.Grammar as g
use Rattle.parse_expr.specs.Types.{DerivesType, word}
use Rattle.parse_expr.specs.Grammar.{Form, Derives, DerivesArgs, IsExpr, Group, comparing, adding, multiplying, group}
use Rattle.parse_expr.specs.Stretches.{BeginsTree}
use Rattle.parse_expr.specs.computed.TypeReading.{type_step, type_finish}
use Rattle.parse_expr.specs.computed.Goes.{Goes, stay, go}
use Rattle.parse_expr.proofs.Goes.{some_is, none_some}
use Rattle.parse_expr.proofs.Maxima.{max_light, max_assoc}
use Rattle.parse_expr.proofs.TypeSound.{somewhere, TypeSound, type_step_sound, type_finish_sound, type_start_sound, type_viable}
use Rattle.parse_expr.specs.Precedence.{group_left}
use Rattle.parse_expr.specs.computed.Reading.{link_left, link_whole, level, hole_of, hole, join, weigh, held, settle, close_empty, is_minus, if_some, begin, join_link, close_at, comma_at, go_on, field_at, cast_open, cast_comma, cast_type, inner_room, join_open, join_name, join_close, step, whole_at, finish}
use Rattle.parse_expr.proofs.Levels.{form, down, heavy, link_what, hole_small}
use Rattle.parse_expr.proofs.Sound.{Done, start, next, done_args, args_at, Stands, bottom, binary, not, neg, bracket, call, cast, closing, shut_level, shut, plug}

-- splits on a test, and keeps what it said
pub split : (b : Bool) (P : Bool → Type 0) → (b ≡ true → P true) → (b ≡ false → P false) → P b
split true P t f = t refl
split false P t f = f refl

pub if_some_is : (b : Bool) (m n : Mode) → if_some b m ≡ Some n → (b ≡ true) × (m ≡ n)
if_some_is true m n e = (refl, some_is e)
if_some_is false m n e = none_some _ e

false_true : (B : Type 0) → false ≡ true → B
false_true B e = absurd (no e)
  where
    no : false ≡ true → ⊥
    no e = cc

minus_is : (o : Op) → is_minus o ≡ true → o ≡ op.Sub
minus_is op.Sub e = refl
minus_is op.Add e = false_true _ e
minus_is op.Mul e = false_true _ e
minus_is op.Div e = false_true _ e
minus_is op.Mod e = false_true _ e
minus_is op.Eq e = false_true _ e
minus_is op.Ne e = false_true _ e
minus_is op.Lt e = false_true _ e
minus_is op.Le e = false_true _ e
minus_is op.Gt e = false_true _ e
minus_is op.Ge e = false_true _ e

-- ---- closing frames

link_open : (c : Group) → 1 ≤ group_left c
link_open comparing = omega arith
link_open adding = omega arith
link_open multiplying = omega arith

pub left_some : (l : Link) → 1 ≤ link_left l
left_some link.Or = omega arith
left_some link.And = omega arith
left_some (link.Operator o) = link_open (group o)

link_left_small : (c : Group) → group_left c ≤ 8
link_left_small comparing = omega arith
link_left_small adding = omega arith
link_left_small multiplying = omega arith

left_small : (l : Link) → link_left l ≤ 8
left_small link.Or = omega arith
left_small link.And = omega arith
left_small (link.Operator o) = link_left_small (group o)

pub open_frame : (q : Place) (f : Frame) → 1 ≤ level f → (closing q f ≡ []) × (shut_level f ≡ level f)
open_frame q (frame.Binary l p a v) h = (refl, refl)
open_frame q (frame.Not p) h = (refl, refl)
open_frame q (frame.Neg p) h = (refl, refl)
open_frame q frame.Bracket h = absurd (omega arith)
open_frame q (frame.Call p c v es) h = absurd (omega arith)
open_frame q (frame.Cast p a v) h = absurd (omega arith)

pub record Settled (r l : ℕ) (all : List Spelled) (h : Held) : Type 0 where
  pub front : List Spelled
  pub part : List Spelled
  pub at : ℕ
  pub stands : Stands r h.stack front
  pub derives : Derives (form at) part h.weight h.tree
  pub left : l ≤ at
  pub fits : hole h.stack ≤ at
  pub light : h.weight + length h.stack ≤ r
  pub parts : all ≡ front ++ part

settled_at : {r l : ℕ} {all every : List Spelled} {h : Held} → every ≡ all → Settled r l all h → Settled r l every h
settled_at e s = record { front = s.front; part = s.part; at = s.at; stands = s.stands; derives = s.derives; left = s.left; fits = s.fits; light = s.light; parts = e ∙ s.parts }

pub settled : {r : ℕ} (l : ℕ) → 1 ≤ l → (k : List Frame) (ts us : List Spelled) (w : ℕ) (e : Expr) (m : ℕ) → Stands r k ts → Derives (form m) us w e → l ≤ m → hole k ≤ m → w + length k ≤ r
    → Settled r l (ts ++ us) (settle l k e w)
settled l o [] ts us w e m s d a h n = record { front = ts; part = us; at = m; stands = s; derives = d; left = a; fits = h; light = n; parts = refl }
settled {r = r} l o (f ∷ k) ts us w e m s d a h n =
    split (nat_le l (level f)) (λ b. Settled r l (ts ++ us) (cond b (settle l k (join f e) (weigh f w)) (held (f ∷ k) e w)))
    (λ y.
    let y : l ≤ level f = leb-true l (level f) y in
    let c = shut somewhere us w e s (down m (hole_of f) h us w e d) n in
    let q = open_frame somewhere f (omega arith) in
    let a : l ≤ shut_level f = omega (arith, q.1) in
    let parts : ts ++ us ≡ c.front ++ c.part = sym (append-nil (ts ++ us)) ∙ ap (λ x. (ts ++ us) ++ x) (sym q.0) ∙ c.parts in
    settled_at parts (settled l o k c.front c.part (weigh f w) (join f e) (shut_level f) c.stands c.derives a c.fits c.light))
    (λ _. record { front = ts; part = us; at = m; stands = s; derives = d; left = a; fits = h; light = n; parts = refl })

-- ---- states

pub data Sound (r : ℕ) : List Spelled → Mode → Type 0 where
  wanting : (k : List Frame) (ts : List Spelled) → Stands r k ts → suc (length k) ≤ r → Sound r ts (mode.Want k)
  having : (k : List Frame) (ts us : List Spelled) (w : ℕ) (e : Expr) → Stands r k ts → Derives g.postfix us w e → w + length k ≤ r → Sound r (ts ++ us) (mode.Have (held k e w))
  dotted : (p : Place) (k : List Frame) (ts us : List Spelled) (w : ℕ) (e : Expr) → Stands r k ts → Derives g.postfix us w e → suc w + length k ≤ r
      → Sound r (ts ++ (us ++ (tok what.Dot p ∷ []))) (mode.Dotted (held k e w))
  cast_word : (p : Place) (k : List Frame) (ts : List Spelled) → Stands r k ts → suc (suc (length k)) ≤ r → Sound r (ts ++ (tok what.Cast p ∷ [])) (mode.CastWord p k)
  cast_in : (p q : Place) (k : List Frame) (ts us : List Spelled) (m : TypeMode) → Stands r k ts → suc (suc (length k)) ≤ r → TypeSound (inner_room r k) us m
      → Sound r (ts ++ (tok what.Cast p ∷ tok what.Open q ∷ us)) (mode.CastType p k m)
  join_word : (p : Place) (k : List Frame) (ts : List Spelled) → Stands r k ts → suc (length k) ≤ r → Sound r (ts ++ (tok what.Join p ∷ [])) (mode.JoinWord p k)
  join_opened : (p q : Place) (k : List Frame) (ts : List Spelled) → Stands r k ts → suc (length k) ≤ r → Sound r (ts ++ (tok what.Join p ∷ tok what.Open q ∷ [])) (mode.JoinOpen p k)
  join_named : (p q o : Place) (x : List ℕ) (k : List Frame) (ts : List Spelled) → Stands r k ts → suc (length k) ≤ r
      → Sound r (ts ++ (tok what.Join p ∷ tok what.Open q ∷ tok (what.Name x) o ∷ [])) (mode.JoinName p (word x o) k)

sound_at : {r : ℕ} {ts us : List Spelled} {m n : Mode} → ts ≡ us → m ≡ n → Sound r ts m → Sound r us n
sound_at {r = r} {us = us} {m = m} p q s = subst (λ x. Sound r us x) q (subst (λ xs. Sound r xs m) p s)

leaf_sound : {r : ℕ} (k : List Frame) (ts : List Spelled) (t : Spelled) (e : Expr) (b : Bool) (n : Mode) → Stands r k ts → suc (length k) ≤ r → Derives g.atom (t ∷ []) 1 e
    → if_some b (mode.Have (held k e 1)) ≡ Some n → Sound r (ts ++ (t ∷ [])) n
leaf_sound k ts t e b n s h d i = sound_at refl (if_some_is b _ n i).1 (having k ts (t ∷ []) 1 e s (g.postfix_atom _ _ _ d) (omega arith))

done_all : {ts : List Spelled} {v : ℕ} {es : List Expr} → Done ts v es → DerivesArgs ts v es
done_all {ts = ts} {v = v} {es = es} a = args_at (append-nil ts) (max-zero v) (append-nil es) (done_args a g.no_args)

close_empty_sound : {r : ℕ} {k : List Frame} {ts : List Spelled} (q : Place) (m : Mode) → Stands r k ts → close_empty k ≡ Some m → Sound r (ts ++ (tok what.Close q ∷ [])) m
close_empty_sound q m bottom e = none_some _ e
close_empty_sound q m (binary l p v a k ts us s d h n) e = none_some _ e
close_empty_sound q m (not p k ts s h) e = none_some _ e
close_empty_sound q m (neg p k ts s) e = none_some _ e
close_empty_sound q m (bracket p k ts s) e = none_some _ e
close_empty_sound q m (cast p o t v a k ts us s d n) e = none_some _ e
close_empty_sound {r = r} q m (call p u v x i c es k ts us ds s d a n) e =
    sound_at (simp append_assoc) (some_is e)
    (having k ts (us ++ (tok what.Open p ∷ (ds ++ (tok what.Close q ∷ [])))) (suc x) (tree.call p c (exprs es)) s
    (subst (λ n. Derives g.postfix (us ++ (tok what.Open p ∷ (ds ++ (tok what.Close q ∷ [])))) (suc n) (tree.call p c (exprs es))) (sym i) (g.call p q us ds u v c es d (done_all a))) n)

begin_sound : {r : ℕ} (k : List Frame) (ts : List Spelled) (p : Place) (t : What) (n : Mode) → Stands r k ts → suc (length k) ≤ r → begin r k p t ≡ Some n → Sound r (ts ++ (tok t p ∷ [])) n
begin_sound k ts p (what.Name x) n s h e = leaf_sound k ts _ _ _ n s h (g.name p x) e
begin_sound k ts p (what.Number x) n s h e = leaf_sound k ts _ _ _ n s h (g.number p x) e
begin_sound k ts p (what.Text x) n s h e = leaf_sound k ts _ _ _ n s h (g.text p x) e
begin_sound k ts p (what.Bool b) n s h e = leaf_sound k ts _ _ _ n s h (g.truth p b) e
begin_sound k ts p what.Nil n s h e = leaf_sound k ts _ _ _ n s h (g.none p) e
begin_sound {r = r} k ts p what.Not n s h e =
    let i = if_some_is (nat_lt (suc (length k)) r && nat_le (hole k) 3) _ n e in
    let j = and_parts (nat_lt (suc (length k)) r) (nat_le (hole k) 3) i.0 in
    let l : suc (length k) < r = ltb-true _ _ j.0 in
    sound_at refl i.1 (wanting (frame.Not p ∷ k) _ (not p k ts s (leb-true _ _ j.1)) (omega arith))
begin_sound {r = r} k ts p (what.Operator o) n s h e =
    let i = if_some_is (nat_lt (suc (length k)) r && is_minus o) _ n e in
    let j = and_parts (nat_lt (suc (length k)) r) (is_minus o) i.0 in
    let l : suc (length k) < r = ltb-true _ _ j.0 in
    sound_at (ap (λ z. ts ++ (tok (what.Operator z) p ∷ [])) (sym (minus_is o j.1))) i.1 (wanting (frame.Neg p ∷ k) _ (neg p k ts s) (omega arith))
begin_sound {r = r} k ts p what.Open n s h e =
    let i = if_some_is (nat_lt (suc (length k)) r) _ n e in
    let l : suc (length k) < r = ltb-true _ _ i.0 in
    sound_at refl i.1 (wanting (frame.Bracket ∷ k) _ (bracket p k ts s) (omega arith))
begin_sound k ts p what.Close n s h e = close_empty_sound p n s e
begin_sound {r = r} k ts p what.Cast n s h e =
    let i = if_some_is (nat_lt (suc (length k)) r) _ n e in
    let l : suc (length k) < r = ltb-true _ _ i.0 in
    sound_at refl i.1 (cast_word p k ts s (omega arith))
begin_sound {r = r} k ts p what.Join n s h e = sound_at refl (if_some_is (nat_lt (length k) r) _ n e).1 (join_word p k ts s h)
begin_sound k ts p t n s h e = none_some _ e

join_link_sound : {r : ℕ} {all : List Spelled} (l : Link) (p : Place) (h : Held) (n : Mode) → Settled r (link_left l) all h → join_link r l p h ≡ Some n → Sound r (all ++ (tok (link_what l) p ∷ [])) n
join_link_sound {r = r} {all = all} l p h n s e =
    let i = if_some_is (nat_le (hole h.stack) (link_whole l) && nat_lt (h.weight + length h.stack) r) _ n e in
    let j = and_parts (nat_le (hole h.stack) (link_whole l)) (nat_lt (h.weight + length h.stack) r) i.0 in
    let m : h.weight + length h.stack < r = ltb-true _ _ j.1 in
    let y = heavy s.derives in
    let parts : s.front ++ (s.part ++ (tok (link_what l) p ∷ [])) ≡ all ++ (tok (link_what l) p ∷ []) = sym (append_assoc s.front s.part _) ∙ ap (λ x. x ++ (tok (link_what l) p ∷ [])) (sym s.parts) in
    sound_at parts i.1
    (wanting (frame.Binary l p h.tree h.weight ∷ h.stack) _
    (binary l p h.weight h.tree h.stack s.front s.part s.stands (down s.at (link_left l) s.left s.part h.weight h.tree s.derives) (leb-true _ _ j.0) (omega arith)) (omega arith))

close_at_sound : {r : ℕ} (k : List Frame) (ts us : List Spelled) (w : ℕ) (e : Expr) (q : Place) (n : Mode) → Stands r k ts → Derives g.whole us w e → w + length k ≤ r → close_at k e w ≡ Some n
    → Sound r ((ts ++ us) ++ (tok what.Close q ∷ [])) n
close_at_sound [] ts us w e q n s d m i = none_some _ i
close_at_sound (frame.Binary l p a v ∷ k) ts us w e q n s d m i = none_some _ i
close_at_sound (frame.Not p ∷ k) ts us w e q n s d m i = none_some _ i
close_at_sound (frame.Neg p ∷ k) ts us w e q n s d m i = none_some _ i
close_at_sound (frame.Bracket ∷ k) ts us w e q n s d m i =
    let c = shut q us w e s d m in
    sound_at (sym c.parts) (some_is i) (having k c.front c.part _ _ c.stands c.derives c.light)
close_at_sound (frame.Call p f v es ∷ k) ts us w e q n s d m i =
    let c = shut q us w e s d m in
    sound_at (sym c.parts) (some_is i) (having k c.front c.part _ _ c.stands c.derives c.light)
close_at_sound (frame.Cast p a v ∷ k) ts us w e q n s d m i =
    let c = shut q us w e s d m in
    sound_at (sym c.parts) (some_is i) (having k c.front c.part _ _ c.stands c.derives c.light)

comma_at_sound : {r : ℕ} {k : List Frame} {ts : List Spelled} (us : List Spelled) (w : ℕ) (e : Expr) (q : Place) (n : Mode) → Stands r k ts → Derives g.whole us w e → w + length k ≤ r → comma_at k e w ≡ Some n
    → Sound r ((ts ++ us) ++ (tok what.Comma q ∷ [])) n
comma_at_sound us w e q n bottom d m i = none_some _ i
comma_at_sound us w e q n (binary l p v a k ts vs s x h o) d m i = none_some _ i
comma_at_sound us w e q n (not p k ts s h) d m i = none_some _ i
comma_at_sound us w e q n (neg p k ts s) d m i = none_some _ i
comma_at_sound us w e q n (bracket p k ts s) d m i = none_some _ i
comma_at_sound us w e q n (cast p o t v a k ts vs s x l) d m i = none_some _ i
comma_at_sound {r = r} us w e q n (call p u v x j c es k ts vs ds s f a o) d m i =
    let y = heavy d in
    sound_at (simp append_assoc) (some_is i)
    (wanting (frame.Call p c (max x w) (es ++ (e ∷ [])) ∷ k) _
    (call p u (max v w) (max x w) (ap (λ z. max z w) j ∙ max_assoc u v w) c (es ++ (e ∷ [])) k ts vs (ds ++ (us ++ (tok what.Comma q ∷ []))) s f (next q ds us v w es e a d)
    (max_light x w (length k) r o m))
    (omega arith))

close_sound : {r : ℕ} {all : List Spelled} (h : Held) (q : Place) (n : Mode) → Settled r 1 all h → close_at h.stack h.tree h.weight ≡ Some n → Sound r (all ++ (tok what.Close q ∷ [])) n
close_sound h q n s i =
    sound_at (ap (λ x. x ++ (tok what.Close q ∷ [])) (sym s.parts)) refl (close_at_sound h.stack s.front s.part h.weight h.tree q n s.stands (down s.at 1 s.left s.part h.weight h.tree s.derives) s.light i)

comma_sound : {r : ℕ} {all : List Spelled} (h : Held) (q : Place) (n : Mode) → Settled r 1 all h → comma_at h.stack h.tree h.weight ≡ Some n → Sound r (all ++ (tok what.Comma q ∷ [])) n
comma_sound h q n s i =
    sound_at (ap (λ x. x ++ (tok what.Comma q ∷ [])) (sym s.parts)) refl (comma_at_sound s.part h.weight h.tree q n s.stands (down s.at 1 s.left s.part h.weight h.tree s.derives) s.light i)

go_on_sound : {r : ℕ} (k : List Frame) (ts us : List Spelled) (w : ℕ) (e : Expr) (p : Place) (t : What) (n : Mode) → Stands r k ts → Derives g.postfix us w e → hole k ≤ 8 → w + length k ≤ r → go_on r k e w p t ≡ Some n
    → Sound r ((ts ++ us) ++ (tok t p ∷ [])) n
go_on_sound {r = r} k ts us w e p what.Dot n s d h m i =
    let j = if_some_is (nat_lt (w + length k) r) _ n i in
    let l : w + length k < r = ltb-true _ _ j.0 in
    sound_at (sym (append_assoc ts us _)) j.1 (dotted p k ts us w e s d (omega arith))
go_on_sound {r = r} k ts us w e p what.Open n s d h m i =
    let j = if_some_is (nat_lt (w + length k) r) _ n i in
    let l : w + length k < r = ltb-true _ _ j.0 in
    let y = heavy d in
    sound_at (sym (append_assoc ts us _)) j.1 (wanting (frame.Call p e w [] ∷ k) _ (call p w 0 w (sym (max-zero w)) e [] k ts us [] s d start (omega arith)) (omega arith))
go_on_sound k ts us w e p what.Or n s d h m i = join_link_sound link.Or p _ n (settled 1 (omega arith) k ts us w e 8 s d (omega arith) h m) i
go_on_sound k ts us w e p what.And n s d h m i = join_link_sound link.And p _ n (settled 2 (omega arith) k ts us w e 8 s d (omega arith) h m) i
go_on_sound k ts us w e p (what.Operator o) n s d h m i =
    join_link_sound (link.Operator o) p _ n (settled (link_left (link.Operator o)) (left_some (link.Operator o)) k ts us w e 8 s d (left_small (link.Operator o)) h m) i
go_on_sound k ts us w e p what.Close n s d h m i = close_sound _ p n (settled 1 (omega arith) k ts us w e 8 s d (omega arith) h m) i
go_on_sound k ts us w e p what.Comma n s d h m i = comma_sound _ p n (settled 1 (omega arith) k ts us w e 8 s d (omega arith) h m) i
go_on_sound k ts us w e p t n s d h m i = none_some _ i

field_sound : {r : ℕ} (k : List Frame) (ts us : List Spelled) (w : ℕ) (e : Expr) (q p : Place) (t : What) (n : Mode) → Stands r k ts → Derives g.postfix us w e → suc w + length k ≤ r → field_at k e w p t ≡ Some n
    → Sound r ((ts ++ (us ++ (tok what.Dot q ∷ []))) ++ (tok t p ∷ [])) n
field_sound k ts us w e q p (what.Name x) n s d m i =
    sound_at (simp append_assoc) (some_is i) (having k ts (us ++ (tok what.Dot q ∷ tok (what.Name x) p ∷ [])) (suc w) _ s (g.attribute q p x us w e d) m)
field_sound k ts us w e q p t n s d m i = none_some _ i

cast_open_sound : {r : ℕ} (k : List Frame) (ts : List Spelled) (p q : Place) (t : What) (n : Mode) → Stands r k ts → suc (suc (length k)) ≤ r → cast_open p k t ≡ Some n
    → Sound r ((ts ++ (tok what.Cast p ∷ [])) ++ (tok t q ∷ [])) n
cast_open_sound {r = r} k ts p q what.Open n s h i = sound_at (simp append_assoc) (some_is i) (cast_in p q k ts [] (type_mode.Want []) s h (type_start_sound (inner_room r k) (omega arith)))
cast_open_sound k ts p q t n s h i = none_some _ i

cast_comma_sound : {r : ℕ} (k : List Frame) (ts us : List Spelled) (p q c : Place) (t : What) (o : Option Weighed) (n : Mode) → Stands r k ts → suc (suc (length k)) ≤ r
    → ((a : Weighed) → o ≡ Some a → DerivesType us a.weight a.ann × (a.weight ≤ inner_room r k)) → cast_comma p k o t ≡ Some n → Sound r ((ts ++ (tok what.Cast p ∷ tok what.Open q ∷ us)) ++ (tok t c ∷ [])) n
cast_comma_sound {r = r} k ts us p q c what.Comma (Some a) n s h f i =
    let d = f a refl in
    let l = d.1 in
    sound_at (simp append_assoc) (some_is i) (wanting (frame.Cast p a.ann a.weight ∷ k) _ (cast p q c a.weight a.ann k ts us s d.0 (omega arith)) h)
cast_comma_sound k ts us p q c t (Some a) n s h f i = none_some _ i
cast_comma_sound k ts us p q c t None n s h f i = none_some _ i

cast_type_sound : {r : ℕ} (k : List Frame) (ts us : List Spelled) (p q : Place) (m : TypeMode) (t : Spelled) (o : Option TypeMode) (n : Mode) → Stands r k ts → suc (suc (length k)) ≤ r
    → TypeSound (inner_room r k) us m → type_step (inner_room r k) m t ≡ o → cast_type p k (type_finish m) t.what o ≡ Some n → Sound r ((ts ++ (tok what.Cast p ∷ tok what.Open q ∷ us)) ++ (t ∷ [])) n
cast_type_sound k ts us p q m t (Some l) n s h x e i = sound_at (simp append_assoc) (some_is i) (cast_in p q k ts (us ++ (t ∷ [])) l s h (type_step_sound x t l e))
cast_type_sound k ts us p q m t None n s h x e i = cast_comma_sound k ts us p q t.place t.what (type_finish m) n s h (type_finish_sound x) i

join_open_sound : {r : ℕ} (k : List Frame) (ts : List Spelled) (p q : Place) (t : What) (n : Mode) → Stands r k ts → suc (length k) ≤ r → join_open p k t ≡ Some n
    → Sound r ((ts ++ (tok what.Join p ∷ [])) ++ (tok t q ∷ [])) n
join_open_sound k ts p q what.Open n s h i = sound_at (simp append_assoc) (some_is i) (join_opened p q k ts s h)
join_open_sound k ts p q t n s h i = none_some _ i

join_name_sound : {r : ℕ} (k : List Frame) (ts : List Spelled) (p q o : Place) (t : What) (n : Mode) → Stands r k ts → suc (length k) ≤ r → join_name p k o t ≡ Some n
    → Sound r ((ts ++ (tok what.Join p ∷ tok what.Open q ∷ [])) ++ (tok t o ∷ [])) n
join_name_sound k ts p q o (what.Name x) n s h i = sound_at (simp append_assoc) (some_is i) (join_named p q o x k ts s h)
join_name_sound k ts p q o t n s h i = none_some _ i

join_close_sound : {r : ℕ} (k : List Frame) (ts : List Spelled) (p q o c : Place) (x : List ℕ) (t : What) (n : Mode) → Stands r k ts → suc (length k) ≤ r → join_close p (word x o) k t ≡ Some n
    → Sound r ((ts ++ (tok what.Join p ∷ tok what.Open q ∷ tok (what.Name x) o ∷ [])) ++ (tok t c ∷ [])) n
join_close_sound k ts p q o c x what.Close n s h i =
    sound_at (simp append_assoc) (some_is i)
    (having k ts (tok what.Join p ∷ tok what.Open q ∷ tok (what.Name x) o ∷ tok what.Close c ∷ []) 1 _ s (g.postfix_atom _ _ _ (g.join p q o c x)) (omega arith))
join_close_sound k ts p q o c x t n s h i = none_some _ i

pub step_sound : {r : ℕ} {ts : List Spelled} {m : Mode} → Sound r ts m → (t : Spelled) (n : Mode) → step r m t ≡ Some n → Sound r (ts ++ (t ∷ [])) n
step_sound (wanting k ts s h) t n i = begin_sound k ts t.place t.what n s h i
step_sound (having k ts us w e s d m) t n i = go_on_sound k ts us w e t.place t.what n s d (omega (arith, hole_small k)) m i
step_sound (dotted q k ts us w e s d m) t n i = field_sound k ts us w e q t.place t.what n s d m i
step_sound (cast_word p k ts s h) t n i = cast_open_sound k ts p t.place t.what n s h i
step_sound (cast_in p q k ts us m s h x) t n i = cast_type_sound k ts us p q m t _ n s h x refl i
step_sound (join_word p k ts s h) t n i = join_open_sound k ts p t.place t.what n s h i
step_sound (join_opened p q k ts s h) t n i = join_name_sound k ts p q t.place t.what n s h i
step_sound (join_named p q o x k ts s h) t n i = join_close_sound k ts p q o t.place x t.what n s h i

whole_at_sound : {r : ℕ} (k : List Frame) (ts us : List Spelled) (w : ℕ) (x e : Expr) → Stands r k ts → Derives g.whole us w x → w + length k ≤ r → whole_at k x ≡ Some e → IsExpr r (ts ++ us) e
whole_at_sound {r = r} [] [] us w x e bottom d m i = subst (λ y. IsExpr r us y) (some_is i) (w, d, omega arith)
whole_at_sound [] (t ∷ ts) us w x e s d m i = elim s [ ]
whole_at_sound (f ∷ k) ts us w x e s d m i = none_some _ i

whole_sound : {r : ℕ} {all : List Spelled} (h : Held) (e : Expr) → Settled r 1 all h → whole_at h.stack h.tree ≡ Some e → IsExpr r all e
whole_sound {r = r} h e s i =
    subst (λ ts. IsExpr r ts e) (sym s.parts) (whole_at_sound h.stack s.front s.part h.weight h.tree e s.stands (down s.at 1 s.left s.part h.weight h.tree s.derives) s.light i)

-- what is found is in the grammar
pub finish_sound : {r : ℕ} {ts : List Spelled} {m : Mode} → Sound r ts m → (e : Expr) → finish m ≡ Some e → IsExpr r ts e
finish_sound (wanting k ts s h) e i = none_some _ i
finish_sound (having k ts us w x s d m) e i = whole_sound _ e (settled 1 (omega arith) k ts us w x 8 s d (omega arith) (omega (arith, hole_small k)) m) i
finish_sound (dotted q k ts us w x s d m) e i = none_some _ i
finish_sound (cast_word p k ts s h) e i = none_some _ i
finish_sound (cast_in p q k ts us m s h x) e i = none_some _ i
finish_sound (join_word p k ts s h) e i = none_some _ i
finish_sound (join_opened p q k ts s h) e i = none_some _ i
finish_sound (join_named p q o x k ts s h) e i = none_some _ i

begins_less : {r : ℕ} (ts us : List Spelled) → BeginsTree (IsExpr r) (ts ++ us) → BeginsTree (IsExpr r) ts
begins_less {r = r} ts us b = (us ++ b.0, b.1, subst (λ xs. IsExpr r xs b.1) (append_assoc ts us b.0) b.2)

-- a postfix in its place
plug_postfix : {r : ℕ} {k : List Frame} {ts : List Spelled} (us : List Spelled) (w : ℕ) (e : Expr) → Stands r k ts → Derives g.postfix us w e → w + length k ≤ r → BeginsTree (IsExpr r) (ts ++ us)
plug_postfix {k = k} {ts = ts} us w e s d m = plug k ts us w e s (down 8 (hole k) (omega (arith, hole_small k)) us w e d) m

-- tokens that a postfix completes
begins_at : {r : ℕ} {k : List Frame} {ts : List Spelled} (done more us : List Spelled) (w : ℕ) (e : Expr) → Stands r k ts → Derives g.postfix us w e → w + length k ≤ r → ts ++ us ≡ done ++ more
    → BeginsTree (IsExpr r) done
begins_at {r = r} done more us w e s d m q = begins_less done more (subst (λ xs. BeginsTree (IsExpr r) xs) q (plug_postfix us w e s d m))

-- a cast whose type was read
cast_viable : {r : ℕ} {k : List Frame} {ts : List Spelled} (p q : Place) (us vs : List Spelled) (v : ℕ) (a : Ann) → Stands r k ts → suc (suc (length k)) ≤ r → DerivesType (us ++ vs) v a → v ≤ inner_room r k
    → BeginsTree (IsExpr r) (ts ++ (tok what.Cast p ∷ tok what.Open q ∷ us))
cast_viable {r = r} {k = k} {ts = ts} p q us vs v a s h d l =
    let z = somewhere in
    let rest : List Spelled = tok what.Comma z ∷ tok (what.Name []) z ∷ tok what.Close z ∷ [] in
    let name = down 9 1 (omega arith) (tok (what.Name []) z ∷ []) 1 (tree.local (word [] z)) (g.name z []) in
    begins_at (ts ++ (tok what.Cast p ∷ tok what.Open q ∷ us)) (vs ++ rest) (tok what.Cast p ∷ tok what.Open q ∷ ((us ++ vs) ++ rest)) (suc (max v 1)) _ s
    (g.postfix_atom _ _ _ (g.cast p q z z (us ++ vs) (tok (what.Name []) z ∷ []) v 1 a _ d name)) (max_light v 1 (length k) r (omega arith) (omega arith)) (simp append_assoc)

join_viable : {r : ℕ} {k : List Frame} {ts : List Spelled} (done more : List Spelled) (p q o c : Place) (x : List ℕ) → Stands r k ts → suc (length k) ≤ r
    → ts ++ (tok what.Join p ∷ tok what.Open q ∷ tok (what.Name x) o ∷ tok what.Close c ∷ []) ≡ done ++ more → BeginsTree (IsExpr r) done
join_viable done more p q o c x s h e =
    begins_at done more (tok what.Join p ∷ tok what.Open q ∷ tok (what.Name x) o ∷ tok what.Close c ∷ []) 1 _ s (g.postfix_atom _ _ _ (g.join p q o c x)) (omega arith) e

-- each state has a completion
pub viable : {r : ℕ} {ts : List Spelled} {m : Mode} → Sound r ts m → BeginsTree (IsExpr r) ts
viable (wanting k ts s h) = begins_at ts _ (tok (what.Name []) somewhere ∷ []) 1 _ s (g.postfix_atom _ _ _ (g.name somewhere [])) (omega arith) refl
viable (having k ts us w e s d m) = plug_postfix us w e s d m
viable (dotted p k ts us w e s d m) =
    let z = somewhere in
    begins_at (ts ++ (us ++ (tok what.Dot p ∷ []))) (tok (what.Name []) z ∷ []) (us ++ (tok what.Dot p ∷ tok (what.Name []) z ∷ [])) (suc w) _ s (g.attribute p z [] us w e d) m (simp append_assoc)
viable {r = r} (cast_word p k ts s h) =
    let c = type_viable (type_start_sound (inner_room r k) (omega arith)) in
    let b = cast_viable p somewhere [] c.more c.weight c.ann s h c.derives c.light in
    begins_less (ts ++ (tok what.Cast p ∷ [])) (tok what.Open somewhere ∷ []) (subst (λ xs. BeginsTree (IsExpr r) xs) (simp append_assoc) b)
viable (cast_in p q k ts us m s h x) = let c = type_viable x in cast_viable p q us c.more c.weight c.ann s h c.derives c.light
viable (join_word p k ts s h) =
    let z = somewhere in
    join_viable (ts ++ (tok what.Join p ∷ [])) (tok what.Open z ∷ tok (what.Name []) z ∷ tok what.Close z ∷ []) p z z z [] s h (simp append_assoc)
viable (join_opened p q k ts s h) =
    let z = somewhere in
    join_viable (ts ++ (tok what.Join p ∷ tok what.Open q ∷ [])) (tok (what.Name []) z ∷ tok what.Close z ∷ []) p q z z [] s h (simp append_assoc)
viable (join_named p q o x k ts s h) =
    let z = somewhere in
    join_viable (ts ++ (tok what.Join p ∷ tok what.Open q ∷ tok (what.Name x) o ∷ [])) (tok what.Close z ∷ []) p q o z x s h (simp append_assoc)

pub sound_start : (r : ℕ) → 1 ≤ r → Sound r [] (mode.Want [])
sound_start r h = wanting [] [] bottom h

pub goes_sound : {r : ℕ} {done ts : List Spelled} {m n : Mode} → Sound r done m → Goes (step r) m ts n → Sound r (done ++ ts) n
goes_sound {r = r} {done = done} {m = m} x (stay s) = subst (λ xs. Sound r xs m) (sym (append-nil done)) x
goes_sound {r = r} {done = done} {n = n} x (go s l m t ts e a) = subst (λ xs. Sound r xs n) (append_assoc done (t ∷ []) ts) (goes_sound (step_sound x t l e) a)
