-- The loops over the tokens of a text.
use Rattle.std.proofs.Common.{ℕ, zero, suc, ◌+◌, ◌-◌, ◌<◌, ◌≤◌, ◌≡◌, inl, inr, List, [], ◌∷◌, ◌++◌, length, take, drop, map, get_or, slice_get, Option, Some, None, Result, Ok, Err, IfOk, IfErr, arith, refl, ap, sym, ◌∙◌, subst}
use Rattle.std.proofs.lemmas.List.{length-drop, drop-drop, drop-map, take-map, map-append, length-map, length-append, drop_more, take_more, get_or-drop, get_or_push}
use Rattle.std.proofs.lemmas.Option.{slice_get-get_or}
use Rattle.std.proofs.lemmas.Bool.{cases_lt}
use Rattle.mono_syntax.specs.declared.refusal.Reason.TheVariants.{Syntax}
use Rattle.mono_syntax.specs.declared.leaf.Place.{Place}
use Rattle.mono_syntax.specs.Ann.{Ann}
use Rattle.mono_syntax.specs.Expr.{Expr}
use Rattle.py_lexer.specs.declared.token.Token.{Token}
use Rattle.py_lexer.specs.declared.token.TokenKind.TheVariants.{End}
use Rattle.py_lexer.specs.Lexes.{Lexes}
use Rattle.spelled_tokens.specs.declared.token.Spelled.{Spelled}
use Rattle.spelled_tokens.specs.declared.token.What.TheVariants as what
use Rattle.spelled_tokens.specs.declared.token.Mark.TheVariants as mark
use Rattle.spelled_tokens.specs.SpelledTokens.{spell, all_spelled, what_when}
use Rattle.spelled_tokens.specs.Spelling.{spelling, inside}
use Rattle.spelled_tokens.proofs.LastToken.{last_is_end}
use Rattle.parse_expr.specs.declared.machine.Mode.{Mode}
use Rattle.parse_expr.specs.declared.machine.Mode.TheVariants as mode
use Rattle.parse_expr.specs.declared.machine.Frame.{Frame}
use Rattle.parse_expr.specs.declared.machine.TypeMode.{TypeMode}
use Rattle.parse_expr.specs.declared.machine.TypeMode.TheVariants as type_mode
use Rattle.parse_expr.specs.declared.machine.Weighed.{Weighed}
use Rattle.parse_expr.specs.declared.machine.Next.TheVariants as next
use Rattle.parse_expr.specs.declared.machine.TypeNext.TheVariants as type_next
use Rattle.parse_expr.specs.computed.TypeReading as reading
use Rattle.parse_expr.specs.computed.Goes.{Goes, stay, go}
use Rattle.parse_expr.specs.Stretches.{MayBegin, IsRead, IsRefusedBehind}
use Rattle.parse_expr.specs.Types.{IsType}
use Rattle.parse_expr.specs.Grammar.{IsExpr}
use Rattle.parse_expr.specs.computed.TypeReading.{type_step, type_finish, type_tree}
use Rattle.parse_expr.specs.computed.Reading.{step, finish, next_of, cast_type, cast_comma}
use Rattle.parse_expr.proofs.Goes.{then, none_some, some_is}
use Rattle.parse_expr.proofs.Exact.{Reads, StopsAt, stretch, no_tree}
use Rattle.parse_expr.proofs.TypeRuns.{type_start, types_at_zero, type_finish_is, type_complete}
use Rattle.parse_expr.proofs.ExprRuns.{start, exprs_at_zero}
use Rattle.parse_expr.proofs.Readings.{type_alive, expr_goes, expr_sound, expr_alive}

-- the tokens read so far
abbrev pub so_far : List ℕ → List Token → ℕ → ℕ → List Spelled
so_far text ts from at = take (at - from) (drop from (all_spelled text ts))

read_are : (text : List ℕ) (ts : List Token) (from n : ℕ) → take n (drop from (all_spelled text ts)) ≡ map (spell text) (take n (drop from ts))
read_are text ts from n = ap (take n) (drop-map (spell text) from ts) ∙ take-map (spell text) n (drop from ts)

-- one token more
so_far_more : (text : List ℕ) (ts : List Token) (from at : ℕ) (d : Token) → from ≤ at → at < length ts → so_far text ts from (at + 1) ≡ so_far text ts from at ++ (spell text (get_or ts at d) ∷ [])
so_far_more text ts from at d h k =
    let i : at + 1 - from ≡ at - from + 1 = omega arith in
    let j : from + (at - from) ≡ at = omega arith in
    let l : at - from < length (drop from ts) = omega (arith, length-drop from ts) in
    let x : take (at - from + 1) (drop from ts) ≡ take (at - from) (drop from ts) ++ (get_or ts at d ∷ []) =
    take_more (drop from ts) (at - from) d l ∙ ap (λ t. take (at - from) (drop from ts) ++ (t ∷ [])) (get_or-drop from ts (at - from) d ∙ ap (λ z. get_or ts z d) j) in
    ap (λ z. take z (drop from (all_spelled text ts))) i ∙ read_are text ts from (at - from + 1) ∙ ap (map (spell text)) x
    ∙ map-append (spell text) (take (at - from) (drop from ts)) (get_or ts at d ∷ []) ∙ ap (λ z. z ++ (spell text (get_or ts at d) ∷ [])) (sym (read_are text ts from (at - from)))

-- the tokens that are left begin with the one at the position
left_is : (text : List ℕ) (ts : List Token) (from at : ℕ) (d : Token) → from ≤ at → at < length ts
    → drop (at - from) (drop from (all_spelled text ts)) ≡ spell text (get_or ts at d) ∷ map (spell text) (drop (at + 1) ts)
left_is text ts from at d h k =
    let i : from + (at - from) ≡ at = omega arith in
    drop-drop (at - from) from (all_spelled text ts) ∙ ap (λ z. drop z (all_spelled text ts)) i ∙ drop-map (spell text) at ts ∙ ap (map (spell text)) (drop_more ts at d k)

cons_head : {x y : Spelled} {xs ys : List Spelled} → ◌≡◌ {A = List Spelled} (x ∷ xs) (y ∷ ys) → x ≡ y
cons_head e = cc

-- the token of the last position is the end
last_ends : (cs : List ℕ) (ts : List Token) (at : ℕ) (d : Token) → Lexes cs ts → at < length ts → length ts ≤ at + 1 → (get_or ts at d).what ≡ End
last_ends cs ts at d x h k =
    let e = last_is_end cs ts x in
    let n : length ts ≡ length e.0 + 1 = ap length e.2 ∙ length-append e.0 (e.1 ∷ []) in
    ap (λ t. t.what) (ap (λ zs. get_or zs at d) e.2 ∙ get_or_push e.0 e.1 d at (omega arith)) ∙ e.3

spelled_end : (text : List ℕ) (t : Token) → t.what ≡ End → (spell text t).what ≡ what.Mark mark.End
spelled_end text t e = ap (λ k. what_when k (spelling text t) (inside text t)) e

module _ {S A : Type 0} (step : S → Spelled → Option S) (finish : S → Option A) (start : S) (Is : List Spelled → A → Type 0) (reads : Reads step finish start Is) where
  pub run_start : (text : List ℕ) (ts : List Token) (from : ℕ) → Goes step start (so_far text ts from from) start
  run_start text ts from = let e : from - from ≡ 0 = omega arith in subst (λ n. Goes step start (take n (drop from (all_spelled text ts))) start) (sym e) (stay start)

  pub run_more : (text : List ℕ) (ts : List Token) (from at : ℕ) (d : Token) (m n : S) → from ≤ at → at < length ts → Goes step start (so_far text ts from at) m
      → step m (spell text (get_or ts at d)) ≡ Some n → Goes step start (so_far text ts from (at + 1)) n
  run_more text ts from at d m n h k a e =
      subst (λ xs. Goes step start xs n) (sym (so_far_more text ts from at d h k)) (then step start m n (so_far text ts from at) (spell text (get_or ts at d) ∷ []) a (go m n n _ [] e (stay n)))

  -- behind a token that was read stands another
  pub more_left : (cs text : List ℕ) (ts : List Token) (at : ℕ) (d : Token) (m n : S) → Lexes cs ts → at < length ts → step m (spell text (get_or ts at d)) ≡ Some n → at + 1 < length ts
  more_left cs text ts at d m n x k e =
      elim (cases_lt (at + 1) (length ts)) [
        | inl h ↦ h
        | inr h ↦ none_some _ (sym (reads.ends m (spell text (get_or ts at d)) (spelled_end text (get_or ts at d) (last_ends cs ts at d x k h))) ∙ e)
      ]

  stops : (text : List ℕ) (ts : List Token) (from at : ℕ) (d : Token) (m : S) → from ≤ at → at < length ts → Goes step start (so_far text ts from at) m
      → step m (spell text (get_or ts at d)) ≡ None → StopsAt step start (drop from (all_spelled text ts)) (at - from) m
  stops text ts from at d m h k a e =
      record {
        within = omega (arith, length-drop from (all_spelled text ts), length-map ts (spell text));
        goes = a;
        stuck = λ t more q. ap (step m) (cons_head (sym q ∙ left_is text ts from at d h k)) ∙ e;
      }

  pub accepted : (text : List ℕ) (ts : List Token) (from at : ℕ) (d : Token) (m : S) (a : A) → from ≤ at → at < length ts → Goes step start (so_far text ts from at) m
      → step m (spell text (get_or ts at d)) ≡ None → finish m ≡ Some a → IsRead Is text ts from a at
  accepted text ts from at d m a h k g e f =
      record {
        long = at - from;
        ends = omega arith;
        stretch = stretch step finish start Is reads (drop from (all_spelled text ts)) (at - from) m (stops text ts from at d m h k g e);
        tree = reads.sound (so_far text ts from at) m a g f;
      }

  pub refused : (text : List ℕ) (ts : List Token) (from at : ℕ) (d : Token) (m : S) → from ≤ at → at < length ts → Goes step start (so_far text ts from at) m
      → step m (spell text (get_or ts at d)) ≡ None → finish m ≡ None → IsRefusedBehind Is text ts from (record { place = (get_or ts at d).place; reason = Syntax })
  refused text ts from at d m h k g e f =
      let i : from + (at - from) ≡ at = omega arith in
      let s = stops text ts from at d m h k g e in
      record {
        long = at - from;
        token = get_or ts at d;
        behind = ap (slice_get ts) i ∙ slice_get-get_or ts at d k;
        stretch = stretch step finish start Is reads (drop from (all_spelled text ts)) (at - from) m s;
        no_tree = no_tree step finish start Is reads (drop from (all_spelled text ts)) (at - from) m s f;
        refusal = refl;
      }

-- ---- the two machines

end_stops_type : (r : ℕ) (m : TypeMode) (t : Spelled) → t.what ≡ what.Mark mark.End → type_step r m t ≡ None
end_stops_type r (type_mode.Want k) t e = rw e refl
end_stops_type r (type_mode.Outer p k) t e = rw e refl
end_stops_type r (type_mode.Inner p k) t e = rw e refl
end_stops_type r (type_mode.First p k) t e = rw e refl
end_stops_type r (type_mode.Between p xs v k) t e = rw e refl
end_stops_type r (type_mode.Have k a w) t e = rw e refl

end_stops_cast : (p : Place) (k : List Frame) (o : Option Weighed) → cast_comma p k o (what.Mark mark.End) ≡ None
end_stops_cast p k (Some a) = refl
end_stops_cast p k None = refl

end_stops : (r : ℕ) (m : Mode) (t : Spelled) → t.what ≡ what.Mark mark.End → step r m t ≡ None
end_stops r (mode.Want k) t e = rw e refl
end_stops r (mode.Have h) t e = rw e refl
end_stops r (mode.Dotted h) t e = rw e refl
end_stops r (mode.CastWord p k) t e = rw e refl
end_stops r (mode.CastType p k m) t e = ap (cast_type p k (type_finish m) t.what) (end_stops_type _ m t e) ∙ ap (cast_comma p k (type_finish m)) e ∙ end_stops_cast p k (type_finish m)
end_stops r (mode.JoinWord p k) t e = rw e refl
end_stops r (mode.JoinOpen p k) t e = rw e refl
end_stops r (mode.JoinName p x k) t e = rw e refl

abbrev pub type_ended : TypeMode → Option Ann
type_ended m = type_tree (type_finish m)

weighed_is : (o : Option Weighed) (a : Ann) → type_tree o ≡ Some a → (x : Weighed) × (o ≡ Some x) × (x.ann ≡ a)
weighed_is None a e = none_some _ e
weighed_is (Some x) a e = (x, refl, some_is e)

types_begin : (r : ℕ) (ts : List Spelled) (m : TypeMode) → Goes (type_step r) type_start ts m → MayBegin (IsType r) ts
types_begin zero ts m a = inl (types_at_zero ts m a).0
types_begin (suc r) ts m a =
    let b = type_alive (suc r) (omega arith) ts m a in
    inr (b.0, b.1, type_finish_is (suc r) (ts ++ b.0) _ (record { ann = b.1; weight = b.2 }) (then (type_step (suc r)) type_start m _ ts b.0 a b.3) refl)

pub reads_types : (r : ℕ) → Reads (type_step r) type_ended type_start (IsType r)
reads_types r =
    record {
      complete = type_complete r;
      sound = λ ts m a g e. let w = weighed_is (type_finish m) a e in subst (IsType r ts) w.2 (type_finish_is r ts m w.0 g w.1);
      begins = types_begin r;
      ends = end_stops_type r;
    }

exprs_begin : (r : ℕ) (ts : List Spelled) (m : Mode) → Goes (step r) start ts m → MayBegin (IsExpr r) ts
exprs_begin zero ts m a = inl (exprs_at_zero ts m a).0
exprs_begin (suc r) ts m a =
    let b = expr_alive (suc r) (omega arith) ts m a in
    inr (b.0, b.2, expr_sound (suc r) (omega arith) (ts ++ b.0) b.1 b.2 (then (step (suc r)) start m b.1 ts b.0 a b.3) b.4)

exprs_sound : (r : ℕ) (ts : List Spelled) (m : Mode) (e : Expr) → Goes (step r) start ts m → finish m ≡ Some e → IsExpr r ts e
exprs_sound zero ts m e a i = none_some _ (ap finish (sym (exprs_at_zero ts m a).1) ∙ i)
exprs_sound (suc r) ts m e a i = expr_sound (suc r) (omega arith) ts m e a i

pub reads_exprs : (r : ℕ) → Reads (step r) finish start (IsExpr r)
reads_exprs r = record { complete = expr_goes r; sound = exprs_sound r; begins = exprs_begin r; ends = end_stops r }

-- ---- what the code's answers say

pub if_ok : {A E : Type 0} {P Q : A → Type 0} (r : Result A E) → ((a : A) → P a → Q a) → IfOk r P → IfOk r Q
if_ok (Ok a) f p = f a p
if_ok (Err e) f p = tt

pub if_err : {A E : Type 0} {P Q : E → Type 0} (r : Result A E) → ((e : E) → P e → Q e) → IfErr r P → IfErr r Q
if_err (Ok a) f p = tt
if_err (Err e) f p = f e p

pub go_is : (o : Option Mode) (f : Option Expr) (m : Mode) → next.Go m ≡ next_of o f → o ≡ Some m
go_is None f m e = absurd (no e)
  where
    no : next.Go m ≡ next.Stop f → ⊥
    no e = cc
go_is (Some n) f m e = ap Some (is (sym e))
  where
    is : next.Go n ≡ next.Go m → n ≡ m
    is e = cc

pub stop_is : (o : Option Mode) (f x : Option Expr) → next.Stop x ≡ next_of o f → (o ≡ None) × (x ≡ f)
stop_is None f x e = (refl, is e)
  where
    is : next.Stop x ≡ next.Stop f → x ≡ f
    is e = cc
stop_is (Some n) f x e = absurd (no e)
  where
    no : next.Stop x ≡ next.Go n → ⊥
    no e = cc

pub expr_more : (r : ℕ) (cs text : List ℕ) (ts : List Token) (from at : ℕ) (d : Token) (m n : Mode) (t : Spelled) → Lexes cs ts → from ≤ at → at < length ts
    → Goes (step r) (mode.Want []) (so_far text ts from at) m → t ≡ spell text (get_or ts at d) → next.Go n ≡ next_of (step r m t) (finish m)
    → (at + 1 < length ts) × Goes (step r) (mode.Want []) (so_far text ts from (at + 1)) n
expr_more r cs text ts from at d m n t x h k g i q =
    let e = ap (step r m) (sym i) ∙ go_is (step r m t) (finish m) n q in
    (more_left (step r) finish start (IsExpr r) (reads_exprs r) cs text ts at d m n x k e, run_more (step r) finish start (IsExpr r) (reads_exprs r) text ts from at d m n h k g e)

pub expr_accepted : (r : ℕ) (text : List ℕ) (ts : List Token) (from at : ℕ) (d : Token) (m : Mode) (t : Spelled) (o : Option Expr) (e : Expr) → from ≤ at → at < length ts
    → Goes (step r) (mode.Want []) (so_far text ts from at) m → t ≡ spell text (get_or ts at d) → next.Stop o ≡ next_of (step r m t) (finish m) → o ≡ Some e → IsRead (IsExpr r) text ts from e at
expr_accepted r text ts from at d m t o e h k g i q j =
    let s = stop_is (step r m t) (finish m) o q in
    accepted (step r) finish start (IsExpr r) (reads_exprs r) text ts from at d m e h k g (ap (step r m) (sym i) ∙ s.0) (sym s.1 ∙ j)

pub expr_refused : (r : ℕ) (text : List ℕ) (ts : List Token) (from at : ℕ) (d : Token) (m : Mode) (t : Spelled) (o : Option Expr) → from ≤ at → at < length ts
    → Goes (step r) (mode.Want []) (so_far text ts from at) m → t ≡ spell text (get_or ts at d) → next.Stop o ≡ next_of (step r m t) (finish m) → o ≡ None
    → IsRefusedBehind (IsExpr r) text ts from (record { place = (get_or ts at d).place; reason = Syntax })
expr_refused r text ts from at d m t o h k g i q j =
    let s = stop_is (step r m t) (finish m) o q in
    refused (step r) finish start (IsExpr r) (reads_exprs r) text ts from at d m h k g (ap (step r m) (sym i) ∙ s.0) (sym s.1 ∙ j)

pub type_go_is : (o : Option TypeMode) (f : Option Weighed) (m : TypeMode) → type_next.Go m ≡ reading.type_next o f → o ≡ Some m
type_go_is None f m e = absurd (no e)
  where
    no : type_next.Go m ≡ type_next.Stop f → ⊥
    no e = cc
type_go_is (Some n) f m e = ap Some (is (sym e))
  where
    is : type_next.Go n ≡ type_next.Go m → n ≡ m
    is e = cc

pub type_stop_is : (o : Option TypeMode) (f x : Option Weighed) → type_next.Stop x ≡ reading.type_next o f → (o ≡ None) × (x ≡ f)
type_stop_is None f x e = (refl, is e)
  where
    is : type_next.Stop x ≡ type_next.Stop f → x ≡ f
    is e = cc
type_stop_is (Some n) f x e = absurd (no e)
  where
    no : type_next.Stop x ≡ type_next.Go n → ⊥
    no e = cc

pub type_more : (r : ℕ) (cs text : List ℕ) (ts : List Token) (from at : ℕ) (d : Token) (m n : TypeMode) (t : Spelled) → Lexes cs ts → from ≤ at → at < length ts
    → Goes (type_step r) (type_mode.Want []) (so_far text ts from at) m → t ≡ spell text (get_or ts at d) → type_next.Go n ≡ reading.type_next (type_step r m t) (type_finish m)
    → (at + 1 < length ts) × Goes (type_step r) (type_mode.Want []) (so_far text ts from (at + 1)) n
type_more r cs text ts from at d m n t x h k g i q =
    let e = ap (type_step r m) (sym i) ∙ type_go_is (type_step r m t) (type_finish m) n q in (
      more_left (type_step r) type_ended type_start (IsType r) (reads_types r) cs text ts at d m n x k e,
      run_more (type_step r) type_ended type_start (IsType r) (reads_types r) text ts from at d m n h k g e,
    )

pub type_accepted : (r : ℕ) (text : List ℕ) (ts : List Token) (from at : ℕ) (d : Token) (m : TypeMode) (t : Spelled) (o : Option Weighed) (a : Ann) → from ≤ at → at < length ts
    → Goes (type_step r) (type_mode.Want []) (so_far text ts from at) m → t ≡ spell text (get_or ts at d) → type_next.Stop o ≡ reading.type_next (type_step r m t) (type_finish m)
    → type_tree o ≡ Some a → IsRead (IsType r) text ts from a at
type_accepted r text ts from at d m t o a h k g i q j =
    let s = type_stop_is (type_step r m t) (type_finish m) o q in
    accepted (type_step r) type_ended type_start (IsType r) (reads_types r) text ts from at d m a h k g (ap (type_step r m) (sym i) ∙ s.0) (ap type_tree (sym s.1) ∙ j)

pub type_refused : (r : ℕ) (text : List ℕ) (ts : List Token) (from at : ℕ) (d : Token) (m : TypeMode) (t : Spelled) (o : Option Weighed) → from ≤ at → at < length ts
    → Goes (type_step r) (type_mode.Want []) (so_far text ts from at) m → t ≡ spell text (get_or ts at d) → type_next.Stop o ≡ reading.type_next (type_step r m t) (type_finish m)
    → type_tree o ≡ None → IsRefusedBehind (IsType r) text ts from (record { place = (get_or ts at d).place; reason = Syntax })
type_refused r text ts from at d m t o h k g i q j =
    let s = type_stop_is (type_step r m t) (type_finish m) o q in
    refused (type_step r) type_ended type_start (IsType r) (reads_types r) text ts from at d m h k g (ap (type_step r m) (sym i) ∙ s.0) (ap type_tree (sym s.1) ∙ j)
