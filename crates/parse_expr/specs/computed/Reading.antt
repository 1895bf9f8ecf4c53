-- computed: what the code of `step` and `finish` computes, which reads an expression one token at a time. The grammar is in Grammar.
use Rattle.std.specs.Prelude.{◌≡◌, ℕ, suc, ◌+◌, ◌-◌, ◌<◌, ◌≤◌, max, Bool, true, false, ◌&&◌, List, [], ◌∷◌, ◌++◌, length, Option, Some, None, nat_lt, nat_le, if◌then◌else◌}
use Rattle.mono_syntax.specs.Limits.{greatest_weight}
use Rattle.mono_syntax.specs.declared.leaf.Op.{Op}
use Rattle.mono_syntax.specs.declared.leaf.Op.TheVariants as op
use Rattle.mono_syntax.specs.declared.leaf.Place.{Place}
use Rattle.mono_syntax.specs.declared.leaf.Word.{Word}
use Rattle.mono_syntax.specs.Expr as expr
use Rattle.mono_syntax.specs.Expr.{Expr}
use Rattle.mono_syntax.specs.ExprView.{exprs}
use Rattle.spelled_tokens.specs.declared.token.Spelled.{Spelled}
use Rattle.spelled_tokens.specs.declared.token.What.{What}
use Rattle.spelled_tokens.specs.declared.token.What.TheVariants as what
use Rattle.parse_expr.specs.declared.machine.Link.{Link}
use Rattle.parse_expr.specs.declared.machine.Link.TheVariants as link
use Rattle.parse_expr.specs.declared.machine.Frame.{Frame}
use Rattle.parse_expr.specs.declared.machine.Frame.TheVariants as frame
use Rattle.parse_expr.specs.declared.machine.Held.{Held}
use Rattle.parse_expr.specs.declared.machine.Next.{Next}
use Rattle.parse_expr.specs.declared.machine.Next.TheVariants as next
use Rattle.parse_expr.specs.declared.machine.Mode.{Mode}
use Rattle.parse_expr.specs.declared.machine.Mode.TheVariants as mode
use Rattle.parse_expr.specs.declared.machine.TypeMode.{TypeMode}
use Rattle.parse_expr.specs.declared.machine.TypeMode.TheVariants as type_mode
use Rattle.parse_expr.specs.declared.machine.TypeNext.{TypeNext}
use Rattle.parse_expr.specs.declared.machine.TypeNext.TheVariants as type_next
use Rattle.parse_expr.specs.declared.machine.Weighed.{Weighed}
use Rattle.parse_expr.specs.Types.{word}
use Rattle.parse_expr.specs.Precedence.{op_left, op_whole, op_right}
use Rattle.parse_expr.specs.computed.TypeReading.{type_step, type_finish, IsLightType}

-- the level of an operator's left part, of the whole, of its right part
abbrev pub link_left : Link → ℕ
link_left link.Or = 1
link_left link.And = 2
link_left (link.Operator o) = op_left o

abbrev pub link_whole : Link → ℕ
link_whole link.Or = 1
link_whole link.And = 2
link_whole (link.Operator o) = op_whole o

abbrev pub link_right : Link → ℕ
link_right link.Or = 2
link_right link.And = 3
link_right (link.Operator o) = op_right o

abbrev pub link_tree : Link → Place → Expr → Expr → Expr
link_tree link.Or p a b = expr.either a b
link_tree link.And p a b = expr.both a b
link_tree (link.Operator o) p a b = expr.binary o p a b

-- the level of the whole that a frame makes; 0 where a bracket has to close it
abbrev pub level : Frame → ℕ
level (frame.Binary l p a v) = link_whole l
level (frame.Not p) = 3
level (frame.Neg p) = 7
level frame.Bracket = 0
level (frame.Call p c v es) = 0
level (frame.Cast p a v) = 0

-- the level of the part that a frame waits for
abbrev pub hole_of : Frame → ℕ
hole_of (frame.Binary l p a v) = link_right l
hole_of (frame.Not p) = 3
hole_of (frame.Neg p) = 7
hole_of frame.Bracket = 1
hole_of (frame.Call p c v es) = 1
hole_of (frame.Cast p a v) = 1

abbrev pub hole : List Frame → ℕ
hole [] = 1
hole (f ∷ k) = hole_of f

-- what a frame makes of a part, and its weight
abbrev pub join : Frame → Expr → Expr
join (frame.Binary l p a v) e = link_tree l p a e
join (frame.Not p) e = expr.negation p e
join (frame.Neg p) e = expr.neg p e
join frame.Bracket e = e
join (frame.Call p c v es) e = expr.call p c (exprs (es ++ (e ∷ [])))
join (frame.Cast p a v) e = expr.cast p a e

abbrev pub weigh : Frame → ℕ → ℕ
weigh (frame.Binary l p a v) w = suc (max v w)
weigh (frame.Not p) w = suc w
weigh (frame.Neg p) w = suc w
weigh frame.Bracket w = suc w
weigh (frame.Call p c v es) w = suc (max v w)
weigh (frame.Cast p a v) w = suc (max v w)

abbrev pub held : List Frame → Expr → ℕ → Held
held k e w = record { stack = k; tree = e; weight = w }

-- the frames that a token whose left part is of this level closes
abbrev pub settle : ℕ → List Frame → Expr → ℕ → Held
settle l [] e w = held [] e w
settle l (f ∷ k) e w = if nat_le l (level f) then settle l k (join f e) (weigh f w) else held (f ∷ k) e w

-- where a part is wanted
abbrev pub close_empty : List Frame → Option Mode
close_empty (frame.Call p c v es ∷ k) = Some (mode.Have (held k (expr.call p c (exprs es)) (suc v)))
close_empty _ = None

abbrev pub is_minus : Op → Bool
is_minus op.Sub = true
is_minus _ = false

abbrev pub if_some : Bool → Mode → Option Mode
if_some true m = Some m
if_some false m = None

abbrev pub begin : ℕ → List Frame → Place → What → Option Mode
begin r k p (what.Name x) = if_some (nat_lt (length k) r) (mode.Have (held k (expr.local (word x p)) 1))
begin r k p (what.Number n) = if_some (nat_lt (length k) r) (mode.Have (held k (expr.number p n) 1))
begin r k p (what.Text t) = if_some (nat_lt (length k) r) (mode.Have (held k (expr.text p t) 1))
begin r k p (what.Bool b) = if_some (nat_lt (length k) r) (mode.Have (held k (expr.truth p b) 1))
begin r k p what.Nil = if_some (nat_lt (length k) r) (mode.Have (held k (expr.nil p) 1))
begin r k p what.Not = if_some (nat_lt (suc (length k)) r && nat_le (hole k) 3) (mode.Want (frame.Not p ∷ k))
begin r k p (what.Operator o) = if_some (nat_lt (suc (length k)) r && is_minus o) (mode.Want (frame.Neg p ∷ k))
begin r k p what.Open = if_some (nat_lt (suc (length k)) r) (mode.Want (frame.Bracket ∷ k))
begin r k p what.Close = close_empty k
begin r k p what.Cast = if_some (nat_lt (suc (length k)) r) (mode.CastWord p k)
begin r k p what.Join = if_some (nat_lt (length k) r) (mode.JoinWord p k)
begin r k p _ = None

-- where a part was read
abbrev pub join_link : ℕ → Link → Place → Held → Option Mode
join_link r l p h =
    if_some (nat_le (hole h.stack) (link_whole l) && nat_lt (h.weight + length h.stack) r) (mode.Want (frame.Binary l p h.tree h.weight ∷ h.stack))

abbrev pub close_at : List Frame → Expr → ℕ → Option Mode
close_at (frame.Bracket ∷ k) e w = Some (mode.Have (held k e (suc w)))
close_at (frame.Call p c v es ∷ k) e w = Some (mode.Have (held k (expr.call p c (exprs (es ++ (e ∷ [])))) (suc (max v w))))
close_at (frame.Cast p a v ∷ k) e w = Some (mode.Have (held k (expr.cast p a e) (suc (max v w))))
close_at _ e w = None

abbrev pub comma_at : List Frame → Expr → ℕ → Option Mode
comma_at (frame.Call p c v es ∷ k) e w = Some (mode.Want (frame.Call p c (max v w) (es ++ (e ∷ [])) ∷ k))
comma_at _ e w = None

abbrev pub close : Held → Option Mode
close h = close_at h.stack h.tree h.weight

abbrev pub comma : Held → Option Mode
comma h = comma_at h.stack h.tree h.weight

abbrev pub go_on : ℕ → List Frame → Expr → ℕ → Place → What → Option Mode
go_on r k e w p what.Dot = if_some (nat_lt (w + length k) r) (mode.Dotted (held k e w))
go_on r k e w p what.Open = if_some (nat_lt (w + length k) r) (mode.Want (frame.Call p e w [] ∷ k))
go_on r k e w p what.Or = join_link r link.Or p (settle 1 k e w)
go_on r k e w p what.And = join_link r link.And p (settle 2 k e w)
go_on r k e w p (what.Operator o) = join_link r (link.Operator o) p (settle (op_left o) k e w)
go_on r k e w p what.Close = close (settle 1 k e w)
go_on r k e w p what.Comma = comma (settle 1 k e w)
go_on r k e w p _ = None

abbrev pub field_at : List Frame → Expr → ℕ → Place → What → Option Mode
field_at k e w p (what.Name x) = Some (mode.Have (held k (expr.read e (word x p)) (suc w)))
field_at k e w p _ = None

-- behind `cast`
abbrev pub cast_open : Place → List Frame → What → Option Mode
cast_open p k what.Open = Some (mode.CastType p k (type_mode.Want []))
cast_open p k _ = None

-- behind the type of a cast
abbrev pub cast_comma : Place → List Frame → Option Weighed → What → Option Mode
cast_comma p k (Some a) what.Comma = Some (mode.Want (frame.Cast p a.ann a.weight ∷ k))
cast_comma p k _ _ = None

-- in the type of a cast: the type goes on, or ends
abbrev pub cast_type : Place → List Frame → Option Weighed → What → Option TypeMode → Option Mode
cast_type p k o w (Some m) = Some (mode.CastType p k m)
cast_type p k o w None = cast_comma p k o w

-- the room of a part, behind the frames and one more
abbrev pub inner_room : ℕ → List Frame → ℕ
inner_room r k = r - suc (length k)

abbrev pub join_open : Place → List Frame → What → Option Mode
join_open p k what.Open = Some (mode.JoinOpen p k)
join_open p k _ = None

abbrev pub join_name : Place → List Frame → Place → What → Option Mode
join_name p k q (what.Name x) = Some (mode.JoinName p (word x q) k)
join_name p k q _ = None

abbrev pub join_close : Place → Word → List Frame → What → Option Mode
join_close p x k what.Close = Some (mode.Have (held k (expr.join p x) 1))
join_close p x k _ = None

abbrev pub step : ℕ → Mode → Spelled → Option Mode
step r (mode.Want k) t = begin r k t.place t.what
step r (mode.Have h) t = go_on r h.stack h.tree h.weight t.place t.what
step r (mode.Dotted h) t = field_at h.stack h.tree h.weight t.place t.what
step r (mode.CastWord p k) t = cast_open p k t.what
step r (mode.CastType p k m) t = cast_type p k (type_finish m) t.what (type_step (inner_room r k) m t)
step r (mode.JoinWord p k) t = join_open p k t.what
step r (mode.JoinOpen p k) t = join_name p k t.place t.what
step r (mode.JoinName p x k) t = join_close p x k t.what

-- the expression where reading stops
abbrev pub whole_at : List Frame → Expr → Option Expr
whole_at [] e = Some e
whole_at (f ∷ k) e = None

abbrev pub whole : Held → Option Expr
whole h = whole_at h.stack h.tree

abbrev pub finish : Mode → Option Expr
finish (mode.Have h) = whole (settle 1 h.stack h.tree h.weight)
finish _ = None

-- ---- what the code needs besides

-- weights that fit
abbrev pub IsLight : List Frame → Type 0
IsLight [] = Unit {0}
IsLight (frame.Binary l p a v ∷ k) = (suc v + length k ≤ greatest_weight) × IsLight k
IsLight (frame.Not p ∷ k) = IsLight k
IsLight (frame.Neg p ∷ k) = IsLight k
IsLight (frame.Bracket ∷ k) = IsLight k
IsLight (frame.Call p c v es ∷ k) = (suc v + length k ≤ greatest_weight) × IsLight k
IsLight (frame.Cast p a v ∷ k) = (suc v + length k ≤ greatest_weight) × IsLight k

abbrev pub IsLightHeld : Held → Type 0
IsLightHeld h = IsLight h.stack × (h.weight + length h.stack ≤ greatest_weight)

abbrev pub IsLightMode : Mode → Type 0
IsLightMode (mode.Want k) = IsLight k × (length k ≤ greatest_weight)
IsLightMode (mode.Have h) = IsLightHeld h
IsLightMode (mode.Dotted h) = IsLight h.stack × (suc h.weight + length h.stack ≤ greatest_weight)
IsLightMode (mode.CastWord p k) = IsLight k × (suc (length k) < greatest_weight)
IsLightMode (mode.CastType p k m) = IsLight k × IsLightType m × ((a : Weighed) → type_finish m ≡ Some a → suc a.weight + length k ≤ greatest_weight)
IsLightMode (mode.JoinWord p k) = IsLight k × (length k < greatest_weight)
IsLightMode (mode.JoinOpen p k) = IsLight k × (length k < greatest_weight)
IsLightMode (mode.JoinName p x k) = IsLight k × (length k < greatest_weight)

abbrev pub next_of : Option Mode → Option Expr → Next
next_of None o = next.Stop o
next_of (Some m) o = next.Go m

-- whether a token is a comma, and what it does behind the type of a cast
abbrev pub is_comma : What → Bool
is_comma what.Comma = true
is_comma _ = false

abbrev pub cast_closed : Place → List Frame → Option Weighed → Bool → Option Mode
cast_closed p k (Some a) true = Some (mode.Want (frame.Cast p a.ann a.weight ∷ k))
cast_closed p k _ _ = None

abbrev pub cast_next : Place → List Frame → Bool → TypeNext → Next
cast_next p k b (type_next.Go m) = next.Go (mode.CastType p k m)
cast_next p k b (type_next.Stop o) = next_of (cast_closed p k o b) None
