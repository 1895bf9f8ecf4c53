-- computed: what the code of `type_step` and `type_finish` computes, which reads a type one token at a time. The grammar is in Types.
use Rattle.std.specs.Prelude.{ℕ, suc, ◌+◌, ◌<◌, ◌≤◌, max, Bool, true, false, List, [], ◌∷◌, ◌++◌, length, Option, Some, None, nat_lt}
use Rattle.mono_syntax.specs.Limits.{greatest_weight}
use Rattle.mono_syntax.specs.declared.leaf.Place.{Place}
use Rattle.mono_syntax.specs.Ann.{Ann, Form, ann, dyn, int, bool, str, nil, class, fun}
use Rattle.mono_syntax.specs.AnnView.{anns}
use Rattle.spelled_tokens.specs.declared.token.Spelled.{Spelled}
use Rattle.spelled_tokens.specs.declared.token.What.{What}
use Rattle.spelled_tokens.specs.declared.token.What.TheVariants as what
use Rattle.spelled_tokens.specs.declared.token.Mark.{Mark}
use Rattle.spelled_tokens.specs.declared.token.Mark.TheVariants as mark
use Rattle.parse_expr.specs.declared.machine.TypeFrame.{TypeFrame}
use Rattle.parse_expr.specs.declared.machine.TypeFrame.TheVariants as frame
use Rattle.parse_expr.specs.declared.machine.TypeMode.{TypeMode}
use Rattle.parse_expr.specs.declared.machine.TypeMode.TheVariants as mode
use Rattle.parse_expr.specs.declared.machine.TypeNext.{TypeNext}
use Rattle.parse_expr.specs.declared.machine.TypeNext.TheVariants as next
use Rattle.parse_expr.specs.declared.machine.Weighed.{Weighed}
use Rattle.parse_expr.specs.Types.{word}

abbrev pub type_if : Bool → TypeMode → Option TypeMode
type_if true m = Some m
type_if false m = None

-- a type of one token, in a room
abbrev pub type_leaf : ℕ → List TypeFrame → Place → Form → Option TypeMode
type_leaf r k p f = type_if (nat_lt (length k) r) (mode.Have k (ann p f) 1)

-- where a type is wanted. Each frame takes 1 of the room
abbrev pub type_mark : ℕ → List TypeFrame → Place → Mark → Option TypeMode
type_mark r k p mark.Dyn = type_leaf r k p dyn
type_mark r k p mark.Int = type_leaf r k p int
type_mark r k p mark.Bool = type_leaf r k p bool
type_mark r k p mark.Str = type_leaf r k p str
type_mark r k p mark.Callable = type_if (nat_lt (suc (length k)) r) (mode.Outer p k)
type_mark r k p _ = None

abbrev pub type_begin : ℕ → List TypeFrame → Place → What → Option TypeMode
type_begin r k p what.Nil = type_leaf r k p nil
type_begin r k p (what.Name x) = type_leaf r k p (class (word x p))
type_begin r k p (what.Mark m) = type_mark r k p m
type_begin r k p _ = None

abbrev pub type_outer : Place → List TypeFrame → What → Option TypeMode
type_outer p k (what.Mark mark.OpenSquare) = Some (mode.Inner p k)
type_outer p k _ = None

abbrev pub type_inner : Place → List TypeFrame → What → Option TypeMode
type_inner p k (what.Mark mark.OpenSquare) = Some (mode.First p k)
type_inner p k _ = None

abbrev pub type_first_mark : ℕ → Place → List TypeFrame → Place → Mark → Option TypeMode
type_first_mark r p k q mark.CloseSquare = Some (mode.Between p [] 0 k)
type_first_mark r p k q m = type_mark r (frame.Params p [] 0 ∷ k) q m

-- the first parameter, or the end of none
abbrev pub type_first : ℕ → Place → List TypeFrame → Place → What → Option TypeMode
type_first r p k q (what.Mark m) = type_first_mark r p k q m
type_first r p k q w = type_begin r (frame.Params p [] 0 ∷ k) q w

abbrev pub type_between : Place → List Ann → ℕ → List TypeFrame → What → Option TypeMode
type_between p xs v k what.Comma = Some (mode.Want (frame.Result p xs v ∷ k))
type_between p xs v k _ = None

abbrev pub type_comma : List TypeFrame → Ann → ℕ → Option TypeMode
type_comma (frame.Params p xs v ∷ k) a w = Some (mode.Want (frame.Params p (xs ++ (a ∷ [])) (max v w) ∷ k))
type_comma _ a w = None

abbrev pub type_close : List TypeFrame → Ann → ℕ → Option TypeMode
type_close (frame.Params p xs v ∷ k) a w = Some (mode.Between p (xs ++ (a ∷ [])) (max v w) k)
type_close (frame.Result p xs v ∷ k) a w = Some (mode.Have k (ann p (fun (anns xs) a)) (suc (max v w)))
type_close [] a w = None

-- where a type was read
abbrev pub type_behind : List TypeFrame → Ann → ℕ → What → Option TypeMode
type_behind k a w what.Comma = type_comma k a w
type_behind k a w (what.Mark mark.CloseSquare) = type_close k a w
type_behind k a w _ = None

abbrev pub type_step : ℕ → TypeMode → Spelled → Option TypeMode
type_step r (mode.Want k) t = type_begin r k t.place t.what
type_step r (mode.Outer p k) t = type_outer p k t.what
type_step r (mode.Inner p k) t = type_inner p k t.what
type_step r (mode.First p k) t = type_first r p k t.place t.what
type_step r (mode.Between p xs v k) t = type_between p xs v k t.what
type_step r (mode.Have k a w) t = type_behind k a w t.what

abbrev pub type_whole : List TypeFrame → Ann → ℕ → Option Weighed
type_whole [] a w = Some (record { ann = a; weight = w })
type_whole (f ∷ k) a w = None

-- the type where reading stops
abbrev pub type_finish : TypeMode → Option Weighed
type_finish (mode.Have k a w) = type_whole k a w
type_finish _ = None

-- the tree of what was read
abbrev pub type_tree : Option Weighed → Option Ann
type_tree None = None
type_tree (Some o) = Some o.ann

-- ---- what the code needs besides

abbrev pub type_next : Option TypeMode → Option Weighed → TypeNext
type_next None o = next.Stop o
type_next (Some m) o = next.Go m

-- weights that fit
abbrev pub AreLightTypes : List TypeFrame → Type 0
AreLightTypes [] = Unit {0}
AreLightTypes (frame.Params p xs v ∷ k) = (suc v + length k ≤ greatest_weight) × AreLightTypes k
AreLightTypes (frame.Result p xs v ∷ k) = (suc v + length k ≤ greatest_weight) × AreLightTypes k

abbrev pub IsLightType : TypeMode → Type 0
IsLightType (mode.Want k) = AreLightTypes k
IsLightType (mode.Outer p k) = AreLightTypes k × (suc (length k) < greatest_weight)
IsLightType (mode.Inner p k) = AreLightTypes k × (suc (length k) < greatest_weight)
IsLightType (mode.First p k) = AreLightTypes k × (suc (length k) < greatest_weight)
IsLightType (mode.Between p xs v k) = AreLightTypes k × (suc v + length k ≤ greatest_weight)
IsLightType (mode.Have k a w) = AreLightTypes k × (w + length k ≤ greatest_weight)
