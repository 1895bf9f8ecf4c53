-- What holds of the runs of the type machine.
use Rattle.std.proofs.Common.{ℕ, zero, suc, ◌≤◌, ◌≡◌, List, [], ◌∷◌, Some, None, arith, refl, ap, sym, ◌∙◌}
use Rattle.mono_syntax.specs.Limits.{greatest_weight}
use Rattle.mono_syntax.specs.declared.leaf.Place.{Place}
use Rattle.mono_syntax.specs.Ann.{Ann}
use Rattle.spelled_tokens.specs.declared.token.Spelled.{Spelled}
use Rattle.spelled_tokens.specs.declared.token.What.{What}
use Rattle.spelled_tokens.specs.declared.token.What.TheVariants as what
use Rattle.spelled_tokens.specs.declared.token.Mark.{Mark}
use Rattle.spelled_tokens.specs.declared.token.Mark.TheVariants as mark
use Rattle.parse_expr.specs.declared.machine.TypeFrame.{TypeFrame}
use Rattle.parse_expr.specs.declared.machine.TypeMode.{TypeMode}
use Rattle.parse_expr.specs.declared.machine.TypeMode.TheVariants as type_mode
use Rattle.parse_expr.specs.declared.machine.Weighed.{Weighed}
use Rattle.parse_expr.specs.Types.{IsType}
use Rattle.parse_expr.specs.computed.TypeReading.{type_mark, type_begin, type_behind, type_step, type_finish, type_tree, AreLightTypes, IsLightType}
use Rattle.parse_expr.specs.computed.Goes.{Goes}
use Rattle.parse_expr.proofs.Goes.{goes_nil, goes_cons, none_some}
use Rattle.parse_expr.proofs.TypeSound as types
use Rattle.parse_expr.proofs.TypeSound.{TypeStands, TypeSound, type_start_sound, type_goes_sound, type_finish_sound, type_viable}
use Rattle.parse_expr.proofs.TypeReach.{type_reach}

abbrev pub type_start : TypeMode
type_start = type_mode.Want []

-- in no room no type begins
no_mark_begins : (p : Place) (m : Mark) → type_mark 0 [] p m ≡ None
no_mark_begins p mark.Dyn = refl
no_mark_begins p m = refl

no_type_begins : (p : Place) (w : What) → type_begin 0 [] p w ≡ None
no_type_begins p (what.Mark m) = no_mark_begins p m
no_type_begins p w = refl

pub types_at_zero : (ts : List Spelled) (m : TypeMode) → Goes (type_step 0) type_start ts m → (ts ≡ []) × (m ≡ type_start)
types_at_zero [] m a = (refl, sym (goes_nil (type_step 0) a))
types_at_zero (t ∷ ts) m a = let x = goes_cons (type_step 0) a in none_some _ (sym (no_type_begins t.place t.what) ∙ x.1)

-- where it stops with a type, this is one
pub type_finish_is : (r : ℕ) (ts : List Spelled) (m : TypeMode) (o : Weighed) → Goes (type_step r) type_start ts m → type_finish m ≡ Some o → IsType r ts o.ann
type_finish_is zero ts m o a i = none_some _ (ap type_finish (sym (types_at_zero ts m a).1) ∙ i)
type_finish_is (suc r) ts m o a i = let x = type_finish_sound (type_goes_sound (type_start_sound (suc r) (omega arith)) a) o i in (o.weight, x.0, x.1)

-- a type is read to its end
pub type_complete : (r : ℕ) (ts : List Spelled) (a : Ann) → IsType r ts a → (m : TypeMode) × Goes (type_step r) type_start ts m × (type_tree (type_finish m) ≡ Some a)
type_complete r ts a x = (type_mode.Have [] a x.0, type_reach r x.1 [] (omega (arith, x.2)), refl)

-- a type that was read can't go on
pub type_stays : (r : ℕ) (a : Ann) (w : ℕ) (t : Spelled) → type_step r (type_mode.Have [] a w) t ≡ None
type_stays r a w t = no_more t.what
  where
    no_more : (b : What) → type_behind [] a w b ≡ None
    no_more what.Comma = refl
    no_more (what.Mark mark.CloseSquare) = refl
    no_more (what.Mark m) = refl
    no_more b = refl

type_stands_light : {r : ℕ} {k : List TypeFrame} {ts : List Spelled} → r ≤ greatest_weight → TypeStands r k ts → AreLightTypes k
type_stands_light h types.bottom = tt
type_stands_light h (types.params p q s v xs k ts ds x y l) = (omega arith, type_stands_light h x)
type_stands_light h (types.result p q s u o v xs k ts ds x y l) = (omega arith, type_stands_light h x)

-- the weights in a state are small
pub type_sound_light : {r : ℕ} {ts : List Spelled} {m : TypeMode} → r ≤ greatest_weight → TypeSound r ts m → IsLightType m
type_sound_light h (types.wanting k ts s l) = type_stands_light (omega arith) s
type_sound_light h (types.outer p k ts s l) = (type_stands_light (omega arith) s, omega arith)
type_sound_light h (types.inner p q k ts s l) = (type_stands_light (omega arith) s, omega arith)
type_sound_light h (types.first p q u k ts s l) = (type_stands_light (omega arith) s, omega arith)
type_sound_light h (types.between p q u o v xs k ts ds s d l n) = (type_stands_light (omega arith) s, omega arith)
type_sound_light h (types.having k ts us w a s d l) = (type_stands_light (omega arith) s, omega arith)
