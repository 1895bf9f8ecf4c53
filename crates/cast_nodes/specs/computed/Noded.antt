-- Computed: what an expression becomes over its parts, with the numbers of its own sites.
use Rattle.std.specs.Prelude.{ℕ, List, [], ◌∷◌, ◌++◌, map, Option, Some, None, option_and_then, slice_get}
use Rattle.std.specs.Option.{option_map}
use Rattle.mono_syntax.specs.declared.cast.Arg.{Arg}
use Rattle.mono_syntax.specs.declared.leaf.Word.{Word}
use Rattle.mono_syntax.specs.CastExpr as cast
use Rattle.mono_syntax.specs.CastExpr.{CastExpr}
use Rattle.mono_syntax.specs.CastExprView.{cast_exprs, args}
use Rattle.mono_syntax.specs.Expr as expr
use Rattle.mono_syntax.specs.Expr.{Expr}
use Rattle.name_places.specs.Places.{place_in}
use Rattle.known_names.specs.declared.known.Known.{Known}

-- ---- rows

-- a part with its cast, where one stands
abbrev pub fitted : Option ℕ → CastExpr → CastExpr
fitted None c = c
fitted (Some k) c = cast.fit k c

-- parts with their casts behind those that are done
abbrev pub fit_all : List CastExpr → List (Option ℕ) → List CastExpr → List CastExpr
fit_all done (k ∷ ks) (c ∷ cs) = fit_all (done ++ fitted k c ∷ []) ks cs
fit_all done ks cs = done

-- arguments with their sites behind those that are done
abbrev pub with_arguments : List Arg → List (Option ℕ) → List CastExpr → List Arg
with_arguments done (k ∷ ks) (c ∷ cs) = with_arguments (done ++ record { site = k; value = c } ∷ []) ks cs
with_arguments done ks cs = done

-- ---- numbers

-- the number of the site at this slot
abbrev pub site_at : List (Option ℕ) → ℕ → Option ℕ
site_at ks n = option_and_then (λ k. k) (slice_get ks n)

abbrev pub function_number : Known → List ℕ → Option ℕ
function_number ks x = place_in (map (λ f. f.name) ks.functions) x

abbrev pub class_number : Known → List ℕ → Option ℕ
class_number ks x = place_in (map (λ k. k.name) ks.classes) x

-- that of the class whose name is called
abbrev pub called_number : Known → Expr → Option ℕ
called_number ks (expr.local w) = class_number ks w.text
called_number ks e = None

-- ---- nodes

-- a name of the block at its site; a name that has none is a function's
abbrev pub name_node : Known → Option ℕ → Word → Option CastExpr
name_node ks (Some k) w = Some (cast.local k w.text)
name_node ks None w = option_map (λ g. cast.function g) (function_number ks w.text)

abbrev pub call_node : List CastExpr → List (Option ℕ) → Option CastExpr
call_node (c ∷ cs) (k ∷ ks) = Some (cast.call k c (args (with_arguments [] ks cs)))
call_node cs ks = None

-- a call, or a new object of the class of this number
abbrev pub called_node : Option ℕ → List CastExpr → List (Option ℕ) → Option CastExpr
called_node (Some n) cs ks = Some (cast.make n (cast_exprs cs))
called_node None cs ks = call_node cs ks

abbrev pub node : Known → Expr → List CastExpr → List (Option ℕ) → Option CastExpr
node s (expr.local w) cs ks = name_node s (site_at ks 0) w
node s (expr.number p n) cs ks = Some (cast.number n)
node s (expr.text p x) cs ks = Some (cast.text x)
node s (expr.truth p b) cs ks = Some (cast.truth b)
node s (expr.nil p) cs ks = Some cast.nil
node s (expr.neg p a) cs ks = option_and_then (λ k. option_map (λ c. cast.neg k c) (slice_get cs 0)) (site_at ks 0)
node s (expr.negation p a) cs ks = option_map (λ c. cast.negation c) (slice_get cs 0)
node s (expr.binary o p a b) cs ks = option_and_then (λ c. option_map (λ d. cast.binary o (site_at ks 0) (site_at ks 1) c d) (slice_get cs 1)) (slice_get cs 0)
node s (expr.both a b) cs ks = option_and_then (λ c. option_map (λ d. cast.both c d) (slice_get cs 1)) (slice_get cs 0)
node s (expr.either a b) cs ks = option_and_then (λ c. option_map (λ d. cast.either c d) (slice_get cs 1)) (slice_get cs 0)
node s (expr.read a w) cs ks = option_map (λ c. cast.read (site_at ks 0) c w.text) (slice_get cs 0)
node s (expr.call p f es) cs ks = called_node (called_number s f) cs ks
node s (expr.cast p a e) cs ks = option_and_then (λ k. option_map (λ c. cast.fit k c) (slice_get cs 0)) (site_at ks 0)
node s (expr.join p w) cs ks = option_map (λ k. cast.join k w.text) (site_at ks 0)
