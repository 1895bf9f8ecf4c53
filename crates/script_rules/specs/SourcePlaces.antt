-- Where an expression stands.
use Rattle.mono_syntax.specs.declared.leaf.Place.{Place}
use Rattle.mono_syntax.specs.Expr.{Expr, local, number, text, truth, nil, neg, negation, binary, both, either, read, call, cast, join}

-- a name, a literal, a prefix operator, a cast and a join have a place of their own; every other expression stands where its first part
-- does
abbrev pub place_of : Expr → Place
place_of (local w) = w.place
place_of (number p k) = p
place_of (text p t) = p
place_of (truth p b) = p
place_of (nil p) = p
place_of (neg p a) = p
place_of (negation p a) = p
place_of (binary op p a b) = place_of a
place_of (both a b) = place_of a
place_of (either a b) = place_of a
place_of (read a w) = place_of a
place_of (call p f es) = place_of f
place_of (cast p t a) = p
place_of (join p w) = p
