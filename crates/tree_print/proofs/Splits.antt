-- Tokens whose whats are known, part by part.
use Rattle.std.proofs.Common.{◌≡◌, List, [], ◌∷◌, ◌++◌, map, refl, ap, subst}
use Rattle.mono_syntax.specs.declared.leaf.Place.{Place}
use Rattle.spelled_tokens.specs.declared.token.Spelled.{Spelled}
use Rattle.spelled_tokens.specs.declared.token.What.{What}
use Rattle.spelled_tokens.specs.SpelledTokens.{tok}
use Rattle.token_lines.specs.declared.printed.Printed.{Printed}
use Rattle.token_lines.specs.Tokens.{what_of}
use Rattle.token_lines.specs.Back.{whats}

-- a split of the whats is a split of the tokens
pub split_whats : (us : List Spelled) (ws vs : List What) → whats us ≡ ws ++ vs
    → (a : List Spelled) × (b : List Spelled) × (us ≡ a ++ b) × (whats a ≡ ws) × (whats b ≡ vs)
split_whats us [] vs e = ([], us, refl, refl, e)
split_whats [] (w ∷ ws) vs e = absurd cc
split_whats (u ∷ us) (w ∷ ws) vs e =
    let h : u.what ≡ w = cc in
    let k : whats us ≡ ws ++ vs = cc in
    let r = split_whats us ws vs k in
    (u ∷ r.0, r.1, ap (λ x. u ∷ x) r.2, cc, r.4)

-- a first what is a first token
pub first_what : (us : List Spelled) (w : What) (vs : List What) → whats us ≡ w ∷ vs
    → (p : Place) × (b : List Spelled) × (us ≡ tok w p ∷ b) × (whats b ≡ vs)
first_what [] w vs e = absurd cc
first_what (u ∷ us) w vs e =
    let h : u.what ≡ w = cc in
    (u.place, us, ap (λ x. tok x u.place ∷ us) h, cc)

pub no_whats : (us : List Spelled) → whats us ≡ [] → us ≡ []
no_whats [] e = refl
no_whats (u ∷ us) e = absurd cc

-- ---- the same as a relation, whose cases are the first tokens

-- tokens with the printed whats, each somewhere
pub data Reads : List Printed → List Spelled → Type 0 where
  stop : Reads [] []
  next : (t : Printed) (p : Place) (ts : List Printed) (us : List Spelled) → Reads ts us → Reads (t ∷ ts) (tok (what_of t) p ∷ us)

pub reads : (ts : List Printed) (us : List Spelled) → whats us ≡ map what_of ts → Reads ts us
reads [] [] e = stop
reads [] (u ∷ us) e = absurd cc
reads (t ∷ ts) [] e = absurd cc
reads (t ∷ ts) (u ∷ us) e =
    let h : what_of t ≡ u.what = cc in
    let k : whats us ≡ map what_of ts = cc in
    subst (λ w. Reads (t ∷ ts) (tok w u.place ∷ us)) h (next t u.place ts us (reads ts us k))

-- tokens of two parts
pub data Cut (xs ys : List Printed) : List Spelled → Type 0 where
  parts : (ls rs : List Spelled) → Reads xs ls → Reads ys rs → Cut xs ys (ls ++ rs)

-- tokens of two parts with one between
pub data Mid (xs : List Printed) (t : Printed) (ys : List Printed) : List Spelled → Type 0 where
  sides : (p : Place) (ls rs : List Spelled) → Reads xs ls → Reads ys rs → Mid xs t ys (ls ++ (tok (what_of t) p ∷ rs))

cut_more : (t : Printed) (p : Place) (xs ys : List Printed) (us : List Spelled) → Cut xs ys us → Cut (t ∷ xs) ys (tok (what_of t) p ∷ us)
cut_more t p xs ys us (parts ls rs a b) = parts (tok (what_of t) p ∷ ls) rs (next t p xs ls a) b

pub cut : (xs ys : List Printed) (us : List Spelled) → Reads (xs ++ ys) us → Cut xs ys us
cut [] ys us r = parts [] us stop r
cut (x ∷ xs) ys us (next t p ts vs r) = cut_more x p xs ys vs (cut xs ys vs r)

mid_more : (u : Printed) (p : Place) (xs : List Printed) (t : Printed) (ys : List Printed) (us : List Spelled) → Mid xs t ys us
    → Mid (u ∷ xs) t ys (tok (what_of u) p ∷ us)
mid_more u p xs t ys us (sides q ls rs a b) = sides q (tok (what_of u) p ∷ ls) rs (next u p xs ls a) b

pub mid : (xs : List Printed) (t : Printed) (ys : List Printed) (us : List Spelled) → Reads (xs ++ (t ∷ ys)) us → Mid xs t ys us
mid [] t ys us (next u p ts vs r) = sides p [] vs stop r
mid (x ∷ xs) t ys us (next u p ts vs r) = mid_more x p xs t ys vs (mid xs t ys vs r)
