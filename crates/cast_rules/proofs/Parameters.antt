-- The parameters of a function of a right script are different names, and each is a name of the body, of its declared type.
use Rattle.std.proofs.Common.{◌≡◌, inl, inr, ℕ, List, [], ◌∷◌, ◌++◌, Bool, true, false, not, flat_map, Option, Some, None, map, bytes_eq, refl, sym, ◌∙◌, ap, subst, append_assoc, if◌then◌else◌}
use Rattle.std.specs.Prelude.{Contains, IsTrue}
use Rattle.std.proofs.lemmas.List.Elements.{Contains-append_left, Contains-append_right}
use Rattle.mono_list.proofs.Cases.{split, some_is, none_some}
use Rattle.mono_syntax.specs.declared.cast.NamedType.{NamedType}
use Rattle.mono_syntax.specs.declared.tree.ClassDef.{ClassDef}
use Rattle.mono_syntax.specs.declared.tree.FuncDef.{FuncDef}
use Rattle.mono_syntax.specs.declared.tree.Item.{Item}
use Rattle.mono_syntax.specs.declared.tree.Item.TheVariants as item
use Rattle.mono_syntax.specs.declared.tree.Param.{Param}
use Rattle.mono_syntax.specs.declared.tree.Script.{Script}
use Rattle.mono_syntax.specs.declared.refusal.Reason.TheVariants.{Twice}
use Rattle.mono_syntax.specs.StmtView.{block}
use Rattle.mono_syntax.specs.Ty.{Ty, Tys, no_tys, more_tys}
use Rattle.mono_tree.specs.TypedPrograms.{type_of_name, AreNamed}
use Rattle.mono_tree.proofs.MeetMade.{named, name_read, unnamed}
use Rattle.script_rules.specs.BlockNames.{Target, of_param, elsewhere, firsts}
use Rattle.script_rules.specs.Definitions.{functions_of}
use Rattle.script_rules.specs.NameFaults.{given_again}
use Rattle.script_rules.specs.NameRules.{gives_name, is_first_name, Stands, StandsBehind}
use Rattle.script_rules.specs.Occurrences.{at, in_any_ann, in_block, in_param, in_function, body_of, definitions, in_main, bodies}
use Rattle.script_rules.specs.ScopeFaults.{IsRight}
use Rattle.script_rules.specs.Scoping.{function_list}
use Rattle.script_rules.specs.WellFormed.{AreApart}
use Rattle.script_rules.specs.Writes.{WritesAny, ParamTypes}
use Rattle.script_rules.specs.declared.occurrence.Occurrence.{Occurrence}
use Rattle.script_rules.specs.declared.occurrence.Role.TheVariants as role
use Rattle.script_rules.specs.SourceCasts.{AreNames}
use Rattle.static_types.proofs.Writing.{one_any}
use Rattle.cast_rules.proofs.Standing.{nothing, head_stands, tail_stands, first_or, map_stands}

-- ---- the first target of a name

look : List Target → List ℕ → Option Target
look [] x = None
look (t ∷ ts) x = if bytes_eq t.word.text x then Some t else look ts x

look_elsewhere : (y x : List ℕ) (ts : List Target) → bytes_eq y x ≡ false → look (elsewhere y ts) x ≡ look ts x
unfolding look
look_elsewhere y x [] e = refl
look_elsewhere y x (t ∷ ts) e =
    split (not (bytes_eq y t.word.text))
    (λ b. not (bytes_eq y t.word.text) ≡ b → look (if b then t ∷ elsewhere y ts else elsewhere y ts) x ≡ (if bytes_eq t.word.text x then Some t else look ts x))
    (λ _ _. ap (λ (o : Option Target). if bytes_eq t.word.text x then Some t else o) (look_elsewhere y x ts e))
    (λ _ f.
    let same : y ≡ t.word.text = name_read y t.word.text (negated (bytes_eq y t.word.text) f) in
    let other : bytes_eq t.word.text x ≡ false = ap (λ (z : List ℕ). bytes_eq z x) (sym same) ∙ e in
    look_elsewhere y x ts e ∙ sym (ap (λ (b : Bool). if b then Some t else look ts x) other))
    refl
  where
    negated : (b : Bool) → not b ≡ false → b ≡ true
    negated true f = refl
    negated false f = absurd cc

look_firsts : (ts : List Target) (x : List ℕ) → look (firsts ts) x ≡ look ts x
unfolding look
look_firsts [] x = refl
look_firsts (t ∷ ts) x =
    split (bytes_eq t.word.text x)
    (λ b. bytes_eq t.word.text x ≡ b → (if b then Some t else look (elsewhere t.word.text (firsts ts)) x) ≡ (if b then Some t else look ts x))
    (λ _ _. refl) (λ _ f. look_elsewhere t.word.text x (firsts ts) f ∙ look_firsts ts x) refl

look_param : (ps : List Param) (rest : List Target) (q : Param) → Contains ps q → AreApart (map (λ q. q.name.text) ps) → look (map of_param ps ++ rest) q.name.text ≡ Some (of_param q)
unfolding look
look_param [] rest q c h = nothing q (look rest q.name.text ≡ Some (of_param q)) c
look_param (p ∷ ps) rest q c h =
    elim (first_or p ps q c) [
      | inl same ↦ subst (λ (z : Param). (if bytes_eq p.name.text z.name.text then Some (of_param p) else look (map of_param ps ++ rest) z.name.text) ≡ Some (of_param z)) same (head p)
      | inr d ↦ (
          let other : bytes_eq p.name.text q.name.text ≡ false =
          unnamed p.name.text q.name.text (λ e. h.0 (subst (λ (x : List ℕ). Contains (map (λ q. q.name.text) ps) x) (sym e) (map_stands (λ (z : Param). z.name.text) ps q d)))
          in
          ap (λ (b : Bool). if b then Some (of_param p) else look (map of_param ps ++ rest) q.name.text) other ∙ look_param ps rest q d h.1
          )
    ]
  where
    head : (p : Param) → (if bytes_eq p.name.text p.name.text then Some (of_param p) else look (map of_param ps ++ rest) p.name.text) ≡ Some (of_param p)
    head p = ap (λ (b : Bool). if b then Some (of_param p) else look (map of_param ps ++ rest) p.name.text) (named p.name.text p.name.text refl)

-- ---- names with their types

names_look : (cs : List ClassDef) (ts : List Target) (ns : List NamedType) (x : List ℕ) (t : Target) → AreNames cs ts ns → look ts x ≡ Some t
    → (u : Ty) × (type_of_name ns x ≡ Some u) × WritesAny cs t.ann u
unfolding look
names_look cs [] ns x t h e = none_some _ e
names_look cs (k ∷ ts) [] x t h e = absurd h
names_look cs (k ∷ ts) (n ∷ ns) x t h e =
    subst (λ (z : List ℕ). (u : Ty) × ((if bytes_eq z x then Some n.ty else type_of_name ns x) ≡ Some u) × WritesAny cs t.ann u) (sym h.0)
    (split (bytes_eq k.word.text x)
    (λ b. (if b then Some k else look ts x) ≡ Some t → (u : Ty) × ((if b then Some n.ty else type_of_name ns x) ≡ Some u) × WritesAny cs t.ann u)
    (λ _ f. (n.ty, refl, subst (λ (z : Target). WritesAny cs z.ann n.ty) (some_is f) h.1)) (λ _ f. names_look cs ts ns x t h.2 f) e)

named_each : (cs : List ClassDef) (ps : List Param) (rest : List Target) (ns : List NamedType) → AreNames cs (firsts (map of_param ps ++ rest)) ns
    → AreApart (map (λ q. q.name.text) ps) → (qs : List Param) (ts : Tys) → ((q : Param) → Contains qs q → Contains ps q) → ParamTypes cs qs ts
    → AreNamed ns (map (λ q. q.name.text) qs) ts
named_each cs ps rest ns h a [] no_tys k w = tt
named_each cs ps rest ns h a [] (more_tys t ts) k w = absurd w
named_each cs ps rest ns h a (q ∷ qs) no_tys k w = absurd w
named_each cs ps rest ns h a (q ∷ qs) (more_tys t ts) k w =
    let found = look_firsts (map of_param ps ++ rest) q.name.text ∙ look_param ps rest q (k q (head_stands q qs)) a in
    let r = names_look cs (firsts (map of_param ps ++ rest)) ns q.name.text (of_param q) h found in
    let type : r.0 ≡ t = one_any cs q.ann r.0 t r.2 w.0 in
    (r.1 ∙ ap Some type, named_each cs ps rest ns h a qs ts (λ z c. k z (tail_stands q qs z c)) w.1)

pub params_named : (cs : List ClassDef) (ps : List Param) (rest : List Target) (ns : List NamedType) (ts : Tys) → AreNames cs (firsts (map of_param ps ++ rest)) ns
    → AreApart (map (λ q. q.name.text) ps) → ParamTypes cs ps ts → AreNamed ns (map (λ q. q.name.text) ps) ts
params_named cs ps rest ns ts h a w = named_each cs ps rest ns h a ps ts (λ z c. c) w

-- ---- no parameter stands twice

record FoundParam (ps : List Param) (x : List ℕ) : Type 0 where
  pub front : List Param
  pub param : Param
  pub back : List Param
  pub whole : ps ≡ front ++ param ∷ back
  pub text : param.name.text ≡ x

find_param : (ps : List Param) (x : List ℕ) → Contains (map (λ q. q.name.text) ps) x → FoundParam ps x
find_param [] x c = nothing x (FoundParam [] x) c
find_param (p ∷ ps) x c =
    elim (first_or p.name.text (map (λ q. q.name.text) ps) x c) [
      | inl e ↦ record { front = []; param = p; back = ps; whole = refl; text = e }
      | inr d ↦ (
          let r = find_param ps x d in
          record { front = p ∷ r.front; param = r.param; back = r.back; whole = ap (λ l. p ∷ l) r.whole; text = r.text }
          )
    ]

flat_map-append : {A B : Type 0} (f : A → List B) (xs ys : List A) → flat_map f (xs ++ ys) ≡ flat_map f xs ++ flat_map f ys
flat_map-append f [] ys = refl
flat_map-append f (x ∷ xs) ys = ap (λ l. f x ++ l) (flat_map-append f xs ys) ∙ sym (append_assoc (f x) (flat_map f xs) (flat_map f ys))

-- a name is not given again behind its first place
abbrev GivesOnce : List Occurrence → Type 0
GivesOnce whole = (before : List Occurrence) (o : Occurrence) → StandsBehind whole before o → IsTrue (is_first_name o.role) → Stands before gives_name o.text → ⊥

-- the occurrences behind the second of two parameters
behind_second : (front rest : List Occurrence) (p q : Param) (a b : List Param)
    → front ++ (flat_map in_param (p ∷ a ++ q ∷ b) ++ rest)
    ≡ (front ++ (in_param p ++ flat_map in_param a)) ++ (at role.Parameter q.name ∷ (in_any_ann q.ann ++ (flat_map in_param b ++ rest)))
behind_second front rest p q a b =
    ap (λ (l : List Occurrence). front ++ ((in_param p ++ l) ++ rest)) (flat_map-append in_param a (q ∷ b)) ∙ regroup front (in_param p) (flat_map in_param a) (in_param q) (flat_map in_param b) rest
  where
    regroup : (f p a q b r : List Occurrence) → f ++ ((p ++ (a ++ (q ++ b))) ++ r) ≡ (f ++ (p ++ a)) ++ (q ++ (b ++ r))
    regroup f p a q b r = simp append_assoc

twice_given : (front : List Occurrence) (p : Param) (ps : List Param) (rest whole : List Occurrence) → whole ≡ front ++ (flat_map in_param (p ∷ ps) ++ rest) → GivesOnce whole
    → Contains (map (λ q. q.name.text) ps) p.name.text → ⊥
twice_given front p ps rest whole e k c =
    let r = find_param ps p.name.text c in
    let before = front ++ (in_param p ++ flat_map in_param r.front) in
    let o = at role.Parameter r.param.name in
    let parted = e ∙ ap (λ (l : List Param). front ++ (flat_map in_param (p ∷ l) ++ rest)) r.whole ∙ behind_second front rest p r.param r.front r.back in
    let stands : Stands before gives_name o.text =
    record {
      occurrence = at role.Parameter p.name;
      member =
          Contains-append_right front (in_param p ++ flat_map in_param r.front) (at role.Parameter p.name)
          (head_stands (at role.Parameter p.name) (in_any_ann p.ann ++ flat_map in_param r.front));
      role = refl;
      text = sym r.text;
    }
    in
    k before o (record { after = in_any_ann r.param.ann ++ (flat_map in_param r.back ++ rest); whole = parted }) refl stands

apart_by : (front : List Occurrence) (ps : List Param) (rest whole : List Occurrence) → whole ≡ front ++ (flat_map in_param ps ++ rest) → GivesOnce whole
    → AreApart (map (λ q. q.name.text) ps)
apart_by front [] rest whole e k = tt
apart_by front (p ∷ ps) rest whole e k =
    let next : whole ≡ (front ++ in_param p) ++ (flat_map in_param ps ++ rest) =
    e ∙ ap (λ (l : List Occurrence). front ++ l) (append_assoc (in_param p) (flat_map in_param ps) rest) ∙ sym (append_assoc front (in_param p) (flat_map in_param ps ++ rest))
    in
    (twice_given front p ps rest whole e k, apart_by (front ++ in_param p) ps rest whole next k)

body_among : (is : List Item) (d : FuncDef) → Contains (functions_of is) d → Contains (flat_map body_of is) (in_function d)
body_among [] d c = nothing d (Contains [] (in_function d)) c
body_among (item.Class k ∷ is) d c = Contains-append_right (body_of (item.Class k)) (flat_map body_of is) (in_function d) (body_among is d c)
body_among (item.Stmt s ∷ is) d c = body_among is d c
body_among (item.Def k ∷ is) d c =
    elim (first_or k (functions_of is) d c) [
      | inl e ↦ subst (λ (z : FuncDef). Contains (in_function k ∷ flat_map body_of is) (in_function z)) e (head_stands (in_function k) (flat_map body_of is))
      | inr f ↦ tail_stands (in_function k) (flat_map body_of is) (in_function d) (body_among is d f)
    ]

pub params_apart : (s : Script) → IsRight s → (d : FuncDef) → Contains (function_list s) d → AreApart (map (λ q. q.name.text) d.params)
params_apart s right d c =
    let inside = body_among s.items d c in
    let part : Contains (bodies s) (in_function d) =
    tail_stands (definitions s) (flat_map body_of s.items ++ in_main s ∷ []) (in_function d) (Contains-append_left (flat_map body_of s.items) (in_main s ∷ []) (in_function d) inside)
    in
    let once : GivesOnce (in_function d) =
    λ before o st first stands. right.names o.place Twice (inl (record { body = in_function d; part = part; fault = given_again before o st first stands refl }))
    in
    let whole = append_assoc (flat_map in_param d.params) (in_any_ann d.result) (in_block (block d.body)) in
    apart_by [] d.params (in_any_ann d.result ++ in_block (block d.body)) (in_function d) whole once
