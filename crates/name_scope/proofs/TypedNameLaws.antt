-- The names of a block, one target after the other.
use Rattle.std.proofs.Common.{◌≡◌, ℕ, ◌+◌, ◌<◌, Bool, true, false, cond, ◌||◌, List, [], ◌∷◌, ◌++◌, length, get_or, take, drop, refl, sym, ◌∙◌, ap, subst, append-nil}
use Rattle.std.specs.Prelude.{map, bytes_eq}
use Rattle.mono_list.proofs.Cases.{split}
use Rattle.mono_tree.proofs.MeetMade.{name_read}
use Rattle.mono_syntax.specs.declared.leaf.Place.{Place}
use Rattle.mono_syntax.specs.declared.script.TypedName.{TypedName}
use Rattle.mono_syntax.specs.declared.tree.Script.{Script}
use Rattle.script_rules.specs.BlockNames.{Target, firsts}
use Rattle.script_rules.specs.Scoping.{class_list, StandsAt, NamesStand}
use Rattle.script_rules.specs.Writes.{WritesAny}
use Rattle.class_types.specs.declared.table.ClassTypes.{ClassTypes}
use Rattle.class_types.specs.Holds.{Extends}
use Rattle.script_rules.specs.declared.occurrence.Role.TheVariants as role
use Rattle.name_scope.specs.declared.roles.Roles.{Roles}
use Rattle.name_scope.specs.declared.typing.TypedNames.{TypedNames}
use Rattle.name_scope.specs.declared.bound.Target as rust
use Rattle.name_scope.specs.computed.Bound.{target_of}
use Rattle.name_scope.specs.computed.NameRoles.{alone, together}
use Rattle.name_scope.specs.computed.Table.{roles_in}
use Rattle.name_scope.specs.computed.Typing.{NamesTyped}
use Rattle.name_scope.proofs.FirstOfAll.{rest_at, done_at}
use Rattle.name_scope.proofs.BoundTurns.{map-append}
use Rattle.name_scope.proofs.Growth.{extends_trans, names_grow, names_push, any_push, firsts_push, is_among}

or_false : (a : Bool) → (a || false) ≡ a
or_false true = refl
or_false false = refl

-- a target whose name stands before gives no new name
pub seen_again : (first : ClassTypes) (ts : List Target) (s : TypedNames) (t : Target) → (roles_in s.seen.roles t.word.text).name ≡ true
    → NamesTyped first ts s → NamesTyped first (ts ++ t ∷ []) s
seen_again first ts s t e n =
    let among : is_among ts t.word.text ≡ true = sym (n.seen t.word.text) ∙ e in
    let same : firsts ts ≡ firsts (ts ++ t ∷ []) = sym (firsts_push ts t ∙ ap (λ b. firsts ts ++ cond b [] (t ∷ [])) among ∙ append-nil (firsts ts)) in
    record {
      stand = subst (λ (l : List Target). NamesStand (class_list first.script) s.known.types l s.names) same n.stand;
      seen = λ x. n.seen x ∙ sym (any_push (λ u. bytes_eq u.word.text x) ts t ∙ split (bytes_eq t.word.text x) (λ b. (is_among ts x || b) ≡ is_among ts x)
          (λ y. let here : is_among ts x ≡ true = ap (is_among ts) (sym (name_read t.word.text x y)) ∙ among in ap (λ b. b || true) here ∙ sym here)
          (λ f. or_false (is_among ts x)));
      keeps = n.keeps;
    }

-- a target of a new name
pub one_more_name : (first : ClassTypes) (ts : List Target) (s r : TypedNames) (t : Target) (k : TypedName) (p : Place) → (roles_in s.seen.roles t.word.text).name ≡ false
    → r.names ≡ s.names ++ k ∷ [] → k.name ≡ t.word.text → StandsAt r.known.types k.ty (WritesAny (class_list s.known.script) t.ann) → Extends s.known r.known
    → ((x : List ℕ) → roles_in r.seen.roles x ≡ cond (bytes_eq t.word.text x) (together (roles_in s.seen.roles x) (alone role.Assigned p)) (roles_in s.seen.roles x))
    → NamesTyped first ts s → NamesTyped first (ts ++ t ∷ []) r
one_more_name first ts s r t k p e names name stands keeps noted n =
    let among : is_among ts t.word.text ≡ false = sym (n.seen t.word.text) ∙ e in
    let cs = class_list first.script in
    let more : firsts ts ++ t ∷ [] ≡ firsts (ts ++ t ∷ []) = sym (firsts_push ts t ∙ ap (λ b. firsts ts ++ cond b [] (t ∷ [])) among) in
    let grown : NamesStand cs r.known.types (firsts ts) s.names = names_grow cs s.known.types r.known.types (firsts ts) s.names keeps.types n.stand in
    let here : StandsAt r.known.types k.ty (WritesAny cs t.ann) = subst (λ (c : Script). StandsAt r.known.types k.ty (WritesAny (class_list c) t.ann)) n.keeps.script stands in
    let pushed = names_push cs r.known.types (firsts ts) s.names t k grown name here in
    record {
      stand = subst (λ (l : List TypedName). NamesStand cs r.known.types (firsts (ts ++ t ∷ [])) l) (sym names)
          (subst (λ (l : List Target). NamesStand cs r.known.types l (s.names ++ k ∷ [])) more pushed);
      seen = λ x. ap (λ (w : Roles). w.name) (noted x)
          ∙ split (bytes_eq t.word.text x) (λ b. (cond b (together (roles_in s.seen.roles x) (alone role.Assigned p)) (roles_in s.seen.roles x)).name ≡ (is_among ts x || b))
          (λ y. ap (λ b. b || true) (n.seen x)) (λ f. n.seen x ∙ sym (or_false (is_among ts x)))
          ∙ sym (any_push (λ u. bytes_eq u.word.text x) ts t);
      keeps = extends_trans first s.known r.known n.keeps keeps;
    }

-- the target at a place, and those behind it
pub targets_at : (xs : List rust.Target) (i : ℕ) (x : rust.Target) → i < length xs → x ≡ get_or xs i x → map target_of (drop i xs) ≡ target_of x ∷ map target_of (drop (i + 1) xs)
targets_at xs i x h e = ap (map target_of) (rest_at xs i x h e)

pub targets_done : (xs : List rust.Target) (i : ℕ) (x : rust.Target) → i < length xs → x ≡ get_or xs i x → map target_of (take i xs) ++ target_of x ∷ [] ≡ map target_of (take (i + 1) xs)
targets_done xs i x h e = sym (ap (map target_of) (done_at xs i x h e) ∙ map-append target_of (take i xs) (x ∷ []))
