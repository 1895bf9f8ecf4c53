-- A table after one more occurrence, and the roles in a list with one more at its end.
use Rattle.std.proofs.Common.{◌≡◌, ℕ, ◌+◌, ◌<◌, length, get_or, take, Bool, true, false, cond, ◌||◌, List, [], ◌∷◌, ◌++◌, Option, Some, None, refl, sym, ◌∙◌, ap, subst}
use Rattle.std.specs.Prelude.{bytes_eq, unwrap_or}
use Rattle.std.specs.Option.{option_or}
use Rattle.std.specs.BTreeMap.{BTreeMap, UpdatesBy}
use Rattle.std.specs.Cmp.{eq_by_cmp_equiv}
use Rattle.std.specs.Cmp.Lexicographic.{slice_cmp, nat_list_cmp_total, nat_list_eq_equiv}
use Rattle.std.specs.Map.{lookup, IsKeyTest, AreApart, KeepsOthers}
use Rattle.std.specs.Ordering.{is_eq, nat_cmp}
use Rattle.std.specs.declared.vec.Vec.{Vec}
use Rattle.std.proofs.lemmas.List.{take_more}
use Rattle.std.proofs.lemmas.Map.Text.{is_eq-slice_cmp}
use Rattle.mono_list.proofs.Cases.{split}
use Rattle.mono_tree.proofs.MeetMade.{name_read}
use Rattle.mono_syntax.specs.declared.leaf.Place.{Place}
use Rattle.script_rules.specs.declared.occurrence.Occurrence.{Occurrence}
use Rattle.name_scope.specs.declared.roles.Roles.{Roles}
use Rattle.name_scope.specs.computed.NameRoles.{no_roles, alone, together, roles_of}
use Rattle.name_scope.specs.computed.Table.{roles_in}

other_entries : {K : Type 0} (eq : K → K → Bool) (test : K → Bool) {X : Type 0} (old new : List (K × X)) → KeepsOthers eq test old new → (other : K → Bool) → IsKeyTest eq other → AreApart test other → lookup other new ≡ lookup other old
unfolding KeepsOthers
other_entries eq test old new h = h

apart : (bs cs ks : List ℕ) → bytes_eq bs cs ≡ false → is_eq (slice_cmp nat_cmp bs ks) ≡ true → is_eq (slice_cmp nat_cmp cs ks) ≡ false
apart bs cs ks n y =
    is_eq-slice_cmp cs ks ∙ nat_list_eq_equiv.symm cs ks ∙ sym (nat_list_eq_equiv.congr bs ks cs (sym (is_eq-slice_cmp bs ks) ∙ y)) ∙ n

-- one more occurrence
pub noted_in : {Y : Type 0} (m n : BTreeMap (Vec ℕ Y) Roles) (bs : List ℕ) (w a : Roles) → w ≡ together (roles_in m bs) a
    → UpdatesBy (λ x y. slice_cmp nat_cmp x.items y.items) (λ k. slice_cmp nat_cmp bs k.items) m n (Some w)
    → (x : List ℕ) → roles_in n x ≡ cond (bytes_eq bs x) (together (roles_in m x) a) (roles_in m x)
noted_in m n bs w a e h x =
    split (bytes_eq bs x) (λ b. roles_in n x ≡ cond b (together (roles_in m x) a) (roles_in m x))
    (λ t. subst (λ (y : List ℕ). roles_in n y ≡ together (roles_in m y) a) (name_read bs x t) (ap (λ o. unwrap_or o no_roles) h.1 ∙ e))
    (λ f. ap (λ o. unwrap_or o no_roles)
    (other_entries _ _ _ _ h.3 _ (λ p q. (eq_by_cmp_equiv nat_list_cmp_total).congr x p.items q.items) (λ k. apart bs x k.items f)))

or_false : (a : Bool) → (a || false) ≡ a
or_false true = refl
or_false false = refl

or_none : (p : Option Place) → option_or p None ≡ p
or_none None = refl
or_none (Some p) = refl

or_assoc : (a b c : Bool) → ((a || b) || c) ≡ (a || (b || c))
or_assoc true b c = refl
or_assoc false b c = refl

option_or_assoc : (a b c : Option Place) → option_or (option_or a b) c ≡ option_or a (option_or b c)
option_or_assoc None b c = refl
option_or_assoc (Some p) b c = refl

pub together_none : (r : Roles) → together r no_roles ≡ r
together_none r = λ i. record {
  field = or_false r.field i;
  name = or_false r.name i;
  thread = or_false r.thread i;
  ended = or_false r.ended i;
  class = or_false r.class i;
  definition = or_none r.definition i;
}

pub together_assoc : (a b c : Roles) → together (together a b) c ≡ together a (together b c)
together_assoc a b c = λ i. record {
  field = or_assoc a.field b.field c.field i;
  name = or_assoc a.name b.name c.name i;
  thread = or_assoc a.thread b.thread c.thread i;
  ended = or_assoc a.ended b.ended c.ended i;
  class = or_assoc a.class b.class c.class i;
  definition = option_or_assoc a.definition b.definition c.definition i;
}

-- one more occurrence at the end of a list
pub roles_of-push : (os : List Occurrence) (o : Occurrence) (x : List ℕ) → roles_of (os ++ o ∷ []) x ≡ cond (bytes_eq o.text x) (together (roles_of os x) (alone o.role o.place)) (roles_of os x)
roles_of-push [] o x =
    split (bytes_eq o.text x) (λ b. cond b (together (alone o.role o.place) no_roles) no_roles ≡ cond b (together no_roles (alone o.role o.place)) no_roles)
    (λ t. together_none (alone o.role o.place))
    (λ f. refl)
roles_of-push (p ∷ os) o x =
    let a = alone o.role o.place in
    let r = roles_of os x in
    ap (λ (s : Roles). cond (bytes_eq p.text x) (together (alone p.role p.place) s) s) (roles_of-push os o x)
    ∙ split (bytes_eq p.text x) (λ b. cond b (together (alone p.role p.place) (cond (bytes_eq o.text x) (together r a) r)) (cond (bytes_eq o.text x) (together r a) r)
    ≡ cond (bytes_eq o.text x) (together (cond b (together (alone p.role p.place) r) r) a) (cond b (together (alone p.role p.place) r) r))
    (λ t. split (bytes_eq o.text x) (λ b. together (alone p.role p.place) (cond b (together r a) r) ≡ cond b (together (together (alone p.role p.place) r) a) (together (alone p.role p.place) r))
    (λ u. sym (together_assoc (alone p.role p.place) r a)) (λ u. refl))
    (λ f. refl)

-- tables agree with one more occurrence of a list
pub noted_more : (old new : List ℕ → Roles) (all : List Occurrence) (i : ℕ) (o : Occurrence) → i < length all → o ≡ get_or all i o
    → ((x : List ℕ) → new x ≡ cond (bytes_eq o.text x) (together (old x) (alone o.role o.place)) (old x))
    → ((x : List ℕ) → old x ≡ roles_of (take i all) x) → (x : List ℕ) → new x ≡ roles_of (take (i + 1) all) x
noted_more old new all i o h e n seen x =
    let more = λ (r : Roles). cond (bytes_eq o.text x) (together r (alone o.role o.place)) r in
    let done = take i all in
    n x ∙ ap more (seen x) ∙ sym (roles_of-push done o x)
    ∙ sym (ap (λ l. roles_of l x) (take_more all i o h ∙ ap (λ p. done ++ p ∷ []) (sym e)))
