-- The first fault of classes that lead back to themselves, one class after the other.
use Rattle.std.proofs.Common.{◌≡◌, ◌∙◌, sym, ap, subst, refl, ℕ, ◌+◌, ◌<◌, ◌≤◌, Bool, true, List, [], length, arith, inl, inr}
use Rattle.std.specs.Prelude.{false, Option, Some, None, MatchOption, slice_get}
use Rattle.std.proofs.lemmas.Bool.{cases_eq}
use Rattle.mono_syntax.specs.declared.leaf.Place.{Place}
use Rattle.mono_syntax.specs.declared.refusal.Refusal.{Refusal}
use Rattle.mono_syntax.specs.declared.tree.ClassDef.{ClassDef}
use Rattle.script_rules.specs.FirstFault.{no_later, IsFirst, IsFaultless}
use Rattle.class_types.specs.computed.FoundFaults.{found}
use Rattle.class_types.specs.computed.Leading.{word_fault, recursive_at, IsCovered, AreLeading, LeadsBack, AddsFaults}
use Rattle.class_types.specs.computed.Made.{names_of_classes}
use Rattle.name_places.specs.Places.{place_in}
use Rattle.class_types.specs.computed.Ranks.{may_be_first, NeverRise}
use Rattle.script_rules.specs.Recursion.{field_names, RecursionFault, IsRecursive}
use Rattle.class_types.proofs.Gets.{some_is, none_some, get-within}
use Rattle.class_types.proofs.LeadingLaws.{all_faults, found-all, all-from, all-to, word-from, word-to, class-at, at-class}
use Rattle.class_types.proofs.OrderLaws.{In, in-contains, contains-in, first-least, first-none, transitive, kept}
use Rattle.class_types.proofs.RankLaws.{leads-rank, may-false}

-- ---- what a class adds

pub adds-none : (cs : List ClassDef) (d : ClassDef) (at : ℕ) (so_far : Option Refusal)
    → ((p : Place) → place_in (names_of_classes cs) d.name.text ≡ Some at → LeadsBack cs d p → IsCovered so_far (recursive_at p)) → AddsFaults cs d at so_far so_far
adds-none cs d at so_far covered = record { faults = []; first = refl; sound = λ r h. absurd h; complete = λ p first b. inr (covered p first b) }

-- a class that has no fault before the first so far
pub adds-later : (cs : List ClassDef) (ranks : List ℕ) (d : ClassDef) (at : ℕ) (so_far : Option Refusal) → NeverRise cs ranks
    → may_be_first (names_of_classes cs) ranks d.name.text so_far (field_names d.fields) ≡ false → AddsFaults cs d at so_far so_far
adds-later cs ranks d at so_far fall e = adds-none cs d at so_far (λ p first b.
    subst (λ q. IsCovered so_far (recursive_at q)) (sym b.place)
    (may-false (names_of_classes cs) ranks d.name.text so_far (field_names d.fields) e b.name (contains-in b.name (field_names d.fields) b.stands) (leads-rank cs ranks fall b.leads)))

pub adds-named : (cs : List ClassDef) (d : ClassDef) (at : ℕ) (marks : List Bool) (so_far more : Option Refusal)
    → place_in (names_of_classes cs) d.name.text ≡ Some at → slice_get cs at ≡ Some d → AreLeading cs d.name.text marks
    → more ≡ found (word_fault (names_of_classes cs) marks) so_far (field_names d.fields) → AddsFaults cs d at so_far more
adds-named cs d at marks so_far more first is leading e =
    let counts = (class-at cs d.name.text at d first is).0 in
    record {
      faults = all_faults (word_fault (names_of_classes cs) marks) (field_names d.fields);
      first = e ∙ found-all (word_fault (names_of_classes cs) marks) so_far (field_names d.fields);
      sound = λ r h.
          let w = all-from (word_fault (names_of_classes cs) marks) (field_names d.fields) r h in
          let marked = word-from (names_of_classes cs) marks w.0 r w.2 in (
            record { name = w.0; counts = counts; stands = in-contains w.0 (field_names d.fields) w.1; leads = leading.sound w.0.text marked.0; place = ap (λ x. x.place) (sym marked.1) },
            ap (λ x. x.reason) (sym marked.1),
          );
      complete = λ p same b.
          inl (subst (λ q. In (recursive_at q) (all_faults (word_fault (names_of_classes cs) marks) (field_names d.fields))) (sym b.place)
          (all-to (word_fault (names_of_classes cs) marks) (field_names d.fields) b.name (recursive_at b.name.place) (contains-in b.name (field_names d.fields) b.stands)
          (word-to (names_of_classes cs) marks b.name (leading.complete b.name.text d b.counts b.leads))));
    }

-- ---- the first of all

-- the first fault of the classes before this place
pub record IsFirstBelow (cs : List ClassDef) (at : ℕ) (so_far : Option Refusal) : Type 0 where
  pub stands : (r : Refusal) → so_far ≡ Some r → IsRecursive cs r.place r.reason
  pub first : (i : ℕ) (d : ClassDef) (p : Place) → i < at → slice_get cs i ≡ Some d → place_in (names_of_classes cs) d.name.text ≡ Some i → LeadsBack cs d p
      → (r : Refusal) × (so_far ≡ Some r) × (no_later r (recursive_at p) ≡ true)

pub below-start : (cs : List ClassDef) → IsFirstBelow cs 0 None
below-start cs = record { stands = λ r e. none_some e; first = λ i d p h. absurd (omega arith) }

before : (a b c : Refusal) → no_later a b ≡ true → no_later b c ≡ true → no_later a c ≡ true
before a b c h k = transitive a b c h k

recursive-from : (cs : List ClassDef) (d : ClassDef) (p : Place) → LeadsBack cs d p → RecursionFault cs p
recursive-from cs d p b = record { class = d; name = b.name; counts = b.counts; stands = b.stands; leads = b.leads; place = b.place }

pub below-next : (cs : List ClassDef) (at : ℕ) (d : ClassDef) (so_far more : Option Refusal) → slice_get cs at ≡ Some d → IsFirstBelow cs at so_far → AddsFaults cs d at so_far more → IsFirstBelow cs (at + 1) more
below-next cs at d so_far more is below adds = record {
  stands = λ r e.
      let least = first-least so_far adds.faults r (sym adds.first ∙ e) in
      elim least.one [
        | inl old ↦ below.stands r old
        | inr new ↦ (let f = adds.sound r new in (recursive-from cs d r.place f.0, f.1))
      ];
  first = λ i c p h ci fi b. go more refl i c p h ci fi b;
}
  where
    go : (o : Option Refusal) → more ≡ o → (i : ℕ) (c : ClassDef) (p : Place) → i < at + 1 → slice_get cs i ≡ Some c → place_in (names_of_classes cs) c.name.text ≡ Some i → LeadsBack cs c p
        → (r : Refusal) × (more ≡ Some r) × (no_later r (recursive_at p) ≡ true)
    go None e i c p h ci fi b = elim (cases_eq i at) [
      | inl same ↦
          let dc : d ≡ c = some_is (sym is ∙ (ap (slice_get cs) (sym same) ∙ ci)) in
          let b' : LeadsBack cs d p = subst (λ x. LeadsBack cs x p) (sym dc) b in
          let f' : place_in (names_of_classes cs) d.name.text ≡ Some at = ap (λ x. place_in (names_of_classes cs) x.name.text) dc ∙ (fi ∙ ap Some same) in
          elim (adds.complete p f' b') [
            | inl new ↦ absurd (first-none so_far adds.faults (sym adds.first ∙ e) (recursive_at p) new)
            | inr old ↦ absurd (kept so_far old.0 old.1 adds.faults (sym adds.first ∙ e))
          ]
      | inr other ↦
          let old = below.first i c p (omega arith) ci fi b in
          absurd (kept so_far old.0 old.1 adds.faults (sym adds.first ∙ e))
    ]
    go (Some r) e i c p h ci fi b =
        let least = first-least so_far adds.faults r (sym adds.first ∙ e) in
        elim (cases_eq i at) [
          | inl same ↦
              let dc : d ≡ c = some_is (sym is ∙ (ap (slice_get cs) (sym same) ∙ ci)) in
              let b' : LeadsBack cs d p = subst (λ x. LeadsBack cs x p) (sym dc) b in
              let f' : place_in (names_of_classes cs) d.name.text ≡ Some at = ap (λ x. place_in (names_of_classes cs) x.name.text) dc ∙ (fi ∙ ap Some same) in
              elim (adds.complete p f' b') [
                | inl new ↦ (r, e, least.all (recursive_at p) new)
                | inr old ↦ (r, e, before r old.0 (recursive_at p) (least.old old.0 old.1) old.2)
              ]
          | inr other ↦
              let old = below.first i c p (omega arith) ci fi b in
              (r, e, before r old.0 (recursive_at p) (least.old old.0 old.1) old.2)
        ]

pub below-end : (cs : List ClassDef) (at : ℕ) (so_far : Option Refusal) → length cs ≤ at → IsFirstBelow cs at so_far
    → MatchOption so_far (IsFaultless (IsRecursive cs)) (IsFirst (IsRecursive cs))
below-end cs at so_far h below = go so_far refl
  where
    all : (p : Place) → RecursionFault cs p → (r : Refusal) × (so_far ≡ Some r) × (no_later r (recursive_at p) ≡ true)
    all p f =
        let there = at-class cs f.class.name.text f.class f.counts in
        let within : there.0 < length cs = get-within cs there.0 f.class there.2 in
        below.first there.0 f.class p (omega arith) there.2 there.1 (record { name = f.name; counts = f.counts; stands = f.stands; leads = f.leads; place = f.place })

    go : (o : Option Refusal) → so_far ≡ o → MatchOption o (IsFaultless (IsRecursive cs)) (IsFirst (IsRecursive cs))
    go None e = λ p x f. let there = all p f.0 in none_some (sym e ∙ there.1)
    go (Some r) e = record {
      stands = below.stands r e;
      first = λ s f.
          let there = all s.place f.0 in
          let same : r ≡ there.0 = some_is (sym e ∙ there.1) in
          let whole : recursive_at s.place ≡ s = ap (λ x. record { place = s.place; reason = x }) (sym f.1) in
          subst (λ x. no_later r x ≡ true) whole (subst (λ x. no_later x (recursive_at s.place) ≡ true) (sym same) there.2);
    }
