-- The small script has its casts.
use Rattle.std.proofs.Common.{◌≡◌, inl, inr, List, [], ◌∷◌, None, codes, refl, sym}
use Rattle.std.specs.Prelude.{Contains}
use Rattle.mono_syntax.specs.declared.leaf.Kind.TheVariants as kind
use Rattle.mono_syntax.specs.CastStmt.{no_stmts, more_stmts}
use Rattle.mono_syntax.specs.CastStmtView.{cast_block}
use Rattle.mono_syntax.specs.Ty.{Ty, dyn, int}
use Rattle.mono_tree.specs.Meet.{Consistent}
use Rattle.mono_tree.specs.Precise.{below_dyn, both_int}
use Rattle.mono_tree.proofs.Order.{reflexive}
use Rattle.script_rules.specs.CastExample.{spot, source, scoped, lines, with_lines}
use Rattle.script_rules.specs.Writes.{writes_dyn, writes_int}
use Rattle.static_types.specs.Names.{Names}
use Rattle.static_types.specs.Rules.{takes}
use Rattle.cast_rules.specs.declared.site.TypedSite.{TypedSite}
use Rattle.cast_rules.specs.Elaborates.{as_it_is, uses_none, uses_more, elaborates, of_none, of_more}
use Rattle.cast_rules.specs.ElaboratesLines.{line}
use Rattle.cast_rules.specs.HasCasts.{ElaborateItems, no_item, line_item, IsOfSite, HasCasts}
use Rattle.cast_rules.specs.Nodes as node
use Rattle.cast_rules.specs.Sites.{site_from, plain_site}
use Rattle.cast_rules.proofs.ConsistentCasts.{self_consistent}
use Rattle.cast_rules.proofs.OneScript.{items_row}
use Rattle.cast_rules.proofs.Standing.{nothing, head_stands, tail_stands, first_or, only}

abbrev names : Names
names = record { classes = []; functions = []; values = record { name = codes "x"; ty = int } ∷ record { name = codes "y"; ty = dyn } ∷ []; threads = []; result = None }

abbrev first_name : TypedSite
first_name = plain_site (spot 2 20) kind.Name

abbrev the_cast : TypedSite
the_cast = site_from (spot 2 20) kind.Cast int dyn

abbrev second_name : TypedSite
second_name = plain_site (spot 3 7) kind.Name

abbrev all : List TypedSite
all = first_name ∷ the_cast ∷ second_name ∷ []

with_dyn : (t : Ty) → Consistent t dyn
with_dyn t = record { meet = t; is_meet = record { left = reflexive t; right = below_dyn; greatest = λ x h k. h } }

items : ElaborateItems names [] source.items [] (cast_block lines) names all
items =
    line_item {us = []}
    (line {us = []} {vs = []} (int ∷ []) (of_more {us = []} (elaborates (takes [] int) of_none refl tt refl uses_none refl node.number refl) of_none) (refl, refl)
    (self_consistent int, tt) (uses_more (as_it_is both_int) uses_none) refl node.assign refl)
    (line_item {us = first_name ∷ the_cast ∷ []}
    (line {us = first_name ∷ the_cast ∷ []} {vs = first_name ∷ the_cast ∷ []} (dyn ∷ [])
    (of_more {us = first_name ∷ the_cast ∷ []}
    (elaborates {us = first_name ∷ []} {vs = first_name ∷ []} (takes (dyn ∷ []) dyn)
    (of_more {us = first_name ∷ []} (elaborates (takes [] int) of_none (refl, refl) tt refl uses_none refl node.name refl) of_none) (writes_dyn, refl) (with_dyn int, tt) refl
    (uses_more (as_it_is both_int) uses_none) refl node.written refl)
    of_none)
    (refl, refl) (self_consistent dyn, tt) (uses_more (as_it_is below_dyn) uses_none) refl node.assign refl)
    (line_item {us = all}
    (line {us = all} {vs = all} (dyn ∷ [])
    (of_more {us = all} (elaborates {us = first_name ∷ the_cast ∷ []} {vs = first_name ∷ the_cast ∷ []} (takes [] dyn) of_none (refl, refl) tt refl uses_none refl node.name refl) of_none) (refl, refl)
    (self_consistent dyn, tt) (uses_more (as_it_is below_dyn) uses_none) refl (node.print refl) refl)
    no_item))

int_alone : Contains (int ∷ []) dyn → ⊥
int_alone c = let e = only int dyn c in absurd cc

among_sites : (t : Ty) → Contains (dyn ∷ int ∷ []) t → IsOfSite all t
among_sites t c =
    let among : Contains all the_cast = tail_stands first_name (the_cast ∷ second_name ∷ []) the_cast (head_stands the_cast (second_name ∷ [])) in
    elim (first_or dyn (int ∷ []) t c) [
      | inl e ↦ record { site = the_cast; among = among; is = inr (sym e) }
      | inr d ↦ record { site = the_cast; among = among; is = inl (sym (only int t d)) }
    ]

pub example_has : HasCasts scoped (with_lines lines)
example_has = record {
  names = names;
  behind = names;
  all = all;
  scoped = refl;
  scope = record { classes = refl; functions = refl; values = (refl, writes_int, (refl, writes_dyn, tt)); threads = refl; result = refl };
  classes = tt;
  items = items;
  values = refl;
  threads = refl;
  sites = (
    record { place = refl; kind = refl; source = refl; target = refl },
    (record { place = refl; kind = refl; source = refl; target = refl }, (record { place = refl; kind = refl; source = refl; target = refl }, tt)),
  );
  distinct = (int_alone, ((λ c. nothing int ⊥ c), tt));
  used = among_sites;
}

pub example_lost : HasCasts scoped (with_lines []) → ⊥
example_lost h =
    let r = items_row h.names h.behind [] h.all source.items [] no_stmts h.items in
    let e : no_stmts ≡ more_stmts r.line r.others = r.whole in
    cc
