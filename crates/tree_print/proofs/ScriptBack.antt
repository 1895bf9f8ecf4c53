-- Tokens of a printed script have its tree by the grammar, but for places.
use Rattle.std.proofs.Common.{◌≡◌, List, [], ◌∷◌, refl, sym, ◌∙◌, subst}
use Rattle.mono_syntax.specs.declared.tree.Item.{Item}
use Rattle.mono_syntax.specs.declared.tree.Item.TheVariants as item
use Rattle.mono_syntax.specs.declared.tree.Script.{Script}
use Rattle.spelled_tokens.specs.declared.token.Mark.TheVariants as mark
use Rattle.spelled_tokens.specs.declared.token.Spelled.{Spelled}
use Rattle.spelled_tokens.specs.declared.token.What.TheVariants as what
use Rattle.spelled_tokens.specs.SpelledTokens.{sign}
use Rattle.token_lines.specs.Back.{whats}
use Rattle.token_lines.specs.Lines.{whats_of_lines}
use Rattle.parse_script.specs.Script as sc
use Rattle.parse_script.specs.Script.{DerivesItem, DerivesItems, DerivesWhole}
use Rattle.tree_print.specs.Placeless.{bare_item, bare_items, IsSameButPlaces}
use Rattle.tree_print.specs.ScriptLines.{script_lines}
use Rattle.tree_print.proofs.Splits.{split_whats, no_whats}
use Rattle.tree_print.proofs.Nested.{item_whats, items_whats, script_whats}
use Rattle.tree_print.proofs.Pieces.{part, further}
use Rattle.tree_print.proofs.Full.{full_script}
use Rattle.tree_print.proofs.Structure.{laid_script}
use Rattle.tree_print.proofs.StmtsBack.{stmt_back}
use Rattle.tree_print.proofs.DefsBack.{class_back, def_back}

item_back : {ts : List Spelled} {i : Item} → DerivesItem ts i → (us : List Spelled) → whats us ≡ item_whats i → (j : Item) × DerivesItem us j × (bare_item j ≡ bare_item i)
item_back (sc.class ts c d) us e =
    let h = class_back d us e in
    (item.Class h.0, sc.class us h.0 h.1, λ j. item.Class (h.2 j))
item_back (sc.def ts f d) us e =
    let h = def_back d us e in
    (item.Def h.0, sc.def us h.0 h.1, λ j. item.Def (h.2 j))
item_back (sc.statement ts s d) us e =
    let h = stmt_back d us e in
    (item.Stmt h.0, sc.statement us h.0 h.1, λ j. item.Stmt (h.2 j))

items_back : {ts : List Spelled} {is : List Item} → DerivesItems ts is → (us : List Spelled) → whats us ≡ items_whats is
    → (js : List Item) × DerivesItems us js × (bare_items js ≡ bare_items is)
items_back sc.no_items us e = ([], subst (λ (l : List Spelled). DerivesItems l []) (sym (no_whats us e)) sc.no_items, refl)
items_back (sc.more_items ts vs i is d k) us e =
    let c = split_whats us (item_whats i) (items_whats is) e in
    let h = item_back d c.0 c.3 in
    let m = items_back k c.1 c.4 in
    (h.0 ∷ m.0, subst (λ (l : List Spelled). DerivesItems l (h.0 ∷ m.0)) (sym c.2) (sc.more_items c.0 c.1 h.0 m.0 h.1 m.1), λ j. h.2 j ∷ m.2 j)

abbrev script_of : List Item → Script
script_of is = record { items = is }

script_back : (ts : List Spelled) (s : Script) → DerivesWhole ts s → (us : List Spelled) → whats us ≡ script_whats s → (t : Script) × DerivesWhole us t × IsSameButPlaces t s
script_back ts s (sc.script p vs is d) us e =
    let c = part us (items_whats is) (what.Mark mark.End) [] e in
    let h = items_back d c.front c.fronts in (
      script_of h.0,
      subst (λ (l : List Spelled). DerivesWhole l (script_of h.0)) (sym (further c.front (sign mark.End c.place) c.is (no_whats c.back c.backs))) (sc.script c.place c.front h.0 h.1),
      λ j. script_of (h.2 j),
    )

-- tokens that are those of a script's printed lines have the script's tree, but for places
pub reads_lines : (ts : List Spelled) (s : Script) → DerivesWhole ts s → (us : List Spelled) → whats us ≡ whats_of_lines 0 (script_lines s)
    → (t : Script) × DerivesWhole us t × IsSameButPlaces t s
reads_lines ts s d us e = script_back ts s d us (e ∙ laid_script s (full_script ts s d))
