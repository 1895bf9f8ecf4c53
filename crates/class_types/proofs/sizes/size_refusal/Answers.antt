use Rattle.std.proofs.Common.{◌≡◌, ◌∙◌, sym, ap, subst, None, []}
use Rattle.std.specs.Prelude.{slice_get}
use Rattle.script_rules.specs.Definitions.{classes_of, statements_of}
use Rattle.script_rules.specs.Scoping.{class_list}
use Rattle.class_types.specs.computed.FoundFaults.{first_from, items_faults, name_fault, script_faults}
use Rattle.class_types.specs.computed.Made.{look, names_of_classes}
use Rattle.class_types.specs.computed.Measured.{AreMeasured}
use Rattle.script_rules.specs.SourceParts.{block_names}
use Rattle.class_types.proofs.FoundLaws.{first-append, if_ok}
use Rattle.class_types.proofs.SizeFaultLaws.{first-fault}
use Rattle.class_types.proofs.sizes.size_refusal.Goals as goal
use Rattle.mono_syntax.specs.Limits.{most_names}

pub returns : goal.returns
returns c =
    let items = c.as_slice-items.ensures ∙ c.get.ensures in
    let s = c.args.script.now in
    let own : AreMeasured (class_list s) None c.in_ok-sizes.sizes.own.items = subst (λ l. AreMeasured (classes_of l) None c.in_ok-sizes.sizes.own.items) items c.in_ok-sizes.ensures.own in
    let names : c.in_ok-sizes.sizes.names ≡ names_of_classes (class_list s) = subst (λ l. c.in_ok-sizes.sizes.names ≡ names_of_classes (classes_of l)) items c.in_ok-sizes.ensures.names in
    let shown = c.as_slice-items.result.now in
    let named = look c.in_ok-sizes.sizes.names c.in_ok-sizes.sizes.own.items None in
    let crowded = name_fault (slice_get (block_names [] (statements_of shown)) most_names) in
    if_ok _ _ _ (λ r e. first-fault s c.in_ok-sizes.sizes.own.items own r (e ∙ (ap (λ o. first_from o crowded) c.in_ok-so_far.ensures ∙ (sym (first-append None (items_faults named shown) crowded) ∙ (λ i. first_from None (script_faults (look (names i) c.in_ok-sizes.sizes.own.items None) (items i))))))) c.main_faults.ensures
