use Rattle.std.proofs.Common.{◌≡◌, ◌∙◌, ◌++◌, ap, subst, [], map, IfOk}
use Rattle.std.specs.Prelude.{slice_get}
use Rattle.script_rules.specs.Definitions.{statements_of}
use Rattle.class_types.specs.computed.FoundFaults.{first_from, name_fault}
use Rattle.class_types.specs.computed.NewNames.{new_words}
use Rattle.script_rules.specs.SourceParts.{block_names, body_bound}
use Rattle.class_types.proofs.NameLaws.{new-first}
use Rattle.class_types.proofs.block.main_faults.Goals as goal
use Rattle.mono_syntax.specs.Limits.{most_names}

pub returns : goal.returns
returns c =
    let words : map (λ w. w.now) c.as_slice.result.now ≡ body_bound (statements_of c.args.items.now)
    = ap (map (λ w. w.now)) c.as_slice.ensures.value ∙ (c.in_ok-words.ensures ∙ ap (λ l. map (λ w. w.now) l ++ body_bound (statements_of c.args.items.now)) c.new.ensures.items) in
    let names : new_words [] (map (λ w. w.now) c.as_slice.result.now) ≡ block_names [] (statements_of c.args.items.now) = ap (new_words []) words ∙ new-first (body_bound (statements_of c.args.items.now)) in
    subst (λ l. IfOk c.crowded.result (λ r. r ≡ first_from c.args.so_far (name_fault (slice_get l most_names)))) names c.crowded.ensures
