use Rattle.std.proofs.Common.{◌≡◌, ◌∙◌, ◌++◌, ap, subst, [], map, IfOk}
use Rattle.std.specs.Prelude.{slice_get}
use Rattle.class_types.specs.computed.FoundFaults.{first_from, name_fault}
use Rattle.class_types.specs.computed.NewNames.{new_words}
use Rattle.script_rules.specs.SourceParts.{block_names, body_bound}
use Rattle.class_types.proofs.NameLaws.{new-first}
use Rattle.class_types.proofs.block.names_faults.Goals as goal
use Rattle.mono_syntax.specs.Limits.{most_names}

pub returns : goal.returns
returns c =
    let words : map (λ w. w.now) c.as_slice-3.result.now ≡ map (λ p. p.name) c.as_slice.result.now ++ body_bound c.as_slice-2.result.now
    = ap (map (λ w. w.now)) c.as_slice-3.ensures.value ∙ (c.in_ok-words.ensures ∙ ap (λ l. l ++ body_bound c.as_slice-2.result.now)
    (c.in_ok-params.ensures ∙ ap (λ l. map (λ w. w.now) l ++ map (λ p. p.name) c.as_slice.result.now) c.new.ensures.items)) in
    let here : map (λ p. p.name) c.as_slice.result.now ++ body_bound c.as_slice-2.result.now ≡ map (λ p. p.name) c.args.function.now.params ++ body_bound c.args.function.now.body
    = λ i. map (λ p. p.name) (c.as_slice.ensures i) ++ body_bound (c.as_slice-2.ensures i) in
    let names : new_words [] (map (λ w. w.now) c.as_slice-3.result.now) ≡ block_names c.args.function.now.params c.args.function.now.body = ap (new_words []) (words ∙ here) ∙ new-first (map (λ p. p.name) c.args.function.now.params ++ body_bound c.args.function.now.body) in
    subst (λ l. IfOk c.crowded.result (λ r. r ≡ first_from c.args.so_far (name_fault (slice_get l most_names)))) names c.crowded.ensures
