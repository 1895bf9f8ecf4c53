use Rattle.std.proofs.Common.{◌≡◌, ◌<◌, ℕ, List, ◌∙◌, ap, sym, rules, length}
use Rattle.std.specs.Prelude.{Some}
use Rattle.std.proofs.lemmas.Option.{slice_get_within, slice_get-get_or}
use Rattle.type_shapes.proofs.ShapeTurns.{none_more}
use Rattle.type_numbers.proofs.looks.place_in.Goals as goal

pub returns-then-eq : goal.returns-then-eq
returns-then-eq c =
    let e : c.index-names-i.result ≡ c.args.name.now = search rules in
    slice_get-get_or c.args.names.now c.loop-i.i c.index-names-i.result c.loop-i-test.true
    ∙ ap (λ (x : List ℕ). Some x) (sym c.index-names-i.is ∙ e)

pub loop-i-preserved : goal.loop-i-preserved
loop-i-preserved c =
    let h : c.index-names-i.result ≡ c.args.name.now → ⊥ = search rules in
    none_more c.args.names.now c.args.name.now c.index-names-i.result c.loop-i.i c.loop-i-test.true c.index-names-i.is h c.loop-i.invariant

pub returns : goal.returns
returns c = λ k e.
    let l : k < length c.args.names.now = slice_get_within c.args.names.now k c.args.name.now e in
    c.loop-i.invariant k (search rules) e
