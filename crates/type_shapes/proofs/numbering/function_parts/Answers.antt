use Rattle.std.proofs.Common.{◌≡◌, ◌∷◌, [], ◌++◌, List, ℕ, sym, subst, ap, ◌∙◌}
use Rattle.mono_tree.proofs.ClosedPuts.{in_rest}
use Rattle.type_shapes.specs.Shows.{AreNamed}
use Rattle.type_shapes.proofs.RowLaws.{if_ok}
use Rattle.type_shapes.proofs.numbering.function_parts.Goals as goal

pub numbers_onto-requires-clause-there : goal.numbers_onto-requires-clause-there
numbers_onto-requires-clause-there c = λ t i. c.requires.there t (in_rest c.args.out.now t c.args.params.now i)

pub returns : goal.returns
returns c =
    let q : c.push.new.self ≡ c.number_in-n.result ∷ [] = c.in_ok-push.ensures.ok ∙ ap (λ (l : List ℕ). l ++ c.number_in-n.result ∷ []) c.new-first.ensures in
    if_ok c.numbers_onto.result c.numbers_onto.ensures (λ ns f. f (c.args.out.now ∷ [])
    (subst (λ (x : List ℕ). AreNamed c.args.set.now.keys x (c.args.out.now ∷ [])) (sym q) (c.number_in-n.ensures, tt)))
