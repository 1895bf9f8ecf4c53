use Rattle.std.proofs.Common.{◌≡◌, ◌∙◌, ◌++◌, ◌∷◌, [], ◌+◌, ap, sym, subst, take, List}
use Rattle.std.proofs.lemmas.List.{take_more}
use Rattle.mono_syntax.specs.Ty.{Ty}
use Rattle.mono_syntax.specs.declared.value.TypeNo.{TypeNo}
use Rattle.mono_tree.specs.TypeNumbers.{Names}
use Rattle.node_code.specs.Places.{Each}
use Rattle.node_code.proofs.PlaceLaws.{each_more}
use Rattle.program_code.proofs.types.type_numbers.Goals as goal

pub type_no-requires : goal.type_no-requires
type_no-requires c =
    c.requires c.ty-item.result (c.loop-ty.ty-index, c.loop-ty-test.true, sym c.ty-item.is)

pub loop-ty-preserved : goal.loop-ty-preserved
loop-ty-preserved c =
    let ts = c.args.table.now.types in
    let xs = c.args.types.now in
    let i = c.loop-ty.ty-index in
    let x = c.ty-item.result in
    let step : take (i + 1) xs ≡ take i xs ++ x ∷ [] = take_more xs i x c.loop-ty-test.true ∙ ap (λ y. take i xs ++ y ∷ []) (sym c.ty-item.is) in
    let more = each_more (Names ts) c.loop-ty.numbers (take i xs) c.type_no.result x c.loop-ty.invariant c.type_no.ensures in
    subst (λ (l : List Ty). Each (Names ts) c.push.new.self l) (sym step)
    (subst (λ (l : List TypeNo). Each (Names ts) l (take i xs ++ x ∷ [])) (sym (c.in_ok-push.ensures).ok) more)
