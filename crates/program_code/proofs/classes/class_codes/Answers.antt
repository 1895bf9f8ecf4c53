use Rattle.std.proofs.Common.{◌≡◌, ◌∙◌, ◌++◌, ◌∷◌, [], ◌+◌, ap, sym, subst, take, List}
use Rattle.std.proofs.lemmas.List.{take_more}
use Rattle.mono_syntax.specs.declared.cast.CastClass.{CastClass}
use Rattle.node_code.specs.Places.{Each}
use Rattle.node_code.proofs.PlaceLaws.{each_more}
use Rattle.program_code.specs.SameScript.{IsClass}
use Rattle.program_code.specs.declared.data.ClassCode.{ClassCode}
use Rattle.program_code.proofs.classes.class_codes.Goals as goal

pub loop-class-preserved : goal.loop-class-preserved
loop-class-preserved c =
    let xs = c.args.classes.now in
    let i = c.loop-class.class-index in
    let x = c.class-item.result in
    let step : take (i + 1) xs ≡ take i xs ++ x ∷ [] = take_more xs i x c.loop-class-test.true ∙ ap (λ y. take i xs ++ y ∷ []) (sym c.class-item.is) in
    let new : ClassCode = record { params = c.in_ok-params.params } in
    let more = each_more IsClass c.loop-class.codes (take i xs) new x c.loop-class.invariant (c.in_ok-params.ensures ∙ c.as_slice.ensures) in
    subst (λ (l : List CastClass). Each IsClass c.push.new.self l) (sym step)
    (subst (λ (l : List ClassCode). Each IsClass l (take i xs ++ x ∷ [])) (sym (c.in_ok-push.ensures).ok) more)
