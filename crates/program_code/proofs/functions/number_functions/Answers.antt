use Rattle.std.proofs.Common.{◌≡◌, ◌∙◌, ◌++◌, ◌∷◌, [], ◌+◌, ap, sym, subst, take, List}
use Rattle.std.proofs.lemmas.List.{take_more}
use Rattle.mono_syntax.specs.declared.cast.CastFunction.{CastFunction}
use Rattle.program_code.specs.SameScript.{AddsFunctions, IsSlottedFunction}
use Rattle.type_numbers.specs.Tables.{Table}
use Rattle.program_code.specs.declared.data.FunctionCode.{FunctionCode}
use Rattle.program_code.proofs.ScriptLaws.{functions_more, is_among}
use Rattle.program_code.proofs.functions.number_functions.Goals as goal

pub number_function-requires : goal.number_function-requires
number_function-requires c =
    let x = c.function-item.result in
    let among = is_among c.args.functions.now c.loop-function.function-index x c.loop-function-test.true c.function-item.is in
    subst (λ (z : Table). IsSlottedFunction z.types x) ((c.loop-function.invariant).grows).table (c.requires x among)

pub loop-function-preserved : goal.loop-function-preserved
loop-function-preserved c =
    let xs = c.args.functions.now in
    let i = c.loop-function.function-index in
    let x = c.function-item.result in
    let a = c.args.pool in
    let with = c.in_ok-with.with in
    let here = c.in_ok-with.ensures in
    let step : take (i + 1) xs ≡ take i xs ++ x ∷ [] = take_more xs i x c.loop-function-test.true ∙ ap (λ y. take i xs ++ y ∷ []) (sym c.function-item.is) in
    let more = functions_more a c.loop-function.pool c.loop-function.codes (take i xs) x with c.loop-function.invariant here in
    subst (λ (l : List CastFunction). AddsFunctions a l (record { functions = c.push.new.self; pool = with.pool })) (sym step)
    (subst (λ (l : List FunctionCode). AddsFunctions a (take i xs ++ x ∷ []) (record { functions = l; pool = with.pool })) (sym (c.in_ok-push.ensures).ok) more)
