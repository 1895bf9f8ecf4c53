use Rattle.std.proofs.Common.{◌≡◌, ◌∙◌, sym, ap}
use Rattle.std.specs.Prelude.{None}
use Rattle.class_types.specs.computed.Made.{look, function_by}
use Rattle.class_types.proofs.TableLaws.{function-made, function-writes, no-type}
use Rattle.class_types.proofs.table.function_type.Goals as goal

pub returns-in_ok-at-in-Some-clause-found : goal.returns-in_ok-at-in-Some-clause-found
returns-in_ok-at-in-Some-clause-found c =
    let same : function_by (look c.args.known.names c.args.known.own None) c.args.function.now ≡ function_by (look c.args.known.names c.as_slice.result.now None) c.args.function.now
    = ap (λ own. function_by (look c.args.known.names own None) c.args.function.now) (sym c.as_slice.ensures) in
    record {
      type = c.in-Some.ty;
      at = c.in_ok-at-in-Some.ensures.at;
      is = function-made c.args.known c.requires c.args.function.now c.in-Some.ty (same ∙ (sym c.in_ok-ty.ensures ∙ c.in-Some.is));
    }

pub returns-in-None-clause-found : goal.returns-in-None-clause-found
returns-in-None-clause-found c =
    let same : function_by (look c.args.known.names c.args.known.own None) c.args.function.now ≡ function_by (look c.args.known.names c.as_slice.result.now None) c.args.function.now
    = ap (λ own. function_by (look c.args.known.names own None) c.args.function.now) (sym c.as_slice.ensures) in
    λ t w. no-type t (same ∙ (sym c.in_ok-ty.ensures ∙ c.in-None.is)) (function-writes c.args.known c.requires c.args.function.now t w)
