use Rattle.std.proofs.Common.{◌≡◌, ◌∙◌, sym, ap}
use Rattle.std.specs.Prelude.{None}
use Rattle.class_types.specs.computed.Made.{look, any_by}
use Rattle.class_types.proofs.TableLaws.{any-made, any-writes, no-type}
use Rattle.class_types.proofs.table.written_any.Goals as goal

pub returns-in_ok-at-in-Some-clause-found : goal.returns-in_ok-at-in-Some-clause-found
returns-in_ok-at-in-Some-clause-found c =
    let same : any_by (look c.args.known.names c.args.known.own None) c.args.ann.now ≡ any_by (look c.args.known.names c.as_slice.result.now None) c.args.ann.now
    = ap (λ own. any_by (look c.args.known.names own None) c.args.ann.now) (sym c.as_slice.ensures) in
    record {
      type = c.in-Some.ty;
      at = c.in_ok-at-in-Some.ensures.at;
      is = any-made c.args.known c.requires c.args.ann.now c.in-Some.ty (same ∙ (sym c.in_ok-ty.ensures ∙ c.in-Some.is));
    }

pub returns-in-None-clause-found : goal.returns-in-None-clause-found
returns-in-None-clause-found c =
    let same : any_by (look c.args.known.names c.args.known.own None) c.args.ann.now ≡ any_by (look c.args.known.names c.as_slice.result.now None) c.args.ann.now
    = ap (λ own. any_by (look c.args.known.names own None) c.args.ann.now) (sym c.as_slice.ensures) in
    λ t w. no-type t (same ∙ (sym c.in_ok-ty.ensures ∙ c.in-None.is)) (any-writes c.args.known c.requires c.args.ann.now t w)
