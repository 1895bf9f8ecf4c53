use Rattle.std.proofs.Common.{◌≡◌, ◌∙◌, sym, ap}
use Rattle.std.specs.Prelude.{None}
use Rattle.class_types.specs.computed.Made.{look, type_by}
use Rattle.class_types.proofs.TableLaws.{ann-made, ann-writes, no-type}
use Rattle.class_types.proofs.table.written.Goals as goal

pub returns-in_ok-at-in-Some-clause-found : goal.returns-in_ok-at-in-Some-clause-found
returns-in_ok-at-in-Some-clause-found c =
    let same : type_by (look c.args.known.names c.args.known.own None) c.args.ann.now ≡ type_by (look c.args.known.names c.as_slice.result.now None) c.args.ann.now
    = ap (λ own. type_by (look c.args.known.names own None) c.args.ann.now) (sym c.as_slice.ensures) in
    record {
      type = c.in-Some.ty;
      at = c.in_ok-at-in-Some.ensures.at;
      is = ann-made c.args.known c.requires c.args.ann.now c.in-Some.ty (same ∙ (sym c.in_ok-ty.ensures ∙ c.in-Some.is));
    }

pub returns-in-None-clause-found : goal.returns-in-None-clause-found
returns-in-None-clause-found c =
    let same : type_by (look c.args.known.names c.args.known.own None) c.args.ann.now ≡ type_by (look c.args.known.names c.as_slice.result.now None) c.args.ann.now
    = ap (λ own. type_by (look c.args.known.names own None) c.args.ann.now) (sym c.as_slice.ensures) in
    λ t w. no-type t (same ∙ (sym c.in_ok-ty.ensures ∙ c.in-None.is)) (ann-writes c.args.known c.requires c.args.ann.now t w)
