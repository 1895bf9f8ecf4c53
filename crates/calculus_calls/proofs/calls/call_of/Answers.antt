use Rattle.std.proofs.Common.{◌≡◌, ◌∙◌, ap, sym, length, List}
use Rattle.mono_syntax.specs.Ty.{Ty, fun}
use Rattle.mono_syntax.specs.TyView.{tys, ty_of}
use Rattle.mono_syntax.specs.declared.value.Val.{Val}
use Rattle.cast_machine.specs.declared.data.Work.{Work}
use Rattle.calculus_data.specs.computed.Entries.{entering, call_of, function_call}
use Rattle.calculus_data.proofs.Taken.{function_called, ok_same}
use Rattle.calculus_calls.proofs.calls.call_of.Goals as goal

pub returns-in-Fun-kind : goal.returns-in-Fun-kind
returns-in-Fun-kind c =
    let kind : ty_of c.behind-whole.inside.kind ≡ fun (tys c.in-Fun-kind.params) c.in-Fun-kind.field-1 = ap ty_of c.in-Fun-kind.is in
    let whole : c.in-Fun.merged ≡ ty_of c.behind-whole.inside.kind = cc (c.in_ok-whole.ensures, c.get.ensures, c.behind-whole.view_is) in
    let parts : c.in-Fun.merged ≡ fun (tys c.as_slice.result.now) c.in-Fun-kind.field-1 =
    whole ∙ kind ∙ ap (λ (l : List Ty). fun (tys l) c.in-Fun-kind.field-1) (sym c.as_slice.ensures) in
    ok_same c.call_function.result
    (function_call c.args.site c.args.sites.now c.entering-item.result c.as_slice.result.now c.args.frame c.args.below)
    (call_of c.args.site c.args.sites.now (entering c.args.begins (length c.args.sites.now)) c.args.callee c.args.frame c.args.below)
    c.call_function.ensures
    (ap (λ (i : Work). function_call c.args.site c.args.sites.now i c.as_slice.result.now c.args.frame c.args.below) c.entering-item.ensures
    ∙ function_called c.args.site c.args.sites.now (entering c.args.begins (length c.args.sites.now)) c.in-Fun.func c.in-Fun.merged c.in-Fun-kind.field-1 c.as_slice.result.now c.args.frame c.args.below parts
    ∙ sym (ap (λ (v : Val). call_of c.args.site c.args.sites.now (entering c.args.begins (length c.args.sites.now)) v c.args.frame c.args.below) c.in-Fun.is))
