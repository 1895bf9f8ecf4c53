use Rattle.std.proofs.Common.{◌≡◌, ◌∙◌, map, take, ap, rules, List}
use Rattle.mono_syntax.specs.declared.cast.CastClass.{CastClass}
use Rattle.program_code.specs.Counts.{most_classes}
use Rattle.load_script.proofs.ClassTypes.{class_types_stand}
use Rattle.load_script.proofs.numbers.number_closed.Goals as goal

pub new-requires-clause-classes : goal.new-requires-clause-classes
new-requires-clause-classes c =
    let s = c.args.script.now in
    let first : c.first_classes-first.result.now ≡ take most_classes s.classes =
    c.first_classes-first.ensures ∙ ap (λ (l : List CastClass). take most_classes l) c.as_slice.ensures
    in
    let own = c.as_slice-2.ensures ∙ (c.in_ok-classes.ensures ∙ ap (λ (l : List CastClass). map (λ d. d.ty) l) first) in
    class_types_stand c.args.closed.keys s.classes most_classes c.requires.types.classes c.as_slice-2.result.now own
