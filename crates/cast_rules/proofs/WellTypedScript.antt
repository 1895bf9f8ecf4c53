-- A right script of the grammar with its casts is well typed in every respect.
use Rattle.std.proofs.Common.{◌≡◌, sym, subst}
use Rattle.mono_syntax.specs.declared.cast.CastScript.{CastScript}
use Rattle.mono_syntax.specs.declared.script.Scoped.{Scoped}
use Rattle.mono_tree.specs.TypedPrograms.{IsTypedProgram}
use Rattle.script_rules.specs.ScopeFaults.{IsRight}
use Rattle.script_rules.specs.Scoping.{class_list, function_list, IsScope}
use Rattle.script_rules.specs.SourceCasts.{IsWithCasts}
use Rattle.script_rules.specs.WellTyped.{IsWellTypedProgram}
use Rattle.script_shape.specs.Shapes.{IsShaped}
use Rattle.class_types.proofs.OrderLaws.{contains-in}
use Rattle.cast_rules.specs.HasCasts.{HasCasts}
use Rattle.cast_rules.proofs.BecomeLines.{with_casts}
use Rattle.cast_rules.proofs.BlockTypes.{main_of_types, body_of_types, function_parameters, class_fields}
use Rattle.cast_rules.proofs.RightTypes.{class_type, function_type}
use Rattle.cast_rules.proofs.SiteTypes.{script_types}
use Rattle.cast_rules.proofs.TypedScript.{typed_program}

right_typed : (d : Scoped) (p : CastScript) → IsShaped d.script → IsRight d.script → HasCasts d p → IsTypedProgram p
right_typed d p shaped right h =
    typed_program d p shaped right h (λ c t i. class_type d.script right c t (contains-in c (class_list d.script) i)) (λ f t i. function_type d.script right f t (contains-in f (function_list d.script) i))

pub well_typed_by : (d : Scoped) (p : CastScript) → IsShaped d.script → IsRight d.script → IsScope d.script d → HasCasts d p → IsWellTypedProgram p
well_typed_by d p shaped right scope h =
    let same : d ≡ p.scoped = sym h.scoped in
    record {
      typed = right_typed d p shaped right h;
      right = subst (λ (z : Scoped). IsRight z.script) same right;
      scope = subst (λ (z : Scoped). IsScope z.script z) same scope;
      source = subst (λ (z : Scoped). IsWithCasts z.script p) same (with_casts d p right h);
      types = script_types d p right h;
      distinct = h.distinct;
      main = main_of_types d p right h;
      bodies = body_of_types d p right h;
      fields = class_fields d p right h;
      parameters = function_parameters d p right h;
    }
