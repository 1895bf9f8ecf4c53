-- The small script writes its types.
use Rattle.std.proofs.Common.{refl, ℕ, ◌+◌, [], ◌∷◌}
use Rattle.mono_syntax.specs.Ty.{int, fun, no_tys, more_tys}
use Rattle.script_rules.specs.Scoping.{class_list}
use Rattle.script_rules.specs.Writes.{Writes, writes_int, writes_class, writes_fun, write_none, write_more, declares_none, declares_more}
use Rattle.written_types.specs.ScriptTypes.{no_item, class_item, function_item, line_item, AreScriptTypes}
use Rattle.written_types.specs.TypesExample.{p_at, callable_at, object, source, types}

p_written : (l c : ℕ) → Writes (class_list source) (p_at l c) object
p_written l c = writes_class refl (declares_more writes_int declares_none) refl

callable_written : (l c : ℕ) → Writes (class_list source) (callable_at l c) (fun (more_tys int no_tys) object)
callable_written l c = writes_fun (write_more writes_int write_none) (p_written l (c + 16))

pub example_written : AreScriptTypes source types
example_written =
    class_item (record { declared = _; fields = declares_more writes_int declares_none; type = refl })
    (function_item (_ ∷ _ ∷ []) (record { parameters = _; result = _; takes = (p_written 3 10, tt); gives = writes_int; type = refl })
    (callable_written 4 8, (callable_written 4 34, tt)) (line_item (object ∷ []) (p_written 6 4, tt) no_item refl) refl)
