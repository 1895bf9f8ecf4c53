-- Typing of a script whose names have their types.
use Rattle.std.specs.Prelude.{◌≡◌, List, [], ◌∷◌, ◌++◌, Some, None, true}
use Rattle.mono_syntax.specs.declared.refusal.Reason.TheVariants.{Inconsistent}
use Rattle.mono_syntax.specs.declared.refusal.Refusal.{Refusal}
use Rattle.mono_syntax.specs.declared.tree.ClassDef.{ClassDef}
use Rattle.mono_syntax.specs.declared.tree.FuncDef.{FuncDef}
use Rattle.mono_syntax.specs.declared.tree.Item.{Item}
use Rattle.mono_syntax.specs.declared.tree.Item.TheVariants as item
use Rattle.mono_syntax.specs.declared.tree.Script.{Script}
use Rattle.mono_syntax.specs.Stmt.{Stmt}
use Rattle.mono_syntax.specs.StmtView.{block}
use Rattle.mono_syntax.specs.Ty.{Ty, nil}
use Rattle.mono_tree.specs.Meet.{AreApart, Consistent}
use Rattle.script_rules.specs.BlockNames.{firsts, all_targets}
use Rattle.script_rules.specs.Scoping.{class_list, function_list, main_block}
use Rattle.script_rules.specs.SourceCasts.{AreNames}
use Rattle.script_rules.specs.Writes.{WritesAny}
use Rattle.static_types.specs.BodyEnds.{may_end}
use Rattle.static_types.specs.Lines.{TypedLine, TypedBlock}
use Rattle.static_types.specs.LineFaults.{LineFault, BlockFault}
use Rattle.static_types.specs.Names.{Names}
use Rattle.static_types.specs.Rules.{at}

-- what a function's body may name at its start, where the script has these classes and functions
pub record IsFunctionScope (cs : List ClassDef) (fs : List FuncDef) (d : FuncDef) (t : Ty) (ns : Names) : Type 0 where
  pub classes : ns.classes ≡ cs
  pub functions : ns.functions ≡ fs
  pub values : AreNames cs (firsts (all_targets d.params d.body)) ns.values
  pub threads : ns.threads ≡ []
  pub result : ns.result ≡ Some t
  pub declared : WritesAny cs d.result t

-- and what the main block may
pub record IsMainScope (s : Script) (ns : Names) : Type 0 where
  pub classes : ns.classes ≡ class_list s
  pub functions : ns.functions ≡ function_list s
  pub values : AreNames (class_list s) (firsts (all_targets [] (main_block s))) ns.values
  pub threads : ns.threads ≡ []
  pub result : ns.result ≡ None

-- a function whose body has types; where it may end without a return, it gives `None`
pub record TypedFunction (cs : List ClassDef) (fs : List FuncDef) (d : FuncDef) (all : List Ty) : Type 0 where
  pub names : Names
  pub behind : Names
  pub result : Ty
  pub scope : IsFunctionScope cs fs d result names
  pub body : TypedBlock names (block d.body) behind all
  pub end : may_end (block d.body) ≡ true → Consistent nil result

-- the first fault of a function: in its body, or at its end, which is met behind the body
pub data FunctionFault (cs : List ClassDef) (fs : List FuncDef) (d : FuncDef) : Refusal → Type 0 where
  in_body : {ns : Names} {t : Ty} {f : Refusal} → IsFunctionScope cs fs d t ns → BlockFault ns (block d.body) f → FunctionFault cs fs d f
  at_end : {ns ms : Names} {t : Ty} {us : List Ty} {f : Refusal} → IsFunctionScope cs fs d t ns → TypedBlock ns (block d.body) ms us
      → may_end (block d.body) ≡ true → AreApart nil t → f ≡ at d.name.place Inconsistent → FunctionFault cs fs d f

-- the items of a script in source order, where the main block may name these things; a class's types were looked at before
pub data TypedItems : Names → List Item → Names → List Ty → Type 0 where
  no_item : {ns : Names} → TypedItems ns [] ns []
  class_item : {ns ms : Names} {d : ClassDef} {is : List Item} {all : List Ty} → TypedItems ns is ms all → TypedItems ns (item.Class d ∷ is) ms all
  function_item : {ns ms : Names} {d : FuncDef} {is : List Item} {us vs all : List Ty}
      → TypedFunction ns.classes ns.functions d us → TypedItems ns is ms vs → all ≡ us ++ vs → TypedItems ns (item.Def d ∷ is) ms all
  line_item : {ns ks ms : Names} {s : Stmt} {is : List Item} {us vs all : List Ty}
      → TypedLine ns s ks us → TypedItems ks is ms vs → all ≡ us ++ vs → TypedItems ns (item.Stmt s ∷ is) ms all

pub data ItemFault : Names → List Item → Refusal → Type 0 where
  in_function : {ns : Names} {d : FuncDef} {is : List Item} {f : Refusal} → FunctionFault ns.classes ns.functions d f → ItemFault ns (item.Def d ∷ is) f
  in_line : {ns : Names} {s : Stmt} {is : List Item} {f : Refusal} → LineFault ns s f → ItemFault ns (item.Stmt s ∷ is) f
  behind_class : {ns : Names} {d : ClassDef} {is : List Item} {f : Refusal} → ItemFault ns is f → ItemFault ns (item.Class d ∷ is) f
  behind_function : {ns : Names} {d : FuncDef} {is : List Item} {us : List Ty} {f : Refusal}
      → TypedFunction ns.classes ns.functions d us → ItemFault ns is f → ItemFault ns (item.Def d ∷ is) f
  behind_line : {ns ks : Names} {s : Stmt} {is : List Item} {us : List Ty} {f : Refusal} → TypedLine ns s ks us → ItemFault ks is f → ItemFault ns (item.Stmt s ∷ is) f

-- every expression of the script has a type; these are the types, in source order
pub record HasTypes (s : Script) (all : List Ty) : Type 0 where
  pub names : Names
  pub behind : Names
  pub scope : IsMainScope s names
  pub items : TypedItems names s.items behind all

-- the script's first fault of typing
pub record IsTypeFault (s : Script) (f : Refusal) : Type 0 where
  pub names : Names
  pub scope : IsMainScope s names
  pub fault : ItemFault names s.items f
