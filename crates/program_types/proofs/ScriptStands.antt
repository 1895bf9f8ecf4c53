-- The closed list of the types that a script writes has each type of the script with its casts.
use Rattle.std.proofs.Common.{inl, inr, List, [], ◌∷◌, refl, sym, subst}
use Rattle.std.specs.Prelude.{Contains}
use Rattle.mono_syntax.specs.declared.cast.CastClass.{CastClass}
use Rattle.mono_syntax.specs.declared.cast.CastFunction.{CastFunction}
use Rattle.mono_syntax.specs.declared.cast.CastScript.{CastScript}
use Rattle.mono_syntax.specs.declared.cast.NamedType.{NamedType}
use Rattle.mono_syntax.specs.declared.script.Scoped.{Scoped}
use Rattle.mono_syntax.specs.declared.tree.ClassDef.{ClassDef}
use Rattle.mono_syntax.specs.declared.tree.Script.{Script}
use Rattle.mono_syntax.specs.CastStmtView.{cast_block}
use Rattle.mono_syntax.specs.Ty.{Ty}
use Rattle.mono_tree.specs.ClosedList.{IsClosedList}
use Rattle.script_rules.specs.Scoping.{IsScope, class_list}
use Rattle.script_rules.specs.SourceCasts.{BecomeClasses}
use Rattle.cast_rules.specs.HasCasts.{HasCasts}
use Rattle.written_types.specs.ScriptTypes.{AreScriptTypes}
use Rattle.program_code.specs.TypesIn.{BlockTypesIn, AreTypesIn}
use Rattle.class_types.proofs.OrderLaws.{In, contains-in}
use Rattle.program_types.proofs.HasWritten.{HasWritten}
use Rattle.program_types.proofs.WrittenStand.{list_has}
use Rattle.program_types.proofs.RulesStand.{HasNames}
use Rattle.program_types.proofs.SitesStand.{site_among}
use Rattle.program_types.proofs.ItemsStand.{HasBlock, HasFunction, HasFunctions, ItemsLeave, main_has, items_leave}

-- ---- one of many

module _ (Has : Ty → Type 0) where
  name_among : (ns : List NamedType) (n : NamedType) → HasNames Has ns → In n ns → Has n.ty
  name_among [] n h i = absurd i
  name_among (m ∷ ns) n h (inl e) = subst (λ (k : NamedType). Has k.ty) e h.0
  name_among (m ∷ ns) n h (inr i) = name_among ns n h.1 i

  function_among : (fs : List CastFunction) (f : CastFunction) → HasFunctions Has fs → In f fs → HasFunction Has f
  function_among [] f h i = absurd i
  function_among (g ∷ fs) f h (inl e) = subst (HasFunction Has) e h.0
  function_among (g ∷ fs) f h (inr i) = function_among fs f h.1 i

class_among : (s : Script) (Has : Ty → Type 0) → HasWritten s Has → (ds : List ClassDef) (cs : List CastClass)
    → ((d : ClassDef) → In d ds → In d (class_list s)) → BecomeClasses s ds cs → (c : CastClass) → In c cs → Has c.ty
class_among s Has has [] [] there h c i = absurd i
class_among s Has has [] (k ∷ cs) there h c i = absurd h
class_among s Has has (d ∷ ds) [] there h c i = absurd h
class_among s Has has (d ∷ ds) (k ∷ cs) there h c (inl e) =
    subst (λ (x : CastClass). Has x.ty) e (has.class d k.ty (there d (inl refl)) (h.0).type)
class_among s Has has (d ∷ ds) (k ∷ cs) there h c (inr i) = class_among s Has has ds cs (λ x j. there x (inr j)) h.1 c i

-- ---- the script

block_in : (l : List Ty) (b : _) → HasBlock (Contains l) b → BlockTypesIn l b
block_in l b h = record {
  names = λ n c. name_among (Contains l) b.names n h.names (contains-in n b.names c);
  threads = λ n c. name_among (Contains l) b.threads n h.threads (contains-in n b.threads c);
}

pub script_stands : (d : Scoped) (p : CastScript) (written l : List Ty) → IsScope d.script d → HasCasts d p
    → AreScriptTypes d.script written → IsClosedList written l → AreTypesIn l p
script_stands d p written l scope h types closed =
    let has = list_has d.script written l types closed in
    let start = main_has d.script (Contains l) has h.names h.scope in
    let leave : ItemsLeave d.script (Contains l) h.behind h.all p.functions =
    items_leave d.script (Contains l) has h.names h.behind [] h.all d.script.items p.functions (cast_block p.main.body) h.items
    (λ k i. i) start (λ x i. i) tt in
    let functions : (f : CastFunction) → Contains p.functions f → HasFunction (Contains l) f =
    λ f c. function_among (Contains l) p.functions f leave.functions (contains-in f p.functions c) in
    let main : HasBlock (Contains l) p.main = record {
      names = subst (HasNames (Contains l)) (sym h.values) start.values;
      threads = subst (HasNames (Contains l)) (sym h.threads) (leave.names).threads;
    } in
    record {
      sites = λ t c.
          let o = h.used t c in
          let site = site_among (Contains l) h.all o.site leave.sites (contains-in o.site h.all o.among) in
          elim o.is [
            | inl e ↦ subst (Contains l) (sym e) site.0
            | inr e ↦ subst (Contains l) (sym e) site.1
          ];
      classes = λ c k.
          class_among d.script (Contains l) has (class_list d.script) p.classes (λ x i. i) h.classes c (contains-in c p.classes k);
      functions = λ f c. (functions f c).type;
      bodies = λ f c. block_in l f.block (functions f c).block;
      main = block_in l p.main main;
    }
