-- The blocks of a right script with its casts: their names have types of the language, are apart, and are not too many.
use Rattle.std.proofs.Common.{◌≡◌, inl, inr, ℕ, ◌<◌, ◌≤◌, List, [], ◌∷◌, ◌++◌, length, refl, sym, ◌∙◌, ap, subst, arith}
use Rattle.std.specs.Prelude.{Contains}
use Rattle.std.proofs.lemmas.List.{length-append, length-map}
use Rattle.mono_syntax.specs.Limits.{most_names, most_fields, most_parameters}
use Rattle.mono_syntax.specs.declared.cast.CastBlock as rust_block
use Rattle.mono_syntax.specs.declared.cast.CastClass.{CastClass}
use Rattle.mono_syntax.specs.declared.cast.CastFunction.{CastFunction}
use Rattle.mono_syntax.specs.declared.cast.CastScript.{CastScript}
use Rattle.mono_syntax.specs.declared.cast.NamedType.{NamedType}
use Rattle.mono_syntax.specs.declared.refusal.Reason.TheVariants.{TooManyFields}
use Rattle.mono_syntax.specs.declared.script.Scoped.{Scoped}
use Rattle.mono_syntax.specs.declared.tree.ClassDef.{ClassDef}
use Rattle.mono_syntax.specs.declared.tree.FieldDef.{FieldDef}
use Rattle.mono_syntax.specs.declared.tree.FuncDef.{FuncDef}
use Rattle.mono_syntax.specs.declared.tree.Param.{Param}
use Rattle.mono_syntax.specs.declared.tree.Script.{Script}
use Rattle.mono_syntax.specs.Stmt.{Stmt}
use Rattle.mono_tree.specs.IsType.{IsType}
use Rattle.script_rules.specs.BlockNames.{Target, firsts, all_targets}
use Rattle.script_rules.specs.ScopeFaults.{IsRight}
use Rattle.script_rules.specs.Scoping.{class_list, function_list, main_block}
use Rattle.script_rules.specs.SizeFaults.{many_fields}
use Rattle.script_rules.specs.SourceCasts.{AreNames, BecomesBody, BecomeClasses, BecomeFunctions}
use Rattle.script_rules.specs.WellFormed.{AreApart}
use Rattle.script_rules.specs.WellTyped.{IsBlockOfTypes}
use Rattle.class_types.proofs.OrderLaws.{In, in-contains, contains-in}
use Rattle.cast_rules.specs.HasCasts.{HasCasts}
use Rattle.cast_rules.proofs.ApartNames.{names_of_block, AreFewNames, function_names_few, main_names_few}
use Rattle.cast_rules.proofs.BecomeLines.{with_casts}
use Rattle.cast_rules.proofs.Occurring.{target_texts}
use Rattle.cast_rules.proofs.RightTypes.{few_parameters}
use Rattle.cast_rules.proofs.RuleTypes.{NamesHaveTypes}
use Rattle.cast_rules.proofs.SiteTypes.{IsNamedBlock, FunctionsAreNamed, main_names, script_leaves}
use Rattle.cast_rules.proofs.Starts.{names}

name_type : (ns : List NamedType) (n : NamedType) → NamesHaveTypes ns → In n ns → IsType n.ty
name_type [] n h i = absurd i
name_type (m ∷ ns) n h (inl e) = subst (λ (k : NamedType). IsType k.ty) e h.0
name_type (m ∷ ns) n h (inr i) = name_type ns n h.1 i

pub named_texts : (cs : List ClassDef) (ts : List Target) (ns : List NamedType) → AreNames cs ts ns → names ns ≡ target_texts ts
named_texts cs [] [] h = refl
named_texts cs (t ∷ ts) (n ∷ ns) h = let first = h.0 in let rest = named_texts cs ts ns h.2 in λ j. first j ∷ rest j
named_texts cs [] (n ∷ ns) h = absurd h
named_texts cs (t ∷ ts) [] h = absurd h

block_of_types : (s : Script) (p : CastScript) (ps : List Param) (ss : List Stmt) (b : rust_block.CastBlock) → BecomesBody s p ps ss b → AreFewNames ps ss
    → IsNamedBlock b.names b.threads → IsBlockOfTypes b
block_of_types s p ps ss b h few types =
    let values = named_texts (class_list s) (firsts (all_targets ps ss)) b.names h.names in
    let threads = h.threads in
    let all : names b.names ++ names b.threads ≡ names_of_block ps ss = λ j. values j ++ threads j in
    let long = length-append (names b.names) (names b.threads) in
    let one = length-map b.names (λ (n : NamedType). n.name) in
    let two = length-map b.threads (λ (n : NamedType). n.name) in
    let limit : length (names b.names ++ names b.threads) ≤ most_names = subst (λ (l : List (List ℕ)). length l ≤ most_names) (sym all) few.few in
    record {
      names = λ n c. name_type b.names n types.names (contains-in n b.names c);
      threads = λ n c. name_type b.threads n types.started (contains-in n b.threads c);
      apart = subst AreApart (sym all) few.apart;
      few = omega (arith, long, one, two, limit);
    }

pub main_of_types : (d : Scoped) (p : CastScript) → IsRight d.script → HasCasts d p → IsBlockOfTypes p.main
main_of_types d p right h =
    let leaves = script_leaves d p right h in
    let threads = subst NamesHaveTypes (sym h.threads) (leaves.names).threads in
    let values = subst NamesHaveTypes (sym h.values) (main_names d.script right h.names h.scope).values in
    block_of_types d.script p [] (main_block d.script) p.main (with_casts d p right h).main (main_names_few d.script right) (record { names = values; started = threads })

-- ---- functions

record IsFunctionOfTypes (f : CastFunction) : Type 0 where
  pub block : IsBlockOfTypes f.block
  pub few : length f.params ≤ most_parameters

function_of_types : (s : Script) (p : CastScript) → IsRight s → (ds : List FuncDef) (fs : List CastFunction) → ((d : FuncDef) → In d ds → In d (function_list s))
    → BecomeFunctions s p ds fs → FunctionsAreNamed fs → (f : CastFunction) → In f fs → IsFunctionOfTypes f
function_of_types s p right [] [] among h named f i = absurd i
function_of_types s p right (d ∷ ds) (g ∷ fs) among h named f (inl e) =
    let there = among d (inl refl) in
    let b = block_of_types s p d.params d.body g.block (h.0).body (function_names_few s right d there) named.0 in
    let count : length g.params ≡ length d.params = ap (λ (l : List (List ℕ)). length l) (h.0).params ∙ length-map d.params (λ (q : Param). q.name.text) in
    let limit = few_parameters s right d there in
    subst IsFunctionOfTypes e (record { block = b; few = omega (arith, count, limit) })
function_of_types s p right (d ∷ ds) (g ∷ fs) among h named f (inr i) = function_of_types s p right ds fs (λ c j. among c (inr j)) h.1 named.1 f i
function_of_types s p right [] (g ∷ fs) among h named f i = absurd h
function_of_types s p right (d ∷ ds) [] among h named f i = absurd h

script_function : (d : Scoped) (p : CastScript) → IsRight d.script → HasCasts d p → (f : CastFunction) → Contains p.functions f → IsFunctionOfTypes f
script_function d p right h f c =
    function_of_types d.script p right (function_list d.script) p.functions (λ x i. i) (with_casts d p right h).functions (script_leaves d p right h).functions f (contains-in f p.functions c)

pub body_of_types : (d : Scoped) (p : CastScript) → IsRight d.script → HasCasts d p → (f : CastFunction) → Contains p.functions f → IsBlockOfTypes f.block
body_of_types d p right h f c = (script_function d p right h f c).block

pub function_parameters : (d : Scoped) (p : CastScript) → IsRight d.script → HasCasts d p → (f : CastFunction) → Contains p.functions f → length f.params ≤ most_parameters
function_parameters d p right h f c = (script_function d p right h f c).few

-- ---- classes

few_fields : (s : Script) → IsRight s → (d : ClassDef) → In d (class_list s) → length d.fields ≤ most_fields
few_fields s right d h =
    let n : most_fields < length d.fields → ⊥ = λ more. right.sizes d.name.place TooManyFields (many_fields d (in-contains d (class_list s) h) more refl) in
    omega (arith, n)

among_classes : (s : Script) → IsRight s → (ds : List ClassDef) (cs : List CastClass) → ((d : ClassDef) → In d ds → In d (class_list s)) → BecomeClasses s ds cs → (c : CastClass) → In c cs
    → length c.params ≤ most_fields
among_classes s right [] [] among h c i = absurd i
among_classes s right (d ∷ ds) (k ∷ cs) among h c (inl e) =
    let limit = few_fields s right d (among d (inl refl)) in
    let count : length k.params ≡ length d.fields = ap (λ (l : List (List ℕ)). length l) (h.0).fields ∙ length-map d.fields (λ (f : FieldDef). f.name.text) in
    subst (λ (x : CastClass). length x.params ≤ most_fields) e (omega (arith, limit, count))
among_classes s right (d ∷ ds) (k ∷ cs) among h c (inr i) = among_classes s right ds cs (λ x j. among x (inr j)) h.1 c i
among_classes s right [] (k ∷ cs) among h c i = absurd h
among_classes s right (d ∷ ds) [] among h c i = absurd h

pub class_fields : (d : Scoped) (p : CastScript) → IsRight d.script → HasCasts d p → (c : CastClass) → Contains p.classes c → length c.params ≤ most_fields
class_fields d p right h c k = among_classes d.script right (class_list d.script) p.classes (λ x i. i) h.classes c (contains-in c p.classes k)
