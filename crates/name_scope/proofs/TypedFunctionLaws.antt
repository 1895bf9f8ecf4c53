-- The functions of a script with their types and the names of their blocks, one after the other.
use Rattle.std.proofs.Common.{◌≡◌, ℕ, ◌+◌, ◌<◌, List, [], ◌∷◌, ◌++◌, length, get_or, take, drop, refl, sym, ◌∙◌, ap, subst}
use Rattle.mono_syntax.specs.declared.leaf.TyAt.{TyAt}
use Rattle.mono_syntax.specs.declared.script.BlockNames.{BlockNames}
use Rattle.mono_syntax.specs.declared.tree.ClassDef.{ClassDef}
use Rattle.mono_syntax.specs.declared.tree.FuncDef.{FuncDef}
use Rattle.mono_syntax.specs.declared.tree.Item.{Item}
use Rattle.mono_syntax.specs.declared.tree.Item.TheVariants as item
use Rattle.mono_syntax.specs.declared.tree.Script.{Script}
use Rattle.script_rules.specs.Definitions.{functions_of}
use Rattle.script_rules.specs.Scoping.{class_list, StandsAt, FunctionsStand, IsBlockScope}
use Rattle.script_rules.specs.Writes.{IsFunctionType}
use Rattle.class_types.specs.declared.table.ClassTypes.{ClassTypes}
use Rattle.class_types.specs.Holds.{Extends}
use Rattle.name_scope.specs.declared.blocks.TypedFunctions.{TypedFunctions}
use Rattle.name_scope.specs.computed.Typing.{AreTypable, FunctionBlocksStand, FunctionsTyped}
use Rattle.name_scope.proofs.FirstOfAll.{rest_at, done_at}
use Rattle.name_scope.proofs.Growth.{extends_trans, begins_trans, stands_grow, functions_grow, functions_push, blocks_grow, blocks_push}

pub one_more_function : (first : ClassTypes) (ds : List FuncDef) (s r : TypedFunctions) (d : FuncDef) (at : TyAt) (b : BlockNames) (mid : ClassTypes)
    → StandsAt mid.types at (IsFunctionType (class_list s.known.script) d) → Extends s.known mid
    → IsBlockScope (class_list mid.script) r.known.types d.params d.body b → Extends mid r.known
    → r.types ≡ s.types ++ at ∷ [] → r.blocks ≡ s.blocks ++ b ∷ [] → FunctionsTyped first ds s → FunctionsTyped first (ds ++ d ∷ []) r
one_more_function first ds s r d at b mid stands one block two types blocks n =
    let cs = class_list first.script in
    let far = begins_trans s.known.types mid.types r.known.types one.types two.types in
    let grown = functions_grow cs s.known.types r.known.types ds s.types far n.functions in
    let here : StandsAt r.known.types at (IsFunctionType cs d) =
    stands_grow mid.types r.known.types at (IsFunctionType cs d) two.types (subst (λ (z : Script). StandsAt mid.types at (IsFunctionType (class_list z) d)) n.keeps.script stands) in
    let scope : IsBlockScope cs r.known.types d.params d.body b =
    subst (λ (z : Script). IsBlockScope (class_list z) r.known.types d.params d.body b) (one.script ∙ n.keeps.script) block in
    record {
      functions = subst (λ (l : List TyAt). FunctionsStand cs r.known.types (ds ++ d ∷ []) l) (sym types) (functions_push cs r.known.types ds s.types d at grown (here, tt));
      names = subst (λ (l : List BlockNames). FunctionBlocksStand cs r.known.types (ds ++ d ∷ []) l) (sym blocks)
          (blocks_push cs r.known.types ds s.blocks d b (blocks_grow cs s.known.types r.known.types ds s.blocks far n.names) scope);
      keeps = extends_trans first s.known r.known n.keeps (extends_trans s.known mid r.known one two);
    }

pub functions_of-append : (xs ys : List Item) → functions_of (xs ++ ys) ≡ functions_of xs ++ functions_of ys
functions_of-append [] ys = refl
functions_of-append (item.Class d ∷ xs) ys = functions_of-append xs ys
functions_of-append (item.Def d ∷ xs) ys = ap (λ l. d ∷ l) (functions_of-append xs ys)
functions_of-append (item.Stmt s ∷ xs) ys = functions_of-append xs ys

typable_split : (cs : List ClassDef) (xs ys : List FuncDef) → AreTypable cs (xs ++ ys) → AreTypable cs xs × AreTypable cs ys
typable_split cs [] ys h = (tt, h)
typable_split cs (x ∷ xs) ys h = let s = typable_split cs xs ys h.1 in ((h.0, s.0), s.1)

pub functions_done : (xs : List Item) (i : ℕ) (x : Item) → i < length xs → x ≡ get_or xs i x → functions_of (take i xs) ++ functions_of (x ∷ []) ≡ functions_of (take (i + 1) xs)
functions_done xs i x h e = sym (ap functions_of (done_at xs i x h e) ∙ functions_of-append (take i xs) (x ∷ []))

pub functions_left : (cs : List ClassDef) (xs : List Item) (i : ℕ) (x : Item) → i < length xs → x ≡ get_or xs i x → AreTypable cs (functions_of (drop i xs))
    → AreTypable cs (functions_of (x ∷ [])) × AreTypable cs (functions_of (drop (i + 1) xs))
functions_left cs xs i x h e t =
    typable_split cs (functions_of (x ∷ [])) (functions_of (drop (i + 1) xs))
    (subst (AreTypable cs) (ap functions_of (rest_at xs i x h e) ∙ functions_of-append (x ∷ []) (drop (i + 1) xs)) t)
