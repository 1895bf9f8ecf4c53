-- From the answer to each clause on it.
use Rattle.std.proofs.Common.{◌≡◌, inl, inr, List, [], ◌∷◌, ◌++◌, Option, Some, None, Ok, Err, IfOk, IfErr, refl, sym, ◌∙◌, ap, subst}
use Rattle.std.specs.Prelude.{IsOkUnless, MatchOption, Result}
use Rattle.mono_syntax.specs.declared.leaf.Place.{Place}
use Rattle.mono_syntax.specs.declared.refusal.LoadFault.{LoadFault}
use Rattle.mono_syntax.specs.declared.refusal.LoadFault.TheVariants.{Refused, Memory}
use Rattle.mono_syntax.specs.declared.refusal.Reason.TheVariants.{RecursiveClass}
use Rattle.mono_syntax.specs.declared.refusal.Refusal.{Refusal}
use Rattle.mono_syntax.specs.declared.script.BlockNames.{BlockNames}
use Rattle.mono_syntax.specs.declared.script.Scoped.{Scoped}
use Rattle.mono_syntax.specs.declared.tree.Item.{Item}
use Rattle.mono_syntax.specs.declared.tree.Script.{Script}
use Rattle.script_rules.specs.Definitions.{functions_of, statements_of}
use Rattle.script_rules.specs.Scoping.{class_list, ClassesStand, FunctionsStand, BlocksStand, IsBlockScope, IsScope}
use Rattle.class_types.specs.declared.table.ClassTypes.{ClassTypes}
use Rattle.script_rules.specs.FirstFault.{IsFirst, IsFaultless}
use Rattle.class_types.specs.Holds.{Extends}
use Rattle.script_rules.specs.Recursion.{RecursionFault}
use Rattle.script_rules.specs.SizeFaults.{SizeFault}
use Rattle.name_scope.specs.declared.blocks.TypedFunctions.{TypedFunctions}
use Rattle.script_rules.specs.NameFaults.{NameFault}
use Rattle.script_rules.specs.LoadFaults.{IsFault, Refuses}
use Rattle.script_rules.specs.ScopeFaults.{ScopeFault, IsRight, IsScopeRefusal, misnamed, oversized, IsAnswer}
use Rattle.name_scope.specs.computed.Typing.{FunctionBlocksStand, FunctionsTyped}
use Rattle.name_scope.proofs.FaultOrder.{one_first}
use Rattle.name_scope.proofs.Growth.{functions_grow, blocks_grow, blocks_main}

pub right_names : (s : Script) → IsFaultless (ScopeFault s) → IsFaultless (NameFault s)
right_names s h p r f = h p r (inl f)

pub right_classes : (s : Script) → IsFaultless (ScopeFault s) → (p : Place) → RecursionFault (class_list s) p → ⊥
right_classes s h p f = h p RecursiveClass (inr (f, refl))

not_right : (s : Script) (r : Refusal) → IsScopeRefusal s r → IsRight s → ⊥
not_right s r (misnamed f) i = i.names r.place r.reason f.stands
not_right s r (oversized n f) i = i.sizes r.place r.reason f.stands

one_refusal : (s : Script) (a b : Refusal) → IsScopeRefusal s a → IsScopeRefusal s b → a ≡ b
one_refusal s a b (misnamed f) (misnamed g) = one_first _ a b f g
one_refusal s a b (misnamed f) (oversized n g) = absurd (n a.place a.reason f.stands)
one_refusal s a b (oversized n f) (misnamed g) = absurd (n b.place b.reason g.stands)
one_refusal s a b (oversized n f) (oversized m g) = one_first _ a b f g

pub answer_accepted : (s : Script) (a : Result Scoped LoadFault) → IsAnswer s a → IfOk a (IsScope s)
answer_accepted s (Ok d) h = h.1
answer_accepted s (Err f) h = tt

pub answer_right : (s : Script) (a : Result Scoped LoadFault) → IsAnswer s a → IfOk a (λ _. IsRight s)
answer_right s (Ok d) h = h.0
answer_right s (Err f) h = tt

pub answer_refused : (s : Script) (a : Result Scoped LoadFault) → IsAnswer s a → IfErr a (IsFault (IsScopeRefusal s))
answer_refused s (Ok d) h = tt
answer_refused s (Err f) h = h

pub answer_accepts : (s : Script) (a : Result Scoped LoadFault) → IsAnswer s a → IsRight s → IsOkUnless a Memory
answer_accepts s (Ok d) h i = tt
answer_accepts s (Err (Refused r)) h i = absurd (not_right s r h i)
answer_accepts s (Err Memory) h i = refl

pub answer_refuses : (s : Script) (a : Result Scoped LoadFault) → IsAnswer s a → (r : Refusal) → IsScopeRefusal s r → Refuses a r
answer_refuses s (Ok d) h r i = not_right s r i h.0
answer_refuses s (Err (Refused q)) h r i = inl (ap (λ (z : Refusal). Refused z) (one_refusal s q r h i))
answer_refuses s (Err Memory) h r i = inr refl

pub sized : (s : Script) (o : Option Refusal) → IsFaultless (ScopeFault s) → MatchOption o (IsFaultless (SizeFault s)) (IsFirst (SizeFault s)) → MatchOption o (IsRight s) (IsScopeRefusal s)
sized s None n f = record { names = n; sizes = f }
sized s (Some r) n f = oversized n f

-- a script with what is known of its functions and its main block
pub scoped_script : (s : Script) (first last : ClassTypes) (items : List Item) (state : TypedFunctions) (main : BlockNames) (script : Script) (blocks : List BlockNames)
    → first.script ≡ s → items ≡ s.items → FunctionsTyped first (functions_of items) state
    → IsBlockScope (class_list state.known.script) last.types [] (statements_of items) main → Extends state.known last
    → script ≡ s → blocks ≡ state.blocks ++ main ∷ []
    → IsScope s (record { script = script; types = last.types; classes = last.classes; functions = state.types; blocks = blocks })
scoped_script s first last items state main script blocks same is typed block keeps own all =
    let cs = class_list s in
    let far : last.script ≡ s = keeps.script ∙ typed.keeps.script ∙ same in
    let functions = subst (λ (z : Script). FunctionsStand (class_list z) state.known.types (functions_of items) state.types) same typed.functions in
    let names = subst (λ (z : Script). FunctionBlocksStand (class_list z) state.known.types (functions_of items) state.blocks) same typed.names in
    let here = subst (λ (z : Script). IsBlockScope (class_list z) last.types [] (statements_of items) main) (typed.keeps.script ∙ same) block in
    let grown = blocks_grow cs state.known.types last.types (functions_of items) state.blocks keeps.types names in
    let whole = blocks_main cs last.types (functions_of items) state.blocks (statements_of items) main grown here in
    record {
      script = own;
      types = keeps.holds.stand.distinct;
      classes = subst (λ (z : Script). ClassesStand (class_list z) last.types (class_list z) last.classes) far keeps.holds.stand.stand;
      functions = subst (λ (l : List Item). FunctionsStand cs last.types (functions_of l) state.types) is
          (functions_grow cs state.known.types last.types (functions_of items) state.types keeps.types functions);
      blocks = subst (λ (l : List Item). BlocksStand cs last.types (functions_of l) (statements_of l) blocks) is
          (subst (λ (bs : List BlockNames). BlocksStand cs last.types (functions_of items) (statements_of items) bs) (sym all) whole);
    }

pub ruleset answers = (answer_accepted, answer_right, answer_refused, answer_accepts, answer_refuses)
