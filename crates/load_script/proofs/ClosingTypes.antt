-- What a script's types come to, by what closing makes of them.
use Rattle.std.proofs.Common.{◌≡◌, ◌∙◌, ◌⊎◌, inl, inr, List, ap, refl, sym, subst}
use Rattle.mono_syntax.specs.Ty.{Ty}
use Rattle.mono_syntax.specs.declared.leaf.Place.{Place}
use Rattle.mono_syntax.specs.declared.refusal.LoadFault.{LoadFault}
use Rattle.mono_syntax.specs.declared.refusal.LoadFault.TheVariants.{Refused, Memory}
use Rattle.mono_syntax.specs.declared.refusal.Reason.{Reason}
use Rattle.mono_syntax.specs.declared.refusal.Refusal.{Refusal}
use Rattle.mono_syntax.specs.declared.tree.Script.{Script}
use Rattle.mono_tree.specs.ClosedList.{IsClosedList}
use Rattle.mono_tree.proofs.ClosedMembers as closed
use Rattle.script_rules.specs.LoadFaults.{IsFault}
use Rattle.type_shapes.specs.Limits.{IsWithinLimits, IsFirstFault, IsRefusal}
use Rattle.type_shapes.proofs.LimitLaws.{no_fault}
use Rattle.meet_closure.proofs.RefusalLaws.{one}
use Rattle.written_types.specs.ScriptTypes.{AreScriptTypes}
use Rattle.written_types.proofs.Uniqueness.{script_types_unique}
use Rattle.load_script.specs.TreePhases.{RefusesTypes}

abbrev at_beginning : Reason → Refusal
at_beginning r = record { place = record { line = 1; column = 1 }; reason = r }

abbrev refusal_of : LoadFault → Refusal → Refusal
refusal_of (Refused q) r = q
refusal_of Memory r = r

-- the closed list of the types that a script writes is the one that its refusal speaks of
same_list : (s : Script) (written l : List Ty) → AreScriptTypes s written → IsClosedList written l → (q : Refusal) (h : RefusesTypes s q) → h.list ≡ l
same_list s written l are is q h =
    let own = h.closed in
    let same : own.written ≡ written = script_types_unique s own.written written own.are are in
    closed.one_list written h.list l (subst (λ (ts : List Ty). IsClosedList ts h.list) same own.closed) is

-- types that were closed within the limits aren't refused
pub closed_whole : (s : Script) (written l : List Ty) → AreScriptTypes s written → IsClosedList written l → IsWithinLimits l
    → (q : Refusal) → RefusesTypes s q → ⊥
closed_whole s written l are is within q h =
    no_fault l q.reason within (subst (λ (ts : List Ty). IsFirstFault ts q.reason) (same_list s written l are is q h) h.fault)

-- what closing refuses is refused so
pub closed_fault : (s : Script) (written : List Ty) → AreScriptTypes s written → (e : LoadFault) → IsRefusal written e → IsFault (RefusesTypes s) e
closed_fault s written are Memory h = tt
closed_fault s written are (Refused q) (l, is, inl e) = absurd cc
closed_fault s written are (Refused q) (l, is, inr (r, first, e)) =
    let same : q ≡ at_beginning r = ap (λ f. refusal_of f q) e in
    record {
      list = l;
      closed = record { written = written; are = are; closed = is };
      fault = subst (λ (x : Refusal). IsFirstFault l x.reason) (sym same) first;
      place = ap (λ (x : Refusal). x.place) same;
    }

-- and nothing else
pub closed_refuses : (s : Script) (written : List Ty) → AreScriptTypes s written → (e : LoadFault) → IsRefusal written e
    → (q : Refusal) → RefusesTypes s q → (e ≡ Refused q) ⊎ (e ≡ Memory)
closed_refuses s written are e (l, is, inl m) q h = inr m
closed_refuses s written are e (l, is, inr (r, first, m)) q h =
    let own = subst (λ (ts : List Ty). IsFirstFault ts q.reason) (same_list s written l are is q h) h.fault in
    let reason : r ≡ q.reason = one l r q.reason first own in
    let same : at_beginning r ≡ q = ap at_beginning reason ∙ ap (λ (p : Place). record { place = p; reason = q.reason }) (sym h.place) in
    inl (m ∙ ap Refused same)
