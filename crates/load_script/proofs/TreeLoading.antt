-- What a tree comes to, by what the next phase makes of its names, its types and its casts.
use Rattle.std.proofs.Common.{◌≡◌, ◌∙◌, inl, inr, Result, Ok, Err, IfOk, IfErr, refl, ap, sym, subst}
use Rattle.std.specs.Prelude.{IsOkUnless}
use Rattle.mono_syntax.specs.declared.cast.CastScript.{CastScript}
use Rattle.mono_syntax.specs.declared.refusal.LoadFault.{LoadFault}
use Rattle.mono_syntax.specs.declared.refusal.LoadFault.TheVariants.{Refused, Memory}
use Rattle.mono_syntax.specs.declared.refusal.Refusal.{Refusal}
use Rattle.mono_syntax.specs.declared.script.Scoped.{Scoped}
use Rattle.mono_syntax.specs.declared.tree.Script.{Script}
use Rattle.script_rules.specs.LoadFaults.{IsFault, Refuses}
use Rattle.script_rules.specs.ScopeFaults as scope
use Rattle.script_rules.specs.ScopeFaults.{IsRight, IsScopeRefusal}
use Rattle.script_rules.specs.Scoping.{IsScope}
use Rattle.static_types.specs.Scripts.{IsTypeFault}
use Rattle.cast_rules.specs.HasCasts.{HasCasts}
use Rattle.load_script.specs.declared.accepted.Accepted.{Accepted}
use Rattle.load_script.specs.TreePhases.{RefusesCasts, IsNumbered, IsTreeProgram, RefusesTree, misnamed, mistyped, with_casts}
use Rattle.load_script.proofs.Numbering.{own_tree, same_refusal}

-- what holds of a script holds of the one that its scope keeps
pub kept : (P : Script → Type 0) (s : Script) (d : Scoped) → IsScope s d → P s → P d.script
kept P s d is h = subst P (sym is.script) h

pub own_scope : (s : Script) (d : Scoped) → IsScope s d → IsScope d.script d
own_scope s d is = subst (λ (x : Script). IsScope x d) (sym is.script) is

-- a right script has no fault of names or sizes
right_only : (s : Script) (q : Refusal) → IsRight s → IsScopeRefusal s q → ⊥
right_only s q right (scope.misnamed f) = right.names _ _ f.stands
right_only s q right (scope.oversized z f) = right.sizes _ _ f.stands

abbrev pub no_program : LoadFault → Result Accepted LoadFault
no_program f = Err f

-- ---- where the expressions have their types

pub numbered_program : (d : Scoped) → IsRight d.script → IsScope d.script d → (q : CastScript) → HasCasts d q → (r : Result Accepted LoadFault)
    → IfOk r (λ a. a.script ≡ q) → IfOk r (IsNumbered q.scoped.script) → IfOk r (IsTreeProgram d.script)
numbered_program d right is q casts (Ok p) same h = record {
  right = right;
  scoped = d;
  scope = is;
  casts = subst (λ (x : CastScript). HasCasts d x) (sym same) casts;
  numbered = subst (λ (s : Script). IsNumbered s p) (own_tree d q casts) h;
}
numbered_program d right is q casts (Err f) same h = tt

pub numbered_fault : (d : Scoped) → IsRight d.script → IsScope d.script d → (q : CastScript) → HasCasts d q → ((f : Refusal) → IsTypeFault d.script f → ⊥)
    → (r : Result Accepted LoadFault) → IfErr r (IsFault (RefusesCasts q)) → IfErr r (IsFault (RefusesTree d.script))
numbered_fault d right is q casts none (Ok p) h = tt
numbered_fault d right is q casts none (Err (Refused f)) h = with_casts right none is casts h
numbered_fault d right is q casts none (Err Memory) h = tt

pub numbered_refuses : (d : Scoped) → IsRight d.script → (q : CastScript) → HasCasts d q → ((f : Refusal) → IsTypeFault d.script f → ⊥)
    → (r : Result Accepted LoadFault) → ((f : Refusal) → RefusesCasts q f → Refuses r f)
    → (f : Refusal) → RefusesTree d.script f → Refuses r f
numbered_refuses d right q casts none r h f (misnamed g) = absurd (right_only d.script f right g)
numbered_refuses d right q casts none r h f (mistyped k g) = absurd (none f g)
numbered_refuses d right q casts none r h f (with_casts {d = e} {p = p} k n i c g) = h f (same_refusal e d p q i.script c casts f g)

-- ---- where a type is at fault

pub typed_fault : (s : Script) → IsRight s → (f : LoadFault) → IsFault (IsTypeFault s) f → IsFault (RefusesTree s) f
typed_fault s right (Refused r) h = mistyped right h
typed_fault s right Memory h = tt

pub typed_refuses : (s : Script) → IsRight s → (f : LoadFault) → IsFault (IsTypeFault s) f
    → ((q : Refusal) → IsTypeFault s q → Refuses (no_program f) q) → (q : Refusal) → RefusesTree s q → Refuses (no_program f) q
typed_refuses s right f h refuses q (misnamed g) = absurd (right_only s q right g)
typed_refuses s right f h refuses q (mistyped k g) = refuses q g
typed_refuses s right (Refused r) h refuses q (with_casts k n i c g) = absurd (n r h)
typed_refuses s right Memory h refuses q (with_casts k n i c g) = inr refl

-- ---- where the names are wrong

abbrev no_scope : LoadFault → Result Scoped LoadFault
no_scope f = Err f

pub named_fault : (s : Script) (f : LoadFault) → IsFault (IsScopeRefusal s) f → IsFault (RefusesTree s) f
named_fault s (Refused r) h = misnamed h
named_fault s Memory h = tt

pub named_refuses : (s : Script) (f : LoadFault) → (IsRight s → IsOkUnless (no_scope f) Memory)
    → ((q : Refusal) → IsScopeRefusal s q → Refuses (no_scope f) q) → (q : Refusal) → RefusesTree s q → Refuses (no_program f) q
named_refuses s f accepts refuses q (misnamed g) = refuses q g
named_refuses s f accepts refuses q (mistyped k g) = inr (accepts k)
named_refuses s f accepts refuses q (with_casts k n i c g) = inr (accepts k)

-- ---- what is said of the scope's own script is said of the tree

pub program_of : (s : Script) (d : Scoped) → IsScope s d → (r : Result Accepted LoadFault) → IfOk r (IsTreeProgram d.script) → IfOk r (IsTreeProgram s)
program_of s d is r h = subst (λ (x : Script). IfOk r (IsTreeProgram x)) is.script h

pub fault_of : (s : Script) (d : Scoped) → IsScope s d → (r : Result Accepted LoadFault)
    → IfErr r (IsFault (RefusesTree d.script)) → IfErr r (IsFault (RefusesTree s))
fault_of s d is r h = subst (λ (x : Script). IfErr r (IsFault (RefusesTree x))) is.script h

pub refuses_of : (s : Script) (d : Scoped) → IsScope s d → (r : Result Accepted LoadFault)
    → ((q : Refusal) → RefusesTree d.script q → Refuses r q) → (q : Refusal) → RefusesTree s q → Refuses r q
refuses_of s d is r h q f = h q (subst (λ (x : Script). RefusesTree x q) (sym is.script) f)
