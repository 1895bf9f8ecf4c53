-- What a script with its casts comes to, by what closing and numbering make of it.
use Rattle.std.proofs.Common.{◌≡◌, ◌∙◌, ◌<◌, ◌≤◌, ℕ, inl, inr, List, length, Result, Ok, Err, IfOk, IfErr, refl, ap, sym, subst}
use Rattle.mono_syntax.specs.Ty.{Ty}
use Rattle.mono_syntax.specs.declared.cast.CastScript.{CastScript}
use Rattle.mono_syntax.specs.declared.refusal.LoadFault.{LoadFault}
use Rattle.mono_syntax.specs.declared.refusal.LoadFault.TheVariants.{Refused, Memory}
use Rattle.mono_syntax.specs.declared.refusal.Refusal.{Refusal}
use Rattle.mono_syntax.specs.declared.script.Scoped.{Scoped}
use Rattle.mono_syntax.specs.declared.tree.Script.{Script}
use Rattle.program_code.specs.Counts.{IsTooMany, functions, classes, sites, most_functions, most_classes, most_sites}
use Rattle.script_rules.specs.LoadFaults.{IsFault, Refuses}
use Rattle.cast_rules.specs.HasCasts.{HasCasts}
use Rattle.cast_rules.proofs.OneScript.{counts_once}
use Rattle.type_shapes.specs.Limits.{IsWithinLimits}
use Rattle.load_script.specs.declared.accepted.Accepted.{Accepted}
use Rattle.load_script.specs.TreePhases.{IsClosedListOf, RefusesTypes, RefusesCasts, unclosed, unnumbered}
use Rattle.load_script.proofs.ClosingTypes.{closed_whole}

-- ---- two scripts with casts of one source

pub own_tree : (d : Scoped) (q : CastScript) → HasCasts d q → q.scoped.script ≡ d.script
own_tree d q casts = ap (λ (x : Scoped). x.script) casts.scoped

-- they count the same
abbrev SameCounts : CastScript → CastScript → Type 0
SameCounts p q = (length p.functions ≡ length q.functions) × (length p.classes ≡ length q.classes) × (length p.sites ≡ length q.sites)

same_count : (p q : CastScript) → SameCounts p q → (f : Refusal) → IsTooMany p f → IsTooMany q f
same_count p q c f (functions m e) = functions (subst (λ (n : ℕ). most_functions < n) c.0 m) e
same_count p q c f (classes a m e) = classes (subst (λ (n : ℕ). n ≤ most_functions) c.0 a) (subst (λ (n : ℕ). most_classes < n) c.1 m) e
same_count p q c f (sites a b m e) =
    sites (subst (λ (n : ℕ). n ≤ most_functions) c.0 a) (subst (λ (n : ℕ). n ≤ most_classes) c.1 b) (subst (λ (n : ℕ). most_sites < n) c.2 m) e

pub same_refusal : (e d : Scoped) (p q : CastScript) → e.script ≡ d.script → HasCasts e p → HasCasts d q → (f : Refusal) → RefusesCasts p f → RefusesCasts q f
same_refusal e d p q same c k f (unclosed g) =
    unclosed (subst (λ (s : Script). RefusesTypes s f) (own_tree e p c ∙ same ∙ sym (own_tree d q k)) g)
same_refusal e d p q same c k f (unnumbered {l = l} g w m) =
    unnumbered (subst (λ (s : Script). IsClosedListOf s l) (own_tree e p c ∙ same ∙ sym (own_tree d q k)) g) w (same_count p q (counts_once e d p q same c k) f m)

-- ---- where closing refuses

abbrev pub not_accepted : LoadFault → Result Accepted LoadFault
not_accepted f = Err f

pub types_fault : (p : CastScript) (f : LoadFault) → IsFault (RefusesTypes (p.scoped).script) f → IsFault (RefusesCasts p) f
types_fault p (Refused q) h = unclosed h
types_fault p Memory h = tt

abbrev pub no_list : LoadFault → Result (List Ty) LoadFault
no_list f = Err f

pub types_refuse : (p : CastScript) (f : LoadFault) → IsFault (RefusesTypes (p.scoped).script) f
    → ((q : Refusal) → RefusesTypes (p.scoped).script q → Refuses (no_list f) q) → (q : Refusal) → RefusesCasts p q → Refuses (not_accepted f) q
types_refuse p f h refuses q (unclosed g) = refuses q g
types_refuse p (Refused r) h refuses q (unnumbered {l = l} g w m) = absurd (closed_whole (p.scoped).script g.written l g.are g.closed w r h)
types_refuse p Memory h refuses q (unnumbered g w m) = inr refl

-- ---- where numbering refuses

pub counts_fault : (p : CastScript) (l : List Ty) → IsClosedListOf (p.scoped).script l → IsWithinLimits l → (f : LoadFault) → IsFault (IsTooMany p) f → IsFault (RefusesCasts p) f
counts_fault p l g w (Refused q) h = unnumbered g w h
counts_fault p l g w Memory h = tt

-- nothing else is refused
pub counts_refuse : (p : CastScript) (l : List Ty) → IsClosedListOf (p.scoped).script l → IsWithinLimits l → {A : Type 0} (r : Result A LoadFault)
    → ((q : Refusal) → IsTooMany p q → Refuses r q) → (q : Refusal) → RefusesCasts p q → Refuses r q
counts_refuse p l g w r h q (unclosed f) = absurd (closed_whole (p.scoped).script g.written l g.are g.closed w q f)
counts_refuse p l g w r h q (unnumbered k v m) = h q m

abbrev pub no_refusal : CastScript → Result CastScript LoadFault
no_refusal p = Ok p
