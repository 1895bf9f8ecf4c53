-- The parts of an expression that is of this form.
use Rattle.std.proofs.Common.{◌≡◌, Result, Ok, sym, subst, cond}
use Rattle.std.specs.Prelude.{is_some}
use Rattle.mono_syntax.specs.declared.refusal.LoadFault.{LoadFault}
use Rattle.mono_syntax.specs.Expr.{Expr, Exprs}
use Rattle.known_names.specs.declared.known.Known.{Known}
use Rattle.known_names.specs.declared.known.Local.{Local}
use Rattle.known_names.specs.computed.Gives.{Gives}
use Rattle.mono_syntax.specs.declared.refusal.Refusal.{Refusal}
use Rattle.consistency.specs.declared.parts.Parts.{Parts}
use Rattle.consistency.specs.declared.trace.Trace.{Trace}
use Rattle.consistency.specs.computed.Checked.{no_parts, with_part, ended, parts_typed, all_typed}
use Rattle.rule_choice.specs.computed.Ruled.{called_class}
use Rattle.rule_choice.specs.computed.Steps.{and_then}

module _ (ks : Known) (l : Local) (b : Trace) (r : Result Parts LoadFault) where
  abbrev Two : Expr → Expr → Result Parts Refusal
  Two x y = and_then (with_part (no_parts b) x (ended ks l x (parts_typed ks l x b))) (λ z. with_part z y (ended ks l y (parts_typed ks l y z.trace)))

  pub two_so : (e form a c x y : Expr) → e ≡ form → a ≡ x → c ≡ y → Two x y ≡ parts_typed ks l form b → Gives r (Two a c) → Gives r (parts_typed ks l e b)
  two_so e form a c x y is first second same h =
      subst (λ (z : Expr). Gives r (parts_typed ks l z b)) (sym is)
      (subst (λ (m : Result Parts Refusal). Gives r m) same
      (subst (λ (z : Expr). Gives r (Two x z)) second (subst (λ (z : Expr). Gives r (Two z c)) first h)))

  abbrev Called : Expr → Exprs → Result Parts Refusal
  Called f es =
      and_then (cond (is_some (called_class ks.classes f)) (Ok (no_parts b)) (with_part (no_parts b) f (ended ks l f (parts_typed ks l f b)))) (λ x. all_typed ks l x es)

  pub called_so : (e form f g : Expr) (es hs : Exprs) → e ≡ form → f ≡ g → es ≡ hs → Called g hs ≡ parts_typed ks l form b → Gives r (Called f es) → Gives r (parts_typed ks l e b)
  called_so e form f g es hs is first second same h =
      subst (λ (z : Expr). Gives r (parts_typed ks l z b)) (sym is)
      (subst (λ (m : Result Parts Refusal). Gives r m) same
      (subst (λ (z : Exprs). Gives r (Called g z)) second (subst (λ (z : Expr). Gives r (Called z es)) first h)))
