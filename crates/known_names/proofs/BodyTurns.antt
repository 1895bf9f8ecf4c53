-- One more function's body, in the loop over them.
use Rattle.std.proofs.Common.{◌≡◌, ℕ, zero, suc, ◌+◌, ◌<◌, List, [], ◌∷◌, ◌++◌, length, drop, refl, sym, ◌∙◌, ap, arith}
use Rattle.mono_syntax.specs.declared.leaf.TyAt.{TyAt}
use Rattle.mono_syntax.specs.declared.script.Scoped.{Scoped}
use Rattle.known_names.specs.declared.known.Local.{Local}
use Rattle.known_names.specs.computed.Gathered.{bodies_from, function_names}

module _ (d : Scoped) where
  one_on : (done : List Local) (places : List TyAt) (i : ℕ) → i < length places
      → bodies_from d done (drop i places) ≡ bodies_from d (done ++ function_names d (length done) ∷ []) (drop (suc i) places)
  one_on done [] i h = absurd (omega arith)
  one_on done (a ∷ places) zero h = refl
  one_on done (a ∷ places) (suc i) h = one_on done places i (omega arith)

  pub body_done : (done : List Local) (places : List TyAt) (i : ℕ) (more : List Local) → i < length places → more ≡ done ++ function_names d (length done) ∷ []
      → bodies_from d done (drop i places) ≡ bodies_from d [] places → bodies_from d more (drop (i + 1) places) ≡ bodies_from d [] places
  body_done done places i more h e before =
      let next : i + 1 ≡ suc i = omega arith in
      ap (λ (ls : List Local). bodies_from d ls (drop (i + 1) places)) e
      ∙ ap (λ (k : ℕ). bodies_from d (done ++ function_names d (length done) ∷ []) (drop k places)) next
      ∙ sym (one_on done places i h) ∙ before
