-- A list of texts, each once, and the number of one of them.
use Rattle.std.specs.Prelude.{◌≡◌, ◌⊎◌, ℕ, List, [], ◌∷◌, ◌++◌, Contains}
use Rattle.node_code.specs.Places.{At}
use Rattle.node_code.specs.declared.texts.TextAt.{TextAt}

-- x stands at the number of r; the texts are ts, with x behind them where ts hasn't x
pub record IsText (ts : List (List ℕ)) (x : List ℕ) (r : TextAt) : Type 0 where
  pub at : At r.texts r.at x
  pub texts : (r.texts ≡ ts) ⊎ ((Contains ts x → ⊥) × (r.texts ≡ ts ++ x ∷ []))
