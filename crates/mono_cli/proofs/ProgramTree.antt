-- The tree of a program is one that the grammar gives for its bytes, and its sites have their numbers.
use Rattle.std.proofs.Common.{◌≡◌, ◌∙◌, List, ℕ, ap, sym, subst}
use Rattle.load_script.specs.declared.accepted.Accepted.{Accepted}
use Rattle.mono_syntax.specs.declared.tree.Script.{Script}
use Rattle.load_script.specs.Phases.{IsProgramOf}
use Rattle.tree_print.specs.ReadsBack.{HasTree, IsGrammatical}

pub program_grammatical : (bytes : List ℕ) (p : Accepted) → IsProgramOf bytes p → IsGrammatical p.script.scoped.script
program_grammatical bytes p i =
    let text = i.program in
    let tokens = text.program in
    let tree = tokens.program in
    let same : p.script.scoped.script ≡ tokens.script = ap (λ d. d.script) tree.casts.scoped ∙ tree.scope.script in
    let Has : Script → Type 0 = λ s. HasTree bytes s in
    record {
      source = bytes;
      has_tree = subst Has (sym same) (record { is_text = i.is_text; tokens = text.tokens; lexes = text.lexes; derives = tokens.tree });
    }

pub program_sites : (bytes : List ℕ) (p : Accepted) → IsProgramOf bytes p → (p.program).sites ≡ p.script.sites
program_sites bytes p i =
    let tokens = (i.program).program in
    let tree = tokens.program in
    ((tree.numbered).same).sites
