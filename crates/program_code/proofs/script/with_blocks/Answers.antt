use Rattle.std.proofs.Common.{◌≡◌, ◌∙◌, ap, sym, subst, map, refl, ℕ, List}
use Rattle.mono_syntax.specs.declared.cast.CastClass.{CastClass}
use Rattle.mono_syntax.specs.declared.script.Scoped.{Scoped}
use Rattle.mono_syntax.specs.declared.tree.Item.{Item}
use Rattle.mono_syntax.specs.declared.tree.Script.{Script}
use Rattle.node_code.specs.Blocks.{IsBlock}
use Rattle.node_code.specs.Places.{Each}
use Rattle.program_code.specs.SameScript.{IsClass, IsFunction}
use Rattle.script_rules.specs.Definitions.{classes_of, functions_of}
use Rattle.program_code.proofs.script.with_blocks.Goals as goal

pub returns : goal.returns
returns c =
    let p = c.args.script.now in
    let pool = c.args.blocks.pool in
    let texts : c.into_items.result ≡ pool.texts = c.into_items.ensures.same in
    let script : c.get-2.result.now ≡ (p.scoped).script = c.get-2.ensures ∙ ap (λ (z : Scoped). z.script) c.get.ensures in
    let items : c.as_slice-items.result.now ≡ ((p.scoped).script).items = c.as_slice-items.ensures ∙ (c.get-3.ensures ∙ ap (λ (z : Script). z.items) script) in
    record {
      texts = c.into_items.ensures.once;
      types_kept = refl;
      class_types = c.requires.classes;
      site_types = c.requires.types;
      sites = c.in_ok-sites.ensures ∙ c.as_slice.ensures;
      classes = subst (λ (l : List CastClass). Each IsClass c.in_ok-classes.classes l) c.as_slice-2.ensures c.in_ok-classes.ensures;
      class_names = c.in_ok-class_names.ensures ∙ ap (λ (l : List Item). map (λ d. d.name.text) (classes_of l)) items;
      functions =
          subst (λ (l : List (List ℕ)). Each (IsFunction (record { texts = l; table = pool.table })) c.args.blocks.functions p.functions) (sym texts)
          c.requires.blocks.functions;
      function_names = c.in_ok-function_names.ensures ∙ ap (λ (l : List Item). map (λ d. d.name.text) (functions_of l)) items;
      main =
          subst (λ (l : List (List ℕ)). IsBlock (record { texts = l; table = pool.table }) p.main c.args.blocks.main) (sym texts)
          c.requires.blocks.main;
    }
