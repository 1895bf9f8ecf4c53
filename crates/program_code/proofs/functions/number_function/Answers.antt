use Rattle.std.proofs.Common.{◌≡◌, ◌∙◌, ap, sym, subst, refl, ℕ, List}
use Rattle.mono_tree.specs.TypeNumbers.{Names}
use Rattle.type_numbers.specs.Tables.{Table}
use Rattle.node_code.specs.Blocks.{names_in}
use Rattle.node_code.specs.Places.{At, Each}
use Rattle.node_code.specs.Slotted.{HaveSlots}
use Rattle.node_code.specs.declared.data.Slots.{Slots}
use Rattle.program_code.proofs.functions.number_function.Goals as goal

pub type_no-ty-requires : goal.type_no-ty-requires
type_no-ty-requires c = c.requires.declared

pub returns : goal.returns
returns c =
    let f = c.args.function.now in
    let xs = c.as_slice.result.now in
    let read : xs ≡ f.params = c.as_slice.ensures in
    let names : c.in_ok-slots.slots.names ≡ names_in f.block.names = ap (λ (z : Slots). z.names) c.in_ok-slots.ensures in
    let asked = subst (λ (l : List (List ℕ)). HaveSlots l xs) (sym names)
    (subst (λ (l : List (List ℕ)). HaveSlots (names_in f.block.names) l) (sym read) c.requires.params) in
    let here = subst (λ (l : List (List ℕ)). Each (At l) c.in_ok-params.params xs) names (c.in_ok-params.ensures asked) in
    let with = c.in_ok-with.ensures c.requires.body in
    record {
      grows = with.grows;
      function = record {
        params = subst (λ (l : List (List ℕ)). Each (At (names_in f.block.names)) c.in_ok-params.params l) read here;
        declared = subst (λ (z : Table). Names z.types c.type_no-ty.result f.ty) (with.grows).table c.type_no-ty.ensures;
        block = with.block;
        falls = refl;
      };
    }
