use Rattle.std.proofs.Common.{◌≡◌, ◌∙◌, ap, sym}
use Rattle.node_code.specs.Blocks.{names_in}
use Rattle.node_code.proofs.BlockLaws.{block_added}
use Rattle.node_code.proofs.blocks.number_block.Goals as goal

pub returns : goal.returns
returns c =
    block_added c.args.block.now c.args.pool c.args.slots.now c.no_code-code.result c.as_slice.result.now c.in_ok-body.body
    c.in_ok-names.names c.in_ok-threads.threads c.requires c.no_code-code.ensures (c.as_slice.ensures ∙ c.get.ensures)
    c.in_ok-body.ensures (c.in_ok-names.ensures ∙ ap names_in c.as_slice-2.ensures)
    (c.in_ok-threads.ensures ∙ ap names_in c.as_slice-3.ensures)
