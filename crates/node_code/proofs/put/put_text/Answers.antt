use Rattle.node_code.proofs.Growing.{text_kept}
use Rattle.node_code.proofs.put.put_text.Goals as goal

pub returns : goal.returns
returns c = text_kept c.args.tables c.args.text.now c.in_ok-found.found c.in_ok-found.ensures
