use Rattle.std.proofs.Common.{sym, subst}
use Rattle.mono_syntax.specs.declared.value.TypeNo.{TypeNo}
use Rattle.mono_syntax.specs.declared.value.Value.{Value}
use Rattle.mono_tree.specs.TypeNumbers.{Names}
use Rattle.strengthen.specs.Demands.{IsVerdict}
use Rattle.strengthen.proofs.FittedWords.{same_pair}
use Rattle.strengthen.proofs.demands.resume_demand.Goals as goal

pub returns-clause-verdict : goal.returns-clause-verdict
returns-clause-verdict c = λ n w r t word e f.
    let same = same_pair c.unpack.result n c.in-Some.recorded w c.in-Some.value ((c.unpack.ensures.pair n w).1 word) c.in-Some.is in
    subst (λ (v : Value). IsVerdict c.args.table.now c.args.top c.args.seen v r t c.at_pair.result) (sym same.1)
    (c.at_pair.ensures.verdict r t (subst (λ (m : TypeNo). Names c.args.table.now.types m r) same.0 e) f)
