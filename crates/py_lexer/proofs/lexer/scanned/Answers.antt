use Rattle.std.proofs.Common.{◌∙◌, sym, arith, rules, length, chars}
use Rattle.py_lexer.proofs.Progress.{found, named, reads_on, reads_end, refused_on, refused_end, fits_text, some_bytes, no_chars}
use Rattle.py_lexer.proofs.lexer.scanned.Goals as goal

pub before-spelling-requires : goal.before-spelling-requires
before-spelling-requires c =
    let f = found c.loop-rest.rest.now c.front-kind.result.1.now c.front-kind.result.0 c.loop-rest.invariant.text (sym c.is_empty.ensures ∙ c.loop-rest-test.true) c.front-kind.ensures.kind c.front-kind.ensures.behind in
    (f.spelling, f.parts)

pub returns-in-Err-clause-refused : goal.returns-in-Err-clause-refused
returns-in-Err-clause-refused c =
    let f = found c.loop-rest.rest.now c.front-kind.result.1.now c.front-kind.result.0 c.loop-rest.invariant.text (sym c.is_empty.ensures ∙ c.loop-rest-test.true) c.front-kind.ensures.kind c.front-kind.ensures.behind in
    let n = named (chars c.loop-rest.rest.now) c.front-kind.result.0 (chars c.before-spelling.result.now) (chars c.front-kind.result.1.now) f (c.before-spelling.ensures.front f.spelling f.parts) in
    refused_on (chars c.args.text.now) c.loop-rest.tokens.items c.loop-rest.state c.loop-rest.spot (chars c.loop-rest.rest.now) c.front-kind.result.0 (chars c.before-spelling.result.now) (chars c.front-kind.result.1.now) c.in-Err.fault
    c.loop-rest.invariant.reads n c.in-Err.ensures.refused

pub loop-rest-smaller : goal.loop-rest-smaller
loop-rest-smaller c =
    let f = found c.loop-rest.rest.now c.front-kind.result.1.now c.front-kind.result.0 c.loop-rest.invariant.text (sym c.is_empty.ensures ∙ c.loop-rest-test.true) c.front-kind.ensures.kind c.front-kind.ensures.behind in
    let n = named (chars c.loop-rest.rest.now) c.front-kind.result.0 (chars c.before-spelling.result.now) (chars c.front-kind.result.1.now) f (c.before-spelling.ensures.front f.spelling f.parts) in
    let some = some_bytes c.before-spelling.result.now n.some in
    omega (arith, some, c.before-spelling.ensures.len)

pub loop-rest-preserved : goal.loop-rest-preserved
loop-rest-preserved c =
    let f = found c.loop-rest.rest.now c.front-kind.result.1.now c.front-kind.result.0 c.loop-rest.invariant.text (sym c.is_empty.ensures ∙ c.loop-rest-test.true) c.front-kind.ensures.kind c.front-kind.ensures.behind in
    let n = named (chars c.loop-rest.rest.now) c.front-kind.result.0 (chars c.before-spelling.result.now) (chars c.front-kind.result.1.now) f (c.before-spelling.ensures.front f.spelling f.parts) in
    record {
      text = search rules;
      reads =
          reads_on (chars c.args.text.now) c.loop-rest.tokens.items c.loop-rest.state c.loop-rest.spot (chars c.loop-rest.rest.now) c.front-kind.result.0 (chars c.before-spelling.result.now) (chars c.front-kind.result.1.now)
          c.loop-rest.invariant.reads n.parts n.is_piece c.in-Ok.ensures.state.0 c.step.new.tokens.items c.in-Ok.next c.spot_behind-spot.result c.in-Ok.ensures.tokens c.in-Ok.ensures.state.1 c.spot_behind-spot.ensures;
      fits =
          let P = fits_text c.loop-rest.spot c.before-spelling.result.now (length c.front-kind.result.1.now) (length c.loop-rest.rest.now) c.before-spelling.utf8 c.before-spelling.ensures.len c.loop-rest.invariant.fits in
          rw c.spot_behind-spot.ensures P;
    }

pub returns-in-Ok-finish-clause-ok : goal.returns-in-Ok-finish-clause-ok
returns-in-Ok-finish-clause-ok c =
    reads_end (chars c.args.text.now) c.loop-rest.tokens.items c.loop-rest.state c.loop-rest.spot (chars c.loop-rest.rest.now) c.loop-rest.invariant.reads
    (no_chars c.loop-rest.rest.now (sym c.is_empty.ensures ∙ c.loop-rest-test.false)) c.in-Ok-finish.ensures.ok c.finish.new.tokens.items c.in-Ok-finish.ensures.tokens

pub returns-in-Err-finish-clause-refused : goal.returns-in-Err-finish-clause-refused
returns-in-Err-finish-clause-refused c =
    refused_end (chars c.args.text.now) c.loop-rest.tokens.items c.loop-rest.state c.loop-rest.spot (chars c.loop-rest.rest.now) c.in-Err-finish.fault c.loop-rest.invariant.reads
    (no_chars c.loop-rest.rest.now (sym c.is_empty.ensures ∙ c.loop-rest-test.false)) c.in-Err-finish.ensures.refused
