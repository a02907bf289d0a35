use Rattle.std.proofs.Common.{◌≡◌, ◌+◌, ◌-◌, ◌≤◌, length, arith, sym}
use Rattle.std.proofs.lemmas.Result.{err_from_is_err_and}
use Rattle.std.proofs.lemmas.List.{length_push}
use Rattle.bosh_yaml.specs.Flow.{signs_of}
use Rattle.bosh_yaml.proofs.FlowLemmas.{end_empty, signs_refused, signs_more}
use Rattle.bosh_yaml.proofs.flow.signs.Goals as goal

pub returns-in_err-sign : goal.returns-in_err-sign
returns-in_err-sign c =
    let p = err_from_is_err_and c.from_residual.result c.from_residual.ensures.1 in
    let left = end_empty c.loop-rest.rest.now (sym c.loop-rest-test.ensures) in
    let all = c.loop-rest.invariant.0 in
    rw (p.1, p.2) (signs_refused c.in_err-sign.field-0.0 (signs_of (length c.args.bytes.now) c.args.line c.args.bytes.now) c.loop-rest.signs.items (length c.args.bytes.now - length c.loop-rest.signs.items) c.args.line c.loop-rest.rest.now (omega arith) (sym c.loop-rest-test.ensures) c.loop-rest.invariant.1 (rw c.skip_spaces.ensures.skipped at c.in_err-sign.ensures.gives))

pub loop-rest-preserved : goal.loop-rest-preserved
loop-rest-preserved c =
    let left = end_empty c.loop-rest.rest.now (sym c.loop-rest-test.ensures) in
    let all = c.loop-rest.invariant.0 in
    let read = rw c.skip_spaces.ensures.skipped at c.in_ok-sign.ensures.gives in
    let more = signs_more (signs_of (length c.args.bytes.now) c.args.line c.args.bytes.now) c.loop-rest.signs.items (length c.args.bytes.now - length c.loop-rest.signs.items) c.args.line c.loop-rest.rest.now c.in_ok-sign.sign c.in_ok-sign.after.now (omega arith) (sym c.loop-rest-test.ensures) c.loop-rest.invariant.1 read in
    let n = length_push c.loop-rest.signs.items c.in_ok-sign.sign in
    let fewer : length c.args.bytes.now - (length c.loop-rest.signs.items + 1) ≡ length c.args.bytes.now - length c.loop-rest.signs.items - 1 = omega arith in
    let within : length c.loop-rest.signs.items + 1 + length c.in_ok-sign.after.now ≤ length c.args.bytes.now = omega (arith, c.in_ok-sign.ensures.shorter, c.skip_spaces.ensures.no_longer) in
    rw (c.in_ok-push.ensures.items, n, fewer) (within, more)
