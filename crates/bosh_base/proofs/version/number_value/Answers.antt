use Rattle.std.proofs.Common.{◌≡◌, ◌-◌, arith, get_or}
use Rattle.bosh_base.proofs.VersionLemmas.{one_more, Digits-number}
use Rattle.bosh_base.proofs.version.number_value.Goals as goal

pub overflow_mul-value : goal.overflow_mul-value
overflow_mul-value c =
    let more = one_more c.args.text.now c.loop-byte.byte-index c.loop-byte.value (Digits-number c.args.text.now c.requires) c.loop-byte-test.true c.loop-byte.invariant.read c.loop-byte.invariant.bound in
    omega (arith, more)

pub overflow_add-value : goal.overflow_add-value
overflow_add-value c =
    let more = one_more c.args.text.now c.loop-byte.byte-index c.loop-byte.value (Digits-number c.args.text.now c.requires) c.loop-byte-test.true c.loop-byte.invariant.read c.loop-byte.invariant.bound in
    let digit : c.from.result ≡ get_or c.args.text.now c.loop-byte.byte-index 0 - 48 = omega arith in
    omega (arith, more)

pub loop-byte-preserved : goal.loop-byte-preserved
loop-byte-preserved c =
    let more = one_more c.args.text.now c.loop-byte.byte-index c.loop-byte.value (Digits-number c.args.text.now c.requires) c.loop-byte-test.true c.loop-byte.invariant.read c.loop-byte.invariant.bound in
    let digit : c.from.result ≡ get_or c.args.text.now c.loop-byte.byte-index 0 - 48 = omega arith in
    record { read = rw digit more.read; bound = rw digit more.bound }
