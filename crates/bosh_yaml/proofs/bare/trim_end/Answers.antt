use Rattle.std.proofs.Common.{◌∙◌, sym, arith}
use Rattle.bosh_yaml.proofs.LineLemmas.{trim_end-shorter, trim_end-done, trim_end-none}
use Rattle.bosh_yaml.proofs.bare.trim_end.Goals as goal
use Rattle.bosh_yaml.proofs.bare.trim_end.Goals.{then-loop-len-test+else-bytes-len-eq32, else-loop-len-test}

pub loop-len-preserved : goal.loop-len-preserved
loop-len-preserved c =
    (omega arith, trim_end-shorter c.loop-len.len c.args.bytes.now c.loop-len-test.true c.loop-len.invariant.0 c.if-bytes-len-eq32.true ∙ c.loop-len.invariant.1)

pub returns : goal.returns
returns c =
    elim c.loop-len-test.branch [
      | then-loop-len-test+else-bytes-len-eq32 w ↦ sym (trim_end-done c.loop-len.len c.args.bytes.now w.loop-len-test.true c.loop-len.invariant.0 w.if-bytes-len-eq32.false) ∙ c.loop-len.invariant.1
      | else-loop-len-test w ↦ trim_end-none c.loop-len.len c.args.bytes.now w.loop-len-test.false ∙ c.loop-len.invariant.1
    ]
