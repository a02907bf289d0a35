-- A band is passed over, or two bands meet.
use Rattle.std.proofs.Common.{◌∙◌, sym, arith, inl, inr}
use Rattle.bosh_bands.proofs.CommonLemmas.{common, meets_least, none_left, step_first, step_second}
use Rattle.bosh_bands.proofs.LeastLemmas.{least-found, least-nowhere}
use Rattle.bosh_bands.proofs.common.first_common.Goals as goal

pub loop-i-preserved-then-ends_before : goal.loop-i-preserved-then-ends_before
loop-i-preserved-then-ends_before c = λ addr.
    c.loop-i.invariant addr ∙ step_first c.args.first.now c.args.second.now c.loop-i.i c.loop-i.j _ _ c.loop-i-test.true c.if-j-second.true c.requires.second (sym c.if-ends_before.ensures) addr

pub loop-i-preserved : goal.loop-i-preserved
loop-i-preserved c = λ addr.
    c.loop-i.invariant addr ∙ step_second c.args.first.now c.args.second.now c.loop-i.i c.loop-i.j _ _ c.loop-i-test.true c.if-j-second.true c.requires.first (sym c.if-ends_before-2.ensures) addr

pub returns-else-ends_before-2 : goal.returns-else-ends_before-2
returns-else-ends_before-2 c =
    sym (least-found (common c.args.first.now c.args.second.now) (record { 0 = c.max.result }) (omega arith)
    (meets_least c.args.first.now c.args.second.now c.loop-i.i c.loop-i.j _ _ (record { 0 = c.max.result }) c.loop-i-test.true c.if-j-second.true c.requires.first c.requires.second
    (sym c.if-ends_before.ensures) (sym c.if-ends_before-2.ensures) c.loop-i.invariant c.max.ensures))

pub returns-else-j-second : goal.returns-else-j-second
returns-else-j-second c = sym (least-nowhere _ (none_left c.args.first.now c.args.second.now c.loop-i.i c.loop-i.j c.loop-i.invariant (inr c.if-j-second.false)))

pub returns-after-loop-i : goal.returns-after-loop-i
returns-after-loop-i c = sym (least-nowhere _ (none_left c.args.first.now c.args.second.now c.loop-i.i c.loop-i.j c.loop-i.invariant (inl c.loop-i-test.false)))
