use Rattle.std.proofs.Common.{rules, ◌∙◌, ◌<◌, None, Some, ap, arith, length, sym}
use Rattle.bosh_base.specs.declared.moves.Cause.TheVariants as causes
use Rattle.bosh_world.proofs.StopLemmas.{drop_one, fails_one, lacks_one, one_came, one_failed, takes_one}
use Rattle.bosh_world.specs.Stopping.{cause_by}
use Rattle.bosh_world.proofs.stopping.take_effects.Goals as goal

pub loop-call-preserved : goal.loop-call-preserved
loop-call-preserved g c =
    let within : c.loop-call.call-index < length c.args.calls.now = let t = c.loop-call-test.true in omega (arith, t) in (
      one_came g.L.Keeper.bodies g.L.Keeper.faults c.args.cloud.now c.loop-call.cloud c.take_effect.new.cloud
          c.loop-call.came c.loop-call.invariant.0 c.in-Ok.ensures.takes,
      λ cause now each. c.loop-call.invariant.1 cause now
          (takes_one g.L.Keeper.bodies g.L.Keeper.faults c.args.book.now.records c.args.firing c.args.n c.loop-call.came
          _ _ _ c.loop-call.cloud c.take_effect.new.cloud now cause
          (drop_one c.args.calls.now c.loop-call.call-index _ within)
          (sym c.comes.ensures ∙ c.if-not-comes.false) c.in-Ok.ensures.does each),
    )

pub returns-in-Err-Memory-clause-each : goal.returns-in-Err-Memory-clause-each
returns-in-Err-Memory-clause-each g c =
    let within : c.loop-call.call-index < length c.args.calls.now = let t = c.loop-call-test.true in omega (arith, t) in
    c.loop-call.invariant.1 (Some causes.Stop) c.take_effect.new.cloud
    (lacks_one g.L.Keeper.bodies g.L.Keeper.faults c.args.book.now.records c.args.firing c.args.n c.loop-call.came
    _ _ _ c.loop-call.cloud c.take_effect.new.cloud (Some causes.Stop) c.in-Err-Memory.field-0 c.in-Err-Memory.field-0-is
    (sym (ap cause_by c.if-came.true)) (drop_one c.args.calls.now c.loop-call.call-index _ within)
    (sym c.comes.ensures ∙ c.if-not-comes.false) c.in-Err-Memory.ensures.does)

pub returns-in-Err-Memory-2-clause-each : goal.returns-in-Err-Memory-2-clause-each
returns-in-Err-Memory-2-clause-each g c =
    let within : c.loop-call.call-index < length c.args.calls.now = let t = c.loop-call-test.true in omega (arith, t) in
    c.loop-call.invariant.1 None c.take_effect.new.cloud
    (lacks_one g.L.Keeper.bodies g.L.Keeper.faults c.args.book.now.records c.args.firing c.args.n c.loop-call.came
    _ _ _ c.loop-call.cloud c.take_effect.new.cloud None c.in-Err-Memory.field-0 c.in-Err-Memory.field-0-is
    (sym (ap cause_by c.if-came.false)) (drop_one c.args.calls.now c.loop-call.call-index _ within)
    (sym c.comes.ensures ∙ c.if-not-comes.false) c.in-Err-Memory.ensures.does)

pub returns-in-Err : goal.returns-in-Err
returns-in-Err g c =
    let within : c.loop-call.call-index < length c.args.calls.now = let t = c.loop-call-test.true in omega (arith, t) in
    record {
      takes = one_failed g.L.Keeper.bodies g.L.Keeper.faults c.args.cloud.now c.loop-call.cloud c.take_effect.new.cloud
          c.loop-call.came c.in-Err.field-0 (search rules) c.loop-call.invariant.0 c.in-Err.ensures.takes;
      each = c.loop-call.invariant.1 (Some causes.CloudStore) c.take_effect.new.cloud
          (fails_one g.L.Keeper.bodies g.L.Keeper.faults c.args.book.now.records c.args.firing c.args.n c.loop-call.came
          _ _ _ c.loop-call.cloud c.take_effect.new.cloud c.in-Err.field-0
          (drop_one c.args.calls.now c.loop-call.call-index _ within)
          (sym c.comes.ensures ∙ c.if-not-comes.false) (search rules) c.in-Err.ensures.does);
    }
