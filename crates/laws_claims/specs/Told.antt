-- What is told of a task by entries alone, whatever they are.
use Rattle.std.specs.Prelude.{◌≢◌, Some}
use Rattle.bosh_base.specs.declared.failure.Failure.TheVariants.{Interrupted}
use Rattle.bosh_base.specs.declared.inst.Inst.{Inst}
use Rattle.bosh_history.specs.Known.{Task}
use Rattle.bosh_roll.specs.declared.upd.Upd.TheVariants.{Failed}

pub record IsToldWell (t : Task) : Type 0 where
  -- no update is told to have failed
  pub updates_go_on : (i : Inst) → t.upd i ≢ Failed
  -- a call that failed is no stop
  pub failures_are_calls : t.failed ≢ Some Interrupted
