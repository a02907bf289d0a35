-- What an entry needs of what was told before it.
use Rattle.std.specs.Prelude.{◌≡◌, ◌+◌, ◌<◌, ◌≤◌, ℕ, None, Some, eqb, false, is_some, true}
use Rattle.std.specs.Ordering.{nat_cmp}
use Rattle.bosh_base.specs.declared.answer.Answer.{Answer}
use Rattle.bosh_base.specs.declared.call.Call.{Call}
use Rattle.bosh_base.specs.declared.entry.Begin.{Begin}
use Rattle.bosh_base.specs.declared.entry.Update.{Update}
use Rattle.bosh_base.specs.declared.inst.Inst.{Inst}
use Rattle.bosh_base.specs.declared.key.Key.{Key}
use Rattle.bosh_base.specs.declared.owner.Owner.TheVariants.{Instance}
use Rattle.bosh_history.specs.Steps.{compiles}
use Rattle.bosh_history.specs.Words.{is_among}
use Rattle.bosh_records.specs.Recorded.{Recorded}
use Rattle.bosh_records.specs.Table.{found}
use Rattle.bosh_rows.specs.After.{after, bare}
use Rattle.bosh_rows.specs.Same.{same_inst, same_owner}
use Rattle.bosh_rows.specs.SoundSnapshot.{are_distinct}
use Rattle.laws_stands.specs.Reading.{instance_of}
use Rattle.laws_stands.specs.Told.{Told, idle_in, is_going, is_idle}

-- an update of an open task may begin: the instance is of its deployment and has no open call, and none changes twice
pub record AllowsUpdate (told : Told) (update : Update) : Type 0 where
  pub going : is_going told.known update.task ≡ true
  pub dep : (told.known.task update.task).dep ≡ Some update.inst.dep
  pub apart : are_distinct same_inst (told.known.task update.task).changed ≡ true
  pub idle : idle_in told update.inst ≡ true

-- a call may begin for an open task of which none failed: it has the next number, and its owner has no open call
pub record AllowsNext (told : Told) (begin : Begin) : Type 0 where
  pub next : begin.n ≡ told.known.last_call + 1
  pub small : begin.n ≤ 18446744073709551615
  pub going : is_going told.known begin.task ≡ true
  pub none_failed : (told.known.task begin.task).failed ≡ None
  pub idle : is_idle told begin.owner ≡ true
  pub compiles_new : (c : ℕ) (d : Begin) (key : Key) → told.calls c ≡ Some d → compiles key begin.call ≡ true →
      compiles key d.call ≡ false

-- a call of an instance may begin for an open task: it has the next number, the instance is of the task's deployment, and no
-- other open task lists it
pub record AllowsCall (told : Told) (n number : ℕ) (call : Call) (i : Inst) : Type 0 where
  pub next : number ≡ told.known.last_call + 1
  pub small : number ≤ 18446744073709551615
  pub going : is_going told.known n ≡ true
  pub dep : (told.known.task n).dep ≡ Some i.dep
  pub none_failed : (told.known.task n).failed ≡ None
  pub changed_apart : are_distinct same_inst (told.known.task n).changed ≡ true
  pub pings_apart : are_distinct same_inst (told.known.task n).to_ping ≡ true
  pub obsolete_apart : are_distinct same_inst (told.known.task n).obsolete ≡ true
  pub idle : idle_in told i ≡ true
  pub compiles_none : (key : Key) → compiles key call ≡ false
  pub own_row : (told.known.row i).inst ≡ i
  pub bare_row : is_among same_inst i told.known.instances ≡ false → told.known.row i ≡ bare i
  pub not_asked : (t : ℕ) → eqb n t ≡ false → is_going told.known t ≡ true →
      is_among same_inst i (told.known.task t).to_ping ≡ false
  pub not_leaving : (t : ℕ) → eqb n t ≡ false → is_going told.known t ≡ true →
      is_among same_inst i (told.known.task t).obsolete ≡ false
  pub not_changing : (t : ℕ) → eqb n t ≡ false → is_going told.known t ≡ true →
      is_among same_inst i (told.known.task t).changed ≡ false

-- there is a place for what is said of the instance, and for the call
pub record HasPlaces (it : Recorded) (number : ℕ) (i : Inst) : Type 0 where
  pub instance : is_some (instance_of it i) ≡ true
  pub call : is_some (found nat_cmp it.calls number) ≡ true

-- an open call of an instance may end: no other open task lists the instance
pub record AllowsEnd (told : Told) (begin : Begin) (answer : Answer) (i : Inst) : Type 0 where
  pub is_open : told.calls begin.n ≡ Some begin
  pub dep : (told.known.task begin.task).dep ≡ Some i.dep
  pub changed_apart : are_distinct same_inst (told.known.task begin.task).changed ≡ true
  pub pings_apart : are_distinct same_inst (told.known.task begin.task).to_ping ≡ true
  pub obsolete_apart : are_distinct same_inst (told.known.task begin.task).obsolete ≡ true
  pub compiles_none : (key : Key) → compiles key begin.call ≡ false
  pub own_row : (after begin.n begin.call answer (told.known.row i)).inst ≡ i
  pub not_asked : (t : ℕ) → eqb begin.task t ≡ false → is_going told.known t ≡ true →
      is_among same_inst i (told.known.task t).to_ping ≡ false
  pub not_leaving : (t : ℕ) → eqb begin.task t ≡ false → is_going told.known t ≡ true →
      is_among same_inst i (told.known.task t).obsolete ≡ false
  pub not_changing : (t : ℕ) → eqb begin.task t ≡ false → is_going told.known t ≡ true →
      is_among same_inst i (told.known.task t).changed ≡ false
