-- A moment of a site: what is known, what was done to the cloud, and which calls are open.
use Rattle.std.specs.Prelude.{ℕ, Bool, true, false, eqb, not, ◌&&◌, ◌||◌, ◌==◌, Option, Some, None, List, [], ◌∷◌, ◌++◌, fold}
use Rattle.std.specs.List.{filter_map}
use Rattle.bosh_base.specs.declared.answer.Answer.{Answer}
use Rattle.bosh_base.specs.declared.answer.Answer.TheVariants as answers
use Rattle.bosh_base.specs.declared.call.Call.{Call}
use Rattle.bosh_base.specs.declared.call.Call.TheVariants.{CreateVm, FindVm, Ping}
use Rattle.bosh_base.specs.declared.entry.Begin.{Begin}
use Rattle.bosh_base.specs.declared.entry.Entry.{Entry}
use Rattle.bosh_base.specs.declared.entry.Entry.TheVariants as entries
use Rattle.bosh_base.specs.declared.entry.Loss.{Loss}
use Rattle.bosh_base.specs.declared.inst.Inst.{Inst}
use Rattle.bosh_base.specs.declared.moves.Did.{Did}
use Rattle.bosh_base.specs.declared.moves.Move.{Move}
use Rattle.bosh_base.specs.declared.moves.Move.TheVariants as moves
use Rattle.bosh_base.specs.declared.moves.Stop as stop
use Rattle.bosh_base.specs.declared.owner.Owner.{Owner}
use Rattle.bosh_base.specs.declared.owner.Owner.TheVariants.{Instance, Compile, Disk}
use Rattle.bosh_base.specs.declared.row.DiskRow.{DiskRow}
use Rattle.bosh_base.specs.declared.snapshot.Orphan.{Orphan}
use Rattle.bosh_history.specs.Known.{Known}
use Rattle.bosh_history.specs.Learn.{learn, known_of}
use Rattle.bosh_history.specs.Known.{dep_of_task}
use Rattle.bosh_history.specs.Words.{at, holds}
use Rattle.bosh_rows.specs.Disks.{active}
use Rattle.bosh_rows.specs.Tied.{is_named_lost}

-- what a site begins on: the entries of the director's store, and the effects in the cloud's
pub record Opening : Type 0 where
  pub entries : List Entry
  pub effects : List Entry

-- a call that began and is not answered, and what the cloud did of it
pub record OpenCall : Type 0 where
  pub begin : Begin
  pub did : Option Did

pub record Moment : Type 0 where
  pub known : Known
  pub effects : List Entry
  pub calls : ℕ → Option OpenCall
  -- the tasks up to this number were opened before the last stop
  pub stopped : ℕ
  pub halted : Bool
  -- a task heard of a machine: that it answered or not, that it was found, or made
  pub heard : (t v : ℕ) → Bool
  -- a machine was lost before the task heard of it
  pub early : (t v : ℕ) → Bool

-- ---- the beginning

-- nothing is open, and each task that has no end was interrupted
abbrev pub beginning : Opening → Moment
beginning o = record {
  known = known_of o.entries;
  effects = o.effects;
  calls = λ n. None;
  stopped = (known_of o.entries).tasks;
  halted = false;
  heard = λ t v. false;
  early = λ t v. is_named_lost o.effects v;
}

-- nothing was there
abbrev pub nothing : Opening
nothing = record { entries = []; effects = [] }

-- ---- entries

-- the open calls, once the entry is noted
abbrev pub calls_after : Entry → (ℕ → Option OpenCall) → ℕ → Option OpenCall
calls_after (entries.Begin b) calls = at eqb b.n (Some (record { begin = b; did = None })) calls
calls_after (entries.End e) calls = at eqb e.n None calls
calls_after entry calls = calls

abbrev pub noting : Moment → Entry → Moment
noting m e = record m { known = learn m.known e; calls = calls_after e m.calls }

-- ---- what is done to the cloud

-- the deployment that the instance of an orphaned disk was of
abbrev pub dep_of_orphan : Option Orphan → List ℕ
dep_of_orphan (Some it) = it.inst.dep
dep_of_orphan None = []

-- the deployment that an owner belongs to
abbrev pub dep_of : Known → Owner → List ℕ
dep_of k (Instance i) = i.dep
dep_of k (Compile t s) = dep_of_task k t
dep_of k (Disk d) = dep_of_orphan (k.orphan d)

abbrev pub effect_of : Known → Begin → Entry
effect_of k b = entries.Effect (record { n = b.n; owner = b.owner; dep = dep_of k b.owner; call = b.call })

abbrev pub call_effects : Moment → Bool → Option OpenCall → List Entry
call_effects m true (Some call) = effect_of m.known call.begin ∷ []
call_effects m has_effect call = []

-- the machine that a task hears of: by the answer to a ping, by finding it, and by making it
abbrev pub tells_of : Call → Answer → Option ℕ
tells_of (Ping vm) answers.Done = Some vm
tells_of (Ping vm) answers.Gone = Some vm
tells_of (FindVm agent) (answers.Found found) = found
tells_of (CreateVm make disks) (answers.Cid v) = Some v
tells_of call answer = None

abbrev pub hears : Did → OpenCall → (t v : ℕ) → Bool
hears d call t v = call.begin.task == t && holds (λ it. it == v) (tells_of call.begin.call d.answer)

abbrev pub heard_by : Did → Option OpenCall → ((t v : ℕ) → Bool) → (t v : ℕ) → Bool
heard_by d (Some call) heard t v = hears d call t v || heard t v
heard_by d None heard t v = heard t v

abbrev pub performed_call : Did → Option OpenCall → Option OpenCall
performed_call d (Some call) = Some (record call { did = Some d })
performed_call d None = None

abbrev pub performing : Moment → Did → Moment
performing m d = record m {
  effects = m.effects ++ call_effects m d.effect (m.calls d.n);
  calls = at eqb d.n (performed_call d (m.calls d.n)) m.calls;
  heard = heard_by d (m.calls d.n) m.heard;
}

abbrev pub write_to : List ℕ → Option DiskRow → List Entry
write_to text (Some d) = entries.Write (record { disk = d.disk; text = text }) ∷ []
write_to text None = []

-- a running job writes to the active disk of its instance
abbrev pub writing : Moment → Inst → List ℕ → Moment
writing m i text = record m { effects = m.effects ++ write_to text (active (m.known.row i).disks) }

-- the machine is lost, early for each task that has not heard of it
abbrev pub losing : Moment → Loss → Moment
losing m loss = record m {
  effects = m.effects ++ entries.Lost loss ∷ [];
  early = λ t v. m.early t v || (loss.vm == v && not (m.heard t v));
}

-- ---- a stop

abbrev pub with_written : Moment → Option Entry → Moment
with_written m (Some (entries.Lost loss)) = losing m loss
with_written m (Some entry) = record m { effects = m.effects ++ entry ∷ [] }
with_written m None = m

-- a call that was open had its effect, and nobody was told
abbrev pub taking : Moment → ℕ → Moment
taking m n = performing m (record { n = n; effect = true; answer = answers.Failed })

abbrev pub keeping : Moment → Option Entry → Moment
keeping m (Some e) = noting m e
keeping m None = m

-- the open calls are forgotten, and each task so far is interrupted
abbrev pub forgetting : Moment → Moment
forgetting m = record m { calls = λ n. None; stopped = m.known.tasks; halted = false }

abbrev pub stopping : Moment → stop.Stop → Moment
stopping m s = forgetting (keeping (fold taking (with_written m s.wrote) s.took) s.kept)

-- ---- all

-- the moment after one more move
abbrev pub later : Moment → Move → Moment
later m (moves.Note e) = noting m e
later m (moves.Did d) = performing m d
later m (moves.Wrote w) = writing m w.inst w.text
later m (moves.Halt cause) = record m { halted = true }
later m (moves.Stop s) = stopping m s
later m (moves.Lost loss) = losing m loss
later m (moves.Said said) = m

-- the moment after moves that go on from an opening pair
abbrev pub moment : Opening → List Move → Moment
moment o moves = fold later (beginning o) moves

-- the entries that were made durable, in order
abbrev pub durable_entry : Move → Option Entry
durable_entry (moves.Note e) = Some e
durable_entry (moves.Stop s) = s.kept
durable_entry move = None

abbrev pub durable : Opening → List Move → List Entry
durable o moves = o.entries ++ filter_map durable_entry moves

-- what was done to the cloud, in order
abbrev pub effects_of : Opening → List Move → List Entry
effects_of o moves = (moment o moves).effects
