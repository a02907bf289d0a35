-- Small values that the histories are made of, and the moves in few words.
use Rattle.std.specs.Prelude.{ℕ, ◌-◌, Bool, codes, Option, Some, List, [], ◌∷◌, take, drop, map, fold}
use Rattle.bosh_base.specs.declared.answer.Answer.{Answer}
use Rattle.bosh_base.specs.declared.call.Call.{Call}
use Rattle.bosh_base.specs.declared.digest.Digest.{Digest}
use Rattle.bosh_base.specs.declared.entry.Entry.{Entry}
use Rattle.bosh_base.specs.declared.entry.Entry.TheVariants as entries
use Rattle.bosh_base.specs.declared.failure.Failure.{Failure}
use Rattle.bosh_base.specs.declared.goal.Goal.{Goal}
use Rattle.bosh_base.specs.declared.inst.Inst.{Inst}
use Rattle.bosh_base.specs.declared.key.KeyWork.{KeyWork}
use Rattle.bosh_base.specs.declared.moves.Move.{Move}
use Rattle.bosh_base.specs.declared.moves.Move.TheVariants as moves
use Rattle.bosh_base.specs.declared.owner.Owner.{Owner}
use Rattle.bosh_base.specs.declared.reply.Reply.TheVariants as replies
use Rattle.bosh_base.specs.declared.task.TaskKind.{TaskKind}
use Rattle.bosh_history.specs.Moments.{Moment, beginning, nothing, later}
use Rattle.examples_histories.specs.Values.{inst, digest, disk, goal}

-- what a compilation gives
abbrev pub Builder : Type 0
Builder = KeyWork → List Digest → Digest

-- a history, for each such function
abbrev pub History : Type 0
History = Builder → List Move

-- ---- entries and moves

abbrev pub sourced : Option Digest
sourced = Some (digest 7)

abbrev pub opening : ℕ → TaskKind → Option (List ℕ) → Option Goal → List Inst → List Inst → List ℕ → Option Digest →
    Entry
opening task kind dep goal changed obsolete disks source =
    entries.TaskOpen
    (record {
      task = task;
      kind = kind;
      dep = dep;
      goal = goal;
      changed = changed;
      obsolete = obsolete;
      disks = disks;
      source = source;
    })

abbrev pub beginning_of : ℕ → ℕ → ℕ → Owner → Call → Entry
beginning_of n task worker owner call =
    entries.Begin (record { n = n; task = task; worker = worker; owner = owner; call = call })

abbrev pub ending : ℕ → Answer → Entry
ending n answer = entries.End (record { n = n; answer = answer })

abbrev pub upd_begin : ℕ → Inst → Entry
upd_begin task inst = entries.UpdBegin (record { task = task; inst = inst })

abbrev pub upd_done : ℕ → Inst → Entry
upd_done task inst = entries.UpdDone (record { task = task; inst = inst })

abbrev pub gone : ℕ → Inst → Entry
gone task inst = entries.Gone (record { task = task; inst = inst })

abbrev pub task_error : ℕ → Failure → Entry
task_error task cause = entries.TaskError (record { task = task; cause = cause })

abbrev pub write : ℕ → List ℕ → Entry
write disk text = entries.Write (record { disk = disk; text = text })

abbrev pub config : Entry
config = entries.Config (codes "c")

abbrev pub did : ℕ → Bool → Answer → Move
did n effect answer = moves.Did (record { n = n; effect = effect; answer = answer })

abbrev pub written : Inst → List ℕ → Move
written inst text = moves.Wrote (record { inst = inst; text = text })

abbrev pub loss : ℕ → Bool → Move
loss vm whole = moves.Lost (record { vm = vm; whole = whole })

abbrev pub stop : Option Entry → List ℕ → Option Entry → Move
stop kept took wrote = moves.Stop (record { kept = kept; took = took; wrote = wrote })

abbrev pub said : ℕ → Move
said command = moves.Said (record { command = command; reply = replies.Nothing })

-- a call: its begin, what the cloud did, and its end
abbrev pub called : ℕ → ℕ → ℕ → Owner → Call → Bool → Answer → List Move
called n task worker owner call effect answer =
    moves.Note (beginning_of n task worker owner call) ∷ did n effect answer ∷ moves.Note (ending n answer) ∷ []

-- the moves from one place to another, counted from 1
abbrev pub part : ℕ → ℕ → List Move → List Move
part first last history = drop (first - 1) (take last history)

-- the moves with each number of a call less by one
abbrev pub earlier_entry : Entry → Entry
earlier_entry (entries.Begin b) = entries.Begin (record b { n = b.n - 1 })
earlier_entry (entries.End e) = entries.End (record e { n = e.n - 1 })
earlier_entry entry = entry

abbrev pub earlier : Move → Move
earlier (moves.Note entry) = moves.Note (earlier_entry entry)
earlier (moves.Did d) = moves.Did (record d { n = d.n - 1 })
earlier move = move

abbrev pub earlier_calls : List Move → List Move
earlier_calls history = map earlier history

-- ---- before the first move

abbrev pub jammy : Entry
jammy = entries.Stemcell (record { os = codes "jammy"; version = codes "1.1" })

abbrev pub release : Entry
release = entries.Release (record { name = codes "r"; version = codes "1"; jobs = []; packages = [] })

abbrev pub prelude : List Move
prelude = moves.Note jammy ∷ said 1 ∷ moves.Note config ∷ said 2 ∷ []

-- a stemcell and a cloud config are there
abbrev pub prepared : Moment
prepared = fold later (beginning nothing) prelude

-- and a release
abbrev pub with_release : Moment
with_release = fold later prepared (moves.Note release ∷ said 3 ∷ [])
