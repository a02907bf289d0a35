-- Which subjects an entry speaks of: it leaves the others as they are.
use Rattle.std.specs.Prelude.{ℕ, Bool, true, false, ◌==◌}
use Rattle.bosh_base.specs.declared.entry.Entry.{Entry}
use Rattle.bosh_base.specs.declared.entry.Entry.TheVariants as entries
use Rattle.bosh_base.specs.declared.inst.Inst.{Inst}
use Rattle.bosh_base.specs.declared.owner.Owner.{Owner}
use Rattle.bosh_base.specs.declared.owner.Owner.TheVariants.{Instance}
use Rattle.bosh_history.specs.Known.{Known}
use Rattle.bosh_history.specs.Words.{holds}
use Rattle.bosh_rows.specs.Same.{same_inst}

abbrev pub is_of_row : Inst → Owner → Bool
is_of_row i (Instance other) = same_inst other i
is_of_row i owner = false

-- An entry may change the row of an instance: a call for it begins or is answered, its update is done, it goes, or a
-- snapshot tells all anew.
abbrev pub names_row : Known → Entry → Inst → Bool
names_row k (entries.Begin b) i = is_of_row i b.owner
names_row k (entries.End e) i = holds (λ b. is_of_row i b.owner) (k.begun e.n)
names_row k (entries.UpdDone u) i = same_inst u.inst i
names_row k (entries.Gone u) i = same_inst u.inst i
names_row k (entries.Snapshot s) i = true
names_row k entry i = false

-- An entry may change what is known of a task: it opens or ends the task, a call or an update of the task begins or
-- is answered, or a snapshot tells all anew.
abbrev pub names_task : Known → Entry → ℕ → Bool
names_task k (entries.TaskOpen o) t = o.task == t
names_task k (entries.Begin b) t = b.task == t
names_task k (entries.End e) t = holds (λ b. b.task == t) (k.begun e.n)
names_task k (entries.UpdBegin u) t = u.task == t
names_task k (entries.UpdDone u) t = u.task == t
names_task k (entries.Gone u) t = u.task == t
names_task k (entries.TaskDone task) t = task == t
names_task k (entries.TaskError e) t = e.task == t
names_task k (entries.Snapshot s) t = true
names_task k entry t = false
