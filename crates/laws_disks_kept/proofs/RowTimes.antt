-- How often a row has a disk, before its call and after it.
use Rattle.std.proofs.Common.{◌≡◌, ◌∙◌, ℕ, ◌+◌, Bool, true, false, Option, Some, None, List, [], ◌∷◌, refl, sym, inl}
use Rattle.std.proofs.Common.{inr}
use Rattle.std.specs.Prelude.{◌⊎◌, ◌==◌, ◌&&◌, if◌then◌else◌, map}
use Rattle.std.proofs.lemmas.Bool.{false≢true}
use Rattle.bosh_base.specs.declared.answer.Answer.{Answer}
use Rattle.bosh_base.specs.declared.answer.Answer.TheVariants as answers
use Rattle.bosh_base.specs.declared.call.Call.{Call}
use Rattle.bosh_base.specs.declared.call.Call.TheVariants as calls
use Rattle.bosh_base.specs.declared.goal.GoalRow.{GoalRow}
use Rattle.bosh_base.specs.declared.row.DiskRow.{DiskRow}
use Rattle.bosh_base.specs.declared.row.Doubt.{Doubt}
use Rattle.bosh_base.specs.declared.row.Role.TheVariants.{Active, Old}
use Rattle.bosh_base.specs.declared.row.Row.{Row}
use Rattle.bosh_history.specs.Ties.{creates_disk, is_making}
use Rattle.bosh_rows.specs.After.{after, attach, attached_by, begun_row, changing, leaves_doubt, let_go}
use Rattle.bosh_rows.specs.After.{migrated_disks, mount, mounted_by, row_by_answer, unmount, with_machine}
use Rattle.bosh_rows.specs.CallOf.{next_call}
use Rattle.bosh_rows.specs.NextStep.{next_step}
use Rattle.bosh_rows.specs.Tied.{one_if}
use Rattle.laws_disks_kept.proofs.CountLemmas.{count, count-cons, times}

-- ---- the disks of a list change, and not their numbers

count_map : (d : ℕ) (f : DiskRow → DiskRow) → ((it : DiskRow) → (f it).disk ≡ it.disk) → (disks : List DiskRow)
    → count d (map f disks) ≡ count d disks
count_map d f same [] = refl
count_map d f same (it ∷ disks) =
    count-cons d (f it) (map f disks)
    ∙ ((λ j. one_if (same it j == d) + count_map d f same disks j) ∙ sym (count-cons d it disks))

changed : (k : ℕ) (change : DiskRow → DiskRow) → ((it : DiskRow) → (change it).disk ≡ it.disk) → (it : DiskRow)
    → (if it.disk == k then change it else it).disk ≡ it.disk
changed k change same it = by (it.disk == k)
  where
    by : (b : Bool) → (if b then change it else it).disk ≡ it.disk
    by true = same it
    by false = refl

count_changing : (d k : ℕ) (change : DiskRow → DiskRow) → ((it : DiskRow) → (change it).disk ≡ it.disk)
    → (disks : List DiskRow) → count d (changing k change disks) ≡ count d disks
count_changing d k change same disks =
    count_map d (λ it. if it.disk == k then change it else it) (changed k change same) disks

count_migrated : (d from to : ℕ) (disks : List DiskRow) → count d (migrated_disks from to disks) ≡ count d disks
count_migrated d from to disks =
    count_changing d to (λ it. record it { role = Active }) (λ it. refl)
    (changing from (λ it. record it { role = Old }) disks)
    ∙ count_changing d from (λ it. record it { role = Old }) (λ it. refl) disks

-- ---- an answer

-- the row has its disks as often, and no other doubt than before
pub record SameCount (d : ℕ) (old new : Row) : Type 0 where
  pub disks : count d new.disks ≡ count d old.disks
  pub doubt : (new.doubt ≡ None) ⊎ (new.doubt ≡ old.doubt)

-- the call makes a disk, or asks for one that was made
abbrev pub makes_disk : Call → Bool
makes_disk (calls.CreateDisk want v) = true
makes_disk (calls.FindDisk tag) = true
makes_disk call = false

same_count : (d : ℕ) (row : Row) → SameCount d row row
same_count d row = record { disks = refl; doubt = inr refl }

settled : (d : ℕ) (row : Row) → SameCount d row (record row { doubt = None })
settled d row = record { disks = refl; doubt = inl refl }

without : (d : ℕ) (row : Row) → count d (map let_go row.disks) ≡ count d row.disks
without d row = count_map d let_go (λ it. refl) row.disks

machine : (d agent : ℕ) (found : Option ℕ) (row : Row) → SameCount d row (with_machine agent found row)
machine d agent (Some v) row = record { disks = refl; doubt = inl refl }
machine d agent None row = record { disks = without d row; doubt = inl refl }

told : (d n : ℕ) (call : Call) (answer : Answer) (row : Row) → makes_disk call ≡ false
    → SameCount d row (row_by_answer n call answer row)
told d n (calls.CreateVm make disks) (answers.Cid v) row none = machine d n (Some v) row
told d n (calls.FindVm agent) (answers.Found found) row none = machine d agent found row
told d n (calls.DeleteVm v) answers.Done row none = record { disks = without d row; doubt = inl refl }
told d n (calls.HasVm v) answers.No row none = record { disks = without d row; doubt = inl refl }
told d n (calls.HasVm v) answers.Yes row none = settled d row
told d n (calls.CreateDisk want v) answer row none = absurd (false≢true (sym none))
told d n (calls.FindDisk tag) answer row none = absurd (false≢true (sym none))
told d n (calls.AttachDisk v k) answers.Done row none =
    record { disks = count_changing d k attach (λ it. refl) row.disks; doubt = inl refl }
told d n (calls.DetachDisk v k) answers.Done row none =
    record { disks = count_changing d k let_go (λ it. refl) row.disks; doubt = inl refl }
told d n (calls.GetDisks v) (answers.Disks numbers) row none =
    record { disks = count_map d (attached_by numbers) (λ it. refl) row.disks; doubt = inl refl }
told d n (calls.MountDisk v k) answers.Done row none =
    record { disks = count_changing d k mount (λ it. refl) row.disks; doubt = inl refl }
told d n (calls.UnmountDisk v k) answers.Done row none =
    record { disks = count_changing d k unmount (λ it. refl) row.disks; doubt = inl refl }
told d n (calls.ListDisk v) (answers.Disks numbers) row none =
    record { disks = count_map d (mounted_by numbers) (λ it. refl) row.disks; doubt = inl refl }
told d n (calls.MigrateDisk v from to) answers.Done row none =
    record { disks = count_migrated d from to row.disks; doubt = inr refl }
told d n (calls.Apply v spec) answers.Done row none = record { disks = refl; doubt = inl refl }
told d n (calls.Start v) answers.Done row none = record { disks = refl; doubt = inl refl }
told d n (calls.Drain v) answers.Done row none = record { disks = refl; doubt = inl refl }
told d n (calls.Stop v) answers.Done row none = record { disks = refl; doubt = inl refl }
told d n (calls.GetState v) (answers.Facts spec running drained) row none =
    record { disks = refl; doubt = inl refl }
told d n call answer row none = same_count d row

pub after_count : (d n : ℕ) (call : Call) (answer : Answer) (row : Row) → makes_disk call ≡ false
    → SameCount d row (after n call answer row)
after_count d n call answers.Failed row none = same_count d row
after_count d n (calls.Ping v) answers.Gone row none = record { disks = refl; doubt = inr refl }
after_count d n (calls.DeleteVm v) answers.Gone row none = by row.lost
  where
    by : (lost : Bool)
        → SameCount d row (if lost then with_machine 0 None row else record row { doubt = None })
    by true = machine d 0 None row
    by false = settled d row
after_count d n call answers.Gone row none = settled d row
after_count d n call answer row none = told d n call answer row none

-- so it has each disk as often, where its doubt stays or makes no disk
pub same_times : (d tag : ℕ) (old new : Row) → SameCount d old new
    → (new.doubt ≡ old.doubt) ⊎ (is_making tag old.doubt ≡ false) → times new d tag ≡ times old d tag
same_times d tag old new same (inl doubt) = λ j. same.disks j + one_if (is_making tag (doubt j))
same_times d tag old new same (inr none) = by same.doubt
  where
    by : (new.doubt ≡ None) ⊎ (new.doubt ≡ old.doubt) → times new d tag ≡ times old d tag
    by (inl quiet) =
        (λ j. same.disks j + one_if (is_making tag (quiet j)))
        ∙ (λ j. count d old.disks + one_if (sym none j))
    by (inr doubt) = λ j. same.disks j + one_if (is_making tag (doubt j))

-- ---- the next call

-- what was made by a call in doubt is asked for first
making_asks : (want : Option GoalRow) (row : Row) (d : Doubt) → row.doubt ≡ Some d → creates_disk d.call ≡ true
    → next_call want row ≡ Some (calls.FindDisk d.n)
making_asks want row d has makes = by_call d.call refl makes
  where
    by : (c : Call) (lost : Bool) → row.lost ≡ lost → creates_disk c ≡ true
        → next_call want (record row { lost = lost; doubt = Some (record { n = d.n; call = c }) })
        ≡ Some (calls.FindDisk d.n)
    by (calls.CreateDisk w v) true lost makes = refl
    by (calls.CreateDisk w v) false lost makes = refl
    by c lost is makes = absurd (false≢true makes)

    by_call : (c : Call) → d.call ≡ c → creates_disk c ≡ true → next_call want row ≡ Some (calls.FindDisk d.n)
    by_call c is makes =
        (λ j. next_call want (record row { doubt = (has ∙ (λ l. Some (record d { call = is l }))) j }))
        ∙ by c row.lost refl makes

dull : (a b : Bool) → b ≡ false → (a && b) ≡ false
dull true b is = is
dull false b is = refl

-- the row makes no disk
pub makes_none : (want : Option GoalRow) (row : Row) (tag : ℕ)
    → ((n : ℕ) → next_call want row ≡ Some (calls.FindDisk n) → ⊥) → is_making tag row.doubt ≡ false
makes_none want row tag none = by row.doubt refl
  where
    of : (d : Doubt) → row.doubt ≡ Some d → (makes : Bool) → creates_disk d.call ≡ makes → makes ≡ false
    of d has true makes = absurd (none d.n (making_asks want row d has makes))
    of d has false makes = refl

    by : (o : Option Doubt) → row.doubt ≡ o → is_making tag row.doubt ≡ false
    by None has = λ j. is_making tag (has j)
    by (Some d) has =
        (λ j. is_making tag (has j))
        ∙ dull (d.n == tag) (creates_disk d.call)
        ((λ j. creates_disk d.call) ∙ of d has (creates_disk d.call) refl)

-- where nothing is to be done for it, nothing is in doubt
pub rests : (want : Option GoalRow) (row : Row) → next_step want row ≡ None → row.doubt ≡ None
rests want row none = by row.lost refl row.doubt refl none
  where
    by : (lost : Bool) → row.lost ≡ lost → (doubt : Option Doubt) → row.doubt ≡ doubt
        → next_step want (record row { lost = lost; doubt = doubt }) ≡ None → row.doubt ≡ None
    by lost is None has none = has
    by true is (Some d) has none = absurd cc
    by false is (Some d) has none = absurd cc

-- a call that begins, of which no effect has the number, leaves how often the row has a disk
pub begun_times : (n d tag : ℕ) (call : Call) (row : Row) → (n == tag) ≡ false
    → (leaves_doubt call ≡ true → is_making tag row.doubt ≡ false)
    → times (begun_row n call row) d tag ≡ times row d tag
begun_times n d tag call row other none = by (leaves_doubt call) refl
  where
    by : (leaves : Bool) → leaves_doubt call ≡ leaves
        → (count d row.disks
        + one_if (is_making tag (if leaves then Some (record { n = n; call = call }) else row.doubt)))
        ≡ times row d tag
    by true leaves =
        (λ j. count d row.disks + one_if (other j && creates_disk call))
        ∙ (λ j. count d row.disks + one_if (sym (none leaves) j))
    by false leaves = refl
