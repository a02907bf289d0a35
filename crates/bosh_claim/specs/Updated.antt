-- What is noted of the first changed instance of a stage that may be worked on now.
use Rattle.std.specs.Prelude.{ℕ, Bool, false, ◌==◌, List, Option, Some, None, fold, is_some, nat_lt, slice_get, slice_index_or}
use Rattle.std.specs.Prelude.{if◌then◌else◌}
use Rattle.std.specs.List.{enumerate_from}
use Rattle.std.specs.Option.{option_and_then, option_map, option_map_or}
use Rattle.bosh_base.specs.declared.call.Call.{Call}
use Rattle.bosh_base.specs.declared.entry.Entry.{Entry}
use Rattle.bosh_base.specs.declared.entry.Entry.TheVariants as entries
use Rattle.bosh_base.specs.declared.inst.Inst.{Inst}
use Rattle.bosh_base.specs.declared.owner.Owner.TheVariants as owners
use Rattle.bosh_progress.specs.Rolling.{first_claimable}
use Rattle.bosh_records.specs.Readers.{want_of}
use Rattle.bosh_work.specs.Work.{roll_of}
use Rattle.bosh_work.specs.declared.part.GroupPlace.{GroupPlace}
use Rattle.bosh_records.specs.declared.records.Records.{Records}
use Rattle.bosh_work.specs.declared.groups.GroupWork.{GroupWork}
use Rattle.bosh_work.specs.declared.work.Work.{Work}
use Rattle.bosh_claim.specs.Noted.{beginning, update_of}
use Rattle.bosh_claim.specs.Step.{step_of}

-- a place of a group, with its place among all that change
abbrev pub among_all : ℕ → GroupWork → ℕ → Option (ℕ × GroupPlace)
among_all group it place =
    option_map (λ at. (at, record { group = group; place = place })) (slice_get it.places place)

-- the first of a group that may be worked on now
abbrev pub claimable : ℕ → GroupWork → Option (ℕ × GroupPlace)
claimable group it = option_and_then (among_all group it) (first_claimable it.roll)

-- the first of two, by their places among all that change
abbrev pub earlier : Option (ℕ × GroupPlace) → Option (ℕ × GroupPlace) → Option (ℕ × GroupPlace)
earlier (Some one) (Some other) = if nat_lt other.0 one.0 then Some other else Some one
earlier None other = other
earlier one None = one

-- the first, with one more group, where it is of the stage
abbrev pub with_claimable : ℕ → Option (ℕ × GroupPlace) → ℕ × GroupWork → Option (ℕ × GroupPlace)
with_claimable stage found entry =
    if entry.1.stage == stage then earlier found (claimable entry.0 entry.1) else found

-- the first of the instances of groups of a stage that may be worked on now, by its places
abbrev pub first_place : List GroupWork → ℕ → Option (ℕ × GroupPlace)
first_place groups stage = fold (with_claimable stage) None (enumerate_from 0 groups)

abbrev pub with_inst : Work → ℕ × GroupPlace → Option (GroupPlace × Inst)
with_inst work found = option_map (λ inst. (found.1, inst)) (slice_get work.changed found.0)

abbrev pub first_changed : Work → ℕ → Option (GroupPlace × Inst)
first_changed work stage = option_and_then (with_inst work) (first_place work.groups stage)

-- the update of an instance has not begun
abbrev pub is_waiting : Work → GroupPlace → Bool
is_waiting work change =
    option_map_or (λ roll. slice_index_or roll.waiting change.place false) (roll_of work (Some change)) false

-- the update begins where there is a call to make, and else it is done at once
abbrev pub first_word : Work → Inst → Bool → Entry
first_word work inst has_call =
    if has_call then entries.UpdBegin (update_of work inst) else entries.UpdDone (update_of work inst)

-- a call of an instance begins, or its update is done
abbrev pub going_on : Records → Work → ℕ → Inst → Option Call → Entry
going_on records work worker inst (Some call) = beginning records work worker (owners.Instance inst) call
going_on records work worker inst None = entries.UpdDone (update_of work inst)

-- what is noted of an instance whose turn it is
abbrev pub noted_of : Records → Work → ℕ → GroupPlace × Inst → Entry
noted_of records work worker it =
    if is_waiting work it.0 then first_word work it.1 (is_some (step_of records (want_of records it.1) it.1))
    else going_on records work worker it.1 (step_of records (want_of records it.1) it.1)

abbrev pub update_entry : Records → Work → ℕ → ℕ → Option Entry
update_entry records work worker stage = option_map (noted_of records work worker) (first_changed work stage)
