-- The contents of a disk are moved, and never left behind (bosh.io, "Persistent disks").
use Rattle.std.specs.Prelude.{ℕ, Bool, true, false, nat_eq, not, ◌&&◌, ◌||◌, ◌==◌, Option, Some, None, List}
use Rattle.std.specs.Cmp.Lexicographic.{pointwise}
use Rattle.std.specs.List.{list_any}
use Rattle.std.specs.Option.{option_and_then, option_map}
use Rattle.bosh_base.specs.Cloud.{contents_of}
use Rattle.bosh_base.specs.declared.call.Call.{Call}
use Rattle.bosh_base.specs.declared.call.Call.TheVariants.{MigrateDisk, CreateDisk}
use Rattle.bosh_base.specs.declared.entry.Begin.{Begin}
use Rattle.bosh_base.specs.declared.entry.End.{End}
use Rattle.bosh_base.specs.declared.entry.Entry.{Entry}
use Rattle.bosh_base.specs.declared.entry.Entry.TheVariants as entries
use Rattle.bosh_base.specs.declared.goal.GoalRow.{GoalRow}
use Rattle.bosh_base.specs.declared.inst.Inst.{Inst}
use Rattle.bosh_base.specs.declared.owner.Owner.{Owner}
use Rattle.bosh_base.specs.declared.owner.Owner.TheVariants.{Instance}
use Rattle.bosh_base.specs.declared.row.DiskRow.{DiskRow}
use Rattle.bosh_history.specs.Known.{Known, want_in}
use Rattle.bosh_history.specs.Learn.{learn}
use Rattle.bosh_history.specs.Moments.{Moment}
use Rattle.bosh_history.specs.Words.{holds}
use Rattle.bosh_rows.specs.Disks.{active, is_new, is_right}

abbrev pub active_of : Known → Inst → Option ℕ
active_of k i = option_map (λ d. d.disk) (active (k.row i).disks)

abbrev pub same_contents : List Entry → ℕ → ℕ → Bool
same_contents effects a b = pointwise nat_eq (contents_of effects a) (contents_of effects b)

-- no other disk becomes the active one but by an answered migration from it to that one, which then has its contents
abbrev pub moves_contents : List Entry → Call → Option ℕ → Option ℕ → Bool
moves_contents effects call None after = true
moves_contents effects call (Some old) None = true
moves_contents effects call (Some old) (Some new) = old == new || by_call call
  where
    by_call : Call → Bool
    by_call (MigrateDisk vm from to) = from == old && (to == new && same_contents effects old new)
    by_call call = false

abbrev pub keeps_contents : Moment → End → Option Begin → Bool
keeps_contents m e (Some b) = by_owner b.owner
  where
    by_owner : Owner → Bool
    by_owner (Instance i) =
        moves_contents m.effects b.call (active_of m.known i) (active_of (learn m.known (entries.End e)) i)
    by_owner owner = true
keeps_contents m e None = true

-- a migration goes from the active disk to a new one of the instance, and a disk is created beside the active one
-- where that is not right
abbrev pub is_new_disk : Known → Inst → ℕ → Bool
is_new_disk k i d = list_any (λ it. it.disk == d && is_new it) (k.row i).disks

abbrev pub is_wrong : Option GoalRow → DiskRow → Bool
is_wrong want d = not (holds (λ wanted. is_right wanted d) (option_and_then (λ it. it.disk) want))

abbrev pub moves_on : Known → Inst → Call → Bool
moves_on k i (MigrateDisk vm from to) = holds (λ d. d == from) (active_of k i) && is_new_disk k i to
moves_on k i (CreateDisk wanted vm) = by_active (active (k.row i).disks)
  where
    by_active : Option DiskRow → Bool
    by_active (Some d) = is_wrong (want_in (k.goal i.dep) i) d
    by_active None = true
moves_on k i call = true

abbrev pub begins_well : Known → Begin → Owner → Bool
begins_well k b (Instance i) = moves_on k i b.call
begins_well k b owner = true

abbrev pub keeps_disks : Moment → Entry → Bool
keeps_disks m (entries.Begin b) = begins_well m.known b b.owner
keeps_disks m (entries.End e) = keeps_contents m e (m.known.begun e.n)
keeps_disks m entry = true
