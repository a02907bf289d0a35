-- A migration is between two disks of a row whose machine is known, is in no doubt and does not run.
use Rattle.std.proofs.Common.{◌≡◌, ◌∙◌, ℕ, Bool, true, false, Option, Some, None, List, [], ◌∷◌, ap, refl, sym, subst}
use Rattle.std.proofs.Common.{inl, inr}
use Rattle.std.specs.Prelude.{◌&&◌, ◌==◌, is_some, not, if◌then◌else◌}
use Rattle.std.specs.Option.{option_map}
use Rattle.std.proofs.lemmas.Bool.{eq-eqb, false≢true, or_left, or_right}
use Rattle.bosh_base.specs.declared.call.Call.{Call}
use Rattle.bosh_base.specs.declared.call.Call.TheVariants as calls
use Rattle.bosh_base.specs.declared.disk_want.DiskWant.{DiskWant}
use Rattle.bosh_base.specs.declared.goal.GoalRow.{GoalRow}
use Rattle.bosh_base.specs.declared.inst.Inst.{Inst}
use Rattle.bosh_base.specs.declared.owner.Owner.{Owner}
use Rattle.bosh_base.specs.declared.owner.Owner.TheVariants.{Compile, Disk, Instance}
use Rattle.bosh_base.specs.declared.row.DiskRow.{DiskRow}
use Rattle.bosh_base.specs.declared.row.Row.{Row}
use Rattle.bosh_base.specs.declared.row.Vm.{Vm}
use Rattle.bosh_history.specs.Items.{is_to_ping}
use Rattle.bosh_history.specs.Known.{Slot, Task}
use Rattle.bosh_history.specs.Moments.{Moment, OpenCall}
use Rattle.bosh_history.specs.Steps.{want_of}
use Rattle.bosh_history.specs.Words.{holds}
use Rattle.bosh_rows.specs.CallOf.{next_call}
use Rattle.bosh_rows.specs.Disks.{active, coming, is_new, is_right, is_running, least, meets}
use Rattle.bosh_rows.specs.NextStep.{has_to_stop, is_disk_settled, spec_differs}
use Rattle.laws_compile_machines_kept.proofs.NamedLemmas.{to_make}
use Rattle.laws_facts.specs.Facts.{Holds}
use Rattle.laws_facts.specs.OpenCalls.{call_of_row, fits_known, fits_row, fits_slot, is_on_orphan}
use Rattle.laws_kept_facts.proofs.CallCases.{by_all}
use Rattle.laws_row_facts.specs.Calls.{row_before}
use Rattle.laws_rows.proofs.ListLemmas.{active_found, least_found}
use Rattle.laws_rows.proofs.ListLemmas as lists
use Rattle.laws_rows.proofs.StepCases.{Cases, IsReplaced}
use Rattle.laws_rows.specs.SoundDisks.{is_recorded}

-- the row has both disks and its machine, which is known not to run
pub record Migrates (row : Row) (v from to : ℕ) : Type 0 where
  pub vm : Vm
  pub has : row.vm ≡ Some vm
  pub found : row.lost ≡ false
  pub known : row.doubt ≡ None
  pub rests : row.running ≡ false
  pub from_recorded : is_recorded row.disks from ≡ true
  pub to_recorded : is_recorded row.disks to ≡ true

abbrev MayMigrate : Row → Call → Type 0
MayMigrate row (calls.MigrateDisk v from to) = Migrates row v from to
MayMigrate row call = Unit {0}

pub in_row : (d : DiskRow) (disks : List DiskRow) → lists.IsIn d disks → is_recorded disks d.disk ≡ true
in_row d [] is = absurd is
in_row d (it ∷ disks) (inl same) =
    or_left (it.disk == d.disk) (is_recorded disks d.disk)
    (eq-eqb it.disk d.disk (ap (λ (x : DiskRow). x.disk) same))
in_row d (it ∷ disks) (inr rest) =
    or_right (it.disk == d.disk) (is_recorded disks d.disk) (in_row d disks rest)

module _ (row : Row) (w : GoalRow) (it : Vm) (wanted : DiskWant) (old new : DiskRow)
    (replaced : IsReplaced w row it wanted old) (comes : coming (Some wanted) row.disks ≡ Some new) where
  -- the active disk is not settled, so that the machine has to stop
  stops : has_to_stop w row ≡ true
  stops =
      or_right (spec_differs w row) _
      (or_right (not (is_running w.state)) _
      (or_left (not (is_disk_settled w.disk row.disks)) _
      (λ j. not (((λ l. is_disk_settled (replaced.wants l) row.disks)
      ∙ ((λ l. meets (λ d. is_right wanted d && (d.attached && d.mounted)) (replaced.is_active l))
      ∙ (λ l. replaced.wrong l && (old.attached && old.mounted)))) j))))

  rests : row.running ≡ false
  rests = by row.running (sym (λ j. row.running && stops j) ∙ replaced.cleared.tended.rests)
    where
      by : (runs : Bool) → (runs && true) ≡ false → runs ≡ false
      by true is = is
      by false is = refl

  new_in : lists.IsIn new row.disks
  new_in = by (meets (is_right wanted) (active row.disks)) comes
    where
      by : (right : Bool)
          → (if right then None else least (λ d. is_new d && is_right wanted d) row.disks) ≡ Some new
          → lists.IsIn new row.disks
      by true is = absurd cc
      by false is = (least_found (λ d. is_new d && is_right wanted d) new row.disks is).is_in

  migrates : row.lost ≡ false → row.doubt ≡ None → Migrates row it.vm old.disk new.disk
  migrates found known = record {
    vm = it;
    has = replaced.cleared.tended.has;
    found = found;
    known = known;
    rests = rests;
    from_recorded = in_row old row.disks (active_found old row.disks replaced.is_active).is_in;
    to_recorded = in_row new row.disks new_in;
  }

steps : (want : Option GoalRow) (row : Row) → row.lost ≡ false → row.doubt ≡ None → Cases (MayMigrate row) want row
steps want row found known = record {
  remove_drain = λ it has away runs off. tt;
  remove_stop = λ it has away runs off. tt;
  remove_unmount = λ it d has away rests first. tt;
  remove_detach = λ it d has away rests none first. tt;
  remove_delete = λ it has away rests none too. tt;
  create = λ w wants none here. tt;
  tend_drain = λ w it wants has stays runs halts off. tt;
  tend_stop = λ w it wants has stays runs halts off. tt;
  clear_unmount = λ w it d wants tended first. tt;
  clear_detach = λ w it d wants tended none first. tt;
  release_unmount = λ w it d wants cleared nothing first. tt;
  release_detach = λ w it d wants cleared nothing none first. tt;
  provide = λ w it wanted wants cleared disk none. tt;
  place_attach = λ w it wanted old wants cleared disk was off. tt;
  place_mount = λ w it wanted old wants cleared disk was on off. tt;
  replace_create = λ w it wanted old wants replaced none. tt;
  replace_attach = λ w it wanted old new wants replaced comes off. tt;
  replace_mount = λ w it wanted old new wants replaced comes on off. tt;
  replace_migrate = λ w it wanted old new wants replaced comes on up.
      migrates row w it wanted old new replaced comes found known;
  apply = λ w it wants cleared differs. tt;
  start = λ w it wants cleared disks spec runs rests. tt;
}

may_migrate : (want : Option GoalRow) (row : Row) (call : Call) → next_call want row ≡ Some call → MayMigrate row call
may_migrate want row call next =
    by_all (MayMigrate row) want row
    (record {
      known = λ found known. steps want row found known;
      deletes = λ it lost has. tt;
      there = λ it m v has doubts. tt;
      finds_vm = λ m make hint found doubts. tt;
      finds_disk = λ m wanted v doubts. tt;
      lists = λ it m v x found has doubts. tt;
      shows = λ it m v x found has doubts. tt;
      tells = λ it m c found has doubts state. tt;
    }) call next

-- ---- an open migration

slot_moves : (n v from to : ℕ) (o : Option Slot) → holds (fits_slot n (calls.MigrateDisk v from to)) o ≡ true → ⊥
slot_moves n v from to (Some it) fits = false≢true fits
slot_moves n v from to None fits = false≢true fits

-- its owner is an instance, of a row that can migrate
pub record IsMigration (m : Moment) (call : OpenCall) (v from to : ℕ) : Type 0 where
  pub inst : Inst
  pub own : call.begin.owner ≡ Instance inst
  pub row : Migrates (m.known.row inst) v from to

pub migration : (m : Moment) (h : Holds m) (n : ℕ) (call : OpenCall) → m.calls n ≡ Some call → (v from to : ℕ)
    → call.begin.call ≡ calls.MigrateDisk v from to → IsMigration m call v from to
migration m h n call is v from to call_is = by call.begin.owner refl (h.known.calls n call is).fits
  where
    task : Task
    task = m.known.task call.begin.task

    of_row : (i : Inst) → fits_row task call.begin i (m.known.row i) ≡ true → Migrates (m.known.row i) v from to
    of_row i fits = of (is_to_ping task i) (m.known.row i).vm refl made
      where
        made : (if is_to_ping task i then option_map (λ (it : Vm). calls.Ping it.vm) (m.known.row i).vm
            else next_call (want_of task i) (m.known.row i)) ≡ Some (calls.MigrateDisk v from to)
        made =
            (λ j. call_of_row task i (row_before (sym call_is j) (m.known.row i)))
            ∙ (to_make task call.begin i (m.known.row i) fits ∙ ap Some call_is)

        of : (ping : Bool) (vm : Option Vm) → (m.known.row i).vm ≡ vm
            → (if ping then option_map (λ (it : Vm). calls.Ping it.vm) vm
            else next_call (want_of task i) (m.known.row i)) ≡ Some (calls.MigrateDisk v from to)
            → Migrates (m.known.row i) v from to
        of true (Some it) has is = absurd cc
        of true None has is = absurd cc
        of false vm has is = may_migrate (want_of task i) (m.known.row i) (calls.MigrateDisk v from to) is

    by : (owner : Owner) → call.begin.owner ≡ owner → fits_known m.known call.begin call.begin.owner ≡ true
        → IsMigration m call v from to
    by (Instance i) own fits = record {
      inst = i;
      own = own;
      row = of_row i (subst (λ owner. fits_known m.known call.begin owner ≡ true) own fits);
    }
    by (Compile t s) own fits =
        absurd (slot_moves call.begin.n v from to (m.known.slot t s)
        ((λ j. holds (fits_slot call.begin.n (sym call_is j)) (m.known.slot t s))
        ∙ subst (λ owner. fits_known m.known call.begin owner ≡ true) own fits))
    by (Disk d) own fits =
        absurd (false≢true ((λ j. is_on_orphan (sym call_is j) d && is_some (m.known.orphan d))
        ∙ subst (λ owner. fits_known m.known call.begin owner ≡ true) own fits))
