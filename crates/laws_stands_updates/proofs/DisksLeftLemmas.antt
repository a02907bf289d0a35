-- It stands once disks are left behind by an instance.
use Rattle.std.proofs.Common.{◌≡◌, ◌∙◌, ℕ, Bool, true, false, List, Option, Some, None, ap, refl, subst, sym}
use Rattle.std.specs.Prelude.{eqb, is_some, slice_get}
use Rattle.std.specs.Option.{option_and_then, option_map}
use Rattle.std.specs.Ordering.{nat_cmp}
use Rattle.std.proofs.lemmas.Bool.{eqb-true, false≢true}
use Rattle.bosh_base.specs.Cloud.{numbers_to}
use Rattle.bosh_base.specs.declared.inst.Inst.{Inst}
use Rattle.bosh_base.specs.declared.owner.Owner.TheVariants.{Disk}
use Rattle.bosh_base.specs.declared.row.DiskRow.{DiskRow}
use Rattle.bosh_fold.specs.Updates.{loose, with_orphans}
use Rattle.bosh_history.specs.Known.{Known}
use Rattle.bosh_history.specs.Updates.{orphans_after}
use Rattle.bosh_history.specs.Words.{holds, is_among}
use Rattle.bosh_plan.specs.Updated.{orphans_of}
use Rattle.bosh_records.specs.Recorded.{Recorded}
use Rattle.bosh_records.specs.declared.orphans.LooseDisk.{LooseDisk}
use Rattle.bosh_rows.specs.Same.{same_owner}
use Rattle.bosh_work.specs.declared.part.MachineName.{MachineName}
use Rattle.bosh_work.specs.declared.work.Work.{Work}
use Rattle.laws_stands.proofs.MarkLemmas.{placed}
use Rattle.laws_stands.specs.LineStands.{place_of}
use Rattle.laws_stands.specs.Linked.{IsLinked}
use Rattle.laws_stands.specs.Reading.{dep_of, orphan_of, work_of}
use Rattle.bosh_records.specs.Ordered.{AreInOrder}
use Rattle.laws_stands.specs.Stands.{IsWork, StandsIn, call_of}
use Rattle.laws_stands.specs.Told.{Told, is_going}
use Rattle.laws_stands_on.proofs.FindLemmas.{none_is_found}
use Rattle.laws_stands_on.proofs.ListedLemmas.{SameListed, listed_goes_on}
use Rattle.laws_stands_on.proofs.TellsLemmas.{tells_as_well}
use Rattle.laws_stands_updates.proofs.LeftLemmas.{IsLoose, orphans_left, others_known}
use Rattle.laws_stands_updates.proofs.LeftLemmas.{others_left, these_left}
use Rattle.laws_stands_updates.specs.Finished.{AllowsLeft, HavePlaces, numbers_of}

module _ (told : Told) (it : Recorded) (i : Inst) (disks : List DiskRow) (listed : List ℕ)
    (allows : AllowsLeft told disks) (places : HavePlaces it.orphans disks) (stands : StandsIn told it) where
  abbrev k : Known
  k = told.known

  abbrev pub told_left : Told
  told_left = record told { known = record k { orphans = listed; orphan = orphans_after i disks k.orphan } }

  abbrev pub left : Recorded
  left = record it { orphans = with_orphans (orphans_of i disks) it.orphans }

  orphans : (x : ℕ) → option_map (λ loose. loose.orphan) (orphan_of left x) ≡ told_left.known.orphan x
  orphans = orphans_left i disks it.orphans k.orphan places stands.orphans

  -- one that is left behind has no open call
  no_call : (x : ℕ) → is_among eqb x (numbers_of disks) ≡ true → call_of told (Disk x) ≡ None
  no_call x among =
      none_is_found (λ c. holds (λ b. same_owner (Disk x) b.owner) (told.calls c)) (numbers_to k.last_call)
      (allows.idle x among)

  orphan_calls : (x : ℕ) → option_and_then (λ loose. loose.call) (orphan_of left x) ≡ call_of told (Disk x)
  orphan_calls x = by (is_among eqb x (numbers_of disks)) refl
    where
      by : (b : Bool) → is_among eqb x (numbers_of disks) ≡ b
          → option_and_then (λ (loose : LooseDisk). loose.call) (orphan_of left x) ≡ call_of told (Disk x)
      by true among =
          let its : IsLoose (orphan_of left x) = these_left i disks it.orphans places x among in
          ap (option_and_then (λ (loose : LooseDisk). loose.call)) its.is ∙ sym (no_call x among)
      by false other = ap (option_and_then (λ (loose : LooseDisk). loose.call))
          (others_left i disks it.orphans places x other) ∙ stands.orphan_calls x

  -- ---- works

  same_for : (t : ℕ) (swept : List MachineName) → is_going k t ≡ true → SameListed told told_left (k.task t) t swept
  same_for t swept going = record {
    pings = λ j x is. refl;
    obsolete = λ j x is. refl;
    changed = λ j x is. refl;
    disks = λ j d is. refl;
    orphans = λ j d is. ap is_some (others_known i disks k.orphan d (allows.unlisted t j d going is));
    sweep = λ j name is. refl;
    slots = λ j name is. refl;
    compiled = λ key. refl;
    worked = λ key. refl;
    machines = refl;
    failed = refl;
    calls = refl;
  }

  works : (t : ℕ) (o : Option Work) → IsWork told t o → IsWork told_left t o
  works t (Some work) (going, later, (swept, work_stands, are_swept)) = (
    going,
    later,
    (
      swept,
      listed_goes_on told told_left (k.task t) t swept work (same_for t swept going) work_stands,
      are_swept,
    ),
  )
  works t None gone = gone

  -- ---- places

  -- no open task lists one that is left behind
  unlisted : (t : ℕ) (w : Work) (d : ℕ) → work_of it t ≡ Some w → is_among eqb d (numbers_of disks) ≡ true
      → place_of eqb d w.disks.items ≡ None
  unlisted t w d is among = by (IsWorkOf (stands.works t))
    where
      IsWorkOf : IsWork told t (work_of it t) → IsWork told t (Some w)
      IsWorkOf = subst (IsWork told t) is

      none : (going : is_going k t ≡ true) → (place : Option ℕ) → place_of eqb d (k.task t).disks ≡ place
          → place ≡ None
      none going None at = refl
      none going (Some p) at =
          let found : (x : ℕ) × (slice_get (k.task t).disks p ≡ Some x) × (eqb d x ≡ true) =
          placed (eqb d) (k.task t).disks p at in
          absurd (false≢true (sym (allows.unlisted t p found.0 going found.1)
          ∙ ap (λ x. is_among eqb x (numbers_of disks)) (sym (eqb-true d found.0 found.2)) ∙ among))

      by : IsWork told t (Some w) → place_of eqb d w.disks.items ≡ None
      by (going, later, (swept, work_stands, are_swept)) =
          ap (place_of eqb d) (work_stands.disks).items_are
          ∙ none going (place_of eqb d (k.task t).disks) refl

  linked : IsLinked left
  linked = record {
    wants = stands.linked.wants;
    pings = stands.linked.pings;
    leaving = stands.linked.leaving;
    changes = stands.linked.changes;
    sweeps = stands.linked.sweeps;
    deletions = λ t w d loose is there dep. by t w d loose is there dep (is_among eqb d (numbers_of disks)) refl;
  }
    where
      by : (t : ℕ) (w : Work) (d : ℕ) (loose : LooseDisk) → work_of it t ≡ Some w → orphan_of left d ≡ Some loose
          → dep_of it t ≡ None → (b : Bool) → is_among eqb d (numbers_of disks) ≡ b
          → loose.deleting ≡ place_of eqb d w.disks.items
      by t w d said is there dep true among =
          let its : IsLoose (orphan_of left d) = these_left i disks it.orphans places d among in
          let same : Some said ≡ Some (loose its.orphan) = sym there ∙ its.is in
          let one : said ≡ loose its.orphan = cc in
          ap (λ (loose : LooseDisk). loose.deleting) one ∙ sym (unlisted t w d is among)
      by t w d said is there dep false other =
          stands.linked.deletions t w d said is (sym (others_left i disks it.orphans places d other) ∙ there) dep

  -- ---- all

  pub left_stands : AreInOrder nat_cmp left.orphans → StandsIn told_left left
  left_stands order = record {
    uploads = stands.uploads;
    deployments = stands.deployments;
    rows = stands.rows;
    row_calls = stands.row_calls;
    machines = stands.machines;
    machine_keys = stands.machine_keys;
    machine_calls = stands.machine_calls;
    orphans = orphans;
    orphan_calls = orphan_calls;
    digests = stands.digests;
    compiling = stands.compiling;
    tasks = stands.tasks;
    calls = stands.calls;
    works = λ t. works t (work_of it t) (stands.works t);
    linked = linked;
    ordered = record {
      deployments = (stands.ordered).deployments;
      instances = (stands.ordered).instances;
      machines = (stands.ordered).machines;
      orphans = order;
      keys = (stands.ordered).keys;
      tasks = (stands.ordered).tasks;
      works = (stands.ordered).works;
      calls = (stands.ordered).calls;
    };
    tells_well = tells_as_well told told_left refl refl refl refl refl refl stands.tells_well;
  }
