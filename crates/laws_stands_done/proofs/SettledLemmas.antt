-- What is recorded of deployments changes, and how goals want instances, and nothing else.
use Rattle.std.proofs.Common.{◌≡◌, ◌∙◌, ℕ, List, Option, Some, None, ap, refl}
use Rattle.std.specs.List.{filter_map}
use Rattle.std.specs.Option.{option_and_then, option_map, option_map_or}
use Rattle.bosh_base.specs.Inst.{inst_cmp}
use Rattle.bosh_base.specs.declared.goal.Goal.{Goal}
use Rattle.bosh_base.specs.declared.inst.Inst.{Inst}
use Rattle.bosh_base.specs.declared.offer.Offer.{Offer}
use Rattle.bosh_base.specs.declared.snapshot.DepRow.{DepRow}
use Rattle.bosh_history.specs.Snapshots.{dep_row}
use Rattle.bosh_records.specs.Ordered.{AreOrdered}
use Rattle.bosh_records.specs.Readers.{deployment_in}
use Rattle.bosh_records.specs.Recorded.{Recorded}
use Rattle.bosh_records.specs.Table.{found, things}
use Rattle.bosh_records.specs.declared.instances.Instance.{Instance}
use Rattle.bosh_records.specs.declared.records.Since.{Since}
use Rattle.bosh_work.specs.Part.{no_part}
use Rattle.bosh_work.specs.declared.part.MachineName.{MachineName}
use Rattle.bosh_work.specs.declared.work.Work.{Work}
use Rattle.laws_stands.specs.Linked.{want_place}
use Rattle.laws_stands.specs.Reading.{work_of}
use Rattle.laws_stands.specs.Stands.{IsWork, StandsIn}
use Rattle.laws_stands.specs.Told.{Told}
use Rattle.laws_stands_on.proofs.ListedLemmas.{SameListed, listed_goes_on, untouched}
use Rattle.laws_stands_on.proofs.TellsLemmas.{tells_as_well}

-- other deployments, with other goals and offers, are told of
abbrev pub settled : List (List ℕ) → (List ℕ → Option Goal) → (List ℕ → List Offer) → Told → Told
settled deployments goal shared told =
    record told { known = record told.known { deployments = deployments; goal = goal; shared = shared } }

-- the same is said of instances, but for how goals want them
pub record SameInstances (was now : List (Inst × Instance)) : Type 0 where
  pub rows : (i : Inst) → option_and_then (λ known. known.row) (found inst_cmp now i)
      ≡ option_and_then (λ known. known.row) (found inst_cmp was i)
  pub calls : (i : Inst) → option_and_then (λ known. known.call) (found inst_cmp now i)
      ≡ option_and_then (λ known. known.call) (found inst_cmp was i)
  pub parts : (i : Inst) → option_map_or (λ known. known.part) (found inst_cmp now i) no_part
      ≡ option_map_or (λ known. known.part) (found inst_cmp was i) no_part

module _ (deployments : List (List ℕ)) (goal : List ℕ → Option Goal) (shared : List ℕ → List Offer) (told : Told)
    (it : Recorded) (instances : List (Inst × Instance)) (rows : List (Since × Option DepRow)) where
  -- what is told then
  abbrev new : Told
  new = settled deployments goal shared told

  -- what is recorded then
  abbrev now : Recorded
  now = record it { instances = instances; deployments = rows }

  same : (t : ℕ) (swept : List MachineName) → SameListed told new (told.known.task t) t swept
  same t swept = untouched told new.known refl refl refl refl refl refl (told.known.task t) t swept

  work_stands : (t : ℕ) (o : Option Work) → IsWork told t o → IsWork new t o
  work_stands t (Some work) (going, later, (swept, work_is, are_swept)) =
      (going, later, (swept, listed_goes_on told new (told.known.task t) t swept work (same t swept) work_is, are_swept))
  work_stands t None gone = gone

  -- it stands where the rows are those that are told, and each want is that of the goal
  pub settled_stands : AreOrdered now → SameInstances it.instances instances
      → things rows ≡ filter_map (dep_row new.known) deployments
      → ((i : Inst) → option_and_then (λ known. known.want) (found inst_cmp instances i)
      ≡ option_and_then (λ (goal : Goal). want_place goal.rows i)
      (option_map (λ (row : DepRow). row.goal) (deployment_in rows i.dep)))
      → StandsIn told it → StandsIn new now
  settled_stands kept same_instances are wants stands = record {
    uploads = stands.uploads;
    deployments = are;
    rows = λ i. same_instances.rows i ∙ stands.rows i;
    row_calls = λ i. same_instances.calls i ∙ stands.row_calls i;
    machines = stands.machines;
    machine_keys = stands.machine_keys;
    machine_calls = stands.machine_calls;
    orphans = stands.orphans;
    orphan_calls = stands.orphan_calls;
    digests = stands.digests;
    compiling = stands.compiling;
    tasks = stands.tasks;
    calls = stands.calls;
    works = λ t. work_stands t (work_of it t) (stands.works t);
    linked = record {
      wants = wants;
      pings = λ t w i is dep. ap (λ part. part.ping) (same_instances.parts i) ∙ stands.linked.pings t w i is dep;
      leaving = λ t w i is dep. ap (λ part. part.leaving) (same_instances.parts i)
          ∙ stands.linked.leaving t w i is dep;
      changes = λ t w i is dep. ap (λ part. part.change) (same_instances.parts i)
          ∙ stands.linked.changes t w i is dep;
      sweeps = stands.linked.sweeps;
      deletions = stands.linked.deletions;
    };
    ordered = kept;
    tells_well = tells_as_well told new refl refl refl refl refl refl stands.tells_well;
  }
