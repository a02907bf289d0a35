-- Uploads: nothing else is told, and nothing else recorded.
use Rattle.std.proofs.Common.{ℕ, List, ◌++◌, [], ◌∷◌, Option, Some, None, refl, subst, sym}
use Rattle.bosh_base.specs.declared.entry.Entry.TheVariants as entries
use Rattle.bosh_base.specs.declared.release.Release.{Release}
use Rattle.bosh_base.specs.declared.stemcell.Stemcell.{Stemcell}
use Rattle.bosh_records.specs.Recorded.{Recorded}
use Rattle.bosh_work.specs.declared.part.MachineName.{MachineName}
use Rattle.bosh_work.specs.declared.work.Work.{Work}
use Rattle.laws_stands.specs.Reading.{work_of}
use Rattle.laws_stands.specs.Stands.{IsWork, StandsIn, arrivals_of}
use Rattle.laws_stands.specs.Told.{Told, telling}
use Rattle.laws_stands_on.proofs.ListedLemmas.{SameListed, listed_goes_on, untouched}
use Rattle.laws_stands_on.proofs.TellsLemmas.{tells_as_well}

-- other uploads than those that are known
abbrev uploaded : List Release → List Stemcell → Option (List ℕ) → Told → Told
uploaded releases stemcells config told =
    record told { known = record told.known { releases = releases; stemcells = stemcells; config = config } }

module _ (releases : List Release) (stemcells : List Stemcell) (config : Option (List ℕ)) (told : Told)
    (it : Recorded) (stands : StandsIn told it) where
  abbrev new : Told
  new = uploaded releases stemcells config told

  same : (t : ℕ) (swept : List MachineName) → SameListed told new (told.known.task t) t swept
  same t swept = untouched told new.known refl refl refl refl refl refl (told.known.task t) t swept

  work_stands : (t : ℕ) (o : Option Work) → IsWork told t o → IsWork new t o
  work_stands t (Some work) (going, later, (swept, work_is, are_swept)) =
      (going, later, (swept, listed_goes_on told new (told.known.task t) t swept work (same t swept) work_is, are_swept))
  work_stands t None gone = gone

  -- what came is what is known
  pub uploads_stand : StandsIn new (record it { came = arrivals_of new.known })
  uploads_stand = record {
    uploads = refl;
    deployments = stands.deployments;
    rows = stands.rows;
    row_calls = stands.row_calls;
    machines = stands.machines;
    machine_keys = stands.machine_keys;
    machine_calls = stands.machine_calls;
    orphans = stands.orphans;
    orphan_calls = stands.orphan_calls;
    digests = stands.digests;
    compiling = stands.compiling;
    tasks = stands.tasks;
    calls = stands.calls;
    works = λ t. work_stands t (work_of it t) (stands.works t);
    linked = record {
      wants = stands.linked.wants;
      pings = stands.linked.pings;
      leaving = stands.linked.leaving;
      changes = stands.linked.changes;
      sweeps = stands.linked.sweeps;
      deletions = stands.linked.deletions;
    };
    ordered = record {
      deployments = (stands.ordered).deployments;
      instances = (stands.ordered).instances;
      machines = (stands.ordered).machines;
      orphans = (stands.ordered).orphans;
      keys = (stands.ordered).keys;
      tasks = (stands.ordered).tasks;
      works = (stands.ordered).works;
      calls = (stands.ordered).calls;
    };
    tells_well = tells_as_well told new refl refl refl refl refl refl stands.tells_well;
  }

-- ---- each kind

pub after_release : (release : Release) (told : Told) (it : Recorded) → StandsIn told it
    → StandsIn (telling told (entries.Release release))
    (record it { came = record it.came { releases = it.came.releases ++ release ∷ [] } })
after_release release told it stands =
    subst (λ came. StandsIn (telling told (entries.Release release)) (record it { came = came }))
    (λ i. record (sym stands.uploads i) { releases = (sym stands.uploads i).releases ++ release ∷ [] })
    (uploads_stand (told.known.releases ++ release ∷ []) told.known.stemcells told.known.config told it stands)

pub after_stemcell : (stemcell : Stemcell) (told : Told) (it : Recorded) → StandsIn told it
    → StandsIn (telling told (entries.Stemcell stemcell))
    (record it { came = record it.came { stemcells = it.came.stemcells ++ stemcell ∷ [] } })
after_stemcell stemcell told it stands =
    subst (λ came. StandsIn (telling told (entries.Stemcell stemcell)) (record it { came = came }))
    (λ i. record (sym stands.uploads i) { stemcells = (sym stands.uploads i).stemcells ++ stemcell ∷ [] })
    (uploads_stand told.known.releases (told.known.stemcells ++ stemcell ∷ []) told.known.config told it stands)

pub after_config : (file : List ℕ) (told : Told) (it : Recorded) → StandsIn told it
    → StandsIn (telling told (entries.Config file)) (record it { came = record it.came { config = Some file } })
after_config file told it stands =
    subst (λ came. StandsIn (telling told (entries.Config file)) (record it { came = came }))
    (λ i. record (sym stands.uploads i) { config = Some file })
    (uploads_stand told.known.releases told.known.stemcells (Some file) told it stands)
