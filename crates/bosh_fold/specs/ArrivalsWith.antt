-- What came so far, with one more entry.
use Rattle.std.specs.Prelude.{ℕ, ◌+◌, List, [], ◌∷◌, ◌++◌, Some, min}
use Rattle.bosh_base.specs.declared.entry.Entry.{Entry}
use Rattle.bosh_base.specs.declared.entry.Entry.TheVariants.{Release as comes_release, Stemcell as comes_stemcell}
use Rattle.bosh_base.specs.declared.entry.Entry.TheVariants.{Config as comes_config, TaskOpen, Begin, Snapshot}
use Rattle.bosh_base.specs.declared.task.TaskRow.{TaskRow}
use Rattle.bosh_records.specs.Arrivals.{Arrivals}

-- how many tasks there are after more of them
abbrev pub opened_with : ℕ → List TaskRow → ℕ
opened_with n [] = n
opened_with n (row ∷ rows) = opened_with (min (n + 1) 18446744073709551615) rows

-- with one more entry
abbrev pub arrivals_with : Entry → Arrivals → Arrivals
arrivals_with (comes_release it) before = record before { releases = before.releases ++ it ∷ [] }
arrivals_with (comes_stemcell it) before = record before { stemcells = before.stemcells ++ it ∷ [] }
arrivals_with (comes_config file) before = record before { config = Some file }
arrivals_with (TaskOpen opening) before = record before { opened = opening.task }
arrivals_with (Begin begin) before = record before { last_call = begin.n }
arrivals_with (Snapshot it) before = record {
  releases = it.releases;
  stemcells = it.stemcells;
  config = it.config;
  opened = opened_with 0 it.tasks;
  last_call = it.last_call;
}
arrivals_with entry before = before
