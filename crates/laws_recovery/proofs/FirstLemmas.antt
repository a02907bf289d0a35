-- Where nothing is recorded, that stands for what is told before the first entry, and fits it.
use Rattle.std.proofs.Common.{◌≡◌, ◌≤◌, ℕ, Bool, true, false, Some, None, arith, refl, subst, sym}
use Rattle.std.specs.Prelude.{◌&&◌, nat_le, if◌then◌else◌}
use Rattle.std.specs.List.Sorted.{IsStrictlySortedBy}
use Rattle.std.proofs.lemmas.Bool.{false≢true}
use Rattle.std.proofs.lemmas.Bool.Decides.{nat_tests}
use Rattle.bosh_history.specs.Known.{no_task, nothing_known}
use Rattle.bosh_history.specs.Held.{is_open}
use Rattle.bosh_history.specs.Moments as moments
use Rattle.bosh_history.specs.Snapshots.{task_row}
use Rattle.bosh_records.specs.Ordered.{AreOrdered}
use Rattle.bosh_records.specs.Recorded.{nothing, recorded}
use Rattle.bosh_records.specs.declared.records.Records.{Records}
use Rattle.laws_recovery.specs.First.{told_first}
use Rattle.laws_stands.specs.Agrees.{Agrees}
use Rattle.laws_stands.specs.Linked.{IsLinked}
use Rattle.laws_stands.specs.Stands.{StandsIn}
use Rattle.laws_stands.specs.Told.{TellsWell, is_going}
use Rattle.laws_stands_fits.specs.Fits.{Fits}
use Rattle.laws_stands_fits.specs.Own.{ListsOwn, TellsOwn}
use Rattle.laws_stands_fits.specs.Whole.{StandsWhole}

no_number : (t : ℕ) → (nat_le 1 t && nat_le t 0) ≡ false
no_number t = grind (arith, nat_tests)

none_going : (t : ℕ) → is_going nothing_known t ≡ false
none_going t = by (nat_le 1 t) (nat_le t 0) (is_open nothing_known t) (no_number t)
  where
    by : (a b c : Bool) → (a && b) ≡ false → (a && (b && c)) ≡ false
    by true true c none = absurd (false≢true (sym none))
    by true false c none = refl
    by false b c none = refl

nothing_links : IsLinked nothing
nothing_links = record {
  wants = λ i. refl;
  pings = λ t w i is of_dep. absurd (let no = is in cc);
  leaving = λ t w i is of_dep. absurd (let no = is in cc);
  changes = λ t w i is of_dep. absurd (let no = is in cc);
  sweeps = λ t w name machine is there of_dep. absurd (let no = is in cc);
  deletions = λ t w d loose is there of_dep. absurd (let no = is in cc);
}

nothing_ordered : AreOrdered nothing
unfolding IsStrictlySortedBy
nothing_ordered = record {
  deployments = tt;
  instances = tt;
  machines = tt;
  orphans = tt;
  keys = tt;
  tasks = tt;
  works = tt;
  calls = tt;
}

first_tells : TellsWell told_first
first_tells = record {
  number = λ n b is. absurd (let no = is in cc);
  low = λ n b is. absurd (let no = is in cc);
  past = λ n b is. absurd (let no = is in cc);
  begun = λ n b is. absurd (let no = is in cc);
  begun_past = λ n b is. absurd (let no = is in cc);
  failed = λ t failure is. absurd (let no = is in cc);
  going = λ n b is. absurd (let no = is in cc);
  one_owner = λ c d b e is other same. absurd (let no = is in cc);
  one_key = λ c d b e key is other same also. absurd (let no = is in cc);
  recorded = λ n b i is of_inst. absurd (let no = is in cc);
  counted = λ t c is. absurd (let no = is in cc);
  disks_apart = λ t. refl;
  updates = λ t i. refl;
}

nothing_stands : StandsIn told_first nothing
nothing_stands = record {
  uploads = refl;
  deployments = refl;
  rows = λ i. refl;
  row_calls = λ i. refl;
  machines = λ name. refl;
  machine_keys = λ name later. refl;
  machine_calls = λ name. refl;
  orphans = λ d. refl;
  orphan_calls = λ d. refl;
  digests = λ key. refl;
  compiling = λ key. refl;
  tasks = λ t i. if sym (no_number t) i then Some (task_row nothing_known t) else None;
  calls = λ n. refl;
  works = λ t later. none_going t;
  linked = nothing_links;
  ordered = nothing_ordered;
  tells_well = first_tells;
}

nothing_fits : Fits told_first nothing
nothing_fits = record {
  swept = λ t w name is among. absurd (let no = is in cc);
  parts = λ i none. refl;
  sweeps = λ name machine is none. absurd (let no = is in cc);
  deletions = λ d loose is none. absurd (let no = is in cc);
  since = λ since row is. absurd (let no = is in cc);
}

lists_none : ListsOwn no_task
lists_none = record {
  asked = λ i is. absurd (false≢true is);
  leaving = λ i is. absurd (false≢true is);
  changing = λ i is. absurd (false≢true is);
  deleting = λ d is. absurd (false≢true is);
}

first_own : TellsOwn told_first
first_own = record {
  lists = λ t going. lists_none;
  calls = λ n b is. absurd (let no = is in cc);
  few = none;
  unshared = λ dep none. refl;
}
  where
    none : 0 ≤ 0
    none = omega arith

pub first_stands : (records : Records) → recorded records ≡ nothing → StandsWhole told_first records
first_stands records is = record {
  stands = subst (StandsIn told_first) (sym is) nothing_stands;
  fits = subst (Fits told_first) (sym is) nothing_fits;
  own = first_own;
}

pub first_agrees : Agrees (moments.beginning moments.nothing) told_first
first_agrees = record {
  known_is = refl;
  snapped = none;
  live = λ n call is. absurd (let no = is in cc);
  left = λ n b is idle. absurd (let no = is in cc);
}
  where
    none : 0 ≤ 0
    none = omega arith
