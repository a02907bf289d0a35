-- What a plan reads of records that stand is what is known.
use native.Mathlib.Omega.{arith}
use Rattle.std.proofs.Common.{◌≡◌, ◌∙◌, ℕ, ◌+◌, Bool, true, false, ◌&&◌, ◌||◌, not, List, [], ◌∷◌, Option, Some, None}
use Rattle.std.proofs.Common.{ap, length, map, refl, sym}
use Rattle.std.specs.Prelude.{count_by, find, is_none, is_some, nat_le, ◌==◌, if◌then◌else◌}
use Rattle.std.proofs.lemmas.List.Sums.{sum_by-cons}
use Rattle.std.specs.List.{cons_option, filter_map, list_any}
use Rattle.std.specs.Option.{option_map, option_or}
use Rattle.bosh_asks.specs.Known as asks
use Rattle.bosh_asks.specs.Recorded.{consumer_of, first_consumer, is_full, is_there, withdrawn}
use Rattle.bosh_base.specs.declared.entry.Begin.{Begin}
use Rattle.bosh_base.specs.declared.goal.Goal.{Goal}
use Rattle.bosh_base.specs.declared.inst.Inst.{Inst}
use Rattle.bosh_base.specs.declared.link.Joint.{Joint}
use Rattle.bosh_base.specs.declared.row.Row.{Row}
use Rattle.bosh_base.specs.declared.snapshot.DepRow.{DepRow}
use Rattle.bosh_due.specs.Plans.{dep_rows, first_consumer_of, is_in_a_row, lacks_room}
use Rattle.bosh_history.specs.Known.{Known}
use Rattle.bosh_history.specs.Moments.{Moment}
use Rattle.bosh_history.specs.Snapshots.{dep_row}
use Rattle.bosh_records.specs.Arrivals.{Arrivals}
use Rattle.bosh_records.specs.Readers.{deployment_of, has_disk, owner_in}
use Rattle.bosh_records.specs.Table.{things}
use Rattle.bosh_records.specs.declared.instances.Instance.{Instance}
use Rattle.bosh_records.specs.declared.records.Records.{Records}
use Rattle.laws_facts.specs.KnownFacts.{KnownFacts}
use Rattle.laws_planned.specs.Read.{ArePlannedOver}
use Rattle.laws_stands.specs.Agrees.{Agrees}
use Rattle.laws_stands.specs.Stands.{Stands}
use Rattle.laws_stands.specs.Told.{Told}
use Rattle.laws_views.proofs.ListedLemmas.{pairs}
use Rattle.laws_views.proofs.ReadLemmas.{reads_known}
use Rattle.laws_views.proofs.TableLemmas.{rows_known}
use Rattle.laws_views.proofs.ViewLemmas.{stands_at, views_known}
use Rattle.laws_views.specs.Read.{AreReadAsKnown}
use Rattle.laws_views.specs.Viewed.{CanBeViewed}

-- ---- consumers

-- the first consumer, over rows alone
abbrev consumer_in : Goal → List DepRow → Option Joint
consumer_in goal [] = None
consumer_in goal (row ∷ rows) =
    option_or (option_map consumer_of (withdrawn goal (Some row))) (consumer_in goal rows)

consumer_things : {S : Type 0} (goal : Goal) (places : List (S × Option DepRow))
    → first_consumer goal places ≡ consumer_in goal (things places)
consumer_things goal [] = refl
consumer_things {S} goal (e ∷ places) = by e.1 (consumer_things goal places)
  where
    by : (o : Option DepRow) → first_consumer goal places ≡ consumer_in goal (things places)
        → option_or (option_map consumer_of (withdrawn goal o)) (first_consumer goal places)
        ≡ consumer_in goal (cons_option o (things places))
    by (Some row) more = ap (option_or (option_map consumer_of (withdrawn goal (Some row)))) more
    by None more = more

-- .. as many as there are
count_things : {S : Type 0} (places : List (S × Option DepRow)) → count_by is_there places ≡ length (things places)
count_things [] = refl
count_things {S} (e ∷ places) =
    sum_by-cons (λ entry. if is_there entry then 1 else 0) e places ∙ by e.1 (count_things places)
  where
    by : (o : Option DepRow) → count_by is_there places ≡ length (things places)
        → (if is_some o then 1 else 0) + count_by is_there places ≡ length (cons_option o (things places))
    by (Some row) more = omega (arith, more)
    by None more = omega (arith, more)

named_things : (row_of : List ℕ → Option DepRow) (deps : List (List ℕ))
    → things (map (λ dep. (dep, row_of dep)) deps) ≡ filter_map row_of deps
named_things row_of [] = refl
named_things row_of (dep ∷ deps) = ap (cons_option (row_of dep)) (named_things row_of deps)

none_mapped : (o : Option DepRow) → not (is_some o) ≡ is_none (option_map (λ (row : DepRow). row.goal) o)
none_mapped (Some row) = refl
none_mapped None = refl

-- ---- disks

abbrev has : Row → ℕ → Bool
has row disk = has_disk (Some row) disk

owner_of_pairs : (disk : ℕ) (es : List (Inst × Instance))
    → is_some (owner_in es disk) ≡ list_any (λ p. has p.1 disk) (pairs (λ e. e.0) (λ (e : Inst × Instance). e.1.row) es)
owner_of_pairs disk [] = refl
owner_of_pairs disk (e ∷ es) = by e.1.row (owner_of_pairs disk es)
  where
    rest : List (Inst × Row)
    rest = pairs (λ e. e.0) (λ (e : Inst × Instance). e.1.row) es

    found : (b : Bool) → is_some (owner_in es disk) ≡ list_any (λ p. has p.1 disk) rest
        → is_some (option_map (λ (entry : Inst × Instance). entry.0)
        (if b then Some e else find (λ entry. has_disk entry.1.row disk) es))
        ≡ (b || list_any (λ p. has p.1 disk) rest)
    found true more = refl
    found false more = more

    by : (o : Option Row) → is_some (owner_in es disk) ≡ list_any (λ p. has p.1 disk) rest
        → is_some (option_map (λ (entry : Inst × Instance). entry.0)
        (if has_disk o disk then Some e else find (λ entry. has_disk entry.1.row disk) es))
        ≡ list_any (λ p. has p.1 disk) (cons_option (option_map (λ row. (e.0, row)) o) rest)
    by (Some row) more = found (has row disk) more
    by None more = more

any_of_pairs : (k : Known) (disk : ℕ) (is : List Inst)
    → list_any (λ p. has p.1 disk) (pairs (λ i. i) (λ i. Some (k.row i)) is)
    ≡ list_any (λ i. list_any (λ it. it.disk == disk) (k.row i).disks) is
any_of_pairs k disk [] = refl
any_of_pairs k disk (i ∷ is) =
    ap (λ b. list_any (λ it. it.disk == disk) (k.row i).disks || b) (any_of_pairs k disk is)

-- ---- at a moment

module _ (m : Moment) (calls : ℕ → Option Begin) (snapped : ℕ) (records : Records) (facts : KnownFacts m)
    (stands : Stands (record { known = m.known; calls = calls; snapped = snapped }) records) where
  abbrev k : Known
  k = m.known

  -- the rows of the deployments
  rows_are : things records.deployments.places.entries ≡ things (dep_rows k)
  rows_are = stands.deployments ∙ sym (named_things (dep_row k) k.deployments)

  pub consumer_known : (goal : Goal) → first_consumer goal records.deployments.places.entries ≡ first_consumer_of k goal
  consumer_known goal =
      consumer_things goal records.deployments.places.entries ∙ ap (consumer_in goal) rows_are
      ∙ sym (consumer_things goal (dep_rows k))

  full_known : is_full records.deployments.places.entries ≡ is_full (dep_rows k)
  full_known =
      ap (nat_le 64) (count_things records.deployments.places.entries ∙ ap length rows_are ∙ sym (count_things (dep_rows k)))

  pub room_known : AreReadAsKnown k records → (dep : List ℕ) → asks.lacks_room records dep ≡ lacks_room k dep
  room_known read dep =
      (λ i. none_mapped (deployment_of records dep) i && full_known i)
      ∙ ap (λ o. is_none o && is_full (dep_rows k)) (read.goals dep)

  pub owned_known : (disk : ℕ) → asks.is_owned records disk ≡ is_in_a_row k disk
  owned_known disk =
      owner_of_pairs disk records.instances.by_inst.entries
      ∙ ap (list_any (λ p. has p.1 disk)) (rows_known m calls snapped records facts stands)
      ∙ any_of_pairs k disk k.instances

pub planned_over : (m : Moment) (told : Told) (records : Records) → Stands told records → Agrees m told → KnownFacts m
    → CanBeViewed m.known → ArePlannedOver m.known records
planned_over m told records stands agrees facts viewed =
    let at : Stands (record { known = m.known; calls = told.calls; snapped = told.snapped }) records =
    stands_at m told records stands agrees in
    let read : AreReadAsKnown m.known records = reads_known m told records stands agrees facts in
    record {
      read = read;
      releases = ap (λ (it : Arrivals). it.releases) at.uploads;
      stemcells = ap (λ (it : Arrivals). it.stemcells) at.uploads;
      config = ap (λ (it : Arrivals). it.config) at.uploads;
      views = λ dep. views_known m told records dep stands agrees facts viewed;
      consumers = consumer_known m told.calls told.snapped records facts at;
      room = room_known m told.calls told.snapped records facts at read;
      owned = owned_known m told.calls told.snapped records facts at;
    }
