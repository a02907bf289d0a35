-- The tasks that a book finds open by its records are those that are open by what is known.
use Rattle.std.proofs.Common.{◌≡◌, ◌∙◌, ℕ, Bool, true, false, not, List, [], ◌∷◌, Option, Some, None, ap, filter, map, refl, sym}
use Rattle.std.specs.Prelude.{◌&&◌, eqb, is_none, is_some, nat_le, if◌then◌else◌}
use Rattle.std.specs.List.{AllByRecursion}
use Rattle.std.specs.Option.{option_and_then}
use Rattle.std.specs.Ordering.{nat_cmp}
use Rattle.bosh_base.specs.Cloud.{numbers_to}
use Rattle.bosh_base.specs.declared.task.TaskEnd.{TaskEnd}
use Rattle.bosh_base.specs.declared.task.TaskRow.{TaskRow}
use Rattle.bosh_book.specs.Starts as book
use Rattle.bosh_history.specs.Held.{is_open}
use Rattle.bosh_history.specs.Moments.{Moment}
use Rattle.bosh_history.specs.Snapshots.{task_row}
use Rattle.bosh_records.specs.Recorded.{recorded}
use Rattle.bosh_records.specs.Table.{found, things}
use Rattle.bosh_records.specs.declared.records.Records.{Records}
use Rattle.laws_facts.specs.Lists.{ListFacts}
use Rattle.laws_recovery.specs.Interrupted.{open_at}
use Rattle.laws_stands.proofs.OrderLemmas.{once_in}
use Rattle.laws_stands.specs.Stands.{Stands}
use Rattle.laws_stands.specs.Told.{Told}
use Rattle.laws_stands_snapshots.proofs.OrderLemmas.{number_order}
use Rattle.laws_stands_snapshots.proofs.ReadLemmas.{tasks_are}
use Rattle.laws_stands_snapshots.proofs.TableListLemmas.{all_found}

-- no end is told of it
abbrev endless : TaskRow → Bool
endless row = is_none row.end

module _ (m : Moment) (told : Told) (records : Records) (stands : Stands told records) (known_is : told.known ≡ m.known)
    (lists : ListFacts m) where
  abbrev places : List (ℕ × Option TaskRow)
  places = records.tasks.places.entries

  -- a task that is recorded has its number
  own_number : (t : ℕ) (row : TaskRow) → found nat_cmp places t ≡ Some (Some row) → row.task ≡ t
  own_number t row is =
      by (nat_le 1 t && nat_le t told.known.tasks)
      (sym (ap (option_and_then (λ (place : Option TaskRow). place)) is) ∙ stands.tasks t)
    where
      by : (b : Bool) → Some row ≡ (if b then Some (task_row told.known t) else None) → row.task ≡ t
      by true same = ap (λ (row : TaskRow). row.task) (let one : row ≡ task_row told.known t = cc in one)
      by false same = absurd (let no = same in cc)

  listed : (ds : List (ℕ × Option TaskRow)) → AllByRecursion (λ (d : ℕ × Option TaskRow). found nat_cmp places d.0 ≡ Some d.1) ds
      → book.open_in ds ≡ map (λ (row : TaskRow). row.task) (filter endless (things ds))
  listed [] all = refl
  listed (d ∷ ds) (here, more) = by d.1 refl (listed ds more)
    where
      of : (row : TaskRow) → d.1 ≡ Some row → (b : Bool) → endless row ≡ b
          → book.open_in ds ≡ map (λ (row : TaskRow). row.task) (filter endless (things ds))
          → map (λ (place : ℕ × Option TaskRow). place.0)
          (if b then d ∷ filter (λ (place : ℕ × Option TaskRow). book.is_open place.1) ds
          else filter (λ (place : ℕ × Option TaskRow). book.is_open place.1) ds)
          ≡ map (λ (row : TaskRow). row.task) (if b then row ∷ filter endless (things ds) else filter endless (things ds))
      of row is true open_ rest = λ i. sym (own_number d.0 row (here ∙ ap (λ place. Some place) is)) i ∷ rest i
      of row is false ended rest = rest

      by : (place : Option TaskRow) → d.1 ≡ place
          → book.open_in ds ≡ map (λ (row : TaskRow). row.task) (filter endless (things ds))
          → book.open_in (d ∷ ds) ≡ map (λ (row : TaskRow). row.task) (filter endless (things (d ∷ ds)))
      by (Some row) is rest =
          (λ i. map (λ (place : ℕ × Option TaskRow). place.0)
          (if book.is_open (is i) then d ∷ filter (λ (place : ℕ × Option TaskRow). book.is_open place.1) ds
          else filter (λ (place : ℕ × Option TaskRow). book.is_open place.1) ds))
          ∙ of row is (endless row) refl rest
          ∙ (λ i. map (λ (row : TaskRow). row.task) (filter endless (things ((d.0, sym is i) ∷ ds))))
      by None is rest =
          (λ i. map (λ (place : ℕ × Option TaskRow). place.0)
          (if book.is_open (is i) then d ∷ filter (λ (place : ℕ × Option TaskRow). book.is_open place.1) ds
          else filter (λ (place : ℕ × Option TaskRow). book.is_open place.1) ds))
          ∙ rest
          ∙ (λ i. map (λ (row : TaskRow). row.task) (filter endless (things ((d.0, sym is i) ∷ ds))))

  ends : (end : Option TaskEnd) → is_none end ≡ not (is_some end)
  ends None = refl
  ends (Some end) = refl

  by_number : (xs : List ℕ) → map (λ (row : TaskRow). row.task) (filter endless (map (task_row m.known) xs))
      ≡ filter (is_open m.known) xs
  by_number [] = refl
  by_number (t ∷ xs) =
      (λ i. map (λ (row : TaskRow). row.task)
      (if ends (m.known.task t).end i then task_row m.known t ∷ filter endless (map (task_row m.known) xs)
      else filter endless (map (task_row m.known) xs)))
      ∙ by (is_open m.known t) (by_number xs)
    where
      by : (b : Bool) → map (λ (row : TaskRow). row.task) (filter endless (map (task_row m.known) xs))
          ≡ filter (is_open m.known) xs
          → map (λ (row : TaskRow). row.task) (if b then task_row m.known t ∷ filter endless (map (task_row m.known) xs)
          else filter endless (map (task_row m.known) xs))
          ≡ (if b then t ∷ filter (is_open m.known) xs else filter (is_open m.known) xs)
      by true rest = ap (λ ys. t ∷ ys) rest
      by false rest = rest

  pub open_found : book.open_tasks records ≡ open_at m.known
  open_found =
      listed places (all_found nat_cmp eqb number_order (λ (place : Option TaskRow). place) places
      (once_in nat_cmp places stands.ordered.tasks))
      ∙ ap (λ rows. map (λ (row : TaskRow). row.task) (filter endless rows))
      (tasks_are told m known_is lists (recorded records) stands)
      ∙ by_number (numbers_to m.known.tasks)
