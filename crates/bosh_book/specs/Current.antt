-- Which calls are open in a book.
use Rattle.std.specs.Prelude.{◌≡◌, ◌≢◌, ℕ, List, Option, Some, option_map}
use Rattle.std.specs.Option.{option_and_then}
use Rattle.bosh_base.specs.declared.entry.Begin as begin
use Rattle.bosh_base.specs.declared.owner.Owner.{Owner}
use Rattle.bosh_base.specs.declared.owner.Owner.TheVariants.{Instance, Compile, Disk}
use Rattle.bosh_book.specs.declared.book.Book.{Book}
use Rattle.bosh_book.specs.declared.granted.Granted.{Granted}
use Rattle.bosh_book.specs.declared.standing.Standing.TheVariants.{Unread}
use Rattle.bosh_records.specs.Readers.{call_at, orphan_at, task_at}
use Rattle.bosh_records.specs.declared.records.Records.{Records}

-- the deployment that what is done for an owner is for: that of an instance, that of the task of a compile machine, or
-- that of the instance that had an orphaned disk
abbrev pub dep_of : Records → Owner → Option (List ℕ)
dep_of records (Instance inst) = Some inst.dep
dep_of records (Compile task slot) = option_and_then (λ row. row.dep) (task_at records task)
dep_of records (Disk disk) = option_map (λ it. it.orphan.inst.dep) (orphan_at records disk)

-- what is permitted is the call that began so
pub record IsFor (begun : begin.Begin) (it : Granted) : Type 0 where
  pub number : begun.n ≡ it.n
  pub task : begun.task ≡ it.task
  pub owner : begun.owner ≡ it.owner
  pub call : begun.call ≡ it.call

-- the permit for a call of a deployment
abbrev pub permit_of : begin.Begin → List ℕ → Granted
permit_of begun dep = record {
  n = begun.n;
  task = begun.task;
  owner = begun.owner;
  dep = dep;
  call = begun.call;
}

-- The call of a permit is open by the records: it began so, and is for that deployment.
pub record IsOpenCall (records : Records) (it : Granted) : Type 0 where
  pub begun : begin.Begin
  pub is_open : call_at records it.n ≡ Some begun
  pub is_for : IsFor begun it
  pub of_dep : dep_of records begun.owner ≡ Some it.dep

-- .. and the records were read
abbrev pub IsCurrent : {K : Type 0} → Book K → Granted → Type 0
IsCurrent book permit = (book.standing ≢ Unread) × IsOpenCall book.records permit
