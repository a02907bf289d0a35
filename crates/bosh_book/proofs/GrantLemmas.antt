-- A call that is permitted is the one that began.
use Rattle.std.proofs.Common.{◌≡◌, ◌∙◌, ℕ, true, Option, Some, None, Err, List, refl, sym, ap, inl, subst}
use Rattle.std.specs.Prelude.{is_some, option_map}
use Rattle.bosh_asks.specs.declared.fault.BookFault.TheVariants.{Memory}
use Rattle.bosh_base.specs.declared.entry.Begin as begin
use Rattle.bosh_book.specs.Claims.{Begins}
use Rattle.bosh_base.specs.declared.entry.Entry.TheVariants as entries
use Rattle.bosh_base.specs.declared.owner.Owner.{Owner}
use Rattle.bosh_base.specs.declared.owner.Owner.TheVariants.{Instance, Compile, Disk}
use Rattle.bosh_book.specs.Current.{IsFor, IsOpenCall, dep_of, permit_of}
use Rattle.bosh_fold.proofs.OpenLemmas.{begun_is_open, orphans_stay, tasks_stay}
use Rattle.bosh_fold.specs.Learns.{Learns}
use Rattle.bosh_records.specs.Readers.{call_at}
use Rattle.bosh_records.specs.declared.records.Records.{Records}
use Rattle.bosh_book.specs.declared.book.Book.{Book}
use Rattle.bosh_book.specs.declared.granted.Granted.{Granted}

-- for want of memory nothing begins
pub begins_refused : {K : Type 0} (bodies : K → Option (List (List ℕ))) (faults : K → ℕ) (begun : begin.Begin)
    (dep : Option (List ℕ)) (book : Book K) → is_some dep ≡ true → Begins bodies faults begun dep book (Err Memory) book
begins_refused bodies faults begun (Some dep) book h = inl (refl, refl)
begins_refused bodies faults begun None book h = absurd cc

abbrev the_same : (found : Option Granted) → Granted → Granted
the_same (Some it) other = it
the_same None other = other

pub granted_for : (begun : begin.Begin) (dep : Option (List ℕ)) (granted : Granted) →
    Some granted ≡ option_map (permit_of begun) dep → IsFor begun granted
granted_for begun (Some dep) granted h = subst (IsFor begun)
    (ap (λ found. the_same found granted) (sym h))
    (record { number = refl; task = refl; owner = refl; call = refl })
granted_for begun None granted h = absurd cc

-- it is for the deployment that what is done for its owner is for
pub granted_dep : (begun : begin.Begin) (dep : Option (List ℕ)) (granted : Granted) →
    Some granted ≡ option_map (permit_of begun) dep → dep ≡ Some granted.dep
granted_dep begun (Some dep) granted h = ap (λ found. Some (the_same found granted).dep) (sym h)
granted_dep begun None granted h = absurd cc

-- the deployment of an owner stays as a call begins
dep_stays : (was now : Records) (begun : begin.Begin) → Learns was (entries.Begin begun) now → (owner : Owner) →
    dep_of now owner ≡ dep_of was owner
dep_stays was now begun learns (Instance inst) = refl
dep_stays was now begun learns (Compile task slot) = tasks_stay was now begun learns task
dep_stays was now begun learns (Disk disk) = orphans_stay was now begun learns disk

-- once its beginning is noted, the call of a permit is open
pub granted_open : (was now : Records) (begun : begin.Begin) (granted : Granted) → IsFor begun granted →
    dep_of was begun.owner ≡ Some granted.dep → Learns was (entries.Begin begun) now → IsOpenCall now granted
granted_open was now begun granted for of_dep learns = record {
  begun = begun;
  is_open = ap (call_at now) (sym for.number) ∙ begun_is_open was now begun learns;
  is_for = for;
  of_dep = dep_stays was now begun learns begun.owner ∙ of_dep;
}
