-- What a book knows of its journal after an append.
use Rattle.std.proofs.Common.{◌≡◌, ℕ, Bool, false, Option, Ok, Err, List, sym}
use Rattle.std.proofs.Common.{◌∙◌, append-nil, true≢false}
use Rattle.bosh_base.specs.declared.entry.Entry.{Entry}
use Rattle.bosh_book.specs.Appends.{Appends}
use Rattle.bosh_book.specs.Faults.{of_journal}
use Rattle.bosh_journal.specs.Appends.{added, Changes}
use Rattle.bosh_journal.specs.JournalView.{JournalView}
use Rattle.bosh_journal.specs.declared.fault.JournalFault.{JournalFault}
use Rattle.bosh_journal.specs.declared.fault.JournalFault.TheVariants as journal

pub appended : {K T U : Type 0} (bodies : K → Option (List (List ℕ))) (faults : K → ℕ) (is_broken : K → Bool)
    (was now : JournalView K) (entry : Entry) (change : List (List ℕ) → List (List ℕ)) (done : U) (value : T) →
    was.is_broken ≡ false →
    Changes bodies faults is_broken (Ok done) was (added entry) change now →
    Appends bodies faults (Ok value) was entry now
appended bodies faults is_broken was now entry change done value whole changes = record {
  entries = changes.turns.2;
  kept = changes.kept;
  count = (changes.store whole).count;
  fails = changes.turns.1 ∙ sym whole;
  fault = tt;
  pending = tt;
}

pub refused : {K T U : Type 0} (bodies : K → Option (List (List ℕ))) (faults : K → ℕ) (is_broken : K → Bool)
    (fault : JournalFault) (was now : JournalView K) (entry : Entry) (change : List (List ℕ) → List (List ℕ)) →
    was.is_broken ≡ false →
    Changes {T = U} bodies faults is_broken (Err fault) was (added entry) change now →
    Appends {T = T} bodies faults (Err (of_journal fault)) was entry now
refused bodies faults is_broken journal.StoreFault was now entry change whole changes = record {
  entries = changes.turns.2 ∙ sym (append-nil was.entries);
  kept = changes.kept;
  count = (changes.store whole).count;
  fails = ((changes.store whole).list.1, changes.turns.1);
  fault = tt;
  pending = changes.turns.3;
}
refused bodies faults is_broken (journal.Damaged place) was now entry change whole changes = absurd changes.turns
refused bodies faults is_broken journal.Broken was now entry change whole changes =
    absurd (true≢false (sym changes.turns.0 ∙ whole))
refused bodies faults is_broken journal.Memory was now entry change whole changes = record {
  entries = changes.turns.2 ∙ sym (append-nil was.entries);
  kept = changes.kept;
  count = (changes.store whole).count;
  fails = changes.turns.1 ∙ sym whole;
  fault = tt;
  pending = tt;
}
