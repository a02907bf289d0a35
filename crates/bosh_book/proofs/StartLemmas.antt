-- A book that started, from the store that it was read from.
use Rattle.std.proofs.Common.{◌≡◌, ◌∙◌, ◌<◌, ◌≤◌, ◌+◌, ◌-◌, ℕ, zero, suc, Bool, false, Option, Some, Result, Ok, Err, List, [], ◌∷◌, ◌++◌}
use Rattle.std.proofs.Common.{append-nil, arith, drop, get_or, length, map, refl, sym, ap, subst, take}
use Rattle.std.proofs.lemmas.List.{length-append, map-append, take_all, take_more}
use Rattle.std.specs.Prelude.{IfErr, OnOk}
use Rattle.bosh_base.specs.declared.entry.Entry.{Entry}
use Rattle.bosh_book.specs.Adds.{Adds, IsRecorded, arrivals_by}
use Rattle.bosh_book.specs.declared.standing.Standing.TheVariants.{Running}
use Rattle.bosh_book.proofs.AddsLemmas.{all_come, more_added, nothing_added}
use Rattle.bosh_records.specs.Arrivals.{Arrivals, arrivals}
use Rattle.std.proofs.Common.{true}
use Rattle.std.proofs.lemmas.Bool.{false≢true}
use Rattle.std.specs.Prelude.{is_ok}
use Rattle.bosh_asks.specs.declared.fault.BookFault.{BookFault}
use Rattle.bosh_book.specs.declared.book.Book.{Book}
use Rattle.bosh_asks.specs.declared.fault.BookFault.TheVariants as faults
use Rattle.bosh_asks.specs.declared.fault.BookFault.TheVariants.{Memory}
use Rattle.bosh_book.specs.Faults.{FailsAs, IsNoteFault, IsStartFault}
use Rattle.bosh_book.specs.Appends.{LeavesPending}
use Rattle.bosh_book.specs.Starts.{ComesOut, Finishes, Interrupts, InterruptsWhere, IsNextPending, Starts, StartsFrom, Takes}
use Rattle.bosh_book.specs.Starts.{interruption, open_tasks, standing_after}
use Rattle.bosh_journal.specs.JournalView.{JournalView}
use Rattle.bosh_journal.specs.Kept.{IsKept}
use Rattle.bosh_journal.specs.Reads.{Reads}
use Rattle.bosh_ports.specs.Faults.{NeverFalls}
use Rattle.bosh_fold.proofs.LearnsLemmas.{alike_itself}
use Rattle.bosh_fold.specs.Learns.{IsAlike}
use Rattle.std.proofs.Math.Nat.{le_refl}

pub starts_from : {K T : Type 0} (bodies : K → Option (List (List ℕ))) (faults : K → ℕ) (is_broken : K → Bool)
    (compacts : Bool) (store : K) (result : Result T BookFault) (journal : JournalView K) (first now : Book K) →
    first.journal ≡ journal → Reads bodies faults is_broken store (Ok journal.entries) journal.store →
    journal.is_broken ≡ false → Starts bodies faults compacts first result now →
    OnOk result (IsRecorded first.journal.entries now.records) →
    FailsAs faults result first.journal now.journal → IfErr result (IsStartFault first.journal.entries) →
    now.standing ≡ standing_after result → StartsFrom bodies faults is_broken compacts store result now
starts_from bodies faults is_broken compacts store result journal first now is reads whole starts recorded fails fault standing =
    record {
      first = first;
      reads = subst (λ (it : JournalView _). Reads bodies faults is_broken store (Ok it.entries) it.store) (sym is) reads;
      whole = ap (λ it. it.is_broken) is ∙ whole;
      starts = starts;
      recorded = recorded;
      fails = fails;
      fault = fault;
      standing = standing;
    }

-- the same from the store of a book as it was
pub starts_again : {K T : Type 0} (bodies : K → Option (List (List ℕ))) (faults : K → ℕ) (is_broken : K → Bool)
    (told was : Book K) (result : Result T BookFault) (journal : JournalView K) (first now : Book K) →
    told ≡ was → first.journal ≡ journal →
    Reads bodies faults is_broken told.journal.store (Ok journal.entries) journal.store →
    journal.is_broken ≡ false → Starts bodies faults false first result now →
    OnOk result (IsRecorded first.journal.entries now.records) →
    FailsAs faults result first.journal now.journal → IfErr result (IsStartFault first.journal.entries) →
    now.standing ≡ standing_after result → StartsFrom bodies faults is_broken false was.journal.store result now
starts_again bodies faults is_broken told was result journal first now same is reads whole starts recorded fails fault standing =
    subst (λ (it : Book _). StartsFrom bodies faults is_broken false it.journal.store result now) same
    (starts_from bodies faults is_broken false told.journal.store result journal first now is reads whole starts recorded
    fails fault standing)

-- ---- tasks that are ended, one after another

map_more : {X Y : Type 0} (f : X → Y) (items : List X) (k : ℕ) (it : X) → k < length items → it ≡ get_or items k it
    → map f (take (k + 1) items) ≡ map f (take k items) ++ f it ∷ []
map_more {X} f items k it below is =
    ap (map f) (take_more items k it below ∙ ap (λ (one : X). take k items ++ one ∷ []) (sym is))
    ∙ map-append f (take k items) (it ∷ [])

parted : {X : Type 0} (k : ℕ) (items : List X) → items ≡ take k items ++ drop k items
parted zero items = refl
parted (suc k) [] = refl
parted (suc k) (x ∷ items) = λ i. x ∷ parted k items i

pub same_item : (items : List ℕ) (k d : ℕ) → get_or items k (get_or items k d) ≡ get_or items k d
same_item [] k d = refl
same_item (x ∷ items) zero d = refl
same_item (x ∷ items) (suc k) d = same_item items k d

pub one_more_ended : {K : Type 0} (bodies : K → Option (List (List ℕ))) (faults : K → ℕ) (first mid last : Book K)
    (tasks : List ℕ) (k task : ℕ) → k < length tasks → task ≡ get_or tasks k task
    → Adds bodies faults first (map interruption (take k tasks)) mid → Adds bodies faults mid (interruption task ∷ []) last
    → Adds bodies faults first (map interruption (take (k + 1) tasks)) last
one_more_ended bodies faults first mid last tasks k task below is was now =
    subst (λ (added : List Entry). Adds bodies faults first added last) (sym (map_more interruption tasks k task below is))
    (more_added bodies faults first mid last (map interruption (take k tasks)) (interruption task ∷ []) was now)

dropped : (k : ℕ) (items : List ℕ) (it : ℕ) → k < length items → it ≡ get_or items k it
    → drop k items ≡ it ∷ drop (suc k) items
dropped zero [] it below is = absurd (omega (arith, below))
dropped (suc k) [] it below is = absurd (omega (arith, below))
dropped zero (x ∷ items) it below is = λ i. sym is i ∷ items
dropped (suc k) (x ∷ items) it below is = dropped k items it (omega (arith, below)) is

next_pending : {K : Type 0} (T : Type 0) (fault : BookFault) (journal : JournalView K) (tasks : List ℕ) (k task : ℕ)
    → k < length tasks → task ≡ get_or tasks k task
    → LeavesPending {T = T} (Err fault) (interruption task) journal → IsNextPending fault (drop k tasks) journal
next_pending {K} T fault journal tasks k task below is leaves =
    subst (λ (rest : List ℕ). IsNextPending fault rest journal) (sym (dropped k tasks task below is)) (by fault leaves)
  where
    by : (fault : BookFault) → LeavesPending {T = T} (Err fault) (interruption task) journal
        → IsNextPending fault (task ∷ drop (suc k) tasks) journal
    by faults.StoreFault leaves = leaves
    by fault leaves = tt

-- the next one is refused
pub some_ended : {K T : Type 0} (bodies : K → Option (List (List ℕ))) (faults : K → ℕ) (first mid last : Book K)
    (tasks : List ℕ) (k task : ℕ) (fault : BookFault) → k < length tasks → task ≡ get_or tasks k task
    → Adds bodies faults first (map interruption (take k tasks)) mid
    → Adds bodies faults mid [] last → LeavesPending {T = T} (Err fault) (interruption task) last.journal
    → Interrupts {T = T} bodies faults tasks first (Err fault) last
some_ended {T = T} bodies faults first mid last tasks k task fault below is was now pending = record {
  ended = map interruption (take k tasks);
  are_ended = (
    take k tasks,
    drop k tasks,
    parted k tasks,
    refl,
    next_pending T fault last.journal tasks k task below is pending,
  );
  adds =
      subst (λ (added : List Entry). Adds bodies faults first added last) (append-nil (map interruption (take k tasks)))
      (more_added bodies faults first mid last (map interruption (take k tasks)) [] was now);
}

-- none is left
pub all_ended : {K T : Type 0} (bodies : K → Option (List (List ℕ))) (faults : K → ℕ) (first last : Book K)
    (tasks : List ℕ) (k : ℕ) (value : T) → length tasks ≤ k
    → Adds bodies faults first (map interruption (take k tasks)) last
    → Interrupts bodies faults tasks first (Ok value) last
all_ended bodies faults first last tasks k value all was = record {
  ended = map interruption tasks;
  are_ended = refl;
  adds =
      subst (λ (them : List ℕ). Adds bodies faults first (map interruption them) last) (take_all k tasks all) was;
}

-- there was no memory to tell which are open
pub none_ended : {K T : Type 0} (bodies : K → Option (List (List ℕ))) (faults : K → ℕ) (tasks : List ℕ) (book : Book K)
    (fault : BookFault) → fault ≡ Memory → Interrupts {T = T} bodies faults tasks book (Err fault) book
none_ended {K} bodies faults tasks book fault is = record {
  ended = [];
  are_ended = (
    [],
    tasks,
    refl,
    refl,
    subst (λ (it : BookFault). IsNextPending {K = K} it tasks book.journal) (sym is) tt,
  );
  adds = nothing_added bodies faults book;
}

-- ---- a start

-- the entries that were read are taken in, and then tasks are ended
pub started : {K T : Type 0} (bodies : K → Option (List (List ℕ))) (faults : K → ℕ) (compacts : Bool)
    (was mid now : Book K) (taken : Result (Unit {0}) BookFault) (result : Result T BookFault)
    → Takes bodies faults compacts was taken mid → Finishes bodies faults mid taken result now
    → ComesOut faults taken mid result now → OnOk result (is_ok taken ≡ true) → Starts bodies faults compacts was result now
started bodies faults compacts was mid now taken result takes finishes out all =
    record { taken = taken; mid = mid; takes = takes; finishes = finishes; comes_out = out; all_taken = all }

-- .. and then the book goes on
pub started_running : {K T : Type 0} (bodies : K → Option (List (List ℕ))) (faults : K → ℕ) (compacts : Bool)
    (was mid last : Book K) (taken : Result (Unit {0}) BookFault) (result : Result T BookFault)
    → Takes bodies faults compacts was taken mid → Finishes bodies faults mid taken result last
    → ComesOut faults taken mid result last → OnOk result (is_ok taken ≡ true)
    → Starts bodies faults compacts was result (record last { standing = Running })
started_running {T = T} bodies faults compacts was mid last taken result takes it out all = record {
  taken = taken;
  mid = mid;
  takes = takes;
  finishes = record {
    ended = it.ended;
    are_ended = it.are_ended;
    entries = it.entries;
    learns = it.learns;
    read = it.read;
    mended = it.mended;
    kept = it.kept;
    count = it.count;
  };
  comes_out = out_running taken result out;
  all_taken = all;
}
  where
    out_running : (taken : Result (Unit {0}) BookFault) (result : Result T BookFault) → ComesOut faults taken mid result last
        → ComesOut faults taken mid result (record last { standing = Running })
    out_running (Ok done) result out = out
    out_running (Err fault) result out = out

-- interruptions bring no upload, and no task and no call
none_come : (tasks : List ℕ) (before : Arrivals) → arrivals_by (map interruption tasks) before ≡ before
none_come [] before = refl
none_come (task ∷ tasks) before = none_come tasks before

pub recorded_since : {K T : Type 0} (bodies : K → Option (List (List ℕ))) (faults : K → ℕ) (entries : List Entry)
    (mid last : Book K) (taken : Result (Unit {0}) BookFault) (result : Result T BookFault)
    → OnOk taken (IsRecorded entries mid.records) → OnOk result (is_ok taken ≡ true)
    → Finishes bodies faults mid taken result last → OnOk result (IsRecorded entries last.records)
recorded_since bodies faults entries mid last taken (Err fault) recorded all it = tt
recorded_since bodies faults entries mid last (Err fault) (Ok value) recorded all it = absurd (false≢true all)
recorded_since bodies faults entries mid last (Ok done) (Ok value) recorded all it =
    all_come mid.records last.records it.ended it.learns
    ∙ ap (λ them. arrivals_by them (arrivals mid.records)) it.are_ended
    ∙ none_come (open_tasks mid.records) (arrivals mid.records)
    ∙ recorded

told : (one other all : List Entry) (mended : Option ℕ) → all ≡ one ++ other → mended ≡ Some (length all - length one)
    → mended ≡ Some (length other)
told one other all mended is count =
    let long : length all ≡ length one + length other = ap length is ∙ length-append one other in
    count ∙ ap Some (grind (arith, long))

-- .. and how that is told
pub told_start : {K S T : Type 0} (bodies : K → Option (List (List ℕ))) (faults : K → ℕ) (was now : Book K)
    (taken : Result S BookFault) (result : Result T BookFault) (read : ℕ) (mended : Option ℕ)
    → InterruptsWhere bodies faults taken was result now → read ≡ length now.journal.entries
    → mended ≡ Some (length now.journal.entries - length was.journal.entries)
    → Finishes bodies faults was taken result (record now { read = read; mended = mended })
told_start bodies faults was now (Ok value) result read mended it count is = record {
  ended = it.ended;
  are_ended = it.are_ended;
  entries = it.adds.entries;
  learns = it.adds.learns;
  read = count;
  mended = told was.journal.entries it.ended now.journal.entries mended it.adds.entries is;
  kept = it.adds.kept;
  count = it.adds.count;
}
told_start {K} bodies faults was now (Err fault) result read mended same count is = record {
  ended = [];
  are_ended = refl;
  entries = entries;
  learns = subst (λ (it : Book K). IsAlike was.records it.records) (sym same) (alike_itself was.records);
  read = count;
  mended = told was.journal.entries [] now.journal.entries mended entries is;
  kept = subst (λ (it : Book K). IsKept bodies was.journal → IsKept bodies it.journal) (sym same) (λ kept. kept);
  count = subst (λ (it : Book K). NeverFalls (faults was.journal.store) (faults it.journal.store)) (sym same) (le_refl _);
}
  where
    entries : now.journal.entries ≡ was.journal.entries ++ []
    entries = ap (λ (it : Book K). it.journal.entries) same ∙ sym (append-nil was.journal.entries)

-- what a note is refused for is what a start is
pub is_note : (entries : List Entry) (fault : BookFault) → IsNoteFault fault → IsStartFault entries fault
is_note entries faults.StoreFault is = is
is_note entries faults.Memory is = is
is_note entries fault is = absurd is
