-- One call after another.
use Rattle.std.proofs.Common.{◌≡◌, ℕ, false, Option, Some, None, Result, Ok, Err, List, [], ◌∷◌}
use Rattle.std.proofs.Common.{◌++◌, refl, sym, ◌∙◌, ap, subst, append_assoc, append-nil, ◌+◌, ◌-◌}
use Rattle.std.proofs.Math.Nat.{le_refl, le_trans}
use Rattle.std.proofs.lemmas.List.Elements.{All-append, All-cons, All-nil}
use Rattle.bosh_asks.specs.declared.fault.BookFault.{BookFault}
use Rattle.bosh_asks.specs.declared.fault.BookFault.TheVariants.{Full}
use Rattle.bosh_base.specs.declared.entry.Begin as begin
use Rattle.bosh_base.specs.declared.entry.Entry.{Entry}
use Rattle.bosh_base.specs.declared.entry.Entry.TheVariants.{Begin}
use Rattle.bosh_book.specs.Adds.{Adds, arrivals_by}
use Rattle.bosh_fold.specs.ArrivalsWith.{arrivals_with}
use Rattle.bosh_fold.proofs.LearnsLemmas.{alike_itself, all_of_one, learned_comes, learned_on, one_learned}
use Rattle.bosh_fold.specs.Learned.{learned}
use Rattle.bosh_fold.specs.Learns.{IsAlike, Learns, LearnsAll}
use Rattle.bosh_fold.specs.Planned.{IsPlanned, roomy_for}
use Rattle.bosh_fold.specs.declared.change.Change.{Change}
use Rattle.bosh_records.specs.Ordered.{AreOrdered}
use Rattle.bosh_records.specs.Recorded.{recorded}
use Rattle.bosh_records.specs.declared.records.Records.{Records}
use Rattle.bosh_records.specs.Arrivals.{Arrivals, arrivals}
use Rattle.bosh_book.specs.declared.book.Book.{Book}
use Rattle.bosh_book.specs.Appends.{Appends, unless_refused}
use Rattle.bosh_book.specs.Current.{IsFor, IsOpenCall, dep_of}
use Rattle.bosh_book.proofs.GrantLemmas.{granted_open}
use Rattle.bosh_book.specs.Made.{NotesMade}
use Rattle.bosh_book.specs.Uploads.{if_new}
use Rattle.bosh_book.specs.declared.uploads.Added.{Added}
use Rattle.bosh_book.specs.declared.uploads.Added.TheVariants.{New}
use Rattle.std.specs.Prelude.{IfOk}
use Rattle.bosh_book.specs.Turns.{GivesWhere, IsOpenWhere, IsUpdate, Notes}
use Rattle.bosh_book.specs.declared.claim.Claim.{Claim}
use Rattle.bosh_book.specs.declared.claim.Claim.TheVariants.{Work}
use Rattle.bosh_book.specs.declared.granted.Granted.{Granted}

pub nothing_added : {K : Type 0} (bodies : K → Option (List (List ℕ))) (faults : K → ℕ) (book : Book K) →
    Adds bodies faults book [] book
nothing_added bodies faults book = record {
  entries = sym (append-nil book.journal.entries);
  learns = alike_itself book.records;
  recorded = refl;
  kept = λ kept. kept;
  count = le_refl (faults book.journal.store);
  standing = refl;
  read = refl;
  mended = refl;
}

unchanged : {K : Type 0} (bodies : K → Option (List (List ℕ))) (faults : K → ℕ) (was now : Book K) → now ≡ was →
    Adds bodies faults was [] now
unchanged bodies faults was now same =
    subst (λ (it : Book _). Adds bodies faults was [] it) (sym same) (nothing_added bodies faults was)

-- an entry that was made is noted, or nothing is
pub made_added : {K T V : Type 0} (bodies : K → Option (List (List ℕ))) (faults : K → ℕ) (entry_of : T → Entry)
    (made : Result (T × V) BookFault) (was now : Book K) (result : Result V BookFault) (entry : Entry) →
    IfOk made (λ it. entry_of it.0 ≡ entry) → NotesMade bodies faults entry_of made was result now →
    Adds bodies faults was (unless_refused result entry) now
made_added bodies faults entry_of (Ok it) was now (Ok value) entry is noted =
    subst (λ (one : Entry). Adds bodies faults was (one ∷ []) now) is noted.2
made_added bodies faults entry_of (Ok it) was now (Err fault) entry is noted = noted.2
made_added {V = V} bodies faults entry_of (Err fault) was now result entry is noted =
    subst (λ (it : Result V BookFault). Adds bodies faults was (unless_refused it entry) now) (sym noted.0)
    (unchanged bodies faults was now noted.1)

-- the same of an upload
pub upload_added : {K T : Type 0} (bodies : K → Option (List (List ℕ))) (faults : K → ℕ) (entry_of : T → Entry)
    (made : Result (T × Added) BookFault) (was now : Book K) (result : Result Added BookFault) (entry : Entry) →
    IfOk made (λ it. (entry_of it.0 ≡ entry) × (it.1 ≡ New)) → NotesMade bodies faults entry_of made was result now →
    Adds bodies faults was (if_new result entry) now
upload_added bodies faults entry_of (Ok it) was now (Ok value) entry is noted =
    subst (λ (told : Added). Adds bodies faults was (if_new (Ok told) entry) now) (sym (noted.0 ∙ is.1))
    (subst (λ (one : Entry). Adds bodies faults was (one ∷ []) now) is.0 noted.2)
upload_added bodies faults entry_of (Ok it) was now (Err fault) entry is noted = noted.2
upload_added bodies faults entry_of (Err fault) was now result entry is noted =
    subst (λ (it : Result Added BookFault). Adds bodies faults was (if_new it entry) now) (sym noted.0)
    (unchanged bodies faults was now noted.1)

told_apart : {A B : Type 0} (made : Result (A × B) BookFault) (one : A) (other : B) → IfOk made (λ it. it ≡ (one, other)) →
    IfOk made (λ it. (it.0 ≡ one) × (it.1 ≡ other))
told_apart (Ok it) one other is = (ap (λ both. both.0) is, ap (λ both. both.1) is)
told_apart (Err fault) one other is = tt

pub stemcell_added : {K : Type 0} (bodies : K → Option (List (List ℕ))) (faults : K → ℕ)
    (made : Result (Entry × Added) BookFault) (was now : Book K) (result : Result Added BookFault) (entry : Entry) →
    IfOk made (λ it. it ≡ (entry, New)) → NotesMade {T = Entry} bodies faults (λ it. it) made was result now →
    Adds bodies faults was (if_new result entry) now
stemcell_added bodies faults made was now result entry is noted =
    upload_added {T = Entry} bodies faults (λ it. it) made was now result entry (told_apart made entry New is) noted

-- what comes by entries that are taken in
pub all_come : (was now : Records) (entries : List Entry) → LearnsAll was entries now →
    arrivals now ≡ arrivals_by entries (arrivals was)
all_come was now [] alike = ap (λ all. all.came) alike.same
all_come was now (entry ∷ entries) it =
    all_come it.1 now entries it.4
    ∙ ap (arrivals_by entries) (learned_comes it.0 it.1 entry it.3 ∙ ap (λ all. arrivals_with entry all.came) it.2.same)

pub came_after : (one other : List Entry) (before : Arrivals) → arrivals_by (one ++ other) before ≡ arrivals_by other (arrivals_by one before)
came_after [] other before = refl
came_after (entry ∷ entries) other before = came_after entries other (arrivals_with entry before)

pub more_added : {K : Type 0} (bodies : K → Option (List (List ℕ))) (faults : K → ℕ) (first mid last : Book K)
    (one other : List Entry) → Adds bodies faults first one mid → Adds bodies faults mid other last →
    Adds bodies faults first (one ++ other) last
more_added bodies faults first mid last one other was now = record {
  entries = now.entries ∙ ap (λ all. all ++ other) was.entries ∙ append_assoc first.journal.entries one other;
  learns = learned_on first.records mid.records last.records one other was.learns now.learns;
  recorded =
      now.recorded ∙ ap (arrivals_by other) was.recorded ∙ sym (came_after one other (arrivals first.records));
  kept = λ kept. now.kept (was.kept kept);
  count = le_trans was.count now.count;
  standing = now.standing ∙ was.standing;
  read = now.read ∙ was.read;
  mended = now.mended ∙ was.mended;
}

-- an entry that was planned and stored is learned
pub note_learned : (was now : Records) (entry : Entry) (roomy : Records) (change kept : Change) → IsPlanned was roomy entry change →
    recorded roomy ≡ roomy_for was entry (recorded was) → IsAlike was roomy → kept ≡ change →
    recorded now ≡ learned entry kept (recorded roomy) → AreOrdered (recorded now) → Learns was entry now
note_learned was now entry roomy change kept planned room alike same is ordered =
    one_learned was roomy now entry change planned room alike (is ∙ ap (λ it. learned entry it (recorded roomy)) same)
    ordered

pub note_added : {K : Type 0} (bodies : K → Option (List (List ℕ))) (faults : K → ℕ) (was now : Book K) (entry : Entry)
    (kept : Change) → Learns was.records entry now.records →
    Appends {T = Change} bodies faults (Ok kept) was.journal entry now.journal →
    now.standing ≡ was.standing → now.read ≡ was.read → now.mended ≡ was.mended → Adds bodies faults was (entry ∷ []) now
note_added bodies faults was now entry kept learns appends standing read mended = record {
  entries = appends.entries;
  learns = all_of_one was.records now.records entry learns;
  recorded = learned_comes was.records now.records entry learns;
  kept = appends.kept;
  count = appends.count;
  standing = standing;
  read = read;
  mended = mended;
}

-- where nothing is noted, no call is given
none_given : (records : Records) (result : Result (Option Claim) BookFault) → GivesWhere result [] → IsOpenWhere result records
none_given records (Ok (Some (Work permit))) gives = absurd (let is = gives.2 in cc)
none_given records (Ok (Some claim)) gives = tt
none_given records (Ok None) gives = tt
none_given records (Err fault) gives = tt

pub nothing_noted : {K : Type 0} (bodies : K → Option (List (List ℕ))) (faults : K → ℕ) (book : Book K)
    (result : Result (Option Claim) BookFault) → GivesWhere result [] → Notes bodies faults book result book
nothing_noted bodies faults book result gives = record {
  updates = [];
  are_updates = All-nil IsUpdate;
  last = [];
  gives = gives;
  is_open = none_given book.records result gives;
  adds = nothing_added bodies faults book;
}

-- an update is noted, and a claim goes on
pub update_noted : {K : Type 0} (bodies : K → Option (List (List ℕ))) (faults : K → ℕ) (was now : Book K)
    (entry : Entry) → IsUpdate entry → Adds bodies faults was (entry ∷ []) now → Notes bodies faults was (Ok None) now
update_noted bodies faults was now entry is adds = record {
  updates = entry ∷ [];
  are_updates = All-cons IsUpdate entry [] is (All-nil IsUpdate);
  last = [];
  gives = refl;
  is_open = tt;
  adds = adds;
}

-- what a refusal leaves
pub refused_noted : {K : Type 0} (bodies : K → Option (List (List ℕ))) (faults : K → ℕ) (was now : Book K)
    (fault : BookFault) → Adds bodies faults was [] now → Notes bodies faults was (Err fault) now
refused_noted bodies faults was now fault adds = record {
  updates = [];
  are_updates = All-nil IsUpdate;
  last = [];
  gives = refl;
  is_open = tt;
  adds = adds;
}

-- a call is begun and permitted
pub call_noted : {K : Type 0} (bodies : K → Option (List (List ℕ))) (faults : K → ℕ) (was now : Book K)
    (begun : begin.Begin) (entry : Entry) (granted kept permit : Granted) → entry ≡ Begin begun → IsFor begun granted →
    kept ≡ granted → permit ≡ kept → dep_of was.records begun.owner ≡ Some granted.dep →
    Learns was.records entry now.records → Adds bodies faults was (entry ∷ []) now →
    Notes bodies faults was (Ok (Some (Work permit))) now
call_noted bodies faults was now begun entry granted kept permit begins for value same of_dep learns adds = record {
  updates = [];
  are_updates = All-nil IsUpdate;
  last = Begin begun ∷ [];
  gives = (begun, subst (IsFor begun) (sym (same ∙ value)) for, refl);
  is_open = subst (IsOpenCall now.records) (sym (same ∙ value))
      (granted_open was.records now.records begun granted for of_dep
      (subst (λ (it : Entry). Learns was.records it now.records) begins learns));
  adds = subst (λ (it : Entry). Adds bodies faults was (it ∷ []) now) begins adds;
}

-- a claim that went on has no room now
pub full_noted : {K : Type 0} (bodies : K → Option (List (List ℕ))) (faults : K → ℕ) (was now : Book K) →
    Notes bodies faults was (Ok None) now → Notes bodies faults was (Err Full) now
full_noted bodies faults was now notes = record {
  updates = notes.updates;
  are_updates = notes.are_updates;
  last = notes.last;
  gives = notes.gives;
  is_open = tt;
  adds = notes.adds;
}

-- one turn after another
pub more_noted : {K : Type 0} (bodies : K → Option (List (List ℕ))) (faults : K → ℕ) (first mid last : Book K)
    (result : Result (Option Claim) BookFault) → Notes bodies faults first (Ok None) mid →
    Notes bodies faults mid result last → Notes bodies faults first result last
more_noted bodies faults first mid last result was now =
    let none : was.updates ++ was.last ≡ was.updates =
    ap (λ rest. was.updates ++ rest) was.gives ∙ append-nil was.updates in
    let before : Adds bodies faults first was.updates mid =
    subst (λ (added : List Entry). Adds bodies faults first added mid) none was.adds in
    record {
      updates = was.updates ++ now.updates;
      are_updates = All-append IsUpdate was.updates now.updates was.are_updates now.are_updates;
      last = now.last;
      gives = now.gives;
      is_open = now.is_open;
      adds = subst (λ (added : List Entry). Adds bodies faults first added last)
          (sym (append_assoc was.updates now.updates now.last))
          (more_added bodies faults first mid last was.updates (now.updates ++ now.last) before now.adds);
    }

-- what was noted so far, in a book that goes on
pub record AreNoted {K : Type 0}
    (bodies : K → Option (List (List ℕ))) (faults : K → ℕ) (first now : Book K) : Type 0 where
  pub notes : Notes bodies faults first (Ok None) now
  pub first_whole : first.journal.is_broken ≡ false
  pub whole : now.journal.is_broken ≡ false

pub noted_on : {K : Type 0} (bodies : K → Option (List (List ℕ))) (faults : K → ℕ) (first mid last : Book K) →
    AreNoted bodies faults first mid → Notes bodies faults mid (Ok None) last →
    last.journal.is_broken ≡ mid.journal.is_broken → AreNoted bodies faults first last
noted_on bodies faults first mid last noted notes whole = record {
  notes = more_noted bodies faults first mid last (Ok None) noted.notes notes;
  first_whole = noted.first_whole;
  whole = whole ∙ noted.whole;
}

pub noted_last : {K : Type 0} (bodies : K → Option (List (List ℕ))) (faults : K → ℕ) (first mid last : Book K)
    (result : Result (Option Claim) BookFault) → AreNoted bodies faults first mid → Notes bodies faults mid result last →
    Notes bodies faults first result last
noted_last bodies faults first mid last result noted notes =
    more_noted bodies faults first mid last result noted.notes notes
