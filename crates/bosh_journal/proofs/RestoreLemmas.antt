-- How a store is mended, read, and written in the present format.
use Rattle.std.proofs.Common.{◌≡◌, ℕ, Bool, false, Option, Some, None, Result, Ok, Err, List, map, sym, ◌∙◌, subst, inl, inr, arith}
use Rattle.std.specs.Prelude.{◌⊎◌, IfOk, IfSome, IsErrAnd, OnOk}
use Rattle.bosh_base.specs.declared.entry.Entry.{Entry}
use Rattle.bosh_entry.specs.Body.{entry_of, spelling}
use Rattle.bosh_journal.proofs.ReadLemmas.{list_along, mends_along, rises_along}
use Rattle.bosh_journal.proofs.SpelledLemmas.{Hold-spelled}
use Rattle.bosh_journal.specs.Appends.{Puts, PutsList}
use Rattle.bosh_journal.specs.Faults.{of_keeper}
use Rattle.bosh_journal.specs.Kept.{Hold}
use Rattle.bosh_journal.specs.Reads.{FailsByRise, Finds, LeavesIn, LeavesList, Mends, Reads, Says, SaysFormat, SaysIn, with_entries}
use Rattle.bosh_journal.specs.Spelled.{format_of}
use Rattle.bosh_journal.specs.declared.fault.JournalFault.{JournalFault}
use Rattle.bosh_journal.specs.declared.fault.JournalFault.TheVariants.{StoreFault, Damaged, Broken, Memory}
use Rattle.bosh_journal.specs.declared.format.Format.{Format}
use Rattle.bosh_journal.specs.declared.format.Format.TheVariants.{Older, Present}
use Rattle.bosh_ports.specs.Faults.{NeverFalls}
use Rattle.bosh_ports.specs.Keeper.{FailsByCount, TellsMended}
use Rattle.bosh_ports.specs.declared.keeper.KeepFault.{KeepFault}
use Rattle.bosh_ports.specs.declared.keeper.KeepFault.TheVariants as keep

-- what is so of a list that stayed was so before
pub says_after : (told later : Option (List (List ℕ))) (P : List (List ℕ) → Type 0) →
    IfSome told (λ list. later ≡ Some list) → IfSome later P → IfSome told P
says_after None later P list says = tt
says_after (Some bodies) later P list says = subst (λ (it : Option (List (List ℕ))). IfSome it P) list says

-- what bodies say in the format of the list
says_format : (told : Option (List (List ℕ))) (format : Format) (result : Result (List Entry) JournalFault) →
    IfSome told (λ list. format ≡ format_of list) → IfSome told (SaysIn format result) → IfSome told (Says result)
says_format None format result is says = tt
says_format (Some list) format result is says = subst (λ (it : Format). SaysIn it result list) is says

-- a list that stays where there is no answer
leaves_same : (told later : Option (List (List ℕ))) (fault : JournalFault) → IfSome told (λ list. later ≡ Some list) →
    IfSome told (λ list. LeavesList (Err fault) list later)
leaves_same None later fault list = tt
leaves_same (Some bodies) later StoreFault list = inl list
leaves_same (Some bodies) later (Damaged position) list = list
leaves_same (Some bodies) later Broken list = list
leaves_same (Some bodies) later Memory list = list

-- ---- a fault that is handed on

told_as : {K : Type 0} (bodies : K → Option (List (List ℕ))) (faults : K → ℕ) (is_broken : K → Bool) (first now : K)
    (result : Result (Unit {0}) JournalFault) (fault : JournalFault) (entries : List Entry) →
    IsErrAnd result (λ it. it ≡ fault) → Reads bodies faults is_broken first (Err fault) now →
    Reads bodies faults is_broken first (with_entries result entries) now
told_as bodies faults is_broken first now (Ok value) fault entries is reads = absurd is
told_as bodies faults is_broken first now (Err it) fault entries is reads =
    subst (λ (told : JournalFault). Reads bodies faults is_broken first (Err told) now) (sym is) reads

-- the store was not mended
fails_mending : (fault : KeepFault) (before after : ℕ) (was is : Bool) →
    FailsByCount {T = Unit {0}} (Err fault) before after → TellsMended {T = Unit {0}} (Err fault) was is →
    FailsByRise {T = List Entry} (Err (of_keeper fault)) before after
fails_mending keep.Failed before after was is fails mends = fails
fails_mending keep.Broken before after was is fails mends = absurd mends
fails_mending keep.Memory before after was is fails mends = tt

mends_mending : (fault : KeepFault) (was is : Bool) → TellsMended {T = Unit {0}} (Err fault) was is →
    Mends {T = List Entry} (Err (of_keeper fault)) was is
mends_mending keep.Failed was is mends = mends
mends_mending keep.Broken was is mends = absurd mends
mends_mending keep.Memory was is mends = λ whole. mends ∙ whole

no_damage : (told : Option (List (List ℕ))) (fault : KeepFault) → IfSome told (Says (Err (of_keeper fault)))
no_damage None fault = tt
no_damage (Some list) keep.Failed = tt
no_damage (Some list) keep.Broken = tt
no_damage (Some list) keep.Memory = tt

pub Reads-unmended : {K : Type 0} (bodies : K → Option (List (List ℕ))) (faults : K → ℕ) (is_broken : K → Bool)
    (first now : K) (fault : KeepFault) → IfSome (bodies first) (λ list. bodies now ≡ Some list) →
    NeverFalls (faults first) (faults now) → FailsByCount {T = Unit {0}} (Err fault) (faults first) (faults now) →
    TellsMended {T = Unit {0}} (Err fault) (is_broken first) (is_broken now) →
    Reads bodies faults is_broken first (Err (of_keeper fault)) now
Reads-unmended bodies faults is_broken first now fault list count fails mends = record {
  says = no_damage (bodies first) fault;
  list = leaves_same (bodies first) (bodies now) (of_keeper fault) list;
  failed = fails_mending fault (faults first) (faults now) (is_broken first) (is_broken now) fails mends;
  count = count;
  mends = mends_mending fault (is_broken first) (is_broken now) mends;
}

-- the format was not found
no_format : (told : Option (List (List ℕ))) (fault : JournalFault) → IfSome told (SaysFormat (Err fault)) →
    IfSome told (Says (Err fault))
no_format None fault says = tt
no_format (Some list) StoreFault says = tt
no_format (Some list) (Damaged position) says = absurd says
no_format (Some list) Broken says = tt
no_format (Some list) Memory says = tt

fails_as : (fault : JournalFault) (before after : ℕ) → FailsByRise {T = Format} (Err fault) before after →
    FailsByRise {T = List Entry} (Err fault) before after
fails_as StoreFault before after fails = fails
fails_as (Damaged position) before after fails = fails
fails_as Broken before after fails = fails
fails_as Memory before after fails = fails

mends_as : (fault : JournalFault) (was is : Bool) → Mends {T = Format} (Err fault) was is →
    Mends {T = List Entry} (Err fault) was is
mends_as StoreFault was is mends = mends
mends_as (Damaged position) was is mends = mends
mends_as Broken was is mends = mends
mends_as Memory was is mends = mends

pub Reads-no_format : {K : Type 0} (bodies : K → Option (List (List ℕ))) (faults : K → ℕ) (is_broken : K → Bool)
    (first mid now : K) (fault : JournalFault) → IfSome (bodies first) (λ list. bodies mid ≡ Some list) →
    NeverFalls (faults first) (faults mid) → is_broken mid ≡ false →
    Finds bodies faults is_broken SaysFormat mid (Err fault) now → Reads bodies faults is_broken first (Err fault) now
Reads-no_format bodies faults is_broken first mid now fault list count whole finds = record {
  says = no_format (bodies first) fault
      (says_after (bodies first) (bodies mid) (SaysFormat (Err fault)) list finds.says);
  list = leaves_same (bodies first) (bodies now) fault
      (list_along (bodies first) (bodies mid) (bodies now) list finds.list);
  failed = rises_along {T = List Entry} (Err fault) (faults first) (faults mid) (faults now) count
      (fails_as fault (faults mid) (faults now) finds.failed);
  count = omega (arith, count, finds.count);
  mends = mends_along {T = List Entry} (Err fault) (is_broken first) (is_broken mid) (is_broken now) whole
      (mends_as fault (is_broken mid) (is_broken now) finds.mends);
}

-- ---- a store whose format was found

-- the store is whole and its list is the one that was there first, in this format
pub record IsFound {K : Type 0} (bodies : K → Option (List (List ℕ))) (faults : K → ℕ) (is_broken : K → Bool)
    (first now : K) (format : Format) : Type 0 where
  pub list : IfSome (bodies first) (λ list. bodies now ≡ Some list)
  pub form : IfSome (bodies first) (λ list. format ≡ format_of list)
  pub count : NeverFalls (faults first) (faults now)
  pub whole : is_broken now ≡ false

pub IsFound-read : {K : Type 0} (bodies : K → Option (List (List ℕ))) (faults : K → ℕ) (is_broken : K → Bool)
    (first mid now : K) (format : Format) → IfSome (bodies first) (λ list. bodies mid ≡ Some list) →
    NeverFalls (faults first) (faults mid) → Finds bodies faults is_broken SaysFormat mid (Ok format) now →
    IsFound bodies faults is_broken first now format
IsFound-read bodies faults is_broken first mid now format list count finds = record {
  list = list_along (bodies first) (bodies mid) (bodies now) list finds.list;
  form = says_after (bodies first) (bodies mid) (SaysFormat (Ok format)) list finds.says;
  count = omega (arith, count, finds.count);
  whole = finds.mends;
}

-- its bodies were not read
pub Reads-refused : {K : Type 0} (bodies : K → Option (List (List ℕ))) (faults : K → ℕ) (is_broken : K → Bool)
    (first mid now : K) (format : Format) (fault : JournalFault) → IsFound bodies faults is_broken first mid format →
    Finds bodies faults is_broken (SaysIn format) mid (Err fault) now → Reads bodies faults is_broken first (Err fault) now
Reads-refused bodies faults is_broken first mid now format fault found finds = record {
  says = says_format (bodies first) format (Err fault) found.form
      (says_after (bodies first) (bodies mid) (SaysIn format (Err fault)) found.list finds.says);
  list = leaves_same (bodies first) (bodies now) fault
      (list_along (bodies first) (bodies mid) (bodies now) found.list finds.list);
  failed = rises_along {T = List Entry} (Err fault) (faults first) (faults mid) (faults now) found.count finds.failed;
  count = omega (arith, found.count, finds.count);
  mends = mends_along {T = List Entry} (Err fault) (is_broken first) (is_broken mid) (is_broken now) found.whole
      finds.mends;
}

-- they are in the present format
leaves_present : (told later : Option (List (List ℕ))) (entries : List Entry) →
    IfSome told (λ list. Present ≡ format_of list) → IfSome told (λ list. later ≡ Some list) →
    IfSome told (λ list. LeavesList (Ok entries) list later)
leaves_present None later entries is list = tt
leaves_present (Some bodies) later entries is list =
    subst (λ (it : Format). LeavesIn it (Ok entries) bodies later) is list

pub Reads-present : {K : Type 0} (bodies : K → Option (List (List ℕ))) (faults : K → ℕ) (is_broken : K → Bool)
    (first mid now : K) (entries : List Entry) → IsFound bodies faults is_broken first mid Present →
    Finds bodies faults is_broken (SaysIn Present) mid (Ok entries) now →
    Reads bodies faults is_broken first (Ok entries) now
Reads-present bodies faults is_broken first mid now entries found finds = record {
  says = says_format (bodies first) Present (Ok entries) found.form
      (says_after (bodies first) (bodies mid) (SaysIn Present (Ok entries)) found.list finds.says);
  list = leaves_present (bodies first) (bodies now) entries found.form
      (list_along (bodies first) (bodies mid) (bodies now) found.list finds.list);
  failed = tt;
  count = omega (arith, found.count, finds.count);
  mends = finds.mends;
}

holds_present : (told later : Option (List (List ℕ))) (entries : List Entry) →
    IfSome told (λ list. Present ≡ format_of list) → IfSome told (λ list. later ≡ Some list) →
    IfSome told (Says (Ok entries)) → IfSome told (λ _. IfSome later (λ list. Hold list entries))
holds_present None later entries is list says = tt
holds_present (Some bodies) later entries is list says =
    subst (λ (it : Option (List (List ℕ))). IfSome it (λ list. Hold list entries)) (sym list) (sym is, says)

pub Holds-present : {K : Type 0} (bodies : K → Option (List (List ℕ))) (faults : K → ℕ) (is_broken : K → Bool)
    (first mid now : K) (entries : List Entry) → IsFound bodies faults is_broken first mid Present →
    Finds bodies faults is_broken (SaysIn Present) mid (Ok entries) now →
    IfSome (bodies first) (λ _. IfSome (bodies now) (λ list. Hold list entries))
Holds-present bodies faults is_broken first mid now entries found finds =
    holds_present (bodies first) (bodies now) entries found.form
    (list_along (bodies first) (bodies mid) (bodies now) found.list finds.list)
    (Reads-present bodies faults is_broken first mid now entries found finds).says

-- ---- they are in the older one

puts_after : {K : Type 0} (bodies : K → Option (List (List ℕ))) (faults : K → ℕ) (is_broken : K → Bool)
    (told : Option (List (List ℕ))) (mid now : K) (result : Result (Unit {0}) JournalFault) (entries : List Entry) →
    IfSome told (λ list. bodies mid ≡ Some list) → IfSome told (λ list. Older ≡ format_of list) →
    IfSome told (SaysIn Older (Ok entries)) →
    PutsList bodies faults is_broken result mid (λ _. map spelling entries) now →
    IfSome told (λ list. LeavesList (with_entries result entries) list (bodies now))
puts_after bodies faults is_broken None mid now result entries list is says puts = tt
puts_after bodies faults is_broken (Some first) mid now (Ok value) entries list is says puts =
    let left : bodies now ≡ Some (map spelling entries) =
    subst (λ (it : Option (List (List ℕ))). IfSome it (λ list. bodies now ≡ Some (map spelling entries))) list puts.1 in
    subst (λ (it : Format). LeavesIn it (Ok entries) first (bodies now)) is left
puts_after bodies faults is_broken (Some first) mid now (Err StoreFault) entries list is says puts =
    let left : (bodies now ≡ Some first) ⊎ (bodies now ≡ Some (map spelling entries)) =
    subst (λ (it : Option (List (List ℕ))).
    IfSome it (λ list. (bodies now ≡ Some list) ⊎ (bodies now ≡ Some (map spelling entries)))) list puts.2 in
    subst (λ (it : Format). LeavesIn it (Err StoreFault) first (bodies now)) is (elim left [
      | inl old ↦ inl old
      | inr new ↦ inr (entries, says, new)
    ])
puts_after bodies faults is_broken (Some first) mid now (Err (Damaged position)) entries list is says puts = absurd puts
puts_after bodies faults is_broken (Some first) mid now (Err Broken) entries list is says puts = absurd puts
puts_after bodies faults is_broken (Some first) mid now (Err Memory) entries list is says puts =
    subst (λ (it : Option (List (List ℕ))). IfSome it (λ list. bodies now ≡ Some list)) list puts.1

puts_says : {K : Type 0} (bodies : K → Option (List (List ℕ))) (faults : K → ℕ) (is_broken : K → Bool)
    (told : Option (List (List ℕ))) (mid now : K) (result : Result (Unit {0}) JournalFault) (entries : List Entry) →
    IfSome told (Says (Ok entries)) → PutsList bodies faults is_broken result mid (λ _. map spelling entries) now →
    IfSome told (Says (with_entries result entries))
puts_says bodies faults is_broken None mid now result entries says puts = tt
puts_says bodies faults is_broken (Some first) mid now (Ok value) entries says puts = says
puts_says bodies faults is_broken (Some first) mid now (Err StoreFault) entries says puts = tt
puts_says bodies faults is_broken (Some first) mid now (Err (Damaged position)) entries says puts = absurd puts
puts_says bodies faults is_broken (Some first) mid now (Err Broken) entries says puts = absurd puts
puts_says bodies faults is_broken (Some first) mid now (Err Memory) entries says puts = tt

puts_fails : {K : Type 0} (bodies : K → Option (List (List ℕ))) (faults : K → ℕ) (is_broken : K → Bool) (mid now : K)
    (result : Result (Unit {0}) JournalFault) (entries : List Entry) →
    PutsList bodies faults is_broken result mid (λ _. map spelling entries) now →
    FailsByRise (with_entries result entries) (faults mid) (faults now)
puts_fails bodies faults is_broken mid now (Ok value) entries puts = tt
puts_fails bodies faults is_broken mid now (Err StoreFault) entries puts = puts.1
puts_fails bodies faults is_broken mid now (Err (Damaged position)) entries puts = absurd puts
puts_fails bodies faults is_broken mid now (Err Broken) entries puts = absurd puts
puts_fails bodies faults is_broken mid now (Err Memory) entries puts = tt

puts_mends : {K : Type 0} (bodies : K → Option (List (List ℕ))) (faults : K → ℕ) (is_broken : K → Bool) (mid now : K)
    (result : Result (Unit {0}) JournalFault) (entries : List Entry) (was : Bool) →
    PutsList bodies faults is_broken result mid (λ _. map spelling entries) now →
    Mends (with_entries result entries) was (is_broken now)
puts_mends bodies faults is_broken mid now (Ok value) entries was puts = puts.0
puts_mends bodies faults is_broken mid now (Err StoreFault) entries was puts = puts.0
puts_mends bodies faults is_broken mid now (Err (Damaged position)) entries was puts = absurd puts
puts_mends bodies faults is_broken mid now (Err Broken) entries was puts = absurd puts
puts_mends bodies faults is_broken mid now (Err Memory) entries was puts = λ _. puts.0

pub Reads-older : {K : Type 0} (bodies : K → Option (List (List ℕ))) (faults : K → ℕ) (is_broken : K → Bool)
    (first mid read now : K) (result : Result (Unit {0}) JournalFault) (entries : List Entry) →
    IsFound bodies faults is_broken first mid Older →
    Finds bodies faults is_broken (SaysIn Older) mid (Ok entries) read →
    Puts bodies faults is_broken result read (λ _. map spelling entries) now →
    Reads bodies faults is_broken first (with_entries result entries) now
Reads-older bodies faults is_broken first mid read now result entries found finds puts =
    let stays = list_along (bodies first) (bodies mid) (bodies read) found.list finds.list in
    let says = says_after (bodies first) (bodies mid) (SaysIn Older (Ok entries)) found.list finds.says in
    let count : NeverFalls (faults first) (faults read) = omega (arith, found.count, finds.count) in
    record {
      says = puts_says bodies faults is_broken (bodies first) read now result entries
          (says_format (bodies first) Older (Ok entries) found.form says) puts.list;
      list = puts_after bodies faults is_broken (bodies first) read now result entries stays found.form says puts.list;
      failed = rises_along (with_entries result entries) (faults first) (faults read) (faults now) count
          (puts_fails bodies faults is_broken read now result entries puts.list);
      count = omega (arith, count, puts.count);
      mends = puts_mends bodies faults is_broken read now result entries (is_broken first) puts.list;
    }

holds_older : (told read now : Option (List (List ℕ))) (entries : List Entry) →
    IfSome told (λ list. read ≡ Some list) → IfSome told (SaysIn Older (Ok entries)) →
    IfSome read (λ list. now ≡ Some (map spelling entries)) →
    map entry_of (map spelling entries) ≡ map Some entries →
    IfSome told (λ _. IfSome now (λ list. Hold list entries))
holds_older None read now entries list says puts again = tt
holds_older (Some first) read now entries list says puts again =
    let left : now ≡ Some (map spelling entries) =
    subst (λ (it : Option (List (List ℕ))). IfSome it (λ list. now ≡ Some (map spelling entries))) list puts in
    subst (λ (it : Option (List (List ℕ))). IfSome it (λ list. Hold list entries)) (sym left)
    (Hold-spelled Older first entries says again)

pub Holds-older : {K : Type 0} (bodies : K → Option (List (List ℕ))) (faults : K → ℕ) (is_broken : K → Bool)
    (first mid read now : K) (entries : List Entry) → IsFound bodies faults is_broken first mid Older →
    Finds bodies faults is_broken (SaysIn Older) mid (Ok entries) read →
    IfSome (bodies read) (λ list. bodies now ≡ Some (map spelling entries)) →
    map entry_of (map spelling entries) ≡ map Some entries →
    IfSome (bodies first) (λ _. IfSome (bodies now) (λ list. Hold list entries))
Holds-older bodies faults is_broken first mid read now entries found finds puts again =
    holds_older (bodies first) (bodies read) (bodies now) entries
    (list_along (bodies first) (bodies mid) (bodies read) found.list finds.list)
    (says_after (bodies first) (bodies mid) (SaysIn Older (Ok entries)) found.list finds.says) puts again

pub Holds-written : {K : Type 0} (bodies : K → Option (List (List ℕ))) (faults : K → ℕ) (is_broken : K → Bool)
    (first mid read now : K) (format : Format) (result : Result (Unit {0}) JournalFault) (entries given : List Entry) →
    format ≡ Older → given ≡ entries → IsFound bodies faults is_broken first mid format →
    Finds bodies faults is_broken (SaysIn format) mid (Ok entries) read →
    Puts bodies faults is_broken result read (λ _. map spelling given) now →
    OnOk result (map entry_of (map spelling given) ≡ map Some given) →
    IfOk result (λ _. IfSome (bodies first) (λ _. IfSome (bodies now) (λ list. Hold list entries)))
Holds-written bodies faults is_broken first mid read now format (Err fault) entries given older same found finds puts again = tt
Holds-written bodies faults is_broken first mid read now format (Ok value) entries given older same found finds puts again =
    Holds-older bodies faults is_broken first mid read now entries
    (subst (IsFound bodies faults is_broken first mid) older found)
    (subst (λ (it : Format). Finds bodies faults is_broken (SaysIn it) mid (Ok entries) read) older finds)
    (subst (λ (xs : List Entry). IfSome (bodies read) (λ list. bodies now ≡ Some (map spelling xs))) same puts.list.1)
    (subst (λ (xs : List Entry). map entry_of (map spelling xs) ≡ map Some xs) same again)
