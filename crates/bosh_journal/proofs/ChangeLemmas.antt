-- A load finds the entries of a journal whose list was changed.
use Rattle.std.proofs.Common.{◌≡◌, ℕ, Bool, true, false, Option, Some, None, Result, Ok, Err, List, [], ◌∷◌, ◌++◌, refl, sym, ◌∙◌, ap, subst, inl, inr}
use Rattle.std.specs.Prelude.{◌⊎◌, IfSome, OnErr, OnOk, option_map}
use Rattle.bosh_base.specs.declared.entry.Entry.{Entry}
use Rattle.bosh_entry.specs.Body.{entry_of, spelling}
use Rattle.bosh_journal.proofs.SpelledLemmas.{Hold-more, Hold-single, snapshot-directors}
use Rattle.bosh_journal.specs.Appends.{added, alone, Changes, is_store_fault, Pends, Puts, PutsList, Turns}
use Rattle.bosh_journal.specs.Director.{is_directors, is_snapshot}
use Rattle.bosh_journal.specs.JournalView.{JournalView, Pending}
use Rattle.bosh_journal.specs.Kept.{Hold, TellAll, with_pending}
use Rattle.bosh_journal.specs.declared.fault.JournalFault.{JournalFault}
use Rattle.bosh_journal.specs.declared.fault.JournalFault.TheVariants.{StoreFault, Damaged, Broken, Memory}

-- what a change makes of a list that holds the entries
abbrev pub Makes : List Entry → Pending → (List (List ℕ) → List (List ℕ)) → Type 0
Makes before given change = (list : List (List ℕ)) → Hold list before → Hold (change list) (with_pending given before)

-- the answer says what the list is then
kept_list : {K : Type 0} (bodies : K → Option (List (List ℕ))) (faults : K → ℕ) (is_broken : K → Bool)
    (result : Result (Unit {0}) JournalFault) (told : Option (List (List ℕ))) (store later : K)
    (before after : List Entry) (given : Pending) (pending : Option Pending) (change : List (List ℕ) → List (List ℕ)) →
    Makes before given change → bodies store ≡ told → OnOk result (after ≡ with_pending given before) →
    OnErr result (after ≡ before) → Pends result given pending →
    PutsList bodies faults is_broken result store change later → TellAll told false pending before →
    TellAll (bodies later) (is_store_fault result) pending after
kept_list bodies faults is_broken result None store later before after given pending change makes told ok err pends puts kept =
    absurd kept
kept_list bodies faults is_broken (Ok value) (Some list) store later before after given pending change makes told ok err pends puts kept =
    let left : bodies later ≡ Some (change list) =
    subst (λ (it : Option (List (List ℕ))). IfSome it (λ list. bodies later ≡ Some (change list))) told puts.1 in
    subst (λ (it : Option (List (List ℕ))). TellAll it false pending after) (sym left)
    (subst (Hold (change list)) (sym ok) (makes list kept))
kept_list bodies faults is_broken (Err StoreFault) (Some list) store later before after given pending change makes told ok err pends puts kept =
    let left : (bodies later ≡ Some list) ⊎ (bodies later ≡ Some (change list)) =
    subst (λ (it : Option (List (List ℕ))).
    IfSome it (λ list. (bodies later ≡ Some list) ⊎ (bodies later ≡ Some (change list)))) told puts.2 in
    subst (λ (it : List Entry). TellAll (bodies later) true pending it) (sym err)
    (subst (λ (it : Option Pending). TellAll (bodies later) true it before) (sym pends) (elim left [
      | inl old ↦ subst (λ (it : Option (List (List ℕ))). TellAll it true (Some given) before) (sym old) (inl kept)
      | inr new ↦ subst (λ (it : Option (List (List ℕ))). TellAll it true (Some given) before) (sym new)
          (inr (makes list kept))
    ]))
kept_list bodies faults is_broken (Err (Damaged position)) (Some list) store later before after given pending change makes told ok err pends puts kept =
    absurd puts
kept_list bodies faults is_broken (Err Broken) (Some list) store later before after given pending change makes told ok err pends puts kept =
    absurd puts
kept_list bodies faults is_broken (Err Memory) (Some list) store later before after given pending change makes told ok err pends puts kept =
    let left : bodies later ≡ Some list =
    subst (λ (it : Option (List (List ℕ))). IfSome it (λ list. bodies later ≡ Some list)) told puts.1 in
    subst (λ (it : Option (List (List ℕ))). TellAll it false pending after) (sym left)
    (subst (Hold list) (sym err) kept)

turns : {K : Type 0} (bodies : K → Option (List (List ℕ))) (faults : K → ℕ) (is_broken : K → Bool)
    (result : Result (Unit {0}) JournalFault) (store later : K) (before after : List Entry) (given : Pending)
    (last pending : Option Pending) (change : List (List ℕ) → List (List ℕ)) →
    OnOk result (after ≡ with_pending given before) → OnErr result (after ≡ before) → Pends result given pending →
    PutsList bodies faults is_broken result store change later →
    Turns {K = K} result (record { store = store; entries = before; is_broken = false; pending = last }) given
    (record { store = later; entries = after; is_broken = is_store_fault result; pending = pending })
turns bodies faults is_broken (Ok value) store later before after given last pending change ok err pends puts = (refl, refl, ok)
turns bodies faults is_broken (Err StoreFault) store later before after given last pending change ok err pends puts =
    (refl, refl, err, pends)
turns bodies faults is_broken (Err (Damaged position)) store later before after given last pending change ok err pends puts = absurd puts
turns bodies faults is_broken (Err Broken) store later before after given last pending change ok err pends puts = absurd puts
turns bodies faults is_broken (Err Memory) store later before after given last pending change ok err pends puts = (refl, refl, err)

-- what is pending is of no matter while it is whole
whole_tells : (told : Option (List (List ℕ))) (last pending : Option Pending) (entries : List Entry) →
    TellAll told false last entries → TellAll told false pending entries
whole_tells None last pending entries kept = absurd kept
whole_tells (Some list) last pending entries kept = kept

changes : {K : Type 0} (bodies : K → Option (List (List ℕ))) (faults : K → ℕ) (is_broken : K → Bool)
    (result : Result (Unit {0}) JournalFault) (was : JournalView K) (store later : K) (flag is : Bool)
    (before after : List Entry) (given : Pending) (last pending : Option Pending)
    (change : List (List ℕ) → List (List ℕ)) →
    ◌≡◌ {A = JournalView K} (record { store = store; entries = before; is_broken = flag; pending = last }) was →
    flag ≡ false → is ≡ is_store_fault result → Makes before given change →
    OnOk result (after ≡ with_pending given before) → OnErr result (after ≡ before) → Pends result given pending →
    Puts bodies faults is_broken result store change later →
    Changes {K = K} bodies faults is_broken result was given change
    (record { store = later; entries = after; is_broken = is; pending = pending })
changes {K} bodies faults is_broken result was store later flag is before after given last pending change seen whole told makes ok err pends puts =
    let first : JournalView K = record { store = store; entries = before; is_broken = false; pending = last } in
    let same : first ≡ was =
    subst (λ (b : Bool). ◌≡◌ {A = JournalView K} (record { store = store; entries = before; is_broken = b; pending = last }) was) whole seen in
    subst (λ (it : JournalView K). Changes bodies faults is_broken result it given change
    (record { store = later; entries = after; is_broken = is; pending = pending })) same
    (subst (λ (b : Bool). Changes bodies faults is_broken result first given change
    (record { store = later; entries = after; is_broken = b; pending = pending })) (sym told) (record {
      turns = turns bodies faults is_broken result store later before after given last pending change ok err pends puts.list;
      store = λ _. puts;
      kept = λ kept. kept_list bodies faults is_broken result (bodies store) store later before after given pending change
          makes refl ok err pends puts.list (whole_tells (bodies store) last pending before kept);
    }))

-- what is pending is the item, told with where it stands
told_of : {T : Type 0} (result : Result T JournalFault) (entry : Entry) (pending : Option Entry) (is_alone : Bool) →
    Pends result entry pending →
    Pends {X = Pending} result (record { entry = entry; is_alone = is_alone })
    (option_map (λ (it : Entry). record { entry = it; is_alone = is_alone }) pending)
told_of (Ok value) entry pending is_alone pends = tt
told_of (Err StoreFault) entry pending is_alone pends =
    ap (option_map {U = Pending} (λ (it : Entry). record { entry = it; is_alone = is_alone })) pends
told_of (Err (Damaged position)) entry pending is_alone pends = tt
told_of (Err Broken) entry pending is_alone pends = tt
told_of (Err Memory) entry pending is_alone pends = tt

-- an entry at the end
pub Changes-appended : {K : Type 0} (bodies : K → Option (List (List ℕ))) (faults : K → ℕ) (is_broken : K → Bool)
    (result : Result (Unit {0}) JournalFault) (was : JournalView K) (store later : K) (flag is : Bool)
    (before after : List Entry) (last : Option Pending) (pending : Option Entry) (e : Entry) (body : List ℕ) →
    ◌≡◌ {A = JournalView K} (record { store = store; entries = before; is_broken = flag; pending = last }) was →
    flag ≡ false → is ≡ is_store_fault result → is_directors e ≡ true → body ≡ spelling e →
    entry_of (spelling e) ≡ Some e → OnOk result (after ≡ before ++ e ∷ []) → OnErr result (after ≡ before) →
    Pends result e pending → Puts bodies faults is_broken result store (λ list. list ++ body ∷ []) later →
    Changes {K = K} bodies faults is_broken result was (added e) (λ list. list ++ spelling e ∷ [])
    (record { store = later; entries = after; is_broken = is; pending = option_map (λ it. record { entry = it; is_alone = false }) pending })
Changes-appended {K} bodies faults is_broken result was store later flag is before after last pending e body seen whole told fits spelled again ok err pends puts =
    changes bodies faults is_broken result was store later flag is before after (added e) last
    (option_map (λ it. record { entry = it; is_alone = false }) pending) (λ list. list ++ spelling e ∷ []) seen whole told
    (λ list holds. Hold-more list before e fits again holds) ok err (told_of result e pending false pends)
    (subst (λ (b : List ℕ). Puts bodies faults is_broken result store (λ list. list ++ b ∷ []) later) spelled puts)

-- a snapshot in the place of all
pub Changes-compacted : {K : Type 0} (bodies : K → Option (List (List ℕ))) (faults : K → ℕ) (is_broken : K → Bool)
    (result : Result (Unit {0}) JournalFault) (was : JournalView K) (store later : K) (flag is : Bool)
    (before after : List Entry) (last : Option Pending) (pending : Option Entry) (e : Entry) (list : List (List ℕ)) →
    ◌≡◌ {A = JournalView K} (record { store = store; entries = before; is_broken = flag; pending = last }) was →
    was.is_broken ≡ false → is ≡ is_store_fault result → is_snapshot e ≡ true →
    list ≡ spelling e ∷ [] → entry_of (spelling e) ≡ Some e → OnOk result (after ≡ e ∷ []) →
    OnErr result (after ≡ before) → Pends result e pending → Puts bodies faults is_broken result store (λ _. list) later →
    Changes {K = K} bodies faults is_broken result was (alone e) (λ _. spelling e ∷ [])
    (record { store = later; entries = after; is_broken = is; pending = option_map (λ it. record { entry = it; is_alone = true }) pending })
Changes-compacted {K} bodies faults is_broken result was store later flag is before after last pending e list seen whole told fits spelled again ok err pends puts =
    changes bodies faults is_broken result was store later flag is before after (alone e) last
    (option_map (λ it. record { entry = it; is_alone = true }) pending) (λ _. spelling e ∷ []) seen
    (ap (λ (it : JournalView K). it.is_broken) seen ∙ whole) told
    (λ _ _. Hold-single e (snapshot-directors e fits) again) ok err (told_of result e pending true pends)
    (subst (λ (b : List (List ℕ)). Puts bodies faults is_broken result store (λ _. b) later) spelled puts)
