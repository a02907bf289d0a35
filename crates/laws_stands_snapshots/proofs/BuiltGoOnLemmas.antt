-- What is recorded of compiled keys goes on to stand for what is listed of them, whatever may be noted.
use Rattle.std.proofs.Common.{◌≡◌, ◌∙◌, ℕ, Bool, true, false, ◌||◌, List, [], ◌∷◌, Option, Some, None, ap, refl}
use Rattle.std.proofs.Common.{subst, sym}
use Rattle.std.specs.Prelude.{find, is_some, not, if◌then◌else◌}
use Rattle.std.specs.List.{list_any}
use Rattle.std.specs.Option.{option_map, option_map_or}
use Rattle.std.specs.Ordering.{nat_cmp}
use Rattle.std.proofs.lemmas.Bool.{false≢true, not-true, true≢false}
use Rattle.bosh_base.specs.Cloud.{numbers_to}
use Rattle.bosh_base.specs.declared.answer.Answer.{Answer}
use Rattle.bosh_base.specs.declared.answer.Answer.TheVariants as answers
use Rattle.bosh_base.specs.declared.call.Call.{Call}
use Rattle.bosh_base.specs.declared.call.Call.TheVariants.{CompilePackage}
use Rattle.bosh_base.specs.declared.digest.Digest.{Digest}
use Rattle.bosh_base.specs.declared.entry.Begin.{Begin}
use Rattle.bosh_base.specs.declared.entry.End.{End}
use Rattle.bosh_base.specs.declared.entry.Entry.{Entry}
use Rattle.bosh_base.specs.declared.entry.Entry.TheVariants as entries
use Rattle.bosh_base.specs.declared.key.Key.{Key}
use Rattle.bosh_base.specs.declared.key.KeyWork.{KeyWork}
use Rattle.bosh_base.specs.declared.snapshot.BuiltKey.{BuiltKey}
use Rattle.bosh_compile.specs.Readiness.{same_key}
use Rattle.bosh_fold.specs.Calls as calls_in
use Rattle.bosh_fold.specs.Learned.{learned}
use Rattle.bosh_fold.specs.Learns.{Learns}
use Rattle.bosh_fold.specs.Planned.{IsPlanned}
use Rattle.bosh_fold.specs.declared.change.Change.{Change}
use Rattle.bosh_fold.specs.declared.change.Change.TheVariants as changes
use Rattle.bosh_history.specs.Calls.{call_ended, compiles, ends_of}
use Rattle.bosh_history.specs.Known.{Known, dep_of_task, nothing_known, want_in}
use Rattle.bosh_history.specs.Learn.{learn}
use Rattle.bosh_history.specs.Moments.{Moment, OpenCall}
use Rattle.bosh_history.specs.Notes.{EndsCall, MayNote, Outside}
use Rattle.bosh_history.specs.Slots.{is_compiled}
use Rattle.bosh_history.specs.Steps as steps
use Rattle.bosh_history.specs.Words.{holds, inserted}
use Rattle.bosh_plan.specs.Ended.{built_by, ended_of}
use Rattle.bosh_plan.specs.declared.ending.Ended.{Ended}
use Rattle.bosh_records.specs.Keys.{built_as, key_cmp}
use Rattle.bosh_records.specs.Recorded.{Recorded, nothing, recorded}
use Rattle.bosh_records.specs.Table.{altered, found, thing_in, without}
use Rattle.bosh_records.specs.declared.keys.KeyState.{KeyState}
use Rattle.bosh_records.specs.declared.records.Records.{Records}
use Rattle.bosh_rows.specs.SoundSnapshot.{built_cmp}
use Rattle.bosh_rows.specs.Standing.{same_truth}
use Rattle.laws_facts.proofs.BuiltLemmas as listing
use Rattle.laws_facts.proofs.WorkLemmas.{none_to}
use Rattle.laws_facts.specs.CallFacts.{CallFacts}
use Rattle.laws_facts.specs.KnownFacts.{KnownFacts}
use Rattle.laws_facts.specs.Lists.{is_built_for}
use Rattle.laws_facts.specs.OpenCalls.{compiles_new}
use Rattle.laws_stands.specs.Agrees.{Agrees}
use Rattle.laws_stands.specs.Stands.{Stands, StandsIn}
use Rattle.laws_stands.specs.Told.{Told}
use Rattle.laws_stands_on.proofs.TableLemmas.{found_altered}
use Rattle.laws_stands_snapshots.proofs.BuiltLemmas.{key_flip, key_is}
use Rattle.laws_stands_snapshots.proofs.BuiltOrderLemmas.{find_inserted, one_more_in_order}
use Rattle.laws_stands_snapshots.proofs.KeysKeptLemmas.{IsQuiet, SameBuilt, built_of_state, quiet_same, roomy_same}
use Rattle.laws_stands_snapshots.proofs.KeysKeptLemmas.{told_same, told_there}
use Rattle.laws_stands_snapshots.proofs.OrderLemmas.{key_order}
use Rattle.laws_stands_snapshots.specs.Built.{BuiltStand, built_in}
use Rattle.laws_stands_snapshots.specs.Readable.{same_built}

-- the same is listed, and the same is recorded
same_stand : (was new : List BuiltKey) (it now : Recorded) → new ≡ was → SameBuilt it now → BuiltStand was it
    → BuiltStand new now
same_stand was new it now listed same stand =
    subst (λ built. BuiltStand built now) (sym listed)
    (record { in_order = stand.in_order; same = λ key. same key ∙ stand.same key })

-- ---- a compilation that is answered

module _ (work : KeyWork) (digest : Digest) (built : List BuiltKey) (it : Recorded) where
  abbrev made : BuiltKey
  made = record { name = work.name; key = work.key; digest = digest }

  one_compiled : list_any (same_built made) built ≡ false → is_some (found key_cmp it.keys work.key) ≡ true
      → BuiltStand built it → (now : Recorded)
      → now.keys ≡ altered key_cmp work.key (built_as work digest) it.keys
      → BuiltStand (inserted built_cmp made built) now
  one_compiled new there stand now keys = record {
    in_order = one_more_in_order made built new stand.in_order;
    same = λ key.
        ap (λ keys. built_of_state key (found key_cmp keys key)) keys
        ∙ ap (built_of_state key) (found_altered key_cmp key_order.keys work.key (built_as work digest) it.keys key)
        ∙ (λ j. built_of_state key (if key_order.at_is work.key key j
        then option_map (built_as work digest) (found key_cmp it.keys key) else found key_cmp it.keys key))
        ∙ by key (same_key work.key key) refl
        ∙ sym (find_inserted made built new key);
  }
    where
      some_built : (key : Key) (o : Option KeyState) → is_some o ≡ true
          → built_of_state key (option_map (built_as work digest) o)
          ≡ Some (record { name = work.name; key = key; digest = digest })
      some_built key (Some state) is = refl
      some_built key None is = absurd (false≢true is)

      by : (key : Key) (b : Bool) → same_key work.key key ≡ b
          → built_of_state key (if same_key work.key key
          then option_map (built_as work digest) (found key_cmp it.keys key) else found key_cmp it.keys key)
          ≡ (if same_key work.key key then Some made else find (λ (each : BuiltKey). same_key each.key key) built)
      by key true is =
          (λ j. built_of_state key (if is j
          then option_map (built_as work digest) (found key_cmp it.keys key) else found key_cmp it.keys key))
          ∙ some_built key (found key_cmp it.keys key)
          (ap (λ at. is_some (found key_cmp it.keys at)) (sym (key_is work.key key is)) ∙ there)
          ∙ (λ j. Some (record { name = work.name; key = sym (key_is work.key key is) j; digest = digest }))
          ∙ (λ j. if sym is j then Some made else find (λ (each : BuiltKey). same_key each.key key) built)
      by key false is =
          (λ j. built_of_state key (if is j
          then option_map (built_as work digest) (found key_cmp it.keys key) else found key_cmp it.keys key))
          ∙ stand.same key
          ∙ (λ j. if sym is j then Some made else find (λ (each : BuiltKey). same_key each.key key) built)

-- ---- the end of a call

-- a key that is not compiled is not listed
not_listed : (work : KeyWork) (digest : Digest) (k : Known)
    → same_truth (list_any (is_built_for work.key) k.built) (is_compiled k work.key) ≡ true
    → not (is_compiled k work.key) ≡ true
    → list_any (same_built (record { name = work.name; key = work.key; digest = digest })) k.built ≡ false
not_listed work digest k truth new =
    flip k.built
    ∙ none (list_any (is_built_for work.key) k.built) (is_compiled k work.key) truth (not-true (is_compiled k work.key) new)
  where
    none : (a b : Bool) → same_truth a b ≡ true → b ≡ false → a ≡ false
    none true true truth is = absurd (true≢false is)
    none true false truth is = absurd (false≢true truth)
    none false b truth is = refl

    flip : (built : List BuiltKey)
        → list_any (same_built (record { name = work.name; key = work.key; digest = digest })) built
        ≡ list_any (is_built_for work.key) built
    flip [] = refl
    flip (each ∷ built) = λ j. key_flip work.key each.key j || flip built j

-- a key that an open call compiles has a place
key_there : (told : Told) (it : Recorded) → StandsIn told it → (n : ℕ) (b : Begin) → told.calls n ≡ Some b → (key : Key)
    → steps.compiles key b.call ≡ true → is_some (found key_cmp it.keys key) ≡ true
key_there told it stands n b is key compiled =
    there (found key_cmp it.keys key)
    (stands.compiling key ∙ by (list_any test (numbers_to told.known.last_call)) refl)
  where
    test : ℕ → Bool
    test c = holds (λ (b : Begin). steps.compiles key b.call) (told.calls c)

    by : (any : Bool) → list_any test (numbers_to told.known.last_call) ≡ any
        → list_any test (numbers_to told.known.last_call) ≡ true
    by true is_any = is_any
    by false none =
        absurd (true≢false (sym ((λ j. holds (λ (b : Begin). steps.compiles key b.call) (is j)) ∙ compiled)
        ∙ none_to test told.known.last_call n none (stands.tells_well.low n b is) (stands.tells_well.past n b is)))

    there : (o : Option KeyState) → option_map_or (λ (state : KeyState). is_some state.call) o false ≡ true
        → is_some o ≡ true
    there (Some state) is = refl
    there None is = absurd (false≢true is)

module _ (told : Told) (it : Recorded) (stands : StandsIn told it) (stand : BuiltStand told.known.built it) (n : ℕ)
    (b : Begin) (is : told.calls n ≡ Some b)
    (listed : (key : Key) → same_truth (list_any (is_built_for key) told.known.built) (is_compiled told.known key) ≡ true)
    (new : compiles_new told.known b.call ≡ true) where
  abbrev k : Known
  k = told.known

  -- by the call and its answer
  answered : (answer : Answer) (at : Recorded) → SameBuilt it at
      → ((key : Key) → is_some (found key_cmp it.keys key) ≡ true → is_some (found key_cmp at.keys key) ≡ true)
      → BuiltStand (compiles b.call answer (ends_of b answer b.owner k)).built (calls_in.built_in b.call (built_by answer) at)
  answered answer at same places = by b.call answer refl
    where
      still : BuiltStand (ends_of b answer b.owner k).built at
      still = same_stand k.built (ends_of b answer b.owner k).built it at
          (listing.same_answered b answer b.owner k).built same stand

      by : (call : Call) (told_answer : Answer) → b.call ≡ call
          → BuiltStand (compiles call told_answer (ends_of b answer b.owner k)).built
          (calls_in.built_in call (built_by told_answer) at)
      by (CompilePackage vm work deps) (answers.Built digest) call_is =
          one_compiled work digest (ends_of b answer b.owner k).built at
          (ap (list_any (same_built (record { name = work.name; key = work.key; digest = digest })))
          (listing.same_answered b answer b.owner k).built
          ∙ not_listed work digest k (listed work.key) (sym (ap (compiles_new k) call_is) ∙ new))
          (places work.key (key_there told it stands n b is work.key
          (ap (steps.compiles work.key) call_is ∙ key_order.own work.key)))
          still (calls_in.built_in (CompilePackage vm work deps) (Some digest) at) refl
      by (CompilePackage vm work deps) answer call_is = still
      by call answer call_is = still

-- the end of a call that is open
end_stands : (m : Moment) (told : Told) (was : Records) (e : End) (now : Records) → Stands told was → Agrees m told
    → KnownFacts m → EndsCall e (m.calls e.n) → Learns was (entries.End e) now
    → BuiltStand told.known.built (recorded was) → BuiltStand (learn told.known (entries.End e)).built (recorded now)
end_stands m told was e now stands agrees facts may learns stand = by (m.calls e.n) refl may
  where
    it : Recorded
    it = recorded was

    ended : Ended
    ended = ended_of was e

    after_it : Recorded
    after_it = record it { calls = without nat_cmp e.n it.calls }

    now_is : recorded now ≡ calls_in.ended_by (thing_in nat_cmp it.calls e.n) ended after_it
    now_is =
        learns.is_learned
        ∙ (λ j. learned (entries.End e) (learns.planned j) (learns.room j))

    by : (call : Option OpenCall) → m.calls e.n ≡ call → EndsCall e call
        → BuiltStand (learn told.known (entries.End e)).built (recorded now)
    by (Some call) there may =
        subst (λ (begun : Option Begin). BuiltStand (call_ended e.answer begun told.known).built (recorded now))
        (sym (stands.tells_well.begun e.n b is))
        (subst (BuiltStand (call_ended e.answer (Some b) told.known).built)
        (sym (now_is ∙ (λ j. calls_in.ended_by ((stands.calls e.n ∙ is) j) ended after_it)))
        (answered told it stands stand e.n b is listed new e.answer
        (calls_in.told_of b.owner ended.after (calls_in.failed_in b.task ended.failed
        (calls_in.pinged_by ended.is_asked b (calls_in.given_by b.task b.owner (calls_in.closed_call b after_it)))))
        (told_same b ended.after ended.failed ended.is_asked after_it)
        (told_there b ended.after ended.failed ended.is_asked after_it)))
      where
        b : Begin
        b = call.begin

        is : told.calls e.n ≡ Some b
        is = agrees.live e.n call there

        listed : (key : Key)
            → same_truth (list_any (is_built_for key) told.known.built) (is_compiled told.known key) ≡ true
        listed key =
            subst (λ (k : Known). same_truth (list_any (is_built_for key) k.built) (is_compiled k key) ≡ true)
            (sym agrees.known_is) (facts.lists.key_listed key)

        new : compiles_new told.known b.call ≡ true
        new =
            let known : CallFacts m e.n call = facts.calls e.n call there in
            subst (λ (k : Known). compiles_new k b.call ≡ true) (sym agrees.known_is) known.compiles_new
    by None there may = absurd may

-- ---- any other entry

-- it neither ends a call nor tells all anew
abbrev IsOther : Entry → Type 0
IsOther (entries.End e) = ⊥
IsOther (entries.Snapshot s) = ⊥
IsOther e = Unit {0}

planned_quiet : (was roomy : Records) (e : Entry) (change : Change) → IsOther e → IsPlanned was roomy e change
    → IsQuiet change
planned_quiet was roomy (entries.Release r) change other is = subst IsQuiet (sym is) tt
planned_quiet was roomy (entries.Stemcell s) change other is = subst IsQuiet (sym is) tt
planned_quiet was roomy (entries.Config file) change other is = subst IsQuiet (sym is) tt
planned_quiet was roomy (entries.TaskOpen o) (changes.Opened opened) other is = tt
planned_quiet was roomy (entries.TaskOpen o) change other is = absurd is
planned_quiet was roomy (entries.Begin b) (changes.Begun begun) other is = tt
planned_quiet was roomy (entries.Begin b) change other is = absurd is
planned_quiet was roomy (entries.End e) change other is = absurd other
planned_quiet was roomy (entries.UpdBegin u) change other is = subst IsQuiet (sym is) tt
planned_quiet was roomy (entries.UpdDone u) (changes.Updated updated) other is = tt
planned_quiet was roomy (entries.UpdDone u) change other is = absurd is
planned_quiet was roomy (entries.Gone u) (changes.Updated updated) other is = tt
planned_quiet was roomy (entries.Gone u) change other is = absurd is
planned_quiet was roomy (entries.TaskDone t) change other is = subst IsQuiet (sym is) tt
planned_quiet was roomy (entries.TaskError e) change other is = subst IsQuiet (sym is) tt
planned_quiet was roomy (entries.Snapshot s) change other is = absurd other
planned_quiet was roomy (entries.Effect e) change other is = subst IsQuiet (sym is) tt
planned_quiet was roomy (entries.Write w) change other is = subst IsQuiet (sym is) tt
planned_quiet was roomy (entries.Lost l) change other is = subst IsQuiet (sym is) tt

listed_same : (k : Known) (e : Entry) → IsOther e → (learn k e).built ≡ k.built
listed_same k (entries.End e) other = absurd other
listed_same k (entries.Snapshot s) other = absurd other
listed_same k (entries.Begin b) other = (listing.same_begun b b.owner k).built
listed_same k (entries.UpdDone u) other =
    (listing.same_updated (want_in (k.task u.task).goal u.inst) u.inst k).built
listed_same k (entries.TaskDone t) other =
    (listing.same_settled (k.task t).kind (k.task t).goal (dep_of_task k t) k).built
listed_same k e other = refl

other_stands : (k : Known) (was : Records) (e : Entry) (now : Records) → IsOther e → Learns was e now
    → BuiltStand k.built (recorded was) → BuiltStand (learn k e).built (recorded now)
other_stands k was e now other learns stand =
    same_stand k.built (learn k e).built (recorded was) (recorded now) (listed_same k e other) same stand
  where
    same : SameBuilt (recorded was) (recorded now)
    same key =
        ap (λ it. built_in it key) learns.is_learned
        ∙ quiet_same e learns.change (planned_quiet was learns.roomy e learns.change other learns.planned)
        (recorded learns.roomy) key
        ∙ ap (λ it. built_in it key) learns.room
        ∙ roomy_same was e (recorded was) key

-- ---- all

pub none_stand : BuiltStand nothing_known.built nothing
none_stand = record { in_order = record { order = refl; apart = refl }; same = λ key. refl }

pub built_goes_on : (outside : Outside) (m : Moment) (told : Told) (was : Records) (e : Entry) (now : Records)
    → Stands told was → Agrees m told → KnownFacts m → MayNote outside m e → Learns was e now
    → BuiltStand told.known.built (recorded was) → BuiltStand (learn told.known e).built (recorded now)
built_goes_on outside m told was (entries.End e) now stands agrees facts may learns stand =
    end_stands m told was e now stands agrees facts may learns stand
built_goes_on outside m told was (entries.Snapshot s) now stands agrees facts may learns stand = absurd may
built_goes_on outside m told was (entries.Release r) now stands agrees facts may learns stand =
    other_stands told.known was (entries.Release r) now tt learns stand
built_goes_on outside m told was (entries.Stemcell s) now stands agrees facts may learns stand =
    other_stands told.known was (entries.Stemcell s) now tt learns stand
built_goes_on outside m told was (entries.Config file) now stands agrees facts may learns stand =
    other_stands told.known was (entries.Config file) now tt learns stand
built_goes_on outside m told was (entries.TaskOpen o) now stands agrees facts may learns stand =
    other_stands told.known was (entries.TaskOpen o) now tt learns stand
built_goes_on outside m told was (entries.Begin b) now stands agrees facts may learns stand =
    other_stands told.known was (entries.Begin b) now tt learns stand
built_goes_on outside m told was (entries.UpdBegin u) now stands agrees facts may learns stand =
    other_stands told.known was (entries.UpdBegin u) now tt learns stand
built_goes_on outside m told was (entries.UpdDone u) now stands agrees facts may learns stand =
    other_stands told.known was (entries.UpdDone u) now tt learns stand
built_goes_on outside m told was (entries.Gone u) now stands agrees facts may learns stand =
    other_stands told.known was (entries.Gone u) now tt learns stand
built_goes_on outside m told was (entries.TaskDone t) now stands agrees facts may learns stand =
    other_stands told.known was (entries.TaskDone t) now tt learns stand
built_goes_on outside m told was (entries.TaskError e) now stands agrees facts may learns stand =
    other_stands told.known was (entries.TaskError e) now tt learns stand
built_goes_on outside m told was e now stands agrees facts may learns stand = absurd may
