-- A compilation ends.
use Rattle.std.proofs.Common.{◌≡◌, ◌∙◌, ◌≤◌, ℕ, Bool, true, false, ◌||◌, zero, suc, [], ◌∷◌, List, Option, Some, None, ap}
use Rattle.std.proofs.Common.{arith, refl, subst, sym}
use Rattle.std.specs.Prelude.{eqb, is_some, if◌then◌else◌}
use Rattle.std.specs.List.{list_any}
use Rattle.std.specs.List.Sorted.{IsStrictlySortedBy}
use Rattle.std.specs.Option.{option_and_then, option_map, option_map_or}
use Rattle.std.specs.Ordering.{nat_cmp}
use Rattle.std.proofs.lemmas.Bool.{eqb-true, or_parts, true≢false}
use Rattle.std.proofs.lemmas.Bool.Decides.{nat_tests}
use Rattle.std.proofs.lemmas.List.Folds.{list_any-append}
use Rattle.bosh_base.specs.Cloud.{numbers_to}
use Rattle.bosh_base.specs.declared.answer.Answer.{Answer}
use Rattle.bosh_base.specs.declared.answer.Answer.TheVariants as answers
use Rattle.bosh_base.specs.declared.call.Call.{Call}
use Rattle.bosh_base.specs.declared.call.Call.TheVariants.{CompilePackage}
use Rattle.bosh_base.specs.declared.digest.Digest.{Digest}
use Rattle.bosh_base.specs.declared.entry.Begin.{Begin}
use Rattle.bosh_base.specs.declared.entry.End.{End}
use Rattle.bosh_base.specs.declared.entry.Entry.TheVariants as entries
use Rattle.bosh_base.specs.declared.key.KeyWork.{KeyWork}
use Rattle.bosh_base.specs.declared.owner.Owner.TheVariants.{Compile}
use Rattle.bosh_compile.proofs.KeyLemmas.{same_key_decides}
use Rattle.bosh_compile.specs.Readiness.{same_key}
use Rattle.bosh_fold.specs.Calls.{built_in, ended_by, ended_in}
use Rattle.bosh_history.specs.Calls as known_calls
use Rattle.bosh_history.specs.Calls.{call_ended, slot_answered, task_told}
use Rattle.bosh_history.specs.Known.{Known}
use Rattle.bosh_history.specs.Slots.{slot_told}
use Rattle.bosh_history.specs.Steps.{compiles}
use Rattle.bosh_history.specs.Words.{at, holds}
use Rattle.bosh_plan.specs.Ended as planned
use Rattle.bosh_plan.specs.Ended.{ended_of, is_told}
use Rattle.bosh_plan.specs.declared.ending.After.TheVariants as afters
use Rattle.bosh_plan.specs.declared.ending.Ended.{Ended}
use Rattle.bosh_records.specs.Keys.{built_as, key_cmp}
use Rattle.bosh_records.specs.Ordered.{AreOrdered}
use Rattle.bosh_records.specs.Recorded.{Recorded}
use Rattle.bosh_records.specs.Table.{found, without}
use Rattle.bosh_records.specs.declared.keys.KeyState.{KeyState}
use Rattle.bosh_records.specs.declared.records.Records.{Records}
use Rattle.bosh_rows.specs.SoundSnapshot.{are_distinct}
use Rattle.bosh_work.specs.Finished.{without_key}
use Rattle.laws_stands.specs.Reading.{state_of}
use Rattle.laws_stands.specs.Stands.{Stands, StandsIn, StandsInOrder}
use Rattle.laws_stands.specs.Told.{Told, telling}
use Rattle.laws_stands.specs.WorkStands.{keys_in}
use Rattle.laws_stands_on.proofs.OnlyCallLemmas.{going_same, has_begun, task_same}
use Rattle.laws_stands_on.proofs.TableLemmas.{altered_keys, each_keys}
use Rattle.laws_stands_slots.proofs.KeyBuiltLemmas.{key_built}
use Rattle.laws_stands_slots.proofs.SlotClosedLemmas.{ended, ended_is, ended_stands, keys_with_found}
use Rattle.laws_stands_slots.proofs.SlotTableLemmas.{slot_same}
use Rattle.laws_stands_slots.specs.Slots.{AllowsSlot, AreKeysApart, told_closed}

-- what holds of a number holds of one
any_numbered : (p : ℕ → Bool) (n c : ℕ) → 1 ≤ c → c ≤ n → list_any p (numbers_to n) ≡ false → p c ≡ false
any_numbered p zero c low high none = absurd (omega arith)
any_numbered p (suc n) c low high none =
    let parts : (list_any p (numbers_to n) ≡ false) × ((p (suc n) || false) ≡ false) =
    or_parts (list_any p (numbers_to n)) (p (suc n) || false)
    (sym (list_any-append p (numbers_to n) (suc n ∷ [])) ∙ none) in
    by (eqb c (suc n)) refl (or_parts (p (suc n)) false parts.1).0
    (λ high. any_numbered p n c low high parts.0)
  where
    by : (b : Bool) → eqb c (suc n) ≡ b → p (suc n) ≡ false → (c ≤ n → p c ≡ false) → p c ≡ false
    by true is last more = ap p (eqb-true c (suc n) is) ∙ last
    by false other last more = more (below other)
      where
        below : eqb c (suc n) ≡ false → c ≤ n
        below other = grind (arith, nat_tests)

module _ (told : Told) (was : Records) (it : Recorded) (n number worker vm : ℕ) (work : KeyWork) (deps : List Digest)
    (answer : Answer) (t s : ℕ)
    (only : told.calls number ≡ Some (record {
      n = number;
      task = n;
      worker = worker;
      owner = Compile t s;
      call = CompilePackage vm work deps;
    }))
    (allows : AllowsSlot told n t s) (apart : AreKeysApart told) (stood : Stands told was) (stands : StandsIn told it)
  where
    abbrev call : Call
    call = CompilePackage vm work deps

    abbrev b : Begin
    b = record { n = number; task = n; worker = worker; owner = Compile t s; call = call }

    abbrev e : End
    e = record { n = number; answer = answer }

    abbrev k : Known
    k = told.known

    abbrev closed : Told
    closed = told_closed b answer told

    abbrev new : Told
    new = record closed { known = known_calls.compiles call answer closed.known }

    slots_stay : slot_answered t s (Some allows.row) k ≡ k
    slots_stay = λ j. record k {
      slot = λ u r. slot_same (λ slot. slot) t s (Some allows.row) k.slot (sym allows.there) u r j;
    }

    told_is : telling told (entries.End e) ≡ new
    told_is = λ j. record { known = known_is j; calls = at eqb number None told.calls; snapped = told.snapped }
      where
        later : (answer : Answer) → record (known_calls.compiles call answer k) { task = closed.known.task }
            ≡ known_calls.compiles call answer (record k { task = closed.known.task })
        later (answers.Built digest) = refl
        later answer = refl

        known_is : call_ended answer (k.begun number) k ≡ new.known
        known_is =
            ap (λ o. call_ended answer o k) (has_begun told it b answer (k.task n).pinged only stands)
            ∙ (λ j. record (known_calls.compiles call answer
            (slot_answered t s (option_and_then (slot_told number call answer) (allows.there j)) k)) {
              task = at eqb n (task_told k b answer (k.task n)) k.task;
            })
            ∙ (λ j. record (known_calls.compiles call answer (slots_stay j)) {
              task = at eqb n (task_told k b answer (k.task n)) k.task;
            })
            ∙ later answer

    -- ---- what is planned

    abbrev plan : Ended
    plan = record {
      n = number;
      after = Some (afters.Other (planned.machine_told number call answer));
      failed = planned.failure_of was answer b;
      built = planned.built_by answer;
      is_asked = is_told answer;
    }

    plan_is : ended_of was e ≡ plan
    plan_is = λ j. record {
      n = number;
      after = ap (option_and_then (planned.after_by was answer)) (stood.calls number ∙ only) j;
      failed = ap (option_and_then (planned.failure_of was answer)) (stood.calls number ∙ only) j;
      built = planned.built_by answer;
      is_asked = is_told answer;
    }

    abbrev over : Recorded
    over = ended told was it n number worker call answer t s only allows stands

    over_is : ended_in plan it ≡ built_in call (planned.built_by answer) over
    over_is =
        ap (λ o. ended_by o plan (record it { calls = without nat_cmp number it.calls }))
        (stands.calls number ∙ only)
        ∙ (λ j. built_in call (planned.built_by answer) (ended_is told was it n number worker call answer t s only allows stands j))

    over_stands : StandsInOrder closed over
    over_stands = ended_stands told was it n number worker call answer t s only allows stands

    -- ---- the key

    key_there : is_some (state_of over work.key) ≡ true
    key_there = ap is_some (keys_with_found call None it.keys work.key)
        ∙ kept (compiles work.key call) (found key_cmp it.keys work.key) ∙ by (found key_cmp it.keys work.key) refl
      where
        kept : (u : Bool) (o : Option KeyState)
            → is_some (if u then option_map (λ (state : KeyState). record state { call = None }) o else o) ≡ is_some o
        kept true (Some state) = refl
        kept true None = refl
        kept false o = refl

        by : (o : Option KeyState) → found key_cmp it.keys work.key ≡ o → is_some o ≡ true
        by (Some state) is = refl
        by None is = absurd (true≢false (sym
            (ap (holds (λ (d : Begin). compiles work.key d.call)) only ∙ (same_key_decides work.key work.key).1 refl)
            ∙ any_numbered (λ c. holds (λ (d : Begin). compiles work.key d.call) (told.calls c)) k.last_call number
            (stands.tells_well.low number b only) (stands.tells_well.past number b only)
            (sym (stands.compiling work.key)
            ∙ ap (λ o. option_map_or (λ (state : KeyState). is_some state.call) o false) is)))

    still_apart : AreKeysApart closed
    still_apart u going =
        ap (λ goal. are_distinct same_key (keys_in goal))
        (task_same told it b answer (k.task n).pinged only stands (λ it. it.goal) refl u)
        ∙ apart u (sym (going_same told it b answer (k.task n).pinged only stands u) ∙ going)

    -- the key that is compiled stands in its place
    in_order : (digest : Digest) → AreOrdered (built_in call (Some digest) over) → AreOrdered over
    in_order digest ordered = record {
      deployments = ordered.deployments;
      instances = ordered.instances;
      machines = ordered.machines;
      orphans = ordered.orphans;
      keys = subst (IsStrictlySortedBy key_cmp) (altered_keys key_cmp work.key (built_as work digest) over.keys) ordered.keys;
      tasks = ordered.tasks;
      works = subst (IsStrictlySortedBy nat_cmp) (each_keys (without_key work.key) over.works) ordered.works;
      calls = ordered.calls;
    }

    stands_by : (answer' : Answer) → StandsInOrder (record closed { known = known_calls.compiles call answer' closed.known })
        (built_in call (planned.built_by answer') over)
    stands_by (answers.Built digest) = λ ordered. key_built closed over vm work deps digest still_apart key_there
        (over_stands (in_order digest ordered)) ordered
    stands_by answer' = over_stands

    pub after_compilation : StandsInOrder (telling told (entries.End e)) (ended_in (ended_of was e) it)
    after_compilation =
        subst (λ (plan : Ended). StandsInOrder (telling told (entries.End e)) (ended_in plan it)) (sym plan_is)
        (subst (StandsInOrder (telling told (entries.End e))) (sym over_is)
        (subst (λ (told : Told). StandsInOrder told (built_in call (planned.built_by answer) over)) (sym told_is)
        (stands_by answer)))
