-- The choice in each phase of a task is what is claimed.
use Rattle.std.proofs.Common.{◌≡◌, ◌∙◌, ℕ, ◌<◌, ◌≤◌, zero, suc, Bool, true, false, ◌&&◌, ◌||◌, not, List, []}
use Rattle.std.proofs.Common.{◌∷◌, length, map, filter, Option, Some, None, ap, refl, sym, subst, arith, inl, inr}
use Rattle.std.specs.Prelude.{eqb, is_some, slice_get, if◌then◌else◌}
use Rattle.std.specs.List.{list_all, list_any}
use Rattle.std.specs.Option.{option_map, option_or}
use Rattle.std.proofs.lemmas.Bool.{and_parts, eq-eqb, false≢true, or_right, true≢false}
use Rattle.bosh_base.specs.declared.entry.Entry.{Entry}
use Rattle.bosh_base.specs.declared.inst.Inst.{Inst}
use Rattle.bosh_base.specs.declared.owner.Owner.{Owner}
use Rattle.bosh_base.specs.declared.owner.Owner.TheVariants.{Instance, Compile, Disk}
use Rattle.bosh_claim.specs.Choice.{begun_by, in_phase}
use Rattle.bosh_claim.specs.Noted.{leaving_entry, ping}
use Rattle.bosh_claim.specs.Phase.{has_to_compile, is_finished, least_stage, present}
use Rattle.bosh_claim.specs.Slot as slots
use Rattle.bosh_claim.specs.Sweep as sweeps
use Rattle.bosh_claim.specs.declared.phase.Phase.{Phase}
use Rattle.bosh_claim.specs.declared.phase.Phase.TheVariants as phases
use Rattle.bosh_history.specs.Claim.{by_items}
use Rattle.bosh_history.specs.Goals.{is_waiting}
use Rattle.bosh_history.specs.Items.{is_leftover, is_slot_left, is_to_go}
use Rattle.bosh_history.specs.Items.{is_to_ping, items, slots_of}
use Rattle.bosh_history.specs.Known.{Known, SlotName, Task, want_in}
use Rattle.bosh_history.specs.Moments.{Moment}
use Rattle.bosh_history.specs.Words.{is_among}
use Rattle.bosh_records.specs.declared.records.Records.{Records}
use Rattle.bosh_roll.specs.Upd.{is_busy}
use Rattle.bosh_roll.specs.declared.upd.Upd.{Upd}
use Rattle.bosh_roll.specs.declared.upd.Upd.TheVariants.{Busy, Failed, Finished, Todo}
use Rattle.bosh_rows.specs.Same.{same_inst}
use Rattle.bosh_work.specs.declared.part.MachineName.{MachineName}
use Rattle.bosh_work.specs.declared.work.Work.{Work}
use Rattle.laws_stands.specs.Agrees.{claimed_of}
use Rattle.laws_stands.proofs.AnswerLemmas.{answers_none, first_answer, gives, told_of}
use Rattle.laws_stands.proofs.MemberLemmas.{among_from}
use Rattle.laws_stands.proofs.ItemLemmas.{among_at}
use Rattle.laws_stands.proofs.StageLemmas.{filtered_in}
use Rattle.laws_stands.proofs.LineLemmas.{over_is}
use Rattle.laws_stands.proofs.AskLemmas.{answer_of_others, asked_is, leaving_is, step_is}
use Rattle.laws_stands.proofs.SweepLemmas.{disks_are, sweep_is}
use Rattle.laws_stands.proofs.PhaseLemmas.{IsPresent, answer, machine_owner}
use Rattle.laws_stands.proofs.PhaseLemmas.{none_before, not_before, of_asked, of_changing, of_disks, of_leaving}
use Rattle.laws_stands.proofs.PhaseLemmas.{of_slots, of_swept, parts_of}
use Rattle.laws_stands.proofs.PremiseLemmas.{any_at, asked_phase, changing_late, disk_phase}
use Rattle.laws_stands.proofs.PremiseLemmas.{going_phase, gone_late, left_late, left_phase, never}
use Rattle.laws_stands.proofs.PremiseLemmas.{over_late, own_late, own_phase, passes_among, passes_below, passes_in}
use Rattle.laws_stands.proofs.PremiseLemmas.{unasked_late}
use Rattle.laws_stands.proofs.NextKeyLemmas.{compiles_none, compiles_some}
use Rattle.laws_stands.proofs.SlotLemmas.{slots_are}
use Rattle.laws_stands.proofs.UpdateLemmas.{Updates, updates_are}
use Rattle.laws_stands.specs.Choosing.{CanChoose, idle_at}
use Rattle.bosh_base.specs.declared.call.Call.TheVariants.{Ping}
use Rattle.bosh_base.specs.declared.row.Vm.{Vm}
use Rattle.bosh_history.specs.Steps.{is_idle}
use Rattle.bosh_records.specs.Readers.{want_of}
use Rattle.bosh_rows.specs.CallOf.{next_call}
use Rattle.std.proofs.lemmas.Option.{slice_get-map}
use Rattle.laws_stands.proofs.NoneLemmas.{claim_is, in_later, in_no_early, no_disks, no_slots, no_swept}
use Rattle.laws_stands.proofs.NoneLemmas.{none_answered, none_asked, none_deleted, none_going, none_swept}
use Rattle.laws_stands.proofs.NoneLemmas.{slot_other, told_is}

module _ (m : Moment) (n worker : ℕ) (records : Records) (swept : List MachineName) (work : Work)
    (can : CanChoose m n records swept work) (none_failed : (m.known.task n).failed ≡ None) where
  abbrev k : Known
  k = m.known

  abbrev t : Task
  t = m.known.task n

  abbrev answer_of : Owner → Option Entry
  answer_of = answer k n (gives m n worker)

  -- ---- the phases one by one

  -- each phase that is before the updates, by what its first items give
  pub asks : list_any (λ i. not (t.pinged i)) t.to_ping ≡ true
      → claimed_of (in_phase records work worker (Some phases.Ask)) ≡ by_items m n worker (items k n)
  asks some =
      told_is (ping records work worker) ∙ ap told_of (asked_is m n worker records swept work can here)
      ∙ sym (claim_is m n worker records swept work can 0 here (of_asked k n (gives m n worker))
      (of (of_asked k n (gives m n worker)) (of_leaving k n (gives m n worker)) (of_changing k n (gives m n worker))
      (λ none. answers_none (λ i. answer_of (Instance i)) (filter (is_to_go t) t.obsolete)
      (λ j i is. covered none i))
      (λ none. answers_none (λ i. answer_of (Instance i)) t.changed (λ j i is. covered none i))))
    where
      first : (j : ℕ) × (i : Inst) × (slice_get t.to_ping j ≡ Some i) × (not (t.pinged i) ≡ true)
      first = any_at (λ i. not (t.pinged i)) t.to_ping some

      asked : is_to_ping t (first.1) ≡ true
      asked = λ j. among_from (first.1) t.to_ping (first.0) (first.2) j && first.3 j

      here : IsPresent k n 0
      here = record {
        none = none_before k n 0 (record {
          instances = λ i. never k n (Instance i);
          sweep = left_late k n 0 k.machines (omega arith);
          slots = λ s. never k n (Compile n s);
          disks = λ d. never k n (Disk d);
        });
        owner = Instance first.1;
        listed = λ p all. passes_among p Instance (is_to_ping t) t.to_ping first.0 first.1
            (parts_of k n p all).pings first.2 asked;
        left = asked_phase k n first.1 asked;
      }

      covered : of_asked k n (gives m n worker) ≡ None → (i : Inst) → answer_of (Instance i) ≡ None
      covered none i = by (is_to_ping t i) refl
        where
          by : (b : Bool) → is_to_ping t i ≡ b → answer_of (Instance i) ≡ None
          by true is =
              let parts : (is_among same_inst i t.to_ping ≡ true) × (not (t.pinged i) ≡ true) =
              and_parts (is_among same_inst i t.to_ping) (not (t.pinged i)) is in
              let at : (q : ℕ) × (slice_get t.to_ping q ≡ Some i) = among_at i t.to_ping parts.0 in
              let in_filter : (j : ℕ) × (slice_get (filter (is_to_ping t) t.to_ping) j ≡ Some i) =
              filtered_in (is_to_ping t) t.to_ping at.0 i at.1 is in
              none_answered (λ i. answer_of (Instance i)) (filter (is_to_ping t) t.to_ping) none in_filter.0 i
              in_filter.1
          by false calm = answer_of_others m n worker records swept work can 0 here (Instance i)
              (never k n (Instance i)) (in_no_early m n worker records swept work can 0 i (omega arith) calm)

      no_disk : (xs : List ℕ) → xs ≡ [] → t.disks ≡ xs → of_disks k n (gives m n worker) ≡ None
      no_disk xs empty is = ap (first_answer (λ d. answer_of (Disk d))) (is ∙ empty)

      not_asked : t.to_ping ≡ [] → of_disks k n (gives m n worker) ≡ None
      not_asked empty = absurd (false≢true (sym (ap (list_any (λ i. not (t.pinged i))) empty) ∙ some))

      disks : of_disks k n (gives m n worker) ≡ None
      disks = elim can.asks_or_deletes [
        | inl empty ↦ not_asked empty
        | inr empty ↦ no_disk t.disks empty refl
      ]

      of : (a d e : Option Entry) → (a ≡ None → d ≡ None) → (a ≡ None → e ≡ None)
          → option_or
          (option_or
          (option_or (option_or (option_or a (of_swept k n (gives m n worker)))
          (of_slots k n (gives m n worker))) d) e) (of_disks k n (gives m n worker)) ≡ a
      of (Some entry) d e no_d no_e = refl
      of None d e no_d no_e =
          (λ j. option_or
          (option_or
          (option_or (option_or (no_swept m n worker records swept work can 0 here refl j)
          (no_slots m n worker records swept work can 0 here (λ s. never k n (Compile n s))
          (λ s. slot_other m n worker records swept work can 0 s refl) j)) (no_d refl j)) (no_e refl j))
          (disks j))

  -- no instance is asked
  module _ (calm : (i : Inst) → is_to_ping t i ≡ false) where
    asked_none : (f : Inst → Option Entry) → first_answer f (filter (is_to_ping t) t.to_ping) ≡ None
    asked_none f = ap (first_answer f) (none_left t.to_ping)
      where
        none_left : (xs : List Inst) → filter (is_to_ping t) xs ≡ []
        none_left [] = refl
        none_left (x ∷ xs) = (λ j. if calm x j then x ∷ filter (is_to_ping t) xs else filter (is_to_ping t) xs)
            ∙ none_left xs

    going_none : (p : ℕ) → IsPresent k n p → p ≤ 2 → of_leaving k n (gives m n worker) ≡ None
    going_none p here low =
        answers_none (λ i. answer_of (Instance i)) (filter (is_to_go t) t.obsolete)
        (λ j i is. answer_of_others m n worker records swept work can p here (Instance i)
        (unasked_late k n p i (omega arith) (calm i)) (in_no_early m n worker records swept work can p i low
        (calm i)))

    changing_none : (p : ℕ) → IsPresent k n p → p ≤ 2 → of_changing k n (gives m n worker) ≡ None
    changing_none p here low =
        answers_none (λ i. answer_of (Instance i)) t.changed
        (λ j i is. answer_of_others m n worker records swept work can p here (Instance i)
        (unasked_late k n p i (omega arith) (calm i)) (in_no_early m n worker records swept work can p i low
        (calm i)))

    pub deletes : list_any (λ d. is_some (k.orphan d)) t.disks ≡ true
        → claimed_of (in_phase records work worker (Some phases.DeleteDisks)) ≡ by_items m n worker (items k n)
    deletes some =
        told_is (begun_by records work worker (sweeps.disk_call records work))
        ∙ ap told_of (disks_are m n worker records swept work can here)
        ∙ sym (claim_is m n worker records swept work can 0 here (of_disks k n (gives m n worker))
        (λ j. option_or
        (option_or
        (option_or
        (option_or (option_or (asked_none (λ i. answer_of (Instance i)) j)
        (no_swept m n worker records swept work can 0 here refl j))
        (no_slots m n worker records swept work can 0 here (λ s. never k n (Compile n s))
        (λ s. slot_other m n worker records swept work can 0 s refl) j)) (going_none 0 here (omega arith) j))
        (changing_none 0 here (omega arith) j)) (of_disks k n (gives m n worker))))
      where
        first : (j : ℕ) × (d : ℕ) × (slice_get t.disks j ≡ Some d) × (is_some (k.orphan d) ≡ true)
        first = any_at (λ d. is_some (k.orphan d)) t.disks some

        number_among : (xs : List ℕ) (j d : ℕ) → slice_get xs j ≡ Some d → is_among eqb d xs ≡ true
        number_among [] j d is = absurd cc
        number_among (x ∷ xs) zero d is = let e : x ≡ d = cc in ap (λ b. b || is_among eqb d xs)
            (eq-eqb d x (sym e))
        number_among (x ∷ xs) (suc j) d is = or_right (eqb d x) (is_among eqb d xs) (number_among xs j d is)

        here : IsPresent k n 0
        here = record {
          none = none_before k n 0 (record {
            instances = λ i. never k n (Instance i);
            sweep = left_late k n 0 k.machines (omega arith);
            slots = λ s. never k n (Compile n s);
            disks = λ d. never k n (Disk d);
          });
          owner = Disk first.1;
          listed = λ p all. passes_in p Disk t.disks first.0 first.1 (parts_of k n p all).disks first.2;
          left = disk_phase k n first.1 (number_among t.disks first.0 first.1 first.2) first.3;
        }

    -- no disk is deleted
    module _ (gone : (d : ℕ) → (is_among eqb d t.disks && is_some (k.orphan d)) ≡ false) where
      pub sweeps_one : list_any (λ (name : MachineName). is_some (k.slot name.task name.slot)) swept ≡ true
          → claimed_of (in_phase records work worker (Some phases.Sweep)) ≡ by_items m n worker (items k n)
      sweeps_one some =
          told_is (begun_by records work worker (sweeps.sweep_call records work))
          ∙ ap told_of (sweep_is m n worker records swept work can here)
          ∙ sym (claim_is m n worker records swept work can 1 here (of_swept k n (gives m n worker))
          ((λ j. option_or
          (option_or
          (option_or
          (option_or (option_or (asked_none (λ i. answer_of (Instance i)) j) (of_swept k n (gives m n worker)))
          (no_slots m n worker records swept work can 1 here (λ s. own_late k n 1 s (omega arith))
          (λ s. slot_other m n worker records swept work can 1 s refl) j)) (going_none 1 here (omega arith) j))
          (changing_none 1 here (omega arith) j)) (no_disks m n worker records swept work can 1 here gone j))
          ∙ of (of_swept k n (gives m n worker))))
        where
          of : (o : Option Entry) → option_or (option_or (option_or (option_or o None) None) None) None ≡ o
          of (Some e) = refl
          of None = refl

          -- one of those that were left over is still there
          first : (j : ℕ) × (name : SlotName) × (slice_get (filter (is_leftover k n) k.machines) j ≡ Some name)
          first =
              let at : (j : ℕ) × (name : MachineName) × (slice_get swept j ≡ Some name)
              × (is_some (k.slot name.task name.slot) ≡ true) =
              any_at (λ (name : MachineName). is_some (k.slot name.task name.slot)) swept some in
              let in_filter : (j : ℕ)
              × (slice_get (filter (λ (name : MachineName). is_some (k.slot name.task name.slot)) swept) j
              ≡ Some at.1) = filtered_at (λ name. is_some (k.slot name.task name.slot)) swept at.0 at.1 at.2
              at.3 in (
                in_filter.0,
                record { task = (at.1).task; slot = (at.1).slot },
                ap (λ xs. slice_get xs in_filter.0) (sym can.are_swept)
                    ∙ slice_get-map (λ (name : MachineName). record { task = name.task; slot = name.slot })
                    (filter (λ (name : MachineName). is_some (k.slot name.task name.slot)) swept) in_filter.0
                    ∙ ap (option_map (λ (name : MachineName). record { task = name.task; slot = name.slot }))
                    in_filter.1,
              )
            where
              filtered_at : (p : MachineName → Bool) (xs : List MachineName) (j : ℕ) (x : MachineName)
                  → slice_get xs j ≡ Some x → p x ≡ true → (q : ℕ) × (slice_get (filter p xs) q ≡ Some x)
              filtered_at p [] j x is here = absurd cc
              filtered_at p (y ∷ xs) zero x is here = let e : y ≡ x =
                  cc in (
                    0,
                    (λ i. slice_get (if (ap p e ∙ here) i then y ∷ filter p xs else filter p xs) 0)
                        ∙ ap Some e,
                  )
              filtered_at p (y ∷ xs) (suc j) x is here = by (p y) (filtered_at p xs j x is here)
                where
                  by : (b : Bool) → (q : ℕ) × (slice_get (filter p xs) q ≡ Some x) → (q : ℕ)
                      × (slice_get (if b then y ∷ filter p xs else filter p xs) q ≡ Some x)
                  by true r = (suc r.0, r.1)
                  by false r = r

          passes : (xs : List SlotName) (j : ℕ) (name : SlotName) → slice_get (filter (is_leftover k n) xs) j
              ≡ Some name → is_leftover k n name ≡ true
          passes [] j name is = absurd cc
          passes (x ∷ xs) j name is = by (is_leftover k n x) refl j is (λ j is. passes xs j name is)
            where
              by : (b : Bool) → is_leftover k n x ≡ b → (j : ℕ)
                  → slice_get (if b then x ∷ filter (is_leftover k n) xs else filter (is_leftover k n) xs) j
                  ≡ Some name
                  → ((j : ℕ) → slice_get (filter (is_leftover k n) xs) j ≡ Some name → is_leftover k n name ≡ true)
                  → is_leftover k n name ≡ true
              by true left zero is more = let e : x ≡ name = cc in ap (is_leftover k n) (sym e) ∙ left
              by true left (suc j) is more = more j is
              by false left j is more = more j is

          here : IsPresent k n 1
          here = record {
            none = none_before k n 1 (record {
              instances = λ i. unasked_late k n 1 i (omega arith) (calm i);
              sweep = left_late k n 1 k.machines (omega arith);
              slots = λ s. own_late k n 1 s (omega arith);
              disks = λ d. gone_late k n 1 d (gone d);
            });
            owner = machine_owner k n first.1;
            listed = λ p all. passes_in p (machine_owner k n) (filter (is_leftover k n) k.machines) first.0 first.1
                (parts_of k n p all).sweep first.2;
            left = left_phase k n first.1 (passes k.machines first.0 first.1 first.2);
          }

      -- no machine is left over
      module _ (clean : filter (is_leftover k n) k.machines ≡ []) where
        clean_late : (p : ℕ)
            → list_all (not_before k n p) (map (machine_owner k n) (filter (is_leftover k n) k.machines)) ≡ true
        clean_late p = ap (λ xs. list_all (not_before k n p) (map (machine_owner k n) xs)) clean

        swept_none : (f : SlotName → Option Entry) → first_answer f (filter (is_leftover k n) k.machines) ≡ None
        swept_none f = ap (first_answer f) clean

        pub compiles : has_to_compile records work ≡ true
            → claimed_of (in_phase records work worker (Some phases.Compile)) ≡ by_items m n worker (items k n)
        compiles some =
            told_is (begun_by records work worker (slots.slot_call records work))
            ∙ ap told_of (slots_are m n worker records swept work can here)
            ∙ sym (claim_is m n worker records swept work can 2 here (of_slots k n (gives m n worker))
            ((λ j. option_or
            (option_or
            (option_or
            (option_or (option_or (asked_none (λ i. answer_of (Instance i)) j)
            (swept_none (λ name. answer_of (machine_owner k n name)) j)) (of_slots k n (gives m n worker)))
            (going_none 2 here (omega arith) j)) (changing_none 2 here (omega arith) j))
            (no_disks m n worker records swept work can 2 here gone j))
            ∙ of (of_slots k n (gives m n worker))))
          where
            of : (o : Option Entry) → option_or (option_or (option_or o None) None) None ≡ o
            of (Some e) = refl
            of None = refl

            first : (s : ℕ) × (s < length (slots_of t.goal)) × (is_slot_left k n s ≡ true)
            first = compiles_some m n worker records swept work can some

            here : IsPresent k n 2
            here = record {
              none = none_before k n 2 (record {
                instances = λ i. unasked_late k n 2 i (omega arith) (calm i);
                sweep = clean_late 2;
                slots = λ s. own_late k n 2 s (omega arith);
                disks = λ d. gone_late k n 2 d (gone d);
              });
              owner = Compile n first.0;
              listed = λ p all. passes_below p (Compile n) (length (slots_of t.goal)) first.0
                  (parts_of k n p all).slots first.1;
              left = own_phase k n first.0 ∙ ap (λ b. if b then Some 2 else None) first.2;
            }

        -- nothing is to be compiled
        module _ (compiled : (s : ℕ) → is_slot_left k n s ≡ false) where
          pub leaves : list_any (λ i. not (t.gone i)) t.obsolete ≡ true
              → claimed_of (in_phase records work worker (Some phases.Leave)) ≡ by_items m n worker (items k n)
          leaves some =
              told_is (leaving_entry records work worker)
              ∙ ap told_of (leaving_is m n worker records swept work can here calm)
              ∙ sym (claim_is m n worker records swept work can 3 here (of_leaving k n (gives m n worker))
              ((λ j. option_or
              (option_or
              (option_or
              (option_or (option_or (asked_none (λ i. answer_of (Instance i)) j)
              (swept_none (λ name. answer_of (machine_owner k n name)) j))
              (no_slots m n worker records swept work can 3 here (λ s. over_late k n 3 s (compiled s))
              (λ s. slot_other m n worker records swept work can 3 s refl) j))
              (of_leaving k n (gives m n worker))) (of_changing k n (gives m n worker)))
              (no_disks m n worker records swept work can 3 here gone j))
              ∙ of (of_leaving k n (gives m n worker)) (of_changing k n (gives m n worker))
              (λ none. answers_none (λ i. answer_of (Instance i)) t.changed (λ j i is. covered none i))))
            where
              of : (d e : Option Entry) → (d ≡ None → e ≡ None) → option_or (option_or d e) None ≡ d
              of (Some entry) e none = refl
              of None e none = ap (λ o. option_or o None) (none refl)

              first : (j : ℕ) × (i : Inst) × (slice_get t.obsolete j ≡ Some i) × (not (t.gone i) ≡ true)
              first = any_at (λ i. not (t.gone i)) t.obsolete some

              goes : is_to_go t (first.1) ≡ true
              goes = λ j. among_from (first.1) t.obsolete (first.0) (first.2) j && first.3 j

              here : IsPresent k n 3
              here = record {
                none = none_before k n 3 (record {
                  instances = λ i. unasked_late k n 3 i (omega arith) (calm i);
                  sweep = clean_late 3;
                  slots = λ s. over_late k n 3 s (compiled s);
                  disks = λ d. gone_late k n 3 d (gone d);
                });
                owner = Instance first.1;
                listed = λ p all. passes_among p Instance (is_to_go t) t.obsolete first.0 first.1
                    (parts_of k n p all).obsolete first.2 goes;
                left = going_phase k n first.1 (calm first.1) goes;
              }

              covered : of_leaving k n (gives m n worker) ≡ None → (i : Inst) → answer_of (Instance i) ≡ None
              covered none i = by (is_to_go t i) refl
                where
                  by : (b : Bool) → is_to_go t i ≡ b → answer_of (Instance i) ≡ None
                  by true is =
                      let parts : (is_among same_inst i t.obsolete ≡ true) × (not (t.gone i) ≡ true) =
                      and_parts (is_among same_inst i t.obsolete) (not (t.gone i)) is in
                      let at : (q : ℕ) × (slice_get t.obsolete q ≡ Some i) = among_at i t.obsolete parts.0 in
                      let in_filter : (j : ℕ) × (slice_get (filter (is_to_go t) t.obsolete) j ≡ Some i) =
                      filtered_in (is_to_go t) t.obsolete at.0 i at.1 is in
                      none_answered (λ i. answer_of (Instance i)) (filter (is_to_go t) t.obsolete) none in_filter.0
                      i in_filter.1
                  by false stays = answer_of_others m n worker records swept work can 3 here (Instance i)
                      (unasked_late k n 3 i (omega arith) (calm i)) (in_later m n worker records swept work can 3 i
                      (omega arith) (calm i) stays)

          -- no instance goes
          module _ (stay : (i : Inst) → is_to_go t i ≡ false) where
            updates : Updates m n records work
            updates = record {
              task_is = can.task_is;
              changed_are = can.changed_are;
              number_is = can.number_is;
              steps_are = λ i among. step_is m n worker records swept work can (want_of records i) i
                  ∙ ap (λ want. next_call want (k.row i)) (can.wants_are i among)
                  ∙ sym (λ j. if calm i j then option_map (λ (it : Vm). Ping it.vm) (k.row i).vm
                  else next_call (if stay i j then None else want_in t.goal i) (k.row i));
              early = none_before k n 4 (record {
                instances = λ i. changing_late k n i (calm i) (stay i);
                sweep = clean_late 4;
                slots = λ s. over_late k n 4 s (compiled s);
                disks = λ d. gone_late k n 4 d (gone d);
              });
              groups_stand = can.groups_stand;
              can = record {
                are_apart = can.are_apart;
                none_failed = none_failed;
                are_told = can.are_told;
                rest = rest;
              };
            }
              where
                idles : (u : Upd) → is_waiting u ≡ true → is_busy u ≡ false
                idles Todo is = refl
                idles Busy is = absurd (false≢true is)
                idles Finished is = absurd (false≢true is)
                idles Failed is = absurd (false≢true is)

                rest : (i : Inst) → is_among same_inst i t.changed ≡ true → is_waiting (t.upd i) ≡ true
                    → idle_at m i ≡ true
                rest i among waits = by (idle_at m i) refl
                  where
                    by : (b : Bool) → idle_at m i ≡ b → idle_at m i ≡ true
                    by true is = is
                    by false is =
                        absurd (true≢false (sym (can.begun i is among waits)
                        ∙ (λ j. calm i j || (stay i j || idles (t.upd i) waits j))))

            pub updates_next : claimed_of
                (in_phase records work worker (option_map phases.Update (least_stage work.groups)))
                ≡ by_items m n worker (items k n)
            updates_next = updates_are m n worker records work updates

  -- ---- all phases

  abbrev chosen : Option Phase → Type 0
  chosen phase = claimed_of (in_phase records work worker phase) ≡ by_items m n worker (items k n)

  finished : (b : Bool) → list_any (λ i. not (t.pinged i)) t.to_ping ≡ b → is_finished work.pings.queue ≡ not b
  finished b is = over_is t.to_ping (λ i. not (t.pinged i)) (idle_at m) work.pings can.pings ∙ ap not is

  -- what is present after each phase
  abbrev after_leave : Option Phase
  after_leave = option_map phases.Update (least_stage work.groups)

  abbrev after_compile : Option Phase
  after_compile = if not (is_finished work.obsolete.queue) then Some phases.Leave else after_leave

  abbrev after_sweep : Option Phase
  after_sweep = if has_to_compile records work then Some phases.Compile else after_compile

  abbrev after_disks : Option Phase
  after_disks = if not (is_finished work.sweep.queue) then Some phases.Sweep else after_sweep

  abbrev after_pings : Option Phase
  after_pings = if not (is_finished work.disks.queue) then Some phases.DeleteDisks else after_disks

  pub choice_is : claimed_of (in_phase records work worker (present records work)) ≡ by_items m n worker (items k n)
  choice_is = ask (list_any (λ i. not (t.pinged i)) t.to_ping) refl
    where
      leave : (calm : (i : Inst) → is_to_ping t i ≡ false) (gone : (d : ℕ)
          → (is_among eqb d t.disks && is_some (k.orphan d)) ≡ false)
          (clean : filter (is_leftover k n) k.machines ≡ []) (compiled : (s : ℕ) → is_slot_left k n s ≡ false)
          (b : Bool) → list_any (λ i. not (t.gone i)) t.obsolete ≡ b → chosen after_compile
      leave calm gone clean compiled b is = subst (λ c. chosen (if not c then Some phases.Leave else after_leave))
          (sym (over_is t.obsolete (λ i. not (t.gone i)) (idle_at m) work.obsolete can.obsolete ∙ ap not is))
          (by b is)
        where
          by : (b : Bool) → list_any (λ i. not (t.gone i)) t.obsolete ≡ b
              → chosen (if not (not b) then Some phases.Leave else after_leave)
          by true is = leaves calm gone clean compiled is
          by false is = updates_next calm gone clean compiled (none_going m n worker records swept work can is)

      compile : (calm : (i : Inst) → is_to_ping t i ≡ false) (gone : (d : ℕ)
          → (is_among eqb d t.disks && is_some (k.orphan d)) ≡ false)
          (clean : filter (is_leftover k n) k.machines ≡ []) (b : Bool) → has_to_compile records work ≡ b
          → chosen after_sweep
      compile calm gone clean b is = subst (λ c. chosen (if c then Some phases.Compile else after_compile)) (sym is)
          (by b is)
        where
          by : (b : Bool) → has_to_compile records work ≡ b
              → chosen (if b then Some phases.Compile else after_compile)
          by true is = compiles calm gone clean is
          by false is = leave calm gone clean (compiles_none m n worker records swept work can is)
              (list_any (λ i. not (t.gone i)) t.obsolete) refl

      sweep : (calm : (i : Inst) → is_to_ping t i ≡ false) (gone : (d : ℕ)
          → (is_among eqb d t.disks && is_some (k.orphan d)) ≡ false)
          (b : Bool) → list_any (λ (name : MachineName). is_some (k.slot name.task name.slot)) swept ≡ b
          → chosen after_disks
      sweep calm gone b is =
          subst (λ c. chosen (if not c then Some phases.Sweep else after_sweep))
          (sym (over_is swept (λ name. is_some (k.slot name.task name.slot))
          (λ name. is_idle m (Compile name.task name.slot)) work.sweep can.sweep ∙ ap not is)) (by b is)
        where
          by : (b : Bool) → list_any (λ (name : MachineName). is_some (k.slot name.task name.slot)) swept ≡ b
              → chosen (if not (not b) then Some phases.Sweep else after_sweep)
          by true is = sweeps_one calm gone is
          by false is = compile calm gone (none_swept m n worker records swept work can is)
              (has_to_compile records work) refl

      delete : (calm : (i : Inst) → is_to_ping t i ≡ false) (b : Bool)
          → list_any (λ d. is_some (k.orphan d)) t.disks ≡ b → chosen after_pings
      delete calm b is =
          subst (λ c. chosen (if not c then Some phases.DeleteDisks else after_disks))
          (sym (over_is t.disks (λ d. is_some (k.orphan d)) (λ d. is_idle m (Disk d)) work.disks can.disks
          ∙ ap not is)) (by b is)
        where
          by : (b : Bool) → list_any (λ d. is_some (k.orphan d)) t.disks ≡ b
              → chosen (if not (not b) then Some phases.DeleteDisks else after_disks)
          by true is = deletes calm is
          by false is = sweep calm (none_deleted m n worker records swept work can is)
              (list_any (λ (name : MachineName). is_some (k.slot name.task name.slot)) swept) refl

      ask : (b : Bool) → list_any (λ i. not (t.pinged i)) t.to_ping ≡ b → chosen (present records work)
      ask b is = subst (λ c. chosen (if not c then Some phases.Ask else after_pings)) (sym (finished b is))
          (by b is)
        where
          by : (b : Bool) → list_any (λ i. not (t.pinged i)) t.to_ping ≡ b
              → chosen (if not (not b) then Some phases.Ask else after_pings)
          by true is = asks is
          by false is = delete (none_asked m n worker records swept work can is)
              (list_any (λ d. is_some (k.orphan d)) t.disks) refl
