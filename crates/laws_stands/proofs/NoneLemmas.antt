-- Parts of the answer of a claim, where nothing is left of a phase.
use Rattle.std.proofs.Common.{◌≡◌, ◌∙◌, ℕ, ◌+◌, ◌≤◌, zero, suc, Bool, true, false, ◌&&◌, ◌||◌, not, List, []}
use Rattle.std.proofs.Common.{◌∷◌, length, map, filter, Option, Some, None, ap, refl, sym, arith}
use Rattle.std.specs.Prelude.{◌==◌, eqb, is_some, slice_get, if◌then◌else◌}
use Rattle.std.specs.List.{list_all, list_any}
use Rattle.std.specs.Option.{option_or}
use Rattle.std.proofs.lemmas.Bool.{and_parts, eqb-true, false≢true, or_parts}
use Rattle.std.proofs.lemmas.Bool.Decides.{nat_tests}
use Rattle.bosh_base.specs.declared.entry.Entry.{Entry}
use Rattle.bosh_base.specs.declared.inst.Inst.{Inst}
use Rattle.bosh_base.specs.declared.owner.Owner.{Owner}
use Rattle.bosh_base.specs.declared.owner.Owner.TheVariants.{Instance, Compile, Disk}
use Rattle.bosh_claim.specs.Choice.{or_waits}
use Rattle.bosh_claim.specs.Phase.{present}
use Rattle.bosh_history.specs.Claim.{by_items}
use Rattle.bosh_history.specs.Items.{is_leftover, is_slot_left, is_to_change, is_to_go}
use Rattle.bosh_history.specs.Items.{is_to_ping, items, phase_of, slots_of, stage_of}
use Rattle.bosh_history.specs.Known.{Known, SlotName, Task, plan_in}
use Rattle.bosh_history.specs.Moments.{Moment}
use Rattle.bosh_history.specs.Words.{is_among, numbers_below}
use Rattle.bosh_records.specs.declared.records.Records.{Records}
use Rattle.bosh_rows.specs.Same.{same_inst}
use Rattle.bosh_work.specs.declared.part.MachineName.{MachineName}
use Rattle.bosh_work.specs.declared.work.Work.{Work}
use Rattle.laws_stands.specs.Agrees.{claimed_of}
use Rattle.laws_stands.proofs.AnswerLemmas.{answers_none, by_items_is, first_answer, gives, told_of}
use Rattle.laws_stands.proofs.ItemLemmas.{among_at}
use Rattle.laws_stands.proofs.AskLemmas.{answer_of_others}
use Rattle.laws_stands.proofs.PhaseLemmas.{IsPresent, answer, answers_are, is_phase, machine_owner}
use Rattle.laws_stands.proofs.PhaseLemmas.{not_before, of_asked, of_changing, of_disks, of_leaving}
use Rattle.laws_stands.proofs.PhaseLemmas.{of_slots, of_swept, parts_of, some_items}
use Rattle.laws_stands.proofs.PremiseLemmas.{changing_phase}
use Rattle.laws_stands.proofs.PremiseLemmas.{going_phase, gone_late, left_phase, none_at}
use Rattle.laws_stands.proofs.PremiseLemmas.{own_phase}
use Rattle.laws_stands.specs.Choosing.{CanChoose}

-- ---- parts of the answer

pub told_is : (o : Option Entry) → claimed_of (or_waits o) ≡ told_of o
told_is (Some entry) = refl
told_is None = refl

-- where the first answer is none, each is
pub none_answered : {X : Type 0} (f : X → Option Entry) (xs : List X) → first_answer f xs ≡ None → (j : ℕ) (x : X)
    → slice_get xs j ≡ Some x → f x ≡ None
none_answered f [] none j x is = absurd cc
none_answered f (y ∷ xs) none j x is = by (f y) refl none j is (λ none j is. none_answered f xs none j x is)
  where
    by : (o : Option Entry) → f y ≡ o → option_or o (first_answer f xs) ≡ None → (j : ℕ) → slice_get (y ∷ xs) j
        ≡ Some x
        → (first_answer f xs ≡ None → (j : ℕ) → slice_get xs j ≡ Some x → f x ≡ None) → f x ≡ None
    by (Some e) own none j is more = absurd cc
    by None own none zero is more = let e : y ≡ x = cc in ap f (sym e) ∙ own
    by None own none (suc j) is more = more none j is

module _ (m : Moment) (n worker : ℕ) (records : Records) (swept : List MachineName) (work : Work)
    (can : CanChoose m n records swept work) where
  abbrev k : Known
  k = m.known

  abbrev t : Task
  t = m.known.task n

  abbrev answer_of : Owner → Option Entry
  answer_of = answer k n (gives m n worker)

  -- by the parts
  pub claim_is : (phase : ℕ) → IsPresent k n phase → (o : Option Entry)
      → option_or
      (option_or
      (option_or (option_or (option_or (of_asked k n (gives m n worker)) (of_swept k n (gives m n worker)))
      (of_slots k n (gives m n worker))) (of_leaving k n (gives m n worker)))
      (of_changing k n (gives m n worker))) (of_disks k n (gives m n worker)) ≡ o
      → by_items m n worker (items k n) ≡ told_of o
  claim_is phase present o is = by_items_is m n worker (items k n) (some_items k n phase present)
      ∙ ap told_of (answers_are k n (gives m n worker) ∙ is)

  -- ---- nothing is left of a phase

  pub none_asked : list_any (λ i. not (t.pinged i)) t.to_ping ≡ false → (i : Inst) → is_to_ping t i ≡ false
  none_asked none i = by (is_among same_inst i t.to_ping) refl
    where
      by : (b : Bool) → is_among same_inst i t.to_ping ≡ b → (is_among same_inst i t.to_ping && not (t.pinged i))
          ≡ false
      by false out = ap (λ b. b && not (t.pinged i)) out
      by true is = let at : (q : ℕ) × (slice_get t.to_ping q ≡ Some i) = among_at i t.to_ping is in
          (λ j. is j && none_at (λ i. not (t.pinged i)) t.to_ping at.0 i none at.1 j)

  pub none_going : list_any (λ i. not (t.gone i)) t.obsolete ≡ false → (i : Inst) → is_to_go t i ≡ false
  none_going none i = by (is_among same_inst i t.obsolete) refl
    where
      by : (b : Bool) → is_among same_inst i t.obsolete ≡ b → (is_among same_inst i t.obsolete && not (t.gone i))
          ≡ false
      by false out = ap (λ b. b && not (t.gone i)) out
      by true is = let at : (q : ℕ) × (slice_get t.obsolete q ≡ Some i) = among_at i t.obsolete is in
          (λ j. is j && none_at (λ i. not (t.gone i)) t.obsolete at.0 i none at.1 j)

  disk_at : (d : ℕ) (xs : List ℕ) → is_among eqb d xs ≡ true → (q : ℕ) × (slice_get xs q ≡ Some d)
  disk_at d [] is = absurd (false≢true is)
  disk_at d (x ∷ xs) is = by (eqb d x) refl is (λ is. disk_at d xs is)
    where
      by : (b : Bool) → eqb d x ≡ b → (b || is_among eqb d xs) ≡ true
          → (is_among eqb d xs ≡ true → (q : ℕ) × (slice_get xs q ≡ Some d)) → (q : ℕ)
          × (slice_get (x ∷ xs) q ≡ Some d)
      by true same is more = (0, ap Some (sym (eqb-true d x same)))
      by false other is more = let r : (q : ℕ) × (slice_get xs q ≡ Some d) = more is in (suc r.0, r.1)

  pub none_deleted : list_any (λ d. is_some (k.orphan d)) t.disks ≡ false → (d : ℕ)
      → (is_among eqb d t.disks && is_some (k.orphan d)) ≡ false
  none_deleted none d = by (is_among eqb d t.disks) refl
    where
      by : (b : Bool) → is_among eqb d t.disks ≡ b → (is_among eqb d t.disks && is_some (k.orphan d)) ≡ false
      by false out = ap (λ b. b && is_some (k.orphan d)) out
      by true is = let at : (q : ℕ) × (slice_get t.disks q ≡ Some d) = disk_at d t.disks is in
          (λ j. is j && none_at (λ d. is_some (k.orphan d)) t.disks at.0 d none at.1 j)

  none_filtered : (p : MachineName → Bool) (xs : List MachineName) → list_any p xs ≡ false → filter p xs ≡ []
  none_filtered p [] none = refl
  none_filtered p (x ∷ xs) none =
      let parts : (p x ≡ false) × (list_any p xs ≡ false) = or_parts (p x) (list_any p xs) none in
      (λ j. if parts.0 j then x ∷ filter p xs else filter p xs) ∙ none_filtered p xs parts.1

  pub none_swept : list_any (λ (name : MachineName). is_some (k.slot name.task name.slot)) swept ≡ false
      → filter (is_leftover k n) k.machines ≡ []
  none_swept none =
      sym can.are_swept ∙ ap (map (λ (name : MachineName). record { task = name.task; slot = name.slot }))
      (none_filtered (λ name. is_some (k.slot name.task name.slot)) swept none)

  -- ---- parts that have no item of a phase

  -- owners in no phase, or in another
  pub no_swept : (p : ℕ) → IsPresent k n p → (1 == p) ≡ false → of_swept k n (gives m n worker) ≡ None
  no_swept p present other = in_list k.machines (parts_of k n (not_before k n p) present.none).sweep
    where
      in_list : (xs : List SlotName)
          → list_all (not_before k n p) (map (machine_owner k n) (filter (is_leftover k n) xs)) ≡ true
          → first_answer (λ name. answer_of (machine_owner k n name)) (filter (is_leftover k n) xs) ≡ None
      in_list [] late = refl
      in_list (name ∷ xs) late = by (is_leftover k n name) refl late (λ late. in_list xs late)
        where
          by : (b : Bool) → is_leftover k n name ≡ b
              → list_all (not_before k n p)
              (map (machine_owner k n) (if b then name ∷ filter (is_leftover k n) xs
              else filter (is_leftover k n) xs)) ≡ true
              → (list_all (not_before k n p) (map (machine_owner k n) (filter (is_leftover k n) xs)) ≡ true
              → first_answer (λ name. answer_of (machine_owner k n name)) (filter (is_leftover k n) xs) ≡ None)
              → first_answer (λ name. answer_of (machine_owner k n name))
              (if b then name ∷ filter (is_leftover k n) xs else filter (is_leftover k n) xs) ≡ None
          by true left late more =
              let parts : (not_before k n p (machine_owner k n name) ≡ true)
              × (list_all (not_before k n p) (map (machine_owner k n) (filter (is_leftover k n) xs)) ≡ true) =
              and_parts (not_before k n p (machine_owner k n name)) _ late in
              λ j. option_or (answer_of_others m n worker records swept work can p present
              (machine_owner k n name) parts.0 (ap (is_phase k n p) (left_phase k n name left) ∙ other) j)
              (more parts.1 j)
          by false left late more = more late

  pub no_slots : (p : ℕ) → IsPresent k n p → ((s : ℕ) → not_before k n p (Compile n s) ≡ true)
      → ((s : ℕ) → is_phase k n p (phase_of k n (Compile n s)) ≡ false) → of_slots k n (gives m n worker) ≡ None
  no_slots p present late other =
      answers_none (λ s. answer_of (Compile n s)) (numbers_below (length (slots_of t.goal)))
      (λ j s is. answer_of_others m n worker records swept work can p present (Compile n s) (late s) (other s))

  pub no_disks : (p : ℕ) → IsPresent k n p → ((d : ℕ) → (is_among eqb d t.disks && is_some (k.orphan d)) ≡ false)
      → of_disks k n (gives m n worker) ≡ None
  no_disks p present gone =
      answers_none (λ d. answer_of (Disk d)) t.disks
      (λ j d is. answer_of_others m n worker records swept work can p present (Disk d) (gone_late k n p d (gone d))
      (ap (λ b. is_phase k n p (if b then Some 0 else None)) (gone d)))

  -- an instance that is neither asked nor goes is in a later phase
  pub in_later : (p : ℕ) (i : Inst) → p ≤ 3 → is_to_ping t i ≡ false → is_to_go t i ≡ false
      → is_phase k n p (phase_of k n (Instance i)) ≡ false
  in_later p i low calm stays = ap (is_phase k n p) (changing_phase k n i calm stays) ∙ by (is_to_change t i)
    where
      by : (b : Bool) → is_phase k n p (if b then Some (4 + stage_of (plan_in t.goal i)) else None) ≡ false
      by true = grind (arith, nat_tests)
      by false = refl

  -- .. and one that is not asked is not in the first ones
  pub in_no_early : (p : ℕ) (i : Inst) → p ≤ 2 → is_to_ping t i ≡ false → is_phase k n p (phase_of k n (Instance i))
      ≡ false
  in_no_early p i low calm = by (is_to_go t i) refl
    where
      by : (b : Bool) → is_to_go t i ≡ b → is_phase k n p (phase_of k n (Instance i)) ≡ false
      by true goes = ap (is_phase k n p) (going_phase k n i calm goes) ∙ differs
        where
          differs : (3 == p) ≡ false
          differs = grind (arith, nat_tests)
      by false stays = in_later p i (omega arith) calm stays

  pub slot_other : (p s : ℕ) → (2 == p) ≡ false → is_phase k n p (phase_of k n (Compile n s)) ≡ false
  slot_other p s other = ap (is_phase k n p) (own_phase k n s) ∙ by (is_slot_left k n s)
    where
      by : (b : Bool) → is_phase k n p (if b then Some 2 else None) ≡ false
      by true = other
      by false = refl
