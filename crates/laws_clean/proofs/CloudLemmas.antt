-- What is lost and what is silent, once a call was performed: no loss is new, and no creation in doubt turns out
-- silent, for a machine that is silent was there before.
use Rattle.std.proofs.Common.{◌≡◌, ◌∙◌, ℕ, ◌≤◌, ◌<◌, Bool, true, false, Option, Some, None, List, [], ◌∷◌, ◌++◌}
use Rattle.std.proofs.Common.{ap, arith, refl, sym}
use Rattle.std.specs.Prelude.{◌&&◌, ◌||◌, ◌==◌, eqb, nat_lt, not}
use Rattle.std.specs.List.{list_any}
use Rattle.std.proofs.lemmas.Bool.{eq-eqb, eqb-true, false≢true}
use Rattle.std.proofs.lemmas.Bool.Decides.{nat_tests}
use Rattle.bosh_base.proofs.HistoryLemmas.{latest_last}
use Rattle.bosh_base.specs.CallStep.{found_vm, has_agent, has_number}
use Rattle.bosh_base.specs.Cloud.{is_silent, is_vm_there, numbers_to, silence, vm_creation, vms_created}
use Rattle.bosh_base.specs.declared.call.Call.{Call}
use Rattle.bosh_base.specs.declared.call.Call.TheVariants as calls
use Rattle.bosh_base.specs.declared.entry.Effect.{Effect}
use Rattle.bosh_base.specs.declared.entry.Entry.{Entry}
use Rattle.bosh_base.specs.declared.entry.Entry.TheVariants as entries
use Rattle.bosh_base.specs.declared.inst.Inst.{Inst}
use Rattle.bosh_base.specs.declared.make.Make.{Make}
use Rattle.bosh_base.specs.declared.owner.Owner.TheVariants.{Instance}
use Rattle.bosh_base.specs.declared.row.Doubt.{Doubt}
use Rattle.bosh_base.specs.declared.row.Row.{Row}
use Rattle.bosh_base.specs.declared.row.Vm.{Vm}
use Rattle.bosh_history.specs.Moments.{Moment}
use Rattle.bosh_history.specs.Ties.{belongs_to, is_number, is_owned}
use Rattle.bosh_history.specs.Words.{holds}
use Rattle.bosh_lawful.specs.Clean.{creates_silent, is_silent_creation}
use Rattle.bosh_rows.specs.After.{with_machine}
use Rattle.bosh_rows.specs.Same.{same_owner}
use Rattle.bosh_rows.specs.Tied.{as_done, is_named_lost, number_of}
use Rattle.laws_addresses.proofs.HeldLemmas.{up_to}
use Rattle.laws_answered_rows.proofs.OwnLemmas.{own_effect, same_instance}
use Rattle.laws_cloud.proofs.OwnerFrames.{row_doubt}
use Rattle.laws_contents_kept.proofs.SilenceLemmas.{lost_silent}
use Rattle.laws_effects.proofs.AheadLemmas.{behind}
use Rattle.laws_effects.proofs.CreationLemmas.{vm_creation_stays}
use Rattle.laws_effects.proofs.VmLemmas.{gone_vm}
use Rattle.laws_effects.specs.Orderly.{AreOrderly}
use Rattle.laws_facts.proofs.WorkLemmas.{is_up_to}
use Rattle.laws_facts.specs.Clean.{is_unspoiled}
use Rattle.laws_facts.specs.Facts.{Holds}
use Rattle.laws_items.proofs.ListLemmas.{among_is, any_in, find_in}
use Rattle.laws_items.specs.Lists.{IsIn}
use Rattle.laws_rows.proofs.FoundLemmas.{IsFoundVm, vm-among, vm-found}
use Rattle.laws_rows.proofs.WholeTieLemmas.{spoiled-same}
use Rattle.laws_rows.specs.Rightful.{done_with, is_doubt_fit}
use Rattle.laws_tied.proofs.OwnedLemmas.{machine_owned}

-- ---- what is lost

pub unspoiled_done : (has : Bool) (xs : List Entry) (e : Effect) (row : Row)
    → is_unspoiled (done_with has xs e) row ≡ is_unspoiled xs row
unspoiled_done true xs e row = λ j. row.lost || not (spoiled-same xs e row j)
unspoiled_done false xs e row = refl

silent_done : (has : Bool) (xs : List Entry) (e : Effect) (v : ℕ)
    → is_silent (done_with has xs e) v ≡ is_silent xs v
silent_done true xs e v = latest_last (silence v) false xs (entries.Effect e)
silent_done false xs e v = refl

-- no loss named a machine that answers
pub answers_unnamed : (xs : List Entry) → AreOrderly xs → (v : ℕ) → has_agent xs v ≡ true → is_named_lost xs v ≡ false
answers_unnamed xs orderly v answers = by (is_named_lost xs v) refl
  where
    by : (lost : Bool) → is_named_lost xs v ≡ lost → lost ≡ false
    by false is = refl
    by true is = absurd (false≢true (sym (lost_silent xs orderly v is) ∙ answers))

-- ---- rows

-- a row whose machine no loss named, or that has none
pub unspoiled_by : (xs : List Entry) (row : Row) (it : Vm) → row.vm ≡ Some it → is_named_lost xs it.vm ≡ false
    → is_unspoiled xs row ≡ true
unspoiled_by xs row it has none =
    (λ j. row.lost || not (list_any (is_named_lost xs) (number_of (has j))))
    ∙ ((λ j. row.lost || not (none j || false)) ∙ by row.lost)
  where
    by : (lost : Bool) → (lost || true) ≡ true
    by true = refl
    by false = refl

pub unspoiled_none : (xs : List Entry) (row : Row) → row.vm ≡ None → is_unspoiled xs row ≡ true
unspoiled_none xs row none =
    (λ j. row.lost || not (list_any (is_named_lost xs) (number_of (none j)))) ∙ by row.lost
  where
    by : (lost : Bool) → (lost || true) ≡ true
    by true = refl
    by false = refl

-- one that has the machine of another
pub unspoiled_same : (xs : List Entry) (old new : Row) → new.vm ≡ old.vm → new.lost ≡ old.lost
    → is_unspoiled xs old ≡ true → is_unspoiled xs new ≡ true
unspoiled_same xs old new vm lost was =
    (λ j. lost j || not (list_any (is_named_lost xs) (number_of (vm j)))) ∙ was

-- ---- creations in doubt

at_most : (a b : ℕ) → nat_lt a b ≡ false → b ≤ a
at_most a b is = grind (arith, nat_tests, is)

above : (a b : ℕ) → nat_lt a b ≡ true → a < b
above a b is = grind (arith, nat_tests, is)

module _ (m : Moment) (h : Holds m) (e : Effect) (i : Inst) (n : ℕ) (make : Make) (hint : List ℕ)
    (doubts : (m.known.row i).doubt ≡ Some (record { n = n; call = calls.CreateVm make hint })) where
  abbrev xs : List Entry
  xs = m.effects

  abbrev ys : List Entry
  ys = m.effects ++ entries.Effect e ∷ []

  no_vm : (m.known.row i).vm ≡ None
  no_vm = by (m.known.row i).vm refl (sym (λ j. is_doubt_fit (m.known.row i) (doubts j)) ∙ (h.rows i).doubt_fits)
    where
      by : (vm : Option Vm) → (m.known.row i).vm ≡ vm
          → is_doubt_fit (record (m.known.row i) { vm = vm }) (Some (record { n = n; call = calls.CreateVm make hint }))
          ≡ true → (m.known.row i).vm ≡ None
      by None is fits = is
      by (Some it) is fits = absurd (false≢true fits)

  -- a silent machine of the number was there before, and is the one that was found before
  module _ (v : ℕ) (found : found_vm ys n ≡ Some v) (quiet : is_silent xs v ≡ true) where
    it : IsFoundVm ys n v
    it = vm-found ys n v found

    low : v ≤ vms_created xs
    low = by (nat_lt (vms_created xs) v) refl
      where
        by : (ahead : Bool) → nat_lt (vms_created xs) v ≡ ahead → v ≤ vms_created xs
        by false is = at_most (vms_created xs) v is
        by true is =
            absurd (false≢true
            (sym ((behind xs h.cloud.orderly).silent v (above (vms_created xs) v is)) ∙ quiet))

    there : is_vm_there xs v ≡ true
    there = by (is_vm_there xs v) refl
      where
        by : (b : Bool) → is_vm_there xs v ≡ b → b ≡ true
        by true is = refl
        by false is = absurd (false≢true (sym (gone_vm xs (entries.Effect e) v low is) ∙ it.there))

    made : vm_creation xs v ≡ Some it.e
    made = sym (vm_creation_stays xs (entries.Effect e) v low) ∙ it.made

    owner : it.e.owner ≡ Instance i
    owner =
        same_instance it.e.owner i
        ((λ j. same_owner it.e.owner (Instance (sym (h.known.lists.own_row i) j)))
        ∙ (own_effect xs (m.known.row i) (row_doubt m h i) (record { n = n; call = calls.CreateVm make hint }) it.e
        doubts (vm-among xs v it.e made) it.number).of_owner)

    listed : IsIn v (numbers_to (vms_created xs))
    listed =
        among_is eqb (λ a b is. eqb-true a b is) v (numbers_to (vms_created xs))
        (up_to v (vms_created xs)
        (is_up_to v (vms_created ys)
        (any_in (λ k. k == v) v (numbers_to (vms_created ys))
        (find_in (λ k. is_vm_there ys k && has_number n (vm_creation ys k)) v (numbers_to (vms_created ys)) found).0
        (eq-eqb v v refl))).low low)

    found_before : found_vm xs n ≡ Some v
    found_before =
        by (found_vm xs n) refl
        (sym ((λ j. is_number v (no_vm j) || is_number v (as_done xs (m.known.row i)).vm)
        ∙ (λ j. is_number v (as_done xs (record (m.known.row i) { doubt = doubts j })).vm))
        ∙ (sym (λ j. belongs_to m v (owner j))
        ∙ (sym (λ j. is_owned m v (made j)) ∙ machine_owned m h v listed there)))
      where
        by : (o : Option ℕ) → found_vm xs n ≡ o
            → is_number v (with_machine n o (record (m.known.row i) {
              doubt = Some (record { n = n; call = calls.CreateVm make hint });
            })).vm ≡ true
            → found_vm xs n ≡ Some v
        by (Some w) is same = is ∙ ap Some (eqb-true w v same)
        by None is same = absurd (false≢true same)

  loud : creates_silent xs n (calls.CreateVm make hint) ≡ false
      → creates_silent ys n (calls.CreateVm make hint) ≡ false
  loud none = by (found_vm ys n) refl
    where
      of : (v : ℕ) → found_vm ys n ≡ Some v → (quiet : Bool) → is_silent ys v ≡ quiet → quiet ≡ false
      of v found false is = refl
      of v found true is =
          let quiet : is_silent xs v ≡ true = sym (silent_done true xs e v) ∙ is in
          absurd (false≢true
          (sym none ∙ ((λ j. holds (is_silent xs) (found_before v found quiet j)) ∙ quiet)))

      by : (o : Option ℕ) → found_vm ys n ≡ o → creates_silent ys n (calls.CreateVm make hint) ≡ false
      by None is = λ j. holds (is_silent ys) (is j)
      by (Some v) is = (λ j. holds (is_silent ys) (is j)) ∙ of v is (is_silent ys v) refl

-- no creation in doubt turns out silent by what a call does
pub creation_done : (m : Moment) → Holds m → (has : Bool) (e : Effect) (i : Inst)
    → is_silent_creation m.effects (m.known.row i).doubt ≡ false
    → is_silent_creation (done_with has m.effects e) (m.known.row i).doubt ≡ false
creation_done m h false e i none = none
creation_done m h true e i none = by (m.known.row i).doubt refl
  where
    of : (n : ℕ) (c : Call) → (m.known.row i).doubt ≡ Some (record { n = n; call = c })
        → creates_silent m.effects n c ≡ false → creates_silent (m.effects ++ entries.Effect e ∷ []) n c ≡ false
    of n (calls.CreateVm make hint) is was = loud m h e i n make hint is was
    of n c is was = refl

    by : (doubt : Option Doubt) → (m.known.row i).doubt ≡ doubt
        → is_silent_creation (m.effects ++ entries.Effect e ∷ []) (m.known.row i).doubt ≡ false
    by None is = λ j. is_silent_creation (m.effects ++ entries.Effect e ∷ []) (is j)
    by (Some d) is =
        (λ j. is_silent_creation (m.effects ++ entries.Effect e ∷ []) (is j))
        ∙ of d.n d.call is (sym (λ j. is_silent_creation m.effects (is j)) ∙ none)
