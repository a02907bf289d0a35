-- A row that stands is exact: its machine and its disks are there as they are wanted, unless a loss that the task did
-- not hear of named the machine.
use Rattle.std.proofs.Common.{◌≡◌, ◌∙◌, ℕ, Bool, true, false, ◌&&◌, ◌||◌, not, List, [], ◌∷◌, Option, Some, None}
use Rattle.std.proofs.Common.{ap, refl, sym, subst, filter, inl, inr}
use Rattle.std.specs.Prelude.{◌⊎◌, ◌==◌, if◌then◌else◌, is_some, nat_eq, nat_lt}
use Rattle.std.specs.Cmp.Lexicographic.{pointwise}
use Rattle.std.specs.List.{list_all, list_any}
use Rattle.std.specs.Option.{option_eq}
use Rattle.std.proofs.lemmas.Bool.{and_from, and_parts, eq-eqb, eqb-true, false≢true, not-true, or_cases}
use Rattle.bosh_base.specs.Cloud.{attached_to, disk_creation, disks_created, holder_of, is_disk_there}
use Rattle.bosh_base.specs.Cloud.{is_holder, is_running, is_silent, is_vm_there, make_of, numbers_to, spec_of}
use Rattle.bosh_base.specs.Cloud.{vm_creation, vms_created}
use Rattle.bosh_base.specs.Cloud.{want_of}
use Rattle.bosh_base.specs.Exact.{Decides-option}
use Rattle.bosh_base.specs.ExactParts.{Decides-disk_want, Decides-make, Decides-spec}
use Rattle.bosh_base.specs.declared.disk_want.DiskWant.{DiskWant}
use Rattle.bosh_base.specs.declared.entry.Effect.{Effect}
use Rattle.bosh_base.specs.declared.entry.Entry.{Entry}
use Rattle.bosh_base.specs.declared.goal.GoalRow.{GoalRow}
use Rattle.bosh_base.specs.declared.inst.Inst.{Inst}
use Rattle.bosh_base.specs.declared.owner.Owner.TheVariants.{Instance}
use Rattle.bosh_base.specs.declared.row.DiskRow.{DiskRow}
use Rattle.bosh_base.specs.declared.row.Row.{Row}
use Rattle.bosh_base.specs.declared.row.Vm.{Vm}
use Rattle.laws_effects.proofs.FollowLemmas.{disk_within}
use Rattle.laws_row_facts.specs.Rows.{RowFacts}
use Rattle.laws_row_facts.specs.Words.{implies}
use Rattle.bosh_history.specs.Exact.{actives, is_at, is_put_away, was_made_for}
use Rattle.bosh_rows.specs.Disks.{is_active, is_right, is_running as runs}
use Rattle.bosh_rows.specs.NextStep.{is_in_place}
use Rattle.bosh_rows.specs.Same.{same_make, same_owner, same_spec, same_want}
use Rattle.bosh_rows.specs.Standing.{has_disks, same_truth}
use Rattle.bosh_rows.specs.Tied.{has_no_other_disk, is_disk_kept, is_disk_placed, is_made_for, is_spoiled}
use Rattle.bosh_rows.specs.Tied.{is_tied_to_lost, number_of, vms_of, was_made, was_provided}
use Rattle.laws_rows.proofs.ListLemmas as disks
use Rattle.laws_rows.proofs.SteadyLemmas.{IsTiedTo, tied-known}
use Rattle.laws_rows.proofs.TieLemmas.{AreFacts, facts-of, is_held_by}
use Rattle.laws_rows.proofs.WholeTieLemmas.{IsPlacedSo, held-by, machine-answers, mounted-so, placed-so, same_list}
use Rattle.laws_rows.proofs.WholeTieLemmas.{truth-same}
use Rattle.laws_items.proofs.ListLemmas.{all_in, in_filtered}
use Rattle.laws_items.specs.Lists.{IsIn}
use Rattle.laws_exact.proofs.NumberLemmas.{created_in, just_one, none_in, one_left}
use Rattle.laws_exact.proofs.StandLemmas.{IsAway, IsUp, unspoiled_without}
use Rattle.bosh_history.specs.Exact.{are_at_most_one, has_its_disk, has_one, has_wanted_disk, is_created_as}
use Rattle.bosh_history.specs.Exact.{is_machine_of, keeps_disk}

-- ---- what was made

-- a machine that was made as it is recorded, and is recorded as it is wanted
made_for : (want : GoalRow) (i : Inst) (agent : ℕ) (row : Row) (e : Option Effect) → i ≡ want.inst
    → was_made (Instance i) agent row.make e ≡ true → option_eq same_make row.make (Some want.make) ≡ true
    → nat_lt want.fresh_after agent ≡ true → was_made_for want e ≡ true
made_for want i agent row None mine made make young = absurd (false≢true made)
made_for want i agent row (Some e) mine made make young =
    let (own, rest) = and_parts (same_owner e.owner (Instance i)) _ made in
    let (number, alike) = and_parts (e.n == agent) _ rest in
    let makes : row.make ≡ Some want.make = (Decides-option Decides-make row.make (Some want.make)).0 make in
    and_from (same_owner e.owner (Instance want.inst)) _
    ((λ j. same_owner e.owner (Instance (sym mine j))) ∙ own)
    (and_from (option_eq same_make (make_of e.call) (Some want.make)) _
    ((λ j. option_eq same_make (make_of e.call) (sym makes j)) ∙ alike)
    ((λ j. nat_lt want.fresh_after (eqb-true e.n agent number j)) ∙ young))

-- a disk likewise
provided_as : (i j : Inst) (d : DiskRow) (wanted : DiskWant) (e : Option Effect) → i ≡ j → is_right wanted d ≡ true
    → was_provided (Instance i) d.tag d.want e ≡ true → is_created_as j wanted e ≡ true
provided_as i j d wanted None mine right made = absurd (false≢true made)
provided_as i j d wanted (Some e) mine right made =
    let (own, rest) = and_parts (same_owner e.owner (Instance i)) _ made in
    let (number, alike) = and_parts (e.n == d.tag) _ rest in
    let wants : d.want ≡ wanted = (Decides-disk_want d.want wanted).0 right in
    and_from (same_owner e.owner (Instance j)) _ ((λ k. same_owner e.owner (Instance (sym mine k))) ∙ own)
    ((λ k. option_eq same_want (want_of e.call) (Some (sym wants k))) ∙ alike)

-- one of a list of one number is that number
is_the_one : (k v : ℕ) → ((k == v) || false) ≡ true → v ≡ k
is_the_one k v is = by (or_cases (k == v) false is)
  where
    by : ((k == v) ≡ true) ⊎ (false ≡ true) → v ≡ k
    by (inl is) = sym (eqb-true k v is)
    by (inr no_way) = absurd (false≢true no_way)

itself_alone : (v : ℕ) (xs : List ℕ) → xs ≡ v ∷ [] → pointwise nat_eq xs (v ∷ []) ≡ true
itself_alone v xs is =
    (λ j. pointwise nat_eq (is j) (v ∷ [])) ∙ and_from (v == v) true (eq-eqb v v refl) refl

-- ---- the disks of a row that is up

pub record HasDisk (wanted : DiskWant) (disks : List DiskRow) : Type 0 where
  pub d : DiskRow
  pub only : disks ≡ d ∷ []
  pub active : is_active d ≡ true
  pub right : is_right wanted d ≡ true
  pub attached : d.attached ≡ true
  pub mounted : d.mounted ≡ true

pub has_disk : (wanted : DiskWant) (disks : List DiskRow) → has_disks (Some wanted) disks ≡ true
    → HasDisk wanted disks
has_disk wanted [] is = absurd (false≢true is)
has_disk wanted (d ∷ e ∷ disks) is = absurd (false≢true is)
has_disk wanted (d ∷ []) is =
    let (active, place) = and_parts (is_active d) (is_in_place wanted d) is in
    let (right, there) = and_parts (is_right wanted d) (d.attached && d.mounted) place in
    let (attached, mounted) = and_parts d.attached d.mounted there in
    record { d = d; only = refl; active = active; right = right; attached = attached; mounted = mounted }

no_disks : (disks : List DiskRow) → has_disks None disks ≡ true → disks ≡ []
no_disks [] is = refl
no_disks (d ∷ disks) is = absurd (false≢true is)

one_active : (row : Row) (d : DiskRow) → row.disks ≡ d ∷ [] → is_active d ≡ true → actives row ≡ d ∷ []
one_active row d only active = ap (filter is_active) only ∙ (λ j. if active j then d ∷ [] else [])

-- ---- a row and its effects

module _ (effects : List Entry) (want : GoalRow) (row : Row) (mine : row.inst ≡ want.inst)
    (facts : RowFacts effects row) where
  kept : list_all (is_disk_kept effects row) row.disks ≡ true
  kept =
      let (made, rest) = and_parts _ _ facts.created in
      let (in_dep, kept) = and_parts _ (list_all (is_disk_kept effects row) row.disks) rest in kept

  -- where a loss named it there is no other
  pub lost_alone : (it : Vm) → row.vm ≡ Some it → is_tied_to_lost effects row ≡ true
      → are_at_most_one (vms_of effects (Instance want.inst)) ≡ true
  lost_alone it has tied =
      (λ j. are_at_most_one (vms_of effects (Instance (sym mine j))))
      ∙ one_left (λ v. is_vm_there effects v && is_made_for (Instance row.inst) (vm_creation effects v)) it.vm
      (vms_created effects)
      (λ v is.
      let here : list_any (λ k. k == v) (number_of row.vm) ≡ true =
      all_in (λ v. list_any (λ k. k == v) (number_of row.vm)) v (vms_of effects (Instance row.inst))
      (and_parts _ _ tied).0 is in
      is_the_one it.vm v ((λ j. list_any (λ k. k == v) (number_of (sym has j))) ∙ here))

  kept_in : (d : DiskRow) → disks.IsIn d row.disks → is_disk_kept effects row d ≡ true
  kept_in d is = disks.all_in (is_disk_kept effects row) d row.disks kept is

  in_row : (d : DiskRow) → row.disks ≡ d ∷ [] → disks.IsIn d row.disks
  in_row d only = subst (λ ds. disks.IsIn d ds) (sym only) (inl refl)

  there : (d : DiskRow) → disks.IsIn d row.disks → is_disk_there effects d.disk ≡ true
  there d is = (and_parts (is_disk_there effects d.disk) _ (kept_in d is)).0

  created : (d : DiskRow) (wanted : DiskWant) → disks.IsIn d row.disks → is_right wanted d ≡ true
      → is_created_as want.inst wanted (disk_creation effects d.disk) ≡ true
  created d wanted is right =
      provided_as row.inst want.inst d wanted (disk_creation effects d.disk) mine right
      (and_parts (is_disk_there effects d.disk) _ (kept_in d is)).1

  -- ---- with its machine, which no loss named

  attached_in : (it : Vm) (k : ℕ) → row.vm ≡ Some it → IsTiedTo effects row → IsIn k (attached_to effects it.vm)
      → list_any (λ d. d.disk == k) row.disks ≡ true
  attached_in it k has tied is =
      all_in (λ k. list_any (λ d. d.disk == k) row.disks) k (attached_to effects it.vm)
      (and_parts (has_no_other_disk effects row it.vm) true
      ((λ j. list_all (has_no_other_disk effects row) (number_of (sym has j))) ∙ tied.others)).0 is

  its_disk : (it : Vm) → row.vm ≡ Some it → IsTiedTo effects row → (wants : Option DiskWant)
      → has_disks wants row.disks ≡ true → has_its_disk effects it.vm want.inst wants row ≡ true
  its_disk it has tied None is =
      ap (λ ks. pointwise nat_eq ks [])
      (none_in (attached_to effects it.vm)
      (λ k among.
      false≢true
      ((λ j. list_any (λ d. d.disk == k) (sym (no_disks row.disks is) j)) ∙ attached_in it k has tied among)))
  its_disk it has tied (Some wanted) is =
      let only : HasDisk wanted row.disks = has_disk wanted row.disks is in
      let d : DiskRow = only.d in
      let placed : IsPlacedSo effects it.vm d = placed-so effects row it has tied d (in_row d only.only) in
      let held : is_holder effects it.vm d.disk ≡ true = held-by effects it.vm d placed only.attached in
      ap (has_wanted_disk effects it.vm want.inst wanted) (one_active row d only.only only.active)
      ∙ and_from (is_created_as want.inst wanted (disk_creation effects d.disk)) _
      (created d wanted (in_row d only.only) only.right)
      (and_from (is_at effects it.vm d.disk) _
      (and_from (is_disk_there effects d.disk) _ placed.there
      (and_from (option_eq nat_eq (holder_of effects d.disk) (Some it.vm)) _ (by (holder_of effects d.disk) held)
      (mounted-so effects it.vm d placed only.attached ∙ only.mounted)))
      (itself_alone d.disk (attached_to effects it.vm)
      (just_one d.disk (attached_to effects it.vm)
      (one_left (is_holder effects it.vm) d.disk (disks_created effects)
      (λ k among.
      is_the_one d.disk k
      ((λ j. list_any (λ (it : DiskRow). it.disk == k) (sym only.only j)) ∙ attached_in it k has tied among)))
      (in_filtered (is_holder effects it.vm) d.disk (numbers_to (disks_created effects))
      (created_in (disks_created effects) d.disk (disk_within effects d.disk placed.there)) held))))
    where
      by : (o : Option ℕ) → is_held_by it.vm o ≡ true → option_eq nat_eq o (Some it.vm) ≡ true
      by None is = absurd (false≢true is)
      by (Some v) is = is

  pub machines_up : (it : Vm) → row.vm ≡ Some it → IsTiedTo effects row
      → vms_of effects (Instance want.inst) ≡ it.vm ∷ []
  machines_up it has tied =
      (λ j. vms_of effects (Instance (sym mine j)))
      ∙ same_list (vms_of effects (Instance row.inst)) (number_of row.vm) tied.machines ∙ ap number_of has

  pub its_machine : (up : IsUp want row) → is_spoiled effects row ≡ false
      → is_machine_of effects want row (up.vm.vm ∷ []) ≡ true
  its_machine up unspoiled =
      let it : Vm = up.vm in
      let tied : IsTiedTo effects row = tied-known effects row facts.tied up.unlost unspoiled up.known in
      let are : AreFacts effects row it = facts-of effects row it up.has tied.facts in
      let spec : row.spec ≡ Some want.spec = (Decides-option Decides-spec row.spec (Some want.spec)).0 up.spec in
      let ran : is_running effects it.vm ≡ row.running = truth-same (is_running effects it.vm) row.running are.runs in
      and_from (was_made_for want (vm_creation effects it.vm)) _
      (made_for want row.inst it.agent row (vm_creation effects it.vm) mine are.made up.make up.young)
      (and_from (not (is_silent effects it.vm)) _
      (and_parts (is_vm_there effects it.vm) _ (machine-answers effects row it up.has tied unspoiled)).1
      (and_from (option_eq same_spec (spec_of effects it.vm) (Some want.spec)) _
      ((λ j. option_eq same_spec (spec_of effects it.vm) (sym spec j)) ∙ are.spec)
      (and_from (same_truth (is_running effects it.vm) (runs want.state)) _
      ((λ j. same_truth (ran j) (runs want.state)) ∙ up.runs) (its_disk it up.has tied want.disk up.disks))))

  -- ---- with its machine, which a loss named

  pub one_kept : (wants : Option DiskWant) → has_disks wants row.disks ≡ true
      → keeps_disk effects want.inst wants row ≡ true
  one_kept None is = refl
  one_kept (Some wanted) is =
      let only : HasDisk wanted row.disks = has_disk wanted row.disks is in
      ap (has_one effects want.inst wanted) (one_active row only.d only.only only.active)
      ∙ and_from (is_created_as want.inst wanted (disk_creation effects only.d.disk)) _
      (created only.d wanted (in_row only.d only.only) only.right) (there only.d (in_row only.d only.only))

  -- ---- put away

  pub put_away : IsAway row → is_put_away effects row [] ≡ true
  put_away away =
      disks.all_from (λ d. is_disk_there effects d.disk && not (is_some (holder_of effects d.disk))) (actives row)
      (λ d is.
      let among : disks.IsIn d row.disks = within d row.disks is in
      and_from (is_disk_there effects d.disk) _ (there d among) (loose d among))
    where
      within : (d : DiskRow) (xs : List DiskRow) → disks.IsIn d (filter is_active xs) → disks.IsIn d xs
      within d [] is = is
      within d (x ∷ xs) is = by (is_active x) is (within d xs)
        where
          by : (b : Bool) → disks.IsIn d (if b then x ∷ filter is_active xs else filter is_active xs)
              → (disks.IsIn d (filter is_active xs) → disks.IsIn d xs) → disks.IsIn d (x ∷ xs)
          by true (inl same) more = inl same
          by true (inr is) more = inr (more is)
          by false is more = inr (more is)

      tied : IsTiedTo effects row
      tied = tied-known effects row facts.tied away.unlost (unspoiled_without effects row away.none) away.known

      free : list_all (λ d. not d.attached && not d.mounted) row.disks ≡ true
      free =
          (λ j. is_some (sym away.none j) || list_all (λ (d : DiskRow). not d.attached && not d.mounted) row.disks)
          ∙ (and_parts (implies row.lost (is_some row.vm))
          (is_some row.vm || list_all (λ (d : DiskRow). not d.attached && not d.mounted) row.disks) facts.has_machine).1

      loose : (d : DiskRow) → disks.IsIn d row.disks → not (is_some (holder_of effects d.disk)) ≡ true
      loose d is =
          let off : d.attached ≡ false =
          not-true d.attached (and_parts (not d.attached) (not d.mounted)
          (disks.all_in (λ d. not d.attached && not d.mounted) d row.disks free is)).0 in
          let placed : is_disk_placed effects (number_of row.vm) d ≡ true =
          disks.all_in (is_disk_placed effects (number_of row.vm)) d row.disks tied.placed is in
          let first : same_truth (is_some (holder_of effects d.disk)) d.attached ≡ true =
          (and_parts _ _ (and_parts _ _ placed).0).0 in
          ap not (truth-same (is_some (holder_of effects d.disk)) d.attached first ∙ off)
