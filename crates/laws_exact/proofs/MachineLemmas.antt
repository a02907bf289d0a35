-- Each machine of the deployment that is there is of a row of its goal that is to have one.
use Rattle.std.proofs.Common.{◌≡◌, ◌∙◌, ℕ, Bool, true, false, ◌&&◌, ◌||◌, not, List, [], Option, Some, None}
use Rattle.std.proofs.Common.{ap, refl, sym, subst}
use Rattle.std.specs.Prelude.{◌==◌, is_some, nat_le}
use Rattle.std.specs.Option.{option_eq}
use Rattle.std.specs.Str.{bytes_eq}
use Rattle.std.proofs.lemmas.Bool.{and_from, and_parts, eq-eqb, eqb-true, false≢true}
use Rattle.std.proofs.lemmas.Slice.Eq.{bytes_eq-Decides}
use Rattle.bosh_base.specs.Cloud.{is_vm_there, numbers_to, vm_creation, vms_created}
use Rattle.bosh_base.specs.declared.entry.Effect.{Effect}
use Rattle.bosh_base.specs.declared.entry.Entry.{Entry}
use Rattle.bosh_base.specs.declared.goal.Goal.{Goal}
use Rattle.bosh_base.specs.declared.goal.GoalRow.{GoalRow}
use Rattle.bosh_base.specs.declared.inst.Inst.{Inst}
use Rattle.bosh_base.specs.declared.owner.Owner.{Owner}
use Rattle.bosh_base.specs.declared.owner.Owner.TheVariants.{Compile, Disk, Instance}
use Rattle.laws_slots.specs.Slots.{is_slot_tied}
use Rattle.laws_facts.specs.CallFacts.{named}
use Rattle.laws_row_facts.specs.Words.{where_any}
use Rattle.bosh_history.specs.Exact.{belongs, has_no_other_machine, is_wanted_by}
use Rattle.bosh_history.specs.Known.{Slot, SlotName}
use Rattle.bosh_history.specs.Moments.{Moment}
use Rattle.bosh_history.specs.Items.{is_in_deployment}
use Rattle.bosh_history.specs.Orders.{same_slot}
use Rattle.bosh_history.specs.Words.{holds, is_among}
use Rattle.bosh_rows.proofs.SameLemmas.{itself}
use Rattle.bosh_rows.specs.Disks.{is_detached}
use Rattle.bosh_rows.specs.Same.{same_owner}
use Rattle.bosh_rows.specs.Standing.{same_truth}
use Rattle.bosh_rows.specs.Tied.{is_made_for, vms_of}
use Rattle.laws_rows.proofs.WholeTieLemmas.{same_list}
use Rattle.laws_items.proofs.ListLemmas.{all_from, among_is, any_in, in_filtered}
use Rattle.laws_items.specs.Lists.{IsIn}
use Rattle.laws_exact.proofs.SettledLemmas.{IsOver, IsSettled}
use Rattle.laws_exact.proofs.StandLemmas.{Stands, no_machines}
use Rattle.bosh_history.specs.Known.{dep_named}
use Rattle.laws_facts.specs.Makers.{is_in_deployment_of, is_made_in_its_deployment}
use Rattle.laws_exact.specs.Premises.{IsLeftWell}

-- a machine that is there is one of its owner's
mine : (effects : List Entry) (v : ℕ) (e : Effect) (owner : Owner) → IsIn v (numbers_to (vms_created effects))
    → is_vm_there effects v ≡ true → vm_creation effects v ≡ Some e → same_owner e.owner owner ≡ true
    → IsIn v (vms_of effects owner)
mine effects v e owner is there made own =
    in_filtered (λ v. is_vm_there effects v && is_made_for owner (vm_creation effects v)) v
    (numbers_to (vms_created effects)) is
    (and_from (is_vm_there effects v) _ there ((λ j. is_made_for owner (made j)) ∙ own))

nobodys : (v : ℕ) (xs : List ℕ) → xs ≡ [] → IsIn v xs → ⊥
nobodys v xs none is = subst (λ ks. IsIn v ks) none is

same_bytes : (a b : List ℕ) → bytes_eq a b ≡ true → a ≡ b
same_bytes a b is = (bytes_eq-Decides a b).0 is

same_slot_is : (a b : SlotName) → same_slot a b ≡ true → a ≡ b
same_slot_is a b is =
    let (task, slot) = and_parts (a.task == b.task) (a.slot == b.slot) is in
    λ j. record { task = eqb-true a.task b.task task j; slot = eqb-true a.slot b.slot slot j }

-- what is the same truth as a truth is true
truth : (b : Bool) → same_truth b true ≡ true → b ≡ true
truth true is = refl
truth false is = is

module _ (m : Moment) (facts : IsLeftWell m) (t : ℕ) (dep : List ℕ) (goal : Goal)
    (over : IsOver m t dep goal) where
  -- of an instance
  of_instance : (v : ℕ) (i : Inst) → i.dep ≡ dep → IsIn v (vms_of m.effects (Instance i))
      → is_wanted_by (Some goal) (Instance i) ≡ true
  of_instance v i here is = by (over.settled i here)
    where
      by : IsSettled m.known goal i → is_wanted_by (Some goal) (Instance i) ≡ true
      by (IsSettled.other none bare) =
          absurd (nobodys v (vms_of m.effects (Instance i))
          (no_machines m.effects i (m.known.row i) (facts.own_row i) (facts.rows i) (ap (λ r. r.vm) bare)
          (ap (λ r. r.doubt) bare) (ap (λ r. r.lost) bare)) is)
      by (IsSettled.wanted want among same found stands) =
          ap (holds (λ (want : GoalRow). not (is_detached want.state))) found ∙ by_state stands
        where
          by_state : Stands want (m.known.row want.inst) → not (is_detached want.state) ≡ true
          by_state (Stands.up running it) = ap not running
          by_state (Stands.away detached it) =
              absurd (nobodys v (vms_of m.effects (Instance i))
              ((λ j. vms_of m.effects (Instance (same j)))
              ∙ no_machines m.effects want.inst (m.known.row want.inst) (facts.own_row want.inst)
              (facts.rows want.inst) it.none it.known it.unlost) is)

  -- a compile machine of the deployment would be left
  of_slot : (v u s : ℕ) → dep_named (m.known.task u).dep ≡ dep → IsIn v (vms_of m.effects (Compile u s)) → ⊥
  of_slot v u s here is = by (m.known.slot u s) refl
    where
      by : (slot : Option Slot) → m.known.slot u s ≡ slot → ⊥
      by None none =
          nobodys v (vms_of m.effects (Compile u s))
          (same_list (vms_of m.effects (Compile u s)) []
          ((λ j. is_slot_tied m.effects (named u s) (sym none j)) ∙ facts.slots_tied u s)) is
      by (Some it) some =
          let of_its : (nat_le 1 u && (nat_le u m.known.tasks
          && option_eq bytes_eq (Some it.dep) (m.known.task u).dep)) ≡ true =
          (λ j. where_any (λ (it : Slot). nat_le 1 u && (nat_le u m.known.tasks
          && option_eq bytes_eq (Some it.dep) (m.known.task u).dep)) (sym some j)) ∙ facts.of_tasks u s in
          let (low, rest) = and_parts (nat_le 1 u) _ of_its in
          let (high, own) = and_parts (nat_le u m.known.tasks) _ rest in
          let same : it.dep ≡ dep = dep_is (m.known.task u).dep refl own in
          let listed : is_among same_slot (named u s) m.known.machines ≡ true =
          truth (is_among same_slot (named u s) m.known.machines)
          ((λ j. same_truth (is_among same_slot (named u s) m.known.machines) (is_some (sym some j)))
          ∙ facts.machine_listed u s) in
          false≢true (sym over.swept
          ∙ any_in (is_in_deployment m.known (m.known.task t).dep) (named u s) m.known.machines
          (among_is same_slot same_slot_is (named u s) m.known.machines listed)
          ((λ j. holds (λ (it : Slot). option_eq bytes_eq (Some it.dep) (over.dep_is j)) (some j))
          ∙ (bytes_eq-Decides it.dep dep).1 same))
        where
          dep_is : (o : Option (List ℕ)) → (m.known.task u).dep ≡ o → option_eq bytes_eq (Some it.dep) o ≡ true
              → it.dep ≡ dep
          dep_is None none own = absurd (false≢true own)
          dep_is (Some d) some own = same_bytes it.dep d own ∙ sym (ap dep_named some) ∙ here

  belongs_to : (v : ℕ) (e : Effect) → IsIn v (numbers_to (vms_created m.effects)) → is_vm_there m.effects v ≡ true
      → vm_creation m.effects v ≡ Some e → belongs dep (Some goal) (Some e) ≡ true
  belongs_to v e is there creation = by (bytes_eq e.dep dep) refl
    where
      own : is_in_deployment_of m.known e.dep e.owner ≡ true
      own = (λ j. is_made_in_its_deployment m.known (sym creation j)) ∙ facts.makers v

      by_owner : (owner : Owner) → e.owner ≡ owner → is_in_deployment_of m.known e.dep owner ≡ true → e.dep ≡ dep
          → is_wanted_by (Some goal) owner ≡ true
      by_owner (Instance i) owned own here =
          of_instance v i (sym (same_bytes e.dep i.dep own) ∙ here)
          (mine m.effects v e (Instance i) is there creation
          ((λ j. same_owner (owned j) (Instance i)) ∙ itself i))
      by_owner (Compile u s) owned own here =
          absurd (of_slot v u s (sym (same_bytes e.dep (dep_named (m.known.task u).dep)
          (and_parts (nat_le u m.known.tasks) _ (and_parts (nat_le 1 u) _ own).1).1) ∙ here)
          (mine m.effects v e (Compile u s) is there creation
          ((λ j. same_owner (owned j) (Compile u s)) ∙ and_from (u == u) (s == s) (eq-eqb u u refl) (eq-eqb s s refl))))
      by_owner (Disk d) owned own here = absurd (false≢true own)

      by : (b : Bool) → bytes_eq e.dep dep ≡ b → (not (bytes_eq e.dep dep) || is_wanted_by (Some goal) e.owner) ≡ true
      by false foreign = (λ j. not (foreign j) || is_wanted_by (Some goal) e.owner)
      by true here =
          (λ j. not (here j) || is_wanted_by (Some goal) e.owner)
          ∙ by_owner e.owner refl own (same_bytes e.dep dep here)

  pub machines_belong : has_no_other_machine m.effects dep (Some goal) ≡ true
  machines_belong =
      all_from (λ v. not (is_vm_there m.effects v) || belongs dep (Some goal) (vm_creation m.effects v))
      (numbers_to (vms_created m.effects))
      (λ v is. by v is (is_vm_there m.effects v) refl (vm_creation m.effects v) refl)
    where
      by : (v : ℕ) → IsIn v (numbers_to (vms_created m.effects)) → (b : Bool) → is_vm_there m.effects v ≡ b
          → (e : Option Effect) → vm_creation m.effects v ≡ e
          → (not b || belongs dep (Some goal) e) ≡ true
      by v is false there e creation = refl
      by v is true there None creation = refl
      by v is true there (Some e) creation = belongs_to v e is there creation
