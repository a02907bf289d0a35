-- What an open call names that the cloud has not performed: machines that were made for its own owner alone, and where it
-- attaches a disk, one that was made for its owner too.
use Rattle.std.proofs.Common.{◌≡◌, ◌∙◌, ℕ, Bool, true, false, ◌&&◌, not, Option, Some, None}
use Rattle.std.proofs.Common.{ap, refl, sym, subst}
use Rattle.std.specs.Prelude.{◌==◌, if◌then◌else◌}
use Rattle.std.specs.List.{list_all}
use Rattle.std.specs.Option.{option_eq, option_map}
use Rattle.std.proofs.lemmas.Bool.{and_parts, eqb-true, false≢true}
use Rattle.bosh_base.specs.ExactParts.{Decides-call}
use Rattle.bosh_base.specs.declared.call.Call.{Call}
use Rattle.bosh_base.specs.declared.call.Call.TheVariants as calls
use Rattle.bosh_base.specs.declared.inst.Inst.{Inst}
use Rattle.bosh_base.specs.declared.owner.Owner.{Owner}
use Rattle.bosh_base.specs.declared.owner.Owner.TheVariants.{Instance, Compile, Disk}
use Rattle.bosh_base.specs.declared.row.Doubt.{Doubt}
use Rattle.bosh_base.specs.declared.row.Row.{Row}
use Rattle.bosh_base.specs.declared.row.Vm.{Vm}
use Rattle.bosh_history.specs.Items.{is_to_ping}
use Rattle.bosh_history.specs.Known.{Slot, Task}
use Rattle.bosh_history.specs.Moments.{Moment, OpenCall}
use Rattle.bosh_history.specs.Steps.{want_of}
use Rattle.bosh_history.specs.Ties.{was_made_as}
use Rattle.bosh_history.specs.Words.{holds}
use Rattle.bosh_rows.specs.After.{leaves_doubt}
use Rattle.bosh_rows.specs.CallOf.{next_call}
use Rattle.laws_calls.proofs.BeginLemmas.{vm_before}
use Rattle.laws_cloud.proofs.DoneLemmas.{made_by}
use Rattle.laws_cloud.proofs.OwnerFrames.{where_some}
use Rattle.laws_effects.specs.Holders.{JoinsBy}
use Rattle.laws_effects.specs.Orderly.{vms_named_by}
use Rattle.laws_facts.specs.Facts.{Holds}
use Rattle.laws_facts.specs.OpenCalls.{call_of_row, fits_known, fits_slot, is_on_orphan}
use Rattle.laws_facts.specs.Owners.{is_doubt}
use Rattle.laws_row_facts.specs.Calls.{is_ping, row_before}
use Rattle.laws_row_facts.specs.Words.{implies, same_call}
use Rattle.laws_row_frames.specs.Others.{is_owned_by, names_own_machines}
use Rattle.laws_rows.specs.Rightful.{fits, is_doubt_fit, is_machine}
use Rattle.laws_slots.specs.Slots.{is_slot_created}
use Rattle.laws_cloud.proofs.NameLemmas.{MigratesOwn, all_each, disk_joins, disk_names, fits_joins, fits_names}
use Rattle.laws_cloud.proofs.NameLemmas.{made_for, migrates_before, migrates_own, owned}
use Rattle.laws_cloud.proofs.NameLemmas.{quiet_joins, quiet_names, slot_joins, slot_names}

-- ---- a call in doubt

-- it is in doubt of just this call
pub doubt_is : (n : ℕ) (call : Call) (doubt : Option Doubt) → is_doubt n call doubt ≡ true
    → doubt ≡ Some (record { n = n; call = call })
doubt_is n call (Some d) is =
    let parts : ((d.n == n) ≡ true) × (same_call d.call call ≡ true) = and_parts (d.n == n) (same_call d.call call) is in
    λ j. Some (record { n = eqb-true d.n n parts.0 j; call = (Decides-call d.call call).0 parts.1 j })
doubt_is n call None is = absurd (false≢true is)

holds_implied : (a b : Bool) → implies a b ≡ true → a ≡ true → b ≡ true
holds_implied true b is on = is
holds_implied false b is on = absurd (false≢true on)

-- ---- the call of an instance

-- it asks whether the machine answers, or is the next call of the row as that was before it
pub data InstanceCall (task : Task) (i : Inst) (row : Row) (call : Call) : Type 0 where
  pings : (it : Vm) → row.vm ≡ Some it → calls.Ping it.vm ≡ call → InstanceCall task i row call
  steps : next_call (want_of task i) (row_before call row) ≡ Some call → InstanceCall task i row call

call_decides : (o : Option Call) (call : Call) → option_eq same_call o (Some call) ≡ true → o ≡ Some call
call_decides (Some it) call is = ap Some ((Decides-call it call).0 is)
call_decides None call is = absurd (false≢true is)

pub of_row : (task : Task) (i : Inst) (row : Row) (call : Call)
    → option_eq same_call (call_of_row task i (row_before call row)) (Some call) ≡ true → InstanceCall task i row call
of_row task i row call is =
    by (is_to_ping task i) row.vm refl
    ((λ j. if is_to_ping task i then option_map (λ (it : Vm). calls.Ping it.vm) (sym (vm_before call row) j)
    else next_call (want_of task i) (row_before call row))
    ∙ call_decides (call_of_row task i (row_before call row)) call is)
  where
    by : (ping : Bool) (vm : Option Vm) → row.vm ≡ vm
        → (if ping then option_map (λ (it : Vm). calls.Ping it.vm) vm
        else next_call (want_of task i) (row_before call row)) ≡ Some call
        → InstanceCall task i row call
    by true (Some it) has next = pings it has (one (calls.Ping it.vm) call next)
      where
        one : (a b : Call) → Some a ≡ Some b → a ≡ b
        one a b same = cc
    by true None has next = absurd cc
    by false vm has next = steps next

-- ---- an open call

module _ (m : Moment) (h : Holds m) (n : ℕ) (call : OpenCall) (is : m.calls n ≡ Some call) where
  pub known_fits : (owner : Owner) → call.begin.owner ≡ owner → fits_known m.known call.begin owner ≡ true
  known_fits owner own =
      subst (λ (o : Owner). fits_known m.known call.begin o ≡ true) own (h.known.calls n call is).fits

  -- the parts of that it fits its instance
  pub record InstanceFits (i : Inst) : Type 0 where
    pub call_is : InstanceCall (m.known.task call.begin.task) i (m.known.row i) call.begin.call
    pub doubts : leaves_doubt call.begin.call ≡ true
        → (m.known.row i).doubt ≡ Some (record { n = call.begin.n; call = call.begin.call })

  pub instance_fits : (i : Inst) → call.begin.owner ≡ Instance i → InstanceFits i
  instance_fits i own =
      let parts : (option_eq same_call
      (call_of_row (m.known.task call.begin.task) i (row_before call.begin.call (m.known.row i)))
      (Some call.begin.call) ≡ true)
      × ((implies (leaves_doubt call.begin.call) (is_doubt call.begin.n call.begin.call (m.known.row i).doubt)
      && implies (is_ping call.begin.call) (not (m.known.row i).lost)) ≡ true) =
      and_parts _ _ (known_fits (Instance i) own) in
      let doubted : implies (leaves_doubt call.begin.call)
      (is_doubt call.begin.n call.begin.call (m.known.row i).doubt) ≡ true =
      (and_parts
      (implies (leaves_doubt call.begin.call) (is_doubt call.begin.n call.begin.call (m.known.row i).doubt)) _
      parts.1).0 in
      record {
        call_is = of_row (m.known.task call.begin.task) i (m.known.row i) call.begin.call parts.0;
        doubts =
            λ leaves. doubt_is call.begin.n call.begin.call (m.known.row i).doubt
            (holds_implied (leaves_doubt call.begin.call) _ doubted leaves);
      }

  -- a call in doubt fits the row
  pub row_fits : (i : Inst) → call.begin.owner ≡ Instance i → leaves_doubt call.begin.call ≡ true
      → fits (m.known.row i) call.begin.call ≡ true
  row_fits i own leaves =
      sym (λ j. is_doubt_fit (m.known.row i) ((instance_fits i own).doubts leaves j)) ∙ (h.rows i).doubt_fits

  migrates : (i : Inst) → call.begin.owner ≡ Instance i → MigratesOwn (m.known.row i) call.begin.call
  migrates i own = by (instance_fits i own).call_is
    where
      by : InstanceCall (m.known.task call.begin.task) i (m.known.row i) call.begin.call
          → MigratesOwn (m.known.row i) call.begin.call
      by (pings it has same) = subst (λ (c : Call). MigratesOwn (m.known.row i) c) same tt
      by (steps next) =
          migrates_before call.begin.call (m.known.row i)
          (migrates_own (want_of (m.known.task call.begin.task) i) (row_before call.begin.call (m.known.row i))
          call.begin.call next)

  pub slot_some : (t s : ℕ) → call.begin.owner ≡ Compile t s
      → (it : Slot) × (m.known.slot t s ≡ Some it) × (fits_slot call.begin.n call.begin.call it ≡ true)
  slot_some t s own = by (m.known.slot t s) refl (known_fits (Compile t s) own)
    where
      by : (slot : Option Slot) → m.known.slot t s ≡ slot
          → holds (fits_slot call.begin.n call.begin.call) slot ≡ true
          → (it : Slot) × (m.known.slot t s ≡ Some it) × (fits_slot call.begin.n call.begin.call it ≡ true)
      by (Some it) at_slot fits = (it, at_slot, fits)
      by None at_slot fits = absurd (false≢true fits)

  pub on_orphan : (d : ℕ) → call.begin.owner ≡ Disk d → is_on_orphan call.begin.call d ≡ true
  on_orphan d own = (and_parts (is_on_orphan call.begin.call d) _ (known_fits (Disk d) own)).0

  -- it names machines of its own owner alone
  pub names_own : names_own_machines m.effects (made_by m.known call.begin) ≡ true
  names_own = by call.begin.owner refl
    where
      by : (owner : Owner) → call.begin.owner ≡ owner
          → list_all (is_owned_by m.effects owner) (vms_named_by call.begin.call) ≡ true
      by (Instance i) own =
          (λ j. list_all (is_owned_by m.effects (Instance (sym (h.known.lists.own_row i) j))) (vms_named_by call.begin.call))
          ∙ all_each (is_machine (m.known.row i).vm) (is_owned_by m.effects (Instance (m.known.row i).inst))
          (owned m.effects (m.known.row i) (h.rows i)) (vms_named_by call.begin.call)
          (of (leaves_doubt call.begin.call) refl)
        where
          of : (leaves : Bool) → leaves_doubt call.begin.call ≡ leaves
              → list_all (is_machine (m.known.row i).vm) (vms_named_by call.begin.call) ≡ true
          of true leaves = fits_names (m.known.row i) call.begin.call (row_fits i own leaves)
          of false none = quiet_names (m.known.row i) call.begin.call none (migrates i own)
      by (Compile t s) own =
          let it : (it : Slot) × (m.known.slot t s ≡ Some it) × (fits_slot call.begin.n call.begin.call it ≡ true) =
          slot_some t s own in
          let made : is_slot_created m.effects (Compile t s) it.0 ≡ true =
          where_some (is_slot_created m.effects (Compile t s)) (m.known.slot t s) it.0 (h.slots t s).created it.1 in
          all_each (is_machine it.0.vm) (is_owned_by m.effects (Compile t s))
          (made_for m.effects (Compile t s) (Some it.0.make) it.0.vm
          (λ vm has.
          sym (λ j. was_made_as m.effects (Compile t s) it.0 (has j))
          ∙ (and_parts (was_made_as m.effects (Compile t s) it.0 it.0.vm) _ made).0))
          (vms_named_by call.begin.call) (slot_names call.begin.n call.begin.call it.0 it.2)
      by (Disk d) own = disk_names (is_owned_by m.effects (Disk d)) call.begin.call d (on_orphan d own)

  -- .. and attaches disks of its owner alone
  pub joins_own : JoinsBy m.effects call.begin.call
  joins_own = by call.begin.owner refl
    where
      by : (owner : Owner) → call.begin.owner ≡ owner → JoinsBy m.effects call.begin.call
      by (Instance i) own = of (leaves_doubt call.begin.call) refl
        where
          of : (leaves : Bool) → leaves_doubt call.begin.call ≡ leaves → JoinsBy m.effects call.begin.call
          of true leaves =
              fits_joins m.effects (m.known.row i) (h.rows i) call.begin.call (row_fits i own leaves)
          of false none = quiet_joins m.effects call.begin.call none
      by (Compile t s) own =
          let it : (it : Slot) × (m.known.slot t s ≡ Some it) × (fits_slot call.begin.n call.begin.call it ≡ true) =
          slot_some t s own in
          slot_joins m.effects call.begin.n call.begin.call it.0 it.2
      by (Disk d) own = disk_joins m.effects call.begin.call d (on_orphan d own)
