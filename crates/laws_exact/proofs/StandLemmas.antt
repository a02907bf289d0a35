-- What it says of a row that it stands.
use Rattle.std.proofs.Common.{◌≡◌, ◌∙◌, Bool, true, false, not, List, [], ◌∷◌, Option, Some, None}
use Rattle.std.proofs.Common.{ap, refl, sym}
use Rattle.std.specs.Prelude.{if◌then◌else◌, is_some, nat_lt}
use Rattle.std.specs.List.{list_all, list_any}
use Rattle.std.specs.Option.{option_eq}
use Rattle.std.proofs.lemmas.Bool.{and_from, and_parts, false≢true, not-true}
use Rattle.bosh_base.specs.declared.disk_want.DiskWant.{DiskWant}
use Rattle.bosh_base.specs.declared.entry.Entry.{Entry}
use Rattle.bosh_base.specs.declared.goal.GoalRow.{GoalRow}
use Rattle.bosh_base.specs.declared.inst.Inst.{Inst}
use Rattle.bosh_base.specs.declared.owner.Owner.TheVariants.{Instance}
use Rattle.bosh_base.specs.declared.row.DiskRow.{DiskRow}
use Rattle.bosh_base.specs.declared.row.Row.{Row}
use Rattle.bosh_base.specs.declared.row.Vm.{Vm}
use Rattle.laws_row_facts.specs.Rows.{RowFacts, has_machine_as_needed}
use Rattle.laws_row_facts.specs.Words.{implies}
use Rattle.bosh_rows.specs.Disks.{is_active, is_detached, is_running}
use Rattle.bosh_rows.specs.Same.{same_make, same_spec}
use Rattle.bosh_rows.specs.Standing.{has_disks, has_machine, is_put_away, is_up, same_truth, stands}
use Rattle.bosh_rows.specs.Tied.{is_named_lost, is_spoiled, number_of, vms_of}
use Rattle.laws_rows.proofs.SteadyLemmas.{IsTiedTo, tied-known}
use Rattle.laws_rows.proofs.WholeTieLemmas.{same_list}

pub none_of : {X : Type 0} (o : Option X) → not (is_some o) ≡ true → o ≡ None
none_of None is = refl
none_of (Some x) is = absurd (false≢true is)

-- ---- with its machine

pub record IsUp (want : GoalRow) (row : Row) : Type 0 where
  pub known : row.doubt ≡ None
  pub unlost : row.lost ≡ false
  pub vm : Vm
  pub has : row.vm ≡ Some vm
  pub make : option_eq same_make row.make (Some want.make) ≡ true
  pub young : nat_lt want.fresh_after vm.agent ≡ true
  pub spec : option_eq same_spec row.spec (Some want.spec) ≡ true
  pub runs : same_truth row.running (is_running want.state) ≡ true
  pub disks : has_disks want.disk row.disks ≡ true

up_of : (want : GoalRow) (row : Row) → is_up want row ≡ true → IsUp want row
up_of want row is =
    let (known, rest) = and_parts (not (is_some row.doubt)) _ is in
    let (unlost, more) = and_parts (not row.lost) _ rest in
    let (machine, disks) = and_parts (has_machine want row row.vm) _ more in
    by row.vm refl machine (none_of row.doubt known) (not-true row.lost unlost) disks
  where
    by : (vm : Option Vm) → row.vm ≡ vm → has_machine want row vm ≡ true → row.doubt ≡ None → row.lost ≡ false
        → has_disks want.disk row.disks ≡ true → IsUp want row
    by None has machine known unlost disks = absurd (false≢true machine)
    by (Some vm) has machine known unlost disks =
        let (make, a) = and_parts (option_eq same_make row.make (Some want.make)) _ machine in
        let (young, b) = and_parts (nat_lt want.fresh_after vm.agent) _ a in
        let (spec, runs) = and_parts (option_eq same_spec row.spec (Some want.spec)) _ b in
        record {
          known = known;
          unlost = unlost;
          vm = vm;
          has = has;
          make = make;
          young = young;
          spec = spec;
          runs = runs;
          disks = disks;
        }

-- ---- without one

pub record IsAway (row : Row) : Type 0 where
  pub known : row.doubt ≡ None
  pub none : row.vm ≡ None
  pub unlost : row.lost ≡ false
  pub active : list_all is_active row.disks ≡ true

-- a row without a machine is not lost
pub unlost_without : (row : Row) → has_machine_as_needed row ≡ true → row.vm ≡ None → row.lost ≡ false
unlost_without row needed none = by row.lost refl (and_parts (implies row.lost (is_some row.vm)) _ needed).0
  where
    by : (lost : Bool) → row.lost ≡ lost → implies row.lost (is_some row.vm) ≡ true → row.lost ≡ false
    by false is needed = is
    by true is needed = absurd (false≢true ((λ i. implies (sym is i) (is_some (sym none i))) ∙ needed))

away_of : (row : Row) → has_machine_as_needed row ≡ true → is_put_away row ≡ true → IsAway row
away_of row needed is =
    let (known, rest) = and_parts (not (is_some row.doubt)) _ is in
    let (none, active) = and_parts (not (is_some row.vm)) _ rest in
    record {
      known = none_of row.doubt known;
      none = none_of row.vm none;
      unlost = unlost_without row needed (none_of row.vm none);
      active = active;
    }

-- ---- one of both

pub data Stands (want : GoalRow) (row : Row) : Type 0 where
  away : is_detached want.state ≡ true → IsAway row → Stands want row
  up : is_detached want.state ≡ false → IsUp want row → Stands want row

pub stands_of : (want : GoalRow) (row : Row) → has_machine_as_needed row ≡ true → stands (Some want) row ≡ true
    → Stands want row
stands_of want row needed is = by (is_detached want.state) refl is
  where
    by : (b : Bool) → is_detached want.state ≡ b → (if b then is_put_away row else is_up want row) ≡ true
        → Stands want row
    by true detached is = away detached (away_of row needed is)
    by false wanted is = up wanted (up_of want row is)

-- a row without a machine is not spoiled
pub unspoiled_without : (effects : List Entry) (row : Row) → row.vm ≡ None → is_spoiled effects row ≡ false
unspoiled_without effects row none = ap (λ vm. list_any (is_named_lost effects) (number_of vm)) none

-- .. and the cloud has none of its instance
pub no_machines : (effects : List Entry) (i : Inst) (row : Row) → row.inst ≡ i → RowFacts effects row → row.vm ≡ None
    → row.doubt ≡ None → row.lost ≡ false → vms_of effects (Instance i) ≡ []
no_machines effects i row mine facts none known unlost =
    let tied : IsTiedTo effects row =
    tied-known effects row facts.tied unlost (unspoiled_without effects row none) known in
    (λ j. vms_of effects (Instance (sym mine j)))
    ∙ same_list (vms_of effects (Instance row.inst)) (number_of row.vm) tied.machines ∙ ap number_of none

-- no call is in doubt
pub known_of : (want : GoalRow) (row : Row) → Stands want row → row.doubt ≡ None
known_of want row (away detached it) = it.known
known_of want row (up wanted it) = it.known

-- each disk of it is active
pub actives_of : (want : GoalRow) (row : Row) → Stands want row → list_all is_active row.disks ≡ true
actives_of want row (away detached it) = it.active
actives_of want row (up wanted it) = by want.disk row.disks it.disks
  where
    by : (wants : Option DiskWant) (disks : List DiskRow) → has_disks wants disks ≡ true
        → list_all is_active disks ≡ true
    by None [] is = refl
    by None (d ∷ disks) is = absurd (false≢true is)
    by (Some wanted) [] is = absurd (false≢true is)
    by (Some wanted) (d ∷ []) is = and_from (is_active d) true (and_parts (is_active d) _ is).0 refl
    by (Some wanted) (d ∷ e ∷ disks) is = absurd (false≢true is)
