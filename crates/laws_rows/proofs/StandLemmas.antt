-- Where no step is left the row stands, once its update is done; and without a want nothing is left of it but its
-- disks.
use Rattle.std.proofs.Common.{◌≡◌, ℕ, ◌+◌, ◌≤◌, Bool, true, false, Option, Some, None, List, [], ◌∷◌, refl, sym, ◌∙◌, ap, arith}
use Rattle.std.specs.Prelude.{◌&&◌, ◌||◌, not, nat_le, nat_lt, if◌then◌else◌, filter, is_some, count_by}
use Rattle.std.specs.List.{list_all}
use Rattle.std.specs.Option.{option_eq}
use Rattle.std.proofs.lemmas.Bool.{and_parts, and_from, not-false, leb-true, leb-false, lt-ltb, or_parts}
use Rattle.bosh_base.specs.Cloud.{when}
use Rattle.bosh_base.specs.declared.disk_want.DiskWant.{DiskWant}
use Rattle.bosh_base.specs.declared.goal.GoalRow.{GoalRow}
use Rattle.bosh_base.specs.declared.method.Method.TheVariants.{CreateVm, DeleteVm, DetachDisk, Drain, Start, Stop, UnmountDisk}
use Rattle.bosh_base.specs.declared.row.DiskRow.{DiskRow}
use Rattle.bosh_base.specs.declared.row.Doubt as doubt
use Rattle.bosh_base.specs.declared.row.Row.{Row}
use Rattle.bosh_base.specs.declared.row.Vm as vm
use Rattle.bosh_rows.specs.After.{updated_row}
use Rattle.bosh_rows.specs.Disks.{active, is_active, is_detached, is_running, least, meets, stays}
use Rattle.bosh_rows.specs.NextStep.{applying, clearing, creation, disk_step, first_of, has_to_go, has_to_stop, is_disk_settled, is_in_place, known_step, lost_step, machine_step, next_step, on, pausing, plain, removal, spec_differs, starting, tending}
use Rattle.bosh_rows.specs.Same.{same_make, same_spec}
use Rattle.bosh_rows.specs.Standing.{has_disks, has_machine, is_put_away, is_up, same_truth, stands}
use Rattle.bosh_rows.specs.declared.step.Step.{Step}
use Rattle.laws_rows.proofs.ListLemmas.{active_found}
use Rattle.laws_rows.proofs.StepCases.{applied_then, rests_then}
use Rattle.laws_rows.proofs.StopLemmas.{counted, settled_then}
use Rattle.laws_rows.specs.SoundDisks.{has_one_active}

-- ---- what no step says

unlost : (want : Option GoalRow) (row : Row) → next_step want row ≡ None → row.lost ≡ false
unlost want row none = by_loss row.lost none
  where
    by_loss : (b : Bool) → (if b then Some (lost_step row.doubt) else known_step want row row.doubt) ≡ None → b ≡ false
    by_loss true none = absurd cc
    by_loss false none = refl

pub record IsQuiet (want : Option GoalRow) (row : Row) : Type 0 where
  pub unlost : row.lost ≡ false
  pub known : row.doubt ≡ None
  pub none : machine_step want row row.vm ≡ None

pub quiet : (want : Option GoalRow) (row : Row) → next_step want row ≡ None → IsQuiet want row
quiet want row none =
    let found : row.lost ≡ false = unlost want row none in
    let still : known_step want row row.doubt ≡ None =
    sym (ap (λ (b : Bool). if b then Some (lost_step row.doubt) else known_step want row row.doubt) found) ∙ none in
    let known : row.doubt ≡ None = by_doubt row.doubt refl still in record {
      unlost = found;
      known = known;
      none = sym (ap (known_step want row) known) ∙ still;
    }
  where
    by_doubt : (d : Option doubt.Doubt) → row.doubt ≡ d → known_step want row d ≡ None → d ≡ None
    by_doubt (Some d) is none = absurd cc
    by_doubt None is none = refl

-- the removal of a machine always has a next step
pub always_removes : (row : Row) → removal row ≡ None → ⊥
always_removes row none =
    by_found (row.running && not row.drained) row.running (least (λ d. d.mounted) row.disks)
    (least (λ d. d.attached) row.disks) none
  where
    by_found : (drains runs : Bool) (m a : Option DiskRow) → first_of
        (when drains (plain Drain) ∷ when runs (plain Stop) ∷ on UnmountDisk m ∷ on DetachDisk a ∷ Some (plain DeleteVm)
        ∷ [])
        ≡ None → ⊥
    by_found true runs m a none = cc
    by_found false true m a none = cc
    by_found false false (Some d) a none = cc
    by_found false false None (Some d) none = cc
    by_found false false None None none = cc

-- ---- without a want

pub dropped : (row : Row) → next_step None row ≡ None → (row.doubt ≡ None) × (row.vm ≡ None)
dropped row none =
    let it : IsQuiet None row = quiet None row none in (it.known, by_vm row.vm it.none)
  where
    by_vm : (it : Option vm.Vm) → machine_step None row it ≡ None → it ≡ None
    by_vm (Some it) none = absurd (always_removes row none)
    by_vm None none = refl

pub nothing_asked : (row : Row) → next_step None row ≡ None → row.doubt ≡ None
nothing_asked row none = (dropped row none).0

pub nothing_there : (row : Row) → next_step None row ≡ None → row.vm ≡ None
nothing_there row none = (dropped row none).1

-- ---- the disks that stay

filter_none : (test : DiskRow → Bool) (xs : List DiskRow) → ((d : DiskRow) → test d ≡ false) → filter test xs ≡ []
filter_none test [] none = refl
filter_none test (x ∷ xs) none =
    ap (λ (b : Bool). if b then x ∷ filter test xs else filter test xs) (none x) ∙ filter_none test xs none

filter_same : (p q : DiskRow → Bool) → ((d : DiskRow) → p d ≡ q d) → (xs : List DiskRow) → filter p xs ≡ filter q xs
filter_same p q same [] = refl
filter_same p q same (x ∷ xs) = λ i. if same x i then x ∷ filter_same p q same xs i else filter_same p q same xs i

filter_all : (p q : DiskRow → Bool) → ((d : DiskRow) → q d ≡ true → p d ≡ true) → (xs : List DiskRow) →
    list_all p (filter q xs) ≡ true
filter_all p q each [] = refl
filter_all p q each (x ∷ xs) = by_test (filter_all p q each xs) (q x) refl
  where
    by_test : list_all p (filter q xs) ≡ true → (b : Bool) → q x ≡ b →
        list_all p (if b then x ∷ filter q xs else filter q xs) ≡ true
    by_test others true holds = and_from (p x) (list_all p (filter q xs)) (each x holds) others
    by_test others false holds = others

no_active : (xs : List DiskRow) → count_by is_active xs ≤ 0 → filter is_active xs ≡ []
no_active [] none = refl
no_active (x ∷ xs) none = by_role (λ low. no_active xs low) (is_active x) refl
  where
    more : count_by is_active (x ∷ xs) ≡ (if is_active x then 1 else 0) + count_by is_active xs
    more = counted x xs

    by_role : (count_by is_active xs ≤ 0 → filter is_active xs ≡ []) → (b : Bool) → is_active x ≡ b →
        (if b then x ∷ filter is_active xs else filter is_active xs) ≡ []
    by_role others true role =
        let one : ◌≡◌ {A = ℕ} (if is_active x then 1 else 0) 1 =
        ap (λ (b : Bool). if◌then◌else◌ {A = ℕ} b 1 0) role in
        absurd (omega (arith, more, one, none))
    by_role others false role =
        let zero_here : ◌≡◌ {A = ℕ} (if is_active x then 1 else 0) 0 =
        ap (λ (b : Bool). if◌then◌else◌ {A = ℕ} b 1 0) role in
        others (omega (arith, more, zero_here, none))

one_active : (xs : List DiskRow) → count_by is_active xs ≤ 1 → (a : DiskRow) → active xs ≡ Some a →
    filter is_active xs ≡ a ∷ []
one_active [] low a is = absurd cc
one_active (x ∷ xs) low a is = by_role (λ low is. one_active xs low a is) (is_active x) refl is
  where
    more : count_by is_active (x ∷ xs) ≡ (if is_active x then 1 else 0) + count_by is_active xs
    more = counted x xs

    by_role : (count_by is_active xs ≤ 1 → active xs ≡ Some a → filter is_active xs ≡ a ∷ []) → (b : Bool) →
        is_active x ≡ b → (if b then Some x else active xs) ≡ Some a →
        (if b then x ∷ filter is_active xs else filter is_active xs) ≡ a ∷ []
    by_role others true role is =
        let one : ◌≡◌ {A = ℕ} (if is_active x then 1 else 0) 1 =
        ap (λ (b : Bool). if◌then◌else◌ {A = ℕ} b 1 0) role in
        let same : x ≡ a = cc in
        (λ i. same i ∷ no_active xs (omega (arith, more, one, low)) i)
    by_role others false role is =
        let zero_here : ◌≡◌ {A = ℕ} (if is_active x then 1 else 0) 0 =
        ap (λ (b : Bool). if◌then◌else◌ {A = ℕ} b 1 0) role in
        others (omega (arith, more, zero_here, low)) is

-- ---- an update is done

-- what is left where a machine is tended no more
record IsTendedWhole (w : GoalRow) (row : Row) : Type 0 where
  spec : spec_differs w row ≡ false
  disks : disk_step w row w.disk ≡ None
  running : row.running ≡ true → has_to_stop w row ≡ false
  idle : row.running ≡ false → is_running w.state ≡ false

tended_whole : (w : GoalRow) (row : Row) → tending w row ≡ None → IsTendedWhole w row
tended_whole w row none =
    by_first (pausing w row) refl (clearing w row) refl (disk_step w row w.disk) refl (applying w row) refl
    (starting w row) refl none
  where
    still : (b : Bool) → b ≡ true → (b && has_to_stop w row) ≡ false → has_to_stop w row ≡ false
    still b is rests = sym (ap (λ it. it && has_to_stop w row) is) ∙ rests

    started : (wants runs : Bool) → runs ≡ false → when (wants && not runs) (plain Start) ≡ None → wants ≡ false
    started true true is none = absurd cc
    started true false is none = absurd cc
    started false runs is none = refl

    by_first : (p : Option Step) → pausing w row ≡ p → (c : Option Step) → clearing w row ≡ c → (d : Option Step) →
        disk_step w row w.disk ≡ d → (a : Option Step) → applying w row ≡ a → (s : Option Step) →
        starting w row ≡ s → first_of (p ∷ c ∷ d ∷ a ∷ s ∷ []) ≡ None → IsTendedWhole w row
    by_first (Some step) p c clear d disk a apply s start none = absurd cc
    by_first None p (Some step) clear d disk a apply s start none = absurd cc
    by_first None p None clear (Some step) disk a apply s start none = absurd cc
    by_first None p None clear None disk (Some step) apply s start none = absurd cc
    by_first None p None clear None disk None apply (Some step) start none = absurd cc
    by_first None p None clear None disk None apply None start none = record {
      spec = applied_then w row apply;
      disks = disk;
      running = λ runs. still row.running runs (rests_then w row p);
      idle = λ rests. started (is_running w.state) row.running rests start;
    }

-- the disks of a settled row, once its update is done
settled_disks : (w : GoalRow) (row : Row) → has_one_active row.disks ≡ true → is_detached w.state ≡ false →
    is_disk_settled w.disk row.disks ≡ true → has_disks w.disk (filter (stays w) row.disks) ≡ true
settled_disks w row one here settled =
    ap (has_disks w.disk)
    (filter_same (stays w) (λ d. is_active d && (is_some w.disk || false))
    (λ d i. is_active d && (is_some w.disk || here i)) row.disks)
    ∙ by_want w.disk settled
  where
    dull : (b : Bool) → (b && false) ≡ false
    dull true = refl
    dull false = refl

    plainly : (b : Bool) → (b && true) ≡ b
    plainly true = refl
    plainly false = refl

    by_want : (want : Option DiskWant) → is_disk_settled want row.disks ≡ true →
        has_disks want (filter (λ d. is_active d && (is_some want || false)) row.disks) ≡ true
    by_want None settled =
        ap (has_disks None)
        (filter_none (λ d. is_active d && false) row.disks (λ d. dull (is_active d)))
    by_want (Some wanted) settled = by_active (active row.disks) refl settled
      where
        by_active : (a : Option DiskRow) → active row.disks ≡ a → meets (is_in_place wanted) a ≡ true →
            has_disks (Some wanted) (filter (λ d. is_active d && (is_some (Some wanted) || false)) row.disks) ≡ true
        by_active None is placed = absurd cc
        by_active (Some a) is placed =
            ap (has_disks (Some wanted))
            (filter_same (λ d. is_active d && true) is_active (λ d. plainly (is_active d)) row.disks
            ∙ one_active row.disks (leb-true (count_by is_active row.disks) 1 one) a is)
            ∙ and_from (is_active a) (is_in_place wanted a) (active_found a row.disks is).meets placed

pub stands_done : (w : GoalRow) (row : Row) → has_one_active row.disks ≡ true → next_step (Some w) row ≡ None →
    stands (Some w) (updated_row w row) ≡ true
stands_done w row one none = by_vm row.vm refl it.none (is_detached w.state) refl
  where
    it : IsQuiet (Some w) row
    it = quiet (Some w) row none

    put_away : row.vm ≡ None → is_put_away (updated_row w row) ≡ true
    put_away has =
        and_from (not (is_some row.doubt)) _ (λ i. not (is_some (it.known i)))
        (and_from (not (is_some row.vm)) _ (λ i. not (is_some (has i)))
        (filter_all is_active (stays w)
        (λ d is. (and_parts (is_active d) (is_some w.disk || is_detached w.state) is).0) row.disks))

    truth : (b c : Bool) → (b ≡ true → c ≡ true) → (b ≡ false → c ≡ false) → same_truth b c ≡ true
    truth true c always never = always refl
    truth false c always never = ap not (never refl)

    runs_wanted : has_to_stop w row ≡ false → is_running w.state ≡ true
    runs_wanted stays_up =
        not-false (is_running w.state)
        (or_parts (not (is_running w.state)) _ (or_parts (spec_differs w row) _ stays_up).1).0

    up : (v : vm.Vm) → row.vm ≡ Some v → has_to_go w row v ≡ false → is_detached w.state ≡ false →
        IsTendedWhole w row → is_up w (updated_row w row) ≡ true
    up v has stays_here here tended =
        let first : ((not (option_eq same_make row.make (Some w.make))) ≡ false) ×
        (nat_le v.agent w.fresh_after ≡ false) =
        or_parts (not (option_eq same_make row.make (Some w.make))) (nat_le v.agent w.fresh_after)
        (or_parts (is_detached w.state) _ stays_here).1 in
        let young : nat_lt w.fresh_after v.agent ≡ true =
        lt-ltb w.fresh_after v.agent (leb-false v.agent w.fresh_after first.1) in
        let machine : has_machine w row (Some v) ≡ true =
        and_from (option_eq same_make row.make (Some w.make)) _
        (not-false (option_eq same_make row.make (Some w.make)) first.0)
        (and_from (nat_lt w.fresh_after v.agent) _ young
        (and_from (option_eq same_spec row.spec (Some w.spec)) _
        (not-false (option_eq same_spec row.spec (Some w.spec)) tended.spec)
        (truth row.running (is_running w.state) (λ runs. runs_wanted (tended.running runs)) tended.idle))) in
        and_from (not (is_some row.doubt)) _ (λ i. not (is_some (it.known i)))
        (and_from (not row.lost) _ (ap not it.unlost)
        (and_from (has_machine w (updated_row w row) row.vm) _
        (ap (has_machine w (updated_row w row)) has ∙ machine)
        (settled_disks w row one here (settled_then w row tended.disks).settled)))

    by_vm : (v : Option vm.Vm) → row.vm ≡ v → machine_step (Some w) row v ≡ None → (away : Bool) →
        is_detached w.state ≡ away →
        (if is_detached w.state then is_put_away (updated_row w row) else is_up w (updated_row w row)) ≡ true
    by_vm None has none true is =
        ap (λ (b : Bool). if b then is_put_away (updated_row w row) else is_up w (updated_row w row)) is ∙ put_away has
    by_vm None has none false is =
        absurd (let made : creation w ≡ Some (plain CreateVm) =
        ap (λ (b : Bool). when (not b) (plain CreateVm)) is in cc)
    by_vm (Some v) has none away is = by_way (has_to_go w row v) refl none
      where
        by_way : (b : Bool) → has_to_go w row v ≡ b → (if b then removal row else tending w row) ≡ None →
            (if is_detached w.state then is_put_away (updated_row w row) else is_up w (updated_row w row)) ≡ true
        by_way true goes none = absurd (always_removes row none)
        by_way false goes none =
            let here : is_detached w.state ≡ false = (or_parts (is_detached w.state) _ goes).0 in
            ap (λ (b : Bool). if b then is_put_away (updated_row w row) else is_up w (updated_row w row)) here
            ∙ up v has goes here (tended_whole w row none)
