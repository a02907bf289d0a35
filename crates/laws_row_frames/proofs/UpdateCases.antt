-- The facts of a row stay where its update is done and the disks go that do not stay, and where it is dropped.
use Rattle.std.proofs.Common.{◌≡◌, ℕ, ◌+◌, ◌≤◌, Bool, true, false, Option, Some, None, List, [], ◌∷◌, refl, sym, ◌∙◌, ap, inl, inr, arith}
use Rattle.std.specs.Prelude.{◌&&◌, ◌||◌, ◌==◌, not, is_some, if◌then◌else◌, filter, count_by}
use Rattle.std.specs.List.{list_all, list_any}
use Rattle.std.specs.Ordering.{nat_cmp}
use Rattle.std.proofs.lemmas.Bool.{and_from, and_parts, leb-true, le-leb, not-true, or_right}
use Rattle.bosh_base.specs.Cloud.{attached_to, disks_created, is_holder, is_vm_there, numbers_to}
use Rattle.bosh_base.specs.declared.entry.Entry.{Entry}
use Rattle.bosh_base.specs.declared.goal.GoalRow.{GoalRow}
use Rattle.bosh_base.specs.declared.row.DiskRow.{DiskRow}
use Rattle.bosh_base.specs.declared.row.Row.{Row}
use Rattle.bosh_base.specs.declared.row.Vm.{Vm}
use Rattle.laws_answered_rows.proofs.AgreedLemmas.{is_on}
use Rattle.laws_answered_rows.proofs.HeldLemmas.{held_from, is_agreed, is_agreed_there, known_held}
use Rattle.laws_answered_rows.proofs.MadeHeldLemmas.{on_recorded, tied_agreed}
use Rattle.laws_kept_facts.proofs.NumberedLemmas.{numbers}
use Rattle.laws_answered_rows.proofs.OwnLemmas.{IsCreated, created_from, created_parts}
use Rattle.laws_row_facts.specs.Rows.{RowFacts, is_found_last}
use Rattle.laws_row_facts.specs.Words.{are_ascending, implies, is_before, is_below, where_any}
use Rattle.laws_rows.proofs.BoundLemmas.{count-cons, is_held}
use Rattle.laws_rows.proofs.ListLemmas.{IsIn}
use Rattle.laws_rows.proofs.MakeTieLemmas.{others_more}
use Rattle.laws_rows.proofs.SoundLemmas.{distinct_of, one_of}
use Rattle.laws_rows.proofs.StandLemmas.{quiet}
use Rattle.laws_rows.proofs.SteadyLemmas.{IsTiedTo, tied-known}
use Rattle.laws_rows.proofs.WeakTieLemmas.{IsWeak, weak-from, weak-parts}
use Rattle.laws_rows.proofs.WholeTieLemmas.{tied-weak, tied-whole}
use Rattle.laws_rows.specs.Answered.{is_attaching}
use Rattle.laws_rows.specs.Left.{one_if}
use Rattle.laws_rows.specs.Rightful.{is_doubt_fit, is_made}
use Rattle.laws_rows.specs.SoundDisks.{are_distinct, is_recorded}
use Rattle.bosh_rows.specs.After.{updated_row}
use Rattle.bosh_rows.specs.Disks.{is_active, stays}
use Rattle.bosh_rows.specs.NextStep.{next_step}
use Rattle.bosh_rows.specs.Standing.{same_truth}
use Rattle.bosh_rows.specs.Tied.{as_done, has_facts, has_no_other_disk, IsTiedRow, is_disk_kept, is_disk_placed, is_spoiled, is_tied_to, is_tied_to_lost, number_of, without_doubt}
use Rattle.laws_row_frames.proofs.LeavingLemmas.{goes_off}

-- ---- some of the disks

module _ (keep : DiskRow → Bool) where
  all_of : (p : DiskRow → Bool) (ds : List DiskRow) → list_all p ds ≡ true → list_all p (filter keep ds) ≡ true
  all_of p [] all = refl
  all_of p (d ∷ ds) all =
      let parts : (p d ≡ true) × (list_all p ds ≡ true) = and_parts (p d) _ all in
      by_test (keep d) parts.0 (all_of p ds parts.1)
    where
      by_test : (b : Bool) → p d ≡ true → list_all p (filter keep ds) ≡ true →
          list_all p (if b then d ∷ filter keep ds else filter keep ds) ≡ true
      by_test true holds others = and_from (p d) _ holds others
      by_test false holds others = others

  any_of : (p : DiskRow → Bool) (ds : List DiskRow) → list_any p ds ≡ false → list_any p (filter keep ds) ≡ false
  any_of p [] none = refl
  any_of p (d ∷ ds) none = by_test (keep d) (p d) refl none (any_of p ds)
    where
      by_test : (b c : Bool) → p d ≡ c → (c || list_any p ds) ≡ false →
          (list_any p ds ≡ false → list_any p (filter keep ds) ≡ false) →
          list_any p (if b then d ∷ filter keep ds else filter keep ds) ≡ false
      by_test b true holds none others = absurd cc
      by_test true false off none others = ap (λ c. c || list_any p (filter keep ds)) off ∙ others none
      by_test false false off none others = others none

  count_of : (p : DiskRow → Bool) (ds : List DiskRow) → count_by p (filter keep ds) ≤ count_by p ds
  count_of p [] = omega arith
  count_of p (d ∷ ds) =
      let rest : count_by p (filter keep ds) ≤ count_by p ds = count_of p ds in
      let old : count_by p (d ∷ ds) ≡ one_if (p d) + count_by p ds = count-cons p d ds in
      let new : count_by p (d ∷ filter keep ds) ≡ one_if (p d) + count_by p (filter keep ds) =
      count-cons p d (filter keep ds) in
      by_test (keep d) rest old new
    where
      by_test : (b : Bool) → count_by p (filter keep ds) ≤ count_by p ds →
          count_by p (d ∷ ds) ≡ one_if (p d) + count_by p ds →
          count_by p (d ∷ filter keep ds) ≡ one_if (p d) + count_by p (filter keep ds) →
          count_by p (if b then d ∷ filter keep ds else filter keep ds) ≤ count_by p (d ∷ ds)
      by_test true rest old new = omega (arith, rest, old, new)
      by_test false rest old new = omega (arith, rest, old)

  distinct_some : (ds : List DiskRow) → are_distinct ds ≡ true → are_distinct (filter keep ds) ≡ true
  distinct_some [] distinct = refl
  distinct_some (d ∷ ds) distinct =
      let parts : (not (is_recorded ds d.disk) ≡ true) × (are_distinct ds ≡ true) =
      and_parts (not (is_recorded ds d.disk)) _ distinct in
      by_test (keep d) (distinct_some ds parts.1)
      (ap not (any_of (λ it. it.disk == d.disk) ds (not-true (is_recorded ds d.disk) parts.0)))
    where
      by_test : (b : Bool) → are_distinct (filter keep ds) ≡ true →
          not (is_recorded (filter keep ds) d.disk) ≡ true →
          are_distinct (if b then d ∷ filter keep ds else filter keep ds) ≡ true
      by_test true others fresh = and_from (not (is_recorded (filter keep ds) d.disk)) _ fresh others
      by_test false others fresh = others

  -- ascending numbers stay so: each is below all that come after it
  below_all : (k : ℕ) (ds : List DiskRow) → is_below nat_cmp k (numbers ds) ≡ true →
      are_ascending nat_cmp (numbers ds) ≡ true → is_below nat_cmp k (numbers (filter keep ds)) ≡ true
  below_all k [] low order = refl
  below_all k (d ∷ ds) low order =
      let parts : (is_below nat_cmp d.disk (numbers ds) ≡ true) × (are_ascending nat_cmp (numbers ds) ≡ true) =
      and_parts (is_below nat_cmp d.disk (numbers ds)) _ order in
      by_test (keep d)
      (below_all k ds (under (numbers ds) low parts.0) parts.1)
    where
      before : (a b c : ℕ) → is_before (nat_cmp a b) ≡ true → is_before (nat_cmp b c) ≡ true →
          is_before (nat_cmp a c) ≡ true
      before a b c first second = grind (arith, first, second)

      under : (ks : List ℕ) → is_before (nat_cmp k d.disk) ≡ true → is_below nat_cmp d.disk ks ≡ true →
          is_below nat_cmp k ks ≡ true
      under [] low next = refl
      under (j ∷ ks) low next = before k d.disk j low next

      by_test : (b : Bool) → is_below nat_cmp k (numbers (filter keep ds)) ≡ true →
          is_below nat_cmp k (numbers (if b then d ∷ filter keep ds else filter keep ds)) ≡ true
      by_test true others = low
      by_test false others = others

  ascending_some : (ds : List DiskRow) → are_ascending nat_cmp (numbers ds) ≡ true →
      are_ascending nat_cmp (numbers (filter keep ds)) ≡ true
  ascending_some [] order = refl
  ascending_some (d ∷ ds) order =
      let parts : (is_below nat_cmp d.disk (numbers ds) ≡ true) × (are_ascending nat_cmp (numbers ds) ≡ true) =
      and_parts (is_below nat_cmp d.disk (numbers ds)) _ order in
      by_test (keep d) (ascending_some ds parts.1) (below_all d.disk ds parts.0 parts.1)
    where
      by_test : (b : Bool) → are_ascending nat_cmp (numbers (filter keep ds)) ≡ true →
          is_below nat_cmp d.disk (numbers (filter keep ds)) ≡ true →
          are_ascending nat_cmp (numbers (if b then d ∷ filter keep ds else filter keep ds)) ≡ true
      by_test true others low = and_from (is_below nat_cmp d.disk (numbers (filter keep ds))) _ low others
      by_test false others low = others

  -- an attached disk is kept, where those that go are not attached
  on_some : (k : ℕ) (ds : List DiskRow) → ((d : DiskRow) → IsIn d ds → keep d ≡ false → d.attached ≡ false) →
      is_on ds k ≡ true → is_on (filter keep ds) k ≡ true
  on_some k [] off is = absurd cc
  on_some k (d ∷ ds) off is = by_test (keep d) refl is (on_some k ds (λ e among. off e (inr among)))
    where
      first : d.attached ≡ false → ((d.disk == k && d.attached) || is_on ds k) ≡ true → is_on ds k ≡ true
      first none is = by_number (d.disk == k) ((λ i. (d.disk == k && sym none i) || is_on ds k) ∙ is)
        where
          by_number : (b : Bool) → ((b && false) || is_on ds k) ≡ true → is_on ds k ≡ true
          by_number true is = is
          by_number false is = is

      by_test : (b : Bool) → keep d ≡ b → ((d.disk == k && d.attached) || is_on ds k) ≡ true →
          (is_on ds k ≡ true → is_on (filter keep ds) k ≡ true) →
          is_on (if b then d ∷ filter keep ds else filter keep ds) k ≡ true
      by_test true keeps is others = by_first (d.disk == k && d.attached) is
        where
          by_first : (b : Bool) → (b || is_on ds k) ≡ true → (b || is_on (filter keep ds) k) ≡ true
          by_first true is = refl
          by_first false is = others is
      by_test false goes is others = others (first (off d (inl refl) goes) is)

  -- so is one that is recorded, where each that is asked for is attached
  agreed_some : (xs : List Entry) (v : ℕ) (ds : List DiskRow) →
      ((d : DiskRow) → IsIn d ds → keep d ≡ false → d.attached ≡ false) → is_agreed xs ds v ≡ true →
      is_agreed xs (filter keep ds) v ≡ true
  agreed_some xs v ds off agreed =
      let parts : (list_all (λ d. same_truth (is_holder xs v d.disk) d.attached) ds ≡ true)
      × (list_all (is_on ds) (attached_to xs v) ≡ true) =
      and_parts (list_all (λ d. same_truth (is_holder xs v d.disk) d.attached) ds)
      (list_all (is_on ds) (attached_to xs v)) agreed in
      and_from (list_all (λ d. same_truth (is_holder xs v d.disk) d.attached) (filter keep ds)) _
      (all_of (λ d. same_truth (is_holder xs v d.disk) d.attached) ds parts.0)
      (others_more (is_holder xs v) (is_on ds) (is_on (filter keep ds)) (numbers_to (disks_created xs))
      (λ k is. on_some k ds off is) parts.1)

-- ---- an update is done

module _ (xs : List Entry) (w : GoalRow) (row : Row) (facts : RowFacts xs row)
    (none : next_step (Some w) row ≡ None) where
  found : row.lost ≡ false
  found = (quiet (Some w) row none).unlost

  known : row.doubt ≡ None
  known = (quiet (Some w) row none).known

  off : (d : DiskRow) → IsIn d row.disks → stays w d ≡ false → d.attached ≡ false
  off d is goes = goes_off w row none facts.has_machine (one_of row.disks facts.sound_disks) d is goes

  created : IsCreated xs row
  created = created_parts xs row facts.created

  kept : list_all (is_disk_kept xs (updated_row w row)) (updated_row w row).disks ≡ true
  kept = all_of (stays w) (is_disk_kept xs row) row.disks created.kept

  other_disks : (o : Option Vm) → row.vm ≡ o → IsTiedTo xs row →
      list_all (has_no_other_disk xs (updated_row w row)) (number_of o) ≡ true
  other_disks None has tied = refl
  other_disks (Some it) has tied =
      and_from (has_no_other_disk xs (updated_row w row) it.vm) true
      (others_more (is_holder xs it.vm) (is_on (filter (stays w) row.disks))
      (is_recorded (filter (stays w) row.disks)) (numbers_to (disks_created xs))
      (λ k is. on_recorded (filter (stays w) row.disks) k is)
      (and_parts (list_all (λ d. same_truth (is_holder xs it.vm d.disk) d.attached) (filter (stays w) row.disks))
      (list_all (is_on (filter (stays w) row.disks)) (attached_to xs it.vm))
      (agreed_some (stays w) xs it.vm row.disks off (tied_agreed xs row it has tied))).1) refl

  tied_updated : IsTiedTo xs row → IsTiedTo xs (updated_row w row)
  tied_updated tied = record {
    machines = tied.machines;
    facts = by_vm row.vm tied.facts;
    kept = kept;
    placed = all_of (stays w) (is_disk_placed xs (number_of row.vm)) row.disks tied.placed;
    others = other_disks row.vm refl tied;
  }
    where
      by_vm : (o : Option Vm) → has_facts xs row o ≡ true → has_facts xs (updated_row w row) o ≡ true
      by_vm (Some it) is = is
      by_vm None is = is

  tied_now : IsTiedRow xs (updated_row w row)
  tied_now = by_spoiled (is_spoiled xs row) refl
    where
      by_spoiled : (b : Bool) → is_spoiled xs row ≡ b → IsTiedRow xs (updated_row w row)
      by_spoiled true spoils =
          tied-weak xs (updated_row w row) (or_right row.lost _ spoils)
          (weak-from xs (updated_row w row) (record { machines = weak.machines; kept = kept }))
        where
          weak : IsWeak xs row
          weak =
              weak-parts xs row (sym (ap (λ (b : Bool). if b then is_tied_to_lost xs row
              else is_tied_to xs (without_doubt row) || is_tied_to xs (as_done xs row))
              (or_right row.lost _ spoils)) ∙ facts.tied)
      by_spoiled false whole =
          tied-whole xs (updated_row w row) known
          (tied_updated (tied-known xs row facts.tied found whole known))

  held_now : (it : Vm) → row.vm ≡ Some it → is_agreed_there xs (filter (stays w) row.disks) it.vm ≡ true
  held_now it has =
      by_there (is_vm_there xs it.vm) (known_held xs row it found has known facts.holds_disks)
    where
      by_there : (b : Bool) → (not b || is_agreed xs row.disks it.vm) ≡ true →
          (not b || is_agreed xs (filter (stays w) row.disks) it.vm) ≡ true
      by_there true agreed = agreed_some (stays w) xs it.vm row.disks off agreed
      by_there false gone = refl

  -- the row that stays
  pub updated_kept : RowFacts xs (updated_row w row)
  updated_kept = record {
    doubt_fits = ap (is_doubt_fit (updated_row w row)) known;
    has_machine =
        and_from (implies row.lost (is_some row.vm)) _
        (and_parts (implies row.lost (is_some row.vm)) _ facts.has_machine).0
        (by_some (is_some row.vm) (and_parts (implies row.lost (is_some row.vm)) _ facts.has_machine).1);
    sound_disks =
        and_from (are_distinct (filter (stays w) row.disks)) _
        (distinct_some (stays w) row.disks (distinct_of row.disks facts.sound_disks))
        (le-leb (count_by is_active (filter (stays w) row.disks)) 1 (few_active (count_of (stays w) is_active row.disks)
        (leb-true (count_by is_active row.disks) 1 (one_of row.disks facts.sound_disks))));
    has_room =
        le-leb (count_by is_held (filter (stays w) row.disks) + one_if (is_attaching row.doubt)) 2
        (few_held (count_by is_held (filter (stays w) row.disks)) (count_by is_held row.disks)
        (one_if (is_attaching row.doubt)) (count_of (stays w) is_held row.disks)
        (leb-true (count_by is_held row.disks + one_if (is_attaching row.doubt)) 2 facts.has_room));
    deleted_bare = or_right row.lost _ (ap (where_any _) known);
    in_order =
        and_from (are_ascending nat_cmp (numbers (filter (stays w) row.disks))) _
        (ascending_some (stays w) row.disks
        (and_parts (are_ascending nat_cmp (numbers row.disks)) _ facts.in_order).0)
        (λ i. is_found_last xs (record (updated_row w row) { doubt = known i }));
    created =
        created_from xs (updated_row w row)
        (record { made = by_made row.vm created.made; in_dep = created.in_dep; kept = kept });
    tied = tied_now;
    holds_disks = held_from xs (updated_row w row) held_now;
    lost_silent = facts.lost_silent;
  }
    where
      by_some : (b : Bool) → (b || list_all (λ d. not d.attached && not d.mounted) row.disks) ≡ true →
          (b || list_all (λ d. not d.attached && not d.mounted) (filter (stays w) row.disks)) ≡ true
      by_some true is = refl
      by_some false is = all_of (stays w) (λ d. not d.attached && not d.mounted) row.disks is

      few_active : {a b : ℕ} → a ≤ b → b ≤ 1 → a ≤ 1
      few_active less low = omega (arith, less, low)

      few_held : (a b c : ℕ) → a ≤ b → b + c ≤ 2 → a + c ≤ 2
      few_held a b c less low = omega (arith, less, low)

      by_made : (o : Option Vm) → is_made xs row o ≡ true → is_made xs (updated_row w row) o ≡ true
      by_made (Some it) made = made
      by_made None made = refl
