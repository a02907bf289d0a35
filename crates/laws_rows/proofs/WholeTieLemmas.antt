-- From the parts of a tie to the tie of a row, and what a tied row says of what its calls name.
use Rattle.std.proofs.Common.{◌≡◌, ℕ, Bool, true, false, Option, Some, None, List, [], ◌∷◌, ◌++◌, refl, sym, ◌∙◌, ap, inl, inr}
use Rattle.std.specs.Prelude.{◌⊎◌, ◌&&◌, ◌||◌, ◌==◌, nat_eq, not, if◌then◌else◌, filter, is_some}
use Rattle.std.specs.List.{list_all, list_any}
use Rattle.std.specs.Cmp.Lexicographic.{pointwise}
use Rattle.std.proofs.lemmas.Bool.{and_parts, and_from, eq-eqb, or_left, or_right, or_parts}
use Rattle.std.proofs.lemmas.Bool.Decides.{Decides-eqb}
use Rattle.bosh_base.specs.CallStep.{has_agent, is_attached, is_movable, is_mounted_on}
use Rattle.bosh_base.specs.Cloud.{holder_of, is_disk_mounted, is_disk_there, is_holder, is_vm_there, numbers_to, silence, vms_created, when}
use Rattle.bosh_base.specs.Exact.{Decides-list}
use Rattle.bosh_base.specs.History.{chosen, latest}
use Rattle.bosh_base.specs.declared.entry.Effect as effect
use Rattle.bosh_base.specs.declared.entry.Entry.{Entry}
use Rattle.bosh_base.specs.declared.entry.Entry.TheVariants.{Effect, Lost}
use Rattle.bosh_base.specs.declared.owner.Owner.TheVariants.{Instance}
use Rattle.bosh_base.specs.declared.row.DiskRow.{DiskRow}
use Rattle.bosh_base.specs.declared.row.Row.{Row}
use Rattle.bosh_base.specs.declared.row.Vm as vm
use Rattle.bosh_rows.specs.Standing.{same_truth}
use Rattle.bosh_rows.specs.Tied.{as_done, IsTiedRow, is_disk_kept, is_disk_placed, is_named_lost, is_spoiled, is_tied_to, is_tied_to_lost, number_of, vms_of, without_doubt}
use Rattle.laws_rows.proofs.DiskTieLemmas.{placed-in}
use Rattle.laws_rows.proofs.ListLemmas.{IsIn, all_in}
use Rattle.laws_rows.proofs.MakeTieLemmas.{mine_in, no_holder}
use Rattle.laws_rows.proofs.SteadyLemmas.{IsTiedTo, tied-from}
use Rattle.laws_rows.proofs.TieLemmas.{is_held_by}

-- ---- lost and spoiled

pub same_list : (xs ys : List ℕ) → pointwise nat_eq xs ys ≡ true → xs ≡ ys
same_list xs ys is = (Decides-list Decides-eqb xs ys).0 is

all_listed : (ks js : List ℕ) → ((k : ℕ) → list_any (λ it. it == k) ks ≡ true → list_any (λ it. it == k) js ≡ true) →
    list_all (λ v. list_any (λ it. it == v) js) ks ≡ true
all_listed [] js each = refl
all_listed (k ∷ ks) js each =
    and_from (list_any (λ it. it == k) js) _
    (each k (or_left (k == k) (list_any (λ it. it == k) ks) (eq-eqb k k refl)))
    (all_listed ks js (λ j is. each j (or_right (k == j) (list_any (λ it. it == j) ks) is)))

-- a row that is tied in its parts is tied where it is lost or spoiled, too
pub lost-tied : (effects : List Entry) (row : Row) → IsTiedTo effects row → is_tied_to_lost effects row ≡ true
lost-tied effects row tied =
    let same : vms_of effects (Instance row.inst) ≡ number_of row.vm =
    same_list (vms_of effects (Instance row.inst)) (number_of row.vm) tied.machines in
    and_from _ _
    (ap (λ ks. list_all (λ v. list_any (λ it. it == v) (number_of row.vm)) ks) same
    ∙ all_listed (number_of row.vm) (number_of row.vm) (λ k is. is))
    tied.kept

by_three : (lost spoiled : Bool) (a b c : Bool) → a ≡ true → (b || c) ≡ true →
    (if lost || spoiled then a else (b || c)) ≡ true
by_three true spoiled a b c weak strong = weak
by_three false true a b c weak strong = weak
by_three false false a b c weak strong = strong

-- without a doubt
pub tied-whole : (effects : List Entry) (row : Row) → row.doubt ≡ None → IsTiedTo effects row → IsTiedRow effects row
tied-whole effects row known tied =
    by_three row.lost (is_spoiled effects row) (is_tied_to_lost effects row) (is_tied_to effects (without_doubt row))
    (is_tied_to effects (as_done effects row)) (lost-tied effects row tied)
    (or_left (is_tied_to effects (without_doubt row)) _
    ((λ i. is_tied_to effects (record row { doubt = sym known i })) ∙ tied-from effects row tied))

-- with one, of a row that is neither lost nor spoiled
pub tied-doubted : (effects : List Entry) (row : Row) → row.lost ≡ false → is_spoiled effects row ≡ false →
    IsTiedTo effects (without_doubt row) ⊎ IsTiedTo effects (as_done effects row) → IsTiedRow effects row
tied-doubted effects row unlost unspoiled tied =
    (λ i. if unlost i || unspoiled i then is_tied_to_lost effects row
    else is_tied_to effects (without_doubt row) || is_tied_to effects (as_done effects row))
    ∙ by_way tied
  where
    by_way : IsTiedTo effects (without_doubt row) ⊎ IsTiedTo effects (as_done effects row) →
        (is_tied_to effects (without_doubt row) || is_tied_to effects (as_done effects row)) ≡ true
    by_way (inl before) = or_left _ _ (tied-from effects (without_doubt row) before)
    by_way (inr later) = or_right _ _ (tied-from effects (as_done effects row) later)

-- a row that is lost or spoiled
pub tied-weak : (effects : List Entry) (row : Row) → (row.lost || is_spoiled effects row) ≡ true →
    is_tied_to_lost effects row ≡ true → IsTiedRow effects row
tied-weak effects row is weak =
    ap (λ (b : Bool). if b then is_tied_to_lost effects row
    else is_tied_to effects (without_doubt row) || is_tied_to effects (as_done effects row)) is ∙ weak

-- the effect of a call names no machine as lost
pub named-lost : (xs : List Entry) (e : effect.Effect) (v : ℕ) →
    is_named_lost (xs ++ Effect e ∷ []) v ≡ is_named_lost xs v
named-lost [] e v = refl
named-lost (Lost loss ∷ xs) e v = ap (λ b. loss.vm == v || b) (named-lost xs e v)
named-lost (x ∷ xs) e v = named-lost xs e v

pub spoiled-same : (xs : List Entry) (e : effect.Effect) (row : Row) →
    is_spoiled (xs ++ Effect e ∷ []) row ≡ is_spoiled xs row
spoiled-same xs e row = by_vm row.vm
  where
    by_vm : (it : Option vm.Vm) →
        list_any (is_named_lost (xs ++ Effect e ∷ [])) (number_of it) ≡ list_any (is_named_lost xs) (number_of it)
    by_vm (Some it) = ap (λ b. b || false) (named-lost xs e it.vm)
    by_vm None = refl

-- a machine that no loss names answers
quiet_latest : (xs : List Entry) (v : ℕ) → is_named_lost xs v ≡ false → latest (silence v) false xs ≡ false
quiet_latest [] v none = refl
quiet_latest (Lost loss ∷ xs) v none =
    let parts : ((loss.vm == v) ≡ false) × (is_named_lost xs v ≡ false) =
    or_parts (loss.vm == v) (is_named_lost xs v) none in
    ap (λ d. latest (silence v) d xs) (by_loss (not loss.whole) (loss.vm == v) parts.0) ∙ quiet_latest xs v parts.1
  where
    by_loss : (a b : Bool) → b ≡ false → chosen (when (a && b) true) false ≡ false
    by_loss true b is = ap (λ b. chosen (when b true) false) is
    by_loss false b is = refl
quiet_latest (x ∷ xs) v none = quiet_latest xs v none

-- ---- what a tied row's machine and disks are

listed_first : (p : ℕ → Bool) (v : ℕ) (ks : List ℕ) → filter p ks ≡ v ∷ [] → p v ≡ true
listed_first p v [] is = absurd cc
listed_first p v (k ∷ ks) is = by_test (listed_first p v ks) (p k) refl is
  where
    by_test : (filter p ks ≡ v ∷ [] → p v ≡ true) → (b : Bool) → p k ≡ b →
        (if b then k ∷ filter p ks else filter p ks) ≡ v ∷ [] → p v ≡ true
    by_test others true holds is = let same : k ≡ v = cc in ap p (sym same) ∙ holds
    by_test others false holds is = others is

pub machine-mine : (effects : List Entry) (row : Row) (it : vm.Vm) → row.vm ≡ Some it →
    pointwise nat_eq (vms_of effects (Instance row.inst)) (number_of row.vm) ≡ true → mine_in effects row it.vm ≡ true
machine-mine effects row it has machines =
    listed_first (mine_in effects row) it.vm (numbers_to (vms_created effects))
    (same_list (vms_of effects (Instance row.inst)) (it.vm ∷ [])
    (sym (ap (λ v. pointwise nat_eq (vms_of effects (Instance row.inst)) (number_of v)) has) ∙ machines))

pub machine-there : (effects : List Entry) (row : Row) (it : vm.Vm) → row.vm ≡ Some it → IsTiedTo effects row →
    is_vm_there effects it.vm ≡ true
machine-there effects row it has tied =
    (and_parts (is_vm_there effects it.vm) _ (machine-mine effects row it has tied.machines)).0

pub machine-answers : (effects : List Entry) (row : Row) (it : vm.Vm) → row.vm ≡ Some it → IsTiedTo effects row →
    is_spoiled effects row ≡ false → has_agent effects it.vm ≡ true
machine-answers effects row it has tied unspoiled =
    let unnamed : is_named_lost effects it.vm ≡ false =
    (or_parts (is_named_lost effects it.vm) false
    (sym (ap (λ v. list_any (is_named_lost effects) (number_of v)) has) ∙ unspoiled)).0 in
    (λ i. machine-there effects row it has tied i && not (quiet_latest effects it.vm unnamed i))

-- a disk of the row, where it is attached and where it is not
pub record IsPlacedSo (effects : List Entry) (v : ℕ) (d : DiskRow) : Type 0 where
  pub there : is_disk_there effects d.disk ≡ true
  pub some : same_truth (is_some (holder_of effects d.disk)) d.attached ≡ true
  pub held : same_truth (is_held_by v (holder_of effects d.disk) || false) d.attached ≡ true
  pub mounted : same_truth (d.attached && is_disk_mounted effects d.disk) d.mounted ≡ true

pub placed-so : (effects : List Entry) (row : Row) (it : vm.Vm) → row.vm ≡ Some it → IsTiedTo effects row →
    (d : DiskRow) → IsIn d row.disks → IsPlacedSo effects it.vm d
placed-so effects row it has tied d is =
    let all : is_disk_placed effects (it.vm ∷ []) d ≡ true = placed-in effects row it tied has d is in
    let first : ((same_truth (is_some (holder_of effects d.disk)) d.attached
    && same_truth (is_held_by it.vm (holder_of effects d.disk) || false) d.attached) ≡ true)
    × (same_truth (d.attached && is_disk_mounted effects d.disk) d.mounted ≡ true) =
    and_parts (same_truth (is_some (holder_of effects d.disk)) d.attached
    && same_truth (is_held_by it.vm (holder_of effects d.disk) || false) d.attached)
    (same_truth (d.attached && is_disk_mounted effects d.disk) d.mounted) all in
    let second : (same_truth (is_some (holder_of effects d.disk)) d.attached ≡ true)
    × (same_truth (is_held_by it.vm (holder_of effects d.disk) || false) d.attached ≡ true) =
    and_parts (same_truth (is_some (holder_of effects d.disk)) d.attached)
    (same_truth (is_held_by it.vm (holder_of effects d.disk) || false) d.attached) first.0 in record {
      there = (and_parts (is_disk_there effects d.disk) _ (all_in (is_disk_kept effects row) d row.disks tied.kept
          is)).0;
      some = second.0;
      held = second.1;
      mounted = first.1;
    }

-- two that are the same truth are the same
pub truth-same : (a b : Bool) → same_truth a b ≡ true → a ≡ b
truth-same true b is = sym is
truth-same false true is = absurd cc
truth-same false false is = refl

or_none : (b : Bool) → (b || false) ≡ b
or_none true = refl
or_none false = refl

-- a disk that is attached is held by the machine, and one that is not by none
pub held-by : (effects : List Entry) (v : ℕ) (d : DiskRow) → IsPlacedSo effects v d → d.attached ≡ true →
    is_holder effects v d.disk ≡ true
held-by effects v d placed on =
    sym (or_none (is_held_by v (holder_of effects d.disk)))
    ∙ truth-same (is_held_by v (holder_of effects d.disk) || false) d.attached placed.held ∙ on

pub held-none : (effects : List Entry) (v : ℕ) (d : DiskRow) → IsPlacedSo effects v d → d.attached ≡ false →
    holder_of effects d.disk ≡ None
held-none effects v d placed off =
    no_holder (holder_of effects d.disk)
    (truth-same (is_some (holder_of effects d.disk)) d.attached placed.some ∙ off)

pub mounted-so : (effects : List Entry) (v : ℕ) (d : DiskRow) → IsPlacedSo effects v d → d.attached ≡ true →
    is_disk_mounted effects d.disk ≡ d.mounted
mounted-so effects v d placed on =
    sym (ap (λ b. b && is_disk_mounted effects d.disk) on)
    ∙ truth-same (d.attached && is_disk_mounted effects d.disk) d.mounted placed.mounted

pub mounted-held : (effects : List Entry) (v : ℕ) (d : DiskRow) → IsPlacedSo effects v d → d.mounted ≡ true →
    d.attached ≡ true
mounted-held effects v d placed on =
    (and_parts d.attached (is_disk_mounted effects d.disk)
    (truth-same (d.attached && is_disk_mounted effects d.disk) d.mounted placed.mounted ∙ on)).0

pub movable-off : (effects : List Entry) (v : ℕ) (d : DiskRow) → IsPlacedSo effects v d → d.attached ≡ false →
    is_movable effects v d.disk ≡ true
movable-off effects v d placed off =
    let none : is_some (holder_of effects d.disk) ≡ false =
    truth-same (is_some (holder_of effects d.disk)) d.attached placed.some ∙ off in
    (λ i. placed.there i && ((not (none i) || is_holder effects v d.disk)
    && not (none i && is_disk_mounted effects d.disk)))

pub movable-on : (effects : List Entry) (v : ℕ) (d : DiskRow) → IsPlacedSo effects v d → d.attached ≡ true →
    d.mounted ≡ false → is_movable effects v d.disk ≡ true
movable-on effects v d placed on off =
    let some : is_some (holder_of effects d.disk) ≡ true =
    truth-same (is_some (holder_of effects d.disk)) d.attached placed.some ∙ on in
    (λ i. placed.there i && ((not (some i) || held-by effects v d placed on i)
    && not (some i && (mounted-so effects v d placed on ∙ off) i)))

pub attached-on : (effects : List Entry) (v : ℕ) (d : DiskRow) → IsPlacedSo effects v d → d.attached ≡ true →
    is_attached effects v d.disk ≡ true
attached-on effects v d placed on = λ i. placed.there i && held-by effects v d placed on i

pub mounted-on : (effects : List Entry) (v : ℕ) (d : DiskRow) → IsPlacedSo effects v d → d.attached ≡ true →
    d.mounted ≡ true → is_mounted_on effects v d.disk ≡ true
mounted-on effects v d placed on up =
    λ i. attached-on effects v d placed on i && (mounted-so effects v d placed on ∙ up) i
