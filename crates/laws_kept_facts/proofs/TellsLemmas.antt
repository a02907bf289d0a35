-- At most two disks are attached once a machine tells which it holds, where it holds what is recorded.
use Rattle.std.proofs.Common.{◌≡◌, ℕ, ◌+◌, ◌≤◌, Bool, true, false, Some, List, [], ◌∷◌, refl, sym, ◌∙◌, ap, inl, inr, arith}
use Rattle.std.specs.Prelude.{◌⊎◌, ◌==◌, ◌||◌, not, if◌then◌else◌, filter, map}
use Rattle.std.specs.List.{list_all, list_any}
use Rattle.std.proofs.lemmas.Bool.{and_parts, eqb-true, leb-true, or_cases}
use Rattle.bosh_base.specs.Cloud.{attached_to, disks_created, is_holder, is_vm_there, numbers_to}
use Rattle.bosh_base.specs.declared.call.Call.TheVariants as calls
use Rattle.bosh_base.specs.declared.entry.Entry.{Entry}
use Rattle.bosh_base.specs.declared.row.DiskRow.{DiskRow}
use Rattle.bosh_base.specs.declared.row.Row.{Row}
use Rattle.bosh_base.specs.declared.row.Vm.{Vm}
use Rattle.laws_row_facts.specs.Rows.{holds_its_disks, holds_what_is_attached, is_attached_in, is_held_as_settled}
use Rattle.laws_rows.proofs.BoundLemmas.{count-cons, is_held}
use Rattle.laws_rows.proofs.ListLemmas.{IsIn, all_in}
use Rattle.laws_rows.proofs.NewDiskLemmas.{in-map}
use Rattle.laws_rows.proofs.SoundLemmas.{distinct_of}
use Rattle.laws_rows.specs.Answered.{has_room_for_disks, is_attaching}
use Rattle.laws_rows.specs.Left.{one_if}
use Rattle.laws_rows.specs.SoundDisks.{are_sound}
use Rattle.bosh_rows.specs.After.{attach, attached_by, changing, let_go}
use Rattle.bosh_rows.specs.Standing.{same_truth}
use Rattle.bosh_rows.specs.Tied.{as_done, number_of, without_doubt}
use Rattle.laws_kept_facts.proofs.CallCases.{Doubts}
use Rattle.laws_kept_facts.proofs.RoomyLemmas.{held, held_attached, held_changing}
use Rattle.laws_rows.proofs.NumberLemmas.{any_passes}

-- ---- the disks that a machine tells of

-- no more are attached than as another change has it
held_maps : (f g : DiskRow → DiskRow) (xs : List DiskRow) →
    ((d : DiskRow) → IsIn d xs → (f d).attached ≡ true → (g d).attached ≡ true) →
    held (map f xs) ≤ held (map g xs)
held_maps f g [] each = omega arith
held_maps f g (x ∷ xs) each =
    let first : one_if (f x).attached ≤ one_if (g x).attached =
    by_truth (f x).attached (g x).attached (each x (inl refl)) in
    let rest : held (map f xs) ≤ held (map g xs) = held_maps f g xs (λ d is. each d (inr is)) in
    let a : held (f x ∷ map f xs) ≡ one_if (f x).attached + held (map f xs) = count-cons is_held (f x) (map f xs) in
    let b : held (g x ∷ map g xs) ≡ one_if (g x).attached + held (map g xs) = count-cons is_held (g x) (map g xs) in
    omega arith
  where
    by_truth : (a b : Bool) → (a ≡ true → b ≡ true) → one_if a ≤ one_if b
    by_truth true true less = omega arith
    by_truth true false less = absurd (let is : false ≡ true = less refl in cc)
    by_truth false b less = omega arith

-- where the machine holds what is attached in a row, it tells of no more
told_by : (xs : List Entry) (row new : Row) (v : ℕ) (g : DiskRow → DiskRow) →
    ((d : DiskRow) → (g d).disk ≡ d.disk) → new.disks ≡ map g row.disks →
    holds_what_is_attached xs new v ≡ true →
    held (map (attached_by (attached_to xs v)) row.disks) ≤ held (map g row.disks)
told_by xs row new v g same disks holds = held_maps (attached_by (attached_to xs v)) g row.disks each
  where
    all : list_all (λ d. same_truth (is_holder xs v d.disk) d.attached) (map g row.disks) ≡ true
    all =
        sym (ap (list_all (λ (d : DiskRow). same_truth (is_holder xs v d.disk) d.attached)) disks)
        ∙ (and_parts (list_all (λ d. same_truth (is_holder xs v d.disk) d.attached) new.disks)
        (list_all (is_attached_in new) (attached_to xs v)) holds).0

    by_truth : (a b : Bool) → same_truth a b ≡ true → a ≡ true → b ≡ true
    by_truth true b is on = is
    by_truth false b is on = absurd cc

    each : (d : DiskRow) → IsIn d row.disks → (attached_by (attached_to xs v) d).attached ≡ true →
        (g d).attached ≡ true
    each d is on =
        by_truth (is_holder xs v (g d).disk) (g d).attached
        (all_in (λ d. same_truth (is_holder xs v d.disk) d.attached) (g d) (map g row.disks) all
        (in-map g d row.disks is))
        (ap (is_holder xs v) (same d) ∙ any_passes (is_holder xs v) d.disk (numbers_to (disks_created xs)) on)

-- what holds of a row that is not lost, and its machine
pub held_of : (xs : List Entry) (row : Row) (it : Vm) → row.lost ≡ false → row.vm ≡ Some it →
    holds_its_disks xs row ≡ true → is_held_as_settled xs row it.vm ≡ true
held_of xs row it found has holds =
    (and_parts (is_held_as_settled xs row it.vm) true
    (sym (λ i. found i || list_all (is_held_as_settled xs row) (number_of (has i))) ∙ holds)).0

map_same : (xs : List DiskRow) → xs ≡ map (λ d. d) xs
map_same [] = refl
map_same (x ∷ xs) = ap (λ ys. x ∷ ys) (map_same xs)

-- a row in doubt of an attached or detached disk keeps room where its machine tells
pub tells_room : (xs : List Entry) (row : Row) (it : Vm) (m v x : ℕ) → row.lost ≡ false → row.vm ≡ Some it →
    (Doubts row m (calls.AttachDisk v x) ⊎ Doubts row m (calls.DetachDisk v x)) → are_sound row.disks ≡ true →
    has_room_for_disks row ≡ true → holds_its_disks xs row ≡ true → is_vm_there xs it.vm ≡ true →
    held (map (attached_by (attached_to xs it.vm)) row.disks) ≤ 2
tells_room xs row it m v x found has doubts sound room holds there =
    by_way (or_cases (holds_what_is_attached xs (without_doubt row) it.vm)
    (holds_what_is_attached xs (as_done xs row) it.vm)
    (sym (ap (λ b. not b || (holds_what_is_attached xs (without_doubt row) it.vm
    || holds_what_is_attached xs (as_done xs row) it.vm)) there) ∙ held_of xs row it found has holds)) doubts
  where
    low : held row.disks + one_if (is_attaching row.doubt) ≤ 2
    low = leb-true (held row.disks + one_if (is_attaching row.doubt)) 2 room

    same : held (map (λ d. d) row.disks) ≡ held row.disks
    same = ap held (sym (map_same row.disks))

    one : (f : DiskRow → DiskRow) → ((d : DiskRow) → (f d).disk ≡ d.disk) → (d : DiskRow) →
        (if d.disk == x then f d else d).disk ≡ d.disk
    one f number d = by_test (d.disk == x)
      where
        by_test : (b : Bool) → (if b then f d else d).disk ≡ d.disk
        by_test true = number d
        by_test false = refl

    by_way : (holds_what_is_attached xs (without_doubt row) it.vm ≡ true)
        ⊎ (holds_what_is_attached xs (as_done xs row) it.vm ≡ true) →
        (Doubts row m (calls.AttachDisk v x) ⊎ Doubts row m (calls.DetachDisk v x)) →
        held (map (attached_by (attached_to xs it.vm)) row.disks) ≤ 2
    by_way (inl before) doubts =
        let less : held (map (attached_by (attached_to xs it.vm)) row.disks) ≤ held (map (λ d. d) row.disks) =
        told_by xs row (without_doubt row) it.vm (λ d. d) (λ d. refl) (map_same row.disks) before in
        omega (arith, low, same, less)
    by_way (inr later) (inl doubts) =
        let less : held (map (attached_by (attached_to xs it.vm)) row.disks) ≤ held (changing x attach row.disks) =
        told_by xs row (as_done xs row) it.vm (λ d. if d.disk == x then attach d else d) (one attach (λ d. refl))
        (λ i. (as_done xs (record row { doubt = doubts i })).disks) later in
        let more : held (changing x attach row.disks) ≤ held row.disks + 1 =
        held_attached x row.disks (distinct_of row.disks sound) in
        let first : one_if (is_attaching row.doubt) ≡ 1 = ap (λ d. one_if (is_attaching d)) doubts in
        omega (arith, low, less, more, first)
    by_way (inr later) (inr doubts) =
        let less : held (map (attached_by (attached_to xs it.vm)) row.disks) ≤ held (changing x let_go row.disks) =
        told_by xs row (as_done xs row) it.vm (λ d. if d.disk == x then let_go d else d) (one let_go (λ d. refl))
        (λ i. (as_done xs (record row { doubt = doubts i })).disks) later in
        let more : held (changing x let_go row.disks) ≤ held row.disks =
        held_changing x let_go (λ d is. absurd cc) row.disks in omega (arith, low, less, more)
