-- The order of the disks is kept by the next call of a row, however it is answered.
use Rattle.std.proofs.Common.{◌≡◌, ℕ, ◌+◌, ◌≤◌, Bool, true, false, Option, Some, None, List, [], ◌∷◌, refl, sym, ◌∙◌, ap, inl, inr, arith}
use Rattle.std.specs.Prelude.{◌&&◌, nat_lt, not}
use Rattle.std.specs.List.{list_all}
use Rattle.std.proofs.lemmas.Bool.{and_parts, and_from}
use Rattle.bosh_base.specs.Call.{method_of}
use Rattle.bosh_base.specs.Method.{is_changing}
use Rattle.bosh_base.specs.CallStep.{answer_of, CallStep, found_disk, is_gone, takes_effect, unless_gone}
use Rattle.bosh_base.specs.Cloud.{disks_created, is_disk_there, is_vm_there}
use Rattle.bosh_base.specs.declared.answer.Answer.{Answer}
use Rattle.bosh_base.specs.declared.answer.Answer.TheVariants as answers
use Rattle.bosh_base.specs.declared.call.Call.{Call}
use Rattle.bosh_base.specs.declared.call.Call.TheVariants as calls
use Rattle.bosh_base.specs.declared.digest.Digest.{Digest}
use Rattle.bosh_base.specs.declared.disk_want.DiskWant.{DiskWant}
use Rattle.bosh_base.specs.declared.entry.Entry.{Entry}
use Rattle.bosh_base.specs.declared.goal.GoalRow.{GoalRow}
use Rattle.bosh_base.specs.declared.key.KeyWork.{KeyWork}
use Rattle.bosh_base.specs.declared.row.DiskRow.{DiskRow}
use Rattle.bosh_base.specs.declared.row.Row.{Row}
use Rattle.laws_effects.proofs.FollowLemmas.{IsWithin, made}
use Rattle.laws_effects.specs.Orderly.{is_taken}
use Rattle.laws_row_facts.specs.Rows.{are_below, are_disks_in_order, is_found_last}
use Rattle.laws_rows.proofs.FoundLemmas.{IsFoundDisk, disk-among, disk-found, found-made_disk, taken}
use Rattle.laws_rows.proofs.RightLemmas.{takes_of}
use Rattle.laws_rows.proofs.StepCases.{Cases}
use Rattle.laws_rows.proofs.TieLemmas.{of_row}
use Rattle.laws_rows.specs.Rightful.{done_with}
use Rattle.bosh_rows.specs.After.{after, begun_row}
use Rattle.bosh_rows.specs.CallOf.{next_call}
use Rattle.bosh_rows.specs.Tied.{is_disk_kept}
use Rattle.laws_kept_facts.proofs.CallCases.{AllCases, Doubts, by_all}
use Rattle.laws_kept_facts.proofs.LatestLemmas.{LeavesLast, after_last}
use Rattle.laws_kept_facts.proofs.NumberedLemmas.{MayAdd, after_ascends, is_ascending, numbers}

-- the disks that were made are below the next one
below_next : (xs : List Entry) (row : Row) (ds : List DiskRow) → list_all (is_disk_kept xs row) ds ≡ true →
    list_all (λ k. nat_lt k (disks_created xs + 1)) (numbers ds) ≡ true
below_next xs row [] kept = refl
below_next xs row (d ∷ ds) kept =
    let parts : (is_disk_kept xs row d ≡ true) × (list_all (is_disk_kept xs row) ds ≡ true) =
    and_parts (is_disk_kept xs row d) _ kept in
    let there : is_disk_there xs d.disk ≡ true = (and_parts (is_disk_there xs d.disk) _ parts.0).0 in
    let within : IsWithin (disks_created xs) d.disk = (made xs).disks d.disk there in
    let low : d.disk ≤ disks_created xs = within.last in
    and_from (nat_lt d.disk (disks_created xs + 1)) (list_all (λ k. nat_lt k (disks_created xs + 1)) (numbers ds))
    (grind (arith, low)) (below_next xs row ds parts.1)

-- what a call is to add, and to leave
abbrev pub LeavesOrder : (KeyWork → List Digest → Digest) → List Entry → ℕ → Row → Call → Type 0
LeavesOrder built xs n row call =
    MayAdd call (answer_of built xs call) row
    × ((dep : List ℕ) (b : Bool) → (b ≡ true → takes_effect built xs call ≡ true) →
    LeavesLast (done_with b xs (of_row row n dep call)) n call row)

module _ (built : KeyWork → List Digest → Digest) (want : Option GoalRow) (xs : List Entry) (n : ℕ) (row : Row)
    (kept : list_all (is_disk_kept xs row) row.disks ≡ true) (last : is_found_last xs row ≡ true)
    (fresh : is_taken xs n ≡ false) where
  -- a call that only asks leaves what was done
  asked : (dep : List ℕ) (call : Call) → is_changing (method_of call) ≡ false → (b : Bool) →
      (b ≡ true → takes_effect built xs call ≡ true) →
      is_found_last (done_with b xs (of_row row n dep call)) row ≡ true
  asked dep call asks true takes =
      absurd (let none : takes_effect built xs call ≡ false =
      ap (λ b. b && not (is_gone (answer_of built xs call))) asks in
      let is : takes_effect built xs call ≡ true = takes refl in cc)
  asked dep call asks false takes = last

  unfound : (o : Option ℕ) → found_disk xs n ≡ o → are_below (numbers row.disks) o ≡ true
  unfound None is = refl
  unfound (Some d) is = absurd (none (disk-found xs n d is))
    where
      none : IsFoundDisk xs n d → ⊥
      none it =
          let also : is_taken xs n ≡ true = taken xs it.e n (disk-among xs d it.e it.made) it.number in cc

  provided : (wanted : DiskWant) (v : ℕ) → LeavesOrder built xs n row (calls.CreateDisk wanted v)
  provided wanted v = (by_there (is_vm_there xs v), by_effect)
    where
      by_there : (b : Bool) →
          MayAdd (calls.CreateDisk wanted v) (unless_gone b (answers.Cid (disks_created xs + 1))) row
      by_there true = below_next xs row row.disks kept
      by_there false = tt

      by_effect : (dep : List ℕ) (b : Bool) → (b ≡ true → takes_effect built xs (calls.CreateDisk wanted v) ≡ true) →
          are_below (numbers row.disks)
          (found_disk (done_with b xs (of_row row n dep (calls.CreateDisk wanted v))) n) ≡ true
      by_effect dep true takes =
          ap (are_below (numbers row.disks)) (found-made_disk xs row wanted v n dep fresh)
          ∙ below_next xs row row.disks kept
      by_effect dep false takes = unfound (found_disk xs n) refl

  known_order : row.doubt ≡ None → Cases (LeavesOrder built xs n row) want row
  known_order known = record {
    remove_drain = λ it has away runs off. (tt, λ dep b takes. tt);
    remove_stop = λ it has away runs off. (tt, λ dep b takes. tt);
    remove_unmount = λ it d has away rests first. (tt, λ dep b takes. tt);
    remove_detach = λ it d has away rests none first. (tt, λ dep b takes. tt);
    remove_delete = λ it has away rests none too. (tt, λ dep b takes. tt);
    create = λ w wants none here. (tt, λ dep b takes. tt);
    tend_drain = λ w it wants has stays runs halts off. (tt, λ dep b takes. tt);
    tend_stop = λ w it wants has stays runs halts off. (tt, λ dep b takes. tt);
    clear_unmount = λ w it d wants tended first. (tt, λ dep b takes. tt);
    clear_detach = λ w it d wants tended none first. (tt, λ dep b takes. tt);
    release_unmount = λ w it d wants cleared nothing first. (tt, λ dep b takes. tt);
    release_detach = λ w it d wants cleared nothing none first. (tt, λ dep b takes. tt);
    provide = λ w it wanted wants cleared disk none. provided wanted it.vm;
    place_attach = λ w it wanted old wants cleared disk was off. (tt, λ dep b takes. tt);
    place_mount = λ w it wanted old wants cleared disk was on off. (tt, λ dep b takes. tt);
    replace_create = λ w it wanted old wants replaced none. provided wanted it.vm;
    replace_attach = λ w it wanted old new wants replaced comes off. (tt, λ dep b takes. tt);
    replace_mount = λ w it wanted old new wants replaced comes on off. (tt, λ dep b takes. tt);
    replace_migrate = λ w it wanted old new wants replaced comes on up. (tt, λ dep b takes. known);
    apply = λ w it wants cleared differs. (tt, λ dep b takes. tt);
    start = λ w it wants cleared disks spec runs rests. (tt, λ dep b takes. tt);
  }

  found_below : (m : ℕ) (wanted : DiskWant) (v : ℕ) → Doubts row m (calls.CreateDisk wanted v) →
      are_below (numbers row.disks) (found_disk xs m) ≡ true
  found_below m wanted v doubts = sym (λ i. is_found_last xs (record row { doubt = doubts i })) ∙ last

  -- each call of a row
  pub all_order : AllCases (LeavesOrder built xs n row) want row
  all_order = record {
    known = λ found known. known_order known;
    deletes = λ it lost has. (tt, λ dep b takes. tt);
    there = λ it m v has doubts. (tt, λ dep b takes. asked dep (calls.HasVm it.vm) refl b takes);
    finds_vm = λ m make hint found doubts. (tt, λ dep b takes. asked dep (calls.FindVm m) refl b takes);
    finds_disk = λ m wanted v doubts.
        (found_below m wanted v doubts, λ dep b takes. asked dep (calls.FindDisk m) refl b takes);
    lists = λ it m v x found has doubts. (tt, λ dep b takes. asked dep (calls.GetDisks it.vm) refl b takes);
    shows = λ it m v x found has doubts. (tt, λ dep b takes. asked dep (calls.ListDisk it.vm) refl b takes);
    tells = λ it m c found has doubts state. (tt, λ dep b takes. asked dep (calls.GetState it.vm) refl b takes);
  }

-- the order is kept
pub order_kept : (built : KeyWork → List Digest → Digest) (want : Option GoalRow) (xs : List Entry) (row : Row)
    (n : ℕ) (dep : List ℕ) (call : Call) (has_effect : Bool) (answer : Answer) →
    list_all (is_disk_kept xs row) row.disks ≡ true → are_disks_in_order xs row ≡ true →
    next_call want row ≡ Some call → is_taken xs n ≡ false → CallStep built xs call has_effect answer →
    are_disks_in_order (done_with has_effect xs (of_row row n dep call)) (after n call answer (begun_row n call row))
    ≡ true
order_kept built want xs row n dep call has_effect answer kept order next fresh step =
    and_from (is_ascending (after n call answer (begun_row n call row))) _
    (by_step step)
    (after_last (done_with has_effect xs (of_row row n dep call)) n call answer row
    (leaves.1 dep has_effect (takes_of built xs call has_effect answer step)))
  where
    parts : (is_ascending row ≡ true) × (is_found_last xs row ≡ true)
    parts = and_parts (is_ascending row) (is_found_last xs row) order

    leaves : LeavesOrder built xs n row call
    leaves =
        by_all (LeavesOrder built xs n row) want row (all_order built want xs n row kept parts.1 fresh) call next

    by_step : CallStep built xs call has_effect answer →
        is_ascending (after n call answer (begun_row n call row)) ≡ true
    by_step (inl (is, has)) =
        ap (λ a. is_ascending (after n call a (begun_row n call row))) is
        ∙ after_ascends n call (answer_of built xs call) (begun_row n call row) parts.0
        (by_begun call (answer_of built xs call) leaves.0)
      where
        by_begun : (c : Call) (a : Answer) → MayAdd c a row → MayAdd c a (begun_row n call row)
        by_begun (calls.CreateDisk wanted v) (answers.Cid d) may = may
        by_begun (calls.FindDisk tag) (answers.Found found) may = may
        by_begun c a may = may
    by_step (inr (failed, may)) =
        ap (λ a. is_ascending (after n call a (begun_row n call row))) failed ∙ parts.0
