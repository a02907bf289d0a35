-- The facts of a row stay where something is done for another owner, and where a running job writes to a disk.
use Rattle.std.proofs.Common.{◌≡◌, ℕ, Bool, true, false, Option, Some, None, List, [], ◌∷◌, ◌++◌, refl, sym, ◌∙◌, ap}
use Rattle.std.specs.Prelude.{◌&&◌, ◌||◌, ◌==◌, not, if◌then◌else◌}
use Rattle.std.specs.List.{list_all}
use Rattle.std.specs.Str.{bytes_eq}
use Rattle.std.proofs.lemmas.Bool.{and_from, and_parts, eq-eqb, eqb-true, not-true}
use Rattle.bosh_base.specs.CallStep.{found_disk, has_number, takes_effect}
use Rattle.bosh_base.specs.Cloud.{disk_creation, is_disk_there, vm_creation}
use Rattle.bosh_base.specs.declared.call.Call.{Call}
use Rattle.bosh_base.specs.declared.call.Call.TheVariants as calls
use Rattle.bosh_base.specs.declared.digest.Digest.{Digest}
use Rattle.bosh_base.specs.declared.entry.Effect as effect
use Rattle.bosh_base.specs.declared.entry.Entry.{Entry}
use Rattle.bosh_base.specs.declared.entry.Entry.TheVariants.{Effect, Write, Lost}
use Rattle.bosh_base.specs.declared.entry.Write as write
use Rattle.bosh_base.specs.declared.key.KeyWork.{KeyWork}
use Rattle.bosh_base.specs.declared.owner.Owner.TheVariants.{Instance}
use Rattle.bosh_base.specs.declared.row.DiskRow.{DiskRow}
use Rattle.bosh_base.specs.declared.row.Doubt.{Doubt}
use Rattle.bosh_base.specs.declared.row.Row.{Row}
use Rattle.laws_answered_rows.proofs.OwnLemmas.{own_effect}
use Rattle.laws_effects.proofs.CreationLemmas.{disk_creation_next, vm_creation_next}
use Rattle.laws_effects.specs.DiskStates.{DiskState, disk_state}
use Rattle.laws_effects.specs.Holders.{AreHeldByTheirOwn, JoinsBy}
use Rattle.laws_effects.specs.Orderly.{AreOrderly}
use Rattle.laws_row_facts.specs.Numbers.{IsDoubtItsOwn, is_doubt_its_own, is_effect_of}
use Rattle.laws_row_facts.specs.Rows.{RowFacts}
use Rattle.laws_row_facts.specs.Words.{implies, same_call, where_any}
use Rattle.laws_rows.proofs.DiskTieLemmas.{eqb_sym}
use Rattle.laws_rows.proofs.FoundLemmas.{IsFoundDisk, disk-among, disk-found, vm-among}
use Rattle.laws_rows.proofs.TieLemmas.{is_held_by}
use Rattle.laws_rows.specs.SoundDisks.{is_recorded}
use Rattle.bosh_rows.specs.Same.{same_owner}
use Rattle.bosh_rows.specs.Tied.{as_done, is_made_for, is_named_lost}
use Rattle.laws_row_frames.proofs.DoneLemmas.{AllMine, done_mine}
use Rattle.laws_row_frames.proofs.EntryFrames.{Leaves, LeavesFound, disk_found, frames_of, hears_of, vm_found}
use Rattle.laws_row_frames.proofs.FrameLemmas.{IsDiskOf, IsOf, facts_still}
use Rattle.laws_row_frames.proofs.OthersLemmas.{Spares, leaves_of}
use Rattle.laws_row_frames.specs.Others.{names_own_machines, spares_disks}

-- ---- what has the number of a call in doubt

pub numbered_is : (n : ℕ) (o : Option effect.Effect) → has_number n o ≡ true →
    (e : effect.Effect) × ((o ≡ Some e) × (e.n ≡ n))
numbered_is n (Some e) is = (e, (refl, eqb-true e.n n is))
numbered_is n None is = absurd cc

-- .. was made for the instance of its row
pub numbered_vm : (xs : List Entry) (row : Row) → IsDoubtItsOwn xs row → (d : Doubt) → row.doubt ≡ Some d → (v : ℕ) →
    has_number d.n (vm_creation xs v) ≡ true → IsOf xs row.inst v
numbered_vm xs row own d is v has =
    let it : (e : effect.Effect) × ((vm_creation xs v ≡ Some e) × (e.n ≡ d.n)) =
    numbered_is d.n (vm_creation xs v) has in
    ap (is_made_for (Instance row.inst)) it.1.0
    ∙ (own_effect xs row own d it.0 is (vm-among xs v it.0 it.1.0) it.1.1).of_owner

pub numbered_disk : (xs : List Entry) (row : Row) → IsDoubtItsOwn xs row → (d : Doubt) → row.doubt ≡ Some d →
    (k : ℕ) → has_number d.n (disk_creation xs k) ≡ true → IsDiskOf xs row.inst k
numbered_disk xs row own d is k has =
    let it : (e : effect.Effect) × ((disk_creation xs k ≡ Some e) × (e.n ≡ d.n)) =
    numbered_is d.n (disk_creation xs k) has in
    ap (is_made_for (Instance row.inst)) it.1.0
    ∙ (own_effect xs row own d it.0 is (disk-among xs k it.0 it.1.0) it.1.1).of_owner

pub all_front : (p : Entry → Bool) (xs : List Entry) (x : Entry) → list_all p (xs ++ x ∷ []) ≡ true →
    (list_all p xs ≡ true) × (p x ≡ true)
all_front p [] x all = (refl, (and_parts (p x) true all).0)
all_front p (y ∷ xs) x all =
    let parts : (p y ≡ true) × (list_all p (xs ++ x ∷ []) ≡ true) = and_parts (p y) _ all in
    let more : (list_all p xs ≡ true) × (p x ≡ true) = all_front p xs x parts.1 in
    (and_from (p y) (list_all p xs) parts.0 more.0, more.1)

-- what is true with one more entry was true before
pub own_before : (xs : List Entry) (x : Entry) (row : Row) → IsDoubtItsOwn (xs ++ x ∷ []) row → IsDoubtItsOwn xs row
own_before xs x row own = by_doubt row.doubt refl own
  where
    by_doubt : (o : Option Doubt) → row.doubt ≡ o → is_doubt_its_own (xs ++ x ∷ []) (record row { doubt = o }) ≡ true →
        is_doubt_its_own xs (record row { doubt = o }) ≡ true
    by_doubt (Some d) is own =
        (all_front (is_effect_of d.n (Instance row.inst) row.inst.dep d.call) xs x own).0
    by_doubt None is own = refl

-- an effect for another owner has another number
other_number : (xs : List Entry) (e : effect.Effect) (row : Row) → IsDoubtItsOwn (xs ++ Effect e ∷ []) row →
    same_owner e.owner (Instance row.inst) ≡ false → (d : Doubt) → row.doubt ≡ Some d → (e.n == d.n) ≡ false
other_number xs e row own other d is =
    by_number (e.n == d.n)
    (all_front (is_effect_of d.n (Instance row.inst) row.inst.dep d.call) xs (Effect e)
    (sym (λ i. is_doubt_its_own (xs ++ Effect e ∷ []) (record row { doubt = is i })) ∙ own)).1
  where
    by_number : (b : Bool) → implies b (same_owner e.owner (Instance row.inst)
        && (bytes_eq e.dep row.inst.dep && same_call e.call d.call)) ≡ true → b ≡ false
    by_number true holds =
        absurd (let yes : same_owner e.owner (Instance row.inst) ≡ true =
        (and_parts (same_owner e.owner (Instance row.inst)) _ holds).0 in cc)
    by_number false holds = refl

-- ---- the disks that a call leaves

abbrev mine_of : Call → ℕ → Bool
mine_of (calls.DeleteDisk d) k = not (d == k)
mine_of call k = true

unrecorded : (x : ℕ) (ds : List DiskRow) → is_recorded ds x ≡ false → list_all (λ d. not (x == d.disk)) ds ≡ true
unrecorded x [] none = refl
unrecorded x (d ∷ ds) none = by_first (d.disk == x) refl none (unrecorded x ds)
  where
    by_first : (b : Bool) → (d.disk == x) ≡ b → (b || is_recorded ds x) ≡ false →
        (is_recorded ds x ≡ false → list_all (λ d. not (x == d.disk)) ds ≡ true) →
        (not (x == d.disk) && list_all (λ d. not (x == d.disk)) ds) ≡ true
    by_first true same none others = absurd cc
    by_first false other none others =
        and_from (not (x == d.disk)) (list_all (λ d. not (x == d.disk)) ds)
        (ap not (eqb_sym d.disk x false other)) (others none)

pub all_true : (ds : List DiskRow) → list_all (λ d. true) ds ≡ true
all_true [] = refl
all_true (d ∷ ds) = all_true ds

spared_now : (xs : List Entry) (row : Row) (call : Call) → spares_disks xs row call ≡ true →
    AllMine (mine_of call) row.disks
spared_now xs row (calls.DeleteDisk x) spares =
    unrecorded x row.disks
    (not-true (is_recorded row.disks x) (and_parts (not (is_recorded row.disks x)) _ spares).0)
spared_now xs row call spares = all_true row.disks

not_both : (b : Bool) → not b ≡ true → b ≡ true → ⊥
not_both true none is = cc
not_both false none is = cc

-- a disk that the call in doubt made is another one
spared_found : (xs : List Entry) (row : Row) (call : Call) → spares_disks xs row call ≡ true → (d : Doubt) →
    row.doubt ≡ Some d → (k : ℕ) → has_number d.n (disk_creation xs k) ≡ true → mine_of call k ≡ true
spared_found xs row (calls.DeleteDisk x) spares d is k has = by_number (x == k) refl
  where
    unmade : not (has_number d.n (disk_creation xs x)) ≡ true
    unmade =
        sym (ap (where_any (λ doubt. not (has_number doubt.n (disk_creation xs x)))) is)
        ∙ (and_parts (not (is_recorded row.disks x)) _ spares).1

    by_number : (b : Bool) → (x == k) ≡ b → not b ≡ true
    by_number false other = refl
    by_number true same =
        absurd (not_both (has_number d.n (disk_creation xs x)) unmade
        (ap (λ j. has_number d.n (disk_creation xs j)) (eqb-true x k same) ∙ has))
spared_found xs row call spares d is k has = refl

found_numbered : (xs : List Entry) (n k : ℕ) → found_disk xs n ≡ Some k → has_number n (disk_creation xs k) ≡ true
found_numbered xs n k is =
    let it : IsFoundDisk xs n k = disk-found xs n k is in
    ap (has_number n) it.made ∙ eq-eqb it.e.n n it.number

-- ---- an effect for another owner

pub other_kept : (built : KeyWork → List Digest → Digest) (xs : List Entry) (row : Row) (e : effect.Effect) →
    RowFacts xs row → AreOrderly xs → AreHeldByTheirOwn xs → IsDoubtItsOwn (xs ++ Effect e ∷ []) row →
    same_owner e.owner (Instance row.inst) ≡ false → takes_effect built xs e.call ≡ true → JoinsBy xs e.call →
    names_own_machines xs e ≡ true → spares_disks xs row e.call ≡ true → RowFacts (xs ++ Effect e ∷ []) row
other_kept built xs row e facts orderly held own other takes joins named spares =
    facts_still xs (xs ++ Effect e ∷ []) (mine_of e.call) row facts
    (frames_of built xs (Effect e) (mine_of e.call) row.inst orderly takes leaves)
    (record {
      vm = λ d is.
          vm_found built xs (Effect e) (mine_of e.call) row.inst orderly takes leaves d.n (left d is)
          (numbered_vm xs row before d is) (numbered_disk xs row before d is)
          (spared_found xs row e.call spares d is);
      disk = λ d is.
          disk_found built xs (Effect e) (mine_of e.call) row.inst orderly takes leaves d.n (left d is)
          (numbered_vm xs row before d is) (numbered_disk xs row before d is)
          (spared_found xs row e.call spares d is);
    })
    (spared_now xs row e.call spares)
    (done_mine xs (mine_of e.call) row (spared_now xs row e.call spares)
    (λ d k is found. spared_found xs row e.call spares d is k (found_numbered xs d.n k found)))
    (hears_of built xs (Effect e) (mine_of e.call) row.inst orderly takes leaves)
  where
    before : IsDoubtItsOwn xs row
    before = own_before xs (Effect e) row own

    leaves : Leaves xs (Effect e) (mine_of e.call) row.inst
    leaves =
        leaves_of built xs e.owner row.inst orderly held other e (mine_of e.call) refl named takes joins
        (by_call e.call)
      where
        by_call : (call : Call) (k : ℕ) → mine_of call k ≡ true → Spares k call
        by_call (calls.DeleteDisk d) k ours = not-true (d == k) ours
        by_call call k ours = tt

    left : (d : Doubt) → row.doubt ≡ Some d → LeavesFound xs (Effect e) d.n
    left d is = record {
      new_vm = λ makes.
          ap (has_number d.n) (vm_creation_next xs e makes) ∙ other_number xs e row own other d is;
      new_disk = λ makes.
          ap (has_number d.n) (disk_creation_next xs e makes) ∙ other_number xs e row own other d is;
    }

-- ---- a write

either : {A : Type 0} (f : DiskState → A) (b : Bool) (new old : DiskState) → f new ≡ f old →
    f (if b then new else old) ≡ f old
either f true new old is = is
either f false new old is = refl

pub written_named : (xs : List Entry) (w : write.Write) (v : ℕ) →
    is_named_lost (xs ++ Write w ∷ []) v ≡ is_named_lost xs v
written_named [] w v = refl
written_named (Lost loss ∷ xs) w v = ap (λ b. loss.vm == v || b) (written_named xs w v)
written_named (x ∷ xs) w v = written_named xs w v

pub write_kept : (built : KeyWork → List Digest → Digest) (xs : List Entry) (row : Row) (w : write.Write) →
    RowFacts xs row → AreOrderly xs → IsDoubtItsOwn xs row → is_disk_there xs w.disk ≡ true →
    RowFacts (xs ++ Write w ∷ []) row
write_kept built xs row w facts orderly own there =
    facts_still xs (xs ++ Write w ∷ []) (λ k. true) row facts
    (frames_of built xs (Write w) (λ k. true) row.inst orderly there leaves)
    (record {
      vm = λ d is.
          vm_found built xs (Write w) (λ k. true) row.inst orderly there leaves d.n left
          (numbered_vm xs row own d is) (numbered_disk xs row own d is) (λ k has. refl);
      disk = λ d is.
          disk_found built xs (Write w) (λ k. true) row.inst orderly there leaves d.n left
          (numbered_vm xs row own d is) (numbered_disk xs row own d is) (λ k has. refl);
    })
    (all_true row.disks) (all_true (as_done xs row).disks)
    (hears_of built xs (Write w) (λ k. true) row.inst orderly there leaves)
  where
    leaves : Leaves xs (Write w) (λ k. true) row.inst
    leaves = record {
      state = λ v of. refl;
      named = λ v of. written_named xs w v;
      holds = λ v of k. either (λ s. is_held_by v s.holder) (k == w.disk) _ (disk_state xs k) refl;
      here = λ k of ours. either (λ s. s.there) (k == w.disk) _ (disk_state xs k) refl;
      holder = λ k of. either (λ s. s.holder) (k == w.disk) _ (disk_state xs k) refl;
      mounted = λ k of. either (λ s. s.mounted) (k == w.disk) _ (disk_state xs k) refl;
      new_vm = λ makes. absurd cc;
    }

    left : {n : ℕ} → LeavesFound xs (Write w) n
    left = record { new_vm = λ makes. absurd cc; new_disk = λ makes. absurd cc }
