-- Which disks are there after one more entry, and that no two disks were made by one call.
use Rattle.std.proofs.Common.{◌≡◌, ◌∙◌, ℕ, ◌+◌, ◌≤◌, Bool, true, false, Some, List, [], ◌∷◌, ◌++◌, refl, sym, subst}
use Rattle.std.proofs.Common.{ap, inl, inr, arith}
use Rattle.std.specs.Prelude.{◌⊎◌, ◌==◌, ◌&&◌}
use Rattle.std.proofs.lemmas.Bool.{and_parts, eqb-true, false≢true}
use Rattle.bosh_base.proofs.HistoryLemmas.{kept_along}
use Rattle.bosh_base.specs.Cloud.{creates_disk, disk_created, disk_creation, disk_presence, disk_stays, disks_created}
use Rattle.bosh_base.specs.Cloud.{is_disk_creation, is_disk_there, when}
use Rattle.bosh_base.specs.History.{chosen}
use Rattle.bosh_base.specs.declared.call.Call.{Call}
use Rattle.bosh_base.specs.declared.call.Call.TheVariants as calls
use Rattle.bosh_base.specs.declared.entry.Effect as effect
use Rattle.bosh_base.specs.declared.entry.Entry.{Entry}
use Rattle.bosh_base.specs.declared.entry.Entry.TheVariants as entries
use Rattle.bosh_base.specs.declared.inst.Inst.{Inst}
use Rattle.bosh_base.specs.declared.row.Row.{Row}
use Rattle.laws_disks_kept.proofs.CountLemmas.{Counted}
use Rattle.laws_effects.proofs.CreationLemmas.{disk_creation-grown, disk_creation_stays, is_disk_there-grown}
use Rattle.laws_effects.specs.Orderly.{AreOrderly, is_new_call, is_taken, IsNext}
use Rattle.laws_row_frames.proofs.WithinLemmas.{are_within}
use Rattle.laws_rows.proofs.FoundLemmas.{disk-among, taken}

-- ---- what is there

-- the entry makes this disk
abbrev pub Makes : List Entry → Entry → ℕ → Type 0
Makes xs x d = (is_disk_creation x ≡ true) × (d ≡ disks_created xs + 1)

-- a disk that is there after one more entry was there before it, or is made by it
pub there_before : (xs : List Entry) (x : Entry) (d : ℕ) → is_disk_there (xs ++ x ∷ []) d ≡ true
    → (is_disk_there xs d ≡ true) ⊎ Makes xs x d
there_before xs x d there = by x (sym (is_disk_there-grown xs x d) ∙ there)
  where
    by_call : (e : effect.Effect) (call : Call) → e.call ≡ call
        → chosen (disk_stays d (disks_created xs) call) (is_disk_there xs d) ≡ true
        → (is_disk_there xs d ≡ true) ⊎ Makes xs (entries.Effect e) d
    by_call e (calls.CreateDisk want v) is there = of (disks_created xs + 1 == d) refl there
      where
        of : (same : Bool) → (disks_created xs + 1 == d) ≡ same
            → chosen (when same true) (is_disk_there xs d) ≡ true
            → (is_disk_there xs d ≡ true) ⊎ Makes xs (entries.Effect e) d
        of true same there = inr (ap creates_disk is, sym (eqb-true (disks_created xs + 1) d same))
        of false other there = inl there
    by_call e (calls.DeleteDisk disk) is there = of (disk == d) there
      where
        of : (same : Bool) → chosen (when same false) (is_disk_there xs d) ≡ true
            → (is_disk_there xs d ≡ true) ⊎ Makes xs (entries.Effect e) d
        of true there = absurd (false≢true there)
        of false there = inl there
    by_call e call is there = inl there

    by : (x : Entry) → chosen (disk_presence d xs x) (is_disk_there xs d) ≡ true
        → (is_disk_there xs d ≡ true) ⊎ Makes xs x d
    by (entries.Effect e) there = by_call e e.call refl there
    by x there = inl there

-- its creation stays
pub made_before : (xs : List Entry) (x : Entry) (d : ℕ) (e : effect.Effect) → disk_creation xs d ≡ Some e
    → disk_creation (xs ++ x ∷ []) d ≡ Some e
made_before xs x d e is = disk_creation_stays xs x d ((are_within xs).disks d e is) ∙ is

pub counted_later : (xs : List Entry) (x : Entry) (rows : Inst → Row) (orphan : Bool) (d : ℕ)
    → Counted xs rows orphan d → Counted (xs ++ x ∷ []) rows orphan d
counted_later xs x rows orphan d it = record {
  effect = it.effect;
  made = made_before xs x d it.effect it.made;
  inst = it.inst;
  owner = it.owner;
  once = it.once;
}

-- ---- one call makes one disk

-- what a disk is made by after one more entry
made_by : (xs : List Entry) (x : Entry) (d : ℕ) (e : effect.Effect) → disk_creation (xs ++ x ∷ []) d ≡ Some e
    → (disk_creation xs d ≡ Some e) ⊎ ((x ≡ entries.Effect e) × (d ≡ disks_created xs + 1))
made_by xs x d e is = by x (sym (disk_creation-grown xs x d) ∙ is)
  where
    of : (new : effect.Effect) (made : Bool) → (creates_disk new.call && disks_created xs + 1 == d) ≡ made
        → chosen (when made (Some new)) (disk_creation xs d) ≡ Some e
        → (disk_creation xs d ≡ Some e) ⊎ ((entries.Effect new ≡ entries.Effect e) × (d ≡ disks_created xs + 1))
    of new true made is =
        let same : new ≡ e = cc in
        inr (
          ap entries.Effect same,
          sym (eqb-true (disks_created xs + 1) d
              (and_parts (creates_disk new.call) (disks_created xs + 1 == d) made).1),
        )
    of new false made is = inl is

    by : (x : Entry) → chosen (disk_created d xs x) (disk_creation xs d) ≡ Some e
        → (disk_creation xs d ≡ Some e) ⊎ ((x ≡ entries.Effect e) × (d ≡ disks_created xs + 1))
    by (entries.Effect new) is = of new (creates_disk new.call && disks_created xs + 1 == d) refl is
    by x is = inl is

-- no two disks were made by calls of one number
abbrev AreMadeApart : List Entry → Type 0
AreMadeApart xs =
    (a b : ℕ) (e f : effect.Effect) → disk_creation xs a ≡ Some e → disk_creation xs b ≡ Some f → e.n ≡ f.n → a ≡ b

number_taken : (xs : List Entry) (d : ℕ) (e : effect.Effect) → disk_creation xs d ≡ Some e → is_taken xs e.n ≡ true
number_taken xs d e is = taken xs e e.n (disk-among xs d e is) refl

apart_step : (xs : List Entry) (x : Entry) → AreMadeApart xs → IsNext xs x → AreMadeApart (xs ++ x ∷ [])
apart_step xs x apart next a b e f of_a of_b same = by (made_by xs x a e of_a) (made_by xs x b f of_b)
  where
    new : (d : ℕ) (old now : effect.Effect) → x ≡ entries.Effect now → disk_creation xs d ≡ Some old → old.n ≡ now.n → ⊥
    new d old now is made same =
        let fresh : is_taken xs now.n ≡ false = subst (λ x. is_new_call xs x) is next.number in
        false≢true (sym fresh ∙ ((λ j. is_taken xs (sym same j)) ∙ number_taken xs d old made))

    by : (disk_creation xs a ≡ Some e) ⊎ ((x ≡ entries.Effect e) × (a ≡ disks_created xs + 1))
        → (disk_creation xs b ≡ Some f) ⊎ ((x ≡ entries.Effect f) × (b ≡ disks_created xs + 1)) → a ≡ b
    by (inl was) (inl also) = apart a b e f was also same
    by (inl was) (inr (is, last)) = absurd (new a e f is was same)
    by (inr (is, last)) (inl also) = absurd (new b f e is also (sym same))
    by (inr (is, last)) (inr (other, too)) = last ∙ sym too

pub made_apart : (xs : List Entry) → AreOrderly xs → AreMadeApart xs
made_apart xs orderly = kept_along IsNext AreMadeApart apart_step [] xs (λ a b e f of_a of_b same. absurd cc) orderly

-- disks are numbered from 1 on
abbrev AreNumbered : List Entry → Type 0
AreNumbered xs = (d : ℕ) (e : effect.Effect) → disk_creation xs d ≡ Some e → 1 ≤ d

numbered_step : (xs : List Entry) (x : Entry) → AreNumbered xs → IsNext xs x → AreNumbered (xs ++ x ∷ [])
numbered_step xs x has next d e is = by (made_by xs x d e is)
  where
    by : (disk_creation xs d ≡ Some e) ⊎ ((x ≡ entries.Effect e) × (d ≡ disks_created xs + 1)) → 1 ≤ d
    by (inl was) = has d e was
    by (inr (is, last)) = omega arith

pub numbered : (xs : List Entry) → AreOrderly xs → AreNumbered xs
numbered xs orderly = kept_along IsNext AreNumbered numbered_step [] xs (λ d e is. absurd cc) orderly

-- none was made by a call that was not performed
pub unmade : (xs : List Entry) (n d : ℕ) (e : effect.Effect) → is_taken xs n ≡ false → disk_creation xs d ≡ Some e
    → (n == e.n) ≡ false
unmade xs n d e fresh is = by (n == e.n) refl
  where
    by : (same : Bool) → (n == e.n) ≡ same → same ≡ false
    by false other = refl
    by true same =
        absurd (false≢true (sym fresh
        ∙ ((λ j. is_taken xs (eqb-true n e.n same j)) ∙ number_taken xs d e is)))
