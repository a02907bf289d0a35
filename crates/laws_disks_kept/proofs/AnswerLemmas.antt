-- What the cloud answers to a call of an instance leaves how often its row has each disk that is there then.
use Rattle.std.proofs.Common.{◌≡◌, ◌∙◌, ℕ, ◌+◌, ◌≤◌, Bool, true, false, Option, Some, None, List, [], ◌∷◌, ◌++◌, ap}
use Rattle.std.proofs.Common.{refl, sym, subst, inl, inr, arith}
use Rattle.std.specs.Prelude.{◌⊎◌, ◌==◌, ◌&&◌, count_by, find, not, if◌then◌else◌}
use Rattle.std.proofs.lemmas.Bool.{and_from, eq-eqb, eqb-true, false≢true, ne_eqb}
use Rattle.bosh_base.specs.CallStep.{CallStep, found_disk, has_number, is_gone, unless_gone}
use Rattle.bosh_base.specs.Cloud.{creates_disk, disk_creation, disks_created, is_disk_there, is_vm_there, numbers_to}
use Rattle.bosh_base.specs.declared.answer.Answer.{Answer}
use Rattle.bosh_base.specs.declared.answer.Answer.TheVariants as answers
use Rattle.bosh_base.specs.declared.call.Call.{Call}
use Rattle.bosh_base.specs.declared.call.Call.TheVariants as calls
use Rattle.bosh_base.specs.declared.digest.Digest.{Digest}
use Rattle.bosh_base.specs.declared.disk_want.DiskWant.{DiskWant}
use Rattle.bosh_base.specs.declared.entry.Effect as effect
use Rattle.bosh_base.specs.declared.entry.Entry.{Entry}
use Rattle.bosh_base.specs.declared.entry.Entry.TheVariants as entries
use Rattle.bosh_base.specs.declared.inst.Inst.{Inst}
use Rattle.bosh_base.specs.declared.key.KeyWork.{KeyWork}
use Rattle.bosh_base.specs.declared.owner.Owner.TheVariants.{Instance}
use Rattle.bosh_base.specs.declared.row.DiskRow.{DiskRow}
use Rattle.bosh_base.specs.declared.row.Row.{Row}
use Rattle.bosh_history.specs.Ties.{is_making}
use Rattle.bosh_rows.specs.After.{after, new_role, with_disk, with_found}
use Rattle.bosh_rows.specs.Tied.{one_if}
use Rattle.laws_disks_kept.proofs.CountLemmas.{count, count-cons, times}
use Rattle.laws_disks_kept.proofs.GrowthLemmas.{made_apart, made_before, Makes, numbered, there_before, unmade}
use Rattle.laws_disks_kept.proofs.RowTimes.{after_count, makes_disk, same_times}
use Rattle.laws_effects.proofs.CreationLemmas.{disk_creation_next}
use Rattle.laws_effects.specs.Orderly.{AreOrderly, is_taken}
use Rattle.laws_items.proofs.ListedLemmas.{numbered_in}
use Rattle.laws_items.specs.Lists.{IsIn}
use Rattle.laws_row_frames.proofs.WithinLemmas.{are_within}
use Rattle.laws_rows.proofs.FoundLemmas.{disk-found, IsFoundDisk}
use Rattle.laws_rows.specs.Rightful.{done_with}

-- the row has each disk that is there, and was made for the instance, as often after the answer as before it
abbrev pub KeepsCount : List Entry → Inst → ℕ → Call → Answer → Row → Type 0
KeepsCount xs i n call answer row =
    (d : ℕ) (e : effect.Effect) → is_disk_there xs d ≡ true → disk_creation xs d ≡ Some e → e.owner ≡ Instance i
    → times (after n call answer row) d e.n ≡ times row d e.n

-- ---- calls that make no disk

-- the doubt of the row stays, or makes no disk
abbrev pub Calm : ℕ → Call → Answer → Row → Type 0
Calm n call answer row =
    ((after n call answer row).doubt ≡ row.doubt) ⊎ ((tag : ℕ) → is_making tag row.doubt ≡ false)

pub plain_keeps : (xs : List Entry) (i : Inst) (n : ℕ) (call : Call) (answer : Answer) (row : Row)
    → makes_disk call ≡ false → Calm n call answer row → KeepsCount xs i n call answer row
plain_keeps xs i n call answer row none (inl doubt) d e there made own =
    same_times d e.n row (after n call answer row) (after_count d n call answer row none) (inl doubt)
plain_keeps xs i n call answer row none (inr calm) d e there made own =
    same_times d e.n row (after n call answer row) (after_count d n call answer row none) (inr (calm e.n))

-- ---- the disk that a call made is one more

count_more : (d k : ℕ) (disks : List DiskRow) (new : DiskRow) → new.disk ≡ k
    → count d (disks ++ new ∷ []) ≡ count d disks + one_if (k == d)
count_more d k [] new is = count-cons d new [] ∙ by (λ j. one_if (is j == d))
  where
    by : one_if (new.disk == d) ≡ one_if (k == d) → one_if (new.disk == d) + 0 ≡ 0 + one_if (k == d)
    by same = omega (arith, same)
count_more d k (it ∷ disks) new is = by (count_more d k disks new is)
  where
    by : count d (disks ++ new ∷ []) ≡ count d disks + one_if (k == d)
        → count d (it ∷ disks ++ new ∷ []) ≡ count d (it ∷ disks) + one_if (k == d)
    by rest =
        let one : count d (it ∷ disks ++ new ∷ []) ≡ one_if (it.disk == d) + count d (disks ++ new ∷ []) =
        count-cons d it (disks ++ new ∷ []) in
        let two : count d (it ∷ disks) ≡ one_if (it.disk == d) + count d disks = count-cons d it disks in omega arith

-- the disk as it is recorded then
abbrev new_disk : ℕ → ℕ → DiskWant → Row → DiskRow
new_disk tag k wanted row = record {
  disk = k;
  tag = tag;
  want = wanted;
  role = new_role row.disks;
  attached = false;
  mounted = false;
}

-- the row as it is told of the disk that a call in doubt made
with_times : (tag k d number : ℕ) (wanted : DiskWant) (row : Row) → is_making number row.doubt ≡ (k == d)
    → times (with_disk tag wanted (Some k) row) d number ≡ times row d number
with_times tag k d number wanted row makes =
    let more : count d (row.disks ++ new_disk tag k wanted row ∷ []) ≡ count d row.disks + one_if (k == d) =
    count_more d k row.disks (new_disk tag k wanted row) refl in
    let one : one_if (is_making number row.doubt) ≡ one_if (k == d) = (λ j. one_if (makes j)) in omega arith

none_times : (d number : ℕ) (row : Row) → is_making number row.doubt ≡ false
    → times (record row { doubt = None }) d number ≡ times row d number
none_times d number row none = λ j. count_by (λ (it : DiskRow). it.disk == d) row.disks + one_if (sym none j)

-- ---- the creation of a disk

module _ (built : KeyWork → List Digest → Digest) (xs : List Entry) (i : Inst) (n : ℕ) (made : effect.Effect)
    (number : made.n ≡ n) (fresh : is_taken xs n ≡ false)
    (known : (d : ℕ) → is_disk_there xs d ≡ true → (e : effect.Effect) × (disk_creation xs d ≡ Some e)) (row : Row)
  where
    module _ (wanted : DiskWant) (v : ℕ) (call : made.call ≡ calls.CreateDisk wanted v)
        (doubts : row.doubt ≡ Some (record { n = n; call = calls.CreateDisk wanted v })) where
      making : (number : ℕ) → is_making number row.doubt ≡ (n == number)
      making number = (λ j. is_making number (doubts j)) ∙ both (n == number)
        where
          both : (b : Bool) → (b && true) ≡ b
          both true = refl
          both false = refl

      abbrev ys : List Entry
      ys = xs ++ entries.Effect made ∷ []

      created : KeepsCount ys i n (calls.CreateDisk wanted v) (answers.Cid (disks_created xs + 1)) row
      created d e there is own =
          with_times n (disks_created xs + 1) d e.n wanted row
          (making e.n ∙ by (there_before xs (entries.Effect made) d there))
        where
          by : (is_disk_there xs d ≡ true) ⊎ Makes xs (entries.Effect made) d → (n == e.n) ≡ (disks_created xs + 1 == d)
          by (inr (makes, last)) =
              let one : Some made ≡ Some e =
              sym (disk_creation_next xs made (λ j. creates_disk (call j)))
              ∙ ((λ j. disk_creation ys (sym last j)) ∙ is) in
              let same : made ≡ e = cc in
              eq-eqb n e.n (sym number ∙ ap (λ (x : effect.Effect). x.n) same)
              ∙ sym (eq-eqb (disks_created xs + 1) d (sym last))
          by (inl was) =
              let (old, made_old) = known d was in
              let low : d ≤ disks_created xs = (are_within xs).disks d old made_old in
              let both : Some old ≡ Some e = sym (made_before xs (entries.Effect made) d old made_old) ∙ is in
              unmade xs n d e fresh (made_old ∙ both)
              ∙ sym (ne_eqb (disks_created xs + 1) d (λ last. absurd (omega arith)))

      refused : KeepsCount xs i n (calls.CreateDisk wanted v) answers.Gone row
      refused d e there is own = none_times d e.n row (making e.n ∙ unmade xs n d e fresh is)

      pub creating : (has : Bool) (answer : Answer) → CallStep built xs (calls.CreateDisk wanted v) has answer
          → KeepsCount (done_with has xs made) i n (calls.CreateDisk wanted v) answer row
      creating has answer (inl (says, takes)) =
          subst (λ a. KeepsCount (done_with has xs made) i n (calls.CreateDisk wanted v) a row) (sym says)
          (subst (λ has. KeepsCount (done_with has xs made) i n (calls.CreateDisk wanted v)
          (unless_gone (is_vm_there xs v) (answers.Cid (disks_created xs + 1))) row) (sym takes)
          (by (is_vm_there xs v)))
        where
          by : (there : Bool)
              → KeepsCount
              (done_with (not (is_gone (unless_gone there (answers.Cid (disks_created xs + 1))))) xs made)
              i n (calls.CreateDisk wanted v) (unless_gone there (answers.Cid (disks_created xs + 1))) row
          by true = created
          by false = refused
      creating has answer (inr (failed, may)) =
          λ d e there is own j. times (after n (calls.CreateDisk wanted v) (failed j) row) d e.n

-- ---- it is asked what was made

none_found : (p : ℕ → Bool) (ks : List ℕ) → find p ks ≡ None → (k : ℕ) → IsIn k ks → p k ≡ true → ⊥
none_found p [] none k is meets = absurd is
none_found p (j ∷ ks) none k is meets = by (p j) refl none is (none_found p ks)
  where
    by : (b : Bool) → p j ≡ b → (if b then Some j else find p ks) ≡ None → (j ≡ k) ⊎ IsIn k ks
        → (find p ks ≡ None → (k : ℕ) → IsIn k ks → p k ≡ true → ⊥) → ⊥
    by true at none is others = cc
    by false at none (inl same) others = false≢true (sym at ∙ ((λ i. p (same i)) ∙ meets))
    by false at none (inr rest) others = others none k rest meets

module _ (xs : List Entry) (orderly : AreOrderly xs) (i : Inst) (n m v : ℕ) (wanted : DiskWant) (row : Row)
    (doubts : row.doubt ≡ Some (record { n = m; call = calls.CreateDisk wanted v })) where
  asked : (number : ℕ) → is_making number row.doubt ≡ (m == number)
  asked number = (λ j. is_making number (doubts j)) ∙ both (m == number)
    where
      both : (b : Bool) → (b && true) ≡ b
      both true = refl
      both false = refl

  found : (answer : Option ℕ) → found_disk xs m ≡ answer
      → (d : ℕ) (e : effect.Effect) → is_disk_there xs d ≡ true → disk_creation xs d ≡ Some e
      → times (with_disk m wanted answer row) d e.n ≡ times row d e.n
  found (Some k) is d e there made =
      let it : IsFoundDisk xs m k = disk-found xs m k is in
      with_times m k d e.n wanted row (asked e.n ∙ by it (m == e.n) refl)
    where
      by : IsFoundDisk xs m k → (same : Bool) → (m == e.n) ≡ same → same ≡ (k == d)
      by it true same =
          sym (eq-eqb k d (made_apart xs orderly k d it.e e it.made made (it.number ∙ eqb-true m e.n same)))
      by it false other =
          sym (ne_eqb k d (λ one.
          let both : Some it.e ≡ Some e = sym it.made ∙ ((λ j. disk_creation xs (one j)) ∙ made) in
          let alike : it.e ≡ e = cc in
          false≢true (sym other ∙ eq-eqb m e.n (sym it.number ∙ ap (λ (x : effect.Effect). x.n) alike))))
  found None is d e there made =
      none_times d e.n row (asked e.n ∙ by (m == e.n) refl)
    where
      by : (same : Bool) → (m == e.n) ≡ same → same ≡ false
      by false other = refl
      by true same =
          absurd
          (none_found (λ d. is_disk_there xs d && has_number m (disk_creation xs d)) (numbers_to (disks_created xs)) is
          d (numbered_in d (disks_created xs) (numbered xs orderly d e made) ((are_within xs).disks d e made))
          (and_from (is_disk_there xs d) _ there
          ((λ j. has_number m (made j)) ∙ eq-eqb e.n m (sym (eqb-true m e.n same)))))

  pub finding : (built : KeyWork → List Digest → Digest) (has : Bool) (answer : Answer)
      → CallStep built xs (calls.FindDisk m) has answer
      → KeepsCount xs i n (calls.FindDisk m) answer row
  finding built has answer (inl (says, takes)) d e there made own =
      (λ j. times (after n (calls.FindDisk m) (says j) row) d e.n)
      ∙ ((λ j. times (with_found m (found_disk xs m) (doubts j) row) d e.n) ∙ found (found_disk xs m) refl d e there made)
  finding built has answer (inr (failed, may)) d e there made own =
      λ j. times (after n (calls.FindDisk m) (failed j) row) d e.n
