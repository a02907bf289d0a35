-- A disk that is there and recorded orphaned is no row's: no row has it, and no call of a row that is in doubt made it.
use Rattle.std.proofs.Common.{◌≡◌, ◌∙◌, ℕ, ◌+◌, Bool, true, false, ◌&&◌, not, Option, Some, None, List, [], ◌∷◌, ◌++◌}
use Rattle.std.proofs.Common.{ap, refl, sym, arith, inl, inr}
use Rattle.std.specs.Prelude.{◌==◌, ◌||◌, ◌≤◌, count_by}
use Rattle.std.proofs.lemmas.Bool.{and_from, and_parts, eq-eqb, eqb-true, false≢true}
use Rattle.bosh_base.specs.CallStep.{has_number}
use Rattle.bosh_base.specs.Cloud.{creates_disk, disk_created, disk_creation, disks_created, is_disk_there, when}
use Rattle.bosh_base.specs.ExactParts.{Decides-call}
use Rattle.bosh_base.specs.declared.entry.Effect as effect
use Rattle.bosh_base.specs.declared.entry.Entry.{Entry}
use Rattle.bosh_base.specs.declared.entry.Entry.TheVariants.{Effect}
use Rattle.bosh_base.specs.History.{chosen, latest_seen}
use Rattle.bosh_base.specs.declared.inst.Inst.{Inst}
use Rattle.bosh_base.specs.declared.owner.Owner.TheVariants.{Instance}
use Rattle.bosh_base.specs.declared.row.DiskRow.{DiskRow}
use Rattle.bosh_base.specs.declared.row.Doubt.{Doubt}
use Rattle.bosh_base.specs.declared.row.Row.{Row}
use Rattle.bosh_history.specs.Ties.{is_making}
use Rattle.bosh_history.specs.Words.{holds}
use Rattle.bosh_rows.specs.Tied.{is_disk_kept, one_if, was_provided}
use Rattle.laws_answered_rows.proofs.OwnLemmas.{IsEffectOf, created_parts, own_effect, same_instance}
use Rattle.laws_facts.specs.Disks.{is_counted_by, is_recorded_once, times_recorded}
use Rattle.laws_row_facts.specs.Numbers.{IsDoubtItsOwn}
use Rattle.laws_row_facts.specs.Rows.{is_created_as_recorded}
use Rattle.laws_row_facts.specs.Words.{where_any}
use Rattle.laws_row_frames.proofs.OtherCases.{numbered_is}
use Rattle.laws_row_frames.specs.Others.{is_without_disk}
use Rattle.laws_rows.proofs.BoundLemmas.{count-cons}
use Rattle.laws_rows.proofs.FoundLemmas.{disk-among}
use Rattle.laws_rows.proofs.ListLemmas.{IsIn, all_in}
use Rattle.laws_rows.specs.SoundDisks.{is_recorded}

-- a disk of the number
pub recorded_in : (disks : List DiskRow) (number : ℕ) → is_recorded disks number ≡ true
    → (d : DiskRow) × (IsIn d disks) × (d.disk ≡ number)
recorded_in [] number is = absurd (false≢true is)
recorded_in (d ∷ disks) number is = by (d.disk == number) refl is (λ some. recorded_in disks number some)
  where
    by : (b : Bool) → (d.disk == number) ≡ b → (b || is_recorded disks number) ≡ true
        → (is_recorded disks number ≡ true → (x : DiskRow) × (IsIn x disks) × (x.disk ≡ number))
        → (x : DiskRow) × (IsIn x (d ∷ disks)) × (x.disk ≡ number)
    by true same some others = (d, inl refl, eqb-true d.disk number same)
    by false other some others =
        let it : (x : DiskRow) × (IsIn x disks) × (x.disk ≡ number) = others some in (it.0, inr it.1, it.2)

-- .. is counted
pub recorded_counts : (disks : List DiskRow) (number : ℕ) → is_recorded disks number ≡ true
    → 1 ≤ count_by (λ it. it.disk == number) disks
recorded_counts [] number is = absurd (false≢true is)
recorded_counts (d ∷ disks) number is = by (d.disk == number) refl is (λ some. recorded_counts disks number some)
  where
    more : count_by (λ it. it.disk == number) (d ∷ disks)
        ≡ one_if (d.disk == number) + count_by (λ it. it.disk == number) disks
    more = count-cons (λ it. it.disk == number) d disks

    by : (b : Bool) → (d.disk == number) ≡ b → (b || is_recorded disks number) ≡ true
        → (is_recorded disks number ≡ true → 1 ≤ count_by (λ it. it.disk == number) disks)
        → 1 ≤ count_by (λ it. it.disk == number) (d ∷ disks)
    by true same some others =
        let one : one_if (d.disk == number) ≡ 1 = ap one_if same in
        omega (arith, more, one)
    by false other some others =
        let rest : 1 ≤ count_by (λ it. it.disk == number) disks = others some in
        omega (arith, more, rest)

-- what made a disk was a creation of one
seen_creates : (answer : List Entry → Entry → Option (Option effect.Effect))
    → ((before : List Entry) (x : Entry) (e : effect.Effect) → answer before x ≡ Some (Some e)
    → creates_disk e.call ≡ true)
    → (was : Option effect.Effect) → ((e : effect.Effect) → was ≡ Some e → creates_disk e.call ≡ true)
    → (before xs : List Entry) (e : effect.Effect) → latest_seen answer was before xs ≡ Some e
    → creates_disk e.call ≡ true
seen_creates answer tells was made before [] e is = made e is
seen_creates answer tells was made before (x ∷ xs) e is =
    seen_creates answer tells (chosen (answer before x) was) (now (answer before x) refl) (before ++ x ∷ []) xs e is
  where
    now : (a : Option (Option effect.Effect)) → answer before x ≡ a → (e : effect.Effect) → chosen a was ≡ Some e
        → creates_disk e.call ≡ true
    now (Some it) told e same = tells before x e (told ∙ ap Some same)
    now None told e same = made e same

created_by : (xs : List Entry) (d : ℕ) (e : effect.Effect) → disk_creation xs d ≡ Some e → creates_disk e.call ≡ true
created_by xs d e is = seen_creates (disk_created d) tells None (λ e none. absurd cc) [] xs e is
  where
    tells : (before : List Entry) (x : Entry) (e : effect.Effect) → disk_created d before x ≡ Some (Some e)
        → creates_disk e.call ≡ true
    tells before (Effect it) e is = by (creates_disk it.call) refl is
      where
        by : (makes : Bool) → creates_disk it.call ≡ makes
            → when (makes && disks_created before + 1 == d) (Some it) ≡ Some (Some e) → creates_disk e.call ≡ true
        by true makes is = of (disks_created before + 1 == d) is
          where
            of : (b : Bool) → when b (Some it) ≡ Some (Some e) → creates_disk e.call ≡ true
            of true is = let same : it ≡ e = cc in ap (λ (x : effect.Effect). creates_disk x.call) (sym same) ∙ makes
            of false is = absurd cc
        by false makes is = absurd cc
    tells before x e is = absurd cc

module _ (effects : List Entry) (rows : Inst → Row) (d : ℕ) (there : is_disk_there effects d ≡ true)
    (once : is_recorded_once effects rows true d ≡ true) where
  -- the one that it was made for has it as an orphan, and no more
  no_more : (e : effect.Effect) (j : Inst) → disk_creation effects d ≡ Some e → e.owner ≡ Instance j
      → (is_recorded (rows j).disks d ≡ false) × (is_making e.n (rows j).doubt ≡ false)
  no_more e j made own = (none (is_recorded (rows j).disks d) refl, idle (is_making e.n (rows j).doubt) refl)
    where
      counted : (times_recorded (rows j) true d e.n == 1) ≡ true
      counted =
          sym (λ l. is_counted_by rows true d (Some (record e { owner = own l })))
          ∙ (sym (λ l. is_counted_by rows true d (made l))
          ∙ (sym (λ l. not (there l) || is_counted_by rows true d (disk_creation effects d)) ∙ once))

      one : count_by (λ it. it.disk == d) (rows j).disks + one_if (is_making e.n (rows j).doubt) + 1 ≡ 1
      one = eqb-true (times_recorded (rows j) true d e.n) 1 counted

      none : (b : Bool) → is_recorded (rows j).disks d ≡ b → b ≡ false
      none false is = refl
      none true is =
          absurd (let some : 1 ≤ count_by (λ it. it.disk == d) (rows j).disks =
          recorded_counts (rows j).disks d is in omega (arith, one, some))

      idle : (b : Bool) → is_making e.n (rows j).doubt ≡ b → b ≡ false
      idle false is = refl
      idle true is =
          absurd (let some : one_if (is_making e.n (rows j).doubt) ≡ 1 = ap one_if is in omega (arith, one, some))

  -- a row has not the disk
  pub without : (i : Inst) → (rows i).inst ≡ i → is_created_as_recorded effects (rows i) ≡ true
      → IsDoubtItsOwn effects (rows i) → is_without_disk effects (rows i) d ≡ true
  without i own created doubt =
      and_from (not (is_recorded (rows i).disks d)) _ (unrecorded (is_recorded (rows i).disks d) refl)
      (unmade (rows i).doubt refl)
    where
      -- whoever it was made for as this row has it is the row's instance
      provided : (o : Option effect.Effect) (tag : ℕ) (x : DiskRow)
          → was_provided (Instance (rows i).inst) x.tag x.want o ≡ true
          → (e : effect.Effect) × (o ≡ Some e) × (e.owner ≡ Instance i)
      provided (Some e) tag x is =
          (e, refl, same_instance e.owner (rows i).inst (and_parts _ _ is).0 ∙ ap Instance own)
      provided None tag x is = absurd (false≢true is)

      unrecorded : (b : Bool) → is_recorded (rows i).disks d ≡ b → not b ≡ true
      unrecorded false is = refl
      unrecorded true is =
          let it : (x : DiskRow) × (IsIn x (rows i).disks) × (x.disk ≡ d) = recorded_in (rows i).disks d is in
          let kept : is_disk_kept effects (rows i) it.0 ≡ true =
          all_in (is_disk_kept effects (rows i)) it.0 (rows i).disks (created_parts effects (rows i) created).kept it.1
          in
          let made : (e : effect.Effect) × (disk_creation effects it.0.disk ≡ Some e) × (e.owner ≡ Instance i) =
          provided (disk_creation effects it.0.disk) d it.0 (and_parts (is_disk_there effects it.0.disk) _ kept).1 in
          absurd
          (false≢true
          (sym (no_more made.0 i (ap (disk_creation effects) (sym it.2) ∙ made.1) made.2).0 ∙ is))

      makes_none : (dt : Doubt) (e : effect.Effect) → (rows i).doubt ≡ Some dt → disk_creation effects d ≡ Some e
          → e.n ≡ dt.n → ⊥
      makes_none dt e is made number =
          let it : IsEffectOf dt.n (Instance (rows i).inst) (rows i).inst.dep dt.call e =
          own_effect effects (rows i) doubt dt e is (disk-among effects d e made) number in
          let mine : e.owner ≡ Instance i = same_instance e.owner (rows i).inst it.of_owner ∙ ap Instance own in
          let called : e.call ≡ dt.call = (Decides-call e.call dt.call).0 it.of_call in
          false≢true
          (sym (no_more e i made mine).1
          ∙ ((λ j. holds (λ it. it.n == e.n && creates_disk it.call) (is j))
          ∙ and_from (dt.n == e.n) (creates_disk dt.call) (eq-eqb dt.n e.n (sym number))
          (ap creates_disk (sym called) ∙ created_by effects d e made)))

      unmade : (doubt_now : Option Doubt) → (rows i).doubt ≡ doubt_now
          → where_any (λ dt. not (has_number dt.n (disk_creation effects d))) doubt_now ≡ true
      unmade None is = refl
      unmade (Some dt) is = by (has_number dt.n (disk_creation effects d)) refl
        where
          by : (b : Bool) → has_number dt.n (disk_creation effects d) ≡ b → not b ≡ true
          by false other = refl
          by true has =
              let it : (e : effect.Effect) × ((disk_creation effects d ≡ Some e) × (e.n ≡ dt.n)) =
              numbered_is dt.n (disk_creation effects d) has in
              absurd (makes_none dt it.0 is it.1.0 it.1.1)
