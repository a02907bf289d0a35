-- Where an update is done, or an instance is gone, the disks that go are recorded as orphans, each once.
use Rattle.std.proofs.Common.{◌≡◌, ◌∙◌, ℕ, ◌+◌, ◌≤◌, Bool, true, false, Option, Some, None, List, [], ◌∷◌, refl, sym}
use Rattle.std.proofs.Common.{arith}
use Rattle.std.specs.Prelude.{◌==◌, ◌||◌, eqb, filter, if◌then◌else◌, is_some, not}
use Rattle.std.proofs.lemmas.Bool.{false≢true}
use Rattle.bosh_base.specs.declared.entry.Entry.TheVariants as entries
use Rattle.bosh_base.specs.declared.entry.Update.{Update}
use Rattle.bosh_base.specs.declared.goal.GoalRow.{GoalRow}
use Rattle.bosh_base.specs.declared.inst.Inst.{Inst}
use Rattle.bosh_base.specs.declared.row.DiskRow.{DiskRow}
use Rattle.bosh_base.specs.declared.row.Row.{Row}
use Rattle.bosh_history.specs.Known.{want_in}
use Rattle.bosh_history.specs.Moments.{Moment}
use Rattle.bosh_history.specs.Notes.{EndsUpdate, Leaves}
use Rattle.bosh_history.specs.Recovered.{may_follow}
use Rattle.bosh_history.specs.Ties.{is_making}
use Rattle.bosh_history.specs.Updates.{instance_gone, orphan_of, orphans_after, update_done}
use Rattle.bosh_history.specs.Words.{at}
use Rattle.bosh_rows.proofs.SameLemmas.{same_inst_decides}
use Rattle.bosh_rows.specs.After.{bare, left_behind, updated_row}
use Rattle.bosh_rows.specs.Disks.{stays}
use Rattle.bosh_rows.specs.Same.{same_inst}
use Rattle.bosh_rows.specs.Tied.{one_if}
use Rattle.laws_disks_kept.proofs.CountLemmas.{count, count-cons, count_recorded, count_unrecorded, Counted, Kept}
use Rattle.laws_disks_kept.proofs.CountLemmas.{row_kept, same_maker, times}
use Rattle.laws_disks_kept.proofs.OrphanEntries.{filtered}
use Rattle.laws_disks_kept.proofs.OrphanNotes.{Orphans}
use Rattle.laws_disks_kept.proofs.RowTimes.{rests}
use Rattle.laws_disks_kept.proofs.UpdateLemmas.{gone_step}
use Rattle.laws_facts.specs.Facts.{Holds}
use Rattle.laws_rows.specs.SoundDisks.{is_recorded}

-- those that stay and those that go
count_split : (d : ℕ) (p : DiskRow → Bool) (disks : List DiskRow)
    → count d (filter p disks) + count d (filter (λ it. not (p it)) disks) ≡ count d disks
count_split d p [] = refl
count_split d p (it ∷ disks) = by (p it) (count_split d p disks)
  where
    by : (keeps : Bool)
        → count d (filter p disks) + count d (filter (λ it. not (p it)) disks) ≡ count d disks
        → count d (if keeps then it ∷ filter p disks else filter p disks)
        + count d (if not keeps then it ∷ filter (λ it. not (p it)) disks else filter (λ it. not (p it)) disks)
        ≡ count d (it ∷ disks)
    by true rest =
        let one : count d (it ∷ filter p disks) ≡ one_if (it.disk == d) + count d (filter p disks) =
        count-cons d it (filter p disks) in
        let whole : count d (it ∷ disks) ≡ one_if (it.disk == d) + count d disks = count-cons d it disks in
        omega arith
    by false rest =
        let one : count d (it ∷ filter (λ it. not (p it)) disks)
        ≡ one_if (it.disk == d) + count d (filter (λ it. not (p it)) disks) =
        count-cons d it (filter (λ it. not (p it)) disks) in
        let whole : count d (it ∷ disks) ≡ one_if (it.disk == d) + count d disks = count-cons d it disks in
        omega arith

-- which disks are orphaned then
orphans_some : (i : Inst) (disks : List DiskRow) (old : Orphans) (d : ℕ)
    → is_some (orphans_after i disks old d) ≡ (is_recorded disks d || is_some (old d))
orphans_some i [] old d = refl
orphans_some i (it ∷ disks) old d =
    orphans_some i disks (at eqb it.disk (Some (orphan_of i it)) old) d ∙ by (it.disk == d) refl (is_recorded disks d)
  where
    by : (same : Bool) → (it.disk == d) ≡ same → (rest : Bool)
        → (rest || is_some (if it.disk == d then Some (orphan_of i it) else old d))
        ≡ (((it.disk == d) || rest) || is_some (old d))
    by true same true = sym (λ j. (same j || true) || is_some (old d))
    by true same false =
        (λ j. false || is_some (if same j then Some (orphan_of i it) else old d))
        ∙ sym (λ j. (same j || false) || is_some (old d))
    by false other rest =
        (λ j. rest || is_some (if other j then Some (orphan_of i it) else old d))
        ∙ sym (λ j. (other j || rest) || is_some (old d))

module _ (m : Moment) (h : Holds m) (d : ℕ) where
  abbrev Now : Type 0
  Now = Counted m.effects m.known.row (is_some (m.known.orphan d)) d

  -- a disk of a row was made for its instance
  its : (it : Now) (i : Inst) → is_recorded (m.known.row i).disks d ≡ true → it.inst ≡ i
  its it i is =
      let kept : Kept m.effects i d = row_kept m h i d is in
      same_maker m.effects d it.effect it.inst i it.made it.owner kept.made

  -- what is left of a row, and what is orphaned of it
  module _ (it : Now) (i : Inst) (row : Row) (left : List DiskRow)
      (within : is_recorded (m.known.row i).disks d ≡ false → is_recorded left d ≡ false)
      (split : it.inst ≡ i
      → times row d it.effect.n + count d left ≡ times (m.known.row i) d it.effect.n) where
    own_once : it.inst ≡ i
        → times row d it.effect.n + one_if (is_recorded left d || is_some (m.known.orphan d)) ≡ 1
    own_once own = by (is_recorded left d) refl (is_some (m.known.orphan d)) refl
      where
        before : times (m.known.row i) d it.effect.n + one_if (is_some (m.known.orphan d)) ≡ 1
        before = sym (λ j. times (m.known.row (own j)) d it.effect.n + one_if (is_some (m.known.orphan d))) ∙ it.once

        whole : times row d it.effect.n + count d left + one_if (is_some (m.known.orphan d)) ≡ 1
        whole = (λ j. split own j + one_if (is_some (m.known.orphan d))) ∙ before

        by : (goes : Bool) → is_recorded left d ≡ goes → (orphan : Bool) → is_some (m.known.orphan d) ≡ orphan
            → times row d it.effect.n + one_if (goes || orphan) ≡ 1
        by true goes true orphan =
            let more : 1 ≤ count d left = count_recorded left d goes in
            let all : times row d it.effect.n + count d left + 1 ≡ 1 =
            sym (λ j. times row d it.effect.n + count d left + one_if (orphan j)) ∙ whole in
            absurd (omega arith)
        by true goes false orphan =
            let more : 1 ≤ count d left = count_recorded left d goes in
            let all : times row d it.effect.n + count d left + 0 ≡ 1 =
            sym (λ j. times row d it.effect.n + count d left + one_if (orphan j)) ∙ whole in
            omega arith
        by false stays orphaned orphan =
            let none : count d left ≡ 0 = count_unrecorded left d stays in
            let all : times row d it.effect.n + count d left + one_if orphaned ≡ 1 =
            sym (λ j. times row d it.effect.n + count d left + one_if (orphan j)) ∙ whole in
            omega arith

    left_once : times (at same_inst i row m.known.row it.inst) d it.effect.n
        + one_if (is_some (orphans_after i left m.known.orphan d)) ≡ 1
    left_once =
        (λ j. times (at same_inst i row m.known.row it.inst) d it.effect.n
        + one_if (orphans_some i left m.known.orphan d j))
        ∙ by (same_inst i it.inst) refl
      where
        by : (same : Bool) → same_inst i it.inst ≡ same
            → times (at same_inst i row m.known.row it.inst) d it.effect.n
            + one_if (is_recorded left d || is_some (m.known.orphan d)) ≡ 1
        by true same =
            (λ j. times (if same j then row else m.known.row it.inst) d it.effect.n
            + one_if (is_recorded left d || is_some (m.known.orphan d)))
            ∙ own_once (sym ((same_inst_decides i it.inst).0 same))
        by false other =
            (λ j. times (if other j then row else m.known.row it.inst) d it.effect.n
            + one_if (within (elsewhere (is_recorded (m.known.row i).disks d) refl) j || is_some (m.known.orphan d)))
            ∙ it.once
          where
            elsewhere : (there : Bool) → is_recorded (m.known.row i).disks d ≡ there
                → is_recorded (m.known.row i).disks d ≡ false
            elsewhere false none = none
            elsewhere true there =
                absurd (false≢true (sym other ∙ (same_inst_decides i it.inst).1 (sym (its it i there))))

  pub done_once : (u : Update) → may_follow m (entries.UpdDone u) ≡ true → EndsUpdate m u → (it : Now)
      → times ((update_done (want_in (m.known.task u.task).goal u.inst) u.inst m.known).row it.inst) d it.effect.n
      + one_if (is_some ((update_done (want_in (m.known.task u.task).goal u.inst) u.inst m.known).orphan d)) ≡ 1
  done_once u follows may it = by (want_in (m.known.task u.task).goal u.inst) refl
    where
      by : (want : Option GoalRow) → want_in (m.known.task u.task).goal u.inst ≡ want
          → times ((update_done want u.inst m.known).row it.inst) d it.effect.n
          + one_if (is_some ((update_done want u.inst m.known).orphan d)) ≡ 1
      by None wants = it.once
      by (Some want) wants =
          left_once it u.inst (updated_row want (m.known.row u.inst)) (left_behind want (m.known.row u.inst))
          (filtered (λ it. not (stays want it)) (m.known.row u.inst).disks d)
          (λ own. swap (count d (filter (stays want) (m.known.row u.inst).disks))
          (one_if (is_making it.effect.n (m.known.row u.inst).doubt))
          (count d (left_behind want (m.known.row u.inst))) (count d (m.known.row u.inst).disks)
          (count_split d (stays want) (m.known.row u.inst).disks))
        where
          swap : (a b c all : ℕ) → a + c ≡ all → a + b + c ≡ all + b
          swap a b c all is = omega arith

  pub gone_once : (u : Update) → Leaves m u → (it : Now)
      → times ((instance_gone u.inst m.known).row it.inst) d it.effect.n
      + one_if (is_some ((instance_gone u.inst m.known).orphan d)) ≡ 1
  gone_once u may it =
      left_once it u.inst (bare u.inst) (m.known.row u.inst).disks (λ none. none)
      (λ own. whole (count d (m.known.row u.inst).disks)
      (one_if (is_making it.effect.n (m.known.row u.inst).doubt))
      (λ j. one_if (is_making it.effect.n (rests None (m.known.row u.inst) (gone_step m h u may) j))))
    where
      whole : (a b : ℕ) → b ≡ 0 → 0 + 0 + a ≡ a + b
      whole a b none = omega arith
