-- What a call of another owner does leaves the rows of an instance, what they were before an open call, and what they will
-- be once one is answered.
use Rattle.std.proofs.Common.{◌≡◌, ◌∙◌, ℕ, Bool, true, false, ◌&&◌, not, Option, Some, List}
use Rattle.std.proofs.Common.{ap, refl, sym, subst}
use Rattle.std.specs.Prelude.{◌≢◌, if◌then◌else◌, is_some}
use Rattle.std.proofs.lemmas.Bool.{and_parts, eqb-true, false≢true}
use Rattle.bosh_base.specs.CallStep.{is_gone, takes_effect, unless_gone}
use Rattle.bosh_base.specs.Cloud.{holder_of, is_disk_there}
use Rattle.bosh_base.specs.declared.answer.Answer.TheVariants as answers
use Rattle.bosh_base.specs.declared.call.Call.{Call}
use Rattle.bosh_base.specs.declared.call.Call.TheVariants as calls
use Rattle.bosh_base.specs.declared.entry.Entry.{Entry}
use Rattle.bosh_base.specs.declared.inst.Inst.{Inst}
use Rattle.bosh_base.specs.declared.moves.Did.{Did}
use Rattle.bosh_base.specs.declared.owner.Owner.{Owner}
use Rattle.bosh_base.specs.declared.owner.Owner.TheVariants.{Instance, Compile, Disk}
use Rattle.bosh_base.specs.declared.row.Row.{Row}
use Rattle.bosh_history.specs.Calls.{shows_gone}
use Rattle.bosh_history.specs.Known.{Slot}
use Rattle.bosh_history.specs.Moments.{Moment, OpenCall, performing}
use Rattle.bosh_history.specs.Notes.{Outside}
use Rattle.bosh_history.specs.Permitted.{Performs, PerformsOpen}
use Rattle.bosh_rows.proofs.SameLemmas.{itself}
use Rattle.bosh_rows.specs.After.{after, leaves_doubt}
use Rattle.bosh_rows.specs.Same.{same_inst, same_owner}
use Rattle.laws_cloud.proofs.CallLemmas.{joins_own, known_fits, names_own, row_fits, slot_some}
use Rattle.laws_cloud.proofs.CloudLemmas.{takes_now}
use Rattle.laws_cloud.proofs.DiskLemmas.{without}
use Rattle.laws_cloud.proofs.DoneLemmas.{done_now, made_by}
use Rattle.laws_cloud.proofs.NumberLemmas.{numbers_kept}
use Rattle.laws_cloud.proofs.OwnerFrames.{doubt_of_row, row_doubt, where_some}
use Rattle.laws_facts.specs.CallFacts.{is_disk_kept_by}
use Rattle.laws_facts.specs.Disks.{is_recorded_once}
use Rattle.laws_facts.specs.Facts.{Holds}
use Rattle.laws_facts.specs.OpenCalls.{fits_slot, is_on_orphan, rows_answered}
use Rattle.laws_items.proofs.OwnerLemmas.{same_owner_is}
use Rattle.laws_kept_rows.proofs.RowLemmas.{after_own, before_own, own_after_call, own_before_call, without_before}
use Rattle.laws_moves.specs.Parts.{Performed}
use Rattle.laws_row_facts.specs.Calls.{row_before}
use Rattle.laws_row_facts.specs.Numbers.{IsDoubtItsOwn}
use Rattle.laws_row_facts.specs.Rows.{RowFacts, is_created_as_recorded}
use Rattle.laws_row_frames.proofs.OtherCases.{other_kept}
use Rattle.laws_row_frames.specs.Others.{is_without_disk, spares_disks}
use Rattle.laws_rows.specs.Rightful.{done_with, fits}

-- ---- an orphaned disk that is deleted

module _ (m : Moment) (h : Holds m) (n : ℕ) (call : OpenCall) (is : m.calls n ≡ Some call) where
  -- a disk that an open call deletes is recorded orphaned
  deletes_orphan : (x : ℕ) → call.begin.call ≡ calls.DeleteDisk x → is_some (m.known.orphan x) ≡ true
  deletes_orphan x deletes = by call.begin.owner refl
    where
      by : (owner : Owner) → call.begin.owner ≡ owner → is_some (m.known.orphan x) ≡ true
      by (Instance i) own =
          absurd
          (false≢true
          (sym (λ j. fits (m.known.row i) (deletes j)) ∙ row_fits m h n call is i own (λ j. leaves_doubt (deletes j))))
      by (Compile t s) own =
          let it : (it : Slot) × (m.known.slot t s ≡ Some it) × (fits_slot call.begin.n call.begin.call it ≡ true) =
          slot_some m h n call is t s own in
          absurd (false≢true (sym (λ j. fits_slot call.begin.n (deletes j) it.0) ∙ it.2))
      by (Disk disk) own =
          let parts : (is_on_orphan call.begin.call disk ≡ true) × (is_some (m.known.orphan disk) ≡ true) =
          and_parts (is_on_orphan call.begin.call disk) (is_some (m.known.orphan disk))
          (known_fits m h n call is (Disk disk) own) in
          let same : x ≡ disk = eqb-true x disk (sym (λ j. is_on_orphan (deletes j) disk) ∙ parts.0) in
          ap (λ k. is_some (m.known.orphan k)) same ∙ parts.1

-- what is deleted was there
deleted_there : (outside : Outside) (effects : List Entry) (x : ℕ)
    → takes_effect outside.built effects (calls.DeleteDisk x) ≡ true → is_disk_there effects x ≡ true
deleted_there outside effects x takes =
    (and_parts (is_disk_there effects x) _ (by (is_disk_there effects x && not (is_some (holder_of effects x))) takes)).0
  where
    by : (test : Bool) → not (is_gone (unless_gone test answers.Done)) ≡ true → test ≡ true
    by true is = refl
    by false is = absurd (false≢true is)

-- ---- what is done for another owner

module _ (outside : Outside) (m : Moment) (h : Holds m) (d : Did) (call : OpenCall) (is : m.calls d.n ≡ Some call)
    (performs : Performs outside m.effects call d) where
  -- a row of which the call is none
  module _ (row : Row) (facts : RowFacts m.effects row) (own : IsDoubtItsOwn (performing m d).effects row)
      (other : same_owner call.begin.owner (Instance row.inst) ≡ false)
      (spares : (x : ℕ) → is_disk_there m.effects x ≡ true → is_some (m.known.orphan x) ≡ true
      → is_without_disk m.effects row x ≡ true) where
    spared : d.effect ≡ true → spares_disks m.effects row call.begin.call ≡ true
    spared on = by call.begin.call refl
      where
        by : (c : Call) → call.begin.call ≡ c → spares_disks m.effects row c ≡ true
        by (calls.DeleteDisk x) deletes =
            spares x
            (deleted_there outside m.effects x
            (sym (λ j. takes_effect outside.built m.effects (deletes j)) ∙ takes_now outside m d call performs on))
            (deletes_orphan m h d.n call is x deletes)
        by c same = refl

    pub left : RowFacts (performing m d).effects row
    left =
        subst (λ (xs : List Entry). RowFacts xs row) (sym (done_now m d call is)) (of d.effect refl)
      where
        of : (has : Bool) → d.effect ≡ has → RowFacts (done_with has m.effects (made_by m.known call.begin)) row
        of true on =
            other_kept outside.built m.effects row (made_by m.known call.begin) facts h.cloud.orderly h.cloud.held_by_own
            (subst (λ (xs : List Entry). IsDoubtItsOwn xs row)
            (done_now m d call is ∙ (λ j. done_with (on j) m.effects (made_by m.known call.begin))) own)
            other (takes_now outside m d call performs on) (joins_own m h d.n call is) (names_own m h d.n call is)
            (spared on)
        of false off = facts

  -- ---- the rows of one instance

  module _ (i : Inst) (apart : call.begin.owner ≢ Instance i) where
    other_of : (row : Row) → row.inst ≡ i → same_owner call.begin.owner (Instance row.inst) ≡ false
    other_of row own = by (same_owner call.begin.owner (Instance row.inst)) refl
      where
        by : (b : Bool) → same_owner call.begin.owner (Instance row.inst) ≡ b → b ≡ false
        by false none = refl
        by true same =
            absurd (apart (same_owner_is call.begin.owner (Instance row.inst) same ∙ ap Instance own))

    own_row : (m.known.row i).inst ≡ i
    own_row = h.known.lists.own_row i

    own_now : IsDoubtItsOwn (performing m d).effects (m.known.row i)
    own_now =
        doubt_of_row (performing m d)
        (numbers_kept outside m (Performed d)
        (subst (λ (it : Option OpenCall). PerformsOpen outside m.effects d it) (sym is) performs) h)
        h.known.lists.own_row i

    once : (x : ℕ) → is_some (m.known.orphan x) ≡ true → is_recorded_once m.effects m.known.row true x ≡ true
    once x some = (λ j. is_recorded_once m.effects m.known.row (sym some j) x) ∙ (h.disks x).once

    without_row : (x : ℕ) → is_disk_there m.effects x ≡ true → is_some (m.known.orphan x) ≡ true
        → is_without_disk m.effects (m.known.row i) x ≡ true
    without_row x there some =
        without m.effects m.known.row x there (once x some) i own_row (h.rows i).created (row_doubt m h i)

    -- the recorded one
    pub row_left : RowFacts (performing m d).effects (m.known.row i)
    row_left = left (m.known.row i) (h.rows i) own_now (other_of (m.known.row i) own_row) without_row

    -- what it was before a call
    pub before_left : (it : Call) → RowFacts m.effects (row_before it (m.known.row i))
        → RowFacts (performing m d).effects (row_before it (m.known.row i))
    before_left it facts =
        left (row_before it (m.known.row i)) facts
        (own_before_call (performing m d).effects it (m.known.row i) own_now)
        (other_of (row_before it (m.known.row i)) (before_own it (m.known.row i) ∙ own_row))
        (λ x there some. without_before m.effects it (m.known.row i) x (without_row x there some))

    -- what it will be once a call is answered
    pub after_left : (n : ℕ) (that : OpenCall) (told : Did) → m.calls n ≡ Some that → that.did ≡ Some told
        → that.begin.owner ≡ Instance i
        → RowFacts m.effects (after that.begin.n that.begin.call told.answer (m.known.row i))
        → RowFacts (performing m d).effects (after that.begin.n that.begin.call told.answer (m.known.row i))
    after_left n that told there_is done own facts =
        left row facts
        (own_after_call (performing m d).effects that.begin.n that.begin.call told.answer (m.known.row i) own_now)
        (other_of row inst)
        without_after
      where
        row : Row
        row = after that.begin.n that.begin.call told.answer (m.known.row i)

        inst : row.inst ≡ i
        inst = after_own that.begin.n that.begin.call told.answer (m.known.row i) ∙ own_row

        rows : Inst → Row
        rows j =
            if same_inst i j then after that.begin.n that.begin.call told.answer (m.known.row j) else m.known.row j

        mine : rows i ≡ row
        mine = λ l. if itself i l then row else m.known.row i

        -- each disk is recorded once then
        counted : (x : ℕ) → is_some (m.known.orphan x) ≡ true → is_recorded_once m.effects rows true x ≡ true
        counted x some =
            sym ((λ l. is_recorded_once m.effects (rows_answered m.known (record that.begin { owner = own l }) told.answer)
            (is_some (m.known.orphan x) && not (same_owner (own l) (Disk x) && shows_gone that.begin.call told.answer)) x)
            ∙ (λ l. is_recorded_once m.effects rows (some l && true) x))
            ∙ where_some (is_disk_kept_by m that.begin x) that.did told ((h.performed n that there_is).disks_kept x) done

        without_after : (x : ℕ) → is_disk_there m.effects x ≡ true → is_some (m.known.orphan x) ≡ true
            → is_without_disk m.effects row x ≡ true
        without_after x there some =
            subst (λ (it : Row). is_without_disk m.effects it x ≡ true) mine
            (without m.effects rows x there (counted x some) i (ap (λ (it : Row). it.inst) mine ∙ inst)
            (subst (λ (it : Row). is_created_as_recorded m.effects it ≡ true) (sym mine) facts.created)
            (subst (λ (it : Row). IsDoubtItsOwn m.effects it) (sym mine)
            (own_after_call m.effects that.begin.n that.begin.call told.answer (m.known.row i) (row_doubt m h i))))
