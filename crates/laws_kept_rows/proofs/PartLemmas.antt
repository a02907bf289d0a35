-- Each part of a move keeps each row what the cloud has, and what is kept of each open call of an instance.
use Rattle.std.proofs.Common.{◌≡◌, ◌∙◌, ℕ, Bool, true, false, Option, Some, None, [], ◌∷◌, ◌++◌}
use Rattle.std.proofs.Common.{refl, sym, subst}
use Rattle.std.specs.Prelude.{◌≢◌, eqb, if◌then◌else◌}
use Rattle.std.proofs.lemmas.Bool.{eq-eqb, false≢true}
use Rattle.bosh_base.specs.declared.entry.Entry.{Entry}
use Rattle.bosh_base.specs.declared.entry.Entry.TheVariants as entries
use Rattle.bosh_base.specs.declared.inst.Inst.{Inst}
use Rattle.bosh_base.specs.declared.moves.Did.{Did}
use Rattle.bosh_base.specs.declared.owner.Owner.{Owner}
use Rattle.bosh_base.specs.declared.owner.Owner.TheVariants.{Instance}
use Rattle.bosh_base.specs.declared.row.Row.{Row}
use Rattle.bosh_history.specs.Moments.{Moment, OpenCall, losing, performed_call, performing}
use Rattle.bosh_history.specs.Notes.{Outside}
use Rattle.bosh_history.specs.Permitted.{Performs, PerformsOpen}
use Rattle.bosh_rows.specs.After.{after}
use Rattle.laws_cloud.proofs.CloudLemmas.{disk_written, vm_lost}
use Rattle.laws_cloud.proofs.OwnerFrames.{row_doubt}
use Rattle.laws_facts.specs.CallFacts.{IsOwnerKept}
use Rattle.laws_facts.specs.Facts.{Holds}
use Rattle.laws_kept_rows.proofs.NotedLemmas.{Tells, call_noted, is_other, is_owner, row_noted, tells}
use Rattle.laws_kept_rows.proofs.OtherLemmas.{after_left, before_left, row_left}
use Rattle.laws_kept_rows.proofs.OwnLemmas.{answered, unanswered}
use Rattle.laws_kept_rows.proofs.RowLemmas.{own_after_call, own_before_call}
use Rattle.laws_kept_rows.specs.Kept.{HaveRowFacts, KeepTheirInstances}
use Rattle.laws_moves.specs.Parts.{Forgotten, IsKeptByParts, Lost, Noted, Performed, Written}
use Rattle.laws_row_facts.specs.Calls.{row_before}
use Rattle.laws_row_facts.specs.Numbers.{IsDoubtItsOwn}
use Rattle.laws_row_facts.specs.Rows.{RowFacts}
use Rattle.laws_row_frames.proofs.LostCases.{loss_kept}
use Rattle.laws_row_frames.proofs.OtherCases.{write_kept}

-- what is kept of an open call of an instance
kept_of : (m : Moment) → Holds m → (n : ℕ) (call : OpenCall) (i : Inst) → m.calls n ≡ Some call
    → call.begin.owner ≡ Instance i → IsOwnerKept m call.begin call.did (Instance i)
kept_of m h n call i is own =
    subst (λ (owner : Owner). IsOwnerKept m call.begin call.did owner) own (h.performed n call is).owner_kept

-- ---- a call is performed

module _ (outside : Outside) (m : Moment) (h : Holds m) (d : Did) (call : OpenCall) (is : m.calls d.n ≡ Some call)
    (performs : Performs outside m.effects call d) where
  row_performed : (i : Inst) → RowFacts (performing m d).effects (m.known.row i)
  row_performed i = by (tells call.begin.owner (Instance i))
    where
      by : Tells call.begin.owner (Instance i) → RowFacts (performing m d).effects (m.known.row i)
      by (is_owner own) = unanswered outside m h d call is performs i own
      by (is_other other) = row_left outside m h d call is performs i other

  -- another open call
  kept_other : (n : ℕ) (that : OpenCall) (i : Inst) → m.calls n ≡ Some that → d.n ≢ n → that.begin.owner ≡ Instance i
      → IsOwnerKept (performing m d) that.begin that.did (Instance i)
  kept_other n that i there other own = by that.did refl (kept_of m h n that i there own)
    where
      others : call.begin.owner ≢ Instance i
      others mine = other ((h.known.calls n that there).one_call d.n call is (mine ∙ sym own))

      by : (did : Option Did) → that.did ≡ did → IsOwnerKept m that.begin did (Instance i)
          → IsOwnerKept (performing m d) that.begin did (Instance i)
      by None none kept = before_left outside m h d call is performs i others that.begin.call kept
      by (Some told) done kept = after_left outside m h d call is performs i others n that told there done own kept

  kept_performed : (n : ℕ) (that : OpenCall) (i : Inst) → (performing m d).calls n ≡ Some that
      → that.begin.owner ≡ Instance i → IsOwnerKept (performing m d) that.begin that.did (Instance i)
  kept_performed n that i now own = by (eqb d.n n) refl now
    where
      as_told : Some (record call { did = Some d }) ≡ Some that → record call { did = Some d } ≡ that
      as_told it = cc

      by : (it : Bool) → eqb d.n n ≡ it → (if it then performed_call d (m.calls d.n) else m.calls n) ≡ Some that
          → IsOwnerKept (performing m d) that.begin that.did (Instance i)
      by true it told =
          let that_is : record call { did = Some d } ≡ that =
          as_told (sym (λ j. performed_call d (is j)) ∙ told) in
          subst (λ (c : OpenCall). IsOwnerKept (performing m d) c.begin c.did (Instance i)) that_is
          (answered outside m h d call is performs i ((λ j. (that_is j).begin.owner) ∙ own) d.answer performs.step)
      by false other there = kept_other n that i there (λ it. false≢true (sym other ∙ eq-eqb d.n n it)) own

-- ---- a write, and a loss

-- one more entry that leaves all rows of instances
module _ (m : Moment) (h : Holds m) (e : Entry)
    (leaves : (row : Row) → RowFacts m.effects row → IsDoubtItsOwn m.effects row → RowFacts (m.effects ++ e ∷ []) row) where
  row_more : (i : Inst) → RowFacts (m.effects ++ e ∷ []) (m.known.row i)
  row_more i = leaves (m.known.row i) (h.rows i) (row_doubt m h i)

  kept_more : (n : ℕ) (call : OpenCall) (i : Inst) → m.calls n ≡ Some call → call.begin.owner ≡ Instance i
      → IsOwnerKept (record m { effects = m.effects ++ e ∷ [] }) call.begin call.did (Instance i)
  kept_more n call i is own = by call.did (kept_of m h n call i is own)
    where
      by : (did : Option Did) → IsOwnerKept m call.begin did (Instance i)
          → IsOwnerKept (record m { effects = m.effects ++ e ∷ [] }) call.begin did (Instance i)
      by None kept =
          leaves (row_before call.begin.call (m.known.row i)) kept
          (own_before_call m.effects call.begin.call (m.known.row i) (row_doubt m h i))
      by (Some told) kept =
          leaves (after call.begin.n call.begin.call told.answer (m.known.row i)) kept
          (own_after_call m.effects call.begin.n call.begin.call told.answer (m.known.row i) (row_doubt m h i))

-- ---- all

pub rows_kept : IsKeptByParts HaveRowFacts
rows_kept outside m (Performed d) may h i = by (m.calls d.n) refl may
  where
    by : (call : Option OpenCall) → m.calls d.n ≡ call → PerformsOpen outside m.effects d call
        → RowFacts (performing m d).effects (m.known.row i)
    by (Some call) is performs = row_performed outside m h d call is performs i
    by None is performs = absurd performs
rows_kept outside m (Written w) may h i =
    row_more m h (entries.Write w)
    (λ row facts own. write_kept outside.built m.effects row w facts h.cloud.orderly own (disk_written m w.disk may)) i
rows_kept outside m (Lost loss) may h i =
    row_more m h (entries.Lost loss)
    (λ row facts own.
    loss_kept outside.built m.effects row loss facts h.cloud.orderly h.cloud.held_by_own own
    (vm_lost m.effects loss may).0) i
rows_kept outside m (Noted e) may h i = row_noted outside m h e may.0 may.1 i
rows_kept outside m Forgotten may h i = h.rows i

pub calls_kept : IsKeptByParts KeepTheirInstances
calls_kept outside m (Performed d) may h n call i is own = by (m.calls d.n) refl may
  where
    by : (that : Option OpenCall) → m.calls d.n ≡ that → PerformsOpen outside m.effects d that
        → IsOwnerKept (performing m d) call.begin call.did (Instance i)
    by (Some that) there performs = kept_performed outside m h d that there performs n call i is own
    by None there performs = absurd performs
calls_kept outside m (Written w) may h n call i is own =
    kept_more m h (entries.Write w)
    (λ row facts own. write_kept outside.built m.effects row w facts h.cloud.orderly own (disk_written m w.disk may))
    n call i is own
calls_kept outside m (Lost loss) may h n call i is own = by call.did more
  where
    more : IsOwnerKept (record m { effects = m.effects ++ entries.Lost loss ∷ [] }) call.begin call.did (Instance i)
    more =
        kept_more m h (entries.Lost loss)
        (λ row facts own.
        loss_kept outside.built m.effects row loss facts h.cloud.orderly h.cloud.held_by_own own
        (vm_lost m.effects loss may).0)
        n call i is own

    by : (did : Option Did)
        → IsOwnerKept (record m { effects = m.effects ++ entries.Lost loss ∷ [] }) call.begin did (Instance i)
        → IsOwnerKept (losing m loss) call.begin did (Instance i)
    by None kept = kept
    by (Some told) kept = kept
calls_kept outside m (Noted e) may h n call i is own = call_noted outside m h e may.1 n call i is own
calls_kept outside m Forgotten may h n call i is own = absurd cc
