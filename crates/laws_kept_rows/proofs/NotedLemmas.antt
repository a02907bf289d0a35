-- An entry that is noted keeps each row what the cloud has, and what is kept of each open call of an instance.
use Rattle.std.proofs.Common.{◌≡◌, ◌∙◌, ℕ, Bool, true, false, Option, Some, None}
use Rattle.std.proofs.Common.{ap, refl, sym, subst}
use Rattle.std.specs.Prelude.{◌≢◌, eqb, if◌then◌else◌}
use Rattle.std.proofs.lemmas.Bool.{false≢true}
use Rattle.bosh_base.specs.declared.entry.Begin.{Begin}
use Rattle.bosh_base.specs.declared.entry.End.{End}
use Rattle.bosh_base.specs.declared.entry.Entry.{Entry}
use Rattle.bosh_base.specs.declared.entry.Entry.TheVariants as entries
use Rattle.bosh_base.specs.declared.inst.Inst.{Inst}
use Rattle.bosh_base.specs.declared.moves.Did.{Did}
use Rattle.bosh_base.specs.declared.owner.Owner.{Owner}
use Rattle.bosh_base.specs.declared.owner.Owner.TheVariants.{Instance, Compile, Disk}
use Rattle.bosh_base.specs.declared.row.Row.{Row}
use Rattle.bosh_history.specs.Calls.{begins}
use Rattle.bosh_history.specs.Known.{Known}
use Rattle.bosh_history.specs.Learn.{learn}
use Rattle.bosh_history.specs.Moments.{Moment, OpenCall, noting}
use Rattle.bosh_history.specs.Notes.{Begins, EndsCall, MayNote, Outside}
use Rattle.bosh_history.specs.Recovered.{may_follow}
use Rattle.bosh_rows.specs.After.{after, begun_row}
use Rattle.bosh_rows.specs.Same.{same_owner}
use Rattle.laws_cloud.proofs.TellLemmas.{same_owner_itself}
use Rattle.laws_facts.proofs.CallLemmas.{none_open}
use Rattle.laws_facts.specs.CallFacts.{IsOwnerKept}
use Rattle.laws_facts.specs.Facts.{Holds}
use Rattle.laws_items.proofs.ItemLemmas.{LeavesOpen, spares}
use Rattle.laws_items.proofs.MarkLemmas.{Spares}
use Rattle.laws_items.proofs.OwnerLemmas.{same_owner_is}
use Rattle.laws_items.proofs.RowFrames.{row_apart, row_note}
use Rattle.laws_kept_rows.proofs.BeginLemmas.{begun_facts, begun_is, ended_facts, gone_facts, updated_facts}
use Rattle.laws_row_facts.specs.Calls.{row_before}
use Rattle.laws_row_facts.specs.Rows.{RowFacts}

-- one owner is the other, or is not
pub data Tells (a b : Owner) : Type 0 where
  is_owner : a ≡ b → Tells a b
  is_other : a ≢ b → Tells a b

pub tells : (a b : Owner) → Tells a b
tells a b = by (same_owner a b) refl
  where
    by : (is : Bool) → same_owner a b ≡ is → Tells a b
    by true is = is_owner (same_owner_is a b is)
    by false none = is_other (λ is. false≢true (sym none ∙ ((λ j. same_owner (is j) b) ∙ same_owner_itself b)))

-- the beginning of another's call leaves the row
begun_other : (b : Begin) (owner : Owner) (k : Known) (i : Inst) → owner ≢ Instance i
    → (begins b owner k).row i ≡ k.row i
begun_other b (Instance j) k i other =
    row_apart j i (begun_row b.n b.call (k.row j)) k.row (λ is. other (ap Instance is))
begun_other b (Compile t s) k i other = refl
begun_other b (Disk d) k i other = refl

module _ (outside : Outside) (m : Moment) (h : Holds m) where
  as_was : (new : Row) (i : Inst) → new ≡ m.known.row i → RowFacts m.effects new
  as_was new i is = subst (λ (row : Row). RowFacts m.effects row) (sym is) (h.rows i)

  -- ---- rows

  row_begin : (b : Begin) → Begins m b → (i : Inst) → RowFacts m.effects ((learn m.known (entries.Begin b)).row i)
  row_begin b may i = by (tells b.owner (Instance i))
    where
      by : Tells b.owner (Instance i) → RowFacts m.effects ((learn m.known (entries.Begin b)).row i)
      by (is_owner own) =
          subst (λ (row : Row). RowFacts m.effects row) (sym (begun_is outside m h b may i own))
          (begun_facts outside m h b may i own).now
      by (is_other other) =
          as_was ((learn m.known (entries.Begin b)).row i) i (begun_other b b.owner m.known i other)

  row_end : (e : End) → EndsCall e (m.calls e.n) → (i : Inst)
      → RowFacts m.effects ((learn m.known (entries.End e)).row i)
  row_end e may i = by (m.calls e.n) refl may
    where
      of : (call : OpenCall) → m.calls e.n ≡ Some call → EndsCall e (Some call) → Tells call.begin.owner (Instance i)
          → RowFacts m.effects ((learn m.known (entries.End e)).row i)
      of call is ends (is_owner own) = ended_facts m h e call is ends i own
      of call is ends (is_other other) =
          as_was ((learn m.known (entries.End e)).row i) i
          (row_note outside m (entries.End e) i may refl
          (λ b begun mine.
          other ((λ j. (one call.begin b (sym (h.known.calls e.n call is).begun ∙ begun) j).owner) ∙ mine)))
        where
          one : (a b : Begin) → Some a ≡ Some b → a ≡ b
          one a b same = cc

      by : (call : Option OpenCall) → m.calls e.n ≡ call → EndsCall e call
          → RowFacts m.effects ((learn m.known (entries.End e)).row i)
      by (Some call) is ends = of call is ends (tells call.begin.owner (Instance i))
      by None is ends = absurd ends

  pub row_noted : (e : Entry) → may_follow m e ≡ true → MayNote outside m e → (i : Inst)
      → RowFacts m.effects ((learn m.known e).row i)
  row_noted (entries.Begin b) follows may i = row_begin b may i
  row_noted (entries.End e) follows may i = row_end e may i
  row_noted (entries.UpdDone u) follows may i = by (tells (Instance u.inst) (Instance i))
    where
      instance : Instance u.inst ≡ Instance i → u.inst ≡ i
      instance is = cc

      by : Tells (Instance u.inst) (Instance i) → RowFacts m.effects ((learn m.known (entries.UpdDone u)).row i)
      by (is_owner own) =
          subst (λ (j : Inst). RowFacts m.effects ((learn m.known (entries.UpdDone u)).row j)) (instance own)
          (updated_facts m h u follows may)
      by (is_other other) =
          as_was ((learn m.known (entries.UpdDone u)).row i) i (row_note outside m (entries.UpdDone u) i may refl other)
  row_noted (entries.Gone u) follows may i = by (tells (Instance u.inst) (Instance i))
    where
      instance : Instance u.inst ≡ Instance i → u.inst ≡ i
      instance is = cc

      by : Tells (Instance u.inst) (Instance i) → RowFacts m.effects ((learn m.known (entries.Gone u)).row i)
      by (is_owner own) =
          subst (λ (j : Inst). RowFacts m.effects ((learn m.known (entries.Gone u)).row j)) (instance own)
          (gone_facts m h u may)
      by (is_other other) =
          as_was ((learn m.known (entries.Gone u)).row i) i (row_note outside m (entries.Gone u) i may refl other)
  row_noted (entries.Snapshot s) follows may i = absurd may
  row_noted e follows may i = as_was ((learn m.known e).row i) i (row_note outside m e i may refl tt)

  -- ---- open calls

  -- one that was open
  call_left : (e : Entry) → MayNote outside m e → (n : ℕ) (call : OpenCall) (i : Inst) → m.calls n ≡ Some call
      → LeavesOpen e n → call.begin.owner ≡ Instance i → IsOwnerKept (noting m e) call.begin call.did (Instance i)
  call_left e may n call i is other own =
      by call.did (subst (λ (owner : Owner). IsOwnerKept m call.begin call.did owner) own (h.performed n call is).owner_kept)
    where
      spared : Spares m e (Instance i)
      spared = subst (λ (owner : Owner). Spares m e owner) own (spares outside m h.known n call is e may other)

      row_same : (it : Entry) → e ≡ it → (learn m.known it).row i ≡ m.known.row i
      row_same (entries.Begin b) is_it =
          begun_other b b.owner m.known i
          (λ mine.
          none_open m b.owner h.known.numbers.past
          (subst (λ (x : Entry). MayNote outside m x) is_it may).is_idle n call is (own ∙ sym mine))
      row_same (entries.Snapshot s) is_it = absurd (subst (λ (x : Entry). MayNote outside m x) is_it may)
      row_same it is_it =
          row_note outside m it i (subst (λ (x : Entry). MayNote outside m x) is_it may) refl
          (subst (λ (x : Entry). Spares m x (Instance i)) is_it spared)

      by : (did : Option Did) → IsOwnerKept m call.begin did (Instance i)
          → IsOwnerKept (noting m e) call.begin did (Instance i)
      by None kept =
          subst (λ (row : Row). RowFacts m.effects (row_before call.begin.call row)) (sym (row_same e refl)) kept
      by (Some told) kept =
          subst (λ (row : Row). RowFacts m.effects (after call.begin.n call.begin.call told.answer row))
          (sym (row_same e refl)) kept

  -- one that begins
  call_begun : (b : Begin) → Begins m b → (i : Inst) → b.owner ≡ Instance i
      → IsOwnerKept (noting m (entries.Begin b)) b None (Instance i)
  call_begun b may i own =
      subst (λ (row : Row). RowFacts m.effects (row_before b.call row)) (sym (begun_is outside m h b may i own))
      (begun_facts outside m h b may i own).before

  pub call_noted : (e : Entry) → MayNote outside m e → (n : ℕ) (call : OpenCall) (i : Inst)
      → (noting m e).calls n ≡ Some call → call.begin.owner ≡ Instance i
      → IsOwnerKept (noting m e) call.begin call.did (Instance i)
  call_noted (entries.Begin b) may n call i is own = by (eqb b.n n) is
    where
      opened_as : Some (record { begin = b; did = None }) ≡ Some call → record { begin = b; did = None } ≡ call
      opened_as now = cc

      by : (new : Bool) → (if new then Some (record { begin = b; did = None }) else m.calls n) ≡ Some call
          → IsOwnerKept (noting m (entries.Begin b)) call.begin call.did (Instance i)
      by true now =
          let it : record { begin = b; did = None } ≡ call = opened_as now in
          subst (λ (c : OpenCall). IsOwnerKept (noting m (entries.Begin b)) c.begin c.did (Instance i)) it
          (call_begun b may i ((λ j. (it j).begin.owner) ∙ own))
      by false now = call_left (entries.Begin b) may n call i now tt own
  call_noted (entries.End e) may n call i is own = by (eqb e.n n) refl is
    where
      by : (gone : Bool) → eqb e.n n ≡ gone → (if gone then None else m.calls n) ≡ Some call
          → IsOwnerKept (noting m (entries.End e)) call.begin call.did (Instance i)
      by true same now = absurd cc
      by false other now = call_left (entries.End e) may n call i now other own
  call_noted (entries.Snapshot s) may n call i is own = absurd may
  call_noted e may n call i is own = call_left e may n call i is tt own
