-- An open call is the one that was to be made for what its owner was before it: as it begins, and until it is answered.
use Rattle.std.proofs.Common.{◌≡◌, ◌∙◌, ℕ, Bool, true, false, ◌&&◌, not, Option, Some, None, List, refl, sym, subst, ap}
use Rattle.std.specs.Prelude.{◌≢◌, eqb, if◌then◌else◌, is_some}
use Rattle.std.specs.Option.{option_eq, option_map}
use Rattle.std.proofs.lemmas.Bool.{and_from, and_parts}
use Rattle.bosh_base.specs.declared.call.Call.TheVariants as calls
use Rattle.bosh_base.specs.declared.entry.Begin.{Begin}
use Rattle.bosh_base.specs.declared.entry.Entry.{Entry}
use Rattle.bosh_base.specs.declared.entry.Entry.TheVariants as entries
use Rattle.bosh_base.specs.declared.goal.Goal.{Goal}
use Rattle.bosh_base.specs.declared.inst.Inst.{Inst}
use Rattle.bosh_base.specs.declared.moves.Move.{Move}
use Rattle.bosh_base.specs.declared.moves.Move.TheVariants as moves
use Rattle.bosh_base.specs.declared.owner.Owner.{Owner}
use Rattle.bosh_base.specs.declared.owner.Owner.TheVariants.{Instance, Compile, Disk}
use Rattle.bosh_base.specs.declared.row.Row.{Row}
use Rattle.bosh_base.specs.declared.row.Vm.{Vm}
use Rattle.bosh_history.specs.Calls.{begins}
use Rattle.bosh_history.specs.Known.{Known, want_in}
use Rattle.bosh_history.specs.Learn.{learn}
use Rattle.bosh_history.specs.Moments.{Moment, OpenCall, later, noting, performed_call}
use Rattle.bosh_history.specs.Notes.{MayNote, Outside}
use Rattle.bosh_history.specs.Permitted.{IsPermitted}
use Rattle.bosh_history.specs.Recovered.{may_follow}
use Rattle.bosh_history.specs.Words.{holds, is_among}
use Rattle.bosh_rows.specs.After.{begun_row, leaves_doubt}
use Rattle.bosh_rows.specs.CallOf.{next_call}
use Rattle.bosh_rows.specs.Same.{same_inst}
use Rattle.laws_calls.proofs.BeginLemmas.{begun_fits}
use Rattle.laws_calls.specs.Calls.{AreFitting}
use Rattle.laws_facts.proofs.CallLemmas.{none_open}
use Rattle.laws_facts.proofs.WorkLemmas.{begun_works}
use Rattle.laws_facts.specs.KnownFacts.{KnownFacts}
use Rattle.laws_facts.specs.OpenCalls.{fits_known, fits_slot, is_on_orphan}
use Rattle.laws_facts.specs.Owners.{is_doubt}
use Rattle.laws_items.proofs.ItemFrames.{onward}
use Rattle.laws_items.proofs.ItemLemmas.{LeavesOpen, mark_stays, slot_same, spares}
use Rattle.laws_items.proofs.MarkLemmas.{IsMarked, Spares}
use Rattle.laws_items.proofs.OnwardLemmas.{Onward}
use Rattle.laws_items.proofs.OrphanFrames.{orphan_stays}
use Rattle.laws_items.proofs.RowFrames.{row_apart, row_note}
use Rattle.laws_row_facts.specs.Calls.{is_ping, row_before}
use Rattle.laws_row_facts.specs.Words.{implies, same_call}

-- the beginning of another owner's call leaves the row
begun_apart : (b : Begin) (owner : Owner) (k : Known) (i : Inst) → owner ≢ Instance i
    → (begins b owner k).row i ≡ k.row i
begun_apart b (Instance j) k i apart =
    row_apart j i (begun_row b.n b.call (k.row j)) k.row (λ same. apart (ap Instance same))
begun_apart b (Compile t s) k i apart = refl
begun_apart b (Disk d) k i apart = refl

-- that the call fits a row, by what is asked of its task
abbrev fits_by : List Inst → List Inst → Bool → Bool → Option Goal → Begin → Inst → Row → Bool
fits_by to_ping obsolete pinged gone goal b i row =
    option_eq same_call
    (if is_among same_inst i to_ping && not pinged
    then option_map (λ (it : Vm). calls.Ping it.vm) (row_before b.call row).vm
    else next_call (if is_among same_inst i obsolete && not gone then None else want_in goal i) (row_before b.call row))
    (Some b.call)
    && (implies (leaves_doubt b.call) (is_doubt b.n b.call row.doubt) && implies (is_ping b.call) (not row.lost))

-- ---- while it is open

module _ (outside : Outside) (m : Moment) (h : KnownFacts m) (n : ℕ) (call : OpenCall) (is : m.calls n ≡ Some call) where
  row_same : (e : Entry) → MayNote outside m e → (i : Inst) → call.begin.owner ≡ Instance i → Spares m e (Instance i)
      → (learn m.known e).row i ≡ m.known.row i
  row_same (entries.Begin b) may i own apart =
      begun_apart b b.owner m.known i
      (λ same. none_open m b.owner h.numbers.past may.is_idle n call is (own ∙ sym same))
  row_same (entries.Snapshot s) may i own apart = absurd may
  row_same entry may i own apart = row_note outside m entry i may refl apart

  still_fits : (e : Entry) → may_follow m e ≡ true → MayNote outside m e → LeavesOpen e n
      → fits_known (learn m.known e) call.begin call.begin.owner ≡ true
  still_fits e follows may other = by call.begin.owner refl
    where
      spared : (owner : Owner) → call.begin.owner ≡ owner → Spares m e owner
      spared owner own = subst (λ (o : Owner). Spares m e o) own (spares outside m h n call is e may other)

      was : (owner : Owner) → call.begin.owner ≡ owner → fits_known m.known call.begin owner ≡ true
      was owner own = subst (λ (o : Owner). fits_known m.known call.begin o ≡ true) own (h.calls n call is).fits

      on : Onward m.known (learn m.known e) call.begin.task
      on = onward outside m h e follows may call.begin.task (h.calls n call is).works

      of : (owner : Owner) → call.begin.owner ≡ owner → fits_known (learn m.known e) call.begin owner ≡ true
      of (Instance i) own =
          let marks : IsMarked (m.known.task call.begin.task) ((learn m.known e).task call.begin.task) i =
          mark_stays outside m h n call is e may (Instance i) (spared (Instance i) own) in
          (λ j. fits_by (on.task.alike.to_ping j) (on.task.alike.obsolete j) (marks.pinged j) (marks.gone j)
          (on.task.alike.goal j) call.begin i (row_same e may i own (spared (Instance i) own) j))
          ∙ was (Instance i) own
      of (Compile task s) own =
          (λ j. holds (fits_slot call.begin.n call.begin.call)
          (slot_same outside m h n call is e may task s own (spared (Compile task s) own) j))
          ∙ was (Compile task s) own
      of (Disk d) own =
          let parts : (is_on_orphan call.begin.call d ≡ true) × (is_some (m.known.orphan d) ≡ true) =
          and_parts (is_on_orphan call.begin.call d) (is_some (m.known.orphan d)) (was (Disk d) own) in
          and_from (is_on_orphan call.begin.call d) _ parts.0
          (orphan_stays outside m e d may (spared (Disk d) own) parts.1)

      by : (owner : Owner) → call.begin.owner ≡ owner
          → fits_known (learn m.known e) call.begin call.begin.owner ≡ true
      by owner own =
          subst (λ (o : Owner). fits_known (learn m.known e) call.begin o ≡ true) (sym own) (of owner own)

-- ---- moves

fits_note : (outside : Outside) (m : Moment) (e : Entry) → KnownFacts m → may_follow m e ≡ true → MayNote outside m e
    → AreFitting (noting m e)
fits_note outside m (entries.Begin b) h follows may n call is = by (eqb b.n n) is
  where
    opened_as : Some (record { begin = b; did = None }) ≡ Some call → record { begin = b; did = None } ≡ call
    opened_as now = cc

    by : (same : Bool) → (if same then Some (record { begin = b; did = None }) else m.calls n) ≡ Some call
        → fits_known (learn m.known (entries.Begin b)) call.begin call.begin.owner ≡ true
    by true now =
        let begin : b ≡ call.begin = ap (λ (it : OpenCall). it.begin) (opened_as now) in
        sym (λ j. fits_known (learn m.known (entries.Begin b)) (begin j) (begin j).owner)
        ∙ begun_fits outside m h b may (begun_works m b follows may) b.owner refl may.is_call
    by false now = still_fits outside m h n call now (entries.Begin b) follows may tt
fits_note outside m (entries.End e) h follows may n call is = by (eqb e.n n) refl is
  where
    by : (same : Bool) → eqb e.n n ≡ same → (if same then None else m.calls n) ≡ Some call
        → fits_known (learn m.known (entries.End e)) call.begin call.begin.owner ≡ true
    by true same now = absurd cc
    by false other now = still_fits outside m h n call now (entries.End e) follows may other
fits_note outside m (entries.Snapshot s) h follows may n call is = absurd may
fits_note outside m entry h follows may n call is = still_fits outside m h n call is entry follows may tt

fits_move : (outside : Outside) (m : Moment) (move : Move) → IsPermitted outside m move → KnownFacts m
    → AreFitting (later m move)
fits_move outside m (moves.Note e) may h n call is = fits_note outside m e h may.1 may.2 n call is
fits_move outside m (moves.Did d) may h n call is = by (eqb d.n n) (m.calls d.n) refl is
  where
    by : (same : Bool) (that : Option OpenCall) → m.calls d.n ≡ that
        → (if same then performed_call d that else m.calls n) ≡ Some call
        → fits_known m.known call.begin call.begin.owner ≡ true
    by true (Some that) that_is now =
        let begin : that.begin ≡ call.begin = ap (λ (it : OpenCall). it.begin) (performed now) in
        sym (λ j. fits_known m.known (begin j) (begin j).owner) ∙ (h.calls d.n that that_is).fits
      where
        performed : Some (record that { did = Some d }) ≡ Some call → record that { did = Some d } ≡ call
        performed now = cc
    by true None that_is now = absurd cc
    by false that that_is now = (h.calls n call now).fits
fits_move outside m (moves.Stop s) may h n call is = absurd cc
fits_move outside m move may h n call is = (h.calls n call is).fits

pub fits_kept : (outside : Outside) (m : Moment) (move : Move) → IsPermitted outside m move → KnownFacts m
    → AreFitting (later m move)
fits_kept outside m move may h = fits_move outside m move may h
