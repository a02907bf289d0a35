-- An entry keeps what each answer leaves of how often the disks of its owner are recorded.
use Rattle.std.proofs.Common.{◌≡◌, ◌∙◌, ℕ, Bool, true, false, Some, None, List, refl, sym, subst}
use Rattle.std.specs.Prelude.{◌≢◌, eqb, if◌then◌else◌}
use Rattle.bosh_base.specs.Cloud.{disk_creation, is_disk_there}
use Rattle.bosh_base.specs.declared.answer.Answer.{Answer}
use Rattle.bosh_base.specs.declared.entry.Begin.{Begin}
use Rattle.bosh_base.specs.declared.entry.Effect.{Effect}
use Rattle.bosh_base.specs.declared.entry.Entry.{Entry}
use Rattle.bosh_base.specs.declared.entry.Entry.TheVariants as entries
use Rattle.bosh_base.specs.declared.inst.Inst.{Inst}
use Rattle.bosh_base.specs.declared.moves.Did.{Did}
use Rattle.bosh_base.specs.declared.owner.Owner.{Owner}
use Rattle.bosh_base.specs.declared.owner.Owner.TheVariants.{Compile, Disk, Instance}
use Rattle.bosh_history.specs.Calls.{begins}
use Rattle.bosh_history.specs.Known.{Known}
use Rattle.bosh_history.specs.Learn.{learn}
use Rattle.bosh_history.specs.Moments.{Moment, noting, OpenCall}
use Rattle.bosh_history.specs.Notes.{MayNote, Outside}
use Rattle.bosh_rows.specs.After.{begun_row}
use Rattle.laws_disks_kept.proofs.AnswerLemmas.{KeepsCount}
use Rattle.laws_disks_kept.proofs.OnceAnswers.{answers_keep, AnswersKeep, KeepsOwn}
use Rattle.laws_facts.proofs.CallLemmas.{none_open}
use Rattle.laws_facts.specs.Facts.{Holds}
use Rattle.laws_items.proofs.ItemLemmas.{LeavesOpen, spares}
use Rattle.laws_items.proofs.MarkLemmas.{Spares}
use Rattle.laws_items.proofs.RowFrames.{row_apart, row_note}

-- ---- what it is said of is the same, or grows beside it

-- the owner is recorded as before
abbrev pub SameOwner : Known → Known → Owner → Type 0
SameOwner old new (Instance i) = new.row i ≡ old.row i
SameOwner old new owner = Unit {0}

-- disks that are there were there, or are another's
abbrev pub Grows : List Entry → List Entry → Owner → Type 0
Grows xs ys (Instance i) =
    (d : ℕ) (e : Effect) → is_disk_there ys d ≡ true → disk_creation ys d ≡ Some e → e.owner ≡ Instance i
    → (is_disk_there xs d ≡ true) × (disk_creation xs d ≡ Some e)
Grows xs ys (Disk d) = is_disk_there xs d ≡ false → is_disk_there ys d ≡ false
Grows xs ys (Compile t s) = Unit {0}

pub keeps_as : (xs ys : List Entry) (old new : Known) (b : Begin) (answer : Answer) (owner : Owner)
    → SameOwner old new owner → Grows xs ys owner → KeepsOwn xs old b answer owner → KeepsOwn ys new b answer owner
keeps_as xs ys old new b answer (Instance i) same grows keeps =
    subst (KeepsCount ys i b.n b.call answer) (sym same)
    (λ d e there made own. let (was, before) = grows d e there made own in keeps d e was before own)
keeps_as xs ys old new b answer (Compile t s) same grows keeps = tt
keeps_as xs ys old new b answer (Disk d) same grows keeps = λ gone. grows (keeps gone)

pub same_owner_self : (k : Known) (owner : Owner) → SameOwner k k owner
same_owner_self k (Instance i) = refl
same_owner_self k (Compile t s) = tt
same_owner_self k (Disk d) = tt

pub same_grows : (xs : List Entry) (owner : Owner) → Grows xs xs owner
same_grows xs (Instance i) = λ d e there made own. (there, made)
same_grows xs (Compile t s) = tt
same_grows xs (Disk d) = λ gone. gone

-- ---- entries

pub begun_apart : (b : Begin) (owner : Owner) (k : Known) (i : Inst) → owner ≢ Instance i
    → (begins b owner k).row i ≡ k.row i
begun_apart b (Instance j) k i apart =
    row_apart j i (begun_row b.n b.call (k.row j)) k.row (λ same. apart (λ l. Instance (same l)))
begun_apart b (Compile t s) k i apart = refl
begun_apart b (Disk d) k i apart = refl

module _ (outside : Outside) (m : Moment) (h : Holds m) (n : ℕ) (call : OpenCall) (is : m.calls n ≡ Some call) where
  owner_same : (e : Entry) → MayNote outside m e → LeavesOpen e n
      → SameOwner m.known (learn m.known e) call.begin.owner
  owner_same e may other =
      by call.begin.owner refl (spares outside m h.known n call is e may other)
    where
      row_same : (e : Entry) → MayNote outside m e → (i : Inst) → call.begin.owner ≡ Instance i
          → Spares m e (Instance i) → (learn m.known e).row i ≡ m.known.row i
      row_same (entries.Begin b) may i own apart =
          begun_apart b b.owner m.known i
          (λ same. none_open m b.owner h.known.numbers.past may.is_idle n call is (own ∙ sym same))
      row_same (entries.Snapshot s) may i own apart = absurd may
      row_same entry may i own apart = row_note outside m entry i may refl apart

      by : (owner : Owner) → call.begin.owner ≡ owner → Spares m e call.begin.owner
          → SameOwner m.known (learn m.known e) call.begin.owner
      by (Instance i) own apart =
          subst (SameOwner m.known (learn m.known e)) (sym own) (row_same e may i own (subst (Spares m e) own apart))
      by (Compile t s) own apart = subst (SameOwner m.known (learn m.known e)) (sym own) tt
      by (Disk d) own apart = subst (SameOwner m.known (learn m.known e)) (sym own) tt

  still : (did : Did) → call.did ≡ Some did → (e : Entry) → MayNote outside m e → LeavesOpen e n
      → KeepsOwn m.effects (learn m.known e) call.begin did.answer call.begin.owner
  still did told e may other =
      keeps_as m.effects m.effects m.known (learn m.known e) call.begin did.answer call.begin.owner
      (owner_same e may other) (same_grows m.effects call.begin.owner) (answers_keep m h n call did is told)

pub answers_noted : (outside : Outside) (m : Moment) (e : Entry) → MayNote outside m e → Holds m
    → AnswersKeep (noting m e)
answers_noted outside m (entries.Begin b) may h n call did is told = by (eqb b.n n) is
  where
    by : (same : Bool) → (if same then Some (record { begin = b; did = None }) else m.calls n) ≡ Some call
        → KeepsOwn m.effects (learn m.known (entries.Begin b)) call.begin did.answer call.begin.owner
    by true now =
        let opened : record { begin = b; did = None } ≡ call = cc in
        let none : None ≡ Some did = (λ j. (opened j).did) ∙ told in absurd cc
    by false now = still outside m h n call now did told (entries.Begin b) may tt
answers_noted outside m (entries.End e) may h n call did is told = by (eqb e.n n) refl is
  where
    by : (same : Bool) → eqb e.n n ≡ same → (if same then None else m.calls n) ≡ Some call
        → KeepsOwn m.effects (learn m.known (entries.End e)) call.begin did.answer call.begin.owner
    by true same now = absurd cc
    by false other now = still outside m h n call now did told (entries.End e) may other
answers_noted outside m (entries.Snapshot s) may h n call did is told = absurd may
answers_noted outside m entry may h n call did is told = still outside m h n call is did told entry may tt
