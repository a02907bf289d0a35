-- What an answer leaves of how often disks are recorded: of its owner alone it is to be said.
use Rattle.std.proofs.Common.{◌≡◌, ◌∙◌, ℕ, ◌+◌, Bool, true, false, Option, Some, None, List, refl, sym, subst, arith}
use Rattle.std.specs.Prelude.{◌&&◌, ◌≢◌, if◌then◌else◌, is_some, not}
use Rattle.std.proofs.lemmas.Bool.{eq-eqb, false≢true}
use Rattle.bosh_base.specs.Cloud.{disk_creation, is_disk_there}
use Rattle.bosh_base.specs.declared.answer.Answer.{Answer}
use Rattle.bosh_base.specs.declared.entry.Begin.{Begin}
use Rattle.bosh_base.specs.declared.entry.Effect.{Effect}
use Rattle.bosh_base.specs.declared.entry.Entry.{Entry}
use Rattle.bosh_base.specs.declared.inst.Inst.{Inst}
use Rattle.bosh_base.specs.declared.moves.Did.{Did}
use Rattle.bosh_base.specs.declared.owner.Owner.{Owner}
use Rattle.bosh_base.specs.declared.owner.Owner.TheVariants.{Compile, Disk, Instance}
use Rattle.bosh_base.specs.declared.snapshot.Orphan.{Orphan}
use Rattle.bosh_history.specs.Calls.{shows_gone}
use Rattle.bosh_history.specs.Known.{Known}
use Rattle.bosh_history.specs.Moments.{Moment, OpenCall}
use Rattle.bosh_history.specs.Words.{holds}
use Rattle.bosh_rows.proofs.SameLemmas.{same_inst_decides}
use Rattle.bosh_rows.specs.After.{after}
use Rattle.bosh_rows.specs.Same.{same_inst, same_owner}
use Rattle.bosh_rows.specs.Tied.{one_if}
use Rattle.laws_disks_kept.proofs.AnswerLemmas.{KeepsCount}
use Rattle.laws_disks_kept.proofs.CountLemmas.{Counted, counted, recorded, times}
use Rattle.laws_disks_kept.specs.Disks.{AreRecordedOnce, AreRecordedOnceAnswered}
use Rattle.laws_facts.specs.CallFacts.{is_disk_kept_by}
use Rattle.laws_facts.specs.Facts.{Holds}
use Rattle.laws_facts.specs.OpenCalls.{fits_orphan, fits_owner, is_orphan_answered, rows_answered}
use Rattle.laws_items.proofs.OwnerLemmas.{same_owner_is}
use Rattle.laws_row_facts.specs.Words.{where_any}

-- what an answer keeps of its own owner
abbrev pub KeepsOwn : List Entry → Known → Begin → Answer → Owner → Type 0
KeepsOwn xs k b answer (Instance i) = KeepsCount xs i b.n b.call answer (k.row i)
KeepsOwn xs k b answer (Compile t s) = Unit {0}
KeepsOwn xs k b answer (Disk d) = shows_gone b.call answer ≡ true → is_disk_there xs d ≡ false

-- .. of each open call that the cloud performed
abbrev pub AnswersKeep : Moment → Type 0
AnswersKeep m =
    (n : ℕ) (call : OpenCall) (did : Did) → m.calls n ≡ Some call → call.did ≡ Some did
    → KeepsOwn m.effects m.known call.begin did.answer call.begin.owner

-- ---- from the facts of the moment

module _ (k : Known) (b : Begin) (answer : Answer) where
  -- the rows and the orphans once a call of an owner is answered
  pub row_own : (i : Inst) → b.owner ≡ Instance i → rows_answered k b answer i ≡ after b.n b.call answer (k.row i)
  row_own i own =
      (λ j. rows_answered k (record b { owner = own j }) answer i)
      ∙ (λ j. if (same_inst_decides i i).1 refl j then after b.n b.call answer (k.row i) else k.row i)

  pub row_other : (o : Inst) → b.owner ≢ Instance o → rows_answered k b answer o ≡ k.row o
  row_other o apart = by b.owner refl
    where
      of : (i : Inst) → b.owner ≡ Instance i → (same : Bool) → same_inst i o ≡ same
          → (if same_inst i o then after b.n b.call answer (k.row o) else k.row o) ≡ k.row o
      of i own true same = absurd (apart (own ∙ (λ j. Instance ((same_inst_decides i o).0 same j))))
      of i own false other = λ j. if other j then after b.n b.call answer (k.row o) else k.row o

      by : (owner : Owner) → b.owner ≡ owner → rows_answered k b answer o ≡ k.row o
      by (Instance i) own =
          let first : rows_answered k b answer o
          ≡ (if same_inst i o then after b.n b.call answer (k.row o) else k.row o) =
          (λ j. rows_answered k (record b { owner = own j }) answer o) in
          first ∙ of i own (same_inst i o) refl
      by (Compile t s) own = λ j. rows_answered k (record b { owner = own j }) answer o
      by (Disk d) own = λ j. rows_answered k (record b { owner = own j }) answer o

  pub orphan_other : (d : ℕ) → (same_owner b.owner (Disk d) && shows_gone b.call answer) ≡ false
      → is_orphan_answered k b answer d ≡ is_some (k.orphan d)
  orphan_other d none = (λ j. is_some (k.orphan d) && not (none j)) ∙ whole (is_some (k.orphan d))
    where
      whole : (b : Bool) → (b && true) ≡ b
      whole true = refl
      whole false = refl

-- what both are counted by is the same
cancel : (a b c : ℕ) → a + c ≡ 1 → b + c ≡ 1 → a ≡ b
cancel a b c first second = omega arith

module _ (m : Moment) (h : Holds m) where
  now : (d : ℕ) → is_disk_there m.effects d ≡ true
      → Counted m.effects m.known.row (is_some (m.known.orphan d)) d
  now d there = counted m.effects m.known.row (is_some (m.known.orphan d)) d (h.disks d).once there

  -- each open call that the cloud performed keeps it of its owner
  pub answers_keep : AnswersKeep m
  answers_keep n call did is told = by call.begin.owner refl
    where
      b : Begin
      b = call.begin

      answered : (d : ℕ) → is_disk_there m.effects d ≡ true
          → Counted m.effects (rows_answered m.known b did.answer) (is_orphan_answered m.known b did.answer d) d
      answered d there =
          counted m.effects (rows_answered m.known b did.answer) (is_orphan_answered m.known b did.answer d) d
          (sym (λ j. where_any (is_disk_kept_by m b d) (told j)) ∙ (h.performed n call is).disks_kept d) there

      instance : (i : Inst) → b.owner ≡ Instance i → KeepsCount m.effects i b.n b.call did.answer (m.known.row i)
      instance i own d e there made of =
          cancel (times (after b.n b.call did.answer (m.known.row i)) d e.n) (times (m.known.row i) d e.n)
          (one_if (is_some (m.known.orphan d))) (later (answered d there)) (before (now d there))
        where
          same_effect : (f : Effect) → disk_creation m.effects d ≡ Some f → f ≡ e
          same_effect f is = let both : Some f ≡ Some e = sym is ∙ made in cc

          same_inst_is : (f : Effect) (o : Inst) → f ≡ e → f.owner ≡ Instance o → o ≡ i
          same_inst_is f o same own =
              let both : Instance o ≡ Instance i = sym own ∙ ((λ j. (same j).owner) ∙ of) in cc

          before : Counted m.effects m.known.row (is_some (m.known.orphan d)) d
              → times (m.known.row i) d e.n + one_if (is_some (m.known.orphan d)) ≡ 1
          before it =
              let same : it.effect ≡ e = same_effect it.effect it.made in
              sym (λ j. times (m.known.row (same_inst_is it.effect it.inst same it.owner j)) d (same j).n
              + one_if (is_some (m.known.orphan d))) ∙ it.once

          later : Counted m.effects (rows_answered m.known b did.answer) (is_orphan_answered m.known b did.answer d) d
              → times (after b.n b.call did.answer (m.known.row i)) d e.n + one_if (is_some (m.known.orphan d)) ≡ 1
          later it =
              let same : it.effect ≡ e = same_effect it.effect it.made in
              sym ((λ j. times (rows_answered m.known b did.answer (same_inst_is it.effect it.inst same it.owner j)) d
              (same j).n + one_if (is_orphan_answered m.known b did.answer d))
              ∙ (λ j. times (row_own m.known b did.answer i own j) d e.n
              + one_if (orphan_other m.known b did.answer d
              (λ l. same_owner (own l) (Disk d) && shows_gone b.call did.answer) j))) ∙ it.once

      disk : (d : ℕ) → b.owner ≡ Disk d → shows_gone b.call did.answer ≡ true → is_disk_there m.effects d ≡ false
      disk d own gone = by (is_disk_there m.effects d) refl
        where
          orphaned : is_some (m.known.orphan d) ≡ true
          orphaned =
              some (m.known.orphan d)
              (subst (λ owner. fits_owner m.known b owner ≡ true) own (h.performed n call is).fits_owner)
            where
              some : (o : Option Orphan) → holds (fits_orphan b.n b.call d) o ≡ true → is_some o ≡ true
              some (Some it) fits = refl
              some None fits = absurd (false≢true fits)

          none : is_orphan_answered m.known b did.answer d ≡ false
          none =
              (λ j. orphaned j && not (same_owner (own j) (Disk d) && gone j))
              ∙ (λ j. not (eq-eqb d d refl j && true))

          by : (there : Bool) → is_disk_there m.effects d ≡ there → there ≡ false
          by false there = refl
          by true there =
              let it : Counted m.effects m.known.row (is_some (m.known.orphan d)) d = now d there in
              let also : Counted m.effects (rows_answered m.known b did.answer)
              (is_orphan_answered m.known b did.answer d) d = answered d there in
              let same : Some it.effect ≡ Some also.effect = sym it.made ∙ also.made in
              let effects : it.effect ≡ also.effect = cc in
              let owners : Instance it.inst ≡ Instance also.inst =
              sym it.owner ∙ ((λ j. (effects j).owner) ∙ also.owner) in
              let insts : it.inst ≡ also.inst = cc in
              let before : times (m.known.row also.inst) d also.effect.n + 1 ≡ 1 =
              sym (λ j. times (m.known.row (insts j)) d (effects j).n + one_if (orphaned j)) ∙ it.once in
              let after : times (m.known.row also.inst) d also.effect.n + 0 ≡ 1 =
              sym (λ j. times (row_other m.known b did.answer also.inst
              (λ same. let both : Disk d ≡ Instance also.inst = sym own ∙ same in absurd cc) j) d also.effect.n
              + one_if (none j)) ∙ also.once in
              absurd (omega arith)

      of : (owner : Owner) → b.owner ≡ owner → KeepsOwn m.effects m.known b did.answer owner
      of (Instance i) own = instance i own
      of (Compile t s) own = tt
      of (Disk d) own = disk d own

      by : (owner : Owner) → b.owner ≡ owner → KeepsOwn m.effects m.known b did.answer b.owner
      by owner own = subst (KeepsOwn m.effects m.known b did.answer) (sym own) (of owner own)

-- ---- and to them

module _ (m : Moment) (once : AreRecordedOnce m) (keeps : AnswersKeep m) (n : ℕ) (call : OpenCall) (d : ℕ)
    (is : m.calls n ≡ Some call) (did : Did) (told : call.did ≡ Some did) where
  abbrev begun : Begin
  begun = call.begin

  -- it is no answer that shows that the disk is gone
  orphan_same : is_disk_there m.effects d ≡ true
      → (same_owner begun.owner (Disk d) && shows_gone begun.call did.answer) ≡ false
  orphan_same there = of (same_owner begun.owner (Disk d)) refl (shows_gone begun.call did.answer) refl
    where
      of : (same : Bool) → same_owner begun.owner (Disk d) ≡ same → (gone : Bool)
          → shows_gone begun.call did.answer ≡ gone → (same && gone) ≡ false
      of false other gone shows = refl
      of true same false shows = refl
      of true same true shows =
          absurd (false≢true (sym (subst (KeepsOwn m.effects m.known begun did.answer)
          (same_owner_is begun.owner (Disk d) same) (keeps n call did is told) shows) ∙ there))

  row_same : (it : Counted m.effects m.known.row (is_some (m.known.orphan d)) d) → is_disk_there m.effects d ≡ true
      → times (rows_answered m.known begun did.answer it.inst) d it.effect.n
      ≡ times (m.known.row it.inst) d it.effect.n
  row_same it there = of (same_owner begun.owner (Instance it.inst)) refl
    where
      of : (same : Bool) → same_owner begun.owner (Instance it.inst) ≡ same
          → times (rows_answered m.known begun did.answer it.inst) d it.effect.n
          ≡ times (m.known.row it.inst) d it.effect.n
      of true same =
          let own : begun.owner ≡ Instance it.inst = same_owner_is begun.owner (Instance it.inst) same in
          (λ j. times (row_own m.known begun did.answer it.inst own j) d it.effect.n)
          ∙ subst (KeepsOwn m.effects m.known begun did.answer) own (keeps n call did is told) d it.effect there it.made
          it.owner
      of false other =
          λ j. times (row_other m.known begun did.answer it.inst
          (λ same. false≢true (sym other
          ∙ ((λ l. same_owner (same l) (Instance it.inst)) ∙ (same_inst_decides it.inst it.inst).1 refl))) j) d
          it.effect.n

  kept : is_disk_kept_by m begun d did ≡ true
  kept =
      recorded m.effects (rows_answered m.known begun did.answer) (is_orphan_answered m.known begun did.answer d) d
      (λ there. of there (counted m.effects m.known.row (is_some (m.known.orphan d)) d (once d) there))
    where
      of : is_disk_there m.effects d ≡ true → Counted m.effects m.known.row (is_some (m.known.orphan d)) d
          → Counted m.effects (rows_answered m.known begun did.answer)
          (is_orphan_answered m.known begun did.answer d) d
      of there it = record {
        effect = it.effect;
        made = it.made;
        inst = it.inst;
        owner = it.owner;
        once =
            (λ j. row_same it there j + one_if (orphan_other m.known begun did.answer d (orphan_same there) j))
            ∙ it.once;
      }

-- where each disk is recorded once, and each answer keeps it of its owner, each is recorded once when it is answered
pub answered_once : (m : Moment) → AreRecordedOnce m → AnswersKeep m → AreRecordedOnceAnswered m
answered_once m once keeps n call d is = by call.did refl
  where
    by : (did : Option Did) → call.did ≡ did → where_any (is_disk_kept_by m call.begin d) call.did ≡ true
    by (Some did) told =
        (λ j. where_any (is_disk_kept_by m call.begin d) (told j)) ∙ kept m once keeps n call d is did told
    by None told = λ j. where_any (is_disk_kept_by m call.begin d) (told j)
