-- Each part of a move keeps the facts of compile machines and the cloud.
use Rattle.std.proofs.Common.{◌≡◌, ◌∙◌, ℕ, Bool, true, false, Option, Some, None, List, refl, sym, subst, inr}
use Rattle.std.specs.Prelude.{[], ◌≢◌, ◌==◌, ◌++◌, ◌∷◌, eqb, if◌then◌else◌, not, is_some}
use Rattle.std.proofs.lemmas.Bool.{and_from, eq-eqb, eqb-true, false≢true}
use Rattle.bosh_base.specs.CallStep.{CallStep}
use Rattle.bosh_base.specs.declared.answer.Answer.{Answer}
use Rattle.bosh_base.specs.declared.answer.Answer.TheVariants as answers
use Rattle.bosh_base.specs.declared.entry.Begin.{Begin}
use Rattle.bosh_base.specs.declared.entry.Entry.{Entry}
use Rattle.bosh_base.specs.declared.entry.Entry.TheVariants as entries
use Rattle.bosh_base.specs.declared.moves.Did.{Did}
use Rattle.bosh_base.specs.declared.owner.Owner.{Owner}
use Rattle.bosh_base.specs.declared.owner.Owner.TheVariants.{Compile, Disk, Instance}
use Rattle.bosh_base.specs.declared.row.Doubt.{Doubt}
use Rattle.bosh_history.specs.Calls.{begins, call_ended, key_for}
use Rattle.bosh_history.specs.Known.{dep_of_task, Slot}
use Rattle.bosh_history.specs.Learn.{learn}
use Rattle.bosh_history.specs.Moments.{losing, Moment, noting, OpenCall, performed_call, performing}
use Rattle.bosh_history.specs.Notes.{Begins, EndsCall, MayNote, Outside}
use Rattle.bosh_history.specs.Notes as notes
use Rattle.bosh_history.specs.Permitted.{PerformsOpen}
use Rattle.bosh_history.specs.Slots.{slot_after, slot_begun}
use Rattle.bosh_history.specs.Steps.{call_now}
use Rattle.bosh_history.specs.Words.{at}
use Rattle.bosh_rows.specs.Same.{same_owner}
use Rattle.laws_cloud.proofs.DoneLemmas.{done_now, made_by}
use Rattle.laws_compile_machines_kept.proofs.FrameLemmas.{doubts_itself, Leaves, lost, others, own_now, owner_left}
use Rattle.laws_compile_machines_kept.proofs.FrameLemmas.{written}
use Rattle.laws_compile_machines_kept.proofs.OwnLemmas.{failed_instead, failed_slot, next_fresh, own_done}
use Rattle.laws_compile_machines_kept.specs.CompileMachines.{AreAsRecorded, AreOwnersKept}
use Rattle.laws_effects.specs.Orderly.{is_taken}
use Rattle.laws_facts.specs.CallFacts.{IsOwnerKept, named}
use Rattle.laws_facts.specs.Facts.{Holds}
use Rattle.laws_facts.specs.OpenCalls.{slot_as_before}
use Rattle.laws_items.proofs.ItemLemmas.{LeavesOpen, slot_same, spares}
use Rattle.laws_items.proofs.MarkLemmas.{Spares}
use Rattle.laws_items.proofs.OwnerLemmas.{same_owner_is}
use Rattle.laws_items.proofs.SlotCalls.{compiles, creates, deletes, finds, looks, slot_call, SlotCall}
use Rattle.laws_items.proofs.SlotFrames.{begun_own, Slots, slots_begin, slots_begun, slots_ended, slots_note}
use Rattle.laws_items.proofs.SlotFrames.{slots_told}
use Rattle.laws_moves.specs.Parts.{Forgotten, IsKeptByParts, Lost, Noted, Performed, Written}
use Rattle.laws_row_facts.specs.Words.{is_some_with}
use Rattle.laws_rows.specs.Rightful.{done_with, is_machine}
use Rattle.laws_slots.proofs.SlotCases.{slot_kept}
use Rattle.laws_slots.specs.Slots.{is_call_of_slot, SlotFacts}

-- ---- one compile machine changes

at_slot : (P : ℕ → ℕ → Option Slot → Type 0) (task s : ℕ) (x : Option Slot) (slots : Slots) → P task s x
    → ((t k : ℕ) → P t k (slots t k)) → (t k : ℕ) → P t k (at eqb task (at eqb s x (slots task)) slots t k)
at_slot P task s x slots new old t k = by (eqb task t) refl
  where
    inner : (b : Bool) → eqb s k ≡ b → P task k (if b then x else slots task k)
    inner true same = subst (λ (n : ℕ). P task n x) (eqb-true s k same) new
    inner false other = old task k

    by : (b : Bool) → eqb task t ≡ b → P t k ((if b then at eqb s x (slots task) else slots t) k)
    by true same =
        subst (λ (n : ℕ). P n k (at eqb s x (slots task) k)) (eqb-true task t same) (inner (eqb s k) refl)
    by false other = old t k

-- ---- a call begins

module _ (outside : Outside) (m : Moment) (h : Holds m) (b : Begin) (may : Begins m b) where
  is_for_slot : (task s : ℕ) → SlotCall m b.task task s b.call → is_call_of_slot b.call (m.known.slot task s) ≡ true
  is_for_slot task s (creates work make own none next at_make is) =
      λ j. is_call_of_slot (sym is j) (none j)
  is_for_slot task s (deletes it vm at_slot has none done is) =
      (λ j. is_call_of_slot (sym is j) (at_slot j))
      ∙ and_from (is_machine it.vm vm.vm) _ ((λ j. is_machine (has j) vm.vm) ∙ eq-eqb vm.vm vm.vm refl)
      (λ j. not (is_some (none j)))
  is_for_slot task s (compiles it vm key work own at_slot has none keyed new free of_key is) =
      (λ j. is_call_of_slot (sym is j) (at_slot j))
      ∙ and_from (is_machine it.vm vm.vm) _ ((λ j. is_machine (has j) vm.vm) ∙ eq-eqb vm.vm vm.vm refl)
      (λ j. not (is_some (none j)))
  is_for_slot task s (finds it doubt other at_slot has doubted is) =
      (λ j. is_call_of_slot (sym is j) (at_slot j))
      ∙ and_from (not (is_some it.vm)) _ (λ j. not (is_some (has j)))
      ((λ j. is_some_with (λ (d : Doubt). d.n == doubt.n) (doubted j)) ∙ eq-eqb doubt.n doubt.n refl)
  is_for_slot task s (looks it vm doubt other at_slot has doubted is) =
      (λ j. is_call_of_slot (sym is j) (at_slot j))
      ∙ and_from (is_machine it.vm vm.vm) _ ((λ j. is_machine (has j) vm.vm) ∙ eq-eqb vm.vm vm.vm refl)
      (λ j. is_some (doubted j))

  -- its number is new
  fresh : is_taken m.effects b.n ≡ false
  fresh = next_fresh m h b.n may.number

  begun_facts : (task s : ℕ) → b.owner ≡ Compile task s
      → SlotFacts m.effects (named task s)
      (slot_begun b.n b.call (dep_of_task m.known task) (key_for m.known task s) (m.known.slot task s))
  begun_facts task s own =
      subst (SlotFacts m.effects (named task s))
      (failed_slot b.n b.call
      (slot_begun b.n b.call (dep_of_task m.known task) (key_for m.known task s) (m.known.slot task s)))
      (slot_kept outside.built m.effects (named task s) (m.known.slot task s) b.n (dep_of_task m.known task)
      (key_for m.known task s) b.call false answers.Failed (h.slots task s) (own_now m h task s)
      (is_for_slot task s (slot_call m b.task task s b.call (sym (λ j. call_now m b.task (own j)) ∙ may.is_call)))
      fresh (inr (refl, λ is. absurd (false≢true is))))

  slots_kept_begun : (owner : Owner) → b.owner ≡ owner → (t s : ℕ)
      → SlotFacts m.effects (named t s) (slots_begun m.known b owner t s)
  slots_kept_begun (Instance i) own t s = h.slots t s
  slots_kept_begun (Compile task k) own t s =
      at_slot (λ t s slot. SlotFacts m.effects (named t s) slot) task k
      (slot_begun b.n b.call (dep_of_task m.known task) (key_for m.known task k) (m.known.slot task k)) m.known.slot
      (begun_facts task k own) h.slots t s
  slots_kept_begun (Disk d) own t s = h.slots t s

  -- the record before the call is the one that was
  was_before : (task s : ℕ) (dep : List ℕ) → SlotCall m b.task task s b.call
      → (key : _) → slot_as_before b.call (slot_begun b.n b.call dep key (m.known.slot task s))
      ≡ m.known.slot task s
  was_before task s dep (creates work make own none next at_make is) key =
      (λ j. slot_as_before (sym is j) (slot_begun b.n (sym is j) dep key (m.known.slot task s))) ∙ sym none
  was_before task s dep (deletes it vm at_slot has none done is) key =
      (λ j. slot_as_before (sym is j) (slot_begun b.n (sym is j) dep key (at_slot j)))
      ∙ ((λ j. Some (record it { doubt = sym none j })) ∙ sym at_slot)
  was_before task s dep (compiles it vm of work own at_slot has none keyed new free of_key is) key =
      λ j. slot_as_before (sym is j) (slot_begun b.n (sym is j) dep key (m.known.slot task s))
  was_before task s dep (finds it doubt other at_slot has doubted is) key =
      λ j. slot_as_before (sym is j) (slot_begun b.n (sym is j) dep key (m.known.slot task s))
  was_before task s dep (looks it vm doubt other at_slot has doubted is) key =
      λ j. slot_as_before (sym is j) (slot_begun b.n (sym is j) dep key (m.known.slot task s))

  -- and what it was has its facts
  owner_begun : (t s : ℕ) → b.owner ≡ Compile t s
      → IsOwnerKept (noting m (entries.Begin b)) b None (Compile t s)
  owner_begun t s own =
      subst (SlotFacts m.effects (named t s))
      (sym ((λ j. slot_as_before b.call ((begins b (own j) m.known).slot t s))
      ∙ ((λ j. slot_as_before b.call (begun_own b m.known t s j))
      ∙ was_before t s (dep_of_task m.known t)
      (slot_call m b.task t s b.call (sym (λ j. call_now m b.task (own j)) ∙ may.is_call))
      (key_for m.known t s)))) (h.slots t s)

-- ---- a call is answered

-- what the cloud told is what its owner is from then on
answered : (m : Moment) (b : Begin) (answer : Answer) (t s : ℕ) (did : Option Did) → notes.answers answer did
    → IsOwnerKept m b did (Compile t s)
    → SlotFacts m.effects (named t s) (slot_after b.n b.call answer (m.known.slot t s))
answered m b answer t s (Some d) told kept =
    subst (λ answer. SlotFacts m.effects (named t s) (slot_after b.n b.call answer (m.known.slot t s))) told kept
answered m b answer t s None told kept = absurd told

slots_kept_told : (m : Moment) (h : Holds m) (n : ℕ) (call : OpenCall) → m.calls n ≡ Some call → (answer : Answer)
    → notes.answers answer call.did → (owner : Owner) → call.begin.owner ≡ owner → (t s : ℕ)
    → SlotFacts m.effects (named t s) (slots_told call.begin answer owner m.known.slot t s)
slots_kept_told m h n call is answer told (Instance i) own t s = h.slots t s
slots_kept_told m h n call is answer told (Compile task k) own t s =
    at_slot (λ t s slot. SlotFacts m.effects (named t s) slot) task k
    (slot_after call.begin.n call.begin.call answer (m.known.slot task k)) m.known.slot
    (answered m call.begin answer task k call.did told
    (subst (λ owner. IsOwnerKept m call.begin call.did owner) own (h.performed n call is).owner_kept)) h.slots t s
slots_kept_told m h n call is answer told (Disk d) own t s = h.slots t s

-- ---- entries

slots_noted : (outside : Outside) (m : Moment) (e : Entry) → MayNote outside m e → Holds m
    → AreAsRecorded (noting m e)
slots_noted outside m (entries.Begin b) may h t s =
    subst (SlotFacts m.effects (named t s)) (sym (λ j. slots_begin b b.owner m.known j t s))
    (slots_kept_begun outside m h b may b.owner refl t s)
slots_noted outside m (entries.End e) may h t s = by (m.calls e.n) refl may
  where
    by : (that : Option OpenCall) → m.calls e.n ≡ that → EndsCall e that
        → SlotFacts m.effects (named t s) ((learn m.known (entries.End e)).slot t s)
    by (Some that) is ends =
        subst (SlotFacts m.effects (named t s))
        (sym ((λ j. (call_ended e.answer ((h.known.calls e.n that is).begun j) m.known).slot t s)
        ∙ (λ j. slots_ended e.answer that.begin m.known j t s)))
        (slots_kept_told m h e.n that is e.answer ends that.begin.owner refl t s)
    by None is ends = absurd ends
slots_noted outside m (entries.Snapshot it) may h t s = absurd may
slots_noted outside m entry may h t s =
    subst (SlotFacts m.effects (named t s)) (sym (λ j. slots_note outside m entry may refl j t s)) (h.slots t s)

-- an entry that leaves a call open leaves what its owner was or will be
owner_noted : (outside : Outside) (m : Moment) (e : Entry) → MayNote outside m e → Holds m → (n : ℕ) (call : OpenCall)
    → m.calls n ≡ Some call → LeavesOpen e n → (t s : ℕ) → call.begin.owner ≡ Compile t s
    → IsOwnerKept (noting m e) call.begin call.did (Compile t s)
owner_noted outside m e may h n call is other t s own =
    owner_left m h t s call.begin call.did (noting m e)
    (slot_same outside m h.known n call is e may t s own
    (subst (Spares m e) own (spares outside m h.known n call is e may other)))
    (λ x doubts facts. facts)
    (subst (λ owner. IsOwnerKept m call.begin call.did owner) own (h.performed n call is).owner_kept)

owners_noted : (outside : Outside) (m : Moment) (e : Entry) → MayNote outside m e → Holds m
    → AreOwnersKept (noting m e)
owners_noted outside m (entries.Begin b) may h n call t s is own = by (eqb b.n n) is
  where
    opened_as : Some (record { begin = b; did = None }) ≡ Some call → record { begin = b; did = None } ≡ call
    opened_as now = cc

    by : (same : Bool) → (if same then Some (record { begin = b; did = None }) else m.calls n) ≡ Some call
        → IsOwnerKept (noting m (entries.Begin b)) call.begin call.did (Compile t s)
    by true now =
        subst (λ (it : OpenCall). IsOwnerKept (noting m (entries.Begin b)) it.begin it.did (Compile t s))
        (opened_as now)
        (owner_begun outside m h b may t s ((λ j. (opened_as now j).begin.owner) ∙ own))
    by false now = owner_noted outside m (entries.Begin b) may h n call now tt t s own
owners_noted outside m (entries.End e) may h n call t s is own = by (eqb e.n n) refl is
  where
    by : (same : Bool) → eqb e.n n ≡ same → (if same then None else m.calls n) ≡ Some call
        → IsOwnerKept (noting m (entries.End e)) call.begin call.did (Compile t s)
    by true same now = absurd cc
    by false other now = owner_noted outside m (entries.End e) may h n call now other t s own
owners_noted outside m (entries.Snapshot it) may h n call t s is own = absurd may
owners_noted outside m entry may h n call t s is own = owner_noted outside m entry may h n call is tt t s own

-- ---- what the cloud does of a call

same_compile : (t s : ℕ) → same_owner (Compile t s) (Compile t s) ≡ true
same_compile t s = and_from (t == t) (s == s) (eq-eqb t t refl) (eq-eqb s s refl)

module _ (outside : Outside) (m : Moment) (h : Holds m) (d : Did) (call : OpenCall) (is : m.calls d.n ≡ Some call)
    (none : call.did ≡ None) (step : CallStep outside.built m.effects call.begin.call d.effect d.answer) where
  left_apart : (t s : ℕ) → call.begin.owner ≢ Compile t s
      → Leaves m.effects (performing m d).effects (named t s) (m.known.slot t s)
  left_apart t s apart x doubts facts =
      subst (λ xs. SlotFacts xs (named t s) x) (sym (done_now m d call is)) (by d.effect)
    where
      by : (has : Bool) → SlotFacts (done_with has m.effects (made_by m.known call.begin)) (named t s) x
      by true = others m h t s d.n call is apart x doubts facts
      by false = facts

  own_answered : (t s : ℕ) → call.begin.owner ≡ Compile t s → (answer : Answer)
      → CallStep outside.built m.effects call.begin.call d.effect answer
      → SlotFacts (performing m d).effects (named t s)
      (slot_after call.begin.n call.begin.call answer (m.known.slot t s))
  own_answered t s own answer step =
      subst (λ xs. SlotFacts xs (named t s) (slot_after call.begin.n call.begin.call answer (m.known.slot t s)))
      (sym (done_now m d call is)) (own_done m h d.n call is t s own none outside.built d.effect answer step)

  slots_performed : AreAsRecorded (performing m d)
  slots_performed t s = by (same_owner call.begin.owner (Compile t s)) refl
    where
      by : (same : Bool) → same_owner call.begin.owner (Compile t s) ≡ same
          → SlotFacts (performing m d).effects (named t s) (m.known.slot t s)
      by true same =
          subst (SlotFacts (performing m d).effects (named t s))
          (failed_slot call.begin.n call.begin.call (m.known.slot t s))
          (own_answered t s (same_owner_is call.begin.owner (Compile t s) same) answers.Failed
          (failed_instead outside.built m.effects call.begin.call d.effect d.answer step))
      by false other =
          left_apart t s (λ same. false≢true (sym other
          ∙ ((λ j. same_owner (same j) (Compile t s)) ∙ same_compile t s)))
          (m.known.slot t s) (doubts_itself (m.known.slot t s)) (h.slots t s)

  owners_performed : AreOwnersKept (performing m d)
  owners_performed n that t s now own = by (eqb d.n n) refl now
    where
      performed : Some (record call { did = Some d }) ≡ Some that → record call { did = Some d } ≡ that
      performed now = cc

      by : (same : Bool) → eqb d.n n ≡ same → (if same then performed_call d (m.calls d.n) else m.calls n) ≡ Some that
          → IsOwnerKept (performing m d) that.begin that.did (Compile t s)
      by true same now =
          let it : record call { did = Some d } ≡ that =
          performed (sym (λ j. performed_call d (is j)) ∙ now) in
          subst (λ (it : OpenCall). IsOwnerKept (performing m d) it.begin it.did (Compile t s)) it
          (own_answered t s ((λ j. (it j).begin.owner) ∙ own) d.answer step)
      by false other now =
          owner_left m h t s that.begin that.did (performing m d) refl
          (left_apart t s (λ same. false≢true (sym other
          ∙ eq-eqb d.n n ((h.known.calls n that now).one_call d.n call is (same ∙ sym own)))))
          (subst (λ owner. IsOwnerKept m that.begin that.did owner) own (h.performed n that now).owner_kept)

-- ---- parts

pub not_done : (did : Option Did) → is_some did ≡ false → did ≡ None
not_done None is = refl
not_done (Some d) is = absurd (false≢true (sym is))

pub slots_kept : IsKeptByParts AreAsRecorded
slots_kept outside m (Performed d) may h = by (m.calls d.n) refl may
  where
    by : (that : Option OpenCall) → m.calls d.n ≡ that → PerformsOpen outside m.effects d that
        → AreAsRecorded (performing m d)
    by (Some call) is performs =
        slots_performed outside m h d call is (not_done call.did performs.not_yet) performs.step
    by None is performs = absurd performs
slots_kept outside m (Written w) may h =
    λ t s. written m h t s w (m.known.slot t s) (doubts_itself (m.known.slot t s)) (h.slots t s)
slots_kept outside m (Lost loss) may h =
    λ t s. lost m h t s loss may (m.known.slot t s) (doubts_itself (m.known.slot t s)) (h.slots t s)
slots_kept outside m (Noted e) may h = slots_noted outside m e may.1 h
slots_kept outside m Forgotten may h = h.slots

-- what the cloud has grows beside the calls
owners_left : (m : Moment) (h : Holds m) (later : Moment) → later.known ≡ m.known → later.calls ≡ m.calls
    → ((t s : ℕ) → Leaves m.effects later.effects (named t s) (m.known.slot t s)) → AreOwnersKept later
owners_left m h later same calls leaves n call t s is own =
    let before : m.calls n ≡ Some call = sym (λ j. calls j n) ∙ is in
    owner_left m h t s call.begin call.did later (λ j. (same j).slot t s) (leaves t s)
    (subst (λ owner. IsOwnerKept m call.begin call.did owner) own (h.performed n call before).owner_kept)

pub owners_kept : IsKeptByParts AreOwnersKept
owners_kept outside m (Performed d) may h = by (m.calls d.n) refl may
  where
    by : (that : Option OpenCall) → m.calls d.n ≡ that → PerformsOpen outside m.effects d that
        → AreOwnersKept (performing m d)
    by (Some call) is performs =
        owners_performed outside m h d call is (not_done call.did performs.not_yet) performs.step
    by None is performs = absurd performs
owners_kept outside m (Written w) may h =
    owners_left m h (record m { effects = m.effects ++ entries.Write w ∷ [] }) refl refl (λ t s. written m h t s w)
owners_kept outside m (Lost loss) may h =
    owners_left m h (losing m loss) refl refl (λ t s. lost m h t s loss may)
owners_kept outside m (Noted e) may h = owners_noted outside m e may.1 h
owners_kept outside m Forgotten may h = λ n call t s is own. absurd cc
