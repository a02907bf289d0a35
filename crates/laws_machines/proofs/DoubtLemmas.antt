-- Compile machines in doubt, while calls begin and others are answered.
use Rattle.std.proofs.Common.{◌≡◌, ◌∙◌, ℕ, ◌+◌, ◌≤◌, Bool, true, false, ◌&&◌, not, Option, Some, None, []}
use Rattle.std.proofs.Common.{ap, refl, sym, arith}
use Rattle.std.specs.Prelude.{if◌then◌else◌, ◌≢◌, ◌==◌, eqb, is_some}
use Rattle.std.proofs.lemmas.Bool.{and_from, eq-eqb, eqb-true, false≢true}
use Rattle.bosh_base.specs.declared.call.Call.{Call}
use Rattle.bosh_base.specs.declared.call.Call.TheVariants as calls
use Rattle.bosh_base.specs.declared.entry.Begin.{Begin}
use Rattle.bosh_base.specs.declared.entry.End.{End}
use Rattle.bosh_base.specs.declared.entry.Entry.TheVariants as entries
use Rattle.bosh_base.specs.declared.owner.Owner.{Owner}
use Rattle.bosh_base.specs.declared.owner.Owner.TheVariants.{Instance, Compile, Disk}
use Rattle.bosh_base.specs.declared.row.Doubt.{Doubt}
use Rattle.bosh_history.specs.Calls.{begins, key_for}
use Rattle.bosh_history.specs.Known.{Known, Slot, dep_of_task}
use Rattle.bosh_history.specs.Learn.{learn}
use Rattle.bosh_history.specs.Moments.{Moment, OpenCall}
use Rattle.bosh_history.specs.Notes.{Begins}
use Rattle.bosh_history.specs.Slots.{slot_begun}
use Rattle.bosh_history.specs.Steps.{call_now, compile_make}
use Rattle.bosh_history.specs.Words.{at}
use Rattle.bosh_rows.specs.Same.{same_owner}
use Rattle.laws_facts.specs.CompileMachines.{is_open_for_slot}
use Rattle.laws_facts.specs.KnownFacts.{KnownFacts}
use Rattle.laws_facts.specs.Owners.{works}
use Rattle.laws_items.proofs.ListedLemmas.{at_some, implied}
use Rattle.laws_items.proofs.OwnerLemmas.{same_owner_is}
use Rattle.laws_items.proofs.SlotCalls.{SlotCall, compiles, creates, deletes, finds, looks, slot_call}
use Rattle.laws_items.proofs.SlotFrames.{answered_apart, begun_apart, begun_own}
use Rattle.laws_row_facts.specs.Words.{where_any}

-- ---- the doubt of one compile machine

abbrev pub IsOpenFor : Known → (ℕ → Option OpenCall) → ℕ → ℕ → Type 0
IsOpenFor k calls t s =
    (it : Slot) (d : Doubt) → k.slot t s ≡ Some it → it.doubt ≡ Some d → is_open_for_slot t s (calls d.n) ≡ true

pub tested : (k : Known) (calls : ℕ → Option OpenCall) (t s : ℕ) → IsOpenFor k calls t s
    → where_any (λ it. where_any (λ d. is_open_for_slot t s (calls d.n)) it.doubt) (k.slot t s) ≡ true
tested k calls t s open_for = by (k.slot t s) refl
  where
    doubted : (it : Slot) → k.slot t s ≡ Some it → (doubt : Option Doubt) → it.doubt ≡ doubt
        → where_any (λ d. is_open_for_slot t s (calls d.n)) doubt ≡ true
    doubted it is (Some d) has = open_for it d is has
    doubted it is None has = refl

    by : (slot : Option Slot) → k.slot t s ≡ slot
        → where_any (λ it. where_any (λ d. is_open_for_slot t s (calls d.n)) it.doubt) slot ≡ true
    by (Some it) is = doubted it is it.doubt refl
    by None is = refl

later : (last n other : ℕ) → n ≡ last + 1 → n ≡ other → other ≤ last → ⊥
later last n other number equal low = omega arith

-- an open call has no later number than the last
numbered : (m : Moment) → KnownFacts m → (n : ℕ) → is_some (m.calls n) ≡ true → n ≤ m.known.last_call
numbered m h n some = grind (arith, h.numbers.past n, some)

module _ (m : Moment) (h : KnownFacts m) (t s : ℕ) (working : works m t ≡ true)
    (unfailed : is_some (m.known.task t).failed ≡ false) where
  pub was_open : IsOpenFor m.known m.calls t s
  was_open it d is has =
      at_some (λ d. is_open_for_slot t s (m.calls d.n)) it.doubt d
      (at_some (λ (it : Slot). where_any (λ d. is_open_for_slot t s (m.calls d.n)) it.doubt) (m.known.slot t s) it
      (implied (works m t && not (is_some (m.known.task t).failed))
      (where_any (λ (it : Slot). where_any (λ d. is_open_for_slot t s (m.calls d.n)) it.doubt) (m.known.slot t s))
      (h.slots_work t s).doubt_open (and_from (works m t) _ working (ap not unfailed))) is) has

  -- ---- a call begins

  module _ (b : Begin) (may : Begins m b) where
    abbrev now : ℕ → Option OpenCall
    now = at eqb b.n (Some (record { begin = b; did = None })) m.calls

    -- an open call is open still
    stays_open : (n : ℕ) → is_open_for_slot t s (m.calls n) ≡ true → is_open_for_slot t s (now n) ≡ true
    stays_open n is = by (eqb b.n n) refl
      where
        some : (call : Option OpenCall) → is_open_for_slot t s call ≡ true → is_some call ≡ true
        some (Some call) is = refl
        some None is = absurd (false≢true is)

        by : (c : Bool) → eqb b.n n ≡ c
            → is_open_for_slot t s (if c then Some (record { begin = b; did = None }) else m.calls n) ≡ true
        by false other = is
        by true same =
            let number : b.n ≡ m.known.last_call + 1 = may.number in
            let equal : b.n ≡ n = eqb-true b.n n same in
            let low : n ≤ m.known.last_call = numbered m h n (some (m.calls n) is) in
            absurd (later m.known.last_call b.n n number equal low)

    -- the call that begins is open
    opens : b.owner ≡ Compile t s → is_open_for_slot t s (now b.n) ≡ true
    opens own =
        (λ j. is_open_for_slot t s
        (if eq-eqb b.n b.n refl j then Some (record { begin = b; did = None }) else m.calls b.n))
        ∙ (λ j. same_owner (own j) (Compile t s))
        ∙ and_from (t == t) (s == s) (eq-eqb t t refl) (eq-eqb s s refl)

    abbrev new : Known
    new = learn m.known (entries.Begin b)

    slot_same : new.slot t s ≡ m.known.slot t s → IsOpenFor new now t s
    slot_same same it d is has = stays_open d.n (was_open it d (sym same ∙ is) has)

    slot_fresh : b.owner ≡ Compile t s → (fresh : Slot) (call : Call) → new.slot t s ≡ Some fresh
        → fresh.doubt ≡ Some (record { n = b.n; call = call }) → IsOpenFor new now t s
    slot_fresh own fresh call slot_is doubt_is it d is has =
        let one : fresh ≡ it = cc in
        let doubt : Some (record { n = b.n; call = call }) ≡ Some d =
        sym doubt_is ∙ ap (λ (x : Slot). x.doubt) one ∙ has in
        let same : record { n = b.n; call = call } ≡ d = cc in
        sym (λ j. is_open_for_slot t s (now (same j).n)) ∙ opens own

    own_slot : b.owner ≡ Compile t s
        → new.slot t s ≡ slot_begun b.n b.call (dep_of_task m.known t) (key_for m.known t s) (m.known.slot t s)
    own_slot own = (λ j. (begins b (own j) m.known).slot t s) ∙ begun_own b m.known t s

    by_call : b.owner ≡ Compile t s → SlotCall m b.task t s b.call → IsOpenFor new now t s
    by_call own (creates work make mine none next at_make is) =
        slot_fresh own
        (record {
          dep = dep_of_task m.known t;
          make = compile_make work.key make;
          vm = None;
          doubt = Some (record { n = b.n; call = calls.CreateVm (compile_make work.key make) [] });
          key = key_for m.known t s;
        })
        (calls.CreateVm (compile_make work.key make) [])
        (own_slot own
        ∙ sym (λ j. slot_begun b.n (is j) (dep_of_task m.known t) (key_for m.known t s) (m.known.slot t s))) refl
    by_call own (deletes it vm at_slot has none done is) =
        slot_fresh own (record it { doubt = Some (record { n = b.n; call = calls.DeleteVm vm.vm }) })
        (calls.DeleteVm vm.vm)
        (own_slot own
        ∙ (λ j. slot_begun b.n (sym is j) (dep_of_task m.known t) (key_for m.known t s) (at_slot j))) refl
    by_call own (compiles it vm key work mine at_slot has none keyed fresh free of_key is) =
        slot_same
        (own_slot own
        ∙ sym (λ j. slot_begun b.n (is j) (dep_of_task m.known t) (key_for m.known t s) (m.known.slot t s)))
    by_call own (finds it doubt other at_slot has doubted is) =
        slot_same
        (own_slot own
        ∙ sym (λ j. slot_begun b.n (is j) (dep_of_task m.known t) (key_for m.known t s) (m.known.slot t s)))
    by_call own (looks it vm doubt other at_slot has doubted is) =
        slot_same
        (own_slot own
        ∙ sym (λ j. slot_begun b.n (is j) (dep_of_task m.known t) (key_for m.known t s) (m.known.slot t s)))

    pub begun_open : IsOpenFor new now t s
    begun_open = by b.owner refl
      where
        apart : (owner : Owner) → b.owner ≡ owner → owner ≢ Compile t s → IsOpenFor new now t s
        apart owner own differs =
            slot_same (begun_apart b b.owner m.known t s (λ same. differs (sym own ∙ same)))

        here : (task k : ℕ) → b.owner ≡ Compile task k → (c : Bool) → eqb task t ≡ c → (d : Bool) → eqb k s ≡ d
            → IsOpenFor new now t s
        here task k own true one true two =
            let mine : b.owner ≡ Compile t s =
            own ∙ (λ j. Compile (eqb-true task t one j) (eqb-true k s two j)) in
            by_call mine (slot_call m b.task t s b.call (sym (λ j. call_now m b.task (mine j)) ∙ may.is_call))
        here task k own true one false two =
            apart (Compile task k) own
            (λ same. let slot : k ≡ s = cc in false≢true (sym two ∙ eq-eqb k s slot))
        here task k own false one d two =
            apart (Compile task k) own
            (λ same. let equal : task ≡ t = cc in false≢true (sym one ∙ eq-eqb task t equal))

        by : (owner : Owner) → b.owner ≡ owner → IsOpenFor new now t s
        by (Instance i) own = apart (Instance i) own (λ same. absurd cc)
        by (Compile task k) own = here task k own (eqb task t) refl (eqb k s) refl
        by (Disk d) own = apart (Disk d) own (λ same. absurd cc)

-- ---- an answer to another call

module _ (m : Moment) (h : KnownFacts m) (t s : ℕ) (working : works m t ≡ true)
    (unfailed : is_some (m.known.task t).failed ≡ false) (e : End) (that : OpenCall)
    (open_now : m.calls e.n ≡ Some that) (differs : that.begin.owner ≢ Compile t s) where
  pub others_open : IsOpenFor (learn m.known (entries.End e)) (at eqb e.n None m.calls) t s
  others_open it d is has =
      stays d.n (was_open m h t s working unfailed it d (sym same ∙ is) has) (eqb e.n d.n) refl
    where
      same : (learn m.known (entries.End e)).slot t s ≡ m.known.slot t s
      same =
          answered_apart e.answer (m.known.begun e.n) m.known t s
          (λ b known owner.
          let begun : m.known.begun e.n ≡ Some that.begin = (h.calls e.n that open_now).begun in
          let one : that.begin ≡ b = cc in
          differs (ap (λ (it : Begin). it.owner) one ∙ owner))

      stays : (n : ℕ) → is_open_for_slot t s (m.calls n) ≡ true → (c : Bool) → eqb e.n n ≡ c
          → is_open_for_slot t s (if eqb e.n n then None else m.calls n) ≡ true
      stays n is false other = (λ j. is_open_for_slot t s (if other j then None else m.calls n)) ∙ is
      stays n is true equal =
          absurd
          (differs
          (same_owner_is that.begin.owner (Compile t s)
          (sym ((λ j. is_open_for_slot t s (m.calls (sym (eqb-true e.n n equal) j)))
          ∙ (λ j. is_open_for_slot t s (open_now j))) ∙ is)))
