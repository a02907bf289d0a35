-- Whose calls are a task's: those of what it lists, of its slots, and of the machines that it sweeps.
use Rattle.std.proofs.Common.{◌≡◌, ◌∙◌, ℕ, ◌≤◌, Bool, true, false, Some, None}
use Rattle.std.proofs.Common.{refl, sym}
use Rattle.std.specs.Prelude.{◌==◌, nat_le, not}
use Rattle.std.specs.Option.{option_eq}
use Rattle.std.specs.Str.{bytes_eq}
use Rattle.std.proofs.lemmas.Bool.{and_parts, eqb-true, leb-true, not-true}
use Rattle.bosh_base.specs.declared.entry.Begin.{Begin}
use Rattle.bosh_base.specs.declared.entry.Entry.TheVariants as entries
use Rattle.bosh_base.specs.declared.inst.Inst.{Inst}
use Rattle.bosh_base.specs.declared.owner.Owner.{Owner}
use Rattle.bosh_base.specs.declared.owner.Owner.TheVariants.{Compile, Instance}
use Rattle.bosh_history.specs.Items.{is_item, is_leftover, is_slot_left, phase_of}
use Rattle.bosh_history.specs.Known.{Slot, SlotName}
use Rattle.bosh_history.specs.Moments.{Moment, OpenCall}
use Rattle.bosh_history.specs.Notes.{Begins}
use Rattle.bosh_history.specs.Recovered.{may_follow}
use Rattle.laws_counts.specs.Counts.{is_of_earlier, owner_of}
use Rattle.laws_facts.proofs.LockLemmas.{locks_equal}
use Rattle.laws_facts.proofs.WorkLemmas.{begun_works}
use Rattle.laws_facts.specs.KnownFacts.{KnownFacts}
use Rattle.laws_facts.specs.Owners.{works}
use Rattle.laws_items.proofs.AskedLemmas.{item_dep}
use Rattle.laws_items.proofs.ItemFrames.{same_dep_is, slot_dep}
use Rattle.laws_items.proofs.ListLemmas.{holds_some}
use Rattle.laws_items.proofs.ListedLemmas.{one_lock}
use Rattle.laws_items.proofs.OnwardLemmas.{slot_by}
use Rattle.laws_items.proofs.PhaseLemmas.{IsLeft, of_item}
use Rattle.laws_machines.proofs.AnswerLemmas.{task_of_item}

-- no other task that works has something to do for the owner
abbrev pub IsOwn : Moment → ℕ → Owner → Type 0
IsOwn m t owner = (u : ℕ) → works m u ≡ true → is_item m.known u owner ≡ true → u ≡ t

pub own_instance : (m : Moment) → KnownFacts m → (t : ℕ) → works m t ≡ true → (i : Inst)
    → (m.known.task t).dep ≡ Some i.dep → IsOwn m t (Instance i)
own_instance m h t working i mine u other item =
    one_lock m u t h other working (item_dep m h u other i item ∙ sym mine)

pub own_slot : (m : Moment) → KnownFacts m → (t s : ℕ) → works m t ≡ true → IsOwn m t (Compile t s)
own_slot m h t s working u other item = task_of_item m h t s working u other item

-- of an earlier task
pub record IsEarlier (m : Moment) (t : ℕ) (name : SlotName) : Type 0 where
  pub other : (name.task == t) ≡ false
  pub low : name.task ≤ m.known.tasks
  pub same_dep : (m.known.task name.task).dep ≡ (m.known.task t).dep

pub earlier_is : (m : Moment) (t : ℕ) (name : SlotName) → is_of_earlier m.known t name ≡ true → IsEarlier m t name
earlier_is m t name is =
    let (apart, rest) = and_parts (not (name.task == t)) _ is in
    let (low, same) = and_parts (nat_le name.task m.known.tasks) _ rest in
    record {
      other = not-true (name.task == t) apart;
      low = leb-true name.task m.known.tasks low;
      same_dep = locks_equal (m.known.task name.task).dep (m.known.task t).dep same;
    }

pub own_swept : (m : Moment) → KnownFacts m → (t : ℕ) → works m t ≡ true → (name : SlotName) → IsEarlier m t name
    → IsOwn m t (owner_of name)
own_swept m h t working name it u other item = by (name.task == u) refl
  where
    left : (over : Bool) → is_leftover m.known u name ≡ over → (name.task == u) ≡ false
        → (p : ℕ) × IsLeft m.known u (owner_of name) p → u ≡ t
    left true over apart found =
        let held : (x : Slot) × (m.known.slot name.task name.slot ≡ Some x) ×
        (option_eq bytes_eq (Some x.dep) (m.known.task u).dep ≡ true) =
        holds_some (λ x. option_eq bytes_eq (Some x.dep) (m.known.task u).dep) (m.known.slot name.task name.slot)
        (and_parts (not (name.task == u)) _ over).1 in
        one_lock m u t h other working
        (same_dep_is held.0.dep (m.known.task u).dep held.2
        ∙ (sym (slot_dep m name.task name.slot held.0 h held.1) ∙ it.same_dep))
    left false over apart found =
        let none : phase_of m.known u (owner_of name) ≡ None = (λ j. slot_by (apart j) (is_slot_left m.known u
        name.slot) (over j)) in
        let some : phase_of m.known u (owner_of name) ≡ Some found.0 = found.1.phase in absurd cc

    by : (own : Bool) → (name.task == u) ≡ own → u ≡ t
    by true same =
        one_lock m u t h other working ((λ j. (m.known.task (sym (eqb-true name.task u same) j)).dep) ∙ it.same_dep)
    by false apart =
        left (is_leftover m.known u name) refl apart (of_item m.known u (owner_of name) item)

-- ---- its calls

pub open_own : (m : Moment) → KnownFacts m → (t : ℕ) (owner : Owner) → IsOwn m t owner → (n : ℕ) (call : OpenCall)
    → m.calls n ≡ Some call → call.begin.owner ≡ owner → call.begin.task ≡ t
open_own m h t owner mine n call is own =
    mine call.begin.task (h.calls n call is).works
    (sym (λ j. is_item m.known call.begin.task (own j))
    ∙ (and_parts (is_item m.known call.begin.task call.begin.owner) _ (h.calls n call is).of_item).0)

pub begins_own : (m : Moment) (t : ℕ) (owner : Owner) → IsOwn m t owner → (b : Begin)
    → may_follow m (entries.Begin b) ≡ true → Begins m b → b.owner ≡ owner → b.task ≡ t
begins_own m t owner mine b follows may own =
    mine b.task (begun_works m b follows may) (sym (λ j. is_item m.known b.task (own j)) ∙ may.is_item)
