-- What entries leave of compile machines.
use Rattle.std.proofs.Common.{◌≡◌, ◌∙◌, ℕ, Bool, true, false, Option, Some, None, ap, refl, sym, subst, arith}
use Rattle.std.specs.Prelude.{◌≢◌, eqb, if◌then◌else◌}
use Rattle.std.proofs.lemmas.Bool.{eq-eqb, eqb-true, false≢true}
use Rattle.bosh_base.specs.declared.answer.Answer.{Answer}
use Rattle.bosh_base.specs.declared.answer.Answer.TheVariants as answers
use Rattle.bosh_base.specs.declared.call.Call.{Call}
use Rattle.bosh_base.specs.declared.call.Call.TheVariants.{CreateVm, DeleteVm, FindVm, HasVm}
use Rattle.bosh_base.specs.declared.entry.Begin.{Begin}
use Rattle.bosh_base.specs.declared.entry.Entry.{Entry}
use Rattle.bosh_base.specs.declared.entry.Entry.TheVariants as entries
use Rattle.bosh_base.specs.declared.owner.Owner.{Owner}
use Rattle.bosh_base.specs.declared.owner.Owner.TheVariants.{Instance, Compile, Disk}
use Rattle.bosh_base.specs.declared.row.Doubt.{Doubt}
use Rattle.bosh_base.specs.declared.row.Vm.{Vm}
use Rattle.bosh_history.specs.Calls.{begins, call_ended, ends_of, key_for, slot_answered}
use Rattle.bosh_history.specs.Known.{Known, Slot, dep_of_task}
use Rattle.bosh_history.specs.Learn.{learn}
use Rattle.bosh_history.specs.Moments.{Moment}
use Rattle.bosh_history.specs.Notes.{MayNote, Outside}
use Rattle.bosh_history.specs.Slots.{slot_after, slot_begun, slot_told}
use Rattle.bosh_history.specs.Words.{at}
use Rattle.laws_facts.proofs.FrameLemmas.{compiled_slots, slots_done, slots_updated}

abbrev pub Slots : Type 0
Slots = ℕ → ℕ → Option Slot

-- what is said of each compile machine before and after one changes
module _ (P : Option Slot → Option Slot → Type 0) (itself : (a : Option Slot) → P a a) where
  pub changed_slot : (task s : ℕ) (x : Option Slot) (slots : Slots) → P (slots task s) x → (t k : ℕ)
      → P (slots t k) (at eqb task (at eqb s x (slots task)) slots t k)
  changed_slot task s x slots new t k = by (eqb task t) refl
    where
      inner : (b : Bool) → eqb s k ≡ b → P (slots task k) (if b then x else slots task k)
      inner true same = subst (λ (n : ℕ). P (slots task n) x) (eqb-true s k same) new
      inner false other = itself (slots task k)

      by : (b : Bool) → eqb task t ≡ b → P (slots t k) ((if b then at eqb s x (slots task) else slots t) k)
      by true same =
          subst (λ (n : ℕ). P (slots n k) (at eqb s x (slots task) k)) (eqb-true task t same) (inner (eqb s k) refl)
      by false other = itself (slots t k)

-- ---- entries

-- the compile machines, once a call of an owner is answered
abbrev pub slots_told : Begin → Answer → Owner → Slots → Slots
slots_told b answer (Compile t s) slots = at eqb t (at eqb s (slot_after b.n b.call answer (slots t s)) (slots t)) slots
slots_told b answer owner slots = slots

-- .. and once one of an owner has begun
abbrev pub slots_begun : Known → Begin → Owner → Slots
slots_begun k b (Compile t s) =
    at eqb t (at eqb s (slot_begun b.n b.call (dep_of_task k t) (key_for k t s) (k.slot t s)) (k.slot t)) k.slot
slots_begun k b owner = k.slot

answered_slot : (t s : ℕ) (it : Option Slot) (k : Known)
    → (slot_answered t s it k).slot ≡ at eqb t (at eqb s it (k.slot t)) k.slot
answered_slot t s (Some it) k = refl
answered_slot t s None k = refl

told_slots : (b : Begin) (answer : Answer) (owner : Owner) (k : Known)
    → (ends_of b answer owner k).slot ≡ slots_told b answer owner k.slot
told_slots b answer (Instance i) k = refl
told_slots b answer (Compile t s) k = answered_slot t s (slot_after b.n b.call answer (k.slot t s)) k
told_slots b answer (Disk d) k = grind (arith)

pub slots_ended : (answer : Answer) (b : Begin) (k : Known)
    → (call_ended answer (Some b) k).slot ≡ slots_told b answer b.owner k.slot
slots_ended answer b k =
    (compiled_slots b.call answer (ends_of b answer b.owner k)).slot ∙ told_slots b answer b.owner k

pub slots_begin : (b : Begin) (owner : Owner) (k : Known) → (begins b owner k).slot ≡ slots_begun k b owner
slots_begin b (Instance i) k = refl
slots_begin b (Compile t s) k = refl
slots_begin b (Disk d) k = refl

abbrev pub is_of_call : Entry → Bool
is_of_call (entries.Begin b) = true
is_of_call (entries.End e) = true
is_of_call entry = false

-- an entry that is none of a call leaves them
pub slots_note : (outside : Outside) (m : Moment) (e : Entry) → MayNote outside m e → is_of_call e ≡ false
    → (learn m.known e).slot ≡ m.known.slot
slots_note outside m (entries.Begin b) may none = absurd (false≢true (sym none))
slots_note outside m (entries.End e) may none = absurd (false≢true (sym none))
slots_note outside m (entries.UpdDone u) may none = (slots_updated m u.task u.inst).slot
slots_note outside m (entries.TaskDone t) may none = (slots_done m t).slot
slots_note outside m (entries.Snapshot s) may none = absurd may
slots_note outside m entry may none = refl

-- ---- what an answer leaves

-- what it is for, and in which deployment
pub record SameWork (a b : Slot) : Type 0 where
  pub dep : b.dep ≡ a.dep
  pub make : b.make ≡ a.make
  pub key : b.key ≡ a.key

-- what is recorded now was recorded before, for the same work
abbrev pub WasThere : Option Slot → Option Slot → Type 0
WasThere old new = (now : Slot) → new ≡ Some now → (it : Slot) × (old ≡ Some it) × SameWork it now

pub was_itself : (a : Option Slot) → WasThere a a
was_itself a now is = (now, is, record { dep = refl; make = refl; key = refl })

pub told_as : (it now : Slot) (vm : Option Vm) (doubt : Option Doubt)
    → Some (record it { vm = vm; doubt = doubt }) ≡ Some now
    → SameWork it now
told_as it now vm doubt is =
    let same : record it { vm = vm; doubt = doubt } ≡ now = cc in
    record {
      dep = ap (λ (slot : Slot). slot.dep) (sym same);
      make = ap (λ (slot : Slot). slot.make) (sym same);
      key = ap (λ (slot : Slot). slot.key) (sym same);
    }

told_work : (n : ℕ) (call : Call) (answer : Answer) (it now : Slot) → slot_told n call answer it ≡ Some now
    → SameWork it now
told_work n (CreateVm make disks) (answers.Cid v) it now is =
    told_as it now (Some (record { vm = v; agent = n })) None is
told_work n (FindVm agent) (answers.Found (Some v)) it now is =
    told_as it now (Some (record { vm = v; agent = agent })) None is
told_work n (FindVm agent) (answers.Found None) it now is = absurd cc
told_work n (DeleteVm vm) answers.Done it now is = absurd cc
told_work n (DeleteVm vm) answers.Gone it now is = told_as it now it.vm None is
told_work n (HasVm vm) answers.No it now is = absurd cc
told_work n (HasVm vm) answers.Yes it now is = told_as it now it.vm None is
told_work n call answer it now is = told_as it now it.vm it.doubt is

pub was_told : (n : ℕ) (call : Call) (answer : Answer) (slot : Option Slot)
    → WasThere slot (slot_after n call answer slot)
was_told n call answer (Some it) now is = (it, refl, told_work n call answer it now is)
was_told n call answer None now is = absurd cc

was_ended : (b : Begin) (answer : Answer) (owner : Owner) (slots : Slots) (t s : ℕ)
    → WasThere (slots t s) (slots_told b answer owner slots t s)
was_ended b answer (Instance i) slots t s = was_itself (slots t s)
was_ended b answer (Compile task k) slots t s =
    changed_slot WasThere was_itself task k (slot_after b.n b.call answer (slots task k)) slots
    (was_told b.n b.call answer (slots task k)) t s
was_ended b answer (Disk d) slots t s = was_itself (slots t s)

pub was_answered : (answer : Answer) (b : Option Begin) (k : Known) (t s : ℕ)
    → WasThere (k.slot t s) ((call_ended answer b k).slot t s)
was_answered answer (Some b) k t s =
    subst (λ (slots : Slots). WasThere (k.slot t s) (slots t s)) (sym (slots_ended answer b k))
    (was_ended b answer b.owner k.slot t s)
was_answered answer None k t s = was_itself (k.slot t s)

-- ---- another owner's

-- a change of another compile machine leaves this one
pub slot_apart : (task s : ℕ) (x : Option Slot) (slots : Slots) (t k : ℕ) → Compile task s ≢ Compile t k
    → at eqb task (at eqb s x (slots task)) slots t k ≡ slots t k
slot_apart task s x slots t k apart = by (eqb task t) refl (eqb s k) refl
  where
    by : (b : Bool) → eqb task t ≡ b → (c : Bool) → eqb s k ≡ c
        → at eqb task (at eqb s x (slots task)) slots t k ≡ slots t k
    by true one true two = absurd (apart (λ j. Compile (eqb-true task t one j) (eqb-true s k two j)))
    by true one false two =
        (λ j. (if one j then at eqb s x (slots task) else slots t) k) ∙ (λ j. if two j then x else slots task k)
        ∙ (λ j. slots (eqb-true task t one j) k)
    by false one c two = λ j. (if one j then at eqb s x (slots task) else slots t) k

told_apart : (b : Begin) (answer : Answer) (owner : Owner) (slots : Slots) (t k : ℕ) → owner ≢ Compile t k
    → slots_told b answer owner slots t k ≡ slots t k
told_apart b answer (Instance i) slots t k apart = refl
told_apart b answer (Compile task s) slots t k apart =
    slot_apart task s (slot_after b.n b.call answer (slots task s)) slots t k apart
told_apart b answer (Disk d) slots t k apart = refl

pub answered_apart : (answer : Answer) (b : Option Begin) (k : Known) (t s : ℕ)
    → ((it : Begin) → b ≡ Some it → it.owner ≢ Compile t s) → (call_ended answer b k).slot t s ≡ k.slot t s
answered_apart answer (Some b) k t s apart =
    (λ j. slots_ended answer b k j t s) ∙ told_apart b answer b.owner k.slot t s (apart b refl)
answered_apart answer None k t s apart = refl

pub begun_apart : (b : Begin) (owner : Owner) (k : Known) (t s : ℕ) → owner ≢ Compile t s
    → (begins b owner k).slot t s ≡ k.slot t s
begun_apart b (Instance i) k t s apart = refl
begun_apart b (Compile task n) k t s apart =
    slot_apart task n (slot_begun b.n b.call (dep_of_task k task) (key_for k task n) (k.slot task n)) k.slot t s apart
begun_apart b (Disk d) k t s apart = refl

-- the beginning of its own call
pub begun_own : (b : Begin) (k : Known) (t s : ℕ)
    → (begins b (Compile t s) k).slot t s ≡
    slot_begun b.n b.call (dep_of_task k t) (key_for k t s) (k.slot t s)
begun_own b k t s =
    (λ j. (if eq-eqb t t refl j then at eqb s now (k.slot t) else k.slot t) s)
    ∙ (λ j. if eq-eqb s s refl j then now else k.slot t s)
  where
    now : Option Slot
    now = slot_begun b.n b.call (dep_of_task k t) (key_for k t s) (k.slot t s)
