-- A call begins: the facts on addresses are kept, also where a machine is made.
use Rattle.std.proofs.Common.{◌≡◌, ℕ, Bool, true, false, ◌==◌, Option, Some, None, List, [], refl, ap, sym, ◌∙◌, subst, inl, inr, arith}
use Rattle.std.specs.Prelude.{◌⊎◌, ◌≢◌, eqb, if◌then◌else◌}
use Rattle.std.specs.Option.{option_and_then, option_map}
use Rattle.std.proofs.lemmas.Bool.Decides.{eqb_tells}
use Rattle.bosh_base.specs.declared.call.Call.{Call}
use Rattle.bosh_base.specs.declared.call.Call.TheVariants.{CreateVm, DeleteVm}
use Rattle.bosh_base.specs.declared.entry.Begin.{Begin}
use Rattle.bosh_base.specs.declared.entry.Entry.TheVariants as entries
use Rattle.bosh_base.specs.declared.inst.Inst.{Inst}
use Rattle.bosh_base.specs.declared.key.Key.{Key}
use Rattle.bosh_base.specs.declared.key.KeyWork.{KeyWork}
use Rattle.bosh_base.specs.declared.make.Make.{Make}
use Rattle.bosh_base.specs.declared.owner.Owner.{Owner}
use Rattle.bosh_base.specs.declared.owner.Owner.TheVariants.{Instance, Compile, Disk}
use Rattle.bosh_base.specs.declared.row.Doubt.{Doubt}
use Rattle.bosh_base.specs.declared.row.Vm.{Vm}
use Rattle.laws_facts.proofs.ListLemmas.{Tells}
use Rattle.laws_facts.proofs.WorkLemmas.{begun_works}
use Rattle.laws_facts.specs.Addresses.{Recorded, Machine, Wanted, Free, dep_of_slot, make_held}
use Rattle.laws_facts.specs.KnownFacts.{KnownFacts}
use Rattle.laws_facts.specs.Owners.{works}
use Rattle.bosh_history.specs.Calls.{begins, key_for}
use Rattle.bosh_history.specs.Items.{is_item, slots_of}
use Rattle.bosh_history.specs.Known.{Known, Slot, dep_of_task, want_in}
use Rattle.bosh_history.specs.Moments.{Moment, noting}
use Rattle.bosh_history.specs.Notes.{Begins, Outside}
use Rattle.bosh_history.specs.Recovered.{may_follow}
use Rattle.bosh_history.specs.Slots.{is_compiled, next_key, slot_begun}
use Rattle.bosh_history.specs.Sound.{addrs}
use Rattle.bosh_history.specs.Steps.{call_now, compile_make, compiling, creation, is_compiling, key_call, nth, own_slot, slot_by, sweep_by, sweep_call, work_for}
use Rattle.bosh_rows.proofs.SameLemmas.{same_inst_tells}
use Rattle.bosh_rows.specs.After.{begun_row}
use Rattle.bosh_rows.specs.Same.{same_inst}
use Rattle.laws_addresses.proofs.FactLemmas.{Comes, ComesFrom, TakesRow, as_addrs, as_was}
use Rattle.laws_addresses.proofs.FreeLemmas.{alone}
use Rattle.laws_addresses.proofs.ItemLemmas.{MakesFor, makes_for}
use Rattle.laws_addresses.proofs.StepLemmas.{none_on}
use Rattle.laws_addresses.proofs.WorkLemmas.{LessWork, free_comes, less_stays, less_work, wanted_comes}
use Rattle.laws_addresses.proofs.WorkingLemmas.{Wants, wants_of}

-- ---- instances

-- the row of the goal has the make of the machine that is made
wanted_make : (m : Moment) (t : ℕ) (i : Inst) (make : Make) → KnownFacts m → works m t ≡ true → MakesFor m.known t i make
    → make_held m (Wanted i) ≡ Some make
wanted_make m t i make h working makes =
    let it : Wants m t i makes.created.row = wants_of m t i makes.created.row h working makes.created.wants in
    (λ j. option_map (λ want. want.make) (want_in (it.current j) i))
    ∙ ap (option_map (λ want. want.make)) it.wanted
    ∙ ap Some (sym makes.created.of_make)

row_begun : (m : Moment) (b : Begin) → KnownFacts m → works m b.task ≡ true → Begins m b → (owner : Owner)
    → b.owner ≡ owner → (i : Inst)
    → ComesFrom m (noting m (entries.Begin b)) (Recorded i) (Recorded i) ⊎ TakesRow m (noting m (entries.Begin b)) i
row_begun m b h working may (Instance j) is i = by (same_inst_tells j i) b.call refl
  where
    now : make_held (noting m (entries.Begin b)) (Recorded i) ≡
        (if same_inst j i then begun_row b.n b.call (m.known.row j) else m.known.row i).make
    now = (λ l. ((begins b (is l) m.known).row i).make)

    made : j ≡ i → (make : Make) (disks : List ℕ) → b.call ≡ CreateVm make disks → MakesFor m.known b.task i make
    made same make disks called =
        subst (λ it. MakesFor m.known b.task it make) same
        (makes_for m.known b.task j make disks
        (sym (λ l. call_now m b.task (is l)) ∙ may.is_call ∙ ap Some called)
        (sym (λ l. is_item m.known b.task (is l)) ∙ may.is_item))

    by : Tells same_inst j i → (call : Call) → b.call ≡ call
        → ComesFrom m (noting m (entries.Begin b)) (Recorded i) (Recorded i)
        ⊎ TakesRow m (noting m (entries.Begin b)) i
    by (inl same) (CreateVm make disks) called = inr (record {
      comes =
          as_was m (noting m (entries.Begin b)) (Recorded i) (Wanted i)
          (now
          ∙ (λ l. (if same.0 l then begun_row b.n (called l) (m.known.row j) else m.known.row i).make)
          ∙ sym (wanted_make m b.task i make h working (made same.1 make disks called)))
          refl;
      alone = alone m b.task i make h working (made same.1 make disks called);
    })
    by (inl same) call called =
        inl (as_was m (noting m (entries.Begin b)) (Recorded i) (Recorded i)
        (now ∙ (λ l. (if same.0 l then begun_row b.n (called l) (m.known.row (same.1 l)) else m.known.row i).make))
        refl)
    by (inr apart) call called =
        inl (as_was m (noting m (entries.Begin b)) (Recorded i) (Recorded i)
        (now ∙ (λ l. (if apart.0 l then begun_row b.n b.call (m.known.row j) else m.known.row i).make)) refl)
row_begun m b h working may (Compile t s) is i =
    inl (as_was m (noting m (entries.Begin b)) (Recorded i) (Recorded i)
    (λ l. ((begins b (is l) m.known).row i).make) refl)
row_begun m b h working may (Disk d) is i =
    inl (as_was m (noting m (entries.Begin b)) (Recorded i) (Recorded i)
    (λ l. ((begins b (is l) m.known).row i).make) refl)

-- ---- compile machines

-- the make and the deployment of a compile machine stay
pub record SameSlot (old new : Option Slot) : Type 0 where
  pub make : option_map (λ it. it.make) new ≡ option_map (λ it. it.make) old
  pub dep : dep_of_slot new ≡ dep_of_slot old

-- a call makes a machine, or leaves what is recorded of it
pub data SlotCall (call : Call) : Type 0 where
  creates : (make : Make) (disks : List ℕ) → call ≡ CreateVm make disks → SlotCall call
  leaves : ((n : ℕ) (dep : List ℕ) (key : Option Key) (slot : Option Slot)
      → SameSlot slot (slot_begun n call dep key slot)) → SlotCall call

deletes : (n vm : ℕ) (dep : List ℕ) (key : Option Key) (slot : Option Slot)
    → SameSlot slot (slot_begun n (DeleteVm vm) dep key slot)
deletes n vm dep key (Some it) = record { make = refl; dep = refl }
deletes n vm dep key None = record { make = refl; dep = refl }

slot_call : (call : Call) → SlotCall call
slot_call (CreateVm make disks) = creates make disks refl
slot_call (DeleteVm vm) = leaves (λ n dep key slot. deletes n vm dep key slot)
slot_call call = leaves (λ n dep key slot. record { make = refl; dep = refl })

-- a machine is made for a slot with its addresses
pub record MakesSlot (k : Known) (t s : ℕ) (make : Make) : Type 0 where
  pub of_slot : Make
  pub slot : nth s (slots_of (k.task t).goal) ≡ Some of_slot
  pub same : addrs make ≡ addrs of_slot

made_slot : (k : Known) (t s : ℕ) (make : Make) (disks : List ℕ) → creation k t s ≡ Some (CreateVm make disks)
    → MakesSlot k t s make
made_slot k t s make disks is = by (next_key k t s) is
  where
    of : (work : KeyWork) (base : Option Make) → nth s (slots_of (k.task t).goal) ≡ base
        → option_map (λ make. CreateVm (compile_make work.key make) []) base ≡ Some (CreateVm make disks)
        → MakesSlot k t s make
    of work (Some base) has now = record {
      of_slot = base;
      slot = has;
      same = let it : compile_make work.key base ≡ make = grind (arith, now) in ap addrs (sym it);
    }
    of work None has now = absurd cc

    by : (work : Option KeyWork)
        → option_and_then
        (λ work. option_map (λ make. CreateVm (compile_make work.key make) []) (nth s (slots_of (k.task t).goal))) work
        ≡ Some (CreateVm make disks)
        → MakesSlot k t s make
    by (Some work) now = of work (nth s (slots_of (k.task t).goal)) refl now
    by None now = absurd cc

no_key_call : (m : Moment) (t v : ℕ) (key : Key) (make : Make) (disks : List ℕ)
    → key_call m t v key ≢ Some (CreateVm make disks)
no_key_call m t v key make disks is = by (is_compiled m.known key) (is_compiling m key) is
  where
    by : (done busy : Bool)
        → (if done then Some (DeleteVm v)
        else (if busy then None else option_map (compiling m.known v) (work_for (m.known.task t).goal key)))
        ≡ Some (CreateVm make disks)
        → ⊥
    by true busy now = absurd cc
    by false true now = absurd cc
    by false false now =
        none_on make disks (compiling m.known v) (work_for (m.known.task t).goal key) (λ work same. absurd cc) now

no_own : (m : Moment) (t : ℕ) (it : Slot) (make : Make) (disks : List ℕ) (vm : Option Vm) (doubt : Option Doubt)
    → slot_by m t it vm doubt ≢ Some (CreateVm make disks)
no_own m t it make disks (Some vm) None is = by it.key is
  where
    by : (key : Option Key) → option_and_then (key_call m t vm.vm) key ≡ Some (CreateVm make disks) → ⊥
    by (Some key) now = no_key_call m t vm.vm key make disks now
    by None now = absurd cc
no_own m t it make disks (Some vm) (Some doubt) is = absurd cc
no_own m t it make disks None doubt is = absurd cc

no_sweep : (vm : Option Vm) (doubt : Option Doubt) (make : Make) (disks : List ℕ)
    → sweep_by vm doubt ≢ Some (CreateVm make disks)
no_sweep None (Some doubt) make disks is = absurd cc
no_sweep None None make disks is = absurd cc
no_sweep (Some vm) (Some doubt) make disks is = absurd cc
no_sweep (Some vm) None make disks is = absurd cc

-- only an idle slot of the task makes one
makes_slot : (m : Moment) (b : Begin) (t s : ℕ) (make : Make) (disks : List ℕ)
    → call_now m b.task (Compile t s) ≡ Some (CreateVm make disks) → (t ≡ b.task) × MakesSlot m.known t s make
makes_slot m b t s make disks is = by (eqb_tells t b.task) (m.known.slot t s) is
  where
    by : Tells eqb t b.task → (slot : Option Slot)
        → (if t == b.task then own_slot m b.task s slot else sweep_call slot) ≡ Some (CreateVm make disks)
        → (t ≡ b.task) × MakesSlot m.known t s make
    by (inl same) (Some it) now =
        absurd (no_own m b.task it make disks it.vm it.doubt
        (sym (λ l. if same.0 l then own_slot m b.task s (Some it) else sweep_call (Some it)) ∙ now))
    by (inl same) None now = (
      same.1,
      subst (λ it. MakesSlot m.known it s make) (sym same.1)
          (made_slot m.known b.task s make disks
          (sym (λ l. if same.0 l then own_slot m b.task s None else sweep_call None) ∙ now)),
    )
    by (inr apart) (Some it) now =
        absurd (no_sweep it.vm it.doubt make disks
        (sym (λ l. if apart.0 l then own_slot m b.task s (Some it) else sweep_call (Some it)) ∙ now))
    by (inr apart) None now =
        absurd (grind
        (arith, sym (λ l. if apart.0 l then own_slot m b.task s None else sweep_call None) ∙ now))

slot_from : (m : Moment) (b : Begin) → works m b.task ≡ true → Begins m b → (t s : ℕ) → b.owner ≡ Compile t s
    → (noting m (entries.Begin b)).known.slot t s ≡
    slot_begun b.n b.call (dep_of_task m.known t) (key_for m.known t s) (m.known.slot t s)
    → ComesFrom m (noting m (entries.Begin b)) (Machine t s) (Machine t s)
    ⊎ ComesFrom m (noting m (entries.Begin b)) (Machine t s) (Free t s)
slot_from m b working may t s is now = by (slot_call b.call)
  where
    by : SlotCall b.call
        → ComesFrom m (noting m (entries.Begin b)) (Machine t s) (Machine t s)
        ⊎ ComesFrom m (noting m (entries.Begin b)) (Machine t s) (Free t s)
    by (creates make disks called) =
        let its : (t ≡ b.task) × MakesSlot m.known t s make =
        makes_slot m b t s make disks (sym (λ l. call_now m b.task (is l)) ∙ may.is_call ∙ ap Some called) in
        let its_works : works m t ≡ true = ap (works m) its.0 ∙ working in
        inr (as_addrs m (noting m (entries.Begin b)) (Machine t s) (Free t s) make its.1.of_slot
        (ap (option_map (λ it. it.make)) now
        ∙ (λ l. option_map (λ it. it.make)
        (slot_begun b.n (called l) (dep_of_task m.known t) (key_for m.known t s) (m.known.slot t s))))
        ((λ l. if its_works l then nth s (slots_of (m.known.task t).goal) else None) ∙ its.1.slot)
        its.1.same
        (ap dep_of_slot now
        ∙ (λ l. dep_of_slot
        (slot_begun b.n (called l) (dep_of_task m.known t) (key_for m.known t s) (m.known.slot t s)))))
    by (leaves same) =
        let it : SameSlot (m.known.slot t s)
        (slot_begun b.n b.call (dep_of_task m.known t) (key_for m.known t s) (m.known.slot t s)) =
        same b.n (dep_of_task m.known t) (key_for m.known t s) (m.known.slot t s) in
        inl (as_was m (noting m (entries.Begin b)) (Machine t s) (Machine t s)
        (ap (option_map (λ it. it.make)) now ∙ it.make) (ap dep_of_slot now ∙ it.dep))

slot_other : (m : Moment) (b : Begin) (t s : ℕ) → (noting m (entries.Begin b)).known.slot t s ≡ m.known.slot t s
    → ComesFrom m (noting m (entries.Begin b)) (Machine t s) (Machine t s)
    ⊎ ComesFrom m (noting m (entries.Begin b)) (Machine t s) (Free t s)
slot_other m b t s same =
    inl (as_was m (noting m (entries.Begin b)) (Machine t s) (Machine t s) (ap (option_map (λ it. it.make)) same)
    (ap dep_of_slot same))

slots_begun : (m : Moment) (b : Begin) → works m b.task ≡ true → Begins m b → (owner : Owner) → b.owner ≡ owner
    → (t s : ℕ)
    → ComesFrom m (noting m (entries.Begin b)) (Machine t s) (Machine t s)
    ⊎ ComesFrom m (noting m (entries.Begin b)) (Machine t s) (Free t s)
slots_begun m b working may (Instance i) is t s = slot_other m b t s (λ l. (begins b (is l) m.known).slot t s)
slots_begun m b working may (Compile task slot) is t s = by (eqb_tells task t) (eqb_tells slot s)
  where
    by : Tells eqb task t → Tells eqb slot s
        → ComesFrom m (noting m (entries.Begin b)) (Machine t s) (Machine t s)
        ⊎ ComesFrom m (noting m (entries.Begin b)) (Machine t s) (Free t s)
    by (inl same) (inl also) =
        slot_from m b working may t s (is ∙ (λ l. Compile (same.1 l) (also.1 l)))
        ((λ l. (begins b (is l) m.known).slot t s) ∙ grind (arith, same, also))
    by (inl same) (inr apart) =
        slot_other m b t s ((λ l. (begins b (is l) m.known).slot t s) ∙ grind (arith, same, apart))
    by (inr apart) other =
        slot_other m b t s ((λ l. (begins b (is l) m.known).slot t s) ∙ grind (arith, apart))
slots_begun m b working may (Disk d) is t s = slot_other m b t s (λ l. (begins b (is l) m.known).slot t s)

-- ---- all

pub begun_comes : (outside : Outside) (m : Moment) (b : Begin) → KnownFacts m
    → may_follow m (entries.Begin b) ≡ true → Begins m b → Comes m (noting m (entries.Begin b))
begun_comes outside m b h follows may = record {
  rows = row_begun m b h working may b.owner refl;
  slots = slots_begun m b working may b.owner refl;
  wanted = wanted_comes m (noting m (entries.Begin b)) less;
  free = free_comes m (noting m (entries.Begin b)) less;
  works = λ a t s has is. less.works t is;
  stays = less_stays m (noting m (entries.Begin b)) less;
}
  where
    working : works m b.task ≡ true
    working = begun_works m b follows may

    less : LessWork m (noting m (entries.Begin b))
    less = less_work outside m (entries.Begin b) may refl
