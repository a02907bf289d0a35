-- What an open call compiles is not compiled, and no other open call compiles it.
use Rattle.std.proofs.Common.{◌≡◌, ◌∙◌, ℕ, ◌≤◌, Bool, true, false, not, Option, Some, None, List}
use Rattle.std.proofs.Common.{ap, refl, sym, arith}
use Rattle.std.specs.Prelude.{◌==◌, eqb, if◌then◌else◌, is_some}
use Rattle.std.specs.List.{filter_map}
use Rattle.std.specs.Option.{option_map}
use Rattle.std.proofs.lemmas.Bool.{eq-eqb, eqb-true, false≢true}
use Rattle.bosh_base.specs.declared.answer.Answer.{Answer}
use Rattle.bosh_base.specs.declared.answer.Answer.TheVariants as told_as
use Rattle.bosh_base.specs.declared.call.Call.{Call}
use Rattle.bosh_base.specs.declared.call.Call.TheVariants as calls
use Rattle.bosh_base.specs.declared.digest.Digest.{Digest}
use Rattle.bosh_base.specs.declared.entry.Begin.{Begin}
use Rattle.bosh_base.specs.declared.entry.End.{End}
use Rattle.bosh_base.specs.declared.entry.Entry.{Entry}
use Rattle.bosh_base.specs.declared.entry.Entry.TheVariants as entries
use Rattle.bosh_base.specs.declared.inst.Inst.{Inst}
use Rattle.bosh_base.specs.declared.key.Key.{Key}
use Rattle.bosh_base.specs.declared.key.KeyWork.{KeyWork}
use Rattle.bosh_base.specs.declared.moves.Did.{Did}
use Rattle.bosh_base.specs.declared.moves.Move.{Move}
use Rattle.bosh_base.specs.declared.moves.Move.TheVariants as moves
use Rattle.bosh_base.specs.declared.owner.Owner.{Owner}
use Rattle.bosh_base.specs.declared.owner.Owner.TheVariants.{Instance, Compile, Disk}
use Rattle.bosh_base.specs.declared.row.Vm.{Vm}
use Rattle.bosh_base.specs.declared.snapshot.Orphan.{Orphan}
use Rattle.bosh_compile.proofs.KeyLemmas.{same_key_decides}
use Rattle.bosh_compile.specs.Readiness.{same_key}
use Rattle.bosh_history.specs.Calls.{call_ended, ends_of}
use Rattle.bosh_history.specs.Calls as told
use Rattle.bosh_history.specs.Items.{is_to_ping}
use Rattle.bosh_history.specs.Known.{Known, dep_of_task, want_in}
use Rattle.bosh_history.specs.Learn.{learn}
use Rattle.bosh_history.specs.Moments.{Moment, OpenCall, later, noting, performed_call}
use Rattle.bosh_history.specs.Notes.{Begins, EndsCall, MayNote, Outside}
use Rattle.bosh_history.specs.Permitted.{IsPermitted}
use Rattle.bosh_history.specs.Slots.{is_compiled, keys_of}
use Rattle.bosh_history.specs.Steps.{call_now, compiles, disk_call, is_compiling, want_of}
use Rattle.bosh_history.specs.Words.{at, holds}
use Rattle.bosh_rows.specs.CallOf.{next_call}
use Rattle.laws_facts.proofs.BuiltLemmas.{same_answered, same_begun, same_settled, same_updated}
use Rattle.laws_facts.proofs.WorkLemmas.{none_to}
use Rattle.laws_facts.specs.KnownFacts.{KnownFacts}
use Rattle.laws_facts.specs.OpenCalls.{compiles_alone, compiles_another, compiles_new}
use Rattle.laws_items.proofs.ListLemmas.{find_in}
use Rattle.laws_items.proofs.PingLemmas.{is_compilation, plain_call}
use Rattle.laws_items.proofs.SlotCalls as slot
use Rattle.laws_items.proofs.SlotCalls.{SlotCall, slot_call}
use Rattle.laws_items.specs.Lists.{IsIn}
use Rattle.laws_machines.specs.Machines.{AreCompiledAlone, AreCompiledNew}
use Rattle.laws_row_facts.specs.Words.{implies, where_any}
use Rattle.laws_tasks.proofs.CountLemmas.{not_so}

-- ---- keys

pub flipped : (a b : Key) → same_key a b ≡ false → same_key b a ≡ false
flipped a b apart = by (same_key b a) refl
  where
    by : (c : Bool) → same_key b a ≡ c → c ≡ false
    by false is = refl
    by true is =
        absurd (false≢true (sym apart ∙ (same_key_decides a b).1 (sym ((same_key_decides b a).0 is))))

new_where_none : (k : Known) (call : Call) → is_compilation call ≡ false → compiles_new k call ≡ true
new_where_none k (calls.CompilePackage vm work deps) none = absurd (false≢true (sym none))
new_where_none k call none = refl

another_where_none : (call : Call) (that : OpenCall) → is_compilation call ≡ false → compiles_another call that ≡ true
another_where_none (calls.CompilePackage vm work deps) that none = absurd (false≢true (sym none))
another_where_none call that none = refl

compiles_none : (key : Key) (call : Call) → is_compilation call ≡ false → compiles key call ≡ false
compiles_none key (calls.CompilePackage vm work deps) none = absurd (false≢true (sym none))
compiles_none key call none = refl

-- the key that a call compiles
abbrev key_compiled : Call → Option Key
key_compiled (calls.CompilePackage vm work deps) = Some work.key
key_compiled call = None

-- ---- the call that begins

-- it compiles nothing, or a key that is not compiled and that no open call compiles
data BegunKey (m : Moment) (call : Call) : Type 0 where
  nothing : is_compilation call ≡ false → BegunKey m call
  key_of : (vm : ℕ) (work : KeyWork) (deps : List Digest) → calls.CompilePackage vm work deps ≡ call
      → is_compiled m.known work.key ≡ false → is_compiling m work.key ≡ false → BegunKey m call

module _ (m : Moment) (b : Begin) (may : Begins m b) where
  of_slot : (task s : ℕ) → SlotCall m b.task task s b.call → BegunKey m b.call
  of_slot task s (slot.creates work make own none next at_make is) = nothing (sym (λ j. is_compilation (is j)))
  of_slot task s (slot.deletes it vm at_slot has none done is) = nothing (sym (λ j. is_compilation (is j)))
  of_slot task s (slot.compiles it vm key work own at_slot has none keyed fresh free of_key is) =
      let found : IsIn work (keys_of (m.known.task b.task).goal) × (same_key work.key key ≡ true) =
      find_in (λ it. same_key it.key key) work (keys_of (m.known.task b.task).goal) of_key in
      let same : work.key ≡ key = (same_key_decides work.key key).0 found.1 in
      key_of vm.vm work (filter_map m.known.digest work.deps) is ((λ j. is_compiled m.known (same j)) ∙ fresh)
      ((λ j. is_compiling m (same j)) ∙ free)
  of_slot task s (slot.finds it doubt other at_slot has doubted is) = nothing (sym (λ j. is_compilation (is j)))
  of_slot task s (slot.looks it vm doubt other at_slot has doubted is) = nothing (sym (λ j. is_compilation (is j)))

  begun_key : BegunKey m b.call
  begun_key = by b.owner may.is_call
    where
      of_row : (i : Inst) (ping : Bool) (vm : Option Vm)
          → (if ping then option_map (λ it. calls.Ping it.vm) vm
          else next_call (want_of (m.known.task b.task) i) (m.known.row i)) ≡ Some b.call → BegunKey m b.call
      of_row i true (Some vm) is =
          let same : calls.Ping vm.vm ≡ b.call = cc in nothing (sym (λ j. is_compilation (same j)))
      of_row i true None is = absurd cc
      of_row i false vm is = nothing (plain_call (want_of (m.known.task b.task) i) (m.known.row i) b.call is).1

      of_disk : (d : ℕ) (doubt : Bool) → (if doubt then calls.HasDisk d else calls.DeleteDisk d) ≡ b.call
          → BegunKey m b.call
      of_disk d true same = nothing (sym (λ j. is_compilation (same j)))
      of_disk d false same = nothing (sym (λ j. is_compilation (same j)))

      of_orphan : (d : ℕ) (it : Option Orphan) → option_map (disk_call d) it ≡ Some b.call → BegunKey m b.call
      of_orphan d (Some it) is = of_disk d (is_some it.doubt) (let same : disk_call d it ≡ b.call = cc in same)
      of_orphan d None is = absurd cc

      by : (owner : Owner) → call_now m b.task owner ≡ Some b.call → BegunKey m b.call
      by (Instance i) is = of_row i (is_to_ping (m.known.task b.task) i) (m.known.row i).vm is
      by (Compile task s) is = of_slot task s (slot_call m b.task task s b.call is)
      by (Disk d) is = of_orphan d (m.known.orphan d) is

-- ---- what is compiled

-- an entry that is no answer leaves it
abbrev is_answer : Entry → Bool
is_answer (entries.End e) = true
is_answer entry = false

same_digest : (outside : Outside) (m : Moment) (e : Entry) → MayNote outside m e → is_answer e ≡ false
    → (learn m.known e).digest ≡ m.known.digest
same_digest outside m (entries.Begin b) may none = (same_begun b b.owner m.known).digest
same_digest outside m (entries.End e) may none = absurd (false≢true (sym none))
same_digest outside m (entries.UpdDone u) may none =
    (same_updated (want_in (m.known.task u.task).goal u.inst) u.inst m.known).digest
same_digest outside m (entries.TaskDone t) may none =
    (same_settled (m.known.task t).kind (m.known.task t).goal (dep_of_task m.known t) m.known).digest
same_digest outside m (entries.Snapshot s) may none = absurd may
same_digest outside m entry may none = refl

new_as : (old new : Known) (call : Call) → new.digest ≡ old.digest → compiles_new new call ≡ compiles_new old call
new_as old new (calls.CompilePackage vm work deps) same = λ j. not (is_some (same j work.key))
new_as old new call same = refl

compiled_by : (call : Call) (answer : Answer) (k : Known) (key : Key) → compiles key call ≡ false
    → is_compiled k key ≡ false → is_compiled (told.compiles call answer k) key ≡ false
compiled_by (calls.CompilePackage vm work deps) (told_as.Built digest) k key apart is =
    (λ j. is_some (if apart j then Some digest else k.digest key)) ∙ is
compiled_by (calls.CompilePackage vm work deps) answer k key apart is = is
compiled_by call answer k key apart is = is

-- an answer compiles another key
ended_new : (k : Known) (b : Begin) (answer : Answer) (call : Call)
    → (where_any (λ (key : Key). not (compiles key b.call)) (key_compiled call) ≡ true) → compiles_new k call ≡ true
    → compiles_new (call_ended answer (Some b) k) call ≡ true
ended_new k b answer (calls.CompilePackage vm work deps) apart is =
    ap not
    (compiled_by b.call answer (ends_of b answer b.owner k) work.key (not_so (compiles work.key b.call) apart)
    ((λ j. is_some ((same_answered b answer b.owner k).digest j work.key)) ∙ not_so (is_compiled k work.key) is))
ended_new k b answer call apart is = refl

-- ---- two open calls

alone_by : (m : Moment) (call : OpenCall) (other : ℕ)
    → ((that : OpenCall) → (other == call.begin.n) ≡ false → m.calls other ≡ Some that
    → compiles_another call.begin.call that ≡ true) → compiles_alone m call other ≡ true
alone_by m call other each = by (other == call.begin.n) refl (m.calls other) refl
  where
    by : (b : Bool) → (other == call.begin.n) ≡ b → (that : Option OpenCall) → m.calls other ≡ that
        → compiles_alone m call other ≡ true
    by true same that is =
        λ j. implies (not (same j)) (where_any (compiles_another call.begin.call) (m.calls other))
    by false apart (Some that) is =
        (λ j. implies (not (apart j)) (where_any (compiles_another call.begin.call) (is j))) ∙ each that apart is
    by false apart None is =
        λ j. implies (not (apart j)) (where_any (compiles_another call.begin.call) (is j))

alone_of : (m : Moment) (call : OpenCall) (other : ℕ) (that : OpenCall) → compiles_alone m call other ≡ true
    → (other == call.begin.n) ≡ false → m.calls other ≡ Some that → compiles_another call.begin.call that ≡ true
alone_of m call other that alone apart is =
    sym (λ j. implies (not (apart j)) (where_any (compiles_another call.begin.call) (is j))) ∙ alone

another_as : (call : Call) (that it : OpenCall) → it.begin ≡ that.begin → compiles_another call it ≡ true
    → compiles_another call that ≡ true
another_as (calls.CompilePackage vm work deps) that it same is =
    sym (λ j. not (compiles work.key (same j).call)) ∙ is
another_as call that it same is = refl

-- ---- entries

module _ (m : Moment) (h : KnownFacts m) where
  number_of : (n : ℕ) (call : OpenCall) → m.calls n ≡ Some call → (1 ≤ n) × (n ≤ m.known.last_call)
  number_of n call is =
      let some : is_some (m.calls n) ≡ true = ap is_some is in
      (grind (arith, h.numbers.past n, some), grind (arith, h.numbers.past n, some))

  -- no open call compiles the key
  none_compiles : (key : Key) → is_compiling m key ≡ false → (n : ℕ) (call : OpenCall) → m.calls n ≡ Some call
      → compiles key call.begin.call ≡ false
  none_compiles key none n call is =
      sym (λ j. holds (λ (it : OpenCall). compiles key it.begin.call) (is j))
      ∙ none_to (λ n. holds (λ (it : OpenCall). compiles key it.begin.call) (m.calls n)) m.known.last_call n none
      (number_of n call is).0 (number_of n call is).1

  module _ (b : Begin) (may : Begins m b) where
    -- the call that begins, beside one that is open
    new_beside : (other : ℕ) (that : OpenCall) → m.calls other ≡ Some that → BegunKey m b.call
        → compiles_another b.call that ≡ true
    new_beside other that is (nothing none) = another_where_none b.call that none
    new_beside other that is (key_of vm work deps call_is fresh free) =
        sym (λ j. compiles_another (call_is j) that) ∙ ap not (none_compiles work.key free other that is)

    -- .. and the other way round
    beside_new : (n : ℕ) (call : OpenCall) → m.calls n ≡ Some call → BegunKey m b.call
        → compiles_another call.begin.call (record { begin = b; did = None }) ≡ true
    beside_new n call is begun = by call.begin.call begun refl
      where
        by : (its : Call) → BegunKey m b.call → call.begin.call ≡ its
            → compiles_another its (record { begin = b; did = None }) ≡ true
        by (calls.CompilePackage vm work deps) (nothing none) its = ap not (compiles_none work.key b.call none)
        by (calls.CompilePackage vm work deps) (key_of v key_work needs call_is fresh free) its =
            ap not
            (sym (λ j. compiles work.key (call_is j))
            ∙ flipped work.key key_work.key
            (sym (λ j. compiles key_work.key (its j)) ∙ none_compiles key_work.key free n call is))
        by other begun its = refl

    begun_alone : (n : ℕ) (call : OpenCall) → at eqb b.n (Some (record { begin = b; did = None })) m.calls n ≡ Some call
        → (other : ℕ) → compiles_alone (noting m (entries.Begin b)) call other ≡ true
    begun_alone n call is other =
        alone_by (noting m (entries.Begin b)) call other
        (λ that apart that_is. by that apart (eqb b.n n) refl is (eqb b.n other) refl that_is)
      where
        begin_of : (it : OpenCall) → Some (record { begin = b; did = None }) ≡ Some it → b ≡ it.begin
        begin_of it is = let same : record { begin = b; did = None } ≡ it = cc in ap (λ (x : OpenCall). x.begin) same

        by : (that : OpenCall) → (other == call.begin.n) ≡ false → (c : Bool) → eqb b.n n ≡ c
            → (if c then Some (record { begin = b; did = None }) else m.calls n) ≡ Some call → (d : Bool)
            → eqb b.n other ≡ d
            → (if d then Some (record { begin = b; did = None }) else m.calls other) ≡ Some that
            → compiles_another call.begin.call that ≡ true
        by that apart true one is true two that_is =
            absurd
            (false≢true
            (sym apart
            ∙ eq-eqb other call.begin.n (sym (eqb-true b.n other two) ∙ ap (λ (x : Begin). x.n) (begin_of call is))))
        by that apart true one is false two that_is =
            sym (λ j. compiles_another (begin_of call is j).call that)
            ∙ new_beside other that that_is (begun_key m b may)
        by that apart false one is true two that_is =
            another_as call.begin.call that (record { begin = b; did = None }) (begin_of that that_is)
            (beside_new n call is (begun_key m b may))
        by that apart false one is false two that_is =
            alone_of m call other that ((h.calls n call is).compiles_alone other) apart that_is

  begun_new : (b : Begin) → Begins m b → (n : ℕ) (call : OpenCall)
      → at eqb b.n (Some (record { begin = b; did = None })) m.calls n ≡ Some call
      → compiles_new (learn m.known (entries.Begin b)) call.begin.call ≡ true
  begun_new b may n call is = by (eqb b.n n) refl is
    where
      fresh_key : BegunKey m b.call → compiles_new m.known b.call ≡ true
      fresh_key (nothing none) = new_where_none m.known b.call none
      fresh_key (key_of vm work deps call_is fresh free) =
          sym (λ j. compiles_new m.known (call_is j)) ∙ ap not fresh

      same : (call : Call) → compiles_new (learn m.known (entries.Begin b)) call ≡ compiles_new m.known call
      same call =
          new_as m.known (learn m.known (entries.Begin b)) call (same_begun b b.owner m.known).digest

      by : (c : Bool) → eqb b.n n ≡ c
          → (if c then Some (record { begin = b; did = None }) else m.calls n) ≡ Some call
          → compiles_new (learn m.known (entries.Begin b)) call.begin.call ≡ true
      by true one is =
          let begin : b ≡ call.begin =
          (let it : record { begin = b; did = None } ≡ call = cc in ap (λ (x : OpenCall). x.begin) it) in
          same call.begin.call ∙ sym (λ j. compiles_new m.known (begin j).call) ∙ fresh_key (begun_key m b may)
      by false one is = same call.begin.call ∙ (h.calls n call is).compiles_new

  -- an answer to another call
  ended_other : (e : End) → EndsCall e (m.calls e.n) → (n : ℕ) (call : OpenCall) → m.calls n ≡ Some call
      → (e.n == n) ≡ false → compiles_new (learn m.known (entries.End e)) call.begin.call ≡ true
  ended_other e may n call is apart = by (m.calls e.n) refl may
    where
      differs : (e.n == call.begin.n) ≡ false
      differs = (λ j. e.n == (h.calls n call is).number j) ∙ apart

      another : (that : OpenCall) (its : Call) → call.begin.call ≡ its → compiles_another its that ≡ true
          → where_any (λ (key : Key). not (compiles key that.begin.call)) (key_compiled its) ≡ true
      another that (calls.CompilePackage vm work deps) its is = is
      another that call its is = refl

      by : (that : Option OpenCall) → m.calls e.n ≡ that → EndsCall e that
          → compiles_new (learn m.known (entries.End e)) call.begin.call ≡ true
      by (Some that) open_now ends =
          (λ j. compiles_new (call_ended e.answer ((h.calls e.n that open_now).begun j) m.known) call.begin.call)
          ∙ ended_new m.known that.begin e.answer call.begin.call
          (another that call.begin.call refl
          (alone_of m call e.n that ((h.calls n call is).compiles_alone e.n) differs open_now))
          (h.calls n call is).compiles_new
      by None open_now ends = absurd ends

new_note : (outside : Outside) (m : Moment) → KnownFacts m → (e : Entry) → MayNote outside m e → AreCompiledNew (noting m e)
new_note outside m h (entries.Begin b) may n call is = begun_new m h b may n call is
new_note outside m h (entries.End e) may n call is = by (eqb e.n n) refl is
  where
    by : (c : Bool) → eqb e.n n ≡ c → (if c then None else m.calls n) ≡ Some call
        → compiles_new (learn m.known (entries.End e)) call.begin.call ≡ true
    by true same now = absurd cc
    by false other now = ended_other m h e may n call now other
new_note outside m h (entries.Snapshot s) may n call is = absurd may
new_note outside m h entry may n call is =
    new_as m.known (learn m.known entry) call.begin.call (same_digest outside m entry may refl)
    ∙ (h.calls n call is).compiles_new

alone_note : (outside : Outside) (m : Moment) → KnownFacts m → (e : Entry) → MayNote outside m e
    → AreCompiledAlone (noting m e)
alone_note outside m h (entries.Begin b) may n call is other = begun_alone m h b may n call is other
alone_note outside m h (entries.End e) may n call is other =
    alone_by (noting m (entries.End e)) call other
    (λ that apart that_is. by that apart (eqb e.n n) is (eqb e.n other) that_is)
  where
    by : (that : OpenCall) → (other == call.begin.n) ≡ false → (c : Bool)
        → (if c then None else m.calls n) ≡ Some call → (d : Bool) → (if d then None else m.calls other) ≡ Some that
        → compiles_another call.begin.call that ≡ true
    by that apart true is d that_is = absurd cc
    by that apart false is true that_is = absurd cc
    by that apart false is false that_is =
        alone_of m call other that ((h.calls n call is).compiles_alone other) apart that_is
alone_note outside m h (entries.Snapshot s) may n call is other = absurd may
alone_note outside m h entry may n call is other = (h.calls n call is).compiles_alone other

-- ---- moves

-- what the cloud did of an open call leaves how it began
record WasOpen (m : Moment) (n : ℕ) (call : OpenCall) : Type 0 where
  it : OpenCall
  was : m.calls n ≡ Some it
  same : it.begin ≡ call.begin

was_open : (m : Moment) (d : Did) (n : ℕ) (call : OpenCall)
    → at eqb d.n (performed_call d (m.calls d.n)) m.calls n ≡ Some call → WasOpen m n call
was_open m d n call is = by (eqb d.n n) refl (m.calls d.n) refl is
  where
    by : (c : Bool) → eqb d.n n ≡ c → (that : Option OpenCall) → m.calls d.n ≡ that
        → (if c then performed_call d that else m.calls n) ≡ Some call → WasOpen m n call
    by true equal (Some that) that_is is = record {
      it = that;
      was = sym (λ j. m.calls (eqb-true d.n n equal j)) ∙ that_is;
      same =
          (let done : record that { did = Some d } ≡ call = cc in ap (λ (x : OpenCall). x.begin) done);
    }
    by true equal None that_is is = absurd cc
    by false other that that_is is = record { it = call; was = is; same = refl }

new_move : (outside : Outside) (m : Moment) (move : Move) → IsPermitted outside m move → KnownFacts m
    → AreCompiledNew (later m move)
new_move outside m (moves.Note e) may h n call is = new_note outside m h e may.2 n call is
new_move outside m (moves.Did d) may h n call is =
    let it : WasOpen m n call = was_open m d n call is in
    sym (λ j. compiles_new m.known (it.same j).call) ∙ (h.calls n it.it it.was).compiles_new
new_move outside m (moves.Stop s) may h n call is = absurd cc
new_move outside m move may h n call is = (h.calls n call is).compiles_new

alone_move : (outside : Outside) (m : Moment) (move : Move) → IsPermitted outside m move → KnownFacts m
    → AreCompiledAlone (later m move)
alone_move outside m (moves.Note e) may h n call is other = alone_note outside m h e may.2 n call is other
alone_move outside m (moves.Did d) may h n call is other =
    alone_by (later m (moves.Did d)) call other (λ that apart that_is. by that apart (was_open m d other that that_is))
  where
    it : WasOpen m n call
    it = was_open m d n call is

    by : (that : OpenCall) → (other == call.begin.n) ≡ false → WasOpen m other that
        → compiles_another call.begin.call that ≡ true
    by that apart was =
        sym (λ j. compiles_another (it.same j).call that)
        ∙ another_as it.it.begin.call that was.it was.same
        (alone_of m it.it other was.it ((h.calls n it.it it.was).compiles_alone other)
        ((λ j. other == (it.same j).n) ∙ apart) was.was)
alone_move outside m (moves.Stop s) may h n call is other = absurd cc
alone_move outside m move may h n call is other = (h.calls n call is).compiles_alone other

pub new_kept : (outside : Outside) (m : Moment) (move : Move) → IsPermitted outside m move → KnownFacts m
    → AreCompiledNew (later m move)
new_kept outside m move may h = new_move outside m move may h

pub alone_kept : (outside : Outside) (m : Moment) (move : Move) → IsPermitted outside m move → KnownFacts m
    → AreCompiledAlone (later m move)
alone_kept outside m move may h = alone_move outside m move may h
