-- What each move of a permitted history does, where the facts on what is known hold before it.
use Rattle.std.proofs.Common.{◌≡◌, ◌∙◌, ℕ, zero, suc, Bool, true, false, ◌&&◌, ◌||◌, not, Option, Some, None, List, [], ◌∷◌}
use Rattle.std.proofs.Common.{◌++◌, refl, sym, arith, inl, inr}
use Rattle.std.specs.Prelude.{◌⊎◌, if◌then◌else◌, is_some, nat_le}
use Rattle.std.specs.List.{list_all}
use Rattle.std.proofs.lemmas.Bool.{and_from, and_parts, false≢true, or_right}
use Rattle.bosh_base.specs.Cloud.{numbers_to}
use Rattle.bosh_base.specs.declared.answer.Answer.{Answer}
use Rattle.bosh_base.specs.declared.answer.Answer.TheVariants as answers
use Rattle.bosh_base.specs.declared.call.Call.{Call}
use Rattle.bosh_base.specs.declared.call.Call.TheVariants as calls
use Rattle.bosh_base.specs.declared.entry.Begin.{Begin}
use Rattle.bosh_base.specs.declared.entry.End.{End}
use Rattle.bosh_base.specs.declared.entry.Entry.{Entry}
use Rattle.bosh_base.specs.declared.entry.Entry.TheVariants as entries
use Rattle.bosh_base.specs.declared.goal.Goal.{Goal}
use Rattle.bosh_base.specs.declared.moves.Move.{Move}
use Rattle.bosh_base.specs.declared.moves.Move.TheVariants as moves
use Rattle.bosh_base.specs.declared.owner.Owner.{Owner}
use Rattle.bosh_base.specs.declared.owner.Owner.TheVariants.{Instance, Compile, Disk}
use Rattle.bosh_base.specs.declared.row.Vm.{Vm}
use Rattle.bosh_base.specs.declared.snapshot.Orphan.{Orphan}
use Rattle.bosh_history.specs.CompileKeys.{compiles_new, compiles_once, records_new}
use Rattle.bosh_history.specs.Each.{EachMove, durable_well, noted_well}
use Rattle.bosh_history.specs.Goals.{has_room, is_waiting}
use Rattle.bosh_history.specs.Held.{is_open}
use Rattle.bosh_history.specs.Items.{is_item, is_to_ping}
use Rattle.bosh_history.specs.Known.{Known}
use Rattle.bosh_history.specs.Links.{AreLinksKeptFrom, are_links_kept, is_kept}
use Rattle.bosh_history.specs.Moments.{Moment, OpenCall, durable_entry, later}
use Rattle.bosh_history.specs.Notes.{EndsCall, MayNote, Outside}
use Rattle.bosh_history.specs.Openings.{ties_of}
use Rattle.bosh_history.specs.Permitted.{IsPermitted, IsRunFrom, MayKeep}
use Rattle.bosh_history.specs.Phases.{ends_in_phase, in_phase}
use Rattle.bosh_history.specs.Recovered.{IsRecoveredFrom, follows, may_follow}
use Rattle.bosh_history.specs.Rolling.{are_within_limits, is_in_turn, is_within_limit, rolls, rolls_on}
use Rattle.bosh_compile.proofs.KeyLemmas.{same_key_decides}
use Rattle.bosh_compile.specs.Readiness.{same_key}
use Rattle.bosh_history.specs.Slots.{is_compiled, keys_of}
use Rattle.bosh_history.specs.Steps.{call_now, disk_call, is_compiling, want_of, work_for}
use Rattle.bosh_history.specs.Words.{is_among}
use Rattle.bosh_rows.proofs.SameLemmas.{same_inst_decides}
use Rattle.bosh_rows.specs.CallOf.{next_call}
use Rattle.bosh_rows.specs.Same.{same_inst}
use Rattle.bosh_rows.specs.Standing.{same_truth}
use Rattle.std.specs.Option.{option_map}
use Rattle.laws_facts.proofs.CurrentLemmas.{done_works}
use Rattle.laws_facts.proofs.WorkLemmas.{begun_works}
use Rattle.laws_facts.specs.KnownFacts.{KnownFacts}
use Rattle.laws_facts.specs.OpenCalls as facts
use Rattle.laws_facts.specs.OpenCalls.{is_asked}
use Rattle.laws_facts.specs.Tasks.{is_open_task}
use Rattle.laws_items.proofs.ItemLemmas.{asks}
use Rattle.laws_items.proofs.ListLemmas.{all_from, find_in, is_among_in}
use Rattle.laws_items.proofs.ListedLemmas.{implied}
use Rattle.laws_items.proofs.PingLemmas.{is_compilation, plain_call}
use Rattle.laws_items.proofs.SlotCalls.{SlotCall, compiles, creates, deletes, finds, looks, slot_call}
use Rattle.laws_items.specs.Lists.{IsIn}
use Rattle.laws_row_facts.specs.Calls.{is_ping}
use Rattle.laws_runs.proofs.KeptLemmas.{facts_kept}
use Rattle.laws_runs.proofs.PhaseLemmas.{call_comes, item_compiled, item_works}

-- ---- along a run

pub each_along : (outside : Outside) (test : Moment → Move → Bool)
    → ((m : Moment) (move : Move) → IsPermitted outside m move → KnownFacts m → test m move ≡ true)
    → (m : Moment) (moves : List Move) → IsRunFrom outside m moves → KnownFacts m → EachMove test m moves
each_along outside test each m [] run h = tt
each_along outside test each m (move ∷ moves) run h = (
  each m move run.0 h,
  each_along outside test each (later m move) moves run.1 (facts_kept outside m move run.0 h),
)

-- what holds of each entry that may be noted holds of each that is, and of each that a stop keeps
pub durable_each : (outside : Outside) (m : Moment) (test : Moment → Entry → Bool)
    → ((e : Entry) → may_follow m e ≡ true → MayNote outside m e → test m e ≡ true)
    → (move : Move) → IsPermitted outside m move → durable_well test m move ≡ true
durable_each outside m test each (moves.Note e) may = each e may.1 may.2
durable_each outside m test each (moves.Stop s) may = by s.kept may.kept
  where
    by : (kept : Option Entry) → MayKeep outside m kept → durable_well test m (moves.Stop (record s { kept = kept })) ≡ true
    by (Some e) also = each e also.1 also.0
    by None also = refl
durable_each outside m test each move may = refl

noted_each : (outside : Outside) (m : Moment) (test : Known → Entry → Bool)
    → ((e : Entry) → may_follow m e ≡ true → MayNote outside m e → test m.known e ≡ true)
    → (move : Move) → IsPermitted outside m move → noted_well test m move ≡ true
noted_each outside m test each (moves.Note e) may = each e may.1 may.2
noted_each outside m test each (moves.Stop s) may = by s.kept may.kept
  where
    by : (kept : Option Entry) → MayKeep outside m kept → noted_well test m (moves.Stop (record s { kept = kept })) ≡ true
    by (Some e) also = each e also.1 also.0
    by None also = refl
noted_each outside m test each move may = refl

-- ---- recovered: from the rule alone

follows_each : (outside : Outside) (m : Moment) (move : Move) → IsPermitted outside m move
    → follows m (durable_entry move) ≡ true
follows_each outside m (moves.Note e) may = may.1
follows_each outside m (moves.Stop s) may = by s.kept may.kept
  where
    by : (kept : Option Entry) → MayKeep outside m kept → follows m kept ≡ true
    by (Some e) also = also.1
    by None also = refl
follows_each outside m move may = refl

pub recovered_along : (outside : Outside) (m : Moment) (moves : List Move) → IsRunFrom outside m moves
    → IsRecoveredFrom m moves
recovered_along outside m [] run = tt
recovered_along outside m (move ∷ moves) run =
    (follows_each outside m move run.0, recovered_along outside (later m move) moves run.1)

-- ---- links

links_at : (m : Moment) → KnownFacts m → are_links_kept m.known ≡ true
links_at m h = all_from (λ dep. list_all (is_kept m.known dep) (ties_of (m.known.goal dep))) m.known.deployments each
  where
    each : (dep : List ℕ) → IsIn dep m.known.deployments
        → list_all (is_kept m.known dep) (ties_of (m.known.goal dep)) ≡ true
    each dep there = by (m.known.goal dep) refl
      where
        by : (goal : Option Goal) → m.known.goal dep ≡ goal → list_all (is_kept m.known dep) (ties_of goal) ≡ true
        by (Some goal) is = (h.goals dep goal is).offered_when_done
        by None is = refl

pub links_along : (outside : Outside) (m : Moment) (moves : List Move) → IsRunFrom outside m moves → KnownFacts m
    → AreLinksKeptFrom m moves
links_along outside m [] run h = links_at m h
links_along outside m (move ∷ moves) run h =
    (links_at m h, links_along outside (later m move) moves run.1 (facts_kept outside m move run.0 h))

-- ---- rolling

in_parts : {X : Type 0} (x : X) (xs ys : List X) → IsIn x (xs ++ ys) → IsIn x xs ⊎ IsIn x ys
in_parts x [] ys is = inr is
in_parts x (y ∷ xs) ys (inl same) = inl (inl same)
in_parts x (y ∷ xs) ys (inr is) = by (in_parts x xs ys is)
  where
    by : IsIn x xs ⊎ IsIn x ys → IsIn x (y ∷ xs) ⊎ IsIn x ys
    by (inl is) = inl (inr is)
    by (inr is) = inr is

record IsUpTo (n last : ℕ) : Type 0 where
  low : nat_le 1 n ≡ true
  high : nat_le n last ≡ true

up_to : (n last : ℕ) → IsIn n (numbers_to last) → IsUpTo n last
up_to n zero there = absurd there
up_to n (suc last) there = by (in_parts n (numbers_to last) (suc last ∷ []) there) (up_to n last)
  where
    by : IsIn n (numbers_to last) ⊎ IsIn n (suc last ∷ []) → (IsIn n (numbers_to last) → IsUpTo n last)
        → IsUpTo n (suc last)
    by (inl before) rest =
        let it : IsUpTo n last = rest before in
        record { low = it.low; high = grind (arith, it.high) }
    by (inr (inl same)) rest = record { low = grind (arith, same); high = grind (arith, same) }
    by (inr (inr none)) rest = absurd none

pub limits_at : (m : Moment) → KnownFacts m → are_within_limits m.known ≡ true
limits_at m h =
    all_from (λ t. not (is_open m.known t) || list_all (is_within_limit (m.known.task t)) (m.known.task t).changed)
    (numbers_to m.known.tasks) each
  where
    each : (t : ℕ) → IsIn t (numbers_to m.known.tasks)
        → (not (is_open m.known t) || list_all (is_within_limit (m.known.task t)) (m.known.task t).changed) ≡ true
    each t there = by (is_open m.known t) refl
      where
        it : IsUpTo t m.known.tasks
        it = up_to t m.known.tasks there

        by : (open_now : Bool) → is_open m.known t ≡ open_now
            → (not open_now || list_all (is_within_limit (m.known.task t)) (m.known.task t).changed) ≡ true
        by false none = refl
        by true is =
            all_from (is_within_limit (m.known.task t)) (m.known.task t).changed
            (λ i changes. implied (is_open_task m.known t && is_among same_inst i (m.known.task t).changed)
            (is_within_limit (m.known.task t) i) ((h.tasks t).within_limits i)
            (and_from (is_open_task m.known t) _
            (and_from (nat_le 1 t) _ it.low (and_from (nat_le t m.known.tasks) _ it.high is))
            (is_among_in same_inst i (m.known.task t).changed ((same_inst_decides i i).1 refl) changes)))

rolls_note : (outside : Outside) (m : Moment) (e : Entry) → may_follow m e ≡ true → MayNote outside m e
    → rolls m.known e ≡ true
rolls_note outside m (entries.UpdBegin u) follows may =
    let parts : (not (is_some (m.known.task u.task).failed) ≡ true) × _ =
    and_parts (not (is_some (m.known.task u.task).failed)) _ may.may_begin in
    and_from (is_in_turn (m.known.task u.task) u.inst) _
    (or_right (not (is_waiting ((m.known.task u.task).upd u.inst))) _
    (and_parts (has_room (m.known.task u.task) u.inst) _ parts.1).1)
    parts.0
rolls_note outside m (entries.UpdDone u) follows may =
    or_right (not (is_waiting ((m.known.task u.task).upd u.inst))) _ may.canaries_first
rolls_note outside m e follows may = refl

pub rolls_each : (outside : Outside) (m : Moment) (move : Move) → IsPermitted outside m move → KnownFacts m
    → rolls_on m move ≡ true
rolls_each outside m move may h =
    and_from (noted_well rolls m move) _ (noted_each outside m rolls (rolls_note outside m) move may)
    (limits_at (later m move) (facts_kept outside m move may h))

-- ---- compile keys

not_compiling : (m : Moment) (call : Call) → is_compilation call ≡ false → compiles_new m call ≡ true
not_compiling m (calls.CompilePackage v work deps) none = absurd (false≢true (sym none))
not_compiling m call none = refl

module _ (outside : Outside) (m : Moment) (h : KnownFacts m) where
  begins_new : (b : Begin) (owner : Owner) → call_now m b.task owner ≡ Some b.call → compiles_new m b.call ≡ true
  begins_new b (Instance i) is = by (is_to_ping (m.known.task b.task) i) (m.known.row i).vm is
    where
      by : (ping : Bool) (vm : Option Vm)
          → (if ping then option_map (λ (it : Vm). calls.Ping it.vm) vm
          else next_call (want_of (m.known.task b.task) i) (m.known.row i)) ≡ Some b.call
          → compiles_new m b.call ≡ true
      by true (Some it) is = let same : calls.Ping it.vm ≡ b.call = cc in sym (λ j. compiles_new m (same j))
      by true None is = absurd cc
      by false vm is =
          not_compiling m b.call (plain_call (want_of (m.known.task b.task) i) (m.known.row i) b.call is).1
  begins_new b (Compile task s) is = by (slot_call m b.task task s b.call is)
    where
      by : SlotCall m b.task task s b.call → compiles_new m b.call ≡ true
      by (creates work make own none next at_make is) = sym (λ j. compiles_new m (is j))
      by (deletes it vm at_slot has none done is) = sym (λ j. compiles_new m (is j))
      by (compiles it vm key work own at_slot has none keyed fresh free of_key is) =
          let same : work.key ≡ key = key_of of_key in
          sym (λ j. compiles_new m (is j))
          ∙ and_from (not (is_compiled m.known work.key)) _
          ((λ j. not (is_compiled m.known (same j))) ∙ (λ j. not (fresh j)))
          ((λ j. not (is_compiling m (same j))) ∙ (λ j. not (free j)))
        where
          key_of : work_for (m.known.task b.task).goal key ≡ Some work → work.key ≡ key
          key_of found =
              (same_key_decides work.key key).0
              (find_in (λ work. same_key work.key key) work (keys_of (m.known.task b.task).goal) found).1
      by (finds it doubt other at_slot has doubted is) = sym (λ j. compiles_new m (is j))
      by (looks it vm doubt other at_slot has doubted is) = sym (λ j. compiles_new m (is j))
  begins_new b (Disk d) is = by (m.known.orphan d) is
    where
      of : (doubt : Bool) → (if doubt then calls.HasDisk d else calls.DeleteDisk d) ≡ b.call
          → compiles_new m b.call ≡ true
      of true same = sym (λ j. compiles_new m (same j))
      of false same = sym (λ j. compiles_new m (same j))

      by : (it : Option Orphan) → option_map (disk_call d) it ≡ Some b.call → compiles_new m b.call ≡ true
      by (Some it) is = of (is_some it.doubt) (let same : disk_call d it ≡ b.call = cc in same)
      by None is = absurd cc

  ends_new : (e : End) → EndsCall e (m.calls e.n) → records_new m.known (m.known.begun e.n) e.answer ≡ true
  ends_new e may = by (m.calls e.n) refl may
    where
      of : (call : Call) (b : Begin) (answer : Answer) → b.call ≡ call → facts.compiles_new m.known call ≡ true
          → records_new m.known (Some (record b { call = call })) answer ≡ true
      of (calls.CompilePackage v work deps) b (answers.Built digest) is new = new
      of call b (answers.Built digest) is new = refl
      of call b answer is new = refl

      by : (that : Option OpenCall) → m.calls e.n ≡ that → EndsCall e that
          → records_new m.known (m.known.begun e.n) e.answer ≡ true
      by (Some that) is ends =
          (λ j. records_new m.known ((h.calls e.n that is).begun j) e.answer)
          ∙ of that.begin.call that.begin e.answer refl (h.calls e.n that is).compiles_new
      by None is ends = absurd ends

  compiles_note : (e : Entry) → may_follow m e ≡ true → MayNote outside m e → compiles_once m e ≡ true
  compiles_note (entries.Begin b) follows may = begins_new b b.owner may.is_call
  compiles_note (entries.End e) follows may = ends_new e may
  compiles_note (entries.UpdBegin u) follows may =
      item_compiled m h u.task (done_works m u.task follows may.is_open) u.inst may.is_item may.is_asked may.is_changed
  compiles_note (entries.UpdDone u) follows may =
      item_compiled m h u.task (done_works m u.task follows may.is_open) u.inst may.is_item may.is_asked
      (and_parts (is_among same_inst u.inst (m.known.task u.task).changed) _ may.is_changed).0
  compiles_note e follows may = refl

  -- ---- phases

  phases_note : (e : Entry) → may_follow m e ≡ true → MayNote outside m e → in_phase m.known e ≡ true
  phases_note (entries.Begin b) follows may =
      call_comes m h b.task (begun_works m b follows may) b.owner b.call may.is_item
      (asks outside m h b follows may b.owner may.is_call)
  phases_note (entries.End e) follows may = by (m.calls e.n) refl may
    where
      by : (that : Option OpenCall) → m.calls e.n ≡ that → EndsCall e that
          → ends_in_phase m.known (m.known.begun e.n) ≡ true
      by (Some that) is ends =
          let parts : (is_item m.known that.begin.task that.begin.owner ≡ true)
          × (same_truth (is_ping that.begin.call) (is_asked (m.known.task that.begin.task) that.begin.owner) ≡ true) =
          and_parts (is_item m.known that.begin.task that.begin.owner) _ (h.calls e.n that is).of_item in
          (λ j. ends_in_phase m.known ((h.calls e.n that is).begun j))
          ∙ call_comes m h that.begin.task (h.calls e.n that is).works that.begin.owner that.begin.call parts.0 parts.1
      by None is ends = absurd ends
  phases_note (entries.UpdBegin u) follows may =
      item_works m h u.task (done_works m u.task follows may.is_open) u.inst may.is_item may.is_asked
  phases_note (entries.UpdDone u) follows may =
      item_works m h u.task (done_works m u.task follows may.is_open) u.inst may.is_item may.is_asked
  phases_note (entries.Gone u) follows may =
      item_works m h u.task (done_works m u.task follows may.is_open) u.inst may.is_item may.is_asked
  phases_note e follows may = refl

pub compiles_each : (outside : Outside) (m : Moment) (move : Move) → IsPermitted outside m move → KnownFacts m
    → durable_well compiles_once m move ≡ true
compiles_each outside m move may h = durable_each outside m compiles_once (compiles_note outside m h) move may

pub phases_each : (outside : Outside) (m : Moment) (move : Move) → IsPermitted outside m move → KnownFacts m
    → noted_well in_phase m move ≡ true
phases_each outside m move may h = noted_each outside m in_phase (phases_note outside m h) move may
