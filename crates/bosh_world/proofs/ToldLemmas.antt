-- What had happened was told, and then a call was refused; and how the cloud refuses one.
use Rattle.std.proofs.Common.{◌≡◌, ℕ, false, Option, Some, None, Result, Ok, Err, List, [], ◌∷◌, inl, inr, sym, ◌∙◌, ap, subst, append-nil}
use Rattle.std.proofs.lemmas.Bool.{false≢true}
use Rattle.std.specs.Prelude.{IfErr}
use Rattle.bosh_asks.specs.declared.fault.BookFault.TheVariants as book
use Rattle.bosh_base.specs.Call.{method_of}
use Rattle.bosh_base.specs.History.{Extends}
use Rattle.bosh_base.specs.declared.answer.Answer.{Answer}
use Rattle.bosh_base.specs.declared.entry.Effect as effect
use Rattle.bosh_base.specs.declared.moves.Cause.{Cause}
use Rattle.bosh_base.specs.declared.moves.Cause.TheVariants as causes
use Rattle.bosh_base.specs.declared.moves.Move.TheVariants as moves
use Rattle.bosh_book.specs.Current.{IsCurrent}
use Rattle.bosh_book.specs.declared.book.Book as books
use Rattle.bosh_book.specs.declared.granted.Granted.{Granted}
use Rattle.bosh_calls.specs.Calls.{is_performable}
use Rattle.bosh_calls.specs.declared.calls.OpenCall.{OpenCall}
use Rattle.bosh_cloud.specs.CloudView.{CloudView}
use Rattle.bosh_cloud.specs.Loading.{IsKept}
use Rattle.bosh_cloud.specs.Notes.{Does}
use Rattle.bosh_cloud.specs.Performs.{MeetsFates, Spends, new_effects}
use Rattle.bosh_cloud.specs.declared.fault.CloudFault.{CloudFault}
use Rattle.bosh_cloud.specs.declared.fault.CloudFault.TheVariants as cloud
use Rattle.bosh_moves.specs.Story.{Follows, IsOf}
use Rattle.bosh_ports.specs.Faults.{NeverFalls}
use Rattle.bosh_ports.specs.Rigged.{RigState}
use Rattle.bosh_ports.specs.declared.keeper.Keeper as keeper
use Rattle.bosh_traps.specs.Traps.{decision, traps_after}
use Rattle.bosh_world.proofs.PerformLemmas.{comes_followed, halts_in_cloud}
use Rattle.bosh_world.proofs.PushLemmas.{comes_then}
use Rattle.bosh_world.specs.Faults.{cloud_fault, halt_by_cloud}
use Rattle.bosh_world.specs.Performing.{FailsInCall, HaltsInCloud, LacksMemory, RefusesToPerform, StopsIn, effect_of, traps_by}
use Rattle.bosh_world.specs.Steps.{Comes, KeepsBooks}
use Rattle.bosh_world.specs.Stopping.{EachTakes}
use Rattle.bosh_world.specs.Told.{IsPerformable}
use Rattle.bosh_world.specs.declared.fault.SiteFault.{SiteFault}
use Rattle.bosh_world.specs.declared.fault.SiteFault.TheVariants.{Book, CloudDamaged, CloudStore, Memory, NoMachine, NotRunning}
use Rattle.bosh_world.specs.declared.site.Site.{Site}

-- ---- what had happened was told before

halts_told : {K L : Type 0} {k : keeper.Ghosts K} {l : keeper.Ghosts L} (bodies : L → Option (List (List ℕ)))
    (faults : L → ℕ) (was mid now : Site K L k l) (cause : Cause) → Comes was [] mid → KeepsBooks was mid →
    HaltsInCloud bodies faults mid cause now → HaltsInCloud bodies faults was cause now
halts_told bodies faults was mid now cause comes keeps halts = record {
  ran = sym keeps.same_halt ∙ halts.ran;
  comes = comes_then was mid now (moves.Halt cause ∷ []) comes halts.comes;
  halted = halts.halted;
  effects = subst (λ (it : CloudView _). Extends it.effects now.cloud.effects) keeps.same_cloud halts.effects;
  kept = subst (λ (it : CloudView _). IsKept bodies it → IsKept bodies now.cloud) keeps.same_cloud halts.kept;
  count = subst (λ (it : CloudView _). NeverFalls (faults it.store) (faults now.cloud.store)) keeps.same_cloud halts.count;
  same_book = halts.same_book ∙ keeps.same_book;
  same_calls = halts.same_calls ∙ ap (λ cs. cs.unsettled) keeps.same_calls;
  same_opening = halts.same_opening ∙ keeps.same_opening;
}

stops_told : {K L : Type 0} {k : keeper.Ghosts K} {l : keeper.Ghosts L} (bodies : L → Option (List (List ℕ)))
    (faults : L → ℕ) (was mid now : Site K L k l) (permit : Granted) (cause : Cause) → Comes was [] mid →
    KeepsBooks was mid → StopsIn bodies faults mid permit cause now → StopsIn bodies faults was permit cause now
stops_told bodies faults was mid now permit cause comes keeps stops = record {
  firing = stops.firing;
  decides = ap (decision (method_of permit.call) permit.owner) (sym keeps.same_armed) ∙ stops.decides;
  each = subst (λ (it : books.Book (RigState _)). EachTakes bodies faults it.records stops.firing permit.n false
      was.calls.unsettled was.cloud (Some cause) now.cloud) keeps.same_book
      (subst (λ (cs : List OpenCall). EachTakes bodies faults mid.book.records stops.firing permit.n false cs was.cloud
      (Some cause) now.cloud) (ap (λ cs. cs.unsettled) keeps.same_calls)
      (subst (λ (it : CloudView _). EachTakes bodies faults mid.book.records stops.firing permit.n false
      mid.calls.unsettled it (Some cause) now.cloud) keeps.same_cloud stops.each));
  armed = stops.armed ∙ ap (traps_after (method_of permit.call) permit.owner) keeps.same_armed;
  halts = halts_told bodies faults was mid now cause comes keeps stops.halts;
}

fails_told : {K L : Type 0} {k : keeper.Ghosts K} {l : keeper.Ghosts L} (bodies : L → Option (List (List ℕ)))
    (faults : L → ℕ) (was mid now : Site K L k l) (permit : Granted) → Comes was [] mid → KeepsBooks was mid →
    FailsInCall bodies faults mid permit now → FailsInCall bodies faults was permit now
fails_told bodies faults was mid now permit comes keeps fails = record {
  unstopped = ap (decision (method_of permit.call) permit.owner) (sym keeps.same_armed) ∙ fails.unstopped;
  does = subst (λ (it : CloudView _). Does {T = Answer} bodies faults (Err cloud.StoreFault) it
      (new_effects it (effect_of permit)) now.cloud) keeps.same_cloud fails.does;
  fates = subst (λ (it : CloudView _). Spends (method_of permit.call) permit.owner it now.cloud) keeps.same_cloud
      fails.fates;
  armed = fails.armed ∙ ap (traps_after (method_of permit.call) permit.owner) keeps.same_armed;
  halts = halts_told bodies faults was mid now causes.CloudStore comes keeps fails.halts;
}

lacks_told : {K L : Type 0} {k : keeper.Ghosts K} {l : keeper.Ghosts L} (bodies : L → Option (List (List ℕ)))
    (was mid now : Site K L k l) → Comes was [] mid → KeepsBooks was mid → LacksMemory bodies mid now →
    LacksMemory bodies was now
lacks_told bodies was mid now comes keeps lacks = record {
  ran = sym keeps.same_halt ∙ lacks.ran;
  running = lacks.running;
  comes = comes_then was mid now [] comes lacks.comes;
  same_effects = lacks.same_effects ∙ ap (λ it. it.effects) keeps.same_cloud;
  same_fates = (
    lacks.same_fates.0 ∙ ap (λ it. it.dooms) keeps.same_cloud,
    lacks.same_fates.1 ∙ ap (λ it. it.fired) keeps.same_cloud,
  );
  kept = subst (λ (it : CloudView _). IsKept bodies it → IsKept bodies now.cloud) keeps.same_cloud lacks.kept;
  same_book = lacks.same_book ∙ keeps.same_book;
  same_calls = lacks.same_calls ∙ ap (λ cs. cs.unsettled) keeps.same_calls;
  same_armed = lacks.same_armed ∙ keeps.same_armed;
  same_opening = lacks.same_opening ∙ keeps.same_opening;
}

still_performable : {K L : Type 0} {k : keeper.Ghosts K} {l : keeper.Ghosts L} (was mid : Site K L k l) (permit : Granted) →
    KeepsBooks was mid → IsPerformable was permit → IsPerformable mid permit
still_performable was mid permit keeps may = (
  subst (λ (it : books.Book (RigState _)). IsCurrent it permit) (sym keeps.same_book) may.0,
  ap (λ cs. is_performable cs.unsettled permit.n) keeps.same_calls ∙ may.1,
)

refused_told : {K L : Type 0} {k : keeper.Ghosts K} {l : keeper.Ghosts L} (bodies : L → Option (List (List ℕ)))
    (faults : L → ℕ) (was mid now : Site K L k l) (permit : Granted) (fault : SiteFault) →
    was.history.is_halted ≡ false → IsPerformable was permit → Comes was [] mid → KeepsBooks was mid →
    RefusesToPerform bodies faults mid permit fault now → RefusesToPerform bodies faults was permit fault now
refused_told bodies faults was mid now permit (Book book.Stopped) running may comes keeps (inl same) =
    absurd (false≢true (sym (keeps.same_halt ∙ running) ∙ same.0))
refused_told bodies faults was mid now permit (Book book.Stopped) running may comes keeps (inr stops) =
    inr (stops_told bodies faults was mid now permit causes.Stop comes keeps stops)
refused_told bodies faults was mid now permit (Book (book.Locked task)) running may comes keeps refused =
    absurd (refused.1 (still_performable was mid permit keeps may))
refused_told bodies faults was mid now permit CloudStore running may comes keeps (inl fails) =
    inl (fails_told bodies faults was mid now permit comes keeps fails)
refused_told bodies faults was mid now permit CloudStore running may comes keeps (inr stops) =
    inr (stops_told bodies faults was mid now permit causes.CloudStore comes keeps stops)
refused_told bodies faults was mid now permit Memory running may comes keeps lacks =
    lacks_told bodies was mid now comes keeps lacks
refused_told bodies faults was mid now permit (Book book.StoreFault) running may comes keeps refused = absurd refused
refused_told bodies faults was mid now permit (Book book.Memory) running may comes keeps refused = absurd refused
refused_told bodies faults was mid now permit (Book book.Full) running may comes keeps refused = absurd refused
refused_told bodies faults was mid now permit (Book (book.Damaged place)) running may comes keeps refused = absurd refused
refused_told bodies faults was mid now permit (Book (book.Differs name)) running may comes keeps refused = absurd refused
refused_told bodies faults was mid now permit (Book (book.NoDeployment name)) running may comes keeps refused = absurd refused
refused_told bodies faults was mid now permit (Book (book.NoInstance inst)) running may comes keeps refused = absurd refused
refused_told bodies faults was mid now permit (Book (book.NoDisk disk)) running may comes keeps refused = absurd refused
refused_told bodies faults was mid now permit (Book (book.NotOrphaned disk)) running may comes keeps refused = absurd refused
refused_told bodies faults was mid now permit (Book (book.Goal other)) running may comes keeps refused = absurd refused
refused_told bodies faults was mid now permit (Book book.Limit) running may comes keeps refused = absurd refused
refused_told bodies faults was mid now permit (Book (book.Consumed by)) running may comes keeps refused = absurd refused
refused_told bodies faults was mid now permit (CloudDamaged position) running may comes keeps refused = absurd refused
refused_told bodies faults was mid now permit (NotRunning inst) running may comes keeps refused = absurd refused
refused_told bodies faults was mid now permit (NoMachine inst) running may comes keeps refused = absurd refused

pub refused_told_if : {K L T : Type 0} {k : keeper.Ghosts K} {l : keeper.Ghosts L} (bodies : L → Option (List (List ℕ)))
    (faults : L → ℕ) (was mid now : Site K L k l) (permit : Granted) (result : Result T (Granted × SiteFault)) →
    was.history.is_halted ≡ false → IsPerformable was permit → Comes was [] mid → KeepsBooks was mid →
    IfErr result (λ back. (back.0 ≡ permit) × RefusesToPerform bodies faults mid permit back.1 now) →
    IfErr result (λ back. (back.0 ≡ permit) × RefusesToPerform bodies faults was permit back.1 now)
refused_told_if bodies faults was mid now permit (Ok value) running may comes keeps refused = tt
refused_told_if bodies faults was mid now permit (Err back) running may comes keeps refused =
    (refused.0, refused_told bodies faults was mid now permit back.1 running may comes keeps refused.1)

-- ---- the cloud refuses a call

-- the call of a permit, by its parts
pub effect_is : (permit : Granted) (e : effect.Effect) → e.n ≡ permit.n → e.owner ≡ permit.owner → e.dep ≡ permit.dep →
    e.call ≡ permit.call → e ≡ effect_of permit
effect_is permit e n owner dep call = λ i. record { n = n i; owner = owner i; dep = dep i; call = call i }

-- a trap did not stop the director in it
pub cloud_refuses : {K L : Type 0} {k : keeper.Ghosts K} {l : keeper.Ghosts L} (bodies : L → Option (List (List ℕ)))
    (faults : L → ℕ) (was now : Site K L k l) (permit : Granted) (e : effect.Effect) (fault : CloudFault) (told : SiteFault) →
    e.n ≡ permit.n → e.owner ≡ permit.owner → e.dep ≡ permit.dep → e.call ≡ permit.call → told ≡ cloud_fault fault →
    Does {T = Answer} bodies faults (Err fault) was.cloud (new_effects was.cloud e) now.cloud →
    MeetsFates {T = Answer} (Err fault) (method_of e.call) e.owner was.cloud now.cloud → was.history.is_halted ≡ false →
    IsOf was.history was.book.journal.entries → was.cloud.is_stale ≡ false →
    decision (method_of permit.call) permit.owner was.traps.items ≡ None →
    now.traps.items ≡ traps_by fault (method_of permit.call) permit.owner was.traps.items → now.book ≡ was.book →
    now.calls.unsettled ≡ was.calls.unsettled → now.opening ≡ was.opening →
    Follows was.history was.book.journal.entries now.cloud.effects (halt_by_cloud fault) now.history →
    RefusesToPerform bodies faults was permit told now
cloud_refuses {k = k} {l = l} bodies faults was now permit e fault told n owner dep call is does fates running of whole
    unstopped armed same_book same_calls same_opening follows =
    subst (λ (f : SiteFault). RefusesToPerform {k = k} {l = l} bodies faults was permit f now) (sym is)
    (each fault
    (subst (λ (it : effect.Effect). Does {T = Answer} bodies faults (Err fault) was.cloud (new_effects was.cloud it)
    now.cloud) (effect_is permit e n owner dep call) does)
    (subst (λ (it : effect.Effect). MeetsFates {T = Answer} (Err fault) (method_of it.call) it.owner was.cloud now.cloud)
    (effect_is permit e n owner dep call) fates)
    armed follows)
  where
    each : (f : CloudFault) →
        Does {T = Answer} bodies faults (Err f) was.cloud (new_effects was.cloud (effect_of permit)) now.cloud →
        MeetsFates {T = Answer} (Err f) (method_of permit.call) permit.owner was.cloud now.cloud →
        now.traps.items ≡ traps_by f (method_of permit.call) permit.owner was.traps.items →
        Follows was.history was.book.journal.entries now.cloud.effects (halt_by_cloud f) now.history →
        RefusesToPerform {k = k} {l = l} bodies faults was permit (cloud_fault f) now
    each cloud.StoreFault done meets seen told_so = inl (record {
      unstopped = unstopped;
      does = done;
      fates = meets;
      armed = seen;
      halts = halts_in_cloud bodies faults was now causes.CloudStore of running (record {
        effects = ([], done.notes.2 ∙ sym (append-nil was.cloud.effects));
        kept = done.kept;
        count = done.count;
      }) same_book same_calls same_opening told_so;
    })
    each cloud.Memory done meets seen told_so = record {
      ran = running;
      running = told_so.halted;
      comes = comes_followed was now of running same_book told_so;
      same_effects = done.notes.2;
      same_fates = meets;
      kept = done.kept;
      same_book = same_book;
      same_calls = same_calls;
      same_armed = seen;
      same_opening = same_opening;
    }
    each cloud.Broken done meets seen told_so = absurd (false≢true (sym whole ∙ done.notes.0))
    each (cloud.Damaged position) done meets seen told_so = absurd done.notes
