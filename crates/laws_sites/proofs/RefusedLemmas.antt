-- A site stays good where it refuses to perform a call that it might perform, and where that call is given up then.
use Rattle.std.proofs.Common.{◌≡◌, ◌∙◌, ℕ, Bool, true, false, List, [], ◌∷◌, ◌++◌, Option, Some, None, ap, refl, subst, sym, inl, inr}
use Rattle.std.specs.Prelude.{◌&&◌, nat_lt}
use Rattle.std.proofs.lemmas.Bool.{and_from, lt-ltb}
use Rattle.bosh_agent.specs.Compiled.{compiled_digest}
use Rattle.bosh_asks.specs.declared.fault.BookFault.TheVariants as book
use Rattle.bosh_base.specs.CallStep.{takes_effect}
use Rattle.bosh_base.specs.declared.digest.Digest.{Digest}
use Rattle.bosh_base.specs.declared.entry.Begin.{Begin}
use Rattle.bosh_base.specs.declared.entry.Entry.{Entry}
use Rattle.bosh_base.specs.declared.entry.Entry.TheVariants as entries
use Rattle.bosh_base.specs.declared.key.KeyWork.{KeyWork}
use Rattle.bosh_base.specs.declared.moves.Cause.{Cause}
use Rattle.bosh_base.specs.declared.moves.Cause.TheVariants as causes
use Rattle.bosh_book.specs.Current as current
use Rattle.bosh_book.specs.declared.book.Book.{Book}
use Rattle.bosh_book.specs.declared.granted.Granted.{Granted}
use Rattle.bosh_cloud.specs.Notes.{IsPending}
use Rattle.bosh_cloud.specs.Performs.{effects_if, fate_of, has_effect}
use Rattle.bosh_history.specs.Fit.{IsFit}
use Rattle.bosh_history.specs.Moments.{Moment, OpenCall, Opening, dep_of}
use Rattle.bosh_history.specs.Notes.{Outside}
use Rattle.bosh_history.specs.Permitted.{may_take}
use Rattle.bosh_ports.specs.Rigged.{RigState}
use Rattle.bosh_ports.specs.declared.keeper.Keeper as keeper
use Rattle.bosh_records.specs.Readers.{call_at}
use Rattle.bosh_world.specs.Abandons.{Abandons, GivesUp}
use Rattle.bosh_world.specs.Performing as world
use Rattle.bosh_world.specs.Told.{IsPerformable, story_of}
use Rattle.bosh_world.specs.declared.fault.SiteFault.{SiteFault}
use Rattle.bosh_world.specs.declared.fault.SiteFault.TheVariants as fault
use Rattle.bosh_world.specs.declared.site.Site.{Site}
use Rattle.laws_sites.proofs.CallLemmas.{performable_is}
use Rattle.laws_sites.proofs.HaltLemmas.{gives_up_good, halts_good, lacks_good, same_good}
use Rattle.laws_sites.proofs.PerformLemmas.{dep_is, effects_are}
use Rattle.laws_sites.proofs.StopLemmas.{HasTaken, MayTakeMore, all_taken, may_take_open, takes_under}
use Rattle.laws_sites.specs.Good.{GoesOn, IsGood, IsRecorded, moment_of}

module _ {K L : Type 0} {k : keeper.Ghosts K} {l : keeper.Ghosts L} (outside : Outside) (bodies : K → Option (List (List ℕ)))
    (cloud_bodies : L → Option (List (List ℕ))) (faults : L → ℕ) (o : Opening) (was now : Site K L k l) (permit : Granted)
    (fit : IsFit outside o) (built : outside.built ≡ compiled_digest) (good : IsGood outside bodies cloud_bodies o was)
    (free : IsPerformable was permit) where
  abbrev m : Moment
  m = moment_of o was

  recorded : IsRecorded m was
  recorded = good.recorded free.0.0

  -- an open call of the moment began as the records have it
  live : (x : ℕ) (call : OpenCall) → m.calls x ≡ Some call → call_at was.book.records x ≡ Some call.begin
  live x call is = recorded.whole.stands.calls x ∙ recorded.agrees.live x call is

  module _ (ran : was.history.is_halted ≡ false) where
    goes : GoesOn bodies cloud_bodies m was
    goes = good.runs ran

    found : (call : OpenCall) × (m.calls permit.n ≡ Some call) × (call.did ≡ None)
    found = performable_is (story_of was) was.calls.unsettled m.calls permit.n goes.calls free.1

    for : current.IsFor found.0.begin permit
    for = subst (λ (b : Begin). current.IsFor b permit)
        (some_begin free.0.1.begun found.0.begin (sym free.0.1.is_open ∙ live permit.n found.0 found.1)) free.0.1.is_for
      where
        some_begin : (a b : Begin) → ◌≡◌ {A = Option Begin} (Some a) (Some b) → a ≡ b
        some_begin a b is = cc

    of_dep : dep_of m.known found.0.begin.owner ≡ permit.dep
    of_dep = by (dep_is recorded.told was.book.records permit.owner permit.dep recorded.whole.stands
        (ap (current.dep_of was.book.records) (sym free.0.1.is_for.owner) ∙ free.0.1.of_dep))
      where
        by : dep_of recorded.told.known permit.owner ≡ permit.dep → dep_of m.known found.0.begin.owner ≡ permit.dep
        by is = (λ i. dep_of (sym recorded.agrees.known_is i) (for.owner i)) ∙ is

    -- ---- the store fails in it

    -- it may be taken
    may : has_effect (fate_of was.cloud permit.owner permit.call) was.cloud.effects permit.call ≡ true
        → (nat_lt 0 permit.n && may_take outside m permit.n) ≡ true
    may has = and_from (nat_lt 0 permit.n) (may_take outside m permit.n)
        (lt-ltb 0 permit.n (recorded.whole.stands.tells_well.low permit.n found.0.begin
        (recorded.agrees.live permit.n found.0 found.1)))
        (may_take_open outside m permit.n found.0 found.1 found.2
        (subst (λ (effects : List Entry). takes_effect outside.built effects found.0.begin.call ≡ true) goes.effects
        (subst (λ (f : KeyWork → List Digest → Digest). takes_effect f was.cloud.effects found.0.begin.call ≡ true) (sym built)
        ((λ i. takes_effect compiled_digest was.cloud.effects (for.call i))
        ∙ takes_under (fate_of was.cloud permit.owner permit.call) was.cloud.effects permit.call has))))

    pends : (b : Bool) → has_effect (fate_of was.cloud permit.owner permit.call) was.cloud.effects permit.call ≡ b
        → (is_stale : Bool) (pending : Option (List ℕ)) → is_stale ≡ true
        → IsPending (effects_if b (world.effect_of permit)) pending → MayTakeMore outside m 0 [] is_stale pending
    pends false has is_stale pending stale is = absurd is
    pends true has is_stale pending stale is =
        subst (λ (b : Bool). MayTakeMore outside m 0 [] b pending) (sym stale)
        (subst (λ (p : Option (List ℕ)). MayTakeMore outside m 0 [] true p) (sym is.0) (
          entries.Effect (world.effect_of permit),
          is.1,
          (
            permit.n ∷ [],
            (
              (may has, tt),
              ap (λ es. m.effects ++ es) (sym (effects_are m true permit found.0 (m.calls permit.n) found.1 for of_dep)),
            ),
          ),
        ))

    fails : world.FailsInCall cloud_bodies faults was permit now → HasTaken outside m 0 now.cloud
    fails failed = record {
      took = [];
      may = tt;
      effects = failed.does.notes.2 ∙ goes.effects;
      more = by (has_effect (fate_of was.cloud permit.owner permit.call) was.cloud.effects permit.call) refl
          failed.does.notes.3;
    }
      where
        by : (b : Bool) → has_effect (fate_of was.cloud permit.owner permit.call) was.cloud.effects permit.call ≡ b
            → IsPending (effects_if (has_effect (fate_of was.cloud permit.owner permit.call) was.cloud.effects permit.call)
            (world.effect_of permit)) now.cloud.pending
            → MayTakeMore outside m 0 [] now.cloud.is_stale now.cloud.pending
        by b is pending = pends b is now.cloud.is_stale now.cloud.pending failed.does.notes.1
            (subst (λ (it : Bool). IsPending (effects_if it (world.effect_of permit)) now.cloud.pending) is pending)

    -- ---- a trap stops the director in it

    stops : (cause : Cause) → world.StopsIn cloud_bodies faults was permit cause now → HasTaken outside m 0 now.cloud
    stops cause stopped = all_taken outside built cloud_bodies faults was.book.records stopped.firing permit.n
        (story_of was) m 0 was.calls.unsettled was.cloud now.cloud false (Some cause) (record {
          effects = goes.effects;
          whole = was.is_site.cloud_runs ran;
          rising = goes.rising;
          calls = λ x low. goes.calls x;
          live = λ x call low is. live x call is;
          deps = λ owner dep is. ap (λ known. dep_of known owner) (sym recorded.agrees.known_is)
              ∙ dep_is recorded.told was.book.records owner dep recorded.whole.stands is;
          free = λ low. free.1;
        }) stopped.each

  -- ---- all

  pub refused_good : (why : SiteFault) → world.RefusesToPerform cloud_bodies faults was permit why now
      → IsGood outside bodies cloud_bodies o now
  refused_good (fault.Book book.Stopped) (inl (halted, same)) = same_good outside bodies cloud_bodies o was now good same
  refused_good (fault.Book book.Stopped) (inr stopped) =
      halts_good outside bodies cloud_bodies o was now faults causes.Stop fit good stopped.halts
      (stops stopped.halts.ran causes.Stop stopped)
  refused_good (fault.Book (book.Locked task)) (of_task, unfree, same) =
      same_good outside bodies cloud_bodies o was now good same
  refused_good fault.CloudStore (inl failed) =
      halts_good outside bodies cloud_bodies o was now faults causes.CloudStore fit good failed.halts
      (fails failed.halts.ran failed)
  refused_good fault.CloudStore (inr stopped) =
      halts_good outside bodies cloud_bodies o was now faults causes.CloudStore fit good stopped.halts
      (stops stopped.halts.ran causes.CloudStore stopped)
  refused_good fault.Memory lacks = lacks_good outside bodies cloud_bodies o was now good lacks
  refused_good why none = absurd none

  -- its book is as it was
  book_same : (why : SiteFault) → world.RefusesToPerform cloud_bodies faults was permit why now → now.book ≡ was.book
  book_same (fault.Book book.Stopped) (inl (halted, same)) = ap (λ (it : Site K L k l). it.book) same
  book_same (fault.Book book.Stopped) (inr stopped) = stopped.halts.same_book
  book_same (fault.Book (book.Locked task)) (of_task, unfree, same) = ap (λ (it : Site K L k l). it.book) same
  book_same fault.CloudStore (inl failed) = failed.halts.same_book
  book_same fault.CloudStore (inr stopped) = stopped.halts.same_book
  book_same fault.Memory lacks = lacks.same_book
  book_same why none = absurd none

  -- .. and the call is given up
  pub abandoned_good : (why : SiteFault) (last : Site K L k l)
      → world.RefusesToPerform cloud_bodies faults was permit why now
      → Abandons now permit last → IsGood outside bodies cloud_bodies o last
  abandoned_good why last refuses abandons =
      gives_up_good outside bodies cloud_bodies o now last fit (refused_good why refuses) still.0 (given_up abandons)
    where
      still : current.IsCurrent now.book permit
      still = subst (λ (b : Book (RigState K)). current.IsCurrent b permit) (sym (book_same why refuses)) free.0

      given_up : Abandons now permit last → GivesUp now last
      given_up (inl (is, gives)) = gives
      given_up (inr (is_not, same)) = absurd (is_not still)
