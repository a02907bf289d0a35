-- A site is good once it performed a call that it might perform.
use Rattle.std.proofs.Common.{◌≡◌, ◌∙◌, ℕ, Bool, List, [], ◌∷◌, ◌++◌, Option, Some, None, ap, append-nil, length, subst, sym}
use Rattle.std.proofs.lemmas.Bool.{false≢true}
use Rattle.bosh_agent.specs.Compiled.{compiled_digest}
use Rattle.bosh_base.specs.declared.answer.Answer.{Answer}
use Rattle.bosh_base.specs.declared.entry.Begin.{Begin}
use Rattle.bosh_base.specs.declared.moves.Did as did
use Rattle.bosh_base.specs.declared.moves.Move.{Move}
use Rattle.bosh_base.specs.declared.moves.Move.TheVariants.{Did}
use Rattle.bosh_book.specs.Current as current
use Rattle.bosh_book.specs.declared.book.Book.{Book}
use Rattle.bosh_book.specs.declared.granted.Granted.{Granted}
use Rattle.bosh_calls.specs.declared.calls.OpenCall as site
use Rattle.bosh_cloud.specs.Performs.{answer_under, fate_of, has_effect}
use Rattle.bosh_history.specs.Fit.{IsFit, has_numbers}
use Rattle.bosh_history.specs.Moments.{Moment, OpenCall, Opening, dep_of, durable, moment, performing}
use Rattle.bosh_history.specs.Notes.{Outside}
use Rattle.bosh_history.specs.Permitted.{IsPermitted, IsRun, PerformsOpen}
use Rattle.bosh_journal.specs.Kept as journal
use Rattle.bosh_ports.specs.Rigged.{RigState}
use Rattle.bosh_ports.specs.declared.keeper.Keeper as keeper
use Rattle.bosh_world.specs.Performing as world
use Rattle.bosh_world.specs.Steps.{bodies_of}
use Rattle.bosh_world.specs.Told.{IsPerformable, story_of}
use Rattle.bosh_world.specs.declared.site.Site.{Site}
use Rattle.laws_runs.proofs.ReadLemmas.{run_facts}
use Rattle.laws_sites.proofs.CallLemmas.{calls_performed, performable_is}
use Rattle.laws_sites.proofs.MomentLemmas.{durable_on, later_on, run_on}
use Rattle.laws_sites.proofs.PerformLemmas.{dep_is, effects_are, may_perform, rising_performed}
use Rattle.laws_sites.specs.Calls.{AreCalls, AreRising}
use Rattle.laws_sites.specs.Good.{GoesOn, IsGood, IsRecorded, moment_of}
use Rattle.laws_stands_fits.specs.Whole.{StandsWhole}
use Rattle.laws_stands_noted.proofs.AgreesLemmas.{move_agrees}
use Rattle.bosh_base.specs.declared.entry.Entry.{Entry}

module _ {K L : Type 0} {k : keeper.Ghosts K} {l : keeper.Ghosts L} (outside : Outside) (bodies : K → Option (List (List ℕ)))
    (cloud_bodies : L → Option (List (List ℕ))) (cloud_faults : L → ℕ) (o : Opening) (was now : Site K L k l) (permit : Granted)
    (answer : Answer) (fit : IsFit outside o) (built : outside.built ≡ compiled_digest)
    (good : IsGood outside bodies cloud_bodies o was) (free : IsPerformable was permit)
    (performs : world.Performs cloud_bodies cloud_faults was permit answer now) where
  abbrev m : Moment
  m = moment_of o was

  abbrev d : did.Did
  d = world.did_of was.cloud permit answer

  goes : GoesOn bodies cloud_bodies m was
  goes = good.runs performs.running

  recorded : IsRecorded m was
  recorded = good.recorded free.0.0

  found : (call : OpenCall) × (m.calls permit.n ≡ Some call) × (call.did ≡ None)
  found = performable_is (story_of was) was.calls.unsettled m.calls permit.n goes.calls free.1

  -- the call of the moment is that of the permit
  for : current.IsFor found.0.begin permit
  for = subst (λ (b : Begin). current.IsFor b permit)
      (some_begin free.0.1.begun found.0.begin
      (sym free.0.1.is_open ∙ recorded.whole.stands.calls permit.n ∙ recorded.agrees.live permit.n found.0 found.1))
      free.0.1.is_for
    where
      some_begin : (a b : Begin) → ◌≡◌ {A = Option Begin} (Some a) (Some b) → a ≡ b
      some_begin a b is = cc

  of_dep : dep_of m.known found.0.begin.owner ≡ permit.dep
  of_dep = by (dep_is recorded.told was.book.records permit.owner permit.dep recorded.whole.stands
      (ap (current.dep_of was.book.records) (sym free.0.1.is_for.owner) ∙ free.0.1.of_dep))
    where
      by : dep_of recorded.told.known permit.owner ≡ permit.dep → dep_of m.known found.0.begin.owner ≡ permit.dep
      by is = (λ i. dep_of (sym recorded.agrees.known_is i) (for.owner i)) ∙ is

  -- ---- permitted

  may : IsPermitted outside m (Did d)
  may = (
    good.halted ∙ performs.running,
    subst (λ (a : Answer). PerformsOpen outside m.effects (record d { answer = a }) (m.calls permit.n))
        (sym (performs.asks.answers ∙ (λ i. answer_under (fate_of was.cloud permit.owner permit.call) (goes.effects i) permit.call)))
        (subst (λ (b : Bool). PerformsOpen outside m.effects (record {
          n = permit.n;
          effect = b;
          answer = answer_under (fate_of was.cloud permit.owner permit.call) m.effects permit.call;
        }) (m.calls permit.n))
        (λ i. has_effect (fate_of was.cloud permit.owner permit.call) (sym goes.effects i) permit.call)
        (may_perform outside built (fate_of was.cloud permit.owner permit.call) m.effects permit.n permit.call
        (m.calls permit.n) found.0 found.1 found.2 for.call)),
  )

  story : story_of now ≡ story_of was ++ Did d ∷ []
  story = performs.comes.story

  next : moment_of o now ≡ performing m d
  next = ap (moment o) story ∙ later_on o (story_of was) (Did d ∷ [])

  -- ---- good

  run : IsRun outside o (story_of now)
  run = subst (λ (moves : List Move). IsRun outside o moves) (sym story)
      (run_on outside o (story_of was) (Did d ∷ []) good.run (may, tt, tt))

  entries : durable o (story_of now) ≡ now.book.journal.entries
  entries = ap (durable o) story ∙ durable_on o (story_of was) (Did d ∷ []) ∙ append-nil (durable o (story_of was))
      ∙ good.entries
      ∙ (λ i. (sym performs.same_book i).journal.entries)

  told_so : IsRecorded (performing m d) now
  told_so = record {
    told = recorded.told;
    agrees = move_agrees outside m recorded.told (Did d) recorded.agrees
        (run_facts outside o (story_of was) fit good.run) recorded.whole.stands.tells_well may;
    whole = subst (λ (b : Book (RigState K)). StandsWhole recorded.told b.records) (sym performs.same_book) recorded.whole;
  }

  goes_on : GoesOn bodies cloud_bodies (performing m d) now
  goes_on = record {
    recovered = goes.recovered;
    effects = performs.asks.does.notes.2
        ∙ (λ i. goes.effects i ++ effects_are m (has_effect (fate_of was.cloud permit.owner permit.call) was.cloud.effects permit.call)
        permit found.0 (m.calls permit.n) found.1 for of_dep i);
    calls = subst (λ (moves : List Move). AreCalls moves now.calls.unsettled (performing m d).calls) (sym story)
        (subst (λ (unsettled : List site.OpenCall). AreCalls (story_of was ++ Did d ∷ []) unsettled (performing m d).calls)
        (sym performs.calls)
        (calls_performed (story_of was) was.calls.unsettled m.calls d goes.calls));
    rising = subst (AreRising 0) (sym performs.calls)
        (rising_performed 0 permit.n (length (story_of was)) was.calls.unsettled goes.rising);
    book_kept = subst (λ (b : Book (RigState K)). journal.IsKept (bodies_of bodies) b.journal) (sym performs.same_book) goes.book_kept;
    cloud_kept = performs.asks.does.kept goes.cloud_kept;
  }

  pub performed_good : IsGood outside bodies cloud_bodies o now
  performed_good = record {
    run = run;
    opening = performs.same_opening ∙ good.opening;
    entries = entries;
    halted = ap (λ (n : Moment). n.halted) next ∙ good.halted ∙ performs.running ∙ sym performs.runs_on;
    numbers = ap (λ (n : Moment). has_numbers n.known) next ∙ good.numbers;
    told = performs.comes.told ∙ ap (λ (es : List Entry). length es) goes_on.effects
        ∙ ap (λ (n : Moment). length n.effects) (sym next);
    recorded = λ read. subst (λ (n : Moment). IsRecorded n now) (sym next) told_so;
    runs = λ running. subst (λ (n : Moment). GoesOn bodies cloud_bodies n now) (sym next) goes_on;
    halts = λ halted. absurd (false≢true (sym performs.runs_on ∙ halted));
  }
