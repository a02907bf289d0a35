-- All that is open is what a worker has at hand, from step to step, until it is stopped.
use Rattle.std.proofs.Common.{◌≡◌, ◌∙◌, ℕ, Bool, true, false, List, [], ◌∷◌, ◌++◌, Option, Some, Result, Ok, Err, ap, inl, inr, length, refl, subst, sym}
use Rattle.std.proofs.lemmas.Bool.{eq-eqb, false≢true}
use Rattle.bosh_asks.specs.declared.fault.BookFault.TheVariants as book
use Rattle.bosh_base.specs.declared.entry.Entry.TheVariants as entries
use Rattle.bosh_book.specs.Current.{IsCurrent}
use Rattle.bosh_book.specs.declared.book.Book.{Book}
use Rattle.bosh_book.specs.declared.claim.Claim.{Claim}
use Rattle.bosh_book.specs.declared.claim.Claim.TheVariants.{Over, Wait, Work}
use Rattle.bosh_book.specs.declared.granted.Granted.{Granted}
use Rattle.bosh_calls.specs.Calls.{begun, with_begun, with_performed, without}
use Rattle.bosh_crew.specs.Carried.{Carries, Reaches, Steps, Stops, at_hand}
use Rattle.bosh_crew.specs.Carried.Reaches.{stays, steps}
use Rattle.bosh_crew.specs.Carried.Steps.{claims, ends, performs, settles}
use Rattle.bosh_crew.specs.Carried.Stops.{in_call, in_claim, in_end, in_settling, lacks, waits}
use Rattle.bosh_crew.specs.declared.place.Place.{Place}
use Rattle.bosh_crew.specs.declared.place.Place.TheVariants.{Empty, Granted as granted, Held}
use Rattle.bosh_fold.specs.Learns.{LearnsAll}
use Rattle.bosh_ports.specs.Rigged.{RigState}
use Rattle.bosh_ports.specs.declared.keeper.Keeper as keeper
use Rattle.bosh_records.specs.Ordered.{AreOrdered}
use Rattle.bosh_records.specs.Recorded.{recorded}
use Rattle.bosh_records.specs.declared.records.Records.{Records}
use Rattle.bosh_world.specs.Abandons.{Abandons}
use Rattle.bosh_world.specs.Performing.{RefusesToPerform}
use Rattle.bosh_world.specs.Refuses.{Refuses}
use Rattle.bosh_world.specs.Steps.{Claims, calls_claimed}
use Rattle.bosh_world.specs.Told.{story_of}
use Rattle.bosh_world.specs.declared.fault.SiteFault.{SiteFault}
use Rattle.bosh_world.specs.declared.fault.SiteFault.TheVariants as fault
use Rattle.bosh_world.specs.declared.site.Site.{Site}
use Rattle.laws_waits.proofs.CurrentLemmas.{open_still, ordered_after}
use Rattle.laws_waits.specs.Hands.{IsAtHand}

-- ---- lists of one call

none_but : (n : ℕ) (place : Option ℕ) → without n (record { n = n; place = place } ∷ []) ≡ []
none_but n place = rw (eq-eqb n n refl) refl

one_performed : (n place : ℕ) → with_performed n place (begun n ∷ []) ≡ record { n = n; place = Some place } ∷ []
one_performed n place = rw (eq-eqb n n refl) refl

-- where something is at hand, the keys of what is recorded stand in order: an entry was learned
abbrev pub IsInOrder : Place → Records → Type 0
IsInOrder Empty records = Unit {0}
IsInOrder (granted permit) records = AreOrdered (recorded records)
IsInOrder (Held call) records = AreOrdered (recorded records)

module _ {K L : Type 0} {k : keeper.Ghosts K} {l : keeper.Ghosts L} (bodies : K → Option (List (List ℕ))) (faults : K → ℕ)
    (cloud_bodies : L → Option (List (List ℕ))) (cloud_faults : L → ℕ) (tasks : List ℕ) (worker : ℕ) where
  -- ---- a step

  pub step_at_hand : (was : Site K L k l) (place : Place) (now : Site K L k l) (next : Place)
      → IsAtHand place was.calls.unsettled
      → Steps bodies faults cloud_bodies cloud_faults tasks worker was place now next
      → IsAtHand next now.calls.unsettled
  step_at_hand was place now next has (claims task claim from to among claimed calls) =
      subst (λ (p : Place). IsAtHand p now.calls.unsettled) (sym to)
      (subst (IsAtHand (at_hand claim)) (sym calls)
      (given claim (subst (λ (p : Place). IsAtHand p was.calls.unsettled) from has)))
    where
      given : (claim : Claim) → was.calls.unsettled ≡ []
          → IsAtHand (at_hand claim) (calls_claimed {F = SiteFault} (Ok claim) was.calls.unsettled)
      given (Work permit) none = ap (with_begun permit.n) none
      given Wait none = none
      given Over none = none
  step_at_hand was place now next has (performs permit call from to same free performed) =
      subst (λ (p : Place). IsAtHand p now.calls.unsettled) (sym to) (
        length (story_of was),
        performed.calls
            ∙ ap (with_performed permit.n (length (story_of was)))
            (subst (λ (p : Place). IsAtHand p was.calls.unsettled) from has)
            ∙ one_performed permit.n (length (story_of was))
            ∙ (λ i. record { n = (sym same i).n; place = Some (length (story_of was)) } ∷ []),
      )
  step_at_hand was place now next has (settles call from to held may notes calls) =
      subst (λ (p : Place). IsAtHand p now.calls.unsettled) (sym to)
      (calls ∙ ap (without call.permit.n) there.1 ∙ none_but call.permit.n (Some there.0))
    where
      there : (place : ℕ) × (was.calls.unsettled ≡ record { n = call.permit.n; place = Some place } ∷ [])
      there = subst (λ (p : Place). IsAtHand p was.calls.unsettled) from has
  step_at_hand was place now next has (ends task end from to among ended calls) =
      subst (λ (p : Place). IsAtHand p now.calls.unsettled) (sym to)
      ((λ i. (calls i).unsettled) ∙ subst (λ (p : Place). IsAtHand p was.calls.unsettled) from has)

  step_in_order : (was : Site K L k l) (place : Place) (now : Site K L k l) (next : Place)
      → IsInOrder place was.book.records
      → Steps bodies faults cloud_bodies cloud_faults tasks worker was place now next
      → IsInOrder next now.book.records
  step_in_order was place now next order (claims task claim from to among claimed calls) =
      subst (λ (p : Place). IsInOrder p now.book.records) (sym to) (given claim claimed)
    where
      given : (claim : Claim) → Claims bodies faults was task worker claim now → IsInOrder (at_hand claim) now.book.records
      given (Work permit) claimed =
          ordered_after was.book.records now.book.records claimed.updates (entries.Begin claimed.gives.0)
          (subst (λ last. LearnsAll was.book.records (claimed.updates ++ last) now.book.records) claimed.gives.2
          claimed.notes.book.learns)
      given Wait claimed = tt
      given Over claimed = tt
  step_in_order was place now next order (performs permit call from to same free performed) =
      subst (λ (p : Place). IsInOrder p now.book.records) (sym to)
      (subst (λ (b : Book (RigState K)). AreOrdered (recorded b.records)) (sym performed.same_book)
      (subst (λ (p : Place). IsInOrder p was.book.records) from order))
  step_in_order was place now next order (settles call from to held may notes calls) =
      subst (λ (p : Place). IsInOrder p now.book.records) (sym to) tt
  step_in_order was place now next order (ends task end from to among ended calls) =
      subst (λ (p : Place). IsInOrder p now.book.records) (sym to) tt

  -- ---- several

  pub reached_at_hand : (was : Site K L k l) (place : Place) (now : Site K L k l) (next : Place)
      → IsAtHand place was.calls.unsettled
      → Reaches bodies faults cloud_bodies cloud_faults tasks worker was place now next
      → IsAtHand next now.calls.unsettled
  reached_at_hand was place now next has (stays site there) = has
  reached_at_hand was place now next has (steps first from mid at last to step more) =
      reached_at_hand mid at last to (step_at_hand first from mid at has step) more

  reached_in_order : (was : Site K L k l) (place : Place) (now : Site K L k l) (next : Place)
      → IsInOrder place was.book.records
      → Reaches bodies faults cloud_bodies cloud_faults tasks worker was place now next
      → IsInOrder next now.book.records
  reached_in_order was place now next order (stays site there) = order
  reached_in_order was place now next order (steps first from mid at last to step more) =
      reached_in_order mid at last to (step_in_order first from mid at order step) more

  -- ---- the step in which the worker is stopped

  -- a call that is not performed is current still
  refused_still : (was : Site K L k l) (permit : Granted) (why : SiteFault) (now : Site K L k l)
      → IsCurrent was.book permit → RefusesToPerform cloud_bodies cloud_faults was permit why now
      → IsCurrent now.book permit
  refused_still was permit why now is refuses =
      subst (λ (b : Book (RigState K)). IsCurrent b permit) (sym (unmoved why refuses)) is
    where
      unmoved : (why : SiteFault) → RefusesToPerform cloud_bodies cloud_faults was permit why now → now.book ≡ was.book
      unmoved (fault.Book book.Stopped) (inl (halted, same)) = ap (λ (it : Site K L k l). it.book) same
      unmoved (fault.Book book.Stopped) (inr stopped) = stopped.halts.same_book
      unmoved (fault.Book (book.Locked task)) (of_task, unfree, same) = ap (λ (it : Site K L k l). it.book) same
      unmoved fault.CloudStore (inl failed) = failed.halts.same_book
      unmoved fault.CloudStore (inr stopped) = stopped.halts.same_book
      unmoved fault.Memory short = short.same_book
      unmoved why none = absurd none

  -- .. and so is one whose answer is not noted, where the site has not halted
  unnoted_still : (was : Site K L k l) (permit : Granted) (why : SiteFault) (now : Site K L k l)
      → AreOrdered (recorded was.book.records) → IsCurrent was.book permit → Refuses bodies faults was [] why now
      → now.history.is_halted ≡ false → IsCurrent now.book permit
  unnoted_still was permit why now order is refuses running = by why refuses
    where
      by : (why : SiteFault) → Refuses bodies faults was [] why now → IsCurrent now.book permit
      by (fault.Book book.Stopped) (inl (halted, same)) =
          absurd (false≢true (sym running ∙ ap (λ (it : Site K L k l). it.history.is_halted) same ∙ halted))
      by (fault.Book book.Stopped) (inr (ran, fails)) = absurd (false≢true (sym running ∙ fails.notes.halted))
      by (fault.Book book.StoreFault) (ran, fails) = absurd (false≢true (sym running ∙ fails.notes.halted))
      by why refuses = (
        λ unread. is.0 (sym refuses.1.book.standing ∙ unread),
        open_still was.book.records now.book.records permit order refuses.1.book.learns is.1,
      )

  -- a call that is given up halts the site, where its permit is current
  given_up_halts : (was : Site K L k l) (permit : Granted) (now : Site K L k l) → Abandons was permit now
      → (was.history.is_halted ≡ false → IsCurrent was.book permit) → now.history.is_halted ≡ true
  given_up_halts was permit now (inl (current, gives)) is = gives.halted
  given_up_halts was permit now (inr (other, same)) is = by was.history.is_halted refl
    where
      by : (b : Bool) → was.history.is_halted ≡ b → now.history.is_halted ≡ true
      by true halted = (λ i. (same.same_history i).is_halted) ∙ halted
      by false running = absurd (other (is running))

  pub stopped_at_hand : (was : Site K L k l) (place : Place) (why : SiteFault) (now : Site K L k l)
      → IsAtHand place was.calls.unsettled → IsInOrder place was.book.records
      → Stops bodies faults cloud_bodies cloud_faults tasks worker was place why now
      → now.history.is_halted ≡ false → now.calls.unsettled ≡ []
  stopped_at_hand was place why now has order (in_claim task from among refuses is calls pends) running =
      calls ∙ subst (λ (p : Place). IsAtHand p was.calls.unsettled) from has
  stopped_at_hand was place why now has order (in_call permit mid from free refuses abandons) running =
      absurd (false≢true (sym running
      ∙ given_up_halts mid permit now abandons (λ ran. refused_still was permit why mid free.0 refuses)))
  stopped_at_hand was place why now has order (in_settling call mid from held refuses is calls pends abandons) running =
      absurd (false≢true (sym running
      ∙ given_up_halts mid call.permit now abandons
      (unnoted_still was call.permit why mid (subst (λ (p : Place). IsInOrder p was.book.records) from order) held.0
      refuses)))
  stopped_at_hand was place why now has order (in_end task from among over refuses is calls pends) running =
      (λ i. (calls i).unsettled) ∙ subst (λ (p : Place). IsAtHand p was.calls.unsettled) from has
  stopped_at_hand was place why now has order (waits task from is told same) running =
      (λ i. (same i).calls.unsettled) ∙ subst (λ (p : Place). IsAtHand p was.calls.unsettled) from has
  stopped_at_hand was place why now has order (lacks from memory same) running =
      (λ i. (same i).calls.unsettled) ∙ subst (λ (p : Place). IsAtHand p was.calls.unsettled) from has

  -- ---- all

  pub carried_at_hand : (was : Site K L k l) (result : Result (Unit {0}) SiteFault) (now : Site K L k l)
      → was.calls.unsettled ≡ []
      → Carries bodies faults cloud_bodies cloud_faults tasks worker was result now
      → now.history.is_halted ≡ false → now.calls.unsettled ≡ []
  carried_at_hand was (Ok value) now none (reached, ended) running = reached_at_hand was Empty now Empty none reached
  carried_at_hand was (Err why) now none (mid, (at, reached, stops)) running =
      stopped_at_hand mid at why now (reached_at_hand was Empty mid at none reached)
      (reached_in_order was Empty mid at tt reached) stops running
