-- The effects of open calls in a stop, one after the other.
use Rattle.std.proofs.Common.{◌≡◌, ◌≤◌, ◌<◌, ◌+◌, ℕ, zero, suc, Bool, true, false, Option, Some, None, Ok, Err, List, [], ◌∷◌, inl, inr}
use Rattle.std.proofs.Common.{refl, sym, ◌∙◌, ap, subst, arith, drop, length, slice_index_or}
use Rattle.std.proofs.lemmas.Bool.{false≢true}
use Rattle.std.specs.Prelude.{◌==◌}
use Rattle.bosh_base.specs.declared.moves.Cause.{Cause}
use Rattle.bosh_base.specs.declared.moves.Cause.TheVariants as causes
use Rattle.bosh_calls.specs.declared.calls.OpenCall.{OpenCall}
use Rattle.bosh_cloud.specs.CloudView.{CloudView}
use Rattle.bosh_cloud.specs.Notes.{SameFates}
use Rattle.bosh_cloud.specs.declared.fault.CloudFault.{CloudFault}
use Rattle.bosh_cloud.specs.declared.fault.CloudFault.TheVariants as cloud
use Rattle.bosh_moves.proofs.StoryLemmas.{extends_more}
use Rattle.bosh_ports.specs.Faults.{NeverFalls, Rose}
use Rattle.bosh_records.specs.declared.records.Records.{Records}
use Rattle.bosh_traps.specs.declared.trap.Firing.{Firing}
use Rattle.bosh_world.specs.Stopping.{EachTakes, GoesOn, Takes, TakesEffect, TakesEffects, cause_by, comes, effect_of}

-- effects have come so far, or none
pub record HasCome {L : Type 0} (bodies : L → Option (List (List ℕ))) (faults : L → ℕ) (was : CloudView L) (came : Bool)
    (now : CloudView L) : Type 0 where
  pub goes_on : GoesOn bodies faults was now
  pub whole : now.is_stale ≡ false
  pub none : came ≡ false → (now.effects ≡ was.effects) × SameFates was now

pub goes_on_then : {L : Type 0} (bodies : L → Option (List (List ℕ))) (faults : L → ℕ) (was mid now : CloudView L) →
    GoesOn bodies faults was mid → GoesOn bodies faults mid now → GoesOn bodies faults was now
goes_on_then bodies faults was mid now first then_ =
    let before : faults was.store ≤ faults mid.store = first.count in
    let after : faults mid.store ≤ faults now.store = then_.count in
    record {
      effects = extends_more was.effects mid.effects now.effects then_.effects.0 first.effects then_.effects.1;
      kept = λ kept. then_.kept (first.kept kept);
      count = omega arith;
    }

-- one more
pub one_came : {L : Type 0} (bodies : L → Option (List (List ℕ))) (faults : L → ℕ) (was mid now : CloudView L) (came : Bool) →
    HasCome bodies faults was came mid → TakesEffect bodies faults mid (Ok tt) now → HasCome bodies faults was true now
one_came bodies faults was mid now came so_far takes = record {
  goes_on = goes_on_then bodies faults was mid now so_far.goes_on takes.0;
  whole = takes.1;
  none = λ none. absurd (false≢true (sym none));
}

less : (before mid after : ℕ) → before ≤ mid → mid < after → before < after
less before mid after first then_ = omega arith

rose_after : (before mid after : ℕ) → NeverFalls before mid → Rose mid after → Rose before after
rose_after before mid after never (inl rose) = inl (less before mid after never rose)
rose_after before mid after never (inr last) = inr last

-- there was no memory for the first
pub none_came : {L : Type 0} (bodies : L → Option (List (List ℕ))) (faults : L → ℕ) (was mid now : CloudView L) (came : Bool)
    (fault : CloudFault) → fault ≡ cloud.Memory → came ≡ false → HasCome bodies faults was came mid →
    TakesEffect bodies faults mid (Err fault) now → TakesEffects bodies faults was None now
none_came {L} bodies faults was mid now came fault lacked none so_far takes =
    let left : TakesEffect bodies faults mid (Err cloud.Memory) now =
    subst (λ (f : CloudFault). TakesEffect bodies faults mid (Err f) now) lacked takes in
    let before : (mid.effects ≡ was.effects) × SameFates was mid = so_far.none none in (
      goes_on_then bodies faults was mid now so_far.goes_on left.0,
      left.1,
      left.2 ∙ before.0,
      (left.3.0 ∙ before.1.0, left.3.1 ∙ before.1.1),
    )

-- the store failed in one
pub one_failed : {L : Type 0} (bodies : L → Option (List (List ℕ))) (faults : L → ℕ) (was mid now : CloudView L)
    (came : Bool) (fault : CloudFault) → (fault ≡ cloud.Memory → ⊥) → HasCome bodies faults was came mid →
    TakesEffect bodies faults mid (Err fault) now → TakesEffects bodies faults was (Some causes.CloudStore) now
one_failed bodies faults was mid now came cloud.Memory not so_far takes = absurd (not refl)
one_failed bodies faults was mid now came cloud.StoreFault not so_far takes = (
  goes_on_then bodies faults was mid now so_far.goes_on takes.0,
  rose_after (faults was.store) (faults mid.store) (faults now.store) so_far.goes_on.count takes.1,
)
one_failed bodies faults was mid now came cloud.Broken not so_far takes = (
  goes_on_then bodies faults was mid now so_far.goes_on takes.0,
  rose_after (faults was.store) (faults mid.store) (faults now.store) so_far.goes_on.count takes.1,
)
one_failed bodies faults was mid now came (cloud.Damaged position) not so_far takes = (
  goes_on_then bodies faults was mid now so_far.goes_on takes.0,
  rose_after (faults was.store) (faults mid.store) (faults now.store) so_far.goes_on.count takes.1,
)

-- the call at a place, and those after it
pub drop_one : (calls : List OpenCall) (place : ℕ) (it : OpenCall) → place < length calls →
    drop place calls ≡ slice_index_or calls place it ∷ drop (place + 1) calls
drop_one [] place it within = absurd (omega (arith, within))
drop_one (first ∷ calls) zero it within = refl
drop_one (first ∷ calls) (suc place) it within =
    let next : suc (place + 1) ≡ suc place + 1 = omega arith in
    drop_one calls place it (omega (arith, within))
    ∙ ap (λ (count : ℕ). slice_index_or calls place it ∷ drop count (first ∷ calls)) next

-- a call that has no effect in the stop
pub skips_one : {L : Type 0} (bodies : L → Option (List (List ℕ))) (faults : L → ℕ) (records : Records) (firing : Firing)
    (n : ℕ) (came : Bool) (list rest : List OpenCall) (it : OpenCall) (was now : CloudView L) (cause : Option Cause) →
    list ≡ it ∷ rest → comes firing (it.n == n) it.place ≡ false →
    EachTakes bodies faults records firing n came rest was cause now →
    EachTakes bodies faults records firing n came list was cause now
skips_one bodies faults records firing n came list rest it was now cause is not each =
    subst (λ (calls : List OpenCall). EachTakes bodies faults records firing n came calls was cause now) (sym is)
    (inl (not, each))

-- an open call has its effect, and the others come after it
pub takes_one : {L : Type 0} (bodies : L → Option (List (List ℕ))) (faults : L → ℕ) (records : Records) (firing : Firing)
    (n : ℕ) (came : Bool) (list rest : List OpenCall) (it : OpenCall) (was mid now : CloudView L)
    (cause : Option Cause) → list ≡ it ∷ rest → comes firing (it.n == n) it.place ≡ true →
    Takes bodies faults (Ok tt) was (effect_of records it.n) mid →
    EachTakes bodies faults records firing n true rest mid cause now →
    EachTakes bodies faults records firing n came list was cause now
takes_one bodies faults records firing n came list rest it was mid now cause is may does each =
    subst (λ (calls : List OpenCall). EachTakes bodies faults records firing n came calls was cause now) (sym is)
    (inr (inl (may, (mid, (does, each)))))

-- there is no memory for it
pub lacks_one : {L : Type 0} (bodies : L → Option (List (List ℕ))) (faults : L → ℕ) (records : Records) (firing : Firing)
    (n : ℕ) (came : Bool) (list rest : List OpenCall) (it : OpenCall) (was now : CloudView L)
    (cause : Option Cause) (fault : CloudFault) → fault ≡ cloud.Memory → cause ≡ cause_by came → list ≡ it ∷ rest →
    comes firing (it.n == n) it.place ≡ true →
    Takes bodies faults (Err fault) was (effect_of records it.n) now →
    EachTakes bodies faults records firing n came list was cause now
lacks_one bodies faults records firing n came list rest it was now cause fault lacked by is may does =
    subst (λ (calls : List OpenCall). EachTakes bodies faults records firing n came calls was cause now) (sym is)
    (inr (inr (
      may,
      (
        cloud.Memory,
        (
          subst (λ (f : CloudFault). Takes bodies faults (Err f) was (effect_of records it.n) now) lacked does,
          by,
        ),
      ),
    )))

-- the store fails in it
pub fails_one : {L : Type 0} (bodies : L → Option (List (List ℕ))) (faults : L → ℕ) (records : Records) (firing : Firing)
    (n : ℕ) (came : Bool) (list rest : List OpenCall) (it : OpenCall) (was now : CloudView L) (fault : CloudFault) →
    list ≡ it ∷ rest → comes firing (it.n == n) it.place ≡ true → (fault ≡ cloud.Memory → ⊥) →
    Takes bodies faults (Err fault) was (effect_of records it.n) now →
    EachTakes bodies faults records firing n came list was (Some causes.CloudStore) now
fails_one bodies faults records firing n came list rest it was now cloud.StoreFault is may other does =
    subst (λ (calls : List OpenCall). EachTakes bodies faults records firing n came calls was (Some causes.CloudStore) now)
    (sym is) (inr (inr (may, (cloud.StoreFault, (does, refl)))))
fails_one bodies faults records firing n came list rest it was now cloud.Broken is may other does =
    subst (λ (calls : List OpenCall). EachTakes bodies faults records firing n came calls was (Some causes.CloudStore) now)
    (sym is) (inr (inr (may, (cloud.Broken, (does, refl)))))
fails_one bodies faults records firing n came list rest it was now (cloud.Damaged position) is may other does =
    subst (λ (calls : List OpenCall). EachTakes bodies faults records firing n came calls was (Some causes.CloudStore) now)
    (sym is) (inr (inr (may, ((cloud.Damaged position), (does, refl)))))
fails_one bodies faults records firing n came list rest it was now cloud.Memory is may other does = absurd (other refl)
