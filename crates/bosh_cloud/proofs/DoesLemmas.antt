-- What is done to a cloud in each case of its answer.
use Rattle.std.proofs.Common.{◌≡◌, ℕ, Bool, true, false, Option, Some, None, Result, Ok, Err, List, [], ◌∷◌, ◌++◌, refl, sym, ◌∙◌, ap, subst, arith, append-nil}
use Rattle.std.specs.Prelude.{◌⊎◌, IfSome}
use Rattle.bosh_base.specs.declared.entry.Entry.{Entry}
use Rattle.bosh_cloud.proofs.LoadingLemmas.{TellsAll-failed, TellsAll-more, TellsAll-whole}
use Rattle.bosh_cloud.specs.CloudView.{CloudView}
use Rattle.bosh_cloud.specs.Notes.{Does, Notes}
use Rattle.bosh_fates.specs.declared.fate.Doom.{Doom}
use Rattle.bosh_cloud.specs.declared.fault.CloudFault.{CloudFault}
use Rattle.bosh_cloud.specs.declared.fault.CloudFault.TheVariants.{StoreFault, Damaged, Broken, Memory}
use Rattle.bosh_entry.specs.Body.{spelling}
use Rattle.bosh_inventory.specs.Happens.{MayFollow}
use Rattle.bosh_registers.specs.Store.{Appends}
use Rattle.bosh_registers.specs.declared.put_fault.PutFault.{PutFault}
use Rattle.bosh_registers.specs.declared.put_fault.PutFault.TheVariants as put
use Rattle.bosh_ports.specs.Faults.{NeverFalls, Rose}
use Rattle.bosh_entry.proofs.BodyLemmas.{whole_again}
use Rattle.bosh_entry.specs.declared.format.Format.TheVariants.{Present}

same_told : (told : Option (List (List ℕ))) → IfSome told (λ list. told ≡ Some list)
same_told None = tt
same_told (Some list) = refl

same_front : (told : Option (List (List ℕ))) → IfSome told (λ list. told ≡ Some (list ++ []))
same_front None = tt
same_front (Some list) = ap Some (sym (append-nil list))

-- nothing is to be done
pub Does-nothing : {L T : Type 0} (bodies : L → Option (List (List ℕ))) (faults : L → ℕ) (value : T)
    (was : CloudView L) → was.is_stale ≡ false → Does bodies faults (Ok value) was [] was
Does-nothing bodies faults value was whole = record {
  notes = (whole, whole, sym (append-nil was.effects), same_front (bodies was.store));
  count = omega arith;
  kept = λ kept. kept;
}

-- memory is short
pub Does-memory : {L T : Type 0} (bodies : L → Option (List (List ℕ))) (faults : L → ℕ) (was : CloudView L)
    (added : List Entry) → was.is_stale ≡ false → Does {T = T} bodies faults (Err Memory) was added was
Does-memory bodies faults was added whole = record {
  notes = (whole, whole, refl, same_told (bodies was.store));
  count = omega arith;
  kept = λ kept. kept;
}

-- the cloud is to be reloaded
pub Does-broken : {L T : Type 0} (bodies : L → Option (List (List ℕ))) (faults : L → ℕ) (was : CloudView L)
    (added : List Entry) → was.is_stale ≡ true → Does {T = T} bodies faults (Err Broken) was added was
Does-broken bodies faults was added stale = record {
  notes = (stale, stale, refl, refl, refl);
  count = omega arith;
  kept = λ kept. kept;
}

-- the store took the body
pub Does-kept : {L T : Type 0} (bodies : L → Option (List (List ℕ))) (faults : L → ℕ) (value : T)
    (was now : CloudView L) (entry : Entry) → was.is_stale ≡ false → now.is_stale ≡ false →
    now.effects ≡ was.effects ++ entry ∷ [] →
    IfSome (bodies was.store) (λ list. bodies now.store ≡ Some (list ++ spelling entry ∷ [])) →
    NeverFalls (faults was.store) (faults now.store) → MayFollow was.effects entry →
    Does bodies faults (Ok value) was (entry ∷ []) now
Does-kept bodies faults value was now entry whole stays grown list count follows = record {
  notes = (whole, stays, grown, list);
  count = count;
  kept = TellsAll-more (bodies was.store) (bodies now.store) was.is_stale now.is_stale was.pending now.pending was.effects
      now.effects entry whole stays grown list follows;
}

-- the store failed
pub Does-failed : {L T : Type 0} (bodies : L → Option (List (List ℕ))) (faults : L → ℕ) (was now : CloudView L)
    (entry : Entry) → was.is_stale ≡ false → now.is_stale ≡ true → now.pending ≡ Some (spelling entry) → now.effects ≡ was.effects →
    Rose (faults was.store) (faults now.store) →
    IfSome (bodies was.store)
    (λ list. (bodies now.store ≡ Some list) ⊎ (bodies now.store ≡ Some (list ++ spelling entry ∷ []))) →
    NeverFalls (faults was.store) (faults now.store) → MayFollow was.effects entry →
    Does {T = T} bodies faults (Err StoreFault) was (entry ∷ []) now
Does-failed bodies faults was now entry whole fails named same rose list count follows = record {
  notes = (whole, fails, same, (named, whole_again Present entry follows.spelled), rose, list);
  count = count;
  kept = TellsAll-failed (bodies was.store) (bodies now.store) was.is_stale now.is_stale was.pending now.pending was.effects
      now.effects entry whole fails named same list follows;
}

-- the store had no memory for it
pub Does-unkept : {L T : Type 0} (bodies : L → Option (List (List ℕ))) (faults : L → ℕ) (was now : CloudView L)
    (added : List Entry) → was.is_stale ≡ false → now.is_stale ≡ false → now.effects ≡ was.effects →
    IfSome (bodies was.store) (λ list. bodies now.store ≡ Some list) →
    NeverFalls (faults was.store) (faults now.store) → Does {T = T} bodies faults (Err Memory) was added now
Does-unkept bodies faults was now added whole stays same list count = record {
  notes = (whole, stays, same, list);
  count = count;
  kept = TellsAll-whole (bodies was.store) (bodies now.store) was.is_stale now.is_stale was.pending now.pending was.effects
      now.effects list whole stays same;
}

-- the same fault of another call
notes_again : {L : Type 0} (T U : Type 0) (bodies : L → Option (List (List ℕ))) (faults : L → ℕ) (fault : CloudFault)
    (was : CloudView L) (added : List Entry) (now : CloudView L) →
    Notes {T = T} bodies faults (Err fault) was added now → Notes {T = U} bodies faults (Err fault) was added now
notes_again T U bodies faults StoreFault was added now notes = notes
notes_again T U bodies faults (Damaged position) was added now notes = notes
notes_again T U bodies faults Broken was added now notes = notes
notes_again T U bodies faults Memory was added now notes = notes

pub Does-again : {L T U : Type 0} (bodies : L → Option (List (List ℕ))) (faults : L → ℕ) (fault : CloudFault)
    (was : CloudView L) (added : List Entry) (now : CloudView L) →
    Does {T = T} bodies faults (Err fault) was added now → Does {T = U} bodies faults (Err fault) was added now
Does-again {L} {T} {U} bodies faults fault was added now does = record {
  notes = notes_again T U bodies faults fault was added now does.notes;
  count = does.count;
  kept = does.kept;
}

-- another answer to what was done
pub Does-answered : {L T U : Type 0} (bodies : L → Option (List (List ℕ))) (faults : L → ℕ) (value : T) (other : U)
    (was : CloudView L) (added : List Entry) (now : CloudView L) →
    Does bodies faults (Ok value) was added now → Does bodies faults (Ok other) was added now
Does-answered bodies faults value other was added now does =
    record { notes = does.notes; count = does.count; kept = does.kept }

-- the fates are spent after it
notes_spent : {L T : Type 0} (bodies : L → Option (List (List ℕ))) (faults : L → ℕ) (result : Result T CloudFault)
    (was : CloudView L) (added : List Entry) (mid : CloudView L) (dooms : List Doom) (fired : ℕ) →
    Notes bodies faults result was added mid →
    Notes bodies faults result was added (record mid { dooms = dooms; fired = fired })
notes_spent bodies faults (Ok value) was added mid dooms fired notes = notes
notes_spent bodies faults (Err StoreFault) was added mid dooms fired notes = notes
notes_spent bodies faults (Err (Damaged position)) was added mid dooms fired notes = notes
notes_spent bodies faults (Err Broken) was added mid dooms fired notes = notes
notes_spent bodies faults (Err Memory) was added mid dooms fired notes = notes

pub Does-spent : {L T : Type 0} (bodies : L → Option (List (List ℕ))) (faults : L → ℕ) (result : Result T CloudFault)
    (was : CloudView L) (added : List Entry) (mid now : CloudView L) (dooms : List Doom) (fired : ℕ) →
    now ≡ record mid { dooms = dooms; fired = fired } → Does bodies faults result was added mid →
    Does bodies faults result was added now
Does-spent {L} bodies faults result was added mid now dooms fired is does =
    subst (λ (it : CloudView L). Does bodies faults result was added it) (sym is) (record {
      notes = notes_spent bodies faults result was added mid dooms fired does.notes;
      count = does.count;
      kept = does.kept;
    })

-- where what was is seen by its parts
pub Does-kept_seen : {L T : Type 0} (bodies : L → Option (List (List ℕ))) (faults : L → ℕ) (value : T)
    (seen was now : CloudView L) (entry : Entry) → seen ≡ was → was.is_stale ≡ false → now.is_stale ≡ seen.is_stale →
    now.effects ≡ seen.effects ++ entry ∷ [] →
    IfSome (bodies seen.store) (λ list. bodies now.store ≡ Some (list ++ spelling entry ∷ [])) →
    NeverFalls (faults seen.store) (faults now.store) → MayFollow was.effects entry →
    Does bodies faults (Ok value) was (entry ∷ []) now
Does-kept_seen {L} bodies faults value seen was now entry is whole same grown list count follows =
    let whole_seen : seen.is_stale ≡ false = ap (λ (it : CloudView L). it.is_stale) is ∙ whole in
    subst (λ (it : CloudView L). Does bodies faults (Ok value) it (entry ∷ []) now) is
    (Does-kept bodies faults value seen now entry whole_seen (same ∙ whole_seen) grown list count
    (subst (λ (it : CloudView L). MayFollow it.effects entry) (sym is) follows))

pub Does-failed_seen : {L T : Type 0} (bodies : L → Option (List (List ℕ))) (faults : L → ℕ)
    (seen was now : CloudView L) (entry : Entry) → seen ≡ was → was.is_stale ≡ false → now.is_stale ≡ true →
    now.pending ≡ Some (spelling entry) → now.effects ≡ seen.effects → Rose (faults seen.store) (faults now.store) →
    IfSome (bodies seen.store)
    (λ list. (bodies now.store ≡ Some list) ⊎ (bodies now.store ≡ Some (list ++ spelling entry ∷ []))) →
    NeverFalls (faults seen.store) (faults now.store) → MayFollow was.effects entry →
    Does {T = T} bodies faults (Err StoreFault) was (entry ∷ []) now
Does-failed_seen {L} {T} bodies faults seen was now entry is whole fails named same rose list count follows =
    let whole_seen : seen.is_stale ≡ false = ap (λ (it : CloudView L). it.is_stale) is ∙ whole in
    subst (λ (it : CloudView L). Does {T = T} bodies faults (Err StoreFault) it (entry ∷ []) now) is
    (Does-failed bodies faults seen now entry whole_seen fails named same rose list count
    (subst (λ (it : CloudView L). MayFollow it.effects entry) (sym is) follows))

-- what is known of a store that failed
pub failed-store : {L : Type 0} (bodies : L → Option (List (List ℕ))) (faults : L → ℕ) (is_broken : L → Bool)
    (fault : PutFault) (was : L) (body : List ℕ) (now : L) → fault ≡ put.StoreFailed →
    Appends {T = Unit {0}} bodies faults is_broken (Err fault) was body now →
    Rose (faults was) (faults now)
    × IfSome (bodies was) (λ list. (bodies now ≡ Some list) ⊎ (bodies now ≡ Some (list ++ body ∷ [])))
failed-store bodies faults is_broken put.StoreFailed was body now is appends = (appends.1, appends.2)
failed-store bodies faults is_broken put.Memory was body now is appends = absurd cc
