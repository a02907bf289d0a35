-- How a store is read, body by body.
use Rattle.std.proofs.Common.{◌≡◌, ℕ, ◌+◌, ◌≤◌, ◌<◌, Option, Some, None, Result, Ok, Err, List, [], refl, sym, ◌∙◌, ap, subst, inl, inr, arith, take, get_or}
use Rattle.std.specs.Prelude.{IfSome, IsErrAnd, length, slice_get}
use Rattle.std.proofs.lemmas.List.{take_all}
use Rattle.std.proofs.lemmas.List.Folds.{fold_stuck}
use Rattle.std.proofs.lemmas.List.Sums.{fold_more}
use Rattle.std.proofs.lemmas.Option.{slice_get-get_or}
use Rattle.bosh_base.specs.declared.entry.Entry.{Entry}
use Rattle.bosh_cloud.specs.Loading.{effects_in, with_body}
use Rattle.bosh_cloud.specs.Reads.{FailsByRise, Reads, ReadsOne, Says, with_effects}
use Rattle.bosh_cloud.specs.declared.fault.CloudFault.{CloudFault}
use Rattle.bosh_cloud.specs.declared.fault.CloudFault.TheVariants.{StoreFault, Damaged, Broken, Memory}
use Rattle.bosh_ports.specs.Faults.{NeverFalls}

-- the bodies before a place were read
pub record SoFar {L : Type 0} (bodies : L → Option (List (List ℕ))) (faults : L → ℕ) (first now : L) (place last : ℕ)
    (effects : List Entry) : Type 0 where
  pub count : NeverFalls (faults first) (faults now)
  pub list : IfSome (bodies first) (λ list. bodies now ≡ Some list)
  pub size : IfSome (bodies first) (λ list. last ≡ length list)
  pub found : IfSome (bodies first) (λ list. effects_in (take place list) ≡ Ok effects)

-- the next body, by its place
body_at : (list : List (List ℕ)) (place : ℕ) (found : Result (List Entry) CloudFault) (before : List Entry) →
    place < length list → effects_in (take place list) ≡ Ok before →
    IfSome (slice_get list place) (λ body. Says found (with_body (Ok before) body)) →
    Says found (effects_in (take (place + 1) list))
body_at list place found before within is says =
    let read : Says found (with_body (Ok before) (get_or list place [])) =
    subst (λ (it : Option (List ℕ)). IfSome it (λ body. Says found (with_body (Ok before) body)))
    (slice_get-get_or list place [] within) says in
    subst (Says found) (sym (fold_more with_body (Ok []) list place [] within
    ∙ ap (λ front. with_body front (get_or list place [])) is)) read

found_more : (told later : Option (List (List ℕ))) (place last : ℕ) (before after : List Entry) → place < last →
    IfSome told (λ list. later ≡ Some list) → IfSome told (λ list. last ≡ length list) →
    IfSome told (λ list. effects_in (take place list) ≡ Ok before) →
    IfSome later (λ list. IfSome (slice_get list place) (λ body. Says (Ok after) (with_body (Ok before) body))) →
    IfSome told (λ list. effects_in (take (place + 1) list) ≡ Ok after)
found_more None later place last before after within list size found says = tt
found_more (Some bodies) later place last before after within list size found says =
    body_at bodies place (Ok after) before (omega (arith, size, within)) found
    (subst (λ (it : Option (List (List ℕ))).
    IfSome it (λ list. IfSome (slice_get list place) (λ body. Says (Ok after) (with_body (Ok before) body)))) list says)

-- a store that is the same after two steps
pub list_along : (told mid later : Option (List (List ℕ))) → IfSome told (λ list. mid ≡ Some list) →
    IfSome mid (λ list. later ≡ Some list) → IfSome told (λ list. later ≡ Some list)
list_along None mid later first second = tt
list_along (Some bodies) mid later first second =
    subst (λ (it : Option (List (List ℕ))). IfSome it (λ list. later ≡ Some list)) first second

pub SoFar-more : {L : Type 0} (bodies : L → Option (List (List ℕ))) (faults : L → ℕ) (first mid now : L)
    (place last : ℕ) (before after : List Entry) → place < last → SoFar bodies faults first mid place last before →
    ReadsOne bodies faults mid place before (Ok after) now → SoFar bodies faults first now (place + 1) last after
SoFar-more bodies faults first mid now place last before after within far reads = record {
  count = omega (arith, far.count, reads.count);
  list = list_along (bodies first) (bodies mid) (bodies now) far.list reads.list;
  size = far.size;
  found = found_more (bodies first) (bodies mid) place last before after within far.list far.size far.found reads.says;
}

-- a faulty body is the first one
stuck : (place : ℕ) (body : List ℕ) → with_body (Err place) body ≡ Err place
stuck place body = refl

first_faulty : (list : List (List ℕ)) (place : ℕ) (fault : CloudFault) (before : List Entry) → place < length list →
    effects_in (take place list) ≡ Ok before →
    IfSome (slice_get list place) (λ body. Says (Err fault) (with_body (Ok before) body)) →
    Says (Err fault) (effects_in list)
first_faulty list place StoreFault before within is says = tt
first_faulty list place (Damaged position) before within is says =
    let read : with_body (Ok before) (get_or list place []) ≡ Err position =
    subst (λ (it : Option (List ℕ)). IfSome it (λ body. Says (Err (Damaged position)) (with_body (Ok before) body)))
    (slice_get-get_or list place [] within) says in
    sym (fold_stuck with_body (Err position) (stuck position) (Ok []) list place [] within
    (ap (λ front. with_body front (get_or list place [])) is ∙ read))
first_faulty list place Broken before within is says = tt
first_faulty list place Memory before within is says = tt

says_faulty : (told later : Option (List (List ℕ))) (place last : ℕ) (before : List Entry) (fault : CloudFault) →
    place < last → IfSome told (λ list. later ≡ Some list) → IfSome told (λ list. last ≡ length list) →
    IfSome told (λ list. effects_in (take place list) ≡ Ok before) →
    IfSome later (λ list. IfSome (slice_get list place) (λ body. Says (Err fault) (with_body (Ok before) body))) →
    IfSome told (λ list. Says (Err fault) (effects_in list))
says_faulty None later place last before fault within list size found says = tt
says_faulty (Some bodies) later place last before fault within list size found says =
    first_faulty bodies place fault before (omega (arith, size, within)) found
    (subst (λ (it : Option (List (List ℕ))).
    IfSome it (λ list. IfSome (slice_get list place) (λ body. Says (Err fault) (with_body (Ok before) body)))) list says)

-- a rise in a later step is one in both
rises_along : {T : Type 0} (result : Result T CloudFault) (first mid now : ℕ) → first ≤ mid →
    FailsByRise result mid now → FailsByRise result first now
rises_along (Ok value) first mid now more fails = tt
rises_along (Err StoreFault) first mid now more (inl rose) = inl (omega arith)
rises_along (Err StoreFault) first mid now more (inr last) = inr last
rises_along (Err (Damaged position)) first mid now more fails = tt
rises_along (Err Broken) first mid now more fails = absurd fails
rises_along (Err Memory) first mid now more fails = tt

-- a body that is refused
pub Reads-refused : {L : Type 0} (bodies : L → Option (List (List ℕ))) (faults : L → ℕ) (first mid now : L)
    (place last : ℕ) (before : List Entry) (fault : CloudFault) → place < last →
    SoFar bodies faults first mid place last before → ReadsOne bodies faults mid place before (Err fault) now →
    Reads bodies faults first (Err fault) now
Reads-refused bodies faults first mid now place last before fault within far reads = record {
  says = says_faulty (bodies first) (bodies mid) place last before fault within far.list far.size far.found reads.says;
  list = list_along (bodies first) (bodies mid) (bodies now) far.list reads.list;
  failed = rises_along {T = List Entry} (Err fault) (faults first) (faults mid) (faults now) far.count reads.failed;
  count = omega (arith, far.count, reads.count);
}

-- all bodies were read
found_all : (told : Option (List (List ℕ))) (place last : ℕ) (effects : List Entry) → last ≤ place →
    IfSome told (λ list. last ≡ length list) → IfSome told (λ list. effects_in (take place list) ≡ Ok effects) →
    IfSome told (λ list. effects_in list ≡ Ok effects)
found_all None place last effects past size found = tt
found_all (Some bodies) place last effects past size found =
    ap effects_in (sym (take_all place bodies (omega (arith, size, past)))) ∙ found

pub Reads-all : {L : Type 0} (bodies : L → Option (List (List ℕ))) (faults : L → ℕ) (first now : L) (place last : ℕ)
    (effects : List Entry) → last ≤ place → SoFar bodies faults first now place last effects →
    Reads bodies faults first (Ok effects) now
Reads-all bodies faults first now place last effects past far = record {
  says = found_all (bodies first) place last effects past far.size far.found;
  list = far.list;
  failed = tt;
  count = far.count;
}

-- nothing was read yet
found_none : (told : Option (List (List ℕ))) → IfSome told (λ list. effects_in (take 0 list) ≡ Ok [])
found_none None = tt
found_none (Some list) = refl

same_told : (told : Option (List (List ℕ))) → IfSome told (λ list. told ≡ Some list)
same_told None = tt
same_told (Some list) = refl

pub SoFar-none : {L : Type 0} (bodies : L → Option (List (List ℕ))) (faults : L → ℕ) (first : L) (last : ℕ)
    (effects : List Entry) → effects ≡ [] → IfSome (bodies first) (λ list. last ≡ length list) →
    SoFar bodies faults first first 0 last effects
SoFar-none {L} bodies faults first last effects none size =
    subst (λ (it : List Entry). SoFar bodies faults first first 0 last it) (sym none) (record {
      count = omega arith;
      list = same_told (bodies first);
      size = size;
      found = found_none (bodies first);
    })

-- a store that was reloaded before
says_after : (told later : Option (List (List ℕ))) (found : Result (List Entry) CloudFault) →
    IfSome told (λ list. later ≡ Some list) → IfSome later (λ list. Says found (effects_in list)) →
    IfSome told (λ list. Says found (effects_in list))
says_after None later found list says = tt
says_after (Some bodies) later found list says =
    subst (λ (it : Option (List (List ℕ))). IfSome it (λ list. Says found (effects_in list))) list says

pub Reads-after : {L : Type 0} (bodies : L → Option (List (List ℕ))) (faults : L → ℕ) (first mid now : L)
    (found : Result (List Entry) CloudFault) → IfSome (bodies first) (λ list. bodies mid ≡ Some list) →
    NeverFalls (faults first) (faults mid) → Reads bodies faults mid found now → Reads bodies faults first found now
Reads-after bodies faults first mid now found list count reads = record {
  says = says_after (bodies first) (bodies mid) found list reads.says;
  list = list_along (bodies first) (bodies mid) (bodies now) list reads.list;
  failed = rises_along found (faults first) (faults mid) (faults now) count reads.failed;
  count = omega (arith, count, reads.count);
}

-- a fault that is handed on
pub Reads-told : {L : Type 0} (bodies : L → Option (List (List ℕ))) (faults : L → ℕ) (first now : L)
    (result : Result (Unit {0}) CloudFault) (fault : CloudFault) (effects : List Entry) →
    IsErrAnd result (λ it. it ≡ fault) → Reads bodies faults first (Err fault) now →
    Reads bodies faults first (with_effects result effects) now
Reads-told bodies faults first now (Ok value) fault effects is reads = absurd is
Reads-told bodies faults first now (Err it) fault effects is reads =
    subst (λ (told : CloudFault). Reads bodies faults first (Err told) now) (sym is) reads
