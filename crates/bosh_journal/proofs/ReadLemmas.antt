-- How a store is read, body by body.
use Rattle.std.proofs.Common.{◌≡◌, ℕ, ◌+◌, ◌≤◌, ◌<◌, Bool, false, Option, Some, None, Result, Ok, Err, List, [], ◌∷◌, ◌++◌, map, refl, sym, ◌∙◌, ap, subst, inl, inr, arith, take, get_or}
use Rattle.std.specs.Prelude.{IfSome, length, slice_get}
use Rattle.std.proofs.lemmas.List.{map-append, map_more, take_all}
use Rattle.std.proofs.lemmas.Option.{slice_get-get_or}
use Rattle.bosh_base.specs.declared.entry.Entry.{Entry}
use Rattle.bosh_journal.specs.Reads.{FailsByRise, Finds, Mends, SaysAt, SaysIn, SaysNext}
use Rattle.bosh_journal.specs.Spelled.{entry_in, IsDamagedIn, SpellIn}
use Rattle.bosh_journal.specs.declared.fault.JournalFault.{JournalFault}
use Rattle.bosh_journal.specs.declared.fault.JournalFault.TheVariants.{StoreFault, Damaged, Broken, Memory}
use Rattle.bosh_journal.specs.declared.format.Format.{Format}
use Rattle.bosh_ports.specs.Faults.{NeverFalls}

-- the bodies before a place were read
pub record SoFar {K : Type 0} (bodies : K → Option (List (List ℕ))) (faults : K → ℕ) (first now : K) (format : Format)
    (place last : ℕ) (entries : List Entry) : Type 0 where
  pub count : NeverFalls (faults first) (faults now)
  pub list : IfSome (bodies first) (λ list. bodies now ≡ Some list)
  pub size : IfSome (bodies first) (λ list. last ≡ length list)
  pub found : IfSome (bodies first) (λ list. SpellIn format (take place list) entries)

-- the next body, by its place
spelled_more : (format : Format) (list : List (List ℕ)) (place : ℕ) (before after : List Entry) → place < length list →
    SpellIn format (take place list) before → IfSome (slice_get list place) (SaysNext format before place (Ok after)) →
    SpellIn format (take (place + 1) list) after
spelled_more format list place before after within is says =
    let read : SaysNext format before place (Ok after) (get_or list place []) =
    subst (λ (it : Option (List ℕ)). IfSome it (SaysNext format before place (Ok after)))
    (slice_get-get_or list place [] within) says in
    map_more (entry_in format) list place [] within
    ∙ ap (λ xs. xs ++ entry_in format (get_or list place []) ∷ []) is
    ∙ ap (λ x. map Some before ++ x ∷ []) read.1
    ∙ sym (map-append Some before (read.0 ∷ []))
    ∙ ap (map Some) (sym read.2)

found_more : (told later : Option (List (List ℕ))) (format : Format) (place last : ℕ) (before after : List Entry) →
    place < last → IfSome told (λ list. later ≡ Some list) → IfSome told (λ list. last ≡ length list) →
    IfSome told (λ list. SpellIn format (take place list) before) → IfSome later (SaysAt format before place (Ok after)) →
    IfSome told (λ list. SpellIn format (take (place + 1) list) after)
found_more None later format place last before after within list size found says = tt
found_more (Some bodies) later format place last before after within list size found says =
    spelled_more format bodies place before after (omega (arith, size, within)) found
    (subst (λ (it : Option (List (List ℕ))). IfSome it (SaysAt format before place (Ok after))) list says)

-- a store that is the same after two steps
pub list_along : (told mid later : Option (List (List ℕ))) → IfSome told (λ list. mid ≡ Some list) →
    IfSome mid (λ list. later ≡ Some list) → IfSome told (λ list. later ≡ Some list)
list_along None mid later first second = tt
list_along (Some bodies) mid later first second =
    subst (λ (it : Option (List (List ℕ))). IfSome it (λ list. later ≡ Some list)) first second

pub SoFar-more : {K : Type 0} (bodies : K → Option (List (List ℕ))) (faults : K → ℕ) (is_broken : K → Bool)
    (first mid now : K) (format : Format) (place last : ℕ) (before after : List Entry) → place < last →
    SoFar bodies faults first mid format place last before →
    Finds bodies faults is_broken (SaysAt format before place) mid (Ok after) now →
    SoFar bodies faults first now format (place + 1) last after
SoFar-more bodies faults is_broken first mid now format place last before after within far reads = record {
  count = omega (arith, far.count, reads.count);
  list = list_along (bodies first) (bodies mid) (bodies now) far.list reads.list;
  size = far.size;
  found = found_more (bodies first) (bodies mid) format place last before after within far.list far.size far.found
      reads.says;
}

-- a body that spells none is the first one
first_damaged : (format : Format) (list : List (List ℕ)) (place : ℕ) (fault : JournalFault) (before : List Entry) →
    place < length list → SpellIn format (take place list) before → SaysAt format before place (Err fault) list →
    SaysIn format (Err fault) list
first_damaged format list place StoreFault before within is says = tt
first_damaged format list place (Damaged position) before within is says =
    let read : SaysNext format before place (Err (Damaged position)) (get_or list place []) =
    subst (λ (it : Option (List ℕ)). IfSome it (SaysNext format before place (Err (Damaged position))))
    (slice_get-get_or list place [] within) says in
    subst (IsDamagedIn format list) (sym read.0) (record {
      before = before;
      spelled = is;
      body = get_or list place [];
      there = slice_get-get_or list place [] within;
      none = read.1;
    })
first_damaged format list place Broken before within is says = tt
first_damaged format list place Memory before within is says = tt

says_damaged : (told later : Option (List (List ℕ))) (format : Format) (place last : ℕ) (before : List Entry)
    (fault : JournalFault) → place < last → IfSome told (λ list. later ≡ Some list) →
    IfSome told (λ list. last ≡ length list) → IfSome told (λ list. SpellIn format (take place list) before) →
    IfSome later (SaysAt format before place (Err fault)) → IfSome told (SaysIn format (Err fault))
says_damaged None later format place last before fault within list size found says = tt
says_damaged (Some bodies) later format place last before fault within list size found says =
    first_damaged format bodies place fault before (omega (arith, size, within)) found
    (subst (λ (it : Option (List (List ℕ))). IfSome it (SaysAt format before place (Err fault))) list says)

-- a rise in a later step is one in both
pub rises_along : {T : Type 0} (result : Result T JournalFault) (first mid now : ℕ) → first ≤ mid →
    FailsByRise result mid now → FailsByRise result first now
rises_along (Ok value) first mid now more fails = tt
rises_along (Err StoreFault) first mid now more (inl rose) = inl (omega arith)
rises_along (Err StoreFault) first mid now more (inr last) = inr last
rises_along (Err (Damaged position)) first mid now more fails = tt
rises_along (Err Broken) first mid now more fails = absurd fails
rises_along (Err Memory) first mid now more fails = tt

-- how a whole store is left, whichever one it was before
pub mends_along : {T : Type 0} (result : Result T JournalFault) (was mid is : Bool) → mid ≡ false → Mends result mid is →
    Mends result was is
mends_along (Ok value) was mid is whole mends = mends
mends_along (Err StoreFault) was mid is whole mends = mends
mends_along (Err (Damaged position)) was mid is whole mends = mends
mends_along (Err Broken) was mid is whole mends = mends
mends_along (Err Memory) was mid is whole mends = λ _. mends whole

-- a body that is refused
pub Finds-refused : {K : Type 0} (bodies : K → Option (List (List ℕ))) (faults : K → ℕ) (is_broken : K → Bool)
    (first mid now : K) (format : Format) (place last : ℕ) (before : List Entry) (fault : JournalFault) →
    place < last → is_broken mid ≡ false → SoFar bodies faults first mid format place last before →
    Finds bodies faults is_broken (SaysAt format before place) mid (Err fault) now →
    Finds bodies faults is_broken (SaysIn format) first (Err fault) now
Finds-refused bodies faults is_broken first mid now format place last before fault within whole far reads = record {
  says = says_damaged (bodies first) (bodies mid) format place last before fault within far.list far.size far.found
      reads.says;
  list = list_along (bodies first) (bodies mid) (bodies now) far.list reads.list;
  failed = rises_along {T = List Entry} (Err fault) (faults first) (faults mid) (faults now) far.count reads.failed;
  count = omega (arith, far.count, reads.count);
  mends = mends_along {T = List Entry} (Err fault) (is_broken first) (is_broken mid) (is_broken now) whole reads.mends;
}

-- all bodies were read
found_all : (told : Option (List (List ℕ))) (format : Format) (place last : ℕ) (entries : List Entry) → last ≤ place →
    IfSome told (λ list. last ≡ length list) → IfSome told (λ list. SpellIn format (take place list) entries) →
    IfSome told (SaysIn format (Ok entries))
found_all None format place last entries past size found = tt
found_all (Some bodies) format place last entries past size found =
    ap (map (entry_in format)) (sym (take_all place bodies (omega (arith, size, past)))) ∙ found

pub Finds-all : {K : Type 0} (bodies : K → Option (List (List ℕ))) (faults : K → ℕ) (is_broken : K → Bool)
    (first now : K) (format : Format) (place last : ℕ) (entries : List Entry) → last ≤ place →
    is_broken now ≡ false → SoFar bodies faults first now format place last entries →
    Finds bodies faults is_broken (SaysIn format) first (Ok entries) now
Finds-all bodies faults is_broken first now format place last entries past whole far = record {
  says = found_all (bodies first) format place last entries past far.size far.found;
  list = far.list;
  failed = tt;
  count = far.count;
  mends = whole;
}

-- nothing was read yet
found_none : (told : Option (List (List ℕ))) (format : Format) → IfSome told (λ list. SpellIn format (take 0 list) [])
found_none None format = tt
found_none (Some list) format = refl

same_told : (told : Option (List (List ℕ))) → IfSome told (λ list. told ≡ Some list)
same_told None = tt
same_told (Some list) = refl

pub SoFar-none : {K : Type 0} (bodies : K → Option (List (List ℕ))) (faults : K → ℕ) (first : K) (format : Format)
    (last : ℕ) (entries : List Entry) → entries ≡ [] → IfSome (bodies first) (λ list. last ≡ length list) →
    SoFar bodies faults first first format 0 last entries
SoFar-none {K} bodies faults first format last entries none size =
    subst (λ (it : List Entry). SoFar bodies faults first first format 0 last it) (sym none) (record {
      count = omega arith;
      list = same_told (bodies first);
      size = size;
      found = found_none (bodies first) format;
    })
