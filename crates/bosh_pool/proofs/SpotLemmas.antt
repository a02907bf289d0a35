-- A search for free addresses goes on.
use Rattle.std.proofs.Common.{◌≡◌, ℕ, ◌+◌, ◌<◌, ◌≤◌, Bool, true, false, ◌&&◌, ◌||◌, not, nat_le, List, get_or, length, arith, refl, sym, ◌∙◌, inl, inr}
use Rattle.std.specs.BTreeSet.{BTreeSet}
use Rattle.std.proofs.lemmas.Bool.{cases_lt, lt-leb, le-leb}
use Rattle.std.proofs.lemmas.List.Elements.{All-from_get_or}
use Rattle.std.proofs.lemmas.List.Folds.{list_any_none}
use Rattle.bosh_base.specs.Plan.{is_in_some, is_reserved, is_within}
use Rattle.bosh_base.specs.declared.addr.Addr.{Addr}
use Rattle.bosh_base.specs.declared.addr.Band.{Band}
use Rattle.bosh_base.specs.declared.plan.Subnet.{Subnet}
use Rattle.bosh_pool.specs.declared.spot.Spot.{Spot}
use Rattle.bosh_pool.specs.Free.{AreClosed, ArePassed, FreeAt, NoneBelow, is_free, is_open, is_used}

and_false : (x : Bool) → (x && false) ≡ false
and_false true = refl
and_false false = refl

above : (addr : Addr) (band : Band) → addr.0 < band.first.0 → is_within addr band ≡ false
above addr band lower = rw (lt-leb band.first.0 addr.0 lower) refl

below : (addr : Addr) (band : Band) → band.last.0 < addr.0 → is_within addr band ≡ false
below addr band lower = rw (lt-leb addr.0 band.last.0 lower) (and_false (nat_le band.first.0 addr.0))

-- a number above the bands that were passed and below the others is in none
pub clear_at : (bands : List Band) (spot : Spot) (d : Band) → ArePassed bands spot → ((k : ℕ) → spot.passed ≤ k → k < length bands → spot.next < (get_or bands k d).first.0)
    → (addr : Addr) → addr.0 ≡ spot.next → is_in_some addr bands ≡ false
clear_at bands spot d passed later addr is =
    list_any_none (λ band. is_within addr band) bands
    (All-from_get_or (λ band. is_within addr band ≡ false) bands d (λ k within.
    elim (cases_lt k spot.passed) [
      | inl before ↦ below addr (get_or bands k d) (omega (arith, passed k d before))
      | inr behind ↦ above addr (get_or bands k d) (omega (arith, later k behind within))
    ]))

-- what is shut is not free
shut_not_free : (within reserved fixed held : Bool) → (reserved || fixed) ≡ true → ((within && (not reserved && not fixed)) && not held) ≡ false
shut_not_free true true fixed held h = refl
shut_not_free true false true held h = refl
shut_not_free true false false held h = absurd (cc)
shut_not_free false reserved fixed held h = refl

all_free : (within reserved fixed held : Bool) → within ≡ true → (reserved || fixed) ≡ false → held ≡ false → ((within && (not reserved && not fixed)) && not held) ≡ true
all_free true true fixed held w h u = absurd (cc)
all_free true false true held w h u = absurd (cc)
all_free true false false true w h u = absurd (cc)
all_free true false false false w h u = refl
all_free false reserved fixed held w h u = absurd (cc)

-- an address in a closed band is not free
closed_not_free : (subnet : Subnet) (bands : List Band) (used : BTreeSet ℕ) (addr : Addr) → AreClosed subnet bands → is_in_some addr bands ≡ true → is_free subnet used addr ≡ false
closed_not_free subnet bands used addr closed inside =
    let shut : (is_reserved subnet addr || is_in_some addr subnet.fixed) ≡ true = sym (closed addr) ∙ inside in
    shut_not_free (is_within addr subnet.range) (is_reserved subnet addr) (is_in_some addr subnet.fixed) (is_used used addr) shut

-- nor is one in use
pub used_not_free : (subnet : Subnet) (used : BTreeSet ℕ) (addr : Addr) → is_used used addr ≡ true → is_free subnet used addr ≡ false
used_not_free subnet used addr held = rw held (and_false (is_open subnet addr))

-- no address below a later number is free
pub none_further : (subnet : Subnet) (bands : List Band) (used : BTreeSet ℕ) (from next : ℕ) → AreClosed subnet bands → NoneBelow subnet used from
    → ((addr : Addr) → from ≤ addr.0 → addr.0 < next → is_in_some addr bands ≡ true) → NoneBelow subnet used next
none_further subnet bands used from next closed none inside addr lower =
    elim (cases_lt addr.0 from) [
      | inl before ↦ none addr before
      | inr behind ↦ closed_not_free subnet bands used addr closed (inside addr behind lower)
    ]

-- and none below the number behind one in use
pub none_behind : (subnet : Subnet) (used : BTreeSet ℕ) (next : ℕ) → NoneBelow subnet used next → ((addr : Addr) → addr.0 ≡ next → is_used used addr ≡ true) → NoneBelow subnet used (next + 1)
none_behind subnet used next none held addr lower =
    elim (cases_lt addr.0 next) [
      | inl before ↦ none addr before
      | inr behind ↦ used_not_free subnet used addr (held addr (omega arith))
    ]

-- an address in the range, in no closed band and not in use, is free
pub free_at : (subnet : Subnet) (bands : List Band) (used : BTreeSet ℕ) (next : ℕ) → AreClosed subnet bands → subnet.range.first.0 ≤ next
    → ((addr : Addr) → addr.0 ≡ next → is_in_some addr bands ≡ false) → (next ≤ subnet.range.last.0 → (addr : Addr) → addr.0 ≡ next → is_used used addr ≡ false) → FreeAt subnet used next
free_at subnet bands used next closed begun clear unused addr is within =
    let first : is_within addr subnet.range ≡ true = rw (le-leb subnet.range.first.0 addr.0 (omega arith), le-leb addr.0 subnet.range.last.0 (omega arith)) refl in
    let open_ : (is_reserved subnet addr || is_in_some addr subnet.fixed) ≡ false = sym (closed addr) ∙ clear addr is in
    all_free (is_within addr subnet.range) (is_reserved subnet addr) (is_in_some addr subnet.fixed) (is_used used addr) first open_ (unused within addr is)
