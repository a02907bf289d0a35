-- Where machines are made for instances and slots alone, no two that may be there share an address.
use Rattle.std.proofs.Common.{◌≡◌, ℕ, ◌≤◌, ◌<◌, Bool, true, false, ◌==◌, ◌&&◌, Option, Some, None, List, [], ◌∷◌, ◌++◌, refl, ap, sym, ◌∙◌, subst, arith}
use Prim.Native.Nat.{zero, suc}
use Rattle.std.specs.Prelude.{eqb, filter, not, if◌then◌else◌}
use Rattle.std.specs.List.{filter_map, list_any, list_all}
use Rattle.std.specs.Option.{option_and_then, option_map}
use Rattle.std.proofs.lemmas.Bool.Decides.{eqb_tells}
use Rattle.std.proofs.lemmas.List.Elements.{filter_map-append}
use Rattle.std.proofs.lemmas.List.Folds.{list_all-append}
use Rattle.bosh_base.specs.Cloud.{is_vm_there, make_of, numbers_to, vm_creation, vms_created}
use Rattle.bosh_base.specs.declared.call.Call.{Call}
use Rattle.bosh_base.specs.declared.call.Call.TheVariants as calls
use Rattle.bosh_base.specs.declared.entry.Effect.{Effect}
use Rattle.bosh_base.specs.declared.entry.Entry.{Entry}
use Rattle.bosh_base.specs.declared.make.Make.{Make}
use Rattle.bosh_base.specs.declared.moves.Did.{Did}
use Rattle.bosh_base.specs.declared.owner.Owner.{Owner}
use Rattle.bosh_base.specs.declared.owner.Owner.TheVariants.{Instance, Compile, Disk}
use Rattle.laws_facts.specs.Addresses.{AddressFacts, Recorded, Machine}
use Rattle.laws_facts.specs.CallFacts.{named}
use Rattle.laws_facts.specs.Facts.{Holds}
use Rattle.bosh_history.specs.Addresses.{are_apart, creating, is_apart, live_machines, possible_machines}
use Rattle.bosh_history.specs.Moments.{Moment, OpenCall}
use Rattle.bosh_history.specs.Sound.{addrs, has_addr}
use Rattle.bosh_history.specs.Words.{is_among}
use Rattle.bosh_rows.proofs.SameLemmas.{same_inst_tells}
use Rattle.bosh_rows.specs.Same.{same_inst, same_owner}
use Rattle.bosh_rows.specs.Tied.{is_made_for, vms_of}
use Rattle.laws_addresses.proofs.HeldLemmas.{among_filter, up_to}
use Rattle.laws_addresses.proofs.ListLemmas.{has}
use Rattle.laws_addresses.proofs.LiveLemmas.{IsLive, IsOnly, row_only}
use Rattle.laws_addresses.proofs.LiveSlotLemmas.{IsMaking, making, recorded_of, slot_only}
use Rattle.laws_facts.specs.Makers.{is_in_deployment_of, is_made_in_its_deployment}

-- ---- two owners

-- two owners with one address recorded are one
one_owner : (m : Moment) → AddressFacts m → (o p : Owner) (x y : Make) (a : ℕ) → recorded_of m o ≡ Some x
    → recorded_of m p ≡ Some y → has a (addrs x) ≡ true → has a (addrs y) ≡ true → o ≡ p
one_owner m facts (Instance i) (Instance j) x y a one two here there =
    let same : (same_inst i j ≡ true) = facts.one_recorded a (Recorded i) (Recorded j)
    ((λ l. has_addr a (one l)) ∙ here) ((λ l. has_addr a (two l)) ∙ there) in
    grind (arith, same, same_inst_tells i j)
one_owner m facts (Instance i) (Compile t s) x y a one two here there =
    let never : false ≡ true = facts.one_recorded a (Recorded i) (Machine t s)
    ((λ l. has_addr a (one l)) ∙ here) ((λ l. has_addr a (two l)) ∙ there) in
    absurd (grind (arith, never))
one_owner m facts (Compile t s) (Instance i) x y a one two here there =
    let never : false ≡ true = facts.one_recorded a (Machine t s) (Recorded i)
    ((λ l. has_addr a (one l)) ∙ here) ((λ l. has_addr a (two l)) ∙ there) in
    absurd (grind (arith, never))
one_owner m facts (Compile t s) (Compile other slot) x y a one two here there =
    let same : (t == other && s == slot) ≡ true = facts.one_recorded a (Machine t s) (Machine other slot)
    ((λ l. has_addr a (one l)) ∙ here) ((λ l. has_addr a (two l)) ∙ there) in
    grind (arith, same, eqb_tells t other, eqb_tells s slot)
one_owner m facts (Disk d) p x y a one two here there = absurd cc
one_owner m facts o (Disk d) x y a one two here there = absurd cc

-- ---- lists

apart_from : (xs ys : List ℕ) → ((a : ℕ) → has a xs ≡ true → has a ys ≡ true → ⊥)
    → list_all (λ a. not (list_any (λ other. other == a) ys)) xs ≡ true
apart_from [] ys never = refl
apart_from (x ∷ xs) ys never = by (has x ys) refl (apart_from xs ys (λ a here. never a (grind (arith, here))))
  where
    by : (b : Bool) → has x ys ≡ b → list_all (λ a. not (list_any (λ other. other == a) ys)) xs ≡ true
        → list_all (λ a. not (list_any (λ other. other == a) ys)) (x ∷ xs) ≡ true
    by true there rest = absurd (never x (grind (arith, eqb_tells x x)) there)
    by false none rest = grind (arith, none, rest)

all_numbers : (q : Make → Bool) (f : ℕ → Option Make) (n : ℕ)
    → ((v : ℕ) (x : Make) → 1 ≤ v → v ≤ n → f v ≡ Some x → q x ≡ true)
    → list_all q (filter_map f (numbers_to n)) ≡ true
all_numbers q f zero each = refl
all_numbers q f (suc n) each =
    by (f (suc n)) refl (all_numbers q f n (λ v x low high is. each v x low (grind (arith, high)) is))
  where
    by : (last : Option Make) → f (suc n) ≡ last → list_all q (filter_map f (numbers_to n)) ≡ true
        → list_all q (filter_map f (numbers_to (suc n))) ≡ true
    by (Some x) is rest =
        ap (list_all q) (filter_map-append f (numbers_to n) (suc n ∷ []))
        ∙ list_all-append q (filter_map f (numbers_to n)) (filter_map f (suc n ∷ []))
        ∙ grind (arith, rest, is, each (suc n) x (grind (arith)) (grind (arith)) is)
    by None is rest =
        ap (list_all q) (filter_map-append f (numbers_to n) (suc n ∷ []))
        ∙ list_all-append q (filter_map f (numbers_to n)) (filter_map f (suc n ∷ []))
        ∙ grind (arith, rest, is)

apart_append : (xs ys : List Make) → are_apart xs ≡ true → are_apart ys ≡ true
    → list_all (λ x. list_all (is_apart x) ys) xs ≡ true → are_apart (xs ++ ys) ≡ true
apart_append [] ys one two both = two
apart_append (x ∷ xs) ys one two both =
    grind (arith, one, two, both, list_all-append (is_apart x) xs ys, apart_append xs ys)

apart_numbers : (f : ℕ → Option Make) (n : ℕ)
    → ((v w : ℕ) (x y : Make) → 1 ≤ v → v < w → w ≤ n → f v ≡ Some x → f w ≡ Some y → is_apart x y ≡ true)
    → are_apart (filter_map f (numbers_to n)) ≡ true
apart_numbers f zero each = refl
apart_numbers f (suc n) each =
    ap are_apart (filter_map-append f (numbers_to n) (suc n ∷ []))
    ∙ apart_append (filter_map f (numbers_to n)) (filter_map f (suc n ∷ []))
    (apart_numbers f n (λ v w x y low less high is also. each v w x y low less (grind (arith, high)) is also))
    (by (f (suc n)) refl)
    (all_numbers (λ x. list_all (is_apart x) (filter_map f (suc n ∷ []))) f n
    (λ v x low high is. of v x low high is (f (suc n)) refl))
  where
    by : (last : Option Make) → f (suc n) ≡ last → are_apart (filter_map f (suc n ∷ [])) ≡ true
    by (Some y) is = grind (arith, is)
    by None is = grind (arith, is)

    of : (v : ℕ) (x : Make) → 1 ≤ v → v ≤ n → f v ≡ Some x → (last : Option Make) → f (suc n) ≡ last
        → list_all (is_apart x) (filter_map f (suc n ∷ [])) ≡ true
    of v x low high is (Some y) also =
        grind (arith, also, each v (suc n) x y low (grind (arith, high)) (grind (arith)) is also)
    of v x low high is None also = grind (arith, also)

filter_as : (p : ℕ → Bool) (f : ℕ → Option Make) (items : List ℕ)
    → filter_map f (filter p items) ≡ filter_map (λ v. if p v then f v else None) items
filter_as p f [] = refl
filter_as p f (v ∷ items) = by (p v) refl (filter_as p f items)
  where
    by : (b : Bool) → p v ≡ b
        → filter_map f (filter p items) ≡ filter_map (λ v. if p v then f v else None) items
        → filter_map f (filter p (v ∷ items)) ≡ filter_map (λ v. if p v then f v else None) (v ∷ items)
    by true is rest = grind (arith, is, rest)
    by false is rest = grind (arith, is, rest)

-- ---- machines that are there

-- the make of a machine, where it is there
abbrev pub live_make : List Entry → ℕ → Option Make
live_make effects v =
    if is_vm_there effects v then option_and_then (λ e. make_of e.call) (vm_creation effects v) else None

-- its owner has that make recorded, and no other machine
pub record LiveOf (m : Moment) (v : ℕ) (make : Make) : Type 0 where
  pub owner : Owner
  pub among : is_among eqb v (vms_of m.effects owner) ≡ true
  pub recorded_as : recorded_of m owner ≡ Some make
  pub only : (w : ℕ) → is_among eqb w (vms_of m.effects owner) ≡ true → w ≡ v

owner_itself : (owner : Owner) → same_owner owner owner ≡ true
owner_itself (Instance i) = grind (arith, same_inst_tells i i)
owner_itself (Compile t s) = grind (arith, eqb_tells t t, eqb_tells s s)
owner_itself (Disk d) = grind (arith, eqb_tells d d)

live_among : (effects : List Entry) (v : ℕ) (e : Effect) → 1 ≤ v → v ≤ vms_created effects
    → is_vm_there effects v ≡ true → vm_creation effects v ≡ Some e
    → is_among eqb v (vms_of effects e.owner) ≡ true
live_among effects v e low high there is =
    among_filter (λ v. is_vm_there effects v && is_made_for e.owner (vm_creation effects v)) v
    (numbers_to (vms_created effects)) (up_to v (vms_created effects) low high)
    ((λ l. there l && is_made_for e.owner (is l)) ∙ ap (λ b. true && b) own)
  where
    own : is_made_for e.owner (Some e) ≡ true
    own = owner_itself e.owner

live_by : (m : Moment) (v : ℕ) (e : Effect) (make : Make) (owner : Owner) → Holds m → e.owner ≡ owner
    → is_in_deployment_of m.known e.dep owner ≡ true → is_among eqb v (vms_of m.effects e.owner) ≡ true
    → vm_creation m.effects v ≡ Some e → make_of e.call ≡ Some make → LiveOf m v make
live_by m v e make (Instance i) h own maker among is made =
    let live : IsLive m.effects (Instance i) v make = record {
      among = subst (λ owner. is_among eqb v (vms_of m.effects owner) ≡ true) own among;
      effect = e;
      creation = is;
      made = made;
    } in
    let it : IsOnly m.effects (Instance (m.known.row i).inst) v make (m.known.row i).make =
    row_only m.effects (m.known.row i) v make (h.rows i)
    (subst (λ j. IsLive m.effects (Instance j) v make) (sym (h.known.lists.own_row i)) live) in
    record {
      owner = Instance i;
      among = live.among;
      recorded_as = it.recorded_as;
      only = λ w there. it.only w ((λ l. is_among eqb w (vms_of m.effects (Instance (h.known.lists.own_row i l)))) ∙ there);
    }
live_by m v e make (Compile t s) h own maker among is made =
    let live : IsLive m.effects (Compile t s) v make = record {
      among = subst (λ owner. is_among eqb v (vms_of m.effects owner) ≡ true) own among;
      effect = e;
      creation = is;
      made = made;
    } in
    let it : IsOnly m.effects (Compile t s) v make (option_map (λ it. it.make) (m.known.slot t s)) =
    slot_only m.effects (named t s) (m.known.slot t s) v make (h.slots t s) live in
    record { owner = Compile t s; among = live.among; recorded_as = it.recorded_as; only = it.only }
live_by m v e make (Disk d) h own maker among is made = absurd cc

live_of : (m : Moment) (v : ℕ) (make : Make) → Holds m → 1 ≤ v → v ≤ vms_created m.effects
    → live_make m.effects v ≡ Some make → LiveOf m v make
live_of m v make h low high is = by (is_vm_there m.effects v) refl (vm_creation m.effects v) refl is
  where
    by : (b : Bool) → is_vm_there m.effects v ≡ b → (creation : Option Effect) → vm_creation m.effects v ≡ creation
        → (if b then option_and_then (λ e. make_of e.call) creation else None) ≡ Some make → LiveOf m v make
    by true there (Some e) made is =
        live_by m v e make e.owner h refl (sym (λ l. is_made_in_its_deployment m.known (made l)) ∙ h.known.makers v)
        (live_among m.effects v e low high there made) made is
    by true there None made is = absurd cc
    by false there creation made is = absurd cc

-- ---- machines that open calls may be making

pub record OpenOf (m : Moment) (n : ℕ) (make : Make) : Type 0 where
  pub call : OpenCall
  pub opens : m.calls n ≡ Some call
  pub is_making : IsMaking m.effects call.begin.owner make (recorded_of m call.begin.owner)

creation_of : (call : Call) (make : Make) → make_of call ≡ Some make
    → (disks : List ℕ) × (call ≡ calls.CreateVm make disks)
creation_of (calls.CreateVm other disks) make is = (disks, grind (arith, is))
creation_of call make is = absurd cc

open_of : (m : Moment) (n : ℕ) (make : Make) → Holds m → option_and_then creating (m.calls n) ≡ Some make
    → OpenOf m n make
open_of m n make h is = by (m.calls n) refl is
  where
    of : (call : OpenCall) → m.calls n ≡ Some call → (did : Option Did) → call.did ≡ did
        → creating (record call { did = did }) ≡ Some make → OpenOf m n make
    of call opens None none is =
        let made : (disks : List ℕ) × (call.begin.call ≡ calls.CreateVm make disks) =
        creation_of call.begin.call make is in
        record {
          call = call;
          opens = opens;
          is_making = making m n call make made.0 h opens none made.1;
        }
    of call opens (Some d) has is = absurd cc

    by : (call : Option OpenCall) → m.calls n ≡ call → option_and_then creating call ≡ Some make → OpenOf m n make
    by (Some call) opens is = of call opens call.did refl is
    by None opens is = absurd cc

-- ---- all

apart_makes : (x y : Make) → ((a : ℕ) → has a (addrs x) ≡ true → has a (addrs y) ≡ true → ⊥) → is_apart x y ≡ true
apart_makes x y never = apart_from (addrs x) (addrs y) never

two_live : (m : Moment) (v w : ℕ) (x y : Make) → Holds m → v < w → LiveOf m v x → LiveOf m w y → is_apart x y ≡ true
two_live m v w x y h less one two =
    apart_makes x y (λ a here there.
    let same : one.owner ≡ two.owner =
    one_owner m h.known.addresses one.owner two.owner x y a one.recorded_as two.recorded_as here there in
    let equal : w ≡ v = one.only w ((λ l. is_among eqb w (vms_of m.effects (same l))) ∙ two.among) in
    absurd (grind (arith, less, equal)))

live_and_open : (m : Moment) (v n : ℕ) (x y : Make) → Holds m → LiveOf m v x → OpenOf m n y → is_apart x y ≡ true
live_and_open m v n x y h one two =
    apart_makes x y (λ a here there.
    let same : one.owner ≡ two.call.begin.owner =
    one_owner m h.known.addresses one.owner two.call.begin.owner x y a one.recorded_as two.is_making.recorded_as here there in
    two.is_making.none v (sym (λ l. is_among eqb v (vms_of m.effects (same l))) ∙ one.among))

two_open : (m : Moment) (n k : ℕ) (x y : Make) → Holds m → n < k → OpenOf m n x → OpenOf m k y → is_apart x y ≡ true
two_open m n k x y h less one two =
    apart_makes x y (λ a here there.
    let same : one.call.begin.owner ≡ two.call.begin.owner =
    one_owner m h.known.addresses one.call.begin.owner two.call.begin.owner x y a one.is_making.recorded_as
    two.is_making.recorded_as here there in
    let equal : k ≡ n = (h.known.calls n one.call one.opens).one_call k two.call two.opens (sym same) in
    absurd (grind (arith, less, equal)))

pub all_apart : (m : Moment) → Holds m → are_apart (possible_machines m) ≡ true
all_apart m h =
    apart_append (live_machines m.effects) opens
    (ap are_apart live ∙ apart_numbers (live_make m.effects) (vms_created m.effects) (λ v w x y low less high is also.
    two_live m v w x y h less
    (live_of m v x h low (grind (arith, less, high)) is)
    (live_of m w y h (grind (arith, less, low)) high also)))
    (apart_numbers (λ n. option_and_then creating (m.calls n)) m.known.last_call (λ n k x y low less high is also.
    two_open m n k x y h less (open_of m n x h is) (open_of m k y h also)))
    (ap (list_all (λ x. list_all (is_apart x) opens)) live
    ∙ all_numbers (λ x. list_all (is_apart x) opens) (live_make m.effects) (vms_created m.effects) (λ v x low high is.
    all_numbers (is_apart x) (λ n. option_and_then creating (m.calls n)) m.known.last_call (λ n y from to also.
    live_and_open m v n x y h (live_of m v x h low high is) (open_of m n y h also))))
  where
    opens : List Make
    opens = filter_map (λ n. option_and_then creating (m.calls n)) (numbers_to m.known.last_call)

    live : live_machines m.effects ≡ filter_map (live_make m.effects) (numbers_to (vms_created m.effects))
    live =
        filter_as (is_vm_there m.effects) (λ v. option_and_then (λ e. make_of e.call) (vm_creation m.effects v))
        (numbers_to (vms_created m.effects))
