-- What is assigned is safe.
use Rattle.std.proofs.Common.{◌≡◌, ℕ, Bool, true, false, ◌&&◌, ◌||◌, not, cond, List, [], ◌∷◌, ◌++◌, Option, Some, None, Result, Ok, find, refl, sym, ap, ◌∙◌, subst, inl, inr, ◌⊎◌, true≢false, arith}
use Rattle.std.specs.List.{All, AllByRecursion, AllZip, Contains, list_any}
use Rattle.std.specs.Option.{option_map}
use Rattle.std.specs.Str.{bytes_eq}
use Rattle.std.proofs.lemmas.Bool.{eq-eqb, eqb-true}
use Rattle.std.proofs.lemmas.Bool.Decides.{nat_tests}
use Rattle.std.proofs.lemmas.List.Elements.{Contains-append_left, Contains-push}
use Rattle.std.proofs.lemmas.Slice.Eq.{bytes_eq-Decides}
use Rattle.bosh_base.specs.Plan.{has_dynamic, has_static, is_dynamic, is_listed, is_reserved, is_static, is_within}
use Rattle.bosh_base.specs.declared.addr.Addr.{Addr}
use Rattle.bosh_base.specs.declared.inst.Inst.{Inst}
use Rattle.bosh_base.specs.declared.owner.Owner.{Owner}
use Rattle.bosh_base.specs.declared.owner.Owner.TheVariants.{Instance, Compile, Disk}
use Rattle.bosh_base.specs.declared.plan.NetPlan.{NetPlan}
use Rattle.bosh_base.specs.declared.plan.Subnet.{Subnet}
use Rattle.bosh_base.specs.declared.view.Held.{Held}
use Rattle.bosh_bands.specs.Apart.{AreApart}
use Rattle.bosh_bands.specs.Least.{IsLeast, first_of}
use Rattle.bosh_bands.proofs.LeastLemmas.{least-is}
use Rattle.bosh_pool.specs.declared.fault.PoolFault.{PoolFault}
use Rattle.bosh_pool.specs.declared.fault.PoolFault.TheVariants.{NotStatic, StaticNotInAz, Taken}
use Rattle.bosh_pool.specs.declared.want.Want.{Want}
use Rattle.bosh_pool.specs.Assignment.{◌>>=◌, assignment, free_for, given_addresses, is_held, placed, unless}
use Rattle.bosh_pool.specs.Fixed.{fault_at, fixed_fault, fixed_faults, given_to, has_fixed, holder, holds, instance_of, is_given, is_owner, other_owner, owner_in, owner_of, same_addr, same_inst}
use Rattle.bosh_pool.specs.Kept.{addr_of, is_kept, is_taken, own}
use Rattle.bosh_pool.specs.Safe.{AreDifferent, AreHeldOnce, AreWantedOnce, IsLent, IsUnreserved, IsUnshared, IsUntaken, lends}
use Rattle.bosh_pool.proofs.AssignedLemmas.{bind-ok, ok_same, placed_some, unless_ok}
use Rattle.bosh_pool.proofs.ListLemmas.{AllPairs-from, Pairs, Pairs-from, all_from_recursion, any_from, any_none, any_some, find_from_none, find_none, find_some, one_place, recursion_from_contains, recursion_with, zip_second, zip_with}

and_parts : (a b : Bool) → (a && b) ≡ true → (a ≡ true) × (b ≡ true)
and_parts true b h = (refl, h)
and_parts false b h = absurd (cc)

or_none : (a b : Bool) → (a || b) ≡ false → (a ≡ false) × (b ≡ false)
or_none true b h = absurd (cc)
or_none false b h = (refl, h)

or_third : (a b : Bool) → (a || (b || true)) ≡ true
or_third true b = refl
or_third false true = refl
or_third false false = refl

not_true : (b : Bool) → not b ≡ true → b ≡ false
not_true true h = absurd (cc)
not_true false h = refl

not_false : (b : Bool) → not b ≡ false → b ≡ true
not_false true h = refl
not_false false h = absurd (cc)

map_none : {A B : Type 0} (f : A → B) (o : Option A) → option_map f o ≡ None → o ≡ None
map_none f None h = refl
map_none f (Some x) h = absurd (cc)

first_none : {A : Type 0} (one other : Option A) → first_of one other ≡ None → (one ≡ None) × (other ≡ None)
first_none None other h = (refl, h)
first_none (Some x) other h = absurd (cc)

-- ---- the addresses that the manifest gives

-- what is true of such an address
record IsSound (plan : NetPlan) (taken kept : List Held) (want : Want) (addr : Addr) : Type 0 where
  static : is_static plan want.net want.az addr ≡ true
  untaken : owner_in addr taken ≡ None
  unshared : other_owner want.inst addr kept ≡ None

fault_none : (plan : NetPlan) (want : Want) (addr : Addr) (owner : Option Owner) → fault_at plan want addr owner ≡ None
    → (is_static plan want.net want.az addr ≡ true) × (owner ≡ None)
fault_none plan want addr owner h = by (list_any (has_fixed want.net addr) plan.subnets) (is_static plan want.net want.az addr) h
  where
    by : (has static : Bool) → (cond (not has) (Some (NotStatic addr)) (cond (not static) (Some (StaticNotInAz addr)) (option_map (Taken addr) owner))) ≡ None
        → (static ≡ true) × (owner ≡ None)
    by true true h = (refl, map_none (Taken addr) owner h)
    by true false h = absurd (cc)
    by false static h = absurd (cc)

module _ (plan : NetPlan) (taken kept : List Held) where
  -- the address that the manifest gives to a want, where nothing is wrong with it
  sound : (before : List Want) (want : Want) (addr : Addr) (fixed : Option Addr) → fixed_fault plan taken kept before want fixed ≡ None → fixed ≡ Some addr
      → IsSound plan taken kept want addr × (given_to addr before ≡ None)
  sound before want addr None h is = absurd (cc)
  sound before want addr (Some fixed) h is =
      let same : fixed ≡ addr = cc in
      let (static, unheld) = fault_none plan want fixed (holder taken kept before want fixed) h in
      let (untaken, others) = first_none (owner_in fixed taken) (first_of (other_owner want.inst fixed kept) (given_to fixed before)) unheld in
      let (unshared, ungiven) = first_none (other_owner want.inst fixed kept) (given_to fixed before) others in
      subst (λ a. IsSound plan taken kept want a × (given_to a before ≡ None)) same (record { static = static; untaken = untaken; unshared = unshared }, ungiven)

  abbrev Sound : Want → Type 0
  Sound want = (addr : Addr) → want.fixed ≡ Some addr → IsSound plan taken kept want addr

  all_sound : (before wants : List Want) → fixed_faults plan taken kept before wants ≡ None → AllByRecursion Sound wants
  all_sound before [] h = tt
  all_sound before (want ∷ wants) h =
      let (here, later) = first_none (fixed_fault plan taken kept before want want.fixed) (fixed_faults plan taken kept (before ++ want ∷ []) wants) h in
      (λ addr is. (sound before want addr want.fixed here is).0, all_sound (before ++ want ∷ []) wants later)

  -- no later want has the address that the manifest gives to one before
  not_given : (before wants : List Want) (earlier : Want) → fixed_faults plan taken kept before wants ≡ None → Contains before earlier
      → AllByRecursion (λ want. (addr : Addr) → want.fixed ≡ Some addr → is_given addr earlier.fixed ≡ false) wants
  not_given before [] earlier h there = tt
  not_given before (want ∷ wants) earlier h there =
      let (here, later) = first_none (fixed_fault plan taken kept before want want.fixed) (fixed_faults plan taken kept (before ++ want ∷ []) wants) h in (
        λ addr is. find_none (λ w. is_given addr w.fixed) before (map_none instance_of _ (sound before want addr want.fixed here is).1) earlier there,
        not_given (before ++ want ∷ []) wants earlier later (Contains-append_left before (want ∷ []) earlier there),
      )

-- ---- each want has an address of its own, or one that was free

abbrev IsOwnOrFree : NetPlan → (Want → Option Addr) → (Addr → Bool) → Want → Addr → Type 0
IsOwnOrFree plan find used want addr =
    (find want ≡ Some addr) ⊎ ((find want ≡ None) × (is_dynamic plan want.net want.az addr ≡ true) × (used addr ≡ false))

own_or_free : (plan : NetPlan) (used : Addr → Bool) (want : Want) (addr : Addr) (mine : Option Addr) → first_of mine (free_for plan used want) ≡ Some addr
    → (mine ≡ Some addr) ⊎ ((mine ≡ None) × (is_dynamic plan want.net want.az addr ≡ true) × (used addr ≡ false))
own_or_free plan used want addr (Some a) h = inl h
own_or_free plan used want addr None h =
    let is : IsLeast (λ other. is_dynamic plan want.net want.az other && not (used other)) addr = least-is (λ other. is_dynamic plan want.net want.az other && not (used other)) addr h in
    let (dynamic, free) = and_parts (is_dynamic plan want.net want.az addr) (not (used addr)) is.passes in
    inr (refl, dynamic, not_true (used addr) free)

-- the addresses are those of one want and of the others
given_parts : (plan : NetPlan) (find : Want → Option Addr) (used : Addr → Bool) (want : Want) (wants : List Want) (addrs : List Addr) → given_addresses plan find used (want ∷ wants) ≡ Ok addrs
    → (addr : Addr) × (others : List Addr) × IsOwnOrFree plan find used want addr × (given_addresses plan find (λ other. used other || same_addr other addr) wants ≡ Ok others) × (addr ∷ others ≡ addrs)
given_parts plan find used want wants addrs h =
    let (addr, is_addr, rest) = bind-ok (placed want (first_of (find want) (free_for plan used want)))
    (λ addr. given_addresses plan find (λ other. used other || same_addr other addr) wants >>= λ others. Ok (addr ∷ others)) addrs h in
    let (others, is_others, whole) = bind-ok (given_addresses plan find (λ other. used other || same_addr other addr) wants) (λ others. Ok (addr ∷ others)) addrs rest in
    (addr, others, own_or_free plan used want addr (find want) (placed_some want _ addr is_addr), is_others, ok_same whole)

free_before : (plan : NetPlan) (find : Want → Option Addr) (base used : Addr → Bool) (want : Want) (addr : Addr) → ((a : Addr) → base a ≡ true → used a ≡ true)
    → IsOwnOrFree plan find used want addr → IsOwnOrFree plan find base want addr
free_before plan find base used want addr more (inl own) = inl own
free_before plan find base used want addr more (inr (none, dynamic, free)) = inr (none, dynamic, by (base addr) refl)
  where
    by : (b : Bool) → base addr ≡ b → base addr ≡ false
    by true e = absurd (true≢false (sym (more addr e) ∙ free))
    by false e = e

all_own_or_free : (plan : NetPlan) (find : Want → Option Addr) (base used : Addr → Bool) (wants : List Want) (addrs : List Addr) → ((a : Addr) → base a ≡ true → used a ≡ true)
    → given_addresses plan find used wants ≡ Ok addrs → AllZip (IsOwnOrFree plan find base) wants addrs
all_own_or_free plan find base used [] addrs more h = subst (AllZip (IsOwnOrFree plan find base) []) (ok_same h) tt
all_own_or_free plan find base used (want ∷ wants) addrs more h =
    let (addr, others, here, is_others, whole) = given_parts plan find used want wants addrs h in
    let later = all_own_or_free plan find base (λ other. used other || same_addr other addr) wants others (λ a is. rw (more a is) refl) is_others in
    subst (AllZip (IsOwnOrFree plan find base) (want ∷ wants)) whole (free_before plan find base used want addr more here, later)

-- ---- no two are the same

same_flip : (a b : Addr) → same_addr a b ≡ same_addr b a
same_flip a b = grind (arith, nat_tests)

same_is : (a b : Addr) → same_addr a b ≡ true → a ≡ b
same_is a b h = λ i. record { 0 = eqb-true a.0 b.0 h i }

abbrev OwnApart : (Want → Option Addr) → Want → Want → Type 0
OwnApart find one other = (a b : Addr) → find one ≡ Some a → find other ≡ Some b → same_addr a b ≡ false

abbrev IsUsed : (Want → Option Addr) → (Addr → Bool) → Want → Type 0
IsUsed find used want = (addr : Addr) → find want ≡ Some addr → used addr ≡ true

-- an address and that of a later want
two_differ : (plan : NetPlan) (find : Want → Option Addr) (used : Addr → Bool) (want later : Want) (a b : Addr) → IsOwnOrFree plan find used want a
    → OwnApart find want later → IsUsed find used later → IsOwnOrFree plan find (λ other. used other || same_addr other a) later b → same_addr a b ≡ false
two_differ plan find used want later a b here apart held (inr (none, dynamic, free)) = same_flip a b ∙ (or_none (used b) (same_addr b a) free).1
two_differ plan find used want later a b (inl own) apart held (inl mine) = apart a b own mine
two_differ plan find used want later a b (inr (none, dynamic, free)) apart held (inl mine) = by (same_addr a b) refl
  where
    by : (s : Bool) → same_addr a b ≡ s → same_addr a b ≡ false
    by true e = absurd (true≢false (sym (held b mine) ∙ ap used (sym (same_is a b e)) ∙ free))
    by false e = e

all_differ : (plan : NetPlan) (find : Want → Option Addr) (used : Addr → Bool) (wants : List Want) (addrs : List Addr) → given_addresses plan find used wants ≡ Ok addrs
    → AllByRecursion (IsUsed find used) wants → Pairs (OwnApart find) wants → Pairs (λ one other. same_addr one other ≡ false) addrs
all_differ plan find used [] addrs h held apart = subst (Pairs (λ one other. same_addr one other ≡ false)) (ok_same h) tt
all_differ plan find used (want ∷ wants) addrs h (held_here, held) (apart_here, apart) =
    let (addr, others, here, is_others, whole) = given_parts plan find used want wants addrs h in
    let more : Addr → Bool = λ other. used other || same_addr other addr in
    let zipped = all_own_or_free plan find more more wants others (λ a is. is) is_others in
    let both : AllByRecursion (λ later. OwnApart find want later × IsUsed find used later) wants = recursion_with (OwnApart find want) (IsUsed find used) _ wants (λ w p q. (p, q)) apart_here held in
    let first : AllByRecursion (λ b. same_addr addr b ≡ false) others =
    zip_second _ wants others (zip_with (λ later. OwnApart find want later × IsUsed find used later) (IsOwnOrFree plan find more) (λ later b. same_addr addr b ≡ false) wants others
    (λ later b p r. two_differ plan find used want later addr b here p.0 p.1 r) both zipped) in
    let still : AllByRecursion (IsUsed find more) wants = recursion_with (IsUsed find used) (IsUsed find used) (IsUsed find more) wants (λ w p q a is. rw (p a is) refl) held held in
    subst (Pairs (λ one other. same_addr one other ≡ false)) whole (first, all_differ plan find more wants others is_others still apart)

-- ---- instances and networks

same_inst_is : (i j : Inst) → same_inst i j ≡ true → i ≡ j
same_inst_is i j h =
    let (dep, rest) = and_parts (bytes_eq i.dep j.dep) _ h in
    let (group, index) = and_parts (bytes_eq i.group j.group) _ rest in
    let dep_is = (bytes_eq-Decides i.dep j.dep).0 dep in
    let group_is = (bytes_eq-Decides i.group j.group).0 group in
    let index_is = eqb-true i.index j.index index in
    λ k. record { dep = dep_is k; group = group_is k; index = index_is k }

bytes_same : (m n : List ℕ) → m ≡ n → bytes_eq m n ≡ true
bytes_same m n h = (bytes_eq-Decides m n).1 h

same_inst_self : (i : Inst) → same_inst i i ≡ true
same_inst_self i = rw (bytes_same i.dep i.dep refl, bytes_same i.group i.group refl, eq-eqb i.index i.index refl) refl

same_inst_from : (i j : Inst) → i ≡ j → same_inst i j ≡ true
same_inst_from i j h = subst (λ (x : Inst). same_inst i x ≡ true) h (same_inst_self i)

-- one instance, by two of its entries
one_inst : (i j : Inst) (owner : Owner) → is_owner i owner ≡ true → is_owner j owner ≡ true → same_inst i j ≡ true
one_inst i j (Instance x) h k = same_inst_from i j (sym (same_inst_is x i h) ∙ same_inst_is x j k)
one_inst i j (Compile task slot) h k = absurd (cc)
one_inst i j (Disk disk) h k = absurd (cc)

both_true : (a b : Bool) → a ≡ true → b ≡ true → (a && b) ≡ true
both_true a b h k = rw (h, k) refl

wanted_flip : (i j : Inst) (m n : List ℕ) → (same_inst i j && bytes_eq m n) ≡ true → (same_inst j i && bytes_eq n m) ≡ true
wanted_flip i j m n h =
    let (inst, net) = and_parts (same_inst i j) (bytes_eq m n) h in
    both_true (same_inst j i) (bytes_eq n m) (same_inst_from j i (sym (same_inst_is i j inst))) (bytes_same n m (sym ((bytes_eq-Decides m n).0 net)))

same_addr_from : (a b : Addr) → a ≡ b → same_addr a b ≡ true
same_addr_from a b h = eq-eqb a.0 b.0 (ap (λ (x : Addr). x.0) h)

-- ---- the addresses that wants keep

-- the entry that a want keeps
record IsKept (plan : NetPlan) (taken kept : List Held) (want : Want) (held : Held) : Type 0 where
  there : Contains kept held
  owner : is_owner want.inst held.owner ≡ true
  net : bytes_eq held.net want.net ≡ true
  dynamic : is_dynamic plan want.net want.az held.addr ≡ true
  untaken : is_taken taken held.addr ≡ false

module _ (plan : NetPlan) (taken kept : List Held) where
  kept_one : (want : Want) (held : Held) → find (is_kept plan taken want) kept ≡ Some held → IsKept plan taken kept want held
  kept_one want held h =
      let (passes, there) = find_some (is_kept plan taken want) kept held h in
      let (owner, rest) = and_parts (is_owner want.inst held.owner) _ passes in
      let (net, rest') = and_parts (bytes_eq held.net want.net) _ rest in
      let (dynamic, untaken) = and_parts (is_dynamic plan want.net want.az held.addr) _ rest' in
      record { there = there; owner = owner; net = net; dynamic = dynamic; untaken = not_true (is_taken taken held.addr) untaken }

  -- a want's own address is the one that the manifest gives, or that of the entry that it keeps
  abbrev IsMine : Want → Addr → Option Addr → Type 0
  IsMine want addr fixed = (fixed ≡ Some addr) ⊎ ((held : Held) × (fixed ≡ None) × IsKept plan taken kept want held × (held.addr ≡ addr))

  mine : (want : Want) (addr : Addr) → own plan taken kept want ≡ Some addr → IsMine want addr want.fixed
  mine want addr h = by want.fixed (find (is_kept plan taken want) kept) refl h
    where
      by : (fixed : Option Addr) (entry : Option Held) → find (is_kept plan taken want) kept ≡ entry → first_of fixed (option_map addr_of entry) ≡ Some addr → IsMine want addr fixed
      by (Some fixed) entry e h = inl h
      by None (Some held) e h = inr (held, refl, kept_one want held e, cc)
      by None None e h = absurd (cc)

  -- two subnets that have an address are one
  one_subnet : AreApart plan.subnets → (s t : Subnet) (addr : Addr) → Contains plan.subnets s → Contains plan.subnets t
      → is_within addr s.range ≡ true → is_within addr t.range ≡ true → s ≡ t
  one_subnet apart s t addr in_s in_t h k =
      one_place (λ one other. (a : Addr) → (is_within a one.range && is_within a other.range) ≡ false) plan.subnets s t apart in_s in_t
      (λ none. true≢false (sym (rw (h, k) refl) ∙ none addr)) (λ none. true≢false (sym (rw (k, h) refl) ∙ none addr))

  -- an address has one network
  one_net : AreApart plan.subnets → (one other az az' : List ℕ) (addr : Addr) → is_static plan one az addr ≡ true → is_dynamic plan other az' addr ≡ true → one ≡ other
  one_net apart one other az az' addr h k =
      let (s, in_s, has_s) = any_some (λ subnet. has_static subnet one az addr) plan.subnets h in
      let (t, in_t, has_t) = any_some (λ subnet. has_dynamic subnet other az' addr) plan.subnets k in
      let (address_s, _) = and_parts _ _ has_s in
      let (net_s, place_s) = and_parts (bytes_eq s.net one) _ address_s in
      let (_, within_s) = and_parts (is_listed az s.azs) _ place_s in
      let (address_t, _) = and_parts _ _ has_t in
      let (net_t, place_t) = and_parts (bytes_eq t.net other) _ address_t in
      let (_, within_t) = and_parts (is_listed az' t.azs) _ place_t in
      sym ((bytes_eq-Decides s.net one).0 net_s) ∙ ap (λ (x : Subnet). x.net) (one_subnet apart s t addr in_s in_t within_s within_t) ∙ (bytes_eq-Decides t.net other).0 net_t

  -- the address that the manifest gives to a want is none that another keeps
  fixed_kept : AreApart plan.subnets → (want other : Want) (held : Held) (addr : Addr) → IsSound plan taken kept want addr → IsKept plan taken kept other held → addr ≡ held.addr
      → (same_inst want.inst other.inst && bytes_eq want.net other.net) ≡ true
  fixed_kept apart want other held addr sound entry same =
      let beside : (holds addr held && not (is_owner want.inst held.owner)) ≡ false =
      find_none (λ h. holds addr h && not (is_owner want.inst h.owner)) kept (map_none owner_of (find (λ h. holds addr h && not (is_owner want.inst h.owner)) kept) sound.unshared) held entry.there in
      let here : holds addr held ≡ true = same_addr_from held.addr addr (sym same) in
      let owner : is_owner want.inst held.owner ≡ true = not_false (is_owner want.inst held.owner) (sym (ap (λ (b : Bool). b && not (is_owner want.inst held.owner)) here) ∙ beside) in
      let net : want.net ≡ other.net = one_net apart want.net other.net want.az other.az held.addr (subst (λ (a : Addr). is_static plan want.net want.az a ≡ true) same sound.static) entry.dynamic in
      both_true (same_inst want.inst other.inst) (bytes_eq want.net other.net) (one_inst want.inst other.inst held.owner owner entry.owner) (bytes_same want.net other.net net)

  -- an address that is kept once has one entry
  one_entry : AreHeldOnce kept → (held more : Held) → Contains kept held → Contains kept more → held.addr ≡ more.addr → held ≡ more
  one_entry once held more in_one in_two same =
      one_place (λ (one other : Held). same_addr one.addr other.addr ≡ false) kept held more once in_one in_two
      (λ none. true≢false (sym (same_addr_from held.addr more.addr same) ∙ none)) (λ none. true≢false (sym (same_addr_from more.addr held.addr (sym same)) ∙ none))

  -- an entry is kept by one want
  kept_kept : AreHeldOnce kept → (want other : Want) (held more : Held) → IsKept plan taken kept want held → IsKept plan taken kept other more → held.addr ≡ more.addr
      → (same_inst want.inst other.inst && bytes_eq want.net other.net) ≡ true
  kept_kept once want other held more one two same =
      let is : held ≡ more = one_entry once held more one.there two.there same in
      let owner : is_owner other.inst held.owner ≡ true = subst (λ (h : Held). is_owner other.inst h.owner ≡ true) (sym is) two.owner in
      let net : want.net ≡ other.net = sym ((bytes_eq-Decides held.net want.net).0 one.net) ∙ ap (λ (h : Held). h.net) is ∙ (bytes_eq-Decides more.net other.net).0 two.net in
      both_true (same_inst want.inst other.inst) (bytes_eq want.net other.net) (one_inst want.inst other.inst held.owner one.owner owner) (bytes_same want.net other.net net)

  own_none : (want : Want) → own plan taken kept want ≡ None → want.fixed ≡ None
  own_none want h = (first_none want.fixed (option_map addr_of (find (is_kept plan taken want) kept)) h).0

  -- the own addresses of two wants
  own_apart : AreApart plan.subnets → AreHeldOnce kept → (want other : Want) → Sound plan taken kept want → Sound plan taken kept other
      → (same_inst want.inst other.inst && bytes_eq want.net other.net) ≡ false → ((addr : Addr) → other.fixed ≡ Some addr → is_given addr want.fixed ≡ false)
      → OwnApart (own plan taken kept) want other
  own_apart apart once want other sound_one sound_two wanted ungiven a b is_a is_b = by (same_addr a b) refl
    where
      twice : (same_inst want.inst other.inst && bytes_eq want.net other.net) ≡ true → same_addr a b ≡ false
      twice h = absurd (true≢false (sym h ∙ wanted))

      both : a ≡ b → same_addr a b ≡ true → IsMine want a want.fixed → IsMine other b other.fixed → same_addr a b ≡ false
      both same e (inl fixed) (inl given_) = absurd (true≢false (sym e ∙ sym (ap (is_given b) fixed) ∙ ungiven b given_))
      both same e (inl fixed) (inr (held, none, entry, is)) = twice (fixed_kept apart want other held a (sound_one a fixed) entry (same ∙ sym is))
      both same e (inr (held, none, entry, is)) (inl given_) = twice (wanted_flip other.inst want.inst other.net want.net (fixed_kept apart other want held b (sound_two b given_) entry (sym same ∙ sym is)))
      both same e (inr (held, none, entry, is)) (inr (more, none', entry', is')) = twice (kept_kept once want other held more entry entry' (is ∙ same ∙ sym is'))

      by : (s : Bool) → same_addr a b ≡ s → same_addr a b ≡ false
      by true e = both (same_is a b e) e (mine want a is_a) (mine other b is_b)
      by false e = e

  all_apart : AreApart plan.subnets → AreHeldOnce kept → (before wants : List Want) → fixed_faults plan taken kept before wants ≡ None
      → Pairs (λ one other. (same_inst one.inst other.inst && bytes_eq one.net other.net) ≡ false) wants → Pairs (OwnApart (own plan taken kept)) wants
  all_apart apart once before [] h wanted = tt
  all_apart apart once before (want ∷ wants) h (wanted_here, wanted) =
      let later = (first_none (fixed_fault plan taken kept before want want.fixed) (fixed_faults plan taken kept (before ++ want ∷ []) wants) h).1 in
      let (sound_here, sound_later) = all_sound plan taken kept before (want ∷ wants) h in
      let ungiven = not_given plan taken kept (before ++ want ∷ []) wants want later (Contains-push before want) in
      let Wanted : Want → Type 0 = λ other. (same_inst want.inst other.inst && bytes_eq want.net other.net) ≡ false in
      let Ungiven : Want → Type 0 = λ other. (addr : Addr) → other.fixed ≡ Some addr → is_given addr want.fixed ≡ false in
      let facts : AllByRecursion (λ other. Wanted other × Ungiven other) wants = recursion_with Wanted Ungiven _ wants (λ w p q. (p, q)) wanted_here ungiven in (
        recursion_with (Sound plan taken kept) (λ other. Wanted other × Ungiven other) (OwnApart (own plan taken kept) want) wants
            (λ other sound_two f. own_apart apart once want other sound_here sound_two f.0 f.1) sound_later facts,
        all_apart apart once (before ++ want ∷ []) wants later wanted,
      )

-- ---- what is assigned

unless_none : (fault : Option PoolFault) (answer : Result (List Addr) PoolFault) (addrs : List Addr) → unless fault answer ≡ Ok addrs → fault ≡ None
unless_none None answer addrs h = refl
unless_none (Some fault) answer addrs h = absurd (cc)

module _ (wants : List Want) (plan : NetPlan) (taken kept : List Held) (addrs : List Addr) (h : assignment wants plan taken kept ≡ Ok addrs) where
  faultless : fixed_faults plan taken kept [] wants ≡ None
  faultless = unless_none (fixed_faults plan taken kept [] wants) _ addrs h

  are_given : given_addresses plan (own plan taken kept) (is_held plan taken kept wants) wants ≡ Ok addrs
  are_given = unless_ok (fixed_faults plan taken kept [] wants) _ addrs h

  -- what is true of an address of a want that has its own, or had a free one
  each_pair : (Q : Want → Addr → Type 0)
      → ((want : Want) (addr : Addr) → Sound plan taken kept want → IsOwnOrFree plan (own plan taken kept) (is_held plan taken kept wants) want addr → Q want addr)
      → AllZip Q wants addrs
  each_pair Q f =
      zip_with (Sound plan taken kept) (IsOwnOrFree plan (own plan taken kept) (is_held plan taken kept wants)) Q wants addrs f (all_sound plan taken kept [] wants faultless)
      (all_own_or_free plan (own plan taken kept) (is_held plan taken kept wants) (is_held plan taken kept wants) wants addrs (λ a is. is) are_given)

  lent_one : (want : Want) (addr : Addr) → Sound plan taken kept want → IsOwnOrFree plan (own plan taken kept) (is_held plan taken kept wants) want addr → IsLent plan want addr
  lent_one want addr sound (inr (none, dynamic, free)) = subst (λ fixed. lends plan want addr fixed ≡ true) (sym (own_none plan taken kept want none)) dynamic
  lent_one want addr sound (inl own) = by (mine plan taken kept want addr own)
    where
      by : IsMine plan taken kept want addr want.fixed → IsLent plan want addr
      by (inl fixed) = subst (λ o. lends plan want addr o ≡ true) (sym fixed) (sound addr fixed).static
      by (inr (held, none, entry, is)) = subst (λ o. lends plan want addr o ≡ true) (sym none) (subst (λ a. is_dynamic plan want.net want.az a ≡ true) is entry.dynamic)

  pub all_lent : AllZip (IsLent plan) wants addrs
  all_lent = each_pair (IsLent plan) lent_one

  untaken_from : (addr : Addr) → is_taken taken addr ≡ false → IsUntaken taken addr
  untaken_from addr none = ap (option_map owner_of) (find_from_none (holds addr) taken (any_none (holds addr) taken none))

  untaken_one : (want : Want) (addr : Addr) → Sound plan taken kept want → IsOwnOrFree plan (own plan taken kept) (is_held plan taken kept wants) want addr → IsUntaken taken addr
  untaken_one want addr sound (inr (none, dynamic, free)) = untaken_from addr (or_none (is_taken taken addr) _ free).0
  untaken_one want addr sound (inl own) = by (mine plan taken kept want addr own)
    where
      by : IsMine plan taken kept want addr want.fixed → IsUntaken taken addr
      by (inl fixed) = (sound addr fixed).untaken
      by (inr (held, none, entry, is)) = subst (IsUntaken taken) is (untaken_from held.addr entry.untaken)

  pub all_untaken : All (IsUntaken taken) addrs
  all_untaken = all_from_recursion (IsUntaken taken) addrs (zip_second (IsUntaken taken) wants addrs (each_pair (λ want addr. IsUntaken taken addr) untaken_one))

  unshared_by : (inst : Inst) (addr : Addr) → ((held : Held) → Contains kept held → (holds addr held && not (is_owner inst held.owner)) ≡ false) → other_owner inst addr kept ≡ None
  unshared_by inst addr f = ap (option_map owner_of) (find_from_none (λ held. holds addr held && not (is_owner inst held.owner)) kept f)

  unshared_one : AreHeldOnce kept → (want : Want) (addr : Addr) → Sound plan taken kept want → IsOwnOrFree plan (own plan taken kept) (is_held plan taken kept wants) want addr → IsUnshared kept want addr
  unshared_one once want addr sound (inr (none, dynamic, free)) =
      let unkept : is_taken kept addr ≡ false = (or_none (is_taken kept addr) _ (or_none (is_taken taken addr) _ free).1).0 in
      unshared_by want.inst addr (λ held there. rw (any_none (holds addr) kept unkept held there) refl)
  unshared_one once want addr sound (inl own) = by (mine plan taken kept want addr own)
    where
      by : IsMine plan taken kept want addr want.fixed → IsUnshared kept want addr
      by (inl fixed) = (sound addr fixed).unshared
      by (inr (held, none, entry, is)) = subst (IsUnshared kept want) is (unshared_by want.inst held.addr each)
        where
          each : (other : Held) → Contains kept other → (holds held.addr other && not (is_owner want.inst other.owner)) ≡ false
          each other there = cases (holds held.addr other) refl
            where
              cases : (b : Bool) → holds held.addr other ≡ b → (holds held.addr other && not (is_owner want.inst other.owner)) ≡ false
              cases false e = rw e refl
              cases true e =
                  let is : other ≡ held = one_entry plan taken kept once other held there entry.there (same_is other.addr held.addr e) in
                  let owner : is_owner want.inst other.owner ≡ true = subst (λ (h : Held). is_owner want.inst h.owner ≡ true) (sym is) entry.owner in
                  rw (e, owner) refl

  pub all_unshared : AreHeldOnce kept → AllZip (IsUnshared kept) wants addrs
  all_unshared once = each_pair (IsUnshared kept) (unshared_one once)

  unreserved_one : AreApart plan.subnets → (want : Want) (addr : Addr) (fixed : Option Addr) → lends plan want addr fixed ≡ true → IsUnreserved plan addr
  unreserved_one apart want addr None lent = λ subnet there within.
      let (s, in_s, has) = any_some (λ t. has_dynamic t want.net want.az addr) plan.subnets lent in
      let (address, open_) = and_parts _ _ has in
      let (_, place) = and_parts (bytes_eq s.net want.net) _ address in
      let (_, within_s) = and_parts (is_listed want.az s.azs) _ place in
      let (unreserved, _) = and_parts (not (is_reserved s addr)) _ open_ in
      subst (λ (t : Subnet). is_reserved t addr ≡ false) (one_subnet plan taken kept apart s subnet addr in_s there within_s within) (not_true (is_reserved s addr) unreserved)
  unreserved_one apart want addr (Some fixed) lent = λ subnet there within.
      let (s, in_s, has) = any_some (λ t. has_static t want.net want.az addr) plan.subnets lent in
      let (address, open_) = and_parts _ _ has in
      let (_, place) = and_parts (bytes_eq s.net want.net) _ address in
      let (_, within_s) = and_parts (is_listed want.az s.azs) _ place in
      let (unreserved, _) = and_parts (not (is_reserved s addr)) _ open_ in
      subst (λ (t : Subnet). is_reserved t addr ≡ false) (one_subnet plan taken kept apart s subnet addr in_s there within_s within) (not_true (is_reserved s addr) unreserved)

  pub all_unreserved : AreApart plan.subnets → All (IsUnreserved plan) addrs
  all_unreserved apart =
      all_from_recursion (IsUnreserved plan) addrs (zip_second (IsUnreserved plan) wants addrs
      (each_pair (λ want addr. IsUnreserved plan addr) (λ want addr sound own. unreserved_one apart want addr want.fixed (lent_one want addr sound own))))

  own_used : AllByRecursion (IsUsed (own plan taken kept) (is_held plan taken kept wants)) wants
  own_used = recursion_from_contains (IsUsed (own plan taken kept) (is_held plan taken kept wants)) wants (λ want there addr is. used want there addr is)
    where
      used : (want : Want) → Contains wants want → (addr : Addr) → own plan taken kept want ≡ Some addr → is_held plan taken kept wants addr ≡ true
      used want there addr is =
          let given_here : is_given addr (own plan taken kept want) ≡ true = ap (is_given addr) is ∙ same_addr_from addr addr refl in
          let some : list_any (λ w. is_given addr (own plan taken kept w)) wants ≡ true = any_from (λ w. is_given addr (own plan taken kept w)) wants want there given_here in
          ap (λ (b : Bool). is_taken taken addr || (is_taken kept addr || b)) some ∙ or_third (is_taken taken addr) (is_taken kept addr)

  pub all_different : AreWantedOnce wants → AreApart plan.subnets → AreHeldOnce kept → AreDifferent addrs
  all_different wanted apart once =
      AllPairs-from _ addrs (all_differ plan (own plan taken kept) (is_held plan taken kept wants) wants addrs are_given own_used
      (all_apart plan taken kept apart once [] wants faultless (Pairs-from _ wants wanted)))
