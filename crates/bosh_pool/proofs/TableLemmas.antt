-- How tables by number and by network grow, and what is found by them.
use Rattle.std.proofs.Common.{◌≡◌, ℕ, Bool, true, false, ◌&&◌, ◌||◌, ◌==◌, not, cond, List, [], ◌∷◌, ◌++◌, Option, Some, None, find, filter, map, option_map, refl, sym, ap, ◌∙◌, inl, inr, append-nil, arith}
use Rattle.std.specs.Prelude.{if◌then◌else◌, Vec}
use Rattle.std.specs.declared.alloc.Global.{Global}
use Rattle.std.specs.declared.cmp.Ordering.{Ordering}
use Rattle.std.specs.declared.cmp.Ordering.TheVariants.{Less, Equal, Greater}
use Rattle.std.specs.BTreeMap.{BTreeMap, Updates, UpdatesBy, get, get_by}
use Rattle.std.specs.Cmp.Lexicographic.{slice_cmp}
use Rattle.std.specs.List.{list_any}
use Rattle.std.specs.Option.{is_some, option_copied, option_or}
use Rattle.std.specs.Ordering.{nat_cmp, ordering_then, is_eq}
use Rattle.std.specs.Str.{bytes_eq}
use Rattle.std.proofs.lemmas.Bool.{eqb-true}
use Rattle.std.proofs.lemmas.Bool.Decides.{eqb_tells, nat_tests}
use Rattle.std.proofs.lemmas.List.Folds.{find-append}
use Rattle.std.proofs.lemmas.Map.Text.{is_eq-slice_cmp}
use Rattle.std.proofs.lemmas.Slice.Eq.{bytes_eq-Decides}
use denote.Ref.{Bor}
use Rattle.bosh_base.specs.Inst.{inst_cmp}
use Rattle.bosh_base.specs.Plan.{is_dynamic}
use Rattle.bosh_base.specs.declared.addr.Addr.{Addr}
use Rattle.bosh_base.specs.declared.inst.Inst.{Inst}
use Rattle.bosh_base.specs.declared.owner.Owner.TheVariants.{Instance}
use Rattle.bosh_base.specs.declared.plan.NetPlan.{NetPlan}
use Rattle.bosh_base.specs.declared.view.Held.{Held}
use Rattle.bosh_bands.specs.Least.{first_of}
use Rattle.bosh_pool.specs.declared.entries.Entries.{Entries}
use Rattle.bosh_pool.specs.declared.holders.Holders.{Holders}
use Rattle.bosh_pool.specs.declared.want.Want.{Want}
use Rattle.bosh_pool.specs.Fixed.{holder, holds, instance_of, is_given, is_owner, owner_of, same_inst}
use Rattle.bosh_pool.specs.Kept.{is_kept, is_taken}
use Rattle.bosh_pool.specs.Table.{AllHolders, AreEntries, FirstEntries, FirstWants, entries_of, entry_beside, first_at, found_holder, is_of, is_open_to, listed, network_cmp}

is_eq-nat_cmp : (a b : ℕ) → is_eq (nat_cmp a b) ≡ (a == b)
is_eq-nat_cmp a b = grind (arith, nat_tests)

-- ---- who holds an address

-- one more entry at an address, where it is the address that is asked for, and where it is not
beside_more : (b mine : Bool) (held : Held) (old : Option Held) → option_or old (if mine then None else Some held) ≡ option_or old (cond (true && not mine) (Some held) None)
beside_more b true held old = refl
beside_more b false held old = refl

or_none_right : {A : Type 0} (o : Option A) → option_or o None ≡ o
or_none_right None = refl
or_none_right (Some x) = refl

pub AllHolders-put : (before : List Held) (held : Held) (holders : Holders) (m n : BTreeMap ℕ Holders)
    → ((inst : Inst) → entry_beside inst (Some holders) ≡ option_or (entry_beside inst (get nat_cmp m held.addr.0)) (if is_owner inst held.owner then None else Some held))
    → Updates nat_cmp m n held.addr.0 (Some holders) → AllHolders before m → AllHolders (before ++ held ∷ []) n
AllHolders-put before held holders m n more updates all = λ inst addr.
    let test : Held → Bool = λ h. holds addr h && not (is_owner inst h.owner) in
    let old : entry_beside inst (get nat_cmp m addr.0) ≡ find test before = all inst addr in
    let now : get nat_cmp n addr.0 ≡ cond (held.addr.0 == addr.0) (Some holders) (get nat_cmp m addr.0) = updates.0 addr.0 ∙ ap (λ (b : Bool). cond b (Some holders) (get nat_cmp m addr.0)) (is_eq-nat_cmp held.addr.0 addr.0) in
    let here : entry_beside inst (get nat_cmp n addr.0) ≡ option_or (find test before) (find test (held ∷ [])) =
    elim (eqb_tells held.addr.0 addr.0) [
      | inl same ↦
          let put : get nat_cmp n addr.0 ≡ Some holders = now ∙ ap (λ (b : Bool). cond b (Some holders) (get nat_cmp m addr.0)) same.0 in
          let at : option_or (entry_beside inst (get nat_cmp m held.addr.0)) (if is_owner inst held.owner then None else Some held) ≡ option_or (find test before) (if is_owner inst held.owner then None else Some held) =
          ap (λ (k : ℕ). option_or (entry_beside inst (get nat_cmp m k)) (if is_owner inst held.owner then None else Some held)) same.1 ∙ ap (λ (o : Option Held). option_or o (if is_owner inst held.owner then None else Some held)) old in
          ap (entry_beside inst) put ∙ more inst ∙ at ∙ beside_more true (is_owner inst held.owner) held (find test before)
          ∙ ap (λ (b : Bool). option_or (find test before) (cond (b && not (is_owner inst held.owner)) (Some held) None)) (sym same.0)
      | inr apart ↦
          let kept : get nat_cmp n addr.0 ≡ get nat_cmp m addr.0 = now ∙ ap (λ (b : Bool). cond b (Some holders) (get nat_cmp m addr.0)) apart.0 in
          ap (entry_beside inst) kept ∙ old ∙ sym (or_none_right (find test before))
          ∙ ap (λ (b : Bool). option_or (find test before) (cond (b && not (is_owner inst held.owner)) (Some held) None)) (sym apart.0)
    ] in
    here ∙ sym (find-append test before (held ∷ []))

-- ---- the first item at a number

pub FirstEntries-put : (before : List Held) (held : Held) (m n : BTreeMap ℕ (Bor Held))
    → ((at : ℕ) → first_at n at ≡ option_or (first_at m at) (if held.addr.0 == at then Some held else None))
    → FirstEntries before m → FirstEntries (before ++ held ∷ []) n
FirstEntries-put before held m n more first = λ addr.
    more addr.0 ∙ ap (λ (o : Option Held). option_or o (if held.addr.0 == addr.0 then Some held else None)) (first addr)
    ∙ sym (find-append (holds addr) before (held ∷ []))

-- a want to which the manifest gives no address
pub FirstWants-same : (before : List Want) (want : Want) (table : BTreeMap ℕ (Bor Want)) → want.fixed ≡ None → FirstWants before table → FirstWants (before ++ want ∷ []) table
FirstWants-same before want table none first = λ addr.
    first addr ∙ sym (or_none_right (find (λ w. is_given addr w.fixed) before))
    ∙ ap (λ (fixed : Option Addr). option_or (find (λ w. is_given addr w.fixed) before) (cond (is_given addr fixed) (Some want) None)) (sym none)
    ∙ sym (find-append (λ w. is_given addr w.fixed) before (want ∷ []))

pub FirstWants-put : (before : List Want) (want : Want) (fixed : Addr) (m n : BTreeMap ℕ (Bor Want)) → want.fixed ≡ Some fixed
    → ((at : ℕ) → first_at n at ≡ option_or (first_at m at) (if fixed.0 == at then Some want else None))
    → FirstWants before m → FirstWants (before ++ want ∷ []) n
FirstWants-put before want fixed m n is more first = λ addr.
    more addr.0 ∙ ap (λ (o : Option Want). option_or o (if fixed.0 == addr.0 then Some want else None)) (first addr)
    ∙ ap (λ (f : Option Addr). option_or (find (λ w. is_given addr w.fixed) before) (cond (is_given addr f) (Some want) None)) (sym is)
    ∙ sym (find-append (λ w. is_given addr w.fixed) before (want ∷ []))

-- ---- what an address is refused for

pub holder_found : (taken kept : List Held) (before : List Want) (entries : Entries) (given : BTreeMap ℕ (Bor Want)) (want : Want) (addr : Addr)
    → AreEntries taken kept entries → FirstWants before given → found_holder entries given want.inst addr ≡ holder taken kept before want addr
holder_found taken kept before entries given want addr are first =
    let a = are.firsts addr in
    let b = are.holders want.inst addr in
    let c = first addr in
    ap (λ (o : Option Held). first_of (option_map owner_of o) (first_of (option_map owner_of (entry_beside want.inst (get nat_cmp entries.holders addr.0))) (option_map instance_of (first_at given addr.0)))) a
    ∙ ap (λ (o : Option Held). first_of (option_map owner_of (find (holds addr) taken)) (first_of (option_map owner_of o) (option_map instance_of (first_at given addr.0)))) b
    ∙ ap (λ (o : Option Want). first_of (option_map owner_of (find (holds addr) taken)) (first_of (option_map owner_of (find (λ held. holds addr held && not (is_owner want.inst held.owner)) kept)) (option_map instance_of o))) c

-- ---- the entries by network

and_parts : (a b : Bool) → (a && b) ≡ true → (a ≡ true) × (b ≡ true)
and_parts true b h = (refl, h)
and_parts false b h = absurd (cc)

is_eq-then : (a b : Ordering) → is_eq (ordering_then a b) ≡ (is_eq a && is_eq b)
is_eq-then Less b = refl
is_eq-then Equal b = refl
is_eq-then Greater b = refl

-- the key of an entry's instance and network is that of its entries
same_key : (held : Held) (one inst : Inst) (net : List ℕ) → held.owner ≡ Instance one
    → is_eq (ordering_then (inst_cmp one inst) (slice_cmp nat_cmp held.net net)) ≡ is_of inst net held
same_key held one inst net is =
    is_eq-then (inst_cmp one inst) (slice_cmp nat_cmp held.net net)
    ∙ ap (λ (b : Bool). is_eq (inst_cmp one inst) && b) (is_eq-slice_cmp held.net net)
    ∙ ap (λ (b : Bool). b && bytes_eq held.net net) (same ∙ ap (is_owner inst) (sym is))
  where
    same : is_eq (inst_cmp one inst) ≡ same_inst one inst
    same =
        is_eq-then (slice_cmp nat_cmp one.dep inst.dep) (ordering_then (slice_cmp nat_cmp one.group inst.group) (nat_cmp one.index inst.index))
        ∙ ap (λ (b : Bool). is_eq (slice_cmp nat_cmp one.dep inst.dep) && b) (is_eq-then (slice_cmp nat_cmp one.group inst.group) (nat_cmp one.index inst.index))
        ∙ ap (λ (b : Bool). b && (is_eq (slice_cmp nat_cmp one.group inst.group) && is_eq (nat_cmp one.index inst.index))) (is_eq-slice_cmp one.dep inst.dep)
        ∙ ap (λ (b : Bool). bytes_eq one.dep inst.dep && (b && is_eq (nat_cmp one.index inst.index))) (is_eq-slice_cmp one.group inst.group)
        ∙ ap (λ (b : Bool). bytes_eq one.dep inst.dep && (bytes_eq one.group inst.group && b)) (is_eq-nat_cmp one.index inst.index)

key_same : (one inst : Inst) (of net : List ℕ) → is_eq (ordering_then (inst_cmp one inst) (slice_cmp nat_cmp of net)) ≡ true → (one ≡ inst) × (of ≡ net)
key_same one inst of net h =
    let parts : ((is_eq (slice_cmp nat_cmp one.dep inst.dep) && (is_eq (slice_cmp nat_cmp one.group inst.group) && is_eq (nat_cmp one.index inst.index))) && is_eq (slice_cmp nat_cmp of net)) ≡ true =
    sym (is_eq-then (inst_cmp one inst) (slice_cmp nat_cmp of net)
    ∙ ap (λ (b : Bool). b && is_eq (slice_cmp nat_cmp of net))
    (is_eq-then (slice_cmp nat_cmp one.dep inst.dep) (ordering_then (slice_cmp nat_cmp one.group inst.group) (nat_cmp one.index inst.index))
    ∙ ap (λ (b : Bool). is_eq (slice_cmp nat_cmp one.dep inst.dep) && b) (is_eq-then (slice_cmp nat_cmp one.group inst.group) (nat_cmp one.index inst.index)))) ∙ h in
    let (inst_eq, net_eq) = and_parts _ (is_eq (slice_cmp nat_cmp of net)) parts in
    let (dep, rest) = and_parts (is_eq (slice_cmp nat_cmp one.dep inst.dep)) _ inst_eq in
    let (group, index) = and_parts (is_eq (slice_cmp nat_cmp one.group inst.group)) _ rest in
    let dep_is : one.dep ≡ inst.dep = (bytes_eq-Decides one.dep inst.dep).0 (sym (is_eq-slice_cmp one.dep inst.dep) ∙ dep) in
    let group_is : one.group ≡ inst.group = (bytes_eq-Decides one.group inst.group).0 (sym (is_eq-slice_cmp one.group inst.group) ∙ group) in
    let index_is : one.index ≡ inst.index = eqb-true one.index inst.index (sym (is_eq-nat_cmp one.index inst.index) ∙ index) in
    (λ k. record { dep = dep_is k; group = group_is k; index = index_is k }, (bytes_eq-Decides of net).0 (sym (is_eq-slice_cmp of net) ∙ net_eq))

-- the list that was taken out under a key is put back with one more entry
pub entries_of-put : (held : Held) (one : Inst) (m without n : BTreeMap (Bor Inst × Bor (List ℕ)) (Vec (Bor Held) Global)) (found : Option (Vec (Bor Held) Global)) (entries : Vec (Bor Held) Global)
    → held.owner ≡ Instance one → found ≡ get_by (network_cmp one held.net) m → listed (Some entries) ≡ listed found ++ held ∷ []
    → UpdatesBy (λ x y. ordering_then (inst_cmp x.0.now y.0.now) (slice_cmp nat_cmp x.1.now y.1.now)) (network_cmp one held.net) m without None
    → UpdatesBy (λ x y. ordering_then (inst_cmp x.0.now y.0.now) (slice_cmp nat_cmp x.1.now y.1.now)) (network_cmp one held.net) without n (Some entries)
    → (inst : Inst) (net : List ℕ) → entries_of n inst net ≡ entries_of m inst net ++ (if is_of inst net held then held ∷ [] else [])
entries_of-put held one m without n found entries owner was with removed put inst net =
    let key : Bor Inst × Bor (List ℕ) = (record { ref_ptr = (0, 0); now = inst }, record { ref_ptr = (0, 0); now = net }) in
    let test : is_eq (network_cmp one held.net key) ≡ is_of inst net held = same_key held one inst net owner in
    let taken_out : get_by (network_cmp inst net) without ≡ cond (is_of inst net held) None (get_by (network_cmp inst net) m) =
    removed.0 key ∙ ap (λ (b : Bool). cond b None (get_by (network_cmp inst net) m)) test in
    let put_back : get_by (network_cmp inst net) n ≡ cond (is_of inst net held) (Some entries) (get_by (network_cmp inst net) without) =
    put.0 key ∙ ap (λ (b : Bool). cond b (Some entries) (get_by (network_cmp inst net) without)) test in
    by (is_of inst net held) refl taken_out put_back
  where
    by : (b : Bool) → is_of inst net held ≡ b
        → get_by (network_cmp inst net) without ≡ cond b None (get_by (network_cmp inst net) m)
        → get_by (network_cmp inst net) n ≡ cond b (Some entries) (get_by (network_cmp inst net) without)
        → entries_of n inst net ≡ entries_of m inst net ++ (if b then held ∷ [] else [])
    by true e out back =
        let (inst_is, net_is) = key_same one inst held.net net (same_key held one inst net owner ∙ e) in
        let here : get_by (network_cmp one held.net) m ≡ get_by (network_cmp inst net) m =
        ap (λ (i : Inst). get_by (network_cmp i held.net) m) inst_is ∙ ap (λ (t : List ℕ). get_by (network_cmp inst t) m) net_is in
        ap listed back ∙ with ∙ ap (λ (o : Option (Vec (Bor Held) Global)). listed o ++ held ∷ []) (was ∙ here)
    by false e out back = ap listed (back ∙ out) ∙ sym (append-nil (entries_of m inst net))

-- ---- the address that a want keeps

pub find-map : {A B : Type 0} (p : B → Bool) (f : A → B) (xs : List A) → option_map f (find (λ x. p (f x)) xs) ≡ find p (map f xs)
find-map p f [] = refl
find-map p f (x ∷ xs) = by (p (f x)) (find-map p f xs)
  where
    by : (b : Bool) → option_map f (find (λ x. p (f x)) xs) ≡ find p (map f xs) → option_map f (cond b (Some x) (find (λ x. p (f x)) xs)) ≡ cond b (Some (f x)) (find p (map f xs))
    by true e = refl
    by false e = e

find-filter : {A : Type 0} (p q : A → Bool) (xs : List A) → find p (filter q xs) ≡ find (λ x. q x && p x) xs
find-filter p q [] = refl
find-filter p q (x ∷ xs) = by (q x) (find-filter p q xs)
  where
    by : (b : Bool) → find p (filter q xs) ≡ find (λ x. q x && p x) xs → find p (cond b (x ∷ filter q xs) (filter q xs)) ≡ cond (b && p x) (Some x) (find (λ x. q x && p x) xs)
    by true e = ap (λ o. cond (p x) (Some x) o) e
    by false e = e

is_some-find : {A : Type 0} (p : A → Bool) (xs : List A) → is_some (find p xs) ≡ list_any p xs
is_some-find p [] = refl
is_some-find p (x ∷ xs) = by (p x) (is_some-find p xs)
  where
    by : (b : Bool) → is_some (find p xs) ≡ list_any p xs → is_some (cond b (Some x) (find p xs)) ≡ (b || list_any p xs)
    by true e = refl
    by false e = e

is_some-copied : {A : Type 0} (o : Option (Bor A)) → is_some (option_copied o) ≡ is_some o
is_some-copied None = refl
is_some-copied (Some x) = refl

swap : (a b c d : Bool) → ((a && b) && (c && d)) ≡ (a && (b && (d && c)))
swap true true true d = by d
  where
    by : (d : Bool) → d ≡ (d && true)
    by true = refl
    by false = refl
swap true true false d = by d
  where
    by : (d : Bool) → false ≡ (d && false)
    by true = refl
    by false = refl
swap true false c d = refl
swap false b c d = refl

-- the first of an instance's entries on a network that a want may have is the one that it keeps
pub kept_found : (plan : NetPlan) (taken kept : List Held) (entries : Entries) (want : Want) → AreEntries taken kept entries
    → find (is_open_to plan entries.taken want) (entries_of entries.kept want.inst want.net) ≡ find (is_kept plan taken want) kept
kept_found plan taken kept entries want are =
    ap (find (is_open_to plan entries.taken want)) (are.networks want.inst want.net)
    ∙ find-filter (is_open_to plan entries.taken want) (is_of want.inst want.net) kept
    ∙ ap (λ (test : Held → Bool). find test kept) (λ i held. same held i)
  where
    same : (held : Held) → (is_of want.inst want.net held && is_open_to plan entries.taken want held) ≡ is_kept plan taken want held
    same held =
        let taken_is : is_some (get nat_cmp entries.taken held.addr.0) ≡ is_taken taken held.addr =
        sym (is_some-copied (get nat_cmp entries.taken held.addr.0)) ∙ ap is_some (are.firsts held.addr) ∙ is_some-find (holds held.addr) taken in
        ap (λ (b : Bool). is_of want.inst want.net held && (not b && is_dynamic plan want.net want.az held.addr)) taken_is
        ∙ swap (is_owner want.inst held.owner) (bytes_eq held.net want.net) (not (is_taken taken held.addr)) (is_dynamic plan want.net want.az held.addr)
