-- How the addresses of a deployment are given out to its instances, one group after another.
use Rattle.std.proofs.Common.{◌≡◌, ◌∙◌, ℕ, zero, suc, ◌<◌, ◌≤◌, List, [], ◌∷◌, ◌++◌, length, map, take, drop, get_or, ap, refl, sym, subst, append_assoc, append-nil, arith, inl, inr}
use Rattle.std.specs.List.{AllByRecursion, AllZip, flat_map}
use Rattle.std.proofs.lemmas.Bool.{cases_lt}
use Rattle.std.proofs.lemmas.List.{length-take, take-append-drop}
use Rattle.bosh_base.specs.declared.addr.Addr.{Addr}
use Rattle.bosh_instances.specs.Machines.{net_addrs, own_addrs}
use Rattle.bosh_manifest_parts.specs.declared.network.NetUse.{NetUse}
use Rattle.bosh_offers.specs.Sited.{beyond, by_instance, site}
use Rattle.bosh_wants.specs.Wants.{below}
use Rattle.bosh_slots.specs.Slots.{net_addr}
use Rattle.bosh_manifest_names.specs.Used.{UsedGroup}
use Rattle.laws_goals.proofs.ListLemmas.{zip_back, zip_front}

-- ---- numbers below one

pub flat_append : {X Y : Type 0} (f : X → List Y) (xs ys : List X) → flat_map f (xs ++ ys) ≡ flat_map f xs ++ flat_map f ys
flat_append f [] ys = refl
flat_append f (x ∷ xs) ys = ap (λ more. f x ++ more) (flat_append f xs ys) ∙ sym (append_assoc (f x) (flat_map f xs) (flat_map f ys))

pub flat_below : {Y : Type 0} (f : ℕ → List Y) (n : ℕ) (more : List Y) → flat_map f (below (suc n)) ++ more ≡ flat_map f (below n) ++ (f n ++ more)
flat_below f n more =
    ap (λ all. all ++ more) (flat_append f (below n) (n ∷ []))
    ∙ (append_assoc (flat_map f (below n)) (f n ++ []) more
    ∙ ap (λ last. flat_map f (below n) ++ (last ++ more)) (append-nil (f n)))

pub all_below : (n : ℕ) → AllByRecursion (λ i. i < n) (below n)
all_below n = within n n (omega arith)
  where
    push : (P : ℕ → Type 0) (is : List ℕ) (i : ℕ) → AllByRecursion P is → P i → AllByRecursion P (is ++ i ∷ [])
    push P [] i all here = (here, tt)
    push P (j ∷ is) i (first, more) here = (first, push P is i more here)

    within : (m n : ℕ) → m ≤ n → AllByRecursion (λ i. i < n) (below m)
    within zero n h = tt
    within (suc m) n h = push (λ i. i < n) (below m) m (within m n (omega arith)) (omega arith)

-- ---- parts of a list

beyond_more : (n w : ℕ) (addrs : List Addr) → beyond (suc n) w addrs ≡ drop w (beyond n w addrs)
beyond_more zero w addrs = refl
beyond_more (suc n) w addrs = beyond_more n w (drop w addrs)

by_instance_at : (n w : ℕ) (addrs : List Addr) (i : ℕ) → i < n → get_or (by_instance n w addrs) i [] ≡ take w (beyond i w addrs)
by_instance_at zero w addrs i h = absurd (omega arith)
by_instance_at (suc n) w addrs zero h = refl
by_instance_at (suc n) w addrs (suc i) h = by_instance_at n w (drop w addrs) i (omega arith)

-- the parts and what follows them are the list
pub parts_are : (n w : ℕ) (addrs : List Addr) → flat_map (λ i. take w (beyond i w addrs)) (below n) ++ beyond n w addrs ≡ addrs
parts_are zero w addrs = refl
parts_are (suc n) w addrs =
    flat_below (λ i. take w (beyond i w addrs)) n (beyond (suc n) w addrs)
    ∙ (ap (λ rest. flat_map (λ i. take w (beyond i w addrs)) (below n) ++ (take w (beyond n w addrs) ++ rest)) (beyond_more n w addrs)
    ∙ (ap (λ rest. flat_map (λ i. take w (beyond i w addrs)) (below n) ++ rest) (take-append-drop w (beyond n w addrs))
    ∙ parts_are n w addrs))

module _ {X : Type 0} (Q : X → Addr → Type 0) (f : ℕ → List X) (w : ℕ) (each : (i : ℕ) → length (f i) ≡ w) where
  -- what is asked for after so many
  pub zip_beyond : (n : ℕ) (more : List X) (addrs : List Addr) → AllZip Q (flat_map f (below n) ++ more) addrs → AllZip Q more (beyond n w addrs)
  zip_beyond zero more addrs all = all
  zip_beyond (suc n) more addrs all =
      let here : AllZip Q (f n ++ more) (beyond n w addrs) = zip_beyond n (f n ++ more) addrs (subst (λ xs. AllZip Q xs addrs) (flat_below f n more) all) in
      subst (AllZip Q more) (sym (beyond_more n w addrs)) (zip_back Q (f n) more (beyond n w addrs) w (each n) here)

  -- what one of them asks for
  pub zip_at : (n : ℕ) (more : List X) (addrs : List Addr) (i : ℕ) → i < n → AllZip Q (flat_map f (below n) ++ more) addrs → AllZip Q (f i) (take w (beyond i w addrs))
  zip_at zero more addrs i h all = absurd (omega arith)
  zip_at (suc n) more addrs i h all =
      let parts : AllZip Q (flat_map f (below n) ++ (f n ++ more)) addrs = subst (λ xs. AllZip Q xs addrs) (flat_below f n more) all in
      elim (cases_lt i n) [
        | inl less ↦ zip_at n (f n ++ more) addrs i less parts
        | inr last ↦
            let same : n ≡ i = omega arith in
            let here : AllZip Q (f n) (take w (beyond n w addrs)) = zip_front Q (f n) more (beyond n w addrs) w (each n) (zip_beyond n (f n ++ more) addrs parts) in
            subst (λ k. AllZip Q (f k) (take w (beyond k w addrs))) same here
      ]

-- ---- the addresses of an instance

pub own_at : (used : UsedGroup) (addrs : List Addr) (i : ℕ) → i < used.group.instances
    → own_addrs (site used addrs) i ≡ take (length used.group.networks) (beyond i (length used.group.networks) addrs)
own_at used addrs i h = by_instance_at used.group.instances (length used.group.networks) addrs i h

nets_fit : (networks : List NetUse) (own : List Addr) → length own ≤ length networks → map net_addr (net_addrs networks own) ≡ own
nets_fit networks [] h = none networks
  where
    none : (networks : List NetUse) → map net_addr (net_addrs networks []) ≡ []
    none [] = refl
    none (network ∷ networks) = refl
nets_fit [] (addr ∷ own) h = absurd (omega arith)
nets_fit (network ∷ networks) (addr ∷ own) h = ap (λ more. addr ∷ more) (nets_fit networks own (omega arith))

pub own_nets : (used : UsedGroup) (addrs : List Addr) (i : ℕ) → i < used.group.instances
    → map net_addr (net_addrs used.group.networks (own_addrs (site used addrs) i)) ≡ take (length used.group.networks) (beyond i (length used.group.networks) addrs)
own_nets used addrs i h =
    let w : ℕ = length used.group.networks in
    let own : own_addrs (site used addrs) i ≡ take w (beyond i w addrs) = own_at used addrs i h in
    let few : length (take w (beyond i w addrs)) ≤ w = omega (arith, length-take w (beyond i w addrs)) in
    ap (λ o. map net_addr (net_addrs used.group.networks o)) own ∙ nets_fit used.group.networks (take w (beyond i w addrs)) few
