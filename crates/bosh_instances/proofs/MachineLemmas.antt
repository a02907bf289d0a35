-- How the addresses of a machine are listed.
use Rattle.std.proofs.Common.{◌≡◌, ◌∙◌, ℕ, ◌+◌, ◌<◌, ◌≤◌, List, [], ◌∷◌, length, get_or, drop, add-one, drop-cons, arith, ap, refl, subst, sym, inl, inr, map, min, suc, ◌⊎◌}
use Rattle.std.proofs.Math.ListN.{get_or-map as by_default}
use Rattle.std.proofs.Math.Nat.{le-min}
use Rattle.std.proofs.lemmas.Bool.{cases_lt}
use Rattle.std.proofs.lemmas.Grind.{common_steps}
use Rattle.std.proofs.lemmas.List.{get_or-map}
use Rattle.bosh_base.specs.declared.addr.Addr.{Addr}
use Rattle.bosh_manifest_parts.specs.declared.network.NetUse.{NetUse}
use Rattle.bosh_instances.specs.Machines.{net_addrs}

without-addrs : (networks : List NetUse) → net_addrs networks [] ≡ []
without-addrs [] = refl
without-addrs (network ∷ networks) = refl

-- one more address
pub net_addrs-next : (networks : List NetUse) (addrs : List Addr) (i : ℕ) (network : NetUse) (addr : Addr) → i < length networks → i < length addrs
    → network ≡ get_or networks i network → addr ≡ get_or addrs i addr
    → net_addrs (drop i networks) (drop i addrs) ≡ record { net = network.net; addr = addr } ∷ net_addrs (drop (i + 1) networks) (drop (i + 1) addrs)
net_addrs-next networks addrs i network addr within inside is same =
    let e : drop i networks ≡ network ∷ drop (i + 1) networks = rw (add-one, drop-cons networks i network, ← is) refl in
    let d : drop i addrs ≡ addr ∷ drop (i + 1) addrs = rw (add-one, drop-cons addrs i addr, ← same) refl in
    λ j. net_addrs (e j) (d j)

-- there is none past the shorter list
pub net_addrs-end : (networks : List NetUse) (addrs : List Addr) (i : ℕ) → (length networks ≤ i) ⊎ (length addrs ≤ i) → net_addrs (drop i networks) (drop i addrs) ≡ []
net_addrs-end networks addrs i (inl past) =
    let none : drop i networks ≡ [] = grind (arith, common_steps) in ap (λ (ns : List NetUse). net_addrs ns (drop i addrs)) none
net_addrs-end networks addrs i (inr past) =
    let none : drop i addrs ≡ [] = grind (arith, common_steps) in ap (net_addrs (drop i networks)) none ∙ without-addrs (drop i networks)

-- past the shorter one is past one of both
pub past-either : (a b i m : ℕ) → m ≡ min a b → m ≤ i → (a ≤ i) ⊎ (b ≤ i)
past-either a b i m e h =
    elim (cases_lt i a) [
      | inr past ↦ inl past
      | inl less ↦
          elim (cases_lt i b) [
            | inr past ↦ inr past
            | inl inside ↦
                let l : suc i ≤ min a b = le-min (omega (arith, less)) (omega (arith, inside)) in
                let k : suc i ≤ m = subst (λ (n : ℕ). suc i ≤ n) (sym e) l in
                absurd (omega (arith, k, h))
          ]
    ]

-- what two lists agree in, they agree in at each place
pub mapped-at :
    {A B C : Type 0} (f : A → C) (g : B → C) (xs : List A) (ys : List B) (i : ℕ) (x : A) (y : B)
    → map f xs ≡ map g ys → i < length ys → x ≡ get_or xs i x → y ≡ get_or ys i y → f x ≡ g y
mapped-at {C = C} f g xs ys i x y same within is there =
    ap f is ∙ (sym (by_default f xs i x) ∙ (ap (λ (l : List C). get_or l i (f x)) same ∙ (get_or-map g ys i y (f x) within ∙ sym (ap g there))))
