-- Whether bands in order have an address is told by how far they reach.
use Rattle.std.proofs.Common.{◌≡◌, ℕ, zero, suc, ◌+◌, ◌-◌, ◌<◌, ◌≤◌, Bool, true, false, ◌&&◌, ◌||◌, List, [], ◌∷◌, ◌++◌, get_or, drop, take, length, max, nat_le, arith, refl, sym, ap, subst, ◌∙◌, inl, inr, length-append, length-drop, length-take, add-one}
use Rattle.std.specs.Fn.{Called, ComputesKey}
use Rattle.std.specs.List.{fold, list_any}
use Rattle.std.specs.List.Sorted.{IsPartitionPoint, IsPartitionedBy}
use Rattle.std.proofs.lemmas.Bool.{cases_lt}
use Rattle.std.proofs.lemmas.Bool.Decides.{nat_tests}
use Rattle.std.proofs.lemmas.List.{get_or_append_left, get_or_push, get_or-drop, get_or-take, take-append-drop}
use Rattle.std.proofs.lemmas.List.Folds.{list_any-append}
use Rattle.std.proofs.lemmas.List.Sorted.{IsPartitionPoint-from_clause, IsPartitionedBy-leb}
use Rattle.std.proofs.Math.Bool.{or-false}
use denote.Param.Members.{Mut}
use denote.Ref.{Bor}
use Rattle.bosh_base.specs.Plan.{is_in_some, is_within}
use Rattle.bosh_base.specs.declared.addr.Addr.{Addr}
use Rattle.bosh_base.specs.declared.addr.Band.{Band}
use Rattle.bosh_base.specs.declared.plan.Subnet.{Subnet}
use Rattle.bosh_bands.specs.Order.{IsInOrder}
use Rattle.bosh_pool.specs.Closed.{AreAllClosed, AreReaches, IsClosed, reach}
use Rattle.bosh_pool.specs.declared.closed.Closed.{Closed}

max_reaches : (addr far last : ℕ) → nat_le addr (max far last) ≡ (nat_le addr far || nat_le addr last)
max_reaches addr far last = grind (arith, nat_tests)

-- bands of which all begin no later than an address have it where one of them ends no earlier
some_reaches : (addr : Addr) (bands : List Band) → ((k : ℕ) (d : Band) → k < length bands → nat_le (get_or bands k d).first.0 addr.0 ≡ true)
    → is_in_some addr bands ≡ list_any (λ band. nat_le addr.0 band.last.0) bands
some_reaches addr [] begun = refl
some_reaches addr (band ∷ bands) begun =
    let here : nat_le band.first.0 addr.0 ≡ true = begun 0 band (omega arith) in
    ap (λ (b : Bool). (b && nat_le addr.0 band.last.0) || is_in_some addr bands) here
    ∙ ap (λ (b : Bool). nat_le addr.0 band.last.0 || b) (some_reaches addr bands (λ k d below. begun (suc k) d (omega arith)))

-- none of them has it where all begin later
none_begun : (addr : Addr) (bands : List Band) → ((k : ℕ) (d : Band) → k < length bands → nat_le (get_or bands k d).first.0 addr.0 ≡ false) → is_in_some addr bands ≡ false
none_begun addr [] later = refl
none_begun addr (band ∷ bands) later =
    let here : nat_le band.first.0 addr.0 ≡ false = later 0 band (omega arith) in
    ap (λ (b : Bool). (b && nat_le addr.0 band.last.0) || is_in_some addr bands) here
    ∙ none_begun addr bands (λ k d below. later (suc k) d (omega arith))

fold_reaches : (addr far : ℕ) (bands : List Band) → nat_le addr (fold (λ far band. max far band.last.0) far bands) ≡ (nat_le addr far || list_any (λ band. nat_le addr band.last.0) bands)
fold_reaches addr far [] = sym (or-false (nat_le addr far))
fold_reaches addr far (band ∷ bands) =
    fold_reaches addr (max far band.last.0) bands
    ∙ ap (λ (b : Bool). b || list_any (λ band. nat_le addr band.last.0) bands) (max_reaches addr far band.last.0)
    ∙ assoc (nat_le addr far) (nat_le addr band.last.0) (list_any (λ band. nat_le addr band.last.0) bands)
  where
    assoc : (a b c : Bool) → ((a || b) || c) ≡ (a || (b || c))
    assoc true b c = refl
    assoc false b c = refl

-- where there are some
reach_tells : (addr : ℕ) (band : Band) (bands : List Band) → nat_le addr (reach (band ∷ bands)) ≡ list_any (λ b. nat_le addr b.last.0) (band ∷ bands)
reach_tells addr band bands = fold_reaches addr (max 0 band.last.0) bands ∙ ap (λ (n : ℕ). nat_le addr n || list_any (λ b. nat_le addr b.last.0) bands) (max_nought band.last.0)
  where
    max_nought : (n : ℕ) → max 0 n ≡ n
    max_nought n = omega arith

-- the bands that begin no later than an address, and the others
parts : (addr : Addr) (bands : List Band) (begun : ℕ) → begun ≤ length bands → IsPartitionPoint (λ band. nat_le band.first.0 addr.0 ≡ true) (λ band. nat_le band.first.0 addr.0 ≡ false) bands begun
    → is_in_some addr bands ≡ list_any (λ band. nat_le addr.0 band.last.0) (take begun bands)
parts addr bands begun within point =
    let reaching : Band → Bool = λ band. nat_le addr.0 band.last.0 in
    let front : is_in_some addr (take begun bands) ≡ list_any reaching (take begun bands) =
    some_reaches addr (take begun bands) (λ k d below.
    let low : k < begun = omega (arith, length-take begun bands) in
    ap (λ (band : Band). nat_le band.first.0 addr.0) (get_or-take begun bands k d low) ∙ point.0 k d (omega arith) low) in
    let back : is_in_some addr (drop begun bands) ≡ false =
    none_begun addr (drop begun bands) (λ k d below.
    let low : begun + k < length bands = omega (arith, length-drop begun bands) in
    ap (λ (band : Band). nat_le band.first.0 addr.0) (get_or-drop begun bands k d) ∙ point.1 (begun + k) d (omega arith) low) in
    ap (is_in_some addr) (sym (take-append-drop begun bands))
    ∙ list_any-append (λ band. is_within addr band) (take begun bands) (drop begun bands)
    ∙ ap (λ (b : Bool). is_in_some addr (take begun bands) || b) back ∙ or-false (is_in_some addr (take begun bands)) ∙ front

pub is_closed_by : (addr : Addr) (bands : List Band) (reaches : List ℕ) (begun : ℕ) → begun ≤ length bands → IsPartitionPoint (λ band. nat_le band.first.0 addr.0 ≡ true) (λ band. nat_le band.first.0 addr.0 ≡ false) bands begun
    → AreReaches bands reaches → 0 < begun → (d : ℕ) → nat_le addr.0 (get_or reaches (begun - 1) d) ≡ is_in_some addr bands
is_closed_by addr [] reaches begun within point are some d = absurd (omega arith)
is_closed_by addr (band ∷ bands) reaches zero within point are some d = absurd (omega arith)
is_closed_by addr (band ∷ bands) reaches (suc n) within point are some d =
    let place : suc n - 1 ≡ n = omega arith in
    let far : get_or reaches (suc n - 1) d ≡ reach (take (suc n) (band ∷ bands)) =
    ap (λ (k : ℕ). get_or reaches k d) place ∙ are.each n d (omega arith) ∙ ap (λ (k : ℕ). reach (take k (band ∷ bands))) (add-one n) in
    ap (nat_le addr.0) far ∙ reach_tells addr.0 band (take n bands) ∙ sym (parts addr (band ∷ bands) (suc n) within point)

pub none_closed_by : (addr : Addr) (bands : List Band) (begun : ℕ) → IsPartitionPoint (λ band. nat_le band.first.0 addr.0 ≡ true) (λ band. nat_le band.first.0 addr.0 ≡ false) bands begun
    → begun ≡ 0 → is_in_some addr bands ≡ false
none_closed_by addr bands zero point none = parts addr bands zero (omega arith) point
none_closed_by addr bands (suc n) point none = absurd (omega arith)

-- what a partition point of the bands in order tells
pub point_of : {F : Type 0} {g : Mut F (Bor Band × Unit {0}) Bool} {f : F} (addr : Addr) (xs bands : List Band) (begun : ℕ) → xs ≡ bands → IsInOrder bands
    → ((p : Band → Bool) → ComputesKey g p f → IsPartitionedBy p xs → IsPartitionPoint (λ y. p y ≡ true) (λ y. p y ≡ false) xs begun)
    → ((a : Bor Band × Unit {0}) (r : Bool) (f' : F) → Called g f a r f' → (r ≡ nat_le a.0.now.first.0 addr.0) × (f' ≡ f))
    → IsPartitionPoint (λ band. nat_le band.first.0 addr.0 ≡ true) (λ band. nat_le band.first.0 addr.0 ≡ false) bands begun
point_of addr xs bands begun same order told calls =
    let in_order : IsInOrder xs = subst (λ (ys : List Band). IsInOrder ys) (sym same) order in
    subst (λ (ys : List Band). IsPartitionPoint (λ band. nat_le band.first.0 addr.0 ≡ true) (λ band. nat_le band.first.0 addr.0 ≡ false) ys begun) same
    (IsPartitionPoint-from_clause (λ band. nat_le band.first.0 addr.0) xs begun told (IsPartitionedBy-leb (λ band. band.first.0) xs addr.0 in_order) calls)

-- the bands of the subnet at a place
pub closed_at : (subnets : List Subnet) (closed : List Closed) (i : ℕ) (subnet : Subnet) (one : Closed) → AreAllClosed subnets closed → i < length subnets → subnet ≡ get_or subnets i subnet
    → IsClosed subnet (get_or closed i one)
closed_at subnets closed i subnet one all within is = subst (λ (s : Subnet). IsClosed s (get_or closed i one)) (sym is) (all.each i subnet one within)

-- one subnet more
pub AreAllClosed-push : (subnets : List Subnet) (closed : List Closed) (subnet : Subnet) (one : Closed) → IsClosed subnet one → AreAllClosed subnets closed → AreAllClosed (subnets ++ subnet ∷ []) (closed ++ one ∷ [])
AreAllClosed-push subnets closed subnet one now all =
    record {
      count = length-append closed (one ∷ []) ∙ ap (λ n. n + 1) all.count ∙ sym (length-append subnets (subnet ∷ []));
      each = λ k s c below.
          let bounds : k < length subnets + 1 = omega (arith, length-append subnets (subnet ∷ [])) in
          elim (cases_lt k (length subnets)) [
            | inl front ↦
                let is_subnet : get_or (subnets ++ subnet ∷ []) k s ≡ get_or subnets k s = get_or_append_left subnets (subnet ∷ []) s k front in
                let is_closed : get_or (closed ++ one ∷ []) k c ≡ get_or closed k c = get_or_append_left closed (one ∷ []) c k (omega (arith, all.count)) in
                rw (is_subnet, is_closed) (all.each k s c front)
            | inr last ↦
                let is_subnet : get_or (subnets ++ subnet ∷ []) k s ≡ subnet = get_or_push subnets subnet s k (omega arith) in
                let is_closed : get_or (closed ++ one ∷ []) k c ≡ one = get_or_push closed one c k (omega (arith, all.count)) in
                rw (is_subnet, is_closed) now
          ];
    }
