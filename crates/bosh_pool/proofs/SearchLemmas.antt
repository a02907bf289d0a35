-- A search over subnets goes on.
use Rattle.std.proofs.Common.{◌≡◌, ℕ, ◌+◌, ◌<◌, Bool, true, false, ◌&&◌, ◌||◌, not, List, [], ◌∷◌, ◌++◌, Option, Some, None, get_or, set, take, length, arith, refl, sym, ap, subst, ◌∙◌, inl, inr, length-append, true≢false}
use Rattle.std.specs.BTreeSet.{BTreeSet}
use Rattle.std.specs.List.{list_any}
use Rattle.std.proofs.lemmas.Bool.{cases_lt, cases_eq, le-leb, lt-leb}
use Rattle.std.proofs.lemmas.List.{get_or-set_same, get_or-set_other, get_or_append_left, get_or_default, get_or_push, length-set, take_more}
use Rattle.std.proofs.lemmas.List.Folds.{list_any-append}
use Rattle.std.proofs.Math.Bool.{or-false}
use Rattle.bosh_base.specs.Plan.{has_dynamic}
use Rattle.bosh_base.specs.declared.addr.Addr.{Addr}
use Rattle.bosh_base.specs.declared.plan.Subnet.{Subnet}
use Rattle.bosh_bands.specs.Least.{IsLeast, least}
use Rattle.bosh_bands.proofs.LeastLemmas.{least-found, least-nowhere}
use Rattle.bosh_pool.specs.declared.closed.Closed.{Closed}
use Rattle.bosh_pool.specs.declared.spot.Spot.{Spot}
use Rattle.bosh_pool.specs.declared.want.Want.{Want}
use Rattle.bosh_pool.specs.Free.{IsReady, is_open, is_used}
use Rattle.bosh_pool.specs.Search.{AreReady, Finds, is_free_for, is_free_in, lesser}

-- what is found by a test is found by an equal one
pub Finds-same : (p q : Addr → Bool) (found : Option Addr) → ((addr : Addr) → p addr ≡ q addr) → Finds p found → Finds q found
Finds-same p q found same h = subst (λ (test : Addr → Bool). Finds test found) (λ i addr. same addr i) h

-- the less of two that are found by tests is found by either test
pub Finds-lesser : (p q : Addr → Bool) (x y : Option Addr) → Finds p x → Finds q y → Finds (λ addr. p addr || q addr) (lesser x y)
Finds-lesser p q None None h k = λ addr within. rw (h addr within, k addr within) refl
Finds-lesser p q None (Some b) h k = (
  record {
    passes = rw (h b k.1) k.0.passes;
    below = λ other lower. rw (h other (omega (arith, k.1)), k.0.below other lower) refl;
  },
  k.1,
)
Finds-lesser p q (Some a) None h k = (
  record {
    passes = rw h.0.passes refl;
    below = λ other lower. rw (h.0.below other lower, k other (omega (arith, h.1))) refl;
  },
  h.1,
)
Finds-lesser p q (Some a) (Some b) h k =
    elim (cases_lt b.0 a.0) [
      | inl less ↦
          let least : IsLeast (λ addr. p addr || q addr) b =
          record {
            passes = rw (h.0.below b less) k.0.passes;
            below = λ other lower. rw (h.0.below other (omega arith), k.0.below other lower) refl;
          } in
          rw (lt-leb a.0 b.0 less) (least, k.1)
      | inr more ↦
          let least : IsLeast (λ addr. p addr || q addr) a =
          record {
            passes = rw h.0.passes refl;
            below = λ other lower. rw (h.0.below other lower, k.0.below other (omega arith)) refl;
          } in
          rw (le-leb a.0 b.0 more) (least, h.1)
    ]

spread : (a b u : Bool) → ((a || b) && u) ≡ ((a && u) || (b && u))
spread true b true = refl
spread true true false = refl
spread true false false = refl
spread false b u = refl

-- the least over one subnet more
pub least_more : (net az : List ℕ) (used : BTreeSet ℕ) (subnets : List Subnet) (i : ℕ) (subnet : Subnet) (best found : Option Addr) → i < length subnets → subnet ≡ get_or subnets i subnet
    → Finds (is_free_in net az used (take i subnets)) best → Finds (is_free_for net az used subnet) found → Finds (is_free_in net az used (take (i + 1) subnets)) (lesser best found)
least_more net az used subnets i subnet best found within is h k =
    let gives : Subnet → Addr → Bool = λ s addr. has_dynamic s net az addr in
    let more : take (i + 1) subnets ≡ take i subnets ++ subnet ∷ [] = take_more subnets i subnet within ∙ ap (λ s. take i subnets ++ s ∷ []) (sym is) in
    let same : (addr : Addr) → (is_free_in net az used (take i subnets) addr || is_free_for net az used subnet addr) ≡ is_free_in net az used (take (i + 1) subnets) addr =
    λ addr. sym (spread (list_any (λ s. gives s addr) (take i subnets)) (gives subnet addr) (not (is_used used addr)))
    ∙ ap (λ b. b && not (is_used used addr)) (ap (λ b. list_any (λ s. gives s addr) (take i subnets) || b) (sym (or-false (gives subnet addr))) ∙ sym (list_any-append (λ s. gives s addr) (take i subnets) (subnet ∷ [])))
    ∙ ap (λ xs. is_free_in net az used xs addr) (sym more) in
    Finds-same _ _ (lesser best found) same (Finds-lesser (is_free_in net az used (take i subnets)) (is_free_for net az used subnet) best found h k)

still_not_free : (open_ old new : Bool) → (old ≡ true → new ≡ true) → (open_ && not old) ≡ false → (open_ && not new) ≡ false
still_not_free false old new more h = refl
still_not_free true true true more h = refl
still_not_free true true false more h = absurd (true≢false (sym (more refl)))
still_not_free true false new more h = absurd (cc)

-- the search stands at a later spot in one subnet
pub AreReady-set : (subnets : List Subnet) (bands : List Closed) (used : BTreeSet ℕ) (spots : List Spot) (i : ℕ) (spot : Spot) (s : Subnet) (b : Closed) → i < length subnets
    → IsReady (get_or subnets i s) (get_or bands i b).bands used spot → AreReady subnets bands used spots → AreReady subnets bands used (set spots i spot)
AreReady-set subnets bands used spots i spot s b within now ready =
    record {
      closed_count = ready.closed_count;
      spots_count = length-set spots i spot ∙ ready.spots_count;
      each = λ k s' b' d below.
          elim (cases_eq k i) [
            | inl same ↦
                let inside : i < length spots = omega (arith, ready.spots_count) in
                let here : get_or (set spots i spot) k d ≡ spot = ap (λ n. get_or (set spots i spot) n d) same ∙ get_or-set_same spots i spot d inside in
                let subnet : get_or subnets k s' ≡ get_or subnets i s = ap (λ n. get_or subnets n s') same ∙ get_or_default subnets i s' s within in
                let closed : get_or bands k b' ≡ get_or bands i b = ap (λ n. get_or bands n b') same ∙ get_or_default bands i b' b (omega (arith, ready.closed_count)) in
                rw (here, subnet, closed) now
            | inr other ↦
                let kept : get_or (set spots i spot) k d ≡ get_or spots k d = get_or-set_other spots i k spot d other in
                rw kept (ready.each k s' b' d below)
          ];
    }

-- what is found is the least
pub Finds-least : (test : Addr → Bool) (found : Option Addr) → Finds test found → found ≡ least test
Finds-least test None h = sym (least-nowhere test h)
Finds-least test (Some addr) h = sym (least-found test addr h.1 h.0)

-- the search may begin in one subnet more
pub AreReady-push : (subnets : List Subnet) (bands : List Closed) (used : BTreeSet ℕ) (spots : List Spot) (subnet : Subnet) (closed : Closed) (spot : Spot)
    → IsReady subnet closed.bands used spot → AreReady subnets bands used spots → AreReady (subnets ++ subnet ∷ []) (bands ++ closed ∷ []) used (spots ++ spot ∷ [])
AreReady-push subnets bands used spots subnet closed spot now ready =
    record {
      closed_count = length-append bands (closed ∷ []) ∙ ap (λ n. n + 1) ready.closed_count ∙ sym (length-append subnets (subnet ∷ []));
      spots_count = length-append spots (spot ∷ []) ∙ ap (λ n. n + 1) ready.spots_count ∙ sym (length-append subnets (subnet ∷ []));
      each = λ k s b d below.
          let bounds : k < length subnets + 1 = omega (arith, length-append subnets (subnet ∷ [])) in
          elim (cases_lt k (length subnets)) [
            | inl front ↦
                let is_subnet : get_or (subnets ++ subnet ∷ []) k s ≡ get_or subnets k s = get_or_append_left subnets (subnet ∷ []) s k front in
                let is_closed : get_or (bands ++ closed ∷ []) k b ≡ get_or bands k b = get_or_append_left bands (closed ∷ []) b k (omega (arith, ready.closed_count)) in
                let is_spot : get_or (spots ++ spot ∷ []) k d ≡ get_or spots k d = get_or_append_left spots (spot ∷ []) d k (omega (arith, ready.spots_count)) in
                rw (is_subnet, is_closed, is_spot) (ready.each k s b d front)
            | inr last ↦
                let is_subnet : get_or (subnets ++ subnet ∷ []) k s ≡ subnet = get_or_push subnets subnet s k (omega arith) in
                let is_closed : get_or (bands ++ closed ∷ []) k b ≡ closed = get_or_push bands closed b k (omega (arith, ready.closed_count)) in
                let is_spot : get_or (spots ++ spot ∷ []) k d ≡ spot = get_or_push spots spot d k (omega (arith, ready.spots_count)) in
                rw (is_subnet, is_closed, is_spot) now
          ];
    }

-- an address in use more leaves a search where it is
pub AreReady-note : (subnets : List Subnet) (bands : List Closed) (old new : BTreeSet ℕ) (spots : List Spot) → ((addr : Addr) → is_used old addr ≡ true → is_used new addr ≡ true)
    → AreReady subnets bands old spots → AreReady subnets bands new spots
AreReady-note subnets bands old new spots more ready =
    record {
      closed_count = ready.closed_count;
      spots_count = ready.spots_count;
      each = λ k s b d below.
          let here = ready.each k s b d below in
          record {
            order = here.order;
            closed = here.closed;
            within = here.within;
            room = here.room;
            passed = here.passed;
            begun = here.begun;
            none = λ addr lower. still_not_free (is_open (get_or subnets k s) addr) (is_used old addr) (is_used new addr) (more addr) (here.none addr lower);
          };
    }
