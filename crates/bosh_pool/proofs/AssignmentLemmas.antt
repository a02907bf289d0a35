-- One more want has its address.
use Rattle.std.proofs.Common.{◌≡◌, ℕ, ◌+◌, ◌<◌, Bool, ◌||◌, List, [], ◌∷◌, ◌++◌, Option, Result, Ok, Err, get_or, drop, length, map, append_assoc, refl, sym, ap, ◌∙◌}
use Rattle.std.specs.BTreeSet.{BTreeSet}
use Rattle.std.specs.List.{list_any}
use Rattle.std.proofs.lemmas.List.{drop_more, get_or-map}
use Rattle.bosh_base.specs.declared.addr.Addr.{Addr}
use Rattle.bosh_base.specs.declared.plan.NetPlan.{NetPlan}
use Rattle.bosh_bands.specs.Least.{first_of}
use Rattle.bosh_pool.specs.declared.fault.PoolFault.{PoolFault}
use Rattle.bosh_pool.specs.declared.want.Want.{Want}
use Rattle.bosh_pool.specs.Assignment.{◌>>=◌, free_for, given_addresses, placed}
use Rattle.bosh_pool.specs.Fixed.{same_addr}
use Rattle.bosh_pool.specs.Free.{is_used}

-- addresses before those of the wants that follow
abbrev pub after : List Addr → Result (List Addr) PoolFault → Result (List Addr) PoolFault
after addrs others = others >>= λ more. Ok (addrs ++ more)

pub after-nil : (others : Result (List Addr) PoolFault) → after [] others ≡ others
after-nil (Ok more) = refl
after-nil (Err fault) = refl

after-more : (addrs : List Addr) (addr : Addr) (others : Result (List Addr) PoolFault) → after addrs (others >>= λ more. Ok (addr ∷ more)) ≡ after (addrs ++ addr ∷ []) others
after-more addrs addr (Ok more) = ap Ok (sym (append_assoc addrs (addr ∷ []) more))
after-more addrs addr (Err fault) = refl

-- what the wants from one on come to
pub given-next : (plan : NetPlan) (find : Want → Option Addr) (used : Addr → Bool) (wants : List Want) (i : ℕ) (want : Want) → i < length wants → want ≡ get_or wants i want
    → given_addresses plan find used (drop i wants) ≡ (placed want (first_of (find want) (free_for plan used want)) >>= λ addr.
    given_addresses plan find (λ other. used other || same_addr other addr) (drop (i + 1) wants) >>= λ others. Ok (addr ∷ others))
given-next plan find used wants i want within is =
    let e : drop i wants ≡ want ∷ drop (i + 1) wants = drop_more wants i want within ∙ ap (λ w. w ∷ drop (i + 1) wants) (sym is) in
    ap (given_addresses plan find used) e

-- one more want has its address
pub given-more : (plan : NetPlan) (find : Want → Option Addr) (old new : BTreeSet ℕ) (wants : List Want) (i : ℕ) (want : Want) (addr : Addr) (addrs : List Addr)
    → i < length wants → want ≡ get_or wants i want → placed want (first_of (find want) (free_for plan (is_used old) want)) ≡ Ok addr
    → ((other : Addr) → is_used new other ≡ (is_used old other || same_addr other addr))
    → after addrs (given_addresses plan find (is_used old) (drop i wants)) ≡ after (addrs ++ addr ∷ []) (given_addresses plan find (is_used new) (drop (i + 1) wants))
given-more plan find old new wants i want addr addrs within is has noted =
    let next = given-next plan find (is_used old) wants i want within is in
    let others = given_addresses plan find (λ other. is_used old other || same_addr other addr) (drop (i + 1) wants) in
    let placed_here : given_addresses plan find (is_used old) (drop i wants) ≡ (others >>= λ more. Ok (addr ∷ more)) = next ∙ rw has refl in
    ap (after addrs) placed_here ∙ after-more addrs addr others
    ∙ ap (λ (used : Addr → Bool). after (addrs ++ addr ∷ []) (given_addresses plan find used (drop (i + 1) wants))) (λ j other. sym (noted other) j)

-- the own address of a want at its place
pub own-at : (find : Want → Option Addr) (wants : List Want) (own : List (Option Addr)) (i : ℕ) (want : Want) (d : Option Addr) → own ≡ map find wants → i < length wants → want ≡ get_or wants i want
    → get_or own i d ≡ find want
own-at find wants own i want d is within here =
    let same : get_or own i d ≡ get_or (map find wants) i d = ap (λ xs. get_or xs i d) is in
    same ∙ get_or-map find wants i want d within ∙ ap find (sym here)

-- where a want has no address, the wants have none
pub given-none : (plan : NetPlan) (find : Want → Option Addr) (used : BTreeSet ℕ) (wants : List Want) (i : ℕ) (want : Want) (fault : PoolFault) (addrs : List Addr) → i < length wants → want ≡ get_or wants i want
    → placed want (first_of (find want) (free_for plan (is_used used) want)) ≡ Err fault → after addrs (given_addresses plan find (is_used used) (drop i wants)) ≡ Err fault
given-none plan find used wants i want fault addrs within is none =
    let next = given-next plan find (is_used used) wants i want within is in
    let same : given_addresses plan find (is_used used) (drop i wants) ≡ Err fault = next ∙ rw none refl in
    ap (after addrs) same

pub list_any-map : {A B : Type 0} (p : B → Bool) (f : A → B) (xs : List A) → list_any p (map f xs) ≡ list_any (λ x. p (f x)) xs
list_any-map p f [] = refl
list_any-map p f (x ∷ xs) = ap (λ b. p (f x) || b) (list_any-map p f xs)
