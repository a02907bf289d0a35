-- The order of versions is total, and tells them apart by their numbers.
use Rattle.std.proofs.Common.{◌≡◌, ◌∙◌, sym, ap, refl, ℕ, ◌<◌, ◌&&◌, Bool, true, false, cond, List, Some, None, option_map, IsTrue, Ordering}
use Rattle.std.specs.declared.cmp.Ordering.TheVariants.{Less, Equal, Greater}
use Rattle.std.specs.Ordering.{nat_cmp, ordering_then, ordering_reverse, MatchOrdering}
use Rattle.std.specs.Cmp.{IsTotalOrder}
use Rattle.std.specs.Cmp.Lexicographic.{slice_cmp}
use Rattle.std.proofs.lemmas.Cmp.{then_total, on_total, lists_total, nat_cmp_total, nat_list_cmp_total, tied_itself, ranked}
use Rattle.std.proofs.lemmas.Map.Lookups.{exact_bytes}
use Rattle.bosh_base.specs.Version.{is_version, IsVersion, numbers_of, dev_of, version_cmp, version_order}

version_cmp_total : IsTotalOrder version_cmp
version_cmp_total = then_total (on_total numbers_of (lists_total nat_cmp_total)) (on_total dev_of nat_cmp_total)

-- what follows from the answer on two versions, or none
both_itself : (p : Bool) (x : Ordering) → IsTrue p → x ≡ Equal → cond (p && p) (Some x) None ≡ Some Equal
both_itself true x h e = ap Some e
both_itself false x h e = cc

both_exchanged : (p q : Bool) (x y : Ordering) → x ≡ ordering_reverse y → cond (q && p) (Some x) None ≡ option_map ordering_reverse (cond (p && q) (Some y) None)
both_exchanged true true x y e = ap Some e
both_exchanged true false x y e = refl
both_exchanged false true x y e = refl
both_exchanged false false x y e = refl

both_chain : (p q r : Bool) (x y z : Ordering) → (x ≡ Less → y ≡ Less → z ≡ Less) → cond (p && q) (Some x) None ≡ Some Less → cond (q && r) (Some y) None ≡ Some Less → cond (p && r) (Some z) None ≡ Some Less
both_chain true true true x y z e h k = ap Some (e (cc) (cc))
both_chain true true false x y z e h k = cc
both_chain true false r x y z e h k = cc
both_chain false q r x y z e h k = cc

both_alike : (p q r : Bool) (x y z : Ordering) → (x ≡ Equal → y ≡ z) → cond (p && q) (Some x) None ≡ Some Equal → cond (p && r) (Some y) None ≡ cond (q && r) (Some z) None
both_alike true true true x y z e h = ap Some (e (cc))
both_alike true true false x y z e h = refl
both_alike true false r x y z e h = cc
both_alike false q r x y z e h = cc

both_given : (p q : Bool) (x y : Ordering) → cond (p && q) (Some x) None ≡ Some y → IsTrue p × IsTrue q × (x ≡ y)
both_given true true x y h = (refl, refl, cc)
both_given true false x y h = (cc, cc, cc)
both_given false q x y h = (cc, cc, cc)

both_gives : (p q : Bool) (x y : Ordering) → IsTrue p → IsTrue q → x ≡ y → cond (p && q) (Some x) None ≡ Some y
both_gives true true x y h k e = ap Some e
both_gives true false x y h k e = cc
both_gives false q x y h k e = cc

pub version_order-itself : (a : List ℕ) → IsVersion a → version_order a a ≡ Some Equal
version_order-itself a h = both_itself (is_version a) (version_cmp a a) h (tied_itself version_cmp_total a)

pub version_order-exchanged : (a b : List ℕ) → version_order b a ≡ option_map ordering_reverse (version_order a b)
version_order-exchanged a b = both_exchanged (is_version a) (is_version b) (version_cmp b a) (version_cmp a b) (version_cmp_total.antisymm b a)

pub version_order-chain : (a b c : List ℕ) → version_order a b ≡ Some Less → version_order b c ≡ Some Less → version_order a c ≡ Some Less
version_order-chain a b c = both_chain (is_version a) (is_version b) (is_version c) (version_cmp a b) (version_cmp b c) (version_cmp a c) (version_cmp_total.trans a b c)

pub version_order-alike : (a b c : List ℕ) → version_order a b ≡ Some Equal → version_order a c ≡ version_order b c
version_order-alike a b c = both_alike (is_version a) (is_version b) (is_version c) (version_cmp a b) (version_cmp a c) (version_cmp b c) (version_cmp_total.congr a b c)

then_equal : (x y : Ordering) → ordering_then x y ≡ Equal → (x ≡ Equal) × (y ≡ Equal)
then_equal Less y h = (cc, cc)
then_equal Equal y h = (refl, h)
then_equal Greater y h = (cc, cc)

same_number : (m n : ℕ) → nat_cmp m n ≡ Equal → m ≡ n
same_number m n h = let r : MatchOrdering Equal (m < n) (m ≡ n) (n < m) = ranked m n Equal (sym h) in r

pub version_cmp-equal : (a b : List ℕ) → version_cmp a b ≡ Equal → (numbers_of a ≡ numbers_of b) × (dev_of a ≡ dev_of b)
version_cmp-equal a b h =
    let (numbers, dev) = then_equal (slice_cmp nat_cmp (numbers_of a) (numbers_of b)) (nat_cmp (dev_of a) (dev_of b)) h in
    (exact_bytes (numbers_of a) (numbers_of b) numbers, same_number (dev_of a) (dev_of b) dev)

pub version_cmp-same : (a b : List ℕ) → numbers_of a ≡ numbers_of b → dev_of a ≡ dev_of b → version_cmp a b ≡ Equal
version_cmp-same a b numbers dev =
    ap (λ t. ordering_then (slice_cmp nat_cmp (numbers_of a) t) (nat_cmp (dev_of a) (dev_of b))) (sym numbers)
    ∙ ap (λ o. ordering_then o (nat_cmp (dev_of a) (dev_of b))) (tied_itself nat_list_cmp_total (numbers_of a))
    ∙ ap (λ n. nat_cmp (dev_of a) n) (sym dev)
    ∙ tied_itself nat_cmp_total (dev_of a)

pub version_order-equal : (a b : List ℕ) → version_order a b ≡ Some Equal → IsVersion a × IsVersion b × (numbers_of a ≡ numbers_of b) × (dev_of a ≡ dev_of b)
version_order-equal a b h =
    let (is_a, is_b, order) = both_given (is_version a) (is_version b) (version_cmp a b) Equal h in
    let (numbers, dev) = version_cmp-equal a b order in
    (is_a, is_b, numbers, dev)

pub version_order-same : (a b : List ℕ) → IsVersion a × IsVersion b × (numbers_of a ≡ numbers_of b) × (dev_of a ≡ dev_of b) → version_order a b ≡ Some Equal
version_order-same a b h = both_gives (is_version a) (is_version b) (version_cmp a b) Equal h.0 h.1 (version_cmp-same a b h.2 h.3)
