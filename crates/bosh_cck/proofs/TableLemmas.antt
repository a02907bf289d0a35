-- How the tables of machines and of numbers grow, and what is found by them.
use Rattle.std.proofs.Common.{◌≡◌, ◌∙◌, ℕ, Bool, true, false, ◌&&◌, ◌||◌, ◌==◌, cond, List, [], ◌∷◌, ◌++◌, Option, Some, None, append-nil, arith, refl, sym, ap}
use Rattle.std.specs.Prelude.{Vec}
use Rattle.std.specs.BTreeMap.{BTreeMap, UpdatesBy, get_by}
use Rattle.std.specs.BTreeSet.{BTreeSet}
use Rattle.std.specs.Cmp.Lexicographic.{slice_cmp}
use Rattle.std.specs.List.{list_any}
use Rattle.std.specs.Ordering.{is_eq, nat_cmp, ordering_then}
use Rattle.std.specs.Str.{bytes_eq}
use Rattle.std.specs.declared.alloc.Global.{Global}
use Rattle.std.specs.declared.cmp.Ordering.{Ordering}
use Rattle.std.specs.declared.cmp.Ordering.TheVariants.{Less, Equal, Greater}
use Rattle.std.proofs.lemmas.Bool.{eqb-true}
use Rattle.std.proofs.lemmas.Bool.Decides.{nat_tests}
use Rattle.std.proofs.lemmas.Map.Text.{is_eq-slice_cmp}
use Rattle.std.proofs.lemmas.Slice.Eq.{bytes_eq-Decides}
use denote.Ref.{Bor}
use Rattle.bosh_base.specs.Inst.{inst_cmp}
use Rattle.bosh_base.specs.declared.inst.Inst.{Inst}
use Rattle.bosh_base.specs.declared.machine.Disk.{Disk}
use Rattle.bosh_base.specs.declared.machine.Machine.{Machine}
use Rattle.bosh_base.specs.declared.owner.Owner.{Owner}
use Rattle.bosh_base.specs.declared.owner.Owner.TheVariants.{Instance}
use Rattle.bosh_rows.specs.Same.{same_inst, same_owner}
use Rattle.bosh_cck.specs.Problems.{is_disk}
use Rattle.bosh_cck.specs.Tables.{all_there, has, is_slot_of, listed, owned, owned_by}

is_eq-nat_cmp : (a b : ℕ) → is_eq (nat_cmp a b) ≡ (a == b)
is_eq-nat_cmp a b = grind (arith, nat_tests)

is_eq-then : (a b : Ordering) → is_eq (ordering_then a b) ≡ (is_eq a && is_eq b)
is_eq-then Less b = refl
is_eq-then Equal b = refl
is_eq-then Greater b = refl

-- the order of instances tells them apart
same_key : (one inst : Inst) → is_eq (inst_cmp one inst) ≡ same_inst one inst
same_key one inst =
    is_eq-then (slice_cmp nat_cmp one.dep inst.dep) (ordering_then (slice_cmp nat_cmp one.group inst.group) (nat_cmp one.index inst.index))
    ∙ (ap (λ (b : Bool). is_eq (slice_cmp nat_cmp one.dep inst.dep) && b)
    (is_eq-then (slice_cmp nat_cmp one.group inst.group) (nat_cmp one.index inst.index))
    ∙ (λ i.
    is_eq-slice_cmp one.dep inst.dep i
    && (is_eq-slice_cmp one.group inst.group i && is_eq-nat_cmp one.index inst.index i)))

and_parts : (a b : Bool) → (a && b) ≡ true → (a ≡ true) × (b ≡ true)
and_parts true b h = (refl, h)
and_parts false b h = absurd (cc)

same_is : (one inst : Inst) → same_inst one inst ≡ true → one ≡ inst
same_is one inst h =
    let (dep, rest) = and_parts (bytes_eq one.dep inst.dep) (bytes_eq one.group inst.group && one.index == inst.index) h in
    let (group, index) = and_parts (bytes_eq one.group inst.group) (one.index == inst.index) rest in
    let dep_is : one.dep ≡ inst.dep = (bytes_eq-Decides one.dep inst.dep).0 dep in
    let group_is : one.group ≡ inst.group = (bytes_eq-Decides one.group inst.group).0 group in
    let index_is : one.index ≡ inst.index = eqb-true one.index inst.index index in
    λ k. record { dep = dep_is k; group = group_is k; index = index_is k }

-- the machines that were taken out under an instance are put back with one more
pub owned_by-put :
    (machine : Machine) (one : Inst) (m without n : BTreeMap (Bor Inst) (Vec (Bor Machine) Global))
    (found : Option (Vec (Bor Machine) Global)) (machines : Vec (Bor Machine) Global)
    → machine.owner ≡ Instance one → found ≡ get_by (λ key. inst_cmp one key.now) m
    → listed (Some machines) ≡ listed found ++ machine ∷ []
    → UpdatesBy (λ x y. inst_cmp x.now y.now) (λ key. inst_cmp one key.now) m without None
    → UpdatesBy (λ x y. inst_cmp x.now y.now) (λ key. inst_cmp one key.now) without n (Some machines)
    → (inst : Inst) → owned_by n inst ≡ owned_by m inst ++ owned inst (machine ∷ [])
owned_by-put machine one m without n found machines owner was with removed put inst =
    let key : Bor Inst = record { ref_ptr = (0, 0); now = inst } in
    let taken_out : get_by (λ key. inst_cmp inst key.now) without ≡ cond (same_inst one inst) None (get_by (λ key. inst_cmp inst key.now) m) =
    removed.0 key ∙ ap (λ (b : Bool). cond b None (get_by (λ key. inst_cmp inst key.now) m)) (same_key one inst) in
    let put_back : get_by (λ key. inst_cmp inst key.now) n ≡ cond (same_inst one inst) (Some machines) (get_by (λ key. inst_cmp inst key.now) without) =
    put.0 key ∙ ap (λ (b : Bool). cond b (Some machines) (get_by (λ key. inst_cmp inst key.now) without)) (same_key one inst) in
    by (same_inst one inst) refl taken_out put_back
    ∙ ap (λ (owner : Owner). owned_by m inst ++ (cond (same_owner owner (Instance inst)) (machine ∷ []) [])) (sym owner)
  where
    by : (b : Bool) → same_inst one inst ≡ b
        → get_by (λ key. inst_cmp inst key.now) without ≡ cond b None (get_by (λ key. inst_cmp inst key.now) m)
        → get_by (λ key. inst_cmp inst key.now) n ≡ cond b (Some machines) (get_by (λ key. inst_cmp inst key.now) without)
        → owned_by n inst ≡ owned_by m inst ++ (cond b (machine ∷ []) [])
    by true e out back =
        let here : get_by (λ key. inst_cmp one key.now) m ≡ get_by (λ key. inst_cmp inst key.now) m =
        ap (λ (i : Inst). get_by (λ key. inst_cmp i key.now) m) (same_is one inst e) in
        ap listed back ∙ (with ∙ ap (λ (o : Option (Vec (Bor Machine) Global)). listed o ++ machine ∷ []) (was ∙ here))
    by false e out back = ap listed (back ∙ out) ∙ sym (append-nil (owned_by m inst))

-- a disk of the number stands in a slot where it is there
pub is_slot-there : (slots : List (Option Disk)) (n : ℕ) → list_any (is_slot_of n) slots ≡ is_disk (all_there slots) n
is_slot-there [] n = refl
is_slot-there (None ∷ slots) n = is_slot-there slots n
is_slot-there (Some it ∷ slots) n = ap (λ (b : Bool). (it.disk == n) || b) (is_slot-there slots n)

pub has-none : (numbers : BTreeSet ℕ) (n : ℕ) → numbers.keys ≡ [] → has numbers n ≡ false
has-none numbers n none = ap (λ (keys : List ℕ). list_any (λ k. is_eq (nat_cmp n k)) keys) none
