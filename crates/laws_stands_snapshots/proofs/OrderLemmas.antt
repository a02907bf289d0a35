-- The orders of the tables, and numbers in order.
use Rattle.std.proofs.Common.{◌≡◌, ◌∙◌, ℕ, zero, suc, Bool, true, false, ◌&&◌, ◌||◌, List, [], ◌∷◌, ◌++◌, map}
use Rattle.std.proofs.Common.{ap, arith, refl}
use Rattle.std.specs.Prelude.{eqb, nat_le, nat_lt}
use Rattle.std.specs.BTreeMap.{is_at}
use Rattle.std.specs.List.{list_all}
use Rattle.std.specs.Cmp.Lexicographic.{slice_cmp}
use Rattle.std.specs.Ordering.{is_eq, nat_cmp, ordering_then}
use Rattle.std.proofs.lemmas.Bool.{and_from, and_parts, eq-eqb}
use Rattle.std.proofs.lemmas.Bool.Decides.{nat_tests}
use Rattle.std.proofs.lemmas.Cmp.{nat_cmp_total, nat_list_cmp_total, on_total, then_total}
use Rattle.std.proofs.lemmas.List.Folds.{list_all-append, list_any-append}
use Rattle.std.proofs.lemmas.Map.Text.{is_eq-slice_cmp}
use Rattle.bosh_base.specs.Cloud.{numbers_to}
use Rattle.bosh_base.specs.Inst.{inst_cmp}
use Rattle.bosh_base.specs.declared.key.Key.{Key}
use Rattle.bosh_compile.proofs.KeyLemmas.{same_key_decides}
use Rattle.bosh_compile.specs.Readiness.{same_key}
use Rattle.bosh_history.specs.Known.{SlotName}
use Rattle.bosh_history.specs.Orders.{same_slot, slot_cmp}
use Rattle.bosh_history.specs.Words.{is_among}
use Rattle.bosh_records.specs.Keys.{key_cmp}
use Rattle.bosh_records.specs.Readers.{machine_cmp}
use Rattle.bosh_rows.proofs.SameLemmas.{same_inst_decides}
use Rattle.bosh_rows.specs.Same.{same_inst}
use Rattle.bosh_work.specs.declared.part.MachineName.{MachineName}
use Rattle.laws_facts.proofs.InstanceLemmas.{inst_total}
use Rattle.laws_row_facts.specs.Words.{are_ascending, is_before, is_below}
use Rattle.laws_stands.specs.Linked.{same_machine}
use Rattle.laws_stands_on.proofs.KeyLemmas.{eq_then, inst_at, inst_keys, key_keys, machine_keys}
use Rattle.laws_stands_on.proofs.TableLemmas.{nat_at, nat_keys}
use Rattle.laws_stands_snapshots.proofs.TableListLemmas.{TellsApart}

-- ---- orders

pub number_order : TellsApart nat_cmp eqb
number_order = record { total = nat_cmp_total; keys = nat_keys; at_is = nat_at; own = λ a. eq-eqb a a refl }

pub inst_order : TellsApart inst_cmp same_inst
inst_order = record {
  total = inst_total;
  keys = inst_keys;
  at_is = inst_at;
  own = λ a. (same_inst_decides a a).1 refl;
}

machine_at : (a b : MachineName) → is_at (machine_cmp a) b ≡ same_machine a b
machine_at a b = eq_then (nat_cmp a.task b.task) (nat_cmp a.slot b.slot)
    ∙ (λ j. nat_at a.task b.task j && nat_at a.slot b.slot j)

pub machine_order : TellsApart machine_cmp same_machine
machine_order = record {
  total = then_total (on_total (λ (it : MachineName). it.task) nat_cmp_total)
      (on_total (λ (it : MachineName). it.slot) nat_cmp_total);
  keys = machine_keys;
  at_is = machine_at;
  own = λ a i. eq-eqb a.task a.task refl i && eq-eqb a.slot a.slot refl i;
}

-- ---- names of compile machines

abbrev pub machine_name : SlotName → MachineName
machine_name name = record { task = name.task; slot = name.slot }

pub among_named : (name : MachineName) (xs : List SlotName)
    → is_among same_machine name (map machine_name xs)
    ≡ is_among same_slot (record { task = name.task; slot = name.slot }) xs
among_named name [] = refl
among_named name (x ∷ xs) = ap (λ b. same_machine name (machine_name x) || b) (among_named name xs)

pub order_named : (xs : List SlotName) → are_ascending machine_cmp (map machine_name xs) ≡ are_ascending slot_cmp xs
order_named [] = refl
order_named (x ∷ xs) = λ i. below x xs i && order_named xs i
  where
    below : (x : SlotName) (xs : List SlotName)
        → is_below machine_cmp (machine_name x) (map machine_name xs) ≡ is_below slot_cmp x xs
    below x [] = refl
    below x (y ∷ xs) = refl

-- ---- numbers from 1 on

pub among_numbers : (n t : ℕ) → is_among eqb t (numbers_to n) ≡ (nat_le 1 t && nat_le t n)
among_numbers zero t = grind (arith, nat_tests)
among_numbers (suc n) t =
    list_any-append (eqb t) (numbers_to n) (suc n ∷ [])
    ∙ (λ i. among_numbers n t i || (eqb t (suc n) || false))
    ∙ by (eqb t (suc n)) refl
  where
    by : (b : Bool) → eqb t (suc n) ≡ b
        → ((nat_le 1 t && nat_le t n) || (eqb t (suc n) || false)) ≡ (nat_le 1 t && nat_le t (suc n))
    by true is = grind (arith, nat_tests, is)
    by false is = grind (arith, nat_tests, is)

less_of : (a b : ℕ) → nat_lt a b ≡ true → is_before (nat_cmp a b) ≡ true
less_of a b less = grind (arith, less)

one_above : (ks : List ℕ) (d : ℕ) → are_ascending nat_cmp ks ≡ true → list_all (λ k. nat_lt k d) ks ≡ true
    → are_ascending nat_cmp (ks ++ d ∷ []) ≡ true
one_above [] d rise low = refl
one_above (k ∷ ks) d rise low =
    let order : (is_below nat_cmp k ks ≡ true) × (are_ascending nat_cmp ks ≡ true) =
    and_parts (is_below nat_cmp k ks) (are_ascending nat_cmp ks) rise in
    let below : (nat_lt k d ≡ true) × (list_all (λ k. nat_lt k d) ks ≡ true) =
    and_parts (nat_lt k d) (list_all (λ k. nat_lt k d) ks) low in
    and_from (is_below nat_cmp k (ks ++ d ∷ [])) (are_ascending nat_cmp (ks ++ d ∷ []))
    (first ks order.0 below.0) (one_above ks d order.1 below.1)
  where
    first : (js : List ℕ) → is_below nat_cmp k js ≡ true → nat_lt k d ≡ true → is_below nat_cmp k (js ++ d ∷ []) ≡ true
    first [] is less = less_of k d less
    first (j ∷ js) is less = is

all_low : (n d : ℕ) → nat_lt n d ≡ true → list_all (λ k. nat_lt k d) (numbers_to n) ≡ true
all_low zero d less = refl
all_low (suc n) d less =
    list_all-append (λ k. nat_lt k d) (numbers_to n) (suc n ∷ [])
    ∙ (λ i. all_low n d (grind (arith, nat_tests, less)) i && (less i && true))

pub numbers_rise : (n : ℕ) → are_ascending nat_cmp (numbers_to n) ≡ true
numbers_rise zero = refl
numbers_rise (suc n) = one_above (numbers_to n) (suc n) (numbers_rise n) (all_low n (suc n) (grind (arith, nat_tests)))

-- ---- keys

key_at : (a b : Key) → is_at (key_cmp a) b ≡ same_key a b
key_at a b =
    eq_then (slice_cmp nat_cmp a.fingerprint.0 b.fingerprint.0)
    (ordering_then (slice_cmp nat_cmp a.os b.os) (slice_cmp nat_cmp a.version b.version))
    ∙ ap (λ (t : Bool). is_eq (slice_cmp nat_cmp a.fingerprint.0 b.fingerprint.0) && t)
    (eq_then (slice_cmp nat_cmp a.os b.os) (slice_cmp nat_cmp a.version b.version))
    ∙ (λ i. is_eq-slice_cmp a.fingerprint.0 b.fingerprint.0 i
    && (is_eq-slice_cmp a.os b.os i && is_eq-slice_cmp a.version b.version i))

pub key_order : TellsApart key_cmp same_key
key_order = record {
  total = then_total (on_total (λ (it : Key). it.fingerprint.0) nat_list_cmp_total)
      (then_total (on_total (λ (it : Key). it.os) nat_list_cmp_total)
      (on_total (λ (it : Key). it.version) nat_list_cmp_total));
  keys = key_keys;
  at_is = key_at;
  own = λ a. (same_key_decides a a).1 refl;
}
