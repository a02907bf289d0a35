-- The orders of instances, of compile machines and of keys tell them apart.
use Rattle.std.proofs.Common.{◌≡◌, ◌∙◌, Bool, true, ◌&&◌, refl, sym, ap}
use Rattle.std.specs.BTreeMap.{is_at}
use Rattle.std.specs.Cmp.Lexicographic.{slice_cmp}
use Rattle.std.specs.Ordering.{is_eq, nat_cmp, ordering_then}
use Rattle.std.specs.declared.cmp.Ordering.{Ordering}
use Rattle.std.specs.declared.cmp.Ordering.TheVariants.{Equal, Greater, Less}
use Rattle.std.proofs.lemmas.Bool.{false≢true}
use Rattle.std.proofs.lemmas.Map.Text.{is_eq-slice_cmp}
use Rattle.std.proofs.lemmas.Slice.Eq.{bytes_eq-Decides}
use Rattle.bosh_base.specs.Inst.{inst_cmp}
use Rattle.bosh_base.specs.declared.inst.Inst.{Inst}
use Rattle.bosh_compile.proofs.KeyLemmas.{same_key_decides}
use Rattle.bosh_records.specs.Keys.{key_cmp}
use Rattle.bosh_records.specs.Readers.{machine_cmp}
use Rattle.bosh_rows.specs.Same.{same_inst}
use Rattle.laws_stands_on.proofs.TableLemmas.{TellsKeys, nat_at, nat_keys}

both_equal : (a b : Ordering) → is_eq (ordering_then a b) ≡ true → (is_eq a ≡ true) × (is_eq b ≡ true)
both_equal Less b is = absurd (false≢true is)
both_equal Equal b is = (refl, is)
both_equal Greater b is = absurd (false≢true is)

pub inst_keys : TellsKeys inst_cmp
inst_keys a b is =
    let one : (is_eq (slice_cmp nat_cmp a.dep b.dep) ≡ true)
    × (is_eq (ordering_then (slice_cmp nat_cmp a.group b.group) (nat_cmp a.index b.index)) ≡ true) =
    both_equal (slice_cmp nat_cmp a.dep b.dep) (ordering_then (slice_cmp nat_cmp a.group b.group)
    (nat_cmp a.index b.index)) is in
    let two : (is_eq (slice_cmp nat_cmp a.group b.group) ≡ true) × (is_eq (nat_cmp a.index b.index) ≡ true) =
    both_equal (slice_cmp nat_cmp a.group b.group) (nat_cmp a.index b.index) one.1 in
    λ i. record {
      dep = (bytes_eq-Decides a.dep b.dep).0 (sym (is_eq-slice_cmp a.dep b.dep) ∙ one.0) i;
      group = (bytes_eq-Decides a.group b.group).0 (sym (is_eq-slice_cmp a.group b.group) ∙ two.0) i;
      index = nat_keys a.index b.index two.1 i;
    }

pub machine_keys : TellsKeys machine_cmp
machine_keys a b is =
    let both : (is_eq (nat_cmp a.task b.task) ≡ true) × (is_eq (nat_cmp a.slot b.slot) ≡ true) =
    both_equal (nat_cmp a.task b.task) (nat_cmp a.slot b.slot) is in
    λ i. record { task = nat_keys a.task b.task both.0 i; slot = nat_keys a.slot b.slot both.1 i }

pub key_keys : TellsKeys key_cmp
key_keys a b is =
    let one : (is_eq (slice_cmp nat_cmp a.fingerprint.0 b.fingerprint.0) ≡ true)
    × (is_eq (ordering_then (slice_cmp nat_cmp a.os b.os) (slice_cmp nat_cmp a.version b.version)) ≡ true) =
    both_equal (slice_cmp nat_cmp a.fingerprint.0 b.fingerprint.0)
    (ordering_then (slice_cmp nat_cmp a.os b.os) (slice_cmp nat_cmp a.version b.version)) is in
    let two : (is_eq (slice_cmp nat_cmp a.os b.os) ≡ true) × (is_eq (slice_cmp nat_cmp a.version b.version)
    ≡ true) =
    both_equal (slice_cmp nat_cmp a.os b.os) (slice_cmp nat_cmp a.version b.version) one.1 in
    (same_key_decides a b).0
    (λ i. (sym (is_eq-slice_cmp a.fingerprint.0 b.fingerprint.0) ∙ one.0) i
    && ((sym (is_eq-slice_cmp a.os b.os) ∙ two.0) i && (sym (is_eq-slice_cmp a.version b.version) ∙ two.1) i))

-- ---- as tests

pub eq_then : (a b : Ordering) → is_eq (ordering_then a b) ≡ (is_eq a && is_eq b)
eq_then Less b = refl
eq_then Equal b = refl
eq_then Greater b = refl

-- the order of instances compares as equal just those that are the same
pub inst_at : (a b : Inst) → is_at (inst_cmp a) b ≡ same_inst a b
inst_at a b =
    eq_then (slice_cmp nat_cmp a.dep b.dep) (ordering_then (slice_cmp nat_cmp a.group b.group)
    (nat_cmp a.index b.index))
    ∙ ap (λ (t : Bool). is_eq (slice_cmp nat_cmp a.dep b.dep) && t) (eq_then (slice_cmp nat_cmp a.group b.group)
    (nat_cmp a.index b.index))
    ∙ (λ i. is_eq-slice_cmp a.dep b.dep i && (is_eq-slice_cmp a.group b.group i && nat_at a.index b.index i))
