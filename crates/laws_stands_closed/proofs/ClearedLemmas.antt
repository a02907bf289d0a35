-- Tables in which something is said no more of each of several.
use Rattle.std.proofs.Common.{◌≡◌, ◌∙◌, ℕ, Bool, true, false, ◌&&◌, ◌||◌, List, [], ◌∷◌, filter, map, Option, Some}
use Rattle.std.proofs.Common.{None, ap, refl, sym}
use Rattle.std.specs.Prelude.{eqb, fold, is_some, if◌then◌else◌}
use Rattle.std.specs.BTreeMap.{is_at}
use Rattle.std.specs.Option.{option_and_then, option_eq, option_map}
use Rattle.std.specs.Ordering.{nat_cmp}
use Rattle.std.specs.Str.{bytes_eq}
use Rattle.std.specs.declared.cmp.Ordering.{Ordering}
use Rattle.std.proofs.lemmas.Bool.{and_parts, eqb-true, false≢true}
use Rattle.std.proofs.lemmas.Slice.Eq.{bytes_eq-Decides}
use Rattle.bosh_history.specs.Items.{is_leftover}
use Rattle.bosh_history.specs.Known.{Known, SlotName}
use Rattle.bosh_history.specs.Orders.{same_slot}
use Rattle.bosh_history.specs.Words.{is_among}
use Rattle.bosh_records.specs.Readers.{machine_cmp}
use Rattle.bosh_records.specs.Table.{altered, found}
use Rattle.bosh_work.specs.declared.part.MachineName.{MachineName}
use Rattle.laws_stands.specs.Linked.{same_machine}
use Rattle.laws_stands.specs.Stands.{AreSwept}
use Rattle.laws_stands_on.proofs.KeyLemmas.{eq_then}
use Rattle.laws_stands_on.proofs.TableLemmas.{TellsKeys, found_altered, nat_at}

module _ {K X : Type 0} (cmp : K → K → Ordering) (tells : TellsKeys cmp) (change : X → X) where
  abbrev each : List (K × X) → List K → List (K × X)
  each es keys = fold (λ es key. altered cmp key change es) es keys

  -- what the change leaves is read as before
  pub each_kept : {Y : Type 0} (read : X → Option Y) → ((x : X) → read (change x) ≡ read x) → (keys : List K)
      → (es : List (K × X)) → (k : K) → option_and_then read (found cmp (each es keys) k)
      ≡ option_and_then read (found cmp es k)
  each_kept read same [] es k = refl
  each_kept read same (key ∷ keys) es k =
      each_kept read same keys (altered cmp key change es) k
      ∙ ap (option_and_then read) (found_altered cmp tells key change es k) ∙ by (is_at (cmp key) k) (found cmp es k)
    where
      by : (b : Bool) (o : Option X) → option_and_then read (if b then option_map change o else o)
          ≡ option_and_then read o
      by true (Some x) = same x
      by true None = refl
      by false o = refl

  -- another one is as before
  pub each_other : (test : K → K → Bool) → ((a b : K) → is_at (cmp a) b ≡ test b a) → (keys : List K)
      → (es : List (K × X)) → (k : K) → is_among test k keys ≡ false → found cmp (each es keys) k ≡ found cmp es k
  each_other test same_as [] es k none = refl
  each_other test same_as (key ∷ keys) es k none =
      by (test k key) refl none (each_other test same_as keys (altered cmp key change es) k)
    where
      by : (b : Bool) → test k key ≡ b → (b || is_among test k keys) ≡ false
          → (is_among test k keys ≡ false → found cmp (each (altered cmp key change es) keys) k
          ≡ found cmp (altered cmp key change es) k)
          → found cmp (each (altered cmp key change es) keys) k ≡ found cmp es k
      by true is none more = absurd (false≢true (sym none))
      by false other none more =
          more none ∙ found_altered cmp tells key change es k
          ∙ (λ j. if (same_as key k ∙ other) j then option_map change (found cmp es k) else found cmp es k)

-- ---- compile machines that are left over

pub machine_at : (a b : MachineName) → is_at (machine_cmp a) b ≡ (eqb a.task b.task && eqb a.slot b.slot)
machine_at a b = eq_then (nat_cmp a.task b.task) (nat_cmp a.slot b.slot)
    ∙ (λ j. nat_at a.task b.task j && nat_at a.slot b.slot j)

-- the deployment that a machine is of
pub deployment_of : (dep : Option (List ℕ)) (own : List ℕ) → option_eq bytes_eq (Some own) dep ≡ true → dep ≡ Some own
deployment_of (Some dep) own is = ap Some (sym ((bytes_eq-Decides own dep).0 is))
deployment_of None own is = absurd (false≢true is)

machine_is : (a b : MachineName) → same_machine a b ≡ true → a ≡ b
machine_is a b same =
    let parts : (eqb a.task b.task ≡ true) × (eqb a.slot b.slot ≡ true) =
    and_parts (eqb a.task b.task) (eqb a.slot b.slot) same in
    λ i. record { task = eqb-true a.task b.task parts.0 i; slot = eqb-true a.slot b.slot parts.1 i }

slot_is : (a b : SlotName) → same_slot a b ≡ true → a ≡ b
slot_is a b same =
    let parts : (eqb a.task b.task ≡ true) × (eqb a.slot b.slot ≡ true) =
    and_parts (eqb a.task b.task) (eqb a.slot b.slot) same in
    λ i. record { task = eqb-true a.task b.task parts.0 i; slot = eqb-true a.slot b.slot parts.1 i }

abbrev slot_name : MachineName → SlotName
slot_name name = record { task = name.task; slot = name.slot }

-- one that is kept is there under its name
named_in : (q : MachineName → Bool) (xs : List MachineName) (name : MachineName)
    → is_among same_machine name xs ≡ true → q name ≡ true
    → is_among same_slot (slot_name name) (map slot_name (filter q xs)) ≡ true
named_in q [] name is passes = absurd (false≢true is)
named_in q (x ∷ xs) name is passes =
    by (same_machine name x) refl (q x) refl is (λ is. named_in q xs name is passes)
  where
    either : (b : Bool) → is_among same_slot (slot_name name) (map slot_name (filter q xs)) ≡ true
        → (b || is_among same_slot (slot_name name) (map slot_name (filter q xs))) ≡ true
    either true more = refl
    either false more = more

    by : (a : Bool) → same_machine name x ≡ a → (b : Bool) → q x ≡ b
        → (a || is_among same_machine name xs) ≡ true
        → (is_among same_machine name xs ≡ true
        → is_among same_slot (slot_name name) (map slot_name (filter q xs)) ≡ true)
        → is_among same_slot (slot_name name) (map slot_name (if b then x ∷ filter q xs else filter q xs)) ≡ true
    by true same true kept is more =
        ap (λ b. b || is_among same_slot (slot_name name) (map slot_name (filter q xs))) same
    by true same false goes is more =
        absurd (false≢true (sym goes ∙ ap q (sym (machine_is name x same)) ∙ passes))
    by false other true kept is more =
        either (same_slot (slot_name name) (slot_name x)) (more is)
    by false other false goes is more = more is

kept_passes : (p : SlotName → Bool) (xs : List SlotName) (name : SlotName) → is_among same_slot name (filter p xs) ≡ true
    → p name ≡ true
kept_passes p [] name is = absurd (false≢true is)
kept_passes p (x ∷ xs) name is = by (p x) refl is (kept_passes p xs name)
  where
    of : (b : Bool) → same_slot name x ≡ b → p x ≡ true → (b || is_among same_slot name (filter p xs)) ≡ true
        → (is_among same_slot name (filter p xs) ≡ true → p name ≡ true) → p name ≡ true
    of true same kept is more = ap p (slot_is name x same) ∙ kept
    of false other kept is more = more is

    by : (b : Bool) → p x ≡ b
        → is_among same_slot name (if b then x ∷ filter p xs else filter p xs) ≡ true
        → (is_among same_slot name (filter p xs) ≡ true → p name ≡ true) → p name ≡ true
    by true kept is more = of (same_slot name x) refl kept is more
    by false goes is more = more is

-- a machine that was to be swept, and is recorded, is left over
pub left_over : (k : Known) (t : ℕ) (swept : List MachineName) (name : MachineName) → AreSwept k t swept
    → is_among same_machine name swept ≡ true → is_some (k.slot name.task name.slot) ≡ true
    → is_leftover k t (slot_name name) ≡ true
left_over k t swept name are among there =
    kept_passes (is_leftover k t) k.machines (slot_name name)
    (sym (ap (is_among same_slot (slot_name name)) are)
    ∙ named_in (λ (name : MachineName). is_some (k.slot name.task name.slot)) swept name among there)
