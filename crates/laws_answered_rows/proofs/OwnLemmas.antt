-- A row that has its facts, and whose call in doubt is its own, is a rightful one.
use Rattle.std.proofs.Common.{◌≡◌, ℕ, Bool, true, Option, Some, None, List, [], ◌∷◌, refl, sym, ◌∙◌, ap, inl, inr}
use Rattle.std.specs.Prelude.{◌&&◌, not}
use Rattle.std.specs.List.{list_all}
use Rattle.std.specs.Ordering.{nat_cmp}
use Rattle.std.specs.Str.{bytes_eq}
use Rattle.std.proofs.lemmas.Bool.{and_parts, and_from, eq-eqb}
use Rattle.bosh_base.specs.CallStep.{found_disk}
use Rattle.bosh_base.specs.Cloud.{vm_creation}
use Rattle.bosh_base.specs.ExactParts.{Decides-call}
use Rattle.bosh_base.specs.declared.call.Call.{Call}
use Rattle.bosh_base.specs.declared.call.Call.TheVariants as calls
use Rattle.bosh_base.specs.declared.entry.Effect as effect
use Rattle.bosh_base.specs.declared.entry.Entry.{Entry}
use Rattle.bosh_base.specs.declared.entry.Entry.TheVariants.{Effect}
use Rattle.bosh_base.specs.declared.inst.Inst.{Inst}
use Rattle.bosh_base.specs.declared.owner.Owner.{Owner}
use Rattle.bosh_base.specs.declared.owner.Owner.TheVariants.{Instance, Compile, Disk}
use Rattle.bosh_base.specs.declared.row.Doubt as doubt
use Rattle.bosh_base.specs.declared.row.Row.{Row}
use Rattle.laws_effects.specs.Holders.{AreHeldByTheirOwn}
use Rattle.laws_effects.specs.Orderly.{AreOrderly}
use Rattle.laws_row_facts.specs.Numbers.{IsDoubtItsOwn, is_doubt_its_own, is_effect_of}
use Rattle.laws_row_facts.specs.Rows.{RowFacts, are_below, is_created_as_recorded, is_found_last, is_made_in}
use Rattle.laws_row_facts.specs.Words.{are_ascending, implies, same_call}
use Rattle.laws_rows.specs.Rightful.{IsAmong, IsRightful, is_made}
use Rattle.laws_rows.specs.SoundDisks.{is_found_new, is_new_disk}
use Rattle.bosh_rows.proofs.SameLemmas as instances
use Rattle.bosh_rows.specs.Same.{same_owner}
use Rattle.bosh_rows.specs.Tied.{is_disk_kept, number_of}
use Rattle.laws_answered_rows.proofs.MadeHeldLemmas.{above_fresh}
use Rattle.laws_kept_facts.proofs.NumberedLemmas.{numbers}

-- the parts of how it was created
pub record IsCreated (xs : List Entry) (row : Row) : Type 0 where
  pub made : is_made xs row row.vm ≡ true
  pub in_dep : list_all (λ v. is_made_in row.inst.dep (vm_creation xs v)) (number_of row.vm) ≡ true
  pub kept : list_all (is_disk_kept xs row) row.disks ≡ true

pub created_parts : (xs : List Entry) (row : Row) → is_created_as_recorded xs row ≡ true → IsCreated xs row
created_parts xs row is =
    let first : (is_made xs row row.vm ≡ true) × _ = and_parts (is_made xs row row.vm) _ is in
    let second : (list_all (λ v. is_made_in row.inst.dep (vm_creation xs v)) (number_of row.vm) ≡ true)
    × (list_all (is_disk_kept xs row) row.disks ≡ true) =
    and_parts (list_all (λ v. is_made_in row.inst.dep (vm_creation xs v)) (number_of row.vm)) _ first.1 in
    record { made = first.0; in_dep = second.0; kept = second.1 }

pub created_from : (xs : List Entry) (row : Row) → IsCreated xs row → is_created_as_recorded xs row ≡ true
created_from xs row it = and_from _ _ it.made (and_from _ _ it.in_dep it.kept)

-- ---- an effect of the number of a call is that call's

pub record IsEffectOf (n : ℕ) (owner : Owner) (dep : List ℕ) (call : Call) (e : effect.Effect) : Type 0 where
  pub of_owner : same_owner e.owner owner ≡ true
  pub of_dep : bytes_eq e.dep dep ≡ true
  pub of_call : same_call e.call call ≡ true

pub among_all : (test : Entry → Bool) (xs : List Entry) (e : effect.Effect) → list_all test xs ≡ true →
    IsAmong e xs → test (Effect e) ≡ true
among_all test [] e all is = absurd is
among_all test (x ∷ xs) e all (inl same) = ap test (sym same) ∙ (and_parts (test x) (list_all test xs) all).0
among_all test (x ∷ xs) e all (inr is) = among_all test xs e (and_parts (test x) (list_all test xs) all).1 is

pub effect_of : (n : ℕ) (owner : Owner) (dep : List ℕ) (call : Call) (xs : List Entry) (e : effect.Effect) →
    list_all (is_effect_of n owner dep call) xs ≡ true → IsAmong e xs → e.n ≡ n → IsEffectOf n owner dep call e
effect_of n owner dep call xs e all among number =
    let holds : (same_owner e.owner owner && (bytes_eq e.dep dep && same_call e.call call)) ≡ true =
    sym (ap (λ b. implies b (same_owner e.owner owner && (bytes_eq e.dep dep && same_call e.call call)))
    (eq-eqb e.n n number)) ∙ among_all (is_effect_of n owner dep call) xs e all among in
    let first : (same_owner e.owner owner ≡ true) × ((bytes_eq e.dep dep && same_call e.call call) ≡ true) =
    and_parts (same_owner e.owner owner) _ holds in
    let second : (bytes_eq e.dep dep ≡ true) × (same_call e.call call ≡ true) =
    and_parts (bytes_eq e.dep dep) (same_call e.call call) first.1 in
    record { of_owner = first.0; of_dep = second.0; of_call = second.1 }

-- .. of the call in doubt of a row
pub own_effect : (xs : List Entry) (row : Row) → IsDoubtItsOwn xs row → (d : doubt.Doubt) (e : effect.Effect) →
    row.doubt ≡ Some d → IsAmong e xs → e.n ≡ d.n → IsEffectOf d.n (Instance row.inst) row.inst.dep d.call e
own_effect xs row own d e is among number =
    effect_of d.n (Instance row.inst) row.inst.dep d.call xs e
    (sym (λ i. is_doubt_its_own xs (record row { doubt = is i })) ∙ own) among number

pub same_instance : (o : Owner) (i : Inst) → same_owner o (Instance i) ≡ true → o ≡ Instance i
same_instance (Instance a) i is = ap Instance ((instances.same_inst_decides a i).0 is)
same_instance (Compile t s) i is = absurd cc
same_instance (Disk d) i is = absurd cc

-- ---- what a row has in doubt is none of its disks

pub found_new : (xs : List Entry) (row : Row) → is_found_last xs row ≡ true → is_found_new xs row ≡ true
found_new xs row last = by_doubt row.doubt refl last
  where
    by_found : (o : Option ℕ) → are_below (numbers row.disks) o ≡ true → is_new_disk row.disks o ≡ true
    by_found None low = refl
    by_found (Some d) low = ap not (above_fresh row.disks d low)

    by_call : (n : ℕ) (c : Call) → is_found_last xs (record row { doubt = Some (record { n = n; call = c }) }) ≡ true →
        is_found_new xs (record row { doubt = Some (record { n = n; call = c }) }) ≡ true
    by_call n (calls.CreateDisk wanted v) last = by_found (found_disk xs n) last
    by_call n c last = refl

    by_doubt : (d : Option doubt.Doubt) → row.doubt ≡ d → is_found_last xs (record row { doubt = d }) ≡ true →
        is_found_new xs (record row { doubt = d }) ≡ true
    by_doubt None is last = refl
    by_doubt (Some d) is last = by_call d.n d.call last

-- ---- together

pub rightful_of : (xs : List Entry) (row : Row) → AreOrderly xs → AreHeldByTheirOwn xs → RowFacts xs row →
    IsDoubtItsOwn xs row → IsRightful xs row
rightful_of xs row orderly held facts own = record {
  orderly = orderly;
  own = held;
  fit = facts.doubt_fits;
  found_new =
      found_new xs row
      (and_parts (are_ascending nat_cmp (numbers row.disks)) (is_found_last xs row) facts.in_order).1;
  made = (created_parts xs row facts.created).made;
  call = λ d e is among number. (Decides-call e.call d.call).0 (own_effect xs row own d e is among number).of_call;
  owner = λ d e is among number. same_instance e.owner row.inst (own_effect xs row own d e is among number).of_owner;
}
