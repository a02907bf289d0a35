-- A compile machine as it was before its open call: the call is one for it, and began from it.
use Rattle.std.proofs.Common.{◌≡◌, ◌∙◌, ℕ, true, Option, Some, None, List, refl, sym}
use Rattle.std.specs.Prelude.{◌==◌, not, is_some}
use Rattle.std.proofs.lemmas.Bool.{and_from, and_parts, false≢true}
use Rattle.bosh_base.specs.ExactParts.{Decides-make}
use Rattle.bosh_base.specs.declared.call.Call.{Call}
use Rattle.bosh_base.specs.declared.call.Call.TheVariants as calls
use Rattle.bosh_base.specs.declared.key.Key.{Key}
use Rattle.bosh_history.specs.Known.{Slot}
use Rattle.bosh_history.specs.Slots.{slot_begun}
use Rattle.bosh_history.specs.Words.{holds}
use Rattle.laws_cloud.proofs.CallLemmas.{doubt_is}
use Rattle.laws_facts.specs.OpenCalls.{fits_slot, slot_as_before}
use Rattle.laws_facts.specs.Owners.{is_doubt}
use Rattle.laws_row_facts.specs.Words.{is_some_with}
use Rattle.laws_rows.specs.Rightful.{is_machine}
use Rattle.laws_slots.specs.Slots.{has_shape, is_call_of_slot, is_shaped_by}

no_value : {X : Type 0} (o : Option X) → not (is_some o) ≡ true → o ≡ None
no_value None is = refl
no_value (Some x) is = absurd (false≢true is)

with_value : {X : Type 0} (test : X → _) (o : Option X) → holds test o ≡ true → is_some_with test o ≡ true
with_value test (Some x) is = is
with_value test None is = is

-- the call is one for the record before it, and it began from there
pub record Began (n : ℕ) (call : Call) (dep : List ℕ) (key : Option Key) (slot : Option Slot) : Type 0 where
  pub is_call : is_call_of_slot call (slot_as_before call slot) ≡ true
  pub begun : slot_begun n call dep key (slot_as_before call slot) ≡ slot

pub began : (n : ℕ) (call : Call) (it : Slot) → fits_slot n call it ≡ true → has_shape it ≡ true
    → Began n call it.dep it.key (Some it)
began n (calls.CreateVm make disks) it fits shape =
    let parts : (not (is_some it.vm) ≡ true) × (is_doubt n (calls.CreateVm make disks) it.doubt ≡ true) =
    and_parts (not (is_some it.vm)) (is_doubt n (calls.CreateVm make disks) it.doubt) fits in
    let none : it.vm ≡ None = no_value it.vm parts.0 in
    let doubted : it.doubt ≡ Some (record { n = n; call = calls.CreateVm make disks }) =
    doubt_is n (calls.CreateVm make disks) it.doubt parts.1 in
    let made : make ≡ it.make =
    (Decides-make make it.make).0 (sym (λ j. is_shaped_by it.make (none j) (doubted j)) ∙ shape) in
    record {
      is_call = refl;
      begun = λ j. Some (record it { make = made j; vm = sym none j; doubt = sym doubted j });
    }
began n (calls.DeleteVm v) it fits shape =
    let parts : (is_machine it.vm v ≡ true) × (is_doubt n (calls.DeleteVm v) it.doubt ≡ true) =
    and_parts (is_machine it.vm v) (is_doubt n (calls.DeleteVm v) it.doubt) fits in
    let doubted : it.doubt ≡ Some (record { n = n; call = calls.DeleteVm v }) =
    doubt_is n (calls.DeleteVm v) it.doubt parts.1 in
    record {
      is_call = and_from (is_machine it.vm v) true parts.0 refl;
      begun = λ j. Some (record it { doubt = sym doubted j });
    }
began n (calls.FindVm agent) it fits shape =
    let parts : (not (is_some it.vm) ≡ true) × (holds (λ d. d.n == agent) it.doubt ≡ true) =
    and_parts (not (is_some it.vm)) (holds (λ d. d.n == agent) it.doubt) fits in
    record {
      is_call = and_from (not (is_some it.vm)) _ parts.0 (with_value (λ d. d.n == agent) it.doubt parts.1);
      begun = refl;
    }
began n (calls.HasVm v) it fits shape = record { is_call = fits; begun = refl }
began n (calls.CompilePackage v work deps) it fits shape =
    let parts : (is_machine it.vm v ≡ true) × _ = and_parts (is_machine it.vm v) _ fits in
    let known : (not (is_some it.doubt) ≡ true) × _ = and_parts (not (is_some it.doubt)) _ parts.1 in
    record { is_call = and_from (is_machine it.vm v) (not (is_some it.doubt)) parts.0 known.0; begun = refl }
began n call it fits shape = absurd (false≢true fits)
