-- The machines that are there: each has the make that is recorded of its owner, and is the only one of its owner.
use Rattle.std.proofs.Common.{◌≡◌, ℕ, Bool, true, false, ◌==◌, Option, Some, None, List, [], ◌∷◌, refl, sym, ◌∙◌, subst, arith}
use Rattle.std.specs.Prelude.{eqb, ◌||◌, if◌then◌else◌}
use Rattle.std.specs.Cmp.Lexicographic.{pointwise}
use Rattle.std.specs.List.{list_any}
use Rattle.std.specs.Option.{option_eq}
use Rattle.std.proofs.lemmas.Bool.Decides.{Decides-eqb, eqb_tells}
use Rattle.bosh_base.specs.Cloud.{make_of, vm_creation}
use Rattle.bosh_base.specs.CallStep.{found_vm}
use Rattle.bosh_base.specs.Exact.{Decides-list, Decides-option}
use Rattle.bosh_base.specs.ExactParts.{Decides-make}
use Rattle.bosh_base.specs.declared.answer.Answer.{Answer}
use Rattle.bosh_base.specs.declared.answer.Answer.TheVariants as answers
use Rattle.bosh_base.specs.declared.call.Call.{Call}
use Rattle.bosh_base.specs.declared.call.Call.TheVariants as calls
use Rattle.bosh_base.specs.declared.entry.Effect.{Effect}
use Rattle.bosh_base.specs.declared.entry.Entry.{Entry}
use Rattle.bosh_base.specs.declared.make.Make.{Make}
use Rattle.bosh_base.specs.declared.owner.Owner.{Owner}
use Rattle.bosh_base.specs.declared.owner.Owner.TheVariants.{Instance}
use Rattle.bosh_base.specs.declared.row.Doubt.{Doubt}
use Rattle.bosh_base.specs.declared.row.Row.{Row}
use Rattle.bosh_base.specs.declared.row.Vm.{Vm}
use Rattle.laws_row_facts.specs.Rows.{RowFacts}
use Rattle.laws_row_facts.specs.Words.{where_any}
use Rattle.bosh_history.specs.Words.{is_among}
use Rattle.bosh_rows.specs.After.{after}
use Rattle.bosh_rows.specs.Same.{same_make}
use Rattle.bosh_rows.specs.Tied.{as_done, has_facts, is_spoiled, is_tied_to, is_tied_to_lost, number_of, vms_of, was_made, without_doubt}
use Rattle.laws_addresses.proofs.ItemLemmas.{all_of}

-- the machine is there, and was made for the owner with this make
pub record IsLive (effects : List Entry) (owner : Owner) (v : ℕ) (make : Make) : Type 0 where
  pub among : is_among eqb v (vms_of effects owner) ≡ true
  pub effect : Effect
  pub creation : vm_creation effects v ≡ Some effect
  pub made : make_of effect.call ≡ Some make

-- it has the make that is recorded, and no other is there of its owner
pub record IsOnly (effects : List Entry) (owner : Owner) (v : ℕ) (make : Make) (recorded : Option Make) : Type 0 where
  pub recorded_as : recorded ≡ Some make
  pub only : (w : ℕ) → is_among eqb w (vms_of effects owner) ≡ true → w ≡ v

-- ---- one record

-- where the machines there are those of one number, made with a make
pub numbered_only : (effects : List Entry) (owner : Owner) (v : ℕ) (make : Make) (vm : Option Vm)
    (recorded : Option Make)
    → IsLive effects owner v make
    → ((w : ℕ) → is_among eqb w (vms_of effects owner) ≡ true → list_any (λ it. it == w) (number_of vm) ≡ true)
    → where_any (λ it. was_made owner it.agent recorded (vm_creation effects it.vm)) vm ≡ true
    → IsOnly effects owner v make recorded
numbered_only effects owner v make None recorded live all was = absurd (grind (arith, all v live.among))
numbered_only effects owner v make (Some it) recorded live all was = record {
  recorded_as = sym ((Decides-option Decides-make (Some make) recorded).0 same);
  only = λ w there. sym (number w there) ∙ number v live.among;
}
  where
    number : (w : ℕ) → is_among eqb w (vms_of effects owner) ≡ true → it.vm ≡ w
    number w there = grind (arith, all w there, eqb_tells it.vm w)

    made : was_made owner it.agent recorded (Some live.effect) ≡ true
    made =
        sym ((λ l. was_made owner it.agent recorded (vm_creation effects (number v live.among l)))
        ∙ (λ l. was_made owner it.agent recorded (live.creation l)))
        ∙ was

    same : option_eq same_make (Some make) recorded ≡ true
    same = sym (λ l. option_eq same_make (live.made l) recorded) ∙ grind (arith, made)

pub equal_numbers : (xs ys : List ℕ) → pointwise eqb xs ys ≡ true → xs ≡ ys
equal_numbers xs ys is = (Decides-list Decides-eqb xs ys).0 is

pub flip : (w : ℕ) (items : List ℕ) → is_among eqb w items ≡ true → list_any (λ it. it == w) items ≡ true
flip w [] there = absurd cc
flip w (b ∷ items) there = grind (arith, there, eqb_tells w b, eqb_tells b w, flip w items)

-- ---- rows

pub record SameRow (old new : Row) : Type 0 where
  pub make : new.make ≡ old.make
  pub inst : new.inst ≡ old.inst

after_same : (n : ℕ) (call : Call) (answer : Answer) (row : Row) → SameRow row (after n call answer row)
after_same n call answer row = record { make = grind (arith); inst = grind (arith) }

done_call : (effects : List Entry) (row : Row) (n : ℕ) (call : Call)
    → SameRow row (as_done effects (record row { doubt = Some (record { n = n; call = call }) }))
done_call effects row n (calls.CreateVm make disks) =
    let it : SameRow (record row { doubt = Some (record { n = n; call = calls.CreateVm make disks }) })
    (as_done effects (record row { doubt = Some (record { n = n; call = calls.CreateVm make disks }) })) =
    after_same n (calls.FindVm n) (answers.Found (found_vm effects n))
    (record row { doubt = Some (record { n = n; call = calls.CreateVm make disks }) }) in
    record { make = it.make; inst = it.inst }
done_call effects row n (calls.CreateDisk want vm) = record { make = grind (arith); inst = grind (arith) }
done_call effects row n call =
    let it : SameRow (record row { doubt = Some (record { n = n; call = call }) })
    (after n call answers.Done (record row { doubt = Some (record { n = n; call = call }) })) =
    after_same n call answers.Done (record row { doubt = Some (record { n = n; call = call }) }) in
    record { make = it.make; inst = it.inst }

done_same : (effects : List Entry) (row : Row) (doubt : Option Doubt) → row.doubt ≡ doubt
    → SameRow row (as_done effects row)
done_same effects row (Some d) is =
    let it : SameRow row (as_done effects (record row { doubt = Some d })) = done_call effects row d.n d.call in
    record {
      make = (λ l. (as_done effects (record row { doubt = is l })).make) ∙ it.make;
      inst = (λ l. (as_done effects (record row { doubt = is l })).inst) ∙ it.inst;
    }
done_same effects row None is = record {
  make = (λ l. (as_done effects (record row { doubt = is l })).make);
  inst = (λ l. (as_done effects (record row { doubt = is l })).inst);
}

facts_made : (effects : List Entry) (row : Row) (vm : Option Vm) → has_facts effects row vm ≡ true
    → where_any (λ it. was_made (Instance row.inst) it.agent row.make (vm_creation effects it.vm)) vm ≡ true
facts_made effects row (Some it) is = grind (arith, is)
facts_made effects row None is = refl

tied_only : (effects : List Entry) (row : Row) (v : ℕ) (make : Make) → is_tied_to effects row ≡ true
    → IsLive effects (Instance row.inst) v make → IsOnly effects (Instance row.inst) v make row.make
tied_only effects row v make tied live =
    numbered_only effects (Instance row.inst) v make row.vm row.make live
    (λ w there. flip w (number_of row.vm) ((λ l. is_among eqb w (same l)) ∙ there))
    (facts_made effects row row.vm (grind (arith, tied)))
  where
    same : number_of row.vm ≡ vms_of effects (Instance row.inst)
    same = sym (equal_numbers (vms_of effects (Instance row.inst)) (number_of row.vm) (grind (arith, tied)))

row_made : (effects : List Entry) (row : Row) → RowFacts effects row
    → where_any (λ it. was_made (Instance row.inst) it.agent row.make (vm_creation effects it.vm)) row.vm ≡ true
row_made effects row facts = by row.vm refl
  where
    by : (vm : Option Vm) → row.vm ≡ vm
        → where_any (λ it. was_made (Instance row.inst) it.agent row.make (vm_creation effects it.vm)) row.vm ≡ true
    by (Some it) is = grind (arith, facts.created, is)
    by None is = (λ l. where_any (λ it. was_made (Instance row.inst) it.agent row.make
        (vm_creation effects it.vm)) (is l))

pub row_only : (effects : List Entry) (row : Row) (v : ℕ) (make : Make) → RowFacts effects row
    → IsLive effects (Instance row.inst) v make → IsOnly effects (Instance row.inst) v make row.make
row_only effects row v make facts live =
    by (row.lost || is_spoiled effects row) refl (is_tied_to effects (without_doubt row)) refl facts.tied
  where
    done : SameRow row (as_done effects row)
    done = done_same effects row row.doubt refl

    live_done : IsLive effects (Instance (as_done effects row).inst) v make
    live_done = subst (λ i. IsLive effects (Instance i) v make) (sym done.inst) live

    by : (b : Bool) → (row.lost || is_spoiled effects row) ≡ b → (c : Bool)
        → is_tied_to effects (without_doubt row) ≡ c
        → (if b then is_tied_to_lost effects row else c || is_tied_to effects (as_done effects row)) ≡ true
        → IsOnly effects (Instance row.inst) v make row.make
    by true lost c is tied =
        numbered_only effects (Instance row.inst) v make row.vm row.make live
        (λ w there. all_of eqb eqb_tells (λ v. list_any (λ it. it == v) (number_of row.vm)) w
        (vms_of effects (Instance row.inst)) (grind (arith, tied)) there)
        (row_made effects row facts)
    by false lost true is tied = tied_only effects (without_doubt row) v make is live
    by false lost false is tied =
        let it : IsOnly effects (Instance (as_done effects row).inst) v make (as_done effects row).make =
        tied_only effects (as_done effects row) v make tied live_done in
        record {
          recorded_as = sym done.make ∙ it.recorded_as;
          only = λ w there. it.only w ((λ l. is_among eqb w (vms_of effects (Instance (done.inst l)))) ∙ there);
        }

-- the machine that a creation in doubt made, where it made one
abbrev pub found_as : List Entry → ℕ → Option ℕ
found_as effects n = found_vm effects n
