-- One call keeps a row rightful: what it leaves of the row, and what was done.
use Rattle.std.proofs.Common.{◌≡◌, ℕ, ◌+◌, Bool, true, false, Option, Some, None, List, [], ◌∷◌, ◌++◌, refl, sym, ◌∙◌, ap, subst, inl, inr}
use Rattle.std.specs.Prelude.{◌⊎◌, ◌&&◌, ◌==◌, not}
use Rattle.bosh_base.specs.Call.{method_of}
use Rattle.bosh_base.specs.CallStep.{answer_of, CallStep, is_gone, takes_effect, unless_gone}
use Rattle.bosh_base.specs.Cloud.{creates_vm, vm_creation, vms_created, when}
use Rattle.bosh_base.specs.History.{chosen}
use Rattle.bosh_base.specs.Method.{is_changing}
use Rattle.std.proofs.lemmas.Option.{same_Some}
use Rattle.bosh_base.specs.declared.answer.Answer.{Answer}
use Rattle.bosh_base.specs.declared.answer.Answer.TheVariants as answers
use Rattle.bosh_base.specs.declared.call.Call.{Call}
use Rattle.bosh_base.specs.declared.digest.Digest.{Digest}
use Rattle.bosh_base.specs.declared.entry.Effect as effect
use Rattle.bosh_base.specs.declared.entry.Entry.{Entry}
use Rattle.bosh_base.specs.declared.entry.Entry.TheVariants.{Effect}
use Rattle.bosh_base.specs.declared.key.KeyWork.{KeyWork}
use Rattle.bosh_base.specs.declared.owner.Owner.TheVariants.{Instance}
use Rattle.bosh_base.specs.declared.row.Doubt as doubt
use Rattle.bosh_base.specs.declared.row.Row.{Row}
use Rattle.bosh_base.specs.declared.row.Vm as vm
use Rattle.laws_effects.proofs.CreationLemmas.{vm_creation-grown}
use Rattle.laws_effects.proofs.FollowLemmas.{orderly_follows}
use Rattle.laws_effects.proofs.HolderLemmas.{held_by_own}
use Rattle.laws_effects.specs.Holders.{AreHeldByTheirOwn, JoinsBy}
use Rattle.laws_effects.specs.Orderly.{AreOrderly, is_taken}
use Rattle.bosh_rows.specs.After.{begun_row}
use Rattle.bosh_rows.specs.Tied.{was_made}
use Rattle.laws_rows.proofs.FallLemmas.{answered}
use Rattle.laws_rows.proofs.FoundLemmas.{taken}
use Rattle.laws_rows.proofs.TieLemmas.{of_row}
use Rattle.laws_rows.specs.Rightful.{IsAmong, IsRightful, done_with, fits, is_doubt_fit, is_made}
use Rattle.laws_rows.specs.SoundDisks.{are_sound, is_found_new}

-- what a call leaves
pub record IsRightAfter (effects : List Entry) (row : Row) : Type 0 where
  pub right : IsRightful effects row
  pub sound : are_sound row.disks ≡ true

abbrev pub Rights : (KeyWork → List Digest → Digest) → List Entry → Row → Call → Type 0
Rights built effects row call =
    (n : ℕ) (dep : List ℕ) (has_effect : Bool) (answer : Answer) → is_taken effects n ≡ false →
    CallStep built effects call has_effect answer →
    IsRightAfter (done_with has_effect effects (of_row row n dep call)) (answered n call answer row)

-- ---- what was done

-- a call has an effect only where it takes one
pub takes_of : (built : KeyWork → List Digest → Digest) (effects : List Entry) (call : Call) (has_effect : Bool)
    (answer : Answer) → CallStep built effects call has_effect answer → has_effect ≡ true →
    takes_effect built effects call ≡ true
takes_of built effects call has_effect answer (inl (is, has)) on = sym has ∙ on
takes_of built effects call has_effect answer (inr (failed, may)) on = may on

pub done_orderly : (built : KeyWork → List Digest → Digest) (effects : List Entry) (row : Row) (n : ℕ) (dep : List ℕ)
    (call : Call) → AreOrderly effects → is_taken effects n ≡ false → (b : Bool) →
    (b ≡ true → takes_effect built effects call ≡ true) →
    AreOrderly (done_with b effects (of_row row n dep call))
done_orderly built effects row n dep call orderly fresh true takes =
    orderly_follows built effects (Effect (of_row row n dep call)) orderly (takes refl) fresh
done_orderly built effects row n dep call orderly fresh false takes = orderly

pub done_own : (built : KeyWork → List Digest → Digest) (effects : List Entry) (row : Row) (n : ℕ) (dep : List ℕ)
    (call : Call) → AreOrderly effects → AreHeldByTheirOwn effects → JoinsBy effects call → (b : Bool) →
    (b ≡ true → takes_effect built effects call ≡ true) →
    AreHeldByTheirOwn (done_with b effects (of_row row n dep call))
done_own built effects row n dep call orderly own joins true takes =
    held_by_own built effects (Effect (of_row row n dep call)) orderly (takes refl) own joins
done_own built effects row n dep call orderly own joins false takes = own

pub done_made : (effects : List Entry) (row : Row) (n : ℕ) (dep : List ℕ) (call : Call) → creates_vm call ≡ false →
    (b : Bool) (v : ℕ) → vm_creation (done_with b effects (of_row row n dep call)) v ≡ vm_creation effects v
done_made effects row n dep call makes true v =
    vm_creation-grown effects (Effect (of_row row n dep call)) v
    ∙ ap (λ b. chosen (when (b && vms_created effects + 1 == v) (Some (of_row row n dep call))) (vm_creation effects v))
    makes
done_made effects row n dep call makes false v = refl

-- ---- rows without a doubt

pub right_known : (effects : List Entry) (row : Row) → AreOrderly effects → AreHeldByTheirOwn effects →
    row.doubt ≡ None → is_made effects row row.vm ≡ true → IsRightful effects row
right_known effects row orderly own known made = record {
  orderly = orderly;
  own = own;
  fit = ap (is_doubt_fit row) known;
  found_new = (λ i. is_found_new effects (record row { doubt = known i }));
  made = made;
  call = λ d e is among same. absurd (none_some d (sym known ∙ is));
  owner = λ d e is among same. absurd (none_some d (sym known ∙ is));
}
  where
    none_some : (d : doubt.Doubt) → None ≡ Some d → ⊥
    none_some d is = cc

-- what a call leaves that is not in doubt any more
pub record IsCalm (effects : List Entry) (row new : Row) : Type 0 where
  pub known : new.doubt ≡ None
  pub sound : are_sound new.disks ≡ true
  pub made : (ys : List Entry) → ((v : ℕ) → vm_creation ys v ≡ vm_creation effects v) → is_made ys new new.vm ≡ true

pub calm_same : (effects : List Entry) (row new : Row) → IsRightful effects row → new.doubt ≡ None →
    new.inst ≡ row.inst → new.make ≡ row.make → new.vm ≡ row.vm → are_sound new.disks ≡ true → IsCalm effects row new
calm_same effects row new right known inst make same_vm sound = record {
  known = known;
  sound = sound;
  made = λ ys same. ap (is_made ys new) same_vm ∙ by_vm ys same row.vm right.made;
}
  where
    by_vm : (ys : List Entry) → ((v : ℕ) → vm_creation ys v ≡ vm_creation effects v) → (o : Option vm.Vm) →
        is_made effects row o ≡ true → is_made ys new o ≡ true
    by_vm ys same None made = refl
    by_vm ys same (Some it) made =
        (λ i. was_made (Instance (inst i)) it.agent (make i) (same it.vm i)) ∙ made

pub calm_none : (effects : List Entry) (row new : Row) → new.doubt ≡ None → new.vm ≡ None →
    are_sound new.disks ≡ true → IsCalm effects row new
calm_none effects row new known none sound =
    record { known = known; sound = sound; made = λ ys same. ap (is_made ys new) none }

-- ---- a row in doubt of the call that began

among_done : (effects : List Entry) (e x : effect.Effect) → IsAmong e (effects ++ Effect x ∷ []) →
    IsAmong e effects ⊎ (x ≡ e)
among_done [] e x (inl first) = inr (let same : x ≡ e = cc in same)
among_done [] e x (inr none) = absurd none
among_done (y ∷ ys) e x (inl first) = inl (inl first)
among_done (y ∷ ys) e x (inr is) = by_way (among_done ys e x is)
  where
    by_way : (IsAmong e ys ⊎ (x ≡ e)) → IsAmong e (y ∷ ys) ⊎ (x ≡ e)
    by_way (inl before) = inl (inr before)
    by_way (inr last) = inr last

-- an effect of the number of a new call is that call's
own_effect : (effects : List Entry) (row : Row) (n : ℕ) (dep : List ℕ) (call : Call) → is_taken effects n ≡ false →
    (b : Bool) (e : effect.Effect) → IsAmong e (done_with b effects (of_row row n dep call)) → e.n ≡ n →
    of_row row n dep call ≡ e
own_effect effects row n dep call fresh true e among same =
    by_way (among_done effects e (of_row row n dep call) among)
  where
    by_way : (IsAmong e effects ⊎ (of_row row n dep call ≡ e)) → of_row row n dep call ≡ e
    by_way (inl before) = absurd (let is : is_taken effects n ≡ true = taken effects e n before same in cc)
    by_way (inr last) = last
own_effect effects row n dep call fresh false e among same =
    absurd (let is : is_taken effects n ≡ true = taken effects e n among same in cc)

pub right_begun : (effects : List Entry) (row : Row) (n : ℕ) (dep : List ℕ) (call : Call) (b : Bool) →
    AreOrderly (done_with b effects (of_row row n dep call)) →
    AreHeldByTheirOwn (done_with b effects (of_row row n dep call)) → is_taken effects n ≡ false →
    (begun_row n call row).doubt ≡ Some (record { n = n; call = call }) → fits (begun_row n call row) call ≡ true →
    is_found_new (done_with b effects (of_row row n dep call)) (begun_row n call row) ≡ true →
    is_made (done_with b effects (of_row row n dep call)) (begun_row n call row) (begun_row n call row).vm ≡ true →
    IsRightful (done_with b effects (of_row row n dep call)) (begun_row n call row)
right_begun effects row n dep call b orderly own fresh doubts fit new made = record {
  orderly = orderly;
  own = own;
  fit = ap (is_doubt_fit (begun_row n call row)) doubts ∙ fit;
  found_new = new;
  made = made;
  call = λ d e is among same.
      let doubted : record { n = n; call = call } ≡ d = same_Some (record { n = n; call = call }) d (sym doubts ∙ is) in
      let it : of_row row n dep call ≡ e =
      own_effect effects row n dep call fresh b e among (same ∙ ap (λ d. d.n) (sym doubted)) in
      ap (λ e. e.call) (sym it) ∙ ap (λ d. d.call) doubted;
  owner = λ d e is among same.
      let doubted : record { n = n; call = call } ≡ d = same_Some (record { n = n; call = call }) d (sym doubts ∙ is) in
      let it : of_row row n dep call ≡ e =
      own_effect effects row n dep call fresh b e among (same ∙ ap (λ d. d.n) (sym doubted)) in
      ap (λ e. e.owner) (sym it);
}

-- ---- a call that changes the cloud, but makes no machine

pub rights : (built : KeyWork → List Digest → Digest) (effects : List Entry) (row : Row) (call : Call) (here : Bool)
    (a : Answer) → IsRightful effects row → are_sound row.disks ≡ true →
    answer_of built effects call ≡ unless_gone here a → creates_vm call ≡ false → JoinsBy effects call →
    ((n : ℕ) → (begun_row n call row).doubt ≡ Some (record { n = n; call = call })) →
    ((n : ℕ) → (begun_row n call row).make ≡ row.make) → ((n : ℕ) → fits (begun_row n call row) call ≡ true) →
    ((n : ℕ) (dep : List ℕ) (b : Bool) → is_taken effects n ≡ false →
    is_found_new (done_with b effects (of_row row n dep call)) (begun_row n call row) ≡ true) →
    ((n : ℕ) → IsCalm effects row (answered n call a row)) →
    ((n : ℕ) → IsCalm effects row (answered n call answers.Gone row)) → Rights built effects row call
rights built effects row call here a right sound says makes joins doubts make fit new done gone n dep has_effect answer
    fresh step =
    by_step step
  where
    takes : has_effect ≡ true → takes_effect built effects call ≡ true
    takes on = takes_of built effects call has_effect answer step on

    orderly : AreOrderly (done_with has_effect effects (of_row row n dep call))
    orderly = done_orderly built effects row n dep call right.orderly fresh has_effect takes

    own : AreHeldByTheirOwn (done_with has_effect effects (of_row row n dep call))
    own = done_own built effects row n dep call right.orderly right.own joins has_effect takes

    calm : (new : Row) → IsCalm effects row new →
        IsRightAfter (done_with has_effect effects (of_row row n dep call)) new
    calm new it = record {
      right =
          right_known (done_with has_effect effects (of_row row n dep call)) new orderly own it.known
          (it.made (done_with has_effect effects (of_row row n dep call))
          (done_made effects row n dep call makes has_effect));
      sound = it.sound;
    }

    same : IsCalm effects row (record (begun_row n call row) { doubt = None })
    same = calm_same effects row (record (begun_row n call row) { doubt = None }) right refl refl (make n) refl sound

    begun_made : IsCalm effects row (record (begun_row n call row) { doubt = None }) →
        is_made (done_with has_effect effects (of_row row n dep call)) (begun_row n call row) (begun_row n call row).vm ≡ true
    begun_made it =
        it.made (done_with has_effect effects (of_row row n dep call))
        (done_made effects row n dep call makes has_effect)

    by_here : (b : Bool) → IsRightAfter (done_with has_effect effects (of_row row n dep call))
        (answered n call (unless_gone b a) row)
    by_here true = calm (answered n call a row) (done n)
    by_here false = calm (answered n call answers.Gone row) (gone n)

    by_step : CallStep built effects call has_effect answer →
        IsRightAfter (done_with has_effect effects (of_row row n dep call)) (answered n call answer row)
    by_step (inl (is, has)) =
        subst (λ (it : Answer). IsRightAfter (done_with has_effect effects (of_row row n dep call))
        (answered n call it row)) (sym (is ∙ says)) (by_here here)
    by_step (inr (failed, may)) =
        subst (λ (it : Answer). IsRightAfter (done_with has_effect effects (of_row row n dep call))
        (answered n call it row)) (sym failed)
        (record {
          right =
              right_begun effects row n dep call has_effect orderly own fresh (doubts n) (fit n)
              (new n dep has_effect fresh)
              (begun_made same);
          sound = sound;
        })

-- ---- a call that only asks

pub asks_right : (built : KeyWork → List Digest → Digest) (effects : List Entry) (row : Row) (call : Call) →
    is_changing (method_of call) ≡ false → IsRightful effects row → are_sound row.disks ≡ true →
    ((n : ℕ) → begun_row n call row ≡ row) →
    ((n : ℕ) → IsCalm effects row (answered n call (answer_of built effects call) row)) → Rights built effects row call
asks_right built effects row call asks right sound same told n dep has_effect answer fresh step =
    subst (λ (b : Bool). IsRightAfter (done_with b effects (of_row row n dep call)) (answered n call answer row))
    (sym (no_effect has_effect (takes_of built effects call has_effect answer step))) (by_step step)
  where
    no_effect : (b : Bool) → (b ≡ true → takes_effect built effects call ≡ true) → b ≡ false
    no_effect true takes =
        absurd (let none : takes_effect built effects call ≡ false =
        ap (λ b. b && not (is_gone (answer_of built effects call))) asks in
        let is : takes_effect built effects call ≡ true = takes refl in cc)
    no_effect false takes = refl

    calm : (new : Row) → IsCalm effects row new → IsRightAfter effects new
    calm new it = record {
      right = right_known effects new right.orderly right.own it.known (it.made effects (λ v. refl));
      sound = it.sound;
    }

    by_step : CallStep built effects call has_effect answer → IsRightAfter effects (answered n call answer row)
    by_step (inl (is, has)) =
        subst (λ (it : Answer). IsRightAfter effects (answered n call it row)) (sym is)
        (calm (answered n call (answer_of built effects call) row) (told n))
    by_step (inr (failed, may)) =
        subst (λ (it : Answer). IsRightAfter effects (answered n call it row)) (sym failed)
        (subst (λ (r : Row). IsRightAfter effects r) (sym (same n)) (record { right = right; sound = sound }))
