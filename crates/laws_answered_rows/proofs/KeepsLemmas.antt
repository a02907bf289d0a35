-- What is kept by a call, however it is answered: by one that changes the cloud, and by one that only asks.
use Rattle.std.proofs.Common.{◌≡◌, ℕ, Bool, true, false, List, refl, sym, ◌∙◌, ap, subst, inl, inr}
use Rattle.std.specs.Prelude.{◌&&◌, not}
use Rattle.bosh_base.specs.Call.{method_of}
use Rattle.bosh_base.specs.CallStep.{answer_of, CallStep, is_gone, takes_effect, unless_gone}
use Rattle.bosh_base.specs.Method.{is_changing}
use Rattle.bosh_base.specs.declared.answer.Answer.{Answer}
use Rattle.bosh_base.specs.declared.answer.Answer.TheVariants as answers
use Rattle.bosh_base.specs.declared.call.Call.{Call}
use Rattle.bosh_base.specs.declared.digest.Digest.{Digest}
use Rattle.bosh_base.specs.declared.entry.Entry.{Entry}
use Rattle.bosh_base.specs.declared.key.KeyWork.{KeyWork}
use Rattle.bosh_base.specs.declared.row.Row.{Row}
use Rattle.laws_effects.proofs.FollowLemmas.{not_gone}
use Rattle.laws_effects.specs.Orderly.{is_taken}
use Rattle.laws_rows.proofs.FallLemmas.{answered}
use Rattle.laws_rows.proofs.RightLemmas.{takes_of}
use Rattle.laws_rows.proofs.TieLemmas.{of_row, with_call}
use Rattle.laws_rows.specs.Rightful.{done_with}
use Rattle.bosh_rows.specs.After.{begun_row}

-- it holds after the call, with its effect and without it, however it is answered
abbrev pub KeptBy : (List Entry → Row → Type 0) → (KeyWork → List Digest → Digest) → List Entry → Row → Call → Type 0
KeptBy Q built xs row call =
    (n : ℕ) (dep : List ℕ) (b : Bool) (answer : Answer) → is_taken xs n ≡ false → CallStep built xs call b answer →
    Q (done_with b xs (of_row row n dep call)) (answered n call answer row)

-- what is to be shown of a call that changes the cloud, where it takes its effect and where something is gone
pub record ByChange (Q : List Entry → Row → Type 0) (xs : List Entry) (row : Row) (call : Call) (here : Bool)
    (a : Answer) : Type 0 where
  pub done : (n : ℕ) (dep : List ℕ) → is_taken xs n ≡ false → here ≡ true →
      Q (with_call xs row n dep call) (answered n call a row)
  pub gone : (n : ℕ) → here ≡ false → Q xs (answered n call answers.Gone row)
  pub in_doubt : (n : ℕ) (dep : List ℕ) → is_taken xs n ≡ false → here ≡ true →
      Q (with_call xs row n dep call) (begun_row n call row)
  pub undone : (n : ℕ) → is_taken xs n ≡ false → Q xs (begun_row n call row)

pub kept_by_change : (Q : List Entry → Row → Type 0) (built : KeyWork → List Digest → Digest) (xs : List Entry)
    (row : Row) (call : Call) (here : Bool) (a : Answer) → is_changing (method_of call) ≡ true → is_gone a ≡ false →
    answer_of built xs call ≡ unless_gone here a → ByChange Q xs row call here a → KeptBy Q built xs row call
kept_by_change Q built xs row call here a changes stays says by n dep b answer fresh (inl (is, has)) =
    subst (λ (c : Bool). Q (done_with c xs (of_row row n dep call)) (answered n call answer row))
    (sym (has ∙ (λ i. changes i && not (is_gone (says i)))))
    (subst (λ (it : Answer). Q (done_with (not (is_gone (unless_gone here a))) xs (of_row row n dep call))
    (answered n call it row)) (sym (is ∙ says)) (by_here here refl))
  where
    by_here : (c : Bool) → here ≡ c →
        Q (done_with (not (is_gone (unless_gone c a))) xs (of_row row n dep call))
        (answered n call (unless_gone c a) row)
    by_here true on =
        subst (λ (c : Bool). Q (done_with (not c) xs (of_row row n dep call)) (answered n call a row)) (sym stays)
        (by.done n dep fresh on)
    by_here false off = by.gone n off
kept_by_change Q built xs row call here a changes stays says by n dep b answer fresh (inr (failed, may)) =
    subst (λ (it : Answer). Q (done_with b xs (of_row row n dep call)) (answered n call it row)) (sym failed)
    (by_effect b may)
  where
    by_effect : (c : Bool) → (c ≡ true → takes_effect built xs call ≡ true) →
        Q (done_with c xs (of_row row n dep call)) (begun_row n call row)
    by_effect true takes =
        by.in_doubt n dep fresh (not_gone here a (sym (λ i. changes i && not (is_gone (says i))) ∙ takes refl))
    by_effect false takes = by.undone n fresh

-- a call that only asks has no effect
pub kept_by_asking : (Q : List Entry → Row → Type 0) (built : KeyWork → List Digest → Digest) (xs : List Entry)
    (row : Row) (call : Call) → is_changing (method_of call) ≡ false → ((n : ℕ) → Q xs (begun_row n call row)) →
    ((n : ℕ) → Q xs (answered n call (answer_of built xs call) row)) → KeptBy Q built xs row call
kept_by_asking Q built xs row call asks before told n dep b answer fresh step =
    subst (λ (c : Bool). Q (done_with c xs (of_row row n dep call)) (answered n call answer row))
    (sym (no_effect b (takes_of built xs call b answer step))) (by_step step)
  where
    no_effect : (c : Bool) → (c ≡ true → takes_effect built xs call ≡ true) → c ≡ false
    no_effect true takes =
        absurd (let none : takes_effect built xs call ≡ false =
        ap (λ c. c && not (is_gone (answer_of built xs call))) asks in
        let is : takes_effect built xs call ≡ true = takes refl in cc)
    no_effect false takes = refl

    by_step : CallStep built xs call b answer → Q xs (answered n call answer row)
    by_step (inl (is, has)) = subst (λ (it : Answer). Q xs (answered n call it row)) (sym is) (told n)
    by_step (inr (failed, may)) = subst (λ (it : Answer). Q xs (answered n call it row)) (sym failed) (before n)
