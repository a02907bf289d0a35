-- One call keeps a tie.
use Rattle.std.proofs.Common.{◌≡◌, ℕ, Bool, true, false, Option, Some, None, List, refl, sym, ◌∙◌, ap, subst}
use Rattle.std.specs.Prelude.{◌||◌, if◌then◌else◌}
use Rattle.bosh_base.specs.CallStep.{answer_of, CallStep, is_gone}
use Rattle.bosh_base.specs.declared.answer.Answer.{Answer}
use Rattle.bosh_base.specs.declared.call.Call.{Call}
use Rattle.bosh_base.specs.declared.digest.Digest.{Digest}
use Rattle.bosh_base.specs.declared.entry.Entry.{Entry}
use Rattle.bosh_base.specs.declared.goal.GoalRow.{GoalRow}
use Rattle.bosh_base.specs.declared.key.KeyWork.{KeyWork}
use Rattle.bosh_base.specs.declared.owner.Owner.TheVariants.{Instance}
use Rattle.bosh_base.specs.declared.row.Doubt as doubt
use Rattle.bosh_base.specs.declared.row.Row.{Row}
use Rattle.laws_effects.specs.Orderly.{is_taken}
use Rattle.bosh_rows.specs.After.{after, begun_row}
use Rattle.bosh_rows.specs.CallOf.{next_call}
use Rattle.bosh_rows.specs.Tied.{as_done, IsTiedRow, is_spoiled, is_tied_to, is_tied_to_lost, without_doubt}
use Rattle.laws_rows.proofs.KnownTieLemmas.{Keeps, known-keeps}
use Rattle.laws_rows.proofs.LooseTieLemmas.{doubted-keeps, lost-keeps, spoiled-keeps}
use Rattle.laws_rows.proofs.StateTieLemmas as state
use Rattle.laws_rows.proofs.StateTieLemmas.{Asks}
use Rattle.laws_rows.proofs.SteadyLemmas.{tied-known, tied-ways}
use Rattle.laws_rows.proofs.WeakTieLemmas.{IsLoose, weak-parts}
use Rattle.laws_rows.specs.Rightful.{IsRightful, done_with}

-- a row that is neither lost nor spoiled, and in doubt
whole_doubted : (built : KeyWork → List Digest → Digest) (want : Option GoalRow) (effects : List Entry) (row : Row)
    (d : doubt.Doubt) → row.lost ≡ false → row.doubt ≡ Some d → Asks built want effects row
whole_doubted built want effects row d unlost doubts =
    subst (λ (r : Row). Asks built want effects r) (λ i. record row { doubt = sym doubts i; lost = sym unlost i })
    (state.asks built want effects row d.n d.call row.vm)

pub loose_of : (effects : List Entry) (row : Row) → IsTiedRow effects row → IsRightful effects row →
    (row.lost || is_spoiled effects row) ≡ true → IsLoose effects row
loose_of effects row tied right marked = record {
  weak =
      weak-parts effects row
      (sym (ap (λ (b : Bool). if b then is_tied_to_lost effects row
      else is_tied_to effects (without_doubt row) || is_tied_to effects (as_done effects row)) marked) ∙ tied);
  marked = marked;
  right = right;
}

keeps_tie : (built : KeyWork → List Digest → Digest) (want : Option GoalRow) (effects : List Entry) (row : Row) →
    IsTiedRow effects row → IsRightful effects row → (call : Call) → next_call want row ≡ Some call →
    Keeps built effects row call
keeps_tie built want effects row tied right call next =
    by_ways row.lost refl (is_spoiled effects row) refl row.doubt refl
  where
    by_ways : (lost : Bool) → row.lost ≡ lost → (spoiled : Bool) → is_spoiled effects row ≡ spoiled →
        (d : Option doubt.Doubt) → row.doubt ≡ d → Keeps built effects row call
    by_ways true lost spoiled spoils d doubts =
        lost-keeps built want effects row lost tied (loose_of effects row tied right
        (ap (λ b. b || is_spoiled effects row) lost))
        call next
    by_ways false lost true spoils (Some d) doubts =
        doubted-keeps built want effects row d lost doubts tied
        (loose_of effects row tied right (λ i. lost i || spoils i)) call next
    by_ways false lost true spoils None doubts =
        spoiled-keeps built want effects row lost doubts tied
        (loose_of effects row tied right (λ i. lost i || spoils i)) call next
    by_ways false lost false spoils (Some d) doubts =
        (whole_doubted built want effects row d lost doubts right tied (tied-ways effects row tied lost spoils) spoils
        call
        next).keeps
    by_ways false lost false spoils None doubts =
        (known-keeps built want effects row (record {
          tied = tied-known effects row tied lost spoils doubts;
          unlost = lost;
          unspoiled = spoils;
          known = doubts;
          orderly = right.orderly;
        }) call next).keeps

pub one_call : (built : KeyWork → List Digest → Digest) (want : Option GoalRow) (effects : List Entry) (row : Row)
    (n : ℕ) (dep : List ℕ) (call : Call) (has_effect : Bool) (answer : Answer) → IsTiedRow effects row →
    IsRightful effects row → next_call want row ≡ Some call → is_taken effects n ≡ false →
    CallStep built effects call has_effect answer →
    IsTiedRow (done_with has_effect effects (record { n = n; owner = Instance row.inst; dep = dep; call = call }))
    (after n call answer (begun_row n call row))
one_call built want effects row n dep call has_effect answer tied right next fresh step =
    keeps_tie built want effects row tied right call next n dep has_effect answer fresh step

-- what a call names is there, where the row is neither lost nor spoiled
pub never_gone : (built : KeyWork → List Digest → Digest) (want : Option GoalRow) (effects : List Entry) (row : Row)
    (call : Call) → IsTiedRow effects row → IsRightful effects row → row.lost ≡ false → is_spoiled effects row ≡ false →
    next_call want row ≡ Some call → is_gone (answer_of built effects call) ≡ false
never_gone built want effects row call tied right lost spoils next = by_doubt row.doubt refl
  where
    by_doubt : (d : Option doubt.Doubt) → row.doubt ≡ d → is_gone (answer_of built effects call) ≡ false
    by_doubt (Some d) doubts =
        (whole_doubted built want effects row d lost doubts right tied (tied-ways effects row tied lost spoils) spoils
        call
        next).here
    by_doubt None known =
        (known-keeps built want effects row (record {
          tied = tied-known effects row tied lost spoils known;
          unlost = lost;
          unspoiled = spoils;
          known = known;
          orderly = right.orderly;
        }) call next).here
