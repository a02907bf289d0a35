-- One more call at the end of calls that were answered as they were asked.
use Rattle.std.proofs.Common.{◌≡◌, ◌<◌, Bool, true, false, Option, Some, List, [], ◌∷◌, ◌++◌, refl, sym, ◌∙◌, ap}
use Rattle.std.specs.Prelude.{◌&&◌, not}
use Rattle.std.specs.Ordering.{nat_cmp}
use Rattle.std.proofs.lemmas.Bool.{and_parts}
use Rattle.bosh_base.specs.CallStep.{answer_of, is_gone}
use Rattle.bosh_base.specs.declared.digest.Digest.{Digest}
use Rattle.bosh_base.specs.declared.goal.GoalRow.{GoalRow}
use Rattle.bosh_base.specs.declared.key.KeyWork.{KeyWork}
use Rattle.bosh_base.specs.declared.row.Row.{Row}
use Rattle.laws_effects.specs.Holders.{AreHeldByTheirOwn}
use Rattle.laws_effects.specs.Orderly.{AreOrderly}
use Rattle.laws_row_facts.specs.Numbers.{IsDoubtItsOwn}
use Rattle.laws_row_facts.specs.Rows.{RowFacts, is_found_last}
use Rattle.laws_row_facts.specs.Words.{are_ascending}
use Rattle.laws_rows.proofs.OneCallLemmas.{never_gone}
use Rattle.laws_rows.specs.Answered.{Answered, AreAnswered, IsAnswered, row_after}
use Rattle.bosh_rows.specs.CallOf.{next_call}
use Rattle.bosh_rows.specs.Tied.{is_spoiled}
use Rattle.laws_kept_facts.proofs.NumberedLemmas.{numbers}
use Rattle.laws_answered_rows.proofs.OwnLemmas.{found_new, rightful_of}
use Rattle.laws_answered_rows.specs.LaterCalls.{row_after_all}

pub one_more : (built : KeyWork → List Digest → Digest) (want : Option GoalRow) (row : Row) (calls : List Answered)
    (it : Answered) → AreAnswered built want row calls → IsAnswered built want (row_after_all calls row) it →
    AreAnswered built want row (calls ++ it ∷ [])
one_more built want row [] it all next = (next, tt)
one_more built want row (first ∷ calls) it all next =
    (all.0, one_more built want (row_after first row) calls it all.1 next)

pub later_row : (row : Row) (calls : List Answered) (it : Answered) →
    row_after_all (calls ++ it ∷ []) row ≡ row_after it (row_after_all calls row)
later_row row [] it = refl
later_row row (first ∷ calls) it = later_row (row_after first row) calls it

-- the next call of a row with its facts, answered as the cloud has it
pub answered_of : (built : KeyWork → List Digest → Digest) (want : Option GoalRow) (row : Row) (it : Answered) →
    RowFacts it.effects row → AreOrderly it.effects → AreHeldByTheirOwn it.effects → IsDoubtItsOwn it.effects row →
    (not row.lost && is_spoiled it.effects row) ≡ false → next_call want row ≡ Some it.call →
    ((wanted : GoalRow) → want ≡ Some wanted → wanted.fresh_after < it.n) →
    it.answer ≡ answer_of built it.effects it.call → IsAnswered built want row it
answered_of built want row it facts orderly held own unspoiled next young answer = record {
  tied = facts.tied;
  unspoiled = unspoiled;
  found_new =
      found_new it.effects row
      (and_parts (are_ascending nat_cmp (numbers row.disks)) (is_found_last it.effects row) facts.in_order).1;
  next = next;
  young = young;
  answer = answer;
  here = by_lost row.lost refl unspoiled;
}
  where
    by_lost : (b : Bool) → row.lost ≡ b → (not row.lost && is_spoiled it.effects row) ≡ false →
        (not row.lost && is_gone it.answer) ≡ false
    by_lost true lost none = ap (λ b. not b && is_gone it.answer) lost
    by_lost false found none =
        ap (λ b. not b && is_gone it.answer) found
        ∙ (ap is_gone answer
        ∙ never_gone built want it.effects row it.call facts.tied
        (rightful_of it.effects row orderly held facts own) found
        (sym (ap (λ b. not b && is_spoiled it.effects row) found) ∙ none) next)
