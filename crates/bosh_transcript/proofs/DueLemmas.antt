-- Each command of a turn is answered once.
use Rattle.std.proofs.Common.{◌≡◌, ℕ, ◌+◌, List, [], ◌∷◌, ◌++◌, inl, inr, refl, sym, ap, ◌∙◌, subst, append_assoc}
use Rattle.std.specs.List.Sorted.{IsPermutation}
use Rattle.std.proofs.lemmas.List.Sorted.{IsPermutation-append_comm, IsPermutation-append_left, IsPermutation-append_right, IsPermutation-refl, IsPermutation-trans}
use Rattle.bosh_base.specs.declared.moves.Move.{Move}
use Rattle.bosh_base.specs.declared.moves.Said as said
use Rattle.bosh_moves.specs.Replies.{replies_in}
use Rattle.bosh_transcript.proofs.ReplyLemmas.{answered_append, replies_append}
use Rattle.bosh_transcript.specs.Extents.{AreDue, numbers}
use Rattle.bosh_transcript.specs.Past.{AreSilent}
use Rattle.bosh_transcript.specs.Replies.{answered_commands}
use Rattle.bosh_transcript.specs.Segments.{AreAnswered, AreOpened, AreRun, AreTogether, AreTold, IsAnswered, IsSegment, all_said, said_reply}
use Rattle.bosh_transcript.specs.declared.extent.Extent.{Extent}
use Rattle.bosh_transcript.specs.declared.extent.Extent.TheVariants as extent

-- the commands that are answered in a segment
abbrev answered_in : List Move → List ℕ
answered_in segment = answered_commands (replies_in segment)

answered_in_append : (xs ys : List Move) → answered_in (xs ++ ys) ≡ answered_in xs ++ answered_in ys
answered_in_append xs ys =
    ap answered_commands (replies_append xs ys) ∙ answered_append (replies_in xs) (replies_in ys)

silent_none : (segment : List Move) → AreSilent segment → answered_in segment ≡ []
silent_none segment silent = ap answered_commands silent

one_answered : (number : ℕ) (segment : List Move) → IsAnswered number segment → answered_in segment ≡ number ∷ []
one_answered number segment one =
    ap answered_in one.is ∙ answered_in_append one.work (said_reply number one.reply ∷ [])
    ∙ ap (λ (l : List ℕ). l ++ number ∷ []) (silent_none one.work one.silent)

all_answered : (xs : List ℕ) (segment : List Move) → AreAnswered xs segment → answered_in segment ≡ xs
all_answered [] segment none = ap answered_in none
all_answered (number ∷ xs) segment x =
    ap answered_in x.is ∙ answered_in_append x.first x.rest
    ∙ ap (λ (l : List ℕ). l ++ answered_in x.rest) (one_answered number x.first x.begins)
    ∙ ap (λ (l : List ℕ). number ∷ l) (all_answered xs x.rest x.others)

replies_said : (replies : List said.Said) → replies_in (all_said replies) ≡ replies
replies_said [] = refl
replies_said (reply ∷ replies) = ap (λ (l : List said.Said). reply ∷ l) (replies_said replies)

all_told : (xs : List ℕ) (segment : List Move) → AreTold xs segment → answered_in segment ≡ xs
all_told xs segment x = ap answered_in x.is ∙ ap answered_commands (replies_said x.replies) ∙ x.due

-- those that were answered, and those that run, are all
opened_all : (xs running : List ℕ) (segment : List Move) → AreOpened xs running segment →
    IsPermutation (answered_in segment ++ running) xs
opened_all [] running segment none =
    subst (λ (l : List ℕ). IsPermutation l []) (λ i. answered_in (sym none.1 i) ++ sym none.0 i) (IsPermutation-refl [])
opened_all (number ∷ xs) running segment (inl told) =
    subst (λ (l : List ℕ). IsPermutation l (number ∷ xs))
    (sym (ap (λ (l : List ℕ). l ++ running) (ap answered_in told.is ∙ answered_in_append told.first told.rest
    ∙ ap (λ (l : List ℕ). l ++ answered_in told.rest) (one_answered number told.first told.begins))))
    (IsPermutation-append_right (number ∷ []) (answered_in told.rest ++ running) xs
    (opened_all xs running told.rest told.others))
opened_all (number ∷ xs) running segment (inr runs) =
    let rest : List ℕ = answered_in runs.opens.rest in
    let s : List ℕ = runs.others_running in
    subst (λ (l : List ℕ). IsPermutation l (number ∷ xs))
    (sym ((λ i. (ap answered_in runs.opens.is ∙ answered_in_append runs.opens.first runs.opens.rest
    ∙ ap (λ (l : List ℕ). l ++ rest) (silent_none runs.opens.first runs.opens.begins)) i ++ runs.is_running i)
    ∙ sym (append_assoc rest (number ∷ []) s)))
    (IsPermutation-trans ((rest ++ number ∷ []) ++ s) (number ∷ (rest ++ s)) (number ∷ xs)
    (IsPermutation-append_left s (rest ++ number ∷ []) (number ∷ rest) (IsPermutation-append_comm rest (number ∷ [])))
    (IsPermutation-append_right (number ∷ []) (rest ++ s) xs (opened_all xs s runs.opens.rest runs.opens.others)))

run_all : (running : List ℕ) (segment : List Move) → AreRun running segment → IsPermutation (answered_in segment) running
run_all running segment x =
    subst (λ (l : List ℕ). IsPermutation l running)
    (sym (ap answered_in x.run.is ∙ answered_in_append x.run.first x.run.rest
    ∙ (λ i. silent_none x.run.first x.run.begins i ++ all_told x.order x.run.rest x.run.others i))) x.each

together_all : (xs : List ℕ) (segment : List Move) → AreTogether xs segment → IsPermutation (answered_in segment) xs
together_all xs segment x =
    let first : List ℕ = answered_in x.opens.first in
    subst (λ (l : List ℕ). IsPermutation l xs)
    (sym (ap answered_in x.opens.is ∙ answered_in_append x.opens.first x.opens.rest))
    (IsPermutation-trans (first ++ answered_in x.opens.rest) (first ++ x.running) xs
    (IsPermutation-append_right first (answered_in x.opens.rest) x.running (run_all x.running x.opens.rest x.opens.others))
    (opened_all xs x.running x.opens.first x.opens.begins))

-- the commands of a turn
pub segment_due : (kind : Extent) (number others : ℕ) (segment : List Move) → IsSegment kind number others segment →
    AreDue kind number others (answered_in segment)
segment_due (extent.Together count) number others segment x = record {
  later = answered_in x.rest;
  first = ap answered_in x.is ∙ answered_in_append x.first x.rest
      ∙ ap (λ (l : List ℕ). l ++ answered_in x.rest) (ap answered_in x.begins);
  each = together_all (numbers (number + 1) others) x.rest x.others;
}
segment_due (extent.Generated instances) number others segment x = record {
  later = number ∷ number ∷ number ∷ number ∷ [];
  first = all_answered (number ∷ number ∷ number ∷ number ∷ number ∷ []) segment x;
  each = IsPermutation-refl (number ∷ number ∷ number ∷ number ∷ []);
}
segment_due extent.Single number others segment x = record {
  later = [];
  first = all_answered (number ∷ []) segment x;
  each = IsPermutation-refl [];
}
