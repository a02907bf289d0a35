-- What is known of the calls of an instance in a clean task, where a move leaves the instance as it was.
use Rattle.std.proofs.Common.{◌≡◌, ◌∙◌, ◌+◌, Bool, true, Option, List}
use Rattle.std.proofs.Common.{refl, subst, sym}
use Rattle.std.specs.Prelude.{fold, length, nat_le, nat_lt, not}
use Rattle.bosh_base.specs.declared.digest.Digest.{Digest}
use Rattle.bosh_base.specs.declared.entry.Begin.{Begin}
use Rattle.bosh_base.specs.declared.goal.GoalRow.{GoalRow}
use Rattle.bosh_base.specs.declared.inst.Inst.{Inst}
use Rattle.bosh_base.specs.declared.key.KeyWork.{KeyWork}
use Rattle.bosh_base.specs.declared.moves.Did.{Did}
use Rattle.bosh_base.specs.declared.owner.Owner.TheVariants.{Instance}
use Rattle.bosh_base.specs.declared.row.Row.{Row}
use Rattle.bosh_history.specs.Items.{is_to_ping}
use Rattle.bosh_history.specs.Known.{Task, want_in}
use Rattle.bosh_history.specs.Moments.{Moment, OpenCall}
use Rattle.bosh_history.specs.Steps.{is_owners}
use Rattle.bosh_rows.specs.CallOf.{next_call}
use Rattle.bosh_rows.specs.Same.{same_owner}
use Rattle.bosh_rows.specs.Tied.{one_if}
use Rattle.laws_cloud.proofs.TellLemmas.{same_owner_itself}
use Rattle.laws_counted.proofs.CallFrames.{SameCalls, begins_of, idle_back}
use Rattle.laws_counts.specs.Courses.{Account}
use Rattle.laws_counts.specs.RowSteps.{InCall, IsLedTo, StepFacts, is_extra}
use Rattle.laws_counts.specs.RowSteps.{led_to, may_go_on}
use Rattle.laws_facts.specs.Kept.{AreNumbersPast}
use Rattle.laws_items.proofs.OwnerLemmas.{same_owner_is}
use Rattle.laws_row_facts.specs.Words.{where_any}
use Rattle.laws_rows.specs.Answered.{Answered, AreAnswered, has_room_for_disks, row_after}
use Rattle.laws_rows.specs.SoundDisks.{are_sound}

-- the task wants the same of the instance, and it is to be asked as before
pub record SameFor (a b : Task) (i : Inst) : Type 0 where
  pub want : want_in b.goal i ≡ want_in a.goal i
  pub asks : is_to_ping b i ≡ is_to_ping a i

-- the same is kept of it
pub record SameKept (a b : Account) (i : Inst) : Type 0 where
  pub first : b.first i ≡ a.first i
  pub steps : b.steps i ≡ a.steps i
  pub made : b.made (Instance i) ≡ a.made (Instance i)

pub kept_itself : (a : Account) (i : Inst) → SameKept a a i
kept_itself a i = record { first = refl; steps = refl; made = refl }

pub owner_is : (i : Inst) (call : OpenCall) → is_owners (Instance i) call ≡ true → call.begin.owner ≡ Instance i
owner_is i call own = sym (same_owner_is (Instance i) call.begin.owner own)

pub is_owner : (i : Inst) (call : OpenCall) → call.begin.owner ≡ Instance i → is_owners (Instance i) call ≡ true
is_owner i call own = (λ j. same_owner (Instance i) (own j)) ∙ same_owner_itself (Instance i)

led_same : (a b : Account) (i : Inst) → SameKept a b i → led_to b i ≡ led_to a i
led_same a b i same = λ j. fold (λ row step. row_after step row) (same.first j) (same.steps j)

led_as : (b : Begin) (did : Option Did) (old new row later : Row) → new ≡ old → later ≡ row → IsLedTo b did old row
    → IsLedTo b did new later
led_as b did old new row later led same is =
    subst (λ (x : Row). IsLedTo b did x later) (sym led) (subst (λ (x : Row). IsLedTo b did old x) (sym same) is)

call_same : (s t : Task) (a b : Account) (i : Inst) (row later : Row) (call : OpenCall) → SameFor s t i
    → SameKept a b i → later ≡ row → InCall s a i row call → InCall t b i later call
call_same s t a b i row later call same kept rows f = record {
  leads = led_as call.begin call.did (led_to a i) (led_to b i) row later (led_same a b i kept) rows f.leads;
  next = λ plain none.
      (λ j. next_call (same.want j) (led_same a b i kept j)) ∙ f.next plain none;
  young = (λ j. young_by (same.want j)) ∙ f.young;
  few = (λ j. nat_le (kept.made j) (length (kept.steps j) + one_if (not (same.asks j)) + one_if (is_extra
      call))) ∙ f.few;
}
  where
    young_by : Option GoalRow → Bool
    young_by want = where_any (λ want. nat_lt want.fresh_after call.begin.n) want

-- nothing of it changed, and no more is left to do
pub steps_same : (built : KeyWork → List Digest → Digest) (m n : Moment) (s t : Task) (a b : Account) (i : Inst)
    → AreNumbersPast n → SameCalls m n (Instance i) → n.known.row i ≡ m.known.row i → SameFor s t i
    → (may_go_on t i ≡ true → may_go_on s i ≡ true) → SameKept a b i → StepFacts built m s a i
    → StepFacts built n t b i
steps_same built m n s t a b i past calls row same goes kept f = record {
  sound = (λ j. are_sound (kept.first j).disks) ∙ f.sound;
  room = (λ j. has_room_for_disks (kept.first j)) ∙ f.room;
  answered =
      subst (λ (want : Option GoalRow). AreAnswered built want (b.first i) (b.steps i)) (sym same.want)
      (subst (λ (row : Row). AreAnswered built (want_in s.goal i) row (b.steps i)) (sym kept.first)
      (subst (λ (steps : List Answered). AreAnswered built (want_in s.goal i) (a.first i) steps) (sym
      kept.steps) f.answered));
  unasked = λ asks. kept.steps ∙ f.unasked (sym same.asks ∙ asks);
  few = λ idle.
      (λ j. nat_le (kept.made j) (length (kept.steps j) + one_if (not (same.asks j))))
      ∙ f.few (idle_back m n (Instance i) past (begins_of m n (Instance i) calls) idle);
  leads = λ idle going.
      led_same a b i kept ∙ (f.leads (idle_back m n (Instance i) past (begins_of m n (Instance i) calls) idle)
      (goes going) ∙ sym row);
  in_call = λ k call is own.
      call_same s t a b i (m.known.row i) (n.known.row i) call same kept row
      (f.in_call k call (calls.back k call is (owner_is i call own)) own);
}
