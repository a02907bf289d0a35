-- The calls of an instance in a clean task: a ping, and steps that each were the next one and lead to its row.
use Rattle.std.specs.Prelude.{◌≡◌, ℕ, ◌+◌, Bool, true, false, nat_le, nat_lt, not, ◌&&◌, ◌||◌, ◌==◌, Option, Some, None, is_some, List, [], ◌∷◌, fold, length}
use Rattle.std.specs.Cmp.Lexicographic.{pointwise}
use Rattle.std.specs.List.{list_all}
use Rattle.std.specs.Option.{option_eq}
use Rattle.bosh_base.specs.Cloud.{numbers_to}
use Rattle.bosh_base.specs.CallStep.{answer_of, is_gone}
use Rattle.bosh_base.specs.contracts.answer.AnswerPartialEq.TheImpl as answer
use Rattle.bosh_base.specs.contracts.row.RolePartialEq.TheImpl as role
use Rattle.bosh_base.specs.declared.answer.Answer.{Answer}
use Rattle.bosh_base.specs.declared.digest.Digest.{Digest}
use Rattle.bosh_base.specs.declared.entry.Begin.{Begin}
use Rattle.bosh_base.specs.declared.goal.GoalRow.{GoalRow}
use Rattle.bosh_base.specs.declared.inst.Inst.{Inst}
use Rattle.bosh_base.specs.declared.key.KeyWork.{KeyWork}
use Rattle.bosh_base.specs.declared.moves.Did.{Did}
use Rattle.bosh_base.specs.declared.owner.Owner.TheVariants.{Instance}
use Rattle.bosh_base.specs.declared.row.DiskRow.{DiskRow}
use Rattle.bosh_base.specs.declared.row.Doubt.{Doubt}
use Rattle.bosh_base.specs.declared.row.Row.{Row}
use Rattle.laws_facts.specs.Clean.{is_unspoiled}
use Rattle.laws_counts.specs.Courses.{Account}
use Rattle.laws_row_facts.specs.Calls.{is_ping}
use Rattle.laws_row_facts.specs.Words.{implies, where_any, same_call}
use Rattle.bosh_history.specs.Goals.{is_in}
use Rattle.bosh_history.specs.Items.{instance_phase, is_to_ping}
use Rattle.bosh_history.specs.Known.{Task, want_in}
use Rattle.bosh_history.specs.Moments.{Moment, OpenCall}
use Rattle.bosh_history.specs.Steps.{is_idle, is_owners}
use Rattle.bosh_rows.specs.Tied.{one_if}
use Rattle.bosh_history.specs.Words.{is_among}
use Rattle.laws_rows.specs.Answered.{Answered, AreAnswered, has_room_for_disks, row_after}
use Rattle.laws_rows.specs.SoundDisks.{are_sound, is_found_new}
use Rattle.bosh_rows.specs.After.{after, begun_row}
use Rattle.bosh_rows.specs.CallOf.{next_call}
use Rattle.bosh_rows.specs.Same.{same_inst, same_make, same_spec, same_want}
use Rattle.bosh_rows.specs.Standing.{is_empty, same_truth}
use Rattle.bosh_rows.specs.Tied.{is_tied_row}

-- the instance is of the goal or is to go, so its calls are in the budget
abbrev pub is_budgeted : Task → Inst → Bool
is_budgeted t i = is_in t.goal i || is_among same_inst i t.obsolete

-- something is left to do for it
abbrev pub may_go_on : Task → Inst → Bool
may_go_on t i = is_some (instance_phase t i)

-- the row that its steps lead to
abbrev pub led_to : Account → Inst → Row
led_to it i = fold (λ row step. row_after step row) (it.first i) (it.steps i)

-- .. once a call is open: the row before one that the cloud has not performed, and else what the answer leaves
abbrev pub IsLedTo : Begin → Option Did → Row → Row → Type 0
IsLedTo b (Some d) led row = led ≡ after b.n b.call d.answer row
IsLedTo b None led row = begun_row b.n b.call led ≡ row

-- ---- how many calls began

-- beside its steps one, once it is not to be asked any more
abbrev pub is_few_at_rest : Task → Account → Inst → Bool
is_few_at_rest t it i = nat_le (it.made (Instance i)) (length (it.steps i) + one_if (not (is_to_ping t i)))

-- .. and an open call, where that is a ping or the cloud has not performed it
abbrev pub is_extra : OpenCall → Bool
is_extra call = is_ping call.begin.call || not (is_some call.did)

abbrev pub is_few_in_call : Task → Account → Inst → OpenCall → Bool
is_few_in_call t it i call =
    nat_le (it.made (Instance i)) (length (it.steps i) + one_if (not (is_to_ping t i)) + one_if (is_extra call))

-- an open call is younger than what is wanted may be old
abbrev pub is_young : Task → Inst → OpenCall → Bool
is_young t i call = where_any (λ want. nat_lt want.fresh_after call.begin.n) (want_in t.goal i)

-- ---- all

-- the facts on an open call of an instance
pub record InCall (t : Task) (it : Account) (i : Inst) (row : Row) (call : OpenCall) : Type 0 where
  -- its steps lead to what the call finds, or leaves
  pub leads : IsLedTo call.begin call.did (led_to it i) row
  -- until the cloud performs it, it is the next call of the row that they lead to
  pub next : is_ping call.begin.call ≡ false → call.did ≡ None →
      next_call (want_in t.goal i) (led_to it i) ≡ Some call.begin.call
  pub young : is_young t i call ≡ true
  pub few : is_few_in_call t it i call ≡ true

-- the facts on the calls of an instance in a clean task
pub record StepFacts
    (built : KeyWork → List Digest → Digest) (m : Moment) (t : Task) (it : Account) (i : Inst) : Type 0 where
  pub sound : are_sound (it.first i).disks ≡ true
  pub room : has_room_for_disks (it.first i) ≡ true
  -- each step was the next one of the row that the steps before it left, and was answered as the cloud had it
  pub answered : AreAnswered built (want_in t.goal i) (it.first i) (it.steps i)
  -- none is before its ping
  pub unasked : is_to_ping t i ≡ true → it.steps i ≡ []
  -- while no call of it is open, they lead to the row, as long as something is left to do for it
  pub few : is_idle m (Instance i) ≡ true → is_few_at_rest t it i ≡ true
  pub leads : is_idle m (Instance i) ≡ true → may_go_on t i ≡ true → led_to it i ≡ m.known.row i
  -- .. and while one is open
  pub in_call : (n : ℕ) (call : OpenCall) → m.calls n ≡ Some call → is_owners (Instance i) call ≡ true →
      InCall t it i (m.known.row i) call

-- ---- the tests

-- the test of equal answers
abbrev pub same_answer : Answer → Answer → Bool
same_answer = answer.ghosts.eq

-- .. of equal disks of rows
abbrev pub same_disk : DiskRow → DiskRow → Bool
same_disk a b =
    a.disk == b.disk
    && (a.tag == b.tag
    && (same_want a.want b.want
    && (role.ghosts.eq a.role b.role && (same_truth a.attached b.attached && same_truth a.mounted b.mounted))))

-- .. of equal doubts
abbrev pub same_doubt : Doubt → Doubt → Bool
same_doubt a b = a.n == b.n && same_call a.call b.call

-- .. of equal rows
abbrev pub same_row : Row → Row → Bool
same_row a b =
    same_inst a.inst b.inst
    && (option_eq same_make a.make b.make
    && (option_eq (λ x y. x.vm == y.vm && x.agent == y.agent) a.vm b.vm
    && (option_eq same_spec a.spec b.spec
    && (same_truth a.running b.running
    && (same_truth a.drained b.drained
    && (pointwise same_disk a.disks b.disks
    && (option_eq same_doubt a.doubt b.doubt && same_truth a.lost b.lost)))))))

-- the test of IsAnswered
abbrev pub is_answered_step : (KeyWork → List Digest → Digest) → Option GoalRow → Row → Answered → Bool
is_answered_step built want row it =
    is_tied_row it.effects row
    && (is_unspoiled it.effects row
    && (is_found_new it.effects row
    && (option_eq same_call (next_call want row) (Some it.call)
    && (where_any (λ wanted. nat_lt wanted.fresh_after it.n) want
    && (same_answer it.answer (answer_of built it.effects it.call) && (row.lost || not (is_gone it.answer)))))))

-- the test of AreAnswered
abbrev pub are_answered : (KeyWork → List Digest → Digest) → Option GoalRow → Row → List Answered → Bool
are_answered built want row [] = true
are_answered built want row (it ∷ others) =
    is_answered_step built want row it && are_answered built want (row_after it row) others

-- the test of IsLedTo
abbrev pub is_led_to : Begin → Option Did → Row → Row → Bool
is_led_to b (Some d) led row = same_row led (after b.n b.call d.answer row)
is_led_to b None led row = same_row (begun_row b.n b.call led) row

-- the next call of the row that the steps lead to is this one, where it is none that asks, and not performed
abbrev pub is_next_led : Task → Account → Inst → OpenCall → Bool
is_next_led t it i call =
    implies (not (is_ping call.begin.call) && not (is_some call.did))
    (option_eq same_call (next_call (want_in t.goal i) (led_to it i)) (Some call.begin.call))

-- the test of InCall, where the open call is the instance's
abbrev pub is_in_call_well : Moment → Task → Account → Inst → OpenCall → Bool
is_in_call_well m t it i call =
    implies (is_owners (Instance i) call)
    (is_led_to call.begin call.did (led_to it i) (m.known.row i)
    && (is_next_led t it i call && (is_young t i call && is_few_in_call t it i call)))

-- the test of StepFacts
abbrev pub are_steps_well : (KeyWork → List Digest → Digest) → Moment → Task → Account → Inst → Bool
are_steps_well built m t it i =
    are_sound (it.first i).disks
    && (has_room_for_disks (it.first i)
    && (are_answered built (want_in t.goal i) (it.first i) (it.steps i)
    && (implies (is_to_ping t i) (is_empty (it.steps i))
    && (implies (is_idle m (Instance i)) (is_few_at_rest t it i)
    && (implies (is_idle m (Instance i) && may_go_on t i) (same_row (led_to it i) (m.known.row i))
    && list_all (λ n. where_any (is_in_call_well m t it i) (m.calls n)) (numbers_to m.known.last_call))))))
