use Rattle.std.proofs.Common.{◌≡◌, ◌⊎◌, ◌∷◌, [], ◌++◌, List, arith, inl, inr, refl, subst}
use Rattle.std.specs.List.{list_all}
use Rattle.std.specs.Prelude.{false, true}
use Rattle.bosh_base.specs.declared.moves.Move.{Move}
use Rattle.bosh_base.specs.declared.reply.Reply.TheVariants as replies
use Rattle.bosh_due.specs.Before.{Before, with_moves}
use Rattle.bosh_due.specs.Room.{leaves_no_call}
use Rattle.bosh_due.specs.UnderWay.{UnderWay}
use Rattle.bosh_due.specs.Outcomes.{full_reply, may_be_left}
use Rattle.bosh_due.specs.Outcomes.Outcome.{Opens}
use Rattle.bosh_due.specs.Together.{all_said, is_run}
use Rattle.bosh_due.specs.Together.Came.{Runs}
use Rattle.bosh_due.specs.Together.OpensOrTells.{opened}
use Rattle.bosh_due.specs.UnderWay.UnderWay.{idle}
use Rattle.examples_histories.specs.Orphan.{orphan}
use Rattle.examples_histories.specs.Scenes.{part, prepared}
use Rattle.examples_replies.proofs.CutBehind.{behind}
use Rattle.examples_replies.specs.AtOnce.{clean_up}
use Rattle.examples_replies.specs.CutOff.{clean_up_opened, ended, told_end}
use Rattle.examples_replies.specs.Others.{runs}
use Rattle.examples_replies.specs.Scenes.{at, no_files, start}
use Rattle.bosh_due.specs.Together.{OpensEach}
use Rattle.examples_replies.specs.AtOnce.{asks}
use Rattle.bosh_lines.specs.declared.command.Command.TheVariants as commands
use Rattle.examples_replies.proofs.cut_off.runs_are_cut_off.Goals as goal

opens : OpensEach no_files (start prepared 2) (asks 5 commands.CleanUp ∷ []) (clean_up_opened ∷ []) (runs 5 1 ∷ []) idle
opens = record {
  opened = record {
    outcome = Opens clean_up;
    came = Runs 1;
    first = clean_up_opened ∷ [];
    rest = [];
    others_running = [];
    comes = record { is = refl };
    opened = opened clean_up refl refl refl;
    others = (refl, refl, refl);
    is = refl;
    all_running = refl;
  };
  few_failures = omega arith;
}

pub returns-clause-at_once : goal.returns-clause-at_once
returns-clause-at_once c = record {
  openings = clean_up_opened ∷ [];
  running = runs 5 1 ∷ [];
  opened_under_way = idle;
  run = [];
  ends_told = [];
  ends_left = told_end full_reply ∷ [];
  opens = opens;
  is_its_run = refl;
  by_room = refl;
  leaves = refl;
  may_end = inl refl;
  ends_last = refl;
  settled = refl;
  ends = refl;
  is = refl;
}

pub returns-clause-untold : goal.returns-clause-untold
returns-clause-untold c = record {
  openings = clean_up_opened ∷ [];
  running = runs 5 1 ∷ [];
  opened_under_way = idle;
  run = ended ∷ [];
  ends_told = [];
  ends_left = told_end (replies.TaskFinished 1) ∷ [];
  opens = opens;
  is_its_run = refl;
  by_room = refl;
  leaves = refl;
  may_end = inl refl;
  ends_last = refl;
  settled = refl;
  ends = refl;
  is = refl;
}

pub returns-clause-told : goal.returns-clause-told
returns-clause-told c = record {
  openings = clean_up_opened ∷ [];
  running = runs 5 1 ∷ [];
  opened_under_way = idle;
  run = ended ∷ [];
  ends_told = told_end (replies.TaskFinished 1) ∷ [];
  ends_left = [];
  opens = opens;
  is_its_run = refl;
  by_room = refl;
  leaves = refl;
  may_end = inr refl;
  ends_last = refl;
  settled = refl;
  ends = refl;
  is = refl;
}

-- the task is open, so its end is not told
not_told : (told : List Move) → ¬ (told ≡ []) →
    (told ≡ [])
    ⊎ (list_all (may_be_left (with_moves (start prepared 2) (clean_up_opened ∷ []) idle)) (1 ∷ []) ≡ true) →
    ⊥
not_told told some (inl none) = some none
not_told told some (inr left) = grind (arith, left)

too_soon : (run told : List Move) → told_end (replies.TaskFinished 1) ∷ [] ≡ run ++ told →
    is_run false (1 ∷ []) run ≡ true →
    (told ≡ [])
    ⊎ (list_all (may_be_left (with_moves (start prepared 2) ((clean_up_opened ∷ []) ++ run) idle)) (1 ∷ []) ≡ true) →
    ⊥
too_soon [] told are is_work may_end = not_told told (λ none. grind (arith, are, none)) may_end
too_soon (move ∷ run) told are is_work may_end =
    let one : move ≡ told_end (replies.TaskFinished 1) = grind (arith, are) in
    let work : is_run false (1 ∷ []) (told_end (replies.TaskFinished 1) ∷ run) ≡ true =
    subst (λ m. is_run false (1 ∷ []) (m ∷ run) ≡ true) one is_work
    in grind (arith, work)

pub returns-clause-too_soon : goal.returns-clause-too_soon
returns-clause-too_soon c cut =
    let it = behind (told_end (replies.TaskFinished 1) ∷ []) cut
    in too_soon it.run it.told it.are it.is_work it.may_end

other_end : (run told left : List Move) → ended ∷ told_end (replies.TaskFinished 2) ∷ [] ≡ run ++ told →
    is_run false (1 ∷ []) run ≡ true →
    (told ≡ [])
    ⊎ (list_all (may_be_left (with_moves (start prepared 2) ((clean_up_opened ∷ []) ++ run) idle)) (1 ∷ []) ≡ true) →
    all_said (with_moves (start prepared 2) ((clean_up_opened ∷ []) ++ run) idle) (runs 5 1 ∷ []) run ≡ told ++ left →
    ⊥
other_end [] told left are is_work may_end ends = not_told told (λ none. grind (arith, are, none)) may_end
other_end (move ∷ []) told left are is_work may_end ends =
    let one : move ≡ ended = grind (arith, are) in
    let last : told ≡ told_end (replies.TaskFinished 2) ∷ [] = grind (arith, are) in
    let said :
    all_said (with_moves (start prepared 2) ((clean_up_opened ∷ []) ++ (ended ∷ [])) idle) (runs 5 1 ∷ []) (ended ∷ [])
    ≡ told ++ left =
    subst
    (λ m.
    all_said (with_moves (start prepared 2) ((clean_up_opened ∷ []) ++ (m ∷ [])) idle) (runs 5 1 ∷ []) (m ∷ [])
    ≡ told ++ left)
    one ends
    in
    let other :
    all_said (with_moves (start prepared 2) ((clean_up_opened ∷ []) ++ (ended ∷ [])) idle) (runs 5 1 ∷ []) (ended ∷ [])
    ≡ (told_end (replies.TaskFinished 2) ∷ []) ++ left =
    subst
    (λ t.
    all_said (with_moves (start prepared 2) ((clean_up_opened ∷ []) ++ (ended ∷ [])) idle) (runs 5 1 ∷ []) (ended ∷ [])
    ≡ t ++ left)
    last said
    in grind (arith, other)
other_end (move ∷ (second ∷ run)) told left are is_work may_end ends =
    let one : move ≡ ended = grind (arith, are) in
    let next : second ≡ told_end (replies.TaskFinished 2) = grind (arith, are) in
    let first : is_run false (1 ∷ []) (ended ∷ (second ∷ run)) ≡ true =
    subst (λ m. is_run false (1 ∷ []) (m ∷ (second ∷ run)) ≡ true) one is_work
    in
    let work : is_run false (1 ∷ []) (ended ∷ (told_end (replies.TaskFinished 2) ∷ run)) ≡ true =
    subst (λ m. is_run false (1 ∷ []) (ended ∷ (m ∷ run)) ≡ true) next first
    in grind (arith, work)

pub returns-clause-other_end : goal.returns-clause-other_end
returns-clause-other_end c cut =
    let it = behind (ended ∷ told_end (replies.TaskFinished 2) ∷ []) cut
    in other_end it.run it.told it.left it.are it.is_work it.may_end it.ends

-- what is known behind these openings and this run leaves a call open
left_open : (b : Before) (now : UnderWay) (openings run first work : List Move) → openings ≡ first → run ≡ work →
    leaves_no_call (with_moves b (openings ++ run) now) ≡ true → leaves_no_call (with_moves b (first ++ work) now) ≡ true
left_open b now openings run first work are is settled =
    subst (λ r. leaves_no_call (with_moves b (first ++ r) now) ≡ true) is
    (subst (λ o. leaves_no_call (with_moves b (o ++ run) now) ≡ true) are settled)

pub returns-clause-call_left_open : goal.returns-clause-call_left_open
returns-clause-call_left_open c built segment now cut are is =
    let open_then =
    left_open (at prepared 43 (orphan built)) now cut.openings cut.run (part 44 44 (orphan built))
    (part 45 45 (orphan built)) are is cut.settled
    in grind (arith, open_then)

pub returns-clause-call_left_performed : goal.returns-clause-call_left_performed
returns-clause-call_left_performed c built segment now cut are is =
    let open_then =
    left_open (at prepared 50 (orphan built)) now cut.openings cut.run (part 51 51 (orphan built))
    (part 52 53 (orphan built)) are is cut.settled
    in grind (arith, open_then)
