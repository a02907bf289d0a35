-- A line that takes a clean-up along was cut off behind its opening: what its run and its ends then are.
use Rattle.std.proofs.Common.{◌≡◌, ◌⊎◌, List, [], ◌∷◌, ◌++◌, arith, subst}
use Rattle.std.specs.Prelude.{false, true}
use Rattle.std.specs.List.{list_all}
use Rattle.bosh_base.specs.declared.entry.Entry.TheVariants as entries
use Rattle.bosh_base.specs.declared.moves.Move.{Move}
use Rattle.bosh_base.specs.declared.moves.Move.TheVariants.{Halt, Note}
use Rattle.bosh_base.specs.declared.reply.Reply.TheVariants as replies
use Rattle.bosh_due.specs.Before.{with_moves}
use Rattle.bosh_due.specs.Generating.{said_reply}
use Rattle.bosh_due.specs.Outcomes.{Outcome, may_be_left}
use Rattle.bosh_due.specs.Outcomes.Outcome.{Opens}
use Rattle.bosh_due.specs.Together.{Came, IsCutRun, OpensOrTells, Running, all_said, is_run, running_of, said_of, tasks_of}
use Rattle.bosh_due.specs.Together.Came.{Runs}
use Rattle.bosh_due.specs.Together.OpensOrTells.{failed, opened, refused}
use Rattle.bosh_due.specs.UnderWay.UnderWay.{idle}
use Rattle.bosh_lines.specs.declared.command.Command.TheVariants as commands
use Rattle.examples_histories.specs.Scenes.{prepared}
use Rattle.examples_replies.specs.AtOnce.{asks, clean_up}
use Rattle.examples_replies.specs.CutOff.{clean_up_opened}
use Rattle.examples_replies.specs.Others.{runs}
use Rattle.examples_replies.specs.Scenes.{no_files, start}

-- its task opened
opens_so : (openings more behind rest first : List Move) (running others : List Running) (outcome : Outcome) (came : Came) →
    outcome ≡ Opens clean_up → OpensOrTells outcome first came → openings ≡ first ++ (said_of 5 came ++ rest) →
    running ≡ running_of 5 came ++ others → rest ≡ [] → others ≡ [] → clean_up_opened ∷ more ≡ openings ++ behind →
    (openings ≡ clean_up_opened ∷ []) × (running ≡ runs 5 1 ∷ [])
opens_so openings more behind rest first running others outcome came due (refused why reply tells refuses none told) is all no_more no_others front =
    (grind (arith, due, refuses), grind (arith, due, refuses))
opens_so openings more behind rest first running others outcome came due (failed opening cause halts opens one told) is all no_more no_others front =
    let whole : clean_up_opened ∷ more ≡ (first ++ (said_of 5 came ++ rest)) ++ behind =
    subst (λ o. clean_up_opened ∷ more ≡ o ++ behind) is front
    in
    let halt : clean_up_opened ∷ more ≡ ((Halt cause ∷ []) ++ (said_of 5 came ++ rest)) ++ behind =
    subst (λ f. clean_up_opened ∷ more ≡ (f ++ (said_of 5 came ++ rest)) ++ behind) one whole
    in (grind (arith, halt), grind (arith, halt))
opens_so openings more behind rest first running others outcome came due (opened opening opens one told) is all no_more no_others front =
    let same : opening ≡ clean_up = grind (arith, due, opens) in
    let task : came ≡ Runs 1 = subst (λ o. came ≡ Runs o.task) same told in
    let note : first ≡ clean_up_opened ∷ [] = subst (λ o. first ≡ Note (entries.TaskOpen o) ∷ []) same one in
    let first_is : openings ≡ (clean_up_opened ∷ []) ++ (said_of 5 came ++ rest) =
    subst (λ f. openings ≡ f ++ (said_of 5 came ++ rest)) note is
    in
    let untold : openings ≡ (clean_up_opened ∷ []) ++ (said_of 5 (Runs 1) ++ rest) =
    subst (λ c. openings ≡ (clean_up_opened ∷ []) ++ (said_of 5 c ++ rest)) task first_is
    in
    let alone : running ≡ running_of 5 (Runs 1) ++ others = subst (λ c. running ≡ running_of 5 c ++ others) task all
    in (
      subst (λ r. openings ≡ (clean_up_opened ∷ []) ++ (said_of 5 (Runs 1) ++ r)) no_more untold,
      subst (λ o. running ≡ running_of 5 (Runs 1) ++ o) no_others alone,
    )

-- what stands behind that: its work, and what is told of it
pub record IsRunBehind (more : List Move) : Type 0 where
  pub run : List Move
  pub told : List Move
  pub left : List Move
  pub are : more ≡ run ++ told
  pub is_work : is_run false (1 ∷ []) run ≡ true
  pub may_end :
      (told ≡ [])
      ⊎ (list_all (may_be_left (with_moves (start prepared 2) ((clean_up_opened ∷ []) ++ run) idle)) (1 ∷ []) ≡ true)
  pub ends :
      all_said (with_moves (start prepared 2) ((clean_up_opened ∷ []) ++ run) idle) (runs 5 1 ∷ []) run ≡ told ++ left

pub behind : (more : List Move) →
    IsCutRun (start prepared 2) no_files 4 (asks 5 commands.CleanUp ∷ [])
    (said_reply 4 replies.Nothing ∷ clean_up_opened ∷ more) idle →
    IsRunBehind more
behind more cut =
    let next = cut.opens.opened in
    let front : clean_up_opened ∷ more ≡ cut.openings ++ (cut.run ++ cut.ends_told) = grind (arith, cut.is) in
    let both : (cut.openings ≡ clean_up_opened ∷ []) × (cut.running ≡ runs 5 1 ∷ []) =
    opens_so cut.openings more (cut.run ++ cut.ends_told) next.rest next.first cut.running next.others_running
    next.outcome next.came next.comes.is next.opened next.is next.all_running next.others.0 next.others.1 front
    in
    let whole : clean_up_opened ∷ more ≡ (clean_up_opened ∷ []) ++ (cut.run ++ cut.ends_told) =
    subst (λ o. clean_up_opened ∷ more ≡ o ++ (cut.run ++ cut.ends_told)) both.0 front
    in record {
      run = cut.run;
      told = cut.ends_told;
      left = cut.ends_left;
      are = grind (arith, whole);
      is_work =
          subst (λ r. is_run false (tasks_of r) cut.run ≡ true) both.1
          (subst
          (λ o. is_run (with_moves (start prepared 2) o cut.opened_under_way).moment.halted (tasks_of cut.running) cut.run ≡ true)
          both.0 cut.is_its_run);
      may_end =
          subst
          (λ r.
          (cut.ends_told ≡ [])
          ⊎ (list_all (may_be_left (with_moves (start prepared 2) ((clean_up_opened ∷ []) ++ cut.run) idle)) (tasks_of r) ≡ true))
          both.1
          (subst
          (λ o.
          (cut.ends_told ≡ [])
          ⊎ (list_all (may_be_left (with_moves (start prepared 2) (o ++ cut.run) idle)) (tasks_of cut.running) ≡ true))
          both.0 cut.may_end);
      ends =
          subst
          (λ r.
          all_said (with_moves (start prepared 2) ((clean_up_opened ∷ []) ++ cut.run) idle) r cut.run
          ≡ cut.ends_told ++ cut.ends_left)
          both.1
          (subst
          (λ o.
          all_said (with_moves (start prepared 2) (o ++ cut.run) idle) cut.running cut.run
          ≡ cut.ends_told ++ cut.ends_left)
          both.0 cut.ends);
    }
