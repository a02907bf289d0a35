use Rattle.std.proofs.Common.{[], arith, refl}
use Rattle.examples_replies.proofs.served.blocks_keep_files.Goals as goal

pub returns-clause-kept : goal.returns-clause-kept
returns-clause-kept c = record {
  more = [];
  comes = refl;
  due = λ ready alone. record { ends = (refl, refl); is_left = refl };
  only = λ ready alone. tt;
  none = λ others. record { none = refl; stays = refl };
  ready = λ ready. ready;
  finds = refl;
  file = refl;
}

pub returns-clause-not_kept : goal.returns-clause-not_kept
returns-clause-not_kept c answers = grind (arith, answers.file)

pub returns-clause-other : goal.returns-clause-other
returns-clause-other c answers = grind (arith, answers.file)

pub returns-clause-found : goal.returns-clause-found
returns-clause-found c answers = grind (arith, answers.finds)

pub returns-clause-finds_more : goal.returns-clause-finds_more
returns-clause-finds_more c answers =
    (answers.ready (record { settled = λ running n. refl; may_find = refl })).may_find
