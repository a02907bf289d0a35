-- What is read is what was spelled.
use Rattle.std.proofs.Common.{None, refl}
use Rattle.std.specs.Option.{is_none}
use Rattle.bosh_base.specs.declared.entry.TaskOpen.{TaskOpen}
use Rattle.bosh_base.specs.declared.entry.Begin.{Begin}
use Rattle.bosh_base.specs.declared.entry.End.{End}
use Rattle.bosh_base.specs.declared.entry.Update.{Update}
use Rattle.bosh_base.specs.declared.entry.TaskError.{TaskError}
use Rattle.bosh_base.specs.declared.entry.Effect.{Effect}
use Rattle.bosh_base.specs.declared.entry.Write.{Write}
use Rattle.bosh_base.specs.declared.entry.Loss.{Loss}
use Rattle.bosh_entry.specs.declared.format.Format.{Format}
use Rattle.bosh_entry.specs.Entry.{task_open, is_task_open, task_open_at, begin, is_begin, begin_at, end, is_end, end_at, update, is_update, update_at, task_error, is_task_error, task_error_at, effect, is_effect, effect_at, write, is_write, write_at, loss, is_loss, loss_at}
use Rattle.bosh_entry.proofs.CodingLemmas.{IsCoding, making_law, struct_law, ◌and◌}
use Rattle.bosh_entry.proofs.NumberLemmas.{number_law, worker_law}
use Rattle.bosh_entry.proofs.ChoiceLemmas.{flag_law, option_law}
use Rattle.bosh_entry.proofs.ListLemmas.{text_law, list_law}
use Rattle.bosh_entry.proofs.PlainLemmas.{name_law, digest_law}
use Rattle.bosh_entry.proofs.LaterLemmas.{later_law, none_is}
use Rattle.bosh_entry.proofs.InstLemmas.{inst_law}
use Rattle.bosh_entry.proofs.GoalLemmas.{goal_law}
use Rattle.bosh_entry.proofs.OwnerLemmas.{owner_law}
use Rattle.bosh_entry.proofs.CallLemmas.{call_law}
use Rattle.bosh_entry.proofs.AnswerLemmas.{answer_law}
use Rattle.bosh_entry.proofs.FailureLemmas.{failure_law}
use Rattle.bosh_entry.proofs.TaskLemmas.{task_kind_law}

pub task_open_law : (format : Format) → IsCoding (task_open format) (is_task_open format) (task_open_at format)
unfolding task_open is_task_open task_open_at
task_open_law format = struct_law (λ (t : TaskOpen). ((((((((tt, t.task), t.kind), t.dep), t.goal), t.changed), t.obsolete), t.disks), t.source)) (λ p. refl) (λ x. refl) (making_law (λ task kind dep goal changed obsolete disks source. record { task = task; kind = kind; dep = dep; goal = goal; changed = changed; obsolete = obsolete; disks = disks; source = source }) and number_law and task_kind_law format and option_law name_law and option_law (goal_law format) and list_law inst_law and list_law inst_law and list_law number_law and later_law is_none None none_is refl (option_law digest_law) format)

pub begin_law : IsCoding begin is_begin begin_at
unfolding begin is_begin begin_at
begin_law = struct_law (λ (b : Begin). (((((tt, b.n), b.task), b.worker), b.owner), b.call)) (λ p. refl) (λ x. refl) (making_law (λ n task worker owner call. record { n = n; task = task; worker = worker; owner = owner; call = call }) and number_law and number_law and worker_law and owner_law and call_law)

pub end_law : IsCoding end is_end end_at
unfolding end is_end end_at
end_law = struct_law (λ (e : End). ((tt, e.n), e.answer)) (λ p. refl) (λ x. refl) (making_law (λ n answer. record { n = n; answer = answer }) and number_law and answer_law)

pub update_law : IsCoding update is_update update_at
unfolding update is_update update_at
update_law = struct_law (λ (u : Update). ((tt, u.task), u.inst)) (λ p. refl) (λ x. refl) (making_law (λ task inst. record { task = task; inst = inst }) and number_law and inst_law)

pub task_error_law : (format : Format) → IsCoding task_error (is_task_error format) (task_error_at format)
unfolding task_error is_task_error task_error_at
task_error_law format = struct_law (λ (t : TaskError). ((tt, t.task), t.cause)) (λ p. refl) (λ x. refl) (making_law (λ task cause. record { task = task; cause = cause }) and number_law and failure_law format)

pub effect_law : IsCoding effect is_effect effect_at
unfolding effect is_effect effect_at
effect_law = struct_law (λ (e : Effect). ((((tt, e.n), e.owner), e.dep), e.call)) (λ p. refl) (λ x. refl) (making_law (λ n owner dep call. record { n = n; owner = owner; dep = dep; call = call }) and number_law and owner_law and name_law and call_law)

pub write_law : IsCoding write is_write write_at
unfolding write is_write write_at
write_law = struct_law (λ (w : Write). ((tt, w.disk), w.text)) (λ p. refl) (λ x. refl) (making_law (λ disk text. record { disk = disk; text = text }) and number_law and text_law)

pub loss_law : IsCoding loss is_loss loss_at
unfolding loss is_loss loss_at
loss_law = struct_law (λ (l : Loss). ((tt, l.vm), l.whole)) (λ p. refl) (λ x. refl) (making_law (λ vm whole. record { vm = vm; whole = whole }) and number_law and flag_law)
