use Rattle.std.proofs.Common.{subst}
use Rattle.bosh_base.specs.Call.{method_of}
use Rattle.cpi_proc.specs.Reply.{GivesReply, reply_of}
use Rattle.cpi_proc.proofs.ReplyLemmas.{reply_answers, reply_refuses, reply_says_nothing}
use Rattle.cpi_proc.proofs.reply_reader.read_reply.Goals as goal

pub returns-clause-answers : goal.returns-clause-answers
returns-clause-answers c = reply_answers (method_of c.args.call.now) c.args.bytes.now c.reply_of.result (subst (λ m. GivesReply c.reply_of.result (reply_of m c.args.bytes.now)) c.method.ensures c.reply_of.ensures)

pub returns-clause-refuses : goal.returns-clause-refuses
returns-clause-refuses c = reply_refuses (method_of c.args.call.now) c.args.bytes.now c.reply_of.result (subst (λ m. GivesReply c.reply_of.result (reply_of m c.args.bytes.now)) c.method.ensures c.reply_of.ensures)

pub returns-clause-none : goal.returns-clause-none
returns-clause-none c = reply_says_nothing (method_of c.args.call.now) c.args.bytes.now c.reply_of.result (subst (λ m. GivesReply c.reply_of.result (reply_of m c.args.bytes.now)) c.method.ensures c.reply_of.ensures)
