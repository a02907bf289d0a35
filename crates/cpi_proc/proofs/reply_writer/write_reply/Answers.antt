use Rattle.std.proofs.Common.{◌++◌, List, ℕ, ap, subst, sym, ◌∙◌}
use Rattle.std.proofs.lemmas.Bool.{and_from, and_parts}
use Rattle.bosh_base.specs.Answer.{is_kind}
use Rattle.bosh_base.specs.Call.{method_of}
use Rattle.cpi_proc.specs.Reply.{Replies, has_numbers, has_parts, reply_text}
use Rattle.cpi_proc.proofs.ReplyLemmas.{replied}
use Rattle.cpi_proc.proofs.reply_writer.write_reply.Goals as goal

pub returns-clause-replies : goal.returns-clause-replies
returns-clause-replies c =
    let m = method_of c.args.call.now in
    let a = c.args.answer.now in
    let asked = and_parts (is_kind m a) (has_numbers a) c.requires in
    let said : Replies m (reply_text a) a = replied m a asked.0 (and_from (has_numbers a) (has_parts a) asked.1 c.in_ok-add_reply.ensures.fits) in
    let text = c.in_ok-add_reply.ensures.ok ∙ ap (λ (s : List ℕ). s ++ reply_text a) c.new-out.ensures.items in
    subst (λ (t : List ℕ). Replies m t a) (sym text) said
