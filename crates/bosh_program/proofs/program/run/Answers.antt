use Rattle.std.proofs.Common.{None, Some, ◌∙◌, inl, inr, refl}
use Rattle.bosh_program.proofs.program.run.Goals as goal

pub returns-in-Ok-Some : goal.returns-in-Ok-Some
returns-in-Ok-Some g c = inr (record {
  threads = Some c.in-Ok-Some._threads;
  tells = rw (c.in-Ok-Some.is, c.in-Ok-Some.field-0-is) at c.threads.ensures;
  ends = c.session_plain.ensures;
})

pub returns-in-Ok-None : goal.returns-in-Ok-None
returns-in-Ok-None g c = inr (record {
  threads = None;
  tells = rw (c.in-Ok-None.is, c.in-Ok-None.field-0-is) at c.threads.ensures;
  ends = record {
    status = c.ended.ensures.status ∙ c.usage.ensures.status;
    unread = refl;
    usage = c.usage.ensures.text;
    no_site = c.ended.ensures.no_site;
    none_refused = c.ended.ensures.none_refused;
  };
})

pub returns-in-Err : goal.returns-in-Err
returns-in-Err g c = inl (record {
  status = c.ended-in-Err.ensures.status;
  unread = refl;
  unwritten = refl;
  no_site = c.ended-in-Err.ensures.no_site;
  none_refused = c.ended-in-Err.ensures.none_refused;
})
