use Rattle.bosh_transcript.proofs.PastLemmas.{proceeds_then}
use Rattle.bosh_handlers.proofs.answering.carry_out.Goals as goal

pub returns-in-Open : goal.returns-in-Open
returns-in-Open g c = record {
  proceeds = proceeds_then (g.D.Desk.past c.args.desk.now) (g.D.Desk.past c.begin-opened.new.desk) (g.D.Desk.past c.run.new.desk)
      c.begin-opened.ensures.proceeds c.run.ensures.proceeds;
  kept = λ it. c.run.ensures.kept (c.begin-opened.ensures.kept it);
}

pub returns-in-Deploy : goal.returns-in-Deploy
returns-in-Deploy g c = record {
  proceeds = proceeds_then (g.D.Desk.past c.args.desk.now) (g.D.Desk.past c.open_file-opened.new.desk)
      (g.D.Desk.past c.run-in-Deploy.new.desk) c.open_file-opened.ensures.proceeds c.run-in-Deploy.ensures.proceeds;
  kept = λ it. c.run-in-Deploy.ensures.kept (c.open_file-opened.ensures.kept it);
}
