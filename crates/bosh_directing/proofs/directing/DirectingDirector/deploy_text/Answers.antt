use Rattle.bosh_directing.proofs.ActLemmas.{acts_then}
use Rattle.bosh_directing.proofs.directing.DirectingDirector.deploy_text.Goals as goal

pub returns : goal.returns
returns g c = record {
  proceeds = acts_then c.args.self.now.site c.open_text-opened.new.desk.site c.run.new.desk.site
      c.open_text-opened.ensures.proceeds c.run.ensures.proceeds;
  kept = λ it. c.run.ensures.kept (c.open_text-opened.ensures.kept it);
}
