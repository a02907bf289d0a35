use Rattle.bosh_world.specs.Told.{story_of}
use Rattle.laws_due.proofs.ListLemmas.{listed_is}
use Rattle.laws_due.proofs.lists.what_is_listed_is_due.Goals as goal
use Rattle.laws_runs.proofs.ReadLemmas.{run_facts}
use Rattle.laws_sites.proofs.StepLemmas.{book_goes_on}
use Rattle.laws_sites.specs.Good.{IsRecorded, moment_of}

pub returns : goal.returns
returns g c = λ outside o listing reply fit good running built listed.
    let recorded : IsRecorded (moment_of o c.args.site.now) c.args.site.now = good.recorded (book_goes_on c.args.site.now running).1 in
    listed_is recorded.told (moment_of o c.args.site.now) recorded.agrees.known_is
    (run_facts outside o (story_of c.args.site.now) fit good.run).lists c.args.site.now.book.records recorded.whole.stands listing
    reply built listed
