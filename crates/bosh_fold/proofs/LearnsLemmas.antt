-- Entries that are taken in, one after another.
use Rattle.std.proofs.Common.{◌≡◌, ◌∙◌, List, [], ◌∷◌, ◌++◌, refl, ap}
use Rattle.bosh_base.specs.declared.entry.Entry.{Entry}
use Rattle.bosh_fold.specs.ArrivalsWith.{arrivals_with}
use Rattle.bosh_fold.specs.Learned.{learned}
use Rattle.bosh_fold.specs.Learns.{IsAlike, Learns, LearnsAll}
use Rattle.bosh_fold.specs.Planned.{IsPlanned, roomy_for}
use Rattle.bosh_fold.specs.declared.change.Change.{Change}
use Rattle.bosh_fold.proofs.BringsLemmas.{it_brings}
use Rattle.bosh_fold.proofs.CameLemmas.{came_is}
use Rattle.bosh_records.specs.Arrivals.{arrivals}
use Rattle.bosh_records.specs.Ordered.{AreOrdered}
use Rattle.bosh_records.specs.Recorded.{recorded}
use Rattle.bosh_records.specs.declared.records.Records.{Records}

pub one_learned : (was roomy now : Records) (entry : Entry) (change : Change) → IsPlanned was roomy entry change
    → recorded roomy ≡ roomy_for was entry (recorded was) → IsAlike was roomy
    → recorded now ≡ learned entry change (recorded roomy) → AreOrdered (recorded now) → Learns was entry now
one_learned was roomy now entry change planned room alike is ordered = record {
  roomy = roomy;
  room = room;
  alike = alike;
  change = change;
  planned = planned;
  is_learned = is;
  ordered = ordered;
}

-- what comes by it
pub learned_comes : (was now : Records) (entry : Entry) → Learns was entry now → arrivals now ≡ arrivals_with entry (arrivals was)
learned_comes was now entry it =
    ap (λ all. all.came) it.is_learned
    ∙ came_is entry it.change (recorded it.roomy)
    ∙ it_brings was it.roomy entry it.change it.planned (arrivals it.roomy)
    ∙ ap (λ all. arrivals_with entry all.came) it.alike.same

-- ---- several

pub alike_itself : (records : Records) → IsAlike records records
alike_itself records = record { same = refl; ordered = λ ordered. ordered }

alike_on : (first mid last : Records) → IsAlike first mid → IsAlike mid last → IsAlike first last
alike_on first mid last was now = record {
  same = now.same ∙ was.same;
  ordered = λ ordered. now.ordered (was.ordered ordered);
}

pub all_of_one : (was now : Records) (entry : Entry) → Learns was entry now → LearnsAll was (entry ∷ []) now
all_of_one was now entry it = (was, now, alike_itself was, it, alike_itself now)

pub learned_on : (first mid last : Records) (one other : List Entry) → LearnsAll first one mid → LearnsAll mid other last
    → LearnsAll first (one ++ other) last
learned_on first mid last [] [] was now = alike_on first mid last was now
learned_on first mid last [] (entry ∷ entries) was now =
    (now.0, now.1, alike_on first mid now.0 was now.2, now.3, now.4)
learned_on first mid last (entry ∷ entries) other was now =
    (was.0, was.1, was.2, was.3, learned_on was.1 mid last entries other was.4 now)
