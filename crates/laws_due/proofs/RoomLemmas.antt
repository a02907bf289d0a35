-- A book has room where the history of its site leaves it.
use Rattle.std.proofs.Common.{◌≡◌, ◌∙◌, ◌+◌, ◌-◌, ℕ, false, List, Option, ap, arith, length}
use Rattle.std.specs.Prelude.{◌||◌, fold, nat_le}
use Rattle.bosh_book.specs.Running.{is_full}
use Rattle.bosh_due.specs.Before.{is_out_of_room, noted_by}
use Rattle.bosh_due.specs.UnderWay.{UnderWay}
use Rattle.bosh_history.specs.Known.{Known}
use Rattle.bosh_history.specs.Moments.{Moment, Opening}
use Rattle.bosh_history.specs.Notes.{Outside}
use Rattle.bosh_ports.specs.declared.keeper.Keeper as keeper
use Rattle.bosh_records.specs.Arrivals.{Arrivals}
use Rattle.bosh_world.specs.Told.{story_of}
use Rattle.bosh_world.specs.declared.site.Site.{Site}
use Rattle.laws_due.specs.Answered.{before_on}
use Rattle.laws_due.specs.Counted.{CountsNoted}
use Rattle.laws_sites.proofs.StepLemmas.{book_goes_on}
use Rattle.laws_sites.specs.Good.{IsGood, IsRecorded, moment_of}

-- how many were noted, as the book counts
counted_since : (noted read all : ℕ) → noted + read ≡ all → all - read ≡ noted
counted_since noted read all same = omega arith

pub room_as_told : {K L : Type 0} {k : keeper.Ghosts K} {l : keeper.Ghosts L} (outside : Outside)
    (bodies : K → Option (List (List ℕ))) (cloud_bodies : L → Option (List (List ℕ))) (o : Opening) (under : UnderWay)
    (site : Site K L k l) → IsGood outside bodies cloud_bodies o site → CountsNoted site
    → site.history.is_halted ≡ false → is_full site.book ≡ is_out_of_room (before_on o under site)
room_as_told outside bodies cloud_bodies o under site good counted running = λ i.
    (nat_le 1000000 (counted_since (fold noted_by 0 (story_of site)) site.book.read (length site.book.journal.entries) counted i)
    || nat_le 4611686018427387904 (called i)) || nat_le 4611686018427387904 (came i)
  where
    it : IsRecorded (moment_of o site) site
    it = good.recorded (book_goes_on site running).1

    came : site.book.records.opened ≡ (moment_of o site).known.tasks
    came = ap (λ (it : Arrivals). it.opened) it.whole.stands.uploads ∙ ap (λ (known : Known). known.tasks) it.agrees.known_is

    called : site.book.records.last_call ≡ (moment_of o site).known.last_call
    called = ap (λ (it : Arrivals). it.last_call) it.whole.stands.uploads
        ∙ ap (λ (known : Known). known.last_call) it.agrees.known_is
