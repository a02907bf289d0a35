-- Numbers of calls that are left.
use Rattle.std.proofs.Common.{◌≡◌, ◌∙◌, ◌<◌, ◌≤◌, ℕ, Bool, true, false, List, Option, ap, arith, refl, subst, sym}
use Rattle.std.specs.Prelude.{◌||◌, nat_le}
use Rattle.std.proofs.lemmas.Bool.{leb-false, true≢false}
use Rattle.bosh_book.specs.Running.{is_full, is_long}
use Rattle.bosh_book.specs.declared.book.Book.{Book}
use Rattle.bosh_history.specs.Known.{Known}
use Rattle.bosh_history.specs.Moments.{Opening}
use Rattle.bosh_history.specs.Notes.{Outside}
use Rattle.bosh_ports.specs.declared.keeper.Keeper as keeper
use Rattle.bosh_world.specs.Holds.{IsHeld}
use Rattle.bosh_world.specs.declared.held.HeldCall.{HeldCall}
use Rattle.bosh_world.specs.declared.site.Site.{Site}
use Rattle.laws_sites.proofs.EndLemmas.{working_is}
use Rattle.laws_sites.proofs.StepLemmas.{book_goes_on}
use Rattle.laws_sites.specs.Good.{GoesOn, IsGood, IsRecorded, moment_of}
use Rattle.laws_stands.specs.Told.{is_going}
use Rattle.laws_sites.proofs.CountLemmas.{HasRoom}

-- a book that is not full has numbers
below : (long calls tasks : Bool) → ((long || calls) || tasks) ≡ false → (calls ≡ false) × (tasks ≡ false)
below false false tasks is = (refl, is)
below false true tasks is = absurd (true≢false is)
below true calls tasks is = absurd (true≢false is)

room : {K : Type 0} (book : Book K) → is_full book ≡ false
    → (nat_le 4611686018427387904 book.records.last_call ≡ false) × (nat_le 4611686018427387904 book.records.opened ≡ false)
room book is = below (is_long book) (nat_le 4611686018427387904 book.records.last_call)
    (nat_le 4611686018427387904 book.records.opened) is

pub opened_left : {K : Type 0} (book : Book K) → is_full book ≡ false → book.records.opened < 4611686018427387904
opened_left book is = leb-false 4611686018427387904 book.records.opened (room book is).1

-- .. for tasks
pub tasks_left : {K L : Type 0} {k : keeper.Ghosts K} {l : keeper.Ghosts L} (outside : Outside)
    (bodies : K → Option (List (List ℕ))) (cloud_bodies : L → Option (List (List ℕ))) (o : Opening) (was : Site K L k l)
    → IsGood outside bodies cloud_bodies o was → was.history.is_halted ≡ false
    → is_full was.book ≡ false → (moment_of o was).known.tasks < 4611686018427387904
tasks_left outside bodies cloud_bodies o was good running is =
    subst (λ (n : ℕ). n < 4611686018427387904)
    (ap (λ arrivals. arrivals.opened) it.whole.stands.uploads ∙ (λ i. (it.agrees.known_is i).tasks))
    (opened_left was.book is)
  where
    it : IsRecorded (moment_of o was) was
    it = good.recorded (book_goes_on was running).1

-- .. and for calls
pub numbers_left : {K L : Type 0} {k : keeper.Ghosts K} {l : keeper.Ghosts L} (outside : Outside)
    (bodies : K → Option (List (List ℕ))) (cloud_bodies : L → Option (List (List ℕ))) (o : Opening) (was : Site K L k l)
    → IsGood outside bodies cloud_bodies o was → was.history.is_halted ≡ false
    → is_full was.book ≡ false → (moment_of o was).known.last_call < 4611686018427387904
numbers_left outside bodies cloud_bodies o was good running is =
    subst (λ (n : ℕ). n < 4611686018427387904)
    (ap (λ arrivals. arrivals.last_call) it.whole.stands.uploads ∙ (λ i. (it.agrees.known_is i).last_call))
    (leb-false 4611686018427387904 was.book.records.last_call (room was.book is).0)
  where
    it : IsRecorded (moment_of o was) was
    it = good.recorded (book_goes_on was running).1

-- .. and so for both
pub room_left : {K L : Type 0} {k : keeper.Ghosts K} {l : keeper.Ghosts L} (outside : Outside)
    (bodies : K → Option (List (List ℕ))) (cloud_bodies : L → Option (List (List ℕ))) (o : Opening) (was : Site K L k l)
    → IsGood outside bodies cloud_bodies o was → was.history.is_halted ≡ false
    → is_full was.book ≡ false → HasRoom (moment_of o was)
room_left outside bodies cloud_bodies o was good running is = record {
  calls = numbers_left outside bodies cloud_bodies o was good running is;
  tasks = tasks_left outside bodies cloud_bodies o was good running is;
}
