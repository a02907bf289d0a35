-- A site stays good as work of a task is claimed.
use Rattle.std.proofs.Common.{◌≡◌, ◌∙◌, ◌<◌, ◌≤◌, ℕ, suc, Bool, true, false, List, [], ◌∷◌, ◌++◌, Option, Some, None, arith, length, refl, subst, sym, ap}
use Rattle.std.specs.Prelude.{◌==◌, ◌+◌, All, find, fold, is_some, map, Ok, Result}
use Rattle.std.proofs.lemmas.Bool.{eq-eqb, false≢true}
use Rattle.std.proofs.lemmas.List.{append_cancel_left}
use Rattle.bosh_base.specs.declared.entry.Begin.{Begin}
use Rattle.bosh_base.specs.declared.entry.Entry.{Entry}
use Rattle.bosh_base.specs.declared.entry.Entry.TheVariants as entries
use Rattle.bosh_base.specs.declared.moves.Move.{Move}
use Rattle.bosh_base.specs.declared.moves.Move.TheVariants as moves
use Rattle.bosh_asks.specs.declared.fault.BookFault.{BookFault}
use Rattle.bosh_book.specs.Claims as by_turns
use Rattle.bosh_book.specs.Turns.{Gives, IsUpdate}
use Rattle.bosh_book.specs.declared.claim.Claim.{Claim}
use Rattle.bosh_book.specs.declared.claim.Claim.TheVariants.{Over, Wait, Work}
use Rattle.bosh_calls.specs.Calls.{is_of, with_begun}
use Rattle.bosh_calls.specs.declared.calls.OpenCall as site
use Rattle.bosh_claim.specs.Choice.{choice_of, of_task}
use Rattle.bosh_claim.specs.declared.choice.Choice.TheVariants as choices
use Rattle.bosh_history.specs.Fit.{IsFit, has_numbers}
use Rattle.bosh_history.specs.Known.{Known}
use Rattle.bosh_history.specs.Moments.{Moment, OpenCall, Opening, later, noting}
use Rattle.bosh_history.specs.Notes.{Begins, Outside}
use Rattle.bosh_history.specs.Permitted.{IsRunFrom}
use Rattle.bosh_history.specs.Recovered.{is_recovering}
use Rattle.bosh_ports.specs.declared.keeper.Keeper as keeper
use Rattle.bosh_book.specs.Running.{room_left}
use Rattle.bosh_ports.specs.Rigged.{faults_of}
use Rattle.bosh_records.specs.Readers.{work_at}
use Rattle.bosh_work.specs.declared.work.Work as work
use Rattle.bosh_world.specs.Steps.{Claims, bodies_of, calls_claimed}
use Rattle.bosh_world.specs.Told.{story_of}
use Rattle.bosh_world.specs.declared.fault.SiteFault.{SiteFault}
use Rattle.bosh_world.specs.declared.site.Site.{Site}
use Rattle.laws_facts.specs.Owners.{works}
use Rattle.laws_held.proofs.HeldLemmas.{run_holds}
use Rattle.laws_held.proofs.PartLemmas.{whole_moves}
use Rattle.laws_held.specs.Whole.{Whole}
use Rattle.laws_sites.proofs.CallLemmas.{calls_begun, calls_on}
use Rattle.laws_sites.proofs.EndLemmas.{working_is}
use Rattle.laws_sites.proofs.NoteLemmas.{OneMoreStands, noted_good}
use Rattle.laws_sites.proofs.StepLemmas.{book_goes_on}
use Rattle.laws_sites.proofs.TurnLemmas.{HasNoted, HasTurned, calls_after, idle_turns, turns, numbers_after}
use Rattle.laws_sites.specs.Calls.{AreCalls, AreRising, IsCall}
use Rattle.laws_sites.specs.Good.{GoesOn, IsGood, IsRecorded, moment_of}
use Rattle.laws_stands.specs.Stands.{IsWork}
use Rattle.laws_stands.specs.Told.{is_going, telling}
use Rattle.laws_tasks.proofs.RecoveredLemmas.{still_recovered}
use Rattle.laws_sites.proofs.CountLemmas.{HasRoom, numbers_next, same_numbers}

-- ---- lists

first_of : (P : Entry → Type 0) (e : Entry) (es : List Entry) → All P (e ∷ es) → P e
first_of P e es all = all 0 e (positive (length es))
  where
    positive : (n : ℕ) → 0 < suc n
    positive n = omega arith

rest_of : (P : Entry → Type 0) (e : Entry) (es : List Entry) → All P (e ∷ es) → All P es
rest_of P e es all = λ k d less. all (suc k) d (next k (length es) less)
  where
    next : (a b : ℕ) → a < b → suc a < suc b
    next a b less = omega arith

later_then : (m : Moment) (one other : List Entry) → fold later m (map moves.Note (one ++ other))
    ≡ fold later (fold later m (map moves.Note one)) (map moves.Note other)
later_then m [] other = refl
later_then m (e ∷ one) other = later_then (noting m e) one other

pub run_then : (outside : Outside) (m : Moment) (one other : List Entry) → IsRunFrom outside m (map moves.Note (one ++ other))
    → IsRunFrom outside m (map moves.Note one)
    × IsRunFrom outside (fold later m (map moves.Note one)) (map moves.Note other)
run_then outside m [] other may = (tt, may)
run_then outside m (e ∷ one) other may =
    let rest : IsRunFrom outside (noting m e) (map moves.Note one)
    × IsRunFrom outside (fold later (noting m e) (map moves.Note one)) (map moves.Note other) =
    run_then outside (noting m e) one other may.1 in ((may.0, rest.0, may.2), rest.1)

-- ---- what notes leave

pub recovered_noted : (outside : Outside) (m : Moment) (noted : List Entry) → Whole m → is_recovering m ≡ false
    → IsRunFrom outside m (map moves.Note noted) → is_recovering (fold later m (map moves.Note noted)) ≡ false
recovered_noted outside m [] whole is may = is
recovered_noted outside m (e ∷ noted) whole is may =
    recovered_noted outside (noting m e) noted (whole_moves outside m (moves.Note e) may.0 whole)
    (still_recovered outside m whole.holds.known e may.0.2 is) may.1

-- updates leave the open calls, and how many began
pub calls_updated : (m : Moment) (updates : List Entry) → All IsUpdate updates
    → (fold later m (map moves.Note updates)).calls ≡ m.calls
calls_updated m [] are = refl
calls_updated m (e ∷ updates) are =
    calls_updated (noting m e) updates (rest_of IsUpdate e updates are) ∙ by e (first_of IsUpdate e updates are)
  where
    by : (e : Entry) → IsUpdate e → (noting m e).calls ≡ m.calls
    by (entries.UpdBegin u) is = refl
    by (entries.UpdDone u) is = refl
    by (entries.Gone u) is = refl
    by e is = absurd is

pub count_updated : (m : Moment) (updates : List Entry) → All IsUpdate updates
    → (fold later m (map moves.Note updates)).known.last_call ≡ m.known.last_call
count_updated m [] are = refl
count_updated m (e ∷ updates) are =
    count_updated (noting m e) updates (rest_of IsUpdate e updates are)
    ∙ calls_after m e (first_of IsUpdate e updates are)

-- .. and how many tasks opened
tasks_updated : (m : Moment) (updates : List Entry) → All IsUpdate updates
    → (fold later m (map moves.Note updates)).known.tasks ≡ m.known.tasks
tasks_updated m [] are = refl
tasks_updated m (e ∷ updates) are =
    tasks_updated (noting m e) updates (rest_of IsUpdate e updates are)
    ∙ (numbers_after m e (first_of IsUpdate e updates are)).0

pub room_updated : (m : Moment) (updates : List Entry) → All IsUpdate updates → HasRoom m
    → HasRoom (fold later m (map moves.Note updates))
room_updated m updates are room = record {
  calls = subst (λ (n : ℕ). n < 4611686018427387904) (sym (count_updated m updates are)) room.calls;
  tasks = subst (λ (n : ℕ). n < 4611686018427387904) (sym (tasks_updated m updates are)) room.tasks;
}

pub numbered_updated : (m : Moment) (updates : List Entry) → All IsUpdate updates → has_numbers m.known ≡ true
    → has_numbers (fold later m (map moves.Note updates)).known ≡ true
numbered_updated m updates are =
    same_numbers m.known (fold later m (map moves.Note updates)).known
    (record { last_call = count_updated m updates are; tasks = tasks_updated m updates are })

-- ---- numbers

in_rest : (it : site.OpenCall) (rest : List site.OpenCall) (x : ℕ) → is_some (find (is_of x) rest) ≡ true
    → is_some (find (is_of x) (it ∷ rest)) ≡ true
in_rest it rest x is = by (it.n == x) refl
  where
    by : (b : Bool) → (it.n == x) ≡ b → is_some (find (is_of x) (it ∷ rest)) ≡ true
    by true one = rw one refl
    by false other = rw other is

rising_begun : (last n : ℕ) (calls : List site.OpenCall) → AreRising last calls → last < n
    → ((x : ℕ) → is_some (find (is_of x) calls) ≡ true → x < n) → AreRising last (with_begun n calls)
rising_begun last n [] are less below = (less, tt)
rising_begun last n (it ∷ rest) are less below =
    by (it.n == n) refl (rising_begun it.n n rest are.1 under (λ x is. below x (in_rest it rest x is)))
  where
    under : it.n < n
    under = below it.n (rw (eq-eqb it.n it.n refl) refl)

    differs : (a b : ℕ) → a < b → (a == b) ≡ true → ⊥
    differs a b less same = absurd (grind (arith, less, same))

    by : (b : Bool) → (it.n == n) ≡ b → AreRising it.n (with_begun n rest) → AreRising last (with_begun n (it ∷ rest))
    by true same more = absurd (differs it.n n under same)
    by false other more = rw other (are.0, more)

-- ---- turn by turn

module _ (one_more : OneMoreStands) {K L : Type 0} {k : keeper.Ghosts K} {l : keeper.Ghosts L}
    (bodies : K → Option (List (List ℕ))) (cloud_bodies : L → Option (List (List ℕ))) (faults : K → ℕ) (outside : Outside)
    (o : Opening) (was now : Site K L k l) (task worker : ℕ) (result : Result Claim BookFault) (fit : IsFit outside o)
    (good : IsGood outside bodies cloud_bodies o was) (running : was.history.is_halted ≡ false)
    (room : (moment_of o was).known.last_call < 4611686018427387904)
    (turned : by_turns.Claims (bodies_of bodies) (faults_of faults) task worker was.book result now.book) where
  abbrev before : Moment
  before = moment_of o was

  abbrev Turned : Type 0
  Turned = HasTurned one_more (bodies_of bodies) (faults_of faults) outside o fit task worker before
      (good.recorded (book_goes_on was running).1).told was.book result now.book

  -- what a claim of a good site notes, and was to note
  pub claim_turned : Turned
  claim_turned = by (works before task) refl
    where
      it : IsRecorded before was
      it = good.recorded (book_goes_on was running).1

      goes : GoesOn bodies cloud_bodies before was
      goes = good.runs running

      below : (n : ℕ) → n < 4611686018427387904 → n < 18446744073709551615
      below n few = omega arith

      over : works before task ≡ false → choice_of was.book.records task worker ≡ choices.Over
      over idle = found (work_at was.book.records task) refl
        where
          found : (o : Option work.Work) → work_at was.book.records task ≡ o
              → choice_of was.book.records task worker ≡ choices.Over
          found None is = ap (of_task was.book.records worker) is
          found (Some known) is =
              absurd (false≢true (sym idle ∙ working_is before task goes.recovered
              (subst (λ (known : Known). is_going known task ≡ true) it.agrees.known_is
              (subst (IsWork it.told task) is (it.whole.stands.works task)).0)))

      by : (b : Bool) → works before task ≡ b → Turned
      by true working =
          turns one_more (bodies_of bodies) (faults_of faults) outside o fit task worker (room_left was.book) before it.told
          was.book result now.book (record {
            moves = story_of was;
            is = refl;
            run = good.run;
            running = good.halted ∙ running;
            working = working;
            numbers = below before.known.last_call room;
            whole = it.whole;
            agrees = it.agrees;
          }) turned
      by false idle =
          idle_turns one_more (bodies_of bodies) (faults_of faults) outside o fit task worker before it.told was.book
          it.whole it.agrees (over idle) (room_left was.book) result now.book turned

module _ (one_more : OneMoreStands) {K L : Type 0} {k : keeper.Ghosts K} {l : keeper.Ghosts L}
    (bodies : K → Option (List (List ℕ))) (cloud_bodies : L → Option (List (List ℕ))) (faults : K → ℕ) (outside : Outside)
    (o : Opening) (was now : Site K L k l) (task worker : ℕ) (claim : Claim) (fit : IsFit outside o)
    (good : IsGood outside bodies cloud_bodies o was)
    (room : (moment_of o was).known.last_call < 4611686018427387904)
    (claims : Claims bodies faults was task worker claim now)
    (calls : now.calls.unsettled ≡ calls_claimed {F = SiteFault} (Ok claim) was.calls.unsettled) where
  abbrev m : Moment
  m = moment_of o was

  goes : GoesOn bodies cloud_bodies m was
  goes = good.runs claims.notes.running

  recorded : IsRecorded m was
  recorded = good.recorded (book_goes_on was claims.notes.running).1

  whole : Whole m
  whole = run_holds outside o (story_of was) fit good.run

  noted : HasNoted one_more (bodies_of bodies) (faults_of faults) outside o fit task worker m recorded.told was.book
      now.book
  unfolding recorded
  noted = (claim_turned one_more bodies cloud_bodies faults outside o was now task worker (Ok claim) fit good
      claims.notes.running room claims.by_turns).notes

  -- what was noted turn by turn is what is told of it
  same : noted.noted ≡ claims.updates ++ claims.last
  same = append_cancel_left was.book.journal.entries noted.noted (claims.updates ++ claims.last)
      (sym noted.entries ∙ claims.notes.book.entries)

  may : IsRunFrom outside m (map moves.Note (claims.updates ++ claims.last))
  may = subst (λ (es : List Entry). IsRunFrom outside m (map moves.Note es)) same noted.may

  -- the moment once updates were noted
  abbrev updated : Moment
  updated = fold later m (map moves.Note claims.updates)

  -- the open calls, their numbers, and how many began, by the answer of the claim
  record Leaves (last : List Entry) (unsettled : List site.OpenCall) : Type 0 where
    open_calls : AreCalls (story_of was) unsettled (fold later updated (map moves.Note last)).calls
    rising : AreRising 0 unsettled
    numbers : has_numbers (fold later updated (map moves.Note last)).known ≡ true

  open_before : AreCalls (story_of was) was.calls.unsettled updated.calls
  open_before = subst (AreCalls (story_of was) was.calls.unsettled) (sym (calls_updated m claims.updates claims.are_updates))
      goes.calls

  nothing_more : (last : List Entry) → last ≡ [] → Leaves last was.calls.unsettled
  nothing_more last none = subst (λ (es : List Entry). Leaves es was.calls.unsettled) (sym none) (record {
    open_calls = open_before;
    rising = goes.rising;
    numbers = numbered_updated m claims.updates claims.are_updates good.numbers;
  })

  -- an open call has a number that was given before
  given_before : (x : ℕ) → is_some (find (is_of x) was.calls.unsettled) ≡ true → x ≤ m.known.last_call
  given_before x is = by (find (is_of x) was.calls.unsettled) (m.calls x) refl is (goes.calls x)
    where
      by : (it : Option site.OpenCall) (o : Option OpenCall) → m.calls x ≡ o → is_some it ≡ true
          → IsCall (story_of was) it o → x ≤ m.known.last_call
      by None o at is has = absurd (false≢true is)
      by (Some it) None at is has = absurd has
      by (Some it) (Some call) at is has =
          subst (λ (known : Known). x ≤ known.last_call) recorded.agrees.known_is
          (recorded.whole.stands.tells_well.past x call.begin (recorded.agrees.live x call at))

  one_begun : (last : List Entry) (b : Begin) (n : ℕ) → last ≡ entries.Begin b ∷ [] → b.n ≡ n
      → IsRunFrom outside updated (map moves.Note last) → Leaves last (with_begun n was.calls.unsettled)
  one_begun last b n is number permitted =
      subst (λ (es : List Entry). Leaves es (with_begun n was.calls.unsettled)) (sym is)
      (subst (λ (x : ℕ). Leaves (entries.Begin b ∷ []) (with_begun x was.calls.unsettled)) number (record {
        open_calls = calls_begun (story_of was) was.calls.unsettled updated.calls b open_before;
        rising = rising_begun 0 b.n was.calls.unsettled goes.rising (low b.n updated.known.last_call begins.number)
            (λ x there. below x m.known.last_call b.n updated.known.last_call (given_before x there)
            (count_updated m claims.updates claims.are_updates) begins.number);
        numbers = numbers_next outside updated (entries.Begin b) begins
            (subst (λ (x : ℕ). x < 4611686018427387904) (sym (count_updated m claims.updates claims.are_updates)) room)
            (numbered_updated m claims.updates claims.are_updates good.numbers);
      }))
    where
      begins : Begins updated b
      begins = (subst (λ (es : List Entry). IsRunFrom outside updated (map moves.Note es)) is permitted).0.2

      low : (a b : ℕ) → a ≡ b + 1 → 0 < a
      low a b one = omega arith

      below : (x last n count : ℕ) → x ≤ last → count ≡ last → n ≡ count + 1 → x < n
      below x last n count under same next = omega arith

  leaves : (c : Claim) (last : List Entry) → Gives c last → IsRunFrom outside updated (map moves.Note last)
      → Leaves last (calls_claimed {F = SiteFault} (Ok c) was.calls.unsettled)
  leaves (Work permit) last (b, for, is) permitted = one_begun last b permit.n is for.number permitted
  leaves Wait last is permitted = nothing_more last is
  leaves Over last is permitted = nothing_more last is

  left : Leaves claims.last now.calls.unsettled
  left = subst (Leaves claims.last) (sym calls)
      (leaves claim claims.last claims.gives (run_then outside m claims.updates claims.last may).1)

  pub claimed_good : IsGood outside bodies cloud_bodies o now
  claimed_good =
      noted_good outside bodies cloud_bodies faults o was now (claims.updates ++ claims.last) good claims.notes may
      (λ read. subst (λ (es : List Entry). IsRecorded (fold later m (map moves.Note es)) now) same (record {
        told = fold telling recorded.told noted.noted;
        agrees = noted.agrees;
        whole = noted.whole;
      }))
      (recovered_noted outside m (claims.updates ++ claims.last) whole goes.recovered may)
      (subst (λ (next : Moment). has_numbers next.known ≡ true) (sym (later_then m claims.updates claims.last)) left.numbers)
      (subst (λ (next : Moment). AreCalls (story_of now) now.calls.unsettled next.calls)
      (sym (later_then m claims.updates claims.last))
      (subst (λ (told_moves : List Move). AreCalls told_moves now.calls.unsettled
      (fold later updated (map moves.Note claims.last)).calls) (sym claims.notes.comes.story)
      (calls_on (story_of was) (map moves.Note (claims.updates ++ claims.last) ++ []) now.calls.unsettled
      (fold later updated (map moves.Note claims.last)).calls left.open_calls)))
      left.rising
