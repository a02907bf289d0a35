-- What is told goes on to agree with a moment, move by move.
use Rattle.std.proofs.Common.{◌≡◌, ◌∙◌, ℕ, ◌≤◌, Bool, true, false, not, List, [], ◌∷◌, Option, Some, None, ap, refl}
use Rattle.std.proofs.Common.{arith, subst, sym}
use Rattle.std.specs.Prelude.{◌==◌, eqb, fold, nat_le, if◌then◌else◌}
use Rattle.std.specs.List.{list_any}
use Rattle.std.specs.Option.{option_map}
use Rattle.std.proofs.lemmas.Bool.{and_parts, eqb-true, false≢true, leb-true}
use Rattle.bosh_base.specs.Cloud.{numbers_to}
use Rattle.bosh_base.specs.declared.entry.Begin.{Begin}
use Rattle.bosh_base.specs.declared.entry.Entry.{Entry}
use Rattle.bosh_base.specs.declared.entry.Entry.TheVariants as entries
use Rattle.bosh_base.specs.declared.entry.TaskError.{TaskError}
use Rattle.bosh_base.specs.declared.moves.Did.{Did}
use Rattle.bosh_base.specs.declared.moves.Move.{Move}
use Rattle.bosh_base.specs.declared.moves.Move.TheVariants as moves
use Rattle.bosh_base.specs.declared.moves.Stop as stop
use Rattle.bosh_history.specs.Learn.{learn}
use Rattle.bosh_history.specs.Moments.{Moment, OpenCall, calls_after, forgetting, keeping, later, losing, noting, performed_call}
use Rattle.bosh_history.specs.Moments.{performing, stopping, taking, with_written, writing}
use Rattle.bosh_history.specs.Notes.{MayNote, Outside}
use Rattle.bosh_history.specs.Permitted.{IsPermitted, MayKeep, Stops}
use Rattle.bosh_history.specs.Words.{holds}
use Rattle.laws_claims.proofs.FactLemmas.{call_numbered}
use Rattle.laws_facts.proofs.LossLemmas.{tasks_grow}
use Rattle.laws_facts.specs.KnownFacts.{KnownFacts}
use Rattle.laws_items.proofs.ListLemmas.{all_in}
use Rattle.laws_stands.specs.Agrees.{Agrees}
use Rattle.laws_facts.proofs.WorkLemmas.{IsUpTo, is_up_to}
use Rattle.laws_stands_noted.specs.Later.{told_kept, told_later}
use Rattle.laws_stands.specs.Told.{TellsWell, Told, of_others, open_after, snapped_after, telling}

-- ---- a call is told as it began

-- once an entry is noted that ends no task as failed and tells no snapshot
abbrev IsPlain : Entry → Type 0
IsPlain (entries.TaskError e) = ⊥
IsPlain (entries.Snapshot s) = ⊥
IsPlain entry = Unit {0}

live_after : (m : Moment) (told : Told) (entry : Entry) → IsPlain entry → Agrees m told → (n : ℕ) (call : OpenCall)
    → calls_after entry m.calls n ≡ Some call → open_after entry told.calls n ≡ Some call.begin
live_after m told (entries.Begin b) plain agrees n call is = by (eqb b.n n) is
  where
    by : (u : Bool) → (if u then Some (record { begin = b; did = None }) else m.calls n) ≡ Some call
        → (if u then Some b else told.calls n) ≡ Some call.begin
    by true is =
        let e : record { begin = b; did = None } ≡ call = cc in ap (λ (call : OpenCall). Some call.begin) e
    by false is = agrees.live n call is
live_after m told (entries.End e) plain agrees n call is = by (eqb e.n n) is
  where
    by : (u : Bool) → (if u then None else m.calls n) ≡ Some call
        → (if u then None else told.calls n) ≡ Some call.begin
    by true is = absurd cc
    by false is = agrees.live n call is
live_after m told (entries.TaskError e) plain agrees n call is = absurd plain
live_after m told (entries.Snapshot s) plain agrees n call is = absurd plain
live_after m told entry plain agrees n call is = agrees.live n call is

left_after : (m : Moment) (told : Told) (entry : Entry) → IsPlain entry → Agrees m told → (n : ℕ) (b : Begin)
    → open_after entry told.calls n ≡ Some b → calls_after entry m.calls n ≡ None → b.task ≤ m.stopped
left_after m told (entries.Begin c) plain agrees n b is gone = by (eqb c.n n) is gone
  where
    by : (u : Bool) → (if u then Some c else told.calls n) ≡ Some b
        → (if u then Some (record { begin = c; did = None }) else m.calls n) ≡ None → b.task ≤ m.stopped
    by true is gone = absurd cc
    by false is gone = agrees.left n b is gone
left_after m told (entries.End e) plain agrees n b is gone = by (eqb e.n n) is gone
  where
    by : (u : Bool) → (if u then None else told.calls n) ≡ Some b → (if u then None else m.calls n) ≡ None
        → b.task ≤ m.stopped
    by true is gone = absurd cc
    by false is gone = agrees.left n b is gone
left_after m told (entries.TaskError e) plain agrees n b is gone = absurd plain
left_after m told (entries.Snapshot s) plain agrees n b is gone = absurd plain
left_after m told entry plain agrees n b is gone = agrees.left n b is gone

snapped_same : (entry : Entry) (n : ℕ) → IsPlain entry → snapped_after entry n ≡ n
snapped_same (entries.Snapshot s) n plain = absurd plain
snapped_same entry n plain = refl

plain_noted : (m : Moment) (told : Told) (entry : Entry) → IsPlain entry → Agrees m told
    → Agrees (noting m entry) (telling told entry)
plain_noted m told entry plain agrees = record {
  known_is = ap (λ k. learn k entry) agrees.known_is;
  snapped = subst (λ n. n ≤ m.stopped) (sym (snapped_same entry told.snapped plain)) agrees.snapped;
  live = live_after m told entry plain agrees;
  left = left_after m told entry plain agrees;
}

-- ---- a task ends as failed

module _ (m : Moment) (told : Told) (e : TaskError) (facts : KnownFacts m) (agrees : Agrees m told)
    (none : (n : ℕ) (call : OpenCall) → m.calls n ≡ Some call → (call.begin.task == e.task) ≡ false) where
  error_noted : Agrees (noting m (entries.TaskError e)) (telling told (entries.TaskError e))
  error_noted = record {
    known_is = ap (λ k. learn k (entries.TaskError e)) agrees.known_is;
    snapped = agrees.snapped;
    live = λ n call is. ap (of_others e.task) (agrees.live n call is)
        ∙ (λ j. if none n call is j then None else Some call.begin);
    left = λ n b is gone. agrees.left n b (was (told.calls n) b is) gone;
  }
    where
      kept : (c b : Begin) (u : Bool) → (if u then None else Some c) ≡ Some b → Some c ≡ Some b
      kept c b true is = absurd cc
      kept c b false is = is

      was : (o : Option Begin) (b : Begin) → of_others e.task o ≡ Some b → o ≡ Some b
      was (Some c) b is = kept c b (c.task == e.task) is
      was None b is = is

-- ---- an entry that may be noted

pub noted_agrees : (outside : Outside) (m : Moment) (told : Told) (entry : Entry) → Agrees m told → KnownFacts m
    → MayNote outside m entry → Agrees (noting m entry) (telling told entry)
noted_agrees outside m told (entries.TaskError e) agrees facts may =
    error_noted m told e facts agrees (λ n call is. other n call is (call.begin.task == e.task) refl)
  where
    other : (n : ℕ) (call : OpenCall) → m.calls n ≡ Some call → (b : Bool) → (call.begin.task == e.task) ≡ b
        → b ≡ false
    other n call is false differs = refl
    other n call is true same =
        absurd (false≢true
        (sym (ap (λ o. not (holds (λ (call : OpenCall). call.begin.task == e.task) o)) is ∙ ap not same)
        ∙ all_in (λ n. not (holds (λ (call : OpenCall). call.begin.task == e.task) (m.calls n))) n
        (numbers_to m.known.last_call) may.no_call
        (call_numbered m call.begin.task facts (facts.calls n call is).works n call is)))
noted_agrees outside m told (entries.Snapshot s) agrees facts may = absurd may
noted_agrees outside m told entry agrees facts may = plain_noted m told entry tt agrees

-- ---- the other moves

-- the same is known, and the same calls are open
record SameTold (m now : Moment) : Type 0 where
  pub known : now.known ≡ m.known
  pub stopped : now.stopped ≡ m.stopped
  pub calls : (n : ℕ) → option_map (λ (call : OpenCall). call.begin) (now.calls n)
      ≡ option_map (λ (call : OpenCall). call.begin) (m.calls n)

same_agrees : (m now : Moment) (told : Told) → SameTold m now → Agrees m told → Agrees now told
same_agrees m now told same agrees = record {
  known_is = agrees.known_is ∙ sym same.known;
  snapped = subst (λ n. told.snapped ≤ n) (sym same.stopped) agrees.snapped;
  live = λ n call is. by n call (m.calls n) refl
      (sym (same.calls n) ∙ ap (option_map (λ (call : OpenCall). call.begin)) is);
  left = λ n b is gone. subst (λ s. b.task ≤ s) (sym same.stopped)
      (agrees.left n b is
      (none (m.calls n) (sym (same.calls n) ∙ ap (option_map (λ (call : OpenCall). call.begin)) gone)));
}
  where
    by : (n : ℕ) (call : OpenCall) (o : Option OpenCall) → m.calls n ≡ o
        → option_map (λ (call : OpenCall). call.begin) (m.calls n) ≡ Some call.begin
        → told.calls n ≡ Some call.begin
    by n call (Some old) is begins =
        agrees.live n old is ∙ sym (ap (option_map (λ (call : OpenCall). call.begin)) is) ∙ begins
    by n call None is begins =
        absurd (let e : None ≡ Some call.begin =
        sym (ap (option_map (λ (call : OpenCall). call.begin)) is) ∙ begins in cc)

    none : (o : Option OpenCall) → option_map (λ (call : OpenCall). call.begin) o ≡ None → o ≡ None
    none None is = refl
    none (Some call) is = absurd cc

performed_same : (m : Moment) (d : Did) → SameTold m (performing m d)
performed_same m d = record {
  known = refl;
  stopped = refl;
  calls = λ n. by n (eqb d.n n) refl;
}
  where
    begins : (o : Option OpenCall) → option_map (λ (call : OpenCall). call.begin) (performed_call d o)
        ≡ option_map (λ (call : OpenCall). call.begin) o
    begins (Some call) = refl
    begins None = refl

    by : (n : ℕ) (u : Bool) → eqb d.n n ≡ u
        → option_map (λ (call : OpenCall). call.begin) (if u then performed_call d (m.calls d.n) else m.calls n)
        ≡ option_map (λ (call : OpenCall). call.begin) (m.calls n)
    by n true is = begins (m.calls d.n)
        ∙ ap (λ n. option_map (λ (call : OpenCall). call.begin) (m.calls n)) (eqb-true d.n n is)
    by n false is = refl

-- the effects of a write, a loss and of calls that were open change neither
written_same : (m : Moment) (o : Option Entry) → SameTold m (with_written m o)
written_same m (Some (entries.Lost loss)) = record { known = refl; stopped = refl; calls = λ n. refl }
written_same m (Some entry) = record { known = refl; stopped = refl; calls = λ n. refl }
written_same m None = record { known = refl; stopped = refl; calls = λ n. refl }

taken_known : (m : Moment) (took : List ℕ) → (fold taking m took).known ≡ m.known
taken_known m [] = refl
taken_known m (n ∷ took) = taken_known (taking m n) took

-- ---- a stop

-- each call that is told is of a task that was opened
abbrev AreOpened : Told → Type 0
AreOpened told = (n : ℕ) (b : Begin) → told.calls n ≡ Some b → b.task ≤ told.known.tasks

opened_of : (told : Told) → TellsWell told → AreOpened told
opened_of told well n b is = leb-true b.task told.known.tasks
    (and_parts (nat_le b.task told.known.tasks) _ (and_parts (nat_le 1 b.task) _ (well.going n b is)).1).0

module _ (outside : Outside) (m : Moment) (told : Told) (agrees : Agrees m told) (facts : KnownFacts m)
    (well : TellsWell told) where
  low_snapped : told.snapped ≤ m.known.tasks
  low_snapped =
      let low : told.snapped ≤ m.stopped = agrees.snapped in
      let past : m.stopped ≤ m.known.tasks = leb-true m.stopped m.known.tasks facts.lists.stopped_past in
      omega arith

  was_opened : (n : ℕ) (b : Begin) → told.calls n ≡ Some b → b.task ≤ m.known.tasks
  was_opened n b is = subst (λ k. b.task ≤ k) (ap (λ k. k.tasks) agrees.known_is) (opened_of told well n b is)

  opened_after : (entry : Entry) → MayNote outside m entry → (n : ℕ) (b : Begin)
      → open_after entry told.calls n ≡ Some b → b.task ≤ m.known.tasks
  opened_after (entries.Begin c) may n b is = by (eqb c.n n) is
    where
      by : (u : Bool) → (if u then Some c else told.calls n) ≡ Some b → b.task ≤ m.known.tasks
      by true is =
          let e : c ≡ b = cc in
          subst (λ (b : Begin). b.task ≤ m.known.tasks) e
          (opened (is_up_to c.task m.known.tasks
          (and_parts (list_any (λ n. n == c.task) (numbers_to m.known.tasks)) _ may.is_open).0))
        where
          opened : IsUpTo c.task m.known.tasks → c.task ≤ m.known.tasks
          opened within = within.high
      by false is = was_opened n b is
  opened_after (entries.End e) may n b is = by (eqb e.n n) is
    where
      by : (u : Bool) → (if u then None else told.calls n) ≡ Some b → b.task ≤ m.known.tasks
      by true is = absurd cc
      by false is = was_opened n b is
  opened_after (entries.TaskError e) may n b is = was_opened n b (was (told.calls n) is)
    where
      kept : (c : Begin) (u : Bool) → (if u then None else Some c) ≡ Some b → Some c ≡ Some b
      kept c true is = absurd cc
      kept c false is = is

      was : (o : Option Begin) → of_others e.task o ≡ Some b → o ≡ Some b
      was (Some c) is = kept c (c.task == e.task) is
      was None is = is
  opened_after (entries.Snapshot s) may n b is = absurd may
  opened_after entry may n b is = was_opened n b is

  not_snapshot : (entry : Entry) → MayNote outside m entry → snapped_after entry told.snapped ≡ told.snapped
  not_snapshot (entries.Snapshot s) may = absurd may
  not_snapshot entry may = refl

  -- before the entry is told
  abbrev rest : stop.Stop → Moment
  rest s = fold taking (with_written m s.wrote) s.took

  -- the entry that was kept is known, and each call that is told is of a task that was opened
  pub stop_agrees : (s : stop.Stop) → Stops outside m s → Agrees (stopping m s) (told_kept told s.kept)
  stop_agrees s stops = by s.kept stops.kept
    where
      known_is : (rest s).known ≡ m.known
      known_is = taken_known (with_written m s.wrote) s.took ∙ (written_same m s.wrote).known

      by : (o : Option Entry) → MayKeep outside m o → Agrees (forgetting (keeping (rest s) o)) (told_kept told o)
      by None may = record {
        known_is = agrees.known_is ∙ sym known_is;
        snapped = subst (λ k. told.snapped ≤ k) (ap (λ k. k.tasks) (sym known_is)) low_snapped;
        live = λ n call is. absurd cc;
        left = λ n b is gone. subst (λ k. b.task ≤ k) (ap (λ k. k.tasks) (sym known_is)) (was_opened n b is);
      }
      by (Some entry) (may, follows) = record {
        known_is = ap (λ k. learn k entry) (agrees.known_is ∙ sym known_is);
        snapped = subst (λ k. snapped_after entry told.snapped ≤ (learn k entry).tasks) (sym known_is)
            (subst (λ n. n ≤ (learn m.known entry).tasks) (sym (not_snapshot entry may))
            (more told.snapped low_snapped));
        live = λ n call is. absurd cc;
        left = λ n b is gone. subst (λ k. b.task ≤ (learn k entry).tasks) (sym known_is)
            (more b.task (opened_after entry may n b is));
      }
        where
          more : (x : ℕ) → x ≤ m.known.tasks → x ≤ (learn m.known entry).tasks
          more x low = let grows : m.known.tasks ≤ (learn m.known entry).tasks = tasks_grow outside m entry may in
              omega arith

-- ---- all

pub move_agrees : (outside : Outside) (m : Moment) (told : Told) (move : Move) → Agrees m told → KnownFacts m
    → TellsWell told → IsPermitted outside m move → Agrees (later m move) (told_later told move)
move_agrees outside m told (moves.Note entry) agrees facts well (halted, follows, may) =
    noted_agrees outside m told entry agrees facts may
move_agrees outside m told (moves.Did d) agrees facts well may =
    same_agrees m (performing m d) told (performed_same m d) agrees
move_agrees outside m told (moves.Wrote w) agrees facts well may =
    same_agrees m (writing m w.inst w.text) told (record { known = refl; stopped = refl; calls = λ n. refl }) agrees
move_agrees outside m told (moves.Halt cause) agrees facts well may =
    same_agrees m (record m { halted = true }) told (record { known = refl; stopped = refl; calls = λ n. refl }) agrees
move_agrees outside m told (moves.Stop s) agrees facts well may = stop_agrees outside m told agrees facts well s may
move_agrees outside m told (moves.Lost loss) agrees facts well may =
    same_agrees m (losing m loss) told (record { known = refl; stopped = refl; calls = λ n. refl }) agrees
move_agrees outside m told (moves.Said said) agrees facts well may = agrees
