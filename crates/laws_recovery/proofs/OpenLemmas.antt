-- The tasks that are open where a history begins come to their ends one after the other, as a start ends them.
use Rattle.std.proofs.Common.{◌≡◌, ◌∙◌, ℕ, zero, suc, ◌≤◌, ◌+◌, Bool, true, false, ◌&&◌, ◌||◌, not, List, [], ◌∷◌, Option}
use Rattle.std.proofs.Common.{Some, None, ap, arith, map, refl, sym}
use Rattle.std.specs.Prelude.{◌==◌, eqb, filter, fold, if◌then◌else◌, is_some, nat_le}
use Rattle.std.specs.List.{list_all, list_any}
use Rattle.std.proofs.lemmas.Bool.{and_from, and_parts, eq-eqb, eqb-true, false≢true, leb-true, le-leb}
use Rattle.std.proofs.lemmas.List.Folds.{list_all-append, list_any-append}
use Rattle.bosh_base.specs.Cloud.{numbers_to}
use Rattle.bosh_base.specs.declared.moves.Move.TheVariants as moves
use Rattle.bosh_base.specs.declared.task.TaskEnd.TheVariants as ends
use Rattle.bosh_history.specs.Held.{is_open}
use Rattle.bosh_history.specs.Known.{Known, Task}
use Rattle.bosh_history.specs.Moments.{Moment, OpenCall, later, noting}
use Rattle.bosh_history.specs.Notes.{FailsTask, Outside, is_task_open}
use Rattle.bosh_history.specs.Permitted.{IsPermitted, IsRunFrom}
use Rattle.bosh_history.specs.Recovered.{is_recovering}
use Rattle.bosh_history.specs.Steps.{has_no_call}
use Rattle.bosh_history.specs.Words.{at, holds, is_among}
use Rattle.bosh_rows.specs.SoundSnapshot.{are_distinct}
use Rattle.laws_items.proofs.ListLemmas.{any_in}
use Rattle.laws_items.proofs.ListedLemmas.{numbered_in}
use Rattle.laws_stands.specs.Told.{is_going}
use Rattle.laws_recovery.proofs.EndedLemmas.{ended, tasks_after}
use Rattle.laws_recovery.specs.Interrupted.{interruption, interruptions, open_at}
use Rattle.laws_stands_snapshots.proofs.OrderLemmas.{among_numbers, number_order, numbers_rise}
use Rattle.laws_stands_snapshots.proofs.TableListLemmas.{ascending_apart}

-- ---- numbers

always : {A : Type 0} (xs : List A) → list_all (λ x. true) xs ≡ true
always [] = refl
always (x ∷ xs) = always xs

-- what holds of each number up to the last holds of all of them
pub every : (p : ℕ → Bool) (n : ℕ) → ((t : ℕ) → 1 ≤ t → t ≤ n → p t ≡ true) → list_all p (numbers_to n) ≡ true
every p zero each = refl
every p (suc n) each =
    list_all-append p (numbers_to n) (suc n ∷ [])
    ∙ and_from (list_all p (numbers_to n)) (p (suc n) && true)
    (every p n (λ t low high. each t low (let less : t ≤ n = high in omega arith)))
    (and_from (p (suc n)) true (each (suc n) (omega arith) (omega arith)) refl)

-- .. and what holds of none
none_of : (p : ℕ → Bool) (n : ℕ) → ((t : ℕ) → 1 ≤ t → t ≤ n → p t ≡ false) → list_any p (numbers_to n) ≡ false
none_of p zero each = refl
none_of p (suc n) each =
    list_any-append p (numbers_to n) (suc n ∷ [])
    ∙ (λ i. none_of p n (λ t low high. each t low (let less : t ≤ n = high in omega arith)) i
    || (each (suc n) (let low : 1 ≤ suc n = omega arith in low) (let high : suc n ≤ suc n = omega arith in high) i || false))

-- what is left of a list of which a test holds
all_left : {A : Type 0} (keeps p : A → Bool) (xs : List A) → list_all (λ x. not (keeps x) || p x) xs ≡ true
    → list_all p (filter keeps xs) ≡ true
all_left keeps p [] all = refl
all_left {A} keeps p (x ∷ xs) all =
    let (first, rest) = and_parts (not (keeps x) || p x) _ all in by (keeps x) first (all_left keeps p xs rest)
  where
    by : (b : Bool) → (not b || p x) ≡ true → list_all p (filter keeps xs) ≡ true
        → list_all p (if b then x ∷ filter keeps xs else filter keeps xs) ≡ true
    by true first rest = and_from (p x) _ first rest
    by false first rest = rest

none_left : (test keeps : ℕ → Bool) (xs : List ℕ) → list_any test xs ≡ false → list_any test (filter keeps xs) ≡ false
none_left test keeps [] none = refl
none_left test keeps (x ∷ xs) none = by (test x) (list_any test xs) refl refl none (none_left test keeps xs) (keeps x)
  where
    by : (a b : Bool) → test x ≡ a → list_any test xs ≡ b → (a || b) ≡ false
        → (list_any test xs ≡ false → list_any test (filter keeps xs) ≡ false) → (c : Bool)
        → list_any test (if c then x ∷ filter keeps xs else filter keeps xs) ≡ false
    by false false first rest none more true = (λ i. first i || more rest i)
    by false false first rest none more false = more rest
    by false true first rest none more c = absurd (false≢true (sym none))
    by true b first rest none more c = absurd (false≢true (sym none))

-- no number stands twice in a part of a list in which none does
apart_left : (keeps : ℕ → Bool) (xs : List ℕ) → are_distinct eqb xs ≡ true → are_distinct eqb (filter keeps xs) ≡ true
apart_left keeps [] apart = refl
apart_left keeps (x ∷ xs) apart =
    let (alone, rest) = and_parts (not (list_any (eqb x) xs)) (are_distinct eqb xs) apart in
    by (keeps x) (list_any (eqb x) xs) refl alone (apart_left keeps xs rest)
  where
    by : (c b : Bool) → list_any (eqb x) xs ≡ b → not b ≡ true → are_distinct eqb (filter keeps xs) ≡ true
        → are_distinct eqb (if c then x ∷ filter keeps xs else filter keeps xs) ≡ true
    by true false alone is rest = and_from (not (list_any (eqb x) (filter keeps xs))) _
        (ap not (none_left (eqb x) keeps xs alone)) rest
    by true true alone is rest = absurd (false≢true is)
    by false b alone is rest = rest

among_left : (keeps : ℕ → Bool) (t : ℕ) (xs : List ℕ) → keeps t ≡ true → is_among eqb t xs ≡ true
    → is_among eqb t (filter keeps xs) ≡ true
among_left keeps t [] kept there = there
among_left keeps t (x ∷ xs) kept there = by (eqb t x) refl (keeps x) refl there (among_left keeps t xs kept)
  where
    or_later : (b c : Bool) → c ≡ true → (b || c) ≡ true
    or_later true c is = refl
    or_later false c is = is

    by : (a : Bool) → eqb t x ≡ a → (c : Bool) → keeps x ≡ c → (a || is_among eqb t xs) ≡ true
        → (is_among eqb t xs ≡ true → is_among eqb t (filter keeps xs) ≡ true)
        → is_among eqb t (if c then x ∷ filter keeps xs else filter keeps xs) ≡ true
    by true same true kept_too there more = (λ i. same i || is_among eqb t (filter keeps xs))
    by true same false dropped there more =
        absurd (false≢true (sym dropped ∙ ap keeps (sym (eqb-true t x same)) ∙ kept))
    by false other true kept_too there more = or_later (eqb t x) (is_among eqb t (filter keeps xs)) (more there)
    by false other false dropped there more = more there

-- ---- ends

-- a task that is among those that end has that end
end_at : (tasks : List ℕ) (task : ℕ → Task) (t : ℕ)
    → (tasks_after tasks task t).end ≡ (if is_among eqb t tasks then Some ends.Interrupted else (task t).end)
end_at [] task t = refl
end_at (u ∷ more) task t =
    end_at more (at eqb u (ended (task u)) task) t ∙ by (eqb u t) refl (eqb t u) refl (is_among eqb t more)
  where
    by : (a : Bool) → eqb u t ≡ a → (b : Bool) → eqb t u ≡ b → (c : Bool)
        → (if c then Some ends.Interrupted else (if a then ended (task u) else task t).end)
        ≡ (if (b || c) then Some ends.Interrupted else (task t).end)
    by true same true flip true = refl
    by true same true flip false = refl
    by true same false flip c = absurd (false≢true (sym flip ∙ eq-eqb t u (sym (eqb-true u t same))))
    by false other true flip c = absurd (false≢true (sym other ∙ eq-eqb u t (sym (eqb-true t u flip))))
    by false other false flip true = refl
    by false other false flip false = refl

pub moment_ended : (m : Moment) (tasks : List ℕ) → fold later m (map moves.Note (interruptions tasks))
    ≡ record m { known = record m.known { task = tasks_after tasks m.known.task } }
moment_ended m [] = refl
moment_ended m (t ∷ more) = moment_ended (noting m (interruption t)) more

-- ---- they may end

pub record MayAllEnd (m : Moment) (tasks : List ℕ) : Type 0 where
  pub running : m.halted ≡ false
  pub quiet : m.calls ≡ (λ n. None)
  pub waiting : list_all (λ t. is_task_open m.known t && nat_le t m.stopped) tasks ≡ true
  pub apart : are_distinct eqb tasks ≡ true

module _ (outside : Outside) where
  or_true : (b : Bool) → (b || true) ≡ true
  or_true true = refl
  or_true false = refl

  may_end : (m : Moment) (t : ℕ) (more : List ℕ) → MayAllEnd m (t ∷ more)
      → IsPermitted outside m (moves.Note (interruption t))
  may_end m t more may =
      let (first, rest) = and_parts (is_task_open m.known t && nat_le t m.stopped) _ may.waiting in
      let (is_open_, past) = and_parts (is_task_open m.known t) (nat_le t m.stopped) first in (
        may.running,
        or_true (not (is_recovering m)),
        record {
          is_open = is_open_;
          no_call = (λ i. list_all (λ n. not (holds (λ (call : OpenCall). call.begin.task == t) (may.quiet i n)))
              (numbers_to m.known.last_call)) ∙ always (numbers_to m.known.last_call);
          cause = past;
        },
      )

  -- the others are still open
  still : (m : Moment) (t : ℕ) (tasks : List ℕ) → list_any (eqb t) tasks ≡ false
      → list_all (λ u. is_task_open m.known u && nat_le u m.stopped) tasks ≡ true
      → list_all (λ u. is_task_open (noting m (interruption t)).known u && nat_le u m.stopped) tasks ≡ true
  still m t [] none all = refl
  still m t (u ∷ more) none all =
      let (first, rest) = and_parts (is_task_open m.known u && nat_le u m.stopped) _ all in
      by (eqb t u) refl (list_any (eqb t) more) refl none first (λ none_more. still m t more none_more rest)
    where
      by : (a : Bool) → eqb t u ≡ a → (b : Bool) → list_any (eqb t) more ≡ b → (a || b) ≡ false
          → (is_task_open m.known u && nat_le u m.stopped) ≡ true
          → (list_any (eqb t) more ≡ false
          → list_all (λ u. is_task_open (noting m (interruption t)).known u && nat_le u m.stopped) more ≡ true)
          → list_all (λ u. is_task_open (noting m (interruption t)).known u && nat_le u m.stopped) (u ∷ more) ≡ true
      by true same b more_is none first rest = absurd (false≢true (sym none))
      by false other true more_is none first rest = absurd (false≢true (sym none))
      by false other false more_is none first rest =
          and_from (is_task_open (noting m (interruption t)).known u && nat_le u m.stopped) _
          ((λ i. (list_any (λ n. n == u) (numbers_to m.known.tasks)
          && not (is_some (if other i then ended (m.known.task t) else m.known.task u).end)) && nat_le u m.stopped) ∙ first)
          (rest more_is)

  -- they end one after the other
  pub ends_run : (m : Moment) (tasks : List ℕ) → MayAllEnd m tasks
      → IsRunFrom outside m (map moves.Note (interruptions tasks))
  ends_run m [] may = tt
  ends_run m (t ∷ more) may = (
    may_end m t more may,
    ends_run (noting m (interruption t)) more (record {
      running = may.running;
      quiet = may.quiet;
      waiting = still m t more (alone (list_any (eqb t) more) (and_parts _ (are_distinct eqb more) may.apart).0)
          (and_parts (is_task_open m.known t && nat_le t m.stopped) _ may.waiting).1;
      apart = (and_parts (not (list_any (eqb t) more)) (are_distinct eqb more) may.apart).1;
    }),
    tt,
  )
    where
      alone : (b : Bool) → not b ≡ true → b ≡ false
      alone false is = refl
      alone true is = absurd (false≢true is)

-- ---- the tasks that are open where nothing is under way

pub open_end : (outside : Outside) (m : Moment) → m.halted ≡ false → m.calls ≡ (λ n. None) → m.stopped ≡ m.known.tasks
    → IsRunFrom outside m (map moves.Note (interruptions (open_at m.known)))
open_end outside m running quiet stopped = ends_run outside m (open_at m.known) (record {
  running = running;
  quiet = quiet;
  waiting = all_left (is_open m.known) (λ t. is_task_open m.known t && nat_le t m.stopped) (numbers_to m.known.tasks)
      (every (λ t. not (is_open m.known t) || (is_task_open m.known t && nat_le t m.stopped)) m.known.tasks
      (λ t low high. by t low high (is_open m.known t) refl));
  apart = apart_left (is_open m.known) (numbers_to m.known.tasks)
      (ascending_apart number_order (numbers_to m.known.tasks) (numbers_rise m.known.tasks));
})
  where
    by : (t : ℕ) → 1 ≤ t → t ≤ m.known.tasks → (b : Bool) → is_open m.known t ≡ b
        → (not b || (is_task_open m.known t && nat_le t m.stopped)) ≡ true
    by t low high false is = refl
    by t low high true is =
        and_from (is_task_open m.known t) (nat_le t m.stopped)
        (and_from (list_any (λ n. n == t) (numbers_to m.known.tasks)) (is_open m.known t)
        (any_in (λ n. n == t) t (numbers_to m.known.tasks) (numbered_in t m.known.tasks low high) (eq-eqb t t refl)) is)
        (ap (nat_le t) stopped ∙ le-leb t m.known.tasks high)

-- ---- none is left

module _ (k : Known) where
  abbrev after : Known
  after = record k { task = tasks_after (open_at k) k.task }

  none_open : (t : ℕ) → nat_le 1 t ≡ true → nat_le t k.tasks ≡ true → is_open after t ≡ false
  none_open t low high =
      ap (λ end. not (is_some end)) (end_at (open_at k) k.task t) ∙ by (is_open k t) refl (is_among eqb t (open_at k)) refl
    where
      listed : is_among eqb t (numbers_to k.tasks) ≡ true
      listed = among_numbers k.tasks t ∙ and_from (nat_le 1 t) (nat_le t k.tasks) low high

      by : (b : Bool) → is_open k t ≡ b → (c : Bool) → is_among eqb t (open_at k) ≡ c
          → not (is_some (if c then Some ends.Interrupted else (k.task t).end)) ≡ false
      by b is true there = refl
      by false is false there = is
      by true is false there =
          absurd (false≢true (sym there ∙ among_left (is_open k) t (numbers_to k.tasks) is listed))

  none_goes_on : (t : ℕ) → is_going after t ≡ false
  none_goes_on t = by (nat_le 1 t) refl (nat_le t k.tasks) refl
    where
      by : (a : Bool) → nat_le 1 t ≡ a → (b : Bool) → nat_le t k.tasks ≡ b → (a && (b && is_open after t)) ≡ false
      by true low true high = none_open t low high
      by true low false high = refl
      by false low b high = refl

pub none_going : (m : Moment) (t : ℕ)
    → is_going (fold later m (map moves.Note (interruptions (open_at m.known)))).known t ≡ false
none_going m t = (λ i. is_going (moment_ended m (open_at m.known) i).known t) ∙ none_goes_on m.known t

pub recovered_then : (m : Moment) → m.stopped ≡ m.known.tasks
    → is_recovering (fold later m (map moves.Note (interruptions (open_at m.known)))) ≡ false
recovered_then m stopped =
    (λ i. is_recovering (moment_ended m (open_at m.known) i))
    ∙ (λ i. list_any (is_open (after m.known)) (numbers_to (stopped i)))
    ∙ none_of (is_open (after m.known)) m.known.tasks
    (λ t low high. none_open m.known t (le-leb 1 t low) (le-leb t m.known.tasks high))
