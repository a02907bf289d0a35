-- What is told of tasks that have not ended goes on to be of their deployments, after each entry that is permitted.
use Rattle.std.proofs.Common.{◌≡◌, ◌∙◌, ◌<◌, ◌≤◌, ℕ, Bool, true, false, ◌&&◌, Option, Some, None, ap, arith, refl, subst, sym}
use Rattle.std.specs.Prelude.{eqb, is_some, nat_le, nat_lt, if◌then◌else◌, ◌==◌}
use Rattle.std.proofs.lemmas.Bool.{and_from, and_parts, eqb-true, false≢true, leb-true, ltb-true, true≢false}
use Rattle.std.proofs.lemmas.Bool.Decides.{nat_tests}
use Rattle.bosh_base.specs.Cloud.{numbers_to}
use Rattle.bosh_base.specs.declared.entry.Begin.{Begin}
use Rattle.bosh_base.specs.declared.entry.Entry.TheVariants as entries
use Rattle.bosh_base.specs.declared.entry.TaskError.{TaskError}
use Rattle.bosh_base.specs.declared.owner.Owner.{Owner}
use Rattle.bosh_base.specs.declared.owner.Owner.TheVariants.{Compile, Disk, Instance}
use Rattle.bosh_base.specs.declared.task.TaskEnd.{TaskEnd}
use Rattle.bosh_history.specs.Calls as history
use Rattle.bosh_history.specs.Held.{is_open}
use Rattle.bosh_history.specs.Items.{is_item}
use Rattle.bosh_history.specs.Known.{Known, Slot, Task}
use Rattle.bosh_history.specs.Moments.{Moment, OpenCall}
use Rattle.bosh_history.specs.Recovered.{is_recovering}
use Rattle.bosh_history.specs.Tasks.{end_by}
use Rattle.bosh_history.specs.Words.{holds, is_among}
use Rattle.bosh_rows.specs.Same.{same_inst}
use Rattle.laws_claims.proofs.FactLemmas.{calls_own}
use Rattle.laws_claims.proofs.OwnLemmas.{dep_of_instance}
use Rattle.laws_facts.specs.CallFacts.{CallFacts}
use Rattle.laws_facts.specs.KnownFacts.{KnownFacts}
use Rattle.laws_facts.specs.OpenCalls.{fits_known, fits_slot}
use Rattle.laws_facts.specs.Owners.{works}
use Rattle.laws_items.proofs.ListLemmas.{any_in}
use Rattle.laws_items.proofs.ListedLemmas.{NamesItsOwn, names_its_own, numbered_in}
use Rattle.laws_items.proofs.PhaseLemmas.{IsLeft, of_item}
use Rattle.laws_stands.specs.Agrees.{Agrees}
use Rattle.laws_stands.specs.Told.{TellsWell, Told, is_going, of_others, telling}
use Rattle.laws_stands_fits.specs.Own.{IsOwn, ListsOwn, TellsOwn}
use Rattle.laws_stands_machines.proofs.FactLemmas.{item_dep}

-- ---- where no task is left that a stop interrupted

module _ (m : Moment) (recovered : is_recovering m ≡ false) where
  -- the open tasks work
  pub since_the_stop : (t : ℕ) → is_going m.known t ≡ true → nat_lt m.stopped t ≡ true
  since_the_stop t going =
      let (low, rest) = and_parts (nat_le 1 t) (nat_le t m.known.tasks && is_open m.known t) going in
      by (nat_lt m.stopped t) refl low (and_parts (nat_le t m.known.tasks) (is_open m.known t) rest).1
    where
      not_after : nat_lt m.stopped t ≡ false → t ≤ m.stopped
      not_after is = grind (arith, nat_tests)

      by : (b : Bool) → nat_lt m.stopped t ≡ b → nat_le 1 t ≡ true → is_open m.known t ≡ true → b ≡ true
      by true since low open_ = refl
      by false before low open_ =
          absurd (true≢false
          (sym (any_in (is_open m.known) t (numbers_to m.stopped)
          (numbered_in t m.stopped (leb-true 1 t low) (not_after before)) open_) ∙ recovered))

  pub going_works : (t : ℕ) → is_going m.known t ≡ true → works m t ≡ true
  going_works t going =
      let (low, rest) = and_parts (nat_le 1 t) (nat_le t m.known.tasks && is_open m.known t) going in
      and_from (nat_lt m.stopped t) (nat_le t m.known.tasks && is_open m.known t) (since_the_stop t going) rest

-- ---- where the open tasks work, each lists its own, and so are the owners of its calls

module _ (m : Moment) (told : Told) (facts : KnownFacts m) (agrees : Agrees m told) (tells : TellsWell told)
    (work : (t : ℕ) → is_going m.known t ≡ true → works m t ≡ true) where
  went : (t : ℕ) → is_going told.known t ≡ true → works m t ≡ true
  went t going = work t (ap (λ k. is_going k t) (sym agrees.known_is) ∙ going)

  pub lists_own : (t : ℕ) → is_going told.known t ≡ true → ListsOwn (told.known.task t)
  lists_own t going = subst (λ (k : Known). ListsOwn (k.task t)) (sym agrees.known_is) (record {
    asked = own.asked;
    leaving = own.leaving;
    changing = own.changing;
    deleting = own.deleting;
  })
    where
      own : NamesItsOwn (m.known.task t)
      own = names_its_own m t facts (went t going)

  -- the owner of an open call
  open_own : (n : ℕ) (call : OpenCall) → m.calls n ≡ Some call
      → IsOwn m.known (m.known.task call.begin.task).dep call.begin.owner
  open_own n call is = by call.begin.owner refl
    where
      its : CallFacts m n call
      its = facts.calls n call is

      item : is_item m.known call.begin.task call.begin.owner ≡ true
      item = (and_parts (is_item m.known call.begin.task call.begin.owner) _ its.of_item).0

      listed_disk : (x y : Bool) (p : ℕ) → (if x && y then Some 0 else None) ≡ Some p → x ≡ true
      listed_disk true y p is = refl
      listed_disk false y p is = absurd cc

      machine : (t s : ℕ) → call.begin.owner ≡ Compile t s → (o : Option Slot) → m.known.slot t s ≡ o
          → IsOwn m.known (m.known.task call.begin.task).dep (Compile t s)
      machine t s own (Some row) there =
          (row, there, item_dep m facts call.begin.task t s row there (ap (is_item m.known call.begin.task) (sym own) ∙ item))
      machine t s own None there =
          absurd (false≢true
          (sym (ap (holds (fits_slot call.begin.n call.begin.call)) there)
          ∙ ap (fits_known m.known call.begin) (sym own) ∙ its.fits))

      by : (owner : Owner) → call.begin.owner ≡ owner → IsOwn m.known (m.known.task call.begin.task).dep owner
      by (Instance i) own =
          let left : (p : ℕ) × IsLeft m.known call.begin.task (Instance i) p =
          of_item m.known call.begin.task (Instance i) (ap (is_item m.known call.begin.task) (sym own) ∙ item) in
          dep_of_instance m (calls_own m facts) call.begin.task left.0 i its.works left.1.phase
      by (Compile t s) own = machine t s own (m.known.slot t s) refl
      by (Disk d) own =
          let left : (p : ℕ) × IsLeft m.known call.begin.task (Disk d) p =
          of_item m.known call.begin.task (Disk d) (ap (is_item m.known call.begin.task) (sym own) ∙ item) in
          (names_its_own m call.begin.task facts its.works).deleting d
          (listed_disk (is_among eqb d (m.known.task call.begin.task).disks) (is_some (m.known.orphan d)) left.0
          left.1.phase)

  -- what is told as open is open
  pub calls_of_own : (n : ℕ) (b : Begin) → told.calls n ≡ Some b
      → IsOwn told.known (told.known.task b.task).dep b.owner
  calls_of_own n b is = by (m.calls n) refl
    where
      before : b.task ≤ m.stopped → ⊥
      before low =
          let later : m.stopped < b.task = ltb-true m.stopped b.task
          (and_parts (nat_lt m.stopped b.task) _ (went b.task (tells.going n b is))).0 in omega arith

      by : (o : Option OpenCall) → m.calls n ≡ o → IsOwn told.known (told.known.task b.task).dep b.owner
      by None none = absurd (before (agrees.left n b is none))
      by (Some call) there =
          let e : Some b ≡ Some call.begin = sym is ∙ agrees.live n call there in
          let same : b ≡ call.begin = cc in
          subst (λ (b : Begin). IsOwn told.known (told.known.task b.task).dep b.owner) (sym same)
          (subst (λ (k : Known). IsOwn k (k.task call.begin.task).dep call.begin.owner) (sym agrees.known_is)
          (open_own n call there))

-- ---- an interrupted task ends: the others are as they were

module _ (m : Moment) (told : Told) (e : TaskError) (own : TellsOwn told) where
  abbrev ended : Told
  ended = telling told (entries.TaskError e)

  -- a task lists what it listed
  same_task : {X : Type 0} (read : Task → X)
      → ((end : Option TaskEnd) → read (record (told.known.task e.task) { end = end }) ≡ read (told.known.task e.task))
      → (t : ℕ) → read (ended.known.task t) ≡ read (told.known.task t)
  same_task read same t = by (eqb e.task t) refl
    where
      by : (b : Bool) → eqb e.task t ≡ b
          → read (if b then record (told.known.task e.task) {
            end = Some (end_by e.cause (told.known.begun (history.number_of e.cause)));
          } else told.known.task t)
          ≡ read (told.known.task t)
      by true is = same (Some (end_by e.cause (told.known.begun (history.number_of e.cause))))
          ∙ ap (λ t. read (told.known.task t)) (eqb-true e.task t is)
      by false is = refl

  still_own : (owner : Owner) (t : ℕ) → IsOwn told.known (told.known.task t).dep owner
      → IsOwn ended.known (ended.known.task t).dep owner
  still_own (Instance i) t is = same_task (λ it. it.dep) (λ end. refl) t ∙ is
  still_own (Compile u s) t (row, there, dep) = (row, there, same_task (λ it. it.dep) (λ end. refl) t ∙ dep)
  still_own (Disk d) t is = same_task (λ it. it.dep) (λ end. refl) t ∙ is

  was_called : (n : ℕ) (b : Begin) → ended.calls n ≡ Some b → told.calls n ≡ Some b
  was_called n b is = by (told.calls n) is
    where
      by : (o : Option Begin) → of_others e.task o ≡ Some b → o ≡ Some b
      by None is = absurd cc
      by (Some c) is = of (c.task == e.task) is
        where
          of : (d : Bool) → (if d then None else Some c) ≡ Some b → Some c ≡ Some b
          of true is = absurd cc
          of false is = is

  pub own_ended : ((t : ℕ) → is_going ended.known t ≡ true → is_going told.known t ≡ true) → TellsOwn ended
  own_ended went_on = record {
    lists = λ t going. let was : ListsOwn (told.known.task t) = own.lists t (went_on t going) in record {
      asked = λ i is. same_task (λ it. it.dep) (λ end. refl) t
          ∙ was.asked i (sym (same_task (λ it. is_among same_inst i it.to_ping) (λ end. refl) t) ∙ is);
      leaving = λ i is. same_task (λ it. it.dep) (λ end. refl) t
          ∙ was.leaving i (sym (same_task (λ it. is_among same_inst i it.obsolete) (λ end. refl) t) ∙ is);
      changing = λ i is. same_task (λ it. it.dep) (λ end. refl) t
          ∙ was.changing i (sym (same_task (λ it. is_among same_inst i it.changed) (λ end. refl) t) ∙ is);
      deleting = λ d is. same_task (λ it. it.dep) (λ end. refl) t
          ∙ was.deleting d (sym (same_task (λ it. is_among eqb d it.disks) (λ end. refl) t) ∙ is);
    };
    calls = λ n b is. still_own b.owner b.task (own.calls n b (was_called n b is));
    few = own.few;
    unshared = own.unshared;
  }
