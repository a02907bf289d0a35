-- The addresses of the one instance that a task changes are of no recorded row that is not of its goal.
use Rattle.std.proofs.Common.{◌≡◌, ℕ, Bool, true, false, ◌&&◌, Option, Some, None, List, [], ◌∷◌, refl, ap, sym, ◌∙◌, inl, inr, arith}
use Rattle.std.specs.Prelude.{◌⊎◌, eqb, not, ◌||◌, is_some, if◌then◌else◌}
use Rattle.std.specs.Cmp.Lexicographic.{pointwise}
use Rattle.std.specs.List.{list_any, list_all}
use Rattle.std.proofs.lemmas.Bool.Decides.{eqb_tells}
use Rattle.bosh_base.specs.declared.entry.Entry.{Entry}
use Rattle.bosh_base.specs.declared.entry.Entry.TheVariants as entries
use Rattle.bosh_base.specs.declared.entry.TaskOpen.{TaskOpen}
use Rattle.bosh_base.specs.declared.goal.Goal.{Goal}
use Rattle.bosh_base.specs.declared.goal.GoalRow.{GoalRow}
use Rattle.bosh_base.specs.declared.inst.Inst.{Inst}
use Rattle.bosh_base.specs.declared.moves.Move.{Move}
use Rattle.bosh_base.specs.declared.moves.Move.TheVariants as moves
use Rattle.bosh_base.specs.declared.task.TaskKind.{TaskKind}
use Rattle.bosh_base.specs.declared.task.TaskKind.TheVariants as kinds
use Rattle.laws_facts.proofs.GoalLemmas.{sound_of}
use Rattle.laws_facts.proofs.ListLemmas.{Tells}
use Rattle.laws_facts.proofs.WorkLemmas.{opens_next}
use Rattle.laws_facts.specs.Addresses.{Recorded, Wanted, holds_address}
use Rattle.laws_facts.specs.KnownFacts.{KnownFacts}
use Rattle.laws_facts.specs.Owners.{works}
use Rattle.laws_facts.specs.Tasks.{has_its_addresses, is_addressed}
use Rattle.laws_row_facts.specs.Words.{where_any}
use Rattle.bosh_history.specs.Goals.{is_in, named_instance}
use Rattle.bosh_history.specs.Known.{Known, want_in}
use Rattle.bosh_history.specs.Learn.{learn}
use Rattle.bosh_history.specs.Moments.{Moment, later, noting}
use Rattle.bosh_history.specs.Notes.{MayNote, Outside}
use Rattle.bosh_history.specs.Openings.{MayOpen}
use Rattle.bosh_history.specs.Permitted.{IsPermitted}
use Rattle.bosh_history.specs.Recovered.{may_follow}
use Rattle.bosh_history.specs.Sound.{IsSound, addrs, are_rows_kept, same_offer, same_plan, has_addr, has_no_address, is_of_kind, is_renewed}
use Rattle.bosh_history.specs.Tasks.{task_opened}
use Rattle.bosh_rows.proofs.SameLemmas.{same_inst_tells}
use Rattle.bosh_rows.specs.Disks.{is_detached}
use Rattle.bosh_rows.specs.Same.{same_inst, same_tie}
use Rattle.laws_addresses.proofs.AddressLemmas.{none_works}
use Rattle.laws_addresses.proofs.BeginLemmas.{begun_comes}
use Rattle.laws_addresses.proofs.EndLemmas.{ended_comes}
use Rattle.laws_addresses.proofs.FactLemmas.{Comes, ComesFrom, TakesRow}
use Rattle.laws_addresses.proofs.FreeLemmas.{any_of, row_recorded}
use Rattle.laws_addresses.proofs.ItemLemmas.{all_of}
use Rattle.laws_addresses.proofs.ListLemmas.{has}
use Rattle.laws_addresses.proofs.ShapeLemmas.{shape, shape_note}
use Rattle.laws_addresses.proofs.SoundLemmas.{sound_has}
use Rattle.laws_addresses.proofs.WorkLemmas.{less_work}
use Rattle.laws_addresses.proofs.WorkingLemmas.{IsRow, Wants, found_row, wants_of}
use Rattle.laws_addresses.specs.Kept.{AreAddressed}

-- ---- lists

all_from : {A : Type 0} (p : A → Bool) (items : List A) → ((x : A) → p x ≡ true) → list_all p items ≡ true
all_from p [] each = refl
all_from p (x ∷ items) each = grind (arith, each x, all_from p items each)

any_none : (p : ℕ → Bool) (items : List ℕ) → ((a : ℕ) → has a items ≡ true → p a ≡ false)
    → list_any p items ≡ false
any_none p [] none = refl
any_none p (b ∷ items) none =
    grind (
      arith,
      none b (grind (arith, eqb_tells b b)),
      any_none p items (λ a there. none a (grind (arith, there))),
    )

-- ---- no move gives the addresses away

-- a recorded row that is not of the goal has none of them still
row_free : (m new : Moment) (t : ℕ) (i j : Inst) (goal : Goal) (want : GoalRow) (a : ℕ) → KnownFacts m
    → Wants m t i want → (m.known.task t).goal ≡ Some goal → Comes m new → has_no_address m.known goal want ≡ true
    → has a (addrs want.make) ≡ true → is_in (Some goal) j ≡ false → holds_address new (Recorded j) a ≡ true
    → false ≡ true
row_free m new t i j goal want a h it own comes free there out here = by (comes.rows j)
  where
    same : it.goal ≡ goal
    same = grind (arith, it.has, own)

    wanted : holds_address m (Wanted i) a ≡ true
    wanted = grind (arith, it.current, it.wanted, there)

    by : ComesFrom m new (Recorded j) (Recorded j) ⊎ TakesRow m new j → false ≡ true
    by (inl kept) =
        grind (
          arith,
          all_of same_inst same_inst_tells _ j m.known.instances free (row_recorded m j a h (kept.held a here)),
          out,
          any_of (λ a. has_addr a (m.known.row j).make) a (addrs want.make) there (kept.held a here),
        )
    by (inr takes) = of (same_inst_tells j i)
      where
        one : same_inst j i ≡ true
        one = h.addresses.one_wanted a (Wanted j) (Wanted i) (takes.comes.held a here) wanted

        of : Tells same_inst j i → false ≡ true
        of (inl equal) =
            sym ((λ l. is_in (Some goal) (sym equal.1 l)) ∙ out)
            ∙ (λ l. is_in (Some (sym same l)) i) ∙ ap is_some it.wanted
        of (inr apart) = sym apart.0 ∙ one

free_now : (m new : Moment) (t : ℕ) (i : Inst) (goal : Goal) (want : GoalRow) → KnownFacts m
    → Wants m t i want → (m.known.task t).goal ≡ Some goal → Comes m new → has_no_address m.known goal want ≡ true
    → has_no_address new.known goal want ≡ true
free_now m new t i goal want h it own comes free =
    all_from _ new.known.instances (λ j. each j (is_in (Some goal) j) refl)
  where
    each : (j : Inst) (b : Bool) → is_in (Some goal) j ≡ b
        → (is_in (Some goal) j || not (list_any (λ a. has_addr a (new.known.row j).make) (addrs want.make))) ≡ true
    each j true is = grind (arith, is)
    each j false is =
        grind (
          arith,
          any_none (λ a. has_addr a (new.known.row j).make) (addrs want.make) (λ a there. none a there),
        )
      where
        none : (a : ℕ) → has a (addrs want.make) ≡ true → has_addr a (new.known.row j).make ≡ false
        none a there = of (has_addr a (new.known.row j).make) refl
          where
            of : (c : Bool) → has_addr a (new.known.row j).make ≡ c → has_addr a (new.known.row j).make ≡ false
            of true here = absurd (grind
                (arith, row_free m new t i j goal want a h it own comes free there is here))
            of false here = here

addressed_in : (m new : Moment) (t : ℕ) (i : Inst) → KnownFacts m → works m t ≡ true → Comes m new
    → has_its_addresses m.known (m.known.task t) i ≡ true → has_its_addresses new.known (m.known.task t) i ≡ true
addressed_in m new t i h working comes is = by (m.known.task t).goal refl
  where
    by : (goal : Option Goal) → (m.known.task t).goal ≡ goal → has_its_addresses new.known (m.known.task t) i ≡ true
    by None own = (λ l. has_its_addresses new.known (record (m.known.task t) { goal = own l }) i)
    by (Some goal) own =
        (λ l. has_its_addresses new.known (record (m.known.task t) { goal = own l }) i)
        ∙ of (want_in (Some goal) i) refl
        (sym (λ l. has_its_addresses m.known (record (m.known.task t) { goal = own l }) i) ∙ is)
      where
        of : (row : Option GoalRow) → want_in (Some goal) i ≡ row
            → where_any (λ want. is_detached want.state || has_no_address m.known goal want) (want_in (Some goal) i)
            ≡ true
            → where_any (λ want. is_detached want.state || has_no_address new.known goal want) (want_in (Some goal) i)
            ≡ true
        of None wanted was =
            (λ l. where_any (λ want. is_detached want.state || has_no_address new.known goal want) (wanted l))
        of (Some row) wanted was =
            (λ l. where_any (λ want. is_detached want.state || has_no_address new.known goal want) (wanted l))
            ∙ choose (is_detached row.state) (has_no_address m.known goal row) refl
            (sym (λ l. where_any (λ want. is_detached want.state || has_no_address m.known goal want) (wanted l)) ∙ was)
          where
            it : Wants m t i row
            it = wants_of m t i row h working ((λ l. want_in (own l) i) ∙ wanted)

            choose : (detached free : Bool) → has_no_address m.known goal row ≡ free → (detached || free) ≡ true
                → (detached || has_no_address new.known goal row) ≡ true
            choose true free is any = refl
            choose false true is any = free_now m new t i goal row h it own comes is
            choose false false is any = absurd cc

addressed_now : (m new : Moment) (t : ℕ) → KnownFacts m → works m t ≡ true → Comes m new
    → shape (new.known.task t) ≡ shape (m.known.task t) → is_addressed new.known (new.known.task t) ≡ true
addressed_now m new t h working comes same =
    (λ l. is_addressed new.known (same l)) ∙ by (named_instance (m.known.task t).kind) refl
    (((h.tasks t).working working).is_addressed)
  where
    by : (named : Option Inst) → named_instance (m.known.task t).kind ≡ named
        → where_any (has_its_addresses m.known (m.known.task t)) (named_instance (m.known.task t).kind) ≡ true
        → where_any (has_its_addresses new.known (m.known.task t)) (named_instance (m.known.task t).kind) ≡ true
    by None is was = (λ l. where_any (has_its_addresses new.known (m.known.task t)) (is l))
    by (Some i) is was =
        (λ l. where_any (has_its_addresses new.known (m.known.task t)) (is l))
        ∙ addressed_in m new t i h working comes
        (sym (λ l. where_any (has_its_addresses m.known (m.known.task t)) (is l)) ∙ was)

-- ---- a task opens

last_of : (a b c d e f : Bool) → (a && (b && (c && (d && (e && f))))) ≡ true → f ≡ true
last_of true true true true true f is = is
last_of true true true true false f is = absurd cc
last_of true true true false e f is = absurd cc
last_of true true false d e f is = absurd cc
last_of true false c d e f is = absurd cc
last_of false b c d e f is = absurd cc

abbrev pub is_free_for : Known → Goal → Inst → GoalRow → Bool
is_free_for k goal i want = not (same_inst want.inst i) || (is_detached want.state || has_no_address k goal want)

-- the addresses of the one instance are free where a task opens on it
renewed_free : (k : Known) (goal : Goal) (i : Inst) (current : Option Goal) → is_renewed k goal i current ≡ true
    → list_all (is_free_for k goal i) goal.rows ≡ true
renewed_free k goal i (Some current) is =
    last_of (is_in (Some current) i) (are_rows_kept i goal.rows current.rows)
    (pointwise same_plan goal.groups current.groups) (pointwise same_tie goal.ties current.ties)
    (pointwise same_offer goal.offers current.offers) (list_all (is_free_for k goal i) goal.rows) is
renewed_free k goal i None is = absurd cc

addressed_one : (k : Known) (o : TaskOpen) (goal : Goal) (i : Inst) → o.goal ≡ Some goal
    → is_renewed k goal i (k.goal goal.dep) ≡ true → has_its_addresses k (task_opened k o) i ≡ true
addressed_one k o goal i own is =
    (λ l. has_its_addresses k (record (task_opened k o) { goal = own l }) i) ∙ by (want_in (Some goal) i) refl
  where
    by : (row : Option GoalRow) → want_in (Some goal) i ≡ row
        → where_any (λ want. is_detached want.state || has_no_address k goal want) (want_in (Some goal) i) ≡ true
    by None wanted = (λ l. where_any (λ want. is_detached want.state || has_no_address k goal want) (wanted l))
    by (Some row) wanted =
        let it : IsRow (is_free_for k goal i) i row =
        found_row (is_free_for k goal i) i goal.rows row (renewed_free k goal i (k.goal goal.dep) is) wanted in
        (λ l. where_any (λ want. is_detached want.state || has_no_address k goal want) (wanted l))
        ∙ grind (arith, it.meets, it.inst, same_inst_tells row.inst i)

addressed_by : (k : Known) (o : TaskOpen) (goal : Goal) (kind : TaskKind) → o.kind ≡ kind → o.goal ≡ Some goal
    → is_of_kind k kind goal ≡ true → is_addressed k (task_opened k o) ≡ true
addressed_by k o goal (kinds.Recreate i) is own of_kind =
    (λ l. where_any (has_its_addresses k (task_opened k o)) (named_instance (is l)))
    ∙ addressed_one k o goal i own of_kind
addressed_by k o goal (kinds.Start i) is own of_kind =
    (λ l. where_any (has_its_addresses k (task_opened k o)) (named_instance (is l)))
    ∙ addressed_one k o goal i own of_kind
addressed_by k o goal (kinds.Stop i) is own of_kind =
    (λ l. where_any (has_its_addresses k (task_opened k o)) (named_instance (is l)))
    ∙ addressed_one k o goal i own of_kind
addressed_by k o goal (kinds.Resolve i) is own of_kind =
    (λ l. where_any (has_its_addresses k (task_opened k o)) (named_instance (is l)))
    ∙ addressed_one k o goal i own of_kind
addressed_by k o goal kind is own of_kind =
    (λ l. where_any (has_its_addresses k (task_opened k o)) (named_instance (is l)))

-- a task without a goal has no addresses to ask for
addressed_none : (k : Known) (o : TaskOpen) → o.goal ≡ None → is_addressed k (task_opened k o) ≡ true
addressed_none k o none = by (named_instance o.kind)
  where
    by : (named : Option Inst) → where_any (has_its_addresses k (task_opened k o)) named ≡ true
    by (Some i) = (λ l. has_its_addresses k (record (task_opened k o) { goal = none l }) i)
    by None = refl

addressed_new : (k : Known) (o : TaskOpen) → IsSound k o → is_addressed k (task_opened k o) ≡ true
addressed_new k o sound = by o.goal refl
  where
    by : (goal : Option Goal) → o.goal ≡ goal → is_addressed k (task_opened k o) ≡ true
    by (Some goal) own =
        addressed_by k o goal o.kind refl own (sound_has k o.kind goal (sound_of k o goal own sound)).1
    by None own = addressed_none k o own

addressed_opened : (m : Moment) (o : TaskOpen) (t : ℕ) → KnownFacts m → MayOpen m.known o → IsSound m.known o
    → works (noting m (entries.TaskOpen o)) t ≡ true
    → is_addressed (learn m.known (entries.TaskOpen o)) ((learn m.known (entries.TaskOpen o)).task t) ≡ true
addressed_opened m o t h may sound working = by (eqb_tells o.task t)
  where
    by : Tells eqb o.task t
        → is_addressed (learn m.known (entries.TaskOpen o)) ((learn m.known (entries.TaskOpen o)).task t) ≡ true
    by (inl same) =
        (λ l. is_addressed m.known (if same.0 l then task_opened m.known o else m.known.task t))
        ∙ addressed_new m.known o sound
    by (inr apart) =
        (λ l. is_addressed m.known (if apart.0 l then task_opened m.known o else m.known.task t))
        ∙ ((h.tasks t).working
        (grind (arith, apart, working, opens_next m.known o may, eqb_tells o.task t))).is_addressed

-- ---- moves

addressed_note : (outside : Outside) (m : Moment) (e : Entry) → KnownFacts m
    → may_follow m e ≡ true → MayNote outside m e → AreAddressed (noting m e)
addressed_note outside m (entries.TaskOpen o) h follows may t working =
    addressed_opened m o t h may.0 may.1 working
addressed_note outside m (entries.Begin b) h follows may t working =
    addressed_now m (noting m (entries.Begin b)) t h
    ((less_work outside m (entries.Begin b) may refl).works t working) (begun_comes outside m b h follows may)
    (shape_note outside m (entries.Begin b) may refl t)
addressed_note outside m (entries.Snapshot s) h follows may t working = absurd may
addressed_note outside m entry h follows may t working =
    addressed_now m (noting m entry) t h ((less_work outside m entry may refl).works t working)
    (ended_comes outside m entry may refl refl) (shape_note outside m entry may refl t)

pub addressed_kept : (outside : Outside) (m : Moment) (move : Move) → IsPermitted outside m move → KnownFacts m
    → AreAddressed (later m move)
addressed_kept outside m (moves.Note e) may h t working =
    addressed_note outside m e h may.1 may.2 t working
addressed_kept outside m (moves.Stop s) may h t working = absurd (none_works m s t working)
addressed_kept outside m (moves.Did d) may h t working = ((h.tasks t).working working).is_addressed
addressed_kept outside m (moves.Wrote w) may h t working = ((h.tasks t).working working).is_addressed
addressed_kept outside m (moves.Halt cause) may h t working = ((h.tasks t).working working).is_addressed
addressed_kept outside m (moves.Lost loss) may h t working = ((h.tasks t).working working).is_addressed
addressed_kept outside m (moves.Said said) may h t working = ((h.tasks t).working working).is_addressed
