-- A recorded row of the deployment of a task that works is of its goal, or is to go.
use Rattle.std.proofs.Common.{◌≡◌, ℕ, Bool, true, false, ◌&&◌, Option, Some, None, List, [], ◌∷◌, refl, ap, sym, ◌∙◌, inl, inr, arith}
use Rattle.std.specs.Prelude.{eqb, filter, not, ◌||◌, is_some, if◌then◌else◌}
use Rattle.std.specs.Option.{option_eq}
use Rattle.std.specs.Str.{bytes_eq}
use Rattle.std.proofs.lemmas.Bool.Decides.{eqb_tells}
use Rattle.bosh_base.specs.Inst.{inst_cmp}
use Rattle.bosh_base.specs.declared.entry.Begin.{Begin}
use Rattle.bosh_base.specs.declared.entry.Entry.{Entry}
use Rattle.bosh_base.specs.declared.entry.Entry.TheVariants as entries
use Rattle.bosh_base.specs.declared.entry.TaskOpen.{TaskOpen}
use Rattle.bosh_base.specs.declared.goal.Goal.{Goal}
use Rattle.bosh_base.specs.declared.inst.Inst.{Inst}
use Rattle.bosh_base.specs.declared.make.Make.{Make}
use Rattle.bosh_base.specs.declared.moves.Move.{Move}
use Rattle.bosh_base.specs.declared.moves.Move.TheVariants as moves
use Rattle.bosh_base.specs.declared.owner.Owner.{Owner}
use Rattle.bosh_base.specs.declared.owner.Owner.TheVariants.{Instance, Compile, Disk}
use Rattle.bosh_base.specs.declared.task.TaskKind.{TaskKind}
use Rattle.bosh_base.specs.declared.task.TaskKind.TheVariants as kinds
use Rattle.laws_facts.proofs.BareLemmas.{BareCall, bare_call, creates, no_call}
use Rattle.laws_facts.proofs.InstanceLemmas.{inst_equal, inst_total}
use Rattle.laws_facts.proofs.ListLemmas.{Tells, bytes_tells}
use Rattle.laws_facts.proofs.OrderLemmas.{among_inserted}
use Rattle.laws_facts.proofs.WorkLemmas.{begun_works, opens_next}
use Rattle.laws_facts.specs.KnownFacts.{KnownFacts}
use Rattle.laws_facts.specs.Owners.{works}
use Rattle.laws_facts.specs.Tasks.{has_place, is_recorded}
use Rattle.bosh_history.specs.Calls.{begins, task_with_call}
use Rattle.bosh_history.specs.Goals.{is_in, out_of_goal, to_delete}
use Rattle.bosh_history.specs.Items.{is_item}
use Rattle.bosh_history.specs.Known.{Known}
use Rattle.bosh_history.specs.Learn.{learn}
use Rattle.bosh_history.specs.Moments.{Moment, later, noting}
use Rattle.bosh_history.specs.Notes.{Begins, MayNote, Outside}
use Rattle.bosh_history.specs.Openings.{OpensBy, OpensDisks, OpensFor}
use Rattle.bosh_history.specs.Openings.{MayOpen}
use Rattle.bosh_history.specs.Permitted.{IsPermitted}
use Rattle.bosh_history.specs.Recovered.{may_follow}
use Rattle.bosh_history.specs.Steps.{call_now, instance_call}
use Rattle.bosh_history.specs.Tasks.{task_opened}
use Rattle.bosh_history.specs.Words.{is_among}
use Rattle.bosh_rows.proofs.SameLemmas.{same_inst_tells}
use Rattle.bosh_rows.specs.After.{bare}
use Rattle.bosh_rows.specs.Same.{same_inst}
use Rattle.laws_addresses.proofs.AddressLemmas.{none_works}
use Rattle.laws_addresses.proofs.ItemLemmas.{MakesFor, makes_for}
use Rattle.laws_addresses.proofs.RecordedLemmas.{gone_note, recorded_note}
use Rattle.laws_addresses.proofs.ShapeLemmas.{kept_at, shape, shape_note}
use Rattle.laws_addresses.proofs.WorkLemmas.{LessWork, less_work}
use Rattle.laws_addresses.proofs.WorkingLemmas.{Wants, wants_of}
use Rattle.laws_addresses.specs.Kept.{HavePlaces}

-- ---- a task with the same lists, and no more recorded

place_as : (old new : Known) (t : ℕ) (i : Inst) → shape (new.task t) ≡ shape (old.task t)
    → (is_recorded new i ≡ true → is_recorded old i ≡ true)
    → (is_recorded new i ≡ true → (new.task t).gone i ≡ (old.task t).gone i)
    → has_place old (old.task t) i ≡ true → has_place new (new.task t) i ≡ true
place_as old new t i same recorded gone is = by (is_recorded new i) refl
  where
    by : (b : Bool) → is_recorded new i ≡ b → has_place new (new.task t) i ≡ true
    by true there =
        (λ l. has_place new (record (same l) { gone = λ j. gone there l }) i)
        ∙ grind (arith, is, there, recorded there)
    by false none = grind (arith, none)

-- ---- a call begins

-- the first call of an instance makes its machine, as the goal of its task wants it
first_call : (m : Moment) (b : Begin) (i : Inst) → KnownFacts m → Begins m b → b.owner ≡ Instance i
    → is_recorded m.known i ≡ false → (make : Make) × MakesFor m.known b.task i make
first_call m b i h may is none = by (bare_call (m.known.task b.task) i)
  where
    now : instance_call m.known (m.known.task b.task) i ≡ Some b.call
    now = sym (λ l. call_now m b.task (is l)) ∙ may.is_call

    bare_now : instance_call (record m.known { row = λ j. bare i }) (m.known.task b.task) i ≡ Some b.call
    bare_now =
        sym (λ l. instance_call (record m.known { row = λ j. h.lists.bare i none l }) (m.known.task b.task) i) ∙ now

    by : BareCall (instance_call (record m.known { row = λ j. bare i }) (m.known.task b.task) i)
        → (make : Make) × MakesFor m.known b.task i make
    by (no_call same) = absurd (grind (arith, sym same ∙ bare_now))
    by (creates make same) = (
      make,
      makes_for m.known b.task i make [] (now ∙ sym bare_now ∙ same)
          (sym (λ l. is_item m.known b.task (is l)) ∙ may.is_item),
    )

place_begun : (m : Moment) (b : Begin) (t : ℕ) (i : Inst) → KnownFacts m → works m b.task ≡ true → works m t ≡ true
    → Begins m b → (owner : Owner) → b.owner ≡ owner
    → has_place (learn m.known (entries.Begin b)) (m.known.task t) i ≡ true
place_begun m b t i h working also may (Instance j) is = by (is_recorded m.known i) refl (same_inst_tells i j)
  where
    among : is_recorded (learn m.known (entries.Begin b)) i ≡ (is_recorded m.known i || same_inst i j)
    among = (λ l. is_among same_inst i (begins b (is l) m.known).instances)
        ∙ among_inserted inst_cmp inst_total same_inst same_inst_tells inst_equal i j m.known.instances
        ∙ grind (arith)

    by : (b' : Bool) → is_recorded m.known i ≡ b' → Tells same_inst i j
        → has_place (learn m.known (entries.Begin b)) (m.known.task t) i ≡ true
    by true there tells =
        grind (arith, among, there, ((h.tasks t).working also).has_place i)
    by false none (inr apart) = grind (arith, among, none, apart)
    by false none (inl same) = of (first_call m b i h may (is ∙ ap Instance (sym same.1)) none)
      where
        of : (make : Make) × MakesFor m.known b.task i make
            → has_place (learn m.known (entries.Begin b)) (m.known.task t) i ≡ true
        of (make, makes) = here (m.known.task t).dep refl
          where
            it : Wants m b.task i makes.created.row
            it = wants_of m b.task i makes.created.row h working makes.created.wants

            here : (dep : Option (List ℕ)) → (m.known.task t).dep ≡ dep
                → has_place (learn m.known (entries.Begin b)) (m.known.task t) i ≡ true
            here (Some dep) has = tells (bytes_tells i.dep dep) (eqb_tells t b.task)
              where
                tells : Tells bytes_eq i.dep dep → Tells eqb t b.task
                    → has_place (learn m.known (entries.Begin b)) (m.known.task t) i ≡ true
                tells (inr apart) task = grind (arith, has, apart)
                tells (inl equal) (inl task) =
                    let wanted : is_in (m.known.task t).goal i ≡ true =
                    (λ l. is_in (m.known.task (task.1 l)).goal i) ∙ ap is_some makes.created.wants in
                    grind (arith, wanted)
                tells (inl equal) (inr other) =
                    absurd (grind (
                      arith,
                      (h.tasks t).another_lock b.task,
                      other,
                      also,
                      working,
                      has,
                      it.task_dep,
                      bytes_tells dep i.dep,
                      equal,
                    ))
            here None has = grind (arith, has)
place_begun m b t i h working also may (Compile task s) is =
    let same : is_recorded (learn m.known (entries.Begin b)) i ≡ is_recorded m.known i =
    (λ l. is_among same_inst i (begins b (is l) m.known).instances) in
    grind (arith, same, ((h.tasks t).working also).has_place i)
place_begun m b t i h working also may (Disk d) is =
    let same : is_recorded (learn m.known (entries.Begin b)) i ≡ is_recorded m.known i =
    (λ l. is_among same_inst i (begins b (is l) m.known).instances) in
    grind (arith, same, ((h.tasks t).working also).has_place i)

-- ---- a task opens

-- the recorded instances that the goal has not are to go
out_goes : (k : Known) (dep : List ℕ) (goal : Option Goal) (i : Inst) (items : List Inst)
    → is_among same_inst i items ≡ true → bytes_eq i.dep dep ≡ true → is_in goal i ≡ false
    → is_among same_inst i (filter (λ i. bytes_eq i.dep dep && not (is_in goal i)) items) ≡ true
out_goes k dep goal i [] there own out = absurd cc
out_goes k dep goal i (j ∷ items) there own out =
    grind (arith, there, own, out, same_inst_tells i j, out_goes k dep goal i items)

-- .. and none of them has gone
to_go_now : (k : Known) (o : TaskOpen) (dep : List ℕ) (i : Inst) → o.obsolete ≡ out_of_goal k dep o.goal
    → o.dep ≡ Some dep
    → has_place k (task_opened k o) i ≡ true
to_go_now k o dep i deletes own = by (is_recorded k i) refl (bytes_tells i.dep dep) (is_in o.goal i) refl
  where
    by : (b : Bool) → is_recorded k i ≡ b → Tells bytes_eq i.dep dep → (c : Bool) → is_in o.goal i ≡ c
        → has_place k (task_opened k o) i ≡ true
    by false none tells c is = grind (arith, none)
    by true there (inr apart) c is = grind (arith, own, apart)
    by true there (inl same) true is = grind (arith, is)
    by true there (inl same) false is =
        let goes : is_among same_inst i o.obsolete ≡ true =
        (λ l. is_among same_inst i (deletes l)) ∙ out_goes k dep o.goal i k.instances there same.0 is in
        grind (arith, goes)

place_for : (k : Known) (o : TaskOpen) (i : Inst) (kind : TaskKind) → o.kind ≡ kind
    → ((dep : List ℕ) → to_delete k kind dep o.goal ≡ out_of_goal k dep o.goal)
    → (goal : Option Goal) → OpensFor k o goal → has_place k (task_opened k o) i ≡ true
place_for k o i kind is out (Some goal) may =
    to_go_now k o goal.dep i (may.deletes ∙ (λ l. to_delete k (is l) goal.dep o.goal) ∙ out goal.dep)
    (dep_named o.dep goal.dep may.of_the_deployment)
  where
    dep_named : (dep : Option (List ℕ)) (named : List ℕ) → option_eq bytes_eq dep (Some named) ≡ true
        → dep ≡ Some named
    dep_named (Some dep) named is = grind (arith, bytes_tells dep named)
    dep_named None named is = absurd cc
place_for k o i kind is out None may = absurd may

none_on : (k : Known) (o : TaskOpen) (i : Inst) (goal : Option Goal) → OpensDisks k o goal
    → has_place k (task_opened k o) i ≡ true
none_on k o i (Some goal) may = absurd may
none_on k o i None may = grind (arith, may.of_none)

place_by : (k : Known) (o : TaskOpen) (i : Inst) (kind : TaskKind) → o.kind ≡ kind → OpensBy k o kind
    → has_place k (task_opened k o) i ≡ true
place_by k o i kinds.CleanUp is may = none_on k o i o.goal may.0
place_by k o i (kinds.DeleteDisk d) is may = none_on k o i o.goal may.0
place_by k o i kinds.Deploy is may = place_for k o i kinds.Deploy is (λ dep. refl) o.goal may
place_by k o i kinds.Fix is may = place_for k o i kinds.Fix is (λ dep. refl) o.goal may
place_by k o i kinds.DeleteDeployment is may = place_for k o i kinds.DeleteDeployment is (λ dep. refl) o.goal may
place_by k o i kind is may =
    (λ l. has_place k (record (task_opened k o) { kind = is l }) i)

place_opened : (m : Moment) (o : TaskOpen) (t : ℕ) (i : Inst) → KnownFacts m → MayOpen m.known o
    → works (noting m (entries.TaskOpen o)) t ≡ true
    → has_place (learn m.known (entries.TaskOpen o)) ((learn m.known (entries.TaskOpen o)).task t) i ≡ true
place_opened m o t i h may working = by (eqb_tells o.task t)
  where
    by : Tells eqb o.task t
        → has_place (learn m.known (entries.TaskOpen o)) ((learn m.known (entries.TaskOpen o)).task t) i ≡ true
    by (inl same) =
        (λ l. has_place m.known (if same.0 l then task_opened m.known o else m.known.task t) i)
        ∙ place_by m.known o i o.kind refl may
    by (inr apart) =
        (λ l. has_place m.known (if apart.0 l then task_opened m.known o else m.known.task t) i)
        ∙ ((h.tasks t).working (grind (
          arith,
          apart,
          working,
          opens_next m.known o may,
          eqb_tells o.task
              t,
        ))).has_place i

-- ---- moves

place_note : (outside : Outside) (m : Moment) (e : Entry) → KnownFacts m → may_follow m e ≡ true → MayNote outside m e
    → HavePlaces (noting m e)
place_note outside m (entries.TaskOpen o) h follows may t working i = place_opened m o t i h may.0 working
place_note outside m (entries.Begin b) h follows may t working i =
    let less : LessWork m (noting m (entries.Begin b)) = less_work outside m (entries.Begin b) may refl in
    (λ l. has_place (learn m.known (entries.Begin b)) (record (less.shape t l) { gone = λ j. gone l }) i)
    ∙ place_begun m b t i h (begun_works m b follows may) (less.works t working) may b.owner refl
  where
    gone : ((learn m.known (entries.Begin b)).task t).gone i ≡ (m.known.task t).gone i
    gone = kept_at (λ task. task.gone i) b.task task_with_call (λ task. refl) m.known.task t
place_note outside m (entries.Snapshot s) h follows may t working i = absurd may
place_note outside m entry h follows may t working i =
    place_as m.known (learn m.known entry) t i (shape_note outside m entry may refl t)
    (recorded_note outside m entry may refl refl i) (gone_note outside m entry may refl t i)
    (((h.tasks t).working ((less_work outside m entry may refl).works t working)).has_place i)

pub places_kept : (outside : Outside) (m : Moment) (move : Move) → IsPermitted outside m move → KnownFacts m
    → HavePlaces (later m move)
places_kept outside m (moves.Note e) may h t working i = place_note outside m e h may.1 may.2 t working i
places_kept outside m (moves.Stop s) may h t working i = absurd (none_works m s t working)
places_kept outside m (moves.Did d) may h t working i = ((h.tasks t).working working).has_place i
places_kept outside m (moves.Wrote w) may h t working i = ((h.tasks t).working working).has_place i
places_kept outside m (moves.Halt cause) may h t working i = ((h.tasks t).working working).has_place i
places_kept outside m (moves.Lost loss) may h t working i = ((h.tasks t).working working).has_place i
places_kept outside m (moves.Said said) may h t working i = ((h.tasks t).working working).has_place i
