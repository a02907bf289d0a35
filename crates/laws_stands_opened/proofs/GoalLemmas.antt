-- The goal of a task that opens takes the place of the current one of its deployment, or is the first one.
use Rattle.std.proofs.Common.{◌≡◌, ◌∙◌, ◌+◌, ℕ, Bool, true, false, ◌||◌, List, [], ◌∷◌, ◌++◌, Option, Some, None, ap}
use Rattle.std.proofs.Common.{refl, sym}
use Rattle.std.specs.Prelude.{cond, find, is_some, option_map, if◌then◌else◌}
use Rattle.std.specs.BTreeMap.{is_at}
use Rattle.std.specs.List.{cons_option, filter_map}
use Rattle.std.specs.Option.{option_and_then, option_map_or}
use Rattle.std.specs.Str.{bytes_eq}
use Rattle.std.specs.declared.cmp.Ordering.TheVariants.{Less}
use Rattle.std.proofs.lemmas.Bool.{false≢true, true≢false}
use Rattle.std.proofs.lemmas.List.Elements.{filter_map-append}
use Rattle.std.proofs.lemmas.List.Folds.{list_any-append}
use Rattle.bosh_base.specs.Inst.{inst_cmp}
use Rattle.bosh_base.specs.declared.entry.TaskOpen.{TaskOpen}
use Rattle.bosh_base.specs.declared.goal.Goal.{Goal}
use Rattle.bosh_base.specs.declared.inst.Inst.{Inst}
use Rattle.bosh_base.specs.declared.snapshot.DepRow.{DepRow}
use Rattle.bosh_fold.specs.Tasks.{goal_set, goal_set_at, wants_forgotten, wants_noted, with_want}
use Rattle.bosh_history.specs.Known.{Known}
use Rattle.bosh_history.specs.Snapshots.{dep_row}
use Rattle.bosh_history.specs.Tasks as history
use Rattle.bosh_history.specs.Words.{at, is_among}
use Rattle.bosh_plan.specs.Opened.{dep_row_of}
use Rattle.bosh_records.specs.Changes.{since_cmp, with_goal}
use Rattle.bosh_records.specs.Readers.{deployment_in, since_in}
use Rattle.bosh_records.specs.Recorded.{Recorded}
use Rattle.bosh_records.specs.Table.{changed, found, put_at, thing_in, things}
use Rattle.bosh_records.specs.declared.instances.Instance.{Instance}
use Rattle.bosh_records.specs.declared.records.Since.{Since}
use Rattle.bosh_records.specs.declared.records.Since.TheVariants as sinces
use Rattle.bosh_rows.specs.Same.{same_inst}
use Rattle.bosh_rows.specs.Standing.{same_truth}
use Rattle.laws_facts.proofs.GoalLemmas.{OpensOf, of_dep, of_none}
use Rattle.laws_stands.proofs.DeploymentLemmas.{bytes_is, bytes_flip, found_row}
use Rattle.laws_stands.proofs.MemberLemmas.{bytes_same}
use Rattle.laws_stands.specs.Linked.{want_place}
use Rattle.laws_stands.specs.Once.{IsOnce}
use Rattle.laws_stands.specs.Stands.{StandsIn}
use Rattle.laws_stands.specs.Told.{Told}
use Rattle.laws_stands_on.proofs.TableLemmas.{found_altered, thing_changed}
use Rattle.laws_stands_opened.proofs.AllowsLemmas.{AllowsOpen}
use Rattle.laws_stands_opened.proofs.DepRowLemmas.{changed_rows, others_same}
use Rattle.laws_stands_opened.proofs.FirstLemmas.{Stood, changed_first, first_changed, first_stood, none_first}
use Rattle.laws_stands.proofs.OrderLemmas.{once_in}
use Rattle.laws_stands_fits.proofs.SinceLemmas.{since_keys, since_own}
use Rattle.laws_stands_opened.proofs.SinceLemmas.{since_more, since_never, since_next}
use Rattle.laws_stands_opened.proofs.PutLemmas.{IsLast, put_last}
use Rattle.laws_stands_opened.proofs.WantLemmas.{SameInstances, both_same, forgotten_found, forgotten_same, goal_known}
use Rattle.laws_stands_opened.proofs.WantLemmas.{has_want, insts, no_want, none_same, noted_found, noted_same, wanted_at}

-- how goals want an instance
abbrev read : Option Instance → Option ℕ
read = option_and_then (λ known. known.want)

-- where a goal wants an instance
abbrev wanted : Inst → Option Goal → Option ℕ
wanted i = option_and_then (λ (goal : Goal). want_place goal.rows i)

-- the goal that is recorded of a deployment
abbrev goal_in : List (Since × Option DepRow) → List ℕ → Option Goal
goal_in rows dep = option_map (λ (row : DepRow). row.goal) (deployment_in rows dep)

-- what is recorded of deployments, and how goals want instances, once the goal of a task is set: it is what is told once the
-- task opens
pub record GoalSet (k : Known) (o : TaskOpen) (it : Recorded) : Type 0 where
  -- what is known of instances then
  pub instances : List (Inst × Instance)
  -- what is recorded of deployments then
  pub rows : List (Since × Option DepRow)
  -- nothing else changes
  pub is : goal_set o.task (dep_row_of o) it ≡ record it { instances = instances; deployments = rows }
  -- the deployments are those that are told, in their order
  pub deployments : things rows ≡ filter_map (dep_row (history.opened o k)) (history.opened o k).deployments
  -- none is recorded since a later task
  pub since : (since : Since) (row : DepRow) → thing_in since_cmp rows since ≡ Some row →
      since_cmp since (sinces.Task (o.task + 1)) ≡ Less
  -- each instance is told its place in the goal of its deployment
  pub wants : (i : Inst) → read (found inst_cmp instances i) ≡ wanted i (goal_in rows i.dep)
  -- all else that is known of instances is as before
  pub same : SameInstances it.instances instances

module _ (told : Told) (it : Recorded) (o : TaskOpen) (goal : Goal) (goal_is : o.goal ≡ Some goal)
    (dep_is : o.dep ≡ Some goal.dep) (stands : StandsIn told it) (allows : AllowsOpen told o) where
  -- what was known
  abbrev k : Known
  k = told.known

  -- what is told of deployments once the task opens
  abbrev pub goal_now : List ℕ → Option Goal
  goal_now = at bytes_eq goal.dep (Some goal) k.goal

  -- .. and so is recorded of one
  abbrev pub row_now : List ℕ → Option DepRow
  row_now d = option_map (λ goal. record { dep = d; goal = goal; shared = k.shared d }) (goal_now d)

  -- .. and which there are
  abbrev pub deps_now : List (List ℕ)
  deps_now = history.listed goal.dep k.deployments

  pub told_so : filter_map row_now deps_now
      ≡ filter_map (dep_row (history.opened o k)) (history.opened o k).deployments
  told_so = λ j. filter_map
      (λ d. option_map (λ goal. record { dep = d; goal = goal; shared = k.shared d })
      (history.goal_set (sym dep_is j) (sym goal_is j) k.goal d))
      (history.deployment_listed (sym dep_is j) k.deployments)

  -- its deployment is listed from now on, and the others as before
  own_listed : is_among bytes_eq goal.dep deps_now ≡ true
  own_listed = by (is_among bytes_eq goal.dep k.deployments) refl
    where
      by : (b : Bool) → is_among bytes_eq goal.dep k.deployments ≡ b
          → is_among bytes_eq goal.dep (if b then k.deployments else k.deployments ++ goal.dep ∷ []) ≡ true
      by true is = is
      by false is =
          list_any-append (bytes_eq goal.dep) k.deployments (goal.dep ∷ [])
          ∙ (λ j. is j || (bytes_same goal.dep j || false))

  other_listed : (d : List ℕ) → bytes_eq goal.dep d ≡ false
      → is_among bytes_eq d deps_now ≡ is_among bytes_eq d k.deployments
  other_listed d other = by (is_among bytes_eq goal.dep k.deployments)
    where
      or_none : (b : Bool) → (b || (false || false)) ≡ b
      or_none true = refl
      or_none false = refl

      by : (b : Bool) → is_among bytes_eq d (if b then k.deployments else k.deployments ++ goal.dep ∷ [])
          ≡ is_among bytes_eq d k.deployments
      by true = refl
      by false =
          list_any-append (bytes_eq d) k.deployments (goal.dep ∷ [])
          ∙ (λ j. is_among bytes_eq d k.deployments || ((bytes_flip d goal.dep ∙ other) j || false))
          ∙ or_none (is_among bytes_eq d k.deployments)

  -- the wants of each instance are those of the new goal, where those of its deployment were forgotten
  module _ (base : List (Inst × Instance)) (rows : List (Since × Option DepRow))
      (are : things rows ≡ filter_map row_now deps_now)
      (own : (i : Inst) → bytes_eq goal.dep i.dep ≡ true → read (found inst_cmp base i) ≡ None)
      (others : (i : Inst) → bytes_eq goal.dep i.dep ≡ false
      → read (found inst_cmp base i) ≡ read (found inst_cmp it.instances i))
      (there : (i : Inst) → is_among same_inst i (insts goal.rows) ≡ true → is_some (found inst_cmp base i) ≡ true) where
    goal_is_now : (d : List ℕ) → goal_in rows d ≡ (if is_among bytes_eq d deps_now then goal_now d else None)
    goal_is_now d = goal_known (record k { goal = goal_now }) rows deps_now are d

    pub wants_set : (i : Inst) → read (found inst_cmp (wants_noted goal.rows base) i) ≡ wanted i (goal_in rows i.dep)
    wants_set i =
        ap read (noted_found goal.rows base i (allows.wants_apart goal goal_is))
        ∙ by (bytes_eq goal.dep i.dep) refl (is_among same_inst i (insts goal.rows)) refl
        ∙ sym (ap (wanted i) (goal_is_now i.dep))
      where
        own_goal : bytes_eq goal.dep i.dep ≡ true
            → (if is_among bytes_eq i.dep deps_now then goal_now i.dep else None) ≡ Some goal
        own_goal same =
            (λ j. if is_among bytes_eq (sym (bytes_is goal.dep i.dep same) j) deps_now then goal_now i.dep else None)
            ∙ (λ j. if own_listed j then (if same j then Some goal else k.goal i.dep) else None)

        told_place : (place : Option ℕ) (o : Option Instance) → is_some o ≡ true → place ≡ want_place goal.rows i
            → is_some place ≡ true → read (wanted_at place o) ≡ want_place goal.rows i
        told_place (Some place) (Some known) there is some = is
        told_place (Some place) None there is some = absurd (false≢true there)
        told_place None o there is some = absurd (false≢true some)

        by : (a : Bool) → bytes_eq goal.dep i.dep ≡ a → (b : Bool) → is_among same_inst i (insts goal.rows) ≡ b
            → read (wanted_at (want_place goal.rows i) (found inst_cmp base i))
            ≡ wanted i (if is_among bytes_eq i.dep deps_now then goal_now i.dep else None)
        by true same true is =
            told_place (want_place goal.rows i) (found inst_cmp base i) (there i is) refl (has_want goal.rows i is)
            ∙ sym (ap (wanted i) (own_goal same))
        by true same false none =
            (λ j. read (wanted_at (no_want goal.rows i none j) (found inst_cmp base i)))
            ∙ own i same ∙ sym (no_want goal.rows i none) ∙ sym (ap (wanted i) (own_goal same))
        by false other b is =
            (λ j. read (wanted_at (no_want goal.rows i (allows.wants_own goal goal_is i other) j) (found inst_cmp base i)))
            ∙ others i other ∙ stands.linked.wants i
            ∙ ap (wanted i) (goal_known k it.deployments k.deployments stands.deployments i.dep)
            ∙ (λ j. wanted i (if sym (other_listed i.dep other) j
            then (if sym other j then Some goal else k.goal i.dep) else None))

  -- ---- a goal that takes the place of another one

  -- the row is of the deployment
  abbrev test : DepRow → Bool
  test row = bytes_eq row.dep goal.dep

  once : IsOnce since_cmp it.deployments
  once = once_in since_cmp it.deployments stands.ordered.deployments

  named : (d : List ℕ) (row : DepRow) → dep_row k d ≡ Some row → row.dep ≡ d
  named d row is = by (k.goal d) is
    where
      by : (o : Option Goal)
          → option_map (λ goal. record { dep = d; goal = goal; shared = k.shared d }) o ≡ Some row → row.dep ≡ d
      by (Some goal) is =
          let same : record { dep = d; goal = goal; shared = k.shared d } ≡ row = cc in
          ap (λ (row : DepRow). row.dep) (sym same)
      by None is = absurd cc

  others_told : (d : List ℕ) → bytes_eq goal.dep d ≡ false → row_now d ≡ dep_row k d
  others_told d other = λ j. option_map (λ goal. record { dep = d; goal = goal; shared = k.shared d })
      (if other j then Some goal else k.goal d)

  row_found : find test (things it.deployments)
      ≡ (if is_among bytes_eq goal.dep k.deployments then dep_row k goal.dep else None)
  row_found = ap (find test) stands.deployments ∙ found_row k goal.dep k.deployments

  module _ (before : (since : Since) (row : DepRow) → thing_in since_cmp it.deployments since ≡ Some row
      → since_cmp since (sinces.Task o.task) ≡ Less) where
    module _ (old : Goal) (was : k.goal goal.dep ≡ Some old) (is_listed : is_among bytes_eq goal.dep k.deployments ≡ true)
      where
        -- what was recorded of the deployment
        abbrev old_row : DepRow
        old_row = record { dep = goal.dep; goal = old; shared = k.shared goal.dep }

        stood : Stood since_cmp since_keys since_own test it.deployments old_row
        stood = first_stood since_cmp since_keys since_own test it.deployments once old_row
            (row_found
            ∙ (λ j. if is_listed j
            then option_map (λ current. record { dep = goal.dep; goal = current; shared = k.shared goal.dep }) (was j)
            else None))

        own_told : (d : List ℕ) → bytes_eq goal.dep d ≡ true → row_now d ≡ option_map (with_goal goal) (dep_row k d)
        own_told d same =
            (λ j. option_map (λ goal. record { dep = d; goal = goal; shared = k.shared d })
            (if same j then Some goal else k.goal d))
            ∙ sym (ap (λ o. option_map (with_goal goal) (option_map (λ goal. record {
              dep = d;
              goal = goal;
              shared = k.shared d;
            }) o)) (ap k.goal (sym (bytes_is goal.dep d same)) ∙ was))

        -- no instance is wanted by the old goal any more
        abbrev base : List (Inst × Instance)
        base = wants_forgotten old.rows it.instances

        -- the row has the new goal
        abbrev rows : List (Since × Option DepRow)
        rows = changed since_cmp stood.key (with_goal goal) it.deployments

        are : things rows ≡ filter_map row_now deps_now
        are =
            changed_first since_cmp since_keys since_own test (with_goal goal) it.deployments once stood.key stood.first
            ∙ ap (first_changed test (with_goal goal)) stands.deployments
            ∙ changed_rows (dep_row k) row_now goal.dep named others_told (with_goal goal) own_told k.deployments
            allows.deployments_apart
            ∙ (λ j. filter_map row_now (if sym is_listed j then k.deployments else k.deployments ++ goal.dep ∷ []))

        base_own : (i : Inst) → bytes_eq goal.dep i.dep ≡ true → read (found inst_cmp base i) ≡ None
        base_own i same = ap read (forgotten_found old.rows it.instances i)
            ∙ by (is_among same_inst i (insts old.rows)) refl
          where
            forgotten : (o : Option Instance) → read (option_map (with_want None) o) ≡ None
            forgotten (Some known) = refl
            forgotten None = refl

            by : (b : Bool) → is_among same_inst i (insts old.rows) ≡ b
                → read (if b then option_map (with_want None) (found inst_cmp it.instances i)
                else found inst_cmp it.instances i) ≡ None
            by true is = forgotten (found inst_cmp it.instances i)
            by false none =
                stands.linked.wants i
                ∙ ap (λ dep. wanted i (goal_in it.deployments dep)) (sym (bytes_is goal.dep i.dep same))
                ∙ ap (wanted i) (goal_known k it.deployments k.deployments stands.deployments goal.dep)
                ∙ (λ j. wanted i (if is_listed j then was j else None)) ∙ no_want old.rows i none

        base_other : (i : Inst) → bytes_eq goal.dep i.dep ≡ false
            → read (found inst_cmp base i) ≡ read (found inst_cmp it.instances i)
        base_other i other = ap read (forgotten_found old.rows it.instances i)
            ∙ (λ j. read (if allows.current_own goal.dep old was i other j
            then option_map (with_want None) (found inst_cmp it.instances i) else found inst_cmp it.instances i))

        pub replaced : ((i : Inst) → is_among same_inst i (insts goal.rows) ≡ true
            → is_some (found inst_cmp it.instances i) ≡ true) → GoalSet k o it
        replaced room = record {
          instances = wants_noted goal.rows base;
          rows = rows;
          is = (λ j. goal_set o.task (option_map (λ (goal : Goal). record { dep = goal.dep; goal = goal; shared = [] })
              (goal_is j)) it)
              ∙ (λ j. goal_set_at (stood.first j) o.task (record { dep = goal.dep; goal = goal; shared = [] }) it)
              ∙ (λ j. record it {
                instances = wants_noted goal.rows
                    (option_map_or (λ (row : DepRow). wants_forgotten row.goal.rows it.instances) (stood.there j) it.instances);
                deployments = rows;
              });
          deployments = are ∙ told_so;
          since = since;
          wants = wants_set base rows are base_own base_other
              (λ i is. (forgotten_same old.rows it.instances).there i ∙ room i is);
          same = both_same it.instances base (wants_noted goal.rows base) (forgotten_same old.rows it.instances)
              (noted_same goal.rows base (allows.wants_apart goal goal_is));
        }
          where
            since : (since : Since) (row : DepRow) → thing_in since_cmp rows since ≡ Some row
                → since_cmp since (sinces.Task (o.task + 1)) ≡ Less
            since key row is =
                by (is_at (since_cmp stood.key) key) (thing_in since_cmp it.deployments key) refl
                (sym (thing_changed since_cmp since_keys stood.key (with_goal goal) it.deployments key) ∙ is)
              where
                by : (b : Bool) (found : Option DepRow) → thing_in since_cmp it.deployments key ≡ found
                    → (if b then option_map (with_goal goal) found else found) ≡ Some row
                    → since_cmp key (sinces.Task (o.task + 1)) ≡ Less
                by b (Some was) there is = since_more key o.task (before key was there)
                by true None there is = absurd cc
                by false None there is = absurd cc

    -- ---- a first goal

    module _ (none : is_among bytes_eq goal.dep k.deployments ≡ false) (unshared : k.shared goal.dep ≡ [])
        (room : is_some (found since_cmp it.deployments (sinces.Task o.task)) ≡ true) where
      -- what is recorded of the deployment
      abbrev row : DepRow
      row = record { dep = goal.dep; goal = goal; shared = [] }

      -- .. at the place of the task
      abbrev added_rows : List (Since × Option DepRow)
      added_rows = put_at since_cmp (sinces.Task o.task) row it.deployments

      -- there is a free place for it
      free : found since_cmp it.deployments (sinces.Task o.task) ≡ Some None
      free = by (found since_cmp it.deployments (sinces.Task o.task)) refl room
        where
          by : (o' : Option (Option DepRow)) → found since_cmp it.deployments (sinces.Task o.task) ≡ o' → is_some o' ≡ true
              → o' ≡ Some None
          by (Some None) is some = refl
          by (Some (Some taken)) is some =
              let low : since_cmp (sinces.Task o.task) (sinces.Task o.task) ≡ Less =
              before (sinces.Task o.task) taken (ap (option_and_then (λ place. place)) is) in
              absurd (since_never (sinces.Task o.task) (sinces.Task o.task) low low)
          by None is some = absurd (false≢true some)

      -- all others stand below it
      last : IsLast since_cmp since_keys since_never (sinces.Task o.task) row it.deployments
      last = each it.deployments once before
        where
          each : (es : List (Since × Option DepRow)) → IsOnce since_cmp es
              → ((since : Since) (row : DepRow) → thing_in since_cmp es since ≡ Some row
              → since_cmp since (sinces.Task o.task) ≡ Less)
              → IsLast since_cmp since_keys since_never (sinces.Task o.task) row es
          each [] once low = tt
          each ((at, place) ∷ es) (alone, once) low = (first place low, each es once rest)
            where
              first : (place : Option DepRow)
                  → ((since : Since) (row : DepRow) → thing_in since_cmp ((at, place) ∷ es) since ≡ Some row
                  → since_cmp since (sinces.Task o.task) ≡ Less)
                  → is_some place ≡ true → since_cmp at (sinces.Task o.task) ≡ Less
              first (Some row) low is =
                  low at row (λ j. option_and_then (λ (place : Option DepRow). place)
                  (cond (since_own at j) (Some (Some row)) (found since_cmp es at)))
              first None low is = absurd (false≢true is)

              rest : (since : Since) (row : DepRow) → thing_in since_cmp es since ≡ Some row
                  → since_cmp since (sinces.Task o.task) ≡ Less
              rest since row is = by (is_at (since_cmp since) at) refl
                where
                  by : (b : Bool) → is_at (since_cmp since) at ≡ b → since_cmp since (sinces.Task o.task) ≡ Less
                  by true here =
                      let gone : thing_in since_cmp es since ≡ None =
                      ap (option_and_then (λ place. place)) (ap (found since_cmp es) (since_keys since at here) ∙ alone) in
                      let never : None ≡ Some row = sym gone ∙ is in absurd cc
                  by false away =
                      low since row ((λ j. option_and_then (λ (place : Option DepRow). place)
                      (cond (away j) (Some place) (found since_cmp es since))) ∙ is)

      own_row : row_now goal.dep ≡ Some row
      own_row =
          (λ j. option_map (λ goal. record { dep = row.dep; goal = goal; shared = unshared j })
          (if bytes_same goal.dep j then Some goal else k.goal goal.dep))

      added_are : things added_rows ≡ filter_map row_now deps_now
      added_are =
          put_last since_cmp since_keys since_never (sinces.Task o.task) row it.deployments stands.ordered.deployments last free
          ∙ ap (λ all. all ++ row ∷ [])
          (stands.deployments ∙ others_same (dep_row k) row_now goal.dep named others_told k.deployments none)
          ∙ (λ j. filter_map row_now k.deployments ++ cons_option (sym own_row j) [])
          ∙ sym (filter_map-append row_now k.deployments (goal.dep ∷ []))
          ∙ (λ j. filter_map row_now (if sym none j then k.deployments else k.deployments ++ goal.dep ∷ []))

      none_wants : (i : Inst) → bytes_eq goal.dep i.dep ≡ true → read (found inst_cmp it.instances i) ≡ None
      none_wants i same =
          stands.linked.wants i
          ∙ ap (λ dep. wanted i (goal_in it.deployments dep)) (sym (bytes_is goal.dep i.dep same))
          ∙ ap (wanted i) (goal_known k it.deployments k.deployments stands.deployments goal.dep)
          ∙ (λ j. wanted i (if none j then k.goal goal.dep else None))

      pub added : ((i : Inst) → is_among same_inst i (insts goal.rows) ≡ true
          → is_some (found inst_cmp it.instances i) ≡ true) → GoalSet k o it
      added wants_room = record {
        instances = wants_noted goal.rows it.instances;
        rows = added_rows;
        is = (λ j. goal_set o.task (option_map (λ (goal : Goal). record { dep = goal.dep; goal = goal; shared = [] })
            (goal_is j)) it)
            ∙ (λ j. goal_set_at (first j) o.task row it);
        deployments = added_are ∙ told_so;
        since = since;
        wants = wants_set it.instances added_rows added_are none_wants (λ i other. refl) wants_room;
        same = noted_same goal.rows it.instances (allows.wants_apart goal goal_is);
      }
        where
          first : since_in it.deployments goal.dep ≡ None
          first = none_first since_cmp since_keys since_own test it.deployments
              (row_found ∙ (λ j. if none j then dep_row k goal.dep else None))

          since : (since : Since) (row : DepRow) → thing_in since_cmp added_rows since ≡ Some row
              → since_cmp since (sinces.Task (o.task + 1)) ≡ Less
          since key now is =
              by (is_at (since_cmp (sinces.Task o.task)) key) refl
              (sym (ap (option_and_then (λ place. place))
              (found_altered since_cmp since_keys (sinces.Task o.task) (λ _. Some row) it.deployments key)) ∙ is)
            where
              by : (b : Bool) → is_at (since_cmp (sinces.Task o.task)) key ≡ b
                  → option_and_then (λ place. place)
                  (if b then option_map (λ _. Some row) (found since_cmp it.deployments key)
                  else found since_cmp it.deployments key) ≡ Some now
                  → since_cmp key (sinces.Task (o.task + 1)) ≡ Less
              by true here is =
                  ap (λ since. since_cmp since (sinces.Task (o.task + 1))) (sym (since_keys (sinces.Task o.task) key here))
                  ∙ since_next o.task
              by false away is = since_more key o.task (before key now is)

-- ---- all

module _ (told : Told) (it : Recorded) (o : TaskOpen) (stands : StandsIn told it) (allows : AllowsOpen told o)
    (before : (since : Since) (row : DepRow) → thing_in since_cmp it.deployments since ≡ Some row
    → since_cmp since (sinces.Task (told.known.tasks + 1)) ≡ Less)
    (unshared : (dep : List ℕ) → is_among bytes_eq dep told.known.deployments ≡ false → told.known.shared dep ≡ [])
    (room : (goal : Goal) → o.goal ≡ Some goal → is_some (found since_cmp it.deployments (sinces.Task o.task)) ≡ true)
    (wants_room : (goal : Goal) → o.goal ≡ Some goal → (i : Inst) → is_among same_inst i (insts goal.rows) ≡ true
    → is_some (found inst_cmp it.instances i) ≡ true) where
  before_it : (since : Since) (row : DepRow) → thing_in since_cmp it.deployments since ≡ Some row
      → since_cmp since (sinces.Task o.task) ≡ Less
  before_it since row is = ap (λ n. since_cmp since (sinces.Task n)) allows.number ∙ before since row is

  pub goal_is_set : GoalSet told.known o it
  goal_is_set = by allows.opens
    where
      with_goal_of : (goal : Goal) → o.goal ≡ Some goal → o.dep ≡ Some goal.dep → GoalSet told.known o it
      with_goal_of goal goal_is dep_is = of (is_among bytes_eq goal.dep told.known.deployments) refl
          (told.known.goal goal.dep) refl
        where
          of : (b : Bool) → is_among bytes_eq goal.dep told.known.deployments ≡ b → (old : Option Goal)
              → told.known.goal goal.dep ≡ old → GoalSet told.known o it
          of true is_listed (Some old) was =
              replaced told it o goal goal_is dep_is stands allows before_it old was is_listed (wants_room goal goal_is)
          of true is_listed None was =
              absurd (true≢false (sym (allows.deployment_listed goal.dep) ∙ (λ j. same_truth (is_listed j) (is_some (was j)))))
          of false none old was =
              added told it o goal goal_is dep_is stands allows before_it none (unshared goal.dep none) (room goal goal_is)
              (wants_room goal goal_is)

      by : OpensOf o → GoalSet told.known o it
      by (of_dep dep goal dep_is goal_is same) = with_goal_of goal goal_is (dep_is ∙ ap Some (sym same))
      by (of_none dep_is goal_is) = record {
        instances = it.instances;
        rows = it.deployments;
        is = λ j. goal_set o.task (option_map (λ (goal : Goal). record { dep = goal.dep; goal = goal; shared = [] })
            (goal_is j)) it;
        deployments = stands.deployments
            ∙ (λ j. filter_map
            (λ d. option_map (λ goal. record { dep = d; goal = goal; shared = told.known.shared d })
            (history.goal_set (sym dep_is j) (sym goal_is j) told.known.goal d))
            (history.deployment_listed (sym dep_is j) told.known.deployments));
        since = λ since row is. since_more since o.task (before_it since row is);
        wants = stands.linked.wants;
        same = none_same it.instances;
      }
