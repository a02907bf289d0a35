-- A deployment that is deleted is recorded no more, and its goal wants no instance any more.
use Rattle.std.proofs.Common.{◌≡◌, ◌∙◌, ℕ, Bool, true, false, ◌||◌, List, [], ◌∷◌, Option, Some, None, ap, refl, sym}
use Rattle.std.specs.Prelude.{option_map, if◌then◌else◌}
use Rattle.std.specs.List.{filter_map}
use Rattle.std.specs.Option.{option_and_then}
use Rattle.std.specs.Str.{bytes_eq}
use Rattle.std.proofs.lemmas.Bool.{true≢false}
use Rattle.bosh_base.specs.Inst.{inst_cmp}
use Rattle.bosh_base.specs.declared.goal.Goal.{Goal}
use Rattle.bosh_base.specs.declared.inst.Inst.{Inst}
use Rattle.bosh_base.specs.declared.snapshot.DepRow.{DepRow}
use Rattle.bosh_fold.specs.Tasks.{wants_forgotten}
use Rattle.bosh_history.specs.Known.{Known}
use Rattle.bosh_history.specs.Snapshots.{dep_row}
use Rattle.bosh_history.specs.Words.{at, is_among}
use Rattle.bosh_history.specs.Words as words
use Rattle.bosh_records.specs.Changes.{since_cmp}
use Rattle.bosh_records.specs.Ordered.{AreOrdered}
use Rattle.bosh_records.specs.Readers.{since_in}
use Rattle.bosh_records.specs.Recorded.{Recorded}
use Rattle.bosh_records.specs.Table.{found, things, without}
use Rattle.bosh_records.specs.declared.instances.Instance.{Instance}
use Rattle.bosh_records.specs.declared.records.Since.{Since}
use Rattle.bosh_rows.specs.Same.{same_inst}
use Rattle.bosh_rows.specs.SoundSnapshot.{are_distinct}
use Rattle.laws_stands.proofs.DeploymentLemmas.{bytes_is}
use Rattle.laws_stands.specs.Linked.{want_place}
use Rattle.laws_stands.specs.Once.{IsOnce}
use Rattle.laws_stands.specs.Reading.{goal_of}
use Rattle.laws_stands.specs.Stands.{StandsIn}
use Rattle.laws_stands.specs.Told.{Told}
use Rattle.laws_stands_opened.proofs.DepRowLemmas.{gone_rows}
use Rattle.laws_stands_opened.proofs.FirstLemmas.{first_gone, gone_first}
use Rattle.laws_stands_done.proofs.SettledLemmas.{settled, settled_stands}
use Rattle.laws_stands_done.proofs.SharedLemmas.{named}
use Rattle.laws_stands_fits.proofs.SinceLemmas.{since_keys, since_own}
use Rattle.laws_stands_done.proofs.WantLemmas.{forgotten_other, forgotten_own, forgotten_same}
use Rattle.laws_stands_opened.proofs.WantLemmas.{goal_known, insts}
use Rattle.laws_stands_opened.proofs.WantLemmas.{no_want}

-- another one is among them as before
among_others : (dep d : List ℕ) (deps : List (List ℕ)) → bytes_eq dep d ≡ false
    → is_among bytes_eq d (words.without bytes_eq dep deps) ≡ is_among bytes_eq d deps
among_others dep d [] other = refl
among_others dep d (x ∷ deps) other = by (bytes_eq dep x) refl (bytes_eq d x) refl (among_others dep d deps other)
  where
    by : (a : Bool) → bytes_eq dep x ≡ a → (b : Bool) → bytes_eq d x ≡ b
        → is_among bytes_eq d (words.without bytes_eq dep deps) ≡ is_among bytes_eq d deps
        → is_among bytes_eq d (if a then words.without bytes_eq dep deps else x ∷ words.without bytes_eq dep deps)
        ≡ (bytes_eq d x || is_among bytes_eq d deps)
    by true is true same more =
        absurd (true≢false (sym is ∙ ap (bytes_eq dep) (sym (bytes_is d x same)) ∙ other))
    by true is false differs more = more ∙ (λ j. sym differs j || is_among bytes_eq d deps)
    by false is b same more = ap (λ c. bytes_eq d x || c) more

module _ (dep : List ℕ) (goal : Goal) (told : Told) (it : Recorded) (since : Since) where
  abbrev k : Known
  k = told.known

  -- what is told once the deployment is recorded no more
  abbrev pub dropped : Told
  dropped = settled (words.without bytes_eq dep k.deployments) (at bytes_eq dep None k.goal)
      (at bytes_eq dep [] k.shared) told

  -- what is recorded of instances then
  abbrev instances : List (Inst × Instance)
  instances = wants_forgotten goal.rows it.instances

  -- .. and of deployments
  abbrev rows : List (Since × Option DepRow)
  rows = without since_cmp since it.deployments

  others : (d : List ℕ) → bytes_eq dep d ≡ false → dep_row dropped.known d ≡ dep_row k d
  others d other = λ j. option_map (λ goal. record {
    dep = d;
    goal = goal;
    shared = if other j then [] else k.shared d;
  }) (if other j then None else k.goal d)

  module _ (stands : StandsIn told it) (once : IsOnce since_cmp it.deployments)
      (apart : are_distinct bytes_eq k.deployments ≡ true) (recorded : since_in it.deployments dep ≡ Some since)
      (current : goal_of it dep ≡ Some goal)
      (of_dep : (i : Inst) → bytes_eq dep i.dep ≡ false → is_among same_inst i (insts goal.rows) ≡ false) where
    are : things rows ≡ filter_map (dep_row dropped.known) (words.without bytes_eq dep k.deployments)
    are =
        gone_first since_cmp since_keys since_own (λ (row : DepRow). bytes_eq row.dep dep) it.deployments once since
        recorded
        ∙ ap (first_gone (λ (row : DepRow). bytes_eq row.dep dep)) stands.deployments
        ∙ gone_rows (dep_row k) (dep_row dropped.known) dep (named dep [] told it since) others k.deployments apart

    none_known : (i : Inst) → bytes_eq dep i.dep ≡ true
        → (if is_among bytes_eq i.dep (words.without bytes_eq dep k.deployments) then dropped.known.goal i.dep
        else None)
        ≡ None
    none_known i same =
        (λ j. if is_among bytes_eq i.dep (words.without bytes_eq dep k.deployments)
        then (if same j then None else k.goal i.dep) else None)
        ∙ by (is_among bytes_eq i.dep (words.without bytes_eq dep k.deployments))
      where
        by : {A : Type 0} {o : Option A} (b : Bool) → (if b then o else o) ≡ o
        by true = refl
        by false = refl

    -- the place at which a goal wants an instance
    abbrev wanted : Inst → Option Goal → Option ℕ
    wanted i = option_and_then (λ (goal : Goal). want_place goal.rows i)

    wants : (i : Inst) → option_and_then (λ known. known.want) (found inst_cmp instances i)
        ≡ wanted i (if is_among bytes_eq i.dep (words.without bytes_eq dep k.deployments) then dropped.known.goal i.dep
        else None)
    wants i = by (bytes_eq dep i.dep) refl (is_among same_inst i (insts goal.rows)) refl
      where
        by : (a : Bool) → bytes_eq dep i.dep ≡ a → (b : Bool) → is_among same_inst i (insts goal.rows) ≡ b
            → option_and_then (λ known. known.want) (found inst_cmp instances i)
            ≡ wanted i (if is_among bytes_eq i.dep (words.without bytes_eq dep k.deployments)
            then dropped.known.goal i.dep else None)
        by true same true is =
            forgotten_own goal.rows it.instances i is ∙ sym (ap (wanted i) (none_known i same))
        by true same false none =
            ap (option_and_then (λ (known : Instance). known.want)) (forgotten_other goal.rows it.instances i none)
            ∙ stands.linked.wants i
            ∙ ap (λ dep. wanted i (goal_of it dep)) (sym (bytes_is dep i.dep same)) ∙ ap (wanted i) current
            ∙ no_want goal.rows i none
            ∙ sym (ap (wanted i) (none_known i same))
        by false other b is =
            ap (option_and_then (λ (known : Instance). known.want))
            (forgotten_other goal.rows it.instances i (of_dep i other))
            ∙ stands.linked.wants i
            ∙ ap (wanted i) (goal_known k it.deployments k.deployments stands.deployments i.dep
            ∙ (λ j. if sym (among_others dep i.dep k.deployments other) j
            then (if sym other j then None else k.goal i.dep) else None))

    pub dropped_stands : AreOrdered (record it { instances = instances; deployments = rows })
        → StandsIn dropped (record it { instances = instances; deployments = rows })
    dropped_stands kept =
        settled_stands (words.without bytes_eq dep k.deployments) (at bytes_eq dep None k.goal)
        (at bytes_eq dep [] k.shared) told it instances rows kept (forgotten_same goal.rows it.instances) are
        (λ i. wants i ∙ sym (ap (wanted i)
        (goal_known dropped.known rows (words.without bytes_eq dep k.deployments) are i.dep)))
        stands
