-- How goals want instances: what is said by a goal is forgotten, and each of another goal is told its place.
use Rattle.std.proofs.Common.{◌≡◌, ◌∙◌, ℕ, Bool, true, false, ◌&&◌, ◌||◌, List, [], ◌∷◌, map, Option, Some, None, ap}
use Rattle.std.proofs.Common.{refl, sym}
use Rattle.std.specs.Prelude.{find, is_some, option_map, suc, unwrap_or, ◌+◌, if◌then◌else◌}
use Rattle.std.specs.List.{filter_map, list_all}
use Rattle.std.specs.Option.{option_and_then, option_map_or}
use Rattle.std.specs.Str.{bytes_eq}
use Rattle.std.proofs.lemmas.Bool.{and_parts, false≢true, true≢false}
use Rattle.bosh_base.specs.Inst.{inst_cmp}
use Rattle.bosh_base.specs.declared.goal.Goal.{Goal}
use Rattle.bosh_base.specs.declared.goal.GoalRow.{GoalRow}
use Rattle.bosh_base.specs.declared.inst.Inst.{Inst}
use Rattle.bosh_base.specs.declared.snapshot.DepRow.{DepRow}
use Rattle.bosh_fold.specs.Tasks.{wants_forgotten, wants_noted, with_want}
use Rattle.bosh_history.specs.Known.{Known}
use Rattle.bosh_history.specs.Snapshots.{dep_row}
use Rattle.bosh_history.specs.Words.{is_among}
use Rattle.bosh_progress.specs.Tree.{first_marked}
use Rattle.bosh_records.specs.Readers.{deployment_in}
use Rattle.bosh_records.specs.Table.{altered, found, things}
use Rattle.bosh_records.specs.declared.instances.Instance.{Instance}
use Rattle.bosh_records.specs.declared.records.Since.{Since}
use Rattle.bosh_rows.specs.Same.{same_inst}
use Rattle.bosh_rows.specs.SoundSnapshot.{are_distinct}
use Rattle.bosh_work.specs.Part.{no_part}
use Rattle.laws_stands.proofs.DeploymentLemmas.{bytes_is, found_row}
use Rattle.laws_stands.proofs.MemberLemmas.{bytes_same}
use Rattle.laws_stands.specs.Linked.{want_place}
use Rattle.laws_stands_on.proofs.KeyLemmas.{inst_keys}
use Rattle.laws_stands_on.proofs.TableLemmas.{found_altered}
use Rattle.laws_stands_opened.proofs.InstLemmas.{inst_as, part_read}
use Rattle.laws_stands_opened.proofs.SetLemmas.{found_set, from_zero, placed}

-- the instances of the rows of a goal
abbrev pub insts : List GoalRow → List Inst
insts rows = map (λ want. want.inst) rows

-- the same is said of instances, but for how goals want them
pub record SameInstances (was now : List (Inst × Instance)) : Type 0 where
  -- their rows
  pub rows : (i : Inst) → option_and_then (λ known. known.row) (found inst_cmp now i)
      ≡ option_and_then (λ known. known.row) (found inst_cmp was i)
  -- their open calls
  pub calls : (i : Inst) → option_and_then (λ known. known.call) (found inst_cmp now i)
      ≡ option_and_then (λ known. known.call) (found inst_cmp was i)
  -- where they stand in tasks
  pub parts : (i : Inst) → option_map_or (λ known. known.part) (found inst_cmp now i) no_part
      ≡ option_map_or (λ known. known.part) (found inst_cmp was i) no_part
  -- of which something is known
  pub there : (i : Inst) → is_some (found inst_cmp now i) ≡ is_some (found inst_cmp was i)

-- where nothing that is read, but how goals want instances, changes
pub same_by : (was now : List (Inst × Instance))
    → ((Y : Type 0) (read : Instance → Option Y)
    → ((place : Option ℕ) (known : Instance) → read (with_want place known) ≡ read known) → (i : Inst)
    → option_and_then read (found inst_cmp now i) ≡ option_and_then read (found inst_cmp was i))
    → SameInstances was now
same_by was now kept = record {
  rows = λ i. kept _ (λ known. known.row) (λ place known. refl) i;
  calls = λ i. kept _ (λ known. known.call) (λ place known. refl) i;
  parts = λ i. part_read (found inst_cmp now i)
      ∙ ap (λ o. unwrap_or o no_part) (kept _ (λ known. Some known.part) (λ place known. refl) i)
      ∙ sym (part_read (found inst_cmp was i));
  there = λ i. there (found inst_cmp now i) ∙ ap is_some (kept Bool (λ known. Some true) (λ place known. refl) i)
      ∙ sym (there (found inst_cmp was i));
}
  where
    there : (o : Option Instance) → is_some o ≡ is_some (option_and_then (λ (known : Instance). Some true) o)
    there (Some known) = refl
    there None = refl

pub both_same : (a b c : List (Inst × Instance)) → SameInstances a b → SameInstances b c → SameInstances a c
both_same a b c one two = record {
  rows = λ i. two.rows i ∙ one.rows i;
  calls = λ i. two.calls i ∙ one.calls i;
  parts = λ i. two.parts i ∙ one.parts i;
  there = λ i. two.there i ∙ one.there i;
}

pub none_same : (es : List (Inst × Instance)) → SameInstances es es
none_same es = record { rows = λ i. refl; calls = λ i. refl; parts = λ i. refl; there = λ i. refl }

-- ---- what is forgotten

pub forgotten_found : (rows : List GoalRow) (es : List (Inst × Instance)) (i : Inst)
    → found inst_cmp (wants_forgotten rows es) i
    ≡ (if is_among same_inst i (insts rows) then option_map (with_want None) (found inst_cmp es i)
    else found inst_cmp es i)
forgotten_found [] es i = refl
forgotten_found (want ∷ rows) es i =
    forgotten_found rows (altered inst_cmp want.inst (with_want None) es) i
    ∙ (λ j. if is_among same_inst i (insts rows) then option_map (with_want None) (one j) else one j)
    ∙ by (same_inst i want.inst) (is_among same_inst i (insts rows)) (found inst_cmp es i)
  where
    one : found inst_cmp (altered inst_cmp want.inst (with_want None) es) i
        ≡ (if same_inst i want.inst then option_map (with_want None) (found inst_cmp es i) else found inst_cmp es i)
    one = found_altered inst_cmp inst_keys want.inst (with_want None) es i
        ∙ (λ j. if inst_as want.inst i j then option_map (with_want None) (found inst_cmp es i) else found inst_cmp es i)

    by : (a b : Bool) (o : Option Instance)
        → (if b then option_map (with_want None) (if a then option_map (with_want None) o else o)
        else (if a then option_map (with_want None) o else o))
        ≡ (if a || b then option_map (with_want None) o else o)
    by true true (Some known) = refl
    by true true None = refl
    by true false o = refl
    by false true o = refl
    by false false o = refl

pub forgotten_same : (rows : List GoalRow) (es : List (Inst × Instance)) → SameInstances es (wants_forgotten rows es)
forgotten_same rows es = same_by es (wants_forgotten rows es) (λ Y read same i.
    ap (option_and_then read) (forgotten_found rows es i)
    ∙ by Y read same (is_among same_inst i (insts rows)) (found inst_cmp es i))
  where
    by : (Y : Type 0) (read : Instance → Option Y)
        → ((place : Option ℕ) (known : Instance) → read (with_want place known) ≡ read known) → (b : Bool)
        → (o : Option Instance)
        → option_and_then read (if b then option_map (with_want None) o else o) ≡ option_and_then read o
    by Y read same true (Some known) = same None known
    by Y read same true None = refl
    by Y read same false o = refl

-- ---- what is told

-- an instance is told its place in a goal, where it has one
abbrev pub wanted_at : Option ℕ → Option Instance → Option Instance
wanted_at None o = o
wanted_at (Some place) o = option_map (with_want (Some place)) o

pub noted_found : (rows : List GoalRow) (es : List (Inst × Instance)) (i : Inst)
    → are_distinct same_inst (insts rows) ≡ true
    → found inst_cmp (wants_noted rows es) i ≡ wanted_at (want_place rows i) (found inst_cmp es i)
noted_found rows es i apart =
    found_set inst_cmp inst_keys same_inst inst_as (λ (want : GoalRow). want.inst) (λ place. with_want (Some place)) 0 rows es
    i apart
    ∙ by (want_place rows i)
  where
    by : (place : Option ℕ)
        → placed inst_cmp inst_keys same_inst inst_as (λ (want : GoalRow). want.inst) (λ place. with_want (Some place))
        (option_map (λ p. 0 + p) place) (found inst_cmp es i)
        ≡ wanted_at place (found inst_cmp es i)
    by None = refl
    by (Some place) = ap (λ o. wanted_at o (found inst_cmp es i)) (from_zero (Some place))

pub noted_same : (rows : List GoalRow) (es : List (Inst × Instance)) → are_distinct same_inst (insts rows) ≡ true
    → SameInstances es (wants_noted rows es)
noted_same rows es apart = same_by es (wants_noted rows es) (λ Y read same i.
    ap (option_and_then read) (noted_found rows es i apart) ∙ by Y read same (want_place rows i) (found inst_cmp es i))
  where
    by : (Y : Type 0) (read : Instance → Option Y)
        → ((place : Option ℕ) (known : Instance) → read (with_want place known) ≡ read known) → (place : Option ℕ)
        → (o : Option Instance) → option_and_then read (wanted_at place o) ≡ option_and_then read o
    by Y read same (Some place) (Some known) = same (Some place) known
    by Y read same (Some place) None = refl
    by Y read same None o = refl

-- ---- places in a goal

-- an instance that is not of a goal has no place in it
pub no_want : (rows : List GoalRow) (i : Inst) → is_among same_inst i (insts rows) ≡ false → want_place rows i ≡ None
no_want [] i none = refl
no_want (want ∷ rows) i none = by (same_inst i want.inst) none (no_want rows i)
  where
    by : (b : Bool) → (b || is_among same_inst i (insts rows)) ≡ false
        → (is_among same_inst i (insts rows) ≡ false → want_place rows i ≡ None)
        → first_marked (b ∷ map (λ (want : GoalRow). same_inst i want.inst) rows) ≡ None
    by true none more = absurd (true≢false none)
    by false none more = ap (option_map suc) (more none)

-- .. and one of it has
pub has_want : (rows : List GoalRow) (i : Inst) → is_among same_inst i (insts rows) ≡ true
    → is_some (want_place rows i) ≡ true
has_want [] i is = absurd (false≢true is)
has_want (want ∷ rows) i is = by (same_inst i want.inst) is (has_want rows i)
  where
    more_is : (o : Option ℕ) → is_some o ≡ true → is_some (option_map suc o) ≡ true
    more_is (Some place) is = refl
    more_is None is = absurd (false≢true is)

    by : (b : Bool) → (b || is_among same_inst i (insts rows)) ≡ true
        → (is_among same_inst i (insts rows) ≡ true → is_some (want_place rows i) ≡ true)
        → is_some (first_marked (b ∷ map (λ (want : GoalRow). same_inst i want.inst) rows)) ≡ true
    by true is more = refl
    by false is more = more_is (want_place rows i) (more is)

-- a goal whose instances are of its deployment wants none of another one
pub none_wanted : (dep : List ℕ) (test : GoalRow → Bool) (rows : List GoalRow) (i : Inst)
    → list_all (λ want. bytes_eq want.inst.dep dep && test want) rows ≡ true → bytes_eq dep i.dep ≡ false
    → is_among same_inst i (insts rows) ≡ false
none_wanted dep test [] i own other = refl
none_wanted dep test (want ∷ rows) i own other =
    let (first, rest) = and_parts (bytes_eq want.inst.dep dep && test want) _ own in
    let (of_dep, tested) = and_parts (bytes_eq want.inst.dep dep) (test want) first in
    by (same_inst i want.inst) refl of_dep (none_wanted dep test rows i rest other)
  where
    by : (b : Bool) → same_inst i want.inst ≡ b → bytes_eq want.inst.dep dep ≡ true
        → is_among same_inst i (insts rows) ≡ false → (b || is_among same_inst i (insts rows)) ≡ false
    by true same of_dep none =
        let (one, two) = and_parts (bytes_eq i.dep want.inst.dep) _ same in
        absurd (true≢false (sym (bytes_same dep) ∙ ap (bytes_eq dep) (sym (bytes_is i.dep want.inst.dep one
        ∙ bytes_is want.inst.dep dep of_dep)) ∙ other))
    by false same of_dep none = none

-- ---- current goals

-- the goal of a deployment, where what is recorded is what is told
pub goal_known : (k : Known) (rows : List (Since × Option DepRow)) (deps : List (List ℕ))
    → things rows ≡ filter_map (dep_row k) deps → (dep : List ℕ)
    → option_map (λ (row : DepRow). row.goal) (deployment_in rows dep)
    ≡ (if is_among bytes_eq dep deps then k.goal dep else None)
goal_known k rows deps are dep =
    ap (λ rows. option_map (λ (row : DepRow). row.goal) (find (λ (row : DepRow). bytes_eq row.dep dep) rows)) are
    ∙ ap (option_map (λ (row : DepRow). row.goal)) (found_row k dep deps) ∙ by (is_among bytes_eq dep deps) (k.goal dep)
  where
    by : (b : Bool) (o : Option Goal) → option_map (λ (row : DepRow). row.goal)
        (if b then option_map (λ goal. record { dep = dep; goal = goal; shared = k.shared dep }) o else None)
        ≡ (if b then o else None)
    by true (Some goal) = refl
    by true None = refl
    by false o = refl
