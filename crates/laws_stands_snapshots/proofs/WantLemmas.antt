-- How goals want instances once all deployments of a snapshot were read: each instance by the goal of its deployment.
use Rattle.std.proofs.Common.{◌≡◌, ◌∙◌, ℕ, suc, ◌+◌, Bool, true, false, ◌||◌, List, [], ◌∷◌, map, Option, Some}
use Rattle.std.proofs.Common.{None, ap, arith, refl, subst, sym}
use Rattle.std.specs.Prelude.{find, fold, is_some, not, unwrap_or, if◌then◌else◌}
use Rattle.std.specs.List.{enumerate_from, list_all, list_any}
use Rattle.std.specs.Option.{option_and_then, option_map, option_map_or, option_or}
use Rattle.std.specs.Str.{bytes_eq}
use Rattle.std.proofs.lemmas.Bool.{and_parts, false≢true, not-true, true≢false}
use Rattle.bosh_base.specs.Inst.{inst_cmp}
use Rattle.bosh_base.specs.declared.goal.Goal.{Goal}
use Rattle.bosh_base.specs.declared.goal.GoalRow.{GoalRow}
use Rattle.bosh_base.specs.declared.inst.Inst.{Inst}
use Rattle.bosh_base.specs.declared.snapshot.DepRow.{DepRow}
use Rattle.bosh_fold.specs.Anew.{goal_read, wants_read}
use Rattle.bosh_fold.specs.Tasks.{want_noted, with_want}
use Rattle.bosh_plan.specs.Roomy.{want_room}
use Rattle.bosh_progress.specs.Tree.{first_marked}
use Rattle.bosh_records.specs.Instances.{unknown}
use Rattle.bosh_records.specs.Table.{found}
use Rattle.bosh_records.specs.declared.instances.Instance.{Instance}
use Rattle.bosh_rows.specs.Same.{same_inst}
use Rattle.bosh_rows.specs.SoundSnapshot.{are_distinct, same_deployment}
use Rattle.bosh_work.specs.Part.{no_part}
use Rattle.laws_stands.proofs.DeploymentLemmas.{bytes_flip, bytes_is}
use Rattle.laws_stands.specs.Linked.{want_place}
use Rattle.laws_stands_on.proofs.TableLemmas.{found_altered}
use Rattle.laws_stands_snapshots.proofs.FoldLemmas.{flipped, found_with_room, same_is}
use Rattle.laws_stands_snapshots.proofs.OrderLemmas.{inst_order}
use Rattle.laws_stands_snapshots.specs.Readable.{has_own_rows}

-- of an instance nothing is known but how a goal wants it
pub record IsOnlyWanted (known : Option Instance) (place : Option ℕ) : Type 0 where
  pub row : option_and_then (λ it. it.row) known ≡ None
  pub call : option_and_then (λ it. it.call) known ≡ None
  pub part : option_map_or (λ it. it.part) known no_part ≡ no_part
  pub want : option_and_then (λ it. it.want) known ≡ place

-- ---- room for the instances of a goal

roomy : (known : Option Instance) (want : Option ℕ) → IsOnlyWanted known want
    → IsOnlyWanted (Some (unwrap_or known unknown)) want
roomy (Some it) want only = record { row = only.row; call = only.call; part = only.part; want = only.want }
roomy None want only = record { row = refl; call = refl; part = refl; want = only.want }

one_room : (es : List (Inst × Instance)) (row : GoalRow) (i : Inst) (want : Option ℕ)
    → IsOnlyWanted (found inst_cmp es i) want → IsOnlyWanted (found inst_cmp (want_room es row) i) want
one_room es row i want only =
    subst (λ known. IsOnlyWanted known want) (sym (found_with_room inst_cmp same_inst inst_order row.inst unknown es i))
    (by (same_inst row.inst i))
  where
    by : (b : Bool)
        → IsOnlyWanted (if b then Some (unwrap_or (found inst_cmp es i) unknown) else found inst_cmp es i) want
    by true = roomy (found inst_cmp es i) want only
    by false = only

rooms : (rows : List GoalRow) (es : List (Inst × Instance)) (i : Inst) (want : Option ℕ)
    → IsOnlyWanted (found inst_cmp es i) want → IsOnlyWanted (found inst_cmp (fold want_room es rows) i) want
rooms [] es i want only = only
rooms (row ∷ rows) es i want only = rooms rows (want_room es row) i want (one_room es row i want only)

-- there is something at each of its instances then
room_there : (es : List (Inst × Instance)) (row : GoalRow) (i : Inst) → (same_inst i row.inst || is_some (found inst_cmp es i)) ≡ true
    → is_some (found inst_cmp (want_room es row) i) ≡ true
room_there es row i there =
    ap is_some (found_with_room inst_cmp same_inst inst_order row.inst unknown es i)
    ∙ by (same_inst row.inst i) ((λ j. flipped inst_cmp same_inst inst_order row.inst i j || is_some (found inst_cmp es i)) ∙ there)
  where
    by : (b : Bool) → (b || is_some (found inst_cmp es i)) ≡ true
        → is_some (if b then Some (unwrap_or (found inst_cmp es i) unknown) else found inst_cmp es i) ≡ true
    by true there = refl
    by false there = there

rooms_there : (rows : List GoalRow) (es : List (Inst × Instance)) (i : Inst)
    → (is_some (want_place rows i) || is_some (found inst_cmp es i)) ≡ true
    → is_some (found inst_cmp (fold want_room es rows) i) ≡ true
rooms_there [] es i there = there
rooms_there (row ∷ rows) es i there =
    by (same_inst i row.inst) refl there (rooms_there rows (want_room es row) i)
  where
    more_some : (o : Option ℕ) → is_some (option_map suc o) ≡ is_some o
    more_some (Some place) = refl
    more_some None = refl

    either : (b c : Bool) → c ≡ true → (b || c) ≡ true
    either true c is = refl
    either false c is = is

    first : (c d : Bool) → (c || d) ≡ true → (d ≡ true → is_some (found inst_cmp (want_room es row) i) ≡ true)
        → (c || is_some (found inst_cmp (want_room es row) i)) ≡ true
    first true d there has = refl
    first false d there has = has there

    by : (b : Bool) → same_inst i row.inst ≡ b
        → (is_some (first_marked (b ∷ map (λ (want : GoalRow). same_inst i want.inst) rows))
        || is_some (found inst_cmp es i)) ≡ true
        → ((is_some (want_place rows i) || is_some (found inst_cmp (want_room es row) i)) ≡ true
        → is_some (found inst_cmp (fold want_room (want_room es row) rows) i) ≡ true)
        → is_some (found inst_cmp (fold want_room (want_room es row) rows) i) ≡ true
    by true one there more =
        more (either (is_some (want_place rows i)) (is_some (found inst_cmp (want_room es row) i))
        (room_there es row i (λ j. one j || is_some (found inst_cmp es i))))
    by false other there more =
        more (first (is_some (want_place rows i)) (is_some (found inst_cmp es i))
        ((λ j. sym (more_some (want_place rows i)) j || is_some (found inst_cmp es i)) ∙ there)
        (λ has. room_there es row i ((λ j. other j || is_some (found inst_cmp es i)) ∙ has)))

-- ---- each is told its place

-- the place of an instance, counted from a number on
abbrev place_from : ℕ → List GoalRow → Inst → Option ℕ
place_from n [] i = None
place_from n (row ∷ rows) i = if same_inst i row.inst then Some n else place_from (n + 1) rows i

first_as : (b : Bool) (marks : List Bool)
    → first_marked (b ∷ marks) ≡ (if b then Some 0 else option_map suc (first_marked marks))
first_as true marks = refl
first_as false marks = refl

place_is : (n : ℕ) (rows : List GoalRow) (i : Inst) → place_from n rows i ≡ option_map (λ p. n + p) (want_place rows i)
place_is n [] i = refl
place_is n (row ∷ rows) i =
    by (same_inst i row.inst) (want_place rows i) (place_is (n + 1) rows i)
    ∙ ap (option_map (λ p. n + p)) (sym (first_as (same_inst i row.inst)
    (map (λ (want : GoalRow). same_inst i want.inst) rows)))
  where
    by : (b : Bool) (o : Option ℕ) → place_from (n + 1) rows i ≡ option_map (λ p. (n + 1) + p) o
        → (if b then Some n else place_from (n + 1) rows i)
        ≡ option_map (λ p. n + p) (if b then Some 0 else option_map suc o)
    by true o more = let e : n ≡ n + 0 = omega arith in ap Some e
    by false (Some p) more = let e : (n + 1) + p ≡ n + suc p = omega arith in more ∙ ap Some e
    by false None more = more

zero_from : (o : Option ℕ) → option_map (λ p. 0 + p) o ≡ o
zero_from (Some p) = let e : 0 + p ≡ p = omega arith in ap Some e
zero_from None = refl

-- an instance at a place
abbrev placed : Option ℕ → Option Instance → Option Instance
placed (Some p) known = option_map (with_want (Some p)) known
placed None known = known

none_from : (n : ℕ) (rows : List GoalRow) (i j : Inst) → same_inst i j ≡ true
    → list_any (same_inst j) (map (λ (want : GoalRow). want.inst) rows) ≡ false → place_from n rows i ≡ None
none_from n [] i j is none = refl
none_from n (row ∷ rows) i j is none =
    by (same_inst j row.inst) refl none (none_from (n + 1) rows i j is)
  where
    by : (b : Bool) → same_inst j row.inst ≡ b
        → (b || list_any (same_inst j) (map (λ (want : GoalRow). want.inst) rows)) ≡ false
        → (list_any (same_inst j) (map (λ (want : GoalRow). want.inst) rows) ≡ false → place_from (n + 1) rows i ≡ None)
        → (if same_inst i row.inst then Some n else place_from (n + 1) rows i) ≡ None
    by true one none more = absurd (true≢false none)
    by false other none more =
        (λ k. if (ap (λ a. same_inst a row.inst) (same_is inst_cmp same_inst inst_order i j is) ∙ other) k then Some n
        else place_from (n + 1) rows i)
        ∙ more none

noted_from : (n : ℕ) (rows : List GoalRow) (es : List (Inst × Instance)) (i : Inst)
    → are_distinct same_inst (map (λ (want : GoalRow). want.inst) rows) ≡ true
    → found inst_cmp (fold want_noted es (enumerate_from n rows)) i ≡ placed (place_from n rows i) (found inst_cmp es i)
noted_from n [] es i apart = refl
noted_from n (row ∷ rows) es i apart =
    let (alone, rest) = and_parts (not (list_any (same_inst row.inst) (map (λ (want : GoalRow). want.inst) rows)))
    (are_distinct same_inst (map (λ (want : GoalRow). want.inst) rows)) apart in
    noted_from (n + 1) rows (want_noted es (n, row)) i rest
    ∙ (λ j. placed (place_from (n + 1) rows i) (one j))
    ∙ by (same_inst i row.inst) refl
    (not-true (list_any (same_inst row.inst) (map (λ (want : GoalRow). want.inst) rows)) alone)
  where
    one : found inst_cmp (want_noted es (n, row)) i
        ≡ (if same_inst i row.inst then option_map (with_want (Some n)) (found inst_cmp es i) else found inst_cmp es i)
    one =
        found_altered inst_cmp inst_order.keys row.inst (with_want (Some n)) es i
        ∙ (λ j. if (inst_order.at_is row.inst i ∙ flipped inst_cmp same_inst inst_order row.inst i) j
        then option_map (with_want (Some n)) (found inst_cmp es i) else found inst_cmp es i)

    by : (b : Bool) → same_inst i row.inst ≡ b
        → list_any (same_inst row.inst) (map (λ (want : GoalRow). want.inst) rows) ≡ false
        → placed (place_from (n + 1) rows i)
        (if same_inst i row.inst then option_map (with_want (Some n)) (found inst_cmp es i) else found inst_cmp es i)
        ≡ placed (if same_inst i row.inst then Some n else place_from (n + 1) rows i) (found inst_cmp es i)
    by true is none =
        (λ j. placed (none_from (n + 1) rows i row.inst is none j)
        (if is j then option_map (with_want (Some n)) (found inst_cmp es i) else found inst_cmp es i))
        ∙ (λ j. placed (if sym is j then Some n else place_from (n + 1) rows i) (found inst_cmp es i))
    by false other none =
        (λ j. placed (place_from (n + 1) rows i)
        (if other j then option_map (with_want (Some n)) (found inst_cmp es i) else found inst_cmp es i))
        ∙ (λ j. placed (if sym other j then Some n else place_from (n + 1) rows i) (found inst_cmp es i))

set_at : (place : Option ℕ) (known : Option Instance) (want : Option ℕ) → (is_some place ≡ true → is_some known ≡ true)
    → IsOnlyWanted known want → IsOnlyWanted (placed place known) (option_or place want)
set_at (Some p) (Some it) want there only = record { row = only.row; call = only.call; part = only.part; want = refl }
set_at (Some p) None want there only = absurd (false≢true (there refl))
set_at None known want there only = only

-- a goal is read
one_goal : (goal : Goal) (es : List (Inst × Instance)) (i : Inst) (want : Option ℕ)
    → are_distinct same_inst (map (λ (row : GoalRow). row.inst) goal.rows) ≡ true
    → IsOnlyWanted (found inst_cmp es i) want
    → IsOnlyWanted (found inst_cmp (goal_read es goal) i) (option_or (want_place goal.rows i) want)
one_goal goal es i want apart only =
    subst (λ known. IsOnlyWanted known (option_or (want_place goal.rows i) want))
    (sym (noted_from 0 goal.rows (fold want_room es goal.rows) i apart
    ∙ (λ j. placed ((place_is 0 goal.rows i ∙ zero_from (want_place goal.rows i)) j)
    (found inst_cmp (fold want_room es goal.rows) i))))
    (set_at (want_place goal.rows i) (found inst_cmp (fold want_room es goal.rows) i) want
    (λ has. rooms_there goal.rows es i (λ j. has j || is_some (found inst_cmp es i)))
    (rooms goal.rows es i want only))

-- ---- all deployments

-- a goal wants no instance of another deployment
none_of_others : (dep : List ℕ) (rows : List GoalRow) (i : Inst)
    → list_all (λ want. bytes_eq want.inst.dep dep) rows ≡ true → bytes_eq dep i.dep ≡ false → want_place rows i ≡ None
none_of_others dep [] i own other = refl
none_of_others dep (row ∷ rows) i own other =
    let (first, rest) = and_parts (bytes_eq row.inst.dep dep) (list_all (λ want. bytes_eq want.inst.dep dep) rows) own in
    by (same_inst i row.inst) refl first (none_of_others dep rows i rest other)
  where
    by : (b : Bool) → same_inst i row.inst ≡ b → bytes_eq row.inst.dep dep ≡ true → want_place rows i ≡ None
        → first_marked (same_inst i row.inst ∷ map (λ (want : GoalRow). same_inst i want.inst) rows) ≡ None
    by true is own none =
        absurd (true≢false (sym own ∙ bytes_flip row.inst.dep dep
        ∙ (λ j. bytes_eq dep (sym (same_is inst_cmp same_inst inst_order i row.inst is) j).dep) ∙ other))
    by false away own none =
        (λ j. first_marked (away j ∷ map (λ (want : GoalRow). same_inst i want.inst) rows)) ∙ ap (option_map suc) none

no_other : (row : DepRow) (deps : List DepRow) (dep : List ℕ) → bytes_eq row.dep dep ≡ true
    → list_any (same_deployment row) deps ≡ false → find (λ (it : DepRow). bytes_eq it.dep dep) deps ≡ None
no_other row [] dep is none = refl
no_other row (other ∷ deps) dep is none = by (same_deployment row other) refl none (no_other row deps dep is)
  where
    by : (b : Bool) → same_deployment row other ≡ b → (b || list_any (same_deployment row) deps) ≡ false
        → (list_any (same_deployment row) deps ≡ false → find (λ (it : DepRow). bytes_eq it.dep dep) deps ≡ None)
        → (if bytes_eq other.dep dep then Some other else find (λ (it : DepRow). bytes_eq it.dep dep) deps) ≡ None
    by true one none more = absurd (true≢false none)
    by false away none more =
        (λ j. if (bytes_flip other.dep dep ∙ ap (λ d. bytes_eq d other.dep) (sym (bytes_is row.dep dep is)) ∙ away) j
        then Some other else find (λ (it : DepRow). bytes_eq it.dep dep) deps)
        ∙ more none

-- how the goal of a deployment among these wants an instance
abbrev pub wanted_by : Option DepRow → Inst → Option ℕ
wanted_by row i = option_and_then (λ it. want_place it.goal.rows i) row

pub wants_are : (deps : List DepRow) → list_all has_own_rows deps ≡ true → are_distinct same_deployment deps ≡ true
    → (es : List (Inst × Instance)) (i : Inst) (want : Option ℕ) → IsOnlyWanted (found inst_cmp es i) want
    → IsOnlyWanted (found inst_cmp (fold wants_read es deps) i)
    (option_or (wanted_by (find (λ (it : DepRow). bytes_eq it.dep i.dep) deps) i) want)
wants_are [] own apart es i want only = only
wants_are (row ∷ deps) own apart es i want only =
    let (its_own, owns) = and_parts (has_own_rows row) (list_all has_own_rows deps) own in
    let (own_rows, once) = and_parts (list_all (λ (want : GoalRow). bytes_eq want.inst.dep row.dep) row.goal.rows)
    (are_distinct same_inst (map (λ (want : GoalRow). want.inst) row.goal.rows)) its_own in
    let (alone, rest) = and_parts (not (list_any (same_deployment row) deps)) (are_distinct same_deployment deps) apart in
    subst (λ w. IsOnlyWanted (found inst_cmp (fold wants_read es (row ∷ deps)) i) w)
    (by (bytes_eq row.dep i.dep) refl own_rows (not-true (list_any (same_deployment row) deps) alone))
    (wants_are deps owns rest (wants_read es row) i (option_or (want_place row.goal.rows i) want)
    (one_goal row.goal es i want once only))
  where
    test : DepRow → Bool
    test it = bytes_eq it.dep i.dep

    by : (b : Bool) → bytes_eq row.dep i.dep ≡ b
        → list_all (λ (want : GoalRow). bytes_eq want.inst.dep row.dep) row.goal.rows ≡ true
        → list_any (same_deployment row) deps ≡ false
        → option_or (wanted_by (find test deps) i) (option_or (want_place row.goal.rows i) want)
        ≡ option_or (wanted_by (if bytes_eq row.dep i.dep then Some row else find test deps) i) want
    by true is own_rows none =
        (λ j. option_or (wanted_by (no_other row deps i.dep is none j) i) (option_or (want_place row.goal.rows i) want))
        ∙ (λ j. option_or (wanted_by (if sym is j then Some row else find test deps) i) want)
    by false other own_rows none =
        (λ j. option_or (wanted_by (find test deps) i)
        (option_or (none_of_others row.dep row.goal.rows i own_rows other j) want))
        ∙ (λ j. option_or (wanted_by (if sym other j then Some row else find test deps) i) want)
