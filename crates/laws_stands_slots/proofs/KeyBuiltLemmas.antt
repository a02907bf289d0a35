-- A key is compiled.
use Rattle.std.proofs.Common.{◌≡◌, ◌∙◌, ℕ, ◌+◌, suc, Bool, true, false, ◌&&◌, not, List, [], ◌∷◌, map}
use Rattle.std.proofs.Common.{Option, Some, None, ap, refl, sym, subst, arith}
use Rattle.std.specs.Prelude.{cond, is_some, length, nat_lt, if◌then◌else◌}
use Rattle.std.specs.List.{position, position_or_len}
use Rattle.std.specs.BTreeMap.{is_at}
use Rattle.std.specs.Option.{option_and_then, option_map, option_map_or}
use Rattle.std.specs.Cmp.Lexicographic.{slice_cmp}
use Rattle.std.specs.Ordering.{is_eq, nat_cmp, ordering_then}
use Rattle.std.proofs.lemmas.Bool.{false≢true}
use Rattle.std.proofs.lemmas.Bool.Decides.{nat_tests}
use Rattle.std.proofs.lemmas.Map.Text.{is_eq-slice_cmp}
use Rattle.bosh_base.specs.ExactParts.{Decides-key}
use Rattle.bosh_base.specs.contracts.key.KeyPartialEq.TheImpl as key_test
use Rattle.bosh_base.specs.declared.call.Call.TheVariants.{CompilePackage}
use Rattle.bosh_base.specs.declared.digest.Digest.{Digest}
use Rattle.bosh_base.specs.declared.key.Key.{Key}
use Rattle.bosh_base.specs.declared.key.KeyWork.{KeyWork}
use Rattle.bosh_compile.proofs.KeyLemmas.{same_key_decides}
use Rattle.bosh_compile.specs.Readiness.{same_key}
use Rattle.bosh_fold.specs.Calls.{built_in}
use Rattle.bosh_history.specs.Known.{Known}
use Rattle.bosh_history.specs.Slots.{is_compiled}
use Rattle.bosh_progress.specs.Tree.{first_marked}
use Rattle.bosh_records.specs.Keys.{built_as, key_cmp}
use Rattle.bosh_records.specs.Recorded.{Recorded}
use Rattle.bosh_records.specs.Table.{altered, each_thing}
use Rattle.bosh_records.specs.declared.keys.KeyState.{KeyState}
use Rattle.bosh_work.specs.Finished.{key_place, without_key}
use Rattle.bosh_work.specs.Line.{finished_line}
use Rattle.bosh_work.specs.declared.line.Line.{Line}
use Rattle.bosh_work.specs.declared.part.MachineName.{MachineName}
use Rattle.bosh_work.specs.declared.work.Work.{Work}
use Rattle.laws_stands.proofs.LineLemmas.{stands_finished}
use Rattle.laws_stands.proofs.MarkLemmas.{one_more}
use Rattle.laws_stands.specs.LineStands.{LineStands, place_of}
use Rattle.laws_stands.specs.Linked.{IsLinked}
use Rattle.laws_stands.specs.Reading.{digest_of, is_compiling, state_of, work_of}
use Rattle.laws_stands.specs.Stands.{IsWork, StandsIn, StandsInOrder}
use Rattle.laws_stands.specs.Told.{Told, is_going}
use Rattle.laws_stands.specs.WorkStands.{StandsFor, is_worked_for, keys_in}
use Rattle.laws_stands_on.proofs.ChangedLemmas.{each_found}
use Rattle.laws_stands_on.proofs.KeyLemmas.{eq_then, key_keys}
use Rattle.laws_stands_on.proofs.LinkLemmas.{ListsSame, links_go_on}
use Rattle.laws_stands_on.proofs.TableLemmas.{found_altered}
use Rattle.laws_stands_on.proofs.TellsLemmas.{tells_as_well}
use Rattle.laws_stands_on.proofs.WorksLemmas.{works_go_on, works_were}
use Rattle.laws_stands_slots.specs.Slots.{AreKeysApart, told_built}

-- ---- tests of keys

-- the order of keys compares as equal just those that are the same
pub key_at : (a b : Key) → is_at (key_cmp a) b ≡ same_key a b
key_at a b =
    eq_then (slice_cmp nat_cmp a.fingerprint.0 b.fingerprint.0)
    (ordering_then (slice_cmp nat_cmp a.os b.os) (slice_cmp nat_cmp a.version b.version))
    ∙ ap (λ (t : Bool). is_eq (slice_cmp nat_cmp a.fingerprint.0 b.fingerprint.0) && t)
    (eq_then (slice_cmp nat_cmp a.os b.os) (slice_cmp nat_cmp a.version b.version))
    ∙ (λ i. is_eq-slice_cmp a.fingerprint.0 b.fingerprint.0 i
    && (is_eq-slice_cmp a.os b.os i && is_eq-slice_cmp a.version b.version i))

-- a key that is tested the other way round
tested : (a b : Key) → key_test.ghosts.eq b a ≡ same_key a b
tested a b = by (key_test.ghosts.eq b a) (same_key a b) refl refl
  where
    by : (t u : Bool) → key_test.ghosts.eq b a ≡ t → same_key a b ≡ u → t ≡ u
    by true true one other = refl
    by false false one other = refl
    by true false one other = absurd (false≢true (sym other
        ∙ (same_key_decides a b).1 (sym ((Decides-key b a).0 one))))
    by false true one other = absurd (false≢true (sym one
        ∙ (Decides-key b a).1 (sym ((same_key_decides a b).0 other))))

-- the first place at which a test passes is the first that is marked
placed : {T : Type 0} (p : T → Bool) (xs : List T) → position p xs ≡ first_marked (map p xs)
placed p [] = refl
placed p (x ∷ xs) = by (p x) (placed p xs)
  where
    m : ℕ
    m = position_or_len p xs

    l : ℕ
    l = length xs

    low : nat_lt 0 (suc l) ≡ true
    low = grind (arith, nat_tests)

    shift : nat_lt (1 + m) (suc l) ≡ nat_lt m l
    shift = grind (arith, nat_tests)

    one : 1 + m ≡ suc m
    one = omega arith

    later : (b : Bool) → cond b (Some (suc m)) None ≡ option_map suc (cond b (Some m) None)
    later true = refl
    later false = refl

    by : (b : Bool) → position p xs ≡ first_marked (map p xs)
        → cond (nat_lt (cond (not b) (1 + m) 0) (suc l)) (Some (cond (not b) (1 + m) 0)) None
        ≡ first_marked (b ∷ map p xs)
    by true more = λ j. cond (low j) (Some 0) None
    by false more = (λ j. cond (shift j) (Some (one j)) None) ∙ later (nat_lt m l) ∙ ap (option_map suc) more

key_placed : (key : Key) (keys : List Key) → key_place key keys ≡ place_of same_key key keys
key_placed key keys = (λ j. position (λ it. tested key it j) keys) ∙ placed (same_key key) keys

-- ---- what is recorded

module _ (told : Told) (it : Recorded) (vm : ℕ) (work : KeyWork) (deps : List Digest) (digest : Digest)
    (apart : AreKeysApart told) (place : is_some (state_of it work.key) ≡ true) (stands : StandsIn told it) where
  abbrev k : Known
  k = told.known

  abbrev new : Told
  new = told_built work digest told

  abbrev now : Recorded
  now = record it {
    works = each_thing (without_key work.key) it.works;
    keys = altered key_cmp work.key (built_as work digest) it.keys;
  }

  state_is : (key : Key) → state_of now key
      ≡ (if same_key work.key key then option_map (built_as work digest) (state_of it key) else state_of it key)
  state_is key = found_altered key_cmp key_keys work.key (built_as work digest) it.keys key
      ∙ (λ j. if key_at work.key key j then option_map (built_as work digest) (state_of it key) else state_of it key)

  digests : (key : Key) → digest_of now key ≡ new.known.digest key
  digests key = ap (option_and_then (λ (state : KeyState). state.digest)) (state_is key)
      ∙ by (same_key work.key key) refl
    where
      own : (o : Option KeyState) → is_some o ≡ true
          → option_and_then (λ (state : KeyState). state.digest) (option_map (built_as work digest) o) ≡ Some digest
      own (Some state) is = refl
      own None is = absurd (false≢true is)

      by : (b : Bool) → same_key work.key key ≡ b
          → option_and_then (λ (state : KeyState). state.digest)
          (if b then option_map (built_as work digest) (state_of it key) else state_of it key)
          ≡ (if b then Some digest else k.digest key)
      by true is = own (state_of it key)
          (ap (λ key. is_some (state_of it key)) (sym ((same_key_decides work.key key).0 is)) ∙ place)
      by false is = stands.digests key

  compiling : (key : Key) → is_compiling now key ≡ is_compiling it key
  compiling key = ap (λ o. option_map_or (λ (state : KeyState). is_some state.call) o false) (state_is key)
      ∙ by (same_key work.key key) (state_of it key)
    where
      by : (b : Bool) (o : Option KeyState)
          → option_map_or (λ (state : KeyState). is_some state.call)
          (if b then option_map (built_as work digest) o else o) false
          ≡ option_map_or (λ (state : KeyState). is_some state.call) o false
      by true (Some state) = refl
      by true None = refl
      by false o = refl

  -- ---- works

  works_are : (t : ℕ) → work_of now t ≡ option_map (without_key work.key) (work_of it t)
  works_are t = each_found (without_key work.key) it.works t

  keys_stand : (t : ℕ) (line : Line Key) → is_going k t ≡ true
      → LineStands (keys_in (k.task t).goal) (λ key. not (is_compiled k key)) (λ key. not (is_worked_for k t key)) line
      → LineStands (keys_in (k.task t).goal) (λ key. not (is_compiled new.known key))
      (λ key. not (is_worked_for k t key)) (finished_line line (key_place work.key line.items))
  keys_stand t line going line_stands =
      subst (λ place. LineStands (keys_in (k.task t).goal) (λ key. not (is_compiled new.known key))
      (λ key. not (is_worked_for k t key)) (finished_line line place))
      (sym (ap (key_place work.key) line_stands.items_are ∙ key_placed work.key (keys_in (k.task t).goal)))
      (stands_finished same_key (λ a b. (same_key_decides a b).0) (keys_in (k.task t).goal) work.key
      (one_more same_key (λ a b. (same_key_decides a b).0) (keys_in (k.task t).goal) (apart t going) work.key)
      (λ key. not (is_compiled k key)) (λ key. not (is_worked_for k t key)) (λ key. not (is_compiled new.known key))
      (λ key. not (is_worked_for k t key)) line (λ key. by key (same_key work.key key)) (λ key. refl) line_stands)
    where
      by : (key : Key) (b : Bool) → not (is_some (if b then Some digest else k.digest key))
          ≡ (if b then false else not (is_some (k.digest key)))
      by key true = refl
      by key false = refl

  built_stands : (t : ℕ) (swept : List MachineName) (w : Work) → work_of it t ≡ Some w → is_going k t ≡ true
      → StandsFor told (k.task t) t swept w → StandsFor new (k.task t) t swept (without_key work.key w)
  built_stands t swept w is going work_stands = record {
    task_is = work_stands.task_is;
    pings = work_stands.pings;
    obsolete = work_stands.obsolete;
    disks = work_stands.disks;
    sweep = work_stands.sweep;
    keys = keys_stand t w.keys going work_stands.keys;
    slots_are = work_stands.slots_are;
    machines_are = work_stands.machines_are;
    changed_are = work_stands.changed_are;
    groups_stand = work_stands.groups_stand;
    failed_is = work_stands.failed_is;
    open_are = work_stands.open_are;
  }

  works : (t : ℕ) → IsWork new t (work_of now t)
  works = works_go_on told new it now (λ t. without_key work.key) (record {
    going = λ t. refl;
    snapped = refl;
    works = works_are;
    stands = built_stands;
    swept = λ t swept are. are;
  }) stands.works

  lists_same : (t : ℕ) (w : Work) → ListsSame (without_key work.key w) w
  lists_same t w = record { pings = refl; obsolete = refl; changed = refl; sweep = refl; disks = refl }

  linked : IsLinked now
  linked = links_go_on it now (record {
    wants = λ i. refl;
    goals = λ dep. refl;
    parts = λ i. refl;
    deps = λ t. refl;
    works = works_were it now (λ t. without_key work.key) works_are lists_same;
    machines = λ name. refl;
    orphans = λ d. refl;
  }) stands.linked

  pub key_built : StandsInOrder new (built_in (CompilePackage vm work deps) (Some digest) it)
  key_built = λ ordered. record {
    uploads = stands.uploads;
    deployments = stands.deployments;
    rows = stands.rows;
    row_calls = stands.row_calls;
    machines = stands.machines;
    machine_keys = stands.machine_keys;
    machine_calls = stands.machine_calls;
    orphans = stands.orphans;
    orphan_calls = stands.orphan_calls;
    digests = digests;
    compiling = λ key. compiling key ∙ stands.compiling key;
    tasks = stands.tasks;
    calls = stands.calls;
    works = works;
    linked = linked;
    ordered = ordered;
    tells_well = tells_as_well told new refl refl refl refl refl refl stands.tells_well;
  }
