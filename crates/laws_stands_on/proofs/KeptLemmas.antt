-- The groups go on to stand where one instance changes.
use Rattle.std.proofs.Common.{◌≡◌, ◌∙◌, ℕ, ◌+◌, suc, Bool, true, false, ◌&&◌, ◌||◌, not, List, [], ◌∷◌, map, filter}
use Rattle.std.proofs.Common.{Option, Some, None, ap, refl, sym, subst}
use Rattle.std.specs.Prelude.{slice_get, slice_index_or, slice_set, if◌then◌else◌}
use Rattle.std.specs.Option.{option_map}
use Rattle.std.specs.Str.{bytes_eq}
use Rattle.std.proofs.lemmas.Bool.{and_parts, not-true, or_parts, true≢false}
use Rattle.bosh_base.specs.declared.inst.Inst.{Inst}
use Rattle.bosh_base.specs.declared.failure.Failure.{Failure}
use Rattle.bosh_base.specs.declared.task.TaskEnd.{TaskEnd}
use Rattle.bosh_history.specs.Calls.{task_with_call}
use Rattle.bosh_history.specs.Goals.{changed_in, is_waiting}
use Rattle.bosh_history.specs.Known.{Task}
use Rattle.bosh_history.specs.Updates.{update_at}
use Rattle.bosh_history.specs.Words.{at, is_among}
use Rattle.bosh_rows.specs.SoundSnapshot.{are_distinct}
use Rattle.bosh_progress.specs.Tree.{first_marked}
use Rattle.bosh_progress.specs.declared.rolling.Rolling.{Rolling}
use Rattle.bosh_roll.specs.Upd.{is_busy}
use Rattle.bosh_roll.specs.declared.upd.Upd.{Upd}
use Rattle.bosh_roll.specs.declared.upd.Upd.TheVariants.{Busy, Finished}
use Rattle.bosh_rows.specs.Same.{same_inst}
use Rattle.bosh_work.specs.Rolling.{at_change, begun, finished, given, taken, with_roll}
use Rattle.bosh_work.specs.declared.groups.GroupWork.{GroupWork}
use Rattle.laws_stands.specs.GroupsStand.{EachStands, GroupStands, GroupsStand, both_places, change_place, gone_on}
use Rattle.laws_stands.specs.GroupsStand.{names_of}
use Rattle.laws_stands.specs.LineStands.{place_of}
use Rattle.laws_stands.proofs.MemberLemmas.{apart_filtered, bytes_is, inst_is, once_apart}
use Rattle.laws_stands.proofs.MarkLemmas.{at_place, one_more, placed, same_marks, set_at, set_same, unchanged}

-- ---- marks of the instances of a group, where what is known of one instance changes

-- none of the instances of another group is the one
none_of_others : (i : Inst) (group : List ℕ) (xs : List Inst) → bytes_eq i.group group ≡ false
    → is_among same_inst i (filter (λ x. bytes_eq x.group group) xs) ≡ false
none_of_others i group [] other = refl
none_of_others i group (x ∷ xs) other = by (bytes_eq x.group group) refl (none_of_others i group xs other)
  where
    differs : (b : Bool) → same_inst i x ≡ b → bytes_eq x.group group ≡ true → same_inst i x ≡ false
    differs true same is =
        absurd (true≢false (sym is ∙ ap (λ y. bytes_eq y.group group) (sym (inst_is i x same)) ∙ other))
    differs false same is = same

    by : (b : Bool) → bytes_eq x.group group ≡ b → is_among same_inst i (filter (λ x. bytes_eq x.group group) xs)
        ≡ false
        → is_among same_inst i (if b then x ∷ filter (λ x. bytes_eq x.group group) xs
        else filter (λ x. bytes_eq x.group group) xs) ≡ false
    by true is more = λ j. differs (same_inst i x) refl is j || more j
    by false is more = more

-- a test of what is known, once that of one instance is told anew
told_anew : {A : Type 0} (f : A → Bool) (i : Inst) (u : A) (old : Inst → A) (x : Inst) → f (at same_inst i u old x)
    ≡ at same_inst i (f u) (λ x. f (old x)) x
told_anew f i u old x = by (same_inst i x)
  where
    by : (b : Bool) → f (if b then u else old x) ≡ (if b then f u else f (old x))
    by true = refl
    by false = refl

none_marked : (i : Inst) (xs : List Inst) → place_of same_inst i xs ≡ None → is_among same_inst i xs ≡ false
none_marked i [] is = refl
none_marked i (x ∷ xs) is = by (same_inst i x) (λ is. none_marked i xs is) is
  where
    later : (k : Option ℕ) → option_map suc k ≡ None → k ≡ None
    later None is = refl
    later (Some k) is = absurd cc

    by : (b : Bool) → (place_of same_inst i xs ≡ None → is_among same_inst i xs ≡ false)
        → first_marked (b ∷ map (same_inst i) xs) ≡ None → (b || is_among same_inst i xs) ≡ false
    by true more is = absurd cc
    by false more is = more (later (place_of same_inst i xs) is)

module _ (t : Task) (pinged : Inst → Bool) (upd : Inst → Upd) (gone : Inst → Bool) (failed : Option Failure)
    (calls : Option ℕ) (end : Option TaskEnd) (idle idle' : Inst → Bool) (i : Inst) (waits begins rests : Bool)
    (waiting_are : (x : Inst) → is_waiting (upd x) ≡ at same_inst i waits (λ x. is_waiting (t.upd x)) x)
    (busy_are : (x : Inst) → is_busy (upd x) ≡ at same_inst i begins (λ x. is_busy (t.upd x)) x)
    (idle_are : (x : Inst) → (is_busy (upd x) && idle' x) ≡ at same_inst i rests (λ x. is_busy (t.upd x)
    && idle x) x)
    (apart : are_distinct same_inst t.changed ≡ true) where
  abbrev t' : Task
  t' = gone_on t pinged upd gone failed calls end

  marks_stay : (f g : Inst → Bool) (b : Bool) (group : List ℕ) → is_among same_inst i (changed_in t group) ≡ false
      → ((x : Inst) → g x ≡ at same_inst i b f x)
      → map g (changed_in t group) ≡ map f (changed_in t group)
  marks_stay f g b group other now = same_marks g (at same_inst i b f) (changed_in t group) now
      ∙ unchanged same_inst i b f (changed_in t group) other

  stays : (group : List ℕ) (it : GroupWork) → is_among same_inst i (changed_in t group) ≡ false
      → GroupStands t idle group it → GroupStands t' idle' group it
  stays group it other stands = record {
    stage_is = stands.stage_is;
    canaries_are = stands.canaries_are;
    limit_is = stands.limit_is;
    places_are = stands.places_are;
    waiting_are = stands.waiting_are
        ∙ sym (marks_stay (λ x. is_waiting (t.upd x)) (λ x. is_waiting (upd x)) waits group other waiting_are);
    busy_are = stands.busy_are
        ∙ sym (marks_stay (λ x. is_busy (t.upd x)) (λ x. is_busy (upd x)) begins group other busy_are);
    idle_are = stands.idle_are
        ∙ sym (marks_stay (λ x. is_busy (t.upd x) && idle x) (λ x. is_busy (upd x) && idle' x) rests group other
        idle_are);
  }

  others_stay : (names : List (List ℕ)) (groups : List GroupWork) → is_among bytes_eq i.group names ≡ false
      → EachStands t idle names groups → EachStands t' idle' names groups
  others_stay [] [] other each = tt
  others_stay (group ∷ names) (it ∷ groups) other (here, more) =
      let parts : (bytes_eq i.group group ≡ false) × (is_among bytes_eq i.group names ≡ false) =
      or_parts (bytes_eq i.group group) (is_among bytes_eq i.group names) other in
      (stays group it (none_of_others i group t.changed parts.0) here, others_stay names groups parts.1 more)
  others_stay [] (it ∷ groups) other each = absurd each
  others_stay (group ∷ names) [] other each = absurd each

  -- the change of a group, at the place of the instance
  module _ (change : ℕ → Rolling → Rolling)
      (changes : (place : ℕ) (it : GroupWork) → place_of same_inst i (changed_in t i.group) ≡ Some place
      → GroupStands t idle i.group it
      → GroupStands t' idle' i.group (record it { roll = change place it.roll })) where
    abbrev changed_at : List GroupWork → Option ℕ → Option ℕ → List GroupWork
    changed_at groups (Some g) (Some place) = with_roll groups g (slice_get groups g) (change place)
    changed_at groups g place = groups

    own : (it : GroupWork) (names : List (List ℕ)) (groups : List GroupWork) (place : Option ℕ)
        → place_of same_inst i (changed_in t i.group) ≡ place
        → GroupStands t idle i.group it → EachStands t' idle' names groups → EachStands t' idle' (i.group ∷ names)
        (changed_at (it ∷ groups) (Some 0) place)
    own it names groups (Some place) is here more = (changes place it is here, more)
    own it names groups None is here more = (stays i.group it (none_marked i (changed_in t i.group) is) here, more)

    further : (group : List ℕ) (it : GroupWork) (names : List (List ℕ)) (groups : List GroupWork)
        (g place : Option ℕ)
        → GroupStands t' idle' group it → EachStands t' idle' names (changed_at groups g place)
        → EachStands t' idle' (group ∷ names) (changed_at (it ∷ groups) (option_map suc g) place)
    further group it names groups None place here more = (here, more)
    further group it names groups (Some g) None here more = (here, more)
    further group it names groups (Some g) (Some place) here more = by (slice_get groups g) more
      where
        by : (o : Option GroupWork) → EachStands t' idle' names (with_roll groups g o (change place))
            → EachStands t' idle' (group ∷ names) (with_roll (it ∷ groups) (suc g) o (change place))
        by (Some one) more = (here, more)
        by None more = (here, more)

    each_changed : (names : List (List ℕ)) (groups : List GroupWork) → are_distinct bytes_eq names ≡ true
        → EachStands t idle names groups
        → EachStands t' idle' names (changed_at groups (place_of bytes_eq i.group names)
        (place_of same_inst i (changed_in t i.group)))
    each_changed [] [] names_apart each = tt
    each_changed (group ∷ names) (it ∷ groups) names_apart (here, more) =
        let parts : (not (is_among bytes_eq group names) ≡ true) × (are_distinct bytes_eq names ≡ true) =
        and_parts (not (is_among bytes_eq group names)) (are_distinct bytes_eq names) names_apart in
        by (bytes_eq i.group group) refl (not-true (is_among bytes_eq group names) parts.0)
        (each_changed names groups parts.1 more)
      where
        place : Option ℕ
        place = place_of same_inst i (changed_in t i.group)

        by : (b : Bool) → bytes_eq i.group group ≡ b → is_among bytes_eq group names ≡ false
            → EachStands t' idle' names (changed_at groups (place_of bytes_eq i.group names)
            (place_of same_inst i (changed_in t i.group)))
            → EachStands t' idle' (group ∷ names)
            (changed_at (it ∷ groups) (first_marked (b ∷ map (bytes_eq i.group) names))
            (place_of same_inst i (changed_in t i.group)))
        by true is none rest =
            let same : i.group ≡ group = bytes_is i.group group is in
            subst (λ n. EachStands t' idle' (n ∷ names)
            (changed_at (it ∷ groups) (Some 0) (place_of same_inst i (changed_in t i.group)))) same
            (own it names groups (place_of same_inst i (changed_in t i.group)) refl
            (subst (λ n. GroupStands t idle n it) (sym same) here)
            (others_stay names groups (subst (λ n. is_among bytes_eq n names ≡ false) (sym same) none) more))
        by false is none rest =
            further group it names groups (place_of bytes_eq i.group names)
            (place_of same_inst i (changed_in t i.group))
            (stays group it (none_of_others i group t.changed is) here) rest
    each_changed [] (it ∷ groups) names_apart each = absurd each
    each_changed (group ∷ names) [] names_apart each = absurd each

    at_places : (groups : List GroupWork) (g place : Option ℕ) → changed_at groups g place
        ≡ at_change change groups (both_places g place)
    at_places groups (Some g) (Some place) = refl
    at_places groups (Some g) None = refl
    at_places groups None place = refl

    pub groups_changed : (groups : List GroupWork) → GroupsStand t idle groups
        → GroupsStand t' idle' (at_change change groups (change_place t.changed i))
    groups_changed groups stands =
        subst (EachStands t' idle' (names_of t.changed))
        (at_places groups (place_of bytes_eq i.group (names_of t.changed))
        (place_of same_inst i (changed_in t i.group)))
        (each_changed (names_of t.changed) groups (once_apart (map (λ i. i.group) t.changed)) stands)

-- ---- an update begins, and a call of it

marks_set : (t : Task) (i : Inst) (apart : are_distinct same_inst t.changed ≡ true) (f g : Inst → Bool) (b : Bool)
    (place : ℕ) (ms : List Bool)
    → place_of same_inst i (changed_in t i.group) ≡ Some place → ms ≡ map f (changed_in t i.group)
    → ((x : Inst) → g x ≡ at same_inst i b f x) → slice_set ms place b ≡ map g (changed_in t i.group)
marks_set t i apart f g b place ms place_is are now =
    ap (λ ms. slice_set ms place b) are
    ∙ sym (same_marks g (at same_inst i b f) (changed_in t i.group) now
    ∙ one_more same_inst inst_is (changed_in t i.group)
    (apart_filtered same_inst (λ x. bytes_eq x.group i.group) t.changed apart) i b f
    ∙ ap (λ k. set_at k b (map f (changed_in t i.group))) place_is)

module _ (t : Task) (idle : Inst → Bool) (i : Inst) (apart : are_distinct same_inst t.changed ≡ true)
    (groups : List GroupWork) (stands : GroupsStand t idle groups) where
  -- the update of an instance begins, of which no call is open
  pub update_begun : idle i ≡ true → GroupsStand (update_at Busy i t) idle
      (at_change begun groups (change_place t.changed i))
  update_begun rests = groups_changed t t.pinged (at same_inst i Busy t.upd) t.gone t.failed t.calls t.end idle idle
      i false true true waits busy idles apart begun one groups stands
    where
      waits : (x : Inst) → is_waiting (at same_inst i Busy t.upd x)
          ≡ at same_inst i false (λ x. is_waiting (t.upd x)) x
      waits x = told_anew is_waiting i Busy t.upd x

      busy : (x : Inst) → is_busy (at same_inst i Busy t.upd x) ≡ at same_inst i true (λ x. is_busy (t.upd x)) x
      busy x = told_anew is_busy i Busy t.upd x

      idles : (x : Inst) → (is_busy (at same_inst i Busy t.upd x) && idle x)
          ≡ at same_inst i true (λ x. is_busy (t.upd x) && idle x) x
      idles x = by (same_inst i x) refl
        where
          by : (b : Bool) → same_inst i x ≡ b → (is_busy (if b then Busy else t.upd x) && idle x)
              ≡ (if b then true else is_busy (t.upd x) && idle x)
          by true is = ap idle (sym (inst_is i x is)) ∙ rests
          by false is = refl

      one : (place : ℕ) (it : GroupWork) → place_of same_inst i (changed_in t i.group) ≡ Some place
          → GroupStands t idle i.group it
          → GroupStands (update_at Busy i t) idle i.group (record it { roll = begun place it.roll })
      one place it place_is g = record {
        stage_is = g.stage_is;
        canaries_are = g.canaries_are;
        limit_is = g.limit_is;
        places_are = g.places_are;
        waiting_are = marks_set t i apart (λ x. is_waiting (t.upd x))
            (λ x. is_waiting (at same_inst i Busy t.upd x)) false place it.roll.waiting place_is g.waiting_are
            waits;
        busy_are = marks_set t i apart (λ x. is_busy (t.upd x)) (λ x. is_busy (at same_inst i Busy t.upd x)) true
            place it.roll.busy place_is g.busy_are busy;
        idle_are = marks_set t i apart (λ x. is_busy (t.upd x) && idle x)
            (λ x. is_busy (at same_inst i Busy t.upd x) && idle x) true place it.roll.idle place_is g.idle_are
            idles;
      }

  -- .. and is done
  pub update_finished : GroupsStand (update_at Finished i t) idle
      (at_change finished groups (change_place t.changed i))
  update_finished = groups_changed t t.pinged (at same_inst i Finished t.upd) t.gone t.failed t.calls t.end idle idle
      i false false false waits busy idles apart finished one groups stands
    where
      waits : (x : Inst) → is_waiting (at same_inst i Finished t.upd x)
          ≡ at same_inst i false (λ x. is_waiting (t.upd x)) x
      waits x = told_anew is_waiting i Finished t.upd x

      busy : (x : Inst) → is_busy (at same_inst i Finished t.upd x) ≡ at same_inst i false (λ x. is_busy (t.upd x)) x
      busy x = told_anew is_busy i Finished t.upd x

      idles : (x : Inst) → (is_busy (at same_inst i Finished t.upd x) && idle x)
          ≡ at same_inst i false (λ x. is_busy (t.upd x) && idle x) x
      idles x = by (same_inst i x)
        where
          by : (b : Bool) → (is_busy (if b then Finished else t.upd x) && idle x)
              ≡ (if b then false else is_busy (t.upd x) && idle x)
          by true = refl
          by false = refl

      one : (place : ℕ) (it : GroupWork) → place_of same_inst i (changed_in t i.group) ≡ Some place
          → GroupStands t idle i.group it
          → GroupStands (update_at Finished i t) idle i.group (record it { roll = finished place it.roll })
      one place it place_is g = record {
        stage_is = g.stage_is;
        canaries_are = g.canaries_are;
        limit_is = g.limit_is;
        places_are = g.places_are;
        waiting_are = marks_set t i apart (λ x. is_waiting (t.upd x))
            (λ x. is_waiting (at same_inst i Finished t.upd x)) false place it.roll.waiting place_is g.waiting_are
            waits;
        busy_are = marks_set t i apart (λ x. is_busy (t.upd x)) (λ x. is_busy (at same_inst i Finished t.upd x)) false
            place it.roll.busy place_is g.busy_are busy;
        idle_are = marks_set t i apart (λ x. is_busy (t.upd x) && idle x)
            (λ x. is_busy (at same_inst i Finished t.upd x) && idle x) false place it.roll.idle place_is g.idle_are
            idles;
      }

  -- a call of an instance begins
  pub call_begun : (idle' : Inst → Bool) → ((x : Inst) → idle' x ≡ at same_inst i false idle x)
      → GroupsStand (task_with_call t) idle' (at_change taken groups (change_place t.changed i))
  call_begun idle' now =
      groups_changed t t.pinged t.upd t.gone t.failed (option_map (λ n. n + 1) t.calls) t.end idle idle' i
      (is_waiting (t.upd i)) (is_busy (t.upd i)) false (same is_waiting) (same is_busy) idles apart taken one
      groups stands
    where
      same : (f : Upd → Bool) (x : Inst) → f (t.upd x) ≡ at same_inst i (f (t.upd i)) (λ x. f (t.upd x)) x
      same f x = by (same_inst i x) refl
        where
          by : (b : Bool) → same_inst i x ≡ b → f (t.upd x) ≡ (if b then f (t.upd i) else f (t.upd x))
          by true is = ap (λ y. f (t.upd y)) (sym (inst_is i x is))
          by false is = refl

      idles : (x : Inst) → (is_busy (t.upd x) && idle' x) ≡ at same_inst i false (λ x. is_busy (t.upd x)
          && idle x) x
      idles x = ap (λ d. is_busy (t.upd x) && d) (now x) ∙ by (same_inst i x) (is_busy (t.upd x)) (idle x)
        where
          by : (b u d : Bool) → (u && (if b then false else d)) ≡ (if b then false else u && d)
          by true true d = refl
          by true false d = refl
          by false u d = refl

      one : (place : ℕ) (it : GroupWork) → place_of same_inst i (changed_in t i.group) ≡ Some place
          → GroupStands t idle i.group it
          → GroupStands (task_with_call t) idle' i.group (record it { roll = taken place it.roll })
      one place it place_is g = record {
        stage_is = g.stage_is;
        canaries_are = g.canaries_are;
        limit_is = g.limit_is;
        places_are = g.places_are;
        waiting_are = g.waiting_are;
        busy_are = g.busy_are;
        idle_are = marks_set t i apart (λ x. is_busy (t.upd x) && idle x) (λ x. is_busy (t.upd x)
            && idle' x) false place it.roll.idle place_is g.idle_are idles;
      }

  -- a call of an instance ends; its task may have been told a ping, or a failure
  pub call_given : (pinged : Inst → Bool) (failed : Option Failure) (idle' : Inst → Bool)
      → ((x : Inst) → idle' x ≡ at same_inst i true idle x)
      → GroupsStand (gone_on t pinged t.upd t.gone failed t.calls t.end) idle'
      (at_change given groups (change_place t.changed i))
  call_given pinged failed idle' now =
      groups_changed t pinged t.upd t.gone failed t.calls t.end idle idle' i (is_waiting (t.upd i))
      (is_busy (t.upd i)) (is_busy (t.upd i)) (same is_waiting) (same is_busy) idles apart given one groups
      stands
    where
      same : (f : Upd → Bool) (x : Inst) → f (t.upd x) ≡ at same_inst i (f (t.upd i)) (λ x. f (t.upd x)) x
      same f x = by (same_inst i x) refl
        where
          by : (b : Bool) → same_inst i x ≡ b → f (t.upd x) ≡ (if b then f (t.upd i) else f (t.upd x))
          by true is = ap (λ y. f (t.upd y)) (sym (inst_is i x is))
          by false is = refl

      idles : (x : Inst) → (is_busy (t.upd x) && idle' x) ≡ at same_inst i (is_busy (t.upd i))
          (λ x. is_busy (t.upd x) && idle x) x
      idles x = ap (λ d. is_busy (t.upd x) && d) (now x) ∙ by (same_inst i x) refl
        where
          and_true : (a : Bool) → (a && true) ≡ a
          and_true true = refl
          and_true false = refl

          by : (b : Bool) → same_inst i x ≡ b → (is_busy (t.upd x) && (if b then true else idle x))
              ≡ (if b then is_busy (t.upd i) else is_busy (t.upd x) && idle x)
          by true is = and_true (is_busy (t.upd x)) ∙ ap (λ y. is_busy (t.upd y)) (sym (inst_is i x is))
          by false is = refl

      one : (place : ℕ) (it : GroupWork) → place_of same_inst i (changed_in t i.group) ≡ Some place
          → GroupStands t idle i.group it
          → GroupStands (gone_on t pinged t.upd t.gone failed t.calls t.end) idle' i.group
          (record it { roll = given place it.roll })
      one place it place_is g = record {
        stage_is = g.stage_is;
        canaries_are = g.canaries_are;
        limit_is = g.limit_is;
        places_are = g.places_are;
        waiting_are = g.waiting_are;
        busy_are = g.busy_are;
        idle_are =
            (λ j. if busy_at j then slice_set it.roll.idle place true else it.roll.idle)
            ∙ by (is_busy (t.upd i)) refl
            ∙ marks_set t i apart (λ x. is_busy (t.upd x) && idle x) (λ x. is_busy (t.upd x) && idle' x)
            (is_busy (t.upd i)) place it.roll.idle place_is g.idle_are idles;
      }
        where
          here : (x : Inst) × (slice_get (changed_in t i.group) place ≡ Some x) × (same_inst i x ≡ true)
          here = placed (same_inst i) (changed_in t i.group) place place_is

          busy_at : slice_index_or it.roll.busy place false ≡ is_busy (t.upd i)
          busy_at =
              ap (λ ms. slice_index_or ms place false) g.busy_are ∙ at_place (λ x. is_busy (t.upd x))
              (changed_in t i.group) place here.0 here.1
              ∙ ap (λ y. is_busy (t.upd y)) (sym (inst_is i here.0 here.2))

          by : (b : Bool) → is_busy (t.upd i) ≡ b → (if is_busy (t.upd i) then slice_set it.roll.idle place true
              else it.roll.idle) ≡ slice_set it.roll.idle place (is_busy (t.upd i))
          by true is = (λ j. if is j then slice_set it.roll.idle place true else it.roll.idle)
              ∙ ap (slice_set it.roll.idle place) (sym is)
          by false is =
              (λ j. if is j then slice_set it.roll.idle place true else it.roll.idle)
              ∙ set_same (is_busy (t.upd i)) it.roll.idle place
              (ap (λ ms. slice_index_or ms place false) g.idle_are ∙ at_place (λ x. is_busy (t.upd x) && idle x)
              (changed_in t i.group) place here.0 here.1
              ∙ ap (λ y. is_busy (t.upd y) && idle here.0) (sym (inst_is i here.0 here.2))
              ∙ ap (λ b. b && idle here.0) is)
              is
