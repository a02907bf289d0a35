-- The keys of current goals can still be compiled.
use Rattle.std.proofs.Common.{◌≡◌, ◌∙◌, ℕ, Bool, true, false, Option, Some, None, List, [], ◌∷◌, refl, ap, sym, subst, inl, inr, arith}
use Rattle.std.specs.Prelude.{◌||◌, not}
use Rattle.std.specs.List.{list_all}
use Rattle.std.specs.Str.{bytes_eq}
use Rattle.std.proofs.lemmas.Bool.{and_from, and_parts, false≢true, or_cases, or_left, or_right}
use Rattle.bosh_base.specs.declared.entry.Entry.{Entry}
use Rattle.bosh_base.specs.declared.entry.Entry.TheVariants as entries
use Rattle.bosh_base.specs.declared.entry.TaskOpen.{TaskOpen}
use Rattle.bosh_base.specs.declared.goal.Goal.{Goal}
use Rattle.bosh_base.specs.declared.inst.Inst.{Inst}
use Rattle.bosh_base.specs.declared.key.Key.{Key}
use Rattle.bosh_base.specs.declared.key.KeyWork.{KeyWork}
use Rattle.bosh_base.specs.declared.moves.Move.{Move}
use Rattle.bosh_base.specs.declared.task.TaskKind.{TaskKind}
use Rattle.bosh_base.specs.declared.task.TaskKind.TheVariants as kinds
use Rattle.bosh_compile.proofs.KeyLemmas.{same_key_decides}
use Rattle.bosh_compile.specs.Readiness.{is_among, same_key}
use Rattle.bosh_history.specs.Goals.{named_instance}
use Rattle.bosh_history.specs.Keys.{Leveled, are_after, are_in_order, are_left, comes_after, is_listed, leveled_work, stand_after_needs}
use Rattle.bosh_history.specs.Known.{Known, dep_of_task}
use Rattle.bosh_history.specs.Learn.{learn}
use Rattle.bosh_history.specs.Moments.{Moment, later}
use Rattle.bosh_history.specs.Notes.{MayNote, Outside}
use Rattle.bosh_history.specs.Permitted.{IsPermitted}
use Rattle.bosh_history.specs.Slots.{is_compiled}
use Rattle.bosh_history.specs.Sound.{has_addresses, has_instances, has_keys, has_slots, is_sound_goal}
use Rattle.bosh_history.specs.Tasks.{goal_set, settles}
use Rattle.bosh_history.specs.Words.{at}
use Rattle.laws_compiling.proofs.GrowthLemmas.{compiled_stays}
use Rattle.laws_compiling.specs.Compiling.{CanBeCompiled}
use Rattle.laws_facts.proofs.FrameLemmas.{goals_begin, goals_end, goals_updated}
use Rattle.laws_facts.proofs.GoalLemmas.{OpensOf, of_dep, of_none, opens_of, sound_of}
use Rattle.laws_facts.proofs.ListLemmas.{Tells, bytes_tells}
use Rattle.laws_facts.proofs.MoveLemmas.{by_note}
use Rattle.laws_facts.specs.KnownFacts.{KnownFacts}

-- ---- keys in order

-- what holds of each that the first test holds of
all_where : (p q : Key → Bool) → ((key : Key) → p key ≡ true → q key ≡ true) → (keys : List Key)
    → list_all p keys ≡ true → list_all q keys ≡ true
all_where p q goes [] all = refl
all_where p q goes (key ∷ keys) all =
    let parts : (p key ≡ true) × (list_all p keys ≡ true) = and_parts (p key) (list_all p keys) all in
    and_from (q key) (list_all q keys) (goes key parts.0) (all_where p q goes keys parts.1)

either : (a b c d : Bool) → (a ≡ true → c ≡ true) → (b ≡ true → d ≡ true) → (a || b) ≡ true → (c || d) ≡ true
either a b c d left right is = elim (or_cases a b is) [
  | inl first ↦ or_left c d (left first)
  | inr second ↦ or_right c d (right second)
]

-- keys that can be compiled can be so while more of them are
stand_still : (is_compiled more : Key → Bool) → ((key : Key) → is_compiled key ≡ true → more key ≡ true)
    → (before : List Key) (works : List KeyWork) → stand_after_needs is_compiled before works ≡ true
    → stand_after_needs more before works ≡ true
stand_still is_compiled more grows before [] stand = refl
stand_still is_compiled more grows before (work ∷ works) stand =
    let new : (not (is_among work.key before) ≡ true) × _ = and_parts (not (is_among work.key before)) _ stand in
    let rest : (list_all (λ key. is_compiled key || is_among key before) work.deps ≡ true) × _ =
    and_parts (list_all (λ key. is_compiled key || is_among key before) work.deps) _ new.1 in
    and_from (not (is_among work.key before)) _ new.0
    (and_from (list_all (λ key. more key || is_among key before) work.deps) _
    (all_where (λ key. is_compiled key || is_among key before) (λ key. more key || is_among key before)
    (λ key is. either (is_compiled key) (is_among key before) (more key) (is_among key before) (grows key) (λ there. there) is)
    work.deps rest.0)
    (stand_still is_compiled more grows (work.key ∷ before) works rest.1))

-- the keys of those that come before
abbrev keys_of : List Leveled → List Key
keys_of [] = []
keys_of (it ∷ before) = it.work.key ∷ keys_of before

flipped : (a b : Key) → same_key a b ≡ true → same_key b a ≡ true
flipped a b is = (same_key_decides b a).1 (sym ((same_key_decides a b).0 is))

listed_among : (before : List Leveled) (key : Key) → is_listed before key ≡ true → is_among key (keys_of before) ≡ true
listed_among [] key is = absurd (false≢true is)
listed_among (it ∷ before) key is =
    either (same_key key it.work.key) (is_listed before key) (same_key it.work.key key) (is_among key (keys_of before))
    (flipped key it.work.key) (listed_among before key) is

among_listed : (before : List Leveled) (key : Key) → is_among key (keys_of before) ≡ true → is_listed before key ≡ true
among_listed [] key is = absurd (false≢true is)
among_listed (it ∷ before) key is =
    either (same_key it.work.key key) (is_among key (keys_of before)) (same_key key it.work.key) (is_listed before key)
    (flipped it.work.key key) (among_listed before key) is

not_either : (a b c : Bool) → not (a || b) ≡ true → (c ≡ true → b ≡ true) → not c ≡ true
not_either a b false none goes = refl
not_either true b true none goes = absurd (false≢true none)
not_either false b true none goes = absurd (false≢true (ap not (sym (goes refl)) ∙ none))

-- keys in the order of compilation stand after what they need
order_stands : (is_compiled : Key → Bool) (before : List Leveled) (works : List KeyWork)
    → are_after is_compiled before works ≡ true → stand_after_needs is_compiled (keys_of before) works ≡ true
order_stands is_compiled before [] after = refl
order_stands is_compiled before (work ∷ works) after =
    let new : (not (is_compiled work.key || is_listed before work.key) ≡ true) × _ =
    and_parts (not (is_compiled work.key || is_listed before work.key)) _ after in
    let needs : (list_all (λ key. is_compiled key || is_listed before key) work.deps ≡ true) × _ =
    and_parts (list_all (λ key. is_compiled key || is_listed before key) work.deps) _ new.1 in
    let rest : (comes_after before (leveled_work before work) ≡ true) × _ =
    and_parts (comes_after before (leveled_work before work)) _ needs.1 in
    and_from (not (is_among work.key (keys_of before))) _
    (not_either (is_compiled work.key) (is_listed before work.key) (is_among work.key (keys_of before)) new.0
    (among_listed before work.key))
    (and_from (list_all (λ key. is_compiled key || is_among key (keys_of before)) work.deps) _
    (all_where (λ key. is_compiled key || is_listed before key) (λ key. is_compiled key || is_among key (keys_of before))
    (λ key is. either (is_compiled key) (is_listed before key) (is_compiled key) (is_among key (keys_of before))
    (λ there. there) (listed_among before key) is) work.deps needs.0)
    (order_stands is_compiled (leveled_work before work ∷ before) works rest.1))

-- ---- a goal that a task opens with

abbrev has_order : Known → Goal → Option Inst → Bool
has_order k goal (Some i) = are_left (is_compiled k) goal.keys
has_order k goal None = are_in_order (is_compiled k) goal.keys

sound_stands : (k : Known) (kind : TaskKind) (goal : Goal) → is_sound_goal k kind goal ≡ true
    → stand_after_needs (is_compiled k) [] goal.keys ≡ true
sound_stands k kind goal sound =
    by (named_instance kind)
    (and_parts (has_order k goal (named_instance kind)) (has_slots goal)
    (and_parts (has_keys k kind goal) _
    (and_parts (has_addresses k goal) _ (and_parts (has_instances k goal) _ sound).1).1).0).0
  where
    by : (name : Option Inst) → has_order k goal name ≡ true → stand_after_needs (is_compiled k) [] goal.keys ≡ true
    by (Some i) is = (and_parts (list_all (λ work. not (is_compiled k work.key)) goal.keys) _ is).1
    by None is = order_stands (is_compiled k) [] goal.keys is

-- ---- entries

module _ (outside : Outside) (m : Moment) (has : CanBeCompiled m.known) where
  -- of a goal that was current
  stands_on : (e : Entry) → MayNote outside m e → (dep : List ℕ) (goal : Goal) → m.known.goal dep ≡ Some goal
      → stand_after_needs (is_compiled (learn m.known e)) [] goal.keys ≡ true
  stands_on e may dep goal is =
      stand_still (is_compiled m.known) (is_compiled (learn m.known e)) (λ key. compiled_stays outside m e key may) []
      goal.keys (has dep goal is)

  stands_opened : (o : TaskOpen) → MayNote outside m (entries.TaskOpen o)
      → CanBeCompiled (learn m.known (entries.TaskOpen o))
  stands_opened o may dep goal is = by (opens_of m.known o may.0)
    where
      by : OpensOf o → stand_after_needs (is_compiled m.known) [] goal.keys ≡ true
      by (of_dep named new dep_is goal_is same) = here (bytes_tells named dep)
        where
          now : at bytes_eq named (Some new) m.known.goal dep ≡ Some goal
          now = (λ i. goal_set (sym dep_is i) (sym goal_is i) m.known.goal dep) ∙ is

          here : Tells bytes_eq named dep → stand_after_needs (is_compiled m.known) [] goal.keys ≡ true
          here (inl equal) =
              let goal_same : new ≡ goal = grind (arith, now, equal) in
              subst (λ (g : Goal). stand_after_needs (is_compiled m.known) [] g.keys ≡ true) goal_same
              (sound_stands m.known o.kind new (sound_of m.known o new goal_is may.1))
          here (inr apart) = has dep goal (grind (arith, now, apart))
      by (of_none dep_is goal_is) = has dep goal ((λ i. goal_set (sym dep_is i) (sym goal_is i) m.known.goal dep) ∙ is)

  compilable_note : (e : Entry) → MayNote outside m e → CanBeCompiled (learn m.known e)
  compilable_note (entries.Begin b) may dep goal is =
      stands_on (entries.Begin b) may dep goal
      (sym (ap (λ (goals : List ℕ → Option Goal). goals dep) (goals_begin m b).goal) ∙ is)
  compilable_note (entries.End e) may dep goal is =
      stands_on (entries.End e) may dep goal
      (sym (ap (λ (goals : List ℕ → Option Goal). goals dep) (goals_end m e.n e.answer).goal) ∙ is)
  compilable_note (entries.TaskOpen o) may dep goal is = stands_opened o may dep goal is
  compilable_note (entries.UpdDone u) may dep goal is =
      stands_on (entries.UpdDone u) may dep goal
      (sym (ap (λ (goals : List ℕ → Option Goal). goals dep) (goals_updated m u.task u.inst).goal) ∙ is)
  compilable_note (entries.TaskDone t) may dep goal is =
      stands_on (entries.TaskDone t) may dep goal (settled (m.known.task t).kind is)
    where
      settled : (kind : TaskKind)
          → (settles kind (m.known.task t).goal (dep_of_task m.known t) m.known).goal dep ≡ Some goal
          → m.known.goal dep ≡ Some goal
      settled kinds.Deploy now = now
      settled kinds.Fix now = now
      settled kinds.DeleteDeployment now = grind (arith, bytes_tells (dep_of_task m.known t) dep, now)
      settled kind now = now
  compilable_note (entries.Snapshot s) may dep goal is = absurd may
  compilable_note entry may dep goal is = stands_on entry may dep goal is

pub compilable_kept : (outside : Outside) (m : Moment) (move : Move) → IsPermitted outside m move → KnownFacts m
    → CanBeCompiled (later m move).known
compilable_kept outside m move may h =
    by_note outside CanBeCompiled m (λ e also. compilable_note outside m now e also) now move may
  where
    now : CanBeCompiled m.known
    now dep goal is = (h.goals dep goal is).can_be_compiled
