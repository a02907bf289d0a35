-- The facts on addresses are kept by each move.
use Rattle.std.proofs.Common.{◌≡◌, ℕ, ◌+◌, Bool, true, false, ◌==◌, Option, Some, None, List, [], refl, ap, sym, ◌∙◌, inl, inr, arith}
use Rattle.std.specs.Prelude.{eqb, if◌then◌else◌}
use Rattle.std.specs.Option.{option_map}
use Rattle.std.proofs.lemmas.Bool.Decides.{eqb_tells}
use Rattle.bosh_base.specs.declared.entry.Entry.{Entry}
use Rattle.bosh_base.specs.declared.entry.Entry.TheVariants as entries
use Rattle.bosh_base.specs.declared.entry.TaskOpen.{TaskOpen}
use Rattle.bosh_base.specs.declared.moves.Move.{Move}
use Rattle.bosh_base.specs.declared.moves.Move.TheVariants as moves
use Rattle.bosh_base.specs.declared.moves.Stop as stop
use Rattle.laws_facts.proofs.GoalLemmas.{OpensOf, of_dep, of_none, opens_of, sound_of}
use Rattle.laws_facts.proofs.ListLemmas.{Tells}
use Rattle.laws_facts.proofs.WorkLemmas.{opens_next}
use Rattle.laws_facts.specs.Addresses.{AddressFacts, Recorded, Machine, Wanted, Free, dep_of_slot, holds_address}
use Rattle.laws_facts.specs.KnownFacts.{KnownFacts}
use Rattle.laws_facts.specs.Owners.{works}
use Rattle.bosh_history.proofs.KnownLemmas.{known_later, learned}
use Rattle.bosh_history.specs.Goals.{is_in}
use Rattle.bosh_history.specs.Items.{slots_of}
use Rattle.bosh_history.specs.Known.{Slot, want_in}
use Rattle.bosh_history.specs.Moments.{Moment, later, noting}
use Rattle.bosh_history.specs.Notes.{MayNote, Outside}
use Rattle.bosh_history.specs.Openings.{MayOpen}
use Rattle.bosh_history.specs.Permitted.{IsPermitted, MayKeep}
use Rattle.bosh_history.specs.Recovered.{may_follow}
use Rattle.bosh_history.specs.Steps.{nth}
use Rattle.bosh_history.specs.Tasks.{goal_set}
use Rattle.laws_addresses.proofs.BeginLemmas.{begun_comes}
use Rattle.laws_addresses.proofs.EndLemmas.{ended_comes}
use Rattle.laws_addresses.proofs.FactLemmas.{Comes, ComesFrom, as_was, facts_now, none_now}
use Rattle.laws_addresses.proofs.FreeLemmas.{IsMachine, machine_recorded}
use Rattle.laws_addresses.proofs.HeldLemmas.{no_slot}
use Rattle.laws_addresses.proofs.OpenedLemmas.{opened_goal}
use Rattle.laws_addresses.proofs.ShapeLemmas.{shape}
use Rattle.laws_addresses.proofs.SoundLemmas.{sound_has}
use Rattle.laws_addresses.proofs.WorkLemmas.{dep_of_shape, less_comes}

-- ---- a task of no deployment opens

module _ (m : Moment) (o : TaskOpen) (h : KnownFacts m) (may : MayOpen m.known o) (dep_is : o.dep ≡ None)
    (goal_is : o.goal ≡ None) where
  abbrev pub new : Moment
  new = noting m (entries.TaskOpen o)

  number : o.task ≡ m.known.tasks + 1
  number = opens_next m.known o may

  goal_kept : (dep : List ℕ) → new.known.goal dep ≡ m.known.goal dep
  goal_kept dep = λ i. goal_set (dep_is i) (goal_is i) m.known.goal dep

  pub was_working : (t : ℕ) → (o.task == t) ≡ false → works new t ≡ true → works m t ≡ true
  was_working t apart is = grind (arith, apart, is, number, eqb_tells o.task t)

  free_none : (t s : ℕ) → ComesFrom m new (Free t s) (Free t s)
  free_none t s = by (works new t) refl (eqb_tells o.task t)
    where
      by : (b : Bool) → works new t ≡ b → Tells eqb o.task t → ComesFrom m new (Free t s) (Free t s)
      by true is (inl same) =
          let own : (new.known.task t).goal ≡ None = grind (arith, same, goal_is) in
          none_now m new (Free t s) (Free t s)
          ((λ l. if is l then nth s (slots_of (own l)) else None) ∙ no_slot s (nth s []) refl)
      by true is (inr apart) =
          let own : new.known.task t ≡ m.known.task t = grind (arith, apart) in
          as_was m new (Free t s) (Free t s)
          ((λ l. if is l then nth s (slots_of (own l).goal) else None)
          ∙ sym (λ l. if was_working t apart.0 is l then nth s (slots_of (m.known.task t).goal) else None))
          (dep_of_shape m.known new.known t (ap shape own))
      by false is tells =
          none_now m new (Free t s) (Free t s) (λ l. if is l then nth s (slots_of (new.known.task t).goal) else None)

  machine_was : (a t s : ℕ) → holds_address m (Machine t s) a ≡ true → works new t ≡ true → works m t ≡ true
  machine_was a t s here working = by (machine_recorded m t s a h here) (eqb_tells o.task t)
    where
      by : (it : Slot) × IsMachine m t s it a → Tells eqb o.task t → works m t ≡ true
      by (it, found) (inl same) = absurd (grind (arith, h.numbers.of_tasks t s, found.slot, same, number))
      by (it, found) (inr apart) = was_working t apart.0 working

  pub opened_none : Comes m new
  opened_none = record {
    rows = λ i. inl (as_was m new (Recorded i) (Recorded i) refl refl);
    slots = λ t s. inl (as_was m new (Machine t s) (Machine t s) refl refl);
    wanted = λ i.
        as_was m new (Wanted i) (Wanted i)
        (λ l. option_map (λ want. want.make) (want_in (goal_kept i.dep l) i)) refl;
    free = free_none;
    works = machine_was;
    stays = λ i is. sym (λ l. is_in (goal_kept i.dep l) i) ∙ is;
  }

-- ---- entries

pub addresses_note : (outside : Outside) (m : Moment) (e : Entry) → KnownFacts m
    → may_follow m e ≡ true → MayNote outside m e → AddressFacts (noting m e)
addresses_note outside m (entries.Begin b) h follows may =
    facts_now m (noting m (entries.Begin b)) h.addresses (begun_comes outside m b h follows may)
addresses_note outside m (entries.TaskOpen o) h follows may = by (opens_of m.known o may.0)
  where
    by : OpensOf o → AddressFacts (noting m (entries.TaskOpen o))
    by (of_dep dep goal dep_is goal_is same) =
        opened_goal m o goal (record {
          holds = h;
          may = may.0;
          dep_is = dep_is ∙ ap Some (sym same);
          goal_is = goal_is;
          sound = (sound_has m.known o.kind goal (sound_of m.known o goal goal_is may.1)).0;
        })
    by (of_none dep_is goal_is) =
        facts_now m (noting m (entries.TaskOpen o)) h.addresses (opened_none m o h may.0 dep_is goal_is)
addresses_note outside m (entries.Snapshot s) h follows may = absurd may
addresses_note outside m entry h follows may =
    facts_now m (noting m entry) h.addresses (ended_comes outside m entry may refl refl)

-- ---- moves

-- nothing is learned, and no task works that did not
still : (m new : Moment) → new.known ≡ m.known → ((t : ℕ) → works new t ≡ true → works m t ≡ true) → AddressFacts m
    → AddressFacts new
still m new known working facts =
    facts_now m new facts
    (less_comes m new (record {
      works = working;
      goal = λ dep. inl (λ l. (known l).goal dep);
      shape = λ t l. shape ((known l).task t);
    }) (record {
      rows = λ i. inl (λ l. ((known l).row i).make);
      slots = λ t s.
          as_was m new (Machine t s) (Machine t s) (λ l. option_map (λ it. it.make) ((known l).slot t s))
          (λ l. dep_of_slot ((known l).slot t s));
    }))

-- after a stop no task works
pub none_works : (m : Moment) (s : stop.Stop) (t : ℕ) → works (later m (moves.Stop s)) t ≡ true → ⊥
none_works m s t is = absurd (grind (arith, is))

pub addresses_kept : (outside : Outside) (m : Moment) (move : Move) → IsPermitted outside m move → KnownFacts m
    → AddressFacts (later m move)
addresses_kept outside m (moves.Note e) may h = addresses_note outside m e h may.1 may.2
addresses_kept outside m (moves.Stop s) may h = by s.kept refl may.kept
  where
    by : (kept : Option Entry) → s.kept ≡ kept → MayKeep outside m kept → AddressFacts (later m (moves.Stop s))
    by (Some e) is also =
        still (noting m e) (later m (moves.Stop s))
        (known_later m (moves.Stop s) ∙ (λ l. learned m.known (is l)))
        (λ t working. absurd (none_works m s t working)) (addresses_note outside m e h also.1 also.0)
    by None is also =
        still m (later m (moves.Stop s)) (known_later m (moves.Stop s) ∙ (λ l. learned m.known (is l)))
        (λ t working. absurd (none_works m s t working)) h.addresses
addresses_kept outside m (moves.Did d) may h = still m (later m (moves.Did d)) refl (λ t is. is) h.addresses
addresses_kept outside m (moves.Wrote w) may h = still m (later m (moves.Wrote w)) refl (λ t is. is) h.addresses
addresses_kept outside m (moves.Halt cause) may h =
    still m (later m (moves.Halt cause)) refl (λ t is. is) h.addresses
addresses_kept outside m (moves.Lost loss) may h =
    still m (later m (moves.Lost loss)) refl (λ t is. is) h.addresses
addresses_kept outside m (moves.Said said) may h = h.addresses
