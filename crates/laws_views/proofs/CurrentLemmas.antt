-- A current goal is such as the laws of goals ask for, so that what is made anew of it may be worked on.
use Rattle.std.proofs.Common.{◌≡◌, ◌∙◌, ℕ, Bool, true, false, ◌&&◌, ◌||◌, ◌==◌, not, List, [], ◌∷◌, Some, Ok}
use Rattle.std.proofs.Common.{ap, filter, map, refl, sym}
use Rattle.std.specs.Prelude.{eqb, nat_le}
use Rattle.std.specs.List.{AllByRecursion, list_all, list_any}
use Rattle.std.specs.Str.{bytes_eq}
use Rattle.std.proofs.lemmas.Bool.{and_parts, eqb-true, false≢true, true≢false}
use Rattle.bosh_asks.specs.Over.{RenewsOver}
use Rattle.bosh_base.specs.declared.addr.NetAddr.{NetAddr}
use Rattle.bosh_base.specs.declared.goal.Goal.{Goal}
use Rattle.bosh_base.specs.declared.goal.GoalRow.{GoalRow}
use Rattle.bosh_base.specs.declared.inst.Inst.{Inst}
use Rattle.bosh_base.specs.declared.make.Make.{Make}
use Rattle.bosh_base.specs.declared.row.Row.{Row}
use Rattle.bosh_base.specs.declared.task.TaskKind.{TaskKind}
use Rattle.bosh_goal.specs.Anew.{anew}
use Rattle.bosh_goal.specs.declared.change.Change.{Change}
use Rattle.bosh_history.specs.Goals.{inst_of, is_in, named_instance, rows_of}
use Rattle.bosh_history.specs.Held.{held_elsewhere, is_offered, view}
use Rattle.bosh_history.specs.Keys.{stand_after_needs}
use Rattle.bosh_history.specs.Known.{Known, offers_in}
use Rattle.bosh_history.specs.Links.{is_kept}
use Rattle.bosh_history.specs.Moments.{Moment}
use Rattle.bosh_history.specs.Recovered.{is_recovering}
use Rattle.bosh_history.specs.Sound.{addrs, has_addr, has_plan, is_held, is_sound_goal, is_tie_kept, row_addrs}
use Rattle.bosh_pool.proofs.ListLemmas.{Pairs}
use Rattle.bosh_records.specs.declared.records.Records.{Records}
use Rattle.bosh_rows.specs.Same.{same_inst}
use Rattle.bosh_rows.specs.SoundSnapshot.{are_distinct}
use Rattle.bosh_views.specs.View.{view_of}
use Rattle.laws_facts.proofs.LinkLemmas.{all_from, all_from_both}
use Rattle.laws_facts.specs.Addresses.{holds_address, make_held}
use Rattle.laws_facts.specs.Addresses.Holder.{Recorded, Wanted}
use Rattle.laws_facts.specs.Goals.{GoalFacts, is_offered_now}
use Rattle.laws_facts.specs.KnownFacts.{KnownFacts}
use Rattle.laws_goals.proofs.CurrentLemmas.{is-sound-anew}
use Rattle.laws_goals.proofs.ListLemmas.{all_flat, all_map, all_mapped, all_pass, distinct_from, none_pass, pairs_flat, pairs_of_distinct}
use Rattle.laws_goals.proofs.ListLemmas.{pairs_unmapped}
use Rattle.laws_goals.specs.Free.{another_keeps, are_rows_free}
use Rattle.laws_goals.specs.Records.{IsCurrent}
use Rattle.laws_goals.specs.Rows.{HasSoundRows}
use Rattle.laws_row_facts.specs.Words.{where_any}
use Rattle.laws_stands.proofs.DeploymentLemmas.{bytes_is}
use Rattle.laws_stands_on.proofs.CallLemmas.{inst_flip}
use Rattle.laws_views.proofs.HoldersLemmas.{all_passing, none_elsewhere, pairs_both, rows_wanted}
use Rattle.laws_views.proofs.OpenLemmas.{IsAnewOf, anew_known}
use Rattle.laws_views.proofs.OrderlyLemmas.{each_addr, keys_listed, own_rows}
use Rattle.laws_views.specs.Read.{AreReadAsKnown}
use Rattle.laws_views.specs.Viewed.{CanBeViewed}

module _ (m : Moment) (facts : KnownFacts m) (viewed : CanBeViewed m.known) (recovered : is_recovering m ≡ false)
    (goal : Goal) (current : m.known.goal goal.dep ≡ Some goal) where
  abbrev k : Known
  k = m.known

  of_goal : GoalFacts k goal.dep goal
  of_goal = facts.goals goal.dep goal current

  -- each row is of the deployment, and of a group with a plan
  rows_planned : list_all (λ (want : GoalRow). bytes_eq want.inst.dep goal.dep && has_plan goal want) goal.rows ≡ true
  rows_planned = (and_parts (are_distinct same_inst (map inst_of goal.rows))
      (list_all (λ (want : GoalRow). bytes_eq want.inst.dep goal.dep && has_plan goal want) goal.rows) of_goal.sound_rows).1

  rows_distinct : are_distinct same_inst (map inst_of goal.rows) ≡ true
  rows_distinct = (and_parts (are_distinct same_inst (map inst_of goal.rows))
      (list_all (λ (want : GoalRow). bytes_eq want.inst.dep goal.dep && has_plan goal want) goal.rows) of_goal.sound_rows).0

  rows_sound : HasSoundRows k.last_call goal
  rows_sound = record {
    distinct = rows_distinct;
    of_the_deployment = all_from (λ (want : GoalRow). bytes_eq want.inst.dep goal.dep && has_plan goal want)
        (λ (want : GoalRow). bytes_eq want.inst.dep goal.dep)
        (λ want is. (and_parts (bytes_eq want.inst.dep goal.dep) (has_plan goal want) is).0) goal.rows rows_planned;
    planned = all_from (λ (want : GoalRow). bytes_eq want.inst.dep goal.dep && has_plan goal want) (has_plan goal)
        (λ want is. (and_parts (bytes_eq want.inst.dep goal.dep) (has_plan goal want) is).1) goal.rows rows_planned;
    fresh = sym (ap (λ goal. list_all (λ (want : GoalRow). nat_le want.fresh_after k.last_call) (rows_of goal)) current)
        ∙ facts.numbers.rows_past goal.dep;
  }

  -- ---- addresses

  -- what is wanted of its instance
  abbrev IsWant : GoalRow → Type 0
  IsWant want = make_held m (Wanted want.inst) ≡ Some want.make

  wants : AllByRecursion (λ (want : GoalRow). make_held m (Wanted want.inst) ≡ Some want.make) goal.rows
  wants = rows_wanted m facts goal.dep goal current

  -- a row has its addresses
  has : (want : GoalRow) → IsWant want → (a : ℕ) → list_any (λ b. b == a) (addrs want.make) ≡ true
      → holds_address m (Wanted want.inst) a ≡ true
  has want is a there = ap (has_addr a) is ∙ there

  addresses_apart : are_distinct eqb (row_addrs goal) ≡ true
  addresses_apart =
      distinct_from eqb (row_addrs goal)
      (pairs_flat R (λ x y. IsWant x × IsWant y × (same_inst x.inst y.inst ≡ false)) (λ (want : GoalRow). addrs want.make) goal.rows
      apart
      (all_map IsWant (λ (want : GoalRow). Pairs R (addrs want.make)) goal.rows
      (λ want is. pairs_of_distinct eqb (addrs want.make)
      (sym (ap (where_any (λ (make : Make). are_distinct eqb (addrs make))) is) ∙ facts.addresses.each_once (Wanted want.inst)))
      wants)
      (pairs_both IsWant (λ x y. same_inst x.inst y.inst ≡ false) goal.rows wants
      (pairs_unmapped (λ i j. same_inst i j ≡ false) inst_of goal.rows
      (pairs_of_distinct same_inst (map inst_of goal.rows) rows_distinct))))
    where
      R : ℕ → ℕ → Type 0
      R a b = eqb a b ≡ false

      apart : (x y : GoalRow) → IsWant x × IsWant y × (same_inst x.inst y.inst ≡ false)
          → AllByRecursion (λ a. AllByRecursion (R a) (addrs y.make)) (addrs x.make)
      apart x y (first, second, differ) =
          all_mapped (λ a. AllByRecursion (R a) (addrs y.make)) (λ (it : NetAddr). it.addr.0) x.make.nets
          (each_addr (λ a. AllByRecursion (R a) (addrs y.make)) x.make.nets
          (λ a one. all_mapped (R a) (λ (it : NetAddr). it.addr.0) y.make.nets
          (each_addr (R a) y.make.nets (λ b other. of a b one other (eqb a b) refl))))
        where
          of : (a b : ℕ) → list_any (λ c. c == a) (addrs x.make) ≡ true → list_any (λ c. c == b) (addrs y.make) ≡ true
              → (c : Bool) → eqb a b ≡ c → eqb a b ≡ false
          of a b one other false is = is
          of a b one other true is =
              absurd (true≢false (sym (facts.addresses.one_wanted a (Wanted x.inst) (Wanted y.inst) (has x first a one)
              (ap (holds_address m (Wanted y.inst)) (eqb-true a b is) ∙ has y second b other)) ∙ differ))

  addresses_untaken : list_all (λ a. not (is_held (held_elsewhere k goal.dep) a)) (row_addrs goal) ≡ true
  addresses_untaken =
      all_pass (λ a. not (is_held (held_elsewhere k goal.dep) a)) (row_addrs goal)
      (all_flat (λ a. not (is_held (held_elsewhere k goal.dep) a) ≡ true) (λ (want : GoalRow). addrs want.make) goal.rows
      (both goal.rows wants rows_planned))
    where
      both : (rows : List GoalRow) → AllByRecursion (λ (want : GoalRow). make_held m (Wanted want.inst) ≡ Some want.make) rows
          → list_all (λ (want : GoalRow). bytes_eq want.inst.dep goal.dep && has_plan goal want) rows ≡ true
          → AllByRecursion (λ (want : GoalRow). AllByRecursion (λ a. not (is_held (held_elsewhere k goal.dep) a) ≡ true)
          (addrs want.make)) rows
      both [] all own = tt
      both (want ∷ rows) (is, all) own =
          let (first, rest) = and_parts (bytes_eq want.inst.dep goal.dep && has_plan goal want)
          (list_all (λ (want : GoalRow). bytes_eq want.inst.dep goal.dep && has_plan goal want) rows) own in (
            all_mapped (λ a. not (is_held (held_elsewhere k goal.dep) a) ≡ true) (λ (it : NetAddr). it.addr.0) want.make.nets
                (each_addr (λ a. not (is_held (held_elsewhere k goal.dep) a) ≡ true) want.make.nets
                (λ a there. ap not (none_elsewhere m facts viewed recovered goal.dep want.inst a
                (bytes_is want.inst.dep goal.dep (and_parts (bytes_eq want.inst.dep goal.dep) (has_plan goal want) first).0)
                (has want is a there)))),
            both rows all rest,
          )

  addresses_unshared : are_rows_free (view k goal.dep).rows goal ≡ true
  addresses_unshared =
      all_pass (λ (want : GoalRow). list_all (λ a. not (another_keeps (view k goal.dep).rows goal want.inst a)) (addrs want.make))
      goal.rows
      (all_map IsWant
      (λ (want : GoalRow). list_all (λ a. not (another_keeps (view k goal.dep).rows goal want.inst a)) (addrs want.make) ≡ true)
      goal.rows
      (λ want is. all_pass (λ a. not (another_keeps (view k goal.dep).rows goal want.inst a)) (addrs want.make)
      (all_mapped (λ a. not (another_keeps (view k goal.dep).rows goal want.inst a) ≡ true) (λ (it : NetAddr). it.addr.0)
      want.make.nets
      (each_addr (λ a. not (another_keeps (view k goal.dep).rows goal want.inst a) ≡ true) want.make.nets
      (λ a there. ap not (none_keeps want.inst a (has want is a there)))))) wants)
    where
      none_keeps : (i : Inst) (a : ℕ) → holds_address m (Wanted i) a ≡ true
          → another_keeps (view k goal.dep).rows goal i a ≡ false
      none_keeps i a wanted =
          none_pass keeps (view k goal.dep).rows
          (all_mapped (λ row. keeps row ≡ false) k.row (filter (λ (j : Inst). bytes_eq j.dep goal.dep) k.instances)
          (all_passing (λ j. keeps (k.row j) ≡ false) (λ (j : Inst). bytes_eq j.dep goal.dep) k.instances each))
        where
          keeps : Row → Bool
          keeps row = not (same_inst i row.inst) && (is_in (Some goal) row.inst && has_addr a row.make)

          each : (j : Inst) → bytes_eq j.dep goal.dep ≡ true → keeps (k.row j) ≡ false
          each j own =
              (λ l. not (same_inst i (facts.lists.own_row j l)) && (is_in (Some goal) (facts.lists.own_row j l)
              && has_addr a (k.row j).make))
              ∙ by (same_inst i j) (is_in (Some goal) j) (has_addr a (k.row j).make) refl refl refl
            where
              by : (b c d : Bool) → same_inst i j ≡ b → is_in (Some goal) j ≡ c → has_addr a (k.row j).make ≡ d
                  → (not b && (c && d)) ≡ false
              by true c d one there has_it = refl
              by false false d one there has_it = refl
              by false true false one there has_it = refl
              by false true true one there has_it =
                  let wanted_now : is_in (k.goal j.dep) j ≡ true =
                  ap (λ goal. is_in goal j) (ap k.goal (bytes_is j.dep goal.dep own) ∙ current) ∙ there in
                  absurd (false≢true (sym (λ l. (inst_flip i j ∙ one) l || not (wanted_now l))
                  ∙ facts.addresses.take_over a (Recorded j) (Wanted i) has_it wanted))

  pub current_known : IsCurrent k goal
  current_known = record {
    recorded = own_rows m facts;
    is = current;
    rows = rows_sound;
    addresses = record { distinct = addresses_apart; untaken = addresses_untaken; unshared = addresses_unshared };
    compiled = keys_listed m facts goal.dep;
    keys = (λ i. stand_after_needs (λ key. keys_listed m facts goal.dep key i) [] goal.keys) ∙ of_goal.can_be_compiled;
    ties = all_from_both (is_kept k goal.dep) (is_offered_now k goal.dep) (is_tie_kept k goal)
        (λ tie done now. kept (bytes_eq tie.provider.dep goal.dep)
        (is_offered tie.provider tie.kind (k.shared tie.provider.dep))
        (is_offered tie.provider tie.kind (offers_in (k.goal tie.provider.dep))) done now)
        goal.ties of_goal.offered_when_done of_goal.offered_now;
    offers = of_goal.own_offers;
  }
    where
      kept : (a b c : Bool) → (a || b) ≡ true → (a || c) ≡ true → (a || (b && c)) ≡ true
      kept true b c done now = refl
      kept false true c done now = now
      kept false false c done now = done

-- what is made anew of a current goal may be worked on
pub renewed_sound : (m : Moment) (records : Records) → KnownFacts m → CanBeViewed m.known → is_recovering m ≡ false
    → AreReadAsKnown m.known records → ((dep : List ℕ) → view_of records dep ≡ view m.known dep)
    → (kind : TaskKind) (inst : Inst) (change : Change) (it : Goal) → named_instance kind ≡ Some inst
    → is_in (m.known.goal inst.dep) inst ≡ true → RenewsOver records inst change (Ok it)
    → is_sound_goal m.known kind it ≡ true
renewed_sound m records facts viewed recovered read seen kind inst change it names inside given =
    let made : IsAnewOf m.known records inst change it = anew_known m.known records inst change it read given in
    let dep_is : made.current.dep ≡ inst.dep = (facts.goals inst.dep made.current made.was).of_dep in
    is-sound-anew m.known kind inst change made.config made.current it names
    (current_known m facts viewed recovered made.current (ap m.known.goal dep_is ∙ made.was))
    (sym (ap (λ goal. is_in goal inst) made.was) ∙ inside)
    (ap (λ seen. anew inst change (Some made.config) seen made.current) (ap (view m.known) dep_is ∙ sym (seen inst.dep)) ∙ made.is)
