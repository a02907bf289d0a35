-- A goal that is made anew of the current one is sound over the records.
use Rattle.std.proofs.Common.{◌≡◌, ◌∙◌, ℕ, Bool, true, false, true≢false, ◌&&◌, ◌||◌, ◌==◌, not, cond, nat_le, List, [], ◌∷◌, ◌++◌, Option, Some, None, Ok, map, ap, refl, sym, subst, arith}
use Rattle.std.specs.Cmp.Lexicographic.{pointwise}
use Rattle.std.specs.List.{AllByRecursion, Contains, list_all, list_any}
use Rattle.std.specs.Option.{is_some}
use Rattle.std.specs.Str.{bytes_eq}
use Rattle.std.proofs.lemmas.Bool.{and_from, eq-eqb, le-leb, not-true, or_right}
use Rattle.bosh_base.specs.declared.goal.Goal.{Goal}
use Rattle.bosh_base.specs.declared.goal.GoalRow.{GoalRow}
use Rattle.bosh_base.specs.declared.goal.GroupPlan.{GroupPlan}
use Rattle.bosh_base.specs.declared.inst.Inst.{Inst}
use Rattle.bosh_base.specs.declared.link.Tie.{Tie}
use Rattle.bosh_base.specs.declared.offer.Offer.{Offer}
use Rattle.bosh_base.specs.declared.owner.Owner.TheVariants.{Instance}
use Rattle.bosh_base.specs.declared.task.TaskKind.{TaskKind}
use Rattle.bosh_base.specs.declared.task.TaskKind.TheVariants.{CleanUp, DeleteDeployment, DeleteDisk, Deploy, Fix, Recreate, Resolve, Start, Stop}
use Rattle.bosh_base.specs.declared.view.View.{View}
use Rattle.bosh_cloudcfg.specs.declared.config.Config.{Config}
use Rattle.bosh_goal.specs.Anew.{anew, changed_row, is_row_of, row_anew}
use Rattle.bosh_goal.specs.declared.change.Change.{Change}
use Rattle.bosh_goal.specs.declared.change.Change.TheVariants.{Fresh, To, Same}
use Rattle.bosh_history.specs.Goals.{inst_of, is_in, named_instance}
use Rattle.bosh_history.specs.Held.{held_elsewhere, of_make, same_bytes_joint, view}
use Rattle.bosh_history.specs.Keys.{are_left}
use Rattle.bosh_history.specs.Known.{Known}
use Rattle.bosh_history.specs.Slots.{is_compiled}
use Rattle.bosh_history.specs.Sound.{addrs, are_rows_kept, has_addr, has_addresses, has_instances, has_no_address, has_offers, has_plan, has_slots, is_held, is_renewed, is_sound_goal, is_tie_kept, row_addrs, same_offer, same_plan, slot_addrs}
use Rattle.bosh_rows.specs.SoundSnapshot.{are_distinct}
use Rattle.bosh_pool.proofs.ListLemmas.{recursion_from_contains}
use Rattle.bosh_rows.specs.Disks.{is_detached}
use Rattle.bosh_rows.specs.Same.{same_inst, same_tie}
use Rattle.laws_goals.specs.Free.{HasFreeAddresses}
use Rattle.laws_goals.specs.Records.{AreKeysListed, IsCurrent}
use Rattle.laws_goals.specs.Renewed.{HasKeysLeft, IsRenewed, is_cleared, is_cleared_for}
use Rattle.laws_goals.specs.Rows.{HasSoundRows}
use Rattle.laws_goals.proofs.AnewLemmas.{IsAnew, anew-inst, is-anew, is-renewed}
use Rattle.laws_goals.proofs.ClearedLemmas.{is-cleared-for}
use Rattle.laws_goals.proofs.LeftLemmas.{has-keys-left}
use Rattle.laws_goals.proofs.ListLemmas.{all_at, all_front, all_map, all_mapped, all_pass, none_pass, passes}
use Rattle.laws_goals.proofs.RecordLemmas.{Elsewhere, addresses-sound, all-both, all-unflat, all-where, instances-sound, keys-left-sound, of-rows, other-row}
use Rattle.laws_goals.proofs.RenewalLemmas.{renewed-addresses-free}
use Rattle.laws_goals.proofs.SameLemmas.{bytes-same, inst-is}
use Rattle.laws_goals.proofs.TieLemmas.{joint-self}

-- ---- rows

module _ (inst : Inst) (change : Change) (last : ℕ) where
  abbrev renewed : GoalRow → GoalRow
  renewed = row_anew inst change last

  insts-same : (rows : List GoalRow) → map inst_of (map renewed rows) ≡ map inst_of rows
  insts-same [] = refl
  insts-same (row ∷ rows) = λ i. anew-inst inst change last row i ∷ insts-same rows i

  dep-same : (dep : List ℕ) (rows : List GoalRow) → list_all (λ want. bytes_eq want.inst.dep dep) (map renewed rows) ≡ list_all (λ want. bytes_eq want.inst.dep dep) rows
  dep-same dep [] = refl
  dep-same dep (row ∷ rows) = λ i. bytes_eq (anew-inst inst change last row i).dep dep && dep-same dep rows i

  plan-same : (goal : Goal) (rows : List GoalRow) → list_all (has_plan goal) (map renewed rows) ≡ list_all (has_plan goal) rows
  plan-same goal [] = refl
  plan-same goal (row ∷ rows) = λ i. has_plan goal (record row { inst = anew-inst inst change last row i }) && plan-same goal rows i

  fresh-row : (row : GoalRow) → nat_le row.fresh_after last ≡ true → nat_le (renewed row).fresh_after last ≡ true
  fresh-row row h = by (is_row_of inst row) change
    where
      by : (b : Bool) (c : Change) → nat_le (cond b (changed_row c last row) row).fresh_after last ≡ true
      by false c = h
      by true Fresh = le-leb last last (omega arith)
      by true (To state) = h
      by true Same = h

  fresh-same : (rows : List GoalRow) → list_all (λ want. nat_le want.fresh_after last) rows ≡ true → list_all (λ want. nat_le want.fresh_after last) (map renewed rows) ≡ true
  fresh-same rows h =
      all_pass (λ want. nat_le want.fresh_after last) (map renewed rows) (all_mapped (λ want. nat_le want.fresh_after last ≡ true) renewed rows
      (all_map (λ want. nat_le want.fresh_after last ≡ true) (λ want. nat_le (renewed want).fresh_after last ≡ true) rows fresh-row (passes (λ want. nat_le want.fresh_after last) rows h)))

rows-sound : (inst : Inst) (change : Change) (config : Config) (view : View) (goal it : Goal) → HasSoundRows view.last_call goal → IsAnew inst change config view goal it → HasSoundRows view.last_call it
rows-sound inst change config view goal it rows made =
    subst (HasSoundRows view.last_call) (sym made.is) (record {
      distinct = ap (are_distinct same_inst) (insts-same inst change view.last_call goal.rows) ∙ rows.distinct;
      of_the_deployment = dep-same inst change view.last_call goal.dep goal.rows ∙ rows.of_the_deployment;
      planned = plan-same inst change view.last_call goal goal.rows ∙ rows.planned;
      fresh = fresh-same inst change view.last_call goal.rows rows.fresh;
    })

-- ---- plans, ties and offers are themselves

pointwise-self : {X : Type 0} (same : X → X → Bool) → ((x : X) → same x x ≡ true) → (xs : List X) → pointwise same xs xs ≡ true
pointwise-self same self [] = refl
pointwise-self same self (x ∷ xs) = and_from (same x x) (pointwise same xs xs) (self x) (pointwise-self same self xs)

plan-self : (plan : GroupPlan) → same_plan plan plan ≡ true
plan-self plan =
    and_from (bytes_eq plan.name plan.name) _ (bytes-same plan.name plan.name refl)
    (and_from (plan.canaries == plan.canaries) _ (eq-eqb plan.canaries plan.canaries refl)
    (and_from (plan.limit == plan.limit) (plan.stage == plan.stage) (eq-eqb plan.limit plan.limit refl) (eq-eqb plan.stage plan.stage refl)))

tie-self : (tie : Tie) → same_tie tie tie ≡ true
tie-self tie = and_from (same_bytes_joint tie.consumer tie.consumer) _ (joint-self tie.consumer) (and_from (same_bytes_joint tie.provider tie.provider) (bytes_eq tie.kind tie.kind) (joint-self tie.provider) (bytes-same tie.kind tie.kind refl))

offer-self : (offer : Offer) → same_offer offer offer ≡ true
offer-self offer = and_from (same_bytes_joint offer.joint offer.joint) (bytes_eq offer.kind offer.kind) (joint-self offer.joint) (bytes-same offer.kind offer.kind refl)

-- ---- addresses of the named row

module _ (k : Known) (it : Goal) (recorded : list_all (λ i. same_inst (k.row i).inst i) k.instances ≡ true) (own : list_all (λ want. bytes_eq want.inst.dep it.dep) it.rows ≡ true)
    (untaken : list_all (λ a. not (is_held (held_elsewhere k it.dep) a)) (row_addrs it ++ slot_addrs it) ≡ true) where
  -- an instance of another deployment has no address of a row
  none-elsewhere : (want : GoalRow) → AllByRecursion (λ a. not (is_held (held_elsewhere k it.dep) a) ≡ true) (addrs want.make) → (i : Inst) → Contains k.instances i → bytes_eq i.dep it.dep ≡ false
      → list_any (λ a. has_addr a (k.row i).make) (addrs want.make) ≡ false
  none-elsewhere want free i there other =
      none_pass (λ a. has_addr a (k.row i).make) (addrs want.make)
      (all_map (λ a. not (is_held (held_elsewhere k it.dep) a) ≡ true) (λ a. has_addr a (k.row i).make ≡ false) (addrs want.make)
      (λ a h.
      let none : is_held (held_elsewhere k it.dep) a ≡ false = not-true (is_held (held_elsewhere k it.dep) a) h in
      other-row k it recorded own a none i (k.row i).make other
      (all_at (λ j. AllByRecursion (Elsewhere k it recorded own a none) (of_make (Instance j) (k.row j).make)) k.instances i
      (all-unflat (Elsewhere k it recorded own a none) (λ j. of_make (Instance j) (k.row j).make) k.instances (of-rows k it recorded own a none)) there)) free)

  cleared-row : (want : GoalRow) → AllByRecursion (λ a. not (is_held (held_elsewhere k it.dep) a) ≡ true) (addrs want.make) → is_cleared (view k it.dep).rows it want ≡ true → has_no_address k it want ≡ true
  cleared-row want free cleared =
      all_pass (λ i. is_in (Some it) i || not (list_any (λ a. has_addr a (k.row i).make) (addrs want.make))) k.instances
      (recursion_from_contains (λ i. (is_in (Some it) i || not (list_any (λ a. has_addr a (k.row i).make) (addrs want.make))) ≡ true) k.instances
      (λ i there. by i there (bytes_eq i.dep it.dep) refl))
    where
      mine : AllByRecursion (λ i. bytes_eq i.dep it.dep ≡ true → (is_in (Some it) (k.row i).inst || not (list_any (λ a. has_addr a (k.row i).make) (addrs want.make))) ≡ true) k.instances
      mine =
          all-where (λ row. is_in (Some it) row.inst || not (list_any (λ a. has_addr a row.make) (addrs want.make))) k.row (λ i. bytes_eq i.dep it.dep) k.instances cleared

      by : (i : Inst) → Contains k.instances i → (b : Bool) → bytes_eq i.dep it.dep ≡ b → (is_in (Some it) i || not (list_any (λ a. has_addr a (k.row i).make) (addrs want.make))) ≡ true
      by i there true e =
          let same : (k.row i).inst ≡ i = inst-is (k.row i).inst i (all_at (λ j. same_inst (k.row j).inst j ≡ true) k.instances i (passes (λ j. same_inst (k.row j).inst j) k.instances recorded) there) in
          ap (λ (j : Inst). is_in (Some it) j || not (list_any (λ a. has_addr a (k.row i).make) (addrs want.make))) (sym same)
          ∙ all_at (λ j. bytes_eq j.dep it.dep ≡ true → (is_in (Some it) (k.row j).inst || not (list_any (λ a. has_addr a (k.row j).make) (addrs want.make))) ≡ true) k.instances i mine there e
      by i there false e =
          or_right (is_in (Some it) i) (not (list_any (λ a. has_addr a (k.row i).make) (addrs want.make))) (ap not (none-elsewhere want free i there e))

  free-rows : AllByRecursion (λ (want : GoalRow). AllByRecursion (λ a. not (is_held (held_elsewhere k it.dep) a) ≡ true) (addrs want.make)) it.rows
  free-rows =
      all-unflat (λ a. not (is_held (held_elsewhere k it.dep) a) ≡ true) (λ (want : GoalRow). addrs want.make) it.rows
      (all_front (λ a. not (is_held (held_elsewhere k it.dep) a) ≡ true) (row_addrs it) (slot_addrs it) (passes (λ a. not (is_held (held_elsewhere k it.dep) a)) (row_addrs it ++ slot_addrs it) untaken))

  named-row : (i : Inst) → is_cleared_for (view k it.dep).rows it i ≡ true → list_all (λ want. not (same_inst want.inst i) || (is_detached want.state || has_no_address k it want)) it.rows ≡ true
  named-row i cleared =
      all_pass (λ want. not (same_inst want.inst i) || (is_detached want.state || has_no_address k it want)) it.rows
      (all-both (λ (want : GoalRow). AllByRecursion (λ a. not (is_held (held_elsewhere k it.dep) a) ≡ true) (addrs want.make))
      (λ want. (not (same_inst want.inst i) || (is_detached want.state || is_cleared (view k it.dep).rows it want)) ≡ true)
      (λ want. (not (same_inst want.inst i) || (is_detached want.state || has_no_address k it want)) ≡ true) it.rows
      (λ want free h. by want free (not (same_inst want.inst i)) (is_detached want.state) h)
      free-rows (passes (λ want. not (same_inst want.inst i) || (is_detached want.state || is_cleared (view k it.dep).rows it want)) it.rows cleared))
    where
      by : (want : GoalRow) → AllByRecursion (λ a. not (is_held (held_elsewhere k it.dep) a) ≡ true) (addrs want.make) → (b c : Bool)
          → (b || (c || is_cleared (view k it.dep).rows it want)) ≡ true → (b || (c || has_no_address k it want)) ≡ true
      by want free true c h = refl
      by want free false true h = refl
      by want free false false h = cleared-row want free h

-- ---- all

-- a task of one instance asks the same, whatever it is to do
for-each-kind : (k : Known) (kind : TaskKind) (inst : Inst) (it : Goal) → named_instance kind ≡ Some inst → is_sound_goal k (Recreate inst) it ≡ true → is_sound_goal k kind it ≡ true
for-each-kind k kind inst it names sound = by kind names
  where
    inst_in : Option Inst → Inst
    inst_in (Some i) = i
    inst_in None = inst

    as_named : (i : Inst) → Some i ≡ Some inst → inst ≡ i
    as_named i e = sym (ap inst_in e)

    none : None ≡ Some inst → (kind : TaskKind) → is_sound_goal k kind it ≡ true
    none e kind = absurd (true≢false (sym (ap is_some e)))

    by : (kind : TaskKind) → named_instance kind ≡ Some inst → is_sound_goal k kind it ≡ true
    by (Recreate i) e = subst (λ j. is_sound_goal k (Recreate j) it ≡ true) (as_named i e) sound
    by (Start i) e = subst (λ j. is_sound_goal k (Start j) it ≡ true) (as_named i e) sound
    by (Stop i) e = subst (λ j. is_sound_goal k (Stop j) it ≡ true) (as_named i e) sound
    by (Resolve i) e = subst (λ j. is_sound_goal k (Resolve j) it ≡ true) (as_named i e) sound
    by Deploy e = none e Deploy
    by DeleteDeployment e = none e DeleteDeployment
    by (DeleteDisk d) e = none e (DeleteDisk d)
    by CleanUp e = none e CleanUp
    by Fix e = none e Fix

pub is-sound-anew :
    (k : Known) (kind : TaskKind) (inst : Inst) (change : Change) (config : Config) (goal it : Goal) → named_instance kind ≡ Some inst → IsCurrent k goal → is_in (Some goal) inst ≡ true
    → anew inst change (Some config) (view k goal.dep) goal ≡ Ok it → is_sound_goal k kind it ≡ true
is-sound-anew k kind inst change config goal it names now inside told =
    let seen : View = view k goal.dep in
    let made : IsAnew inst change config seen goal it = is-anew inst change config seen goal it told in
    let kept : IsRenewed inst seen goal it = is-renewed inst change config seen goal it told in
    let dep_is : goal.dep ≡ it.dep = sym kept.dep in
    let rows : HasSoundRows k.last_call it = rows-sound inst change config seen goal it now.rows made in
    let free : HasFreeAddresses (view k it.dep) it =
    subst (λ dep. HasFreeAddresses (view k dep) it) dep_is (renewed-addresses-free inst change config seen goal it now.is now.addresses told) in
    let cleared : is_cleared_for (view k it.dep).rows it inst ≡ true =
    ap (λ dep. is_cleared_for (view k dep).rows it inst) (sym dep_is) ∙ is-cleared-for inst change config seen goal it now.rows.distinct told in
    let keys : (are_left (is_compiled k) it.keys && has_slots it) ≡ true =
    keys-left-sound k it (subst (AreKeysListed k) dep_is now.compiled) (subst (λ dep. HasKeysLeft (view k dep).compiled it) dep_is (has-keys-left inst change config seen goal it now.keys told)) in
    let ties : list_all (is_tie_kept k it) it.ties ≡ true = subst (λ (g : Goal). list_all (is_tie_kept k g) g.ties ≡ true) (sym made.is) now.ties in
    let offers : has_offers it ≡ true = subst (λ (g : Goal). has_offers g ≡ true) (sym made.is) now.offers in
    let renewed : is_renewed k it inst (k.goal it.dep) ≡ true =
    ap (λ dep. is_renewed k it inst (k.goal dep)) (sym dep_is) ∙ (ap (is_renewed k it inst) now.is
    ∙ and_from (is_in (Some goal) inst) _ inside
    (and_from (are_rows_kept inst it.rows goal.rows) _ kept.rows
    (and_from (pointwise same_plan it.groups goal.groups) _ (ap (λ plans. pointwise same_plan plans goal.groups) kept.plans ∙ pointwise-self same_plan plan-self goal.groups)
    (and_from (pointwise same_tie it.ties goal.ties) _ (ap (λ ties. pointwise same_tie ties goal.ties) kept.ties ∙ pointwise-self same_tie tie-self goal.ties)
    (and_from (pointwise same_offer it.offers goal.offers) _ (ap (λ offers. pointwise same_offer offers goal.offers) kept.offers ∙ pointwise-self same_offer offer-self goal.offers)
    (named-row k it now.recorded rows.of_the_deployment free.untaken inst cleared)))))) in
    for-each-kind k kind inst it names
    (and_from (has_instances k it) _ (instances-sound k it rows)
    (and_from (has_addresses k it) _ (addresses-sound k it now.recorded rows.of_the_deployment free)
    (and_from (are_left (is_compiled k) it.keys && has_slots it) _ keys
    (and_from (list_all (is_tie_kept k it) it.ties) _ ties (and_from (has_offers it) (is_renewed k it inst (k.goal it.dep)) offers renewed)))))
