-- The contents of disks are moved, and never left behind: so it is of each call that begins, and of each that is answered.
use Rattle.std.proofs.Common.{◌≡◌, ◌∙◌, ℕ, Bool, true, false, ◌&&◌, Option, Some, None, List, ap, refl, sym}
use Rattle.std.proofs.Common.{arith}
use Rattle.std.specs.Prelude.{◌||◌, ◌==◌, if◌then◌else◌}
use Rattle.std.specs.Option.{option_map}
use Rattle.std.specs.Str.{bytes_eq}
use Rattle.std.proofs.lemmas.Bool.{and_from, and_parts, eq-eqb, false≢true, or_left}
use Rattle.std.proofs.lemmas.Slice.Eq.{bytes_eq-Decides}
use Rattle.bosh_base.specs.declared.answer.Answer.{Answer}
use Rattle.bosh_base.specs.declared.answer.Answer.TheVariants as answers
use Rattle.bosh_base.specs.declared.call.Call.{Call}
use Rattle.bosh_base.specs.declared.call.Call.TheVariants as calls
use Rattle.bosh_base.specs.declared.entry.Begin.{Begin}
use Rattle.bosh_base.specs.declared.entry.End.{End}
use Rattle.bosh_base.specs.declared.entry.Entry.{Entry}
use Rattle.bosh_base.specs.declared.entry.Entry.TheVariants as entries
use Rattle.bosh_base.specs.declared.goal.GoalRow.{GoalRow}
use Rattle.bosh_base.specs.declared.inst.Inst.{Inst}
use Rattle.bosh_base.specs.declared.moves.Did.{Did}
use Rattle.bosh_base.specs.declared.owner.Owner.{Owner}
use Rattle.bosh_base.specs.declared.owner.Owner.TheVariants.{Instance, Compile, Disk}
use Rattle.bosh_base.specs.declared.row.DiskRow.{DiskRow}
use Rattle.bosh_base.specs.declared.row.Row.{Row}
use Rattle.bosh_base.specs.declared.row.Vm.{Vm}
use Rattle.bosh_history.specs.Calls.{call_ended}
use Rattle.bosh_history.specs.DiskContents.{begins_well, is_wrong, keeps_contents, keeps_disks, moves_contents}
use Rattle.bosh_history.specs.DiskContents.{moves_on, same_contents}
use Rattle.bosh_history.specs.Items.{is_to_go, is_to_ping}
use Rattle.bosh_history.specs.Known.{want_in}
use Rattle.bosh_history.specs.Learn.{learn}
use Rattle.bosh_history.specs.Moments.{Moment, OpenCall}
use Rattle.bosh_history.specs.Notes.{Begins, EndsCall, MayNote, Outside, answers as is_answered}
use Rattle.bosh_history.specs.Recovered.{may_follow}
use Rattle.bosh_history.specs.Sound.{has_plan}
use Rattle.bosh_history.specs.Steps.{call_now, want_of}
use Rattle.bosh_history.specs.Words.{holds}
use Rattle.bosh_rows.proofs.SameLemmas.{same_inst_decides}
use Rattle.bosh_rows.specs.After.{after}
use Rattle.bosh_rows.specs.CallOf.{next_call}
use Rattle.bosh_rows.specs.Disks.{active}
use Rattle.bosh_rows.specs.Same.{same_inst}
use Rattle.laws_cloud.proofs.CallLemmas.{InstanceCall, instance_fits, pings, steps}
use Rattle.laws_disk_contents.proofs.ActiveLemmas.{StaysActive, active_number, answered, gone}
use Rattle.laws_disk_contents.proofs.MigrationLemmas.{Moves, MovesOn, moves_on as moves_rightly}
use Rattle.laws_facts.proofs.WorkLemmas.{begun_works}
use Rattle.laws_facts.specs.Facts.{Holds}
use Rattle.laws_facts.specs.OpenCalls.{has_migrated}
use Rattle.laws_facts.specs.Owners.{is_done, works}
use Rattle.laws_items.proofs.ListLemmas.{all_in, find_in}
use Rattle.laws_items.proofs.ListedLemmas.{Lists, disks, instances, lists}
use Rattle.laws_items.proofs.RowFrames.{ended_own}
use Rattle.laws_items.specs.Lists.{IsIn}
use Rattle.laws_row_facts.specs.Calls.{row_before}

or_right : (a b : Bool) → b ≡ true → (a || b) ≡ true
or_right true b is = refl
or_right false b is = is

one : {X : Type 0} (a b : X) → Some a ≡ Some b → a ≡ b
one a b same = cc

-- ---- what a task wants is what the current goal wants

module _ (m : Moment) (h : Holds m) (t : ℕ) (working : works m t ≡ true) (i : Inst) (w : GoalRow) where
  goal_wants : want_in (m.known.task t).goal i ≡ Some w → want_in (m.known.goal i.dep) i ≡ Some w
  goal_wants is = by (lists m t h.known working)
    where
      by : Lists (m.known.task t) → want_in (m.known.goal i.dep) i ≡ Some w
      by (disks it) = absurd (let none : None ≡ Some w = sym (λ j. want_in (it.goal_is j) i) ∙ is in cc)
      by (instances it) =
          let wanted : want_in (Some it.goal) i ≡ Some w = sym (λ j. want_in (it.goal_is j) i) ∙ is in
          let found : IsIn w it.goal.rows × (same_inst i w.inst ≡ true) =
          find_in (λ (want : GoalRow). same_inst i want.inst) w it.goal.rows wanted in
          let current : m.known.goal it.dep ≡ Some it.goal =
          ((h.known.tasks t).working working).current it.dep it.dep_is ∙ it.goal_is in
          let of_goal : bytes_eq w.inst.dep it.goal.dep ≡ true =
          (and_parts (bytes_eq w.inst.dep it.goal.dep) (has_plan it.goal w)
          (all_in (λ (want : GoalRow). bytes_eq want.inst.dep it.goal.dep && has_plan it.goal want) w it.goal.rows
          (and_parts _ _ (h.known.goals it.dep it.goal current).sound_rows).1 found.0)).0 in
          let same : i.dep ≡ it.dep =
          ap (λ (x : Inst). x.dep) ((same_inst_decides i w.inst).0 found.1)
          ∙ ((bytes_eq-Decides w.inst.dep it.goal.dep).0 of_goal ∙ (h.known.goals it.dep it.goal current).of_dep) in
          (λ j. want_in (m.known.goal (same j)) i) ∙ ((λ j. want_in (current j) i) ∙ wanted)

  now_wanted : want_of (m.known.task t) i ≡ Some w → want_in (m.known.goal i.dep) i ≡ Some w
  now_wanted is = by (is_to_go (m.known.task t) i) is
    where
      by : (goes : Bool) → (if goes then None else want_in (m.known.task t).goal i) ≡ Some w
          → want_in (m.known.goal i.dep) i ≡ Some w
      by true none = absurd cc
      by false wants = goal_wants wants

module _ (m : Moment) (h : Holds m) where
  -- ---- a call begins

  begins_so : (t : ℕ) → works m t ≡ true → (i : Inst) (c : Call)
      → MovesOn (want_of (m.known.task t) i) (m.known.row i) c → moves_on m.known i c ≡ true
  begins_so t working i (calls.MigrateDisk v from to) it =
      and_from (holds (λ d. d == from) (active_number (m.known.row i).disks)) _
      ((λ j. holds (λ d. d == from) (it.was j)) ∙ eq-eqb from from refl) it.is_new
  begins_so t working i (calls.CreateDisk wanted v) it = by (active (m.known.row i).disks) refl
    where
      by : (a : Option DiskRow) → active (m.known.row i).disks ≡ a → moves_on m.known i (calls.CreateDisk wanted v) ≡ true
      by (Some d) is =
          let (w, wants, wrong) = it.wrong d is in
          let now : is_wrong (want_in (m.known.goal i.dep) i) d ≡ true =
          (λ j. is_wrong (now_wanted m h t working i w wants j) d) ∙ (sym (λ j. is_wrong (wants j) d) ∙ wrong) in
          grind (arith, is, now)
      by None is = grind (arith, is)
  begins_so t working i c it = refl

  begin_well : (b : Begin) → may_follow m (entries.Begin b) ≡ true → Begins m b → begins_well m.known b b.owner ≡ true
  begin_well b follows may = by b.owner may.is_call
    where
      of : (i : Inst) (ping : Bool) (vm : Option Vm)
          → (if ping then option_map (λ (it : Vm). calls.Ping it.vm) vm
          else next_call (want_of (m.known.task b.task) i) (m.known.row i)) ≡ Some b.call
          → moves_on m.known i b.call ≡ true
      of i true (Some it) next = sym (λ j. moves_on m.known i (one (calls.Ping it.vm) b.call next j))
      of i true None next = absurd cc
      of i false vm next =
          begins_so b.task (begun_works m b follows may) i b.call
          (moves_rightly (want_of (m.known.task b.task) i) (m.known.row i) (h.rows i).sound_disks b.call next)

      by : (owner : Owner) → call_now m b.task owner ≡ Some b.call → begins_well m.known b owner ≡ true
      by (Instance i) next = of i (is_to_ping (m.known.task b.task) i) (m.known.row i).vm next
      by (Compile t s) next = refl
      by (Disk d) next = refl

  -- ---- a call is answered

  contents_same : (call : Call) (xs ys : List DiskRow) → StaysActive xs ys
      → moves_contents m.effects call (active_number xs) (active_number ys) ≡ true
  contents_same call xs ys stays = by (active_number xs) refl
    where
      by : (a : Option ℕ) → active_number xs ≡ a
          → moves_contents m.effects call (active_number xs) (active_number ys) ≡ true
      by (Some old) is =
          (λ j. moves_contents m.effects call (is j) (stays old is j))
          ∙ or_left (old == old) _ (eq-eqb old old refl)
      by None is = λ j. moves_contents m.effects call (is j) (active_number ys)

  -- a migration that is answered otherwise leaves the active disk
  stays_unmoved : (n v from to : ℕ) (answer : Answer) (row : Row) → is_done answer ≡ false
      → StaysActive row.disks (after n (calls.MigrateDisk v from to) answer row).disks
  stays_unmoved n v from to answers.Done row none = absurd (false≢true (sym none))
  stays_unmoved n v from to answers.Failed row none = λ old is. is
  stays_unmoved n v from to answers.Gone row none = gone (calls.MigrateDisk v from to) row
  stays_unmoved n v from to answer row none = λ old is. is

  module _ (n : ℕ) (call : OpenCall) (is : m.calls n ≡ Some call) (i : Inst) (own : call.begin.owner ≡ Instance i)
      (d : Did) (did : call.did ≡ Some d) where
    abbrev row : Row
    row = m.known.row i

    migration : (v from to : ℕ) → call.begin.call ≡ calls.MigrateDisk v from to → Moves row from to
    migration v from to called = by (instance_fits m h n call is i own).call_is
      where
        by : InstanceCall (m.known.task call.begin.task) i row call.begin.call → Moves row from to
        by (pings it has same) = absurd (let both : calls.Ping it.vm ≡ calls.MigrateDisk v from to = same ∙ called in cc)
        by (steps next) =
            moves_rightly (want_of (m.known.task call.begin.task) i) row (h.rows i).sound_disks
            (calls.MigrateDisk v from to)
            (sym (λ j. next_call (want_of (m.known.task call.begin.task) i) (row_before (called j) row))
            ∙ (next ∙ (λ j. Some (called j))))

    alike : (v from to : ℕ) → call.begin.call ≡ calls.MigrateDisk v from to → d.answer ≡ answers.Done
        → same_contents m.effects from to ≡ true
    alike v from to called done =
        sym ((λ j. has_migrated m (record { begin = record call.begin { call = called j }; did = did j }))
        ∙ (λ j. has_migrated m (record {
          begin = record call.begin { call = calls.MigrateDisk v from to };
          did = Some (record d { answer = done j });
        })))
        ∙ (h.performed n call is).migrated

    moved : (answer : Answer) → d.answer ≡ answer → (c : Call) → call.begin.call ≡ c
        → moves_contents m.effects c (active_number row.disks) (active_number (after call.begin.n c answer row).disks)
        ≡ true
    moved answer told (calls.MigrateDisk v from to) called = by (is_done answer) refl
      where
        done_is : (a : Answer) → is_done a ≡ true → a ≡ answers.Done
        done_is answers.Done is = refl
        done_is a is = absurd (false≢true is)

        by : (done : Bool) → is_done answer ≡ done
            → moves_contents m.effects (calls.MigrateDisk v from to) (active_number row.disks)
            (active_number (after call.begin.n (calls.MigrateDisk v from to) answer row).disks) ≡ true
        by true done =
            let it : Moves row from to = migration v from to called in
            (λ j. moves_contents m.effects (calls.MigrateDisk v from to) (it.was j)
            (active_number (after call.begin.n (calls.MigrateDisk v from to) (done_is answer done j) row).disks))
            ∙ ((λ j. moves_contents m.effects (calls.MigrateDisk v from to) (Some from) (it.now j))
            ∙ or_right (from == to) _
            (and_from (from == from) _ (eq-eqb from from refl)
            (and_from (to == to) _ (eq-eqb to to refl) (alike v from to called (told ∙ done_is answer done)))))
        by false other =
            contents_same (calls.MigrateDisk v from to) row.disks
            (after call.begin.n (calls.MigrateDisk v from to) answer row).disks
            (stays_unmoved call.begin.n v from to answer row other)
    moved answer told c called =
        contents_same c row.disks (after call.begin.n c answer row).disks (answered call.begin.n c answer row refl)

  end_well : (e : End) → EndsCall e (m.calls e.n) → keeps_contents m e (m.known.begun e.n) ≡ true
  end_well e may = by (m.calls e.n) refl may
    where
      of : (call : OpenCall) → m.calls e.n ≡ Some call → (did : Option Did) → call.did ≡ did → is_answered e.answer did
          → (owner : Owner) → call.begin.owner ≡ owner
          → keeps_contents m e (Some (record call.begin { owner = owner })) ≡ true
      of call is (Some d) told answer (Instance i) own =
          (λ j. moves_contents m.effects call.begin.call (active_number (m.known.row i).disks)
          (active_number (now j).disks))
          ∙ moved e.n call is i own d told e.answer answer call.begin.call refl
        where
          now : (learn m.known (entries.End e)).row i
              ≡ after call.begin.n call.begin.call e.answer (m.known.row i)
          now =
              ap (λ (b : Option Begin). (call_ended e.answer b m.known).row i) (h.known.calls e.n call is).begun
              ∙ ended_own e.answer call.begin m.known i own
      of call is (Some d) told answer (Compile t s) own = refl
      of call is (Some d) told answer (Disk disk) own = refl
      of call is None told answer owner own = absurd answer

      by : (call : Option OpenCall) → m.calls e.n ≡ call → EndsCall e call
          → keeps_contents m e (m.known.begun e.n) ≡ true
      by (Some call) is ends =
          (λ j. keeps_contents m e ((h.known.calls e.n call is).begun j))
          ∙ of call is call.did refl ends call.begin.owner refl
      by None is ends = absurd ends

  -- ---- an entry

  pub contents_kept : (outside : Outside) (e : Entry) → may_follow m e ≡ true → MayNote outside m e
      → keeps_disks m e ≡ true
  contents_kept outside (entries.Begin b) follows may = begin_well b follows may
  contents_kept outside (entries.End e) follows may = end_well e may
  contents_kept outside e follows may = refl
