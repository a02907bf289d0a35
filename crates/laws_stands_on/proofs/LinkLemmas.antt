-- The places that are told go on to be those of the lists, where neither changes.
use Rattle.std.proofs.Common.{◌≡◌, ◌∙◌, ℕ, Bool, true, false, List, Option, Some, None, ap, refl, subst, sym}
use Rattle.std.specs.Prelude.{eqb, option_map, if◌then◌else◌}
use Rattle.std.specs.Option.{option_and_then}
use Rattle.bosh_base.specs.declared.inst.Inst.{Inst}
use Rattle.bosh_records.specs.Places.{part_of}
use Rattle.bosh_records.specs.Recorded.{Recorded}
use Rattle.bosh_rows.specs.Same.{same_inst}
use Rattle.bosh_work.specs.declared.part.MachineName.{MachineName}
use Rattle.bosh_work.specs.declared.part.Part.{Part}
use Rattle.bosh_work.specs.declared.work.Work.{Work}
use Rattle.laws_stands.specs.GroupsStand.{change_place}
use Rattle.laws_stands.specs.LineStands.{place_of}
use Rattle.laws_stands.specs.Linked.{IsLinked, same_machine, want_place}
use Rattle.laws_stands.specs.Reading.{dep_of, goal_of, instance_of, machine_of, orphan_of, work_of}

-- a work lists what another one lists
pub record ListsSame (new old : Work) : Type 0 where
  pub pings : new.pings.items ≡ old.pings.items
  pub obsolete : new.obsolete.items ≡ old.obsolete.items
  pub changed : new.changed ≡ old.changed
  pub sweep : new.sweep.items ≡ old.sweep.items
  pub disks : new.disks.items ≡ old.disks.items

-- what a work lists it listed before
pub record WasWork (it : Recorded) (t : ℕ) (w : Work) : Type 0 where
  pub old : Work
  pub is : work_of it t ≡ Some old
  pub same : ListsSame w old

-- where the work of one task changed, and lists what it listed
pub changed_work : (it new : Recorded) (n : ℕ) (change : Work → Work) → ((w : Work) → ListsSame (change w) w)
    → ((t : ℕ) → work_of new t ≡ (if eqb n t then option_map change (work_of it t) else work_of it t))
    → (t : ℕ) (w : Work) → work_of new t ≡ Some w → WasWork it t w
changed_work it new n change keeps works t w is = by (eqb n t) (work_of it t) refl (sym (works t) ∙ is)
  where
    by : (b : Bool) (o : Option Work) → work_of it t ≡ o
        → (if b then option_map change (work_of it t) else work_of it t) ≡ Some w → WasWork it t w
    by true (Some old) there is =
        let e : Some (change old) ≡ Some w = (λ j. option_map change (sym there j)) ∙ is in
        let same : change old ≡ w = cc in
        record { old = old; is = there; same = subst (λ w. ListsSame w old) same (keeps old) }
    by true None there is = absurd (let e : None ≡ Some w = (λ j. option_map change (sym there j)) ∙ is in cc)
    by false (Some old) there is =
        let e : Some old ≡ Some w = sym there ∙ is in
        let same : old ≡ w = cc in
        record {
          old = old;
          is = there;
          same =
              subst (λ w. ListsSame w old) same (record {
                pings = refl;
                obsolete = refl;
                changed = refl;
                sweep = refl;
                disks = refl;
              });
        }
    by false None there is = absurd (let e : None ≡ Some w = sym there ∙ is in cc)

-- the places and the lists are as before
pub record SameLinks (it new : Recorded) : Type 0 where
  pub wants : (i : Inst) → option_and_then (λ known. known.want) (instance_of new i)
      ≡ option_and_then (λ known. known.want) (instance_of it i)
  pub goals : (dep : List ℕ) → goal_of new dep ≡ goal_of it dep
  pub parts : (i : Inst) → part_of new i ≡ part_of it i
  pub deps : (t : ℕ) → dep_of new t ≡ dep_of it t
  pub works : (t : ℕ) (w : Work) → work_of new t ≡ Some w → WasWork it t w
  pub machines : (name : MachineName) → machine_of new name ≡ machine_of it name
  pub orphans : (d : ℕ) → orphan_of new d ≡ orphan_of it d

pub links_go_on : (it new : Recorded) → SameLinks it new → IsLinked it → IsLinked new
links_go_on it new same linked = record {
  wants = λ i. same.wants i ∙ linked.wants i ∙ ap (option_and_then (λ goal. want_place goal.rows i))
      (sym (same.goals i.dep));
  pings = λ t w i is dep. let was : WasWork it t w = same.works t w is in
      ap (λ (part : Part). part.ping) (same.parts i) ∙ linked.pings t was.old i was.is (sym (same.deps t) ∙ dep)
      ∙ ap (place_of same_inst i) (sym (was.same).pings);
  leaving = λ t w i is dep. let was : WasWork it t w = same.works t w is in
      ap (λ (part : Part). part.leaving) (same.parts i) ∙ linked.leaving t was.old i was.is (sym (same.deps t)
      ∙ dep) ∙ ap (place_of same_inst i) (sym (was.same).obsolete);
  changes = λ t w i is dep. let was : WasWork it t w = same.works t w is in
      ap (λ (part : Part). part.change) (same.parts i) ∙ linked.changes t was.old i was.is (sym (same.deps t) ∙ dep)
      ∙ ap (λ changed. change_place changed i) (sym (was.same).changed);
  sweeps = λ t w name machine is there dep. let was : WasWork it t w = same.works t w is in
      linked.sweeps t was.old name machine was.is (sym (same.machines name) ∙ there) (sym (same.deps t) ∙ dep)
      ∙ ap (place_of same_machine name) (sym (was.same).sweep);
  deletions = λ t w d loose is there dep. let was : WasWork it t w = same.works t w is in
      linked.deletions t was.old d loose was.is (sym (same.orphans d) ∙ there) (sym (same.deps t) ∙ dep)
      ∙ ap (place_of eqb d) (sym (was.same).disks);
}
