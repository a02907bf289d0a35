-- Each disk of the deployment that is there stays with its row, or is orphaned.
use Rattle.std.proofs.Common.{◌≡◌, ◌∙◌, ℕ, ◌+◌, Bool, true, false, ◌&&◌, ◌||◌, not, List, [], ◌∷◌, Option, Some, None}
use Rattle.std.proofs.Common.{ap, refl, sym, arith}
use Rattle.std.specs.Prelude.{◌==◌, count_by, is_some}
use Rattle.std.specs.List.{list_any}
use Rattle.std.specs.Str.{bytes_eq}
use Rattle.std.proofs.lemmas.Bool.{and_from, eqb-true, false≢true, or_left, or_right}
use Rattle.std.proofs.lemmas.Slice.Eq.{bytes_eq-Decides}
use Rattle.bosh_base.specs.Cloud.{disk_creation, disks_created, is_disk_there, numbers_to}
use Rattle.bosh_base.specs.declared.disk_want.DiskWant.{DiskWant}
use Rattle.bosh_base.specs.declared.entry.Effect.{Effect}
use Rattle.bosh_base.specs.declared.goal.Goal.{Goal}
use Rattle.bosh_base.specs.declared.goal.GoalRow.{GoalRow}
use Rattle.bosh_base.specs.declared.inst.Inst.{Inst}
use Rattle.bosh_base.specs.declared.owner.Owner.{Owner}
use Rattle.bosh_base.specs.declared.owner.Owner.TheVariants.{Compile, Disk, Instance}
use Rattle.bosh_base.specs.declared.row.DiskRow.{DiskRow}
use Rattle.bosh_base.specs.declared.row.Row.{Row}
use Rattle.laws_facts.specs.Disks.{is_counted_by, times_recorded}
use Rattle.bosh_history.specs.Moments.{Moment}
use Rattle.bosh_history.specs.Ties.{is_making}
use Rattle.bosh_rows.specs.Tied.{one_if}
use Rattle.bosh_rows.proofs.SameLemmas.{same_inst_decides}
use Rattle.bosh_rows.specs.Disks.{is_active, is_detached, stays}
use Rattle.bosh_rows.specs.Same.{same_inst, same_owner}
use Rattle.bosh_rows.specs.Standing.{has_disks}
use Rattle.laws_items.proofs.ListLemmas.{Meets, all_from, all_in, any_in, some_meets}
use Rattle.laws_items.specs.Lists.{IsIn}
use Rattle.laws_exact.proofs.SettledLemmas.{IsSettled}
use Rattle.laws_exact.proofs.StandLemmas.{Stands, actives_of, known_of}
use Rattle.bosh_history.specs.Exact.{is_accounted, is_of_inst, is_owner_in, is_staying, is_staying_of, leaves_no_disk}
use Rattle.bosh_history.specs.Exact.{is_made_in}
use Rattle.laws_exact.specs.Premises.{IsLeftWell}

-- what is counted is there
some_counted : (p : DiskRow → Bool) (xs : List DiskRow) → count_by p xs ≡ 1 → list_any p xs ≡ true
some_counted p xs one = by (list_any p xs) refl
  where
    none : (xs : List DiskRow) → list_any p xs ≡ false → count_by p xs ≡ 0
    none [] is = refl
    none (x ∷ xs) is = grind (arith, is, none xs)

    by : (b : Bool) → list_any p xs ≡ b → list_any p xs ≡ true
    by true is = is
    by false is = absurd (grind (arith, none xs is, one))

-- a disk of a row that stands is kept by it
keeps : (want : GoalRow) (row : Row) → Stands want row → (x : DiskRow) → IsIn x row.disks → stays want x ≡ true
keeps want row stands x is =
    and_from (is_active x) _ (all_in is_active x row.disks (actives_of want row stands) is) (by stands)
  where
    by_want : (d : Option DiskWant) → has_disks d row.disks ≡ true → is_some d ≡ true
    by_want (Some wanted) has = refl
    by_want None has = absurd (empty row.disks has is)
      where
        empty : (xs : List DiskRow) → has_disks None xs ≡ true → IsIn x xs → ⊥
        empty [] has is = is
        empty (y ∷ xs) has is = false≢true has

    by : Stands want row → (is_some want.disk || is_detached want.state) ≡ true
    by (Stands.away detached it) = or_right (is_some want.disk) (is_detached want.state) detached
    by (Stands.up running it) = or_left (is_some want.disk) (is_detached want.state) (by_want want.disk it.disks)

module _ (m : Moment) (facts : IsLeftWell m) (goal : Goal) where
  -- how often a disk of an instance is recorded
  counted : (d : ℕ) (e : Effect) (i : Inst) → is_disk_there m.effects d ≡ true → disk_creation m.effects d ≡ Some e
      → e.owner ≡ Instance i
      → times_recorded (m.known.row i) (is_some (m.known.orphan d)) d e.n ≡ 1
  counted d e i there creation own =
      eqb-true _ 1
      ((λ j. not (sym there j) || is_counted_by m.known.row (is_some (m.known.orphan d)) d (counts j))
      ∙ facts.once d)
    where
      counts : Some (record e { owner = Instance i }) ≡ disk_creation m.effects d
      counts = (λ j. Some (record e { owner = sym own j })) ∙ sym creation

  recorded : (d : ℕ) (e : Effect) (i : Inst) → IsSettled m.known goal i → is_disk_there m.effects d ≡ true
      → disk_creation m.effects d ≡ Some e → e.owner ≡ Instance i
      → (is_staying m.known (Some goal) d || is_some (m.known.orphan d)) ≡ true
  recorded d e i settled there creation own =
      by (is_some (m.known.orphan d)) refl (counted d e i there creation own) settled
    where
      by : (b : Bool) → is_some (m.known.orphan d) ≡ b
          → times_recorded (m.known.row i) (is_some (m.known.orphan d)) d e.n ≡ 1 → IsSettled m.known goal i
          → (is_staying m.known (Some goal) d || is_some (m.known.orphan d)) ≡ true
      by true orphaned times it = or_right (is_staying m.known (Some goal) d) _ orphaned
      by false kept times (IsSettled.other none bare) =
          absurd (let is : ◌≡◌ {A = ℕ} 0 1 =
          (λ j. times_recorded (sym bare j) (sym kept j) d e.n) ∙ times in grind (arith, is))
      by false kept times (IsSettled.wanted want among same found stands) =
          or_left (is_staying m.known (Some goal) d) _
          (any_in (λ want. list_any (is_staying_of d want) (m.known.row want.inst).disks) want goal.rows among
          (any_in (is_staying_of d want) found_.x (m.known.row want.inst).disks found_.is_in
          (and_from (found_.x.disk == d) _ found_.meets
          (keeps want (m.known.row want.inst) stands found_.x found_.is_in))))
        where
          row : Row
          row = m.known.row want.inst

          once : count_by (λ it. it.disk == d) row.disks + 0 + 0 ≡ 1
          once =
              (λ j. count_by (λ (it : DiskRow). it.disk == d) (m.known.row (sym same j)).disks
              + one_if (is_making e.n (known j)) + one_if (sym kept j)) ∙ times
            where
              known : None ≡ (m.known.row i).doubt
              known = sym ((λ j. (m.known.row (same j)).doubt) ∙ known_of want row stands)

          found_ : Meets (λ it. it.disk == d) row.disks
          found_ =
              some_meets (λ it. it.disk == d) row.disks
              (some_counted (λ it. it.disk == d) row.disks (grind (arith, once)))

  -- of a deployment whose instances are settled
  pub disks_accounted : (dep : List ℕ) → ((i : Inst) → i.dep ≡ dep → IsSettled m.known goal i)
      → leaves_no_disk m (is_made_in dep) (Some goal) ≡ true
  disks_accounted dep settled =
      all_from (is_accounted m (is_made_in dep) (Some goal)) (numbers_to (disks_created m.effects))
      (λ d is. by d (is_disk_there m.effects d) refl (disk_creation m.effects d) refl)
    where
      of_owner : (d : ℕ) (e : Effect) (owner : Owner) → e.owner ≡ owner → is_disk_there m.effects d ≡ true
          → disk_creation m.effects d ≡ Some e
          → (not (true && is_owner_in dep owner)
          || (is_staying m.known (Some goal) d || is_some (m.known.orphan d))) ≡ true
      of_owner d e (Compile u s) own there creation = refl
      of_owner d e (Disk o) own there creation = refl
      of_owner d e (Instance i) own there creation = by_dep (bytes_eq i.dep dep) refl
        where
          by_dep : (b : Bool) → bytes_eq i.dep dep ≡ b
              → (not (true && bytes_eq i.dep dep)
              || (is_staying m.known (Some goal) d || is_some (m.known.orphan d))) ≡ true
          by_dep false foreign =
              λ j. not (foreign j) || (is_staying m.known (Some goal) d || is_some (m.known.orphan d))
          by_dep true here =
              or_right (not (bytes_eq i.dep dep)) _
              (recorded d e i (settled i ((bytes_eq-Decides i.dep dep).0 here)) there creation own)

      by : (d : ℕ) (b : Bool) → is_disk_there m.effects d ≡ b → (e : Option Effect) → disk_creation m.effects d ≡ e
          → (not (b && is_made_in dep e) || (is_staying m.known (Some goal) d || is_some (m.known.orphan d))) ≡ true
      by d false gone e creation = refl
      by d true there None creation = refl
      by d true there (Some e) creation = of_owner d e e.owner refl there creation

  -- of one instance that is settled
  pub own_disks_accounted : (i : Inst) → IsSettled m.known goal i → leaves_no_disk m (is_of_inst i) (Some goal) ≡ true
  own_disks_accounted i settled =
      all_from (is_accounted m (is_of_inst i) (Some goal)) (numbers_to (disks_created m.effects))
      (λ d is. by d (is_disk_there m.effects d) refl (disk_creation m.effects d) refl)
    where
      of_owner : (d : ℕ) (e : Effect) (owner : Owner) → e.owner ≡ owner → is_disk_there m.effects d ≡ true
          → disk_creation m.effects d ≡ Some e
          → (not (true && same_owner owner (Instance i))
          || (is_staying m.known (Some goal) d || is_some (m.known.orphan d))) ≡ true
      of_owner d e (Compile u s) own there creation = refl
      of_owner d e (Disk o) own there creation = refl
      of_owner d e (Instance other) own there creation = by_inst (same_inst other i) refl
        where
          by_inst : (b : Bool) → same_inst other i ≡ b
              → (not (true && same_inst other i)
              || (is_staying m.known (Some goal) d || is_some (m.known.orphan d))) ≡ true
          by_inst false foreign =
              λ j. not (foreign j) || (is_staying m.known (Some goal) d || is_some (m.known.orphan d))
          by_inst true same =
              or_right (not (same_inst other i)) _
              (recorded d e i settled there creation
              (own ∙ ap Instance ((same_inst_decides other i).0 same)))

      by : (d : ℕ) (b : Bool) → is_disk_there m.effects d ≡ b → (e : Option Effect) → disk_creation m.effects d ≡ e
          → (not (b && is_of_inst i e) || (is_staying m.known (Some goal) d || is_some (m.known.orphan d))) ≡ true
      by d false gone e creation = refl
      by d true there None creation = refl
      by d true there (Some e) creation = of_owner d e e.owner refl there creation
