-- While a migration is open, no job writes to its disks: no machine of its instance runs.
use Rattle.std.proofs.Common.{◌≡◌, ◌∙◌, ℕ, Bool, true, false, Option, Some, None, List, [], ◌∷◌, refl, sym, inl, inr}
use Rattle.std.specs.Option.{option_eq}
use Rattle.std.specs.Prelude.{◌⊎◌, ◌≢◌, ◌&&◌, ◌||◌, ◌==◌, filter, nat_eq, not, if◌then◌else◌}
use Rattle.std.specs.Cmp.Lexicographic.{pointwise}
use Rattle.std.specs.List.{list_all, list_any}
use Rattle.std.proofs.lemmas.Bool.{and_from, and_parts, eqb-true, false≢true, or_cases, or_left, or_right, not-true}
use Rattle.std.proofs.lemmas.Bool.{eq-eqb}
use Rattle.bosh_base.specs.Cloud.{disk_creation, is_running, is_silent, is_vm_there, numbers_to, spec_of, vm_creation}
use Rattle.bosh_base.specs.Cloud.{vms_created}
use Rattle.bosh_base.specs.declared.entry.Effect.{Effect}
use Rattle.bosh_base.specs.declared.inst.Inst.{Inst}
use Rattle.bosh_base.specs.declared.owner.Owner.TheVariants.{Instance}
use Rattle.bosh_base.specs.declared.row.DiskRow.{DiskRow}
use Rattle.bosh_base.specs.declared.row.Row.{Row}
use Rattle.bosh_history.specs.Moments.{Moment}
use Rattle.bosh_history.specs.Permitted.{can_write, runs_with}
use Rattle.bosh_history.specs.Words.{holds}
use Rattle.bosh_rows.proofs.SameLemmas.{same_inst_decides}
use Rattle.bosh_rows.specs.Disks.{active}
use Rattle.bosh_rows.specs.Same.{same_inst, same_spec}
use Rattle.bosh_rows.specs.Standing.{same_truth}
use Rattle.bosh_rows.specs.Tied.{as_done, has_facts, is_made_for, is_named_lost, is_spoiled, is_tied_to}
use Rattle.bosh_rows.specs.Tied.{is_tied_to_lost, number_of, vms_of, was_made, without_doubt}
use Rattle.laws_answered_rows.proofs.NextCases.{known_same}
use Rattle.laws_contents_kept.proofs.MigrationLemmas.{in_row, Migrates}
use Rattle.laws_contents_kept.proofs.SilenceLemmas.{lost_silent}
use Rattle.laws_disks_kept.proofs.CountLemmas.{row_kept}
use Rattle.laws_facts.specs.Facts.{Holds}
use Rattle.laws_items.proofs.OwnerLemmas.{same_owner_is}
use Rattle.laws_moves.specs.Parts.{Writer}
use Rattle.laws_rows.proofs.ListLemmas.{active_found}
use Rattle.laws_rows.proofs.SteadyLemmas.{IsTiedTo, tied-parts}
use Rattle.laws_rows.proofs.WholeTieLemmas.{same_list, truth-same}
use Rattle.laws_rows.specs.SoundDisks.{is_recorded}

-- ---- one of a list

-- one of the machines meets a test
meets_one : (p : ℕ → Bool) (vs : List ℕ) → list_any p vs ≡ true → (q : ℕ → Bool) → list_all q vs ≡ true
    → (v : ℕ) × (p v ≡ true) × (q v ≡ true)
meets_one p [] any q all = absurd (false≢true any)
meets_one p (v ∷ vs) any q all =
    let parts : (q v ≡ true) × (list_all q vs ≡ true) = and_parts (q v) (list_all q vs) all in
    by parts.0 (λ rest. meets_one p vs rest q parts.1) (or_cases (p v) (list_any p vs) any)
  where
    by : q v ≡ true → (list_any p vs ≡ true → (v : ℕ) × (p v ≡ true) × (q v ≡ true))
        → (p v ≡ true) ⊎ (list_any p vs ≡ true) → (v : ℕ) × (p v ≡ true) × (q v ≡ true)
    by meets others (inl here) = (v, here, meets)
    by meets others (inr rest) = others rest

-- each of these machines is there
all_there : (p q : ℕ → Bool) (vs : List ℕ) → list_all p (filter (λ v. p v && q v) vs) ≡ true
all_there p q [] = refl
all_there p q (v ∷ vs) = by (p v) refl (q v) (all_there p q vs)
  where
    by : (there : Bool) → p v ≡ there → (mine : Bool) → list_all p (filter (λ v. p v && q v) vs) ≡ true
        → list_all p (if there && mine then v ∷ filter (λ v. p v && q v) vs else filter (λ v. p v && q v) vs) ≡ true
    by true there true rest = and_from (p v) _ there rest
    by true there false rest = rest
    by false gone mine rest = rest

same_numbers : (vs us : List ℕ) → pointwise nat_eq vs us ≡ true → list_all (λ v. list_any (λ u. u == v) us) vs ≡ true
same_numbers vs us same = (λ j. list_all (λ v. list_any (λ u. u == v) us) (same_list vs us same j)) ∙ itself us
  where
    weaker : (p q : ℕ → Bool) → ((v : ℕ) → p v ≡ true → q v ≡ true) → (vs : List ℕ) → list_all p vs ≡ true
        → list_all q vs ≡ true
    weaker p q each [] all = refl
    weaker p q each (v ∷ vs) all =
        let parts : (p v ≡ true) × (list_all p vs ≡ true) = and_parts (p v) (list_all p vs) all in
        and_from (q v) _ (each v parts.0) (weaker p q each vs parts.1)

    itself : (us : List ℕ) → list_all (λ v. list_any (λ u. u == v) us) us ≡ true
    itself [] = refl
    itself (u ∷ us) =
        and_from (list_any (λ w. w == u) (u ∷ us)) _ (or_left (u == u) _ (eq-eqb u u refl))
        (weaker (λ v. list_any (λ w. w == v) us) (λ v. list_any (λ w. w == v) (u ∷ us))
        (λ v is. or_right (u == v) (list_any (λ w. w == v) us) is) us (itself us))

-- ---- the row of a migration

module _ (m : Moment) (h : Holds m) (i : Inst) (v from to : ℕ) (row : Migrates (m.known.row i) v from to) where
  abbrev it : Row
  it = m.known.row i

  -- the machines of the instance, for the row
  own_vms : (vs : List ℕ) → vms_of m.effects (Instance it.inst) ≡ vs → vms_of m.effects (Instance i) ≡ vs
  own_vms vs is = (λ j. vms_of m.effects (Instance (sym (h.known.lists.own_row i) j))) ∙ is

  -- a machine that runs with a disk
  runs : (x u : ℕ) → runs_with m.effects x u ≡ true → (is_running m.effects u ≡ true) × (is_silent m.effects u ≡ false)
  runs x u is =
      let (running, rest) = and_parts (is_running m.effects u) _ is in
      (running, not-true (is_silent m.effects u) (and_parts (not (is_silent m.effects u)) _ rest).0)

  -- there is none, where the row is spoiled
  none_spoiled : is_spoiled m.effects it ≡ true → (u : ℕ) → (row.vm.vm == u) ≡ true → is_vm_there m.effects u ≡ true
      → is_silent m.effects u ≡ false → ⊥
  none_spoiled spoiled u one there answers =
      let lost : is_named_lost m.effects u ≡ true =
      (λ j. is_named_lost m.effects (sym (eqb-true row.vm.vm u one) j))
      ∙ whole (is_named_lost m.effects row.vm.vm)
      (sym (λ j. list_any (is_named_lost m.effects) (number_of (row.has j))) ∙ spoiled) in
      false≢true (sym (lost_silent m.effects h.cloud.orderly u lost) ∙ (λ j. there j && not (answers j)))
    where
      whole : (b : Bool) → (b || false) ≡ true → b ≡ true
      whole true is = refl
      whole false is = is

  tied_known : is_spoiled m.effects it ≡ false → IsTiedTo m.effects it
  tied_known sound =
      tied-parts m.effects it
      (by (is_tied_to m.effects it)
      (sym ((λ j. if row.found j || sound j then is_tied_to_lost m.effects it
      else is_tied_to m.effects (without_doubt it) || is_tied_to m.effects (as_done m.effects it))
      ∙ (λ j. is_tied_to m.effects (known_same it row.known j)
      || is_tied_to m.effects (done_same j))) ∙ (h.rows i).tied))
    where
      done_same : as_done m.effects it ≡ it
      done_same = (λ j. as_done m.effects (record it { doubt = row.known j })) ∙ known_same it row.known

      by : (b : Bool) → (b || b) ≡ true → b ≡ true
      by true is = refl
      by false is = is

  -- nor where it is not: its machine does not run
  none_tied : is_spoiled m.effects it ≡ false → is_running m.effects row.vm.vm ≡ true → ⊥
  none_tied sound running =
      false≢true (sym (truth-same (is_running m.effects row.vm.vm) it.running facts ∙ row.rests) ∙ running)
    where
      whole : has_facts m.effects it (Some row.vm) ≡ true
      whole = sym (λ j. has_facts m.effects it (row.has j)) ∙ (tied_known sound).facts

      facts : same_truth (is_running m.effects row.vm.vm) it.running ≡ true
      facts =
          (and_parts (same_truth (is_running m.effects row.vm.vm) it.running) _
          (and_parts (option_eq same_spec (spec_of m.effects row.vm.vm) it.spec) _
          (and_parts (was_made (Instance it.inst) row.vm.agent it.make (vm_creation m.effects row.vm.vm)) _ whole).1).1).0

  -- its machines are the recorded one
  one_vm : list_all (λ u. list_any (λ k. k == u) (number_of it.vm)) (vms_of m.effects (Instance it.inst)) ≡ true
  one_vm = by (is_spoiled m.effects it) refl
    where
      by : (spoiled : Bool) → is_spoiled m.effects it ≡ spoiled
          → list_all (λ u. list_any (λ k. k == u) (number_of it.vm)) (vms_of m.effects (Instance it.inst)) ≡ true
      by true spoiled =
          (and_parts (list_all (λ u. list_any (λ k. k == u) (number_of it.vm)) (vms_of m.effects (Instance it.inst))) _
          (sym (λ j. if row.found j || spoiled j then is_tied_to_lost m.effects it
          else is_tied_to m.effects (without_doubt it) || is_tied_to m.effects (as_done m.effects it))
          ∙ (h.rows i).tied)).0
      by false sound =
          same_numbers (vms_of m.effects (Instance it.inst)) (number_of it.vm) (tied_known sound).machines

  none_runs : (x : ℕ) → list_any (runs_with m.effects x) (vms_of m.effects (Instance i)) ≡ true → ⊥
  none_runs x any =
      let (u, runs_u, good) =
      meets_one (runs_with m.effects x) (vms_of m.effects (Instance it.inst))
      (sym (λ j. list_any (runs_with m.effects x) (own_vms (vms_of m.effects (Instance it.inst)) refl j)) ∙ any)
      (λ u. list_any (λ k. k == u) (number_of it.vm) && is_vm_there m.effects u)
      (all_both (λ u. list_any (λ k. k == u) (number_of it.vm)) (is_vm_there m.effects)
      (vms_of m.effects (Instance it.inst)) one_vm
      (all_there (is_vm_there m.effects) (λ v. is_made_for (Instance it.inst) (vm_creation m.effects v))
      (numbers_to (vms_created m.effects)))) in
      let (ours, there) = and_parts (list_any (λ k. k == u) (number_of it.vm)) (is_vm_there m.effects u) good in
      let (running, answers) = runs x u runs_u in
      of u (whole (row.vm.vm == u) (sym (λ j. list_any (λ k. k == u) (number_of (row.has j))) ∙ ours)) there running
      answers (is_spoiled m.effects it) refl
    where
      whole : (b : Bool) → (b || false) ≡ true → b ≡ true
      whole true is = refl
      whole false is = is

      all_both : (p q : ℕ → Bool) (vs : List ℕ) → list_all p vs ≡ true → list_all q vs ≡ true
          → list_all (λ v. p v && q v) vs ≡ true
      all_both p q [] one other = refl
      all_both p q (v ∷ vs) one other =
          let (first, rest) = and_parts (p v) (list_all p vs) one in
          let (also, more) = and_parts (q v) (list_all q vs) other in
          and_from (p v && q v) _ (and_from (p v) (q v) first also) (all_both p q vs rest more)

      of : (u : ℕ) → (row.vm.vm == u) ≡ true → is_vm_there m.effects u ≡ true → is_running m.effects u ≡ true
          → is_silent m.effects u ≡ false → (spoiled : Bool) → is_spoiled m.effects it ≡ spoiled → ⊥
      of u one there running answers true spoiled = none_spoiled spoiled u one there answers
      of u one there running answers false sound =
          none_tied sound ((λ j. is_running m.effects (eqb-true row.vm.vm u one j)) ∙ running)

  -- a disk of another row is none of its disks
  pub apart_disk : (j : Inst) (d x : ℕ) → i ≢ j → is_recorded (m.known.row j).disks d ≡ true
      → is_recorded it.disks x ≡ true → d ≢ x
  apart_disk j d x apart other mine same =
      apart (of (disk_creation m.effects x) refl (row_kept m h i x mine).made
      ((λ l. is_made_for (Instance j) (disk_creation m.effects (sym same l))) ∙ (row_kept m h j d other).made))
    where
      of : (o : Option Effect) → disk_creation m.effects x ≡ o
          → is_made_for (Instance i) (disk_creation m.effects x) ≡ true
          → is_made_for (Instance j) (disk_creation m.effects x) ≡ true → i ≡ j
      of (Some e) is one other =
          let both : Instance i ≡ Instance j =
          sym (same_owner_is e.owner (Instance i) (sym (λ l. is_made_for (Instance i) (is l)) ∙ one))
          ∙ same_owner_is e.owner (Instance j) (sym (λ l. is_made_for (Instance j) (is l)) ∙ other) in cc
      of None is one other = absurd (false≢true (sym (λ l. is_made_for (Instance i) (is l)) ∙ one))

  -- no job writes to its disks
  pub unwritten : (d x : ℕ) → Writer m d → is_recorded it.disks x ≡ true → d ≢ x
  unwritten d x writer mine = by (same_inst i writer.inst) refl
    where
      parts : (holds (λ (it : DiskRow). it.disk == d) (active (m.known.row writer.inst).disks) ≡ true)
          × (can_write m writer.inst ≡ true)
      parts =
          and_parts (holds (λ (it : DiskRow). it.disk == d) (active (m.known.row writer.inst).disks))
          (can_write m writer.inst) writer.is_active

      -- the disk is the active one of the writer
      recorded : is_recorded (m.known.row writer.inst).disks d ≡ true
      recorded = of (active (m.known.row writer.inst).disks) refl parts.0
        where
          of : (o : Option DiskRow) → active (m.known.row writer.inst).disks ≡ o
              → holds (λ (it : DiskRow). it.disk == d) o ≡ true
              → is_recorded (m.known.row writer.inst).disks d ≡ true
          of (Some x) is same =
              (λ j. is_recorded (m.known.row writer.inst).disks (sym (eqb-true x.disk d same) j))
              ∙ in_row x (m.known.row writer.inst).disks (active_found x (m.known.row writer.inst).disks is).is_in
          of None is same = absurd (false≢true same)

      writes : i ≡ writer.inst → ⊥
      writes same = of (active it.disks) ((λ j. can_write m (same j)) ∙ parts.1)
        where
          of : (o : Option DiskRow)
              → holds (λ (d : DiskRow). list_any (runs_with m.effects d.disk) (vms_of m.effects (Instance i))) o ≡ true
              → ⊥
          of (Some x) is = none_runs x.disk is
          of None is = false≢true is

      by : (same : Bool) → same_inst i writer.inst ≡ same → d ≢ x
      by true same = absurd (writes ((same_inst_decides i writer.inst).0 same))
      by false other =
          apart_disk writer.inst d x
          (λ same. false≢true (sym other ∙ (same_inst_decides i writer.inst).1 same)) recorded mine
