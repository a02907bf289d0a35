-- What is kept of a row that is what the cloud has.
use Rattle.std.proofs.Common.{◌≡◌, ◌+◌, ◌≤◌, Bool, true, false, Option, None, List, [], ◌∷◌, refl, sym, ◌∙◌, subst, inl, inr, arith}
use Rattle.std.specs.Prelude.{◌⊎◌, ◌&&◌, ◌||◌, ◌==◌, nat_eq, not, if◌then◌else◌, is_some, map}
use Rattle.std.specs.List.{list_all, list_any}
use Rattle.std.specs.Cmp.Lexicographic.{pointwise}
use Rattle.std.proofs.lemmas.Bool.{and_parts, and_from, eqb-true, not-true, or_cases}
use Rattle.bosh_base.specs.Cloud.{disks_created, holder_of, is_disk_mounted, is_disk_there, is_holder}
use Rattle.bosh_base.specs.declared.entry.Entry.{Entry}
use Rattle.bosh_base.specs.declared.owner.Owner.TheVariants.{Instance}
use Rattle.bosh_base.specs.declared.row.DiskRow.{DiskRow}
use Rattle.bosh_base.specs.declared.row.Row.{Row}
use Rattle.bosh_base.specs.declared.row.Vm as vm
use Rattle.laws_effects.proofs.FollowLemmas.{IsWithin, made}
use Rattle.bosh_rows.specs.After.{let_go}
use Rattle.bosh_rows.specs.Standing.{same_truth}
use Rattle.bosh_rows.specs.Tied.{as_done, has_facts, has_no_other_disk, IsTiedRow, is_disk_kept, is_disk_placed, is_spoiled, is_tied_to, is_tied_to_lost, number_of, vms_of, without_doubt}
use Rattle.laws_rows.proofs.FallLemmas.{IsSteady}
use Rattle.laws_rows.proofs.ListLemmas.{IsIn, all_in}
use Rattle.laws_rows.specs.SoundDisks.{are_sound, is_recorded}

-- ---- a tie in its parts

pub record IsTiedTo (effects : List Entry) (row : Row) : Type 0 where
  pub machines : pointwise nat_eq (vms_of effects (Instance row.inst)) (number_of row.vm) ≡ true
  pub facts : has_facts effects row row.vm ≡ true
  pub kept : list_all (is_disk_kept effects row) row.disks ≡ true
  pub placed : list_all (is_disk_placed effects (number_of row.vm)) row.disks ≡ true
  pub others : list_all (has_no_other_disk effects row) (number_of row.vm) ≡ true

pub tied-parts : (effects : List Entry) (row : Row) → is_tied_to effects row ≡ true → IsTiedTo effects row
tied-parts effects row tied =
    let first : (pointwise nat_eq (vms_of effects (Instance row.inst)) (number_of row.vm) ≡ true) × _ =
    and_parts (pointwise nat_eq (vms_of effects (Instance row.inst)) (number_of row.vm)) _ tied in
    let second : (has_facts effects row row.vm ≡ true) × _ = and_parts (has_facts effects row row.vm) _ first.1 in
    let third : (list_all (is_disk_kept effects row) row.disks ≡ true) × _ =
    and_parts (list_all (is_disk_kept effects row) row.disks) _ second.1 in
    let fourth : (list_all (is_disk_placed effects (number_of row.vm)) row.disks ≡ true)
    × (list_all (has_no_other_disk effects row) (number_of row.vm) ≡ true) =
    and_parts (list_all (is_disk_placed effects (number_of row.vm)) row.disks) _ third.1 in record {
      machines = first.0;
      facts = second.0;
      kept = third.0;
      placed = fourth.0;
      others = fourth.1;
    }

pub tied-from : (effects : List Entry) (row : Row) → IsTiedTo effects row → is_tied_to effects row ≡ true
tied-from effects row tied =
    and_from _ _ tied.machines (and_from _ _ tied.facts (and_from _ _ tied.kept (and_from _ _ tied.placed tied.others)))

-- a row that is neither lost nor spoiled is tied as it is without its doubt, or as the call in doubt leaves it
pub tied-ways : (effects : List Entry) (row : Row) → IsTiedRow effects row → row.lost ≡ false →
    is_spoiled effects row ≡ false →
    IsTiedTo effects (without_doubt row) ⊎ IsTiedTo effects (as_done effects row)
tied-ways effects row tied unlost unspoiled =
    by_way
    (or_cases (is_tied_to effects (without_doubt row)) (is_tied_to effects (as_done effects row))
    (sym (λ i. if unlost i || unspoiled i then is_tied_to_lost effects row
    else is_tied_to effects (without_doubt row) || is_tied_to effects (as_done effects row)) ∙ tied))
  where
    by_way : ((is_tied_to effects (without_doubt row) ≡ true) ⊎ (is_tied_to effects (as_done effects row) ≡ true)) →
        IsTiedTo effects (without_doubt row) ⊎ IsTiedTo effects (as_done effects row)
    by_way (inl before) = inl (tied-parts effects (without_doubt row) before)
    by_way (inr later) = inr (tied-parts effects (as_done effects row) later)

-- one that is not in doubt is tied as it is
pub tied-known : (effects : List Entry) (row : Row) → IsTiedRow effects row → row.lost ≡ false →
    is_spoiled effects row ≡ false → row.doubt ≡ None → IsTiedTo effects row
tied-known effects row tied unlost unspoiled known = by_way (tied-ways effects row tied unlost unspoiled)
  where
    same : without_doubt row ≡ row
    same = λ i. record row { doubt = sym known i }

    also : as_done effects row ≡ row
    also = (λ i. as_done effects (record row { doubt = known i })) ∙ same

    by_way : (IsTiedTo effects (without_doubt row) ⊎ IsTiedTo effects (as_done effects row)) → IsTiedTo effects row
    by_way (inl before) = subst (λ (it : Row). IsTiedTo effects it) same before
    by_way (inr later) = subst (λ (it : Row). IsTiedTo effects it) also later

-- ---- the disks

held_there : (a b held mounted here : Bool) → (same_truth a held && same_truth b held && same_truth (held && here)
    mounted)
    ≡ true → mounted ≡ true → held ≡ true
held_there a b true mounted here is on = refl
held_there a b false true here is on = absurd (grind (arith, is))
held_there a b false false here is on = absurd cc

nowhere : (a held mounted here : Bool) → (same_truth a held && same_truth false held && same_truth (held && here)
    mounted)
    ≡ true → (held ≡ false) × (mounted ≡ false)
nowhere a true mounted here is = absurd (grind (arith, is))
nowhere a false true here is = absurd (grind (arith, is))
nowhere a false false here is = (refl, refl)

let_go-none : (xs : List DiskRow) → ((d : DiskRow) → IsIn d xs → (d.attached ≡ false) × (d.mounted ≡ false)) →
    map let_go xs ≡ xs
let_go-none [] each = refl
let_go-none (x ∷ xs) each =
    let first : (x.attached ≡ false) × (x.mounted ≡ false) = each x (inl refl) in
    λ i. record x { attached = sym first.0 i; mounted = sym first.1 i } ∷ let_go-none xs (λ d is. each d (inr is)) i

pub steady : (effects : List Entry) (row : Row) → IsTiedTo effects row → are_sound row.disks ≡ true → IsSteady row
steady effects row tied sound = record {
  held = λ d is.
      held_there (is_some (holder_of effects d.disk)) (list_any (λ v. is_holder effects v d.disk) (number_of row.vm))
      d.attached d.mounted (is_disk_mounted effects d.disk)
      (all_in (is_disk_placed effects (number_of row.vm)) d row.disks tied.placed is);
  loose = λ none. let_go-none row.disks (λ d is. loose d is none);
  idle = λ none. idle none;
  sound = sound;
}
  where
    loose : (d : DiskRow) → IsIn d row.disks → row.vm ≡ None → (d.attached ≡ false) × (d.mounted ≡ false)
    loose d is none =
        nowhere (is_some (holder_of effects d.disk)) d.attached d.mounted (is_disk_mounted effects d.disk)
        (subst (λ (it : Option vm.Vm). is_disk_placed effects (number_of it) d ≡ true) none
        (all_in (is_disk_placed effects (number_of row.vm)) d row.disks tied.placed is))

    idle : row.vm ≡ None → row.running ≡ false
    idle none =
        let it : (not (is_some row.spec) && (not row.running && not row.drained)) ≡ true =
        subst (λ (it : Option vm.Vm). has_facts effects row it ≡ true) none tied.facts in
        not-true row.running
        (and_parts (not row.running) (not row.drained) (and_parts (not (is_some row.spec)) _ it).1).0

-- the number of the next disk is none that is recorded
pub fresh-next : (effects : List Entry) (row : Row) (xs : List DiskRow) → list_all (is_disk_kept effects row) xs ≡
    true →
    is_recorded xs (disks_created effects + 1) ≡ false
fresh-next effects row [] kept = refl
fresh-next effects row (x ∷ xs) kept =
    let parts : (is_disk_kept effects row x ≡ true) × (list_all (is_disk_kept effects row) xs ≡ true) =
    and_parts (is_disk_kept effects row x) _ kept in
    let there : is_disk_there effects x.disk ≡ true = (and_parts (is_disk_there effects x.disk) _ parts.0).0 in
    let within : IsWithin (disks_created effects) x.disk = (made effects).disks x.disk there in
    λ i. other within (x.disk == disks_created effects + 1) refl i || fresh-next effects row xs parts.1 i
  where
    other : IsWithin (disks_created effects) x.disk → (b : Bool) → (x.disk == disks_created effects + 1) ≡ b → b ≡ false
    other within true same =
        let number : x.disk ≡ disks_created effects + 1 = eqb-true x.disk (disks_created effects + 1) same in
        let low : x.disk ≤ disks_created effects = within.last in absurd (omega arith)
    other within false same = refl
