-- What an open call is to its owner: it is the one that was to be made, no other owner is in doubt of it, and it
-- deletes no disk but its own.
use Rattle.std.proofs.Common.{◌≡◌, ◌∙◌, ℕ, true, false, Bool, Option, Some, None, ap, refl, sym}
use Rattle.std.specs.Prelude.{◌&&◌, ◌==◌, ◌≢◌}
use Rattle.std.specs.List.{list_all}
use Rattle.std.specs.Option.{option_eq}
use Rattle.std.proofs.lemmas.Bool.{and_parts, eqb-true, false≢true, ne_eqb}
use Rattle.bosh_base.specs.ExactParts.{Decides-call}
use Rattle.bosh_base.specs.declared.call.Call.{Call}
use Rattle.bosh_base.specs.declared.call.Call.TheVariants as calls
use Rattle.bosh_base.specs.declared.entry.Begin.{Begin}
use Rattle.bosh_base.specs.declared.inst.Inst.{Inst}
use Rattle.bosh_base.specs.declared.owner.Owner.{Owner}
use Rattle.bosh_base.specs.declared.owner.Owner.TheVariants.{Compile, Disk, Instance}
use Rattle.bosh_base.specs.declared.row.Doubt.{Doubt}
use Rattle.bosh_base.specs.declared.row.Row.{Row}
use Rattle.bosh_history.specs.Known.{Task}
use Rattle.bosh_history.specs.Moments.{dep_of, Moment, OpenCall}
use Rattle.bosh_rows.specs.After.{leaves_doubt}
use Rattle.bosh_rows.specs.Same.{same_owner}
use Rattle.laws_cloud.proofs.CallLemmas.{known_fits, row_fits, slot_some}
use Rattle.laws_facts.specs.Facts.{Holds}
use Rattle.laws_facts.specs.Numbers.{is_open_for}
use Rattle.laws_facts.specs.OpenCalls.{call_of_row, fits_row, fits_slot, is_on_orphan}
use Rattle.laws_facts.specs.Owners.{doubt_of, is_doubt}
use Rattle.laws_items.proofs.OwnerLemmas.{same_owner_is}
use Rattle.laws_row_facts.specs.Calls.{is_ping, row_before}
use Rattle.laws_row_facts.specs.Numbers.{is_effect_of}
use Rattle.laws_row_facts.specs.Words.{implies, same_call, where_any}
use Rattle.laws_rows.specs.Rightful.{fits}
use Rattle.laws_slots.specs.Orphans.{is_deletion_of_disk}

-- the call that is to be made for a row
pub to_make : (t : Task) (b : Begin) (i : Inst) (row : Row) → fits_row t b i row ≡ true
    → call_of_row t i (row_before b.call row) ≡ Some b.call
to_make t b i row fits =
    by (call_of_row t i (row_before b.call row))
    (and_parts (option_eq same_call (call_of_row t i (row_before b.call row)) (Some b.call))
    (implies (leaves_doubt b.call) (is_doubt b.n b.call row.doubt) && implies (is_ping b.call) _) fits).0
  where
    by : (call : Option Call) → option_eq same_call call (Some b.call) ≡ true → call ≡ Some b.call
    by (Some call) same = ap Some ((Decides-call call b.call).0 same)
    by None same = absurd (false≢true same)

module _ (m : Moment) (h : Holds m) (n : ℕ) (call : OpenCall) (is : m.calls n ≡ Some call) where
  -- a call in doubt of another owner has another number
  pub other_number : (owner : Owner) (d : Doubt) → doubt_of m.known owner ≡ Some d → call.begin.owner ≢ owner
      → (call.begin.n == d.n) ≡ false
  other_number owner d has apart = by (call.begin.n == d.n) refl
    where
      doubts : where_any (is_open_for owner d.call) (m.calls d.n) ≡ true
      doubts =
          (and_parts (list_all (is_effect_of d.n owner (dep_of m.known owner) d.call) m.effects) _
          (sym (λ j. where_any (λ (d : Doubt). list_all (is_effect_of d.n owner (dep_of m.known owner) d.call) m.effects
          && where_any (is_open_for owner d.call) (m.calls d.n)) (has j)) ∙ h.effects.doubts_own owner)).1

      by : (same : Bool) → (call.begin.n == d.n) ≡ same → same ≡ false
      by false same = refl
      by true same =
          let here : m.calls d.n ≡ Some call =
          (λ j. m.calls (sym (eqb-true call.begin.n d.n same) j))
          ∙ ((λ j. m.calls ((h.known.calls n call is).number j)) ∙ is) in
          absurd (apart (same_owner_is call.begin.owner owner
          (and_parts (same_owner call.begin.owner owner) (same_call call.begin.call d.call)
          (sym (λ j. where_any (is_open_for owner d.call) (here j)) ∙ doubts)).0))

  -- it deletes its own disk at most
  pub deletes_own : (d : ℕ) → call.begin.owner ≢ Disk d → is_deletion_of_disk d call.begin.call ≡ false
  deletes_own d apart = by call.begin.call refl
    where
      of : (x : ℕ) → call.begin.call ≡ calls.DeleteDisk x → (owner : Owner) → call.begin.owner ≡ owner
          → (x == d) ≡ false
      of x deletes (Instance i) own =
          absurd
          (false≢true
          (sym (λ j. fits (m.known.row i) (deletes j)) ∙ row_fits m h n call is i own (λ j. leaves_doubt (deletes j))))
      of x deletes (Compile t s) own =
          let (it, there, fit) = slot_some m h n call is t s own in
          absurd (false≢true (sym (λ j. fits_slot call.begin.n (deletes j) it) ∙ fit))
      of x deletes (Disk disk) own =
          let on : is_on_orphan call.begin.call disk ≡ true =
          (and_parts (is_on_orphan call.begin.call disk) _ (known_fits m h n call is (Disk disk) own)).0 in
          let same : x ≡ disk = eqb-true x disk (sym (λ j. is_on_orphan (deletes j) disk) ∙ on) in
          ne_eqb x d (λ one. apart (own ∙ ap Disk (sym same ∙ one)))

      by : (c : Call) → call.begin.call ≡ c → is_deletion_of_disk d c ≡ false
      by (calls.DeleteDisk x) deletes = of x deletes call.begin.owner refl
      by c other = refl
