-- A disk is deleted only for a task that lists it, and where it was orphaned when that task opened.
use Rattle.std.proofs.Common.{◌≡◌, ◌∙◌, ℕ, Bool, true, false, ◌&&◌, not, Option, Some, None, ap, refl, sym, subst}
use Rattle.std.specs.Prelude.{eqb, if◌then◌else◌, is_some}
use Rattle.std.specs.Option.{option_eq, option_map}
use Rattle.std.proofs.lemmas.Bool.{and_from, and_parts, eqb-true, false≢true, or_right}
use Rattle.bosh_base.specs.ExactParts.{Decides-call}
use Rattle.bosh_base.specs.declared.call.Call.{Call}
use Rattle.bosh_base.specs.declared.call.Call.TheVariants as calls
use Rattle.bosh_base.specs.declared.inst.Inst.{Inst}
use Rattle.bosh_base.specs.declared.moves.Move.{Move}
use Rattle.bosh_base.specs.declared.moves.Move.TheVariants as moves
use Rattle.bosh_base.specs.declared.owner.Owner.{Owner}
use Rattle.bosh_base.specs.declared.owner.Owner.TheVariants.{Instance, Compile, Disk}
use Rattle.bosh_base.specs.declared.row.Row.{Row}
use Rattle.bosh_base.specs.declared.row.Vm.{Vm}
use Rattle.bosh_history.specs.Deletions.{deletes_as_asked, is_asked_for, is_clean_up, is_deletion_asked, lists_orphan}
use Rattle.bosh_history.specs.Items.{is_item, is_to_ping}
use Rattle.bosh_history.specs.Known.{Known, Slot, Task}
use Rattle.bosh_history.specs.Moments.{Moment, OpenCall}
use Rattle.bosh_history.specs.Notes.{Outside}
use Rattle.bosh_history.specs.Permitted.{IsPermitted}
use Rattle.bosh_history.specs.Steps.{want_of}
use Rattle.bosh_history.specs.Words.{holds, is_among}
use Rattle.bosh_rows.specs.CallOf.{next_call}
use Rattle.laws_facts.specs.KnownFacts.{KnownFacts}
use Rattle.laws_facts.specs.OpenCalls.{call_of_row, fits_known, fits_slot, is_on_orphan}
use Rattle.laws_facts.specs.Owners.{works}
use Rattle.laws_items.proofs.ListLemmas.{all_from, all_in, among_is}
use Rattle.laws_items.proofs.ListedLemmas.{Lists, disks, instances, lists, no_disk}
use Rattle.laws_items.proofs.PhaseLemmas.{IsLeft, of_item}
use Rattle.laws_items.proofs.PingLemmas.{deletes_disk, plain_call}
use Rattle.laws_row_facts.specs.Calls.{row_before}
use Rattle.laws_row_facts.specs.Words.{same_call}

-- ---- of an instance, and of a compile machine

none_deleted : (k : Known) (t : ℕ) (call : Call) → deletes_disk call ≡ false → is_asked_for k t call ≡ true
none_deleted k t (calls.DeleteDisk d) none = absurd (false≢true (sym none))
none_deleted k t call none = refl

row_deletes_none : (t : Task) (i : Inst) (row : Row) (call : Call) → call_of_row t i row ≡ Some call
    → deletes_disk call ≡ false
row_deletes_none t i row call is = by (is_to_ping t i) row.vm is
  where
    by : (ping : Bool) (vm : Option Vm)
        → (if ping then option_map (λ (it : Vm). calls.Ping it.vm) vm else next_call (want_of t i) row) ≡ Some call
        → deletes_disk call ≡ false
    by true (Some it) is = let same : calls.Ping it.vm ≡ call = cc in sym (λ j. deletes_disk (same j))
    by true None is = absurd cc
    by false vm is = (plain_call (want_of t i) row call is).2

slot_deletes_none : (n : ℕ) (call : Call) (slot : Option Slot) → holds (fits_slot n call) slot ≡ true
    → deletes_disk call ≡ false
slot_deletes_none n (calls.DeleteDisk d) (Some it) fits = absurd (false≢true fits)
slot_deletes_none n (calls.DeleteDisk d) None fits = absurd (false≢true fits)
slot_deletes_none n call slot fits = refl

called_as : (made : Option Call) (call : Call) → option_eq same_call made (Some call) ≡ true → made ≡ Some call
called_as (Some made) call same = ap Some ((Decides-call made call).0 same)
called_as None call same = absurd (false≢true same)

-- ---- of a disk

module _ (m : Moment) (h : KnownFacts m) where
  listed_orphan : (t d : ℕ) → works m t ≡ true → is_item m.known t (Disk d) ≡ true
      → lists_orphan (m.known.task t) d ≡ true
  listed_orphan t d working item = by (lists m t h working)
    where
      left : (p : ℕ) × IsLeft m.known t (Disk d) p
      left = of_item m.known t (Disk d) item

      there : (listed some : Bool) → (if listed && some then Some 0 else None) ≡ Some left.0 → listed ≡ true
      there true some at = refl
      there false some at = absurd cc

      among : is_among eqb d (m.known.task t).disks ≡ true
      among = there (is_among eqb d (m.known.task t).disks) (is_some (m.known.orphan d)) left.1.phase

      by : Lists (m.known.task t) → lists_orphan (m.known.task t) d ≡ true
      by (disks it) =
          and_from (is_clean_up (m.known.task t).kind) _ it.is_clean_up
          (and_from (is_among eqb d (m.known.task t).disks) _ among
          (all_in (λ d. is_among eqb d (m.known.task t).orphans) d (m.known.task t).disks it.were_orphaned
          (among_is eqb (λ a b same. eqb-true a b same) d (m.known.task t).disks among)))
      by (instances it) = absurd (no_disk d (m.known.task t).disks it.no_disks among)

  call_asked : (n : ℕ) (call : OpenCall) → m.calls n ≡ Some call
      → is_asked_for m.known call.begin.task call.begin.call ≡ true
  call_asked n call is = by call.begin.owner refl
    where
      fits : (owner : Owner) → call.begin.owner ≡ owner → fits_known m.known call.begin owner ≡ true
      fits owner own = subst (λ (o : Owner). fits_known m.known call.begin o ≡ true) own (h.calls n call is).fits

      item : (owner : Owner) → call.begin.owner ≡ owner → is_item m.known call.begin.task owner ≡ true
      item owner own =
          subst (λ (o : Owner). is_item m.known call.begin.task o ≡ true) own
          (and_parts (is_item m.known call.begin.task call.begin.owner) _ (h.calls n call is).of_item).0

      of_disk : (e : ℕ) (asked : Call) → is_on_orphan asked e ≡ true
          → is_item m.known call.begin.task (Disk e) ≡ true → is_asked_for m.known call.begin.task asked ≡ true
      of_disk e (calls.DeleteDisk d) on its =
          (λ j. lists_orphan (m.known.task call.begin.task) (eqb-true d e on j))
          ∙ listed_orphan call.begin.task e (h.calls n call is).works its
      of_disk e asked on its = refl

      by : (owner : Owner) → call.begin.owner ≡ owner
          → is_asked_for m.known call.begin.task call.begin.call ≡ true
      by (Instance i) own =
          none_deleted m.known call.begin.task call.begin.call
          (row_deletes_none (m.known.task call.begin.task) i (row_before call.begin.call (m.known.row i)) call.begin.call
          (called_as (call_of_row (m.known.task call.begin.task) i (row_before call.begin.call (m.known.row i)))
          call.begin.call
          (and_parts
          (option_eq same_call
          (call_of_row (m.known.task call.begin.task) i (row_before call.begin.call (m.known.row i)))
          (Some call.begin.call))
          _ (fits (Instance i) own)).0))
      by (Compile t s) own =
          none_deleted m.known call.begin.task call.begin.call
          (slot_deletes_none call.begin.n call.begin.call (m.known.slot t s) (fits (Compile t s) own))
      by (Disk e) own =
          of_disk e call.begin.call
          (and_parts (is_on_orphan call.begin.call e) (is_some (m.known.orphan e)) (fits (Disk e) own)).0
          (item (Disk e) own)

  each_asked : (n : ℕ) → deletes_as_asked m (m.calls n) ≡ true
  each_asked n = by (m.calls n) refl
    where
      by : (call : Option OpenCall) → m.calls n ≡ call → deletes_as_asked m call ≡ true
      by (Some call) is = call_asked n call is
      by None is = refl

pub deletions_each : (outside : Outside) (m : Moment) (move : Move) → IsPermitted outside m move → KnownFacts m
    → is_deletion_asked m move ≡ true
deletions_each outside m (moves.Did d) may h = or_right (not d.effect) _ (each_asked m h d.n)
deletions_each outside m (moves.Stop s) may h =
    all_from (λ n. deletes_as_asked m (m.calls n)) s.took (λ n there. each_asked m h n)
deletions_each outside m move may h = refl
