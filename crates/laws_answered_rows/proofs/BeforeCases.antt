-- What a row was before an open call, as far as its next step can tell, has the facts of the row, and the same next
-- call.
use Rattle.std.proofs.Common.{◌≡◌, ℕ, ◌+◌, ◌≤◌, Bool, true, false, Option, Some, None, List, refl, sym, ◌∙◌, ap, subst, inl, inr, arith}
use Rattle.std.specs.Prelude.{◌||◌, nat_le, if◌then◌else◌, count_by}
use Rattle.std.specs.List.{list_all}
use Rattle.std.specs.Ordering.{nat_cmp}
use Rattle.std.proofs.lemmas.Bool.{and_from, and_parts, leb-true, le-leb, or_left}
use Rattle.bosh_base.specs.declared.call.Call.{Call}
use Rattle.bosh_base.specs.declared.call.Call.TheVariants as calls
use Rattle.bosh_base.specs.declared.entry.Entry.{Entry}
use Rattle.bosh_base.specs.declared.goal.GoalRow.{GoalRow}
use Rattle.bosh_base.specs.declared.make.Make.{Make}
use Rattle.bosh_base.specs.declared.row.Row.{Row}
use Rattle.laws_answered_rows.proofs.FoundCases.{LooksFor, looks_for}
use Rattle.laws_answered_rows.proofs.OwnLemmas.{IsCreated, created_from, created_parts}
use Rattle.laws_kept_facts.proofs.NumberedLemmas.{numbers}
use Rattle.laws_row_facts.specs.Calls.{row_before}
use Rattle.laws_row_facts.specs.Rows.{RowFacts, is_held_as_settled}
use Rattle.laws_row_facts.specs.Words.{are_ascending}
use Rattle.laws_rows.proofs.BoundLemmas.{is_held}
use Rattle.laws_rows.proofs.SteadyLemmas.{IsTiedTo, tied-known}
use Rattle.laws_rows.proofs.WholeTieLemmas.{tied-weak, tied-whole}
use Rattle.laws_rows.specs.Answered.{is_attaching}
use Rattle.laws_rows.specs.Left.{one_if}
use Rattle.laws_rows.specs.Rightful.{is_made}
use Rattle.bosh_rows.specs.After.{begun_row}
use Rattle.bosh_rows.specs.CallOf.{next_call}
use Rattle.bosh_rows.specs.Tied.{as_done, has_facts, is_spoiled, is_tied_to, is_tied_to_lost, number_of, without_doubt}
use Rattle.laws_kept_facts.proofs.NeededLemmas.{unlost_without}
use Rattle.laws_answered_rows.proofs.NextCases.{BeginsSo, before_next, begins_so, known_same}

-- ---- a row of another make, which has no machine

other_make : (xs : List Entry) (row : Row) (make : Make) → RowFacts xs row → row.doubt ≡ None → row.vm ≡ None →
    RowFacts xs (record row { make = Some make; doubt = None })
other_make xs row make facts known none = record {
  doubt_fits = refl;
  has_machine = facts.has_machine;
  sound_disks = facts.sound_disks;
  has_room = (λ i. nat_le (count_by is_held row.disks + one_if (is_attaching (sym known i))) 2) ∙ facts.has_room;
  deleted_bare = or_true row.lost;
  in_order =
      and_from (are_ascending nat_cmp (numbers row.disks)) true
      (and_parts (are_ascending nat_cmp (numbers row.disks)) _ facts.in_order).0 refl;
  created =
      created_from xs (record row { make = Some make; doubt = None }) (record {
        made = ap (is_made xs (record row { make = Some make; doubt = None })) none;
        in_dep = created.in_dep;
        kept = created.kept;
      });
  tied =
      tied-whole xs (record row { make = Some make; doubt = None }) refl (record {
        machines = tied.machines;
        facts =
            ap (has_facts xs (record row { make = Some make; doubt = None })) none
            ∙ (sym (ap (has_facts xs row) none) ∙ tied.facts);
        kept = tied.kept;
        placed = tied.placed;
        others = tied.others;
      });
  holds_disks =
      ap (λ o. row.lost || list_all (is_held_as_settled xs (record row { make = Some make; doubt = None }))
      (number_of o)) none ∙ or_true row.lost;
  lost_silent = facts.lost_silent;
}
  where
    or_true : (b : Bool) → (b || true) ≡ true
    or_true true = refl
    or_true false = refl

    created : IsCreated xs row
    created = created_parts xs row facts.created

    found : row.lost ≡ false
    found = unlost_without row facts.has_machine none

    tied : IsTiedTo xs row
    tied = tied-known xs row facts.tied found (λ i. is_spoiled xs (record row { vm = none i })) known

-- ---- a lost row without its doubt

lost_known : (xs : List Entry) (row : Row) → RowFacts xs row → row.lost ≡ true → RowFacts xs (without_doubt row)
lost_known xs row facts lost = record {
  doubt_fits = refl;
  has_machine = facts.has_machine;
  sound_disks = facts.sound_disks;
  has_room =
      le-leb (count_by is_held row.disks + 0) 2
      (less (count_by is_held row.disks) (one_if (is_attaching row.doubt))
      (leb-true (count_by is_held row.disks + one_if (is_attaching row.doubt)) 2 facts.has_room));
  deleted_bare = or_left row.lost _ lost;
  in_order =
      and_from (are_ascending nat_cmp (numbers row.disks)) true
      (and_parts (are_ascending nat_cmp (numbers row.disks)) _ facts.in_order).0 refl;
  created = facts.created;
  tied =
      tied-weak xs (without_doubt row) (or_left row.lost _ lost)
      (sym (ap (λ (b : Bool). if b then is_tied_to_lost xs row
      else is_tied_to xs (without_doubt row) || is_tied_to xs (as_done xs row)) (or_left row.lost _ lost))
      ∙ facts.tied);
  holds_disks = or_left row.lost _ lost;
  lost_silent = facts.lost_silent;
}
  where
    less : (a b : ℕ) → a + b ≤ 2 → a + 0 ≤ 2
    less a b low = omega (arith, low)

-- ---- together

-- the row before the call is as the row
abbrev pub IsBefore : List Entry → Option GoalRow → ℕ → Row → Call → Type 0
IsBefore xs want n row call =
    RowFacts xs (row_before call (begun_row n call row))
    × (next_call want (row_before call (begun_row n call row)) ≡ Some call)

pub before_kept : (xs : List Entry) (want : Option GoalRow) (n : ℕ) (row : Row) (call : Call) → RowFacts xs row →
    next_call want row ≡ Some call → IsBefore xs want n row call
before_kept xs want n row call facts next = (
  by_call call (begins_so want row call next) (looks_for want row call next),
  before_next want n row call next,
)
  where
    same : row.doubt ≡ None → RowFacts xs (without_doubt row)
    same known = subst (λ (r : Row). RowFacts xs r) (sym (known_same row known)) facts

    by_call : (call : Call) → BeginsSo row call → LooksFor row call →
        RowFacts xs (row_before call (begun_row n call row))
    by_call (calls.CreateVm make hint) known none = other_make xs row make facts known none
    by_call (calls.DeleteVm v) (inl known) looks = same known
    by_call (calls.DeleteVm v) (inr (lost, (it, (has, one)))) looks = lost_known xs row facts lost
    by_call (calls.HasVm v) tt looks = facts
    by_call (calls.FindVm m) tt looks = facts
    by_call (calls.FindDisk m) tt looks = facts
    by_call (calls.GetDisks v) tt looks = facts
    by_call (calls.GetState v) tt looks = facts
    by_call (calls.ListDisk v) tt looks = facts
    by_call (calls.MigrateDisk v from to) known looks = facts
    by_call (calls.HasDisk d) known looks = facts
    by_call (calls.Ping v) known looks = facts
    by_call (calls.CompilePackage v work deps) known looks = facts
    by_call call known looks = same known

-- a row that began is what it was before, begun
pub begun_again : (n : ℕ) (row : Row) (call : Call) →
    begun_row n call (row_before call (begun_row n call row)) ≡ begun_row n call row
begun_again n row (calls.CreateVm make hint) = refl
begun_again n row call = refl
