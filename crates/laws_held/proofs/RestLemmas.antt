-- All facts at a moment at which nothing is under way are those of each opening pair that tells the same of all that
-- outlasts a session.
use Rattle.std.proofs.Common.{◌≡◌, ◌∙◌, ℕ, true, ◌&&◌, Option, Some, None, List}
use Rattle.std.proofs.Common.{ap, refl, sym, subst}
use Rattle.std.specs.Prelude.{◌||◌, is_some, nat_le}
use Rattle.std.specs.List.{list_all}
use Rattle.std.specs.Option.{option_and_then, option_eq, option_map}
use Rattle.std.specs.Str.{bytes_eq}
use Rattle.std.proofs.lemmas.Bool.{and_from, and_parts}
use Rattle.bosh_base.specs.CallStep.{found_vm}
use Rattle.bosh_base.specs.declared.call.Call.{Call}
use Rattle.bosh_base.specs.declared.call.Call.TheVariants as calls
use Rattle.bosh_base.specs.declared.entry.Entry.{Entry}
use Rattle.bosh_base.specs.declared.owner.Owner.{Owner}
use Rattle.bosh_base.specs.declared.owner.Owner.TheVariants.{Instance, Compile, Disk}
use Rattle.bosh_base.specs.declared.row.Doubt.{Doubt}
use Rattle.bosh_base.specs.declared.row.Row.{Row}
use Rattle.bosh_history.specs.Known.{Known, Slot, SlotName, dep_named}
use Rattle.bosh_history.specs.Moments.{Moment, dep_of, dep_of_orphan}
use Rattle.bosh_history.specs.Slots.{slot_found}
use Rattle.bosh_history.specs.Ties.{has_machine, slot_as_done, slot_before, slot_by}
use Rattle.laws_cloud.proofs.OwnerFrames.{where_each, where_some}
use Rattle.laws_facts.specs.CallFacts.{named}
use Rattle.laws_facts.specs.Disks.{DiskFacts, is_recorded_once}
use Rattle.laws_facts.specs.Facts.{Holds}
use Rattle.laws_facts.specs.Numbers.{EffectFacts, is_open_for}
use Rattle.laws_facts.specs.Owners.{doubt_of, works}
use Rattle.laws_row_facts.specs.Numbers.{is_effect_of}
use Rattle.laws_row_facts.specs.Rows.{RowFacts}
use Rattle.laws_row_facts.specs.Words.{where_any}
use Rattle.laws_runs.proofs.RestLemmas.{Outlasts, Rests, doubt_rest, facts_rest, keyless, never_so, none_works, reopened}
use Rattle.laws_runs.proofs.RestLemmas.{slot_part, slot_test}
use Rattle.laws_slots.specs.Orphans.{is_orphan_as_recorded}
use Rattle.laws_slots.specs.Slots.{SlotFacts, has_shape, is_slot_created, is_slot_tied, owner_of}

-- ---- a compile machine is tied whatever it is to compile

module _ (effects : List Entry) (owner : Owner) (it : Slot) where
  found_blind : (n : ℕ) (found : Option ℕ)
      → has_machine effects owner (slot_found n found it) ≡ has_machine effects owner (slot_found n found (keyless it))
  found_blind n (Some v) = refl
  found_blind n None = refl

  call_blind : (n : ℕ) (call : Call)
      → has_machine effects owner (slot_by effects it n call)
      ≡ has_machine effects owner (slot_by effects (keyless it) n call)
  call_blind n (calls.CreateVm make disks) = found_blind n (found_vm effects n)
  call_blind n (calls.DeleteVm v) = refl
  call_blind n call = refl

done_blind : (effects : List Entry) (owner : Owner) (it : Slot) (doubt : Option Doubt)
    → has_machine effects owner (slot_as_done effects (record it { doubt = doubt }))
    ≡ has_machine effects owner (slot_as_done effects (record (keyless it) { doubt = doubt }))
done_blind effects owner it None = refl
done_blind effects owner it (Some d) = call_blind effects owner (record it { doubt = Some d }) d.n d.call

tied_blind : (effects : List Entry) (name : SlotName) (slot : Option Slot)
    → is_slot_tied effects name slot ≡ is_slot_tied effects name (option_map keyless slot)
tied_blind effects name (Some it) =
    ap (λ b. has_machine effects (owner_of name) (Some (slot_before it)) || b)
    (done_blind effects (owner_of name) it it.doubt)
tied_blind effects name None = refl

-- ---- each part of the facts

module _ (m : Moment) (rests : Rests m) (h : Holds m) (new : Known) (same : Outlasts m.known new) where
  abbrev now : Moment
  now = reopened new m.effects

  -- ---- calls in doubt

  -- an owner in doubt keeps its deployment
  dep_rest : (owner : Owner) (d : Doubt) → doubt_of m.known owner ≡ Some d → dep_of new owner ≡ dep_of m.known owner
  dep_rest (Instance i) d is = refl
  dep_rest (Compile t s) d is = by (m.known.slot t s) refl is
    where
      by : (slot : Option Slot) → m.known.slot t s ≡ slot → option_and_then (λ (it : Slot). it.doubt) slot ≡ Some d
          → dep_of new (Compile t s) ≡ dep_of m.known (Compile t s)
      by (Some it) there is =
          let own : (nat_le 1 t && (nat_le t m.known.tasks && option_eq bytes_eq (Some it.dep) (m.known.task t).dep))
          ≡ true =
          where_some
          (λ it. nat_le 1 t && (nat_le t m.known.tasks && option_eq bytes_eq (Some it.dep) (m.known.task t).dep))
          (m.known.slot t s) it (h.known.numbers.of_tasks t s) there in
          let (first, rest) = and_parts (nat_le 1 t) _ own in
          ap dep_named (same.dep t first (and_parts (nat_le t m.known.tasks) _ rest).0)
      by None there is = absurd cc
  dep_rest (Disk d) doubt is = ap dep_of_orphan (same.orphan d)

  effects_rest : EffectFacts now
  effects_rest = record {
    done_as_told = λ n. refl;
    doubts_own =
        λ owner. (λ j. where_any
        (λ d. list_all (is_effect_of d.n owner (dep_of new owner) d.call) m.effects && true)
        (doubt_rest m rests h.known new same owner j))
        ∙ where_each
        (λ d. list_all (is_effect_of d.n owner (dep_of new owner) d.call) m.effects && true) (doubt_of m.known owner)
        (λ d is.
        and_from (list_all (is_effect_of d.n owner (dep_of new owner) d.call) m.effects) true
        ((λ j. list_all (is_effect_of d.n owner (dep_rest owner d is j) d.call) m.effects) ∙ was owner d is) refl);
  }
    where
      was : (owner : Owner) (d : Doubt) → doubt_of m.known owner ≡ Some d
          → list_all (is_effect_of d.n owner (dep_of m.known owner) d.call) m.effects ≡ true
      was owner d is =
          (and_parts (list_all (is_effect_of d.n owner (dep_of m.known owner) d.call) m.effects) _
          (where_some
          (λ it. list_all (is_effect_of it.n owner (dep_of m.known owner) it.call) m.effects
          && where_any (is_open_for owner it.call) (m.calls it.n))
          (doubt_of m.known owner) d (h.effects.doubts_own owner) is)).0

  -- ---- compile machines and disks

  slot_rest : (t s : ℕ) → SlotFacts m.effects (named t s) (new.slot t s)
  slot_rest t s = record {
    shape = slot_test m.known new same t s has_shape (λ it. refl) (h.slots t s).shape;
    created =
        slot_test m.known new same t s (is_slot_created m.effects (owner_of (named t s))) (λ it. refl)
        (h.slots t s).created;
    tied =
        slot_part m.known new same t s (is_slot_tied m.effects (named t s)) (tied_blind m.effects (named t s))
        ∙ (h.slots t s).tied;
  }

  disk_rest : (d : ℕ) → DiskFacts m.effects new d
  disk_rest d = record {
    once =
        (λ j. is_recorded_once m.effects (λ i. same.row i j) (is_some (same.orphan d j)) d) ∙ (h.disks d).once;
    orphan = (λ j. where_any (is_orphan_as_recorded m.effects d) (same.orphan d j)) ∙ (h.disks d).orphan;
  }

  -- ---- all

  pub all_rest : Holds now
  all_rest = record {
    known = facts_rest m rests h.known new same;
    cloud = h.cloud;
    effects = effects_rest;
    rows = λ i. subst (λ (row : Row). RowFacts m.effects row) (sym (same.row i)) (h.rows i);
    slots = slot_rest;
    disks = disk_rest;
    performed = λ n call is. absurd cc;
    outcomes = λ t working. absurd (never_so (works now t) (none_works new m.effects t) working);
  }
