-- An orphaned disk as it was before its open call: the call is one for it, and began from it.
use Rattle.std.proofs.Common.{◌≡◌, ◌∙◌, ℕ, Bool, true, false, Option, Some, None, List, refl, sym, ap}
use Rattle.std.specs.Prelude.{◌==◌, if◌then◌else◌, not}
use Rattle.std.specs.Option.{option_and_then}
use Rattle.std.proofs.lemmas.Bool.{and_from, and_parts, eqb-true, false≢true}
use Rattle.bosh_base.specs.Cloud.{disk_creation, is_disk_there}
use Rattle.bosh_base.specs.declared.answer.Answer.{Answer}
use Rattle.bosh_base.specs.declared.answer.Answer.TheVariants as answers
use Rattle.bosh_base.specs.declared.call.Call.{Call}
use Rattle.bosh_base.specs.declared.call.Call.TheVariants as calls
use Rattle.bosh_base.specs.declared.entry.Effect.{Effect}
use Rattle.bosh_base.specs.declared.entry.Entry.{Entry}
use Rattle.bosh_base.specs.declared.row.Doubt.{Doubt}
use Rattle.bosh_base.specs.declared.snapshot.Orphan.{Orphan}
use Rattle.bosh_history.specs.Calls.{orphan_begun, orphan_told, shows_gone, shows_there}
use Rattle.bosh_history.specs.Ties.{is_wanted_as}
use Rattle.bosh_rows.specs.Standing.{same_truth}
use Rattle.laws_cloud.proofs.CallLemmas.{doubt_is}
use Rattle.laws_effects.specs.Orderly.{is_taken}
use Rattle.laws_facts.specs.OpenCalls.{fits_orphan}
use Rattle.laws_facts.specs.Owners.{is_doubt}
use Rattle.laws_row_facts.specs.Words.{is_some_with}
use Rattle.laws_slots.proofs.OrphanCases.{from_parts, IsAsRecorded, parts_of}
use Rattle.laws_slots.specs.Orphans.{is_call_of_orphan, is_orphan_as_recorded, orphan_answered}

-- the record before the call: the call is one for it, it began from there, and it was what the record said
pub record OrphanBegan (xs : List Entry) (n : ℕ) (call : Call) (d : ℕ) (it : Orphan) : Type 0 where
  pub was : Orphan
  pub is_call : is_call_of_orphan d call was ≡ true
  pub begun : orphan_begun n call was ≡ it
  pub recorded : is_orphan_as_recorded xs d it ≡ true → is_taken xs n ≡ false
      → is_orphan_as_recorded xs d was ≡ true

wanted : (it : Orphan) (o : Option Effect) (doubt : Option Doubt) → is_wanted_as it o ≡ true
    → is_wanted_as (record it { doubt = doubt }) o ≡ true
wanted it (Some e) doubt is = is
wanted it None doubt is = is

module _ (xs : List Entry) (n d : ℕ) (it : Orphan) where
  deleting : it.doubt ≡ Some (record { n = n; call = calls.DeleteDisk d }) → is_orphan_as_recorded xs d it ≡ true
      → is_taken xs n ≡ false → is_orphan_as_recorded xs d (record it { doubt = None }) ≡ true
  deleting doubted is fresh =
      from_parts xs d (record it { doubt = None }) (record {
        made = wanted it (disk_creation xs d) None facts.made;
        doubt = refl;
        there =
            (λ j. same_truth (is_disk_there xs d) (not (sym fresh j)))
            ∙ (sym (λ j. same_truth (is_disk_there xs d)
            (not (is_some_with (λ doubt. is_taken xs doubt.n) (doubted j)))) ∙ facts.there);
      })
    where
      facts : IsAsRecorded xs d it
      facts = parts_of xs d it is

  pub orphan_began : (call : Call) → fits_orphan n call d it ≡ true → OrphanBegan xs n call d it
  orphan_began (calls.DeleteDisk disk) fits =
      let parts : ((disk == d) ≡ true) × (is_doubt n (calls.DeleteDisk disk) it.doubt ≡ true) =
      and_parts (disk == d) (is_doubt n (calls.DeleteDisk disk) it.doubt) fits in
      let doubted : it.doubt ≡ Some (record { n = n; call = calls.DeleteDisk disk }) =
      doubt_is n (calls.DeleteDisk disk) it.doubt parts.1 in
      record {
        was = record it { doubt = None };
        is_call = and_from (disk == d) true parts.0 refl;
        begun = λ j. record it { doubt = sym doubted j };
        recorded =
            deleting (doubted ∙ (λ j. Some (record { n = n; call = calls.DeleteDisk (eqb-true disk d parts.0 j) })));
      }
  orphan_began (calls.HasDisk disk) fits =
      record { was = it; is_call = fits; begun = refl; recorded = λ is fresh. is }
  orphan_began call fits = absurd (false≢true fits)

-- ---- what an answer leaves

-- the record is in doubt of nothing but what the recorded one is in doubt of
abbrev pub DoubtsAs : Option Orphan → Option Orphan → Type 0
DoubtsAs orphan x =
    (it : Orphan) (d : Doubt) → x ≡ Some it → it.doubt ≡ Some d
    → (was : Orphan) × (orphan ≡ Some was) × (was.doubt ≡ Some d)

pub doubts_itself : (orphan : Option Orphan) → DoubtsAs orphan orphan
doubts_itself orphan it d is has = (it, is, has)

pub doubts_answered : (call : Call) (answer : Answer) (orphan : Option Orphan)
    → DoubtsAs orphan (option_and_then (orphan_answered call answer) orphan)
doubts_answered call answer (Some was) it d is has = by (shows_gone call answer) (shows_there call answer) is
  where
    by : (gone there : Bool) → (if gone then None else Some (orphan_told there was)) ≡ Some it
        → (old : Orphan) × (Some was ≡ Some old) × (old.doubt ≡ Some d)
    by true there is = absurd cc
    by false true is =
        let same : record was { doubt = None } ≡ it = cc in
        let none : None ≡ it.doubt = ap (λ (x : Orphan). x.doubt) same in absurd cc
    by false false is = let same : was ≡ it = cc in (was, refl, ap (λ (x : Orphan). x.doubt) same ∙ has)
doubts_answered call answer None it d is has = absurd cc

-- a call that failed changes nothing
pub failed_orphan : (call : Call) (it : Orphan) → orphan_answered call answers.Failed it ≡ Some it
failed_orphan (calls.DeleteDisk disk) it = refl
failed_orphan (calls.HasDisk disk) it = refl
failed_orphan call it = refl
