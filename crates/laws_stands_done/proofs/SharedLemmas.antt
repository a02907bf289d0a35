-- A deploy that is done offers what its goal does.
use Rattle.std.proofs.Common.{◌≡◌, ◌∙◌, ℕ, true, false, List, Option, Some, None, ap, refl, sym}
use Rattle.std.specs.Prelude.{option_map, if◌then◌else◌}
use Rattle.std.specs.List.{filter_map}
use Rattle.std.specs.Option.{option_and_then}
use Rattle.std.specs.Str.{bytes_eq}
use Rattle.bosh_base.specs.declared.goal.Goal.{Goal}
use Rattle.bosh_base.specs.declared.offer.Offer.{Offer}
use Rattle.bosh_base.specs.declared.snapshot.DepRow.{DepRow}
use Rattle.bosh_history.specs.Known.{Known}
use Rattle.bosh_history.specs.Snapshots.{dep_row}
use Rattle.bosh_history.specs.Words.{at}
use Rattle.bosh_records.specs.Changes.{since_cmp, with_shared}
use Rattle.bosh_records.specs.Ordered.{AreOrdered}
use Rattle.bosh_records.specs.Readers.{since_in}
use Rattle.bosh_records.specs.Recorded.{Recorded}
use Rattle.bosh_records.specs.Table.{changed, things}
use Rattle.bosh_records.specs.declared.records.Since.{Since}
use Rattle.bosh_rows.specs.SoundSnapshot.{are_distinct}
use Rattle.laws_stands.specs.Linked.{want_place}
use Rattle.laws_stands.specs.Once.{IsOnce}
use Rattle.laws_stands.specs.Stands.{StandsIn}
use Rattle.laws_stands.specs.Told.{Told}
use Rattle.laws_stands_opened.proofs.DepRowLemmas.{changed_rows}
use Rattle.laws_stands_opened.proofs.FirstLemmas.{changed_first, first_changed}
use Rattle.laws_stands_done.proofs.SettledLemmas.{settled, settled_stands}
use Rattle.laws_stands_fits.proofs.SinceLemmas.{since_keys, since_own}
use Rattle.laws_stands_opened.proofs.WantLemmas.{goal_known}

module _ (dep : List ℕ) (offers : List Offer) (told : Told) (it : Recorded) (since : Since) where
  abbrev k : Known
  k = told.known

  -- what is told once the deployment offers these
  abbrev pub offered : Told
  offered = settled k.deployments k.goal (at bytes_eq dep offers k.shared) told

  -- what is recorded of deployments then
  abbrev rows : List (Since × Option DepRow)
  rows = changed since_cmp since (with_shared offers) it.deployments

  pub named : (d : List ℕ) (row : DepRow) → dep_row k d ≡ Some row → row.dep ≡ d
  named d row is = by (k.goal d) is
    where
      by : (o : Option Goal)
          → option_map (λ goal. record { dep = d; goal = goal; shared = k.shared d }) o ≡ Some row → row.dep ≡ d
      by (Some goal) is =
          let same : record { dep = d; goal = goal; shared = k.shared d } ≡ row = cc in
          ap (λ (row : DepRow). row.dep) (sym same)
      by None is = absurd cc

  own : (d : List ℕ) → bytes_eq dep d ≡ true → dep_row offered.known d ≡ option_map (with_shared offers) (dep_row k d)
  own d same =
      (λ j. option_map (λ goal. record {
        dep = d;
        goal = goal;
        shared = if same j then offers else k.shared d;
      }) (k.goal d))
      ∙ by (k.goal d)
    where
      by : (o : Option Goal) → option_map (λ goal. record { dep = d; goal = goal; shared = offers }) o
          ≡ option_map (with_shared offers) (option_map (λ goal. record {
            dep = d;
            goal = goal;
            shared = k.shared d;
          }) o)
      by (Some goal) = refl
      by None = refl

  others : (d : List ℕ) → bytes_eq dep d ≡ false → dep_row offered.known d ≡ dep_row k d
  others d other =
      λ j. option_map (λ goal. record {
        dep = d;
        goal = goal;
        shared = if other j then offers else k.shared d;
      }) (k.goal d)

  module _ (stands : StandsIn told it) (once : IsOnce since_cmp it.deployments)
      (apart : are_distinct bytes_eq k.deployments ≡ true) (recorded : since_in it.deployments dep ≡ Some since) where
    are : things rows ≡ filter_map (dep_row offered.known) k.deployments
    are =
        changed_first since_cmp since_keys since_own (λ (row : DepRow). bytes_eq row.dep dep) (with_shared offers)
        it.deployments once since recorded
        ∙ ap (first_changed (λ (row : DepRow). bytes_eq row.dep dep) (with_shared offers)) stands.deployments
        ∙ changed_rows (dep_row k) (dep_row offered.known) dep named others (with_shared offers) own k.deployments apart

    -- its offers change, and nothing else
    pub shared_stands : AreOrdered (record it { deployments = rows })
        → StandsIn offered (record it { deployments = rows })
    shared_stands kept =
        settled_stands k.deployments k.goal (at bytes_eq dep offers k.shared) told it it.instances rows kept (record {
          rows = λ i. refl;
          calls = λ i. refl;
          parts = λ i. refl;
        }) are
        (λ i. stands.linked.wants i
        ∙ ap (option_and_then (λ (goal : Goal). want_place goal.rows i))
        (goal_known k it.deployments k.deployments stands.deployments i.dep
        ∙ sym (goal_known offered.known rows k.deployments are i.dep)))
        stands
