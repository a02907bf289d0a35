-- Each permitted move keeps the facts on what is known, all of them together.
use Rattle.std.proofs.Common.{List, [], ◌∷◌}
use Rattle.std.specs.Prelude.{fold}
use Rattle.bosh_base.specs.declared.moves.Move.{Move}
use Rattle.bosh_history.specs.Moments.{Moment, later}
use Rattle.bosh_history.specs.Notes.{Outside}
use Rattle.bosh_history.specs.Permitted.{IsPermitted, IsRunFrom}
use Rattle.laws_addresses.proofs.AddressLemmas.{addresses_kept}
use Rattle.laws_addresses.proofs.AddressedLemmas.{addressed_kept}
use Rattle.laws_addresses.proofs.PlaceLemmas.{places_kept}
use Rattle.laws_calls.proofs.FitLemmas.{fits_kept}
use Rattle.laws_calls.proofs.KindLemmas.{kind_kept}
use Rattle.laws_calls.proofs.MachineLemmas.{machines_kept}
use Rattle.laws_compiling.proofs.KeyLemmas.{compilable_kept}
use Rattle.laws_facts.proofs.CallLemmas as open_calls
use Rattle.laws_facts.proofs.CallLemmas.{one_kept, past_kept}
use Rattle.laws_facts.proofs.CurrentLemmas.{current_kept}
use Rattle.laws_facts.proofs.DoubtLemmas.{doubts_kept}
use Rattle.laws_facts.proofs.FreshLemmas.{fresh_kept}
use Rattle.laws_facts.proofs.GoalLemmas.{sound_kept}
use Rattle.laws_facts.proofs.LockLemmas.{locks_kept}
use Rattle.laws_facts.proofs.LossLemmas as lists
use Rattle.laws_facts.proofs.MakingLemmas.{made_kept}
use Rattle.laws_facts.proofs.OfferLemmas.{ties_kept}
use Rattle.laws_facts.proofs.OwnTaskLemmas.{of_kept}
use Rattle.laws_facts.proofs.UpdateLemmas as updates
use Rattle.laws_facts.proofs.WorkLemmas.{work_kept}
use Rattle.laws_facts.specs.KnownFacts.{KnownFacts}
use Rattle.laws_items.proofs.AskedLemmas.{asked_kept}
use Rattle.laws_items.proofs.ItemLemmas.{items_kept}
use Rattle.laws_machines.proofs.AloneLemmas.{slots_alone}
use Rattle.laws_machines.proofs.DeletedLemmas.{deleted_kept}
use Rattle.laws_machines.proofs.GoalLemmas as goals
use Rattle.laws_machines.proofs.OnceLemmas.{alone_kept, new_kept}
use Rattle.laws_machines.proofs.OpenLemmas as machines
use Rattle.laws_machines.proofs.ShapeLemmas.{shape_kept}
use Rattle.laws_standing.proofs.UpdateLemmas as standing
use Rattle.laws_tasks.proofs.LimitLemmas.{limits_kept}
use Rattle.laws_tasks.proofs.ListsLemmas as tasks
use Rattle.laws_tasks.proofs.RecoveredLemmas.{recovered_kept}
use Rattle.laws_tasks.proofs.TurnLemmas.{turns_kept}

-- one move
pub facts_kept : (outside : Outside) (m : Moment) (move : Move) → IsPermitted outside m move → KnownFacts m
    → KnownFacts (later m move)
facts_kept outside m move may h = record {
  lists = lists.lists_kept outside m move may h;
  numbers = record {
    past = past_kept outside m move may h;
    doubts_past = doubts_kept outside m move may h;
    rows_past = fresh_kept outside m move may h;
    of_tasks = of_kept outside m move may h;
    none_opened = recovered_kept outside m move may h;
  };
  makers = made_kept outside m move may h;
  machines = machines_kept outside m move may h;
  shapes = shape_kept outside m move may h;
  slots_work = λ t s. record {
    of_goal = goals.goals_kept outside m move may h t s;
    doubt_open = machines.doubts_kept outside m move may h t s;
    alone = slots_alone outside m move may h t s;
    compiled = deleted_kept outside m move may h t s;
  };
  calls = λ n call is. record {
    number = (open_calls.begun_kept outside m move may h n call is).number;
    begun = (open_calls.begun_kept outside m move may h n call is).begun;
    works = work_kept outside m move may h n call is;
    one_call = λ other that also same. one_kept outside m move may h n call other that is also same;
    fits = fits_kept outside m move may h n call is;
    of_item = items_kept outside m move may h n call is;
    in_kind = kind_kept outside m move may h n call is;
    compiles_new = new_kept outside m move may h n call is;
    compiles_alone = alone_kept outside m move may h n call is;
    has_begun = updates.begun_kept outside m move may h n call is;
  };
  tasks = λ t. record {
    another_lock = locks_kept outside m move may h t;
    within_limits = limits_kept outside m move may h t;
    working = λ works. record {
      current = λ dep of. current_kept outside m move may h t dep works of;
      lists_well = tasks.lists_kept outside m move may h t works;
      has_place = places_kept outside m move may h t works;
      update_listed = λ i. standing.listed_kept outside m move may h t i works;
      in_turn = λ i. turns_kept outside m move may h t i works;
      can_be_asked = λ i. asked_kept outside m move may h t i works;
      is_addressed = addressed_kept outside m move may h t works;
    };
  };
  goals = λ dep goal is. record {
    of_dep = (sound_kept outside m move may h dep goal is).of_dep;
    sound_rows = (sound_kept outside m move may h dep goal is).sound_rows;
    can_be_compiled = compilable_kept outside m move may h dep goal is;
    has_slots = (sound_kept outside m move may h dep goal is).has_slots;
    own_offers = (sound_kept outside m move may h dep goal is).own_offers;
    offered_when_done = (ties_kept outside m move may h dep goal is).done;
    offered_now = (ties_kept outside m move may h dep goal is).now;
  };
  addresses = addresses_kept outside m move may h;
}

-- several
pub facts_along : (outside : Outside) (m : Moment) (moves : List Move) → IsRunFrom outside m moves → KnownFacts m
    → KnownFacts (fold later m moves)
facts_along outside m [] run h = h
facts_along outside m (move ∷ moves) run h =
    facts_along outside (later m move) moves run.1 (facts_kept outside m move run.0 h)
