-- No two machines share an address (this project's profile; bosh.io, "Networks").
use Rattle.std.specs.Prelude.{Bool, true, not, ◌&&◌, ◌==◌, Option, Some, None, List, [], ◌∷◌, ◌++◌, filter}
use Rattle.std.specs.List.{list_any, list_all, filter_map}
use Rattle.std.specs.Option.{option_and_then}
use Rattle.bosh_base.specs.Cloud.{numbers_to, vms_created, vm_creation, is_vm_there, make_of}
use Rattle.bosh_base.specs.declared.entry.Entry.{Entry}
use Rattle.bosh_base.specs.declared.make.Make.{Make}
use Rattle.bosh_base.specs.declared.moves.Move.{Move}
use Rattle.bosh_history.specs.Moments.{Moment, OpenCall, later}
use Rattle.bosh_history.specs.Sound.{addrs}

-- the makes of the machines that are there
abbrev pub live_machines : List Entry → List Make
live_machines effects =
    filter_map (λ v. option_and_then (λ e. make_of e.call) (vm_creation effects v))
    (filter (is_vm_there effects) (numbers_to (vms_created effects)))

-- a machine that an open call may be making
abbrev pub creating : OpenCall → Option Make
creating call = if_not_done call.did
  where
    if_not_done : {A : Type 0} → Option A → Option Make
    if_not_done (Some a) = None
    if_not_done None = make_of call.begin.call

-- .. and those that open calls may be making
abbrev pub possible_machines : Moment → List Make
possible_machines m =
    live_machines m.effects ++ filter_map (λ n. option_and_then creating (m.calls n)) (numbers_to m.known.last_call)

abbrev pub is_apart : Make → Make → Bool
is_apart a b = list_all (λ addr. not (list_any (λ other. other == addr) (addrs b))) (addrs a)

abbrev pub are_apart : List Make → Bool
are_apart [] = true
are_apart (make ∷ makes) = list_all (is_apart make) makes && are_apart makes

abbrev pub shares_no_address : Moment → Move → Bool
shares_no_address m move = are_apart (possible_machines (later m move))
