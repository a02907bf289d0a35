-- Which addresses are held, and what the goal of a deployment depends on beside its manifest (this project's
-- profile).
use Rattle.std.specs.Prelude.{ℕ, ◌+◌, Bool, not, ◌&&◌, Option, Some, None, is_some, List, [], ◌∷◌, ◌++◌, map, filter}
use Rattle.std.specs.List.{list_any, flat_map}
use Rattle.std.specs.Str.{bytes_eq}
use Rattle.bosh_base.specs.Cloud.{numbers_to}
use Rattle.bosh_base.specs.declared.goal.Goal.{Goal}
use Rattle.bosh_base.specs.declared.key.Key.{Key}
use Rattle.bosh_base.specs.declared.link.Joint.{Joint}
use Rattle.bosh_base.specs.declared.make.Make.{Make}
use Rattle.bosh_base.specs.declared.offer.DepOffers.{DepOffers}
use Rattle.bosh_base.specs.declared.offer.Offer.{Offer}
use Rattle.bosh_base.specs.declared.owner.Owner.{Owner}
use Rattle.bosh_base.specs.declared.owner.Owner.TheVariants.{Instance, Compile}
use Rattle.bosh_base.specs.declared.view.Held.{Held}
use Rattle.bosh_base.specs.declared.view.View.{View}
use Rattle.bosh_compile.specs.CompileOrder.{key_cmp}
use Rattle.bosh_history.specs.Items.{slots_of}
use Rattle.bosh_history.specs.Known.{Known, Slot, SlotName, dep_of_task, offers_in}
use Rattle.bosh_history.specs.Moments.{dep_of}
use Rattle.bosh_history.specs.Words.{all_inserted}

abbrev pub addresses_of : Owner → Make → List Held
addresses_of owner make = map (λ it. record { owner = owner; net = it.net; addr = it.addr }) make.nets

abbrev pub of_make : Owner → Option Make → List Held
of_make owner (Some make) = addresses_of owner make
of_make owner None = []

-- a row holds the addresses of its last machine, also while it has none
abbrev pub held_by_rows : Known → List Held
held_by_rows k = flat_map (λ i. of_make (Instance i) (k.row i).make) k.instances

-- so does each row of a current goal
abbrev pub held_by_goal : Option Goal → List Held
held_by_goal (Some goal) = flat_map (λ want. addresses_of (Instance want.inst) want.make) goal.rows
held_by_goal None = []

abbrev pub held_by_goals : Known → List Held
held_by_goals k = flat_map (λ dep. held_by_goal (k.goal dep)) k.deployments

-- a compile machine that may be there
abbrev pub held_by_slot : SlotName → Option Slot → List Held
held_by_slot name (Some it) = addresses_of (Compile name.task name.slot) it.make
held_by_slot name None = []

abbrev pub held_by_machines : Known → List Held
held_by_machines k = flat_map (λ name. held_by_slot name (k.slot name.task name.slot)) k.machines

abbrev pub is_open : Known → ℕ → Bool
is_open k t = not (is_some (k.task t).end)

abbrev pub numbered : {A : Type 0} → ℕ → (ℕ → A → List Held) → List A → List Held
numbered n held [] = []
numbered n held (a ∷ more) = held n a ++ numbered (n + 1) held more

-- each slot of an open task, which the current goal of its deployment has
abbrev pub held_by_task : Known → ℕ → List Held
held_by_task k t = numbered 0 (λ s make. addresses_of (Compile t s) make) (slots_of (k.goal (dep_of_task k t)))

abbrev pub held_by_slots : Known → List Held
held_by_slots k = flat_map (held_by_task k) (filter (is_open k) (numbers_to k.tasks))

-- all held addresses: those of rows by instance, of goals by deployment, of compile machines and of slots
abbrev pub held : Known → List Held
held k = held_by_rows k ++ held_by_goals k ++ held_by_machines k ++ held_by_slots k

-- those that another deployment holds
abbrev pub held_elsewhere : Known → List ℕ → List Held
held_elsewhere k dep = filter (λ it. not (bytes_eq (dep_of k it.owner) dep)) (held k)

-- ---- what a goal depends on

abbrev pub same_bytes_joint : Joint → Joint → Bool
same_bytes_joint a b =
    bytes_eq a.dep b.dep && (bytes_eq a.group b.group && (bytes_eq a.job b.job && bytes_eq a.link b.link))

-- the link is offered, of that type
abbrev pub is_offered : Joint → List ℕ → List Offer → Bool
is_offered joint kind offers =
    list_any (λ offer. same_bytes_joint offer.joint joint && bytes_eq offer.kind kind) offers

-- what others may take of a deployment: what its last done deploy offers, as far as its current goal still does
abbrev pub known_offers : Known → List ℕ → DepOffers
known_offers k dep = record {
  dep = dep;
  offers = filter (λ offer. is_offered offer.joint offer.kind (offers_in (k.goal dep))) (k.shared dep);
}

-- the compiled keys in their order, whatever the names of their packages are
abbrev pub compiled_keys : Known → List Key
compiled_keys k = all_inserted key_cmp (map (λ built. built.key) k.built) []

abbrev pub view : Known → List ℕ → View
view k dep = record {
  goal = k.goal dep;
  rows = map k.row (filter (λ i. bytes_eq i.dep dep) k.instances);
  taken = held_elsewhere k dep;
  leftover = filter (λ it. bytes_eq (dep_of k it.owner) dep) (held_by_machines k);
  compiled = compiled_keys k;
  last_call = k.last_call;
  known = map (known_offers k) k.deployments;
}
