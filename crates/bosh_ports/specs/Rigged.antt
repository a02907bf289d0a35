-- A keeper whose appends can be made to fail: which rigs wait, and which one has sprung.
use Rattle.std.specs.Prelude.{◌≡◌, ◌⊎◌, ℕ, ◌-◌, ◌==◌, ◌++◌, ◌∷◌, [], Bool, ◌||◌, is_some, List, map, find, Option, Some, None, IfSome, option_map, Result, Ok, Err}
use Rattle.bosh_ports.specs.Faults.{Rose, count_with}
use Rattle.bosh_ports.specs.declared.keeper.KeepFault.{KeepFault}
use Rattle.bosh_ports.specs.declared.keeper.KeepFault.TheVariants.{Failed, Broken, Memory}
use Rattle.bosh_ports.specs.declared.rig.Rig.{Rig}
use Rattle.bosh_ports.specs.declared.rig.Rig.TheVariants.{FailLost, FailKept, StopBefore, StopAfter}
use Rattle.bosh_ports.specs.declared.rig.Armed.{Armed}

-- the keeper below, the rigs in the order in which they were set, the one that has sprung since the last reload, and
-- how often one did
pub record RigState (K : Type 0) : Type 0 where
  pub inner : K
  pub armed : List Armed
  pub sprung : Option Rig
  pub fired : ℕ

-- broken by a rig, or below
abbrev pub broken_of : {K : Type 0} → (K → Bool) → RigState K → Bool
broken_of is_broken rigged = is_some rigged.sprung || is_broken rigged.inner

-- the count below and its own
abbrev pub faults_of : {K : Type 0} → (K → ℕ) → RigState K → ℕ
faults_of faults rigged = count_with (faults rigged.inner) rigged.fired

-- the rig that decides on the next append: the first that was set of those that are due
abbrev pub due : List Armed → Option Rig
due armed = option_map (λ rig. rig.how) (find (λ rig. rig.appends == 1) armed)

-- one append nearer, or spent
abbrev pub nearer : Armed → Armed
nearer rig = record rig { appends = rig.appends - 1 }

-- the rigs after an append: each is one nearer, and those that were due are spent
abbrev pub armed_after : List Armed → List Armed
armed_after armed = map nearer armed

-- how often a rig has fired, after an append
abbrev pub fired_after : Option Rig → ℕ → ℕ
fired_after None fired = fired
fired_after (Some rig) fired = count_with fired 1

-- an append that found the keeper not broken springs the rig that is due, and counts it
pub record Springs {K : Type 0} (was now : RigState K) : Type 0 where
  pub armed : now.armed ≡ armed_after was.armed
  pub sprung : now.sprung ≡ due was.armed
  pub fired : now.fired ≡ fired_after (due was.armed) was.fired

-- the rigs wait as they did
pub record SameRigs {K : Type 0} (was now : RigState K) : Type 0 where
  pub armed : now.armed ≡ was.armed
  pub sprung : now.sprung ≡ was.sprung
  pub fired : now.fired ≡ was.fired

-- the rigs after an append: a good answer comes only where none was due
abbrev pub RigsAfter : {K T : Type 0} → Result T KeepFault → RigState K → RigState K → Type 0
RigsAfter (Ok value) was now = Springs was now × (due was.armed ≡ None)
RigsAfter (Err Failed) was now = Springs was now
RigsAfter (Err Broken) was now = SameRigs was now
RigsAfter (Err Memory) was now = SameRigs was now

-- the body was passed on: it stands at the end of the list below, where that tells its list and did not fail
abbrev pub KeptBelow : {K : Type 0} → (K → Option (List (List ℕ))) → (K → ℕ) → K → List ℕ → K → Type 0
KeptBelow bodies faults was body now =
    IfSome (bodies was) (λ before. (bodies now ≡ Some (before ++ body ∷ [])) ⊎ Rose (faults was) (faults now))

-- What a failed append did below, by the rig that sprang: one that keeps passed the body on, to the end of the list
-- unless the keeper below failed too; one that loses left the keeper below as it was; where none sprang, the keeper
-- below failed.
abbrev pub FailedBelow : {K : Type 0} → Option Rig → (K → Option (List (List ℕ))) → (K → ℕ) → K → List ℕ → K → Type 0
FailedBelow (Some FailLost) bodies faults was body now = now ≡ was
FailedBelow (Some StopBefore) bodies faults was body now = now ≡ was
FailedBelow (Some FailKept) bodies faults was body now = KeptBelow bodies faults was body now
FailedBelow (Some StopAfter) bodies faults was body now = KeptBelow bodies faults was body now
FailedBelow None bodies faults was body now = Rose (faults was) (faults now)

-- the same, of the answer of an append; one that found the keeper broken left the keeper below as it was
abbrev pub FailedAppend : {K T : Type 0} → (K → Option (List (List ℕ))) → (K → ℕ) → Result T KeepFault →
    RigState K → List ℕ → RigState K → Type 0
FailedAppend bodies faults (Err Failed) was body now =
    FailedBelow (due was.armed) bodies faults was.inner body now.inner
FailedAppend bodies faults (Err Broken) was body now = now.inner ≡ was.inner
FailedAppend bodies faults answer was body now = Unit {0}

-- a reload that is done ends what had sprung
abbrev pub sprung_after : {T : Type 0} → Result T KeepFault → Option Rig → Option Rig
sprung_after (Ok value) sprung = None
sprung_after (Err fault) sprung = sprung
