-- A machine holds what is recorded, after each call of a known row that moves no disk.
use Rattle.std.proofs.Common.{◌≡◌, ℕ, Bool, true, false, None, List, refl}
use Rattle.bosh_base.specs.declared.answer.Answer.{Answer}
use Rattle.bosh_base.specs.declared.call.Call.{Call}
use Rattle.bosh_base.specs.declared.call.Call.TheVariants as calls
use Rattle.bosh_base.specs.declared.entry.Entry.{Entry}
use Rattle.bosh_base.specs.declared.row.Row.{Row}
use Rattle.bosh_base.specs.declared.spec.Spec.{Spec}
use Rattle.laws_row_facts.specs.Rows.{holds_its_disks}
use Rattle.laws_rows.proofs.TieLemmas.{of_row}
use Rattle.laws_rows.specs.Rightful.{done_with}
use Rattle.bosh_rows.specs.After.{after, begun_row}
use Rattle.laws_answered_rows.proofs.HeldLemmas.{apply_places, drain_places, quiet_held, start_places, stop_places}
use Rattle.laws_answered_rows.proofs.StillLemmas.{migrate_places, mount_places, unmount_places}

-- it holds them after the call, with its effect and without it, however it is answered
abbrev pub KeepsHeld : Call → Type 0
KeepsHeld call =
    (xs : List Entry) (row : Row) (n : ℕ) (dep : List ℕ) (b : Bool) (answer : Answer) → row.lost ≡ false →
    row.doubt ≡ None → holds_its_disks xs row ≡ true →
    holds_its_disks (done_with b xs (of_row row n dep call)) (after n call answer (begun_row n call row)) ≡ true

pub drain_held : (v : ℕ) → KeepsHeld (calls.Drain v)
drain_held v xs row n dep b answer found known holds =
    quiet_held xs row (after n (calls.Drain v) answer (begun_row n (calls.Drain v) row))
    n dep (calls.Drain v) b
    (record {
      machines = record { creates = refl; stays = λ u k. refl };
      disks = record { creates = refl; stays = λ d k. refl };
      places = λ d. refl;
    })
    found known holds (drain_places n v answer row)

pub stop_held : (v : ℕ) → KeepsHeld (calls.Stop v)
stop_held v xs row n dep b answer found known holds =
    quiet_held xs row (after n (calls.Stop v) answer (begun_row n (calls.Stop v) row))
    n dep (calls.Stop v) b
    (record {
      machines = record { creates = refl; stays = λ u k. refl };
      disks = record { creates = refl; stays = λ d k. refl };
      places = λ d. refl;
    })
    found known holds (stop_places n v answer row)

pub start_held : (v : ℕ) → KeepsHeld (calls.Start v)
start_held v xs row n dep b answer found known holds =
    quiet_held xs row (after n (calls.Start v) answer (begun_row n (calls.Start v) row))
    n dep (calls.Start v) b
    (record {
      machines = record { creates = refl; stays = λ u k. refl };
      disks = record { creates = refl; stays = λ d k. refl };
      places = λ d. refl;
    })
    found known holds (start_places n v answer row)

pub apply_held : (v : ℕ) (spec : Spec) → KeepsHeld (calls.Apply v spec)
apply_held v spec xs row n dep b answer found known holds =
    quiet_held xs row (after n (calls.Apply v spec) answer (begun_row n (calls.Apply v spec) row))
    n dep (calls.Apply v spec) b
    (record {
      machines = record { creates = refl; stays = λ u k. refl };
      disks = record { creates = refl; stays = λ d k. refl };
      places = λ d. refl;
    })
    found known holds (apply_places n v spec answer row)

pub mount_held : (v d : ℕ) → KeepsHeld (calls.MountDisk v d)
mount_held v d xs row n dep b answer found known holds =
    quiet_held xs row (after n (calls.MountDisk v d) answer (begun_row n (calls.MountDisk v d) row))
    n dep (calls.MountDisk v d) b
    (record {
      machines = record { creates = refl; stays = λ u k. refl };
      disks = record { creates = refl; stays = λ d k. refl };
      places = λ d. refl;
    })
    found known holds (mount_places n v d answer row)

pub unmount_held : (v d : ℕ) → KeepsHeld (calls.UnmountDisk v d)
unmount_held v d xs row n dep b answer found known holds =
    quiet_held xs row (after n (calls.UnmountDisk v d) answer (begun_row n (calls.UnmountDisk v d) row))
    n dep (calls.UnmountDisk v d) b
    (record {
      machines = record { creates = refl; stays = λ u k. refl };
      disks = record { creates = refl; stays = λ d k. refl };
      places = λ d. refl;
    })
    found known holds (unmount_places n v d answer row)

pub migrate_held : (v from to : ℕ) → KeepsHeld (calls.MigrateDisk v from to)
migrate_held v from to xs row n dep b answer found known holds =
    quiet_held xs row (after n (calls.MigrateDisk v from to) answer (begun_row n (calls.MigrateDisk v from to) row))
    n dep (calls.MigrateDisk v from to) b
    (record {
      machines = record { creates = refl; stays = λ u k. refl };
      disks = record { creates = refl; stays = λ d k. refl };
      places = λ d. refl;
    })
    found known holds (migrate_places n v from to answer row)
