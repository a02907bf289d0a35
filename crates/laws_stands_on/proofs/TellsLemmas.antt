-- What is told well goes on to be, where nothing that this speaks of is told otherwise.
use Rattle.std.proofs.Common.{◌≡◌, ℕ, subst}
use Rattle.laws_stands.specs.Told.{TellsWell, Told}

-- the same calls, tasks and instances are told
pub tells_as_well : (told new : Told) → told.calls ≡ new.calls → told.known.last_call ≡ new.known.last_call
    → told.known.begun ≡ new.known.begun → told.known.tasks ≡ new.known.tasks → told.known.task ≡ new.known.task
    → told.known.instances ≡ new.known.instances → TellsWell told → TellsWell new
tells_as_well told new calls last begun tasks task instances tells = subst TellsWell (λ j. record new {
  known = record new.known {
    last_call = last j;
    begun = begun j;
    tasks = tasks j;
    task = task j;
    instances = instances j;
  };
  calls = calls j;
}) (record {
  number = tells.number;
  low = tells.low;
  past = tells.past;
  begun = tells.begun;
  begun_past = tells.begun_past;
  failed = tells.failed;
  going = tells.going;
  one_owner = tells.one_owner;
  one_key = tells.one_key;
  recorded = tells.recorded;
  counted = tells.counted;
  disks_apart = tells.disks_apart;
  updates = tells.updates;
})
