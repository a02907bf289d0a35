-- How instances are updated (bosh.io, "Deployment manifest": `update`, of the deployment and of a group).
use Rattle.std.specs.Prelude.{Bool, true, Option, Some, None, Result, Ok, Err, codes, unwrap_or, if◌then◌else◌}
use Rattle.std.specs.Str.{bytes_eq}
use Rattle.bosh_base.specs.declared.count.Count.{Count}
use Rattle.bosh_yaml.specs.Tree.{Tree}
use Rattle.bosh_fields.specs.Answer.{◌>>=◌, both}
use Rattle.bosh_fields.specs.Field.{optional, required, value_at}
use Rattle.bosh_fields.specs.Kind.{Kind, a_flag, a_mapping, a_text}
use Rattle.bosh_fields.specs.declared.fault.FieldFault.{FieldFault}
use Rattle.bosh_fields.specs.declared.fault.FieldFault.TheVariants.{Unsupported}
use Rattle.bosh_manifest_update.specs.Amount.{an_amount}
use Rattle.bosh_manifest_update.specs.WatchTime.{a_watch_time}
use Rattle.bosh_manifest_update.specs.declared.update.Strategy.{Strategy}
use Rattle.bosh_manifest_update.specs.declared.update.Strategy.TheVariants.{DeleteCreate}
use Rattle.bosh_manifest_update.specs.declared.update.Update.{Update}
use Rattle.bosh_manifest_update.specs.declared.watch_time.WatchTime.{WatchTime}

-- the one way to replace a machine
abbrev pub a_strategy : Kind Strategy
a_strategy key t = do
  s ← a_text key t
  if bytes_eq s (codes "delete-create") then Ok DeleteCreate else Err (Unsupported key)

-- whether groups are updated one after another, before the strategy, which is read and not kept
abbrev pub serial : Tree → Result (Option Bool) FieldFault
serial t = do
  flag ← optional a_flag (codes "serial") t
  strategy ← optional a_strategy (codes "vm_strategy") t
  Ok flag

-- the canaries, and how many instances are updated at once, which is one at least
abbrev pub required_amounts : Tree → Result (Count × Count) FieldFault
required_amounts t =
    both (required (an_amount 0) (codes "canaries") t) (required (an_amount 1) (codes "max_in_flight") t)

abbrev pub optional_amounts : Tree → Result (Option Count × Option Count) FieldFault
optional_amounts t =
    both (optional (an_amount 0) (codes "canaries") t) (optional (an_amount 1) (codes "max_in_flight") t)

-- the times, which are read and not kept
abbrev pub required_times : Tree → Result (WatchTime × WatchTime) FieldFault
required_times t =
    both (required a_watch_time (codes "canary_watch_time") t)
    (required a_watch_time (codes "update_watch_time") t)

abbrev pub optional_times : Tree → Result (Option WatchTime × Option WatchTime) FieldFault
optional_times t =
    both (optional a_watch_time (codes "canary_watch_time") t)
    (optional a_watch_time (codes "update_watch_time") t)

-- of a deployment
abbrev pub an_update : Kind Update
an_update key t = do
  given ← a_mapping key t
  amounts ← required_amounts given
  times ← required_times given
  flag ← serial given
  Ok (record { canaries = amounts.0; limit = amounts.1; serial = unwrap_or flag true })

-- of a group: each key that stands there is in place of that of the deployment
abbrev pub an_own_update : Update → Kind Update
an_own_update common key t = do
  given ← a_mapping key t
  amounts ← optional_amounts given
  times ← optional_times given
  flag ← serial given
  Ok (record {
    canaries = unwrap_or amounts.0 common.canaries;
    limit = unwrap_or amounts.1 common.limit;
    serial = unwrap_or flag common.serial;
  })

abbrev pub update_from : Update → Option Tree → Result Update FieldFault
update_from common None = Ok common
update_from common (Some t) = an_own_update common (codes "update") t

abbrev pub group_update : Update → Tree → Result Update FieldFault
group_update common t = update_from common (value_at (codes "update") t)
