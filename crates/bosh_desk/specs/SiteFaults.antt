-- How the faults of the site are told (this project's profile).
use Rattle.std.specs.Prelude.{Option, None, Some, codes, decimal}
use Rattle.bosh_base.specs.declared.reply.Refusal.{Refusal}
use Rattle.bosh_refusals.specs.Refused.{bare_refusal, refusal_with}
use Rattle.bosh_refusals.specs.Told.{book_told}
use Rattle.bosh_report.specs.Owner.{inst_text}
use Rattle.bosh_world.specs.declared.fault.SiteFault.{SiteFault}
use Rattle.bosh_world.specs.declared.fault.SiteFault.TheVariants as site

abbrev pub site_told : SiteFault → Option Refusal
site_told (site.Book fault) = book_told fault
site_told site.CloudStore = Some (bare_refusal (codes "world") (codes "CloudStore"))
site_told (site.CloudDamaged position) = Some (refusal_with (codes "world") (codes "CloudDamaged") (decimal position))
site_told (site.NotRunning inst) = Some (refusal_with (codes "world") (codes "NotRunning") (inst_text inst))
site_told (site.NoMachine inst) = Some (refusal_with (codes "world") (codes "NoMachine") (inst_text inst))
site_told site.Memory = None
