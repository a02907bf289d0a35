-- The persistent disk that the instances of a group are to have (bosh.io, "Deployment manifest": `persistent_disk`,
-- `persistent_disk_type`).
use Rattle.bosh_base.specs.declared.disk_want.DiskWant.{DiskWant}
use Rattle.bosh_manifest_names.specs.Uses.{no_properties}
use Rattle.bosh_manifest_names.specs.declared.used.UsedDisk.{UsedDisk}
use Rattle.bosh_manifest_names.specs.declared.used.UsedDisk.TheVariants.{Size, Typed}

abbrev pub want_of : UsedDisk → DiskWant
want_of (Size size) = record { size = size; properties = no_properties }
want_of (Typed want) = want.now
