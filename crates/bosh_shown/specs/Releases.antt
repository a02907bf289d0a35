-- How releases are listed (bosh.io, "CLI v2", releases and inspect-release).
use Rattle.std.specs.Prelude.{map}
use Rattle.bosh_base.specs.declared.release.JobSpec.{JobSpec}
use Rattle.bosh_base.specs.declared.release.PackageSpec.{PackageSpec}
use Rattle.bosh_base.specs.declared.release.Release.{Release}
use Rattle.bosh_base.specs.declared.reply.ReleaseLine.{ReleaseLine}
use Rattle.bosh_base.specs.declared.spec.Mark.{Mark}

abbrev pub job_mark : JobSpec → Mark
job_mark job = record { name = job.name; fingerprint = job.fingerprint }

abbrev pub package_mark : PackageSpec → Mark
package_mark pack = record { name = pack.name; fingerprint = pack.fingerprint }

abbrev pub release_line : Release → ReleaseLine
release_line release = record {
  name = release.name;
  version = release.version;
  jobs = map job_mark release.jobs;
  packages = map package_mark release.packages;
}
