-- What commands are about (bosh.io, "CLI v2"; commands that begin with `!`, and the simulated cloud, by this project's
-- profile).
use Rattle.bosh_answers.specs.declared.kind.Kind.{Kind}
use Rattle.bosh_answers.specs.declared.kind.Kind.TheVariants as kinds
use Rattle.bosh_answers.specs.declared.kind.Listing.TheVariants as listings
use Rattle.bosh_answers.specs.declared.kind.SiteCommand.TheVariants as site
use Rattle.bosh_answers.specs.declared.kind.Upload.TheVariants as uploads
use Rattle.bosh_asks.specs.declared.ask.Ask.TheVariants as asks
use Rattle.bosh_lines.specs.declared.command.Command.{Command}
use Rattle.bosh_lines.specs.declared.command.Command.TheVariants as commands

-- what a command is about
abbrev pub kind_of : Command → Kind
kind_of (commands.File path) = kinds.Keep path
kind_of (commands.UploadRelease folder version) = kinds.Upload (uploads.Release folder version)
kind_of (commands.UploadStemcell stemcell) = kinds.Upload (uploads.Stemcell stemcell)
kind_of (commands.UpdateCloudConfig path) = kinds.Upload (uploads.CloudConfig path)
-- tasks
kind_of (commands.Deploy deploy) = kinds.Deploy deploy
kind_of (commands.Recreate inst) = kinds.Open (asks.Recreate inst)
kind_of (commands.Start inst) = kinds.Open (asks.Start inst)
kind_of (commands.Stop inst hard) = kinds.Open (asks.Halt inst hard)
kind_of (commands.DeleteDeployment dep) = kinds.Open (asks.DeleteDeployment dep)
kind_of (commands.Resolve inst) = kinds.Open (asks.Resolve inst)
kind_of (commands.DeleteDisk disk) = kinds.Open (asks.DeleteDisk disk)
kind_of commands.CleanUp = kinds.Open asks.CleanUp
-- lists of what is recorded
kind_of (commands.Instances dep) = kinds.List (listings.Instances dep)
kind_of commands.OrphanedDisks = kinds.List listings.OrphanedDisks
kind_of commands.Tasks = kinds.List listings.Tasks
kind_of (commands.Task task) = kinds.List (listings.Task task)
kind_of commands.Releases = kinds.List listings.Releases
kind_of commands.Compiled = kinds.List listings.Compiled
-- the simulated cloud, and what fails, stops and starts on purpose
kind_of (commands.CloudCheck dep) = kinds.OfSite (site.CloudCheck dep)
kind_of commands.Cloud = kinds.OfSite site.Cloud
kind_of (commands.Write inst text) = kinds.OfSite (site.Write inst text)
kind_of (commands.Read inst) = kinds.OfSite (site.Read inst)
kind_of (commands.Show inst path) = kinds.OfSite (site.Show inst path)
kind_of (commands.Lose inst lost) = kinds.OfSite (site.Lose inst lost)
kind_of (commands.FailCall doom) = kinds.OfSite (site.FailCall doom)
kind_of (commands.FailStore fate appends) = kinds.OfSite (site.FailStore fate appends)
kind_of (commands.StopCall stop) = kinds.OfSite (site.StopCall stop)
kind_of (commands.StopStore when appends) = kinds.OfSite (site.StopStore when appends)
kind_of commands.Restart = kinds.OfSite site.Restart
-- several commands
kind_of (commands.Together count) = kinds.OfSession
kind_of (commands.Generate instances) = kinds.OfSession
