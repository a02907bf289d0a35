use Rattle.std.proofs.Common.{rules}
use Rattle.bosh_options.specs.Words.{program}
use Rattle.bosh_options.proofs.words.command.Goals as goal

-- the command has the one option
pub returns : goal.returns
unfolding program
returns c = search rules
