-- What is settled outside of histories, as the program has it: a compilation gives the digest that the agent gives, and
-- whether a file is a cloud config and whether a release goes with those that are recorded is found out by tests.
use Rattle.bosh_agent.specs.Compiled.{compiled_digest}
use Rattle.bosh_history.specs.Notes.{Outside}
use Rattle.laws_outside.specs.Configs.{is_config}
use Rattle.laws_outside.specs.Releases.{goes_with}

-- the outside of the program
abbrev pub shipped : Outside
shipped = record { built = compiled_digest; is_config = is_config; goes_with = goes_with }
