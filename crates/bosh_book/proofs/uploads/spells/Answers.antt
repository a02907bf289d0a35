use Rattle.bosh_asks.specs.Goals.{config_in}
use Rattle.bosh_book.proofs.ConfigLemmas.{memory_told, spelled_told}
use Rattle.bosh_book.proofs.uploads.spells.Goals as goal

pub returns-clause-spells : goal.returns-clause-spells
returns-clause-spells c =
    spelled_told c.config_in.result (config_in c.args.file.now) c.is_there.result c.is_there.ensures.there
    c.config_in.ensures.config

pub returns-clause-memory : goal.returns-clause-memory
returns-clause-memory c =
    memory_told c.config_in.result c.is_there.result c.is_there.ensures.fault c.config_in.ensures.err
