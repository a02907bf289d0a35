-- What is read is what the text spells.
use Rattle.std.proofs.Common.{Some, ap, sym, ◌∙◌}
use Rattle.bosh_ip.proofs.NetworkLemmas.{RefusesCidr-none}
use Rattle.bosh_cloudcfg.proofs.BlockLemmas.{block_in-spelled, block_in-none}
use Rattle.bosh_cloudcfg.proofs.block.block_in.Goals as goal

pub returns-in-Ok : goal.returns-in-Ok
returns-in-Ok c =
    ap (λ last. Some (record { addresses = record { first = record { 0 = c.in-Ok.net.first }; last = record { 0 = last } } })) c.last_of.ensures
    ∙ sym (block_in-spelled _ c.in-Ok.net c.in-Ok.ensures.read.0 c.in-Ok.ensures.read.1)

pub returns-in-Err : goal.returns-in-Err
returns-in-Err c = sym (block_in-none _ (RefusesCidr-none _ _ c.in-Err.ensures.refused))
