use Rattle.std.proofs.Common.{[], ◌∷◌, ◌++◌, refl}
use Rattle.bosh_base.specs.declared.entry.Entry.TheVariants as entries
use Rattle.bosh_base.specs.declared.moves.Move.TheVariants.{Note}
use Rattle.bosh_base.specs.declared.reply.Reply.TheVariants as replies
use Rattle.bosh_due.specs.Generating.{said_reply}
use Rattle.bosh_due.specs.Outcomes.Outcome.{Notes}
use Rattle.bosh_due.specs.Uploads.RecordsRelease.{new}
use Rattle.bosh_due.specs.Uploads.UploadsFiles.{whole}
use Rattle.examples_replies.proofs.Made.{is_config, nothing_made}
use Rattle.examples_replies.specs.Generated.{all_made, config, release_told, stemcell, stemcell_told, to_configure}
use Rattle.examples_replies.proofs.generated.deployments_are_made.Goals as goal

pub returns-clause-made : goal.returns-clause-made
returns-clause-made c r run reply now it = record {
  more = all_made r run reply;
  carried_out = record {
    outcome = Notes stemcell stemcell_told;
    more = Note stemcell ∷ [];
    reply = stemcell_told;
    rest = _;
    comes = refl;
    ends = (refl, refl);
    others = record {
      outcome = Notes (entries.Release r) (release_told r);
      more = Note (entries.Release r) ∷ [];
      reply = release_told r;
      rest = _;
      comes = whole r it.spelled.collects (new refl refl it.spelled.version it.spelled.fits refl);
      ends = (refl, refl);
      others = record {
        outcome = Notes config replies.ConfigUpdated;
        more = Note config ∷ [];
        reply = replies.ConfigUpdated;
        rest = run ++ said_reply 5 reply ∷ [];
        comes = is_config (to_configure r) it.tree it.config it.reads it.checks refl;
        ends = (refl, refl);
        others = record {
          outcome = it.outcome;
          more = run;
          reply = reply;
          rest = [];
          comes = it.comes;
          ends = it.ends;
          others = (refl, it.leaves);
          is = refl;
        };
        is = refl;
      };
      is = refl;
    };
    is = refl;
  };
  is = refl;
}

pub returns-clause-nothing_made : goal.returns-clause-nothing_made
returns-clause-nothing_made c now it = nothing_made it.more it.is now it.carried_out
