use Rattle.std.proofs.Common.{List, subst}
use Rattle.std.specs.Prelude.{IfErr, IfOk}
use Rattle.bosh_asks.specs.Faults.{name_and_version}
use Rattle.bosh_base.specs.declared.release.Release.{Release}
use Rattle.bosh_book.proofs.FaultLemmas.{differs_as_upload}
use Rattle.bosh_book.specs.Faults.{IsUploadFault}
use Rattle.bosh_book.specs.Uploads.{IsOther, IsUpload}
use Rattle.bosh_book.proofs.book.Book.compared.Goals as goal

pub returns-clause-told : goal.returns-clause-told
returns-clause-told g c =
    subst (λ (releases : List Release). IfOk c.compared.result (IsUpload releases c.args.release.now))
    c.releases.ensures c.compared.ensures.told

pub returns-clause-fault : goal.returns-clause-fault
returns-clause-fault g c =
    subst (λ (releases : List Release). IfErr c.compared.result (IsUploadFault c.args.self.now
    (name_and_version c.args.release.now.name c.args.release.now.version) (IsOther releases c.args.release.now)))
    c.releases.ensures
    (differs_as_upload c.args.self.now (name_and_version c.args.release.now.name c.args.release.now.version)
    (IsOther c.releases.result.now c.args.release.now) c.compared.result c.in_ok-check_running.ensures.runs
    c.compared.ensures.fault)
