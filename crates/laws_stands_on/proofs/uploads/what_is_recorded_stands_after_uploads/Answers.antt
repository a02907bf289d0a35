use Rattle.laws_stands_on.proofs.UploadLemmas.{after_config, after_release, after_stemcell}
use Rattle.laws_stands_on.proofs.uploads.what_is_recorded_stands_after_uploads.Goals as goal

pub returns : goal.returns
returns c = record {
  release = λ told it release stands. after_release release told it stands;
  stemcell = λ told it stemcell stands. after_stemcell stemcell told it stands;
  config = λ told it file stands. after_config file told it stands;
}
