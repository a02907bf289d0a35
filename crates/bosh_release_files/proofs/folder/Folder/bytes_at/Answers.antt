use Rattle.std.proofs.Common.{◌∙◌, ap}
use Rattle.std.specs.Option.{option_map}
use Rattle.bosh_release_files.specs.Files.{bytes_at}
use Rattle.bosh_release_files.proofs.FolderLemmas.{seen-lookup}
use Rattle.bosh_release_files.proofs.folder.Folder.bytes_at.Goals as goal

pub returns : goal.returns
returns c =
    ap (option_map (λ bytes. bytes.now)) (c.copied.ensures ∙ c.get.ensures.value)
    ∙ seen-lookup c.self.inside.files.entries c.args.path.now
    ∙ ap (λ folder. bytes_at folder c.args.path.now) c.self.view_is
