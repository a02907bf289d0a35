-- A deployment is made from a number, by any run of its deploy.
use Rattle.std.specs.Prelude.{◌≡◌, List, [], ◌∷◌, ◌++◌, Ok}
use Rattle.bosh_base.specs.declared.entry.Entry.{Entry}
use Rattle.bosh_base.specs.declared.entry.Entry.TheVariants as entries
use Rattle.bosh_base.specs.declared.moves.Move.{Move}
use Rattle.bosh_base.specs.declared.moves.Move.TheVariants.{Note}
use Rattle.bosh_base.specs.declared.release.Release.{Release}
use Rattle.bosh_base.specs.declared.reply.Reply.{Reply}
use Rattle.bosh_base.specs.declared.reply.Reply.TheVariants as replies
use Rattle.bosh_cloudcfg.specs.Check.{config_of_tree}
use Rattle.bosh_cloudcfg.specs.declared.config.Config.{Config}
use Rattle.bosh_due.specs.Before.{Before}
use Rattle.bosh_due.specs.Ends.{EndsIn, after_command}
use Rattle.bosh_due.specs.Generating.{ComesOf, IsGenerated, generated_reply, generated_stemcell, said_reply}
use Rattle.bosh_due.specs.Generating.GeneratedCommand.{deploy_all}
use Rattle.bosh_due.specs.Outcomes.{Outcome}
use Rattle.bosh_due.specs.Outcomes.Outcome.{Notes}
use Rattle.bosh_due.specs.UnderWay.{UnderWay}
use Rattle.bosh_due.specs.Uploads.{added}
use Rattle.bosh_generator.specs.Manifest.{cloud_config_text}
use Rattle.bosh_generator.specs.Release.{release_files}
use Rattle.bosh_yaml.specs.Reading.{reading}
use Rattle.bosh_yaml.specs.Tree.{Tree}
use Rattle.examples_replies.specs.Kept.{going_on}
use Rattle.examples_replies.specs.Uploaded.{SpellNew}

-- an entry is noted, and that is told under the number 5
abbrev pub notes : Entry → Reply → List Move
notes entry good = Note entry ∷ said_reply 5 good ∷ []

-- what is known and done once it is
abbrev pub once_noted : Entry → Reply → Before → Before
once_noted entry good b = after_command (Notes entry good) b (Note entry ∷ [])

-- the stemcell, the release and the config, each with what is told of it
abbrev pub stemcell : Entry
stemcell = entries.Stemcell generated_stemcell

abbrev pub stemcell_told : Reply
stemcell_told = replies.StemcellAdded generated_stemcell

abbrev pub release_told : Release → Reply
release_told r = replies.ReleaseAdded (added r)

abbrev pub config : Entry
config = entries.Config cloud_config_text

-- once the first two are noted, and all three
abbrev pub to_configure : Release → Before
to_configure r = once_noted (entries.Release r) (release_told r) (once_noted stemcell stemcell_told going_on)

abbrev pub to_deploy : Release → Before
to_deploy r = once_noted config replies.ConfigUpdated (to_configure r)

-- what the files of the generator spell, and what its deploy of three instances makes and is told
pub record IsMade (r : Release) (run : List Move) (reply : Reply) (now : UnderWay) : Type 0 where
  pub spelled : SpellNew release_files r
  pub tree : Tree
  pub config : Config
  pub reads : reading cloud_config_text ≡ Ok tree
  pub checks : config_of_tree tree ≡ Ok config
  pub outcome : Outcome
  pub comes : ComesOf (deploy_all 3) (to_deploy r) outcome
  pub ends : EndsIn outcome (to_deploy r) run reply
  pub leaves : now ≡ (after_command outcome (to_deploy r) run).under_way

-- all but the last line
abbrev pub all_made : Release → List Move → Reply → List Move
all_made r run reply =
    notes stemcell stemcell_told
    ++ (notes (entries.Release r) (release_told r)
    ++ (notes config replies.ConfigUpdated ++ (run ++ said_reply 5 reply ∷ [])))

-- three instances are made by these moves, and the last line counts so many
abbrev pub IsGeneratedBy : List Move → List Move → UnderWay → Type 0
IsGeneratedBy more counted now = IsGenerated going_on 5 3 (more ++ said_reply 5 (generated_reply 3 counted) ∷ []) now
