-- How the faults of the director are told (this project's profile).
use Rattle.std.specs.Prelude.{Option, None, Some, List, ℕ, codes, decimal}
use Rattle.bosh_base.specs.declared.reply.Refusal.{Refusal}
use Rattle.bosh_report.specs.Joint.{joint_text}
use Rattle.bosh_report.specs.Owner.{addr_text, disk_name, inst_text, owner_text}
use Rattle.bosh_refusals.specs.Refused.{bare_refusal, refusal_with, refusal_with_both}
use Rattle.bosh_manifest_names.specs.declared.fault.Kind.{Kind}
use Rattle.bosh_manifest_names.specs.declared.fault.Kind.TheVariants as kinds
use Rattle.bosh_line_words.specs.declared.fault.LineFault.{LineFault}
use Rattle.bosh_line_words.specs.declared.fault.LineFault.TheVariants as lines
use Rattle.bosh_ports.specs.declared.shelf.ShelfFault.{ShelfFault}
use Rattle.bosh_ports.specs.declared.shelf.ShelfFault.TheVariants as shelf
use Rattle.bosh_yaml.specs.declared.fault.ReadFault.{ReadFault}
use Rattle.bosh_yaml.specs.declared.fault.ReadFault.TheVariants as yaml
use Rattle.bosh_vars.specs.declared.fault.VarsFault.{VarsFault}
use Rattle.bosh_vars.specs.declared.fault.VarsFault.TheVariants as vars
use Rattle.bosh_cloudcfg.specs.declared.fault.ConfigFault.{ConfigFault}
use Rattle.bosh_cloudcfg.specs.declared.fault.ConfigFault.TheVariants as config
use Rattle.bosh_manifest.specs.declared.fault.ManifestFault.{ManifestFault}
use Rattle.bosh_manifest.specs.declared.fault.ManifestFault.TheVariants as manifest
use Rattle.bosh_release_files.specs.declared.fault.ReleaseFault.{ReleaseFault}
use Rattle.bosh_release_files.specs.declared.fault.ReleaseFault.TheVariants as release
use Rattle.bosh_links.specs.declared.fault.LinkFault.{LinkFault}
use Rattle.bosh_links.specs.declared.fault.LinkFault.TheVariants as links
use Rattle.bosh_share.specs.declared.fault.ShareFault.{ShareFault}
use Rattle.bosh_share.specs.declared.fault.ShareFault.TheVariants as share
use Rattle.bosh_pool.specs.declared.fault.PoolFault.{PoolFault}
use Rattle.bosh_pool.specs.declared.fault.PoolFault.TheVariants as pool
use Rattle.bosh_template.specs.declared.fault.TemplateFault.{TemplateFault}
use Rattle.bosh_template.specs.declared.fault.TemplateFault.TheVariants as template
use Rattle.bosh_manifest_names.specs.declared.fault.GoalFault.{GoalFault}
use Rattle.bosh_manifest_names.specs.declared.fault.GoalFault.TheVariants as goal
use Rattle.bosh_asks.specs.declared.fault.BookFault.{BookFault}
use Rattle.bosh_asks.specs.declared.fault.BookFault.TheVariants as book
use Rattle.bosh_refusals.specs.declared.session.SessionFault.{SessionFault}
use Rattle.bosh_refusals.specs.declared.session.SessionFault.TheVariants as session

abbrev pub lines_told : LineFault → Option Refusal
lines_told lines.UnknownCommand = Some (bare_refusal (codes "lines") (codes "UnknownCommand"))
lines_told (lines.BadArgument place) = Some (refusal_with (codes "lines") (codes "BadArgument") (decimal place))
lines_told lines.Missing = Some (bare_refusal (codes "lines") (codes "Missing"))
lines_told lines.Extra = Some (bare_refusal (codes "lines") (codes "Extra"))
lines_told lines.TooLarge = Some (bare_refusal (codes "lines") (codes "TooLarge"))
lines_told lines.BadTogether = Some (bare_refusal (codes "lines") (codes "BadTogether"))
lines_told lines.Memory = None

abbrev pub shelf_told : ShelfFault → Option Refusal
shelf_told shelf.Absent = Some (bare_refusal (codes "shelf") (codes "Absent"))
shelf_told shelf.TooLarge = Some (bare_refusal (codes "shelf") (codes "TooLarge"))
shelf_told shelf.Failed = Some (bare_refusal (codes "shelf") (codes "Failed"))
shelf_told shelf.Memory = None

abbrev pub yaml_told : ReadFault → Option Refusal
yaml_told (yaml.Syntax line) = Some (refusal_with (codes "yaml") (codes "Syntax") (decimal line))
yaml_told (yaml.RepeatedKey line) = Some (refusal_with (codes "yaml") (codes "RepeatedKey") (decimal line))
yaml_told yaml.TooDeep = Some (bare_refusal (codes "yaml") (codes "TooDeep"))
yaml_told yaml.TooLarge = Some (bare_refusal (codes "yaml") (codes "TooLarge"))
yaml_told yaml.Number = Some (bare_refusal (codes "yaml") (codes "Number"))
yaml_told yaml.Memory = None

abbrev pub vars_told : VarsFault → Option Refusal
vars_told (vars.Unset name) = Some (refusal_with (codes "vars") (codes "Unset") name)
vars_told (vars.NotText name) = Some (refusal_with (codes "vars") (codes "NotText") name)
vars_told vars.Memory = None

abbrev pub config_told : ConfigFault → Option Refusal
config_told (config.Missing key) = Some (refusal_with (codes "config") (codes "Missing") key)
config_told (config.WrongKind key) = Some (refusal_with (codes "config") (codes "WrongKind") key)
config_told (config.Repeated name) = Some (refusal_with (codes "config") (codes "Repeated") name)
config_told (config.Unknown name) = Some (refusal_with (codes "config") (codes "Unknown") name)
config_told (config.Address key) = Some (refusal_with (codes "config") (codes "Address") key)
config_told (config.OutsideRange addr) = Some (refusal_with (codes "config") (codes "OutsideRange") (addr_text addr))
config_told (config.StaticReserved addr) = Some (refusal_with (codes "config") (codes "StaticReserved") (addr_text addr))
config_told config.Overlap = Some (bare_refusal (codes "config") (codes "Overlap"))
config_told (config.Unsupported key) = Some (refusal_with (codes "config") (codes "Unsupported") key)
config_told (config.Limit key) = Some (refusal_with (codes "config") (codes "Limit") key)
config_told config.Memory = None

abbrev pub manifest_told : ManifestFault → Option Refusal
manifest_told (manifest.Missing key) = Some (refusal_with (codes "manifest") (codes "Missing") key)
manifest_told (manifest.WrongKind key) = Some (refusal_with (codes "manifest") (codes "WrongKind") key)
manifest_told (manifest.Repeated name) = Some (refusal_with (codes "manifest") (codes "Repeated") name)
manifest_told (manifest.Unsupported key) = Some (refusal_with (codes "manifest") (codes "Unsupported") key)
manifest_told (manifest.BadUpdate key) = Some (refusal_with (codes "manifest") (codes "BadUpdate") key)
manifest_told (manifest.Limit key) = Some (refusal_with (codes "manifest") (codes "Limit") key)
manifest_told (manifest.NameDiffers name) = Some (refusal_with (codes "manifest") (codes "NameDiffers") name)
manifest_told manifest.Memory = None

abbrev pub release_told : ReleaseFault → Option Refusal
release_told (release.Missing path) = Some (refusal_with (codes "release") (codes "Missing") path)
release_told (release.Spec path line) = Some (refusal_with_both (codes "release") (codes "Spec") path (decimal line))
release_told (release.NameDiffers path) = Some (refusal_with (codes "release") (codes "NameDiffers") path)
release_told (release.UnknownPackage name) = Some (refusal_with (codes "release") (codes "UnknownPackage") name)
release_told (release.Cycle name) = Some (refusal_with (codes "release") (codes "Cycle") name)
release_told (release.Pattern text) = Some (refusal_with (codes "release") (codes "Pattern") text)
release_told (release.NoMatch text) = Some (refusal_with (codes "release") (codes "NoMatch") text)
release_told (release.Limit key) = Some (refusal_with (codes "release") (codes "Limit") key)
release_told release.Memory = None

abbrev pub links_told : LinkFault → Option Refusal
links_told (links.NoProvider consumer) = Some (refusal_with (codes "links") (codes "NoProvider") (joint_text consumer))
links_told (links.Ambiguous first second) = Some (refusal_with_both (codes "links") (codes "Ambiguous") (joint_text first) (joint_text second))
links_told (links.UnknownFrom name) = Some (refusal_with (codes "links") (codes "UnknownFrom") name)
links_told (links.TypeDiffers name) = Some (refusal_with (codes "links") (codes "TypeDiffers") name)
links_told links.Memory = None

abbrev pub share_told : ShareFault → Option Refusal
share_told (share.NoDeployment name) = Some (refusal_with (codes "share") (codes "NoDeployment") name)
share_told (share.NotShared name) = Some (refusal_with (codes "share") (codes "NotShared") name)
share_told (share.NoProvider consumer) = Some (refusal_with (codes "share") (codes "NoProvider") (joint_text consumer))
share_told (share.Ambiguous first second) = Some (refusal_with_both (codes "share") (codes "Ambiguous") (joint_text first) (joint_text second))
share_told (share.TypeDiffers name) = Some (refusal_with (codes "share") (codes "TypeDiffers") name)
share_told share.Memory = None

abbrev pub pool_told : PoolFault → Option Refusal
pool_told (pool.StaticCount group) = Some (refusal_with (codes "pool") (codes "StaticCount") group)
pool_told (pool.NotStatic addr) = Some (refusal_with (codes "pool") (codes "NotStatic") (addr_text addr))
pool_told (pool.StaticNotInAz addr) = Some (refusal_with (codes "pool") (codes "StaticNotInAz") (addr_text addr))
pool_told (pool.Taken addr owner) = Some (refusal_with_both (codes "pool") (codes "Taken") (addr_text addr) (owner_text owner))
pool_told (pool.Empty net) = Some (refusal_with (codes "pool") (codes "Empty") net)
pool_told pool.Memory = None

abbrev pub template_told : TemplateFault → Option Refusal
template_told (template.Syntax place) = Some (refusal_with (codes "template") (codes "Syntax") (decimal place))
template_told (template.Undeclared name) = Some (refusal_with (codes "template") (codes "Undeclared") name)
template_told (template.Missing name) = Some (refusal_with (codes "template") (codes "Missing") name)
template_told (template.NotScalar name) = Some (refusal_with (codes "template") (codes "NotScalar") name)
template_told (template.NoLink name) = Some (refusal_with (codes "template") (codes "NoLink") name)
template_told (template.NoInstance name index) = Some (refusal_with_both (codes "template") (codes "NoInstance") name (decimal index))
template_told template.Limit = Some (bare_refusal (codes "template") (codes "Limit"))
template_told template.Memory = None

-- what a name is to be the name of
abbrev pub kind_word : Kind → List ℕ
kind_word kinds.Release = codes "release"
kind_word kinds.Stemcell = codes "stemcell"
kind_word kinds.Az = codes "az"
kind_word kinds.VmType = codes "vm_type"
kind_word kinds.Network = codes "network"
kind_word kinds.DiskType = codes "disk_type"
kind_word kinds.Job = codes "job"

abbrev pub goal_told : GoalFault → Option Refusal
goal_told goal.NoConfig = Some (bare_refusal (codes "goal") (codes "NoConfig"))
goal_told (goal.Unknown kind name) = Some (refusal_with_both (codes "goal") (codes "Unknown") (kind_word kind) name)
goal_told (goal.Link fault) = links_told fault
goal_told (goal.Share fault) = share_told fault
goal_told (goal.Pool fault) = pool_told fault
goal_told (goal.DiskInAz inst) = Some (refusal_with (codes "goal") (codes "DiskInAz") (inst_text inst))
goal_told (goal.Template fault) = template_told fault
goal_told goal.Limit = Some (bare_refusal (codes "goal") (codes "Limit"))
goal_told goal.Memory = None

abbrev pub book_told : BookFault → Option Refusal
book_told book.Stopped = Some (bare_refusal (codes "book") (codes "Stopped"))
book_told book.StoreFault = Some (bare_refusal (codes "book") (codes "StoreFault"))
book_told (book.Damaged position) = Some (refusal_with (codes "book") (codes "Damaged") (decimal position))
book_told (book.Locked task) = Some (refusal_with (codes "book") (codes "Locked") (decimal task))
book_told (book.Differs name) = Some (refusal_with (codes "book") (codes "Differs") name)
book_told (book.NoDeployment name) = Some (refusal_with (codes "book") (codes "NoDeployment") name)
book_told (book.NoInstance inst) = Some (refusal_with (codes "book") (codes "NoInstance") (inst_text inst))
book_told (book.NoDisk disk) = Some (refusal_with (codes "book") (codes "NoDisk") (disk_name disk))
book_told (book.NotOrphaned disk) = Some (refusal_with (codes "book") (codes "NotOrphaned") (disk_name disk))
book_told (book.Goal fault) = goal_told fault
book_told book.Limit = Some (bare_refusal (codes "book") (codes "Limit"))
book_told book.Full = Some (bare_refusal (codes "book") (codes "Full"))
book_told (book.Consumed by) = Some (refusal_with (codes "book") (codes "Consumed") (joint_text by))
book_told book.Memory = None

abbrev pub session_told : SessionFault → Option Refusal
session_told (session.NoFile path) = Some (refusal_with (codes "session") (codes "NoFile") path)
session_told (session.NoTask task) = Some (refusal_with (codes "session") (codes "NoTask") (decimal task))
