-- The text of a template for an instance (bosh.io/docs/job-templates).
use Rattle.std.specs.Prelude.{ℕ, List, [], ◌∷◌, ◌++◌, ◌==◌, length, decimal, find, nat_le, Option, None, Some, Result, Ok, Err, if◌then◌else◌, slice_get}
use Rattle.std.specs.List.{flat_map, list_any}
use Rattle.std.specs.Str.{bytes_eq}
use Rattle.bosh_base.specs.declared.addr.Addr.{Addr}
use Rattle.bosh_base.specs.declared.release.Prop.{Prop}
use Rattle.bosh_base.specs.declared.release.PropSpec.{PropSpec}
use Rattle.bosh_base.specs.declared.release.Setting.{Setting}
use Rattle.bosh_ip.specs.Address.{spelling_of_addr}
use Rattle.bosh_template.specs.Environment.{Env, JobEnv, LinkEnv}
use Rattle.bosh_template.specs.declared.fault.TemplateFault.{TemplateFault}
use Rattle.bosh_template.specs.declared.fault.TemplateFault.TheVariants.{Undeclared, NoLink, NoInstance, Limit}
use Rattle.bosh_template.specs.declared.template.Part.{Part}
use Rattle.bosh_template.specs.declared.template.Part.TheVariants.{Literal, Own, Linked, OneAddr, AllAddrs, Word}
use Rattle.bosh_template.specs.declared.template.SpecWord.{SpecWord}
use Rattle.bosh_template.specs.declared.template.SpecWord.TheVariants.{Name, Index, Az, Address, Deployment, Bootstrap}
use Rattle.bosh_template.specs.declared.template.Template.{Template}
use Rattle.bosh_template.specs.Answer.{joined_texts}
use Rattle.bosh_template.specs.Setting.{given_setting, literal, or_else, setting_text, truth}

-- the address in dotted decimal
abbrev pub addr_text : Addr → List ℕ
addr_text addr = spelling_of_addr addr.0

-- a property of the job: the manifest's value, else the default, else the literal
abbrev pub own_from : JobEnv → List ℕ → Option (List ℕ) → Option PropSpec → Result (List ℕ) TemplateFault
own_from job name fallback None = Err (Undeclared name)
own_from job name fallback (Some spec) =
    setting_text name (or_else (given_setting name job.given) (or_else spec.fallback (literal fallback)))

abbrev pub own_text : JobEnv → List ℕ → Option (List ℕ) → Result (List ℕ) TemplateFault
own_text job name fallback = own_from job name fallback (find (λ spec. bytes_eq spec.name name) job.declared)

-- the value of a property of a provider, where it has one
abbrev pub value_of : Option Prop → Option Setting
value_of None = None
value_of (Some prop) = Some prop.value

-- a property that the provider lists: its value, else the literal
abbrev pub linked_text : LinkEnv → List ℕ → Option (List ℕ) → Result (List ℕ) TemplateFault
linked_text link name fallback =
    if list_any (λ listed. bytes_eq listed name) link.listed
    then setting_text name (or_else (value_of (find (λ prop. bytes_eq prop.name name) link.props)) (literal fallback))
    else Err (Undeclared name)

-- the address of one of the provider's instances
abbrev pub one_addr : List ℕ → ℕ → Option Addr → Result (List ℕ) TemplateFault
one_addr name index None = Err (NoInstance name index)
one_addr name index (Some addr) = Ok (addr_text addr)

-- the addresses by index, with a text between any two
abbrev pub separated : List ℕ → List Addr → List ℕ
separated between [] = []
separated between (first ∷ others) = addr_text first ++ flat_map (λ addr. between ++ addr_text addr) others

abbrev pub word_text : Env → SpecWord → List ℕ
word_text env Name = env.job.group
word_text env Index = decimal env.index
word_text env Az = env.az
word_text env Address = addr_text env.addr
word_text env Deployment = env.job.dep
word_text env Bootstrap = truth (env.index == 0)

-- a lookup in a link, by the link of that name
abbrev pub through : List ℕ → (LinkEnv → Result (List ℕ) TemplateFault) → Option LinkEnv → Result (List ℕ) TemplateFault
through name look None = Err (NoLink name)
through name look (Some link) = look link

abbrev pub link_named : JobEnv → List ℕ → Option LinkEnv
link_named job name = find (λ link. bytes_eq link.name name) job.links

-- what a part comes to
abbrev pub part_text : Env → Part → Result (List ℕ) TemplateFault
part_text env (Literal text) = Ok text
part_text env (Own name fallback) = own_text env.job name fallback
part_text env (Linked link name fallback) = through link (λ tied. linked_text tied name fallback) (link_named env.job link)
part_text env (OneAddr link index) = through link (λ tied. one_addr link index (slice_get tied.addrs index)) (link_named env.job link)
part_text env (AllAddrs link between) = through link (λ tied. Ok (separated between tied.addrs)) (link_named env.job link)
part_text env (Word word) = Ok (word_text env word)

-- the parts' texts one after another, or the fault of the first that has one
abbrev pub parts_text : Env → List Part → Result (List ℕ) TemplateFault
parts_text env [] = Ok []
parts_text env (part ∷ parts) = joined_texts (part_text env part) (parts_text env parts)

-- a text has at most 1,048,576 bytes
abbrev pub limited : Result (List ℕ) TemplateFault → Result (List ℕ) TemplateFault
limited (Err fault) = Err fault
limited (Ok text) = if nat_le (length text) 1048576 then Ok text else Err Limit

-- the text of a template
abbrev pub rendered : Template → Env → Result (List ℕ) TemplateFault
rendered template env = limited (parts_text env template.parts)
