-- How links are spelled.
use Rattle.std.specs.Prelude.{ℕ, Bool, List, ◌&&◌, ◌++◌}
use Rattle.bosh_base.specs.Name.{is_name}
use Rattle.bosh_base.specs.declared.link.Joint.{Joint}
use Rattle.bosh_base.specs.declared.link.Tie.{Tie}
use Rattle.bosh_entry.specs.Reading.{Reader, making, ◌with◌}
use Rattle.bosh_entry.specs.List.{text, is_text, text_at}
use Rattle.bosh_entry.specs.Plain.{name_at}

-- a link of a job
unfoldable pub joint : Joint → List ℕ
joint j = text j.dep ++ text j.group ++ text j.job ++ text j.link

unfoldable pub is_joint : Joint → Bool
is_joint j = is_name j.dep && is_name j.group && is_name j.job && is_name j.link

unfoldable pub joint_at : Reader Joint
joint_at =
    making (λ dep group job link. record {
      dep = dep;
      group = group;
      job = job;
      link = link;
    })
    with name_at
    with name_at
    with name_at
    with name_at

-- a consumed link and its provider
unfoldable pub tie : Tie → List ℕ
tie t = joint t.consumer ++ joint t.provider ++ text t.kind

unfoldable pub is_tie : Tie → Bool
is_tie t = is_joint t.consumer && is_joint t.provider && is_text t.kind

unfoldable pub tie_at : Reader Tie
tie_at =
    making (λ consumer provider kind. record {
      consumer = consumer;
      provider = provider;
      kind = kind;
    })
    with joint_at
    with joint_at
    with text_at
