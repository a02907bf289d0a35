-- Links in the texts of replies (this project's profile).
use Rattle.std.specs.Prelude.{ℕ, List, ◌++◌, codes}
use Rattle.bosh_base.specs.declared.link.Joint.{Joint}

-- `DEPLOYMENT/GROUP/JOB.LINK`
abbrev pub joint_text : Joint → List ℕ
joint_text it = it.dep ++ codes "/" ++ it.group ++ codes "/" ++ it.job ++ codes "." ++ it.link
