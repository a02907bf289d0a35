-- What was done to the cloud, as a fact of a moment.
use Rattle.bosh_history.specs.Moments.{Moment}
use Rattle.laws_row_facts.specs.Cloud.{CloudFacts}

-- what was done is in its order, losses are of machines of instances, and disks are held by their own
abbrev pub HasCloudFacts : Moment → Type 0
HasCloudFacts m = CloudFacts m.effects
