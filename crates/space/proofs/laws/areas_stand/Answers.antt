use Rattle.space.proofs.Areas.{common_meet, area_most}
use Rattle.space.proofs.laws.areas_stand.Goals as goal

pub returns : goal.returns
returns c = (common_meet, area_most)
