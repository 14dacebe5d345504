use Rattle.space.proofs.Arounds.{in_point}
use Rattle.space.proofs.laws.in_point_stands.Goals as goal

pub returns : goal.returns
returns c = in_point
