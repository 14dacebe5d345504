use Rattle.space.proofs.Arounds.{in_around}
use Rattle.space.proofs.laws.in_around_stands.Goals as goal

pub returns : goal.returns
returns c = in_around
