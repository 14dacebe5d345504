use Rattle.space.proofs.Arounds.{around_exact}
use Rattle.space.proofs.laws.around_exact_stands.Goals as goal

pub returns : goal.returns
returns c = around_exact
