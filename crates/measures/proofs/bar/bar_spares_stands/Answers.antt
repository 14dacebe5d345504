use Rattle.measures.specs.Bars.{without_has}
use Rattle.measures.proofs.bar.bar_spares_stands.Goals as goal

pub returns : goal.returns
returns c = without_has
