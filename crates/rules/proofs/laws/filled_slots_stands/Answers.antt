use Rattle.rules.proofs.Slots.{filled_slots}
use Rattle.rules.proofs.laws.filled_slots_stands.Goals as goal

pub returns : goal.returns
returns c = filled_slots
