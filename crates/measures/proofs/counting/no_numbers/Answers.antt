use Rattle.measures.proofs.Tallies.{zeros_at, zeros_shape}
use Rattle.measures.proofs.counting.no_numbers.Goals as goal

pub returns : goal.returns
returns c = record { shape = zeros_shape; numbers = zeros_at 10 64 }
