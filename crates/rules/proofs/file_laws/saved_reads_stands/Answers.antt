use Rattle.rules.proofs.Files.{saved_reads}
use Rattle.rules.proofs.file_laws.saved_reads_stands.Goals as goal

pub returns : goal.returns
returns c = saved_reads
