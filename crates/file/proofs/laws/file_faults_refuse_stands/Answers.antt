use Rattle.file.proofs.Refusing.{file_faults_refuse}
use Rattle.file.proofs.laws.file_faults_refuse_stands.Goals as goal

pub returns : goal.returns
returns c = file_faults_refuse
