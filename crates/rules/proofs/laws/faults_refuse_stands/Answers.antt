use Rattle.rules.proofs.Faults.{faults_refuse}
use Rattle.rules.proofs.laws.faults_refuse_stands.Goals as goal

pub returns : goal.returns
returns c = faults_refuse
