use Rattle.std.proofs.Common.{length, rules}
use Rattle.refusals.specs.Refused.{refusal_of}
use Rattle.rules.specs.Register.{withdraws}
use Rattle.catalogue.specs.Runs.{Does}
use Rattle.catalogue.proofs.Runnings.{opened, runs_on}
use Rattle.catalogue.proofs.catalogue.Catalogue.withdraw.Goals as goal

pub returns-clause-runs : goal.returns-clause-runs
returns-clause-runs c =
    let call = withdraws c.args.number (length c.args.worklist.now) in
    let d : Does c.args.self.now (opened c.withdraw.new.self) (withdraws c.args.number (length c.args.worklist.now)) (refusal_of c.withdraw.result) = search rules in
    runs_on c.args.self.now (opened c.withdraw.new.self) call (refusal_of c.withdraw.result) d
