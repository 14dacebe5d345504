use Rattle.std.proofs.Common.{rules}
use Rattle.refusals.specs.Refused.{refusal_of}
use Rattle.rules.specs.Register.{enters}
use Rattle.catalogue.specs.Runs.{Does}
use Rattle.catalogue.proofs.Runnings.{opened, runs_on, at_capacity}
use Rattle.catalogue.proofs.catalogue.Catalogue.enter.Goals as goal

pub returns-clause-runs : goal.returns-clause-runs
returns-clause-runs c =
    let d : Does c.args.self.now (opened c.enter.new.self) (enters c.args.number c.args.letters.now) (refusal_of c.enter.result) = search rules in
    runs_on c.args.self.now (opened c.enter.new.self) (enters c.args.number c.args.letters.now) (refusal_of c.enter.result) d

pub returns-clause-full : goal.returns-clause-full
returns-clause-full c =
    let d : Does c.args.self.now (opened c.enter.new.self) (enters c.args.number c.args.letters.now) (refusal_of c.enter.result) = search rules in
    at_capacity c.args.self.now (opened c.enter.new.self) c.args.number c.args.letters.now (refusal_of c.enter.result) d
