use Rattle.catalogue.proofs.Readings.{loads_back}
use Rattle.catalogue.proofs.catalogue.Catalogue.save.Goals as goal

pub returns-clause-loads : goal.returns-clause-loads
returns-clause-loads c = loads_back c.args.self.now
