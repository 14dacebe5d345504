use Rattle.std.proofs.Common.{◌<◌, arith, rules}
use Rattle.std.specs.List.{AllByRecursion}
use Rattle.std.proofs.ByRecursion.{All-from_get_or}
use Rattle.refusals.specs.Refused.{refusal_of}
use Rattle.rules.specs.Register.{loads}
use Rattle.catalogue.specs.Runs.{Does}
use Rattle.catalogue.proofs.Runnings.{opened, runs_on}
use Rattle.catalogue.proofs.Enterings.{loads_saved}
use Rattle.catalogue.proofs.catalogue.Catalogue.load.Goals as goal

pub returns-clause-runs : goal.returns-clause-runs
returns-clause-runs c =
    let d : Does c.args.self.now (opened c.load_file.new.index) (loads c.args.file.now) (refusal_of c.load_file.result) = search rules in
    runs_on c.args.self.now (opened c.load_file.new.index) (loads c.args.file.now) (refusal_of c.load_file.result) d

pub returns-clause-saves : goal.returns-clause-saves
returns-clause-saves c =
    let bytes : AllByRecursion (λ b. b < 256) c.args.file.now = All-from_get_or (λ b. b < 256) c.args.file.now 0 (λ i l. omega (arith, c.type_inv.file i)) in
    loads_saved c.in_ok-index.index.now c.load_file.new.index c.args.file.now c.load_file.result bytes c.load_file.ensures.does
