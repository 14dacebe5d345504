use Rattle.std.proofs.Common.{◌^◌, ◌<◌, rules}
use Rattle.tree.proofs.Packs.{aside_is}
use Rattle.tree.proofs.aside.lay_aside.Goals as goal

pub returns-clause-aside : goal.returns-clause-aside
returns-clause-aside c =
    let fits : c.args.clip.number < 2 ^ 32 = search rules in
    rw c.from.ensures (aside_is c.args.words.now c.args.n c.packed.result c.args.clip c.requires.room fits c.packed.ensures)
