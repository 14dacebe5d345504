use Rattle.ranked.proofs.Ranks.{ranking_stands}
use Rattle.ranked.proofs.list.ranking_stands.Goals as goal

pub returns : goal.returns
returns g c =
    let law = g.met.T.Ranked in
    record { order = law.order; tie = law.tie; ranking = ranking_stands g.T.Ranked.before law.order law.tie }
