use Rattle.std.proofs.Common.{rules, length, ap, ◌∙◌}
use Rattle.std.specs.Option.{unwrap_or}
use Rattle.std.proofs.lemmas.Iterator.{YieldsList-from_slice}
use Rattle.std.proofs.lemmas.Iterator.Search.{position_from_yields_List}
use Rattle.ranked.proofs.Steps.{rank_found}
use Rattle.ranked.proofs.list.rank.Goals as goal

pub returns : goal.returns
returns g c =
    let list = c.args.list.now in
    let before = g.T.Ranked.before in
    c.unwrap_or.ensures
    ∙ ap (λ o. unwrap_or o (length list))
    (position_from_yields_List (before c.args.item.now) c.position-behind.new.self _ _ c.position-behind.ensures.ran (YieldsList-from_slice list cc) (λ x b q k. search rules))
    ∙ rank_found before c.args.item.now list
