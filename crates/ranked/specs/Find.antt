-- The order of finds, which stands here and nowhere else.
use Rattle.std.specs.Prelude.{Bool, cond, ◌==◌, nat_lt}
use Rattle.ranked.specs.declared.find.Find.{Find}

-- the lower distance first; of two at one distance the lower clip number
abbrev pub ahead : Find → Find → Bool
ahead a b = cond (a.distance == b.distance) (nat_lt a.clip b.clip) (nat_lt a.distance b.distance)
