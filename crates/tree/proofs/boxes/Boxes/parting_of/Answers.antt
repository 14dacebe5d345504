use Rattle.std.proofs.Common.{◌≡◌, ℕ, ◌+◌, ◌≤◌, Bool, true, false, List, map, take, sym, ap, ◌∙◌, ap₂}
use Rattle.space.specs.Boxes.{around, area, common}
use Rattle.rules.specs.Division.{group}
use Rattle.tree.proofs.Cuts.{take_around}
use Rattle.rules.proofs.Groups.{group_map}
use Rattle.tree.proofs.boxes.Boxes.parting_of.Goals as goal

side_cut : (d : ℕ) (b : Bool) (code : ℕ) (bs : List (List ℕ)) (r : List ℕ) → d ≤ 10 → r ≡ around 10 (group b code bs) → around d (group b code (map (take d) bs)) ≡ take d r
side_cut d b code bs r l e = sym (ap (take d) e ∙ take_around d (group b code bs) l ∙ ap (around d) (sym (group_map (take d) b code bs)))

pub returns : goal.returns
returns c =
    let a = side_cut c.args.self.now.dims false c.args.code c.args.self.now.sets.now c.group_box-first.result c.args.self.now.axes c.group_box-first.ensures in
    let b = side_cut c.args.self.now.dims true c.args.code c.args.self.now.sets.now c.group_box-second.result c.args.self.now.axes c.group_box-second.ensures in
    ap₂ (λ (x y : ℕ). (x, y, c.args.code)) (ap₂ common a b ∙ sym c.common_of.ensures.value)
    (ap₂ ◌+◌ (ap area a ∙ sym c.area_of.ensures.value) (ap area b ∙ sym c.area_of-2.ensures.value))
