use Rattle.std.proofs.Common.{◌≡◌, ◌-◌, min, take, ap, ◌∙◌, arith}
use Rattle.space.proofs.Steps.{take_min}
use Rattle.space.proofs.described.StoredClipDescribed.letters.Goals as goal

pub returns : goal.returns
returns c =
    let letters = c.args.self.now.letters in
    let k : c.min.result - 0 ≡ min c.args.dimensions 10 = omega arith in
    ap (λ n. take n letters) k ∙ take_min letters c.args.dimensions 10 (omega arith)
