use Rattle.std.proofs.Common.{◌≡◌, ◌-◌, ltb, ◌++◌, take, drop, ap, ◌∙◌, subst, ap₂, arith}
use Rattle.std.proofs.lemmas.List.{length-take-le, take_at, drop_at}
use Rattle.ranked.specs.Rank.{ranked}
use Rattle.tree.proofs.Packs.{Keys, in_order}
use Rattle.tree.proofs.aside.order_asides.Goals as goal

pub returns : goal.returns
returns c =
    let W = c.args.words.now in
    let n = c.args.n in
    let I = c.loop-i.word-items in
    let z : c.args.n - 0 ≡ c.args.n = omega arith in
    let e : c.loop-i.i ≡ c.args.n = omega arith in
    let k = subst (Keys (take c.args.n c.args.words.now) c.loop-i.word-items) e c.loop-i.invariant in
    let at = k.long ∙ length-take-le n W (omega (arith, c.requires.room)) in
    let fore = ap₂ (λ m x. take m x) z (ap (λ m. I ++ drop m W) z) ∙ take_at I (drop n W) n at in
    let back = ap₂ (λ m x. drop m x) z (ap (λ m. I ++ drop m W) z) ∙ drop_at I (drop n W) n at in
    in_order W I _ n k c.requires.room c.requires.few (ap₂ (λ x y. x ++ y) (c.sort_words.ensures ∙ ap (ranked ltb) fore) back)
