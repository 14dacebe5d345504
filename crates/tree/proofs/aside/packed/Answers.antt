use Rattle.std.proofs.Common.{◌≡◌, length, arith, rules}
use Rattle.std.proofs.lemmas.Iterator.Adapters.{YieldsList-from_rev_slice}
use Rattle.std.proofs.lemmas.Iterator.Consumers.{YieldsList-turn}
use Rattle.std.proofs.lemmas.List.{length_push}
use Rattle.tree.proofs.Packs.{pack_fits, pack_more}
use Rattle.tree.proofs.aside.packed.Goals as goal

pub overflow_mul-word : goal.overflow_mul-word
overflow_mul-word c =
    let ten : length c.args.letters ≡ 10 = search rules in
    let turn = YieldsList-turn (YieldsList-from_rev_slice c.args.letters cc) c.loop-letter.yielded _ c.loop-letter.yielded_by _ _ c.in-Some.letter c.in-Some.is c.next.ensures.steps in
    let f = pack_fits c.args.letters (length c.loop-letter.yielded) c.loop-letter.word _ ten c.requires turn c.loop-letter.invariant in
    omega arith

pub overflow_add-word : goal.overflow_add-word
overflow_add-word c =
    let ten : length c.args.letters ≡ 10 = search rules in
    let turn = YieldsList-turn (YieldsList-from_rev_slice c.args.letters cc) c.loop-letter.yielded _ c.loop-letter.yielded_by _ _ c.in-Some.letter c.in-Some.is c.next.ensures.steps in
    let f = pack_fits c.args.letters (length c.loop-letter.yielded) c.loop-letter.word _ ten c.requires turn c.loop-letter.invariant in
    omega (arith, c.from.ensures)

pub loop-letter-preserved : goal.loop-letter-preserved
loop-letter-preserved c =
    let ten : length c.args.letters ≡ 10 = search rules in
    let turn = YieldsList-turn (YieldsList-from_rev_slice c.args.letters cc) c.loop-letter.yielded _ c.loop-letter.yielded_by _ _ c.in-Some.letter c.in-Some.is c.next.ensures.steps in
    rw c.from.ensures (pack_more c.args.letters (length c.loop-letter.yielded) c.loop-letter.word _ ten c.requires turn c.loop-letter.invariant _ (length_push c.loop-letter.yielded c.in-Some.letter))
