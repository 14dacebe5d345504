use Rattle.std.proofs.Common.{arith}
use Rattle.measures.specs.Sums.{small_at}
use Rattle.measures.proofs.Tallies.{tallied_none, tallied_more, tallied_all}
use Rattle.measures.proofs.counting.count_letters.Goals as goal

pub bounds-numbers-from : goal.bounds-numbers-from
bounds-numbers-from c = let s = small_at c.args.letters.now c.loop-i.i c.requires.small in omega arith

pub bounds-numbers-from-in-loop-i : goal.bounds-numbers-from-in-loop-i
bounds-numbers-from-in-loop-i c = let s = small_at c.args.letters.now c.loop-i.i c.requires.small in omega arith

pub loop-i-init : goal.loop-i-init
loop-i-init c = tallied_none c.args.numbers.now c.args.letters.now c.requires.shape

pub loop-i-preserved : goal.loop-i-preserved
loop-i-preserved c =
    let s = small_at c.args.letters.now c.loop-i.i c.requires.small in
    let e = c.from.ensures in
    rw e (tallied_more c.args.numbers.now c.args.letters.now c.loop-i.numbers c.loop-i.i c.loop-i.invariant (omega arith) (omega arith))

pub returns : goal.returns
returns c =
    record {
      shape = c.loop-i.invariant.shape;
      numbers = tallied_all c.args.numbers.now c.args.letters.now c.loop-i.numbers c.loop-i.i c.loop-i.invariant (omega arith);
    }
