-- Each mask has just the letters of its family: the test is computed.
use Rattle.std.proofs.Common.{refl, arith}
use Rattle.std.proofs.lemmas.Bool.Decides.{nat_tests}
use Rattle.measures.specs.Kin.{mask_akin}
use Rattle.measures.proofs.family.family_of.Goals as goal

pub returns-in-0-to-9 : goal.returns-in-0-to-9
returns-in-0-to-9 c = mask_akin 0x3ff 0 refl c.args.letter (grind (arith, nat_tests))

pub returns-in-10-to-15 : goal.returns-in-10-to-15
returns-in-10-to-15 c = mask_akin 0xfc00 1 refl c.args.letter (grind (arith, nat_tests))

pub returns-in-16-to-31 : goal.returns-in-16-to-31
returns-in-16-to-31 c = mask_akin 0xffff0000 2 refl c.args.letter (grind (arith, nat_tests))

pub returns-in-32-to-39 : goal.returns-in-32-to-39
returns-in-32-to-39 c = mask_akin 0xff00000000 3 refl c.args.letter (grind (arith, nat_tests))

pub returns-in-40-to-55 : goal.returns-in-40-to-55
returns-in-40-to-55 c = mask_akin 0xffff0000000000 4 refl c.args.letter (grind (arith, nat_tests))

pub returns-in_default : goal.returns-in_default
returns-in_default c = mask_akin 0xff00000000000000 5 refl c.args.letter (grind (arith, nat_tests))
