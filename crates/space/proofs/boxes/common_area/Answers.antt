use Rattle.std.proofs.Common.{◌≡◌, suc, ◌+◌, ◌*◌, ◌^◌, ◌<◌, ◌≤◌, get_or, length, sym, ap, ap₂, ◌∙◌, mul_assoc, mul-one, length-append, arith, rules}
use Rattle.std.proofs.lemmas.Iterator.{empty_from_Zip}
use Rattle.space.specs.Boxes.{common}
use Rattle.space.proofs.Areas.{dimensions_most, power_more, power_fits, common_few, common_given, common_product}
use Rattle.space.proofs.boxes.common_area.Goals as goal
use Rattle.space.proofs.boxes.common_area.Goals.{After-from-product}

-- the product of one dimension more is within its bound
next_most : (c : After-from-product) → c.loop-set.product * c.from-product.result ≤ 64 ^ (length c.loop-set.yielded + 1)
next_most c =
    let fits : c.in-Some.set.now < 2 ^ 64 = rw (sym (ap (λ s. get_or s 0 0) c.in-Some.ensures.steps.0)) (c.loop-set.invariant.words 0) in
    let k = common_few c.in-Some.set.now c.in-Some.other.now fits in
    power_more c.loop-set.product c.from-product.result (length c.loop-set.yielded) c.loop-set.invariant.most (omega (arith, c.from-product.ensures))

next_value : (c : After-from-product) → (c.loop-set.product * c.from-product.result) * common c.next.new.self.a.rest.now c.next.new.self.b.rest.now ≡ common c.args.a.now c.args.b.now
next_value c =
    let p = c.loop-set.product in
    let rest = common c.next.new.self.a.rest.now c.next.new.self.b.rest.now in
    let steps = c.in-Some.ensures.steps in
    mul_assoc p c.from-product.result rest
    ∙ ap (λ x. p * x) (ap (λ n. n * rest) c.from-product.ensures ∙ sym (common_product _ _ _ _) ∙ sym (ap₂ common steps.0 steps.1))
    ∙ c.loop-set.invariant.value

pub returns-then-letters-eq0 : goal.returns-then-letters-eq0
returns-then-letters-eq0 c =
    let a = c.args.a.now in let b = c.args.b.now in
    let e : 0 ≡ common a b = search rules in
    common_given a b 0 (sym c.if-not-is_dimensions.ensures) c.if-a-b.false e (omega arith)

pub overflow_mul-product : goal.overflow_mul-product
overflow_mul-product c =
    let d = dimensions_most (length c.args.a.now) (sym c.if-not-is_dimensions.ensures) in
    let far = c.loop-set.invariant.far in
    let step = ap length c.in-Some.ensures.steps.0 in
    let p = power_fits (c.loop-set.product * c.from-product.result) (length c.loop-set.yielded + 1) (next_most c) (omega arith) in
    omega arith

pub loop-set-preserved : goal.loop-set-preserved
loop-set-preserved c = record {
  can = search rules;
  finite = search rules;
  value = next_value c;
  most = simp length-append (next_most c);
  far = let e = ap length c.in-Some.ensures.steps.0 in let far = c.loop-set.invariant.far in simp length-append (omega arith);
  words = λ k. rw (sym (ap (λ s. get_or s (suc k) 0) c.in-Some.ensures.steps.0)) (c.loop-set.invariant.words (suc k));
  even = let e = ap length c.in-Some.ensures.steps.0 in let f = ap length c.in-Some.ensures.steps.1 in let even = c.loop-set.invariant.even in omega arith;
}

pub returns : goal.returns
returns c =
    let a = c.args.a.now in let b = c.args.b.now in
    let z = empty_from_Zip c.loop-set.set-iterator c.next.new.self c.next.result c.in-None.is c.next.ensures.steps c.loop-set.invariant.even in
    let p = c.loop-set.product in
    let e = sym (mul-one p) ∙ ap (λ n. p * n) (sym (ap₂ common z.0 z.1)) ∙ c.loop-set.invariant.value in
    let far = c.loop-set.invariant.far in
    let end = ap length z.0 in
    let most = c.loop-set.invariant.most in
    let n : length c.loop-set.yielded ≡ length a = omega arith in
    common_given a b p (sym c.if-not-is_dimensions.ensures) c.if-a-b.false e (rw n at most)
