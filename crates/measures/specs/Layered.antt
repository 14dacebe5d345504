-- The layers keep the floor rule.
use Rattle.std.specs.Prelude.{◌≡◌, ℕ, Bool, true, false, cond, not, ◌&&◌, List, length, Some, None, Option, refl}
use Rattle.std.proofs.Common.{ap, ◌∙◌, arith}
use Rattle.std.proofs.lemmas.Bool.{and_parts, and_from}
use Rattle.std.proofs.lemmas.Bool.Decides.{nat_tests}
use Rattle.space.specs.Boxes.{in_box, dimensions, words, is_vector, is_box}
use Rattle.measures.specs.Floor.{Under, Bounded, FloorRule}
use Rattle.measures.specs.Costs.{vectors, vector_and_box}
use Rattle.measures.specs.Layers.{up_to, cut_distance, cut_floor, barred, spared, gap, bar_distance, bar_floor}
use Rattle.measures.specs.Rules.{same_d}
use Rattle.measures.specs.Bars.{in_spared, spared_words, length_spared, no_gap}

under_none : (f : Option ℕ) → Under f None
under_none None = tt
under_none (Some f) = tt

-- one test on both
cond_under : (t : Bool) (f d : Option ℕ) → Under f d → Under (cond t f None) (cond t d None)
cond_under true f d h = h
cond_under false f d h = tt

cond_bounded : (t : Bool) (x : Option ℕ) → Bounded x → Bounded (cond t x None)
cond_bounded true x h = h
cond_bounded false x h = tt

up_to_under : (limit : ℕ) (f d : Option ℕ) → Under f d → Under (up_to limit f) (up_to limit d)
up_to_under limit None None h = tt
up_to_under limit None (Some x) h = absurd h
up_to_under limit (Some f) None h = under_none (up_to limit (Some f))
up_to_under limit (Some f) (Some x) h = grind (arith, nat_tests)

up_to_bounded : (limit : ℕ) (x : Option ℕ) → Bounded x → Bounded (up_to limit x)
up_to_bounded limit None h = tt
up_to_bounded limit (Some x) h = grind (arith, nat_tests)

module _ (d f : List ℕ → List ℕ → Option ℕ) (r : FloorRule d f) where
  pub cut_rule : (limit : ℕ) → FloorRule (cut_distance limit d) (cut_floor limit f)
  cut_rule limit = record {
    under = λ q v b h k i.
        let e : vector_and_box q b ≡ vectors q v = same_d q v b h i in
        rw e (cond_under (vectors q v) (up_to limit (f q b)) (up_to limit (d q v)) (up_to_under limit (f q b) (d q v) (r.under q v b h k i)));
    far = λ q v h. cond_bounded (vectors q v) (up_to limit (d q v)) (up_to_bounded limit (d q v) (r.far q v h));
    low = λ q b h. cond_bounded (vector_and_box q b) (up_to limit (f q b)) (up_to_bounded limit (f q b) (r.low q b h));
  }

  spared_box : (bars b : List ℕ) → is_box b ≡ true → is_box (spared bars b) ≡ true
  spared_box bars b h =
      let p = and_parts (dimensions (length b)) (words b) h in
      and_from (dimensions (length (spared bars b))) (words (spared bars b)) (ap dimensions (length_spared bars b) ∙ p.0) (spared_words bars b p.1)

  bar_under : (bars q v b : List ℕ) → is_vector v ≡ true → is_box b ≡ true → in_box v b ≡ true → Under (bar_floor bars f q b) (bar_distance bars d q v)
  bar_under bars q v b h k i = go (barred bars v) refl
    where
      go : (t : Bool) → barred bars v ≡ t → Under (bar_floor bars f q b) (bar_distance bars d q v)
      go true e = rw e (ends (vectors q v))
        where
          ends : (t : Bool) → Under (bar_floor bars f q b) (cond (t && false) (d q v) None)
          ends true = under_none (bar_floor bars f q b)
          ends false = under_none (bar_floor bars f q b)
      go false e =
          let c = spared bars b in
          let in' = in_spared bars v b i e in
          let some = no_gap v c in' in
          let same : vector_and_box q b ≡ vectors q v = same_d q v b h i in
          let rule = r.under q v c h (spared_box bars b k) in' in
          rw (e, some, same) (cond_under (vectors q v && true) (f q c) (d q v) rule)

  pub bar_rule : (bars : List ℕ) → FloorRule (bar_distance bars d) (bar_floor bars f)
  bar_rule bars = record {
    under = λ q v b h k i. bar_under bars q v b h k i;
    far = λ q v h. cond_bounded (vectors q v && not (barred bars v)) (d q v) (r.far q v h);
    low = λ q b h. cond_bounded (vector_and_box q b && not (gap (spared bars b))) (f q (spared bars b)) (r.low q (spared bars b) (spared_box bars b h));
  }
