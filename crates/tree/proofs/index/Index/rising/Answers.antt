use Rattle.std.proofs.Common.{◌≡◌, ◌-◌, ◌++◌, take, drop, Some, sym, subst, arith, rules}
use Rattle.std.specs.List.Sorted.{IsPermutation}
use Rattle.std.proofs.lemmas.List.Sorted.{IsNonDecreasingBy-from_sort, answers_always}
use Rattle.space.specs.declared.clip.StoredClip.{StoredClip}
use Rattle.rules.specs.Tree.{rows_in}
use Rattle.rules.specs.Rows.{rising}
use Rattle.tree.specs.Seen.{tree_in}
use Rattle.tree.specs.Listing.{Listed}
use Rattle.tree.proofs.Sorts.{listed_rising}
use Rattle.tree.proofs.index.Index.rising.Goals as goal

pub returns : goal.returns
returns c =
    let x = c.args.self.now in
    let n = c.in_ok-n.n in
    let B = c.clips.new.out in
    let S = c.sort_unstable_by_key.new.self in
    let number = λ (k : StoredClip). k.number in
    let z : c.in_ok-n.n - 0 ≡ c.in_ok-n.n = omega arith in
    let up = IsNonDecreasingBy-from_sort number _ (c.sort_unstable_by_key.ensures.sorted number (answers_always _ _ _ (λ f a r g h. search rules))) in
    subst (λ m. Listed x (rising (rows_in (tree_in x))) c.args.out.now (S ++ drop m B) (Some n)) (sym z)
    (listed_rising x c.args.out.now B S n c.clips.auto.out c.in_ok-n.ensures (subst (λ m. IsPermutation (take m B) S) z c.sort_unstable_by_key.ensures.permutation) up)
