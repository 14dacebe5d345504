use Rattle.std.proofs.Common.{◌≡◌, ℕ, ◌+◌, ◌/◌, ◌%◌, ◌^◌, List, length, get_or, ap, ◌∙◌, rules}
use Rattle.tree.specs.Leaving.{letters_of, clip_by}
use Rattle.tree.proofs.aside.keyed_at.Goals as goal

pub returns : goal.returns
unfolding clip_by
returns c =
    let ws = c.args.words.now in
    let key = get_or c.args.words.now c.args.k 0 in
    let word : c.unwrap_or.result ≡ get_or ws (length ws / 2 + key % 2 ^ 32) 0 = search rules in
    ap (λ (x : List ℕ). record { number = key / 2 ^ 32; letters = x }) (c.unpacked.ensures ∙ ap (letters_of 10) word)
