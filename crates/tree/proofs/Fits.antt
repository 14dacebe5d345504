-- Entries settled in one node, or divided over two.
use Rattle.std.proofs.Common.{◌≡◌, ℕ, zero, suc, ◌+◌, ◌/◌, ◌<◌, ◌≤◌, Bool, true, false, cond, List, [], ◌∷◌, map, length, Some, sym, refl, ap, ◌∙◌, subst, arith}
use Rattle.std.specs.List.{AllByRecursion}
use Rattle.std.proofs.lemmas.List.{length-map}
use Rattle.std.proofs.lemmas.Bool.{false≢true}
use Rattle.space.specs.Boxes.{has}
use Rattle.rules.specs.Tree.{sets_of, boxed}
use Rattle.rules.specs.Division.{alike, group, division}
use Rattle.rules.specs.Enter.{parted}
use Rattle.rules.proofs.Groups.{Code, division_code, group_few, all_group}
use Rattle.tree.proofs.Parts.{group_map}
use Rattle.rules.proofs.Builds.{fitted_few, fitted_many}
use Rattle.tree.specs.declared.node.NodeEntry.{NodeEntry}
use Rattle.tree.specs.declared.node.Node.{Node}
use Rattle.tree.specs.Nodes.{spot, least, entry_of, one, total, times, Sound, Written, Fitted, divided}
use Rattle.tree.proofs.Frame.{one_self, Agree, Agrees, entries_same, totals_same, sounds_same, entry_frame, times_frame, sound_frame}
use Rattle.tree.proofs.Writes.{put_length, put_other, put_entry, put_times, put_sound}

pub divided_is : (d : ℕ) (bs : List (List ℕ)) → divided d bs ≡ division d bs
unfolding divided
divided_is d bs = refl

pub divided_code : (d code : ℕ) (bs : List (List ℕ)) → code ≡ divided d bs → Code code
unfolding divided
divided_code d code bs e = subst Code (sym e) (division_code d bs)

total_pick : (f : NodeEntry → ℕ) (t : Bool) (e : NodeEntry) (es : List NodeEntry) → total f (cond t (e ∷ es) es) ≡ cond t (f e) 0 + total f es
total_pick f true e es = refl
total_pick f false e es = omega arith

either_side : (t : Bool) (n : ℕ) → cond (alike false t) n 0 + cond (alike true t) n 0 ≡ n
either_side true n = omega arith
either_side false n = omega arith

pub total_group : (f : NodeEntry → ℕ) (c : ℕ) (es : List NodeEntry) → total f (group false c es) + total f (group true c es) ≡ total f es
total_group f c [] = refl
total_group f c (e ∷ es) =
    let t = has c 0 in
    let ih = total_group f (c / 2) es in
    let x = total_pick f (alike false t) e (group false (c / 2) es) in
    let y = total_pick f (alike true t) e (group true (c / 2) es) in
    omega (arith, x, y, ih, either_side t (f e))

pub least_some : (h n : ℕ) → 0 < n → least h ≤ n
least_some zero n l = omega arith
least_some (suc h) n l = omega arith

-- no node is met twice: neither i nor j nor any node of the entries
abbrev pub Apart : List Node → ℕ → ℕ → ℕ → List NodeEntry → Type 0
Apart N h i j es = (k : ℕ) → one i k + one j k + total (λ e. times N h e k) es ≤ 1

module _ (d : ℕ) (N : List Node) (h i j : ℕ) (es : List NodeEntry) (inN : i < length N) (apart : Apart N h i j es) (s : AllByRecursion (Sound N h) es) where
  pub settled_one : (M : List Node) → Written d N M h i es → 0 < length es → length es ≤ 8 → Fitted d N M h i j es false
  settled_one M p some few =
      let free : total (λ e. times N h e i) es ≡ 0 = omega (arith, apart i, one_self i) in
      let o = fitted_few d h (map (entry_of d N h) es) (omega (arith, length-map es (entry_of d N h))) in
      record {
        long = put_length d N M h i es p;
        first = put_entry d N M h i es p inN free ∙ ap (λ x. x.0) (sym o);
        second = ap (λ x. x.1) (sym o);
        count = λ k. omega (arith, put_times d N M h i es p inN free k);
        frame = λ k ne _. put_other d N M h i es p k ne;
        sound = put_sound d N M h i es p inN (least_some h (length es) some) few free s;
        other = λ e. absurd (false≢true e);
      }

  -- the second side stands as it did once the first is put
  pub second_side : (M : List Node) (code : ℕ) → Written d N M h i (group false code es) → (length M ≡ length N) × AllByRecursion (Sound M h) (group true code es)
  second_side M code p =
      let parts = total_group (λ e. times N h e i) code es in
      let free : total (λ x. times N h x i) (group true code es) ≡ 0 = omega (arith, apart i, one_self i) in
      let agrees : Agrees N M h (group true code es) = λ k l. put_other d N M h i (group false code es) p k
      (λ e. let z : total (λ x. times N h x k) (group true code es) ≡ 0 = subst (λ m. total (λ x. times N h x m) (group true code es) ≡ 0) (sym e) free in omega arith) in
      let n = put_length d N M h i (group false code es) p in
      (n, sounds_same N M n h (group true code es) agrees (all_group (Sound N h) true code es s))

  -- the two sides of a division
  module _ (M L : List Node) (code : ℕ) (inJ : j < length N) (nine : length es ≡ 9) (code_is : Code code)
      (p : Written d N M h i (group false code es)) (q : Written d M L h j (group true code es)) where
    parts : (k : ℕ) → total (λ e. times N h e k) (group false code es) + total (λ e. times N h e k) (group true code es) ≡ total (λ e. times N h e k) es
    parts k = total_group (λ e. times N h e k) code es

    in_m : j < length M
    in_m = omega (arith, put_length d N M h i (group false code es) p)

    free_i : total (λ e. times N h e i) (group false code es) ≡ 0
    free_i = omega (arith, apart i, one_self i, parts i)

    other_agrees : Agrees N M h (group true code es)
    other_agrees k l =
        put_other d N M h i (group false code es) p k
        (λ e. let z : total (λ x. times N h x k) (group true code es) ≡ 0 = subst (λ m. total (λ x. times N h x m) (group true code es) ≡ 0) (sym e) (omega (arith, apart i, one_self i, parts i)) in omega arith)

    free_j : total (λ e. times M h e j) (group true code es) ≡ 0
    free_j = omega (arith, apart j, one_self j, parts j, totals_same N M h (group true code es) other_agrees j)

    first_times : (k : ℕ) → times M (suc h) (spot i) k ≡ one i k + total (λ e. times N h e k) (group false code es)
    first_times = put_times d N M h i (group false code es) p inN free_i

    not_met : times M (suc h) (spot i) j ≡ 0
    not_met = omega (arith, first_times j, apart j, one_self j, parts j)

    first_agree : Agree M L (suc h) (spot i)
    first_agree k l =
        put_other d M L h j (group true code es) q k
        (λ e. let z : times M (suc h) (spot i) k ≡ 0 = subst (λ m. times M (suc h) (spot i) m ≡ 0) (sym e) not_met in omega arith)

    boxed_side : (b : Bool) → boxed d h (map (entry_of d N h) (group b code es)) ≡ boxed d h (group b code (map (entry_of d N h) es))
    boxed_side b = ap (boxed d h) (sym (group_map (entry_of d N h) b code es))

    first_entry : entry_of d L (suc h) (spot i) ≡ boxed d h (group false code (map (entry_of d N h) es))
    first_entry = entry_frame M L d (suc h) (spot i) first_agree ∙ put_entry d N M h i (group false code es) p inN free_i ∙ boxed_side false

    second_entry : entry_of d L (suc h) (spot j) ≡ boxed d h (group true code (map (entry_of d N h) es))
    second_entry =
        put_entry d M L h j (group true code es) q in_m free_j ∙ ap (boxed d h) (entries_same N M d h (group true code es) other_agrees) ∙ boxed_side true

    counts : (k : ℕ) → times L (suc h) (spot i) k + times L (suc h) (spot j) k ≡ one i k + one j k + total (λ e. times N h e k) es
    counts k =
        omega (
          arith,
          times_frame M L (suc h) (spot i) first_agree k,
          first_times k,
          put_times d M L h j (group true code es) q in_m free_j k,
          totals_same N M h (group true code es) other_agrees k,
          parts k,
        )

    first_sound : Sound L (suc h) (spot i)
    first_sound =
        let n = group_few code es nine code_is false in
        sound_frame M L (put_length d M L h j (group true code es) q) (suc h) (spot i) first_agree
        (put_sound d N M h i (group false code es) p inN (least_some h _ (omega arith)) (omega arith) free_i (all_group (Sound N h) false code es s))

    second_sound : Sound L (suc h) (spot j)
    second_sound =
        let n = group_few code es nine code_is true in
        put_sound d M L h j (group true code es) q in_m (least_some h _ (omega arith)) (omega arith) free_j
        (sounds_same N M (put_length d N M h i (group false code es) p) h (group true code es) other_agrees (all_group (Sound N h) true code es s))

    pub settled_two : code ≡ divided d (map (sets_of h) (map (entry_of d N h) es)) → Fitted d N L h i j es true
    settled_two is =
        let o = fitted_many d h (map (entry_of d N h) es) (omega (arith, length-map es (entry_of d N h))) ∙ ap (parted d h (map (entry_of d N h) es)) (sym (is ∙ divided_is d _)) in
        record {
          long = put_length d M L h j (group true code es) q ∙ put_length d N M h i (group false code es) p;
          first = first_entry ∙ ap (λ x. x.0) (sym o);
          second = ap (λ x. Some x) second_entry ∙ ap (λ x. x.1) (sym o);
          count = counts;
          frame = λ k ne nf. put_other d M L h j (group true code es) q k nf ∙ put_other d N M h i (group false code es) p k ne;
          sound = first_sound;
          other = λ _. second_sound;
        }

pub side_few : (b : Bool) (code : ℕ) (es xs : List NodeEntry) → xs ≡ group b code es → length es ≡ 9 → Code code → (0 < length xs) × (length xs ≤ 8)
side_few b code es xs e nine h = let n = group_few code es nine h b in let l = ap length e in (omega arith, omega arith)
