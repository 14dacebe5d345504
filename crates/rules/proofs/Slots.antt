-- The slots after a search.
use Rattle.std.proofs.Common.{◌≡◌, ℕ, ◌+◌, ◌-◌, ◌<◌, ◌≤◌, List, length, get_or, take, drop, ap, ◌∙◌, arith}
use Rattle.std.proofs.lemmas.List.{length-take, length-drop, length-append, get_or_append_left, get_or-append_right, get_or-take, get_or-drop}
use Rattle.ranked.specs.declared.find.Find.{Find}
use Rattle.space.specs.Boxes.{filled}
use Rattle.rules.specs.LawsFinds.{FilledSlots}

pub length_filled : {X : Type 0} (finds slots : List X) → length (filled finds slots) ≡ length slots
length_filled finds slots = simp (length-append, length-take, length-drop) (omega arith)

pub filled_slots : FilledSlots
filled_slots finds slots = (length_filled finds slots, found, kept)
  where
    front : List Find
    front = take (length slots) finds

    found : (i : ℕ) (f : Find) → i < length finds → i < length slots → get_or (filled finds slots) i f ≡ get_or finds i f
    found i f a b =
        let n = length-take (length slots) finds in
        get_or_append_left front (drop (length finds) slots) f i (omega arith) ∙ get_or-take (length slots) finds i f b

    kept : (i : ℕ) (f : Find) → length finds ≤ i → i < length slots → get_or (filled finds slots) i f ≡ get_or slots i f
    kept i f a b =
        let n = length-take (length slots) finds in
        let is : length front ≡ length finds = omega arith in
        let e : length finds + (i - length finds) ≡ i = omega arith in
        get_or-append_right front (drop (length finds) slots) (length finds) i f is a ∙ get_or-drop (length finds) slots (i - length finds) f ∙ ap (λ j. get_or slots j f) e
