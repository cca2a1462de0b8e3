use Rattle.std.proofs.Common.{[], ◌∷◌, ◌++◌, ◌∙◌, ◌≡◌, ap, arith, get_or, length, refl}
use Rattle.std.proofs.lemmas.Bool.Decides.{nat_tests}
use Rattle.ix_query.proofs.FindLemmas.{placed_first, placed_holes, any_place, nil_of_length}
use Rattle.ix_query.proofs.Swapping.{removed_of, placed_swapped}
use Rattle.ix_query.proofs.answers.terms.join_terms.Goals as goal

pub returns-then-is_empty : goal.returns-then-is_empty
returns-then-is_empty c = λ entries placed.
    let none : length c.args.placed.lists.items ≡ 0 = grind (arith, nat_tests, c.if-is_empty.ensures, c.if-is_empty.true, c.args.placed.lists.ok.0) in
    placed_holes c.args.index.now.parts entries c.args.placed.lists.items c.args.placed.places.items _ (nil_of_length c.args.placed.lists.items none) c.args.placed.each_placed c.every_document.ensures placed

pub returns : goal.returns
returns c = λ entries placed.
    let lists = c.args.placed.lists.items in
    let places = c.args.placed.places.items in
    let lists_old = c.args.placed.lists.ok.0 in
    let lists_new = c.swap_remove-first.new.self.ok.0 in
    let places_old = c.args.placed.places.ok.0 in
    let places_new = c.swap_remove-offset.new.self.ok.0 in
    let same = c.args.placed.each_placed in
    let lead = rw c.as_slice.ensures.value at c.fewest-lead.ensures in
    let one = c.swap_remove-first.ensures in
    let two = c.swap_remove-offset.ensures in
    let others = c.swap_remove-first.new.self.items in
    let offsets = c.swap_remove-offset.new.self.items in
    let first = c.swap_remove-first.result in
    let offset = c.swap_remove-offset.result in
    let last = length others in
    let taken = removed_of lists others c.fewest-lead.result last first lead (omega (arith, one.len, lists_old, lists_new)) refl one.value
    (λ d low. one.by_index.0 d (omega (arith, low, one.len, lists_old, lists_new)) ∙ ap (λ k. get_or lists k d) (omega (arith, one.len, lists_old, lists_new)))
    (λ k d other low. one.by_index.1 k d other (omega (arith, low, one.len, lists_old, lists_new))) in
    let offset_taken = removed_of places offsets c.fewest-lead.result last offset (omega (arith, lead, same)) (omega (arith, same, one.len, lists_old, lists_new))
    (omega (arith, same, one.len, two.len, lists_old, lists_new, places_old, places_new)) two.value
    (λ d low. two.by_index.0 d (omega (arith, low, same, one.len, lists_old, lists_new, places_old)) ∙ ap (λ k. get_or places k d) (omega (arith, same, one.len, lists_old, lists_new, places_old)))
    (λ k d other low. two.by_index.1 k d other (omega (arith, low, same, one.len, lists_old, lists_new, places_old))) in
    any_place _ _ _ (placed_first c.args.index.now.parts entries (others ++ first ∷ []) others first (offsets ++ offset ∷ []) offsets offset refl refl
    (omega (arith, taken.long, offset_taken.long, same))
    (placed_swapped c.args.index.now.parts entries (length entries) _ _ _ _ _ _ taken offset_taken placed))
