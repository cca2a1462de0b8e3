use Rattle.std.proofs.Common.{◌≡◌, ◌≢◌, ℕ, ◌<◌, Bool, false, List, [], ◌∷◌, ◌++◌, take, length, get_or-set_same, get_or-set_other, ap, sym, ◌∙◌, add-one, arith}
use native.Mathlib.Decide.{ℕ_discrete}
use lib.ListN.{get_elem?}
use Rattle.std.specs.Slots.{slots_items, slots_filled, slots_counts, slots_len}
use Rattle.ix_board.proofs.Closings.{take_elem}
use Rattle.ix_board.proofs.close.take_pieces.Goals as goal

pub loop-place-preserved : goal.loop-place-preserved
loop-place-preserved g c =
    let inv = c.loop-place.invariant in
    let place = c.loop-place.place in
    let others = c.take.ensures.others in
    let items = slots_items c.args.closed.slots in
    let filled = slots_filled c.loop-place.closed.slots in
    let at = ap (λ (xs : List _). get_elem? xs place) (sym inv.2) ∙ c.take.ensures.value in
    let in_filled : place < length filled = omega (arith, (slots_counts c.loop-place.closed.slots).1, c.loop-place-test.true, inv.3, c.slot_count-place-end.ensures) in
    let same_len : slots_len c.take.new.self.slots ≡ slots_len c.loop-place.closed.slots = others.2 in (
      c.push_reserved.ensures.items ∙ (ap (λ (xs : List _). xs ++ c.take.result ∷ []) inv.0 ∙ (sym (take_elem items place c.take.result at) ∙ ap (λ (k : ℕ). take k items) (sym (add-one place)))),
      omega (arith, inv.1, c.push_reserved.ensures.capacity),
      others.0 ∙ inv.2,
      others.2 ∙ inv.3,
      (λ k low high.
          let ne : k ≢ place = (λ e. omega arith) in
          ap (λ (fs : List Bool). Rattle.std.specs.Prelude.slice_index_or fs k false) others.1 ∙ (get_or-set_other filled place k false false ne ∙ inv.4 k (omega arith) (omega (arith, same_len)))),
      (λ k low.
          elim (ℕ_discrete k place) [
            | yes e ↦
                ap (λ (fs : List Bool). Rattle.std.specs.Prelude.slice_index_or fs k false) others.1
                ∙ (ap (λ (j : ℕ). Rattle.std.specs.Prelude.slice_index_or (Rattle.std.specs.Prelude.slice_set filled place false) j false) e ∙ get_or-set_same filled place false false in_filled)
            | no ne ↦ ap (λ (fs : List Bool). Rattle.std.specs.Prelude.slice_index_or fs k false) others.1 ∙ (get_or-set_other filled place k false false ne ∙ inv.5 k (omega arith))
          ]),
    )
