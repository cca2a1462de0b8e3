use Rattle.std.proofs.Common.{◌≡◌, ◌++◌, ◌∷◌, [], refl, arith}
use Rattle.ix_vbyte.specs.Gaps.{next_after}
use Rattle.ix_index_text.proofs.GramNotes.{adds_again, adds_last, listed_last, room_for}
use Rattle.ix_index_text.proofs.writer.grams.GramList.add.Goals as goal

pub returns-then-number-self : goal.returns-then-number-self
returns-then-number-self c = λ numbers is up.
    let next : c.args.self.now.next ≡ next_after 0 numbers = is.next in
    let below = c.if-number-self.true in
    (numbers, is, adds_again c.args.number numbers up (omega (arith, next, below)))

pub overflow_add-self : goal.overflow_add-self
overflow_add-self c =
    let (numbers, is, up) = c.requires.listed in
    let next : c.args.self.now.next ≡ next_after 0 numbers = is.next in
    let above = c.if-number-self.false in
    let room = room_for c.args.number numbers up (omega (arith, next, above)) in
    let count = is.count in
    let low = c.requires.low in
    omega (arith, room, count, low)

pub returns : goal.returns
returns c = λ numbers is up.
    let next : c.args.self.now.next ≡ next_after 0 numbers = is.next in
    let above = c.if-number-self.false in
    (numbers ++ c.args.number ∷ [], listed_last c.args.self.now _ c.args.number numbers is refl refl c.in_ok-push_code.ensures.ok, adds_last c.args.number numbers up (omega (arith, next, above)))
