-- A longer buffer holds what it held.
use Rattle.std.proofs.Common.{ℕ, List, ◌+◌, take, drop, ap, ◌∙◌, arith, refl}
use Rattle.ix_run_text.specs.Inputs.{bytes_held}
use Rattle.ix_run_text.proofs.FillLemmas.{held_behind}
use Rattle.ix_run_text.proofs.input.Input.make_room.Goals as goal

pub returns-in_ok-resize-clause-held : goal.returns-in_ok-resize-clause-held
unfolding bytes_held
returns-in_ok-resize-clause-held g c =
    let mid = c.move_down.new.self in
    held_behind mid.buffer.items mid.buffer.items _ c.resize.new.self.items (mid.end + 65536) mid.start mid.end c.in_ok-resize.ensures.items refl (omega arith) (omega (arith, mid.buffer.ok.0, mid.within)) ∙ c.move_down.ensures.held

pub returns-in_err-resize-clause-held : goal.returns-in_err-resize-clause-held
unfolding bytes_held
returns-in_err-resize-clause-held g c =
    let mid = c.move_down.new.self in
    ap (λ (xs : List ℕ). drop mid.start (take mid.end xs)) c.in_err-resize.ensures.items ∙ c.move_down.ensures.held
