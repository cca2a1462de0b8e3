-- Nothing is buffered at first, so that what is left is what the reader has.
use Rattle.std.proofs.Common.{ℕ, List, [], Some, arith, map, string_bytes, ap, subst, sym, ◌∙◌}
use Rattle.std.proofs.lemmas.Result.{err_from_is_err_and}
use Rattle.ix_postings.specs.TokenTables.{HasTokens}
use Rattle.ix_run_text.specs.Heads.{Heading, heading_of, row_of_doc}
use Rattle.ix_run_text.specs.Inputs.{bytes_held, known_left}
use Rattle.ix_run_text.specs.Reading.{bytes_ahead, heading_from}
use Rattle.ix_run_text.specs.Sources.{AreWhole}
use Rattle.ix_run_text.proofs.CheckedLists.{checked_none}
use Rattle.ix_run_text.proofs.ReadOpen.{opened_faces, opened_yields, text_heading, text_parts, text_whole, unread}
use Rattle.ix_run_text.specs.RunReaders.{bytes_left}
use Rattle.ix_run_text.proofs.SpelledSteps.{nothing_spelled}
use Rattle.ix_run_text.proofs.SureReaders.{is_sure}
use Rattle.ix_run_text.proofs.run_reader.RunReader.open.Goals as goal

pub returns-clause-taken : goal.returns-clause-taken
unfolding bytes_left
returns-clause-taken g c = rw c.in_ok-input.ensures at c.in_ok-head.ensures.taken

pub returns-clause-lawful : goal.returns-clause-lawful
returns-clause-lawful g c = c.in_ok-head.ensures.lawful

pub returns-clause-accepted : goal.returns-clause-accepted
unfolding bytes_left
returns-clause-accepted g c heading rest lawful e = c.in_ok-head.ensures.accepted heading rest lawful (c.in_ok-input.ensures ∙ e)

pub returns-clause-unread : goal.returns-clause-unread
returns-clause-unread g c =
    let heading = heading_of c.in_ok-head.head in
    let marks = c.in_ok-marks.marks in
    let input = c.read_head.new.input in
    let last = string_bytes c.new-3.result in
    let none = c.new-3.ensures.bytes in
    let told = checked_none heading.rows marks 0 (bytes_held input) [] c.in_ok-marks.ensures.none tt in
    unread heading (record { marks = marks; held = bytes_held input }) last none c.in_ok-head.ensures.lawful told

pub returns-clause-yields : goal.returns-clause-yields
returns-clause-yields g c bytes entries known may =
    let heading = heading_of c.in_ok-head.head in
    let marks = c.in_ok-marks.marks in
    let input = c.read_head.new.input in
    let last = string_bytes c.new-3.result in
    let none = c.new-3.ensures.bytes in
    let told = checked_none heading.rows marks 0 (bytes_held input) [] c.in_ok-marks.ensures.none tt in
    opened_yields heading (record { marks = marks; held = bytes_held input }) last none
    (known_left g.R.Read.remaining c.in_ok-input.input) (known_left g.R.Read.remaining input) bytes entries
    c.in_ok-head.ensures.lawful told c.in_ok-head.ensures.taken (c.in_ok-input.ensures ∙ known) may

pub returns-in_err-head-clause-faced : goal.returns-in_err-head-clause-faced
returns-in_err-head-clause-faced g c first collection bytes is known =
    let p = err_from_is_err_and c.from_residual-in_err-head.result c.from_residual-in_err-head.ensures.1 in
    rw (p.1, p.2) (c.in_err-head.ensures.accepted (heading_from first is.parts) (bytes_ahead [] is.parts.entries) (text_heading first collection bytes is)
    (c.in_ok-input.ensures ∙ known ∙ ap (λ (bs : List ℕ). Some bs) (text_parts first collection bytes is)))

pub returns-clause-faced : goal.returns-clause-faced
returns-clause-faced g c first collection bytes is known =
    let heading = heading_of c.in_ok-head.head in
    let marks = c.in_ok-marks.marks in
    let input = c.read_head.new.input in
    let last = string_bytes c.new-3.result in
    let none = c.new-3.ensures.bytes in
    let told = checked_none heading.rows marks 0 (bytes_held input) [] c.in_ok-marks.ensures.none tt in
    let found = c.in_ok-head.ensures.accepted (heading_from first is.parts) (bytes_ahead [] is.parts.entries) (text_heading first collection bytes is)
    (c.in_ok-input.ensures ∙ known ∙ ap (λ (bs : List ℕ). Some bs) (text_parts first collection bytes is)) in (
      found.0,
      opened_faces heading (record { marks = marks; held = bytes_held input }) last none (known_left g.R.Read.remaining input) is.parts.entries
          c.in_ok-head.ensures.lawful told
          (subst (λ (h : Heading). AreWhole h is.parts.entries) (sym found.0) (text_whole first collection bytes is)) found.1,
    )

pub invariant_of-result-clause-left : goal.invariant_of-result-clause-left
invariant_of-result-clause-left g c = nothing_spelled 0 (bytes_held c.read_head.new.input)

pub returns-clause-sure : goal.returns-clause-sure
returns-clause-sure g c first collection bytes is known = is_sure g.R.Read.remaining _ [] is.parts.entries (returns-clause-faced g c first collection bytes is known).1

pub invariant_of-result-clause-narrow : goal.invariant_of-result-clause-narrow
invariant_of-result-clause-narrow g c =
    let has : HasTokens c.in_ok-tokens.tokens (map row_of_doc c.in_ok-head.head.docs.items) = rw (← c.deref.ensures.value) c.in_ok-tokens.ensures in
    omega (arith, c.in_ok-marks.ensures.narrow, c.total.ensures _ has)

pub invariant_of-result-clause-room : goal.invariant_of-result-clause-room
invariant_of-result-clause-room g c =
    let has : HasTokens c.in_ok-tokens.tokens (map row_of_doc c.in_ok-head.head.docs.items) = rw (← c.deref.ensures.value) c.in_ok-tokens.ensures in
    omega (arith, c.in_ok-marks.ensures.room, c.total.ensures _ has)
