use Rattle.std.proofs.Common.{All, ◌≡◌, ◌<◌, ◌∷◌, [], ◌++◌, length, map, inr, refl, sym, ap, ◌∙◌, arith}
use Rattle.std.proofs.lemmas.Bool.Decides.{nat_tests}
use Rattle.std.proofs.lemmas.List.{map-append, length-map}
use Rattle.std.proofs.lemmas.List.Elements.{All-nil, All-push}
use Rattle.std.proofs.lemmas.Result.{err_from_is_err_and}
use Rattle.ix_file.specs.OpenedRows.{IsNameRow, row_in, rows_in}
use Rattle.ix_file.proofs.RowReading.{no_rows, rows_of_none, rows_more, rows_push, tokens_of, tokens_push, none_next, these_rows, rows_apart}
use Rattle.ix_file.proofs.open.documents.read_documents.Goals as goal

pub loop-left-init : goal.loop-left-init
loop-left-init c = rw c.in_ok-rows.ensures.items (record { lawful = no_rows; sum = refl; placed = All-nil (IsNameRow c.args.section.now); small = omega arith; read = rows_of_none c.args.section.now })

pub returns-in_err-row-clause-refused : goal.returns-in_err-row-clause-refused
returns-in_err-row-clause-refused c =
    let p = err_from_is_err_and c.from_residual-in_err-row.result c.from_residual-in_err-row.ensures.1 in
    let some : 0 < length c.loop-left.left.now = grind (arith, nat_tests, c.is_empty.ensures, c.loop-left-test.true) in
    rw p.1
    (inr
    (λ rows are count same.
    none_next c.args.section.now (rows_in c.args.section.now c.loop-left.rows.items) c.loop-left.left.now c.loop-left.invariant.read some
    (λ row rest may e. c.in_err-row.ensures.refused row rest may.name (omega (arith, may.few)) e) rows are same))

pub returns-then-row-tokens-clause-refused : goal.returns-then-row-tokens-clause-refused
returns-then-row-tokens-clause-refused c =
    let section = c.args.section.now in
    let some : 0 < length c.loop-left.left.now = grind (arith, nat_tests, c.is_empty.ensures, c.loop-left-test.true) in
    let many = c.if-row-tokens.true in
    let small = c.loop-left.invariant.small in
    inr
    (λ rows are count same.
    none_next section (rows_in section c.loop-left.rows.items) c.loop-left.left.now c.loop-left.invariant.read some
    (λ row rest may e.
    let one = (rows_apart (row_in section c.in_ok-row.row) row c.in_ok-row.rest.now rest (sym c.in_ok-row.ensures.found ∙ e)).0 in
    omega (arith, many, small, c.loop-left.invariant.sum, may.few, ap (λ r. r.tokens) one))
    rows are same)

pub loop-left-preserved : goal.loop-left-preserved
loop-left-preserved c =
    let section = c.args.section.now in
    let old = rows_in section c.loop-left.rows.items in
    let row = row_in section c.in_ok-row.row in
    let pushed : rows_in section c.push.new.self.items ≡ old ++ row ∷ [] =
    ap (map (row_in section)) c.in_ok-push.ensures.items ∙ map-append (row_in section) c.loop-left.rows.items (c.in_ok-row.row ∷ []) in
    let sum : c.loop-left.tokens ≡ tokens_of old = c.loop-left.invariant.sum in
    let few = c.if-row-tokens.false in
    let small = c.loop-left.invariant.small in
    let placed : All (IsNameRow section) c.push.new.self.items = rw c.in_ok-push.ensures.items (All-push (IsNameRow section) c.loop-left.rows.items c.in_ok-row.row c.loop-left.invariant.placed c.in_ok-row.ensures.placed) in
    rw pushed
    (record {
      placed = placed;
      lawful = rows_push old row c.loop-left.invariant.lawful c.in_ok-row.ensures.name (omega arith);
      sum = omega (arith, tokens_push old row);
      small = omega arith;
      read = rows_more section old row c.loop-left.left.now c.in_ok-row.rest.now c.loop-left.invariant.read c.in_ok-row.ensures.found;
    })

pub returns-then-len-count-clause-refused : goal.returns-then-len-count-clause-refused
returns-then-len-count-clause-refused c =
    let section = c.args.section.now in
    let done = rows_in section c.loop-left.rows.items in
    let nothing : length c.loop-left.left.now ≡ 0 = grind (arith, nat_tests, c.is_empty.ensures, c.loop-left-test.false) in
    inr
    (λ rows are count same.
    let whole = these_rows section done c.loop-left.left.now c.loop-left.invariant.read nothing rows same in
    let other = c.if-len-count.true in
    omega (arith, other, count, ap length whole, c.len.ensures, length-map c.loop-left.rows.items (row_in section)))
