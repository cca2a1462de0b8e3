-- The test of a text against the last of the texts.
use Rattle.std.proofs.Common.{[], ◌≡◌, ◌<◌, ◌-◌, length, map, string_bytes, get_or, ap, sym, ◌∙◌, arith}
use Rattle.std.proofs.lemmas.List.{length-map, get_or-map}
use Rattle.ix_run_text.proofs.OrderLemmas.{above_by}
use Rattle.ix_run_text.proofs.stop_terms.stands_above.Goals as goal

pub returns-in-Some : goal.returns-in-Some
returns-in-Some c =
    let strings = c.args.texts.now in
    let texts = map string_bytes strings in
    let last = c.in-Some.last.now in
    let item = c.in-Some.ensures.item in
    let some : 0 < length strings = item.3.0 in
    let len = length-map strings string_bytes in
    let is : string_bytes last ≡ get_or texts (length texts - 1) [] =
    let at : last ≡ get_or strings (length texts - 1) last = rw len item.1 in
    ap string_bytes at ∙ sym (get_or-map string_bytes strings (length texts - 1) last [] (omega arith)) in
    above_by texts c.args.text.now (string_bytes last) c.lt.result (omega arith) is (cc)
