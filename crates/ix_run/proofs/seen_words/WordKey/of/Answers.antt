use Rattle.std.proofs.Common.{◌∙◌, ◌≡◌, ◌<◌, length, min, take, drop, ap, sym, arith}
use Rattle.std.proofs.lemmas.Bool.{eqb-false}
use Rattle.ix_run.specs.SeenWords.{number_of_bytes}
use Rattle.ix_run.proofs.SeenLemmas.{are_bytes, cut_at_half}
use Rattle.ix_run.proofs.seen_words.WordKey.of.Goals as goal

pub returns : goal.returns
returns c =
    let word = c.args.word.now in
    let same = c.as_bytes-bytes.ensures.value in
    let size = ap length same in
    let at : c.min.result ≡ min (length word) 8 = let is = c.min.ensures in omega (arith, is, size) in
    let cut = cut_at_half word c.min.result at in
    let some : 0 < length word = let filled = eqb-false (length c.as_bytes-bytes.result.now) 0 (sym c.if-is_empty.ensures) in omega (arith, filled, size) in
    record {
      some = some;
      bytes = are_bytes word (λ k. let fits = c.type_inv.word k in omega (arith, fits));
      size = size;
      front = c.number_of_bytes.ensures ∙ ap number_of_bytes (c.split_at.ensures.front ∙ ap (take c.min.result) same ∙ cut.0);
      back = c.number_of_bytes-2.ensures ∙ ap number_of_bytes (c.split_at.ensures.back ∙ ap (drop c.min.result) same ∙ cut.1);
    }
