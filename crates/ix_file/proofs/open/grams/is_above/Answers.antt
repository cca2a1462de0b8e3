use Rattle.std.proofs.Common.{ap, ap₂, ◌∙◌, is_lt}
use Rattle.std.specs.Cmp.Lexicographic.{slice_cmp}
use Rattle.std.specs.Ordering.{nat_cmp}
use Rattle.ix_file.specs.OpenedGrams.{gram_in}
use Rattle.ix_file.proofs.AscendingLemmas.{pair_test}
use Rattle.ix_file.proofs.open.grams.is_above.Goals as goal

pub returns-in-Some : goal.returns-in-Some
returns-in-Some c =
    let section = c.args.section.now in
    rw c.in-Some.is
    (pair_test (gram_in section c.in-Some.before.now).gram (gram_in section c.args.row).gram c.is_lt.result
    (c.is_lt.ensures ∙ ap is_lt (c.cmp.ensures ∙ ap₂ (slice_cmp nat_cmp) c.gram_bytes.ensures c.gram_bytes-in-Some.ensures)))
