use Rattle.std.proofs.Common.{ap, arith, sym, ◌∙◌}
use Rattle.ix_index_text.specs.IndexText.{end_mark}
use Rattle.ix_file.proofs.FrameReading.{one_mark}
use Rattle.ix_lookup.specs.Versions.{version_in}
use Rattle.ix_extract.proofs.TrailerLemmas.{counts_told, ends_told, sizes_sum, sizes_told}
use Rattle.ix_extract.proofs.trailer.read_trailer.Goals as goal

pub returns-in_default-clause-found : goal.returns-in_default-clause-found
returns-in_default-clause-found c = λ version texts rows terms few small all e.
    let ends = ends_told c.args.frame.now c.split_ends-parts.result c.split_ends-parts.ensures version texts rows terms e in
    c.in_default.ensures version ends.mark_is

pub returns-then-not-is_end_mark-clause-found : goal.returns-then-not-is_end_mark-clause-found
returns-then-not-is_end_mark-clause-found c = λ version texts rows terms few small all e.
    let ends = ends_told c.args.frame.now c.split_ends-parts.result c.split_ends-parts.ensures version texts rows terms e in
    let same = one_mark version (version_in c.in-Some.version) (sym ends.mark_is ∙ c.in-Some.ensures) in
    let has = c.is_end_mark.ensures.1 (ends.end_mark_is ∙ ap end_mark same) in
    cc (has, c.if-not-is_end_mark.true)

pub returns-then-not-have_sum-clause-found : goal.returns-then-not-have_sum-clause-found
returns-then-not-have_sum-clause-found c = λ version texts rows terms few small all e.
    let ends = ends_told c.args.frame.now c.split_ends-parts.result c.split_ends-parts.ensures version texts rows terms e in
    let are = sizes_told texts c.read_sizes-sizes.result c.args.left (omega (arith, c.ranges.left.fits)) c.read_sizes-sizes.ensures.small all (ends.sizes_are ∙ c.read_sizes-sizes.ensures.told) in
    let has = c.have_sum.ensures.1 (sizes_sum texts c.read_sizes-sizes.result are ∙ all) in
    cc (has, c.if-not-have_sum.true)

pub returns-clause-found : goal.returns-clause-found
returns-clause-found c = λ version texts rows terms few small all e.
    let ends = ends_told c.args.frame.now c.split_ends-parts.result c.split_ends-parts.ensures version texts rows terms e in
    let are = sizes_told texts c.read_sizes-sizes.result c.args.left (omega (arith, c.ranges.left.fits)) c.read_sizes-sizes.ensures.small all (ends.sizes_are ∙ c.read_sizes-sizes.ensures.told) in
    let numbers = counts_told rows terms c.read_counts-rows.result.0 c.read_counts-rows.result.1 few small (omega arith) (omega arith) (ends.counts_are ∙ c.read_counts-rows.ensures) in
    record {
      of_version = one_mark (version_in c.in-Some.version) version (sym c.in-Some.ensures ∙ ends.mark_is);
      postings_size = are.postings;
      stop_size = are.stop;
      documents_size = are.documents;
      dictionary_size = are.dictionary;
      document_count = numbers.0;
      term_count = numbers.1;
    }
