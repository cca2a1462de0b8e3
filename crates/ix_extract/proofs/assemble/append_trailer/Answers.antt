use Rattle.ix_index_text.specs.IndexText.{end_mark}
use Rattle.ix_index_text.specs.Sections.{Plain}
use Rattle.ix_file.specs.Frames.{eight, four}
use Rattle.ix_extract.proofs.AssembleLemmas.{trailer_behind}
use Rattle.ix_extract.proofs.assemble.append_trailer.Goals as goal

pub returns : goal.returns
unfolding end_mark
returns c =
    let sizes = c.args.sizes.now in
    trailer_behind c.args.out.now.items _ _ _ _ _ _ _ _ (eight sizes.postings) (eight sizes.stop) (eight sizes.documents) (eight sizes.dictionary) (eight sizes.grams) (four c.args.rows) (four c.args.terms) (end_mark Plain)
    c.in_ok-append_size.ensures c.in_ok-append_size-2.ensures c.in_ok-append_size-3.ensures c.in_ok-append_size-4.ensures c.in_ok-append_size-5.ensures c.in_ok-append_count.ensures c.in_ok-append_count-2.ensures
    c.in_ok-extend_from_slice.ensures.items
