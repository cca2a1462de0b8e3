use Rattle.std.proofs.Common.{◌-◌, arith}
use Rattle.ix_index_text.specs.IndexText.{magic}
use Rattle.ix_extract.specs.Assembled.{texts_of}
use Rattle.ix_extract.specs.declared.trailer.Sizes.{Sizes}
use Rattle.ix_extract.proofs.AssembleLemmas.{AreAppended, body_appended, framed_behind, sizes_appended}
use Rattle.ix_extract.proofs.assemble.assemble.Goals as goal

pub returns-clause-assembled : goal.returns-clause-assembled
unfolding magic
returns-clause-assembled g c = λ bytes known.
    let trailer = c.args.trailer.now in
    let grams = c.in_ok-append_grams.ensures in
    let texts = texts_of bytes trailer c.args.found.now grams.grams in
    let sizes : Sizes = record {
      postings = c.len-stop.result - 8;
      stop = trailer.stop;
      documents = trailer.documents;
      dictionary = c.len-grams.result - c.len-dictionary.result;
      grams = c.len.result - c.len-grams.result;
    } in
    let o0 = c.new-out.result.items in
    let o1 = c.extend_from_slice.new.self.items in
    let o2 = c.append_lists.new.out.items in
    let o3 = c.append_at.new.out.items in
    let o4 = c.append_at-2.new.out.items in
    let o5 = c.append_entries.new.out.items in
    let o6 = c.append_grams.new.out.items in
    let are : AreAppended texts o0 o1 o2 o3 o4 o5 o6 = record {
      none = c.new-out.ensures.items;
      mark = c.in_ok-extend_from_slice.ensures.items;
      postings = c.in_ok-append_lists.ensures.lists bytes known;
      stop = c.in_ok-append_at.ensures.told bytes known;
      documents = c.in_ok-append_at-2.ensures.told bytes known;
      dictionary = c.in_ok-append_entries.ensures;
      grams = grams.appended;
    } in
    let of = sizes_appended texts sizes o0 o1 o2 o3 o4 o5 o6 are (omega (arith, c.len-stop.ensures)) c.in_ok-append_at.ensures.sized c.in_ok-append_at-2.ensures.sized (omega (arith, c.len-grams.ensures, c.len-dictionary.ensures)) (omega (arith, c.len.ensures, c.len-grams.ensures)) in
    record {
      grams = grams.grams;
      of_terms = grams.of_terms;
      spelled = framed_behind texts sizes _ _ o6 c.append_trailer.new.out.items of (body_appended texts o0 o1 o2 o3 o4 o5 o6 are) c.in_ok-append_trailer.ensures;
    }
