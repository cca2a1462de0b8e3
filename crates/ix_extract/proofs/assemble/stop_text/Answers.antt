use Rattle.ix_index_text.specs.IndexText.{magic}
use Rattle.ix_extract.specs.Gathered.{stop_at}
use Rattle.ix_extract.proofs.StopLemmas.{stop_framed}
use Rattle.ix_extract.proofs.assemble.stop_text.Goals as goal

pub returns-clause-text : goal.returns-clause-text
unfolding magic
returns-clause-text g c = λ bytes known.
    stop_framed (stop_at bytes c.args.trailer.now) c.new-out.result.items c.extend_from_slice.new.self.items c.append_at.new.out.items c.append_trailer.new.out.items c.args.trailer.now.stop c.new-out.ensures.items
    c.in_ok-extend_from_slice.ensures.items (c.in_ok-append_at.ensures.told bytes known) c.in_ok-append_at.ensures.sized c.in_ok-append_trailer.ensures
