use Rattle.ix_index_text.specs.IndexText.{magic}
use Rattle.ix_index_text.specs.Sections.{Plain, FrontCoded}
use Rattle.ix_file.proofs.FrameReading.{same_mark, no_mark}
use Rattle.ix_extract.proofs.trailer.version_of.Goals as goal

pub returns-then-eq : goal.returns-then-eq
unfolding magic
returns-then-eq c = (same_mark c.args.mark.now (magic Plain) c.eq.result c.eq.ensures).0 c.if-eq.true

pub returns-then-eq-2 : goal.returns-then-eq-2
unfolding magic
returns-then-eq-2 c =
    (same_mark c.args.mark.now (magic FrontCoded) c.eq-2.result c.eq-2.ensures).0 c.if-eq-2.true

pub returns : goal.returns
unfolding magic
returns c =
    let plain = same_mark c.args.mark.now (magic Plain) c.eq.result c.eq.ensures in
    let coded = same_mark c.args.mark.now (magic FrontCoded) c.eq-2.result c.eq-2.ensures in
    no_mark c.args.mark.now (λ e. cc (plain.1 e, c.if-eq.false)) (λ e. cc (coded.1 e, c.if-eq-2.false))
