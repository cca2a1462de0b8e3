use Rattle.ix_index_text.specs.IndexText.{end_mark}
use Rattle.ix_index_text.specs.Sections.{Plain, FrontCoded}
use Rattle.ix_file.proofs.FrameReading.{same_mark}
use Rattle.ix_extract.proofs.trailer.is_end_mark.Goals as goal

pub returns-in-Plain : goal.returns-in-Plain
unfolding end_mark
returns-in-Plain c = rw c.in-Plain.is (same_mark c.args.mark.now (end_mark Plain) c.eq.result c.eq.ensures)

pub returns-in-FrontCoded : goal.returns-in-FrontCoded
unfolding end_mark
returns-in-FrontCoded c =
    rw c.in-FrontCoded.is
    (same_mark c.args.mark.now (end_mark FrontCoded) c.eq-in-FrontCoded.result c.eq-in-FrontCoded.ensures)
