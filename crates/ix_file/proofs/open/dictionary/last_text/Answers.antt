use Rattle.ix_file.proofs.ListingReading.{last_text_is}
use Rattle.ix_file.proofs.open.dictionary.last_text.Goals as goal

pub returns : goal.returns
returns c = last_text_is c.args.terms.now c.text.result.now c.len-count.result c.len-count.ensures.count c.text.ensures
