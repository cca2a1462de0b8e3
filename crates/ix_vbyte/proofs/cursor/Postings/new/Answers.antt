use Rattle.std.proofs.Common.{◌∙◌}
use Rattle.ix_vbyte.proofs.Walks.{coded_list, coded_list_are}
use Rattle.ix_vbyte.proofs.cursor.Postings.new.Goals as goal

pub resume-requires : goal.resume-requires
resume-requires c = coded_list_are c.args.count c.args.bytes.now c.requires

pub returns : goal.returns
returns c postings are counted coded = c.resume.ensures ∙ (coded_list c.args.count c.args.bytes.now postings are counted coded).told
