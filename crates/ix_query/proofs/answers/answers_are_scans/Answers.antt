use Rattle.ix_query.proofs.PartLemmas.{answered_alike}
use Rattle.ix_query.proofs.ScanLemmas.{one_scan}
use Rattle.ix_query.proofs.answers.answers_are_scans.Goals as goal

pub returns-clause-scan : goal.returns-clause-scan
returns-clause-scan c = answered_alike

pub returns-clause-versions : goal.returns-clause-versions
returns-clause-versions c = λ one other version older collection query numbers others is is_other answer answer_other.
    one_scan collection query numbers others (answer version collection is) (answer_other older collection is_other)
