use Rattle.ix_text.proofs.CollectionLaws.{one_list, one_fault, refused, complete}
use Rattle.ix_text.proofs.collection.has_documents_or_a_fault.Goals as goal

pub returns-clause-one_list : goal.returns-clause-one_list
returns-clause-one_list c = one_list

pub returns-clause-one_fault : goal.returns-clause-one_fault
returns-clause-one_fault c = one_fault

pub returns-clause-refused : goal.returns-clause-refused
returns-clause-refused c = refused

pub returns-clause-complete : goal.returns-clause-complete
returns-clause-complete c = complete
