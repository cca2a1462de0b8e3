-- What is proved of lines and steps, by the laws of queries.
use Rattle.ix_script.proofs.Uniqueness.{faults_exclude, one_fault, one_script}
use Rattle.ix_script.proofs.laws.has_steps_or_a_fault.Goals as goal

pub returns-clause-one_script : goal.returns-clause-one_script
returns-clause-one_script c = one_script c.a_text_has_one_tree.ensures

pub returns-clause-one_fault : goal.returns-clause-one_fault
returns-clause-one_fault c = one_fault c.queries_are_those_of_the_grammar.ensures

pub returns-clause-refused : goal.returns-clause-refused
returns-clause-refused c = faults_exclude c.queries_are_those_of_the_grammar.ensures
