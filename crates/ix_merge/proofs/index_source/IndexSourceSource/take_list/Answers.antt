-- The list that is left is that of the current entry, so that its documents can be counted from the head's first number.
use Rattle.std.proofs.Common.{ℕ, ◌<◌, map, drop, length, sym, subst, ◌∙◌, arith}
use Rattle.std.specs.Option.{option_copied}
use Rattle.ix_run.specs.Heads.{heading_of}
use Rattle.ix_run.specs.Runs.{coded, last_document}
use Rattle.ix_run.specs.RunSources.{EndsAt, HasGiven, HasLeft, SourceValue}
use Rattle.ix_run.specs.Sources.{GivesList}
use Rattle.ix_run.proofs.ListSteps.{if_granted}
use Rattle.ix_run.proofs.Lacking.{some_going}
use Rattle.ix_run.proofs.RunSources.{can_shift, no_postings, place_list, step_list, step_no_list}
use Rattle.ix_merge.proofs.IndexSources.{ends_somewhere}
use Rattle.ix_merge.proofs.index_source.IndexSourceSource.take_list.Goals as goal

pub overflow_cast-documents : goal.overflow_cast-documents
overflow_cast-documents c =
    let source : SourceValue = record { heading = (heading_of c.self.inside.head); terms = (map coded (drop c.self.inside.number c.self.inside.index.now.parts.entries)); term = (option_copied c.self.inside.term); postings = c.self.inside.postings } in
    let few = (can_shift source c.args.self.now (last_document c.self.inside.postings) c.args.next c.self.view_is c.self.invariant.0 (ends_somewhere c.self.inside.postings) c.requires.at_hand c.requires.low).few in
    omega (arith, few, c.len-documents.ensures.value)

pub returns-then-documents-eq0-clause-given : goal.returns-then-documents-eq0-clause-given
returns-then-documents-eq0-clause-given c =
    let P : ℕ → Type 0 = λ n. GivesList HasLeft HasGiven c.args.self.now c.args.self.now c.args.self.now.heading.first c.args.next n c.args.next c.args.out.now.items c.args.out.now.items in
    subst P (sym c.if-documents-eq0.true)
    (step_no_list (heading_of c.self.inside.head) (map coded (drop c.self.inside.number c.self.inside.index.now.parts.entries)) (option_copied c.self.inside.term) c.self.inside.postings c.args.self.now c.self.view_is c.args.next c.args.out.now.items (omega arith))

pub push_shifted-requires : goal.push_shifted-requires
push_shifted-requires c =
    let source : SourceValue = record { heading = (heading_of c.self.inside.head); terms = (map coded (drop c.self.inside.number c.self.inside.index.now.parts.entries)); term = (option_copied c.self.inside.term); postings = c.self.inside.postings } in
    let ends : EndsAt c.last_document-last.result c.self.inside.postings = subst (EndsAt c.last_document-last.result) c.again.ensures c.last_document-last.ensures in
    let can = can_shift source c.args.self.now c.last_document-last.result c.args.next c.self.view_is c.self.invariant.0 ends c.requires.at_hand c.requires.low in
    can.are

pub overflow_add-result : goal.overflow_add-result
overflow_add-result c =
    let source : SourceValue = record { heading = (heading_of c.self.inside.head); terms = (map coded (drop c.self.inside.number c.self.inside.index.now.parts.entries)); term = (option_copied c.self.inside.term); postings = c.self.inside.postings } in
    let ends : EndsAt c.last_document-last.result c.self.inside.postings = subst (EndsAt c.last_document-last.result) c.again.ensures c.last_document-last.ensures in
    let can = can_shift source c.args.self.now c.last_document-last.result c.args.next c.self.view_is c.self.invariant.0 ends c.requires.at_hand c.requires.low in
    let some : 0 < length c.self.inside.postings = omega (arith, c.len-documents.ensures.value) in
    omega (arith, can.fits some)

pub overflow_add-result-2 : goal.overflow_add-result-2
overflow_add-result-2 c =
    let source : SourceValue = record { heading = (heading_of c.self.inside.head); terms = (map coded (drop c.self.inside.number c.self.inside.index.now.parts.entries)); term = (option_copied c.self.inside.term); postings = c.self.inside.postings } in
    let ends : EndsAt c.last_document-last.result c.self.inside.postings = subst (EndsAt c.last_document-last.result) c.again.ensures c.last_document-last.ensures in
    let can = can_shift source c.args.self.now c.last_document-last.result c.args.next c.self.view_is c.self.invariant.0 ends c.requires.at_hand c.requires.low in
    let some : 0 < length c.self.inside.postings = omega (arith, c.len-documents.ensures.value) in
    omega (arith, can.fits some)

pub invariant_of-self : goal.invariant_of-self
invariant_of-self c =
    let none = no_postings c.new-self-inside.result c.new-self-inside.ensures in
    (place_list (heading_of c.self.inside.head) (map coded (drop c.self.inside.number c.self.inside.index.now.parts.entries)) (option_copied c.self.inside.term) c.self.inside.postings c.args.self.now c.self.view_is c.new-self-inside.result none c.requires.at_hand c.self.invariant.0, c.self.invariant.1)

pub returns-clause-drained : goal.returns-clause-drained
returns-clause-drained c = λ some. no_postings c.new-self-inside.result c.new-self-inside.ensures

pub returns-clause-given : goal.returns-clause-given
returns-clause-given c =
    let source : SourceValue = record { heading = (heading_of c.self.inside.head); terms = (map coded (drop c.self.inside.number c.self.inside.index.now.parts.entries)); term = (option_copied c.self.inside.term); postings = c.self.inside.postings } in
    let ends : EndsAt c.last_document-last.result c.self.inside.postings = subst (EndsAt c.last_document-last.result) c.again.ensures c.last_document-last.ensures in
    let can = can_shift source c.args.self.now c.last_document-last.result c.args.next c.self.view_is c.self.invariant.0 ends c.requires.at_hand c.requires.low in
    let some : 0 < length c.self.inside.postings = omega (arith, c.len-documents.ensures.value) in
    step_list (heading_of c.self.inside.head) (map coded (drop c.self.inside.number c.self.inside.index.now.parts.entries)) (option_copied c.self.inside.term) c.self.inside.postings c.args.self.now c.self.view_is c.new-self-inside.result (no_postings c.new-self-inside.result c.new-self-inside.ensures)
    c.args.next _ _ c.args.out.now.items c.push_shifted.new.out.items c.len-documents.ensures.value (sym (can.after some))
    (if_granted c.push_shifted.result (sym c.is_err.ensures.value ∙ c.if-is_err.false) c.push_shifted.ensures.ok)

pub returns-then-documents-eq0-clause-no_more_faults : goal.returns-then-documents-eq0-clause-no_more_faults
returns-then-documents-eq0-clause-no_more_faults c = λ error may. some_going c.args.self.now c.requires.at_hand

pub returns-clause-no_more_faults : goal.returns-clause-no_more_faults
returns-clause-no_more_faults c = λ error may. some_going c.args.self.now c.requires.at_hand
