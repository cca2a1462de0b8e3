use Rattle.std.proofs.Common.{List, ℕ, IsSome, sym, ap, subst, ◌∙◌}
use Rattle.std.specs.Option.{option_copied}
use Rattle.ix_run_text.specs.Heads.{heading_of}
use Rattle.ix_run.specs.RunSources.{HasGiven, HasLeft, SourceValue}
use Rattle.ix_run_text.specs.Sources.{GivesPosting}
use Rattle.ix_run.proofs.Lacking.{going_fault, some_going}
use Rattle.ix_run.proofs.RunSources.{ends_next, place_next, step_given}
use Rattle.ix_vbyte.proofs.GapCodes.{on_err_of}
use Rattle.ix_run.proofs.run_source.RunSourceSource.next_posting.Goals as goal

pub invariant_of-self : goal.invariant_of-self
invariant_of-self c =
    let some : IsSome (option_copied c.self.inside.term) = subst (λ (s : SourceValue). IsSome s.term) (sym c.self.view_is) c.requires in (
      place_next (heading_of c.self.inside.head.now) c.self.inside.terms (option_copied c.self.inside.term) (c.in-Some.posting.document, c.in-Some.posting.positions) c.next.new.self c.self.inside.postings
          (sym c.again-postings.ensures ∙ c.in-Some.ensures.steps) some c.self.invariant.0,
      ends_next c.self.inside.last c.self.inside.postings c.next.new.self (c.in-Some.posting.document, c.in-Some.posting.positions) (sym c.again-postings.ensures ∙ c.in-Some.ensures.steps) c.self.invariant.1,
    )

pub returns-clause-given : goal.returns-clause-given
returns-clause-given c =
    let after : SourceValue = record { heading = heading_of c.self.inside.head.now; terms = c.self.inside.terms; term = option_copied c.self.inside.term; postings = c.next.new.self } in
    let P : SourceValue → Type 0 = λ old. GivesPosting HasLeft HasGiven old after (c.in-Some.posting.document, c.read_positions.new.positions.items) in
    let Q : List ℕ → Type 0 = λ positions. GivesPosting HasLeft HasGiven (record { heading = heading_of c.self.inside.head.now; terms = c.self.inside.terms; term = option_copied c.self.inside.term; postings = c.self.inside.postings }) after (c.in-Some.posting.document, positions) in
    subst P c.self.view_is
    (subst Q (sym c.in_ok-read_positions.ensures.ok)
    (step_given (heading_of c.self.inside.head.now) c.self.inside.terms (option_copied c.self.inside.term) (c.in-Some.posting.document, c.in-Some.posting.positions) c.next.new.self c.self.inside.postings
    (sym c.again-postings.ensures ∙ c.in-Some.ensures.steps)))

pub returns-in_err-read_positions-clause-full : goal.returns-in_err-read_positions-clause-full
returns-in_err-read_positions-clause-full c =
    on_err_of c.from_residual.result (record {
      posting = (c.in-Some.posting.document, c.in-Some.posting.positions);
      others = c.next.new.self;
      parts = sym (ap (λ (s : SourceValue). s.postings) c.self.view_is) ∙ sym c.again-postings.ensures ∙ c.in-Some.ensures.steps;
      more = c.in_err-read_positions.ensures.full;
    })

pub returns-in_default-clause-no_more_faults : goal.returns-in_default-clause-no_more_faults
returns-in_default-clause-no_more_faults c = λ error may. some_going c.args.self.now c.requires

pub returns-clause-no_more_faults : goal.returns-clause-no_more_faults
returns-clause-no_more_faults c = λ error may. some_going c.args.self.now c.requires

pub returns-in_err-read_positions-clause-fault : goal.returns-in_err-read_positions-clause-fault
returns-in_err-read_positions-clause-fault c = going_fault c.args.self.now c.from_residual.result c.requires
