use Rattle.std.proofs.Common.{◌≡◌, List, [], Some, None, refl, sym, ap, subst, ◌∙◌}
use Rattle.std.specs.Option.{option_copied}
use Rattle.ix_run_text.specs.Heads.{heading_of}
use Rattle.ix_run.specs.Runs.{TermValue, term_shown}
use Rattle.ix_run.specs.RunSources.{HasGiven, HasLeft, IsAtEndOfTerm, IsAtPlace, SourceValue}
use Rattle.ix_run_text.specs.Sources.{BeginsTerm, EndsTerms}
use Rattle.ix_run.proofs.RunSources.{ends_begun, ends_none, first_list, no_postings, place_begun, place_ended, step_begun, step_ended}
use Rattle.ix_run.proofs.run_source.RunSourceSource.next_term.Goals as goal

-- what holds of the terms that are to be left holds of those that are
of_left : (P : List TermValue → Type 0) (now left : List TermValue) → now ≡ left → P left → P now
of_left P now left same holds = subst P (sym same) holds

pub invariant_of-self : goal.invariant_of-self
invariant_of-self c =
    let none = no_postings c.new-self-inside.result c.new-self-inside.ensures in
    let P : List TermValue → Type 0 = λ terms. IsAtPlace (record { heading = heading_of c.self.inside.head.now; terms = terms; term = None; postings = c.new-self-inside.result }) in (
      of_left P c.next.new.self c.self.inside.terms (c.in_default.ensures.1 ∙ sym c.in_default.ensures.0) (place_ended (heading_of c.self.inside.head.now) c.self.inside.terms (option_copied c.self.inside.term) c.self.inside.postings c.new-self-inside.result
          c.in_default.ensures.0 none c.self.invariant.0),
      ends_none c.self.inside.last c.new-self-inside.result none,
    )

pub returns-in_default-clause-begun : goal.returns-in_default-clause-begun
returns-in_default-clause-begun c =
    let none : c.self.inside.terms ≡ [] = c.in_default.ensures.0 in
    let P : SourceValue → Type 0 = λ old. EndsTerms HasLeft HasGiven IsAtEndOfTerm old (record { heading = heading_of c.self.inside.head.now; terms = c.next.new.self; term = None; postings = c.new-self-inside.result }) in
    let Q : List TermValue → Type 0 = λ terms. EndsTerms HasLeft HasGiven IsAtEndOfTerm (record { heading = heading_of c.self.inside.head.now; terms = c.self.inside.terms; term = option_copied c.self.inside.term; postings = c.self.inside.postings }) (record { heading = heading_of c.self.inside.head.now; terms = terms; term = None; postings = c.new-self-inside.result }) in (
      refl,
      (c.in_default.ensures.1, refl),
      subst P c.self.view_is
          (of_left Q c.next.new.self c.self.inside.terms (c.in_default.ensures.1 ∙ sym none)
          (step_ended (heading_of c.self.inside.head.now) c.self.inside.terms (option_copied c.self.inside.term) c.self.inside.postings c.new-self-inside.result none
          (no_postings c.new-self-inside.result c.new-self-inside.ensures) c.self.invariant.0.none)),
    )

pub new-self-inside-requires-2 : goal.new-self-inside-requires-2
new-self-inside-requires-2 c =
    first_list c.self.inside.terms (term_shown c.in-Some.term) c.next.new.self c.self.invariant.0.given.rest c.in-Some.term.list.now
    c.in-Some.ensures refl c.self.invariant.0.given.left

pub invariant_of-self-2 : goal.invariant_of-self-2
invariant_of-self-2 c =
    let P : List TermValue → Type 0 = λ terms. IsAtPlace (record { heading = heading_of c.self.inside.head.now; terms = terms; term = Some c.in-Some.term.term.now; postings = c.new-self-inside-2.result }) in (
      of_left P _ c.next.new.self (cc)
          (place_begun (heading_of c.self.inside.head.now) c.self.inside.terms (option_copied c.self.inside.term) c.self.inside.postings c.new-self-inside-2.result
          (term_shown c.in-Some.term) c.next.new.self c.in-Some.term.term.now c.in-Some.ensures refl
          (λ told are counted bytes. c.new-self-inside-2.ensures told are counted bytes) c.self.invariant.0),
      ends_begun c.self.inside.terms (term_shown c.in-Some.term) c.next.new.self c.self.invariant.0.given.rest c.new-self-inside-2.result c.in-Some.term.last
          c.in-Some.ensures c.self.invariant.0.given.left (λ told are counted bytes. c.new-self-inside-2.ensures told are counted bytes) refl,
    )

pub returns-clause-begun : goal.returns-clause-begun
returns-clause-begun c =
    let P : SourceValue → Type 0 = λ old. BeginsTerm HasLeft HasGiven IsAtEndOfTerm old (record { heading = heading_of c.self.inside.head.now; terms = c.next.new.self; term = Some c.in-Some.term.term.now; postings = c.new-self-inside-2.result }) c.in-Some.term.term.now in (
      c.in-Some.term.term.now,
      refl,
      subst P c.self.view_is
          (step_begun (heading_of c.self.inside.head.now) c.self.inside.terms (option_copied c.self.inside.term) c.self.inside.postings c.new-self-inside-2.result
          (term_shown c.in-Some.term) c.next.new.self c.in-Some.term.term.now c.in-Some.ensures refl
          (λ told are counted bytes. c.new-self-inside-2.ensures told are counted bytes) c.self.invariant.0.none),
    )

pub returns-in_default-clause-no_more_faults : goal.returns-in_default-clause-no_more_faults
returns-in_default-clause-no_more_faults c = λ error may. absurd (may (c.in_default.ensures.1, refl))

pub returns-clause-no_more_faults : goal.returns-clause-no_more_faults
returns-clause-no_more_faults c = λ error may ended.
    let some = c.in-Some.ensures in
    let none = ap (λ (s : SourceValue). s.terms) c.self.view_is ∙ ended.0 in
    absurd (cc)
