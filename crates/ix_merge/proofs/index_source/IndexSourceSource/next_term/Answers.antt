use Rattle.std.proofs.Common.{◌≡◌, ◌+◌, [], ◌∷◌, Some, None, map, drop, refl, sym, ap, subst, ◌∙◌, arith}
use Rattle.std.specs.Option.{option_copied}
use Rattle.ix_run.specs.Heads.{heading_of}
use Rattle.ix_run.specs.Runs.{coded}
use Rattle.ix_run.specs.RunSources.{HasGiven, HasLeft, IsAtEndOfTerm, SourceValue}
use Rattle.ix_run.specs.Sources.{BeginsTerm, EndsTerms}
use Rattle.ix_run.proofs.RunSources.{no_postings, place_begun, place_ended, step_begun, step_ended}
use Rattle.ix_merge.proofs.IndexSources.{NextEntry, next_entry, no_more, told_by}
use Rattle.ix_merge.proofs.index_source.IndexSourceSource.next_term.Goals as goal

pub invariant_of-self : goal.invariant_of-self
invariant_of-self c =
    let none = no_more c.self.inside.index.now.parts.entries c.self.inside.number (omega (arith, c.term_count.ensures.count)) in
    (place_ended (heading_of c.self.inside.head) (map coded (drop c.self.inside.number c.self.inside.index.now.parts.entries)) (option_copied c.self.inside.term) c.self.inside.postings c.new-self-inside.result none (no_postings c.new-self-inside.result c.new-self-inside.ensures) c.self.invariant.0, c.self.invariant.1)

pub returns-then-self-term_count-clause-begun : goal.returns-then-self-term_count-clause-begun
returns-then-self-term_count-clause-begun c =
    let none = no_more c.self.inside.index.now.parts.entries c.self.inside.number (omega (arith, c.term_count.ensures.count)) in
    let P : SourceValue → Type 0 = λ old. EndsTerms HasLeft HasGiven IsAtEndOfTerm old (record { heading = (heading_of c.self.inside.head); terms = (map coded (drop c.self.inside.number c.self.inside.index.now.parts.entries)); term = None; postings = c.new-self-inside.result }) in
    (refl, (none, refl), subst P c.self.view_is (step_ended (heading_of c.self.inside.head) (map coded (drop c.self.inside.number c.self.inside.index.now.parts.entries)) (option_copied c.self.inside.term) c.self.inside.postings c.new-self-inside.result none (no_postings c.new-self-inside.result c.new-self-inside.ensures) c.self.invariant.0.none))

pub invariant_of-self-2 : goal.invariant_of-self-2
invariant_of-self-2 c =
    let next : NextEntry c.self.inside.index.now.parts.entries c.self.inside.number c.term.result.now c.list-self-inside.result = next_entry c.self.inside.index.now.parts.entries c.self.inside.number c.term.result.now c.list-self-inside.result c.term.ensures c.list-self-inside.ensures in (
      place_begun (heading_of c.self.inside.head) (map coded (drop c.self.inside.number c.self.inside.index.now.parts.entries)) (option_copied c.self.inside.term) c.self.inside.postings c.list-self-inside.result (coded next.entry) (map coded (drop (c.self.inside.number + 1) c.self.inside.index.now.parts.entries)) c.term.result.now next.terms next.of_term
          (told_by c.self.inside.index.now.parts next.entry c.list-self-inside.result c.self.invariant.1 next.among next.of_postings) c.self.invariant.0,
      c.self.invariant.1,
    )

pub returns-clause-begun : goal.returns-clause-begun
returns-clause-begun c =
    let next : NextEntry c.self.inside.index.now.parts.entries c.self.inside.number c.term.result.now c.list-self-inside.result = next_entry c.self.inside.index.now.parts.entries c.self.inside.number c.term.result.now c.list-self-inside.result c.term.ensures c.list-self-inside.ensures in
    let P : SourceValue → Type 0 = λ old. BeginsTerm HasLeft HasGiven IsAtEndOfTerm old (record { heading = (heading_of c.self.inside.head); terms = map coded (drop (c.self.inside.number + 1) c.self.inside.index.now.parts.entries); term = Some c.term.result.now; postings = c.list-self-inside.result }) c.term.result.now in (
      c.term.result.now,
      refl,
      subst P c.self.view_is
          (step_begun (heading_of c.self.inside.head) (map coded (drop c.self.inside.number c.self.inside.index.now.parts.entries)) (option_copied c.self.inside.term) c.self.inside.postings c.list-self-inside.result (coded next.entry) (map coded (drop (c.self.inside.number + 1) c.self.inside.index.now.parts.entries)) c.term.result.now next.terms next.of_term
          (told_by c.self.inside.index.now.parts next.entry c.list-self-inside.result c.self.invariant.1 next.among next.of_postings) c.self.invariant.0.none),
    )

pub returns-clause-ended : goal.returns-clause-ended
returns-clause-ended c = λ ended.
    let next : NextEntry c.self.inside.index.now.parts.entries c.self.inside.number c.term.result.now c.list-self-inside.result = next_entry c.self.inside.index.now.parts.entries c.self.inside.number c.term.result.now c.list-self-inside.result c.term.ensures c.list-self-inside.ensures in
    let none : (map coded (drop c.self.inside.number c.self.inside.index.now.parts.entries)) ≡ [] = ap (λ (s : SourceValue). s.terms) c.self.view_is ∙ ended.0 in
    let e : coded next.entry ∷ map coded (drop (c.self.inside.number + 1) c.self.inside.index.now.parts.entries) ≡ [] = sym next.terms ∙ none in
    absurd cc

pub returns-then-self-term_count-clause-no_more_faults : goal.returns-then-self-term_count-clause-no_more_faults
returns-then-self-term_count-clause-no_more_faults c = λ error may.
    absurd (may (no_more c.self.inside.index.now.parts.entries c.self.inside.number (omega (arith, c.term_count.ensures.count)), refl))

pub returns-clause-no_more_faults : goal.returns-clause-no_more_faults
returns-clause-no_more_faults c = λ error may ended.
    let next : NextEntry c.self.inside.index.now.parts.entries c.self.inside.number c.term.result.now c.list-self-inside.result = next_entry c.self.inside.index.now.parts.entries c.self.inside.number c.term.result.now c.list-self-inside.result c.term.ensures c.list-self-inside.ensures in
    let none : (map coded (drop c.self.inside.number c.self.inside.index.now.parts.entries)) ≡ [] = ap (λ (s : SourceValue). s.terms) c.self.view_is ∙ ended.0 in
    let e : coded next.entry ∷ map coded (drop (c.self.inside.number + 1) c.self.inside.index.now.parts.entries) ≡ [] = sym next.terms ∙ none in
    absurd cc
