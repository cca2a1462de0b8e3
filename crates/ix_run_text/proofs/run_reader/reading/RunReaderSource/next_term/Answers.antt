-- At the end a reader stays; before it, the private call has gone on.
use Rattle.std.proofs.Common.{◌≡◌, ℕ, Bool, true, false, List, MatchBool, None, Option, Some, ap, string_bytes}
use Rattle.ix_run_text.specs.Reading.{HasRead, IsDrained, IsEnded, MayYield, term_at, term_of}
use Rattle.ix_run_text.specs.Sources.{BeginsTerm, EndsTerms}
use Rattle.ix_run_text.specs.declared.run_reader.Place.{Place}
use Rattle.ix_run_text.specs.declared.run_reader.Place.TheVariants.{AtTerm, Ended}
use Rattle.ix_run_text.specs.declared.run_reader.RunReader.{RunReader}
use Rattle.ix_run_text.proofs.Faulting.{going_begun, keeps_faults_on, may_fault, well_begun}
use Rattle.ix_run_text.proofs.ReadSkips.{ends_again}
use Rattle.ix_run_text.proofs.TakenLists.{none_ahead}
use Rattle.ix_run_text.proofs.run_reader.reading.RunReaderSource.next_term.Goals as goal

at_no_term : (place : Place) → place ≡ Ended → place ≡ AtTerm → ⊥
at_no_term place over here = cc

pub returns-in-Ended-clause-begun : goal.returns-in-Ended-clause-begun
returns-in-Ended-clause-begun g c =
    let self = c.args.self.now in
    let none = self.drained (at_no_term self.place c.in-Ended.is) in
    (ap (λ (place : Place). term_at place (string_bytes self.term)) c.in-Ended.is, c.in-Ended.is, ends_again g.R.Read.remaining self c.in-Ended.is none (none_ahead self none))

pub returns-in-Ok-clause-accepted : goal.returns-in-Ok-clause-accepted
returns-in-Ok-clause-accepted g c postings entries faces = c.in-Ok.ensures.accepted entries postings faces

pub returns-in-Err-clause-accepted : goal.returns-in-Err-clause-accepted
returns-in-Err-clause-accepted g c postings entries faces = c.in-Err.ensures.accepted entries postings faces

pub returns-in-Ok-clause-no_more_faults : goal.returns-in-Ok-clause-no_more_faults
returns-in-Ok-clause-no_more_faults g c =
    let self = c.args.self.now in
    let remaining = g.R.Read.remaining in
    keeps_faults_on remaining self (going_begun remaining self c.in-Begun.is) (well_begun remaining self c.in-Begun.is) c.go_on.new.self c.in-Ok.more _ _ c.in-Ok.ensures.begun c.in-Ok.ensures.accepted

pub returns-in-Err-clause-fault : goal.returns-in-Err-clause-fault
returns-in-Err-clause-fault g c =
    let self = c.args.self.now in
    let remaining = g.R.Read.remaining in
    may_fault remaining self (going_begun remaining self c.in-Begun.is) (well_begun remaining self c.in-Begun.is) c.in-Err.error (λ postings entries faces. c.in-Err.ensures.accepted entries postings faces)

-- the term that is current then
named : {R : Type 0} (remaining : R → Option (List ℕ)) (old new : RunReader R) (more : Bool)
    → MatchBool more ((new.place ≡ AtTerm) × BeginsTerm (MayYield remaining) HasRead IsDrained old new (string_bytes new.term)) ((new.place ≡ Ended) × EndsTerms (MayYield remaining) HasRead IsDrained old new)
    → MatchBool more ((term : List ℕ) × (term_of new ≡ Some term) × BeginsTerm (MayYield remaining) HasRead IsDrained old new term) ((term_of new ≡ None) × IsEnded new × EndsTerms (MayYield remaining) HasRead IsDrained old new)
named remaining old new true begun = (string_bytes new.term, ap (λ (place : Place). term_at place (string_bytes new.term)) begun.0, begun.1)
named remaining old new false ended = (ap (λ (place : Place). term_at place (string_bytes new.term)) ended.0, ended.0, ended.1)

pub returns-in-Ok-clause-begun : goal.returns-in-Ok-clause-begun
returns-in-Ok-clause-begun g c = named g.R.Read.remaining c.args.self.now c.go_on.new.self c.in-Ok.more c.in-Ok.ensures.begun
