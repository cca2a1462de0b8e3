-- A source that is one part of another one: what its calls do is what calls of the other do.
use Rattle.std.proofs.Common.{ℕ, List, Bool, true, false, Option, Some, None, MatchBool, MatchOption}
use Rattle.ix_run.specs.Sources.{BeginsTerm, EndsPostings, EndsTerms, Giving, GivesList, GivesPosting, Yielding}

module _ {A B : Type 0} (enclose : A → B) (yields : Yielding B) (gives : Giving B) where
  pub encloses_posting : (Ended : Type 0) (old new : A) (positions : List ℕ) (found : Option ℕ)
      → MatchOption found (Ended × EndsPostings (λ s. yields (enclose s)) (λ s. gives (enclose s)) old new)
      (λ document. GivesPosting (λ s. yields (enclose s)) (λ s. gives (enclose s)) old new (document, positions))
      → MatchOption found (Ended × EndsPostings yields gives (enclose old) (enclose new))
      (λ document. GivesPosting yields gives (enclose old) (enclose new) (document, positions))
  encloses_posting Ended old new positions None (ended, ends) = (ended, record { yielded = ends.yielded; given = ends.given })
  encloses_posting Ended old new positions (Some document) gave = record { yielded = gave.yielded; given = gave.given }

  pub encloses_term : (is_drained : B → Type 0) (At : List ℕ → Type 0) (Ended Over : Type 0) (old new : A) (more : Bool)
      → MatchBool more ((term : List ℕ) × At term × BeginsTerm (λ s. yields (enclose s)) (λ s. gives (enclose s)) (λ s. is_drained (enclose s)) old new term)
      (Ended × Over × EndsTerms (λ s. yields (enclose s)) (λ s. gives (enclose s)) (λ s. is_drained (enclose s)) old new)
      → MatchBool more ((term : List ℕ) × At term × BeginsTerm yields gives is_drained (enclose old) (enclose new) term)
      (Ended × Over × EndsTerms yields gives is_drained (enclose old) (enclose new))
  encloses_term is_drained At Ended Over old new true (term, at, begins) = (term, at, record { skipped = begins.skipped; yielded = begins.yielded; given = begins.given; none = begins.none })
  encloses_term is_drained At Ended Over old new false (ended, over, ends) = (ended, over, record { skipped = ends.skipped; yielded = ends.yielded; given = ends.given; none = ends.none })

  pub encloses_list : (old new : A) (first from documents to : ℕ) (before after : List ℕ)
      → GivesList (λ s. yields (enclose s)) (λ s. gives (enclose s)) old new first from documents to before after
      → GivesList yields gives (enclose old) (enclose new) first from documents to before after
  encloses_list old new first from documents to before after gave = record {
    postings = gave.postings;
    yielded = gave.yielded;
    given = gave.given;
    count = gave.count;
    last = gave.last;
    coded = gave.coded;
  }
