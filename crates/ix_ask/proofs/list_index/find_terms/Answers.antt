-- What the index tells is of its collection.
use Rattle.std.proofs.Common.{rules, List, ℕ, subst}
use Rattle.ix_ask.specs.Listing.{picked, term_rows}
use Rattle.ix_gram.specs.Patterns.{pieces_of}
use Rattle.ix_text.specs.Parts.{terms_of}
use Rattle.ix_gram.specs.Expanding.{AreMatches}
use Rattle.ix_ask.proofs.ListingLemmas.{rows_counted, rows_listed}
use Rattle.ix_ask.proofs.list_index.find_terms.Goals as goal

pub returns-clause-listed : goal.returns-clause-listed
returns-clause-listed c = λ version collection index.
    let numbers = c.in_ok-numbers.numbers.items in
    let parts = c.args.index.now.parts in
    let matches = subst (λ (pieces : List (List ℕ)). AreMatches (terms_of parts.entries) pieces numbers) c.in_ok-pieces.ensures.pieces c.in_ok-numbers.ensures.matches in
    record {
      star = c.in_ok-pieces.ensures.with_star;
      piece = c.in_ok-pieces.ensures.with_piece;
      rows = picked (term_rows parts.entries) numbers;
      listed = rows_listed collection parts (pieces_of c.args.pattern.now) numbers index.parts matches;
      printed = search rules;
      counted = let same = rows_counted parts.entries numbers c.in_ok-numbers.ensures.within in search rules;
    }
