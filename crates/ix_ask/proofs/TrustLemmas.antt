-- What an index with fewer terms says of the whole collection, and what is left if there is no answer.
use Rattle.std.proofs.Common.{◌≡◌, ◌∙◌, ◌⊎◌, inl, inr, sym, ℕ, List, get_or, Option, true, length, ap, refl, subst}
use Rattle.std.proofs.KnownBytes.{Keeps-refl}
use Rattle.std.proofs.lemmas.List.Elements.{Contains-get_or}
use Rattle.std.specs.List.{Contains}
use Rattle.ix_text.specs.Collections.{Collection, HasPosting}
use Rattle.ix_file.specs.Sections.{Version}
use Rattle.ix_gram.specs.Patterns.{Matches, pieces_of}
use Rattle.ix_projection.specs.Kept.{Test, kept_collection}
use Rattle.ix_projection.proofs.KeptLemmas.{posting_kept}
use Rattle.ix_query.specs.Grammar.{Reads}
use Rattle.ix_query.specs.Machine.{query_of}
use Rattle.ix_query.specs.QueryErrors.{Fails}
use Rattle.ix_query.specs.Scans.{IsScan}
use Rattle.ix_query.specs.Tree.{Tree}
use Rattle.ix_projection.specs.Alike.{ScansAlike}
use Rattle.ix_projection.specs.Asked.{KeepsAsked}
use Rattle.ix_projection.proofs.KeptLemmas.{names_kept}
use Rattle.ix_extract.specs.Projections.{HasIndexText}
use Rattle.ix_extract.specs.Refusals.{IsQueryRefused, IsReadFault}
use Rattle.ix_extract.specs.declared.extract_error.ExtractError.{ExtractError}
use Rattle.ix_extract.specs.declared.extract_error.ExtractError.TheVariants as extracting
use Rattle.ix_ask.specs.NameLines.{name_lines, names_indexed}
use Rattle.ix_ask.specs.Searching.{IsFound}
use Rattle.ix_ask.specs.Trusting.{LeavesTrusting, LeavesTrustingListing, RefusesTrusting, error_of_extract}
use Rattle.ix_ask.specs.Listing.{RefusesPattern}
use Rattle.ix_ask.specs.declared.ask_error.AskError.{AskError}
use Rattle.ix_ask.specs.declared.ask_error.AskError.TheVariants as asking
use Rattle.ix_ask.specs.declared.trust_error.TrustError.{TrustError}
use Rattle.ix_ask.specs.declared.trust_error.TrustError.TheVariants.{Ask, Read}
use Rattle.ix_ask.specs.Listing.{AreHolders, AreRows, IsCounted, IsListed, IsTermOf, TermRow, row_terms}
use Rattle.ix_ask.specs.Searching.{RefusesQuery}
use Rattle.ix_ask.proofs.AskLemmas.{search_refused}
use Rattle.ix_ask.proofs.ListingLemmas.{contains_map}

-- each term of the collection that matches is kept
abbrev pub KeepsMatches : Test → Collection → List (List ℕ) → Type 0
KeepsMatches keeps collection pieces = (term : List ℕ) (number position : ℕ) → HasPosting collection term number position → Matches term pieces → keeps term ≡ true

term_kept : (keeps : Test) (collection : Collection) (term : List ℕ) → IsTermOf (kept_collection keeps collection) term → IsTermOf collection term × (keeps term ≡ true)
term_kept keeps collection term (number, (position, posting)) =
    let whole = (posting_kept keeps collection term number position).0 posting in
    ((number, (position, whole.0)), whole.1)

term_keeps : (keeps : Test) (collection : Collection) (pieces : List (List ℕ)) (term : List ℕ) → KeepsMatches keeps collection pieces → Matches term pieces → IsTermOf collection term → IsTermOf (kept_collection keeps collection) term
term_keeps keeps collection pieces term wanted matches (number, (position, posting)) =
    (number, (position, (posting_kept keeps collection term number position).1 (posting, wanted term number position posting matches)))

holders_kept : (keeps : Test) (collection : Collection) (term numbers : List ℕ) → keeps term ≡ true → AreHolders (kept_collection keeps collection) term numbers → AreHolders collection term numbers
holders_kept keeps collection term numbers kept holders = record {
  ascending = holders.ascending;
  exact = λ number. (
    λ among. let (position, posting) = (holders.exact number).0 among in (position, ((posting_kept keeps collection term number position).0 posting).0),
    λ (position, posting). (holders.exact number).1 (position, (posting_kept keeps collection term number position).1 (posting, kept)),
  );
}

counted_kept : (keeps : Test) (collection : Collection) (row : TermRow) → keeps row.term ≡ true → IsCounted (kept_collection keeps collection) row → IsCounted collection row
counted_kept keeps collection row kept is =
    record { numbers = is.numbers; holders = holders_kept keeps collection row.term is.numbers kept is.holders; counted = is.counted }

rows_kept : (keeps : Test) (collection : Collection) (pieces : List (List ℕ)) (rows : List TermRow) → KeepsMatches keeps collection pieces → AreRows (kept_collection keeps collection) pieces rows → AreRows collection pieces rows
rows_kept keeps collection pieces rows wanted are = record {
  ascending = are.ascending;
  exact = λ term. (
    λ among. let found = (are.exact term).0 among in ((term_kept keeps collection term found.0).0, found.1),
    λ (of, matches). (are.exact term).1 (term_keeps keeps collection pieces term wanted matches of, matches),
  );
  counted = λ k d below.
      let row = get_or rows k d in
      let among : Contains (row_terms rows) row.term = contains_map (λ (one : TermRow). one.term) rows row (Contains-get_or rows k d below) in
      counted_kept keeps collection row (term_kept keeps collection row.term ((are.exact row.term).0 among).0).1 (are.counted k d below);
}

-- what is listed of the terms that are kept is listed of all
pub listed_kept : (keeps : Test) (collection : Collection) (pattern lines : List ℕ) (count : ℕ) → KeepsMatches keeps collection (pieces_of pattern) → IsListed (kept_collection keeps collection) pattern lines count → IsListed collection pattern lines count
listed_kept keeps collection pattern lines count wanted is = record {
  star = is.star;
  piece = is.piece;
  rows = is.rows;
  listed = rows_kept keeps collection (pieces_of pattern) is.rows wanted is.listed;
  printed = is.printed;
  counted = is.counted;
}

-- ---- names

pub stop_kept : (keeps : Test) (collection : Collection) → (kept_collection keeps collection).stop ≡ collection.stop
unfolding kept_collection
stop_kept keeps collection = refl

-- what is found in the collection of the terms that are kept is found in the whole one
pub found_kept : (keeps : Test) (collection : Collection) (query : List ℕ) (tree : Tree) (numbers lines : List ℕ) (count : ℕ) → ScansAlike tree → Reads collection.stop query tree → KeepsAsked keeps collection tree
    → IsScan (kept_collection keeps collection) tree numbers → lines ≡ name_lines (names_indexed (kept_collection keeps collection).documents) numbers → count ≡ length numbers → IsFound collection query lines count
found_kept keeps collection query tree numbers lines count alike reads asked scan named counted = record {
  tree = tree;
  numbers = numbers;
  parsed = reads;
  scanned = (alike.scans keeps collection numbers asked).0 scan;
  named = named ∙ ap (λ names. name_lines names numbers) (names_kept keeps collection);
  counted = counted;
}

-- ---- errors

-- why nothing was extracted is why there is no answer
pub query_refused : (collection : Collection) (query : List ℕ) (error : ExtractError) → IsQueryRefused collection query error → RefusesTrusting (RefusesQuery collection query) (error_of_extract error)
query_refused collection query extracting.Memory refused = tt
query_refused collection query extracting.Read refused = tt
query_refused collection query (extracting.Query error) fails = fails
query_refused collection query (extracting.Index error) refused = absurd refused

pub pattern_refused : (contents : Option (List ℕ)) (pattern : List ℕ) (version : Version) (collection : Collection) (error : ExtractError) → HasIndexText contents version collection → IsReadFault contents error → RefusesTrusting (RefusesPattern pattern) (error_of_extract error)
pattern_refused contents pattern version collection error has (inl (inl is)) = subst (λ e. RefusesTrusting (RefusesPattern pattern) (error_of_extract e)) (sym is) tt
pattern_refused contents pattern version collection error has (inl (inr is)) = subst (λ e. RefusesTrusting (RefusesPattern pattern) (error_of_extract e)) (sym is) tt
pattern_refused contents pattern version collection error has (inr (fault, none)) = absurd (none version collection has)

-- why the smaller collection has no answer is why the whole one has none
pub kept_refused : (keeps : Test) (collection : Collection) (query : List ℕ) (error : AskError) → RefusesQuery (kept_collection keeps collection) query error → RefusesTrusting (RefusesQuery collection query) (Ask error)
kept_refused keeps collection query (asking.Query error) fails = subst (λ stop. Fails error (query_of stop query)) (stop_kept keeps collection) fails
kept_refused keeps collection query asking.Memory refused = tt
kept_refused keeps collection query (asking.Open error) refused = absurd refused
kept_refused keeps collection query _ refused = absurd refused

-- nothing went out before there was an answer
pub search_left : (collection : Collection) (query : List ℕ) (known : Option (List ℕ)) (error : TrustError) → RefusesTrusting (RefusesQuery collection query) error → LeavesTrusting collection query known known error
search_left collection query known Read refused = Keeps-refl known
search_left collection query known (Ask (asking.Open error)) is = (is, Keeps-refl known)
search_left collection query known (Ask (asking.Query error)) refused = search_refused collection query known (asking.Query error) refused
search_left collection query known (Ask asking.Memory) refused = search_refused collection query known asking.Memory refused
search_left collection query known (Ask _) refused = absurd refused

pub listing_left : (collection : Collection) (pattern : List ℕ) (known : Option (List ℕ)) (error : TrustError) → RefusesTrusting (RefusesPattern pattern) error → LeavesTrustingListing collection pattern known known error
listing_left collection pattern known Read refused = Keeps-refl known
listing_left collection pattern known (Ask (asking.Open error)) is = (is, Keeps-refl known)
listing_left collection pattern known (Ask (asking.Pattern error)) refused = (refused, Keeps-refl known)
listing_left collection pattern known (Ask asking.Memory) refused = (refused, Keeps-refl known)
listing_left collection pattern known (Ask _) refused = absurd refused
