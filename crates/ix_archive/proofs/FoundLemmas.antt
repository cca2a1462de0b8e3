-- What a query finds in the index of a segment, and why it finds nothing.
use Rattle.std.proofs.Common.{◌≡◌, ◌∙◌, refl, sym, ap, ℕ, List, length, subst}
use Rattle.std.specs.Prelude.{Err, IfErr, IfOk, MatchResult, Ok, Result}
use Rattle.std.specs.List.Sorted.{IsStrictlyIncreasing}
use Rattle.ix_text.specs.Collections.{Collection}
use Rattle.ix_file.specs.declared.open_error.OpenError.{OpenError}
use Rattle.ix_file.specs.declared.open_error.OpenError.TheVariants as opening
use Rattle.ix_extract.specs.Refusals.{IsQueryRefused}
use Rattle.ix_extract.specs.declared.extract_error.ExtractError.{ExtractError}
use Rattle.ix_extract.specs.declared.extract_error.ExtractError.TheVariants as extracting
use Rattle.ix_projection.specs.Kept.{Test, kept_collection}
use Rattle.ix_query.specs.Scans.{IsScan}
use Rattle.ix_query_text.specs.Grammar.{Reads}
use Rattle.ix_query_text.specs.Machine.{query_of}
use Rattle.ix_query_text.specs.QueryErrors.{Fails, Gives}
use Rattle.ix_query_text.specs.declared.error.QueryError.{QueryError}
use Rattle.ix_query_text.specs.declared.tree.Tree.{Tree}
use Rattle.ix_scan.specs.ScansWithout.{IsScanWithout}
use Rattle.ix_ask.specs.NameLines.{name_lines, names_indexed}
use Rattle.ix_removals.specs.RemovalsText.{Removal}
use Rattle.ix_archive.specs.Findings.{AreLeft, FindsIn, IsGoneFrom, RefusesFinding, error_of_extract, error_of_open}
use Rattle.ix_archive.specs.declared.read_error.ReadError.{ReadError}

scan_left : (collection : Collection) (gone : ℕ → Type 0) (query : Tree) (numbers left : List ℕ) → IsScan collection query numbers → (IsStrictlyIncreasing numbers → AreLeft gone numbers left) → IsScanWithout collection gone query left
scan_left collection gone query numbers left scan leaves =
    let are = leaves scan.ascending in
    record {
      ascending = are.ascending;
      exact = λ n. (
        λ among. let r = (are.exact n).0 among in ((scan.exact n).0 r.0, r.1),
        λ (satisfied, stays). (are.exact n).1 ((scan.exact n).1 satisfied, stays),
      );
    }

-- the tree that a call read is the one of the text
pub one_tree : (stop : List (List ℕ)) (query : List ℕ) (tree : Tree) (r : Result Tree QueryError) → r ≡ Ok tree → ((other : Tree) → Reads stop query other → Gives (λ q. q) r (Ok other)) → (other : Tree) → Reads stop query other → other ≡ tree
one_tree stop query tree (Ok found) is only other reads = let same = only other reads in cc
one_tree stop query tree (Err error) is only other reads = absurd (let none = is in cc)

module _ (collection : Collection) (removals : List Removal) (first : ℕ) (names stop : List (List ℕ)) (query : List ℕ) (tree : Tree) (numbers left lines : List ℕ) (count : ℕ)
    (stops : stop ≡ collection.stop) (named : names ≡ names_indexed collection.documents) (parsed : Reads stop query tree)
    (only : (other : Tree) → Reads stop query other → other ≡ tree)
    (leaves : IsStrictlyIncreasing numbers → AreLeft (IsGoneFrom removals first names) numbers left) (printed : lines ≡ name_lines names left) (counted : count ≡ length left) where
  -- what was found in the index is found in each collection with these names and this scan
  pub finds : IsScan collection tree numbers → FindsIn collection removals first query lines count
  finds scan = record {
    tree = tree;
    numbers = left;
    parsed = subst (λ (s : List (List ℕ)). Reads s query tree) stops parsed;
    only = λ other reads. only other (subst (λ (s : List (List ℕ)). Reads s query other) (sym stops) reads);
    scanned = subst (λ (n : List (List ℕ)). IsScanWithout collection (IsGoneFrom removals first n) tree left) named (scan_left collection (IsGoneFrom removals first names) tree numbers left scan leaves);
    named = printed ∙ ap (λ (n : List (List ℕ)). name_lines n left) named;
    counted = counted;
  }

pub stop_kept : (keeps : Test) (collection : Collection) → (kept_collection keeps collection).stop ≡ collection.stop
unfolding kept_collection
stop_kept keeps collection = refl

-- ---- errors

-- a fault of the query under the stop set of the index
pub query_refused : (stop own : List (List ℕ)) (query : List ℕ) (error : QueryError) → stop ≡ own → Fails error (query_of stop query) → Fails error (query_of own query)
query_refused stop own query error same fails = subst (λ (s : List (List ℕ)). Fails error (query_of s query)) same fails

-- why nothing was extracted is why nothing is found
pub extract_refused : (collection : Collection) (query : List ℕ) (file : ℕ) (error : ExtractError) → IsQueryRefused collection query error → RefusesFinding collection.stop query (error_of_extract file error)
extract_refused collection query file extracting.Memory refused = tt
extract_refused collection query file extracting.Read refused = tt
extract_refused collection query file (extracting.Query error) fails = fails
extract_refused collection query file (extracting.Index error) refused = absurd refused

-- out of memory in opening what was extracted
pub open_refused : (stop : List (List ℕ)) (query : List ℕ) (file : ℕ) (error : OpenError) → error ≡ opening.Memory → RefusesFinding stop query (error_of_open file error)
open_refused stop query file error is = subst (λ (e : OpenError). RefusesFinding stop query (error_of_open file e)) (sym is) tt

-- why the smaller collection finds nothing is why the whole one does not
pub kept_refused : (keeps : Test) (collection : Collection) (query : List ℕ) (error : ReadError) → RefusesFinding (kept_collection keeps collection).stop query error → RefusesFinding collection.stop query error
kept_refused keeps collection query error refused = subst (λ (stop : List (List ℕ)). RefusesFinding stop query error) (stop_kept keeps collection) refused

-- one of both is there
pub match_told : {T E : Type 0} (r : Result T E) (P : T → Type 0) (Q : E → Type 0) → IfOk r P → IfErr r Q → MatchResult r P Q
match_told (Ok x) P Q ok err = ok
match_told (Err e) P Q ok err = err
