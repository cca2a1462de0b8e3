-- Which numbers a scan gives, and what a search leaves of a query that was refused.
use Rattle.std.proofs.Common.{ℕ, ◌<◌, List, map, length, get_or, All, Option, arith}
use Rattle.std.proofs.KnownBytes.{Keeps-refl}
use Rattle.std.proofs.lemmas.List.{length-map}
use Rattle.std.proofs.lemmas.List.Elements.{Contains-get_or}
use Rattle.std.proofs.lemmas.Option.{slice_get_within}
use Rattle.ix_text.specs.Collections.{Collection, Document, NamedText, collection_of}
use Rattle.ix_text.specs.TokenLists.{token_list}
use Rattle.ix_query.specs.Tree.{Tree}
use Rattle.ix_query.specs.Scans.{IsScan}
use Rattle.ix_build.specs.BuildErrors.{IsBuildRefusal}
use Rattle.ix_build.specs.declared.build_error.BuildError.{BuildError}
use Rattle.ix_build.specs.declared.build_error.BuildError.TheVariants as build_error
use Rattle.ix_ask.specs.Asking.{RefusesIndex, error_of_build}
use Rattle.ix_ask.specs.Searching.{LeavesSearch, RefusesQuery}
use Rattle.ix_ask.specs.declared.ask_error.AskError.{AskError}
use Rattle.ix_ask.specs.declared.ask_error.AskError.TheVariants as asking

-- the numbers of a scan are numbers of documents
pub numbers_below : (stop : List (List ℕ)) (documents : List NamedText) (query : Tree) (numbers : List ℕ) → IsScan (collection_of stop documents) query numbers → All (λ number. number < length documents) numbers
unfolding collection_of
numbers_below stop documents query numbers scanned = λ k d below.
    let view = λ (d : NamedText). let document : Document = record { name = d.name; tokens = token_list stop d.text } in document in
    let found = (scanned.exact (get_or numbers k d)).0 (Contains-get_or numbers k d below) in
    let within : get_or numbers k d < length (map view documents) = slice_get_within (map view documents) (get_or numbers k d) found.document found.numbered in
    omega (arith, within, length-map documents view)

-- why a query was refused is why a search is, and nothing went out
pub search_refused : (collection : Collection) (query : List ℕ) (known : Option (List ℕ)) (error : AskError) → RefusesQuery collection query error → LeavesSearch collection query known known error
search_refused collection query known (asking.Query error) fails = (fails, Keeps-refl known)
search_refused collection query known asking.Memory fails = Keeps-refl known
search_refused collection query known _ fails = absurd fails

-- why an index was not built is why there are no numbers
pub build_refused : (workers : ℕ) (error : BuildError) → IsBuildRefusal workers error → RefusesIndex workers (error_of_build error)
build_refused workers (build_error.Thread worker) refused = (refused, λ same. cc)
build_refused workers (build_error.Spill place) refused = (refused, λ same. cc)
build_refused workers build_error.Write refused = tt
build_refused workers build_error.Memory refused = (refused, λ same. cc)
