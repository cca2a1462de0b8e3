-- The sizes of what a run holds, and its run text.
use Rattle.std.proofs.Common.{◌≡◌, ℕ, ◌-◌, ◌^◌, ◌<◌, List, [], ◌∷◌, ◌++◌, length, map, get_or, All, Some, slice_get, sym, ap, subst, ◌∙◌, arith}
use Rattle.std.proofs.lemmas.List.{length-map}
use Rattle.std.proofs.lemmas.List.Elements.{All-map, All-weaker, All-get_or}
use Rattle.std.proofs.lemmas.List.Folds.{flat_map-map}
use Rattle.std.proofs.lemmas.Option.{get_or_from_slice_get, slice_get_within}
use Rattle.ix_text.specs.Collections.{Collection, Document, HasPosting, IsLawful, IsLawfulEntry, IsName}
use Rattle.ix_text.specs.Parts.{Parts, DictionaryEntry, DocumentRow, IsEntryOf, row_of}
use Rattle.ix_text.specs.PartsLaws.{position_count}
use Rattle.ix_text.specs.Terms.{IsTerm}
use Rattle.ix_text.proofs.PartsCounted.{positions_counted}
use Rattle.ix_vbyte.proofs.Sizes.{list_short}
use Rattle.ix_run.proofs.RunSources.{run_coded}
use Rattle.std.proofs.lemmas.List.Sums.{get_or-le-sum_by}
use Rattle.ix_text.proofs.CollectionTold.{some_position}
use Rattle.ix_run_text.specs.RunText.{IsRunText, head_bytes, run_layout}
use Rattle.ix_run.specs.Runs.{IsRun, IsRunOf, IsShort, RunValue, TermValue, coded, run_bytes, run_value, value_bytes}

All-at : {A : Type 0} (P : A → Type 0) (xs : List A) (i : ℕ) (x : A) → slice_get xs i ≡ Some x → All P xs → P x
All-at P xs i x at all = subst P (get_or_from_slice_get xs i x x at) (All-get_or P xs i x (slice_get_within xs i x at) all)

-- a term with a posting in a lawful collection is a lawful term
posted_term : (collection : Collection) (term : List ℕ) (number position : ℕ) → IsLawful collection → HasPosting collection term number position → IsTerm term
posted_term collection term number position lawful has =
    let here = All-at (λ (d : Document). All (IsLawfulEntry collection.stop) d.tokens) collection.documents number has.document has.numbered lawful.entries in
    (All-at (IsLawfulEntry collection.stop) has.document.tokens position (Some term) has.entry here).0

-- the term of an entry is lawful
entry_term : (collection : Collection) (entry : DictionaryEntry) → IsLawful collection → IsEntryOf collection entry → IsTerm entry.term
entry_term collection entry lawful is =
    let (number, (position, at)) = some_position entry.postings is.ordered in
    posted_term collection entry.term number position lawful ((is.posted number position).0 at)

module _ (run : RunValue) (is : IsRun run) where
  pub few_rows : length run.rows < 2 ^ 32
  few_rows =
      let same = ap (λ (r : RunValue). length r.rows) is.of_collection.held in
      let rows = ap length is.of_collection.of_collection.rows in
      let size = length-map is.collection.documents row_of in
      let few = is.of_collection.lawful.few_documents in omega (arith, same, rows, size, few)

  pub short_names : All (λ row. IsShort row.name) run.rows
  short_names =
      let rows : run.rows ≡ map row_of is.collection.documents = ap (λ (r : RunValue). r.rows) is.of_collection.held ∙ is.of_collection.of_collection.rows in
      subst (All (λ (row : DocumentRow). IsShort row.name)) (sym rows)
      (All-map (λ (row : DocumentRow). IsShort row.name) row_of is.collection.documents
      (All-weaker (λ (d : Document). IsName d.name) (λ d. IsShort d.name) (λ d name. let short = name.short in omega arith) is.collection.documents is.of_collection.lawful.names))

  pub short_terms : All (λ value. IsShort value.term) run.terms
  short_terms =
      let terms : run.terms ≡ map coded is.of_collection.parts.entries = ap (λ (r : RunValue). r.terms) is.of_collection.held in
      subst (All (λ (value : TermValue). IsShort value.term)) (sym terms)
      (All-map (λ (value : TermValue). IsShort value.term) coded is.of_collection.parts.entries
      (All-weaker (IsEntryOf is.collection) (λ e. IsShort e.term)
      (λ e entry. let short = (entry_term is.collection e is.of_collection.lawful entry).short in omega arith) is.of_collection.parts.entries is.of_collection.of_collection.entries))

  -- the lists have no more positions than the collection has tokens
  pub short_lists : All (λ value. IsShort value.list) run.terms
  short_lists =
      let terms : run.terms ≡ map coded is.of_collection.parts.entries = ap (λ (r : RunValue). r.terms) is.of_collection.held in
      let entries = is.of_collection.parts.entries in
      let total = positions_counted is.collection is.of_collection.parts is.of_collection.of_collection in
      let few = is.of_collection.lawful.few_tokens in
      let are = (run_coded run is.first is.collection is.of_collection).each in
      subst (All (λ (value : TermValue). IsShort value.list)) (sym terms)
      (All-map (λ (value : TermValue). IsShort value.list) coded entries
      (λ k d within.
      let share = get_or-le-sum_by (λ (entry : DictionaryEntry). position_count entry.postings) entries k d within in
      let small = list_short 0 (2 ^ 32 - 1) (get_or entries k d).postings (are k d within) (omega arith) in
      omega (arith, share, total, few, small)))

-- the bytes of a run of a collection are its run text
pub spelled : (first : ℕ) (parts : Parts) → run_bytes (run_value first parts) ≡ run_layout first parts
unfolding run_bytes run_layout head_bytes
spelled first parts =
    ap (λ terms. head_bytes first parts ++ terms ++ 128 ∷ []) (flat_map-map value_bytes coded parts.entries)

pub run_text : (run : RunValue) (first : ℕ) (collection : Collection) → IsRunOf run first collection → IsRunText first collection (run_bytes run)
run_text run first collection is = record {
  lawful = is.lawful;
  within = is.within;
  parts = is.parts;
  of_collection = is.of_collection;
  spelled = ap run_bytes is.held ∙ spelled first is.parts;
}
