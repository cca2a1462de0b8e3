-- A text has one answer to a query, and an index of its collection has the same.
use Rattle.std.proofs.Common.{◌≡◌, ◌∙◌, ℕ, List, [], ◌∷◌, length, refl, sym, ap, ap₂, subst}
use Rattle.ix_text.specs.Collections.{Collection, NamedText, collection_of}
use Rattle.ix_text.specs.CollectionLaws.{HasOneListOfDocuments}
use Rattle.ix_text.specs.CollectionText.{IsCollectionText}
use Rattle.ix_query.specs.Tree.{Tree}
use Rattle.ix_query.specs.Grammar.{Reads}
use Rattle.ix_query.specs.Scans.{IsScan}
use Rattle.ix_ask.specs.Asking.{IsAnswer}
use Rattle.ix_ask.specs.NameLines.{name_lines, names_indexed, names_read}
use Rattle.ix_ask.specs.Searching.{IsFound}

-- what the laws of texts, queries and scans say
pub record AreAlone : Type 0 where
  pub documents : HasOneListOfDocuments
  pub tree : (stop : List (List ℕ)) (text : List ℕ) (one other : Tree) → Reads stop text one → Reads stop text other → one ≡ other
  pub scan : (collection : Collection) (query : Tree) (numbers others : List ℕ) → IsScan collection query numbers → IsScan collection query others → numbers ≡ others

-- an answer is that of these documents, this tree and these numbers
pub the_answer : AreAlone → (text query lines : List ℕ) (stop : List (List ℕ)) (documents : List NamedText) (tree : Tree) (numbers : List ℕ) (count : ℕ) → IsCollectionText text documents
    → Reads stop query tree → IsScan (collection_of stop documents) tree numbers → IsAnswer text stop query lines count → (lines ≡ name_lines (names_read documents) numbers) × (count ≡ length numbers)
the_answer alone text query lines stop documents tree numbers count read reads scanned answer =
    let same_documents = alone.documents text answer.documents documents answer.read read in
    let same_tree = alone.tree stop query answer.found.tree tree answer.found.parsed reads in
    let of_documents = subst (λ (d : List NamedText). IsScan (collection_of stop d) answer.found.tree answer.numbers) same_documents answer.found.scanned in
    let of_tree = subst (λ (t : Tree). IsScan (collection_of stop documents) t answer.numbers) same_tree of_documents in
    let same_numbers = alone.scan (collection_of stop documents) tree answer.numbers numbers of_tree scanned in
    (answer.named ∙ ap₂ (λ (d : List NamedText) (n : List ℕ). name_lines (names_read d) n) same_documents same_numbers, answer.counted ∙ ap length same_numbers)

-- the names of documents are those of their collection
names_kept : (stop : List (List ℕ)) (documents : List NamedText) → names_indexed (collection_of stop documents).documents ≡ names_read documents
unfolding collection_of
names_kept stop [] = refl
names_kept stop (d ∷ documents) = ap (λ (names : List (List ℕ)). d.name ∷ names) (names_kept stop documents)

-- what is found in an index of the collection is the answer
pub found_is_answered : AreAlone → (text query lines others : List ℕ) (stop : List (List ℕ)) (documents : List NamedText) (count number : ℕ) → IsCollectionText text documents
    → IsAnswer text stop query lines count → IsFound (collection_of stop documents) query others number → (lines ≡ others) × (count ≡ number)
unfolding collection_of
found_is_answered alone text query lines others stop documents count number read answer found =
    let same = the_answer alone text query lines stop documents found.tree found.numbers count read found.parsed found.scanned answer in
    let named = ap (λ (names : List (List ℕ)). name_lines names found.numbers) (names_kept stop documents) in
    (same.0 ∙ sym (found.named ∙ named), same.1 ∙ sym found.counted)
