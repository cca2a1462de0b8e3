-- A collection has one list of names for a query, and one list of terms for a pattern.
use Rattle.std.proofs.Common.{◌≡◌, ◌∙◌, ℕ, ◌↔◌, List, length, All, Contains, sym, ap, ap₂, subst}
use Rattle.std.proofs.lemmas.Cmp.{nat_cmp_total, nat_list_cmp_total}
use Rattle.std.proofs.lemmas.List.Elements.{All-contains}
use Rattle.std.proofs.lemmas.Map.Keys.{sorted_from_strictly_increasing}
use Rattle.ix_text.proofs.AscendingLists.{one_ascending}
use Rattle.ix_text.proofs.OneByKey.{one_by_keys}
use Rattle.ix_text.specs.Collections.{Collection}
use Rattle.ix_gram.specs.Patterns.{pieces_of}
use Rattle.ix_query.specs.Tree.{Tree}
use Rattle.ix_query.specs.Grammar.{Reads}
use Rattle.ix_query.specs.Scans.{IsScan}
use Rattle.ix_ask.specs.Listing.{AreHolders, AreRows, IsCounted, IsListed, TermRow, row_lines, row_terms}
use Rattle.ix_ask.specs.NameLines.{name_lines, names_indexed}
use Rattle.ix_ask.specs.Searching.{IsFound}

-- ---- names

pub one_found : ((stop : List (List ℕ)) (text : List ℕ) (one other : Tree) → Reads stop text one → Reads stop text other → one ≡ other)
    → ((collection : Collection) (query : Tree) (numbers others : List ℕ) → IsScan collection query numbers → IsScan collection query others → numbers ≡ others)
    → (collection : Collection) (query lines others : List ℕ) (count number : ℕ) → IsFound collection query lines count → IsFound collection query others number → (lines ≡ others) × (count ≡ number)
one_found tree scan collection query lines others count number one other =
    let same_tree = tree collection.stop query one.tree other.tree one.parsed other.parsed in
    let same = scan collection other.tree one.numbers other.numbers (subst (λ (t : Tree). IsScan collection t one.numbers) same_tree one.scanned) other.scanned in
    (one.named ∙ ap (name_lines (names_indexed collection.documents)) same ∙ sym other.named, one.counted ∙ ap length same ∙ sym other.counted)

-- ---- terms

one_count : (collection : Collection) (one other : TermRow) → one.term ≡ other.term → IsCounted collection one → IsCounted collection other → one.documents ≡ other.documents
one_count collection one other same p q =
    let holders = subst (λ (term : List ℕ). AreHolders collection term p.numbers) same p.holders in
    let numbers = one_ascending nat_cmp_total p.numbers q.numbers (sorted_from_strictly_increasing p.numbers holders.ascending) (sorted_from_strictly_increasing q.numbers q.holders.ascending)
    (λ n. (λ has. (q.holders.exact n).1 ((holders.exact n).0 has), λ has. (holders.exact n).1 ((q.holders.exact n).0 has))) in
    p.counted ∙ ap length numbers ∙ sym q.counted

one_row_list : (collection : Collection) (pieces : List (List ℕ)) (rows others : List TermRow) → AreRows collection pieces rows → AreRows collection pieces others → rows ≡ others
one_row_list collection pieces rows others p q =
    let terms = one_ascending nat_list_cmp_total (row_terms rows) (row_terms others) p.ascending q.ascending
    (λ term. (λ has. (q.exact term).1 ((p.exact term).0 has), λ has. (p.exact term).1 ((q.exact term).0 has))) in
    one_by_keys (λ (row : TermRow). row.term) rows others terms (λ one other has also same.
    let count = one_count collection one other same (All-contains (IsCounted collection) rows one p.counted has) (All-contains (IsCounted collection) others other q.counted also) in
    ap₂ (λ (term : List ℕ) (documents : ℕ). let row : TermRow = record { term = term; documents = documents } in row) same count)

pub one_listed : (collection : Collection) (pattern lines others : List ℕ) (count number : ℕ) → IsListed collection pattern lines count → IsListed collection pattern others number
    → (lines ≡ others) × (count ≡ number)
one_listed collection pattern lines others count number one other =
    let same = one_row_list collection (pieces_of pattern) one.rows other.rows one.listed other.listed in
    (one.printed ∙ ap row_lines same ∙ sym other.printed, one.counted ∙ ap length same ∙ sym other.counted)
