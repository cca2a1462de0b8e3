-- The lists of a lawful dictionary: they can be coded, from whatever number their documents are counted.
use Rattle.std.proofs.Common.{◌≡◌, ℕ, ◌+◌, ◌-◌, ◌^◌, ◌<◌, ◌≤◌, List, [], ◌∷◌, ◌++◌, length, get_or, All, subst, arith}
use Rattle.std.proofs.lemmas.List.{map-append}
use Rattle.std.proofs.lemmas.List.Elements.{All-nil, All-cons, All-contains, All-head, All-tail, All-weaker, Contains-append_left, Contains-push}
use Rattle.ix_text.specs.Parts.{DictionaryEntry, Posting}
use Rattle.ix_text.specs.PartsLaws.{IsLawfulTerm}
use Rattle.ix_text.proofs.PartsLawful.{postings_below}
use Rattle.ix_vbyte.specs.Gaps.{Ascends, next_after}
use Rattle.ix_vbyte.specs.Postings.{ArePostings, IsPosting, LiesBelow, documents_of, shifted}
use Rattle.ix_vbyte.proofs.Gaps.{Ascends-lower, Ascends-wider}
use Rattle.ix_vbyte.proofs.Sizes.{postings_from}
use Rattle.ix_run_text.specs.Heads.{Heading, parts_with}
use Rattle.ix_run_text.specs.Sources.{AreWhole}

-- the documents and positions of a lawful dictionary are below 2^28
pub lists_below : (top : ℕ) (heading : Heading) (entries : List DictionaryEntry) → 2 ^ 28 ≤ top → AreWhole heading entries → All (λ entry. ArePostings 0 top entry.postings) entries
lists_below top heading entries high whole k d within =
    let entry = get_or entries k d in
    let is : IsLawfulTerm (parts_with heading entries) entry = whole.lawful.terms k d within in
    let below = postings_below (parts_with heading entries) whole.lawful k d within in
    postings_from top entry.postings is.ordered.ascending is.ordered.each
    (All-weaker (LiesBelow (2 ^ 28)) (LiesBelow top)
    (λ posting low. (let d = low.0 in omega arith, All-weaker (λ p. p < 2 ^ 28) (λ p. p < top) (λ p l. omega arith) posting.1 low.1)) entry.postings below)

-- so each list can be coded
pub codable : (heading : Heading) (entries : List DictionaryEntry) → AreWhole heading entries → All (λ entry. ArePostings 0 (2 ^ 32 - 1) entry.postings) entries
codable heading entries whole = lists_below (2 ^ 32 - 1) heading entries (omega arith) whole

-- the list of one entry
pub list_below : (heading : Heading) (finished : List DictionaryEntry) (entry : DictionaryEntry) (rest : List DictionaryEntry) → AreWhole heading ((finished ++ entry ∷ []) ++ rest) → ArePostings 0 (2 ^ 28) entry.postings
list_below heading finished entry rest whole =
    All-contains (λ (e : DictionaryEntry). ArePostings 0 (2 ^ 28) e.postings) ((finished ++ entry ∷ []) ++ rest) entry
    (lists_below (2 ^ 28) heading ((finished ++ entry ∷ []) ++ rest) (omega arith) whole)
    (Contains-append_left (finished ++ entry ∷ []) rest entry (Contains-push finished entry))

-- ---- the postings behind others
ascending_behind : (low top : ℕ) (front back : List ℕ) → Ascends low top (front ++ back) → Ascends low top back
ascending_behind low top [] back a = a
ascending_behind low top (x ∷ front) back a = Ascends-lower (x + 1) low top back (omega arith) (ascending_behind (x + 1) top front back a.2)

each_behind : {A : Type 0} (P : A → Type 0) (front back : List A) → All P (front ++ back) → All P back
each_behind P [] back all = all
each_behind P (x ∷ front) back all = each_behind P front back (All-tail P x (front ++ back) all)

pub postings_behind : (low top : ℕ) (front back : List Posting) → ArePostings low top (front ++ back) → ArePostings low top back
postings_behind low top front back are = record {
  documents = ascending_behind low top (documents_of front) (documents_of back) (subst (Ascends low top) (map-append (λ (p : Posting). p.0) front back) are.documents);
  each = each_behind (IsPosting top) front back are.each;
}

-- ---- documents counted from elsewhere
shift_documents : (first low top next more : ℕ) (postings : List Posting) → next ≤ first + low → first + top ≤ more → Ascends low top (documents_of postings) → Ascends next more (documents_of (shifted first postings))
shift_documents first low top next more [] above within a = tt
shift_documents first low top next more (p ∷ ps) above within a = (omega arith, omega arith, shift_documents first (p.0 + 1) top (first + p.0 + 1) more ps (omega arith) within a.2)

shift_each : (first top more : ℕ) (postings : List Posting) → top ≤ more → All (IsPosting top) postings → All (IsPosting more) (shifted first postings)
shift_each first top more [] within each = All-nil (IsPosting more)
shift_each first top more (p ∷ ps) within each =
    let here = All-head (IsPosting top) p ps each in
    All-cons (IsPosting more) (first + p.0, p.1) (shifted first ps) (record { some = here.some; positions = Ascends-wider 0 top more p.1 within here.positions })
    (shift_each first top more ps within (All-tail (IsPosting top) p ps each))

pub shift_postings : (first low top next more : ℕ) (postings : List Posting) → next ≤ first + low → first + top ≤ more → ArePostings low top postings → ArePostings next more (shifted first postings)
shift_postings first low top next more postings above within are = record {
  documents = shift_documents first low top next more postings above within are.documents;
  each = shift_each first top more postings (omega arith) are.each;
}

-- one above the last document is counted from there too
pub shift_after : (first from near : ℕ) (postings : List Posting) → 0 < length postings → next_after from (documents_of (shifted first postings)) ≡ first + next_after near (documents_of postings)
shift_after first from near [] some = absurd (omega arith)
shift_after first from near (p ∷ []) some = omega arith
shift_after first from near (p ∷ q ∷ qs) some = shift_after first (first + p.0 + 1) (p.0 + 1) (q ∷ qs) (omega arith)
