-- Which document has a token, and at which position; and so which postings the places of a term are.
use Rattle.std.proofs.Common.{◌≡◌, ℕ, zero, suc, ◌+◌, ◌-◌, ◌<◌, ◌≤◌, Bool, true, false, cond, bytes_eq, List, [], ◌∷◌, ◌++◌, length, get_or, Some, None, refl, sym, ap, ap₂, ◌∙◌, ◌⊎◌, inl, inr, arith}
use Rattle.std.proofs.lemmas.Bool.{cases_lt, le-ltb, lt-ltb}
use Rattle.std.proofs.lemmas.List.{append_assoc, append-nil, length-append}
use Rattle.std.proofs.lemmas.List.Sums.{fold-append}
use Rattle.std.specs.List.{fold}
use Rattle.ix_text.specs.Collections.{Document}
use Rattle.ix_text.specs.Parts.{Posting}
use Rattle.ix_text.specs.TokenLists.{Entry}
use Rattle.ix_run.specs.Dictionaries.{places_of, tokens_in}
use Rattle.ix_run.specs.DocumentEnds.{AreEnds, IsSpan, ends_of, last_end, postings_at, token_at}
use Rattle.ix_run.specs.Inverted.{grown, occurrences_in, occurrences_of, posted, postings_of}
use Rattle.ix_run.proofs.PlaceLemmas.{places_of-append}

-- ---- the document of a place

token_at-below : (start end : ℕ) (ends : List ℕ) (place : ℕ) → place < end → token_at start (end ∷ ends) place ≡ (0, place - start)
token_at-below start end ends place low = ap (λ b. cond b (0, place - start) (1 + (token_at end ends place).0, (token_at end ends place).1)) (lt-ltb place end low)

token_at-above : (start end : ℕ) (ends : List ℕ) (place : ℕ) → end ≤ place → token_at start (end ∷ ends) place ≡ (1 + (token_at end ends place).0, (token_at end ends place).1)
token_at-above start end ends place high = ap (λ b. cond b (0, place - start) (1 + (token_at end ends place).0, (token_at end ends place).1)) (le-ltb place end high)

-- where a document begins, of which the first begins there
abbrev pub start_at : ℕ → List ℕ → ℕ → ℕ
start_at start ends zero = start
start_at start ends (suc document) = get_or ends document 0

start_at-later : (start end : ℕ) (ends : List ℕ) (document : ℕ) → start_at start (end ∷ ends) (suc document) ≡ start_at end ends document
start_at-later start end ends zero = refl
start_at-later start end ends (suc document) = refl

start_le : (start : ℕ) (ends : List ℕ) (document : ℕ) → AreEnds start ends → document ≤ length ends → start ≤ start_at start ends document
start_le start ends zero are within = omega arith
start_le start [] (suc document) are within = absurd (omega (arith, within))
start_le start (end ∷ ends) (suc document) are within =
    let later = start_le end ends document are.1 (omega (arith, within)) in
    omega (arith, are.0, later, start_at-later start end ends document)

before_start : (start : ℕ) (ends : List ℕ) (before document : ℕ) → AreEnds start ends → before < document → document ≤ length ends → get_or ends before 0 ≤ start_at start ends document
before_start start ends before zero are less within = absurd (omega (arith, less))
before_start start [] before (suc document) are less within = absurd (omega (arith, within))
before_start start (end ∷ ends) zero (suc document) are less within =
    let later = start_le end ends document are.1 (omega (arith, within)) in
    omega (arith, later, start_at-later start end ends document)
before_start start (end ∷ ends) (suc before) (suc document) are less within =
    let later = before_start end ends before document are.1 (omega (arith, less)) (omega (arith, within)) in
    omega (arith, later, start_at-later start end ends document)

found_at : (start : ℕ) (ends : List ℕ) (document place : ℕ) → document < length ends → ((before : ℕ) → before < document → get_or ends before 0 ≤ place) → place < get_or ends document 0
    → token_at start ends place ≡ (document, place - start_at start ends document)
found_at start [] document place within before low = absurd (omega (arith, within))
found_at start (end ∷ ends) zero place within before low = token_at-below start end ends place low
found_at start (end ∷ ends) (suc document) place within before low =
    let later = found_at end ends document place (omega (arith, within)) (λ k less. before (suc k) (omega (arith, less))) low in
    token_at-above start end ends place (before zero (omega arith))
    ∙ ap (λ t. (1 + t.0, t.1)) later
    ∙ ap₂ (λ d s. (d, place - s)) (let more : 1 + document ≡ suc document = omega arith in more) (sym (start_at-later start end ends document))

-- the last of the ends is not above what none is above
pub last_end_le : (start : ℕ) (ends : List ℕ) (place : ℕ) → start ≤ place → ((k : ℕ) → k < length ends → get_or ends k 0 ≤ place) → last_end start ends ≤ place
last_end_le start [] place low each = low
last_end_le start (end ∷ ends) place low each = last_end_le end ends place (each zero (omega arith)) (λ k within. each (suc k) (omega (arith, within)))

-- what is not before the end of a document is in a later one
behind_end : (start : ℕ) (ends : List ℕ) (document place : ℕ) → AreEnds start ends → document < length ends → get_or ends document 0 ≤ place → document < (token_at start ends place).0
behind_end start [] document place are within from = absurd (omega (arith, within))
behind_end start (end ∷ ends) zero place are within from = let there = ap (λ (t : ℕ × ℕ). t.0) (token_at-above start end ends place from) in omega (arith, there)
behind_end start (end ∷ ends) (suc document) place are within from =
    let low = start_le end ends (suc document) are.1 (omega (arith, within)) in
    let there = ap (λ (t : ℕ × ℕ). t.0) (token_at-above start end ends place (omega (arith, low, from))) in
    let later = behind_end end ends document place are.1 (omega (arith, within)) from in
    omega (arith, there, later)

-- the tokens of a document are those between its start and its end
pub span_of : (ends : List ℕ) (document : ℕ) → AreEnds 0 ends → document < length ends → IsSpan ends document (start_at 0 ends document) (get_or ends document 0)
span_of ends document are within = record {
  each = λ place from to.
      found_at 0 ends document place within
      (λ k less. let before = before_start 0 ends k document are less (omega (arith, within)) in omega (arith, before, from)) to;
  later = λ place from. behind_end 0 ends document place are within from;
}

-- ---- the ends of documents

pub ends_ascend : (start : ℕ) (documents : List Document) → AreEnds start (ends_of start documents)
ends_ascend start [] = tt
ends_ascend start (d ∷ documents) = (omega arith, ends_ascend (start + length d.tokens) documents)

pub length-ends_of : (start : ℕ) (documents : List Document) → length (ends_of start documents) ≡ length documents
length-ends_of start [] = refl
length-ends_of start (d ∷ documents) = let rest = length-ends_of (start + length d.tokens) documents in omega (arith, rest)

pub last_end-ends_of : (start : ℕ) (documents : List Document) → last_end start (ends_of start documents) ≡ start + length (tokens_in documents)
last_end-ends_of start [] = omega arith
last_end-ends_of start (d ∷ documents) =
    let rest = last_end-ends_of (start + length d.tokens) documents in
    omega (arith, rest, length-append d.tokens (tokens_in documents))

pub tokens_in-push : (documents : List Document) (d : Document) → tokens_in (documents ++ d ∷ []) ≡ tokens_in documents ++ d.tokens
tokens_in-push [] d = append-nil d.tokens
tokens_in-push (first ∷ documents) d = ap (λ rest. first.tokens ++ rest) (tokens_in-push documents d) ∙ sym (append_assoc first.tokens (tokens_in documents) d.tokens)

pub ends_of-push : (start : ℕ) (documents : List Document) (d : Document) → ends_of start (documents ++ d ∷ []) ≡ ends_of start documents ++ (start + length (tokens_in documents) + length d.tokens) ∷ []
ends_of-push start [] d = ap (λ n. n ∷ []) (let same : start + length d.tokens ≡ start + 0 + length d.tokens = omega arith in same)
ends_of-push start (first ∷ documents) d =
    ap (λ rest. (start + length first.tokens) ∷ rest)
    (ends_of-push (start + length first.tokens) documents d
    ∙ ap (λ n. ends_of (start + length first.tokens) documents ++ n ∷ [])
    (let same : start + length first.tokens + length (tokens_in documents) + length d.tokens ≡ start + length (first.tokens ++ tokens_in documents) + length d.tokens = omega (arith, length-append first.tokens (tokens_in documents)) in same))

-- ---- the postings of a term from its places

-- one more place, where each is a position in a document
abbrev pub grown_at : (ℕ → ℕ × ℕ) → List Posting → ℕ → List Posting
grown_at at postings place = grown postings (at place).0 (at place).1

module _ (term : List ℕ) (at : ℕ → ℕ × ℕ) where
  in_document : (number position place : ℕ) (tokens : List Entry) (postings : List Posting) → ((j : ℕ) → j < length tokens → at (place + j) ≡ (number, position + j))
      → fold (posted term) postings (occurrences_in number position tokens) ≡ fold (grown_at at) postings (places_of term place tokens)
  in_document number position place [] postings is = refl
  in_document number position place (None ∷ tokens) postings is =
      in_document number (position + 1) (place + 1) tokens postings
      (λ j within. ap at (let same : place + 1 + j ≡ place + suc j = omega arith in same) ∙ is (suc j) (omega (arith, within)) ∙ ap (λ p. (number, p)) (let same : position + suc j ≡ position + 1 + j = omega arith in same))
  in_document number position place (Some other ∷ tokens) postings is =
      by (bytes_eq other term)
      (λ more.
      in_document number (position + 1) (place + 1) tokens more
      (λ j within. ap at (let same : place + 1 + j ≡ place + suc j = omega arith in same) ∙ is (suc j) (omega (arith, within)) ∙ ap (λ p. (number, p)) (let same : position + suc j ≡ position + 1 + j = omega arith in same)))
    where
      here : (number, position) ≡ at place
      here =
          ap (λ p. (number, p)) (let same : position ≡ position + 0 = omega arith in same)
          ∙ sym (is zero (omega arith))
          ∙ ap at (let same : place + 0 ≡ place = omega arith in same)

      by : (b : Bool) → ((more : List Posting) → fold (posted term) more (occurrences_in number (position + 1) tokens) ≡ fold (grown_at at) more (places_of term (place + 1) tokens))
          → fold (posted term) (cond b (grown postings number position) postings) (occurrences_in number (position + 1) tokens)
          ≡ fold (grown_at at) postings (cond b (place ∷ places_of term (place + 1) tokens) (places_of term (place + 1) tokens))
      by true rest =
          ap (λ (t : ℕ × ℕ). fold (posted term) (grown postings t.0 t.1) (occurrences_in number (position + 1) tokens)) here
          ∙ rest (grown postings (at place).0 (at place).1)
      by false rest = rest postings

  in_documents : (number place : ℕ) (documents : List Document) (postings : List Posting)
      → ((g : ℕ) → place ≤ g → at g ≡ (number + (token_at place (ends_of place documents) g).0, (token_at place (ends_of place documents) g).1))
      → fold (posted term) postings (occurrences_of number documents) ≡ fold (grown_at at) postings (places_of term place (tokens_in documents))
  in_documents number place [] postings is = refl
  in_documents number place (d ∷ documents) postings is =
      let end = place + length d.tokens in
      let here = occurrences_in number 0 d.tokens in
      fold-append (posted term) postings here (occurrences_of (number + 1) documents)
      ∙ ap (λ more. fold (posted term) more (occurrences_of (number + 1) documents))
      (in_document number 0 place d.tokens postings
      (λ j within.
      is (place + j) (omega arith)
      ∙ ap (λ (t : ℕ × ℕ). (number + t.0, t.1)) (token_at-below place end (ends_of end documents) (place + j) (omega (arith, within)))
      ∙ ap₂ (λ (n p : ℕ). (n, p)) (let same : number + 0 ≡ number = omega arith in same) (let same : place + j - place ≡ 0 + j = omega arith in same)))
      ∙ in_documents (number + 1) end documents (fold (grown_at at) postings (places_of term place d.tokens))
      (λ g from.
      is g (omega (arith, from))
      ∙ ap (λ (t : ℕ × ℕ). (number + t.0, t.1)) (token_at-above place end (ends_of end documents) g from)
      ∙ ap (λ (n : ℕ). (n, (token_at end (ends_of end documents) g).1)) (let same : number + (1 + (token_at end (ends_of end documents) g).0) ≡ number + 1 + (token_at end (ends_of end documents) g).0 = omega arith in same))
      ∙ sym (fold-append (grown_at at) postings (places_of term place d.tokens) (places_of term end (tokens_in documents)))
      ∙ ap (fold (grown_at at) postings) (sym (places_of-append term place d.tokens (tokens_in documents)))

-- the postings of a term are those at its places
pub postings_of-places : (term : List ℕ) (documents : List Document) → postings_of term (occurrences_of 0 documents) ≡ postings_at (ends_of 0 documents) (places_of term 0 (tokens_in documents))
postings_of-places term documents =
    in_documents term (token_at 0 (ends_of 0 documents)) 0 0 documents []
    (λ g from. ap (λ (n : ℕ). (n, (token_at 0 (ends_of 0 documents) g).1)) (let same : (token_at 0 (ends_of 0 documents) g).0 ≡ 0 + (token_at 0 (ends_of 0 documents) g).0 = omega arith in same))

-- ---- the document that a search finds

-- the document that has a place, where it begins and where it ends
pub record IsFound (ends : List ℕ) (place document : ℕ) : Type 0 where
  pub within : document < length ends
  pub from : start_at 0 ends document ≤ place
  pub to : place < get_or ends document 0

-- one that does not end at a place or earlier is there, where the last ends behind the place
pub found_inside : (ends : List ℕ) (place document : ℕ) → place < last_end 0 ends → ((k : ℕ) → k < document → get_or ends k 0 ≤ place) → document ≤ length ends → document < length ends
found_inside ends place document low before within = by (cases_lt document (length ends))
  where
    by : (document < length ends) ⊎ (length ends ≤ document) → document < length ends
    by (inl inside) = inside
    by (inr beyond) = absurd (let most = last_end_le 0 ends place (omega arith) (λ k less. before k (omega (arith, less, beyond))) in omega (arith, most, low))

pub is_found : (ends : List ℕ) (place document : ℕ) → place < last_end 0 ends → ((k : ℕ) → k < document → get_or ends k 0 ≤ place) → document ≤ length ends → place < get_or ends document 0 → IsFound ends place document
is_found ends place document low before within to = record {
  within = found_inside ends place document low before within;
  from = started document before;
  to = to;
}
  where
    started : (d : ℕ) → ((k : ℕ) → k < d → get_or ends k 0 ≤ place) → start_at 0 ends d ≤ place
    started zero before = omega arith
    started (suc d) before = before d (omega arith)

-- the start as it is read
pub start-first : (ends : List ℕ) (document : ℕ) → document ≡ 0 → start_at 0 ends document ≡ 0
start-first ends zero is = refl
start-first ends (suc document) is = absurd (omega (arith, is))

pub start-other : (ends : List ℕ) (document : ℕ) → 0 < document → start_at 0 ends document ≡ get_or ends (document - 1) 0
start-other ends zero some = absurd (omega (arith, some))
start-other ends (suc document) some = ap (λ k. get_or ends k 0) (let same : document ≡ suc document - 1 = omega arith in same)
