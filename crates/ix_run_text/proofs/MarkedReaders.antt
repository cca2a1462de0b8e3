-- What is ahead of a reader within a lawful whole: the list fits, its tokens were not told, and it is what is held.
use Rattle.std.proofs.Common.{◌≡◌, ℕ, ◌+◌, ◌^◌, ◌≤◌, List, [], ◌∷◌, ◌++◌, Some, ap, subst, ◌∙◌, arith}
use Rattle.std.proofs.lemmas.List.{map-append}
use Rattle.ix_text.specs.Parts.{DictionaryEntry, Posting}
use Rattle.ix_text.specs.TokenNumbers.{AreDistinct, numbers_of_entries, numbers_of_postings}
use Rattle.ix_text.proofs.TokensApart.{lawful_distinct}
use Rattle.ix_vbyte.specs.Gaps.{next_after}
use Rattle.ix_vbyte.specs.Postings.{documents_of}
use Rattle.ix_vbyte.proofs.Gaps.{next_after-push}
use Rattle.ix_run_text.specs.Heads.{Heading, parts_with}
use Rattle.ix_postings.specs.NextPostings.{PostingsFit}
use Rattle.ix_run_text.specs.Reading.{HasRead}
use Rattle.ix_run_text.specs.Sources.{AreWhole, closed, extended}
use Rattle.ix_run_text.specs.declared.run_reader.RunReader.{RunReader}
use Rattle.ix_run_text.proofs.Fronts.{whole_front}
use Rattle.ix_run_text.proofs.ReadFronts.{numbers_more}
use Rattle.ix_run_text.proofs.ReadWholes.{closed-given, posting_fits}

-- documents are counted from a low number
pub first_low : {R : Type 0} (reader : RunReader R) → ((finished : List DictionaryEntry) × ((entry : DictionaryEntry) × HasRead reader finished (Some entry))) → reader.head.first ≤ 2 ^ 28
first_low reader (finished, (entry, read)) = (let within = read.lawful.whole.within in omega (arith, within))

-- ---- where a lawful dictionary lies ahead

pub all_fit : (heading : Heading) (finished : List DictionaryEntry) (entry : DictionaryEntry) (postings : List Posting) (entries : List DictionaryEntry)
    → AreWhole heading (closed finished (Some entry) postings ++ entries) → PostingsFit heading.rows (next_after 0 (documents_of entry.postings)) postings
all_fit heading finished entry [] entries whole = tt
all_fit heading finished entry (p ∷ ps) entries whole =
    let longer : DictionaryEntry = extended entry (p ∷ []) in
    let next : next_after 0 (documents_of longer.postings) ≡ p.0 + 1 = ap (next_after 0) (map-append (λ (q : Posting). q.0) entry.postings (p ∷ [])) ∙ next_after-push 0 (documents_of entry.postings) p.0 in (
      posting_fits heading finished entry p ps entries whole,
      subst (λ (n : ℕ). PostingsFit heading.rows n ps) next
          (all_fit heading finished longer ps entries (subst (AreWhole heading) (ap (λ (es : List DictionaryEntry). es ++ entries) (closed-given finished entry p ps)) whole)),
    )

pub all_free : (heading : Heading) (finished : List DictionaryEntry) (entry : DictionaryEntry) (postings : List Posting) (entries : List DictionaryEntry) → AreWhole heading (closed finished (Some entry) postings ++ entries)
    → AreDistinct (numbers_of_entries heading.rows (closed finished (Some entry) []) ++ numbers_of_postings heading.rows postings)
all_free heading finished entry postings entries whole =
    let front = whole_front heading (closed finished (Some entry) postings) entries whole in
    subst AreDistinct (numbers_more heading.rows finished entry postings) (lawful_distinct (parts_with heading (closed finished (Some entry) postings)) front.lawful)
