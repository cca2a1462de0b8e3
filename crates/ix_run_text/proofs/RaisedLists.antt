-- The list that is left, counted from a number of the whole collection.
use Rattle.std.proofs.Common.{◌≡◌, true, ℕ, ◌-◌, ◌+◌, ◌^◌, ◌<◌, ◌≤◌, List, [], ◌∷◌, ◌++◌, length, OnErr, Result, Ok, Err, Some, sym, ap, subst, ◌∙◌, arith, length-append}
use Rattle.std.specs.Prelude.{is_err}
use Rattle.ix_text.specs.Parts.{DictionaryEntry, Posting}
use Rattle.ix_vbyte.specs.Code.{code_of}
use Rattle.ix_vbyte.specs.Gaps.{gaps_of}
use Rattle.ix_vbyte.specs.Postings.{ArePostings, codes_of, list_bytes_from, posting_bytes, shifted}
use Rattle.ix_vbyte.proofs.Shifting.{list_bytes-shifted}
use Rattle.ix_vbyte.proofs.Values.{length-code_of, some_code_byte}
use Rattle.ix_run_text.specs.Reading.{HasRead, postings_ahead}
use Rattle.ix_run_text.specs.declared.run_reader.RunReader.{RunReader}
use Rattle.ix_run_text.proofs.MarkedReaders.{first_low}
use Rattle.ix_run_text.proofs.TakenLists.{list_size, low_ahead}
use Rattle.ix_run_text.proofs.WholeLists.{shift_postings}

length-posting_bytes : (gap : ℕ) (posting : Posting) → length (posting_bytes gap posting) ≡ length (code_of gap) + (length (code_of (length posting.1)) + length (codes_of (gaps_of posting.1)))
length-posting_bytes gap posting =
    omega (arith, length-append (code_of gap ++ code_of (length posting.1)) (codes_of (gaps_of posting.1)), length-append (code_of gap) (code_of (length posting.1)))

-- its first gap alone is coded anew, in four bytes more at most
raised_size : (first next from : ℕ) (postings : List Posting) → ArePostings from (2 ^ 32 - 1) (shifted first postings) → length (list_bytes_from from (shifted first postings)) ≤ length (list_bytes_from next postings) + 4
raised_size first next from [] are = omega arith
raised_size first next from (p ∷ ps) are =
    let below : first + p.0 < 2 ^ 32 - 1 = are.documents.1 in
    let q : Posting = (first + p.0, p.1) in
    let one = length-posting_bytes (first + p.0 + 1 - from) q in
    let other = length-posting_bytes (p.0 + 1 - next) p in
    let most = (length-code_of (first + p.0 + 1 - from) (omega (arith, below))).1 in
    let same : list_bytes_from (first + p.0 + 1) (shifted first ps) ≡ list_bytes_from (p.0 + 1) ps =
    ap (λ (n : ℕ). list_bytes_from n (shifted first ps)) (omega arith) ∙ list_bytes-shifted first (p.0 + 1) ps in
    omega (
      arith,
      one,
      other,
      most,
      some_code_byte (p.0 + 1 - next),
      ap length same,
      length-append (posting_bytes (first + p.0 + 1 - from) q) (list_bytes_from (first + p.0 + 1) (shifted first ps)),
      length-append (posting_bytes (p.0 + 1 - next) p) (list_bytes_from (p.0 + 1) ps),
    )

if_refused : {T E P : Type 0} (result : Result T E) → is_err result ≡ true → OnErr result P → P
if_refused (Ok x) bad holds = absurd (cc)
if_refused (Err e) bad holds = holds

module _ {R : Type 0} (reader : RunReader R) (begun : (finished : List DictionaryEntry) × ((entry : DictionaryEntry) × HasRead reader finished (Some entry))) (next : ℕ) (low : next ≤ reader.head.first) where
  -- it may be counted from there
  pub may_raise : (postings : List Posting) → postings ≡ postings_ahead reader → ArePostings next (2 ^ 32 - 1) (shifted reader.head.first postings)
  may_raise postings is =
      let few = first_low reader begun in
      subst (λ (ps : List Posting). ArePostings next (2 ^ 32 - 1) (shifted reader.head.first ps)) (sym is)
      (shift_postings reader.head.first reader.next (2 ^ 28) next (2 ^ 32 - 1) (postings_ahead reader) (omega (arith, low)) (omega (arith, few)) (low_ahead reader _ begun.1.1.marked))

  pub raised_full : {T E : Type 0} (result : Result T E) (postings : List Posting) (room filled : ℕ) → postings ≡ postings_ahead reader → is_err result ≡ true
      → OnErr result (room < filled + length (list_bytes_from next (shifted reader.head.first postings))) → room < filled + (reader.bytes + 4)
  raised_full result postings room filled is bad full =
      let less = if_refused result bad full in
      let most = raised_size reader.head.first reader.next next postings (may_raise postings is) in
      omega (arith, less, most, ap (λ (ps : List Posting). length (list_bytes_from reader.next ps)) is, list_size reader)
