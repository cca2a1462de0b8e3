-- The first posting that is left of a list, decoded.
use Rattle.std.proofs.Common.{◌≡◌, ℕ, ◌-◌, ◌+◌, ◌<◌, ◌≤◌, List, [], ◌∷◌, ◌++◌, length, take, drop, Option, sym, ap, subst, ◌∙◌, arith, length-append, length-take}
use Rattle.std.proofs.lemmas.List.{drop-take, drop_at, length-take-le}
use Rattle.std.specs.Io.KnownBytes.{Consumes}
use Rattle.ix_text.specs.Parts.{Posting}
use Rattle.ix_vbyte.specs.Code.{code_of}
use Rattle.ix_vbyte.specs.Gaps.{gaps_of, next_after}
use Rattle.ix_vbyte.specs.Postings.{codes_of, documents_of, list_bytes_from, posting_bytes}
use Rattle.ix_vbyte.specs.Walking.{ArePostingsFrom, BeginsWithPosting, ReadsPosting, postings_told}
use Rattle.ix_vbyte.proofs.Values.{some_code_byte}
use Rattle.ix_vbyte.proofs.Walks.{TakenPosting, begins_with_posting, taken_posting}
use Rattle.ix_run_text.specs.Inputs.{bytes_held, known_left}
use Rattle.ix_run_text.specs.Reading.{postings_ahead, standing}
use Rattle.ix_run_text.specs.SpelledLists.{SpellsList}
use Rattle.ix_run_text.specs.declared.input.Input.{Input}
use Rattle.ix_run_text.specs.declared.run_reader.RunReader.{RunReader}
use Rattle.ix_run_text.proofs.TakenLists.{Takes, takes_front}

-- a posting has bytes
some_posting_byte : (gap : ℕ) (posting : Posting) (rest : List ℕ) → 0 < length (posting_bytes gap posting ++ rest)
some_posting_byte gap posting rest =
    omega (
      arith,
      length-append (posting_bytes gap posting) rest,
      length-append (code_of gap ++ code_of (length posting.1)) (codes_of (gaps_of posting.1)),
      length-append (code_of gap) (code_of (length posting.1)),
      some_code_byte gap,
    )

-- what stands behind a front of the bytes
rest_behind : (bytes front rest : List ℕ) (size : ℕ) → size ≤ length bytes → take size bytes ≡ front ++ rest → take (length rest) (drop (size - length rest) bytes) ≡ rest
rest_behind bytes front rest size within parts =
    let sizes : size ≡ length front + length rest = sym (length-take-le size bytes within) ∙ ap length parts ∙ length-append front rest in
    let all : size - length rest + length rest ≡ size = omega (arith, sizes) in
    let first : length front ≡ size - length rest = omega (arith, sizes) in
    sym (drop-take (size - length rest) (length rest) bytes)
    ∙ ap (λ (n : ℕ). drop (size - length rest) (take n bytes)) all
    ∙ ap (λ (xs : List ℕ). drop (size - length rest) xs) parts
    ∙ drop_at front rest (size - length rest) first

module _ {R : Type 0} (reader : RunReader R) (some : 0 < reader.documents) (list : List ℕ) (is : list ≡ take reader.bytes (bytes_held reader.input)) where
  are : ArePostingsFrom reader.next reader.documents list
  are = subst (ArePostingsFrom reader.next reader.documents) (sym is) reader.left.are

  some_byte : 0 < length list
  some_byte = by (postings_told reader.documents reader.next list) are.coded are.counted
    where
      by : (ps : List Posting) → list ≡ list_bytes_from reader.next ps → length ps ≡ reader.documents → 0 < length list
      by [] coded counted = absurd (omega (arith, counted, some))
      by (p ∷ ps) coded counted = omega (arith, ap length coded, some_posting_byte (p.0 + 1 - reader.next) p (list_bytes_from (p.0 + 1) ps))

  -- one stands first
  pub posting_begins : BeginsWithPosting reader.next list
  posting_begins = begins_with_posting reader.next reader.documents list are some_byte

  module _ (document : ℕ) (positions rest : List ℕ) (reads : ReadsPosting reader.next list document positions rest) where
    pub took : TakenPosting reader.next reader.documents list document positions rest
    took = taken_posting reader.next reader.documents list document positions rest are some_byte reads

    abbrev posting : Posting
    posting = (document, positions)

    abbrev behind : List Posting
    behind = postings_told (reader.documents - 1) (document + 1) rest

    ahead_is : postings_ahead reader ≡ posting ∷ behind
    ahead_is = ap (postings_told reader.documents reader.next) (sym is) ∙ took.told

    parts : take reader.bytes (bytes_held reader.input) ≡ posting_bytes (document + 1 - reader.next) posting ++ rest
    parts =
        reader.left.are.coded ∙ ap (list_bytes_from reader.next) ahead_is
        ∙ ap (λ (xs : List ℕ). posting_bytes (document + 1 - reader.next) posting ++ xs) (sym took.are.coded)

    pub rest_within : length rest ≤ reader.bytes
    rest_within = omega (arith, length-take-le reader.bytes (bytes_held reader.input) reader.held, ap length parts, length-append (posting_bytes (document + 1 - reader.next) posting) rest)

    rest_is : take (length rest) (drop (reader.bytes - length rest) (bytes_held reader.input)) ≡ rest
    rest_is = rest_behind (bytes_held reader.input) (posting_bytes (document + 1 - reader.next) posting) rest reader.bytes reader.held parts

    -- and is buffered
    pub rest_held : (later : List ℕ) → later ≡ drop (reader.bytes - length rest) (bytes_held reader.input) → length rest ≤ length later
    rest_held later stays = omega (arith, ap length (sym rest_is ∙ ap (take (length rest)) (sym stays)), length-take (length rest) later)

    -- the others are left
    pub others_left : (later : List ℕ) → later ≡ drop (reader.bytes - length rest) (bytes_held reader.input) → SpellsList (document + 1) reader.after (reader.documents - 1) (take (length rest) later)
    others_left later stays =
        subst (SpellsList (document + 1) reader.after (reader.documents - 1)) (sym (ap (take (length rest)) stays ∙ rest_is))
        (record { are = took.are; last = reader.left.last ∙ ap (λ (ps : List Posting). next_after reader.next (documents_of ps)) ahead_is })

    pub takes_first : (remaining : R → Option (List ℕ)) (input : Input R) → Consumes (known_left remaining reader.input) (known_left remaining input) (take (reader.bytes - length rest) (bytes_held reader.input))
        → bytes_held input ≡ drop (reader.bytes - length rest) (bytes_held reader.input)
        → Takes (standing reader) (posting ∷ []) (reader.documents - 1) (length rest) (bytes_held input) (known_left remaining reader.input) (known_left remaining input)
    takes_first remaining input consumes stays =
        takes_front reader remaining (posting ∷ []) behind (reader.documents - 1) (length rest) input (omega arith) ahead_is took.are.counted (ap length (sym took.are.coded)) consumes stays
