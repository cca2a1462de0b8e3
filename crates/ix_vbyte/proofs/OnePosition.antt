-- A posting of one position that was found at the front of some bytes.
use Rattle.std.proofs.Common.{◌≡◌, ℕ, ◌+◌, ◌-◌, ◌≤◌, List, [], ◌∷◌, ◌++◌, length, take, drop, refl, sym, ap, ap₂, ◌∙◌, subst, arith}
use Rattle.std.proofs.lemmas.List.{append_assoc, append-nil, drop_at, length-append, take_rest}
use Rattle.ix_vbyte.specs.Code.{code_of}
use Rattle.ix_vbyte.specs.Ends.{end_of}
use Rattle.ix_vbyte.specs.Postings.{Posting, posting_bytes}
use Rattle.ix_vbyte.specs.ShortPostings.{BeginsWithSingle}
use Rattle.ix_vbyte.specs.Walking.{positions_told, ArePositionsFrom, MayFollow, BeginsWithPosting}
use Rattle.ix_vbyte.proofs.Ends.{end_of-codes}
use Rattle.ix_vbyte.proofs.ShortPostings.{single_parts}
use Rattle.ix_vbyte.proofs.Values.{code_of-apart}
use Rattle.ix_vbyte.proofs.Walks.{PostingRead, SkipsCodes, posting_read}

module _ (bytes : List ℕ) (gap position size : ℕ) (begins : BeginsWithSingle bytes gap position size) where
  -- the code of the position's gap, and all from there on
  abbrev place : List ℕ
  place = code_of position

  abbrev behind : List ℕ
  behind = place ++ drop size bytes

  pub place_within : length place ≤ size
  place_within = omega (arith, begins.sized, length-append (code_of gap) (code_of 1 ++ place), length-append (code_of 1) place)

  place_ends : SkipsCodes behind 1 (length place)
  place_ends numbers rest coded counted =
      ap length (sym (append-nil place))
      ∙ sym (end_of-codes (position ∷ []) (drop size bytes))
      ∙ ap (λ xs. end_of 1 (xs ++ drop size bytes)) (append-nil place)
      ∙ ap₂ end_of (sym counted) coded
      ∙ end_of-codes numbers rest

  single_read : (next : ℕ) (posting : Posting) (others : List ℕ) → MayFollow next posting → bytes ≡ posting_bytes (posting.0 + 1 - next) posting ++ others → PostingRead next posting others gap 1 behind (length place)
  single_read next posting others may coded =
      posting_read next bytes gap (code_of 1 ++ behind) 1 behind (length place) posting others
      (λ number rest fits e. code_of-apart gap number (code_of 1 ++ behind) rest (sym (single_parts bytes gap position size begins) ∙ e))
      (λ number rest fits e. code_of-apart 1 number behind rest e)
      place_ends may coded

  module _ (start : ℕ) (is : start ≡ size - length place) where
    -- the bytes of the position's gap
    place_bytes : take (size - start) (drop start bytes) ≡ take (length place) behind
    place_bytes =
        let front = code_of gap ++ code_of 1 in
        let sized = begins.sized ∙ ap length (sym (append_assoc (code_of gap) (code_of 1) place)) ∙ length-append front place in
        let parts = single_parts bytes gap position size begins ∙ sym (append_assoc (code_of gap) (code_of 1) behind) in
        let long : size - start ≡ length place = omega (arith, is, sized) in
        let from : length front ≡ start = omega (arith, is, sized) in
        ap₂ take long (ap (drop start) parts ∙ drop_at front behind start from)

    -- what is known of the posting, and of the bytes behind it
    pub are_single : (next : ℕ) → BeginsWithPosting next bytes → ArePositionsFrom 0 1 (take (size - start) (drop start bytes))
    are_single next first = subst (ArePositionsFrom 0 1) (sym place_bytes) (single_read next first.posting first.rest first.may first.coded).positions.are

    pub reads_single : (next : ℕ) (posting : Posting) (others : List ℕ) → MayFollow next posting → bytes ≡ posting_bytes (posting.0 + 1 - next) posting ++ others
        → (next + (gap - 1) ≡ posting.0) × (positions_told 0 (take (size - start) (drop start bytes)) ≡ posting.1) × (take (length bytes - size) (drop size bytes) ≡ others)
    reads_single next posting others may coded =
        let read = single_read next posting others may coded in
        let above : next ≤ posting.0 = may.above in (
          omega (arith, read.gap_is, above),
          ap (positions_told 0) place_bytes ∙ read.positions.told,
          take_rest bytes size ∙ sym (drop_at place (drop size bytes) (length place) refl) ∙ read.behind,
        )
