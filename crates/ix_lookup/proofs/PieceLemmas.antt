-- What is left of a section that is read in pieces, and the row that the rest of a piece has.
use Rattle.std.proofs.Common.{◌≡◌, ℕ, ◌+◌, ◌-◌, ◌/◌, ◌%◌, ◌≤◌, ◌⊎◌, Bool, true, false, cond, List, [], ◌∷◌, ◌++◌, length, take, drop, nat_eq, sym, ap, ◌∙◌, inl, inr, arith, length-append, length-drop, zero-add}
use Rattle.std.specs.Int.Digits.{digits_of}
use Rattle.std.specs.List.{common_prefix_len, copy_within}
use Rattle.std.proofs.lemmas.Int.Digits.{length-digits_of-le}
use Rattle.std.proofs.lemmas.List.{append_assoc, length_push, drop-drop, take-append-drop, take-append-le, drop-append-le, take_all}
use Rattle.std.proofs.lemmas.List.Edits.{take-paste}
use Rattle.std.proofs.lemmas.List.Sums.{common_prefix_len-le}
use Rattle.std.proofs.Math.Seq.{take-add, take-append_seam, drop-append_seam}
use Rattle.ix_vbyte.specs.Code.{code_of}
use Rattle.ix_vbyte.specs.Texts.{counted}
use Rattle.ix_vbyte.proofs.Values.{length-code_of}
use Rattle.ix_index_text.specs.Listings.{Listing, dictionary_term_bytes, listing_bytes}
use Rattle.ix_index_text.specs.Sections.{Version, Plain, FrontCoded, front_coded, grouped}
use Rattle.ix_lookup.specs.Listed.{IsReadable}
use Rattle.ix_lookup.specs.declared.pieces.TheConstants.{ROW_BYTES}

-- the rest of a piece, moved to its front
pub moved_front : (piece : List ℕ) (place : ℕ) → place ≤ length piece → take (length piece - place) (copy_within piece place (length piece) 0) ≡ drop place piece
moved_front piece place within =
    let rest = drop place piece in
    let n = length piece - place in
    let size : n ≤ length rest = omega (arith, length-drop place piece) in
    ap (λ k. take k (copy_within piece place (length piece) 0)) (sym (zero-add n)) ∙ take-paste piece 0 rest n (omega arith) size ∙ take_all n rest (omega (arith, length-drop place piece))

-- what was read behind a piece is left as before
pub read_behind : (rest bytes : List ℕ) (start unread size : ℕ) → size ≤ unread
    → (rest ++ take size (drop start bytes)) ++ take (unread - size) (drop (start + size) bytes) ≡ rest ++ take unread (drop start bytes)
read_behind rest bytes start unread size few =
    let unread_bytes = drop start bytes in
    let all : size + (unread - size) ≡ unread = omega arith in
    append_assoc rest (take size unread_bytes) (take (unread - size) (drop (start + size) bytes))
    ∙ ap (λ xs. rest ++ (take size unread_bytes ++ take (unread - size) xs)) (sym (drop-drop size start bytes))
    ∙ ap (λ xs. rest ++ xs) (sym (take-add size (unread - size) unread_bytes) ∙ ap (λ n. take n unread_bytes) all)

-- So what is left after a read is what was left before.
pub reads_on : (piece moved rest filled bytes : List ℕ) (place whole size_of_rest start unread size : ℕ) → place ≤ length piece → moved ≡ copy_within piece place whole 0 → whole ≡ length piece → size_of_rest ≡ length piece - place → rest ≡ take size_of_rest moved
    → filled ≡ rest ++ take size (drop start bytes) → size ≤ unread → filled ++ take (unread - size) (drop (start + size) bytes) ≡ drop place piece ++ take unread (drop start bytes)
reads_on piece moved rest filled bytes place whole size_of_rest start unread size within is_moved is_whole is_size is_rest is_filled few =
    let all : moved ≡ copy_within piece place (length piece) 0 = is_moved ∙ ap (λ n. copy_within piece place n 0) is_whole in
    let same : rest ≡ drop place piece = is_rest ∙ ap (λ n. take n moved) is_size ∙ ap (take (length piece - place)) all ∙ moved_front piece place within in
    ap (λ xs. xs ++ take (unread - size) (drop (start + size) bytes)) (is_filled ∙ ap (λ xs. xs ++ take size (drop start bytes)) same)
    ∙ read_behind (drop place piece) bytes start unread size few

-- ---- the row

small_code : (n : ℕ) → n ≤ 255 → length (code_of n) ≤ 2
unfolding code_of
small_code n small =
    let len : length (digits_of 128 (n / 128) ++ (128 + n % 128) ∷ []) ≡ length (digits_of 128 (n / 128)) + 1 = length_push (digits_of 128 (n / 128)) (128 + n % 128) in
    let most : length (digits_of 128 (n / 128)) ≤ 1 = length-digits_of-le 128 1 (n / 128) (omega arith) (omega arith) in
    omega arith

counted_size : (text : List ℕ) → length text ≤ 255 → length (counted text) ≤ 257
counted_size text short = omega (arith, length-append (code_of (length text)) text, small_code (length text) short)

front_coded_size : (before term : List ℕ) → length before ≤ 255 → length term ≤ 255 → length (front_coded before term) ≤ 259
front_coded_size before term few short =
    let shared = common_prefix_len nat_eq before term in
    let within : shared ≤ length before = (common_prefix_len-le nat_eq before term).0 in
    let own : length (drop shared term) ≤ 255 = omega (arith, length-drop shared term) in
    omega (arith, length-append (code_of shared) (counted (drop shared term)), small_code shared (omega arith), counted_size (drop shared term) own)

grouped_size : (place : ℕ) (before term : List ℕ) → length before ≤ 255 → length term ≤ 255 → length (grouped place before term) ≤ 259
grouped_size place before term few short = by_group (nat_eq (place % 4) 0)
  where
    by_group : (b : Bool) → length (cond b (counted term) (front_coded before term)) ≤ 259
    by_group true = omega (arith, counted_size term short)
    by_group false = front_coded_size before term few short

term_size : (version : Version) (place : ℕ) (before term : List ℕ) → length before ≤ 255 → length term ≤ 255 → length (dictionary_term_bytes version place before term) ≤ 259
term_size Plain place before term few short = omega (arith, counted_size term short)
term_size FrontCoded place before term few short = grouped_size place before term few short

-- a row has no more bytes than a piece has room for
pub row_size : (version : Version) (place : ℕ) (before : List ℕ) (listing : Listing) → length before ≤ 255 → IsReadable listing → length (listing_bytes version place before listing) ≤ ROW_BYTES
row_size version place before listing few readable =
    omega (
      arith,
      length-append (dictionary_term_bytes version place before listing.term) (code_of listing.documents ++ code_of listing.size),
      length-append (code_of listing.documents) (code_of listing.size),
      term_size version place before listing.term few readable.term.short,
      (length-code_of listing.documents readable.documents).1,
      (length-code_of listing.size readable.size).1,
    )

-- The rest of a piece begins with the row, and this follows it there.
pub record IsRowIn (rest unread row others : List ℕ) : Type 0 where
  pub within : length row ≤ length rest
  pub whole : rest ≡ row ++ drop (length row) rest
  pub behind : drop (length row) rest ++ unread ≡ others

pub row_in : (rest unread row others : List ℕ) → rest ++ unread ≡ row ++ others → (length row ≤ length rest) ⊎ (unread ≡ []) → IsRowIn rest unread row others
row_in rest unread row others left has = by_size (enough has)
  where
    enough : (length row ≤ length rest) ⊎ (unread ≡ []) → length row ≤ length rest
    enough (inl within) = within
    enough (inr none) = omega (arith, ap length left, length-append rest unread, length-append row others, ap length none)

    by_size : length row ≤ length rest → IsRowIn rest unread row others
    by_size within =
        let n = length row in
        let front : take n rest ≡ row = sym (take-append-le n rest unread within) ∙ ap (take n) left ∙ take-append_seam row others in
        record {
          within = within;
          whole = sym (take-append-drop n rest) ∙ ap (λ xs. xs ++ drop n rest) front;
          behind = sym (drop-append-le n rest unread within) ∙ ap (drop n) left ∙ drop-append_seam row others;
        }
