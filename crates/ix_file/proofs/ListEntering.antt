-- The places at which a list that is checked may be entered.
use Rattle.std.proofs.Common.{◌≡◌, ℕ, ◌+◌, ◌-◌, ◌^◌, ◌<◌, ◌≤◌, ◌⊎◌, List, [], ◌∷◌, ◌++◌, length, get_or, slice_get, Some, All, refl, sym, ap, ◌∙◌, subst, ⊎_elim, arith}
use Rattle.std.proofs.lemmas.List.{append_assoc, length-append}
use Rattle.std.proofs.lemmas.List.Elements.{All-head, All-push, All-tail, All-weaker}
use Rattle.std.proofs.lemmas.Option.{get_or_from_slice_get}
use Rattle.ix_vbyte.specs.Gaps.{next_after}
use Rattle.ix_vbyte.specs.Postings.{ArePostings, IsPosting as IsPostingBelow, documents_of, list_bytes, list_bytes_from, posting_bytes}
use Rattle.ix_vbyte.specs.Skips.{AreSkips, AreSkipsIn, IsSkip}
use Rattle.ix_vbyte.specs.declared.skips.Skip.{Skip}
use Rattle.ix_vbyte.proofs.Gaps.{Ascends-rising}
use Rattle.ix_vbyte.proofs.Postings.{posting_apart}
use Rattle.ix_vbyte.proofs.Sizes.{postings_from}
use Rattle.ix_text.specs.Parts.{DocumentRow, IsTermPosting, Posting}
use Rattle.ix_text.specs.TokenLaws.{IsPostingIn}
use Rattle.ix_file.specs.LongLists.{IsLongIn}
use Rattle.ix_file.specs.ReadLists.{list_in}
use Rattle.ix_file.specs.PlacedTerms.{PlacedTerm}
use Rattle.ix_file.specs.declared.open.tables.LongList.{LongList}
use Rattle.ix_file.proofs.ListReading.{HavePostings}
use Rattle.ix_file.proofs.ListsFound.{AreFew, posting_small}

-- postings that were read off the front of a list are its first
record Goes (low : ℕ) (front postings : List Posting) (left : List ℕ) : Type 0 where
  back : List Posting
  parted : postings ≡ front ++ back
  coded : left ≡ list_bytes_from (next_after low (documents_of front)) back

goes : (low : ℕ) (front postings : List Posting) (left : List ℕ) → ArePostings low (2 ^ 32 - 1) front → ArePostings low (2 ^ 32 - 1) postings → length front ≤ length postings → list_bytes_from low front ++ left ≡ list_bytes_from low postings → Goes low front postings left
goes low [] postings left a b fewer e = record { back = postings; parted = refl; coded = e }
goes low (f ∷ front) [] left a b fewer e = absurd (omega (arith, fewer))
goes low (f ∷ front) (p ∷ postings) left a b fewer e =
    let Is = IsPostingBelow (2 ^ 32 - 1) in
    let split : posting_bytes (f.0 + 1 - low) f ++ (list_bytes_from (f.0 + 1) front ++ left) ≡ posting_bytes (p.0 + 1 - low) p ++ list_bytes_from (p.0 + 1) postings =
    sym (append_assoc (posting_bytes (f.0 + 1 - low) f) (list_bytes_from (f.0 + 1) front) left) ∙ e in
    let apart = posting_apart low (2 ^ 32 - 1) f p (list_bytes_from (f.0 + 1) front ++ left) (list_bytes_from (p.0 + 1) postings) a.documents.0 b.documents.0 (All-head Is f front a.each) (All-head Is p postings b.each) split in
    let same : p ≡ f = sym apart.0 in
    let tail : ArePostings (f.0 + 1) (2 ^ 32 - 1) front = record { documents = a.documents.2; each = All-tail Is f front a.each } in
    let others : ArePostings (p.0 + 1) (2 ^ 32 - 1) postings = record { documents = b.documents.2; each = All-tail Is p postings b.each } in
    let less : length front ≤ length postings = omega (arith, fewer) in
    let rest = goes (f.0 + 1) front postings left tail (subst (λ (q : Posting). ArePostings (q.0 + 1) (2 ^ 32 - 1) postings) same others) less (apart.1 ∙ ap (λ (q : Posting). list_bytes_from (q.0 + 1) postings) same) in
    record { back = rest.back; parted = ap (λ (q : Posting). q ∷ postings) same ∙ ap (λ ps. f ∷ ps) rest.parted; coded = rest.coded }

-- where so many postings were read, the list may be entered
pub place_stands : (rows : List DocumentRow) (next done count : ℕ) (bytes left : List ℕ) (front postings : List Posting) → AreFew rows → HavePostings rows next done bytes left front → done < count
    → ArePostings 0 (2 ^ 32 - 1) postings → length postings ≡ count → bytes ≡ list_bytes postings → IsSkip postings (record { next = next; left = count - done; size = length left })
place_stands rows next done count bytes left front postings few have within are counted coded =
    let lawful : ArePostings 0 (2 ^ 32 - 1) front =
    postings_from (2 ^ 32 - 1) front (Ascends-rising 0 (length rows) (documents_of front) have.ascend) (All-weaker (IsPostingIn rows) IsTermPosting (λ posting inside. inside.is) front have.each)
    (λ k d below. posting_small rows (get_or front k d) few (have.each k d below)) in
    let read : length front ≡ done = have.counted in
    let go = goes 0 front postings left lawful are (omega (arith, read, counted, within)) (sym have.coded ∙ coded) in
    let lengths : length postings ≡ length front + length go.back = ap length go.parted ∙ length-append front go.back in
    record {
      front = front;
      back = go.back;
      parted = go.parted;
      next = sym have.behind;
      left = omega (arith, lengths, read, counted);
      size = ap length go.coded ∙ ap (λ n. length (list_bytes_from n go.back)) have.behind;
    }

-- a place was kept or not
pub place_kept : (postings : List Posting) (before after : List Skip) (place : Skip) → AreSkips postings before → (after ≡ before) ⊎ (after ≡ before ++ place ∷ []) → IsSkip postings place → AreSkips postings after
place_kept postings before after place are kept is =
    let Ahead = λ (skip : Skip). skip.left < length postings → IsSkip postings skip in
    ⊎_elim (λ same. subst (All Ahead) (sym same) are) (λ more. subst (All Ahead) (sym more) (All-push Ahead before place are (λ ahead. is))) kept

-- the places of the list of one term
pub long_in : (section : List ℕ) (terms : List PlacedTerm) (n : ℕ) (term : PlacedTerm) (long : LongList) → long.number ≡ n → term ≡ get_or terms n term → AreSkipsIn term.documents (list_in section term) long.skips.items → 0 < length long.skips.items
    → IsLongIn section terms long
long_in section terms n term long numbered is entered some = record {
  some = some;
  places = λ row at.
      let there : slice_get terms n ≡ Some row = subst (λ m. slice_get terms m ≡ Some row) numbered at in
      subst (λ (r : PlacedTerm). AreSkipsIn r.documents (list_in section r) long.skips.items) (is ∙ get_or_from_slice_get terms n row term there) entered;
}

pub long_kept : (section : List ℕ) (terms : List PlacedTerm) (before after : List LongList) (long : LongList) → All (IsLongIn section terms) before → (after ≡ before) ⊎ ((0 < length long.skips.items) × (after ≡ before ++ long ∷ []))
    → (0 < length long.skips.items → IsLongIn section terms long) → All (IsLongIn section terms) after
long_kept section terms before after long are kept is =
    ⊎_elim (λ same. subst (All (IsLongIn section terms)) (sym same) are) (λ more. subst (All (IsLongIn section terms)) (sym more.1) (All-push (IsLongIn section terms) before long are (is more.0))) kept
