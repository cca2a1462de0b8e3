-- A list is read posting by posting.
use Rattle.std.proofs.Common.{◌≡◌, ℕ, ◌+◌, ◌-◌, ◌<◌, ◌≤◌, List, [], ◌∷◌, ◌++◌, length, All, refl, sym, ap, ◌∙◌, subst, arith}
use Rattle.std.proofs.lemmas.List.{append_assoc, append-nil, length-append, map-append, nil_from_length}
use Rattle.std.proofs.lemmas.List.Elements.{All-head, All-map, All-nil, All-push, All-tail, All-weaker}
use Rattle.ix_vbyte.specs.Gaps.{Ascends, next_after}
use Rattle.ix_vbyte.specs.Postings.{documents_of, list_bytes, list_bytes_from, posting_bytes}
use Rattle.ix_vbyte.proofs.Gaps.{Ascends-from, Ascends-push, Ascends-rising, next_after-push}
use Rattle.ix_vbyte.proofs.Postings.{list_bytes_from-push}
use Rattle.ix_text.specs.Parts.{DocumentRow, IsTermPosting, Posting}
use Rattle.ix_text.specs.TokenLaws.{IsPostingIn}
use Rattle.ix_text.specs.TokenNumbers.{numbers_of_posting, numbers_of_postings}
use Rattle.ix_text.proofs.TokensApart.{numbers_of_postings-push}
use Rattle.ix_file.specs.Claimed.{HaveClaimed}
use Rattle.ix_file.specs.ReadLists.{AreListedIn, IsNextPosting}
use Rattle.ix_file.specs.declared.open.claims.Claims.{Claims}
use Rattle.ix_file.proofs.ClaimLemmas.{claimed_both, claimed_none}
use Rattle.ix_file.proofs.PostingReading.{document_within, same_posting}

-- the postings were read off the front, and `next` is one above the last document
pub record HavePostings (rows : List DocumentRow) (next count : ℕ) (bytes left : List ℕ) (postings : List Posting) : Type 0 where
  pub ascend : Ascends 0 (length rows) (documents_of postings)
  pub each : All (IsPostingIn rows) postings
  pub counted : length postings ≡ count
  pub behind : next_after 0 (documents_of postings) ≡ next
  pub coded : bytes ≡ list_bytes postings ++ left

pub postings_none : (rows : List DocumentRow) (bytes : List ℕ) → HavePostings rows 0 0 bytes bytes []
postings_none rows bytes = record { ascend = tt; each = All-nil (IsPostingIn rows); counted = refl; behind = refl; coded = refl }

-- one more document at the end
documents-push : (postings : List Posting) (posting : Posting) → documents_of (postings ++ posting ∷ []) ≡ documents_of postings ++ posting.0 ∷ []
documents-push postings posting = map-append (λ (p : Posting). p.0) postings (posting ∷ [])

pub postings_more : (rows : List DocumentRow) (next count : ℕ) (bytes left rest : List ℕ) (postings : List Posting) (posting : Posting) → HavePostings rows next count bytes left postings → IsNextPosting rows next left posting rest → HavePostings rows (posting.0 + 1) (count + 1) bytes rest (postings ++ posting ∷ [])
postings_more rows next count bytes left rest postings posting have stands =
    let above : next ≤ posting.0 = stands.above in
    let same : posting_bytes (posting.0 + 1 - next) posting ≡ posting_bytes (posting.0 + 1 - next_after 0 (documents_of postings)) posting =
    ap (λ n. posting_bytes (posting.0 + 1 - n) posting) (sym have.behind) in
    record {
      ascend = subst (Ascends 0 (length rows)) (sym (documents-push postings posting)) (Ascends-push 0 (length rows) (documents_of postings) posting.0 have.ascend (omega (arith, have.behind)) (document_within rows posting stands.is));
      each = All-push (IsPostingIn rows) postings posting have.each stands.is;
      counted = omega (arith, have.counted, length-append postings (posting ∷ []));
      behind = ap (next_after 0) (documents-push postings posting) ∙ next_after-push 0 (documents_of postings) posting.0;
      coded =
          have.coded ∙ ap (λ bs. list_bytes postings ++ bs) (stands.coded ∙ ap (λ bs. bs ++ rest) same)
          ∙ sym (append_assoc (list_bytes postings) (posting_bytes (posting.0 + 1 - next_after 0 (documents_of postings)) posting) rest)
          ∙ ap (λ bs. bs ++ rest) (sym (list_bytes_from-push 0 postings posting));
    }

-- all of them
pub postings_all : (rows : List DocumentRow) (next count : ℕ) (bytes left : List ℕ) (postings : List Posting) → HavePostings rows next count bytes left postings → 0 < count → length left ≡ 0 → AreListedIn rows count bytes postings
postings_all rows next count bytes left postings have some none = record {
  counted = have.counted;
  are = record {
    some = omega (arith, have.counted, some);
    ascending = Ascends-rising 0 (length rows) (documents_of postings) have.ascend;
    each = All-weaker (IsPostingIn rows) IsTermPosting (λ posting inside. inside.is) postings have.each;
  };
  each = have.each;
  coded = have.coded ∙ ap (λ bs. list_bytes postings ++ bs) (nil_from_length left none) ∙ append-nil (list_bytes postings);
}

-- ---- how a list, if there is one, goes on behind the first `done`
pub record ListGoesOn (rows : List DocumentRow) (next done count : ℕ) (left : List ℕ) : Type 0 where
  pub more : List Posting
  pub ascend : Ascends next (length rows) (documents_of more)
  pub each : All (IsPostingIn rows) more
  pub counted : length more + done ≡ count
  pub coded : left ≡ list_bytes_from next more

pub documents_ascend : (rows : List DocumentRow) (count : ℕ) (bytes : List ℕ) (postings : List Posting) → AreListedIn rows count bytes postings → Ascends 0 (length rows) (documents_of postings)
documents_ascend rows count bytes postings listed =
    Ascends-from 0 (length rows) (documents_of postings) listed.are.ascending
    (All-map (λ x. (0 ≤ x) × (x < length rows)) (λ (posting : Posting). posting.0) postings (All-weaker (IsPostingIn rows) (λ (posting : Posting). (0 ≤ posting.0) × (posting.0 < length rows)) (λ posting inside. (omega arith, document_within rows posting inside)) postings listed.each))

pub list_goes_on : (rows : List DocumentRow) (count : ℕ) (bytes : List ℕ) (postings : List Posting) → AreListedIn rows count bytes postings → ListGoesOn rows 0 0 count bytes
list_goes_on rows count bytes postings listed = record {
  more = postings;
  ascend = documents_ascend rows count bytes postings listed;
  each = listed.each;
  counted = omega (arith, listed.counted);
  coded = listed.coded;
}

-- a posting stands there
pub record BeginsWithNext (rows : List DocumentRow) (next done count : ℕ) (left : List ℕ) : Type 0 where
  pub posting : Posting
  pub rest : List ℕ
  pub stands : IsNextPosting rows next left posting rest
  pub others : ListGoesOn rows (posting.0 + 1) (done + 1) count rest

pub next_in_list : (rows : List DocumentRow) (next done count : ℕ) (left : List ℕ) → done < count → ListGoesOn rows next done count left → BeginsWithNext rows next done count left
next_in_list rows next done count left within go = at go.more go.ascend go.each go.counted go.coded
  where
    at : (more : List Posting) → Ascends next (length rows) (documents_of more) → All (IsPostingIn rows) more → length more + done ≡ count → left ≡ list_bytes_from next more → BeginsWithNext rows next done count left
    at [] ascend each counted coded = absurd (omega (arith, counted, within))
    at (posting ∷ more) ascend each counted coded = record {
      posting = posting;
      rest = list_bytes_from (posting.0 + 1) more;
      stands = record { above = ascend.0; is = All-head (IsPostingIn rows) posting more each; coded = coded };
      others = record { more = more; ascend = ascend.2; each = All-tail (IsPostingIn rows) posting more each; counted = omega (arith, counted); coded = refl };
    }

-- the posting that was read is that one
pub list_goes_on_behind : (rows : List DocumentRow) (next done count : ℕ) (left rest : List ℕ) (posting : Posting) → done < count → IsNextPosting rows next left posting rest → ListGoesOn rows next done count left → ListGoesOn rows (posting.0 + 1) (done + 1) count rest
list_goes_on_behind rows next done count left rest posting within stands go =
    let begins = next_in_list rows next done count left within go in
    let same = same_posting rows next left begins.rest rest begins.posting posting begins.stands stands in
    subst (λ (bs : List ℕ). ListGoesOn rows (posting.0 + 1) (done + 1) count bs) same.1
    (subst (λ (p : Posting). ListGoesOn rows (p.0 + 1) (done + 1) count begins.rest) same.0 begins.others)

-- where none may follow, there is no list
pub no_next : (rows : List DocumentRow) (next done count : ℕ) (left : List ℕ) → done < count → ((posting : Posting) (rest : List ℕ) → IsNextPosting rows next left posting rest → ⊥) → ListGoesOn rows next done count left → ⊥
no_next rows next done count left within refused go =
    let begins = next_in_list rows next done count left within go in
    refused begins.posting begins.rest begins.stands

-- behind the last nothing is left
pub nothing_left : (rows : List DocumentRow) (next done count : ℕ) (left : List ℕ) → count ≤ done → ListGoesOn rows next done count left → length left ≡ 0
nothing_left rows next done count left end go = at go.more go.counted go.coded
  where
    at : (more : List Posting) → length more + done ≡ count → left ≡ list_bytes_from next more → length left ≡ 0
    at [] counted coded = ap length coded
    at (posting ∷ more) counted coded = absurd (omega (arith, counted, end))

-- ---- with what was claimed
pub record HasReadList (rows : List DocumentRow) (next count : ℕ) (bytes left : List ℕ) (old new : Claims) : Type 0 where
  pub postings : List Posting
  pub have : HavePostings rows next count bytes left postings
  pub claimed : HaveClaimed old new (numbers_of_postings rows postings)

pub read_no_posting : (rows : List DocumentRow) (bytes : List ℕ) (claims : Claims) → HasReadList rows 0 0 bytes bytes claims claims
read_no_posting rows bytes claims = record { postings = []; have = postings_none rows bytes; claimed = claimed_none claims }

pub read_one_posting : (rows : List DocumentRow) (next behind count : ℕ) (bytes left rest : List ℕ) (old now new : Claims) (posting : Posting) → HasReadList rows next count bytes left old now → IsNextPosting rows next left posting rest → behind ≡ posting.0 + 1 → HaveClaimed now new (numbers_of_posting rows posting) → HasReadList rows behind (count + 1) bytes rest old new
read_one_posting rows next behind count bytes left rest old now new posting read stands numbered claimed = record {
  postings = read.postings ++ posting ∷ [];
  have = subst (λ n. HavePostings rows n (count + 1) bytes rest (read.postings ++ posting ∷ [])) (sym numbered) (postings_more rows next count bytes left rest read.postings posting read.have stands);
  claimed = subst (HaveClaimed old new) (sym (numbers_of_postings-push rows read.postings posting)) (claimed_both old now new (numbers_of_postings rows read.postings) (numbers_of_posting rows posting) read.claimed claimed);
}
