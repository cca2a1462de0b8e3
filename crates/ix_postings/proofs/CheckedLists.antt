-- A list whose tokens are seen as it is gone over, posting by posting.
use Rattle.std.proofs.Common.{◌≡◌, ℕ, ◌+◌, ◌-◌, ◌<◌, ◌≤◌, List, [], ◌∷◌, ◌++◌, length, take, drop, sum_by, refl, sym, ap, subst, ◌∙◌, arith, append_assoc, append-nil, length-append, length-take}
use Rattle.std.proofs.Math.Seq.{drop-append_seam, take-append-add, take-append_seam}
use Rattle.std.proofs.lemmas.List.{map-append}
use Rattle.std.proofs.lemmas.List.Elements.{All-head}
use Rattle.ix_text.specs.Parts.{DocumentRow, Posting}
use Rattle.ix_text.specs.TokenNumbers.{numbers_of_posting, numbers_of_postings}
use Rattle.ix_text.proofs.TokensApart.{numbers_of_postings-append, numbers_of_postings-push}
use Rattle.ix_vbyte.specs.Gaps.{next_after}
use Rattle.ix_vbyte.specs.Postings.{IsPosting, documents_of, list_bytes, list_bytes_from, posting_bytes}
use Rattle.ix_vbyte.proofs.Gaps.{next_after-push}
use Rattle.ix_vbyte.proofs.Postings.{list_bytes_from-push, posting_apart}
use Rattle.ix_postings.specs.CheckedLists.{ListStands, MayFail, SeesList, SeesPosting}
use Rattle.ix_postings.specs.NextPostings.{PostingFits, PostingsFit}
use Rattle.ix_postings.specs.SeenTokens.{SeesMore}
use Rattle.ix_postings.specs.TokenTables.{HasTokens}
use Rattle.ix_postings.specs.declared.list_fault.ListFault.{ListFault}
use Rattle.ix_postings.specs.declared.token_table.TokenTable.{TokenTable}
use Rattle.ix_postings.proofs.FitPostings.{fit_are}
use Rattle.ix_postings.proofs.PositionLemmas.{fails_longer}
use Rattle.ix_postings.proofs.Seen.{sees_both, sees_none}

-- ---- lists of postings, parted

list_bytes_from-append : (next : ℕ) (ps qs : List Posting) → list_bytes_from next (ps ++ qs) ≡ list_bytes_from next ps ++ list_bytes_from (next_after next (documents_of ps)) qs
list_bytes_from-append next [] qs = refl
list_bytes_from-append next (p ∷ ps) qs =
    ap (λ (bytes : List ℕ). posting_bytes (p.0 + 1 - next) p ++ bytes) (list_bytes_from-append (p.0 + 1) ps qs)
    ∙ sym (append_assoc (posting_bytes (p.0 + 1 - next) p) (list_bytes_from (p.0 + 1) ps) (list_bytes_from (next_after (p.0 + 1) (documents_of ps)) qs))

fit_push : (rows : List DocumentRow) (next : ℕ) (postings : List Posting) (posting : Posting) → PostingsFit rows next postings → PostingFits rows (next_after next (documents_of postings)) posting
    → PostingsFit rows next (postings ++ posting ∷ [])
fit_push rows next [] posting fit fits = (fits, tt)
fit_push rows next (p ∷ ps) posting fit fits = (fit.0, fit_push rows (p.0 + 1) ps posting fit.1 fits)

fit_behind : (rows : List DocumentRow) (next : ℕ) (front behind : List Posting) → PostingsFit rows next (front ++ behind) → PostingsFit rows (next_after next (documents_of front)) behind
fit_behind rows next [] behind fit = fit
fit_behind rows next (p ∷ front) behind fit = fit_behind rows (p.0 + 1) front behind fit.1

-- ---- so many postings were gone over

-- Their tokens are marked, these bytes are left, and `left` of them are the list's.
pub record GoneOver (admits old now : List ℕ → Type 0) (rows : List DocumentRow) (bytes rest : List ℕ) (size left documents place next : ℕ) : Type 0 where
  pub front : List Posting
  pub fit : PostingsFit rows 0 front
  pub counted : length front ≡ place
  pub coded : bytes ≡ list_bytes front ++ rest
  pub sized : length (list_bytes front) + left ≡ size
  pub next_is : next ≡ next_after 0 (documents_of front)
  pub seen : SeesMore admits old now (numbers_of_postings rows front)
  pub stood : (stands : ListStands admits old rows bytes size documents) → (behind : List Posting) × (stands.postings ≡ front ++ behind)

pub gone_none : (admits old : List ℕ → Type 0) (rows : List DocumentRow) (bytes : List ℕ) (size documents : ℕ) → GoneOver admits old old rows bytes bytes size size documents 0 0
gone_none admits old rows bytes size documents = record {
  front = [];
  fit = tt;
  counted = refl;
  coded = refl;
  sized = omega arith;
  next_is = refl;
  seen = sees_none admits old;
  stood = λ stands. (stands.postings, refl);
}

-- The posting that comes next, or its first bytes, of tokens that may be seen. If the bytes end within it, they end within the list.
pub record StandsNext (admits now : List ℕ → Type 0) (rows : List DocumentRow) (next left : ℕ) (rest front whole : List ℕ) : Type 0 where
  pub numbers : List ℕ
  pub held : now numbers
  pub posting : Posting
  pub missing : List ℕ
  pub behind : List ℕ
  pub fits : PostingFits rows next posting
  pub free : admits (numbers ++ numbers_of_posting rows posting)
  pub spelled : take left rest ++ missing ≡ posting_bytes (posting.0 + 1 - next) posting ++ behind
  pub fails : (fault : ListFault) → MayFail (take left rest) (posting_bytes (posting.0 + 1 - next) posting) fault → MayFail front whole fault

module _ (admits : List ℕ → Type 0) (front_admitted : (front rest : List ℕ) → admits (front ++ rest) → admits front) (old now : List ℕ → Type 0)
    (rows : List DocumentRow) (bytes rest : List ℕ) (size left documents place next : ℕ) (gone : GoneOver admits old now rows bytes rest size left documents place next) where
  abbrev gone_bytes : List ℕ
  gone_bytes = list_bytes gone.front

  abbrev gone_numbers : List ℕ
  gone_numbers = numbers_of_postings rows gone.front

  -- the list's bytes
  front_is : take size bytes ≡ gone_bytes ++ take left rest
  front_is = ap (λ (n : ℕ). take n bytes) (sym gone.sized) ∙ ap (take (length gone_bytes + left)) gone.coded ∙ take-append-add gone_bytes rest left

  module _ (stands : ListStands admits old rows bytes size documents) (posting : Posting) (others : List Posting) (is : stands.postings ≡ gone.front ++ posting ∷ others) where
    abbrev first : List ℕ
    first = posting_bytes (posting.0 + 1 - next) posting

    abbrev later : List ℕ
    later = list_bytes_from (posting.0 + 1) others

    parted : list_bytes stands.postings ≡ gone_bytes ++ (first ++ later)
    parted =
        ap list_bytes is ∙ list_bytes_from-append 0 gone.front (posting ∷ others)
        ∙ ap (λ (n : ℕ). gone_bytes ++ (posting_bytes (posting.0 + 1 - n) posting ++ later)) (sym gone.next_is)

    next_spelled : take left rest ++ stands.missing ≡ first ++ later
    next_spelled =
        let whole : gone_bytes ++ (take left rest ++ stands.missing) ≡ gone_bytes ++ (first ++ later) =
        sym (append_assoc gone_bytes (take left rest) stands.missing) ∙ ap (λ (bs : List ℕ). bs ++ stands.missing) (sym front_is) ∙ stands.spelled ∙ parted in
        sym (drop-append_seam gone_bytes (take left rest ++ stands.missing)) ∙ ap (drop (length gone_bytes)) whole ∙ drop-append_seam gone_bytes (first ++ later)

    told : admits ((stands.numbers ++ gone_numbers) ++ numbers_of_posting rows posting)
    told =
        let here : List ℕ = numbers_of_posting rows posting in
        let rest_of : List ℕ = numbers_of_postings rows others in
        let all : stands.numbers ++ numbers_of_postings rows stands.postings ≡ ((stands.numbers ++ gone_numbers) ++ here) ++ rest_of =
        ap (λ (ps : List Posting). stands.numbers ++ numbers_of_postings rows ps) is
        ∙ ap (λ (ns : List ℕ). stands.numbers ++ ns) (numbers_of_postings-append rows gone.front (posting ∷ others))
        ∙ sym (append_assoc stands.numbers gone_numbers (here ++ rest_of)) ∙ sym (append_assoc (stands.numbers ++ gone_numbers) here rest_of) in
        front_admitted ((stands.numbers ++ gone_numbers) ++ here) rest_of (subst admits all stands.free)

    next_fits : PostingFits rows next posting
    next_fits = subst (λ (n : ℕ). PostingFits rows n posting) (sym gone.next_is) (fit_behind rows 0 gone.front (posting ∷ others) (subst (PostingsFit rows 0) is stands.fit)).0

    cut_list : length (take left rest) < length first → length (take size bytes) < length (list_bytes stands.postings)
    cut_list less = omega (arith, ap length front_is, length-append gone_bytes (take left rest), ap length parted, length-append gone_bytes (first ++ later), length-append first later, less)

    next_stands : StandsNext admits now rows next left rest (take size bytes) (list_bytes stands.postings)
    next_stands = record {
      numbers = stands.numbers ++ gone_numbers;
      held = (gone.seen stands.numbers stands.held (front_admitted stands.numbers (numbers_of_postings rows stands.postings) stands.free)).1;
      posting = posting;
      missing = stands.missing;
      behind = later;
      fits = next_fits;
      free = told;
      spelled = next_spelled;
      fails = λ fault may. fails_longer (take left rest) first (take size bytes) (list_bytes stands.postings) fault cut_list may;
    }

  -- where such a list stands, a posting stands next
  pub stands_next : (stands : ListStands admits old rows bytes size documents) → place < documents → StandsNext admits now rows next left rest (take size bytes) (list_bytes stands.postings)
  stands_next stands few = by (gone.stood stands).0 (gone.stood stands).1
    where
      by : (behind : List Posting) → stands.postings ≡ gone.front ++ behind → StandsNext admits now rows next left rest (take size bytes) (list_bytes stands.postings)
      by [] is = absurd (let counted = stands.counted in let so_far = gone.counted in omega (arith, ap length is, length-append gone.front [], counted, so_far, few))
      by (posting ∷ others) is = next_stands stands posting others is

  -- none of the list is left
  pub nothing_left : (stands : ListStands admits old rows bytes size documents) → place ≡ documents → left ≤ length rest → left ≡ 0
  nothing_left stands all within = by (gone.stood stands).0 (gone.stood stands).1
    where
      by : (behind : List Posting) → stands.postings ≡ gone.front ++ behind → left ≡ 0
      by [] is =
          omega (
            arith,
            ap length stands.spelled,
            ap length front_is,
            length-append (take size bytes) stands.missing,
            length-append gone_bytes (take left rest),
            length-take left rest,
            ap (λ (ps : List Posting). length (list_bytes ps)) (is ∙ append-nil gone.front),
            within,
          )
      by (posting ∷ others) is = absurd (let counted = stands.counted in let so_far = gone.counted in omega (arith, ap length is, length-append gone.front (posting ∷ others), counted, so_far, all))

  -- one posting more
  module _ (tokens : TokenTable) (has : HasTokens tokens rows) (document taken : ℕ) (new : List ℕ → Type 0) (marks : SeesPosting admits now new tokens next rest document taken) (within : taken ≤ left) (few : place < documents) where
    abbrev spells : List ℕ
    spells = posting_bytes (document + 1 - next) (document, marks.positions)

    here_first : take left rest ≡ spells ++ take (left - taken) (drop taken rest)
    here_first =
        let parts : left ≡ length spells + (left - taken) = (let sized = marks.sized in omega (arith, sized, within)) in
        ap (take left) marks.spelled ∙ ap (λ (n : ℕ). take n (spells ++ drop taken rest)) parts ∙ take-append-add spells (drop taken rest) (left - taken)

    fits_here : PostingFits rows next (document, marks.positions)
    fits_here = marks.fits rows has

    is_posting : (q : Posting) → PostingFits rows next q → IsPosting (length rows + sum_by (λ row. row.tokens) rows) q
    is_posting q fits =
        All-head (IsPosting (length rows + sum_by (λ row. row.tokens) rows)) q []
        (fit_are rows (length rows + sum_by (λ row. row.tokens) rows) (omega arith) (omega arith) next (q ∷ []) (fits, tt)).each

    longer : list_bytes (gone.front ++ (document, marks.positions) ∷ []) ≡ gone_bytes ++ spells
    longer = list_bytes_from-push 0 gone.front (document, marks.positions) ∙ ap (λ (n : ℕ). gone_bytes ++ posting_bytes (document + 1 - n) (document, marks.positions)) (sym gone.next_is)

    stood_more : (stands : ListStands admits old rows bytes size documents) → (behind : List Posting) × (stands.postings ≡ (gone.front ++ (document, marks.positions) ∷ []) ++ behind)
    stood_more stands = by (gone.stood stands).0 (gone.stood stands).1
      where
        by : (behind : List Posting) → stands.postings ≡ gone.front ++ behind → (after : List Posting) × (stands.postings ≡ (gone.front ++ (document, marks.positions) ∷ []) ++ after)
        by [] is = absurd (let counted = stands.counted in let so_far = gone.counted in omega (arith, ap length is, length-append gone.front [], counted, so_far, few))
        by (q ∷ qs) is =
            let same = posting_apart next (length rows + sum_by (λ row. row.tokens) rows) (document, marks.positions) q (take (left - taken) (drop taken rest) ++ stands.missing) (list_bytes_from (q.0 + 1) qs) fits_here.above (next_fits stands q qs is).above
            (is_posting (document, marks.positions) fits_here) (is_posting q (next_fits stands q qs is))
            (sym (append_assoc spells (take (left - taken) (drop taken rest)) stands.missing) ∙ ap (λ (bs : List ℕ). bs ++ stands.missing) (sym here_first) ∙ next_spelled stands q qs is) in
            (qs, is ∙ ap (λ (p : Posting). gone.front ++ p ∷ qs) (sym same.0) ∙ sym (append_assoc gone.front ((document, marks.positions) ∷ []) qs))

    pub gone_more : GoneOver admits old new rows bytes (drop taken rest) size (left - taken) documents (place + 1) (document + 1)
    gone_more = record {
      front = gone.front ++ (document, marks.positions) ∷ [];
      fit = fit_push rows 0 gone.front (document, marks.positions) gone.fit (subst (λ (n : ℕ). PostingFits rows n (document, marks.positions)) gone.next_is fits_here);
      counted = (let so_far = gone.counted in omega (arith, length-append gone.front ((document, marks.positions) ∷ []), so_far));
      coded =
          gone.coded ∙ ap (λ (bs : List ℕ). gone_bytes ++ bs) marks.spelled ∙ sym (append_assoc gone_bytes spells (drop taken rest))
          ∙ ap (λ (bs : List ℕ). bs ++ drop taken rest) (sym longer);
      sized = (let so_far = gone.sized in let size_is = marks.sized in omega (arith, ap length longer, length-append gone_bytes spells, so_far, size_is));
      next_is = sym (ap (next_after 0) (map-append (λ (q : Posting). q.0) gone.front ((document, marks.positions) ∷ [])) ∙ next_after-push 0 (documents_of gone.front) document);
      seen = subst (SeesMore admits old new) (sym (numbers_of_postings-push rows gone.front (document, marks.positions)))
          (sees_both admits old now new gone_numbers (numbers_of_posting rows (document, marks.positions)) gone.seen (marks.seen rows has));
      stood = stood_more;
    }

  -- all were gone over
  pub sees_list : place ≡ documents → left ≡ 0 → SeesList admits old now rows bytes size documents next
  sees_list all none =
      let size_is : size ≡ length gone_bytes = (let so_far = gone.sized in omega (arith, so_far, none)) in
      record {
        postings = gone.front;
        fit = gone.fit;
        counted = gone.counted ∙ all;
        coded = ap (λ (n : ℕ). take n bytes) size_is ∙ ap (take (length gone_bytes)) gone.coded ∙ take-append_seam gone_bytes rest;
        sized = size_is;
        next_is = gone.next_is;
        seen = gone.seen;
      }
