-- What was told stays the merge of what the sources gave, when one of them gives an entry more that is told too.
use Rattle.std.proofs.Common.{◌≡◌, ℕ, ◌+◌, ◌-◌, ◌^◌, ◌<◌, ◌⊎◌, ◌↔◌, List, [], ◌∷◌, ◌++◌, length, get_or, set, All, Contains, inl, inr, sym, ap, subst, ◌∙◌, ⊎_elim, arith, length-set}
use Rattle.std.proofs.lemmas.Bool.{cases_eq}
use Rattle.std.proofs.lemmas.List.{map-append, get_or-set_same, get_or-set_other, get_or_default}
use Rattle.std.proofs.lemmas.List.Elements.{All-append, All-contains, All-push, All-nil, Contains-append_left, Contains-append_right, Contains-append_cases, Contains-push, Contains-push_cases}
use Rattle.std.proofs.lemmas.List.Sums.{sum_by-append, sum_by-set}
use Rattle.std.specs.List.{sum_by}
use Rattle.ix_file.specs.Gaps.{Ascends, next_after}
use Rattle.ix_file.specs.Postings.{ArePostings, IsPosting, documents_of}
use Rattle.ix_file.proofs.Sizes.{postings_rising}
use Rattle.ix_text.specs.ByteOrder.{IsAscending}
use Rattle.ix_text.specs.Parts.{DictionaryEntry, Posting, HasPosition, terms_of}
use Rattle.ix_text.specs.PartsLaws.{position_count}
use Rattle.ix_file.specs.Told.{position_total}
use Rattle.ix_file.proofs.StopReading.{All-front}
use Rattle.ix_run.specs.Sources.{entry_with}
use Rattle.ix_merge.specs.Merged.{Share, HasUnder, SomeShareHas, IsMergeOf}
use Rattle.ix_merge.proofs.ShiftedLists.{position_count-shifted, position_lower, position_raised}
use Rattle.ix_file.specs.Told.{listed}
use Rattle.ix_file.specs.Postings.{shifted}

-- ---- positions of postings and of entries one after another

module _ (xs ys : List Posting) (number position : ℕ) where
  abbrev There : List Posting → Type 0
  There postings = HasPosition postings number position

  pub position_cases : There (xs ++ ys) → There xs ⊎ There ys
  position_cases has = elim (Contains-append_cases xs ys (number, has.positions) has.among) [
    | inl left ↦ inl (record { positions = has.positions; among = left; positioned = has.positioned })
    | inr right ↦ inr (record { positions = has.positions; among = right; positioned = has.positioned })
  ]

  pub position_left : There xs → There (xs ++ ys)
  position_left has = record { positions = has.positions; among = Contains-append_left xs ys (number, has.positions) has.among; positioned = has.positioned }

  pub position_right : There ys → There (xs ++ ys)
  position_right has = record { positions = has.positions; among = Contains-append_right xs ys (number, has.positions) has.among; positioned = has.positioned }

-- the entry is of the term and has the position
abbrev pub OfTerm : DictionaryEntry → List ℕ → ℕ → ℕ → Type 0
OfTerm entry term number position = (entry.term ≡ term) × HasPosition entry.postings number position

module _ (entries : List DictionaryEntry) (entry : DictionaryEntry) (term : List ℕ) (number position : ℕ) where
  abbrev Under : List DictionaryEntry → Type 0
  Under es = HasUnder es term number position

  pub under_cases : Under (entries ++ entry ∷ []) → Under entries ⊎ OfTerm entry term number position
  under_cases has = elim (Contains-push_cases entries entry has.entry has.among) [
    | inl before ↦ inl (record { entry = has.entry; among = before; of_term = has.of_term; has = has.has })
    | inr same ↦ inr (subst (λ (e : DictionaryEntry). OfTerm e term number position) (sym same) (has.of_term, has.has))
  ]

  pub under_front : Under entries → Under (entries ++ entry ∷ [])
  under_front has = record { entry = has.entry; among = Contains-append_left entries (entry ∷ []) has.entry has.among; of_term = has.of_term; has = has.has }

  pub under_last : OfTerm entry term number position → Under (entries ++ entry ∷ [])
  under_last has = record { entry = entry; among = Contains-push entries entry; of_term = has.0; has = has.1 }

-- ---- one element of a list is another

module _ {A : Type 0} (xs : List A) (place : ℕ) (new : A) (within : place < length xs) where
  pub set_cases : (x : A) → Contains (set xs place new) x → (new ≡ x) ⊎ Contains xs x
  set_cases x (k, low, is) = elim (cases_eq k place) [
    | inl same ↦ inl (sym (get_or-set_same xs place new x within) ∙ ap (λ n. get_or (set xs place new) n x) (sym same) ∙ is)
    | inr other ↦ inr (k, let e = length-set xs place new in omega (arith, e), sym (get_or-set_other xs place k new x other) ∙ is)
  ]

  pub set_has : Contains (set xs place new) new
  set_has = (place, let e = length-set xs place new in omega (arith, e), get_or-set_same xs place new new within)

  pub set_keeps : (old x : A) → get_or xs place old ≡ old → Contains xs x → (x ≡ old) ⊎ Contains (set xs place new) x
  set_keeps old x here (k, low, is) = elim (cases_eq k place) [
    | inl same ↦ inl (sym is ∙ get_or_default xs k x old low ∙ ap (λ n. get_or xs n old) same ∙ here)
    | inr other ↦ inr (k, let e = length-set xs place new in omega (arith, e), get_or-set_other xs place k new x other ∙ is)
  ]

-- ---- what was told, and what the sources gave

-- The entries have what the shares have, and as many positions. Terms and documents ascend; a list may be empty.
pub record AreMerged (shares : List Share) (entries : List DictionaryEntry) : Type 0 where
  pub ascending : IsAscending (terms_of entries)
  pub lists : All (λ entry. ArePostings 0 (2 ^ 32 - 1) entry.postings) entries
  pub merged : (term : List ℕ) (number position : ℕ) → HasUnder entries term number position ↔ SomeShareHas shares term number position
  pub counted : position_total entries ≡ sum_by (λ share. position_total share.entries) shares

pub merge_of : (shares : List Share) (entries : List DictionaryEntry) → AreMerged shares entries → All (λ entry. 0 < length entry.postings) entries → IsMergeOf shares entries
merge_of shares entries are some = record {
  ascending = are.ascending;
  ordered = λ k d within.
      let rising = postings_rising (2 ^ 32 - 1) (get_or entries k d).postings (are.lists k d within) in
      record { some = some k d within; ascending = rising.0; each = rising.1 };
  merged = are.merged;
}

-- a term without postings
pub term_merged : (shares : List Share) (entries : List DictionaryEntry) (term : List ℕ) → AreMerged shares entries → IsAscending (terms_of (entries ++ entry_with term [] ∷ [])) → AreMerged shares (entries ++ entry_with term [] ∷ [])
term_merged shares entries term are up = record {
  ascending = up;
  lists = All-push (λ entry. ArePostings 0 (2 ^ 32 - 1) entry.postings) entries (entry_with term []) are.lists (record { documents = tt; each = All-nil (IsPosting (2 ^ 32 - 1)) });
  merged = λ t number position. (
    λ has. (are.merged t number position).0 (⊎_elim (λ h. h) (λ h. absurd (none number position h.1)) (under_cases entries (entry_with term []) t number position has)),
    λ has. under_front entries (entry_with term []) t number position ((are.merged t number position).1 has),
  );
  counted =
      let a = sum_by-append (λ (e : DictionaryEntry). position_count e.postings) entries (entry_with term [] ∷ []) in
      let b = are.counted in
      omega arith;
}
  where
    none : (number position : ℕ) → HasPosition [] number position → ⊥
    none number position has = let low = has.among.1 in omega arith

ascends_append : (low top : ℕ) (xs ys : List ℕ) → Ascends low top xs → Ascends (next_after low xs) top ys → Ascends low top (xs ++ ys)
ascends_append low top [] ys up more = more
ascends_append low top (x ∷ xs) ys up more = (up.0, up.1, ascends_append (x + 1) top xs ys up.2 more)

pub postings_append : (low : ℕ) (xs ys : List Posting) → ArePostings low (2 ^ 32 - 1) xs → ArePostings (next_after low (documents_of xs)) (2 ^ 32 - 1) ys → ArePostings low (2 ^ 32 - 1) (xs ++ ys)
postings_append low xs ys are more = record {
  documents = subst (Ascends low (2 ^ 32 - 1)) (sym (map-append (λ (p : Posting). p.0) xs ys)) (ascends_append low (2 ^ 32 - 1) (documents_of xs) (documents_of ys) are.documents more.documents);
  each = All-append (IsPosting (2 ^ 32 - 1)) xs ys are.each more.each;
}

pub position_total-listed : (done : List DictionaryEntry) (hand : DictionaryEntry) (postings : List Posting)
    → position_total (done ++ listed postings hand ∷ []) ≡ position_total (done ++ hand ∷ []) + position_count postings
position_total-listed done hand postings =
    let size : DictionaryEntry → ℕ = λ e. position_count e.postings in
    let a : position_total (done ++ listed postings hand ∷ []) ≡ position_total done + position_total (listed postings hand ∷ []) = sum_by-append size done (listed postings hand ∷ []) in
    let b : position_total (done ++ hand ∷ []) ≡ position_total done + position_total (hand ∷ []) = sum_by-append size done (hand ∷ []) in
    let c : position_count (hand.postings ++ postings) ≡ position_count hand.postings + position_count postings = sum_by-append (λ (p : Posting). length p.1) hand.postings postings in
    omega (arith, a, b, c)

-- The share of one source grows by an entry, and its postings are told behind those of the pending entry.
module _ (shares : List Share) (done : List DictionaryEntry) (hand : DictionaryEntry) (place : ℕ) (share : Share) (entry : DictionaryEntry)
    (within : place < length shares) (here : get_or shares place share ≡ share) (same : hand.term ≡ entry.term) where
  abbrev grown : Share
  grown = record { heading = share.heading; entries = share.entries ++ entry ∷ [] }

  abbrev shares' : List Share
  shares' = set shares place grown

  abbrev raised : List Posting
  raised = shifted share.heading.first entry.postings

  abbrev hand' : DictionaryEntry
  hand' = listed raised hand

  -- what some share has, it has still
  kept : (term : List ℕ) (number position : ℕ) → SomeShareHas shares term number position → SomeShareHas shares' term number position
  kept term number position some = elim (set_keeps shares place grown within share some.share here some.among) [
    | inl is ↦
        let P : Share → Type 0 = λ s. (number ≡ s.heading.first + some.place) × HasUnder s.entries term some.place position in
        let has = subst P is (some.shifted, some.has) in
        record { share = grown; among = set_has shares place grown within; place = some.place; shifted = has.0; has = under_front share.entries entry term some.place position has.1 }
    | inr other ↦ record { share = some.share; among = other; place = some.place; shifted = some.shifted; has = some.has }
  ]

  -- what was told of some share, or now
  sound : (term : List ℕ) (number position : ℕ) → AreMerged shares (done ++ hand ∷ []) → HasUnder (done ++ hand' ∷ []) term number position → SomeShareHas shares' term number position
  sound term number position are has = elim (under_cases done hand' term number position has) [
    | inl before ↦ kept term number position ((are.merged term number position).0 (under_front done hand term number position before))
    | inr last ↦ elim (position_cases hand.postings raised number position last.1) [
      | inl old ↦ kept term number position ((are.merged term number position).0 (under_last done hand term number position (last.0, old)))
      | inr new ↦
          let lower = position_lower share.heading.first entry.postings number position new in
          record {
            share = grown;
            among = set_has shares place grown within;
            place = lower.place;
            shifted = lower.raised;
            has = under_last share.entries entry term lower.place position (sym same ∙ last.0, lower.has);
          }
    ]
  ]

  -- what was told is told still
  still : (term : List ℕ) (number position : ℕ) → HasUnder (done ++ hand ∷ []) term number position → HasUnder (done ++ hand' ∷ []) term number position
  still term number position has = elim (under_cases done hand term number position has) [
    | inl before ↦ under_front done hand' term number position before
    | inr last ↦ under_last done hand' term number position (last.0, position_left hand.postings raised number position last.1)
  ]

  complete : (term : List ℕ) (number position : ℕ) → AreMerged shares (done ++ hand ∷ []) → SomeShareHas shares' term number position → HasUnder (done ++ hand' ∷ []) term number position
  complete term number position are some = elim (set_cases shares place grown within some.share some.among) [
    | inl is ↦
        let P : Share → Type 0 = λ s. (number ≡ s.heading.first + some.place) × HasUnder s.entries term some.place position in
        let has = subst P (sym is) (some.shifted, some.has) in
        elim (under_cases share.entries entry term some.place position has.1) [
          | inl before ↦
              still term number position
              ((are.merged term number position).1
              (record { share = share; among = (place, within, here); place = some.place; shifted = has.0; has = before }))
          | inr last ↦
              under_last done hand' term number position (
                same ∙ last.0,
                position_right hand.postings raised number position
                    (subst (λ n. HasPosition raised n position) (sym has.0) (position_raised share.heading.first entry.postings some.place position last.1)),
              )
        ]
    | inr other ↦
        still term number position ((are.merged term number position).1 (record { share = some.share; among = other; place = some.place; shifted = some.shifted; has = some.has }))
  ]

  pub merged_more : AreMerged shares (done ++ hand ∷ []) → ArePostings (next_after 0 (documents_of hand.postings)) (2 ^ 32 - 1) raised → AreMerged shares' (done ++ hand' ∷ [])
  merged_more are lists =
      let weigh : Share → ℕ = λ s. position_total s.entries in
      let AreIn : DictionaryEntry → Type 0 = λ e. ArePostings 0 (2 ^ 32 - 1) e.postings in
      record {
        ascending = subst IsAscending (map-append (λ (e : DictionaryEntry). e.term) done (hand ∷ []) ∙ sym (map-append (λ (e : DictionaryEntry). e.term) done (hand' ∷ []))) are.ascending;
        lists =
            All-push AreIn done hand' (All-front AreIn done (hand ∷ []) are.lists)
            (postings_append 0 hand.postings raised (All-contains AreIn (done ++ hand ∷ []) hand are.lists (Contains-push done hand)) lists);
        merged = λ term number position. (sound term number position are, complete term number position are);
        counted =
            let a = position_total-listed done hand raised in
            let b = position_count-shifted share.heading.first entry.postings in
            let c : sum_by weigh shares' + weigh (get_or shares place share) ≡ sum_by weigh shares + weigh grown = sum_by-set weigh shares place grown share within in
            let d : weigh (get_or shares place share) ≡ weigh share = ap weigh here in
            let e : weigh grown ≡ position_total share.entries + position_total (entry ∷ []) = sum_by-append (λ (x : DictionaryEntry). position_count x.postings) share.entries (entry ∷ []) in
            let f : position_total (entry ∷ []) ≡ position_count entry.postings = omega arith in
            omega (arith, a, b, c, d, e, f, are.counted);
      }
