-- Sources while they are merged: what each one gave, and what its merge tells.
use Rattle.std.proofs.Common.{◌≡◌, ◌≢◌, ℕ, ◌+◌, ◌-◌, ◌^◌, ◌<◌, ◌≤◌, ◌⊎◌, ⊎_elim, List, [], ◌∷◌, ◌++◌, length, map, get_or, set, All, Option, Some, None, MatchOption, IfSome, Less, inl, inr, refl, sym, ap, ap₂, subst, ◌∙◌, option_map, arith, length-append, length-set}
use Rattle.std.proofs.Math.Seq.{get_or-append_seam}
use Rattle.std.proofs.lemmas.Bool.{cases_eq}
use Rattle.std.proofs.lemmas.Cmp.{nat_list_cmp_total, tied_itself}
use Rattle.std.proofs.lemmas.List.{append_assoc, append-nil, get_or-map, get_or-set_same, get_or-set_other, length-map, map-append, same_lists}
use Rattle.std.proofs.lemmas.List.Elements.{All-contains, All-push, Contains-push}
use Rattle.std.proofs.lemmas.Option.{get_or_from_slice_get, slice_get_within}
use Rattle.std.specs.Cmp.Lexicographic.{slice_cmp}
use Rattle.std.specs.Option.{option_to_list}
use Rattle.std.specs.Ordering.{nat_cmp}
use Rattle.ix_file.specs.Code.{code_of}
use Rattle.ix_file.specs.Gaps.{gaps_of, next_after}
use Rattle.ix_file.specs.Postings.{ArePostings, codes_of, documents_of, list_bytes, list_bytes_from, posting_bytes, shifted}
use Rattle.ix_file.proofs.Values.{some_code_byte}
use Rattle.ix_text.specs.ByteOrder.{IsAscending}
use Rattle.ix_text.specs.Parts.{DictionaryEntry, Posting, terms_of}
use Rattle.ix_file.specs.Telling.{IsClosable}
use Rattle.ix_file.specs.Sections.{postings_section}
use Rattle.ix_file.specs.Told.{Told, entries_of, listed, with_term}
use Rattle.ix_file.proofs.AscendingLemmas.{ascending_push}
use Rattle.ix_file.proofs.StopReading.{All-front}
use Rattle.ix_file.proofs.TellingLemmas.{postings_section-push}
use Rattle.ix_run.specs.Heads.{Heading}
use Rattle.ix_run.specs.Sources.{AreWhole, Giving, IsLawfulFront, Yielding, entry_with}
use Rattle.ix_merge.specs.Keys.{end_of}
use Rattle.ix_merge.specs.Merged.{AreShares, HasMergedAll, IsMergeOf, Share}
use Rattle.ix_merge.specs.Turns.{Begins, GoesOn, IsAtHand, bare_entry, told_then}
use Rattle.ix_merge.proofs.MergedMore.{AreMerged, merge_of, merged_more, term_merged}
use Rattle.ix_merge.proofs.ShiftedLists.{IsListUnder, length-shifted, raised_end, raised_list}

abbrev pub Below : List ℕ → List ℕ → Type 0
Below one other = slice_cmp nat_cmp one other ≡ Less

pub not_below_itself : (text : List ℕ) → ¬ (Below text text)
not_below_itself text less = let tie = tied_itself nat_list_cmp_total text in cc

pub next_after-append : (next : ℕ) (xs ys : List ℕ) → next_after next (xs ++ ys) ≡ next_after (next_after next xs) ys
next_after-append next [] ys = refl
next_after-append next (x ∷ xs) ys = next_after-append (x + 1) xs ys

pub list_bytes_from-append : (next : ℕ) (xs ys : List Posting) → list_bytes_from next (xs ++ ys) ≡ list_bytes_from next xs ++ list_bytes_from (next_after next (documents_of xs)) ys
list_bytes_from-append next [] ys = refl
list_bytes_from-append next (p ∷ xs) ys =
    ap (λ (bytes : List ℕ). posting_bytes (p.0 + 1 - next) p ++ bytes) (list_bytes_from-append (p.0 + 1) xs ys)
    ∙ sym (append_assoc (posting_bytes (p.0 + 1 - next) p) (list_bytes_from (p.0 + 1) xs) (list_bytes_from (next_after (p.0 + 1) (documents_of xs)) ys))

some_bytes : (next : ℕ) (postings : List Posting) → 0 < length postings → 0 < length (list_bytes_from next postings)
some_bytes next [] some = absurd (omega arith)
some_bytes next (p ∷ ps) some =
    let gap : ℕ = p.0 + 1 - next in
    let a = length-append (code_of gap ++ code_of (length p.1)) (codes_of (gaps_of p.1)) in
    let b = length-append (code_of gap) (code_of (length p.1)) in
    let c = length-append (posting_bytes gap p) (list_bytes_from (p.0 + 1) ps) in
    let d = some_code_byte gap in
    omega (arith, a, b, c, d)

-- ---- what was told of shares

-- the writer's parts are those of the shares, whole entries all
pub record HasToldShares (shares : List Share) (told : Told) (last : List ℕ) (next : ℕ) : Type 0 where
  pub merged : AreMerged shares (entries_of told)
  pub some : All (λ entry. 0 < length entry.postings) (entries_of told)
  pub at_hand : IsAtHand told last next
  pub none : told.at_hand ≡ None → told.done ≡ []

pub told_closable : (shares : List Share) (told : Told) (last : List ℕ) (next : ℕ) → HasToldShares shares told last next → IsClosable told
told_closable shares told last next has = by told.at_hand refl
  where
    by : (o : Option DictionaryEntry) → told.at_hand ≡ o → IfSome told.at_hand (λ entry. 0 < length entry.postings)
    by None is = subst (λ (o : Option DictionaryEntry). IfSome o (λ entry. 0 < length entry.postings)) (sym is) tt
    by (Some entry) is =
        let same : entries_of told ≡ told.done ++ entry ∷ [] = ap (λ (o : Option DictionaryEntry). told.done ++ option_to_list o) is in
        let all : All (λ (e : DictionaryEntry). 0 < length e.postings) (told.done ++ entry ∷ []) = subst (All (λ (e : DictionaryEntry). 0 < length e.postings)) same has.some in
        subst (λ (o : Option DictionaryEntry). IfSome o (λ e. 0 < length e.postings)) (sym is) (All-contains (λ (e : DictionaryEntry). 0 < length e.postings) (told.done ++ entry ∷ []) entry all (Contains-push told.done entry))

pub told_merge : (shares : List Share) (told : Told) (last : List ℕ) (next : ℕ) → HasToldShares shares told last next → IsMergeOf shares (entries_of told)
told_merge shares told last next has = merge_of shares (entries_of told) has.merged has.some

-- the last of a list with one more
pub last_pushed : (xs : List (List ℕ)) (x : List ℕ) → get_or (xs ++ x ∷ []) (length (xs ++ x ∷ []) - 1) [] ≡ x
last_pushed xs x =
    let e : length (xs ++ x ∷ []) - 1 ≡ length xs = omega (arith, length-append xs (x ∷ [])) in
    ap (λ n. get_or (xs ++ x ∷ []) n []) e ∙ get_or-append_seam xs x [] []

-- a term above the last may follow
ascends_on : (shares : List Share) (told : Told) (last : List ℕ) (next : ℕ) (term : List ℕ) → HasToldShares shares told last next → Below last term → IsAscending (terms_of (entries_of told ++ entry_with term [] ∷ []))
ascends_on shares told last next term has below =
    subst IsAscending (sym (map-append (λ (e : DictionaryEntry). e.term) (entries_of told) (entry_with term [] ∷ [])))
    (ascending_push (terms_of (entries_of told)) term has.merged.ascending (above told.at_hand refl))
  where
    above : (o : Option DictionaryEntry) → told.at_hand ≡ o → 0 < length (terms_of (entries_of told)) → slice_cmp nat_cmp (get_or (terms_of (entries_of told)) (length (terms_of (entries_of told)) - 1) []) term ≡ Less
    above None is some =
        let e : entries_of told ≡ [] = ap₂ (λ (d : List DictionaryEntry) (o : Option DictionaryEntry). d ++ option_to_list o) (has.none is) is in
        let f : length (terms_of (entries_of told)) ≡ 0 = ap (λ (es : List DictionaryEntry). length (terms_of es)) e in
        absurd (omega arith)
    above (Some entry) is some =
        let e : entries_of told ≡ told.done ++ entry ∷ [] = ap (λ (o : Option DictionaryEntry). told.done ++ option_to_list o) is in
        let f : terms_of (entries_of told) ≡ terms_of told.done ++ entry.term ∷ [] = ap terms_of e ∙ map-append (λ (e : DictionaryEntry). e.term) told.done (entry ∷ []) in
        let there : (last ≡ entry.term) × (next ≡ next_after 0 (documents_of entry.postings)) = rw is at has.at_hand in
        let g : get_or (terms_of told.done ++ entry.term ∷ []) (length (terms_of told.done ++ entry.term ∷ []) - 1) [] ≡ entry.term = last_pushed (terms_of told.done) entry.term in
        rw (f, g) (subst (λ (t : List ℕ). Below t term) there.0 below)

-- ---- one source's turn is told

abbrev pub grown : Share → DictionaryEntry → Share
grown share entry = record { heading = share.heading; entries = share.entries ++ entry ∷ [] }

module _ (shares : List Share) (place : ℕ) (share : Share) (within : place < length shares) (here : get_or shares place share ≡ share)
    (told : Told) (last : List ℕ) (next : ℕ) (has : HasToldShares shares told last next)
    (term : List ℕ) (follows : Below last term ⊎ ((last ≡ term) × (next ≤ share.heading.first))) (some : 0 < length term)
    (postings : List Posting) (begun : Told) (from : ℕ) (begins : Begins told last next term begun from) (under : IsListUnder share.heading postings) where
  abbrev raised : List Posting
  raised = shifted share.heading.first postings

  -- with the entry of the current term
  record IsBegun : Type 0 where
    entry : DictionaryEntry
    at_hand : begun.at_hand ≡ Some entry
    of_term : entry.term ≡ term
    from_there : from ≡ next_after 0 (documents_of entry.postings)
    low : from ≤ share.heading.first
    merged : AreMerged shares (begun.done ++ entry ∷ [])
    others : All (λ entry. 0 < length entry.postings) begun.done
    no_bytes : postings_section (begun.done ++ entry ∷ []) ≡ postings_section (entries_of told)

  is_begun : IsBegun
  is_begun = ⊎_elim same new begins.is
    where
      same : (last ≡ term) × (begun ≡ told) × (from ≡ next) → IsBegun
      same is = by told.at_hand refl
        where
          by : (o : Option DictionaryEntry) → told.at_hand ≡ o → IsBegun
          by None none =
              let empty : last ≡ [] = rw none at has.at_hand in
              let e : length term ≡ 0 = ap (λ (t : List ℕ). length t) (sym is.0 ∙ empty) in
              absurd (omega arith)
          by (Some entry) some =
              let there : (last ≡ entry.term) × (next ≡ next_after 0 (documents_of entry.postings)) = rw some at has.at_hand in
              let e : entries_of told ≡ begun.done ++ entry ∷ [] = ap₂ (λ (d : List DictionaryEntry) (o : Option DictionaryEntry). d ++ option_to_list o) (sym (ap (λ (t : Told). t.done) is.1)) some in
              record {
                entry = entry;
                at_hand = ap (λ (t : Told). t.at_hand) is.1 ∙ some;
                of_term = sym there.0 ∙ is.0;
                from_there = is.2 ∙ there.1;
                low = ⊎_elim (λ below. absurd (not_below_itself term (subst (λ (t : List ℕ). Below t term) is.0 below))) (λ is'. let l = is'.1 in let f = is.2 in omega arith) follows;
                merged = subst (AreMerged shares) e has.merged;
                others = All-front (λ (x : DictionaryEntry). 0 < length x.postings) begun.done (entry ∷ []) (subst (All (λ (x : DictionaryEntry). 0 < length x.postings)) e has.some);
                no_bytes = ap postings_section (sym e);
              }

      new : (last ≢ term) × (begun ≡ with_term told term) × (from ≡ 0) → IsBegun
      new is =
          let d : begun.done ≡ entries_of told = ap (λ (t : Told). t.done) is.1 in
          record {
            entry = entry_with term [];
            at_hand = ap (λ (t : Told). t.at_hand) is.1;
            of_term = refl;
            from_there = is.2;
            low = let f = is.2 in omega arith;
            merged =
                subst (λ (es : List DictionaryEntry). AreMerged shares (es ++ entry_with term [] ∷ [])) (sym d)
                (term_merged shares (entries_of told) term has.merged (ascends_on shares told last next term has (⊎_elim (λ below. below) (λ is'. absurd (is.0 is'.0)) follows)));
            others = subst (All (λ (x : DictionaryEntry). 0 < length x.postings)) (sym d) has.some;
            no_bytes =
                ap (λ (es : List DictionaryEntry). postings_section (es ++ entry_with term [] ∷ [])) d
                ∙ postings_section-push (entries_of told) (entry_with term []) ∙ append-nil (postings_section (entries_of told));
          }

  -- then the shares are told with the source's postings
  pub told_more : HasToldShares (set shares place (grown share (entry_with term postings))) (told_then begun share.heading.first postings) term (next_after from (documents_of raised))
  told_more =
      let is : IsBegun = is_begun in
      let hand : DictionaryEntry = listed raised is.entry in
      let at : (told_then begun share.heading.first postings).at_hand ≡ Some hand = ap (option_map (listed raised)) is.at_hand in
      let e : entries_of (told_then begun share.heading.first postings) ≡ begun.done ++ hand ∷ [] = ap (λ (o : Option DictionaryEntry). begun.done ++ option_to_list o) at in
      let lists : ArePostings (next_after 0 (documents_of is.entry.postings)) (2 ^ 32 - 1) raised = subst (λ n. ArePostings n (2 ^ 32 - 1) raised) is.from_there (raised_list share.heading postings from under is.low) in
      let more : 0 < length (is.entry.postings ++ raised) = let s = under.some in omega (arith, length-append is.entry.postings raised, length-shifted share.heading.first postings) in
      record {
        merged = subst (AreMerged (set shares place (grown share (entry_with term postings)))) (sym e) (merged_more shares begun.done is.entry place share (entry_with term postings) within here is.of_term is.merged lists);
        some = subst (All (λ (x : DictionaryEntry). 0 < length x.postings)) (sym e) (All-push (λ (x : DictionaryEntry). 0 < length x.postings) begun.done hand is.others more);
        at_hand =
            subst (λ (o : Option DictionaryEntry). MatchOption o (term ≡ []) (λ x. (term ≡ x.term) × (next_after from (documents_of raised) ≡ next_after 0 (documents_of x.postings)))) (sym at) (
              sym is.of_term,
              ap (λ n. next_after n (documents_of raised)) is.from_there
                  ∙ sym (next_after-append 0 (documents_of is.entry.postings) (documents_of raised))
                  ∙ sym (ap (next_after 0) (map-append (λ (p : Posting). p.0) is.entry.postings raised)),
            );
        none = λ none. let f : Some hand ≡ None = sym at ∙ none in absurd cc;
      }

  -- bytes of postings come behind those before
  pub told_grown : (more : List ℕ) × (0 < length more) × (postings_section (entries_of (told_then begun share.heading.first postings)) ≡ postings_section (entries_of told) ++ more)
  told_grown =
      let is : IsBegun = is_begun in
      let hand : DictionaryEntry = listed raised is.entry in
      let at : (told_then begun share.heading.first postings).at_hand ≡ Some hand = ap (option_map (listed raised)) is.at_hand in
      let e : entries_of (told_then begun share.heading.first postings) ≡ begun.done ++ hand ∷ [] = ap (λ (o : Option DictionaryEntry). begun.done ++ option_to_list o) at in
      let next : ℕ = next_after 0 (documents_of is.entry.postings) in
      let before : List ℕ = postings_section begun.done in
      let more : List ℕ = list_bytes_from next raised in (
        more,
        some_bytes next raised (let s = under.some in omega (arith, length-shifted share.heading.first postings)),
        ap postings_section e ∙ postings_section-push begun.done hand
            ∙ ap (λ (bytes : List ℕ). before ++ bytes) (list_bytes_from-append 0 is.entry.postings raised)
            ∙ sym (append_assoc before (list_bytes is.entry.postings) more)
            ∙ ap (λ (bytes : List ℕ). bytes ++ more) (sym (postings_section-push begun.done is.entry) ∙ is.no_bytes),
      )

  -- and so there are more of them
  pub told_longer : length (postings_section (entries_of told)) < length (postings_section (entries_of (told_then begun share.heading.first postings)))
  told_longer =
      let grown = told_grown in
      let some = grown.1 in
      omega (arith, ap length grown.2, length-append (postings_section (entries_of told)) grown.0, some)

  -- and what follows of the term lies behind it
  pub ends_low : next_after from (documents_of raised) ≤ end_of share.heading
  ends_low = raised_end share.heading postings from under is_begun.low

-- ---- what each source gave

-- Since nothing was asked of it, a source gave the share, and stands at the beginning of a term or at its end.
pub record IsReading {S : Type 0} (heading : S → Heading) (current : S → Option (List ℕ)) (yields : Yielding S) (gives : Giving S)
    (begun now : S) (share : Share) : Type 0 where
  pub headed : share.heading ≡ heading begun
  pub same : heading now ≡ heading begun
  pub gives_these : gives now share.entries (bare_entry (current now))
  pub yielded : MatchOption (current now) (yields begun [] share.entries)
      (λ term. (postings : List Posting) (entries : List DictionaryEntry) → yields now postings entries → yields begun [] (share.entries ++ entry_with term postings ∷ entries))

-- what a source may yield yet makes with its share what it could yield when nothing was asked of it
abbrev Ahead : {S : Type 0} → Yielding S → S → S → List DictionaryEntry → Option (List ℕ) → Type 0
Ahead yields begun new given current = MatchOption current (yields begun [] given)
    (λ term. (postings : List Posting) (entries : List DictionaryEntry) → yields new postings entries → yields begun [] (given ++ entry_with term postings ∷ entries))

-- a source's turn
pub reading_more : {S : Type 0} (heading : S → Heading) (current : S → Option (List ℕ)) (yields : Yielding S) (gives : Giving S) (begun now new : S) (share : Share) (term : List ℕ) (postings : List Posting)
    → IsReading heading current yields gives begun now share → current now ≡ Some term → heading new ≡ heading now → GoesOn current yields gives now new share.entries (entry_with term postings)
    → IsReading heading current yields gives begun new (grown share (entry_with term postings))
reading_more {S} heading current yields gives begun now new share term postings is at same goes = record {
  headed = is.headed;
  same = same ∙ is.same;
  gives_these = goes.gives_more;
  yielded = by (current new) refl;
}
  where
    entry : DictionaryEntry
    entry = entry_with term postings

    before : (ps : List Posting) (es : List DictionaryEntry) → yields now ps es → yields begun [] (share.entries ++ entry_with term ps ∷ es)
    before =
        let P : Option (List ℕ) → Type 0 = λ o. MatchOption o (yields begun [] share.entries)
        (λ t. (ps : List Posting) (es : List DictionaryEntry) → yields now ps es → yields begun [] (share.entries ++ entry_with t ps ∷ es)) in
        subst P at is.yielded

    by : (o : Option (List ℕ)) → current new ≡ o → Ahead yields begun new (share.entries ++ entry_with term postings ∷ []) (current new)
    by None none =
        let P : Option (List ℕ) → Type 0 = λ o. MatchOption o (yields now postings [])
        (λ t. (ps : List Posting) (es : List DictionaryEntry) → yields new ps es → yields now postings (entry_with t ps ∷ es)) in
        subst (Ahead yields begun new (share.entries ++ entry_with term postings ∷ [])) (sym none) (before postings [] (subst P none goes.yielded))
    by (Some next) some =
        let P : Option (List ℕ) → Type 0 = λ o. MatchOption o (yields now postings [])
        (λ t. (ps : List Posting) (es : List DictionaryEntry) → yields new ps es → yields now postings (entry_with t ps ∷ es)) in
        subst (Ahead yields begun new (share.entries ++ entry_with term postings ∷ [])) (sym some)
        (λ ps es has.
        subst (yields begun []) (sym (append_assoc share.entries (entry_with term postings ∷ []) (entry_with next ps ∷ es)))
        (before postings (entry_with next ps ∷ es) (subst P some goes.yielded ps es has)))

-- the share of nothing
abbrev pub no_share : Share
no_share = record { heading = record { first = 0; stop = []; rows = [] }; entries = [] }

-- The sources, of which nothing had been asked, gave the shares, one each.
pub record AreReading {S : Type 0} (heading : S → Heading) (current : S → Option (List ℕ)) (yields : Yielding S) (gives : Giving S)
    (begun now : List S) (shares : List Share) : Type 0 where
  pub as_many : length now ≡ length begun
  pub shared : length shares ≡ length begun
  pub each : (place : ℕ) (source : S) (share : Share) → place < length begun
      → IsReading heading current yields gives (get_or begun place source) (get_or now place source) (get_or shares place share)

module _ {S : Type 0} (heading : S → Heading) (current : S → Option (List ℕ)) (yields : Yielding S) (gives : Giving S)
    (lawfully : (source : S) (finished : List DictionaryEntry) (at_hand : Option DictionaryEntry) → gives source finished at_hand → IsLawfulFront (heading source) finished at_hand)
    (begun now : List S) (shares : List Share) (reading : AreReading heading current yields gives begun now shares) where
  source_at : (xs : List S) (k : ℕ) → k < length xs → S
  source_at [] k within = absurd (omega arith)
  source_at (x ∷ xs) k within = x

  abbrev Whole : Share → Type 0
  Whole share = AreWhole share.heading share.entries

  pub whole_at : (place : ℕ) (source : S) (share : Share) → place < length begun → Whole (get_or shares place share)
  whole_at place source share within =
      let is = reading.each place source share within in
      subst (λ (h : Heading). AreWhole h (get_or shares place share).entries) (is.same ∙ sym is.headed)
      ((lawfully (get_or now place source) (get_or shares place share).entries (bare_entry (current (get_or now place source))) is.gives_these).whole)

  pub headed_alike : map (λ share. share.heading) shares ≡ map heading begun
  headed_alike = same_lists (map (λ (s : Share). s.heading) shares) (map heading begun) (length-map shares (λ (s : Share). s.heading) ∙ reading.shared ∙ sym (length-map begun heading))
      (λ k d within. alike k d (omega (arith, length-map shares (λ (s : Share). s.heading), reading.shared)) (source_at begun k (omega (arith, length-map shares (λ (s : Share). s.heading), reading.shared))))
    where
      alike : (k : ℕ) (d : Heading) → k < length begun → S → get_or (map (λ (s : Share). s.heading) shares) k d ≡ get_or (map heading begun) k d
      alike k d within source =
          let is = reading.each k source no_share within in
          get_or-map (λ (s : Share). s.heading) shares k no_share d (omega (arith, reading.shared)) ∙ is.headed ∙ sym (get_or-map heading begun k source d within)

  pub are_shares : AreShares (map heading begun) shares
  are_shares = record { headed = headed_alike; whole = λ k d within. whole_at k (source_at now k (omega (arith, reading.as_many, reading.shared))) d (omega (arith, reading.shared)) }

  -- one source goes on
  pub reading_set : (place : ℕ) (new : S) (share : Share) → place < length begun → ((source : S) → IsReading heading current yields gives (get_or begun place source) new share)
      → AreReading heading current yields gives begun (set now place new) (set shares place share)
  reading_set place new share within is = record {
    as_many = length-set now place new ∙ reading.as_many;
    shared = length-set shares place share ∙ reading.shared;
    each = λ k source d low. elim (cases_eq k place) [
      | inl same ↦
          let P : ℕ → Type 0 = λ n. IsReading heading current yields gives (get_or begun n source) (get_or (set now place new) n source) (get_or (set shares place share) n d) in
          let e : get_or (set now place new) place source ≡ new = get_or-set_same now place new source (omega (arith, reading.as_many)) in
          let f : get_or (set shares place share) place d ≡ share = get_or-set_same shares place share d (omega (arith, reading.shared)) in
          subst P (sym same) (rw (e, f) (is source))
      | inr other ↦
          let e : get_or (set now place new) k source ≡ get_or now k source = get_or-set_other now place k new source other in
          let f : get_or (set shares place share) k d ≡ get_or shares k d = get_or-set_other shares place k share d other in
          rw (e, f) (reading.each k source d low)
    ];
  }

  -- all came to their ends
  pub merged_all : (told : Told) (last : List ℕ) (next : ℕ) → HasToldShares shares told last next → ((place : ℕ) (source : S) → place < length now → current (get_or now place source) ≡ None)
      → HasMergedAll yields heading begun (entries_of told)
  merged_all told last next has ended = record {
    shares = shares;
    are = are_shares;
    yielded = λ place source share at at'.
        let within = slice_get_within begun place source at in
        let is = reading.each place source share within in
        let e : get_or begun place source ≡ source = get_or_from_slice_get begun place source source at in
        let f : get_or shares place share ≡ share = get_or_from_slice_get shares place share share at' in
        let P : Option (List ℕ) → Type 0 = λ o. MatchOption o (yields (get_or begun place source) [] (get_or shares place share).entries)
        (λ term. (postings : List Posting) (entries : List DictionaryEntry) → yields (get_or now place source) postings entries → yields (get_or begun place source) [] ((get_or shares place share).entries ++ entry_with term postings ∷ entries)) in
        let has : yields (get_or begun place source) [] (get_or shares place share).entries = subst P (ended place source (omega (arith, reading.as_many))) is.yielded in
        let Q : S → Type 0 = λ s. yields s [] (get_or shares place share).entries in
        let R : Share → Type 0 = λ s. yields source [] s.entries in
        subst R f (subst Q e has);
    merge = told_merge shares told last next has;
  }
