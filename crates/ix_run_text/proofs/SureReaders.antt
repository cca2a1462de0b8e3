-- What lies ahead of a reader may be yielded: with anything that the reader may have given it is a lawful whole.
use Rattle.std.proofs.Common.{◌≡◌, ℕ, ◌-◌, ◌^◌, ◌<◌, List, [], ◌∷◌, ◌++◌, length, Contains, Option, Some, None, IfSome, refl, sym, ap, subst, ◌∙◌, inl, inr, arith, length-append}
use Rattle.std.proofs.lemmas.List.{append_assoc, append-nil}
use Rattle.std.proofs.lemmas.List.Elements.{Contains-append_cases, Contains-append_left, Contains-append_right}
use Rattle.ix_text.specs.Parts.{DictionaryEntry, Posting, terms_of}
use Rattle.ix_text.specs.TokenNumbers.{AreDistinct, numbers_of_entries, numbers_of_postings}
use Rattle.ix_text.proofs.DistinctNumbers.{distinct_append, distinct_apart, distinct_back}
use Rattle.ix_text.proofs.TokensApart.{lawful_distinct, numbers_of_entries-push}
use Rattle.ix_postings.specs.NextPostings.{PostingsFit}
use Rattle.ix_postings.specs.TokenMarks.{HoldsNumbers}
use Rattle.ix_postings.specs.declared.token_marks.TokenMarks.{TokenMarks}
use Rattle.ix_postings.proofs.FitPostings.{fit_are}
use Rattle.ix_vbyte.specs.Gaps.{next_after}
use Rattle.ix_vbyte.specs.Postings.{documents_of, list_bytes, list_bytes_from}
use Rattle.ix_vbyte.proofs.Postings.{list_apart}
use Rattle.ix_run_text.specs.Heads.{Heading, parts_with}
use Rattle.ix_run_text.specs.Reading.{Faces, IsSure, LieAhead, LieBehind, MayLieAhead, Standing, Told, bytes_ahead, last_text}
use Rattle.ix_run_text.specs.ReadTerms.{TermFits}
use Rattle.ix_run_text.specs.Sources.{AreWhole, IsLawfulFront, closed, entry_with}
use Rattle.ix_run_text.specs.declared.run_reader.RunReader.{RunReader}
use Rattle.ix_run_text.proofs.MarkedReaders.{all_fit, all_free}
use Rattle.ix_run_text.proofs.ReadFronts.{front_begun, last_text-push, numbers_more, terms_push}
use Rattle.ix_run_text.proofs.ReadSteps.{last_stays}
use Rattle.ix_run_text.proofs.ReadWholes.{closed-begun, term_fits}
use Rattle.ix_run_text.proofs.TakenLists.{front_all}

-- each number stands in the other list too
abbrev AreAmong : List ℕ → List ℕ → Type 0
AreAmong one other = (number : ℕ) → Contains one number → Contains other number

among_more : (one other more : List ℕ) → AreAmong one other → AreAmong (one ++ more) (other ++ more)
among_more one other more among number has =
    elim (Contains-append_cases one more number has) [
      | inl front ↦ Contains-append_left other more number (among number front)
      | inr back ↦ Contains-append_right other more number back
    ]

-- distinct numbers stay so with others of which no new one is among them
distinct_among : (one other more : List ℕ) → AreAmong one other → AreDistinct one → AreDistinct (other ++ more) → AreDistinct (one ++ more)
distinct_among one other more among distinct free =
    distinct_append one more distinct (distinct_back other more free) (λ number has. distinct_apart other more free number (among number has))

-- ---- the same standing has the same tokens behind it

same_marked : (marks : TokenMarks) (one other : List ℕ) → HoldsNumbers marks one → HoldsNumbers marks other → AreAmong one other
unfolding HoldsNumbers
same_marked marks one other holds also number has = (also number).0 ((holds number).1 has)

told_among : {entries : List DictionaryEntry} (at : Standing) (one other : List ℕ) → AreWhole at.heading entries → Told at one → Told at other → AreAmong one other
told_among at one other whole known also number has =
    let rows = at.heading.rows in
    let few = whole.lawful.few_documents in
    let short = whole.lawful.few_tokens in
    let fit = fit_are rows (2 ^ 32 - 1) (omega (arith, few)) (omega (arith, short)) at.next in
    let same : known.postings ≡ also.postings =
    (list_apart at.next (2 ^ 32 - 1) known.postings also.postings known.behind also.behind (fit known.postings known.lies.fit) (fit also.postings also.lies.fit)
    (known.lies.counted ∙ sym also.lies.counted) (sym known.lies.spelled ∙ also.lies.spelled)).0 in
    let list : List ℕ = numbers_of_postings rows known.postings in
    let marked : HoldsNumbers at.checked.marks (other ++ list) = subst (λ (ps : List Posting). HoldsNumbers at.checked.marks (other ++ numbers_of_postings rows ps)) (sym same) also.marked in
    elim (Contains-append_cases other list number (same_marked at.checked.marks (one ++ list) (other ++ list) known.marked marked number (Contains-append_left one list number has))) [
      | inl there ↦ there
      | inr listed ↦ absurd (distinct_apart one list known.lies.free number has listed)
    ]

-- ---- what lies behind one front lies behind another

module _ (heading : Heading) where
  -- postings of the current term
  postings_behind : (one other : List DictionaryEntry) (entry also : DictionaryEntry) (postings : List Posting) (entries : List DictionaryEntry) → AreWhole heading (closed one (Some entry) postings ++ entries)
      → IsLawfulFront heading other (Some also) → next_after 0 (documents_of entry.postings) ≡ next_after 0 (documents_of also.postings)
      → AreDistinct (numbers_of_entries heading.rows (closed other (Some also) [])) → AreAmong (numbers_of_entries heading.rows (closed other (Some also) [])) (numbers_of_entries heading.rows (closed one (Some entry) []))
      → 0 < length (also.postings ++ postings) → AreWhole heading (closed other (Some also) postings)
  postings_behind one other entry also postings entries whole front next distinct among some =
      let rows = heading.rows in
      (front_all heading other also postings front (subst (λ (n : ℕ). PostingsFit rows n postings) next (all_fit heading one entry postings entries whole))
      (distinct_among (numbers_of_entries rows (closed other (Some also) [])) (numbers_of_entries rows (closed one (Some entry) [])) (numbers_of_postings rows postings) among distinct
      (all_free heading one entry postings entries whole))).begun.posted some

  -- entries
  entries_behind : (one other entries : List DictionaryEntry) → AreWhole heading (one ++ entries) → AreWhole heading other → last_text (terms_of one) ≡ last_text (terms_of other)
      → AreAmong (numbers_of_entries heading.rows other) (numbers_of_entries heading.rows one) → AreWhole heading (other ++ entries)
  entries_behind one other [] whole front last among = subst (AreWhole heading) (sym (append-nil other)) front
  entries_behind one other (entry ∷ entries) whole front last among =
      let rows = heading.rows in
      let fits = term_fits heading one entry entries whole in
      let bare : DictionaryEntry = entry_with entry.term [] in
      let bare_numbers : (es : List DictionaryEntry) → numbers_of_entries rows (es ++ bare ∷ []) ≡ numbers_of_entries rows es = λ es. numbers_of_entries-push rows es bare ∙ append-nil (numbers_of_entries rows es) in
      let begun = front_begun heading other None entry.term _ _ (record { whole = front; begun = tt }) tt (subst (λ (t : List ℕ). TermFits heading.stop t entry.term (length entry.postings) (length (list_bytes entry.postings))) last fits) in
      let more : AreWhole heading (other ++ entry ∷ []) =
      postings_behind one other bare bare entry.postings entries (subst (AreWhole heading) (sym (closed-begun one entry.term entry.postings entries)) whole) begun refl
      (subst AreDistinct (sym (bare_numbers other)) (lawful_distinct (parts_with heading other) front.lawful))
      (λ number has. subst (λ (ns : List ℕ). Contains ns number) (sym (bare_numbers one)) (among number (subst (λ (ns : List ℕ). Contains ns number) (bare_numbers other) has))) fits.some in
      let ends : (es : List DictionaryEntry) → last_text (terms_of (es ++ entry ∷ [])) ≡ entry.term = λ es. ap last_text (terms_push es entry) ∙ last_text-push (terms_of es) entry.term in
      subst (AreWhole heading) (append_assoc other (entry ∷ []) entries)
      (entries_behind (one ++ entry ∷ []) (other ++ entry ∷ []) entries (subst (AreWhole heading) (sym (append_assoc one (entry ∷ []) entries)) whole) more (ends one ∙ sym (ends other))
      (λ number has.
      subst (λ (ns : List ℕ). Contains ns number) (sym (numbers_of_entries-push rows one entry))
      (among_more (numbers_of_entries rows other) (numbers_of_entries rows one) (numbers_of_postings rows entry.postings) among number
      (subst (λ (ns : List ℕ). Contains ns number) (numbers_of_entries-push rows other entry) has))))

-- so it may be yielded
may_lie_ahead : (at : Standing) (left : Option (List ℕ)) (postings : List Posting) (entries : List DictionaryEntry) → LieAhead at left postings entries → MayLieAhead at left postings entries
may_lie_ahead at left postings entries ahead = record {
  are = ahead.are;
  spelled = λ not. subst (λ (known : Option (List ℕ)). IfSome known (λ bytes. bytes ≡ bytes_ahead (list_bytes_from at.next postings) entries)) (sym (ahead.spelled not)) refl;
  whole = by ahead.finished ahead.at_hand ahead.behind ahead.whole;
}
  where
    by : (one : List DictionaryEntry) (hand : Option DictionaryEntry) → LieBehind at one hand → AreWhole at.heading (closed one hand postings ++ entries)
        → (other : List DictionaryEntry) (also : Option DictionaryEntry) → LieBehind at other also → AreWhole at.heading (closed other also postings ++ entries)
    by one None known whole other None behind =
        entries_behind at.heading one other entries whole behind.lawful.whole (sym known.last ∙ behind.last) (told_among at (numbers_of_entries at.heading.rows other) (numbers_of_entries at.heading.rows one) behind.lawful.whole behind.marked known.marked)
    by one None known whole other (Some also) behind = absurd (let e = known.of_term ∙ sym behind.of_term in cc)
    by one (Some entry) known whole other None behind = absurd (let e = known.of_term ∙ sym behind.of_term in cc)
    by one (Some entry) known whole other (Some also) behind =
        let rows = at.heading.rows in
        let front : List ℕ = numbers_of_entries rows (closed one (Some entry) []) in
        let others : List ℕ = numbers_of_entries rows (closed other (Some also) []) in
        let told : List ℕ = numbers_of_postings rows postings in
        let among : AreAmong others front = told_among at others front behind.lawful.whole behind.marked known.marked in
        let some : 0 < length (also.postings ++ postings) = by_count postings ahead.are.counted in
        entries_behind at.heading (closed one (Some entry) postings) (closed other (Some also) postings) entries whole
        (postings_behind at.heading one other entry also postings entries whole behind.lawful (sym known.next ∙ behind.next) behind.distinct among some)
        (last_stays one entry.term (entry.postings ++ postings) (entry.postings ++ []) ∙ sym known.last ∙ behind.last ∙ last_stays other also.term (also.postings ++ []) (also.postings ++ postings))
        (λ number has.
        subst (λ (ns : List ℕ). Contains ns number) (sym (numbers_more rows one entry postings)) (among_more others front told among number (subst (λ (ns : List ℕ). Contains ns number) (numbers_more rows other also postings) has)))
      where
        by_count : (ps : List Posting) → length ps ≡ at.documents → 0 < length (also.postings ++ ps)
        by_count [] none = (let some = behind.posted (sym none) in omega (arith, some, length-append also.postings []))
        by_count (p ∷ ps) count = omega (arith, length-append also.postings (p ∷ ps))

pub is_sure : {R : Type 0} (remaining : R → Option (List ℕ)) (reader : RunReader R) (postings : List Posting) (entries : List DictionaryEntry) → Faces remaining reader postings entries → IsSure remaining reader
is_sure remaining reader postings entries faces = record { postings = postings; entries = entries; faces = faces; yielded = may_lie_ahead _ _ postings entries faces }
