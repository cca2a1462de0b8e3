-- A run in memory as a source, step by step.
use Rattle.std.proofs.Common.{◌≡◌, ◌≢◌, ℕ, ◌+◌, ◌-◌, ◌^◌, ◌<◌, ◌≤◌, List, [], ◌∷◌, ◌++◌, length, map, Option, Some, None, IsSome, option_map, refl, sym, ap, ap₂, subst, ◌∙◌, arith, length-append}
use Rattle.std.proofs.lemmas.List.{append_assoc, append-nil, length-map}
use Rattle.std.proofs.lemmas.List.Elements.{All-contains, All-head, All-tail, Contains-append_left, Contains-push}
use Rattle.ix_text.specs.Collections.{Collection}
use Rattle.ix_text.specs.Parts.{DictionaryEntry, Posting, ArePartsOf, row_of}
use Rattle.ix_text.specs.PartsLaws.{IsLawfulTerm}
use Rattle.ix_text.proofs.PartsLawful.{lawful_parts}
use Rattle.ix_text.proofs.PartsLemmas.{same_entry_fields}
use Rattle.ix_vbyte.specs.Gaps.{next_after}
use Rattle.ix_vbyte.specs.Postings.{ArePostings, documents_of, list_bytes, list_bytes_from, shifted}
use Rattle.ix_vbyte.specs.Walking.{IsCodedList}
use Rattle.ix_vbyte.proofs.Gaps.{length-Ascends, next_after-le}
use Rattle.ix_vbyte.proofs.Postings.{list_apart}
use Rattle.ix_run_text.specs.Heads.{Heading, parts_with}
use Rattle.ix_run.specs.Runs.{IsRunOf, RunValue, TermValue, coded, last_document, run_value}
use Rattle.ix_run.specs.RunSources.{AreCoded, EndsAt, HasGiven, HasLeft, IsAtEndOfTerm, IsAtPlace, SourceValue, heading_shown, unread}
use Rattle.ix_run_text.specs.Sources.{AreWhole, BeginsTerm, EndsTerms, GivesList, GivesPosting, closed, entry_with, extended}
use Rattle.ix_run_text.proofs.Fronts.{front_lawful}
use Rattle.ix_run_text.proofs.WholeLists.{codable, list_below, postings_behind, shift_after, shift_postings}

-- what is none is nothing
some_none : {A : Type 0} {P : Type 0} (o : Option A) (x : A) → o ≡ Some x → o ≡ None → P
some_none o x some none = cc

none_is_some : {A : Type 0} (o : Option A) → o ≡ None → IsSome o → ⊥
none_is_some o none some = cc

pub nothing_left : {A B : Type 0} (f : A → B) (xs : List A) → length xs ≡ 0 → map f xs ≡ []
nothing_left f [] none = refl
nothing_left f (x ∷ xs) none = absurd (omega arith)

-- the postings are those that a term's value tells
abbrev pub ToldBy : TermValue → List Posting → Type 0
ToldBy value postings = (told : List Posting) → ArePostings 0 (2 ^ 32 - 1) told → length told ≡ value.documents → value.list ≡ list_bytes told → postings ≡ told

-- the entry of the first term that is left
record FirstEntry (value : TermValue) (values : List TermValue) (rest : List DictionaryEntry) : Type 0 where
  entry : DictionaryEntry
  entries : List DictionaryEntry
  parts : rest ≡ entry ∷ entries
  is : value ≡ coded entry
  left : AreCoded values entries
  are : ArePostings 0 (2 ^ 32 - 1) entry.postings

first_entry : (value : TermValue) (values : List TermValue) (rest : List DictionaryEntry) → AreCoded (value ∷ values) rest → FirstEntry value values rest
first_entry value values [] left = absurd (let e = ap length left.told in omega (arith, e))
first_entry value values (entry ∷ entries) left =
    let told = left.told in
    record {
      entry = entry;
      entries = entries;
      parts = refl;
      is = cc;
      left = record { told = cc; each = All-tail (λ e. ArePostings 0 (2 ^ 32 - 1) e.postings) entry entries left.each };
      are = All-head (λ e. ArePostings 0 (2 ^ 32 - 1) e.postings) entry entries left.each;
    }

told_postings : (value : TermValue) (postings : List Posting) (entry : DictionaryEntry) → ToldBy value postings → value ≡ coded entry → ArePostings 0 (2 ^ 32 - 1) entry.postings → postings ≡ entry.postings
told_postings value postings entry told is are = told entry.postings are (sym (ap (λ v. v.documents) is)) (ap (λ v. v.list) is)

no_entry : (rest : List DictionaryEntry) → AreCoded [] rest → [] ≡ rest
no_entry [] left = refl
no_entry (entry ∷ entries) left = absurd (let e = ap length left.told in omega (arith, e))

-- two dictionaries with the same lists, coded, are one
coded_once : (terms : List TermValue) (rest other : List DictionaryEntry) → AreCoded terms rest → AreCoded terms other → rest ≡ other
coded_once [] rest other left left' = sym (no_entry rest left) ∙ no_entry other left'
coded_once (value ∷ values) rest other left left' =
    let first = first_entry value values rest left in
    let second = first_entry value values other left' in
    let same : coded first.entry ≡ coded second.entry = sym first.is ∙ second.is in
    let postings : first.entry.postings ≡ second.entry.postings =
    (list_apart 0 (2 ^ 32 - 1) first.entry.postings second.entry.postings [] [] first.are second.are (ap (λ (v : TermValue). v.documents) same) (ap (λ (v : TermValue). v.list ++ []) same)).0 in
    first.parts
    ∙ ap₂ (λ (e : DictionaryEntry) (es : List DictionaryEntry). e ∷ es) (same_entry_fields first.entry second.entry (ap (λ (v : TermValue). v.term) same) postings) (coded_once values first.entries second.entries first.left second.left)
    ∙ sym second.parts

-- finished entries and one at hand, of a lawful dictionary
has_given : (source : SourceValue) (finished : List DictionaryEntry) (at_hand : Option DictionaryEntry) (rest : List DictionaryEntry) → AreWhole source.heading (closed finished at_hand source.postings ++ rest)
    → AreCoded source.terms rest → option_map (λ entry. entry.term) at_hand ≡ source.term → HasGiven source finished at_hand
has_given source finished at_hand rest whole left of_term = record {
  rest = rest;
  whole = whole;
  left = left;
  once = λ other is. coded_once source.terms rest other left is;
  of_term = of_term;
  lawful = front_lawful source.heading finished at_hand source.postings rest whole;
  completed = λ postings entries has. subst (AreWhole source.heading) (ap₂ (λ ps es. closed finished at_hand ps ++ es) (sym has.of_term) (sym (has.behind rest left))) whole;
}

module _ (heading : Heading) (value : TermValue) (values : List TermValue) (term : Option (List ℕ)) (left postings : List Posting) (told : ToldBy value postings) where
  abbrev before : SourceValue
  before = record { heading = heading; terms = value ∷ values; term = term; postings = left }

  abbrev behind : SourceValue
  behind = record { heading = heading; terms = values; term = Some value.term; postings = postings }

  given_begun : (finished : List DictionaryEntry) (at_hand : Option DictionaryEntry) → HasGiven before finished at_hand → HasGiven behind (closed finished at_hand left) (Some (entry_with value.term []))
  given_begun finished at_hand given =
      let first = first_entry value values given.rest given.left in
      let same : extended (entry_with value.term []) postings ≡ first.entry =
      same_entry_fields (extended (entry_with value.term []) postings) first.entry (ap (λ v. v.term) first.is) (told_postings value postings first.entry told first.is first.are) in
      has_given behind (closed finished at_hand left) (Some (entry_with value.term [])) first.entries
      (subst (AreWhole heading)
      (ap (λ rest. closed finished at_hand left ++ rest) first.parts
      ∙ sym (append_assoc (closed finished at_hand left) (first.entry ∷ []) first.entries)
      ∙ ap (λ e. (closed finished at_hand left ++ e ∷ []) ++ first.entries) (sym same))
      given.whole)
      first.left refl

  left_begun : (ps : List Posting) (entries : List DictionaryEntry) → HasLeft behind ps entries → HasLeft before left (entry_with value.term ps ∷ entries)
  left_begun ps entries has = record {
    of_term = refl;
    behind = λ rest is.
        let first = first_entry value values rest is in
        let same : entry_with value.term ps ≡ first.entry =
        same_entry_fields (entry_with value.term ps) first.entry (ap (λ v. v.term) first.is) (has.of_term ∙ told_postings value postings first.entry told first.is first.are) in
        ap₂ (λ (e : DictionaryEntry) (es : List DictionaryEntry). e ∷ es) same (has.behind first.entries first.left) ∙ sym first.parts;
  }

  -- the next term is begun
  pub begins : (term ≡ None → left ≡ []) → BeginsTerm HasLeft HasGiven IsAtEndOfTerm before behind value.term
  begins none = record {
    skipped = left;
    yielded = left_begun;
    given = given_begun;
    none = λ end. drained term none end;
  }
    where
      drained : (t : Option (List ℕ)) → (t ≡ None → left ≡ []) → (t ≢ None → left ≡ []) → left ≡ []
      drained None none end = none refl
      drained (Some text) none end = end (λ e. cc)

  pub placed_begun : IsAtPlace before → IsAtPlace behind
  placed_begun at = record { finished = closed at.finished at.at_hand left; at_hand = Some (entry_with value.term []); given = given_begun at.finished at.at_hand at.given; none = some_none (Some value.term) value.term refl }

module _ (heading : Heading) (term : Option (List ℕ)) (left : List Posting) where
  abbrev last : SourceValue
  last = record { heading = heading; terms = []; term = term; postings = left }

  abbrev ended : SourceValue
  ended = record { heading = heading; terms = []; term = None; postings = [] }

  given_ended : (finished : List DictionaryEntry) (at_hand : Option DictionaryEntry) → HasGiven last finished at_hand → HasGiven ended (closed finished at_hand left) None
  given_ended finished at_hand given = has_given ended (closed finished at_hand left) None given.rest given.whole given.left refl

  -- no term is left
  pub ends : (term ≡ None → left ≡ []) → EndsTerms HasLeft HasGiven IsAtEndOfTerm last ended
  ends none = record {
    skipped = left;
    yielded = record { of_term = refl; behind = no_entry };
    given = given_ended;
    none = λ end. drained term none end;
  }
    where
      drained : (t : Option (List ℕ)) → (t ≡ None → left ≡ []) → (t ≢ None → left ≡ []) → left ≡ []
      drained None none end = none refl
      drained (Some text) none end = end (λ e. cc)

  pub placed_ended : IsAtPlace last → IsAtPlace ended
  placed_ended at = record { finished = closed at.finished at.at_hand left; at_hand = None; given = given_ended at.finished at.at_hand at.given; none = λ e. refl }

module _ (heading : Heading) (terms : List TermValue) (term : Option (List ℕ)) (posting : Posting) (left : List Posting) where
  abbrev here : SourceValue
  here = record { heading = heading; terms = terms; term = term; postings = posting ∷ left }

  abbrev next : SourceValue
  next = record { heading = heading; terms = terms; term = term; postings = left }

  given_posting : (finished : List DictionaryEntry) (entry : DictionaryEntry) → HasGiven here finished (Some entry) → HasGiven next finished (Some (extended entry (posting ∷ [])))
  given_posting finished entry given =
      has_given next finished (Some (extended entry (posting ∷ []))) given.rest
      (subst (AreWhole heading) (ap (λ ps. (finished ++ entry_with entry.term ps ∷ []) ++ given.rest) (sym (append_assoc entry.postings (posting ∷ []) left))) given.whole)
      given.left given.of_term

  -- one posting is given
  pub gives_posting : GivesPosting HasLeft HasGiven here next posting
  gives_posting = record {
    yielded = λ ps entries has. record { of_term = ap (λ qs. posting ∷ qs) has.of_term; behind = has.behind };
    given = given_posting;
  }

  pub placed_next : (text : List ℕ) → term ≡ Some text → IsAtPlace here → IsAtPlace next
  placed_next text at_term at = by at.at_hand at.given
    where
      by : (at_hand : Option DictionaryEntry) → HasGiven here at.finished at_hand → IsAtPlace next
      by None given = some_none term text at_term (sym given.of_term)
      by (Some entry) given = record { finished = at.finished; at_hand = Some (extended entry (posting ∷ [])); given = given_posting at.finished entry given; none = some_none term text at_term }

module _ (heading : Heading) (terms : List TermValue) (term : Option (List ℕ)) where
  abbrev drained : SourceValue
  drained = record { heading = heading; terms = terms; term = term; postings = [] }

  some_given : (finished : List DictionaryEntry) (entry : DictionaryEntry) → HasGiven drained finished (Some entry) → 0 < length entry.postings
  some_given finished entry given =
      let all : List DictionaryEntry = (finished ++ extended entry [] ∷ []) ++ given.rest in
      let is : IsLawfulTerm (parts_with heading all) (extended entry []) =
      All-contains (IsLawfulTerm (parts_with heading all)) all (extended entry []) given.whole.lawful.terms
      (Contains-append_left (finished ++ extended entry [] ∷ []) given.rest (extended entry []) (Contains-push finished (extended entry []))) in
      let some = is.ordered.some in omega (arith, some, length-append entry.postings [])

-- ---- a run as a source of which nothing was asked

run_whole : (run : RunValue) (first : ℕ) (collection : Collection) (is : IsRunOf run first collection) → AreWhole (heading_shown run) is.parts.entries
run_whole run first collection is =
    let lawful = lawful_parts collection is.parts is.lawful is.of_collection in
    let same : heading_shown (run_value first is.parts) ≡ heading_shown run = ap heading_shown (sym is.held) in
    let size : length is.parts.rows ≡ length collection.documents = ap length is.of_collection.rows ∙ length-map collection.documents row_of in
    let P : Heading → Type 0 = λ h. AreWhole h is.parts.entries in
    subst P same (record { lawful = lawful; within = let within = is.within in omega (arith, size, within) })

pub run_coded : (run : RunValue) (first : ℕ) (collection : Collection) (is : IsRunOf run first collection) → AreCoded run.terms is.parts.entries
run_coded run first collection is = record { told = ap (λ r. r.terms) is.held; each = codable (heading_shown run) is.parts.entries (run_whole run first collection is) }

pub run_unread : (run : RunValue) (first : ℕ) (collection : Collection) → IsRunOf run first collection → HasGiven (unread run) [] None
run_unread run first collection is = has_given (unread run) [] None is.parts.entries (run_whole run first collection is) (run_coded run first collection is) refl

-- what a run yields from its start is its collection's dictionary
pub run_yields : (run : RunValue) (first : ℕ) (collection : Collection) → IsRunOf run first collection → (entries : List DictionaryEntry) → HasLeft (unread run) [] entries → ArePartsOf collection (parts_with (heading_shown run) entries)
run_yields run first collection is entries left =
    let same : parts_with (heading_shown run) entries ≡ is.parts =
    ap₂ (λ (h : Heading) (es : List DictionaryEntry). parts_with h es) (ap heading_shown is.held) (left.behind is.parts.entries (run_coded run first collection is)) in
    subst (ArePartsOf collection) (sym same) is.of_collection

-- ---- the steps, as the code makes them

-- the list of the first term that is left is a coded one
pub first_list : (all : List TermValue) (value : TermValue) (values : List TermValue) (rest : List DictionaryEntry) (list : List ℕ) → all ≡ value ∷ values → list ≡ value.list → AreCoded all rest → IsCodedList value.documents list
first_list all value values rest list is same left =
    let P : List TermValue → Type 0 = λ values. AreCoded values rest in
    let first = first_entry value values rest (subst P is left) in
    record {
      postings = first.entry.postings;
      are = first.are;
      counted = sym (ap (λ v. v.documents) first.is);
      coded = same ∙ ap (λ v. v.list) first.is;
    }

module _ (heading : Heading) (all : List TermValue) (term : Option (List ℕ)) (left postings : List Posting) where
  abbrev from_here : SourceValue
  from_here = record { heading = heading; terms = all; term = term; postings = left }

  -- to the end
  pub step_ended : all ≡ [] → postings ≡ [] → (term ≡ None → left ≡ []) → EndsTerms HasLeft HasGiven IsAtEndOfTerm from_here (record { heading = heading; terms = all; term = None; postings = postings })
  step_ended none empty drained =
      let P : List TermValue → Type 0 = λ ts. EndsTerms HasLeft HasGiven IsAtEndOfTerm (record { heading = heading; terms = ts; term = term; postings = left }) (record { heading = heading; terms = ts; term = None; postings = postings }) in
      let Q : List Posting → Type 0 = λ ps. EndsTerms HasLeft HasGiven IsAtEndOfTerm (record { heading = heading; terms = []; term = term; postings = left }) (record { heading = heading; terms = []; term = None; postings = ps }) in
      subst P (sym none) (subst Q (sym empty) (ends heading term left drained))

  pub place_ended : all ≡ [] → postings ≡ [] → IsAtPlace from_here → IsAtPlace (record { heading = heading; terms = all; term = None; postings = postings })
  place_ended none empty at =
      let P : List TermValue → Type 0 = λ ts. IsAtPlace (record { heading = heading; terms = ts; term = term; postings = left }) in
      let Q : List TermValue → Type 0 = λ ts. IsAtPlace (record { heading = heading; terms = ts; term = None; postings = postings }) in
      let R : List Posting → Type 0 = λ ps. IsAtPlace (record { heading = heading; terms = []; term = None; postings = ps }) in
      subst Q (sym none) (subst R (sym empty) (placed_ended heading term left (subst P none at)))

  module _ (value : TermValue) (values : List TermValue) (text : List ℕ) (is : all ≡ value ∷ values) (same : text ≡ value.term) (told : ToldBy value postings) where
    abbrev to_there : SourceValue
    to_there = record { heading = heading; terms = values; term = Some text; postings = postings }

    -- to the next term
    pub step_begun : (term ≡ None → left ≡ []) → BeginsTerm HasLeft HasGiven IsAtEndOfTerm from_here to_there text
    step_begun drained =
        let P : List TermValue → Type 0 = λ ts. BeginsTerm HasLeft HasGiven IsAtEndOfTerm (record { heading = heading; terms = ts; term = term; postings = left }) to_there text in
        let Q : List ℕ → Type 0 = λ t. BeginsTerm HasLeft HasGiven IsAtEndOfTerm (record { heading = heading; terms = value ∷ values; term = term; postings = left }) (record { heading = heading; terms = values; term = Some t; postings = postings }) t in
        subst P (sym is) (subst Q (sym same) (begins heading value values term left postings told drained))

    pub place_begun : IsAtPlace from_here → IsAtPlace to_there
    place_begun at =
        let P : List TermValue → Type 0 = λ ts. IsAtPlace (record { heading = heading; terms = ts; term = term; postings = left }) in
        let Q : List ℕ → Type 0 = λ t. IsAtPlace (record { heading = heading; terms = values; term = Some t; postings = postings }) in
        subst Q (sym same) (placed_begun heading value values term left postings told (subst P is at))

-- the coded list of no posting tells none
pub no_postings : (postings : List Posting) → ToldBy (record { term = []; documents = 0; last = 0; list = [] }) postings → postings ≡ []
no_postings postings told = told [] (record { documents = tt; each = λ k d within. absurd (omega arith) }) refl refl

-- of which nothing was asked yet
pub place_unread : (heading : Heading) (terms : List TermValue) (postings : List Posting) → postings ≡ [] → HasGiven (record { heading = heading; terms = terms; term = None; postings = [] }) [] None
    → IsAtPlace (record { heading = heading; terms = terms; term = None; postings = postings })
place_unread heading terms postings none given =
    let P : List Posting → Type 0 = λ ps. IsAtPlace (record { heading = heading; terms = terms; term = None; postings = ps }) in
    subst P (sym none) (record { finished = []; at_hand = None; given = given; none = λ e. refl })

module _ (heading : Heading) (terms : List TermValue) (term : Option (List ℕ)) (posting : Posting) (left postings : List Posting) (is : postings ≡ posting ∷ left) where
  -- to the next posting
  pub step_given : GivesPosting HasLeft HasGiven (record { heading = heading; terms = terms; term = term; postings = postings }) (record { heading = heading; terms = terms; term = term; postings = left }) posting
  step_given =
      let P : List Posting → Type 0 = λ ps. GivesPosting HasLeft HasGiven (record { heading = heading; terms = terms; term = term; postings = ps }) (record { heading = heading; terms = terms; term = term; postings = left }) posting in
      subst P (sym is) (gives_posting heading terms term posting left)

  pub place_next : IsSome term → IsAtPlace (record { heading = heading; terms = terms; term = term; postings = postings }) → IsAtPlace (record { heading = heading; terms = terms; term = term; postings = left })
  place_next some at =
      let P : List Posting → Type 0 = λ ps. IsAtPlace (record { heading = heading; terms = terms; term = term; postings = ps }) in
      by term refl some (subst P is at)
    where
      by : (t : Option (List ℕ)) → term ≡ t → IsSome term → IsAtPlace (record { heading = heading; terms = terms; term = term; postings = posting ∷ left }) → IsAtPlace (record { heading = heading; terms = terms; term = term; postings = left })
      by None none some at = absurd (none_is_some term none some)
      by (Some text) same some at = placed_next heading terms term posting left text same at

-- ---- the last document of what is left
after_some : (next : ℕ) (xs : List ℕ) → 0 < next → 0 < next_after next xs
after_some next [] some = some
after_some next (x ∷ xs) some = after_some (x + 1) xs (omega arith)

last_of_all : (postings : List Posting) → EndsAt (last_document postings) postings
last_of_all [] some = absurd (omega arith)
last_of_all (p ∷ ps) some = let above = after_some (p.0 + 1) (documents_of ps) (omega arith) in omega (arith, above)

pub ends_none : (last : ℕ) (postings : List Posting) → postings ≡ [] → EndsAt last postings
ends_none last postings none some = absurd (let e = ap length none in omega (arith, e, some))

pub ends_begun : (all : List TermValue) (value : TermValue) (values : List TermValue) (rest : List DictionaryEntry) (postings : List Posting) (last : ℕ) → all ≡ value ∷ values → AreCoded all rest
    → ToldBy value postings → last ≡ value.last → EndsAt last postings
ends_begun all value values rest postings last is left told same =
    let P : List TermValue → Type 0 = λ values. AreCoded values rest in
    let first = first_entry value values rest (subst P is left) in
    let listed : postings ≡ first.entry.postings = told_postings value postings first.entry told first.is first.are in
    let at : last_document postings ≡ last = ap last_document listed ∙ sym (ap (λ (v : TermValue). v.last) first.is) ∙ sym same in
    subst (λ (n : ℕ). EndsAt n postings) at (last_of_all postings)

pub ends_next : (last : ℕ) (postings left : List Posting) (posting : Posting) → postings ≡ posting ∷ left → EndsAt last postings → EndsAt last left
ends_next last postings left posting is at = by left (subst (EndsAt last) is at)
  where
    by : (ps : List Posting) → EndsAt last (posting ∷ ps) → EndsAt last ps
    by [] at some = absurd (omega arith)
    by (q ∷ qs) at some = at (omega arith)

-- ---- all that is left of a list
-- what is known of the postings that are left, so that they can be counted from elsewhere
pub record CanShift (first next last : ℕ) (postings : List Posting) : Type 0 where
  pub are : ArePostings next (2 ^ 32 - 1) (shifted first postings)
  pub fits : 0 < length postings → first + last + 1 < 2 ^ 32
  pub after : 0 < length postings → next_after next (documents_of (shifted first postings)) ≡ first + last + 1
  pub few : length postings < 2 ^ 32

pub can_shift : (source now : SourceValue) (last next : ℕ) → source ≡ now → IsAtPlace source → EndsAt last source.postings → IsSome now.term → next ≤ now.heading.first
    → CanShift source.heading.first next last source.postings
can_shift source now last next same at ends some low = by at.at_hand at.given
  where
    here : next ≤ source.heading.first
    here = subst (λ (s : SourceValue). next ≤ s.heading.first) (sym same) low

    from_entry : (entry : DictionaryEntry) → HasGiven source at.finished (Some entry) → CanShift source.heading.first next last source.postings
    from_entry entry given =
        let above : next ≤ source.heading.first = here in
        let within : source.heading.first + length source.heading.rows ≤ 2 ^ 28 = given.whole.within in
        let whole = list_below source.heading at.finished (extended entry source.postings) given.rest given.whole in
        let left = postings_behind 0 (2 ^ 28) entry.postings source.postings whole in
        let count = length-Ascends 0 (2 ^ 28) (documents_of source.postings) (omega arith) left.documents in
        let below = next_after-le 0 (2 ^ 28) (documents_of source.postings) (omega arith) left.documents in
        record {
          are = shift_postings source.heading.first 0 (2 ^ 28) next (2 ^ 32 - 1) source.postings (omega arith) (omega arith) left;
          fits = λ any. let e = ends any in omega (arith, e, below, within);
          after = λ any. let e = ends any in let f = shift_after source.heading.first next 0 source.postings any in omega (arith, e, f);
          few = omega (arith, count, length-map source.postings (λ (p : Posting). p.0));
        }

    by : (at_hand : Option DictionaryEntry) → HasGiven source at.finished at_hand → CanShift source.heading.first next last source.postings
    by None given = absurd (none_is_some source.term (sym given.of_term) (subst (λ (s : SourceValue). IsSome s.term) (sym same) some))
    by (Some entry) given = from_entry entry given

module _ (heading : Heading) (terms : List TermValue) (term : Option (List ℕ)) (postings : List Posting) where
  abbrev listing : SourceValue
  listing = record { heading = heading; terms = terms; term = term; postings = postings }

  given_listed : (finished : List DictionaryEntry) (entry : DictionaryEntry) → HasGiven listing finished (Some entry) → HasGiven (drained heading terms term) finished (Some (extended entry postings))
  given_listed finished entry given =
      has_given (drained heading terms term) finished (Some (extended entry postings)) given.rest
      (subst (AreWhole heading) (ap (λ ps. (finished ++ entry_with entry.term ps ∷ []) ++ given.rest) (sym (append-nil (entry.postings ++ postings)))) given.whole)
      given.left given.of_term

  step_listed : (first from documents to : ℕ) (bytes more : List ℕ) → documents ≡ length postings → to ≡ next_after from (documents_of (shifted first postings))
      → more ≡ bytes ++ list_bytes_from from (shifted first postings) → GivesList HasLeft HasGiven listing (drained heading terms term) first from documents to bytes more
  step_listed first from documents to bytes more count last coded = record {
    postings = postings;
    yielded = λ ps entries has. (has.of_term, record { of_term = refl; behind = has.behind });
    given = λ finished entry given. let now = given_listed finished entry given in (now, some_given heading terms term finished (extended entry postings) now);
    count = count;
    last = last;
    coded = coded;
  }

  place_listed : IsSome term → IsAtPlace listing → IsAtPlace (drained heading terms term)
  place_listed some at = by at.at_hand at.given
    where
      by : (at_hand : Option DictionaryEntry) → HasGiven listing at.finished at_hand → IsAtPlace (drained heading terms term)
      by None given = absurd (none_is_some term (sym given.of_term) some)
      by (Some entry) given = record { finished = at.finished; at_hand = Some (extended entry postings); given = given_listed at.finished entry given; none = λ e. refl }

  module _ (now : SourceValue) (same : listing ≡ now) (left : List Posting) (none : left ≡ []) where
    abbrev behind_list : SourceValue
    behind_list = record { heading = heading; terms = terms; term = term; postings = left }

    -- to the end of the list
    pub step_list : (from documents to : ℕ) (bytes more : List ℕ) → documents ≡ length postings → to ≡ next_after from (documents_of (shifted heading.first postings))
        → more ≡ bytes ++ list_bytes_from from (shifted heading.first postings) → GivesList HasLeft HasGiven now behind_list now.heading.first from documents to bytes more
    step_list from documents to bytes more count last coded =
        let P : SourceValue → Type 0 = λ old. GivesList HasLeft HasGiven old behind_list old.heading.first from documents to bytes more in
        let Q : List Posting → Type 0 = λ ps. GivesList HasLeft HasGiven listing (record { heading = heading; terms = terms; term = term; postings = ps }) heading.first from documents to bytes more in
        subst P same (subst Q (sym none) (step_listed heading.first from documents to bytes more count last coded))

    pub place_list : IsSome now.term → IsAtPlace listing → IsAtPlace behind_list
    place_list some at =
        let Q : List Posting → Type 0 = λ ps. IsAtPlace (record { heading = heading; terms = terms; term = term; postings = ps }) in
        let at_hand : IsSome term = subst (λ (s : SourceValue). IsSome s.term) (sym same) some in
        subst Q (sym none) (place_listed at_hand at)

-- of a list of which nothing is left nothing is given
pub step_no_list : (heading : Heading) (terms : List TermValue) (term : Option (List ℕ)) (postings : List Posting) (now : SourceValue)
    → record { heading = heading; terms = terms; term = term; postings = postings } ≡ now → (from : ℕ) (bytes : List ℕ) → length postings ≡ 0
    → GivesList HasLeft HasGiven now now now.heading.first from 0 from bytes bytes
step_no_list heading terms term (p ∷ ps) now same from bytes none = absurd (omega arith)
step_no_list heading terms term [] now same from bytes none =
    let P : SourceValue → Type 0 = λ s. GivesList HasLeft HasGiven s s s.heading.first from 0 from bytes bytes in
    subst P same (step_listed heading terms term [] heading.first from 0 from bytes bytes refl refl (sym (append-nil bytes)))
