-- What AND, OR and NOT find, from what their parts find.
use Rattle.std.proofs.Common.{◌≡◌, ℕ, zero, suc, ◌+◌, ◌-◌, ◌^◌, ◌<◌, ◌≤◌, ◌↔◌, ◌⊎◌, inl, inr, List, [], ◌∷◌, ◌++◌, Some, Contains, Result, length, get_or, slice_get, refl, sym, ap, ◌∙◌, subst, arith, length-append}
use Rattle.std.proofs.lemmas.Bool.{cases_lt}
use Rattle.std.proofs.lemmas.Option.{slice_get_within, slice_get_read, slice_get-get_or, get_or_from_slice_get}
use Rattle.std.proofs.lemmas.Result.{IfOk-weaker}
use Rattle.std.specs.Prelude.{All, IfOk}
use Rattle.ix_text.proofs.AscendingLists.{contains_none}
use Rattle.ix_text.proofs.CollectionTold.{has_collection}
use Rattle.ix_text.specs.PartsLaws.{AreLawful}
use Rattle.ix_file.specs.Opened.{IsIndexOf, Opened}
use Rattle.ix_file.specs.Sections.{Version}
use Rattle.ix_file.proofs.Gaps.{Ascends-rising}
use Rattle.ix_file.specs.Postings.{Posting, documents_of}
use Rattle.ix_text.specs.Collections.{Collection, Document}
use Rattle.ix_text.specs.Parts.{Parts, ArePartsOf}
use Rattle.ix_query.specs.declared.answers.doc_stream.DocStream.{DocStream}
use Rattle.ix_query_text.specs.declared.tree.Tree.{Tree}
use Rattle.ix_query_text.specs.declared.tree.Tree.TheVariants as asks
use Rattle.ix_query.specs.Finding.{AnswersNothing, AreFound, AreNumbersOf, AreEvery, AreOfTerm}
use Rattle.ix_query.specs.DocStreams.{HasNumber, IsInIntersection}
use Rattle.ix_query.specs.Satisfaction.{Satisfies}
use Rattle.ix_query.specs.Scans.{IsScan, SatisfiesAt}
use Rattle.ix_query.specs.Streams.{Have, HaveAll, HasOne, AreAll}
use Rattle.ix_query.proofs.FindLemmas.{HasDocument, document_below, satisfied_below, word_found, get_left, get_last, get_cases}
use Rattle.ix_query.proofs.ScanLemmas.{one_scan}
use Rattle.ix_query_text.proofs.EachBefore.{EachBefore, each_more}
use Rattle.ix_query.proofs.SatisfactionLemmas.{satisfies-And, satisfies-Or, satisfies-Not}

pub satisfied_at : (collection : Collection) (query : Tree) (n : ℕ) (document : Document) → slice_get collection.documents n ≡ Some document → SatisfiesAt collection query n ↔ Satisfies document.tokens query
satisfied_at collection query n document at = (
  λ is. let same : is.document ≡ document = let e = is.numbered in cc in subst (λ (d : Document). Satisfies d.tokens query) same is.satisfied,
  λ holds. record { document = document; numbered = at; satisfied = holds },
)

each_less : {X : Type 0} (P : X → Type 0) (xs : List X) (i : ℕ) → EachBefore P xs (i + 1) → EachBefore P xs i
each_less P xs i each k d below within = each k d (omega arith) within

each_last : {X : Type 0} (P : X → Type 0) (xs : List X) (i : ℕ) (x : X) → i < length xs → x ≡ get_or xs i x → EachBefore P xs (i + 1) → P x
each_last P xs i x within is each = subst P (sym is) (each i x (omega arith) within)

-- streams with one more
have_more : (leaves : List DocStream) (stream : DocStream) (n : ℕ) → HaveAll HasNumber (leaves ++ stream ∷ []) n ↔ (HaveAll HasNumber leaves n × Have (HasNumber stream) n)
have_more leaves stream n = (
  λ all. (λ k one at. all k one (get_left leaves stream k one at), all (length leaves) stream (get_last leaves stream)),
  λ (all, last) k one at. elim (get_cases leaves stream k one at) [
    | inl left ↦ all k one left
    | inr (_, same) ↦ subst (λ (l : DocStream). Have (HasNumber l) n) same last
  ],
)

one_more : (leaves : List DocStream) (stream : DocStream) (n : ℕ) → HasOne HasNumber (leaves ++ stream ∷ []) n ↔ (HasOne HasNumber leaves n ⊎ Have (HasNumber stream) n)
one_more leaves stream n = (
  λ (k, one, at, has). elim (get_cases leaves stream k one at) [
    | inl left ↦ inl (k, one, left, has)
    | inr (_, same) ↦ inr (subst (λ (l : DocStream). Have (HasNumber l) n) (sym same) has)
  ],
  λ h. elim h [
    | inl (k, one, at, has) ↦ (k, one, get_left leaves stream k one at, has)
    | inr has ↦ (length leaves, stream, get_last leaves stream, has)
  ],
)

-- ---- AND

-- what was gathered of the parts before a place: those that are to be present, and those that are to be absent
pub record Gathered (parts : Parts) (trees : List Tree) (i : ℕ) (present absent : List DocStream) : Type 0 where
  pub same : (collection : Collection) → ArePartsOf collection parts → (n : ℕ) (document : Document) → slice_get collection.documents n ≡ Some document
      → (HaveAll HasNumber present n × ¬ (HasOne HasNumber absent n)) ↔ EachBefore (Satisfies document.tokens) trees i
  pub bounded : (collection : Collection) → ArePartsOf collection parts → (k : ℕ) (stream : DocStream) → slice_get present k ≡ Some stream → (n : ℕ) → Have (HasNumber stream) n → HasDocument collection n

pub gathered_present : (parts : Parts) (trees : List Tree) (i : ℕ) (present absent : List DocStream) (tree : Tree) (stream : DocStream) → i < length trees → tree ≡ get_or trees i tree → AreFound parts tree (Have (HasNumber stream)) → Gathered parts trees i present absent → Gathered parts trees (i + 1) (present ++ stream ∷ []) absent
gathered_present parts trees i present absent tree stream within is found before = record {
  same = λ collection of n document at.
      let told = before.same collection of n document at in
      let here = satisfied_at collection tree n document at in (
        λ (all, lacks).
            let both = (have_more present stream n).0 all in
            each_more (Satisfies document.tokens) trees i tree within is (here.0 ((found collection of n).0 both.1)) (told.0 (both.0, lacks)),
        λ each.
            let earlier = told.1 (each_less (Satisfies document.tokens) trees i each) in
            let last = (found collection of n).1 (here.1 (each_last (Satisfies document.tokens) trees i tree within is each)) in
            ((have_more present stream n).1 (earlier.0, last), earlier.1),
      );
  bounded = λ collection of k one at n has. elim (get_cases present stream k one at) [
    | inl left ↦ before.bounded collection of k one left n has
    | inr (_, same) ↦ let satisfied = (found collection of n).0 (subst (λ (l : DocStream). Have (HasNumber l) n) (sym same) has) in (satisfied.document, satisfied.numbered)
  ];
}

pub gathered_absent : (parts : Parts) (trees : List Tree) (i : ℕ) (present absent : List DocStream) (tree denied : Tree) (stream : DocStream) → i < length trees → tree ≡ get_or trees i tree → tree ≡ asks.Not denied → AreFound parts denied (Have (HasNumber stream)) → Gathered parts trees i present absent → Gathered parts trees (i + 1) present (absent ++ stream ∷ [])
gathered_absent parts trees i present absent tree denied stream within is form found before = record {
  same = λ collection of n document at.
      let told = before.same collection of n document at in
      let here = satisfied_at collection denied n document at in
      let asks_not = satisfies-Not document.tokens denied in (
        λ (all, lacks).
            let none = λ (one : HasOne HasNumber absent n). lacks ((one_more absent stream n).1 (inl one)) in
            let not_here : ¬ (Satisfies document.tokens denied) = λ holds. lacks ((one_more absent stream n).1 (inr ((found collection of n).1 (here.1 holds)))) in
            each_more (Satisfies document.tokens) trees i tree within is (subst (λ (t : Tree). Satisfies document.tokens t) (sym form) (asks_not.1 not_here)) (told.0 (all, none)),
        λ each.
            let earlier = told.1 (each_less (Satisfies document.tokens) trees i each) in
            let last = asks_not.0 (subst (λ (t : Tree). Satisfies document.tokens t) form (each_last (Satisfies document.tokens) trees i tree within is each)) in (
              earlier.0,
              λ one. elim ((one_more absent stream n).0 one) [
                | inl early ↦ earlier.1 early
                | inr has ↦ last (here.0 ((found collection of n).0 has))
              ],
            ),
      );
  bounded = before.bounded;
}

-- what is found where some are present and some absent: one of all documents where none is to be present
abbrev pub IsMeetOf : Parts → List DocStream → List DocStream → (ℕ → Type 0) → Type 0
IsMeetOf parts present absent there = (n : ℕ) → there n ↔ (HaveAll HasNumber present n × (present ≡ [] → n < length parts.rows) × ¬ (HasOne HasNumber absent n))

some_document : (parts : Parts) (trees : List Tree) (i : ℕ) (present absent : List DocStream) (n : ℕ) (collection : Collection) → ArePartsOf collection parts → Gathered parts trees i present absent → HaveAll HasNumber present n → (present ≡ [] → n < length parts.rows) → HasDocument collection n
some_document parts trees i [] absent n collection of gathered all below = (document_below collection parts n of).1 (below refl)
some_document parts trees i (stream ∷ present) absent n collection of gathered all below = gathered.bounded collection of 0 stream refl n (all 0 stream refl)

pub each_found : (parts : Parts) (trees : List Tree) (i : ℕ) (present absent : List DocStream) (there : ℕ → Type 0) → length trees ≤ i → Gathered parts trees i present absent → IsMeetOf parts present absent there → AreFound parts (asks.And trees) there
each_found parts trees i present absent there all gathered meet collection of n = (
  λ has.
      let (have, below, lacks) = (meet n).0 has in
      let (document, at) = some_document parts trees i present absent n collection of gathered have below in
      let each = (gathered.same collection of n document at).0 (have, lacks) in
      (satisfied_at collection (asks.And trees) n document at).1 ((satisfies-And document.tokens trees).1 (λ k d within. each k d (omega arith) within)),
  λ satisfied.
      let every = (satisfies-And satisfied.document.tokens trees).0 satisfied.satisfied in
      let told = (gathered.same collection of n satisfied.document satisfied.numbered).1 (λ k d below within. every k d within) in
      (meet n).1 (told.0, (λ _. satisfied_below collection parts (asks.And trees) n of satisfied), told.1),
)

-- the last of those that are to be present is the first to be asked
pub meet_some : (parts : Parts) (present others absent : List DocStream) (first : DocStream) → present ≡ others ++ first ∷ [] → IsMeetOf parts present absent (IsInIntersection first others absent)
meet_some parts present others absent first is n =
    let more = have_more others first n in (
      λ ((one, all), lacks). (
        subst (λ (ls : List DocStream). HaveAll HasNumber ls n) (sym is) (more.1 (all, one)),
        (λ none. absurd (let a = ap length is ∙ length-append others (first ∷ []) in let b = ap length none in omega arith)),
        lacks,
      ),
      λ (all, below, lacks). let both = more.0 (subst (λ (ls : List DocStream). HaveAll HasNumber ls n) is all) in ((both.1, both.0), lacks),
    )

pub meet_none : (parts : Parts) (present others absent : List DocStream) (first : DocStream) → length present ≡ 0 → length others ≡ 0 → AreEvery parts (Have (HasNumber first)) → IsMeetOf parts present absent (IsInIntersection first others absent)
meet_none parts [] [] absent first empty none every n = (
  λ ((one, all), lacks). ((λ k stream at. absurd (cc)), (λ _. (every n).0 one), lacks),
  λ (all, below, lacks). (((every n).1 (below refl), λ k stream at. absurd (cc)), lacks),
)
meet_none parts (x ∷ present) others absent first empty none every n = absurd (omega arith)
meet_none parts [] (x ∷ others) absent first empty none every n = absurd (omega arith)

-- ---- NOT

pub others_found : (parts : Parts) (tree : Tree) (stream : DocStream) (there : ℕ → Type 0) → AreFound parts tree (Have (HasNumber stream)) → IsMeetOf parts [] (stream ∷ []) there → AreFound parts (asks.Not tree) there
others_found parts tree stream there found meet collection of n = (
  λ has.
      let (have, below, lacks) = (meet n).0 has in
      let (document, at) = (document_below collection parts n of).1 (below refl) in
      (satisfied_at collection (asks.Not tree) n document at).1 ((satisfies-Not document.tokens tree).1 (λ holds.
      lacks (0, stream, refl, (found collection of n).1 ((satisfied_at collection tree n document at).1 holds)))),
  λ satisfied. (meet n).1 (
    (λ k one none. absurd (cc)),
    (λ _. satisfied_below collection parts (asks.Not tree) n of satisfied),
    (λ (k, one, at, has). (satisfies-Not satisfied.document.tokens tree).0 satisfied.satisfied ((satisfied_at collection tree n satisfied.document satisfied.numbered).0 ((found collection of n).0 (only k one at has)))),
  ),
)
  where
    only : (k : ℕ) (one : DocStream) → slice_get (stream ∷ []) k ≡ Some one → Have (HasNumber one) n → Have (HasNumber stream) n
    only zero one at has = let same : one ≡ stream = cc in subst (λ (l : DocStream). Have (HasNumber l) n) same has
    only (suc k) one at has = absurd (cc)

-- ---- OR

-- what holds of the numbers that one of the parts before a place finds
abbrev pub OneBefore : Parts → List Tree → ℕ → (ℕ → Type 0) → Type 0
OneBefore parts trees i holds = (collection : Collection) → ArePartsOf collection parts → (n : ℕ) → holds n ↔ ((k : ℕ) × (tree : Tree) × (k < i) × (slice_get trees k ≡ Some tree) × SatisfiesAt collection tree n)

pub one_marked_more : (parts : Parts) (trees : List Tree) (i count : ℕ) (holds more : ℕ → Type 0) (tree : Tree) (stream : DocStream) → i < length trees → tree ≡ get_or trees i tree → count ≡ length parts.rows → AreFound parts tree (Have (HasNumber stream)) → ((n : ℕ) → more n ↔ (holds n ⊎ (Have (HasNumber stream) n × (n < count)))) → OneBefore parts trees i holds → OneBefore parts trees (i + 1) more
one_marked_more parts trees i count holds more tree stream within is long found told before collection of n = (
  λ has. elim ((told n).0 has) [
    | inl was ↦ let (k, one, below, at, satisfied) = (before collection of n).0 was in (k, one, omega arith, at, satisfied)
    | inr (here, _) ↦ (i, tree, omega arith, slice_get_read trees (length trees) i tree refl within is, (found collection of n).0 here)
  ],
  λ (k, one, below, at, satisfied). elim (cases_lt k i) [
    | inl less ↦ (told n).1 (inl ((before collection of n).1 (k, one, less, at, satisfied)))
    | inr more_is ↦
        let here : k ≡ i = omega arith in
        let same : one ≡ tree = let e = ap (slice_get trees) here in let f = slice_get_read trees (length trees) i tree refl within is in cc in
        let there = (found collection of n).1 (subst (λ (t : Tree). SatisfiesAt collection t n) same satisfied) in
        (told n).1 (inr (there, let low = satisfied_below collection parts one n of satisfied in omega arith))
  ],
)

pub one_of_all : (parts : Parts) (trees : List Tree) (i : ℕ) (holds : ℕ → Type 0) → length trees ≤ i → OneBefore parts trees i holds → AreFound parts (asks.Or trees) holds
one_of_all parts trees i holds all before collection of n = (
  λ has.
      let (k, tree, below, at, satisfied) = (before collection of n).0 has in
      let within = slice_get_within trees k tree at in
      (satisfied_at collection (asks.Or trees) n satisfied.document satisfied.numbered).1
      ((satisfies-Or satisfied.document.tokens trees).1 (k, tree, within, get_or_from_slice_get trees k tree tree at, satisfied.satisfied)),
  λ satisfied.
      let (k, tree, within, is, holds_of) = (satisfies-Or satisfied.document.tokens trees).0 satisfied.satisfied in
      (before collection of n).1 (k, tree, omega arith, slice_get_read trees (length trees) k tree refl within (sym is), (satisfied_at collection tree n satisfied.document satisfied.numbered).1 holds_of),
)

-- ---- numbers

pub numbers_found : (parts : Parts) (query : Tree) (there : ℕ → Type 0) (numbers : List ℕ) → AreFound parts query there → AreAll there numbers → AreNumbersOf parts query numbers
numbers_found parts query there numbers found all = record {
  ascending = all.ascending;
  exact = λ collection of n. (λ has. (found collection of n).0 ((all.exact n).0 has), λ at. (all.exact n).1 ((found collection of n).1 at));
}

pub listed_found : (parts : Parts) (query : Tree) (there : ℕ → Type 0) (numbers : List ℕ) → AreNumbersOf parts query numbers → ((n : ℕ) → there n ↔ Contains numbers n) → AreFound parts query there
listed_found parts query there numbers of_it same collection of n = (λ has. (of_it.exact collection of n).0 ((same n).0 has), λ at. (same n).1 ((of_it.exact collection of n).1 at))

-- what holds of what was made, where another fact holds of it: that fact first, so that it tells what it is of
pub ok_more : {T E : Type 0} (r : Result T E) (P Q : T → Type 0) → IfOk r P → ((x : T) → P x → Q x) → IfOk r Q
ok_more r P Q is more = IfOk-weaker r P Q more is

-- where nothing satisfies the query, its numbers are none
pub nothing_found : (parts : Parts) (query : Tree) → AnswersNothing parts query → AreNumbersOf parts query []
nothing_found parts query none = record { ascending = tt; exact = λ collection of n. (λ has. absurd (contains_none n has), λ at. absurd (none collection of n at)) }

pub word_listed : (parts : Parts) (term : List ℕ) (postings : List Posting) → AreOfTerm parts term postings → AreNumbersOf parts (asks.Phrase (Some term ∷ [])) (documents_of postings)
word_listed parts term postings of_it = record { ascending = of_it.lawful.documents; exact = word_found parts term postings of_it }

-- ---- answers

pub scan_of : (opened : Opened) (query : Tree) (numbers : List ℕ) → AreNumbersOf opened.parts query numbers → (version : Version) (collection : Collection) → IsIndexOf opened version collection → IsScan collection query numbers
scan_of opened query numbers of_it version collection is = record { ascending = Ascends-rising 0 (2 ^ 32 - 1) numbers of_it.ascending; exact = of_it.exact collection is.parts }

pub scan_told : (opened : Opened) (query other : Tree) (numbers : List ℕ) → other ≡ query → AreNumbersOf opened.parts other numbers → (version : Version) (collection : Collection) → IsIndexOf opened version collection → IsScan collection query numbers
scan_told opened query other numbers same of_it = scan_of opened query numbers (subst (λ (q : Tree). AreNumbersOf opened.parts q numbers) same of_it)

pub below_count : (parts : Parts) (query : Tree) (numbers : List ℕ) → AreLawful parts → AreNumbersOf parts query numbers → All (λ number. number < length parts.rows) numbers
below_count parts query numbers lawful of_it k d within =
    let told = has_collection parts lawful in
    let number = get_or numbers k d in
    let among : Contains numbers (get_or numbers k d) = (k, within, get_or_from_slice_get numbers k (get_or numbers k d) (get_or numbers k d) (slice_get-get_or numbers k d within)) in
    satisfied_below told.collection parts query (get_or numbers k d) told.of_collection ((of_it.exact told.collection told.of_collection (get_or numbers k d)).0 among)

pub answered_alike : (opened : Opened) (version : Version) (collection : Collection) (query : Tree) (scanned answered : List ℕ) → IsIndexOf opened version collection → IsScan collection query scanned
    → ((v : Version) (c : Collection) → IsIndexOf opened v c → IsScan c query answered) → scanned ≡ answered
answered_alike opened version collection query scanned answered is scan answer = one_scan collection query scanned answered scan (answer version collection is)
