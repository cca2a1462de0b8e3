-- What is left of sources can be merged behind what was told: so that begins what is told of all.
use Rattle.std.proofs.Common.{◌≡◌, ℕ, zero, suc, ◌+◌, ◌<◌, ◌≤◌, ◌⊎◌, ⊎_elim, List, [], ◌∷◌, ◌++◌, length, map, get_or, set, All, Contains, Option, Some, None, IsSome, MatchOption, Ordering, Less, Equal, Greater, inl, inr, refl, sym, ap, subst, ◌∙◌, option_map, arith, length-append, append_assoc}
use Rattle.std.proofs.Math.Seq.{map-set_same}
use Rattle.std.proofs.lemmas.Bool.{cases_lt}
use Rattle.std.proofs.lemmas.List.{append-nil, get_or-map, get_or_default, get_or_past, length-map, map-append, map-set, same_lists}
use Rattle.std.proofs.lemmas.List.Elements.{All-contains, All-set, Contains-append_right}
use Rattle.std.proofs.lemmas.List.Sums.{sum_by-set}
use Rattle.std.proofs.lemmas.Option.{same_Some}
use Rattle.std.specs.Cmp.Lexicographic.{slice_cmp}
use Rattle.std.specs.List.{sum_by}
use Rattle.std.specs.Ordering.{nat_cmp}
use Rattle.ix_file.proofs.AscendingLemmas.{ascending_front, ascending_last}
use Rattle.ix_file.proofs.Gaps.{length-Ascends}
use Rattle.ix_file.specs.Gaps.{next_after}
use Rattle.ix_file.specs.Postings.{documents_of, shifted}
use Rattle.ix_file.specs.Sections.{postings_section}
use Rattle.ix_file.specs.Told.{Told, entries_of, with_term}
use Rattle.ix_run.specs.Heads.{Heading, parts_with}
use Rattle.ix_run.specs.Sources.{AreWhole}
use Rattle.ix_merge.specs.Keys.{ComesFirst, HoldsFirst, IsUpTo, Key, end_of, key_at, key_of}
use Rattle.ix_merge.specs.Merged.{Share}
use Rattle.ix_merge.specs.Merging.{AreApart}
use Rattle.ix_merge.specs.Turns.{Begins, told_then}
use Rattle.ix_merge.proofs.Behind.{AreBehind, IsBehind, behind_more}
use Rattle.ix_merge.proofs.KeyOrder.{below_turned, first_further, first_itself}
use Rattle.ix_merge.proofs.Laying.{contains_now}
use Rattle.ix_merge.proofs.Readings.{Below, HasToldShares, ends_low, last_pushed, not_below_itself, told_grown, told_more}
use Rattle.ix_merge.proofs.ShiftedLists.{IsListUnder, list_under}
use Rattle.ix_text.proofs.StopSetLemmas.{same_from_Equal}
use Rattle.ix_text.specs.ByteOrder.{IsAscending}
use Rattle.ix_text.specs.Parts.{DictionaryEntry, Posting, terms_of}
use Rattle.ix_text.specs.PartsLaws.{IsLawfulTerm}

-- ---- the first key

first_of_two : (one other : Option Key) → ComesFirst one other ⊎ ComesFirst other one
first_of_two one None = inl tt
first_of_two None (Some other) = inr tt
first_of_two (Some one) (Some other) = by (slice_cmp nat_cmp one.term other.term) refl
  where
    by : (o : Ordering) → slice_cmp nat_cmp one.term other.term ≡ o → IsUpTo one other ⊎ IsUpTo other one
    by Less is = inl (inl is)
    by Greater is = inr (inl (below_turned one.term other.term is))
    by Equal is =
        let same = same_from_Equal one.term other.term is in
        elim (cases_lt one.end other.end) [
          | inl low ↦ inl (inr (same, omega arith))
          | inr high ↦ inr (inr (sym same, high))
        ]

some_if_first : (one other : Option Key) → IsSome other → ComesFirst one other → IsSome one
some_if_first one None some first = absurd cc
some_if_first None (Some other) some first = absurd first
some_if_first (Some one) (Some other) some first = refl

-- some place has the least key, or none has one
pub find_first : (keys : List (Option Key)) → ((place : ℕ) × HoldsFirst keys place) ⊎ ((place : ℕ) → key_at keys place ≡ None)
find_first [] = inr (λ place. get_or_past [] place None (omega arith))
find_first (key ∷ keys) = ⊎_elim
    (λ some. ⊎_elim (λ first. inl (0, here some.0 some.1 first)) (λ first. inl (suc some.0, later some.0 some.1 first)) (first_of_two key (key_at keys some.0)))
    (λ none. alone none key refl)
    (find_first keys)
  where
    here : (place : ℕ) → HoldsFirst keys place → ComesFirst key (key_at keys place) → HoldsFirst (key ∷ keys) 0
    here place is first = record { within = omega arith; there = some_if_first key (key_at keys place) is.there first; first = at }
      where
        at : (other : ℕ) → other < length (key ∷ keys) → ComesFirst key (key_at (key ∷ keys) other)
        at zero low = first_itself key
        at (suc other) low = first_further key (key_at keys place) (key_at keys other) first (is.first other (omega arith))

    later : (place : ℕ) → HoldsFirst keys place → ComesFirst (key_at keys place) key → HoldsFirst (key ∷ keys) (suc place)
    later place is first = record { within = (let low = is.within in omega arith); there = is.there; first = at }
      where
        at : (other : ℕ) → other < length (key ∷ keys) → ComesFirst (key_at keys place) (key_at (key ∷ keys) other)
        at zero low = first
        at (suc other) low = is.first other (omega arith)

    alone : ((place : ℕ) → key_at keys place ≡ None) → (o : Option Key) → key ≡ o → ((place : ℕ) × HoldsFirst (key ∷ keys) place) ⊎ ((place : ℕ) → key_at (key ∷ keys) place ≡ None)
    alone none None is = inr at
      where
        at : (place : ℕ) → key_at (key ∷ keys) place ≡ None
        at zero = is
        at (suc place) = none place
    alone none (Some own) is = inl (0, record { within = omega arith; there = rw is refl; first = at })
      where
        at : (other : ℕ) → other < length (key ∷ keys) → ComesFirst key (key_at (key ∷ keys) other)
        at zero low = first_itself key
        at (suc other) low = rw (none other) tt

-- ---- courses

-- A source's heading, the entries that it gave, and those that it may yield yet.
pub record Course : Type 0 where
  pub heading : Heading
  pub given : List DictionaryEntry
  pub left : List DictionaryEntry

abbrev pub course_heading : Course → Heading
course_heading course = course.heading

-- the term of the first entry, or none
abbrev pub first_term : List DictionaryEntry → Option (List ℕ)
first_term [] = None
first_term (entry ∷ entries) = Some entry.term

-- the current term
abbrev pub course_term : Course → Option (List ℕ)
course_term course = first_term course.left

-- what it gave
abbrev pub given_of : Course → Share
given_of course = record { heading = course.heading; entries = course.given }

-- and all that it gives
abbrev pub all_of : Course → Share
all_of course = record { heading = course.heading; entries = course.given ++ course.left }

abbrev pub no_course : Course
no_course = record { heading = record { first = 0; stop = []; rows = [] }; given = []; left = [] }

abbrev pub course_keys : List Course → List (Option Key)
course_keys courses = map (key_of course_heading course_term) courses

abbrev pub total_left : List Course → ℕ
total_left courses = sum_by (λ course. length course.left) courses

-- What was given is told, and what is left may be told behind it.
pub record CanGoOn (courses : List Course) (told : Told) (last : List ℕ) (next : ℕ) : Type 0 where
  pub has : HasToldShares (map given_of courses) told last next
  pub behind : AreBehind course_heading course_term last next courses
  pub apart : AreApart (map course_heading courses)
  pub whole : All (λ course. AreWhole course.heading (course.given ++ course.left)) courses

-- All is told, behind what was told before.
pub record HasGoneOn (courses : List Course) (told : Told) : Type 0 where
  pub now : Told
  pub last : List ℕ
  pub next : ℕ
  pub has : HasToldShares (map all_of courses) now last next
  pub more : List ℕ
  pub behind : postings_section (entries_of now) ≡ postings_section (entries_of told) ++ more

-- ---- one entry more

module _ (courses : List Course) (told : Told) (last : List ℕ) (next : ℕ) (can : CanGoOn courses told last next) (place : ℕ) (first : HoldsFirst (course_keys courses) place)
    (course : Course) (here : get_or courses place course ≡ course) (entry : DictionaryEntry) (entries : List DictionaryEntry) (left : course.left ≡ entry ∷ entries) where
  within : place < length courses
  within = omega (arith, first.within, length-map courses (key_of course_heading course_term))

  -- then its entry is given
  abbrev pub ahead : Course
  ahead = record { heading = course.heading; given = course.given ++ entry ∷ []; left = entries }

  whole : AreWhole course.heading (course.given ++ entry ∷ entries)
  whole = subst (λ (es : List DictionaryEntry). AreWhole course.heading (course.given ++ es)) left (subst (λ (c : Course). AreWhole c.heading (c.given ++ c.left)) here (can.whole place course within))

  among : Contains (course.given ++ entry ∷ entries) entry
  among = Contains-append_right course.given (entry ∷ entries) entry (contains_now entry entries)

  under : IsListUnder course.heading entry.postings
  under = list_under course.heading (course.given ++ entry ∷ entries) entry whole among

  some_term : 0 < length entry.term
  some_term = (All-contains (IsLawfulTerm (parts_with course.heading (course.given ++ entry ∷ entries))) (course.given ++ entry ∷ entries) entry whole.lawful.terms among).term.some_byte

  term : course_term course ≡ Some entry.term
  term = ap first_term left

  pub follows : Below last entry.term ⊎ ((last ≡ entry.term) × (next ≤ course.heading.first))
  follows =
      let Q : Option (List ℕ) → Type 0 = λ o. MatchOption o (Unit {0}) (λ t. Below last t ⊎ ((last ≡ t) × (next ≤ course.heading.first))) in
      subst Q term (subst (IsBehind course_heading course_term last next) here (can.behind place course within))

  share_here : get_or (map given_of courses) place (given_of course) ≡ given_of course
  share_here = get_or-map given_of courses place course (given_of course) within ∙ ap given_of here

  shared : place < length (map given_of courses)
  shared = omega (arith, within, length-map courses given_of)

  -- the next entry's term is above
  above : (rest : List DictionaryEntry) (next_term : List ℕ) → entries ≡ rest → first_term rest ≡ Some next_term → Below entry.term next_term
  above [] next_term is at = absurd cc
  above (second ∷ rest) next_term is at =
      let term_of : DictionaryEntry → List ℕ = λ e. e.term in
      let before : List (List ℕ) = terms_of course.given in
      let up : IsAscending (before ++ entry.term ∷ second.term ∷ terms_of rest) =
      subst IsAscending (ap (λ (es : List DictionaryEntry). terms_of (course.given ++ entry ∷ es)) is ∙ map-append term_of course.given (entry ∷ second ∷ rest)) whole.lawful.ascending in
      let e : ((before ++ entry.term ∷ []) ++ second.term ∷ []) ++ terms_of rest ≡ before ++ entry.term ∷ second.term ∷ terms_of rest =
      append_assoc (before ++ entry.term ∷ []) (second.term ∷ []) (terms_of rest) ∙ append_assoc before (entry.term ∷ []) (second.term ∷ terms_of rest) in
      let less = ascending_last (before ++ entry.term ∷ []) second.term (ascending_front ((before ++ entry.term ∷ []) ++ second.term ∷ []) (terms_of rest) (subst IsAscending (sym e) up)) (omega (arith, length-append before (entry.term ∷ []))) in
      subst (Below entry.term) (same_Some second.term next_term at) (subst (λ (t : List ℕ). Below t second.term) (last_pushed before entry.term) less)

  some_row : course.heading.first < end_of course.heading
  some_row =
      let up = length-Ascends 0 (length course.heading.rows) (documents_of entry.postings) (omega arith) under.documents in
      let s = under.some in
      let f = length-map entry.postings (λ (p : Posting). p.0) in
      omega arith

  pub less_left : total_left (set courses place ahead) < total_left courses
  less_left =
      let weigh : Course → ℕ = λ c. length c.left in
      let a : sum_by weigh (set courses place ahead) + weigh (get_or courses place course) ≡ sum_by weigh courses + weigh ahead = sum_by-set weigh courses place ahead course within in
      let b : weigh (get_or courses place course) ≡ weigh course = ap weigh here in
      let c : length course.left ≡ length (entry ∷ entries) = ap length left in
      omega (arith, a, b, c)

  module _ (begun : Told) (from : ℕ) (begins : Begins told last next entry.term begun from) where
    abbrev pub told_now : Told
    told_now = told_then begun course.heading.first entry.postings

    abbrev pub next_now : ℕ
    next_now = next_after from (documents_of (shifted course.heading.first entry.postings))

    pub can_then : CanGoOn (set courses place ahead) told_now entry.term next_now
    can_then = record {
      has =
          subst (λ (shares : List Share). HasToldShares shares told_now entry.term next_now) (sym (map-set given_of courses place ahead))
          (told_more (map given_of courses) place (given_of course) shared share_here told last next can.has entry.term follows some_term entry.postings begun from begins under);
      behind =
          behind_more course_heading course_term courses place course ahead entry.term next_now first can.apart here term some_row
          (ends_low (map given_of courses) place (given_of course) shared share_here told last next can.has entry.term follows some_term entry.postings begun from begins under)
          (λ next_term at. above entries next_term refl at);
      apart = subst AreApart (sym (map-set_same course_heading courses place ahead course (sym (ap course_heading here)))) can.apart;
      whole =
          All-set (λ (c : Course). AreWhole c.heading (c.given ++ c.left)) courses place ahead
          (subst (AreWhole course.heading) (sym (append_assoc course.given (entry ∷ []) entries)) whole) can.whole;
    }

    same_all : map all_of (set courses place ahead) ≡ map all_of courses
    same_all =
        let with : List DictionaryEntry → Share = λ es. record { heading = course.heading; entries = es } in
        map-set_same all_of courses place ahead course
        (ap with (append_assoc course.given (entry ∷ []) entries ∙ ap (λ (es : List DictionaryEntry). course.given ++ es) (sym left)) ∙ sym (ap all_of here))

    -- with it all is told, too
    pub gone_now : HasGoneOn (set courses place ahead) told_now → HasGoneOn courses told_now
    gone_now gone = record {
      now = gone.now;
      last = gone.last;
      next = gone.next;
      has = subst (λ (shares : List Share). HasToldShares shares gone.now gone.last gone.next) same_all gone.has;
      more = gone.more;
      behind = gone.behind;
    }

    gone_before : HasGoneOn courses told_now → HasGoneOn courses told
    gone_before gone =
        let grown = told_grown (map given_of courses) place (given_of course) shared share_here told last next can.has entry.term follows some_term entry.postings begun from begins under in
        record {
          now = gone.now;
          last = gone.last;
          next = gone.next;
          has = gone.has;
          more = grown.0 ++ gone.more;
          behind =
              gone.behind ∙ ap (λ (bytes : List ℕ). bytes ++ gone.more) grown.2
              ∙ append_assoc (postings_section (entries_of told)) grown.0 gone.more;
        }

    pub gone_on : HasGoneOn (set courses place ahead) told_now → HasGoneOn courses told
    gone_on gone = gone_before (gone_now gone)

-- ---- all entries

-- with the first entry left
record HasEntry (course : Course) : Type 0 where
  entry : DictionaryEntry
  entries : List DictionaryEntry
  is : course.left ≡ entry ∷ entries

has_entry : (course : Course) → IsSome (key_of course_heading course_term course) → HasEntry course
has_entry course some = by course.left refl
  where
    by : (es : List DictionaryEntry) → course.left ≡ es → HasEntry course
    by [] is =
        let none : key_of course_heading course_term course ≡ None = ap (λ (es : List DictionaryEntry). option_map (λ (t : List ℕ). let key : Key = record { term = t; end = end_of course.heading } in key) (first_term es)) is in
        let off = subst IsSome none some in absurd cc
    by (entry ∷ entries) is = record { entry = entry; entries = entries; is = is }

none_there : (course : Course) → key_of course_heading course_term course ≡ None → course.left ≡ []
none_there course none = by course.left refl
  where
    by : (es : List DictionaryEntry) → course.left ≡ es → es ≡ []
    by [] is = refl
    by (entry ∷ entries) is =
        let some : key_of course_heading course_term course ≡ Some (record { term = entry.term; end = end_of course.heading }) = ap (λ (es : List DictionaryEntry). option_map (λ (t : List ℕ). let key : Key = record { term = t; end = end_of course.heading } in key) (first_term es)) is in
        absurd cc

-- the entry's term is begun, unless it is the last one
record CanBegin (told : Told) (last : List ℕ) (next : ℕ) (term : List ℕ) : Type 0 where
  begun : Told
  from : ℕ
  begins : Begins told last next term begun from

can_begin : (told : Told) (last : List ℕ) (next : ℕ) (term : List ℕ) (low : ℕ) → Below last term ⊎ ((last ≡ term) × (next ≤ low)) → CanBegin told last next term
can_begin told last next word low (inl below) = record {
  begun = with_term told word;
  from = 0;
  begins = record { is = inr (λ same. not_below_itself word (subst (λ (t : List ℕ). Below t word) same below), refl, refl) };
}
can_begin told last next word low (inr same) = record { begun = told; from = next; begins = record { is = inl (same.0, refl, refl) } }

-- nothing is left
all_gone : (courses : List Course) (told : Told) (last : List ℕ) (next : ℕ) → CanGoOn courses told last next → ((place : ℕ) → key_at (course_keys courses) place ≡ None) → HasGoneOn courses told
all_gone courses told last next can none = record {
  now = told;
  last = last;
  next = next;
  has = subst (λ (shares : List Share). HasToldShares shares told last next) same can.has;
  more = [];
  behind = sym (append-nil (postings_section (entries_of told)));
}
  where
    same : map given_of courses ≡ map all_of courses
    same = same_lists (map given_of courses) (map all_of courses) (length-map courses given_of ∙ sym (length-map courses all_of))
        (λ k d low.
        let within : k < length courses = omega (arith, low, length-map courses given_of) in
        let course = get_or courses k no_course in
        let with : List DictionaryEntry → Share = λ es. record { heading = course.heading; entries = es } in
        let e : course.left ≡ [] = none_there course (sym (get_or-map (key_of course_heading course_term) courses k no_course None within) ∙ none k) in
        get_or-map given_of courses k no_course d within
        ∙ ap with (sym (append-nil course.given) ∙ ap (λ (es : List DictionaryEntry). course.given ++ es) (sym e))
        ∙ sym (get_or-map all_of courses k no_course d within))

-- one entry more is given, and all is told if all is told behind it
record Step (courses : List Course) (told : Told) : Type 0 where
  then : List Course
  now : Told
  last : List ℕ
  next : ℕ
  can : CanGoOn then now last next
  less : total_left then < total_left courses
  gone : HasGoneOn then now → HasGoneOn courses told

step : (courses : List Course) (told : Told) (last : List ℕ) (next : ℕ) → CanGoOn courses told last next → (place : ℕ) → HoldsFirst (course_keys courses) place → Step courses told
step courses told last next can place first =
    let within : place < length courses = omega (arith, first.within, length-map courses (key_of course_heading course_term)) in
    let course = get_or courses place no_course in
    let here : get_or courses place course ≡ course = get_or_default courses place course no_course within in
    let has = has_entry course (subst IsSome (get_or-map (key_of course_heading course_term) courses place no_course None within) first.there) in
    let begin = can_begin told last next has.entry.term course.heading.first (follows courses told last next can place first course here has.entry has.entries has.is) in
    record {
      then = set courses place (ahead courses told last next can place first course here has.entry has.entries has.is);
      now = told_now courses told last next can place first course here has.entry has.entries has.is begin.begun begin.from begin.begins;
      last = has.entry.term;
      next = next_now courses told last next can place first course here has.entry has.entries has.is begin.begun begin.from begin.begins;
      can = can_then courses told last next can place first course here has.entry has.entries has.is begin.begun begin.from begin.begins;
      less = less_left courses told last next can place first course here has.entry has.entries has.is;
      gone = gone_on courses told last next can place first course here has.entry has.entries has.is begin.begun begin.from begin.begins;
    }

go_on_by : (fuel : ℕ) (courses : List Course) (told : Told) (last : List ℕ) (next : ℕ) → total_left courses ≤ fuel → CanGoOn courses told last next → HasGoneOn courses told
go_on_by zero courses told last next few can = ⊎_elim
    (λ some. let less = (step courses told last next can some.0 some.1).less in absurd (omega (arith, few, less)))
    (λ none. all_gone courses told last next can none)
    (find_first (course_keys courses))
go_on_by (suc fuel) courses told last next few can = ⊎_elim
    (λ some.
    let one = step courses told last next can some.0 some.1 in
    let less = one.less in
    one.gone (go_on_by fuel one.then one.now one.last one.next (omega (arith, few, less)) one.can))
    (λ none. all_gone courses told last next can none)
    (find_first (course_keys courses))

-- what was told begins what is told of all
pub go_on : (courses : List Course) (told : Told) (last : List ℕ) (next : ℕ) → CanGoOn courses told last next → HasGoneOn courses told
go_on courses told last next can = go_on_by (total_left courses) courses told last next (omega arith) can
