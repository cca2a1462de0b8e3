-- A merge that stops has written a front of a whole merge, if its sources are sure.
use Rattle.std.proofs.Common.{◌≡◌, ℕ, zero, suc, ◌<◌, ◌≤◌, ◌⊎◌, List, [], ◌∷◌, ◌++◌, length, map, get_or, set, All, Option, Some, None, MatchOption, inl, inr, refl, sym, ap, ap₂, subst, ◌∙◌, option_map, arith, length-set, append_assoc, string_bytes}
use Rattle.std.proofs.lemmas.Bool.{cases_eq}
use Rattle.std.proofs.lemmas.List.{append-nil, get_or-map, get_or-set_same, get_or-set_other, get_or_default, length-map, same_lists}
use Rattle.std.proofs.lemmas.List.Elements.{All-map}
use Rattle.std.proofs.lemmas.Option.{get_or_from_slice_get, slice_get_within}
use Rattle.ix_text.specs.Parts.{DictionaryEntry, Posting}
use Rattle.ix_output.specs.Sinks.{AppendsFront}
use Rattle.ix_file.specs.IndexText.{magic}
use Rattle.ix_file.specs.Sections.{FrontCoded, postings_section}
use Rattle.ix_file.specs.Told.{Told, entries_of, settled_front}
use Rattle.ix_file.specs.Writers.{sink}
use Rattle.ix_file.specs.WriterSections.{WriterSections}
use Rattle.ix_file.specs.IndexWriter.{IndexWriter}
use Rattle.ix_run.specs.Heads.{Heading}
use Rattle.ix_run.specs.Sources.{AreWhole, Giving, IsUnread, Yielding, YieldsMore, closed, entry_with}
use Rattle.ix_merge.specs.Keys.{HoldsFirst, Key, end_of, key_of}
use Rattle.ix_merge.specs.Merged.{HasMergedAll, Share}
use Rattle.ix_merge.specs.Merging.{AreApart}
use Rattle.ix_merge.specs.Turns.{HasToldSome, bare_entry, told_then}
use Rattle.ix_merge.specs.Unfinished.{HasMergedFront}
use Rattle.ix_merge.specs.declared.pending_entry.PendingEntry.{PendingEntry}
use Rattle.ix_merge.proofs.Behind.{AreBehind, IsBehind}
use Rattle.ix_merge.proofs.Closing.{front_of_longer}
use Rattle.ix_merge.proofs.Courses.{CanGoOn, Course, HasGoneOn, ahead, all_of, can_then, course_heading, course_keys, course_term, first_term, given_of, go_on, gone_now, next_now, no_course, told_now}
use Rattle.ix_merge.proofs.MergingSteps.{IsMerging}
use Rattle.ix_merge.proofs.Readings.{AreReading, Below, HasToldShares, IsReading, no_share, told_merge}
use Rattle.ix_merge.proofs.Shares.{heading_of_share}

chosen : {A : Type 0} (P : ℕ → A → Type 0) (n : ℕ) (x : A) (xs : List A) → P 0 x → ((k : ℕ) (d : A) → k < n → P (suc k) (get_or xs k d)) → (k : ℕ) (d : A) → k < suc n → P k (get_or (x ∷ xs) k d)
chosen P n x xs one rest zero d low = one
chosen P n x xs one rest (suc k) d low = rest k d (omega arith)

-- what there is for each place, as a list
choose : {A : Type 0} (P : ℕ → A → Type 0) (n : ℕ) → ((k : ℕ) → k < n → (x : A) × P k x) → (xs : List A) × (length xs ≡ n) × ((k : ℕ) (d : A) → k < n → P k (get_or xs k d))
choose P zero some = ([], refl, λ k d low. absurd (omega arith))
choose P (suc n) some =
    let one = some 0 (omega arith) in
    let rest = choose (λ k. P (suc k)) n (λ k low. some (suc k) (omega arith)) in
    (one.0 ∷ rest.0, ap suc rest.1, chosen P n one.0 rest.0 one.1 rest.2)

module _ {S : Type 0} (heading : S → Heading) (current : S → Option (List ℕ)) (yields : Yielding S) (gives : Giving S)
    (wholly : (source : S) (finished : List DictionaryEntry) (at_hand : Option DictionaryEntry) (postings : List Posting) (entries : List DictionaryEntry)
    → gives source finished at_hand → yields source postings entries → AreWhole (heading source) (closed finished at_hand postings ++ entries))
    (sure : S → Type 0) (sure_yields : (source : S) (finished : List DictionaryEntry) (at_hand : Option DictionaryEntry) → gives source finished at_hand → sure source → YieldsMore yields source) where
  -- A source that gave a share, and may yield the rest of the course.
  record IsCourse (begun now : S) (share : Share) (course : Course) : Type 0 where
    shared : given_of course ≡ share
    headed : course.heading ≡ heading now
    term : course_term course ≡ current now
    yielded : yields begun [] (course.given ++ course.left)
    whole : AreWhole course.heading (course.given ++ course.left)

  is_course : (begun now : S) (share : Share) (left : List DictionaryEntry) → IsReading heading current yields gives begun now share → IsUnread gives begun → first_term left ≡ current now → yields begun [] (share.entries ++ left)
      → IsCourse begun now share (record { heading = share.heading; given = share.entries; left = left })
  is_course begun now share left is unread term yielded = record {
    shared = refl;
    headed = is.headed ∙ sym is.same;
    term = term;
    yielded = yielded;
    whole = subst (λ (h : Heading). AreWhole h (share.entries ++ left)) (sym is.headed) (wholly begun [] None [] (share.entries ++ left) unread yielded);
  }

  abbrev Ahead : S → S → Share → Option (List ℕ) → Type 0
  Ahead begun now share o = MatchOption o (yields begun [] share.entries)
      (λ term. (postings : List Posting) (entries : List DictionaryEntry) → yields now postings entries → yields begun [] (share.entries ++ entry_with term postings ∷ entries))

  some_course : (begun now : S) (share : Share) → IsReading heading current yields gives begun now share → IsUnread gives begun → sure now → (course : Course) × IsCourse begun now share course
  some_course begun now share is unread is_sure = by (current now) refl
    where
      by : (o : Option (List ℕ)) → current now ≡ o → (course : Course) × IsCourse begun now share course
      by None none = (
        record { heading = share.heading; given = share.entries; left = [] },
        is_course begun now share [] is unread (sym none) (subst (yields begun []) (sym (append-nil share.entries)) (subst (Ahead begun now share) none is.yielded)),
      )
      by (Some term) some =
          let more = sure_yields now share.entries (bare_entry (current now)) is.gives_these is_sure in (
            record { heading = share.heading; given = share.entries; left = entry_with term more.postings ∷ more.entries },
            is_course begun now share (entry_with term more.postings ∷ more.entries) is unread (sym some) (subst (Ahead begun now share) some is.yielded more.postings more.entries more.yielded),
          )

  module _ (begun now : List S) (shares : List Share) (reading : AreReading heading current yields gives begun now shares) (source : S) where
    -- so of each source
    record AreCourses (courses : List Course) : Type 0 where
      as_many : length courses ≡ length begun
      each : (place : ℕ) (course : Course) → place < length begun → IsCourse (get_or begun place source) (get_or now place source) (get_or shares place no_share) (get_or courses place course)

    some_courses : All (IsUnread gives) begun → All sure now → (courses : List Course) × AreCourses courses
    some_courses unread are_sure =
        let P : ℕ → Course → Type 0 = λ k course. IsCourse (get_or begun k source) (get_or now k source) (get_or shares k no_share) course in
        let all = choose P (length begun) (λ k low. some_course (get_or begun k source) (get_or now k source) (get_or shares k no_share) (reading.each k source no_share low) (unread k source low) (are_sure k source (omega (arith, low, reading.as_many)))) in
        (all.0, record { as_many = all.1; each = all.2 })

    module _ (courses : List Course) (are : AreCourses courses) where
      -- with another course of one source
      with_course : (place : ℕ) (course : Course) → place < length begun → IsCourse (get_or begun place source) (get_or now place source) (get_or shares place no_share) course → AreCourses (set courses place course)
      with_course place course within is = record {
        as_many = length-set courses place course ∙ are.as_many;
        each = λ k d low. elim (cases_eq k place) [
          | inl same ↦
              let P : ℕ → Type 0 = λ n. IsCourse (get_or begun n source) (get_or now n source) (get_or shares n no_share) (get_or (set courses place course) n d) in
              let e : get_or (set courses place course) place d ≡ course = get_or-set_same courses place course d (omega (arith, are.as_many)) in
              subst P (sym same) (rw e is)
          | inr other ↦
              let e : get_or (set courses place course) k d ≡ get_or courses k d = get_or-set_other courses place k course d other in
              rw e (are.each k d low)
        ];
      }

      -- the heading of each course is the one that the source began with
      headed : (k : ℕ) (d : Heading) → k < length begun → (get_or courses k no_course).heading ≡ get_or (map heading begun) k d
      headed k d low = (are.each k no_course low).headed ∙ (reading.each k source no_share low).same ∙ sym (get_or-map heading begun k source d low)

      same_keys : course_keys courses ≡ map (key_of heading current) now
      same_keys =
          let key : Course → Option Key = key_of course_heading course_term in
          same_lists (course_keys courses) (map (key_of heading current) now) (length-map courses key ∙ are.as_many ∙ sym (length-map now (key_of heading current) ∙ reading.as_many))
          (λ k d low.
          let within : k < length begun = omega (arith, low, length-map courses key, are.as_many) in
          let is = are.each k no_course within in
          get_or-map key courses k no_course d (omega (arith, within, are.as_many))
          ∙ ap₂ (λ (h : Heading) (o : Option (List ℕ)). option_map (λ (t : List ℕ). let one : Key = record { term = t; end = end_of h } in one) o) is.headed is.term
          ∙ sym (get_or-map (key_of heading current) now k source d (omega (arith, within, reading.as_many))))

      can_go : (told : Told) (last : List ℕ) (next : ℕ) → HasToldShares shares told last next → AreBehind heading current last next now → AreApart (map heading begun) → CanGoOn courses told last next
      can_go told last next has behind apart = record {
        has = subst (λ (ss : List Share). HasToldShares ss told last next) (sym same_shares) has;
        behind = λ k course low.
            let within : k < length begun = omega (arith, low, are.as_many) in
            let is = are.each k course within in
            let P : Heading → Option (List ℕ) → Type 0 = λ h o. MatchOption o (Unit {0}) (λ t. Below last t ⊎ ((last ≡ t) × (next ≤ h.first))) in
            let b : IsBehind heading current last next (get_or now k source) = behind k source (omega (arith, within, reading.as_many)) in
            subst (P (get_or courses k course).heading) (sym is.term) (subst (λ (h : Heading). P h (current (get_or now k source))) (sym is.headed) b);
        apart = subst AreApart (sym same_headings) apart;
        whole = λ k course low. (are.each k course (omega (arith, low, are.as_many))).whole;
      }
        where
          same_shares : map given_of courses ≡ shares
          same_shares = same_lists (map given_of courses) shares (length-map courses given_of ∙ are.as_many ∙ sym reading.shared)
              (λ k d low.
              let within : k < length begun = omega (arith, low, length-map courses given_of, are.as_many) in
              get_or-map given_of courses k no_course d (omega (arith, within, are.as_many)) ∙ (are.each k no_course within).shared ∙ get_or_default shares k no_share d (omega (arith, within, reading.shared)))

          same_headings : map course_heading courses ≡ map heading begun
          same_headings = same_lists (map course_heading courses) (map heading begun) (length-map courses course_heading ∙ are.as_many ∙ sym (length-map begun heading))
              (λ k d low.
              let within : k < length begun = omega (arith, low, length-map courses course_heading, are.as_many) in
              get_or-map course_heading courses k no_course d (omega (arith, within, are.as_many)) ∙ headed k d within)

      module _ (told : Told) (gone : HasGoneOn courses told) where
        all_merged : HasMergedAll yields heading begun (entries_of gone.now)
        all_merged = record {
          shares = map all_of courses;
          are = record {
            headed = same_lists (map heading_of_share (map all_of courses)) (map heading begun) (length-map (map all_of courses) heading_of_share ∙ length-map courses all_of ∙ are.as_many ∙ sym (length-map begun heading))
                (λ k d low.
                let within : k < length begun = omega (arith, low, length-map (map all_of courses) heading_of_share, length-map courses all_of, are.as_many) in
                get_or-map heading_of_share (map all_of courses) k (all_of no_course) d (omega (arith, within, length-map courses all_of, are.as_many))
                ∙ ap heading_of_share (get_or-map all_of courses k no_course (all_of no_course) (omega (arith, within, are.as_many))) ∙ headed k d within);
            whole = All-map (λ (share : Share). AreWhole share.heading share.entries) all_of courses (λ k course low. (are.each k course (omega (arith, low, are.as_many))).whole);
          };
          yielded = λ place one share at at'.
              let within = slice_get_within begun place one at in
              let is = are.each place no_course within in
              let e : get_or begun place source ≡ one = get_or_from_slice_get begun place one source at in
              let f : all_of (get_or courses place no_course) ≡ share =
              sym (get_or-map all_of courses place no_course share (omega (arith, within, are.as_many))) ∙ get_or_from_slice_get (map all_of courses) place share share at' in
              let R : Share → Type 0 = λ s. yields one [] s.entries in
              subst R f (subst (λ (s : S). yields s [] ((get_or courses place no_course).given ++ (get_or courses place no_course).left)) e is.yielded);
          merge = told_merge (map all_of courses) gone.now gone.last gone.next gone.has;
        }

        merged_front : (before after : Option (List ℕ)) → AppendsFront before after (settled_front told) → HasMergedFront yields heading begun before after
        merged_front before after front = record {
          entries = entries_of gone.now;
          all = all_merged;
          gained =
              subst (AppendsFront before after)
              (append_assoc (magic FrontCoded) (postings_section (entries_of told)) gone.more ∙ ap (λ (bytes : List ℕ). magic FrontCoded ++ bytes) (sym gone.behind))
              (front_of_longer before after (settled_front told) gone.more front);
        }

  -- ---- a turn fails

  pub unfinished : {W : Type 0} (contents : W → Option (List ℕ)) (begun now : List S) (before : Option (List ℕ)) (told_first : Told) (writer : IndexWriter W WriterSections) (hand : PendingEntry)
      (merging : IsMerging heading current yields gives contents begun now before told_first writer hand) → AreBehind heading current (string_bytes hand.term) hand.end now → All (IsUnread gives) begun → AreApart (map heading begun)
      → All sure now → (place : ℕ) (source : S) → place < length now → get_or now place source ≡ source → HoldsFirst (map (key_of heading current) now) place → (after : IndexWriter W WriterSections)
      → HasToldSome heading current yields sure contents before source (get_or merging.shares place no_share).entries merging.told (string_bytes hand.term) hand.end after
      → HasMergedFront yields heading begun before (contents (sink after))
  unfinished contents begun now before told_first writer hand merging behind unread apart are_sure place source within here first after (inl front) =
      let reading = merging.reading in
      let some = some_courses begun now merging.shares reading source unread are_sure in
      let can = can_go begun now merging.shares reading source some.0 some.1 merging.told (string_bytes hand.term) hand.end merging.has behind apart in
      merged_front begun now merging.shares reading source some.0 some.1 merging.told (go_on some.0 merging.told (string_bytes hand.term) hand.end can) before (contents (sink after)) front
  unfinished contents begun now before told_first writer hand merging behind unread apart are_sure place source within here first after (inr told) =
      let reading = merging.reading in
      let last : List ℕ = string_bytes hand.term in
      let share : Share = get_or merging.shares place no_share in
      let gave = told.0 in
      let more = told.1 (subst sure here (are_sure place source within)) in
      let low : place < length begun = omega (arith, within, reading.as_many) in
      let reads : IsReading heading current yields gives (get_or begun place source) source share =
      subst (λ (s : S). IsReading heading current yields gives (get_or begun place source) s share) here (reading.each place source no_share low) in
      let entry : DictionaryEntry = entry_with gave.term gave.postings in
      let course : Course = record { heading = share.heading; given = share.entries; left = entry ∷ more.entries } in
      let is : IsCourse (get_or begun place source) source share course =
      is_course (get_or begun place source) source share (entry ∷ more.entries) reads (unread place source low) (sym gave.is) (subst (Ahead (get_or begun place source) source share) gave.is reads.yielded gave.postings more.entries more.yielded) in
      let some = some_courses begun now merging.shares reading source unread are_sure in
      let courses : List Course = set some.0 place course in
      let are = with_course begun now merging.shares reading source some.0 some.1 place course low (subst (λ (s : S). IsCourse (get_or begun place source) s share course) (sym here) is) in
      let can = can_go begun now merging.shares reading source courses are merging.told last hand.end merging.has behind apart in
      let first' = subst (λ (keys : List (Option Key)). HoldsFirst keys place) (sym (same_keys begun now merging.shares reading source courses are)) first in
      let here' : get_or courses place course ≡ course = get_or-set_same some.0 place course course (omega (arith, low, some.1.as_many)) in
      let then : CanGoOn (set courses place (ahead courses merging.told last hand.end can place first' course here' entry more.entries refl)) (told_now courses merging.told last hand.end can place first' course here' entry more.entries refl gave.begun gave.from gave.begins) gave.term (next_now courses merging.told last hand.end can place first' course here' entry more.entries refl gave.begun gave.from gave.begins) =
      can_then courses merging.told last hand.end can place first' course here' entry more.entries refl gave.begun gave.from gave.begins in
      let gone = gone_now courses merging.told last hand.end can place first' course here' entry more.entries refl gave.begun gave.from gave.begins (go_on _ _ _ _ then) in
      merged_front begun now merging.shares reading source courses are (told_then gave.begun share.heading.first gave.postings) gone before (contents (sink after))
      (subst (λ (h : Heading). AppendsFront before (contents (sink after)) (settled_front (told_then gave.begun h.first gave.postings))) (sym (reads.headed ∙ sym reads.same)) told.2)
