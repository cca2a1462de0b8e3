-- The merging of terms, turn by turn.
use Rattle.std.proofs.Common.{◌≡◌, ℕ, ◌+◌, ◌*◌, ◌-◌, ◌^◌, ◌<◌, ◌≤◌, ◌⊎◌, ⊎_elim, List, [], ◌∷◌, ◌++◌, length, map, get_or, set, All, Option, Some, None, MatchOption, inl, inr, refl, sym, ap, ap₂, subst, ◌∙◌, string_bytes, arith}
use Rattle.std.proofs.Math.Seq.{map-set_same}
use Rattle.std.proofs.lemmas.List.{get_or-map, get_or_default, length-map}
use Rattle.std.proofs.lemmas.List.Elements.{All-cons, All-contains, All-head, All-nil, All-set, All-tail, Contains-push}
use Rattle.std.proofs.lemmas.List.Sums.{sum_by-cons}
use Rattle.std.specs.List.{sum_by}
use Rattle.std.specs.Option.{option_to_list}
use Rattle.ix_file.specs.Gaps.{next_after}
use Rattle.ix_file.specs.Postings.{ArePostings, documents_of}
use Rattle.ix_file.proofs.Gaps.{length-Ascends}
use Rattle.ix_text.specs.Parts.{DictionaryEntry, Posting}
use Rattle.ix_text.specs.PartsLaws.{IsLawfulTerm}
use Rattle.ix_output.specs.Sinks.{AppendsFront}
use Rattle.ix_text.proofs.AscendingLists.{contained_from_map}
use Rattle.ix_file.specs.Sections.{postings_section}
use Rattle.ix_file.specs.Told.{Told, entries_of, position_total, settled_front}
use Rattle.ix_file.specs.Writers.{WasTold, sink}
use Rattle.ix_file.specs.WriterSections.{WriterSections}
use Rattle.ix_file.specs.IndexWriter.{IndexWriter}
use Rattle.ix_file.proofs.AscendingLemmas.{ascending_none}
use Rattle.ix_file.proofs.EndingLemmas.{front_of_spelled}
use Rattle.ix_run.specs.Heads.{Heading, parts_with}
use Rattle.ix_run.specs.Sources.{AreWhole, Giving, IsLawfulFront, IsUnread, Yielding, entry_with}
use Rattle.ix_merge.specs.Gathered.{HasGathered, IsNewEntry}
use Rattle.ix_merge.specs.Keys.{end_of, key_of}
use Rattle.ix_merge.specs.Merged.{HasMergedSome, HasUnder, Share, SomeShareHas}
use Rattle.ix_merge.specs.Merging.{AreApart, TellsAll}
use Rattle.ix_merge.specs.Rows.{tokens_under}
use Rattle.ix_file.specs.Postings.{shifted}
use Rattle.ix_merge.specs.Starting.{HasStarted, HaveStarted}
use Rattle.ix_merge.specs.Turns.{GivesEntry, HasToldSome, HasTurned, MayTurn, told_then}
use Rattle.ix_merge.specs.Unfinished.{HasMergedFront}
use Rattle.ix_merge.specs.declared.pending_entry.PendingEntry.{PendingEntry}
use Rattle.ix_merge.proofs.Behind.{AreBehind, behind_more, may_turn, next_above}
use Rattle.ix_merge.proofs.GatheredLists.{gathered_bytes, gathered_none}
use Rattle.ix_merge.proofs.MergedMore.{AreMerged}
use Rattle.ix_merge.specs.Keys.{HoldsFirst}
use Rattle.ix_merge.proofs.Readings.{AreReading, Below, HasToldShares, IsReading, are_shares, ends_low, grown, merged_all, no_share, reading_more, reading_set, told_closable, told_longer, told_merge, told_more}
use Rattle.ix_merge.proofs.ShiftedLists.{IsListUnder, list_under}

-- ---- before the first term

-- nothing, under a heading
abbrev pub bare_share : Heading → Share
bare_share heading = record { heading = heading; entries = [] }

-- nothing is the merge of shares of nothing
no_shares : (headings : List Heading) (entries : List DictionaryEntry) → entries ≡ [] → AreMerged (map bare_share headings) entries
no_shares headings entries none = subst (AreMerged (map bare_share headings)) (sym none)
    (record {
      ascending = ascending_none;
      lists = All-nil (λ (e : DictionaryEntry). ArePostings 0 (2 ^ 32 - 1) e.postings);
      merged = λ term number position. (λ has. absurd (let low = has.among.1 in omega arith), λ some. absurd (not_there term number position some));
      counted = counted headings;
    })
  where
    not_there : (term : List ℕ) (number position : ℕ) → SomeShareHas (map bare_share headings) term number position → ⊥
    not_there term number position some =
        let from = contained_from_map bare_share headings some.share some.among in
        let has : HasUnder [] term some.place position = subst (λ (s : Share). HasUnder s.entries term some.place position) (sym from.2) some.has in
        let low = has.among.1 in
        omega arith

    counted : (hs : List Heading) → 0 ≡ sum_by (λ (share : Share). position_total share.entries) (map bare_share hs)
    counted [] = refl
    counted (h ∷ hs) =
        let step = sum_by-cons (λ (share : Share). position_total share.entries) (bare_share h) (map bare_share hs) in
        let rest = counted hs in
        omega arith

-- who told no term has no pending entry, and none before it
no_entry : (told : Told) → entries_of told ≡ [] → (told.at_hand ≡ None) × (told.done ≡ [])
no_entry told none = by told.done told.at_hand refl refl
  where
    by : (d : List DictionaryEntry) (o : Option DictionaryEntry) → told.done ≡ d → told.at_hand ≡ o → (told.at_hand ≡ None) × (told.done ≡ [])
    by [] None e f = (f, e)
    by [] (Some entry) e f = let g : ([] ++ option_to_list (Some entry)) ≡ [] = sym (ap₂ (λ (d : List DictionaryEntry) (o : Option DictionaryEntry). d ++ option_to_list o) e f) ∙ none in absurd (let l = ap length g in omega arith)
    by (x ∷ d) o e f = let g : ((x ∷ d) ++ option_to_list o) ≡ [] = sym (ap₂ (λ (d : List DictionaryEntry) (o : Option DictionaryEntry). d ++ option_to_list o) e f) ∙ none in absurd (let l = ap length g in omega arith)

told_no_shares : (headings : List Heading) (told : Told) (last : List ℕ) (next : ℕ) → entries_of told ≡ [] → last ≡ [] → HasToldShares (map bare_share headings) told last next
told_no_shares headings told last next none empty = record {
  merged = no_shares headings (entries_of told) none;
  some = subst (All (λ (e : DictionaryEntry). 0 < length e.postings)) (sym none) (All-nil (λ (e : DictionaryEntry). 0 < length e.postings));
  at_hand = rw (no_entry told none).0 empty;
  none = λ e. (no_entry told none).1;
}

-- Since nothing was asked of the sources, and the writer was told no term, they gave shares and it was told these, but
-- for what was gathered.
pub record IsMerging {S W : Type 0} (heading : S → Heading) (current : S → Option (List ℕ)) (yields : Yielding S) (gives : Giving S) (contents : W → Option (List ℕ))
    (begun now : List S) (before : Option (List ℕ)) (told_first : Told) (writer : IndexWriter W WriterSections) (hand : PendingEntry) : Type 0 where
  pub shares : List Share
  pub reading : AreReading heading current yields gives begun now shares
  pub told : Told
  pub was : HasGathered contents before writer hand told
  pub stop : told.stop ≡ told_first.stop
  pub rows : told.rows ≡ told_first.rows
  pub has : HasToldShares shares told (string_bytes hand.term) hand.end

module _ {S W : Type 0} (heading : S → Heading) (current : S → Option (List ℕ)) (yields : Yielding S) (gives : Giving S) (contents : W → Option (List ℕ))
    (lawfully : (source : S) (finished : List DictionaryEntry) (at_hand : Option DictionaryEntry) → gives source finished at_hand → IsLawfulFront (heading source) finished at_hand) where
  abbrev Merging : List S → List S → Option (List ℕ) → Told → IndexWriter W WriterSections → PendingEntry → Type 0
  Merging begun now before told_first writer hand = IsMerging heading current yields gives contents begun now before told_first writer hand

  -- an error before the first term
  pub merged_nothing : (begun : List S) (writer : IndexWriter W WriterSections) (before : Option (List ℕ)) (told : Told) → All (IsUnread gives) begun → WasTold contents before writer told → entries_of told ≡ []
      → HasMergedSome (map heading begun) before (contents (sink writer))
  merged_nothing begun writer before told unread was none = record {
    shares = map bare_share (map heading begun);
    are = record { headed = headed begun; whole = whole begun unread };
    told = entries_of told;
    merge = told_merge (map bare_share (map heading begun)) told [] 0 (told_no_shares (map heading begun) told [] 0 none refl);
    gained = front_of_spelled before (contents (sink writer)) writer.sections.pending.items (settled_front told) was.written;
  }
    where
      headed : (xs : List S) → map (λ (share : Share). share.heading) (map bare_share (map heading xs)) ≡ map heading xs
      headed [] = refl
      headed (x ∷ xs) = ap (λ (hs : List Heading). heading x ∷ hs) (headed xs)

      whole : (xs : List S) → All (IsUnread gives) xs → All (λ (share : Share). AreWhole share.heading share.entries) (map bare_share (map heading xs))
      whole [] all = All-nil (λ (share : Share). AreWhole share.heading share.entries)
      whole (x ∷ xs) all = All-cons (λ (share : Share). AreWhole share.heading share.entries) (bare_share (heading x)) (map bare_share (map heading xs))
          ((lawfully x [] None (All-head (IsUnread gives) x xs all)).whole) (whole xs (All-tail (IsUnread gives) x xs all))

  -- ---- between two turns

  pub merging_first : (begun now : List S) (before : Option (List ℕ)) (told : Told) (writer : IndexWriter W WriterSections) (hand : PendingEntry) → HaveStarted heading current yields gives begun now
      → WasTold contents before writer told → entries_of told ≡ [] → IsNewEntry hand → Merging begun now before told writer hand
  merging_first begun now before told writer hand started was none new = record {
    shares = map bare_share (map heading begun);
    reading = record {
      as_many = started.as_many;
      shared = length-map (map heading begun) bare_share ∙ length-map begun heading;
      each = λ place source share within.
          let is : HasStarted heading current yields gives (get_or begun place source) (get_or now place source) = started.each place source within in
          let there : get_or (map bare_share (map heading begun)) place share ≡ bare_share (heading (get_or begun place source)) =
          get_or-map bare_share (map heading begun) place (heading source) share (omega (arith, length-map begun heading)) ∙ ap bare_share (get_or-map heading begun place source (heading source) within) in
          subst (IsReading heading current yields gives (get_or begun place source) (get_or now place source)) (sym there)
          (record { headed = refl; same = is.same; gives_these = is.gives_none; yielded = is.yielded });
    };
    told = told;
    was = gathered_none contents before writer hand told new.nothing was;
    stop = refl;
    rows = refl;
    has = told_no_shares (map heading begun) told (string_bytes hand.term) hand.end none new.term;
  }

  -- an error between two turns, or of the next
  pub merged_some : (begun now : List S) (before : Option (List ℕ)) (told_first : Told) (writer : IndexWriter W WriterSections) (hand : PendingEntry) (after : Option (List ℕ))
      → (merging : Merging begun now before told_first writer hand) → AppendsFront before after (settled_front merging.told) → HasMergedSome (map heading begun) before after
  merged_some begun now before told_first writer hand after merging front = record {
    shares = merging.shares;
    are = are_shares heading current yields gives lawfully begun now merging.shares merging.reading;
    told = entries_of merging.told;
    merge = told_merge merging.shares merging.told (string_bytes hand.term) hand.end merging.has;
    gained = front;
  }

  -- ---- a turn

  module _ (begun now : List S) (before : Option (List ℕ)) (told_first : Told) (writer : IndexWriter W WriterSections) (hand : PendingEntry) (merging : Merging begun now before told_first writer hand)
      (behind : AreBehind heading current (string_bytes hand.term) hand.end now) (few : tokens_under (map heading begun) ≤ 2 ^ 28) (place : ℕ) (source : S) (within : place < length now) (here : get_or now place source ≡ source) where
    abbrev last : List ℕ
    last = string_bytes hand.term

    abbrev next : ℕ
    next = hand.end

    abbrev pub share_here : Share
    share_here = get_or merging.shares place no_share

    within' : place < length begun
    within' = omega (arith, merging.reading.as_many)

    there : get_or merging.shares place share_here ≡ share_here
    there = get_or_default merging.shares place share_here no_share (omega (arith, merging.reading.shared, merging.reading.as_many))

    reads : IsReading heading current yields gives (get_or begun place source) source share_here
    reads = subst (λ (s : S). IsReading heading current yields gives (get_or begun place source) s share_here) here (merging.reading.each place source no_share within')

    pub may_take : MayTurn heading current gives source share_here.entries merging.told last next
    may_take = may_turn heading current yields gives lawfully begun now merging.shares merging.told last next place source merging.reading merging.has behind few within' here share_here there

    share_headed : heading source ≡ share_here.heading
    share_headed = reads.same ∙ sym reads.headed

    follows : (term : List ℕ) → current source ≡ Some term → Below last term ⊎ ((last ≡ term) × (next ≤ share_here.heading.first))
    follows term at =
        let b = rw at at (subst (λ (s : S). MatchOption (current s) (Unit {0}) (λ t. Below last t ⊎ ((last ≡ t) × (next ≤ (heading s).first)))) here (behind place source within)) in
        subst (λ (h : Heading). Below last term ⊎ ((last ≡ term) × (next ≤ h.first))) share_headed b

    module _ (gave : GivesEntry heading current source share_here.entries merging.told last next) where
      abbrev entry : DictionaryEntry
      entry = entry_with gave.term gave.postings

      whole : AreWhole share_here.heading (share_here.entries ++ entry ∷ [])
      whole = subst (λ (h : Heading). AreWhole h (share_here.entries ++ entry ∷ [])) share_headed gave.whole

      under : IsListUnder share_here.heading gave.postings
      under = list_under share_here.heading (share_here.entries ++ entry ∷ []) entry whole (Contains-push share_here.entries entry)

      some : 0 < length gave.term
      some = (All-contains (IsLawfulTerm (parts_with share_here.heading (share_here.entries ++ entry ∷ []))) (share_here.entries ++ entry ∷ []) entry whole.lawful.terms (Contains-push share_here.entries entry)).term.some_byte

      has_told : HasToldShares (set merging.shares place (grown share_here entry)) (told_then gave.begun share_here.heading.first gave.postings) gave.term (next_after gave.from (documents_of (shifted share_here.heading.first gave.postings)))
      has_told = told_more merging.shares place share_here (omega (arith, merging.reading.shared, merging.reading.as_many, within')) there merging.told last next merging.has gave.term (follows gave.term gave.is) some gave.postings gave.begun gave.from gave.begins under

      -- a write of the turn fails
      pub merged_some_more : (after : Option (List ℕ)) → AppendsFront before after (settled_front (told_then gave.begun (heading source).first gave.postings)) → HasMergedSome (map heading begun) before after
      merged_some_more after front = record {
        shares = set merging.shares place (grown share_here entry);
        are = record {
          headed =
              map-set_same (λ (s : Share). s.heading) merging.shares place (grown share_here entry) share_here (sym (ap (λ (s : Share). s.heading) there))
              ∙ (are_shares heading current yields gives lawfully begun now merging.shares merging.reading).headed;
          whole = All-set (λ (s : Share). AreWhole s.heading s.entries) merging.shares place (grown share_here entry) whole (are_shares heading current yields gives lawfully begun now merging.shares merging.reading).whole;
        };
        told = entries_of (told_then gave.begun share_here.heading.first gave.postings);
        merge = told_merge (set merging.shares place (grown share_here entry)) (told_then gave.begun share_here.heading.first gave.postings) gave.term (next_after gave.from (documents_of (shifted share_here.heading.first gave.postings))) has_told;
        gained = subst (λ (h : Heading). AppendsFront before after (settled_front (told_then gave.begun h.first gave.postings))) share_headed front;
      }

    -- the turn fails
    pub merged_some_then : (sure : S → Type 0) (after : IndexWriter W WriterSections) → HasToldSome heading current yields sure contents before source share_here.entries merging.told last next after → HasMergedSome (map heading begun) before (contents (sink after))
    merged_some_then sure after (inl front) = merged_some begun now before told_first writer hand (contents (sink after)) merging front
    merged_some_then sure after (inr some) = merged_some_more some.0 (contents (sink after)) some.2

    -- the turn is done
    module _ (new : S) (after : IndexWriter W WriterSections) (then : PendingEntry) (same : heading new ≡ heading source)
        (turned : HasTurned heading current yields gives contents before source new share_here.entries merging.told last next after then) where
      pub merging_more : Merging begun (set now place new) before told_first after then
      merging_more = record {
        shares = set merging.shares place (grown share_here (entry turned.gave));
        reading =
            reading_set heading current yields gives lawfully begun now merging.shares merging.reading place new (grown share_here (entry turned.gave)) within'
            (λ s. reading_more heading current yields gives (get_or begun place s) source new share_here turned.gave.term turned.gave.postings
            (subst (λ (b : S). IsReading heading current yields gives b source share_here) (get_or_default begun place source s within') reads) turned.gave.is same turned.goes);
        told = told_then turned.gave.begun (heading source).first turned.gave.postings;
        was = turned.was;
        stop = kept.0 ∙ merging.stop;
        rows = kept.1 ∙ merging.rows;
        has =
            subst (λ (t : List ℕ). HasToldShares (set merging.shares place (grown share_here (entry turned.gave))) (told_then turned.gave.begun (heading source).first turned.gave.postings) t then.end) (sym turned.told_of)
            (subst (HasToldShares (set merging.shares place (grown share_here (entry turned.gave))) (told_then turned.gave.begun (heading source).first turned.gave.postings) turned.gave.term) (sym turned.told_to)
            (subst (λ (h : Heading). HasToldShares (set merging.shares place (grown share_here (entry turned.gave))) (told_then turned.gave.begun h.first turned.gave.postings) turned.gave.term (next_after turned.gave.from (documents_of (shifted h.first turned.gave.postings))))
            (sym share_headed) (has_told turned.gave)));
      }
        where
          kept : ((told_then turned.gave.begun (heading source).first turned.gave.postings).stop ≡ merging.told.stop) × ((told_then turned.gave.begun (heading source).first turned.gave.postings).rows ≡ merging.told.rows)
          kept = ⊎_elim
              (λ is. (ap (λ (t : Told). t.stop) is.1, ap (λ (t : Told). t.rows) is.1))
              (λ is. (ap (λ (t : Told). t.stop) is.1, ap (λ (t : Told). t.rows) is.1))
              turned.gave.begins.is

      -- The writer and what was gathered have more bytes of postings, of which there are few.
      pub longer : (writer.sections.postings + length hand.list.items < after.sections.postings + length then.list.items) × (after.sections.postings + length then.list.items ≤ 15 * 2 ^ 28)
      longer =
          let gave = turned.gave in
          let more = told_longer merging.shares place share_here (omega (arith, merging.reading.shared, merging.reading.as_many, within')) there merging.told last next merging.has gave.term (follows gave.term gave.is) (some gave) gave.postings gave.begun gave.from gave.begins (under gave) in
          let e = ap (λ (h : Heading). length (postings_section (entries_of (told_then gave.begun h.first gave.postings)))) share_headed in
          let a = gathered_bytes contents before writer hand merging.told merging.was in
          let b = gathered_bytes contents before after then (told_then gave.begun (heading source).first gave.postings) turned.was in
          let c = a.0 in
          let d = b.0 in
          (omega (arith, more, e, c, d), b.1)

      pub behind_then : HoldsFirst (map (key_of heading current) now) place → AreApart (map heading now) → AreBehind heading current (string_bytes then.term) then.end (set now place new)
      behind_then first apart =
          let gave = turned.gave in
          let is = under gave in
          let low : next_after gave.from (documents_of (shifted share_here.heading.first gave.postings)) ≤ end_of share_here.heading =
          ends_low merging.shares place share_here (omega (arith, merging.reading.shared, merging.reading.as_many, within')) there merging.told last next merging.has gave.term (follows gave.term gave.is) (some gave) gave.postings gave.begun gave.from gave.begins is in
          let low' : next_after gave.from (documents_of (shifted (heading source).first gave.postings)) ≤ end_of (heading source) =
          subst (λ (h : Heading). next_after gave.from (documents_of (shifted h.first gave.postings)) ≤ end_of h) (sym share_headed) low in
          let n = turned.told_to in
          subst (λ (t : List ℕ). AreBehind heading current t then.end (set now place new)) (sym turned.told_of)
          (behind_more heading current now place source new gave.term then.end first apart here gave.is (some_row gave is) (omega arith)
          (λ term at. next_above heading current yields gives lawfully new share_here.entries (entry gave) turned.goes.gives_more term at))
        where
          some_row : (gave : GivesEntry heading current source share_here.entries merging.told last next) → IsListUnder share_here.heading gave.postings → (heading source).first < end_of (heading source)
          some_row gave is =
              let up = length-Ascends 0 (length share_here.heading.rows) (documents_of gave.postings) (omega arith) is.documents in
              let s = is.some in
              let f = length-map gave.postings (λ (p : Posting). p.0) in
              let e = ap (λ (h : Heading). length h.rows) share_headed in
              omega arith

  -- ---- the end

  -- an error of the last write: what was told is all that the sources yielded
  pub ended_front : (begun now : List S) (before : Option (List ℕ)) (told_first : Told) (writer : IndexWriter W WriterSections) (hand : PendingEntry) (merging : Merging begun now before told_first writer hand)
      → ((place : ℕ) (source : S) → place < length now → current (get_or now place source) ≡ None) → (after : Option (List ℕ)) → AppendsFront before after (settled_front merging.told) → HasMergedFront yields heading begun before after
  ended_front begun now before told_first writer hand merging ended after front = record {
    entries = entries_of merging.told;
    all = merged_all heading current yields gives lawfully begun now merging.shares merging.reading merging.told (string_bytes hand.term) hand.end merging.has ended;
    gained = front;
  }

  pub tells_all : (begun now : List S) (before : Option (List ℕ)) (told_first : Told) (writer : IndexWriter W WriterSections) (hand : PendingEntry) (merging : Merging begun now before told_first writer hand)
      → ((place : ℕ) (source : S) → place < length now → current (get_or now place source) ≡ None) → (after : IndexWriter W WriterSections) → WasTold contents before after merging.told → TellsAll yields heading contents begun before told_first after
  tells_all begun now before told_first writer hand merging ended after was = record {
    now = merging.told;
    was = was;
    stop = merging.stop;
    rows = merging.rows;
    closable = told_closable merging.shares merging.told (string_bytes hand.term) hand.end merging.has;
    all = merged_all heading current yields gives lawfully begun now merging.shares merging.reading merging.told (string_bytes hand.term) hand.end merging.has ended;
  }
