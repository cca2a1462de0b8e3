-- Lists of one term that are gathered one after another make one list, as if each had been told by itself.
use Rattle.std.proofs.Common.{◌≡◌, ℕ, zero, suc, ◌+◌, ◌-◌, ◌*◌, ◌^◌, ◌<◌, ◌≤◌, List, ◌++◌, length, Option, Some, None, refl, sym, ap, ap₂, subst, ◌∙◌, arith, append_assoc, length-append, option_map}
use Rattle.std.proofs.lemmas.List.{map-append, length-map}
use Rattle.std.proofs.lemmas.List.Sums.{sum_by-append}
use Rattle.std.specs.Option.{option_to_list}
use Rattle.ix_file.specs.Gaps.{next_after}
use Rattle.ix_file.specs.IndexText.{magic}
use Rattle.ix_file.specs.Postings.{ArePostings, documents_of, list_bytes_from}
use Rattle.ix_file.specs.Sections.{FrontCoded, postings_section}
use Rattle.ix_file.proofs.Gaps.{Ascends-lower, length-Ascends}
use Rattle.ix_file.proofs.Sizes.{list_short}
use Rattle.ix_text.specs.Parts.{DictionaryEntry, Posting}
use Rattle.ix_text.specs.PartsLaws.{position_count}
use Rattle.ix_output.specs.Sinks.{AppendsFront}
use Rattle.ix_file.specs.Telling.{MayList}
use Rattle.ix_file.specs.Told.{Told, entries_of, listed, position_total, settled_front, with_postings}
use Rattle.ix_file.specs.Writers.{WasTold, sink}
use Rattle.ix_file.specs.WriterSections.{WriterSections}
use Rattle.ix_file.specs.IndexWriter.{IndexWriter}
use Rattle.ix_file.proofs.EndingLemmas.{front_of_spelled}
use Rattle.ix_file.proofs.ListTold.{front_of_list, position_total-listed, settled_after}
use Rattle.ix_merge.specs.Gathered.{HasGathered, HasNothing}
use Rattle.ix_merge.specs.declared.pending_entry.PendingEntry.{PendingEntry}
use Rattle.ix_merge.proofs.MergedMore.{postings_append}
use Rattle.ix_merge.proofs.Readings.{list_bytes_from-append, next_after-append}

-- postings told in two calls, or in one
listed-again : (postings more : List Posting) (o : Option DictionaryEntry) → option_map (listed more) (option_map (listed postings) o) ≡ option_map (listed (postings ++ more)) o
listed-again postings more None = refl
listed-again postings more (Some entry) = ap (λ (ps : List Posting). Some (record { term = entry.term; postings = ps })) (append_assoc entry.postings postings more)

with_postings-again : (told : Told) (postings more : List Posting) → with_postings (with_postings told postings) more ≡ with_postings told (postings ++ more)
with_postings-again told postings more =
    ap (λ (o : Option DictionaryEntry). record { stop = told.stop; rows = told.rows; done = told.done; at_hand = o }) (listed-again postings more told.at_hand)

-- the positions with those of postings of the pending entry
total_listed : (told : Told) (postings : List Posting) (entry : DictionaryEntry) → told.at_hand ≡ Some entry → position_total (entries_of (with_postings told postings)) ≡ position_total (entries_of told) + position_count postings
total_listed told postings entry at =
    let P : Option DictionaryEntry → Type 0 = λ o. position_total (told.done ++ option_to_list (option_map (listed postings) o)) ≡ position_total (told.done ++ option_to_list o) + position_count postings in
    subst P (sym at) (position_total-listed told.done entry postings)

-- a list behind a list
list_again : (base : Told) (postings more : List Posting) (documents next documents' next' : ℕ) (bytes bytes' : List ℕ)
    → MayList base postings documents next bytes → MayList (with_postings base postings) more documents' next' bytes' → MayList base (postings ++ more) (documents + documents') next' (bytes ++ bytes')
list_again base postings more documents next documents' next' bytes bytes' first second =
    let from : ℕ = next_after 0 (documents_of first.entry.postings) in
    let there : Some (listed postings first.entry) ≡ Some second.entry = sym (ap (option_map (listed postings)) first.at_hand) ∙ second.at_hand in
    let hand : listed postings first.entry ≡ second.entry = cc in
    let then : next_after 0 (documents_of second.entry.postings) ≡ next_after from (documents_of postings) =
    sym (ap (λ (e : DictionaryEntry). next_after 0 (documents_of e.postings)) hand)
    ∙ ap (next_after 0) (map-append (λ (p : Posting). p.0) first.entry.postings postings)
    ∙ next_after-append 0 (documents_of first.entry.postings) (documents_of postings) in
    let total = total_listed base postings first.entry first.at_hand in
    let count : position_count (postings ++ more) ≡ position_count postings + position_count more = sum_by-append (λ (p : Posting). length p.1) postings more in
    let few = second.few in
    record {
      entry = first.entry;
      at_hand = first.at_hand;
      follow = postings_append from postings more first.follow (subst (λ n. ArePostings n (2 ^ 32 - 1) more) then second.follow);
      few = omega arith;
      count = ap₂ (λ a b. a + b) first.count second.count ∙ sym (length-append postings more);
      last =
          second.last ∙ ap (λ n. next_after n (documents_of more)) then
          ∙ sym (next_after-append from (documents_of postings) (documents_of more))
          ∙ ap (next_after from) (sym (map-append (λ (p : Posting). p.0) postings more));
      coded =
          ap₂ (λ (xs ys : List ℕ). xs ++ ys) first.coded (second.coded ∙ ap (λ n. list_bytes_from n more) then)
          ∙ sym (list_bytes_from-append from postings more);
    }

-- ---- what was gathered of the pending entry

module _ {W : Type 0} (contents : W → Option (List ℕ)) (before : Option (List ℕ)) (writer : IndexWriter W WriterSections) (entry : PendingEntry) (told : Told) where
  -- where nothing was gathered, all was told
  pub gathered_none : HasNothing entry → WasTold contents before writer told → HasGathered contents before writer entry told
  gathered_none nothing was = record { base = told; was = was; none = λ n. (nothing.list, refl); some = λ s. let d = nothing.documents in absurd (omega arith) }

  module _ (has : HasGathered contents before writer entry told) where
    -- what went out is a front of what is settled with what was gathered
    pub gathered_front : AppendsFront before (contents (sink writer)) (settled_front told)
    gathered_front = by entry.documents refl
      where
        by : (n : ℕ) → entry.documents ≡ n → AppendsFront before (contents (sink writer)) (settled_front told)
        by zero is = subst (λ (t : Told). AppendsFront before (contents (sink writer)) (settled_front t)) (sym (has.none is).1) (front_of_spelled before (contents (sink writer)) writer.sections.pending.items (settled_front has.base) has.was.written)
        by (suc n) is =
            let list = has.some (omega arith) in
            subst (λ (t : Told). AppendsFront before (contents (sink writer)) (settled_front t)) (sym list.told_with)
            (front_of_list before (contents (sink writer)) writer.sections.pending.items has.base list.postings entry.documents entry.end entry.list.items list.may has.was.written)

    -- the writer's bytes of postings, with those that were gathered, are those of what was told; and they are few
    pub gathered_bytes : (writer.sections.postings + length entry.list.items ≡ length (postings_section (entries_of told))) × (writer.sections.postings + length entry.list.items ≤ 15 * 2 ^ 28)
    gathered_bytes = by entry.documents refl
      where
        by : (n : ℕ) → entry.documents ≡ n → (writer.sections.postings + length entry.list.items ≡ length (postings_section (entries_of told))) × (writer.sections.postings + length entry.list.items ≤ 15 * 2 ^ 28)
        by zero is =
            let a = ap (λ (bytes : List ℕ). length bytes) (has.none is).0 in
            let b = ap (λ (t : Told). length (postings_section (entries_of t))) (has.none is).1 in
            let c = has.was.kept.postings in
            let d = has.was.kept.few_bytes in
            let e = has.was.kept.few_positions in
            (omega (arith, a, b, c), omega (arith, a, d, e))
        by (suc n) is =
            let list = has.some (omega arith) in
            let after = settled_after has.base list.postings entry.documents entry.end entry.list.items list.may in
            let a = ap (λ (bytes : List ℕ). length bytes) after in
            let b = length-append (settled_front has.base) entry.list.items in
            let c = length-append (magic FrontCoded) (postings_section (entries_of has.base)) in
            let d = length-append (magic FrontCoded) (postings_section (entries_of (with_postings has.base list.postings))) in
            let e = ap (λ (t : Told). length (postings_section (entries_of t))) list.told_with in
            let f = has.was.kept.postings in
            let short : length (list_bytes_from (next_after 0 (documents_of list.may.entry.postings)) list.postings) ≤ 15 * position_count list.postings =
            list_short (next_after 0 (documents_of list.may.entry.postings)) (2 ^ 32 - 1) list.postings list.may.follow (omega arith) in
            let coded = ap (λ (bytes : List ℕ). length bytes) list.may.coded in
            let k = has.was.kept.few_bytes in
            let few = list.may.few in
            (omega (arith, a, b, c, d, e, f), omega (arith, short, coded, k, few))

    -- ---- a list more

    module _ (more : List Posting) (documents next : ℕ) (bytes : List ℕ) (may : MayList told more documents next bytes) where
      -- what is gathered with it
      record Gathering : Type 0 where
        postings : List Posting
        may_all : MayList has.base postings (entry.documents + documents) next (entry.list.items ++ bytes)
        told_all : with_postings told more ≡ with_postings has.base postings

      gathering : Gathering
      gathering = by entry.documents refl
        where
          by : (n : ℕ) → entry.documents ≡ n → Gathering
          by zero is =
              let none = has.none is in
              let alone : documents ≡ entry.documents + documents = omega arith in
              record {
                postings = more;
                may_all =
                    subst (λ (xs : List ℕ). MayList has.base more (entry.documents + documents) next (xs ++ bytes)) (sym none.0)
                    (subst (λ d. MayList has.base more d next bytes) alone (subst (λ (t : Told). MayList t more documents next bytes) none.1 may));
                told_all = ap (λ (t : Told). with_postings t more) none.1;
              }
          by (suc n) is =
              let list = has.some (omega arith) in
              record {
                postings = list.postings ++ more;
                may_all = list_again has.base list.postings more entry.documents entry.end documents next entry.list.items bytes list.may (subst (λ (t : Told). MayList t more documents next bytes) list.told_with may);
                told_all = ap (λ (t : Told). with_postings t more) list.told_with ∙ with_postings-again has.base list.postings more;
              }

      -- their documents can be counted
      pub documents_fit : entry.documents + documents < 2 ^ 32
      documents_fit =
          let all = gathering.may_all in
          let from : ℕ = next_after 0 (documents_of all.entry.postings) in
          let count = all.count in
          let size = length-map gathering.postings (λ (p : Posting). p.0) in
          let up = length-Ascends 0 (2 ^ 32 - 1) (documents_of gathering.postings) (omega arith) (Ascends-lower from 0 (2 ^ 32 - 1) (documents_of gathering.postings) (omega arith) all.follow.documents) in
          omega (arith, count, size, up)

      -- then it is gathered, too
      pub gathered_more : (then : PendingEntry) → 0 < documents → then.documents ≡ entry.documents + documents → then.end ≡ next → then.list.items ≡ entry.list.items ++ bytes
          → HasGathered contents before writer then (with_postings told more)
      gathered_more then positive count last coded = record {
        base = has.base;
        was = has.was;
        none = λ zero. absurd (omega arith);
        some = λ s. record {
          postings = gathering.postings;
          may =
              subst (λ d. MayList has.base gathering.postings d then.end then.list.items) (sym count)
              (subst (λ n. MayList has.base gathering.postings (entry.documents + documents) n then.list.items) (sym last)
              (subst (MayList has.base gathering.postings (entry.documents + documents) next) (sym coded) gathering.may_all));
          told_with = gathering.told_all;
        };
      }
