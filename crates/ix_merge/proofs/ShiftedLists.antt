-- Postings of a source, their documents counted from the source's first number.
use Rattle.std.proofs.Common.{◌≡◌, ℕ, ◌+◌, ◌-◌, ◌^◌, ◌<◌, ◌≤◌, List, [], ◌∷◌, length, get_or, All, Contains, sym, ap, subst, arith}
use Rattle.std.proofs.lemmas.List.{length-map}
use Rattle.std.proofs.lemmas.List.Elements.{All-map, All-weaker, Contains-get_or, All-contains}
use Rattle.std.proofs.lemmas.Option.{slice_get_within}
use Rattle.ix_file.specs.Gaps.{Ascends, next_after}
use Rattle.ix_file.specs.Postings.{ArePostings, IsPosting, documents_of}
use Rattle.ix_file.proofs.Gaps.{Ascends-from, Ascends-lower, Ascends-wider, next_after-le}
use Rattle.ix_text.specs.Parts.{DictionaryEntry, Posting, HasPosition}
use Rattle.ix_text.specs.PartsLaws.{position_count, IsLawfulTerm}
use Rattle.ix_text.proofs.PartsLawful.{sum_by-map}
use Rattle.ix_text.proofs.AscendingLists.{contains_map, contained_from_map}
use Rattle.ix_run.specs.Heads.{Heading, parts_with}
use Rattle.ix_run.specs.Sources.{AreWhole}
use Rattle.ix_run.proofs.ReadFronts.{AreRising, rising_of}
use Rattle.ix_run.proofs.WholeLists.{codable}
use Rattle.ix_merge.specs.Keys.{end_of}
use Rattle.ix_file.specs.Postings.{shifted, shifted_posting}

pub length-shifted : (first : ℕ) (postings : List Posting) → length (shifted first postings) ≡ length postings
length-shifted first postings = length-map postings (shifted_posting first)

pub position_count-shifted : (first : ℕ) (postings : List Posting) → position_count (shifted first postings) ≡ position_count postings
position_count-shifted first postings = sum_by-map (λ (p : Posting). length p.1) (shifted_posting first) postings

-- ---- positions

-- some posting has the position, in a document of a lower number
pub record HasLower (first : ℕ) (postings : List Posting) (number position : ℕ) : Type 0 where
  pub place : ℕ
  pub raised : number ≡ first + place
  pub has : HasPosition postings place position

pub position_lower : (first : ℕ) (postings : List Posting) (number position : ℕ) → HasPosition (shifted first postings) number position → HasLower first postings number position
position_lower first postings number position has =
    let from = contained_from_map (shifted_posting first) postings (number, has.positions) has.among in
    let posting : Posting = from.0 in
    let same : shifted_posting first posting ≡ (number, has.positions) = from.2 in
    record {
      place = posting.0;
      raised = sym (ap (λ (p : Posting). p.0) same);
      has = record {
        positions = posting.1;
        among = from.1;
        positioned = subst (λ (ps : List ℕ). Contains ps position) (sym (ap (λ (p : Posting). p.1) same)) has.positioned;
      };
    }

pub position_raised : (first : ℕ) (postings : List Posting) (place position : ℕ) → HasPosition postings place position → HasPosition (shifted first postings) (first + place) position
position_raised first postings place position has = record {
  positions = has.positions;
  among = contains_map (shifted_posting first) postings (place, has.positions) has.among;
  positioned = has.positioned;
}

-- ---- documents

pub ascends_raised : (first low top : ℕ) (postings : List Posting) → Ascends low top (documents_of postings) → Ascends (first + low) (first + top) (documents_of (shifted first postings))
ascends_raised first low top [] up = tt
ascends_raised first low top (posting ∷ postings) up =
    let a = up.0 in
    let b = up.1 in
    let next : first + (posting.0 + 1) ≡ first + posting.0 + 1 = omega arith in
    (omega arith, omega arith, subst (λ n. Ascends n (first + top) (documents_of (shifted first postings))) next (ascends_raised first (posting.0 + 1) top postings up.2))

-- the list of a term under a heading: documents that it has, each with positions
pub record IsListUnder (heading : Heading) (postings : List Posting) : Type 0 where
  pub some : 0 < length postings
  pub documents : Ascends 0 (length heading.rows) (documents_of postings)
  pub each : All (IsPosting (2 ^ 32 - 1)) postings
  pub within : end_of heading ≤ 2 ^ 28

pub list_under : (heading : Heading) (entries : List DictionaryEntry) (entry : DictionaryEntry) → AreWhole heading entries → Contains entries entry → IsListUnder heading entry.postings
list_under heading entries entry whole among =
    let rising : AreRising heading.rows entry.postings = rising_of heading entries entry whole.lawful among in
    let is : IsLawfulTerm (parts_with heading entries) entry = All-contains (IsLawfulTerm (parts_with heading entries)) entries entry whole.lawful.terms among in
    let can : ArePostings 0 (2 ^ 32 - 1) entry.postings = All-contains (λ (e : DictionaryEntry). ArePostings 0 (2 ^ 32 - 1) e.postings) entries entry (codable heading entries whole) among in
    record {
      some = is.ordered.some;
      documents =
          Ascends-from 0 (length heading.rows) (documents_of entry.postings) rising.ascending
          (All-map (λ x. (0 ≤ x) × (x < length heading.rows)) (λ (p : Posting). p.0) entry.postings
          (λ k d within.
          let posting : Posting = get_or entry.postings k d in
          let each = rising.each k d within in
          let some : 0 < length posting.1 = each.0 in
          let has : HasPosition entry.postings posting.0 (get_or posting.1 0 0) = record { positions = posting.1; among = Contains-get_or entry.postings k d within; positioned = Contains-get_or posting.1 0 0 some } in
          let range = rising.in_range posting.0 (get_or posting.1 0 0) has in
          (omega arith, slice_get_within heading.rows posting.0 range.row range.numbered)));
      each = can.each;
      within = whole.within;
    }

-- the same, where documents count from the heading's first number
pub raised_list : (heading : Heading) (postings : List Posting) (next : ℕ) → IsListUnder heading postings → next ≤ heading.first → ArePostings next (2 ^ 32 - 1) (shifted heading.first postings)
raised_list heading postings next is low =
    let few = is.within in
    record {
      documents =
          Ascends-wider next (end_of heading) (2 ^ 32 - 1) (documents_of (shifted heading.first postings)) (omega arith)
          (Ascends-lower (heading.first + 0) next (end_of heading) (documents_of (shifted heading.first postings)) (omega arith) (ascends_raised heading.first 0 (length heading.rows) postings is.documents));
      each = All-map (IsPosting (2 ^ 32 - 1)) (shifted_posting heading.first) postings (All-weaker (IsPosting (2 ^ 32 - 1)) (λ p. IsPosting (2 ^ 32 - 1) (shifted_posting heading.first p)) (λ p is. record { some = is.some; positions = is.positions }) postings is.each);
    }

pub raised_end : (heading : Heading) (postings : List Posting) (next : ℕ) → IsListUnder heading postings → next ≤ heading.first → next_after next (documents_of (shifted heading.first postings)) ≤ end_of heading
raised_end heading postings next is low =
    next_after-le next (end_of heading) (documents_of (shifted heading.first postings)) (omega arith)
    (Ascends-lower (heading.first + 0) next (end_of heading) (documents_of (shifted heading.first postings)) (omega arith) (ascends_raised heading.first 0 (length heading.rows) postings is.documents))
