-- The parts that a merge tells are those of a lawful collection.
use Rattle.std.proofs.Common.{◌≡◌, ℕ, ◌+◌, ◌-◌, ◌<◌, ◌≤◌, ◌^◌, List, [], ◌∷◌, true, length, map, get_or, slice_get, Some, All, Contains, refl, sym, ap, ◌∙◌, subst, arith, inl, inr}
use Rattle.std.proofs.lemmas.Bool.{cases_lt}
use Rattle.std.proofs.lemmas.List.Elements.{All-contains, All-head, All-nil, Contains-get_or}
use Rattle.std.proofs.lemmas.Option.{slice_get_within, slice_get-get_or}
use Rattle.std.specs.List.Sorted.{IsStrictlySortedBy}
use Rattle.ix_text.specs.Collections.{IsName}
use Rattle.ix_text.specs.Parts.{AreTermPostings, DictionaryEntry, DocumentRow, HasPosition, Parts}
use Rattle.ix_text.specs.PartsLaws.{AreLawful, IsInRange, IsLawfulTerm}
use Rattle.ix_text.specs.StopSets.{IsStopSet}
use Rattle.ix_text.specs.Terms.{IsTerm}
use Rattle.ix_text.proofs.CollectionTold.{some_position}
use Rattle.ix_text.proofs.PartsLawful as lawful
use Rattle.ix_run.specs.Heads.{parts_with}
use Rattle.ix_run.specs.Sources.{AreWhole}
use Rattle.ix_merge.specs.Covers.{covers}
use Rattle.ix_merge.specs.Merged.{HasUnder, IsMergeOf, Share, SomeShareHas}
use Rattle.ix_merge.specs.Rows.{AreRowsOf, tokens_under}
use Rattle.ix_merge.proofs.Covering.{covered_within}
use Rattle.ix_merge.proofs.Shares.{covered_parts, heading_of_share, row_at, same_share, share_at}

-- The parts are what shares have together: their rows by number, their stop terms, and the merge of their entries.
pub record AreUnited (shares : List Share) (parts : Parts) : Type 0 where
  pub laid : AreRowsOf (map heading_of_share shares) parts.rows
  pub whole : All (λ share. AreWhole share.heading share.entries) shares
  pub stop : All (λ share. share.heading.stop ≡ parts.stop) shares
  pub no_stop : shares ≡ [] → parts.stop ≡ []
  pub few : tokens_under (map heading_of_share shares) ≤ 2 ^ 28
  pub merge : IsMergeOf shares parts.entries

-- The share that has a position, and what is lawful there.
pub record IsFound (shares : List Share) (term : List ℕ) (number position : ℕ) : Type 0 where
  pub share : Share
  pub among : Contains shares share
  pub place : ℕ
  pub shifted : number ≡ share.heading.first + place
  pub under : HasUnder share.entries term place position
  pub whole : AreWhole share.heading share.entries
  pub lawful : IsLawfulTerm (parts_with share.heading share.entries) under.entry
  pub in_range : IsInRange share.heading.rows place position
  pub within : place < length share.heading.rows
  pub covered : covers number share.heading ≡ true

pub found : (shares : List Share) → All (λ share. AreWhole share.heading share.entries) shares → (term : List ℕ) (number position : ℕ) → SomeShareHas shares term number position → IsFound shares term number position
found shares all term number position some =
    let whole = All-contains (λ (s : Share). AreWhole s.heading s.entries) shares some.share all some.among in
    let is = All-contains (IsLawfulTerm (parts_with some.share.heading some.share.entries)) some.share.entries some.has.entry whole.lawful.terms some.has.among in
    let in_range = is.in_range some.place position some.has.has in
    let within = slice_get_within some.share.heading.rows some.place in_range.row in_range.numbered in
    record {
      share = some.share;
      among = some.among;
      place = some.place;
      shifted = some.shifted;
      under = some.has;
      whole = whole;
      lawful = is;
      in_range = in_range;
      within = within;
      covered = covered_within number some.share.heading (omega (arith, some.shifted)) (omega (arith, some.shifted, within));
    }

pub under_entry : (entries : List DictionaryEntry) (entry : DictionaryEntry) (number position : ℕ) → Contains entries entry → HasPosition entry.postings number position → HasUnder entries entry.term number position
under_entry entries entry number position among has = record { entry = entry; among = among; of_term = refl; has = has }

no_stop_terms : IsStopSet []
unfolding IsStrictlySortedBy
no_stop_terms = record { few = omega arith; ascending = tt; terms = All-nil IsTerm }

-- the stop terms of all shares are a stop set
stop_set : (shares : List Share) (stop : List (List ℕ)) → All (λ share. AreWhole share.heading share.entries) shares → All (λ share. share.heading.stop ≡ stop) shares → (shares ≡ [] → stop ≡ []) → IsStopSet stop
stop_set [] stop whole same none = subst IsStopSet (sym (none refl)) no_stop_terms
stop_set (share ∷ shares) stop whole same none =
    let lawful = (All-head (λ (s : Share). AreWhole s.heading s.entries) share shares whole).lawful in
    subst IsStopSet (All-head (λ (s : Share). s.heading.stop ≡ stop) share shares same)
    (record { few = lawful.few_stop_terms; ascending = lawful.stop_ascending; terms = lawful.stop_terms })

module _ (shares : List Share) (parts : Parts) (united : AreUnited shares parts) where
  found_under : (entry : DictionaryEntry) → Contains parts.entries entry → (number position : ℕ) → HasPosition entry.postings number position → IsFound shares entry.term number position
  found_under entry among number position has =
      found shares united.whole entry.term number position ((united.merge.merged entry.term number position).0 (under_entry parts.entries entry number position among has))

  -- a row is that of a lawful share
  lawful_name : (n : ℕ) (row : DocumentRow) → slice_get parts.rows n ≡ Some row → IsName row.name
  lawful_name n row numbered =
      let at = share_at shares parts.rows united.laid n (slice_get_within parts.rows n row numbered) in
      let share = at.element in
      let (low, high) = covered_parts n share.heading at.passes in
      let whole = All-contains (λ (s : Share). AreWhole s.heading s.entries) shares share united.whole at.among in
      let place : share.heading.first + (n - share.heading.first) ≡ n = omega (arith, low) in
      let there = row_at shares parts.rows united.laid share at.among (n - share.heading.first) (omega (arith, low, high)) in
      lawful.at_place (λ (r : DocumentRow). IsName r.name) share.heading.rows (n - share.heading.first) row whole.lawful.names
      (sym there ∙ ap (slice_get parts.rows) place ∙ numbered)

  few_rows : length parts.rows ≤ 2 ^ 28
  few_rows =
      elim (cases_lt 0 (length parts.rows)) [
        | inl some ↦
            let at = share_at shares parts.rows united.laid (length parts.rows - 1) (omega (arith, some)) in
            let (low, high) = covered_parts (length parts.rows - 1) at.element.heading at.passes in
            let whole = All-contains (λ (s : Share). AreWhole s.heading s.entries) shares at.element united.whole at.among in
            omega (arith, some, high, whole.within)
        | inr none ↦ omega (arith, none)
      ]

  lawful_term : (entry : DictionaryEntry) → Contains parts.entries entry → IsLawfulTerm parts entry
  lawful_term entry among =
      let ordered = All-contains (λ (e : DictionaryEntry). AreTermPostings e.postings) parts.entries entry united.merge.ordered among in
      let (number, (position, has)) = some_position entry.postings ordered in
      let at = found_under entry among number position has in
      let same_stop = All-contains (λ (s : Share). s.heading.stop ≡ parts.stop) shares at.share united.stop at.among in
      record {
        term = subst IsTerm at.under.of_term at.lawful.term;
        no_stop = λ stopped. at.lawful.no_stop (subst (λ (stop : List (List ℕ)). Contains stop at.under.entry.term) (sym same_stop) (subst (Contains parts.stop) (sym at.under.of_term) stopped));
        ordered = ordered;
        in_range = λ n p has.
            let here = found_under entry among n p has in
            record {
              row = here.in_range.row;
              numbered = ap (slice_get parts.rows) here.shifted ∙ row_at shares parts.rows united.laid here.share here.among here.place here.within ∙ here.in_range.numbered;
              below = here.in_range.below;
            };
      }

  -- a position has one term in the one share that covers it
  one_term : (one other : DictionaryEntry) (number position : ℕ) → Contains parts.entries one → Contains parts.entries other
      → HasPosition one.postings number position → HasPosition other.postings number position → one.term ≡ other.term
  one_term one other number position among among' has has' =
      let at = found_under one among number position has in
      let at' = found_under other among' number position has' in
      let same : at.share ≡ at'.share = same_share shares parts.rows united.laid at.share at'.share at.among at'.among number at.covered at'.covered in
      let places : at.place ≡ at'.place = omega (arith, at.shifted, at'.shifted, ap (λ (s : Share). s.heading.first) same) in
      let moved = subst (λ (s : Share). HasUnder s.entries one.term at.place position) same at.under in
      let here = subst (λ n. HasUnder at'.share.entries one.term n position) places moved in
      sym here.of_term ∙ at'.whole.lawful.apart here.entry at'.under.entry at'.place position here.among at'.under.among here.has at'.under.has ∙ at'.under.of_term

  pub united_lawful : AreLawful parts
  united_lawful =
      let stop = stop_set shares parts.stop united.whole united.stop united.no_stop in
      record {
        stop_terms = stop.terms;
        stop_ascending = stop.ascending;
        few_stop_terms = stop.few;
        names = λ k d within. lawful_name k (get_or parts.rows k d) (slice_get-get_or parts.rows k d within);
        few_documents = few_rows;
        few_tokens = omega (arith, united.laid.tokens, united.few);
        ascending = united.merge.ascending;
        terms = λ k d within. lawful_term (get_or parts.entries k d) (Contains-get_or parts.entries k d within);
        apart = one_term;
      }
