-- The current terms of the sources lie behind what was told, and may be told next.
use Rattle.std.proofs.Common.{◌≡◌, ◌≢◌, ℕ, ◌+◌, ◌^◌, ◌<◌, ◌≤◌, ◌⊎◌, ⊎_elim, List, [], ◌∷◌, ◌++◌, length, map, get_or, set, All, Option, Some, None, MatchOption, inl, inr, refl, sym, ap, subst, ◌∙◌, option_map, arith, length-append, length-set}
use Rattle.std.proofs.Math.Seq.{map-set_same}
use Rattle.std.proofs.lemmas.Bool.{cases_eq}
use Rattle.std.proofs.lemmas.List.{get_or-map, get_or-set_same, get_or-set_other, length-map, map-append}
use Rattle.std.proofs.lemmas.List.Elements.{All-set}
use Rattle.std.proofs.lemmas.List.Sums.{sum_by-append, sum_by-set}
use Rattle.std.specs.List.{sum_by}
use Rattle.ix_text.specs.ByteOrder.{IsAscending}
use Rattle.ix_text.specs.Parts.{DictionaryEntry, terms_of}
use Rattle.ix_text.specs.PartsLaws.{position_count}
use Rattle.ix_file.specs.Told.{Told, position_total}
use Rattle.ix_file.proofs.AscendingLemmas.{ascending_last}
use Rattle.ix_run.specs.Heads.{Heading}
use Rattle.ix_run.specs.Sources.{AreWhole, Giving, IsLawfulFront, Yielding, entry_with}
use Rattle.ix_merge.specs.Keys.{IsUpTo, end_of, key_of}
use Rattle.ix_merge.specs.Merged.{Share}
use Rattle.ix_merge.specs.Merging.{AreApart}
use Rattle.ix_merge.specs.Rows.{tokens_under}
use Rattle.ix_merge.specs.Keys.{HoldsFirst, key_at}
use Rattle.ix_merge.specs.Turns.{MayTurn, bare_entry}
use Rattle.ix_merge.proofs.Readings.{AreReading, Below, HasToldShares, are_shares, grown, headed_alike, last_pushed, not_below_itself, told_closable}
use Rattle.ix_merge.proofs.Spans.{few_in_all, lies_before}

-- The current term of a source is above the one told last, or the same with the source's documents behind.
abbrev pub IsBehind : {S : Type 0} → (S → Heading) → (S → Option (List ℕ)) → List ℕ → ℕ → S → Type 0
IsBehind heading current last next source = MatchOption (current source) (Unit {0}) (λ term. Below last term ⊎ ((last ≡ term) × (next ≤ (heading source).first)))

-- so of each source
abbrev pub AreBehind : {S : Type 0} → (S → Heading) → (S → Option (List ℕ)) → List ℕ → ℕ → List S → Type 0
AreBehind {S} heading current last next sources = (place : ℕ) (source : S) → place < length sources → IsBehind heading current last next (get_or sources place source)

-- the term behind an entry is above its
pub term_above : (given : List DictionaryEntry) (entry : DictionaryEntry) (term : List ℕ) → IsAscending (terms_of ((given ++ entry ∷ []) ++ entry_with term [] ∷ [])) → Below entry.term term
term_above given entry term up =
    let term_of : DictionaryEntry → List ℕ = λ e. e.term in
    let e : terms_of ((given ++ entry ∷ []) ++ entry_with term [] ∷ []) ≡ terms_of (given ++ entry ∷ []) ++ term ∷ [] = map-append term_of (given ++ entry ∷ []) (entry_with term [] ∷ []) in
    let f : terms_of (given ++ entry ∷ []) ≡ terms_of given ++ entry.term ∷ [] = map-append term_of given (entry ∷ []) in
    let up' : IsAscending ((terms_of given ++ entry.term ∷ []) ++ term ∷ []) = subst (λ (ts : List (List ℕ)). IsAscending (ts ++ term ∷ [])) f (subst IsAscending e up) in
    subst (λ (t : List ℕ). Below t term) (last_pushed (terms_of given) entry.term)
    (ascending_last (terms_of given ++ entry.term ∷ []) term up' (omega (arith, length-append (terms_of given) (entry.term ∷ []))))

module _ {S : Type 0} (heading : S → Heading) (current : S → Option (List ℕ)) where
  keyed : (source : S) (term : List ℕ) → current source ≡ Some term → key_of heading current source ≡ Some (record { term = term; end = end_of (heading source) })
  keyed source term is = ap (option_map (λ (t : List ℕ). record { term = t; end = end_of (heading source) })) is

  pub behind_more : (now : List S) (place : ℕ) (source new : S) (term : List ℕ) (next : ℕ) → HoldsFirst (map (key_of heading current) now) place → AreApart (map heading now)
      → get_or now place source ≡ source → current source ≡ Some term → (heading source).first < end_of (heading source) → next ≤ end_of (heading source)
      → ((next_term : List ℕ) → current new ≡ Some next_term → Below term next_term) → AreBehind heading current term next (set now place new)
  behind_more now place source new term next first apart here at some low above k d within = elim (cases_eq k place) [
    | inl same ↦
        let e : get_or (set now place new) k d ≡ new = ap (λ n. get_or (set now place new) n d) same ∙ get_or-set_same now place new d (omega (arith, many, first.within)) in
        subst (IsBehind heading current term next) (sym e) (of_new (current new) refl)
    | inr other ↦
        let e : get_or (set now place new) k d ≡ get_or now k d = get_or-set_other now place k new d other in
        subst (IsBehind heading current term next) (sym e) (of_other other (get_or now k d) refl (current (get_or now k d)) refl)
  ]
    where
      many : length (map (key_of heading current) now) ≡ length now
      many = length-map now (key_of heading current)

      size : length (set now place new) ≡ length now
      size = length-set now place new

      of_new : (o : Option (List ℕ)) → current new ≡ o → IsBehind heading current term next new
      of_new None is = rw is tt
      of_new (Some next_term) is = rw is (inl (above next_term is))

      key_here : key_at (map (key_of heading current) now) place ≡ Some (record { term = term; end = end_of (heading source) })
      key_here = get_or-map (key_of heading current) now place source None (omega (arith, many, first.within)) ∙ ap (key_of heading current) here ∙ keyed source term at

      of_other : k ≢ place → (one : S) → get_or now k d ≡ one → (o : Option (List ℕ)) → current one ≡ o → IsBehind heading current term next one
      of_other other one there None is = rw is tt
      of_other other one there (Some one_term) is =
          let key_there : key_at (map (key_of heading current) now) k ≡ Some (record { term = one_term; end = end_of (heading one) }) =
          get_or-map (key_of heading current) now k d None (omega (arith, size)) ∙ ap (key_of heading current) there ∙ keyed one one_term is in
          let up : IsUpTo (record { term = term; end = end_of (heading source) }) (record { term = one_term; end = end_of (heading one) }) =
          rw (key_here, key_there) at (first.first k (omega (arith, many, size))) in
          rw is (⊎_elim (λ less. inl less) (λ same. inr (same.0, before one there same.1)) up)
        where
          before : (one : S) → get_or now k d ≡ one → end_of (heading source) ≤ end_of (heading one) → next ≤ (heading one).first
          before one there up =
              let headings : List Heading = map heading now in
              let e : get_or headings place (heading source) ≡ heading source = get_or-map heading now place source (heading source) (omega (arith, many, first.within)) ∙ ap heading here in
              let f : get_or headings k (heading source) ≡ heading one = get_or-map heading now k d (heading source) (omega (arith, size)) ∙ ap heading there in
              let before' = lies_before headings place k (heading source) apart (λ same. other (sym same)) (omega (arith, length-map now heading, many, first.within)) (omega (arith, length-map now heading, size)) in
              let lies : end_of (heading source) ≤ (heading one).first = (rw (e, f) at before') some up in
              omega arith

  module _ (yields : Yielding S) (gives : Giving S)
      (lawfully : (source : S) (finished : List DictionaryEntry) (at_hand : Option DictionaryEntry) → gives source finished at_hand → IsLawfulFront (heading source) finished at_hand) where
    -- the new term of a source is above the one that it gave
    pub next_above : (new : S) (given : List DictionaryEntry) (entry : DictionaryEntry) → gives new (given ++ entry ∷ []) (bare_entry (current new)) → (term : List ℕ) → current new ≡ Some term → Below entry.term term
    next_above new given entry gives_more term is =
        let has = subst (λ (o : Option DictionaryEntry). gives new (given ++ entry ∷ []) o) (ap bare_entry is) gives_more in
        term_above given entry term ((lawfully new (given ++ entry ∷ []) (Some (entry_with term [])) has).begun.ascending)

    -- a source may turn
    pub may_turn : (begun now : List S) (shares : List Share) (told : Told) (last : List ℕ) (next : ℕ) (place : ℕ) (source : S) → AreReading heading current yields gives begun now shares
        → HasToldShares shares told last next → AreBehind heading current last next now → tokens_under (map heading begun) ≤ 2 ^ 28 → place < length begun → get_or now place source ≡ source
        → (share : Share) → get_or shares place share ≡ share → MayTurn heading current gives source share.entries told last next
    may_turn begun now shares told last next place source reading has behind few within here share there =
        let is = reading.each place source share within in
        record {
          gives_these = subst (λ (s : S). gives s share.entries (bare_entry (current s))) here (subst (λ (s : Share). gives (get_or now place source) s.entries (bare_entry (current (get_or now place source)))) there is.gives_these);
          closable = told_closable shares told last next has;
          at_hand = has.at_hand;
          follows = λ term at same.
              let b : IsBehind heading current last next source = subst (IsBehind heading current last next) here (behind place source (omega (arith, reading.as_many))) in
              ⊎_elim (λ below. absurd (not_below_itself term (subst (λ (t : List ℕ). Below t term) same below))) (λ same'. same'.1) (rw at at b);
          few = λ entry whole.
              let Whole : Share → Type 0 = λ s. AreWhole s.heading s.entries in
              let weigh : Share → ℕ = λ s. position_total s.entries in
              let heading_of_share : Share → Heading = λ s. s.heading in
              let h : heading source ≡ share.heading =
              sym (ap heading here) ∙ is.same ∙ sym is.headed ∙ ap heading_of_share there in
              let whole' : Whole (grown share entry) = subst (λ (x : Heading). AreWhole x (share.entries ++ entry ∷ [])) h whole in
              let shares' : List Share = set shares place (grown share entry) in
              let all : All Whole shares' = All-set Whole shares place (grown share entry) whole' (are_shares heading current yields gives lawfully begun now shares reading).whole in
              let most = few_in_all shares' all in
              let same : map heading_of_share shares' ≡ map heading begun =
              map-set_same heading_of_share shares place (grown share entry) share (sym (ap heading_of_share there)) ∙ headed_alike heading current yields gives lawfully begun now shares reading in
              let tokens : tokens_under (map heading_of_share shares') ≡ tokens_under (map heading begun) = ap tokens_under same in
              let a : sum_by weigh shares' + weigh (get_or shares place share) ≡ sum_by weigh shares + weigh (grown share entry) = sum_by-set weigh shares place (grown share entry) share (omega (arith, reading.shared)) in
              let b : weigh (get_or shares place share) ≡ weigh share = ap weigh there in
              let c : weigh (grown share entry) ≡ weigh share + position_total (entry ∷ []) = sum_by-append (λ (x : DictionaryEntry). position_count x.postings) share.entries (entry ∷ []) in
              let f : position_total (entry ∷ []) ≡ position_count entry.postings = omega arith in
              omega (arith, a, b, c, f, tokens, most, has.merged.counted);
        }
