-- A query asks the same of a token list and of one with fewer terms, by its kinds, and so has the same scan.
use Rattle.std.proofs.Common.{◌≡◌, ◌↔◌, ℕ, ◌+◌, ◌<◌, inl, inr, List, Option, Some, length, get_or, slice_get, refl, sym, subst}
use Rattle.std.proofs.lemmas.Option.{get_or_from_slice_get, slice_get_within}
use Rattle.std.specs.Prelude.{All, Any, Contains}
use Rattle.ix_text.specs.Collections.{Collection, Document}
use Rattle.ix_text.specs.TokenLists.{Entry}
use Rattle.ix_text.proofs.CollectionTold.{same_default}
use Rattle.ix_query_text.specs.declared.tree.Tree.{Tree}
use Rattle.ix_query_text.specs.declared.tree.Tree.TheVariants.{Phrase, Near, Pattern, And, Or, Not}
use Rattle.ix_query.specs.Satisfaction.{AreNear, HasMatch, HasPhrase, Satisfies, StandsAt}
use Rattle.ix_query.specs.Scans.{IsScan, SatisfiesAt}
use Rattle.ix_query.proofs.SatisfactionLemmas.{satisfies-Phrase, satisfies-Near, satisfies-Pattern, satisfies-And, satisfies-Or, satisfies-Not}
use Rattle.ix_projection.specs.Alike.{IsAlike, KeepsNamed, ScansAlike}
use Rattle.ix_projection.specs.Asked.{AsksAbout, KeepsAsked}
use Rattle.ix_projection.specs.Kept.{Test, kept_collection, kept_document, kept_tokens}
use Rattle.ix_projection.proofs.AskedLemmas.{asks-Phrase, asks-Near, asks-Pattern, asks-And, asks-Or, asks-Not}
use Rattle.ix_projection.proofs.KeptLemmas.{kept_numbered, numbered_kept, stands_kept}

-- facts that are equivalent to equivalent facts are equivalent
between : {A B C D : Type 0} → A ↔ B → B ↔ C → D ↔ C → A ↔ D
between f g h = (λ a. h.1 (g.0 (f.0 a)), λ d. f.1 (g.1 (h.0 d)))

contained_at : {X : Type 0} (xs : List X) (i : ℕ) (x : X) → slice_get xs i ≡ Some x → Contains xs x
contained_at xs i x at = (i, slice_get_within xs i x at, get_or_from_slice_get xs i x x at)

module _ (keeps : Test) (tokens : List Entry) where
  -- a term that the query asks about is at the same positions
  stands_alike : (query : Tree) → KeepsNamed keeps tokens query → (position : ℕ) (term : List ℕ) → AsksAbout term query → StandsAt tokens position term → StandsAt (kept_tokens keeps tokens) position term
  stands_alike query kept position term asked stands = (stands_kept keeps tokens position term).1 (stands, kept term position stands asked)

  stands_before : (position : ℕ) (term : List ℕ) → StandsAt (kept_tokens keeps tokens) position term → StandsAt tokens position term
  stands_before position term stands = ((stands_kept keeps tokens position term).0 stands).0

  phrase_alike : (parts : List (Option (List ℕ))) → KeepsNamed keeps tokens (Phrase parts) → HasPhrase (kept_tokens keeps tokens) parts ↔ HasPhrase tokens parts
  phrase_alike parts kept = (
    λ h. (h.0, λ i term at. stands_before (h.0 + i) term (h.1 i term at)),
    λ h. (h.0, λ i term at. stands_alike (Phrase parts) kept (h.0 + i) term ((asks-Phrase term parts).1 (contained_at parts i (Some term) at)) (h.1 i term at)),
  )

  near_alike : (first second : List ℕ) (limit : ℕ) → KeepsNamed keeps tokens (Near first second limit) → AreNear (kept_tokens keeps tokens) first second limit ↔ AreNear tokens first second limit
  near_alike first second limit kept = (
    λ h. let (p, q, one, other, apart, close) = h in (p, q, stands_before p first one, stands_before q second other, apart, close),
    λ h.
        let (p, q, one, other, apart, close) = h in
        let whole = Near first second limit in
        (p, q, stands_alike whole kept p first ((asks-Near first first second limit).1 (inl refl)) one, stands_alike whole kept q second ((asks-Near second first second limit).1 (inr refl)) other, apart, close),
  )

  match_alike : (pieces : List (List ℕ)) → KeepsNamed keeps tokens (Pattern pieces) → HasMatch (kept_tokens keeps tokens) pieces ↔ HasMatch tokens pieces
  match_alike pieces kept = (
    λ h. let (position, term, stands, matches) = h in (position, term, stands_before position term stands, matches),
    λ h.
        let (position, term, stands, matches) = h in
        (position, term, stands_alike (Pattern pieces) kept position term ((asks-Pattern term pieces).1 matches) stands, matches),
  )

  -- a part of a query that asks about each term that the part asks about
  part_alike : (whole : Tree) (parts : List Tree) → ((term : List ℕ) → Any (AsksAbout term) parts → AsksAbout term whole) → All IsAlike parts → KeepsNamed keeps tokens whole
      → (k : ℕ) (part : Tree) → k < length parts → get_or parts k part ≡ part → Satisfies (kept_tokens keeps tokens) part ↔ Satisfies tokens part
  part_alike whole parts asks alike kept k part below is =
      let one : IsAlike part = subst IsAlike is (alike k part below) in
      one.asks keeps tokens (λ term position stands asked. kept term position stands (asks term (k, part, below, is, asked)))

  all_alike : (parts : List Tree) → All IsAlike parts → KeepsNamed keeps tokens (And parts) → All (Satisfies (kept_tokens keeps tokens)) parts ↔ All (Satisfies tokens) parts
  all_alike parts alike kept =
      let at = λ (k : ℕ) (d : Tree) (below : k < length parts).
      part_alike (And parts) parts (λ term. (asks-And term parts).1) alike kept k (get_or parts k d) below (same_default parts k (get_or parts k d) d below) in
      (λ all k d below. (at k d below).0 (all k d below), λ all k d below. (at k d below).1 (all k d below))

  one_alike : (parts : List Tree) → All IsAlike parts → KeepsNamed keeps tokens (Or parts) → Any (Satisfies (kept_tokens keeps tokens)) parts ↔ Any (Satisfies tokens) parts
  one_alike parts alike kept =
      let at = part_alike (Or parts) parts (λ term. (asks-Or term parts).1) alike kept in (
        λ any. let (k, part, below, is, holds) = any in (k, part, below, is, (at k part below is).0 holds),
        λ any. let (k, part, below, is, holds) = any in (k, part, below, is, (at k part below is).1 holds),
      )

  other_alike : (part : Tree) → IsAlike part → KeepsNamed keeps tokens (Not part) → ¬ (Satisfies (kept_tokens keeps tokens) part) ↔ ¬ (Satisfies tokens part)
  other_alike part alike kept =
      let same = alike.asks keeps tokens (λ term position stands asked. kept term position stands ((asks-Not term part).1 asked)) in
      (λ lacks h. lacks (same.1 h), λ lacks h. lacks (same.0 h))

-- ---- each kind of query

pub alike-Phrase : (parts : List (Option (List ℕ))) → IsAlike (Phrase parts)
alike-Phrase parts = record { asks = λ keeps tokens kept. between (satisfies-Phrase (kept_tokens keeps tokens) parts) (phrase_alike keeps tokens parts kept) (satisfies-Phrase tokens parts) }

pub alike-Near : (first second : List ℕ) (limit : ℕ) → IsAlike (Near first second limit)
alike-Near first second limit = record {
  asks = λ keeps tokens kept. between (satisfies-Near (kept_tokens keeps tokens) first second limit) (near_alike keeps tokens first second limit kept) (satisfies-Near tokens first second limit);
}

pub alike-Pattern : (pieces : List (List ℕ)) → IsAlike (Pattern pieces)
alike-Pattern pieces = record { asks = λ keeps tokens kept. between (satisfies-Pattern (kept_tokens keeps tokens) pieces) (match_alike keeps tokens pieces kept) (satisfies-Pattern tokens pieces) }

pub alike-And : (parts : List Tree) → All IsAlike parts → IsAlike (And parts)
alike-And parts alike = record { asks = λ keeps tokens kept. between (satisfies-And (kept_tokens keeps tokens) parts) (all_alike keeps tokens parts alike kept) (satisfies-And tokens parts) }

pub alike-Or : (parts : List Tree) → All IsAlike parts → IsAlike (Or parts)
alike-Or parts alike = record { asks = λ keeps tokens kept. between (satisfies-Or (kept_tokens keeps tokens) parts) (one_alike keeps tokens parts alike kept) (satisfies-Or tokens parts) }

pub alike-Not : (part : Tree) → IsAlike part → IsAlike (Not part)
alike-Not part alike = record { asks = λ keeps tokens kept. between (satisfies-Not (kept_tokens keeps tokens) part) (other_alike keeps tokens part alike kept) (satisfies-Not tokens part) }

-- ---- scans

module _ (keeps : Test) (collection : Collection) (query : Tree) (alike : IsAlike query) (kept : KeepsAsked keeps collection query) where
  document_alike : (number : ℕ) (document : Document) → slice_get collection.documents number ≡ Some document → Satisfies (kept_tokens keeps document.tokens) query ↔ Satisfies document.tokens query
  document_alike number document numbered =
      alike.asks keeps document.tokens (λ term position stands asked. kept term number position (record { document = document; numbered = numbered; entry = stands }) asked)

  satisfies_alike : (number : ℕ) → SatisfiesAt (kept_collection keeps collection) query number ↔ SatisfiesAt collection query number
  satisfies_alike number = (
    λ h.
        let (document, numbered, is) = numbered_kept keeps collection number h.document h.numbered in
        let here = subst (λ (d : Document). Satisfies d.tokens query) (sym is) h.satisfied in
        record { document = document; numbered = numbered; satisfied = (document_alike number document numbered).0 here },
    λ h. record {
      document = kept_document keeps h.document;
      numbered = kept_numbered keeps collection number h.document h.numbered;
      satisfied = (document_alike number h.document h.numbered).1 h.satisfied;
    },
  )

-- collections in which the same documents satisfy the query have the same scans
scan_moved : (one other : Collection) (query : Tree) (numbers : List ℕ) → ((number : ℕ) → SatisfiesAt one query number ↔ SatisfiesAt other query number) → IsScan one query numbers → IsScan other query numbers
scan_moved one other query numbers same is = record {
  ascending = is.ascending;
  exact = λ n. (λ has. (same n).0 ((is.exact n).0 has), λ h. (is.exact n).1 ((same n).1 h));
}

pub scans_alike : (query : Tree) → IsAlike query → ScansAlike query
scans_alike query alike = record {
  scans = λ keeps collection numbers kept.
      let same = satisfies_alike keeps collection query alike kept in (
        scan_moved (kept_collection keeps collection) collection query numbers same,
        scan_moved collection (kept_collection keeps collection) query numbers (λ n. ((same n).1, (same n).0)),
      );
}
