use Rattle.std.proofs.Common.{◌<◌, ◌∷◌, ◌++◌, ℕ, Vec, Global, [], map, length}
use Rattle.std.proofs.lemmas.Result.{IfOk-weaker}
use Rattle.std.specs.Prelude.{All, string_bytes}
use Rattle.ix_text.specs.Parts.{terms_of}
use Rattle.ix_gram.specs.Candidates.{AreCandidates, HasNoMatch}
use Rattle.ix_gram.specs.Expanding.{AreMatches}
use Rattle.ix_gram.proofs.Found.{ascending_lists, match_begins, match_low, no_matches}
use Rattle.ix_gram.proofs.expanding.expand.Goals as goal

pub returns-in_default-clause-matches : goal.returns-in_default-clause-matches
returns-in_default-clause-matches c =
    let none : HasNoMatch (terms_of c.args.index.now.parts.entries) c.args.pattern.now = rw c.in_default.is at c.in_ok-lists.ensures in
    rw c.new.ensures.items (no_matches (terms_of c.args.index.now.parts.entries) c.args.pattern.now none)

pub matches_in-requires-clause-complete : goal.matches_in-requires-clause-complete
matches_in-requires-clause-complete c number is =
    let pieces = c.pieces.result in
    (c.terms_from-range.ensures.exact number is.term is.numbered).0
    (match_begins (terms_of c.args.index.now.parts.entries) c.args.pattern.now pieces.0.now (map string_bytes pieces.1.now ++ pieces.2.now ∷ []) number c.pieces.ensures.value is)

pub returns-then-is_short-clause-within : goal.returns-then-is_short-clause-within
returns-then-is_short-clause-within c =
    let entries = c.args.index.now.parts.entries in
    IfOk-weaker c.matches_in.result (λ (found : Vec ℕ Global). AreMatches (terms_of entries) c.args.pattern.now found.items) (λ (found : Vec ℕ Global). All (λ n. n < length entries) found.items)
    (λ found are. match_low (λ entry. entry.term) entries c.args.pattern.now found.items are) c.matches_in.ensures

pub common_numbers-requires-clause-ascending : goal.common_numbers-requires-clause-ascending
common_numbers-requires-clause-ascending c =
    let all : All (AreCandidates (terms_of c.args.index.now.parts.entries) c.args.pattern.now) c.in-Some.lists.items = rw c.in-Some.is at c.in_ok-lists.ensures in
    ascending_lists (terms_of c.args.index.now.parts.entries) c.args.pattern.now c.in-Some.lists.items all

pub matches_among-requires : goal.matches_among-requires
matches_among-requires c =
    let all : All (AreCandidates (terms_of c.args.index.now.parts.entries) c.args.pattern.now) c.in-Some.lists.items = rw c.in-Some.is at c.in_ok-lists.ensures in
    rw c.deref-2.ensures.value (c.in_ok-numbers.ensures (terms_of c.args.index.now.parts.entries) c.args.pattern.now all)

pub returns-clause-within : goal.returns-clause-within
returns-clause-within c =
    let entries = c.args.index.now.parts.entries in
    IfOk-weaker c.matches_among.result (λ (found : Vec ℕ Global). AreMatches (terms_of entries) c.args.pattern.now found.items) (λ (found : Vec ℕ Global). All (λ n. n < length entries) found.items)
    (λ found are. match_low (λ entry. entry.term) entries c.args.pattern.now found.items are) c.matches_among.ensures
