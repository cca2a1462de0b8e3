use Rattle.std.proofs.Common.{List, ℕ, [], map, sym, ◌∙◌, subst, rules}
use Rattle.std.proofs.lemmas.List.Elements.{All-nil, All-same}
use Rattle.std.specs.Prelude.{All, Contains, string_bytes}
use Rattle.ix_text.specs.Parts.{terms_of}
use Rattle.ix_text.proofs.AscendingLists.{contains_map}
use Rattle.ix_gram.specs.Candidates.{AreCandidates}
use Rattle.ix_gram.proofs.PatternGrams.{first_tells, inner_tells, last_tells, more_candidates, no_candidate}
use Rattle.ix_gram.proofs.grams.gram_lists.Goals as goal

pub returns-then-not-branch : goal.returns-then-not-branch
returns-then-not-branch c =
    let pieces = c.pieces.result in
    let told = first_tells c.args.pattern.now pieces.0.now (map string_bytes pieces.1.now) pieces.2.now c.as_str.result.now c.pieces.ensures.value c.pieces.ensures.texts (c.as_str.ensures.value ∙ c.in_ok-front.ensures) in
    no_candidate (terms_of c.args.index.now.parts.entries) c.args.pattern.now c.as_str.result.now told (c.in_ok-add_lists.ensures.nowhere (search rules))

pub returns-then-not-branch-2 : goal.returns-then-not-branch-2
returns-then-not-branch-2 c =
    let pieces = c.pieces.result in
    let told = last_tells c.args.pattern.now pieces.0.now (map string_bytes pieces.1.now) pieces.2.now c.as_str-2.result.now c.pieces.ensures.value c.pieces.ensures.texts (c.as_str-2.ensures.value ∙ c.in_ok-back.ensures) in
    no_candidate (terms_of c.args.index.now.parts.entries) c.args.pattern.now c.as_str-2.result.now told (c.in_ok-add_lists-2.ensures.nowhere (search rules))

pub loop-piece-init : goal.loop-piece-init
loop-piece-init c =
    let terms : List (List ℕ) = terms_of c.args.index.now.parts.entries in
    let pieces = c.pieces.result in
    let first = first_tells c.args.pattern.now pieces.0.now (map string_bytes pieces.1.now) pieces.2.now c.as_str.result.now c.pieces.ensures.value c.pieces.ensures.texts (c.as_str.ensures.value ∙ c.in_ok-front.ensures) in
    let last = last_tells c.args.pattern.now pieces.0.now (map string_bytes pieces.1.now) pieces.2.now c.as_str-2.result.now c.pieces.ensures.value c.pieces.ensures.texts (c.as_str-2.ensures.value ∙ c.in_ok-back.ensures) in
    let P : List ℕ → Type 0 = AreCandidates terms c.args.pattern.now in
    let none : All P c.new-lists.result.items = All-same P c.new-lists.result.items [] c.new-lists.ensures.items (All-nil P) in
    let some : All P c.add_lists.new.lists.items = more_candidates terms c.args.pattern.now c.as_str.result.now c.new-lists.result.items c.add_lists.new.lists.items first (c.in_ok-add_lists.ensures.added (search rules)) none in
    more_candidates terms c.args.pattern.now c.as_str-2.result.now c.add_lists.new.lists.items c.add_lists-2.new.lists.items last (c.in_ok-add_lists-2.ensures.added (search rules)) some

pub returns-then-not-branch-3 : goal.returns-then-not-branch-3
returns-then-not-branch-3 c =
    let pieces = c.pieces.result in
    let inner : List (List ℕ) = map string_bytes pieces.1.now in
    let P : List ℕ → Type 0 = Contains inner in
    let has : Contains inner c.as_str-in-loop-piece.result.now = subst P (sym c.as_str-in-loop-piece.ensures.value)
    (contains_map string_bytes pieces.1.now c.piece-item.result (c.loop-piece.piece-index, c.loop-piece-test.true, sym c.piece-item.is)) in
    let told = inner_tells c.args.pattern.now pieces.0.now inner pieces.2.now c.as_str-in-loop-piece.result.now c.pieces.ensures.value c.pieces.ensures.texts has in
    no_candidate (terms_of c.args.index.now.parts.entries) c.args.pattern.now c.as_str-in-loop-piece.result.now told (c.in_ok-add_lists-3.ensures.nowhere (search rules))

pub loop-piece-preserved : goal.loop-piece-preserved
loop-piece-preserved c =
    let pieces = c.pieces.result in
    let inner : List (List ℕ) = map string_bytes pieces.1.now in
    let P : List ℕ → Type 0 = Contains inner in
    let has : Contains inner c.as_str-in-loop-piece.result.now = subst P (sym c.as_str-in-loop-piece.ensures.value)
    (contains_map string_bytes pieces.1.now c.piece-item.result (c.loop-piece.piece-index, c.loop-piece-test.true, sym c.piece-item.is)) in
    let told = inner_tells c.args.pattern.now pieces.0.now inner pieces.2.now c.as_str-in-loop-piece.result.now c.pieces.ensures.value c.pieces.ensures.texts has in
    more_candidates (terms_of c.args.index.now.parts.entries) c.args.pattern.now c.as_str-in-loop-piece.result.now c.loop-piece.lists.items c.add_lists-in-loop-piece.new.lists.items told (c.in_ok-add_lists-3.ensures.added (search rules)) c.loop-piece.invariant
