-- Blocks between bounds, which are small where all documents are.
use Rattle.std.proofs.Common.{◌≡◌, ℕ, ◌-◌, ◌^◌, ◌≤◌, List, length, map, take, drop, sym, ap, ◌∙◌, inl, inr, arith}
use Rattle.std.specs.Prelude.{slice_range, sum_by}
use Rattle.std.proofs.lemmas.List.{drop-map, length-drop, length-map, length-take, take-map}
use Rattle.std.proofs.lemmas.List.Sums.{sum_by-take-drop, sum_by-take-le}
use Rattle.ix_text.specs.Collections.{Document, NamedText, collection_of, token_total}
use Rattle.ix_text.specs.TokenLists.{token_list}
use Rattle.ix_run.specs.Runs.{IsTooLarge}

-- a part of what a map makes of a list is what it makes of the part
pub range-map : {X Y : Type 0} (f : X → Y) (xs : List X) (from to : ℕ) → slice_range (map f xs) from to ≡ map f (slice_range xs from to)
range-map f xs from to = ap (take (to - from)) (drop-map f from xs) ∙ take-map f (to - from) (drop from xs)

-- a part has no more in sum than the whole
sum_by-range-le : {X : Type 0} (weight : X → ℕ) (xs : List X) (from to : ℕ) → sum_by weight (slice_range xs from to) ≤ sum_by weight xs
sum_by-range-le weight xs from to =
    let part = sum_by-take-le weight (drop from xs) (to - from) in
    let rest = sum_by-take-drop weight xs from in omega (arith, part, rest)

length-range : {X : Type 0} (xs : List X) (from to : ℕ) → from ≤ to → to ≤ length xs → length (slice_range xs from to) ≡ to - from
length-range xs from to order within =
    let one = length-take (to - from) (drop from xs) in
    let two = length-drop from xs in omega (arith, one, two)

document : List (List ℕ) → NamedText → Document
document stop d = record { name = d.name; tokens = token_list stop d.text }

-- a block of few documents, which have few tokens, has a run
pub block_is_small : {X : Type 0} (stop : List (List ℕ)) (f : X → NamedText) (docs : List X) (from to : ℕ) → from ≤ to → to ≤ length docs → length docs ≤ 2 ^ 28 → token_total (collection_of stop (map f docs)) ≤ 2 ^ 28
    → IsTooLarge from (collection_of stop (map f (slice_range docs from to))) → ⊥
unfolding collection_of document
block_is_small stop f docs from to order within few few_tokens (inl numbers) =
    let part = slice_range docs from to in
    let size = length-range docs from to order within in
    let named = length-map part f in
    let told = length-map (map f part) (document stop) in omega (arith, numbers, size, named, told, few, within, order)
block_is_small stop f docs from to order within few few_tokens (inr tokens) =
    let weight : Document → ℕ = λ d. length d.tokens in
    let part = slice_range docs from to in
    let same : map (document stop) (map f part) ≡ slice_range (map (document stop) (map f docs)) from to = sym (range-map (document stop) (map f docs) from to ∙ ap (map (document stop)) (range-map f docs from to)) in
    let is = ap (sum_by weight) same in
    let less = sum_by-range-le weight (map (document stop) (map f docs)) from to in omega (arith, tokens, is, less, few_tokens)
