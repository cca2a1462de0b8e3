use Rattle.std.proofs.Common.{◌≡◌, ◌+◌, ◌++◌, ◌∷◌, [], List, ℕ, drop, map, get_or, sym, rules}
use Rattle.std.proofs.lemmas.List.{drop_more, drop_all}
use Rattle.std.proofs.lemmas.Str.{IsUtf8-string_bytes}
use Rattle.std.specs.Bool.{MatchBool}
use Rattle.std.specs.Prelude.{string_bytes, None}
use Rattle.std.specs.Str.Pattern.{FindsText, FindsTextPrefix, FindsTextSuffix, HasSuffixMatch, SplitsAroundMatch, StripsPrefix}
use Rattle.ix_gram.proofs.Splittings.{begins, goes_on, stuck, decided}
use Rattle.ix_gram.proofs.pattern.Pattern.matches.Goals as goal

pub loop-piece-init : goal.loop-piece-init
loop-piece-init c =
    let found : StripsPrefix (FindsTextPrefix c.as_str.result.now) c.args.term.now c.in-Some.rest.now = c.in-Some.ensures.cases in
    let stripped = rw c.as_str.ensures.value at found in
    (search rules, rw (← c.self.view_is, c.deref-piece-items.ensures.value) (begins _ _ _ _ stripped))

pub returns-in_default-split_once : goal.returns-in_default-split_once
returns-in_default-split_once c =
    let i : ℕ = c.loop-piece.piece-index in
    let pieces : List (List ℕ) = map string_bytes (drop (i + 1) c.deref-piece-items.result.now) ++ string_bytes c.self.inside.last ∷ [] in
    let here : get_or c.deref-piece-items.result.now i c.piece-item.result ≡ c.piece-item.result = sym c.piece-item.is in
    let next = drop_more c.deref-piece-items.result.now i c.piece-item.result c.loop-piece-test.true in
    let lacks : FindsText c.as_str-in-loop-piece.result.now c.loop-piece.rest.now None = c.in_default-split_once.ensures.cases in
    let missing = rw c.as_str-in-loop-piece.ensures.value at lacks in
    let tells = rw (next, here) at c.loop-piece.invariant.1 in
    (λ h. absurd (cc), λ h. absurd (stuck _ _ _ (string_bytes c.piece-item.result) pieces missing tells h))

pub loop-piece-preserved : goal.loop-piece-preserved
loop-piece-preserved c =
    let i : ℕ = c.loop-piece.piece-index in
    let here : get_or c.deref-piece-items.result.now i c.piece-item.result ≡ c.piece-item.result = sym c.piece-item.is in
    let next = drop_more c.deref-piece-items.result.now i c.piece-item.result c.loop-piece-test.true in
    let found : SplitsAroundMatch (FindsText c.as_str-in-loop-piece.result.now) c.loop-piece.rest.now c.in-Some-split_once.field-0-0.now c.in-Some-split_once.after.now = c.in-Some-split_once.ensures.cases in
    let split = rw c.as_str-in-loop-piece.ensures.value at found in
    let tells = rw (next, here) at c.loop-piece.invariant.1 in
    (search rules, goes_on _ _ _ (string_bytes c.piece-item.result) (map string_bytes (drop (i + 1) c.deref-piece-items.result.now)) _ c.in-Some-split_once.field-0-0.now _ split c.loop-piece.invariant.0 (IsUtf8-string_bytes c.piece-item.result) (search rules) tells)

pub returns : goal.returns
returns c =
    let done : drop c.loop-piece.piece-index c.deref-piece-items.result.now ≡ [] = drop_all _ _ c.loop-piece-test.false in
    let tells = rw done at c.loop-piece.invariant.1 in
    let ends : MatchBool c.ends_with.result (HasSuffixMatch (FindsTextSuffix c.as_str-2.result.now) c.loop-piece.rest.now) (FindsTextSuffix c.as_str-2.result.now c.loop-piece.rest.now None) = c.ends_with.ensures.cases in
    let last = rw c.as_str-2.ensures.value at ends in
    decided _ _ _ (string_bytes c.self.inside.last) _ c.loop-piece.invariant.0 last tells
