use Rattle.std.proofs.Common.{◌≡◌, ◌+◌, ℕ, List, take, get_or, sym, subst, arith}
use Rattle.std.proofs.lemmas.Bool.{iff_false}
use Rattle.std.proofs.lemmas.List.Elements.{Contains-get_or}
use Rattle.std.proofs.lemmas.List.{length-map, take_all, get_or_default}
use Rattle.std.specs.Prelude.{Contains}
use Rattle.ix_text.specs.Parts.{terms_of}
use Rattle.ix_gram.proofs.Ascending.{none_in_nil}
use Rattle.ix_gram.proofs.Found.{IsNext, found_all, found_no, found_none, found_yes, next_of_list}
use Rattle.ix_gram.proofs.expanding.matches_among.Goals as goal
use Rattle.ix_gram.proofs.expanding.matches_among.Goals.{then-is_match+in_ok-push, else-is_match}

pub is_match-requires : goal.is_match-requires
is_match-requires c =
    let entries = c.args.index.now.parts.entries in
    let low = c.requires.within _ (Contains-get_or c.args.numbers.now c.loop-number.number-index 0 c.loop-number-test.true) in
    omega (arith, low, length-map entries (λ entry. entry.term))

pub loop-number-init : goal.loop-number-init
loop-number-init c =
    rw c.new-found.ensures.items (found_none (terms_of c.args.index.now.parts.entries) c.args.pattern.now (Contains (take 0 c.args.numbers.now)) (λ n. none_in_nil n))

pub loop-number-preserved : goal.loop-number-preserved
loop-number-preserved c =
    let terms : List (List ℕ) = terms_of c.args.index.now.parts.entries in
    let i : ℕ = c.loop-number.number-index in
    let x : ℕ = get_or c.args.numbers.now i 0 in
    let next : IsNext (Contains (take i c.args.numbers.now)) (Contains (take (i + 1) c.args.numbers.now)) x =
    next_of_list c.args.numbers.now i x c.requires.ascending c.loop-number-test.true (get_or_default c.args.numbers.now i 0 x c.loop-number-test.true) in
    elim c.if-is_match.branch [
      | then-is_match+in_ok-push w ↦
          rw (w.found-is, w.in_ok-push.ensures.items)
          (found_yes terms c.args.pattern.now _ _ x _ next (c.is_match.ensures.0 w.if-is_match.true) c.loop-number.invariant)
      | else-is_match w ↦
          rw w.found-is
          (found_no terms c.args.pattern.now _ _ x _ next (iff_false c.is_match.ensures w.if-is_match.false) c.loop-number.invariant)
    ]

pub returns : goal.returns
returns c =
    let whole : take c.loop-number.number-index c.args.numbers.now ≡ c.args.numbers.now = take_all c.loop-number.number-index c.args.numbers.now c.loop-number-test.false in
    found_all (terms_of c.args.index.now.parts.entries) c.args.pattern.now (Contains (take c.loop-number.number-index c.args.numbers.now)) c.loop-number.found.items
    (λ n is. let P : List ℕ → Type 0 = λ xs. Contains xs n in subst P (sym whole) (c.requires.complete n is)) c.loop-number.invariant
