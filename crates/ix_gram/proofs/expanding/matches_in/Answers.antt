use Rattle.std.proofs.Common.{◌+◌, ◌<◌, ◌≤◌, ℕ, List, arith}
use Rattle.std.proofs.lemmas.Bool.{iff_false}
use Rattle.ix_text.specs.Parts.{terms_of}
use Rattle.ix_gram.proofs.Found.{IsNext, found_all, found_no, found_yes, next_of_range}
use Rattle.ix_gram.proofs.expanding.matches_in.Goals as goal
use Rattle.ix_gram.proofs.expanding.matches_in.Goals.{then-is_match+in_ok-push, else-is_match}

pub loop-number-preserved : goal.loop-number-preserved
loop-number-preserved c =
    let terms : List (List ℕ) = terms_of c.args.index.now.parts.entries in
    let x : ℕ = c.loop-number.number in
    let start : ℕ = c.args.numbers.start in
    let next : IsNext (λ n. (start ≤ n) × (n < x)) (λ n. (start ≤ n) × (n < x + 1)) x = next_of_range start x (omega arith) in
    elim c.if-is_match.branch [
      | then-is_match+in_ok-push w ↦
          rw (w.found-is, w.in_ok-push.ensures.items)
          (found_yes terms c.args.pattern.now _ _ x _ next (c.is_match.ensures.0 w.if-is_match.true) c.loop-number.invariant)
      | else-is_match w ↦
          rw w.found-is
          (found_no terms c.args.pattern.now _ _ x _ next (iff_false c.is_match.ensures w.if-is_match.false) c.loop-number.invariant)
    ]

pub returns : goal.returns
returns c =
    let start : ℕ = c.args.numbers.start in
    found_all (terms_of c.args.index.now.parts.entries) c.args.pattern.now (λ n. (start ≤ n) × (n < c.loop-number.number)) c.loop-number.found.items
    (λ n is. let inside = c.requires.complete n is in (inside.0, omega (arith, inside.1))) c.loop-number.invariant
