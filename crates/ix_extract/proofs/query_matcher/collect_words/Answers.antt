use Rattle.std.proofs.Common.{◌↔◌, ◌⊎◌, ◌+◌, List, ℕ, Some, Bor, Contains, ap, sym, subst, take, ◌∙◌}
use Rattle.ix_extract.specs.Parts.{IsText}
use Rattle.ix_extract.proofs.SoughtLemmas.{all_taken, hole_more, word_more, words_none}
use Rattle.ix_extract.proofs.query_matcher.collect_words.Goals as goal
use Rattle.ix_extract.proofs.query_matcher.collect_words.Goals.{in-Some+in_ok-push, in_default}

pub loop-part-init : goal.loop-part-init
loop-part-init c = λ term. words_none c.args.words.now.items c.args.parts.now term

pub loop-part-preserved : goal.loop-part-preserved
loop-part-preserved c = λ term.
    let old = c.args.words.now.items in
    let words = c.loop-part.words.items in
    let P : List (Bor (List ℕ)) → Type 0 = λ texts. IsText texts term ↔ (IsText old term ⊎ Contains (take (c.loop-part.part-index + 1) c.args.parts.now) (Some term)) in
    elim c.match-part.branch [
      | in-Some+in_ok-push w ↦
          subst P (sym (ap (λ v. v.items) w.words-is))
          (word_more c.args.parts.now c.loop-part.part-index c.part-item.result c.loop-part-test.true c.part-item.is old words term (c.loop-part.invariant term) w.push.new.self.items w.as_str.result
          (w.in-Some.is ∙ ap (λ (t : List ℕ). Some t) (sym w.as_str.ensures)) w.in_ok-push.ensures.items)
      | in_default w ↦ subst P (sym (ap (λ v. v.items) w.words-is))
          (hole_more c.args.parts.now c.loop-part.part-index c.part-item.result c.loop-part-test.true c.part-item.is old words term (c.loop-part.invariant term) w.in_default.is)
    ]

pub returns : goal.returns
returns c = λ term.
    all_taken (λ parts. IsText c.loop-part.words.items term ↔ (IsText c.args.words.now.items term ⊎ Contains parts (Some term))) c.args.parts.now c.loop-part.part-index c.loop-part-test.false
    (c.loop-part.invariant term)
