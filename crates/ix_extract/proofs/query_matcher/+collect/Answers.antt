use Rattle.std.proofs.Common.{◌↔◌, ◌⊎◌, Any}
use Rattle.std.proofs.lemmas.Result.{on_ok_weaker}
use Rattle.ix_query_text.specs.declared.tree.Tree.TheVariants as asks
use Rattle.ix_projection.specs.Asked.{AsksAbout}
use Rattle.ix_extract.specs.Parts.{IsSought}
use Rattle.ix_projection.proofs.AskedLemmas.{asks-Phrase, asks-Near, asks-Pattern, asks-And, asks-Or, asks-Not}
use Rattle.ix_extract.proofs.SoughtLemmas.{all_taken, asked_by, each_more, each_none, more_wanted, more_words, same_by, swapped, two_words}
use Rattle.ix_extract.proofs.query_matcher.+collect.Goals as goal

pub collect-returns-in-Phrase-clause-wanted : goal.collect-returns-in-Phrase-clause-wanted
collect-returns-in-Phrase-clause-wanted t c = λ term.
    on_ok_weaker c.collect_words.result
    (λ more. asked_by (asks.Phrase c.in-Phrase.parts) c.args.query.now term c.in-Phrase.is (asks-Phrase term c.in-Phrase.parts) (more_words c.args.words.now.items c.collect_words.new.words.items c.args.patterns.now term more))
    (rw c.as_slice.ensures at (c.collect_words.ensures term))

pub collect-returns-in_ok-push-in-Near-2-clause-wanted : goal.collect-returns-in_ok-push-in-Near-2-clause-wanted
collect-returns-in_ok-push-in-Near-2-clause-wanted t c = λ term.
    asked_by (asks.Near c.in-Near.first c.in-Near.second c.in-Near.distance) c.args.query.now term c.in-Near.is (asks-Near term c.in-Near.first c.in-Near.second c.in-Near.distance)
    (more_words c.args.words.now.items c.push-in-Near.new.self.items c.args.patterns.now term
    (rw (c.as_str.ensures, c.as_str-in-Near.ensures) at (two_words c.args.words.now.items c.push.new.self.items c.push-in-Near.new.self.items c.as_str.result c.as_str-in-Near.result term c.in_ok-push-in-Near.ensures.items c.in_ok-push-in-Near-2.ensures.items)))

pub collect-returns-in-Pattern-clause-wanted : goal.collect-returns-in-Pattern-clause-wanted
collect-returns-in-Pattern-clause-wanted t c = λ term.
    on_ok_weaker c.push-in-Pattern.result
    (λ more. asked_by (asks.Pattern c.in-Pattern.pattern) c.args.query.now term c.in-Pattern.is (asks-Pattern term c.in-Pattern.pattern)
    (same_by (more_wanted more) (swapped (c.match_pattern.ensures.wanted term)))) (c.push-in-Pattern.ensures.wanted term)

pub collect-returns-in-And-clause-wanted : goal.collect-returns-in-And-clause-wanted
collect-returns-in-And-clause-wanted t c = λ term.
    on_ok_weaker c.collect_each.result
    (λ more. asked_by (asks.And c.in-And.parts) c.args.query.now term c.in-And.is (asks-And term c.in-And.parts) more) (rw c.as_slice-in-And.ensures at (c.collect_each.ensures.wanted term))

pub collect-returns-in-Or-clause-wanted : goal.collect-returns-in-Or-clause-wanted
collect-returns-in-Or-clause-wanted t c = λ term.
    on_ok_weaker c.collect_each-in-Or.result
    (λ more. asked_by (asks.Or c.in-Or.parts) c.args.query.now term c.in-Or.is (asks-Or term c.in-Or.parts) more) (rw c.as_slice-in-Or.ensures at (c.collect_each-in-Or.ensures.wanted term))

pub collect-returns-in-Not-clause-wanted : goal.collect-returns-in-Not-clause-wanted
collect-returns-in-Not-clause-wanted t c = λ term.
    on_ok_weaker c.collect.result
    (λ more. asked_by (asks.Not c.in-Not.part) c.args.query.now term c.in-Not.is (asks-Not term c.in-Not.part) more) (rw c.get.ensures at (c.collect.ensures.wanted term))

pub collect_each-loop-part-init : goal.collect_each-loop-part-init
collect_each-loop-part-init t c = record { begun = c.requires.begun; wanted = each_none c.args.words.now.items c.args.patterns.now c.args.parts.now }

pub collect_each-loop-part-preserved : goal.collect_each-loop-part-preserved
collect_each-loop-part-preserved t c = record {
  begun = c.collect.ensures.begun;
  wanted = λ term. each_more c.args.parts.now c.loop-part.part-index c.part-item.result term c.loop-part-test.true c.part-item.is (c.loop-part.invariant.wanted term) (c.in_ok-collect.ensures.wanted term);
}

pub collect_each-returns-clause-wanted : goal.collect_each-returns-clause-wanted
collect_each-returns-clause-wanted t c = λ term.
    all_taken (λ parts. IsSought c.loop-part.words.items c.loop-part.patterns term ↔ (IsSought c.args.words.now.items c.args.patterns.now term ⊎ Any (AsksAbout term) parts)) c.args.parts.now
    c.loop-part.part-index c.loop-part-test.false (c.loop-part.invariant.wanted term)
