use Rattle.std.proofs.Common.{◌≡◌, ◌++◌, List, ℕ, [], get_or, length, map, take, Bor, Vec, Global, sym, ap, ◌∙◌, subst, arith}
use Rattle.std.specs.Cmp.Lexicographic.{slice_cmp}
use Rattle.std.specs.Ordering.{nat_cmp}
use Rattle.ix_lookup.specs.TermOrder.{IsBelow}
use Rattle.ix_lookup.specs.Words.{HasPassed, IsAtTerm, texts_of}
use Rattle.ix_lookup.proofs.FrontLemmas.{lt_less}
use Rattle.ix_lookup.proofs.WordsLemmas.{arrives, passed_more, text_found}
use Rattle.ix_lookup.proofs.words.Words.advance.Goals as goal

pub loop-place-preserved : goal.loop-place-preserved
loop-place-preserved c =
    let term = take c.args.shared c.args.self.now.word.text.now ++ c.args.own.now in
    let texts = ap (λ (ts : Vec (Bor (List ℕ)) Global). ts.items) c.loop-place.invariant.texts in
    record {
      texts = c.loop-place.invariant.texts;
      before = λ passed within.
          let is : IsAtTerm c.follow.new.self term = c.follow.ensures.moved c.args.self.now.word.text.now c.at-self.ensures.at within in
          let less : IsBelow c.follow.new.self.text.now term = lt_less (slice_cmp nat_cmp c.follow.new.self.text.now term) (sym is.below ∙ c.if-not-self.false) in
          let found : c.index.result.now.now ≡ get_or (texts_of c.args.self.now) c.loop-place.place [] =
          text_found c.loop-place.self.texts.items c.loop-place.place c.index.result.now (omega (arith, ap length texts, c.len-place-end.ensures)) c.index.ensures
          ∙ ap (λ (ts : List (Bor (List ℕ))). get_or (map (λ (text : Bor (List ℕ)). text.now) ts) c.loop-place.place []) texts in
          let text : c.follow.new.self.text.now ≡ get_or (texts_of c.args.self.now) c.loop-place.place [] =
          ap (λ (text : Bor (List ℕ)). text.now) c.follow.ensures.text ∙ c.at-self.ensures.text ∙ found in
          passed_more (texts_of c.args.self.now) c.loop-place.place term (c.loop-place.invariant.before passed within) (subst (λ (t : List ℕ). IsBelow t term) text less);
    }

pub returns-then-not-self-clause-moved : goal.returns-then-not-self-clause-moved
returns-then-not-self-clause-moved c = λ sorted within passed.
    let term = take c.args.shared c.args.self.now.word.text.now ++ c.args.own.now in
    let texts = ap (λ (ts : Vec (Bor (List ℕ)) Global). ts.items) c.loop-place.invariant.texts in
    let found : c.index.result.now.now ≡ get_or (texts_of c.args.self.now) c.loop-place.place [] =
    text_found c.loop-place.self.texts.items c.loop-place.place c.index.result.now (omega (arith, ap length texts, c.len-place-end.ensures)) c.index.ensures
    ∙ ap (λ (ts : List (Bor (List ℕ))). get_or (map (λ (text : Bor (List ℕ)). text.now) ts) c.loop-place.place []) texts in
    arrives c.args.self.now _ term c.loop-place.invariant.texts sorted (c.loop-place.invariant.before passed within) (omega (arith, c.len-place-end.ensures))
    (λ left. record {
      text = ap (λ (text : Bor (List ℕ)). text.now) c.follow.ensures.text ∙ c.at-self.ensures.text ∙ found;
      reached = c.if-not-self.true;
      at = c.follow.ensures.moved c.args.self.now.word.text.now c.at-self.ensures.at within;
    })

pub returns-clause-moved : goal.returns-clause-moved
returns-clause-moved c = λ sorted within passed.
    let term = take c.args.shared c.args.self.now.word.text.now ++ c.args.own.now in
    let texts = ap (λ (ts : Vec (Bor (List ℕ)) Global). ts.items) c.loop-place.invariant.texts in
    let count = ap length texts in
    let place : c.loop-place.place ≡ c.len-self.result = omega (arith, count, c.len-place-end.ensures, c.len-self.ensures) in
    arrives c.args.self.now _ term c.loop-place.invariant.texts sorted (subst (λ k. HasPassed (texts_of c.args.self.now) k term) place (c.loop-place.invariant.before passed within)) (omega (arith, count, c.len-self.ensures))
    (λ left. absurd (omega (arith, left, count, c.len-self.ensures)))
