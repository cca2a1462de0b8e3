use Rattle.std.proofs.Common.{◌≡◌, refl, ◌∙◌, rules}
use Rattle.std.specs.Prelude.{string_bytes, None, Some}
use Rattle.ix_text.specs.Terms.{term_of_word}
use Rattle.ix_gram.specs.Patterns.{pieces_of}
use Rattle.ix_gram.proofs.Cuts.{pieces_split, one_more_piece}
use Rattle.ix_gram.proofs.pattern.Pattern.read.Goals as goal

pub returns-in_default-clause-no_star : goal.returns-in_default-clause-no_star
returns-in_default-clause-no_star c =
    let starless = pieces_split c.args.text.now None c.in_default.ensures.cases in
    (λ _. starless.0, λ _. refl)

pub returns-in_default-clause-bare_star : goal.returns-in_default-clause-bare_star
returns-in_default-clause-bare_star c =
    let starless = pieces_split c.args.text.now None c.in_default.ensures.cases in
    (λ e. absurd (cc), λ h. absurd (starless.0 h.0))

pub loop-piece-init : goal.loop-piece-init
loop-piece-init c =
    let split = pieces_split c.args.text.now (Some (c.in-Some.first, c.in-Some.rest)) c.in-Some.ensures.cases in
    (search rules, rw (c.new-inner.ensures.items, c.in_ok-first.ensures) split.1)

pub loop-piece-preserved : goal.loop-piece-preserved
loop-piece-preserved c =
    let split = pieces_split c.loop-piece.rest.now (Some (c.in-Some-split_once.piece, c.in-Some-split_once.after)) c.in-Some-split_once.ensures.cases in
    let made : string_bytes c.in_ok-term_of.field-0 ≡ term_of_word c.in-Some-split_once.piece.now = c.in_ok-term_of.ensures in
    let more = one_more_piece string_bytes c.loop-piece.inner.items c.in_ok-term_of.field-0 (pieces_of c.in-Some-split_once.after.now) in
    (search rules, rw c.in_ok-push.ensures.items (c.loop-piece.invariant.1 ∙ rw (split.1, ← made, more) refl))

pub returns-clause-pieces : goal.returns-clause-pieces
returns-clause-pieces c =
    let split = pieces_split c.loop-piece.rest.now None c.in_default-split_once.ensures.cases in
    rw (c.loop-piece.invariant.1, split.1, ← c.in_ok-last.ensures) refl
