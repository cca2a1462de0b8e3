use Rattle.std.proofs.Common.{◌≡◌, ◌≢◌, ◌<◌, ◌^◌, get_or, bit_and, refl, ap₂, ◌∙◌, arith}
use Rattle.ix_postings.specs.TokenMarks.{HoldsNumbers}
use Rattle.ix_text.proofs.CollectionTold.{same_default}
use Rattle.ix_postings.proofs.Marked.{share_bit, share_none}
use Rattle.ix_postings.proofs.token_marks.TokenMarks.meets.Goals as goal

pub returns-then-index-ne0 : goal.returns-then-index-ne0
unfolding HoldsNumbers
returns-then-index-ne0 c = λ one others holds its.
    let words = c.args.self.now.words.items in
    let other = c.args.other.now.words.items in
    let place = c.loop-place.place in
    let word : c.index.result.now ≡ get_or words place 0 = c.index.ensures ∙ same_default words place c.index.result.now 0 (omega arith) in
    let facing : c.index-in-loop-place.result.now ≡ get_or other place 0 = c.index-in-loop-place.ensures ∙ same_default other place c.index-in-loop-place.result.now 0 (omega arith) in
    let both : bit_and (get_or words place 0) (get_or other place 0) ≢ 0 = λ none. c.if-index-ne0.true (ap₂ bit_and word facing ∙ none) in
    let fits : get_or words place 0 < 2 ^ 64 = omega arith in
    (λ _. share_bit words other one others place both fits holds its, λ _. refl)

pub returns : goal.returns
unfolding HoldsNumbers
returns c = λ one others holds its.
    let none = share_none c.args.self.now.words.items c.args.other.now.words.items one others c.loop-place.place (omega arith) c.loop-place.invariant holds its in
    (λ h. absurd (cc h), λ shared. absurd (none shared))
