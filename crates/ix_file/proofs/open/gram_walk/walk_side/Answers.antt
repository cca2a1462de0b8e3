use Rattle.std.proofs.Common.{◌≤◌, ◌<◌, ◌^◌, [], length, inl, inr, ⊎_elim, arith}
use Rattle.std.proofs.lemmas.List.{length-map, take_at}
use Rattle.std.proofs.lemmas.Result.{err_from_is_err_and}
use Rattle.ix_file.specs.GramWalks.{AreWalked}
use Rattle.ix_file.specs.PlacedTerms.{terms_in}
use Rattle.ix_file.proofs.GramWalking.{all_at_end, all_walked, walked_none}
use Rattle.ix_file.proofs.PlacedLemmas.{text_of}
use Rattle.ix_file.proofs.open.gram_walk.walk_side.Goals as goal

pub returns-in_err-cursors-clause-refused : goal.returns-in_err-cursors-clause-refused
returns-in_err-cursors-clause-refused c =
    let p = err_from_is_err_and c.from_residual.result c.from_residual.ensures.1 in
    rw (p.1, p.2)
    (⊎_elim inl (λ no. inr (λ on. no (terms_in c.args.terms.now) c.len-count.ensures.texts (λ k d low. (on.each k d low).right))) c.in_err-cursors.ensures.refused)

pub loop-number-init : goal.loop-number-init
loop-number-init c = walked_none c.args.side (terms_in c.args.terms.now) c.args.section.now c.args.rows.now _ c.requires.ascending (c.in_ok-cursors.ensures.found c.args.side (terms_in c.args.terms.now) c.requires.on)

pub returns-then-not-take_term-clause-refused : goal.returns-then-not-take_term-clause-refused
returns-then-not-take_term-clause-refused c =
    let terms = terms_in c.args.terms.now in
    let walked : AreWalked c.args.side terms c.args.section.now c.args.rows.now c.loop-number.number [] c.deref_mut.result.now = rw c.deref_mut.ensures.value c.loop-number.invariant in
    inr (rw c.if-not-take_term.true at (c.take_term.ensures terms c.args.section.now c.args.rows.now c.text.ensures walked))

pub loop-number-preserved : goal.loop-number-preserved
loop-number-preserved c =
    let terms = terms_in c.args.terms.now in
    let walked : AreWalked c.args.side terms c.args.section.now c.args.rows.now c.loop-number.number [] c.deref_mut.result.now = rw c.deref_mut.ensures.value c.loop-number.invariant in
    rw (take_at c.take_term.new.cursors _ c.loop-number.cursors.len (omega arith))
    (rw c.if-not-take_term.false at (c.take_term.ensures terms c.args.section.now c.args.rows.now c.text.ensures walked))

pub returns-then-not-are_at_end-clause-refused : goal.returns-then-not-are_at_end-clause-refused
returns-then-not-are_at_end-clause-refused c =
    let end : length (terms_in c.args.terms.now) ≤ c.loop-number.number = omega (arith, c.loop-number-test.false, c.len-count.ensures.count, length-map c.args.terms.now text_of) in
    let told = rw c.deref-2.ensures.value at c.are_at_end.ensures in
    inr
    (λ on.
    let t = told.1 (all_at_end c.args.side (terms_in c.args.terms.now) c.args.section.now c.args.rows.now c.loop-number.number c.loop-number.cursors.items c.loop-number.invariant end on) in
    let f = c.if-not-are_at_end.true in
    absurd cc)

pub returns-clause-found : goal.returns-clause-found
returns-clause-found c =
    let end : length (terms_in c.args.terms.now) ≤ c.loop-number.number = omega (arith, c.loop-number-test.false, c.len-count.ensures.count, length-map c.args.terms.now text_of) in
    let few : length (terms_in c.args.terms.now) < 2 ^ 32 = omega (arith, c.requires.few, length-map c.args.terms.now text_of) in
    let told = rw c.deref-2.ensures.value at c.are_at_end.ensures in
    all_walked c.args.side (terms_in c.args.terms.now) c.args.section.now c.args.rows.now c.loop-number.number c.loop-number.cursors.items c.loop-number.invariant end few c.requires.lie (told.0 c.if-not-are_at_end.false)
