use Rattle.std.proofs.Common.{◌≡◌, ◌≤◌, All, List, inr, length, refl, string_bytes, subst, sym}
use Rattle.ix_lookup.specs.declared.found_term.FoundTerm.{FoundTerm}
use Rattle.ix_extract.specs.Assembled.{IsAssembled}
use Rattle.ix_extract.specs.ErrorsHandedUp.{error_of_lookup}
use Rattle.ix_extract.specs.Refusals.{IsReadFault}
use Rattle.ix_extract.proofs.ErrorLemmas.{handed_up, lookup_fault}
use Rattle.ix_extract.proofs.Projecting.{no_dictionary, projected, too_long}
use Rattle.ix_extract.proofs.extract.extract.Goals as goal

pub returns-in_err-found-clause-refused : goal.returns-in_err-found-clause-refused
returns-in_err-found-clause-refused g c =
    let contents = g.S.ReadAt.contents c.args.source.now in
    let given = c.in_err-found.field-0.0 in
    handed_up (λ error. error ≡ error_of_lookup given) (IsReadFault contents) c.from_residual.result c.from_residual.ensures.1
    (λ error is. lookup_fault contents given error is (λ malformed. no_dictionary contents c.args.trailer.now c.requires.trailer (c.in_err-found.ensures.refused malformed)))

pub returns-then-not-are_short-clause-refused : goal.returns-then-not-are_short-clause-refused
returns-then-not-are_short-clause-refused g c =
    inr (
      (_, refl),
      too_long (g.S.ReadAt.contents c.args.source.now) c.args.trailer.now (g.M.TermMatcher.wants c.args.matcher.now) c.in_ok-found.found.items c.requires.trailer c.in_ok-found.ensures.found
          (λ all.
          let short = c.are_short.ensures.1 (subst (All (λ (one : FoundTerm). length (string_bytes one.term) ≤ 255)) (sym c.as_slice.ensures.value) all) in
          cc (short, c.if-not-are_short.true)),
    )

pub returns-clause-extracted : goal.returns-clause-extracted
returns-clause-extracted g c = λ version collection has.
    projected (g.S.ReadAt.contents c.args.source.now) version collection c.args.trailer.now (g.M.TermMatcher.wants c.args.matcher.now) c.in_ok-found.found.items c.in_ok-text.text.items has c.requires.trailer
    c.in_ok-found.ensures.found c.in_ok-found.ensures.within
    (λ bytes known. subst (λ (fs : List FoundTerm). IsAssembled bytes c.args.trailer.now fs c.in_ok-text.text.items) c.as_slice-2.ensures.value (c.in_ok-text.ensures.assembled bytes known))
