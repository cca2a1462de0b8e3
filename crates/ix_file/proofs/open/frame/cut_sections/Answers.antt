use Rattle.std.proofs.Common.{◌<◌, [], length, sym, ap, ◌∙◌, arith}
use Rattle.std.proofs.lemmas.Grind.{common_steps}
use Rattle.std.proofs.lemmas.Bool.Decides.{nat_tests}
use Rattle.std.proofs.lemmas.List.{append-nil}
use Rattle.std.proofs.lemmas.Result.{err_from_is_err_and}
use Rattle.ix_file.specs.Frames.{eight}
use Rattle.ix_file.proofs.FrameReading.{first_of_cut}
use Rattle.ix_file.proofs.open.frame.cut_sections.Goals as goal

pub returns-in_err-stop-clause-refused : goal.returns-in_err-stop-clause-refused
returns-in_err-stop-clause-refused c =
    let p = err_from_is_err_and c.from_residual-in_err-stop.result c.from_residual-in_err-stop.ensures.1 in
    rw p.1
    (λ texts e f.
    let a = c.in_ok-postings.ensures in
    let one = first_of_cut _ _ _ _ _ texts.postings _ _ a.small a.found.0 a.found.1 e f in
    c.in_err-stop.ensures.refused texts.stop _ _ one.rest_is one.more_is)

pub returns-in_err-documents-clause-refused : goal.returns-in_err-documents-clause-refused
returns-in_err-documents-clause-refused c =
    let p = err_from_is_err_and c.from_residual-in_err-documents.result c.from_residual-in_err-documents.ensures.1 in
    rw p.1
    (λ texts e f.
    let a = c.in_ok-postings.ensures in
    let b = c.in_ok-stop.ensures in
    let one = first_of_cut _ _ _ _ _ texts.postings _ _ a.small a.found.0 a.found.1 e f in
    let two = first_of_cut _ _ _ _ _ texts.stop _ _ b.small b.found.0 b.found.1 one.rest_is one.more_is in
    c.in_err-documents.ensures.refused texts.documents _ _ two.rest_is two.more_is)

pub returns-in_err-dictionary-clause-refused : goal.returns-in_err-dictionary-clause-refused
returns-in_err-dictionary-clause-refused c =
    let p = err_from_is_err_and c.from_residual-in_err-dictionary.result c.from_residual-in_err-dictionary.ensures.1 in
    rw p.1
    (λ texts e f.
    let a = c.in_ok-postings.ensures in
    let b = c.in_ok-stop.ensures in
    let d = c.in_ok-documents.ensures in
    let one = first_of_cut _ _ _ _ _ texts.postings _ _ a.small a.found.0 a.found.1 e f in
    let two = first_of_cut _ _ _ _ _ texts.stop _ _ b.small b.found.0 b.found.1 one.rest_is one.more_is in
    let three = first_of_cut _ _ _ _ _ texts.documents _ _ d.small d.found.0 d.found.1 two.rest_is two.more_is in
    c.in_err-dictionary.ensures.refused texts.dictionary _ _ three.rest_is three.more_is)

pub returns-in_err-grams-clause-refused : goal.returns-in_err-grams-clause-refused
returns-in_err-grams-clause-refused c =
    let p = err_from_is_err_and c.from_residual-in_err-grams.result c.from_residual-in_err-grams.ensures.1 in
    rw p.1
    (λ texts e f.
    let a = c.in_ok-postings.ensures in
    let b = c.in_ok-stop.ensures in
    let d = c.in_ok-documents.ensures in
    let w = c.in_ok-dictionary.ensures in
    let one = first_of_cut _ _ _ _ _ texts.postings _ _ a.small a.found.0 a.found.1 e f in
    let two = first_of_cut _ _ _ _ _ texts.stop _ _ b.small b.found.0 b.found.1 one.rest_is one.more_is in
    let three = first_of_cut _ _ _ _ _ texts.documents _ _ d.small d.found.0 d.found.1 two.rest_is two.more_is in
    let four = first_of_cut _ _ _ _ _ texts.dictionary _ _ w.small w.found.0 w.found.1 three.rest_is three.more_is in
    c.in_err-grams.ensures.refused texts.grams [] [] (four.rest_is ∙ sym (append-nil texts.grams)) (four.more_is ∙ sym (append-nil (eight (length texts.grams)))))

pub returns-then-not-is_empty-clause-refused : goal.returns-then-not-is_empty-clause-refused
returns-then-not-is_empty-clause-refused c texts e f =
    let a = c.in_ok-postings.ensures in
    let b = c.in_ok-stop.ensures in
    let d = c.in_ok-documents.ensures in
    let w = c.in_ok-dictionary.ensures in
    let g = c.in_ok-grams.ensures in
    let one = first_of_cut _ _ _ _ _ texts.postings _ _ a.small a.found.0 a.found.1 e f in
    let two = first_of_cut _ _ _ _ _ texts.stop _ _ b.small b.found.0 b.found.1 one.rest_is one.more_is in
    let three = first_of_cut _ _ _ _ _ texts.documents _ _ d.small d.found.0 d.found.1 two.rest_is two.more_is in
    let four = first_of_cut _ _ _ _ _ texts.dictionary _ _ w.small w.found.0 w.found.1 three.rest_is three.more_is in
    let five = first_of_cut _ _ _ _ _ texts.grams [] [] g.small g.found.0 g.found.1 (four.rest_is ∙ sym (append-nil texts.grams)) (four.more_is ∙ sym (append-nil (eight (length texts.grams)))) in
    let some : 0 < length c.in_ok-grams.body.now = grind (arith, nat_tests, c.is_empty.ensures, c.if-not-is_empty.true) in
    omega (arith, some, ap length five.rest_is)

-- The check finds it too; with an answer a wrong body that falls here is refused sooner.
pub returns-clause-found : goal.returns-clause-found
returns-clause-found c = grind (arith, common_steps)
