use Rattle.std.proofs.Common.{All, sym, ◌∙◌, subst}
use Rattle.ix_text.specs.Collections.{IsNameByte}
use Rattle.ix_vbyte.proofs.Texts.{counted-apart}
use Rattle.ix_file.proofs.open.documents.read_name.Goals as goal

pub returns-then-not-is_unbroken-clause-refused : goal.returns-then-not-is_unbroken-clause-refused
returns-then-not-is_unbroken-clause-refused c name rest is e =
    let same = counted-apart c.in_ok-name.name.now name c.in_ok-name.rest.now rest (sym c.in_ok-name.ensures.found.1 ∙ e) in
    let unbroken = c.is_unbroken.ensures.1 (subst (All IsNameByte) (sym same.0) is.unbroken) in
    cc (unbroken, c.if-not-is_unbroken.true)
