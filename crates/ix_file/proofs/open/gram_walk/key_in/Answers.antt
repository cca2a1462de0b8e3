use Rattle.std.proofs.Common.{sym, subst, ◌∙◌, IsUtf8}
use Rattle.ix_file.specs.GramWalks.{IsNoGram}
use Rattle.ix_file.specs.OpenedGrams.{gram_in}
use Rattle.ix_file.proofs.GramReading.{term_characters}
use Rattle.ix_file.proofs.GramTexts.{gram_is_text}
use Rattle.ix_file.proofs.GramWindows.{if_none}
use Rattle.ix_file.proofs.open.gram_walk.key_in.Goals as goal

pub returns-in_default-clause-none : goal.returns-in_default-clause-none
returns-in_default-clause-none c terms number texts of =
    let text = gram_is_text (gram_in c.args.section.now c.args.row).gram (term_characters terms (gram_in c.args.section.now c.args.row).gram number texts of) in
    c.in_default.ensures.cases.0 (subst IsUtf8 (sym c.gram_bytes.ensures) text.text)

pub returns-in_err-gram-clause-none : goal.returns-in_err-gram-clause-none
returns-in_err-gram-clause-none c =
    let none : IsNoGram (gram_in c.args.section.now c.args.row).gram = λ terms number texts of.
    let h = term_characters terms (gram_in c.args.section.now c.args.row).gram number texts of in
    c.in_err-gram.ensures.none (record { first = h.pair.first; second = h.pair.second; third = h.pair.third }) (h.spelled ∙ sym (c.in-Ok.ensures.cases.0 ∙ c.gram_bytes.ensures)) in
    if_none _ none
