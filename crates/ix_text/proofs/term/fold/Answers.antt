use Rattle.std.proofs.Common.{chars, sym, ◌∙◌}
use Rattle.unicode_normalization.proofs.IterLemmas.{Spells-chars}
use Rattle.ix_text.proofs.TermLemmas.{folding_in_form, folding_composed}
use Rattle.ix_text.proofs.term.fold.Goals as goal

pub returns-in-Yes : goal.returns-in-Yes
returns-in-Yes c =
    let in_form = c.is_nfc_quick.ensures.yes (chars c.as_str.result.now) (Spells-chars _ _ c.as_str.utf8 c.chars.ensures.rest) c.in-Yes.is in
    sym c.as_str.ensures.value
    ∙ folding_in_form c.args.text.now c.as_str.result.now c.as_str.utf8 (c.as_str.ensures.value ∙ c.in_ok-folded.ensures) in_form

pub returns-in-No : goal.returns-in-No
returns-in-No c =
    rw (← folding_composed c.args.text.now c.as_str-in-No.result.now c.as_str-in-No.utf8 (c.as_str-in-No.ensures.value ∙ c.in_ok-folded.ensures)) c.to_nfc.ensures
