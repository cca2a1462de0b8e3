use Rattle.std.proofs.Common.{◌≡◌, get_or, sym, ap, ◌∙◌, arith}
use Rattle.ix_index_text.specs.Sections.{Plain, FrontCoded}
use Rattle.ix_index_text.proofs.TextLaws.{has_version_byte}
use Rattle.ix_index_text.proofs.laws.index_text_has_one_version.Goals as goal

pub returns : goal.returns
returns c = λ one other bytes p q.
    let e : 49 ≡ 50 = sym (has_version_byte Plain p.parts p.grams) ∙ ap (λ bytes. get_or bytes 7 0) (sym p.spelled ∙ q.spelled) ∙ has_version_byte FrontCoded q.parts q.grams in
    omega (arith, e)
