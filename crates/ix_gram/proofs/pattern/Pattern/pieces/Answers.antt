use Rattle.std.proofs.Common.{List, ℕ, subst}
use Rattle.std.proofs.lemmas.Str.{IsUtf8-string_bytes}
use Rattle.std.specs.Prelude.{All, IsUtf8, string_bytes}
use Rattle.ix_gram.proofs.PatternGrams.{all_texts}
use Rattle.ix_gram.proofs.pattern.Pattern.pieces.Goals as goal

pub returns-clause-texts : goal.returns-clause-texts
returns-clause-texts c =
    let P : List (List ℕ) → Type 0 = All IsUtf8 in
    subst P c.self.view_is (all_texts string_bytes IsUtf8-string_bytes c.self.inside.first c.self.inside.inner.items c.self.inside.last)
