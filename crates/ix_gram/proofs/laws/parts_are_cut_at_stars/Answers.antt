use Rattle.std.proofs.Common.{◌∙◌, ap}
use Rattle.std.proofs.lemmas.List.Splits.{join_with_byte-slice_split}
use Rattle.std.specs.List.{slice_split}
use Rattle.ix_gram.specs.Patterns.{parts_of}
use Rattle.ix_gram.proofs.Cuts.{is_star, one_cut, starless_parts, some_part}
use Rattle.ix_gram.proofs.laws.parts_are_cut_at_stars.Goals as goal

pub returns-clause-cut : goal.returns-clause-cut
unfolding parts_of
returns-clause-cut c text = record {
  some_part = some_part text;
  joined = join_with_byte-slice_split 42 text;
  starless = starless_parts text;
}

pub returns-clause-only : goal.returns-clause-only
unfolding parts_of
returns-clause-only c text parts cut = one_cut parts cut.some_part cut.starless ∙ ap (slice_split is_star) cut.joined
