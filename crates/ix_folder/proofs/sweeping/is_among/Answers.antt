use Rattle.std.proofs.Common.{◌∙◌, refl, string_bytes, sym}
use Rattle.std.proofs.lemmas.Bool.Decides.{not_from_Decides}
use Rattle.std.proofs.lemmas.Slice.Eq.{bytes_eq-Decides}
use Rattle.ix_folder.proofs.Lists.{is_none, is_there, none_below_first, none_below_next}
use Rattle.ix_folder.proofs.sweeping.is_among.Goals as goal

pub loop-kept-init : goal.loop-kept-init
loop-kept-init c = none_below_first string_bytes c.args.names.now c.args.name.now

pub loop-kept-preserved : goal.loop-kept-preserved
loop-kept-preserved c = none_below_next string_bytes c.args.names.now c.args.name.now c.loop-kept.kept-index c.kept-item.result c.loop-kept-test.true c.kept-item.is
    (λ same. not_from_Decides _ (bytes_eq-Decides c.as_str.result.now c.args.name.now) (sym c.eq.ensures ∙ c.if-eq.false) (c.as_str.ensures.value ∙ same))
    c.loop-kept.invariant

pub returns-then-eq : goal.returns-then-eq
returns-then-eq c = (
  λ yes. is_there string_bytes c.args.names.now c.args.name.now c.loop-kept.kept-index c.kept-item.result c.loop-kept-test.true c.kept-item.is
      (sym c.as_str.ensures.value ∙ (bytes_eq-Decides c.as_str.result.now c.args.name.now).0 (sym c.eq.ensures ∙ c.if-eq.true)),
  λ among. refl,
)

pub returns : goal.returns
returns c = (λ wrong. cc, λ among. absurd (is_none string_bytes c.args.names.now c.args.name.now c.loop-kept.kept-index c.loop-kept-test.false c.loop-kept.invariant among))
