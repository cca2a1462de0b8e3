-- The stop terms of the first source are those of all.
use Rattle.std.proofs.Common.{◌≡◌, ℕ, List, [], ◌∷◌, map, get_or, slice_get, Some, All, sym, ap, ◌∙◌}
use Rattle.std.proofs.lemmas.List.Elements.{Contains-get_or}
use Rattle.std.proofs.lemmas.Option.{none-some, same_Some}
use Rattle.ix_run.specs.Heads.{Heading}
use Rattle.ix_merge.specs.Refusals.{HaveOneStop}
use Rattle.ix_merge.proofs.Laying.{contains_now}
use Rattle.ix_merge.proofs.merge_sources.begin.Goals as goal

module _ {S : Type 0} (heading : S → Heading) (stop : List (List ℕ)) where
  all_have : (sources : List S) (source : S) → Some source ≡ slice_get sources 0 → stop ≡ (heading source).stop → HaveOneStop (map heading sources) → All (λ h. h.stop ≡ stop) (map heading sources)
  all_have [] source first same one = absurd (none-some source (sym first))
  all_have (s ∷ sources) source first same one =
      let here : (heading s).stop ≡ stop = ap (λ x. (heading x).stop) (same_Some s source (sym first)) ∙ sym same in
      λ k d within. one (get_or (map heading (s ∷ sources)) k d) (heading s) (Contains-get_or (map heading (s ∷ sources)) k d within) (contains_now (heading s) (map heading sources)) ∙ here

  some_there : (sources : List S) (source : S) → Some source ≡ slice_get sources 0 → map heading sources ≡ [] → ⊥
  some_there [] source first none = none-some source (sym first)
  some_there (s ∷ sources) source first none = absurd (cc none)

pub returns-in-Some-clause-told : goal.returns-in-Some-clause-told
returns-in-Some-clause-told g c = λ ready. record {
  stop = c.head.result.now.stop;
  same = all_have g.S.Source.heading c.head.result.now.stop c.args.sources.now c.in-Some.source.now c.in-Some.ensures.value (ap (λ (h : Heading). h.stop) c.head.ensures) c.requires.stop;
  none = λ empty. absurd (some_there g.S.Source.heading c.head.result.now.stop c.args.sources.now c.in-Some.source.now c.in-Some.ensures.value empty);
  was = c.begin-in-Some.ensures.told ready;
}
