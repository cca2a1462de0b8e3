use Rattle.std.proofs.Common.{arith, List, ℕ, Bor, slice_get, ap, refl, sym, ◌∙◌}
use Rattle.ix_lookup.proofs.FrontLemmas.{below_none}
use Rattle.ix_lookup.proofs.WordsLemmas.{first_text, sorted_texts, texts_kept}
use Rattle.ix_lookup.proofs.words.Words.new.Goals as goal

pub returns-clause-begun : goal.returns-clause-begun
returns-clause-begun c =
    let first = first_text c.sort_unstable.new.self.items c.copied.result _ c.unwrap_or-first.result refl (c.copied.ensures ∙ c.first.ensures.value ∙ ap (λ (ts : List (Bor (List ℕ))). slice_get ts 0) c.deref.ensures.value) c.unwrap_or-first.ensures in
    record {
      sorted = sorted_texts c.sort_unstable.new.self.items c.sort_unstable.ensures.sorted;
      passed = λ k before. absurd (omega arith);
      within = omega arith;
      next = λ left. record {
        text = c.at.ensures.text ∙ first;
        reached = c.at.ensures.at.below ∙ sym (below_none c.at.result.text.now);
        at = c.at.ensures.at;
      };
    }

pub returns-clause-wanted : goal.returns-clause-wanted
returns-clause-wanted c = λ term. texts_kept c.args.texts.items c.sort_unstable.new.self.items term c.sort_unstable.ensures.permutation
