use Rattle.ix_query.proofs.answers.marks.Marks.mark.Goals as goal
use Rattle.std.proofs.Common.{◌*◌, ◌/◌, ◌%◌, ◌^◌, ◌<◌, bit_or, inl, inr, ◌∙◌, arith, length}
use Rattle.std.proofs.lemmas.List.{length-set}
use Rattle.ix_text.proofs.CollectionTold.{same_default}
use Rattle.ix_query.proofs.BitLemmas.{mark_more}

pub invariant_of-self : goal.invariant_of-self
invariant_of-self c =
    let inside : c.args.number / 64 < length c.args.self.now.words.items = let a = c.args.self.now.room in let b = c.if-number-self.true in omega arith in
    let long = length-set c.args.self.now.words.items (c.args.number / 64) (bit_or c.index_mut.result.now (1 * 2 ^ (c.args.number % 64) % 2 ^ 64)) in
    record {
      room = let a = c.args.self.now.room in omega arith;
      short = let a = c.args.self.now.short in omega arith;
      within = λ n marked. elim ((mark_more c.args.self.now.words.items c.args.number c.index_mut.result.now n inside (c.index_mut.ensures.value ∙ same_default c.args.self.now.words.items (c.args.number / 64) c.index_mut.result.now 0 inside)).0 marked) [
        | inl was ↦ c.args.self.now.within n was
        | inr same ↦ let below = c.if-number-self.true in omega arith
      ];
    }

pub returns-then-number-self-clause-marked : goal.returns-then-number-self-clause-marked
returns-then-number-self-clause-marked c = λ n.
    let inside : c.args.number / 64 < length c.args.self.now.words.items = let a = c.args.self.now.room in let b = c.if-number-self.true in omega arith in
    let told = mark_more c.args.self.now.words.items c.args.number c.index_mut.result.now n inside (c.index_mut.ensures.value ∙ same_default c.args.self.now.words.items (c.args.number / 64) c.index_mut.result.now 0 inside) in (
      λ marked. elim (told.0 marked) [ inl was ↦ inl was | inr same ↦ inr (same, c.if-number-self.true) ],
      λ h. told.1 (elim h [ inl was ↦ inl was | inr same ↦ inr same.0 ]),
    )
