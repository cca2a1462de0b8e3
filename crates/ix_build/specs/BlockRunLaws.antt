-- A maker of blocks stays one, by what stays of it from call to call.
use Rattle.std.proofs.Common.{◌≡◌, ℕ, List, [], ◌++◌, length, All, refl, sym, ap, subst, ◌∙◌, arith}
use Rattle.std.proofs.lemmas.List.{append-nil, append_assoc, drop_all, drop_at}
use Rattle.std.proofs.lemmas.List.Elements.{All-nil, All-append}
use Rattle.ix_build.specs.declared.block_maker.BlockMaker.{BlockMaker}
use Rattle.ix_pool.specs.declared.maker.Asked.{Asked}
use Rattle.ix_pool.specs.Shares.{gained}
use Rattle.ix_build.specs.BlockRuns.{RefusesNoBlock, StaysMakerOf}

pub stays_itself : {V : Type 0} (maker : BlockMaker V) → StaysMakerOf maker maker
stays_itself maker =
    let askings = maker.asked.items in
    let none : gained askings askings ≡ [] = drop_all (length askings) askings (omega arith) in
    record {
      docs = refl;
      stop = refl;
      bounds = refl;
      grown = sym (ap (λ (l : List Asked). askings ++ l) none ∙ append-nil askings);
      none_refused = subst (All (RefusesNoBlock maker.bounds.now)) (sym none) (All-nil (RefusesNoBlock maker.bounds.now));
    }

-- what a list has gained twice is what it gained first and what it gained then
gained_twice : (first second third : List Asked) → second ≡ first ++ gained first second → third ≡ second ++ gained second third → gained first third ≡ gained first second ++ gained second third
gained_twice first second third one two =
    let both = gained first second ++ gained second third in
    ap (gained first) (two ∙ ap (λ (l : List Asked). l ++ gained second third) one ∙ append_assoc first (gained first second) (gained second third))
    ∙ drop_at first both (length first) refl

pub stays_on : {V : Type 0} (first second third : BlockMaker V) → StaysMakerOf first second → StaysMakerOf second third → StaysMakerOf first third
stays_on first second third one two =
    let a = first.asked.items in
    let b = second.asked.items in
    let c = third.asked.items in
    let both = gained_twice a b c one.grown two.grown in
    let P = RefusesNoBlock first.bounds.now in
    record {
      docs = two.docs ∙ one.docs;
      stop = two.stop ∙ one.stop;
      bounds = two.bounds ∙ one.bounds;
      grown =
          two.grown ∙ ap (λ (l : List Asked). l ++ gained b c) one.grown ∙ append_assoc a (gained a b) (gained b c) ∙ ap (λ (l : List Asked). a ++ l) (sym both);
      none_refused =
          subst (All P) (sym both)
          (All-append P (gained a b) (gained b c) one.none_refused (subst (λ (bounds : List ℕ). All (RefusesNoBlock bounds) (gained b c)) one.bounds two.none_refused));
    }
