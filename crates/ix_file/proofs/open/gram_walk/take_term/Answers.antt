use Rattle.std.proofs.Common.{◌++◌, ◌∷◌, [], append_assoc, append-nil, ap, refl, subst, sym, ◌∙◌}
use Rattle.ix_file.specs.GramSides.{IsOn}
use Rattle.ix_file.specs.GramWalks.{AreWalked}
use Rattle.ix_file.proofs.GramWalking.{passed, term_walked, window_next}
use Rattle.ix_file.proofs.open.gram_walk.take_term.Goals as goal
use Rattle.ix_file.proofs.open.gram_walk.take_term.Goals.{else-has-via-else-has, else-has-via-then-has+else-not-take_key}

pub loop-gram-init : goal.loop-gram-init
loop-gram-init c = record {
  can = tt;
  ends = tt;
  seen = [];
  whole = rw (c.into_iter-gram-iterator.ensures.into_iter_gives, c.windows_of-gram-items.ensures) refl;
  holds = λ terms section rows at walked. walked;
}

pub loop-gram-preserved : goal.loop-gram-preserved
loop-gram-preserved c =
    let so_far = c.loop-gram.invariant in
    let gram = c.in-Some.gram in
    let key = c.key_of-key.ensures.key in
    record {
      can = tt;
      ends = tt;
      seen = so_far.seen ++ gram ∷ [];
      whole = append_assoc so_far.seen (gram ∷ []) _ ∙ ap (λ gs. so_far.seen ++ gs) (sym c.in-Some.ensures.steps) ∙ so_far.whole;
      holds = λ terms section rows at start.
          let walked = so_far.holds terms section rows at start in
          elim c.else-has.branch [
            | else-has-via-then-has+else-not-take_key w ↦
                let (among, is) = window_next terms c.args.number c.args.term.now so_far.seen _ gram _ c.utf8.term at so_far.whole c.in-Some.ensures.steps in
                let told = w.take_key.ensures c.args.side terms section rows so_far.seen gram c.args.term.now c.key_of-key.ensures.chars (sym key) (c.has.ensures.0 w.if-has.true) at among is walked in
                rw w.cursors-is (rw w.if-not-take_key.false at told)
            | else-has-via-else-has w ↦
                rw w.cursors-is
                (passed c.args.side terms section rows c.args.number so_far.seen c.loop-gram.cursors walked gram
                (λ on.
                let t = c.has.ensures.1 (subst (IsOn c.args.side) (sym key) on) in
                let f = w.if-has.false in
                absurd cc))
          ];
    }

pub returns-then-not-take_key : goal.returns-then-not-take_key
returns-then-not-take_key c = λ terms section rows at start.
    let so_far = c.loop-gram.invariant in
    let gram = c.in-Some.gram in
    let walked = so_far.holds terms section rows at start in
    let (among, is) = window_next terms c.args.number c.args.term.now so_far.seen _ gram _ c.utf8.term at so_far.whole c.in-Some.ensures.steps in
    let told = c.take_key.ensures c.args.side terms section rows so_far.seen gram c.args.term.now c.key_of-key.ensures.chars (sym c.key_of-key.ensures.key) (c.has.ensures.0 c.if-has.true) at among is walked in
    rw c.if-not-take_key.true at told

pub returns : goal.returns
returns c = λ terms section rows at start.
    let so_far = c.loop-gram.invariant in
    let all = sym (append-nil so_far.seen) ∙ ap (λ gs. so_far.seen ++ gs) (sym c.in-None.ensures.steps.0) ∙ so_far.whole in
    term_walked c.args.side terms section rows c.args.number c.loop-gram.cursors c.args.term.now c.utf8.term at
    (subst (λ seen. AreWalked c.args.side terms section rows c.args.number seen c.loop-gram.cursors) all (so_far.holds terms section rows at start))
