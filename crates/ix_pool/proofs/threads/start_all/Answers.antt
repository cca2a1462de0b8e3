use Rattle.std.proofs.Common.{◌≡◌, ap, ◌∙◌, arith}
use Rattle.std.specs.Prelude.{Some}
use Rattle.std.proofs.lemmas.List.Elements.{All-pop}
use Rattle.ix_board.specs.Desks.{DeskView}
use Rattle.ix_pool.specs.declared.threads.Begun.{Begun}
use Rattle.ix_pool.proofs.ThreadLemmas.{one_started}
use Rattle.ix_pool.proofs.threads.start_all.Goals as goal

pub loop-maker-preserved : goal.loop-maker-preserved
loop-maker-preserved g c =
    let inv = c.loop-maker.invariant in
    let B = Begun g.row.M.Denot g.row.M-Piece.Denot in
    let promised = c.in-Ok.ensures.ok in
    let pushed = c.push_reserved.ensures in (
      one_started _ _ _ _ _ _ _ _ inv.0 c.in-Some.ensures.items pushed.items (ap (λ (b : B). b.maker.value) promised ∙ c.of.ensures),
      one_started _ _ _ _ _ _ _ _ inv.1 c.in-Some-pop.ensures.items pushed.items (ap (λ (b : B). b.desk.value) promised ∙ c.of-in-Some.ensures),
      (All-pop (λ (d : DeskView g.row.M-Piece.Denot). d.board ≡ c.args.board.now) c.loop-maker.desks.items c.pop-in-Some.new.self.items (Some c.in-Some-pop.desk) c.in-Some-pop.ensures.items inv.2).0,
      omega (arith, inv.3, c.in-Some.ensures.cases, c.in-Some-pop.ensures.cases),
      omega (arith, inv.4, c.in-Some.ensures.cases, pushed.len),
      omega (arith, inv.5, pushed.capacity),
      c.pop.ensures.capacity ∙ inv.6,
      c.pop-in-Some.ensures.capacity ∙ inv.7,
    )
